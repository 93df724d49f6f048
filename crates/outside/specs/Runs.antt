-- What reads items one by one, and may refuse one of them.
use Rattle.std.specs.Prelude.{List, [], ◌∷◌, Option, None, Some}

-- the state after one more item, where there was a state
abbrev pub step_after : {S W : Type 0} → (S → W → Option S) → Option S → W → Option S
step_after step None w = None
step_after step (Some s) w = step s w

-- the state after these items
abbrev pub run_by : {S W : Type 0} → (S → W → Option S) → Option S → List W → Option S
run_by step s [] = s
run_by step s (w ∷ ws) = run_by step (step_after step s w) ws
