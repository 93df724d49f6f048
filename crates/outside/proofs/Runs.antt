-- What reads words one by one decides of each list of words.
use Rattle.std.proofs.Common.{◌≡◌, ◌⊎◌, inl, inr, ℕ, ◌≤◌, List, [], ◌∷◌, ◌++◌, length, Option, None, Some, refl, ◌∙◌, ap}
use Rattle.outside.specs.Words.{Word}
use Rattle.outside.specs.Grammars.{Viable}
use Rattle.outside.specs.Runs.{step_after, run_by}
use Rattle.outside.proofs.Refusals.{Decides}

pub run-none : {S W : Type 0} (step : S → W → Option S) (ws : List W) → run_by step None ws ≡ None
run-none step [] = refl
run-none step (w ∷ ws) = run-none step ws

pub run-append : {S W : Type 0} (step : S → W → Option S) (o : Option S) (a b : List W) → run_by step o (a ++ b) ≡ run_by step (run_by step o a) b
run-append step o [] b = refl
run-append step o (w ∷ a) b = run-append step (step_after step o w) a b

-- one item more
pub run-one_more : {S W : Type 0} (step : S → W → Option S) (o : Option S) (front : List W) (w : W) (s : S) → run_by step o front ≡ Some s → run_by step o (front ++ w ∷ []) ≡ step s w
run-one_more step o front w s read = run-append step o front (w ∷ []) ∙ ap (λ r. run_by step r (w ∷ [])) read

-- States with a step and an end, beside a grammar.
pub record Fits (whole : List Word → Type 0) (most : ℕ) (S X : Type 0) (step : S → Word → Option S) (end : S → Option X) (start : S) : Type 0 where
  pub viable : (s : S) (ws : List Word) → length ws ≤ most → run_by step (Some start) ws ≡ Some s → Viable whole ws
  pub stuck : (ws : List Word) → run_by step (Some start) ws ≡ None → Viable whole ws → ⊥
  pub whole_read : (s : S) (x : X) (ws : List Word) → run_by step (Some start) ws ≡ Some s → end s ≡ Some x → whole ws
  pub early : (s : S) (ws : List Word) → run_by step (Some start) ws ≡ Some s → end s ≡ None → whole ws → ⊥

-- they decide of each word, and of the end
pub run_decides : (whole : List Word → Type 0) (most : ℕ) (S X : Type 0) (step : S → Word → Option S) (end : S → Option X) (start : S) → Fits whole most S X step end start → Decides whole most S (λ s front. run_by step (Some start) front ≡ Some s)
run_decides whole most S X step end start fits = record { viable = λ s front few read. fits.viable s front few read; step = steps; end = ends }
  where
    steps : (s : S) (front : List Word) (w : Word) → run_by step (Some start) front ≡ Some s → ((next : S) × (run_by step (Some start) (front ++ w ∷ []) ≡ Some next)) ⊎ (Viable whole (front ++ w ∷ []) → ⊥)
    steps s front w read = by (step s w) (run-one_more step (Some start) front w s read)
      where
        by : (o : Option S) → run_by step (Some start) (front ++ w ∷ []) ≡ o → ((next : S) × (run_by step (Some start) (front ++ w ∷ []) ≡ Some next)) ⊎ (Viable whole (front ++ w ∷ []) → ⊥)
        by None none = inr (λ v. fits.stuck (front ++ w ∷ []) none v)
        by (Some next) goes = inl (next, goes)

    ends : (s : S) (ws : List Word) → run_by step (Some start) ws ≡ Some s → whole ws ⊎ (whole ws → ⊥)
    ends s ws read = by (end s) refl
      where
        by : (o : Option X) → end s ≡ o → whole ws ⊎ (whole ws → ⊥)
        by (Some x) is = inl (fits.whole_read s x ws read is)
        by None is = inr (λ g. fits.early s ws read is g)
