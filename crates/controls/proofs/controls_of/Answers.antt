use Rattle.std.proofs.Common.{◌≡◌, ℕ, List, ◌++◌, ◌∙◌, map, ap, append_assoc}
use Rattle.soc_model.specs.declared.TestId.{TestId}
use Rattle.soc_model.specs.Chips.{soc_value}
use Rattle.plan_model.specs.Rules.{live_ids}
use Rattle.controls.specs.declared.Control.{Control}
use Rattle.controls.specs.Controls.{capture_of, controls, run_of, shift_of, tam_numbers}
use Rattle.controls.proofs.controls_of.Goals as goal

all_three : (ids : List TestId) (all a b : List ℕ) (runs first second : List Control) → runs ≡ map run_of ids → a ≡ all → b ≡ all → first ≡ runs ++ map shift_of a → second ≡ first ++ map capture_of b
    → second ≡ map run_of ids ++ (map shift_of all ++ map capture_of all)
all_three ids all a b runs first second is here there shifts captures =
    captures ∙ ap (λ (l : List Control). l ++ map capture_of b) shifts ∙ ap (λ (l : List Control). (l ++ map shift_of a) ++ map capture_of b) is
    ∙ ap (λ (l : List ℕ). (map run_of ids ++ map shift_of l) ++ map capture_of b) here
    ∙ ap (λ (l : List ℕ). (map run_of ids ++ map shift_of all) ++ map capture_of l) there
    ∙ append_assoc (map run_of ids) (map shift_of all) (map capture_of all)

pub returns : goal.returns
unfolding controls
returns c =
    let soc = soc_value c.args.soc.now in
    all_three (live_ids soc) (tam_numbers soc) c.deref.result.now c.deref-2.result.now c.in_ok-list.list.items c.push_shifts.new.list.items c.push_captures.new.list.items
    c.in_ok-list.ensures (c.deref.ensures.value ∙ c.in_ok-numbers.ensures) (c.deref-2.ensures.value ∙ c.in_ok-numbers.ensures) c.in_ok-push_shifts.ensures c.in_ok-push_captures.ensures
