use Rattle.std.proofs.Common.{◌≡◌, ◌↔◌, ℕ, List, true, map}
use Rattle.std.proofs.lemmas.Result.{IfOk-weaker}
use Rattle.live_tests.specs.Neighbours.{tests_of}
use Rattle.proof_facts.specs.Exclusions.{Leads}
use Rattle.proof_facts.specs.Marks.{is_marked, LedTo, AreBefore}
use Rattle.proof_facts.proofs.Steps.{among_before, by_before}
use Rattle.proof_facts.proofs.floods.tests_before.Goals as goal

pub led_to-requires-clause-among : goal.led_to-requires-clause-among
led_to-requires-clause-among c = among_before c.requires.lists.0 c.args.lists.now c.requires.lists.1

pub returns-clause-marks : goal.returns-clause-marks
returns-clause-marks c =
    IfOk-weaker c.led_to.result (λ marks. (j : ℕ) → (is_marked marks.items j ≡ true) ↔ LedTo (map tests_of c.args.lists.now) c.args.test j)
    (λ marks. (pairs : List (ℕ × ℕ)) → AreBefore pairs c.args.lists.now → (j : ℕ) → (is_marked marks.items j ≡ true) ↔ Leads pairs j c.args.test)
    (λ marks same pairs are j. by_before pairs c.args.lists.now c.args.test j (is_marked marks.items j ≡ true) are (same j)) c.led_to.ensures.marks
