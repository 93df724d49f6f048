-- From one cycle of a plan's own run to the next.
use Rattle.std.proofs.Common.{◌≡◌, ℕ, ◌+◌, Bool, false, List, refl, ap, sym, subst, ◌∙◌, arith, add-one, slice_index_or}
use Rattle.std.proofs.lemmas.List.FromFn.{get_or-map-range_with_len}
use Rattle.soc_model.specs.Chips.{SocValue}
use Rattle.plan_model.specs.Bounds.{sum_below}
use Rattle.plan_model.specs.Plans.{PlanValue, PlannedTest, planned}
use Rattle.plan_model.specs.Rules.{IsGoodAlone, bare_limits}
use Rattle.plan_model.specs.Runs.{Content, State, step, carried, run_with, state_at}
use Rattle.plan_model.proofs.TestsInGoodPlans.{apart}
use Rattle.bit_machine.specs.Chips.{ChipValue, at_first, carried_bits, chip_content, chip_tests, captures_at, right_loads_at, each_wire}
use Rattle.vector_lines.specs.Made.{made_content}
use Rattle.vector_lines.specs.Wires.{wires_of}
use Rattle.tester_vectors.proofs.SameDrive.{chains_within, step_same}
use Rattle.tester_commands.specs.RunCounts.{captures_in, right_loads_in}
use Rattle.tester_commands.specs.SteppedChips.{IsAfter}

-- a sum over one number more
one_more : (f : ℕ → ℕ) (n : ℕ) → sum_below f (n + 1) ≡ sum_below f n + f n
unfolding sum_below
one_more f n = rw add-one refl

-- one more cycle of a run
next_state : (content : Content) (tests : List PlannedTest) (c : ℕ) → state_at content tests (c + 1) ≡ step content tests (carried content tests c) c (state_at content tests c)
unfolding run_with
next_state content tests c = rw add-one refl

-- driven with the bits that the wires carry, a chip steps as the plan's own run does
driven_step : (soc : SocValue) (plan : PlanValue) (content : Content) (c : ℕ) (state : State) → IsGoodAlone soc plan →
    step content (planned soc plan) (λ w. slice_index_or (each_wire plan (carried content (planned soc plan) c)) w false) c state ≡ step content (planned soc plan) (carried content (planned soc plan) c) c state
driven_step soc plan content c state good =
    step_same content (planned soc plan) (wires_of plan) c (λ w. slice_index_or (each_wire plan (carried content (planned soc plan) c)) w false) (carried content (planned soc plan) c) state
    (chains_within soc plan (apart soc (bare_limits plan) plan good))
    (λ w less. get_or-map-range_with_len (carried content (planned soc plan) c) 0 (wires_of plan) w w false less (omega arith))

-- ---- the chip

-- a chip before any cycle
pub first_after : (soc : SocValue) (plan : PlanValue) (seed : ℕ) (chip : ChipValue) → chip ≡ at_first soc plan seed → IsAfter soc plan seed 0 chip
unfolding run_with sum_below
first_after soc plan seed chip is = subst (IsAfter soc plan seed 0) (sym is) (record { soc_is = refl; plan_is = refl; seed_is = refl; cycle_is = refl; state = refl; captures = refl; right_loads = refl })

-- what a cycle does to a chip, as `Chip::cycle` has it
pub record IsCycle (drive : List Bool) (old new : ChipValue) : Type 0 where
  pub soc : new.soc ≡ old.soc
  pub plan : new.plan ≡ old.plan
  pub seed : new.seed ≡ old.seed
  pub cycle : new.cycle ≡ old.cycle + 1
  pub state : new.state ≡ step (chip_content old) (chip_tests old) (λ w. slice_index_or drive w false) old.cycle old.state
  pub captures : new.captures ≡ old.captures + captures_at (chip_tests old) old.cycle
  pub right_loads : new.right_loads ≡ old.right_loads + right_loads_at (chip_content old) (chip_tests old) old.cycle old.state

-- the value of a chip after `c` cycles
abbrev run_value : SocValue → PlanValue → ℕ → ℕ → ChipValue
run_value soc plan seed c = record {
  soc = soc;
  plan = plan;
  seed = seed;
  cycle = c;
  state = state_at (made_content soc seed) (planned soc plan) c;
  captures = captures_in (planned soc plan) c;
  right_loads = right_loads_in (made_content soc seed) (planned soc plan) c;
}

value_is : (soc : SocValue) (plan : PlanValue) (seed c : ℕ) (chip : ChipValue) → IsAfter soc plan seed c chip → chip ≡ run_value soc plan seed c
value_is soc plan seed c chip is =
    ap (λ (v : SocValue). record { soc = v; plan = chip.plan; seed = chip.seed; cycle = chip.cycle; state = chip.state; captures = chip.captures; right_loads = chip.right_loads }) is.soc_is
    ∙ ap (λ (v : PlanValue). record { soc = soc; plan = v; seed = chip.seed; cycle = chip.cycle; state = chip.state; captures = chip.captures; right_loads = chip.right_loads }) is.plan_is
    ∙ ap (λ (v : ℕ). record { soc = soc; plan = plan; seed = v; cycle = chip.cycle; state = chip.state; captures = chip.captures; right_loads = chip.right_loads }) is.seed_is
    ∙ ap (λ (v : ℕ). record { soc = soc; plan = plan; seed = seed; cycle = v; state = chip.state; captures = chip.captures; right_loads = chip.right_loads }) is.cycle_is
    ∙ ap (λ (v : State). record { soc = soc; plan = plan; seed = seed; cycle = c; state = v; captures = chip.captures; right_loads = chip.right_loads }) is.state
    ∙ ap (λ (v : ℕ). record { soc = soc; plan = plan; seed = seed; cycle = c; state = state_at (made_content soc seed) (planned soc plan) c; captures = v; right_loads = chip.right_loads }) is.captures
    ∙ ap (λ (v : ℕ). record { soc = soc; plan = plan; seed = seed; cycle = c; state = state_at (made_content soc seed) (planned soc plan) c; captures = captures_in (planned soc plan) c; right_loads = v }) is.right_loads

from_run : (soc : SocValue) (plan : PlanValue) (seed c : ℕ) (new : ChipValue) → IsGoodAlone soc plan → IsCycle (carried_bits (run_value soc plan seed c)) (run_value soc plan seed c) new → IsAfter soc plan seed (c + 1) new
from_run soc plan seed c new good next = record {
  soc_is = next.soc;
  plan_is = next.plan;
  seed_is = next.seed;
  cycle_is = next.cycle;
  state = next.state ∙ driven_step soc plan (made_content soc seed) c (state_at (made_content soc seed) (planned soc plan) c) good ∙ sym (next_state (made_content soc seed) (planned soc plan) c);
  captures = next.captures ∙ sym (one_more (captures_at (planned soc plan)) c);
  right_loads = next.right_loads ∙ sym (one_more (λ c. right_loads_at (made_content soc seed) (planned soc plan) c (state_at (made_content soc seed) (planned soc plan) c)) c);
}

pub next_after : (soc : SocValue) (plan : PlanValue) (seed c : ℕ) (drive : List Bool) (old new : ChipValue) → IsGoodAlone soc plan → drive ≡ carried_bits old → IsCycle drive old new → IsAfter soc plan seed c old → IsAfter soc plan seed (c + 1) new
next_after soc plan seed c drive old new good driven next is =
    let now : IsCycle (carried_bits old) old new = subst (λ (bits : List Bool). IsCycle bits old new) driven next in
    from_run soc plan seed c new good (subst (λ (old : ChipValue). IsCycle (carried_bits old) old new) (value_is soc plan seed c old is) now)
