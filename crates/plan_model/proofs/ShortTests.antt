-- No test is longer than its part of the chip's work.
use Rattle.std.proofs.Common.{◌≡◌, ℕ, ◌+◌, ◌*◌, ◌≤◌, max, min, true, false, Bool, Some, List, length, map, refl, sym, ap, ◌∙◌, subst, arith, inl, inr}
use Rattle.std.specs.Prelude.{slice_get}
use Rattle.std.specs.List.{sum, count_by}
use Rattle.std.proofs.lemmas.Bool.{cases_Bool, leb-true}
use Rattle.std.proofs.lemmas.List.{length-replicate}
use Rattle.soc_model.specs.declared.Test.{Test}
use Rattle.soc_model.specs.declared.TheConstants.{WORK_MOST}
use Rattle.soc_model.specs.Chips.{ModuleValue, SocValue, LiveTest, is_live, live_tests}
use Rattle.soc_model.specs.Sizes.{IsWithinSize, test_work}
use Rattle.soc_model.proofs.Limits.{work-le, test_work-le}
use Rattle.plan_model.specs.declared.TheConstants.{START_MOST, PLAN_NUMBER_MOST}
use Rattle.plan_model.specs.Cells.{Cell, ChainValue, IsProper, is_loaded, is_read, in_length, out_length, chain_cells}
use Rattle.plan_model.specs.Operations.{SelfTest, ops_of}
use Rattle.plan_model.specs.Plans.{PlanValue, LimitsValue, PlannedTest, planned, planned_test, chains_of, operations_of, greatest, end_of}
use Rattle.plan_model.specs.Right.{IsAt}
use Rattle.plan_model.specs.Rules.{IsGood, Wrappers, Proper, Each, HasWrapper, HasProperCells, used_pairs}
use Rattle.plan_model.proofs.ChainLengths.{mode_flops, time_within}
use Rattle.plan_model.proofs.Greatest.{greatest-least}
use Rattle.plan_model.proofs.Lists.{from_filter}
use Rattle.plan_model.proofs.LowerTimes.{Counts, if_so, loaded_counts, read_counts, total-is}
use Rattle.plan_model.proofs.OperationCounts.{ops_length}
use Rattle.plan_model.proofs.PlannedTests.{IsLive, live_at, Origin, origin, Wrapped, wrapped_by}
use Rattle.plan_model.proofs.Sums.{item-le-sum_by}

-- a live test has a pattern
pub live_patterns : (soc : SocValue) (i : ℕ) (l : LiveTest) → slice_get (live_tests soc) i ≡ Some l → 1 ≤ l.test.patterns
live_patterns soc i l at =
    let o : IsLive soc.modules 0 l = live_at soc.modules 0 i l at in
    leb-true 1 l.test.patterns (from_filter is_live l.core.tests o.n l.test o.test_at).2

-- no chain of a proper wrapper has more cells that count than the mode has
longest-le_all : (p : Cell → Bool) (a b : Bool) → Counts p a b → (m : ModuleValue) (scan : Bool) (chains : List ChainValue) → IsProper m scan chains →
    greatest (map (count_by p) (chain_cells m scan chains)) ≤ if_so a (m.inputs + m.bidirs) + sum m.chains + if_so b (m.outputs + m.bidirs)
longest-le_all p a b k m scan chains proper =
    greatest-least (count_by p) (if_so a (m.inputs + m.bidirs) + sum m.chains + if_so b (m.outputs + m.bidirs)) (chain_cells m scan chains) (λ i cells at.
    omega (arith, item-le-sum_by (count_by p) (chain_cells m scan chains) i cells at, total-is p a b k m scan chains proper, mode_flops m scan))

tam_short : (m : ModuleValue) (t : Test) (chains : List ChainValue) → 1 ≤ t.patterns → t.tam ≡ true → IsProper m t.scan chains → length (operations_of m t (chain_cells m t.scan chains)) ≤ test_work m t
tam_short m t chains live tam proper =
    let si : ℕ = greatest (map in_length (chain_cells m t.scan chains)) in
    let so : ℕ = greatest (map out_length (chain_cells m t.scan chains)) in
    let ins : si ≤ m.inputs + m.bidirs + sum m.chains = omega (arith, longest-le_all is_loaded true false loaded_counts m t.scan chains proper) in
    let outs : so ≤ m.outputs + m.bidirs + sum m.chains = omega (arith, longest-le_all is_read false true read_counts m t.scan chains proper) in
    let size : ℕ = 1 + (m.inputs + m.bidirs) + (m.outputs + m.bidirs) + 2 * sum m.chains in
    let long : length (ops_of m.setup si so t.patterns) ≡ m.setup + (1 + max si so) * t.patterns + min si so = ops_length m.setup si so t.patterns live in
    let short : m.setup + (1 + max si so) * t.patterns + min si so ≤ t.patterns * size + m.setup = time_within m.setup si so t.patterns size (t.patterns * size + m.setup) live (omega (arith, ins, outs)) (omega arith) in
    rw tam (omega (arith, long, short))

self_short : (m : ModuleValue) (t : Test) (chains : List (List Cell)) → t.tam ≡ false → length (operations_of m t chains) ≤ test_work m t
self_short m t chains self = rw self (omega (arith, length-replicate t.patterns SelfTest))

pub short_test : (soc : SocValue) (plan : PlanValue) (i : ℕ) (l : LiveTest) → Each (HasWrapper plan) (used_pairs soc) → Each (HasProperCells soc) plan.wrappers → slice_get (live_tests soc) i ≡ Some l → length (operations_of l.core l.test (chains_of plan l.core l.test)) ≤ test_work l.core l.test
short_test soc plan i l have proper at = elim (cases_Bool l.test.tam) [
  | inl tam ↦
      let o : IsLive soc.modules 0 l = live_at soc.modules 0 i l at in
      let w : Wrapped plan l.core l.test = wrapped_by soc plan have o.up o.n l.core l.test o.module_at o.test_at tam in
      let cells : IsProper l.core l.test.scan (w.w).chains = subst (λ scan. IsProper l.core scan (w.w).chains) w.scan_is (proper w.n w.w w.at o.up l.core o.module_at (sym w.module_is)) in
      subst (λ (v : List (List Cell)). length (operations_of l.core l.test v) ≤ test_work l.core l.test) (sym w.chains_are) (tam_short l.core l.test (w.w).chains (live_patterns soc i l at) tam cells)
  | inr self ↦ self_short l.core l.test (chains_of plan l.core l.test) self
]

pub planned_operations : (plan : PlanValue) (l : LiveTest) → (planned_test plan l.place l.core l.test).operations ≡ operations_of l.core l.test (chains_of plan l.core l.test)
unfolding planned_test
planned_operations plan l = refl

-- in any plan with a proper wrapper for each pair that wants one
short_in_any : (soc : SocValue) (plan : PlanValue) (i : ℕ) (t : PlannedTest) → IsWithinSize soc → Each (HasWrapper plan) (used_pairs soc) → Each (HasProperCells soc) plan.wrappers → IsAt (planned soc plan) i t → length t.operations ≤ WORK_MOST
short_in_any soc plan i t fits have proper at =
    let o : Origin soc plan i t = origin soc plan i t at in
    let part : length (operations_of o.l.core o.l.test (chains_of plan o.l.core o.l.test)) ≤ test_work o.l.core o.l.test = short_test soc plan i o.l have proper o.at in
    let same : length t.operations ≡ length (operations_of o.l.core o.l.test (chains_of plan o.l.core o.l.test)) = ap (λ (v : PlannedTest). length v.operations) (sym o.is) ∙ ap length (planned_operations plan o.l) in
    omega (arith, part, same, test_work-le soc i o.l o.at, work-le soc fits)

pub any_early_end : (soc : SocValue) (plan : PlanValue) (i : ℕ) (t : PlannedTest) → IsWithinSize soc → Each (HasWrapper plan) (used_pairs soc) → Each (HasProperCells soc) plan.wrappers → IsAt (planned soc plan) i t → t.start ≤ START_MOST → end_of t ≤ PLAN_NUMBER_MOST
any_early_end soc plan i t fits have proper at begins = omega (arith, begins, short_in_any soc plan i t fits have proper at)

-- so in a good plan
pub short_planned : (soc : SocValue) (limits : LimitsValue) (plan : PlanValue) (i : ℕ) (t : PlannedTest) → IsWithinSize soc → IsGood soc limits plan → IsAt (planned soc plan) i t → length t.operations ≤ WORK_MOST
short_planned soc limits plan i t fits good at = short_in_any soc plan i t fits (good Wrappers).1 (good Proper) at

pub early_end : (soc : SocValue) (limits : LimitsValue) (plan : PlanValue) (i : ℕ) (t : PlannedTest) → IsWithinSize soc → IsGood soc limits plan → IsAt (planned soc plan) i t → t.start ≤ START_MOST → end_of t ≤ PLAN_NUMBER_MOST
early_end soc limits plan i t fits good at begins = any_early_end soc plan i t fits (good Wrappers).1 (good Proper) at begins
