-- In a plan without a fault every number is in the range of a plan's text, where its starts are.
use Rattle.std.proofs.Common.{◌≡◌, ℕ, ◌≤◌, ◌<◌, Bool, true, false, Some, List, length, get_or, map, refl, sym, ap, ◌∙◌, subst, arith, slice_get, Contains}
use Rattle.std.proofs.lemmas.Option.{slice_get-get_or, slice_get-map}
use Rattle.soc_model.specs.declared.Test.{Test}
use Rattle.soc_model.specs.declared.TestId.{TestId}
use Rattle.soc_model.specs.Chips.{ModuleValue, SocValue}
use Rattle.soc_model.specs.Modes.{scan_lengths}
use Rattle.soc_model.specs.Sizes.{IsWithinSize}
use Rattle.soc_model.specs.SoundChips.{IsSoundChip}
use Rattle.soc_model.proofs.Sums.{IsSmall}
use Rattle.soc_model.proofs.Limits.{modules-small, module_chains-le}
use Rattle.plan_model.specs.declared.TheConstants.{PLAN_NUMBER_MOST, START_MOST}
use Rattle.plan_model.specs.Cells.{ChainValue, IsProper}
use Rattle.plan_model.specs.Plans.{WrapperValue, BoundValue, PlanValue, LimitsValue, PlannedTest, planned, planned_test, end_of, greatest}
use Rattle.plan_model.specs.Right.{IsAt}
use Rattle.plan_model.specs.Rules.{Widths, Known, Places, Wrappers, Proper, Starts, Cycles, IsGood, IsBound, listed}
use Rattle.plan_model.specs.Certificates.{IsAccepted}
use Rattle.plan_model.specs.Faults.{IsFaultless}
use Rattle.plan_model.specs.SoundLimits.{IsSoundLimits}
use Rattle.plan_model.proofs.Greatest.{greatest-least}
use Rattle.plan_model.proofs.Lists.{in_append_right, in_flat_map}
use Rattle.plan_model.proofs.PlannedTests.{Origin, origin}
use Rattle.plan_model.proofs.ProperByCounts.{proper_ins, proper_outs, proper_lists}
use Rattle.plan_model.proofs.Sums.{item-le-sum_by}
use Rattle.bound_certificate.proofs.NamesInRange.{names_in_chip, numbers_in_range}
use Rattle.plan_checker.proofs.Listing.{start_early}
use Rattle.plan_text.specs.Grammar.{AreSmallStarts, IsChainInRange, IsWrapperInRange, IsInRange}
use Rattle.planner.proofs.PlanNumbers.{known_small, buses_in_range, starts_in_range, reason_in_range}
use Rattle.common_lemmas.proofs.Lists.{all_at, from_map, contains_at}

-- what this rests on: a test of a good plan that starts early ends early, and an accepted certificate is a bound
pub record NumberLaws : Type 0 where
  pub ends : (soc : SocValue) (limits : LimitsValue) (plan : PlanValue) (i : ℕ) (t : PlannedTest) → IsWithinSize soc → IsGood soc limits plan → IsAt (planned soc plan) i t → t.start ≤ START_MOST → end_of t ≤ PLAN_NUMBER_MOST
  pub bound : (soc : SocValue) (limits : LimitsValue) (bound : BoundValue) → 1 ≤ limits.wires → IsAccepted soc limits bound → IsBound soc limits bound.cycles

-- ---- wrappers

few_scans : (m : ModuleValue) (scan : Bool) → length m.chains ≤ 1000 → length (scan_lengths m scan) ≤ 1000
few_scans m true few = few
few_scans m false few = omega arith

chain_in_range : (m : ModuleValue) (scan : Bool) (chains : List ChainValue) → IsSmall m → length m.chains ≤ 1000 → IsProper m scan chains → (j : ℕ) (c : ChainValue) → slice_get chains j ≡ Some c → IsChainInRange c
chain_in_range m scan chains small few proper j c there = record {
  ins = omega (arith, small.inputs, small.bidirs, proper_ins m scan chains proper, item-le-sum_by (λ (c : ChainValue). c.ins) chains j c there);
  outs = omega (arith, small.outputs, small.bidirs, proper_outs m scan chains proper, item-le-sum_by (λ (c : ChainValue). c.outs) chains j c there);
  scans = λ i d h.
      let x = in_flat_map (λ (c : ChainValue). c.scans) chains j i c (get_or c.scans i d) there (slice_get-get_or c.scans i d h) in
      let within : get_or c.scans i d < length (scan_lengths m scan) = (proper_lists m scan chains proper).within x.0 (get_or c.scans i d) x.1 in
      omega (arith, within, few_scans m scan few);
}

-- the module of a number, with its place
known_module : (soc : SocValue) → IsSoundChip soc → (n : ℕ) → Contains soc.keys n → (p : ℕ) × (m : ModuleValue) × (slice_get soc.modules p ≡ Some m) × (m.number ≡ n)
known_module soc sound n known =
    let k = contains_at soc.keys n known in
    let m = from_map (λ (m : ModuleValue). m.number) soc.modules k.0 n (ap (λ (ks : List ℕ). slice_get ks k.0) (sym sound.keyed) ∙ k.1) in
    (k.0, m.0, m.1, m.2)

wrapper_known : (soc : SocValue) (limits : LimitsValue) (plan : PlanValue) → IsGood soc limits plan → (k : ℕ) (w : WrapperValue) → slice_get plan.wrappers k ≡ Some w → Contains soc.keys w.«module»
wrapper_known soc limits plan good k w at =
    let here : slice_get (map (λ (w : WrapperValue). w.«module») plan.wrappers) k ≡ Some w.«module» = rw (slice_get-map (λ (w : WrapperValue). w.«module») plan.wrappers k, at) refl in
    let n = in_append_right (listed plan) (map (λ (w : WrapperValue). w.«module») plan.wrappers) k w.«module» here in
    good Known n.0 w.«module» n.1

wrapper_in_range : (soc : SocValue) (limits : LimitsValue) (plan : PlanValue) → IsSoundChip soc → IsGood soc limits plan → (k : ℕ) (w : WrapperValue) → slice_get plan.wrappers k ≡ Some w → IsWrapperInRange w
wrapper_in_range soc limits plan sound good k w at =
    let known : Contains soc.keys w.«module» = wrapper_known soc limits plan good k w at in
    let m = known_module soc sound w.«module» known in
    let small : IsSmall m.1 = all_at IsSmall soc.modules m.0 m.1 (modules-small soc sound.small) m.2 in
    let few : length (m.1).chains ≤ 1000 = all_at (λ (m : ModuleValue). length m.chains ≤ 1000) soc.modules m.0 m.1 (module_chains-le soc sound.size) m.2 in
    record {
      number = known_small soc sound w.«module» known;
      chains = λ j d h. chain_in_range m.1 w.scan w.chains small few (good Proper k w at m.0 m.1 m.2 m.3) j (get_or w.chains j d) (slice_get-get_or w.chains j d h);
    }

-- ---- cycles

planned_early : (plan : PlanValue) (place : ℕ) (m : ModuleValue) (t : Test) → AreSmallStarts plan.starts → (planned_test plan place m t).start ≤ START_MOST
unfolding planned_test
planned_early plan place m t small =
    start_early (record { «module» = m.number; test = t.number }) plan.starts (λ n s at. all_at (λ (s : TestId × ℕ). s.1 ≤ START_MOST) plan.starts n s small at)

starts_early : (soc : SocValue) (plan : PlanValue) (i : ℕ) (t : PlannedTest) → AreSmallStarts plan.starts → IsAt (planned soc plan) i t → t.start ≤ START_MOST
starts_early soc plan i t small at =
    let o : Origin soc plan i t = origin soc plan i t at in
    subst (λ (t : PlannedTest). t.start ≤ START_MOST) o.is (planned_early plan o.l.place o.l.core o.l.test small)

cycles_in_range : NumberLaws → (soc : SocValue) (limits : LimitsValue) (plan : PlanValue) → IsSoundChip soc → IsGood soc limits plan → AreSmallStarts plan.starts → plan.cycles ≤ PLAN_NUMBER_MOST
cycles_in_range laws soc limits plan sound good small =
    let ends : plan.cycles ≡ greatest (map end_of (planned soc plan)) = good Cycles in
    omega (arith, ends, greatest-least end_of PLAN_NUMBER_MOST (planned soc plan) (λ i t at. laws.ends soc limits plan i t sound.size good at (starts_early soc plan i t small at)))

-- ---- all numbers

pub faultless_in_range : NumberLaws → (soc : SocValue) (limits : LimitsValue) → IsSoundChip soc → IsSoundLimits soc limits → (plan : PlanValue) → IsFaultless soc limits plan → AreSmallStarts plan.starts → IsInRange plan
faultless_in_range laws soc limits sound bounded plan faultless small =
    let good : IsGood soc limits plan = faultless.0 in
    let cycles : plan.cycles ≤ PLAN_NUMBER_MOST = cycles_in_range laws soc limits plan sound good small in
    record {
      buses = buses_in_range soc limits plan sound (omega (arith, bounded.few_wires)) (record { widths = good Widths; known = good Known; places = good Places; wrappers = good Wrappers; proper = good Proper });
      wrappers = λ k d h. wrapper_in_range soc limits plan sound good k (get_or plan.wrappers k d) (slice_get-get_or plan.wrappers k d h);
      starts = starts_in_range soc plan.starts sound (good Starts).0 small;
      cycles = cycles;
      claimed = omega (arith, cycles, laws.bound soc limits plan.bound bounded.some_wire faultless.1 plan good);
      reason = reason_in_range plan.bound.why (numbers_in_range soc plan.bound.why sound (names_in_chip soc limits plan.bound faultless.1));
    }
