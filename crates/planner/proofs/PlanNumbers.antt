-- Every number of a planned plan is in the range of a plan's text.
use Rattle.std.proofs.Common.{◌≡◌, ℕ, zero, suc, ◌+◌, ◌≤◌, ◌<◌, Bool, true, false, Some, List, [], ◌∷◌, length, map, take, nat_lt, subst, arith, slice_get, All, Contains}
use Rattle.std.specs.List.{list_all}
use Rattle.std.proofs.lemmas.Bool.{and_parts}
use Rattle.std.proofs.lemmas.List.Elements.{All-weaker, All-nil, All-cons}
use Rattle.soc_model.specs.declared.TestId.{TestId}
use Rattle.soc_model.specs.declared.TheConstants.{NUMBER_WORD_MOST}
use Rattle.soc_model.specs.Chips.{ModuleValue, SocValue}
use Rattle.soc_model.specs.Sizes.{HasSmall}
use Rattle.soc_model.specs.SoundChips.{IsSoundChip}
use Rattle.soc_model.proofs.Sums.{IsSmall}
use Rattle.soc_model.proofs.Limits.{modules-small, module_chains-le}
use Rattle.plan_model.specs.declared.ChainPlan.{ChainPlan}
use Rattle.plan_model.specs.declared.Wrapper.{Wrapper}
use Rattle.plan_model.specs.declared.TheConstants.{PLAN_NUMBER_MOST, START_MOST}
use Rattle.plan_model.specs.Cells.{IsProper}
use Rattle.soc_model.specs.Modes.{scan_lengths}
use Rattle.plan_model.specs.Plans.{BusValue, WrapperValue, WhyValue, OfModule, OfPair, OfChain, OfArea, OfPower, OfForced, PlanValue, LimitsValue}
use Rattle.plan_model.specs.Rules.{Each, StartsOnce, FitsWires, live_ids, listed}
use Rattle.plan_model.specs.Views.{chain_value, wrapper_value}
use Rattle.plan_model.proofs.Lists.{in_flat_map}
use Rattle.plan_model.proofs.Sums.{item-le-sum_by}
use Rattle.plan_model.proofs.ProperByCounts.{IsCounted, proper_is_counted, all_within}
use Rattle.wrapper_design.proofs.Laws.{design_proper}
use Rattle.bound_certificate.specs.Best.{HasPlanNumbers}
use Rattle.bound_certificate.proofs.NamesInRange.{numbers_in_range}
use Rattle.plan_text.specs.Grammar.{IsBusInRange, IsChainInRange, IsWrapperInRange, IsTestInRange, IsStartInRange, IsReasonInRange}
use Rattle.planner.specs.Parts.{KeepsPartRules}
use Rattle.planner.specs.Wrapping.{IsWrapperOnBus, AreTableWrappers}
use Rattle.common_lemmas.proofs.Lists.{passes_at, all_at, all_from, from_map, contains_at, at_left}

pub reason_in_range : (why : WhyValue) → HasPlanNumbers why → IsReasonInRange why
reason_in_range (OfModule m) h = h
reason_in_range (OfPair m) h = h
reason_in_range (OfChain tests) h = All-weaker (λ (id : TestId). (id.module ≤ PLAN_NUMBER_MOST) × (id.test ≤ PLAN_NUMBER_MOST)) IsTestInRange (λ id i. record { of = i.0; number = i.1 }) tests h
reason_in_range OfArea h = tt
reason_in_range OfPower h = tt
reason_in_range (OfForced ms) h = h

module _ (soc : SocValue) (sound : IsSoundChip soc) where
  small_at : (k : ℕ) (m : ModuleValue) → slice_get soc.modules k ≡ Some m → m.number ≤ PLAN_NUMBER_MOST
  small_at k m at =
      let small : HasSmall m = all_at HasSmall soc.modules k m sound.small at in
      let first : m.number < NUMBER_WORD_MOST + 1 = small 0 0 (omega arith) in
      omega arith

  pub known_small : (n : ℕ) → Contains soc.keys n → n ≤ PLAN_NUMBER_MOST
  known_small n known =
      let k = contains_at (map (λ (m : ModuleValue). m.number) soc.modules) n (rw sound.keyed at known) in
      let m = from_map (λ (m : ModuleValue). m.number) soc.modules k.0 n k.1 in
      omega (arith, m.2, small_at k.0 m.0 m.1)

  -- ---- wrappers

  few_scans : (k : ℕ) (m : ModuleValue) (scan : Bool) → slice_get soc.modules k ≡ Some m → length (scan_lengths m scan) ≤ 1000
  few_scans k m true at = all_at (λ (m : ModuleValue). length m.chains ≤ 1000) soc.modules k m (module_chains-le soc sound.size) at
  few_scans k m false at = omega arith

  chain_in_range : (k : ℕ) (m : ModuleValue) (scan : Bool) → slice_get soc.modules k ≡ Some m → (chains : List ChainPlan) → IsCounted m scan chains → (j : ℕ) (c : ChainPlan) → slice_get chains j ≡ Some c → IsChainInRange (chain_value c)
  chain_in_range k m scan at chains counted j c there =
      let small : IsSmall m = all_at IsSmall soc.modules k m (modules-small soc sound.small) at in
      let below = passes_at (λ (c : ChainPlan). list_all (λ x. nat_lt x (length (scan_lengths m scan))) c.scans.items) chains counted.below j c there in
      record {
        ins = omega (arith, counted.ins, item-le-sum_by (λ (c : ChainPlan). c.ins) chains j c there);
        outs = omega (arith, counted.outs, item-le-sum_by (λ (c : ChainPlan). c.outs) chains j c there);
        scans = all_from (λ x. x ≤ PLAN_NUMBER_MOST) c.scans.items (λ i x at'. omega (arith, few_scans k m scan at, all_within (length (scan_lengths m scan)) c.scans.items below i x at'));
      }

  wrapper_in_range : (buses : List BusValue) (w : Wrapper) → IsWrapperOnBus soc buses (wrapper_value w) → IsWrapperInRange (wrapper_value w)
  wrapper_in_range buses w on =
      let proper : IsProper on.core w.scan (map chain_value w.chains.items) = rw on.wrapper.designed (design_proper on.core w.scan on.wrapper.chosen on.wrapper.is_chosen.some) in
      record {
        number = omega (arith, on.wrapper.of, small_at on.place on.core on.there);
        chains = all_from IsChainInRange (map chain_value w.chains.items) (λ j c at.
            let d = from_map chain_value w.chains.items j c at in
            subst IsChainInRange d.2 (chain_in_range on.place on.core w.scan on.there w.chains.items (proper_is_counted on.core w.scan w.chains.items proper) j d.0 d.1));
      }

  pub wrappers_in_range : (buses : List BusValue) (wrappers : List Wrapper) → AreTableWrappers soc buses (map wrapper_value wrappers) → All IsWrapperInRange (map wrapper_value wrappers)
  wrappers_in_range buses wrappers made = all_from IsWrapperInRange (map wrapper_value wrappers) (λ k w at.
      let v = from_map wrapper_value wrappers k w at in
      subst IsWrapperInRange v.2 (wrapper_in_range buses v.0 (rw v.2 (all_at (IsWrapperOnBus soc buses) (map wrapper_value wrappers) k w made.on_buses at))))

-- ---- buses and starts

pub buses_in_range : (soc : SocValue) (limits : LimitsValue) (plan : PlanValue) → IsSoundChip soc → limits.wires ≤ 256 → KeepsPartRules soc limits plan → All IsBusInRange plan.buses
buses_in_range soc limits plan sound few keeps = all_from IsBusInRange plan.buses (λ k b at.
    let fits : FitsWires limits (take k plan.buses) b = keeps.widths k b at in
    record {
      width = omega (arith, fits.1);
      modules = all_from (λ n. n ≤ PLAN_NUMBER_MOST) b.modules (λ j n there.
          let at' = in_flat_map (λ (b : BusValue). b.modules) plan.buses k j b n at there in
          let named = at_left (listed plan) (map (λ (w : WrapperValue). w.«module») plan.wrappers) at'.0 n at'.1 in
          known_small soc sound n (keeps.known at'.0 n named));
    })

pub starts_in_range : (soc : SocValue) (starts : List (TestId × ℕ)) → IsSoundChip soc → Each (StartsOnce soc) starts → All (λ (s : TestId × ℕ). s.1 ≤ START_MOST) starts → All IsStartInRange starts
starts_in_range soc starts sound once early = all_from IsStartInRange starts (λ k s at.
    let small = numbers_in_range soc (OfChain (s.0 ∷ [])) sound (All-cons (Contains (live_ids soc)) s.0 [] ((once k s at).0) (All-nil (Contains (live_ids soc)))) in
    let here = small 0 s.0 (omega arith) in
    record { of = record { of = here.0; number = here.1 }; small = all_at (λ (s : TestId × ℕ). s.1 ≤ START_MOST) starts k s early at })
