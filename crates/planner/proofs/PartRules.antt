-- Settled buses with the wrappers of the width table keep the rules that speak of buses and wrappers alone.
use Rattle.std.proofs.Common.{◌≡◌, ℕ, ◌<◌, Some, List, length, map, option_map, ap, ◌∙◌, sym, subst, arith, inl, inr, slice_get, Contains, flat_map}
use Rattle.std.proofs.lemmas.Option.{slice_get-map}
use Rattle.soc_model.specs.Chips.{ModuleValue, numbers}
use Rattle.plan_model.specs.Plans.{BusValue, WrapperValue, PlanValue, LimitsValue}
use Rattle.plan_model.specs.Rules.{Each, FitsWires, IsKnown, IsNew, IsListed, listed, named}
use Rattle.plan_model.proofs.Lists.{from_append, at_contains}
use Rattle.width_table.specs.Tables.{TableValue, IsTable}
use Rattle.bus_model.proofs.Times.{due-one}
use Rattle.planner.specs.Parts.{KeepsPartRules}
use Rattle.planner.specs.Buses.{AreSettledBuses, number_at}
use Rattle.planner.specs.Wrapping.{HaveWidths, IsWrapperOnBus, AreTableWrappers}
use Rattle.planner.proofs.BusRules.{fit_wires, all_places, numbers_listed, once_all, all_in_range, number_there, differ_new, listed_number, width_within}
use Rattle.planner.proofs.WrapperRules.{all_fitting, all_have, all_proper}
use Rattle.common_lemmas.proofs.Lists.{all_at, from_map}

-- each module with a test over the wires has its width
pub have_widths : (table : TableValue) (buses : List BusValue) → AreSettledBuses table buses → HaveWidths table buses
have_widths table buses are = subst (HaveWidths table) (sym are.buses_are) (λ place m at tam.
    width_within table are.settled are.sound m.number (listed_number table are.settled are.sound place m at tam))

module _ (table : TableValue) (laws : IsTable table) (limits : LimitsValue) (wires : limits.wires ≡ table.wires) (plan : PlanValue) (buses : AreSettledBuses table plan.buses) (wrappers : AreTableWrappers table.soc plan.buses plan.wrappers) where
  listed_are : listed plan ≡ map (number_at table.soc) (all_places buses.settled)
  listed_are = ap (λ (bs : List BusValue). flat_map (λ (b : BusValue). b.modules) bs) buses.buses_are ∙ numbers_listed table.soc buses.settled

  known_place : (p n : ℕ) → p < length table.soc.modules → number_at table.soc p ≡ n → Contains table.soc.keys n
  known_place p n h e = subst (λ (ks : List ℕ). Contains ks n) (sym laws.sound.keyed) (at_contains (numbers table.soc) p n (number_there table.soc p n h e))

  known_listed : (n x : ℕ) → slice_get (listed plan) n ≡ Some x → Contains table.soc.keys x
  known_listed n x at =
      let p = from_map (number_at table.soc) (all_places buses.settled) n x (ap (λ (ns : List ℕ). slice_get ns n) (sym listed_are) ∙ at) in
      known_place p.0 x (all_at (λ q. q < length table.soc.modules) (all_places buses.settled) n p.0 (all_in_range table buses.settled buses.sound laws) p.1) p.2

  known_wrapped : (n x : ℕ) → slice_get (map (λ (w : WrapperValue). w.«module») plan.wrappers) n ≡ Some x → Contains table.soc.keys x
  known_wrapped n x at =
      let w = from_map (λ (w : WrapperValue). w.«module») plan.wrappers n x at in
      let on : IsWrapperOnBus table.soc plan.buses w.0 = all_at (IsWrapperOnBus table.soc plan.buses) plan.wrappers n w.0 wrappers.on_buses w.1 in
      let there : slice_get (numbers table.soc) on.place ≡ Some x = slice_get-map (λ (m : ModuleValue). m.number) table.soc.modules on.place ∙ ap (option_map (λ (m : ModuleValue). m.number)) on.there ∙ ap Some (sym on.wrapper.of ∙ w.2) in
      subst (λ (ks : List ℕ). Contains ks x) (sym laws.sound.keyed) (at_contains (numbers table.soc) on.place x there)

  all_known : Each (IsKnown table.soc) (named plan)
  all_known n x at = elim (from_append (listed plan) (map (λ (w : WrapperValue). w.«module») plan.wrappers) n x at) [
    | inl a ↦ known_listed n x a
    | inr a ↦ known_wrapped a.0 x a.2
  ]

  none_twice : Each IsNew (listed plan)
  none_twice = subst (λ (ns : List ℕ). Each IsNew ns) (sym listed_are) (differ_new table.soc (all_places buses.settled) laws.sound.modules_differ (all_in_range table buses.settled buses.sound laws)
      (λ p. omega (arith, once_all table buses.settled buses.sound p, due-one table p)))

  all_listed : Each (IsListed plan) table.soc.modules
  all_listed n m at tam = subst (λ (ns : List ℕ). Contains ns m.number) (sym listed_are) (listed_number table buses.settled buses.sound n m at tam)

  pub keep_part_rules : KeepsPartRules table.soc limits plan
  keep_part_rules = record {
    widths = subst (λ (bs : List BusValue). Each (FitsWires limits) bs) (sym buses.buses_are) (fit_wires table buses.settled buses.sound limits wires);
    known = all_known;
    places = (none_twice, all_listed);
    wrappers = (all_fitting table.soc plan laws.sound.modules_differ wrappers, all_have table.soc plan laws.sound.modules_differ wrappers);
    proper = all_proper table.soc plan laws.sound.modules_differ wrappers;
  }
