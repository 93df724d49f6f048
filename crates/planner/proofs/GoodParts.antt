-- The rules of wrappers look at buses and wrappers alone, so that they hold of those of a good plan, whatever its starts are.
use Rattle.std.proofs.Common.{◌≡◌, List, map, sym, subst, Contains}
use Rattle.soc_model.specs.Chips.{SocValue}
use Rattle.plan_model.specs.Plans.{LimitsValue, PlanValue, WrapperValue, BusValue}
use Rattle.plan_model.specs.Rules.{Each, IsFitting, HasProperCells, pair_of, used_pairs, Wrappers, Proper, Keeps, IsGood}
use Rattle.planner.specs.Jobs.{settled_parts}

-- a wrapper that fits in a plan fits in one with the same buses
pub fitting_as : (soc : SocValue) (plan other : PlanValue) (wrappers : List WrapperValue) → other.buses ≡ plan.buses → Each (IsFitting soc plan) wrappers → Each (IsFitting soc other) wrappers
fitting_as soc plan other wrappers same fits n w at =
    let here = fits n w at in
    record {
      used = here.used;
      new = here.new;
      some_chain = here.some_chain;
      on_wires = rw same here.on_wires;
    }

-- the wrappers of a good plan are one for each used pair, and proper
pub parts_wrapped : (soc : SocValue) (limits : LimitsValue) (plan : PlanValue) (buses : List BusValue) (wrappers : List WrapperValue) → IsGood soc limits plan → buses ≡ plan.buses → wrappers ≡ plan.wrappers → Keeps soc limits (settled_parts buses wrappers) Wrappers
parts_wrapped soc limits plan buses wrappers good same_buses same_wrappers =
    let keeps = good Wrappers in
    let fits : Each (IsFitting soc plan) wrappers = subst (λ (l : List WrapperValue). Each (IsFitting soc plan) l) (sym same_wrappers) keeps.0 in
    let all : Each (λ earlier pair. Contains (map pair_of wrappers) pair) (used_pairs soc) = subst (λ (l : List WrapperValue). Each (λ earlier pair. Contains (map pair_of l) pair) (used_pairs soc)) (sym same_wrappers) keeps.1 in
    (fitting_as soc plan (settled_parts buses wrappers) wrappers same_buses fits, all)

pub parts_proper : (soc : SocValue) (limits : LimitsValue) (plan : PlanValue) (buses : List BusValue) (wrappers : List WrapperValue) → IsGood soc limits plan → wrappers ≡ plan.wrappers → Keeps soc limits (settled_parts buses wrappers) Proper
parts_proper soc limits plan buses wrappers good same = subst (λ (l : List WrapperValue). Each (HasProperCells soc) l) (sym same) (good Proper)
