-- What the planner answers is one of its plans.
use Rattle.std.proofs.Common.{◌≡◌, ℕ, ◌≤◌, List, map, refl, arith}
use Rattle.soc_model.specs.Chips.{SocValue}
use Rattle.soc_model.specs.SoundChips.{IsSoundChip}
use Rattle.plan_model.specs.Plans.{OfArea, BusValue, BoundValue, PlanValue, LimitsValue}
use Rattle.plan_model.specs.Rules.{IsGood, IsBound, Widths, Known, Places, Wrappers, Proper, Starts, Wires, Busy, Parents, Precedences, Power, Cycles}
use Rattle.plan_model.specs.SoundLimits.{IsSoundLimits}
use Rattle.plan_model.specs.Certificates.{IsAccepted, IsElementary}
use Rattle.plan_model.specs.Runs.{Content}
use Rattle.plan_model.specs.Right.{IsRight}
use Rattle.plan_model.specs.Views.{bus_value, wrapper_value}
use Rattle.width_table.proofs.TableLaws.{table_laws}
use Rattle.bound_certificate.specs.Best.{IsBestBound, HasPlanNumbers}
use Rattle.planner.specs.declared.wiring.Wiring.{Wiring}
use Rattle.planner.specs.declared.schedule.Schedule.{Schedule}
use Rattle.planner.specs.Parts.{KeepsPartRules}
use Rattle.planner.specs.Buses.{table_of, AreSettledBuses}
use Rattle.planner.specs.Wrapping.{AreTableWrappers}
use Rattle.planner.specs.Schedules.{KeepsTimes}
use Rattle.planner.specs.Wirings.{plan_of, IsWiring, IsScheduled}
use Rattle.planner.specs.Plans.{IsPlanned, IsAnswer}
use Rattle.planner.proofs.PartRules.{keep_part_rules}
use Rattle.planner.proofs.PlanNumbers.{buses_in_range, wrappers_in_range, starts_in_range, reason_in_range}
use Rattle.planner.proofs.OnePlan.{one_plan}

-- the wiring that is made
pub wired : (soc : SocValue) (limits : LimitsValue) (wiring : Wiring) → IsSoundChip soc → IsSoundLimits soc limits → AreSettledBuses (table_of soc limits) (map bus_value wiring.buses.items) →
    ((buses : List BusValue) → AreSettledBuses (table_of soc limits) buses → buses ≡ map bus_value wiring.buses.items) → AreTableWrappers soc (map bus_value wiring.buses.items) (map wrapper_value wiring.wrappers.items) → IsWiring soc limits wiring
wired soc limits wiring sound limited settled only wrapped = record {
  settled = settled;
  only = only;
  wrapped = wrapped;
  rules = λ plan buses wrappers. keep_part_rules (table_of soc limits) (table_laws (table_of soc limits) sound limited.some_wire limited.few_wires) limits refl plan (rw buses settled) (rw (buses, wrappers) wrapped);
}

-- ---- the rules together

rules_together : {soc : SocValue} {limits : LimitsValue} {plan : PlanValue} → KeepsPartRules soc limits plan → KeepsTimes soc limits plan plan.cycles → IsGood soc limits plan
rules_together parts times Widths = parts.widths
rules_together parts times Known = parts.known
rules_together parts times Places = parts.places
rules_together parts times Wrappers = parts.wrappers
rules_together parts times Proper = parts.proper
rules_together parts times Starts = times.starts
rules_together parts times Wires = times.wires
rules_together parts times Busy = times.busy
rules_together parts times Parents = times.parents
rules_together parts times Precedences = times.precedences
rules_together parts times Power = times.power
rules_together parts times Cycles = times.ends

module _ (soc : SocValue) (limits : LimitsValue) (wiring : Wiring) (schedule : Schedule) (wired : IsWiring soc limits wiring) (timed : IsScheduled soc limits wiring schedule) where
  rules_of : (bound : BoundValue) → KeepsPartRules soc limits (plan_of wiring schedule bound)
  rules_of bound = wired.rules (plan_of wiring schedule bound) refl refl

  good_of : (bound : BoundValue) → IsGood soc limits (plan_of wiring schedule bound)
  good_of bound = rules_together (rules_of bound) (timed.keeps bound)

  -- a bound of every good plan is one of this plan
  pub cycles_bound : (n : ℕ) → IsBound soc limits n → n ≤ schedule.cycles
  cycles_bound n bound = let none : BoundValue = record { cycles = 0; why = OfArea } in bound (plan_of wiring schedule none) (good_of none)

  pub answer_of : IsSoundChip soc → IsSoundLimits soc limits → (bound : BoundValue) → IsBestBound soc limits schedule.cycles bound → IsAccepted soc limits bound → bound.cycles ≤ schedule.cycles → HasPlanNumbers bound.why →
      IsBound soc limits bound.cycles → ((n : ℕ) → IsElementary soc limits n → n ≤ bound.cycles) → ((plan : PlanValue) (content : Content) → IsGood soc limits plan → IsRight soc limits plan content) → IsAnswer soc limits (plan_of wiring schedule bound)
  answer_of sound limited bound best accepted few numbers is_bound elementary right =
      let planned : IsPlanned soc limits (plan_of wiring schedule bound) = record {
        good = good_of bound;
        accepted = accepted;
        buses = wired.settled;
        wrappers = wired.wrapped;
        schedule = timed.found bound;
        best = best;
        in_range = record {
          buses = buses_in_range soc limits (plan_of wiring schedule bound) sound (omega (arith, limited.few_wires)) (rules_of bound);
          wrappers = wrappers_in_range soc sound (map bus_value wiring.buses.items) wiring.wrappers.items wired.wrapped;
          starts = starts_in_range soc schedule.starts.items sound (timed.keeps bound).starts.0 timed.early;
          cycles = omega (arith, timed.short);
          claimed = omega (arith, timed.short, few);
          reason = reason_in_range bound.why numbers;
        };
      } in record {
        planned = planned;
        right = λ content. right (plan_of wiring schedule bound) content (good_of bound);
        bound = is_bound;
        elementary = elementary;
        only_plan = λ all other one. one_plan soc limits other (plan_of wiring schedule bound) sound (wired.only other.buses one.buses) all one planned;
        only_buses = wired.only;
      }
