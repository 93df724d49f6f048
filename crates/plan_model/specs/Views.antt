-- The values that contracts compare: the structs of a plan and its limits without where their lists lie in memory.
use Rattle.std.specs.Prelude.{map}
use Rattle.plan_model.specs.declared.ChainPlan.{ChainPlan}
use Rattle.plan_model.specs.declared.Wrapper.{Wrapper}
use Rattle.plan_model.specs.declared.Bus.{Bus}
use Rattle.plan_model.specs.declared.Why.{Why}
use Rattle.plan_model.specs.declared.Why.TheVariants as why
use Rattle.plan_model.specs.declared.Bound.{Bound}
use Rattle.plan_model.specs.declared.Plan.{Plan}
use Rattle.plan_model.specs.declared.Profile.{Profile}
use Rattle.plan_model.specs.declared.Limits.{Limits}
use Rattle.plan_model.specs.Cells.{ChainValue}
use Rattle.plan_model.specs.Plans.{BusValue, WrapperValue, WhyValue, OfModule, OfPair, OfChain, OfArea, OfPower, OfForced, BoundValue, PlanValue, ProfileValue, LimitsValue}

-- ---- the parts of a plan

abbrev pub chain_value : ChainPlan → ChainValue
chain_value c = record { ins = c.ins; scans = c.scans.items; outs = c.outs }

abbrev pub wrapper_value : Wrapper → WrapperValue
wrapper_value w = record { «module» = w.«module»; scan = w.scan; chains = map chain_value w.chains.items }

abbrev pub bus_value : Bus → BusValue
bus_value b = record { width = b.width; modules = b.modules.items }

abbrev pub why_value : Why → WhyValue
why_value (why.Module m) = OfModule m
why_value (why.Pair m) = OfPair m
why_value (why.Chain tests) = OfChain tests.items
why_value why.Area = OfArea
why_value why.Power = OfPower
why_value (why.Forced ms) = OfForced ms.items

abbrev pub bound_value : Bound → BoundValue
bound_value b = record { cycles = b.cycles; why = why_value b.why }

abbrev pub plan_value : Plan → PlanValue
plan_value p = record {
  buses = map bus_value p.buses.items;
  wrappers = map wrapper_value p.wrappers.items;
  starts = p.starts.items;
  cycles = p.cycles;
  bound = bound_value p.bound;
}

-- ---- limits

abbrev pub profile_value : Profile → ProfileValue
profile_value p = record { test = p.test; steps = p.steps.items }

abbrev pub limits_value : Limits → LimitsValue
limits_value l = record {
  wires = l.wires;
  power = l.power;
  before = l.before.items;
  budget = l.budget;
  profiles = map profile_value l.profiles.items;
}
