-- A plan that is good under any limits is good where its own wires are the only limit.
use Rattle.std.proofs.Common.{◌≡◌, ◌+◌, ◌≤◌, ◌<◌, length, get_or, take, arith}
use Rattle.std.specs.List.{sum, sum_by}
use Rattle.std.proofs.lemmas.List.Sums.{sum_by_more_le, sum-map}
use Rattle.std.proofs.lemmas.Option.{slice_get_within, get_or_from_slice_get}
use Rattle.soc_model.specs.Chips.{SocValue}
use Rattle.plan_model.specs.Plans.{BusValue, PlanValue, LimitsValue, widths}
use Rattle.plan_model.specs.Rules.{FitsWires, Each, IsGood, IsGoodAlone, Widths, Known, Places, Wrappers, Proper, Starts, Wires, Busy, Parents, Precedences, Power, Cycles, bare_limits}

fits_own : (limits : LimitsValue) (plan : PlanValue) → Each (FitsWires limits) plan.buses → Each (FitsWires (bare_limits plan)) plan.buses
fits_own limits plan fits n b at =
    let within : n < length plan.buses = slice_get_within plan.buses n b at in
    let here : get_or plan.buses n b ≡ b = get_or_from_slice_get plan.buses n b b at in
    let more : sum_by (λ (b : BusValue). b.width) (take n plan.buses) + (get_or plan.buses n b).width ≤ sum_by (λ (b : BusValue). b.width) plan.buses = sum_by_more_le (λ (b : BusValue). b.width) plan.buses n b within in
    let more' = rw here at more in
    let all : sum (widths plan) ≡ sum_by (λ (b : BusValue). b.width) plan.buses = sum-map (λ (b : BusValue). b.width) plan.buses in
    ((fits n b at).0, omega arith)

pub good_alone : (soc : SocValue) (limits : LimitsValue) (plan : PlanValue) → IsGood soc limits plan → IsGoodAlone soc plan
good_alone soc limits plan good Widths = fits_own limits plan (good Widths)
good_alone soc limits plan good Known = good Known
good_alone soc limits plan good Places = good Places
good_alone soc limits plan good Wrappers = good Wrappers
good_alone soc limits plan good Proper = good Proper
good_alone soc limits plan good Starts = good Starts
good_alone soc limits plan good Wires = good Wires
good_alone soc limits plan good Busy = good Busy
good_alone soc limits plan good Parents = good Parents
good_alone soc limits plan good Precedences = λ n p at. absurd cc
good_alone soc limits plan good Power = λ c. tt
good_alone soc limits plan good Cycles = good Cycles
