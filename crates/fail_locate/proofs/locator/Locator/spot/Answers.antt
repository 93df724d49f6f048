use Rattle.std.proofs.Common.{◌≡◌, ℕ, ◌<◌, ◌≤◌, List, Option, None, Some, length, sym, ◌∙◌, ap, subst, rules, slice_get, slice_index, IfNone}
use Rattle.std.specs.List.Sorted.{IsNonDecreasing}
use Rattle.soc_model.specs.Chips.{soc_value}
use Rattle.plan_model.specs.Plans.{planned, widths}
use Rattle.plan_model.specs.Views.{plan_value}
use Rattle.fail_locate.specs.declared.Spot.{Spot}
use Rattle.fail_locate.specs.declared.wired.WiredTest.{WiredTest}
use Rattle.fail_locate.specs.Locating.{IsLast, IsOnWire}
use Rattle.fail_locate.specs.SpotAt.{spot_at}
use Rattle.fail_locate.specs.Spots.{IsNoSpot, IsSpot, LocatorValue}
use Rattle.fail_locate.specs.Wired.{IsPlanned}
use Rattle.fail_locate.proofs.FoundSpots.{in_order, on_no_bus, none_begun, none_behind, none_there, found_spot, last_planned, end_is}
use Rattle.fail_locate.proofs.CountedBack.{spot_is, no_spot}
use Rattle.fail_locate.proofs.locator.Locator.spot.Goals as goal

-- an answer without a spot
no_answer : (r : Option Spot) (own now : LocatorValue) (cycle wire : ℕ) → r ≡ None → own ≡ now → IsNoSpot own.soc own.plan cycle wire → IfNone r (IsNoSpot now.soc now.plan cycle wire)
no_answer r own now cycle wire none same is = rw (none, ← same) is

no_value : (r : Option Spot) (own now : LocatorValue) (cycle wire : ℕ) → r ≡ None → own ≡ now → IsNoSpot own.soc own.plan cycle wire → r ≡ spot_at now.soc now.plan cycle wire
no_value r own now cycle wire none same is = none ∙ no_spot own.soc own.plan cycle wire is ∙ ap (λ (v : LocatorValue). spot_at v.soc v.plan cycle wire) same

pub on_bus-requires : goal.on_bus-requires
on_bus-requires c = subst (λ (fs : List ℕ). IsNonDecreasing fs) (sym c.deref.ensures.value) (in_order (widths (plan_value c.self.inside.plan.now)) c.self.inside.firsts.items c.self.invariant.firsts_are)

pub returns-in_err-bus-clause-none : goal.returns-in_err-bus-clause-none
returns-in_err-bus-clause-none c =
    let none : c.from_residual.result ≡ None = search rules in
    no_answer c.from_residual.result _ c.args.self.now c.args.cycle c.args.wire none c.self.view_is (on_no_bus (soc_value c.self.inside.soc.now) (plan_value c.self.inside.plan.now) c.self.inside.firsts.items c.self.inside.tests.items c.self.invariant c.args.cycle c.args.wire (subst (λ (fs : List ℕ). (b : ℕ) → b < length fs → c.args.wire < slice_index fs b) c.deref.ensures.value c.in_err-bus.ensures.none))

pub returns-in_err-bus-clause-value : goal.returns-in_err-bus-clause-value
returns-in_err-bus-clause-value c =
    let none : c.from_residual.result ≡ None = search rules in
    no_value c.from_residual.result _ c.args.self.now c.args.cycle c.args.wire none c.self.view_is (on_no_bus (soc_value c.self.inside.soc.now) (plan_value c.self.inside.plan.now) c.self.inside.firsts.items c.self.inside.tests.items c.self.invariant c.args.cycle c.args.wire (subst (λ (fs : List ℕ). (b : ℕ) → b < length fs → c.args.wire < slice_index fs b) c.deref.ensures.value c.in_err-bus.ensures.none))

pub returns-in_err-test-clause-none : goal.returns-in_err-test-clause-none
returns-in_err-test-clause-none c =
    let on : IsOnWire c.self.inside.firsts.items c.args.wire c.in_ok-bus.bus c.in_ok-bus.chain = subst (λ (fs : List ℕ). IsOnWire fs c.args.wire c.in_ok-bus.bus c.in_ok-bus.chain) c.deref.ensures.value c.in_ok-bus.ensures.some in
    let none : c.from_residual-in_err-test.result ≡ None = search rules in
    no_answer c.from_residual-in_err-test.result _ c.args.self.now c.args.cycle c.args.wire none c.self.view_is (none_begun (soc_value c.self.inside.soc.now) (plan_value c.self.inside.plan.now) c.self.inside.firsts.items c.self.inside.tests.items c.self.invariant c.args.cycle c.args.wire c.in_ok-bus.bus c.in_ok-bus.chain on (subst (λ (ts : List WiredTest). (n : ℕ) (t : WiredTest) → slice_get ts n ≡ Some t → t.bus ≡ c.in_ok-bus.bus → t.start ≤ c.args.cycle → ⊥) c.deref-2.ensures.value c.in_err-test.ensures.none))

pub returns-in_err-test-clause-value : goal.returns-in_err-test-clause-value
returns-in_err-test-clause-value c =
    let on : IsOnWire c.self.inside.firsts.items c.args.wire c.in_ok-bus.bus c.in_ok-bus.chain = subst (λ (fs : List ℕ). IsOnWire fs c.args.wire c.in_ok-bus.bus c.in_ok-bus.chain) c.deref.ensures.value c.in_ok-bus.ensures.some in
    let none : c.from_residual-in_err-test.result ≡ None = search rules in
    no_value c.from_residual-in_err-test.result _ c.args.self.now c.args.cycle c.args.wire none c.self.view_is (none_begun (soc_value c.self.inside.soc.now) (plan_value c.self.inside.plan.now) c.self.inside.firsts.items c.self.inside.tests.items c.self.invariant c.args.cycle c.args.wire c.in_ok-bus.bus c.in_ok-bus.chain on (subst (λ (ts : List WiredTest). (n : ℕ) (t : WiredTest) → slice_get ts n ≡ Some t → t.bus ≡ c.in_ok-bus.bus → t.start ≤ c.args.cycle → ⊥) c.deref-2.ensures.value c.in_err-test.ensures.none))

pub returns-in_err-near-clause-none : goal.returns-in_err-near-clause-none
returns-in_err-near-clause-none c =
    let on : IsOnWire c.self.inside.firsts.items c.args.wire c.in_ok-bus.bus c.in_ok-bus.chain = subst (λ (fs : List ℕ). IsOnWire fs c.args.wire c.in_ok-bus.bus c.in_ok-bus.chain) c.deref.ensures.value c.in_ok-bus.ensures.some in
    let last : IsLast c.self.inside.tests.items c.in_ok-bus.bus c.args.cycle c.in_ok-test.test = subst (λ (ts : List WiredTest). IsLast ts c.in_ok-bus.bus c.args.cycle c.in_ok-test.test) c.deref-2.ensures.value c.in_ok-test.ensures.some in
    let none : c.from_residual-in_err-near.result ≡ None = search rules in
    no_answer c.from_residual-in_err-near.result _ c.args.self.now c.args.cycle c.args.wire none c.self.view_is (none_behind (soc_value c.self.inside.soc.now) (plan_value c.self.inside.plan.now) c.self.inside.firsts.items c.self.inside.tests.items c.self.invariant c.args.cycle c.args.wire c.in_ok-bus.bus c.in_ok-bus.chain on c.in_ok-test.test last c.in_err-near.ensures)

pub returns-in_err-near-clause-value : goal.returns-in_err-near-clause-value
returns-in_err-near-clause-value c =
    let on : IsOnWire c.self.inside.firsts.items c.args.wire c.in_ok-bus.bus c.in_ok-bus.chain = subst (λ (fs : List ℕ). IsOnWire fs c.args.wire c.in_ok-bus.bus c.in_ok-bus.chain) c.deref.ensures.value c.in_ok-bus.ensures.some in
    let last : IsLast c.self.inside.tests.items c.in_ok-bus.bus c.args.cycle c.in_ok-test.test = subst (λ (ts : List WiredTest). IsLast ts c.in_ok-bus.bus c.args.cycle c.in_ok-test.test) c.deref-2.ensures.value c.in_ok-test.ensures.some in
    let none : c.from_residual-in_err-near.result ≡ None = search rules in
    no_value c.from_residual-in_err-near.result _ c.args.self.now c.args.cycle c.args.wire none c.self.view_is (none_behind (soc_value c.self.inside.soc.now) (plan_value c.self.inside.plan.now) c.self.inside.firsts.items c.self.inside.tests.items c.self.invariant c.args.cycle c.args.wire c.in_ok-bus.bus c.in_ok-bus.chain on c.in_ok-test.test last c.in_err-near.ensures)

pub returns-in_err-cell-clause-none : goal.returns-in_err-cell-clause-none
returns-in_err-cell-clause-none c =
    let on : IsOnWire c.self.inside.firsts.items c.args.wire c.in_ok-bus.bus c.in_ok-bus.chain = subst (λ (fs : List ℕ). IsOnWire fs c.args.wire c.in_ok-bus.bus c.in_ok-bus.chain) c.deref.ensures.value c.in_ok-bus.ensures.some in
    let last : IsLast c.self.inside.tests.items c.in_ok-bus.bus c.args.cycle c.in_ok-test.test = subst (λ (ts : List WiredTest). IsLast ts c.in_ok-bus.bus c.args.cycle c.in_ok-test.test) c.deref-2.ensures.value c.in_ok-test.ensures.some in
    let none : c.from_residual-in_err-cell.result ≡ None = search rules in
    no_answer c.from_residual-in_err-cell.result _ c.args.self.now c.args.cycle c.args.wire none c.self.view_is (none_there (soc_value c.self.inside.soc.now) (plan_value c.self.inside.plan.now) c.self.inside.firsts.items c.self.inside.tests.items c.self.invariant c.args.cycle c.args.wire c.in_ok-bus.bus c.in_ok-bus.chain on c.in_ok-test.test last c.in_ok-near.near c.in_ok-near.ensures c.in_err-cell.ensures)

pub returns-in_err-cell-clause-value : goal.returns-in_err-cell-clause-value
returns-in_err-cell-clause-value c =
    let on : IsOnWire c.self.inside.firsts.items c.args.wire c.in_ok-bus.bus c.in_ok-bus.chain = subst (λ (fs : List ℕ). IsOnWire fs c.args.wire c.in_ok-bus.bus c.in_ok-bus.chain) c.deref.ensures.value c.in_ok-bus.ensures.some in
    let last : IsLast c.self.inside.tests.items c.in_ok-bus.bus c.args.cycle c.in_ok-test.test = subst (λ (ts : List WiredTest). IsLast ts c.in_ok-bus.bus c.args.cycle c.in_ok-test.test) c.deref-2.ensures.value c.in_ok-test.ensures.some in
    let none : c.from_residual-in_err-cell.result ≡ None = search rules in
    no_value c.from_residual-in_err-cell.result _ c.args.self.now c.args.cycle c.args.wire none c.self.view_is (none_there (soc_value c.self.inside.soc.now) (plan_value c.self.inside.plan.now) c.self.inside.firsts.items c.self.inside.tests.items c.self.invariant c.args.cycle c.args.wire c.in_ok-bus.bus c.in_ok-bus.chain on c.in_ok-test.test last c.in_ok-near.near c.in_ok-near.ensures c.in_err-cell.ensures)

pub capture_behind-requires-clause-phases : goal.capture_behind-requires-clause-phases
capture_behind-requires-clause-phases c =
    let last : IsLast c.self.inside.tests.items c.in_ok-bus.bus c.args.cycle c.in_ok-test.test = subst (λ (ts : List WiredTest). IsLast ts c.in_ok-bus.bus c.args.cycle c.in_ok-test.test) c.deref-2.ensures.value c.in_ok-test.ensures.some in
    let test : IsPlanned (soc_value c.self.inside.soc.now) (plan_value c.self.inside.plan.now) (planned (soc_value c.self.inside.soc.now) (plan_value c.self.inside.plan.now)) c.in_ok-test.test = last_planned (soc_value c.self.inside.soc.now) (plan_value c.self.inside.plan.now) c.self.inside.firsts.items c.self.inside.tests.items c.self.invariant c.in_ok-bus.bus c.args.cycle c.in_ok-test.test last in
    test.wired.phases

pub capture_behind-requires-clause-ends : goal.capture_behind-requires-clause-ends
capture_behind-requires-clause-ends c =
    let last : IsLast c.self.inside.tests.items c.in_ok-bus.bus c.args.cycle c.in_ok-test.test = subst (λ (ts : List WiredTest). IsLast ts c.in_ok-bus.bus c.args.cycle c.in_ok-test.test) c.deref-2.ensures.value c.in_ok-test.ensures.some in
    let test : IsPlanned (soc_value c.self.inside.soc.now) (plan_value c.self.inside.plan.now) (planned (soc_value c.self.inside.soc.now) (plan_value c.self.inside.plan.now)) c.in_ok-test.test = last_planned (soc_value c.self.inside.soc.now) (plan_value c.self.inside.plan.now) c.self.inside.firsts.items c.self.inside.tests.items c.self.invariant c.in_ok-bus.bus c.args.cycle c.in_ok-test.test last in
    end_is (soc_value c.self.inside.soc.now) (plan_value c.self.inside.plan.now) test.test c.in_ok-test.test test.wired

pub cell_of-requires-clause-wired : goal.cell_of-requires-clause-wired
cell_of-requires-clause-wired c =
    let last : IsLast c.self.inside.tests.items c.in_ok-bus.bus c.args.cycle c.in_ok-test.test = subst (λ (ts : List WiredTest). IsLast ts c.in_ok-bus.bus c.args.cycle c.in_ok-test.test) c.deref-2.ensures.value c.in_ok-test.ensures.some in
    let test : IsPlanned (soc_value c.self.inside.soc.now) (plan_value c.self.inside.plan.now) (planned (soc_value c.self.inside.soc.now) (plan_value c.self.inside.plan.now)) c.in_ok-test.test = last_planned (soc_value c.self.inside.soc.now) (plan_value c.self.inside.plan.now) c.self.inside.firsts.items c.self.inside.tests.items c.self.invariant c.in_ok-bus.bus c.args.cycle c.in_ok-test.test last in
    (test.test, test.wired)

pub returns-clause-spot : goal.returns-clause-spot
returns-clause-spot c =
    let on : IsOnWire c.self.inside.firsts.items c.args.wire c.in_ok-bus.bus c.in_ok-bus.chain = subst (λ (fs : List ℕ). IsOnWire fs c.args.wire c.in_ok-bus.bus c.in_ok-bus.chain) c.deref.ensures.value c.in_ok-bus.ensures.some in
    let last : IsLast c.self.inside.tests.items c.in_ok-bus.bus c.args.cycle c.in_ok-test.test = subst (λ (ts : List WiredTest). IsLast ts c.in_ok-bus.bus c.args.cycle c.in_ok-test.test) c.deref-2.ensures.value c.in_ok-test.ensures.some in
    subst (λ (v : LocatorValue). IsSpot v.soc v.plan c.args.cycle c.args.wire (record { test = c.in_ok-test.test.id; pattern = c.in_ok-near.near.pattern; cell = c.in_ok-cell.cell })) c.self.view_is
    (found_spot (soc_value c.self.inside.soc.now) (plan_value c.self.inside.plan.now) c.self.inside.firsts.items c.self.inside.tests.items c.self.invariant c.args.cycle c.args.wire c.in_ok-bus.bus c.in_ok-bus.chain on c.in_ok-test.test last c.in_ok-near.near c.in_ok-near.ensures c.in_ok-cell.cell c.in_ok-cell.ensures)

pub returns-clause-value : goal.returns-clause-value
returns-clause-value c =
    let on : IsOnWire c.self.inside.firsts.items c.args.wire c.in_ok-bus.bus c.in_ok-bus.chain = subst (λ (fs : List ℕ). IsOnWire fs c.args.wire c.in_ok-bus.bus c.in_ok-bus.chain) c.deref.ensures.value c.in_ok-bus.ensures.some in
    let last : IsLast c.self.inside.tests.items c.in_ok-bus.bus c.args.cycle c.in_ok-test.test = subst (λ (ts : List WiredTest). IsLast ts c.in_ok-bus.bus c.args.cycle c.in_ok-test.test) c.deref-2.ensures.value c.in_ok-test.ensures.some in
    spot_is (soc_value c.self.inside.soc.now) (plan_value c.self.inside.plan.now) c.args.cycle c.args.wire (record { test = c.in_ok-test.test.id; pattern = c.in_ok-near.near.pattern; cell = c.in_ok-cell.cell }) c.self.invariant.good
    (found_spot (soc_value c.self.inside.soc.now) (plan_value c.self.inside.plan.now) c.self.inside.firsts.items c.self.inside.tests.items c.self.invariant c.args.cycle c.args.wire c.in_ok-bus.bus c.in_ok-bus.chain on c.in_ok-test.test last c.in_ok-near.near c.in_ok-near.ensures c.in_ok-cell.cell c.in_ok-cell.ensures)
    ∙ ap (λ (v : LocatorValue). spot_at v.soc v.plan c.args.cycle c.args.wire) c.self.view_is
