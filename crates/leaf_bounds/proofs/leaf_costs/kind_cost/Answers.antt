use Rattle.std.proofs.Common.{◌≡◌, ◌∙◌, Some, true, sym, ap, subst, slice_get}
use Rattle.std.proofs.lemmas.Option.{same_Some}
use Rattle.soc_model.specs.declared.Test.{Test}
use Rattle.soc_model.specs.Chips.{is_live, live_tests, module_value}
use Rattle.leaf_bounds.specs.Bases.{chip_of}
use Rattle.leaf_bounds.proofs.LeafTests.{own_core, own_test, own_live, own_work, place_within, test_within, kind_is, kind_not, idle_costs}
use Rattle.common_lemmas.proofs.Lists.{some_item}
use Rattle.leaf_bounds.proofs.leaf_costs.kind_cost.Goals as goal

pub module_at-requires : goal.module_at-requires
module_at-requires c =
    let l = some_item (live_tests (chip_of c.args.basis.now)) c.args.test c.requires.test in
    let is = c.requires.basis.tests.tests.at c.args.test l.0 c.place_at-place.result l.1 c.place_at-place.ensures in
    place_within is

pub test_at-own-requires : goal.test_at-own-requires
test_at-own-requires c =
    let l = some_item (live_tests (chip_of c.args.basis.now)) c.args.test c.requires.test in
    let is = c.requires.basis.tests.tests.at c.args.test l.0 c.place_at-place.result l.1 c.place_at-place.ensures in
    test_within is c.module_at.ensures

pub test_time-cycles-requires-clause-place : goal.test_time-cycles-requires-clause-place
test_time-cycles-requires-clause-place c =
    let l = some_item (live_tests (chip_of c.args.basis.now)) c.args.test c.requires.test in
    let is = c.requires.basis.tests.tests.at c.args.test l.0 c.place_at-place.result l.1 c.place_at-place.ensures in
    rw c.requires.basis.times (place_within is)

pub test_time-cycles-requires-clause-live : goal.test_time-cycles-requires-clause-live
test_time-cycles-requires-clause-live c =
    let l = some_item (live_tests (chip_of c.args.basis.now)) c.args.test c.requires.test in
    let is = c.requires.basis.tests.tests.at c.args.test l.0 c.place_at-place.result l.1 c.place_at-place.ensures in
    (subst (λ t. is_live t ≡ true) (own_test is c.module_at.ensures c.test_at-own.ensures) (own_live (chip_of c.args.basis.now) c.args.test l.1))

pub test_time-cycles-requires-clause-work : goal.test_time-cycles-requires-clause-work
test_time-cycles-requires-clause-work c = λ m at.
    let at' = rw c.requires.basis.times at at in
    let l = some_item (live_tests (chip_of c.args.basis.now)) c.args.test c.requires.test in
    let is = c.requires.basis.tests.tests.at c.args.test l.0 c.place_at-place.result l.1 c.place_at-place.ensures in
    let same = same_Some (module_value c.module_at.result.now) m (sym c.module_at.ensures ∙ at') in
    rw (← same) (own_work c.args.test c.requires.basis.sound l.1 is c.module_at.ensures c.test_at-own.ensures)

pub test_uses-requires-clause-test : goal.test_uses-requires-clause-test
test_uses-requires-clause-test c =
    let l = some_item (live_tests (chip_of c.args.basis.now)) c.args.test c.requires.test in
    let is = c.requires.basis.tests.tests.at c.args.test l.0 c.place_at-place.result l.1 c.place_at-place.ensures in
    (l.0, l.1, ap (λ (t : Test). t.power) (sym (own_test is c.module_at.ensures c.test_at-own.ensures)))

pub returns-then-is_over : goal.returns-then-is_over
returns-then-is_over c = λ weights l weighed at.
    let is = c.requires.basis.tests.tests.at c.args.test l c.place_at-place.result at c.place_at-place.ensures in
    let own = own_test is c.module_at.ensures c.test_at-own.ensures in
    let there : slice_get c.args.basis.now.times.chip.modules c.place_at-place.result.«module» ≡ Some (module_value c.module_at.result.now) = rw c.requires.basis.times c.module_at.ensures in
    kind_is c.args.basis.now weights c.args.wires c.args.rank c.args.width l (own_core is c.module_at.ensures) own
    (sym c.is_over.ensures ∙ c.if-is_over.true) (c.test_time-cycles.ensures.time (module_value c.module_at.result.now) there) (c.test_uses.ensures weights l weighed at (ap (λ (t : Test). t.power) (sym own)))

pub returns : goal.returns
returns c = λ weights l weighed at.
    let is = c.requires.basis.tests.tests.at c.args.test l c.place_at-place.result at c.place_at-place.ensures in
    let own = own_test is c.module_at.ensures c.test_at-own.ensures in
    kind_not c.args.basis.now weights c.args.wires c.args.rank c.args.width l own (sym c.is_over.ensures ∙ c.if-is_over.false)

pub returns-then-is_idle : goal.returns-then-is_idle
returns-then-is_idle c = λ weights l weighed at.
    idle_costs c.args.basis.now weights c.args.wires c.args.rank c.args.width weighed (c.is_idle.ensures c.if-is_idle.true) at
