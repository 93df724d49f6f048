use Rattle.std.proofs.Common.{◌≡◌, ◌∙◌, ◌++◌, true, false, map, ap, sym, append-nil, arith}
use Rattle.std.proofs.lemmas.Option.{slice_get_within}
use Rattle.std.proofs.lemmas.Result.{on_ok_weaker}
use Rattle.soc_model.specs.Chips.{ModuleValue, module_value}
use Rattle.soc_model.specs.Modes.{has_tam}
use Rattle.plan_model.specs.Plans.{bus_place}
use Rattle.plan_model.specs.Views.{bus_value, plan_value}
use Rattle.width_table.specs.Tables.{time_of}
use Rattle.report.proofs.Wired.{no_line, times_are, wired-le, wired_line}
use Rattle.report.proofs.modules.push_wired.Goals as goal

pub returns-then-not-has_tam_test : goal.returns-then-not-has_tam_test
returns-then-not-has_tam_test c =
    let m : ModuleValue = module_value c.args.«module».now in
    let none : has_tam (module_value c.args.«module».now) ≡ false = sym c.has_tam_test.ensures ∙ c.if-not-has_tam_test.true in
    sym (append-nil c.args.text.now.items) ∙ ap (λ l. c.args.text.now.items ++ l) (sym (no_line c.args.table.now.wires (plan_value c.args.plan.now) c.args.tests.now c.args.place m none))

pub wired_cycles-taken-requires : goal.wired_cycles-taken-requires
wired_cycles-taken-requires c = omega (arith, wired-le c.args.tests.now c.args.place, c.requires.short)

pub push_module-requires-clause-place : goal.push_module-requires-clause-place
push_module-requires-clause-place c = slice_get_within c.args.table.now.soc.modules c.args.place (module_value c.args.«module».now) c.requires.there

pub push_module-requires-clause-few : goal.push_module-requires-clause-few
push_module-requires-clause-few c = omega (arith, c.wired_cycles-taken.ensures, wired-le c.args.tests.now c.args.place, c.requires.short)

pub returns : goal.returns
returns c =
    let m : ModuleValue = module_value c.args.«module».now in
    let some : has_tam (module_value c.args.«module».now) ≡ true = sym c.has_tam_test.ensures ∙ c.if-not-has_tam_test.false in
    let bus : c.bus_of-bus.result ≡ bus_place (module_value c.args.«module».now).number 0 (plan_value c.args.plan.now).buses = c.bus_of-bus.ensures ∙ ap (λ l. bus_place (module_value c.args.«module».now).number 0 (map bus_value l)) c.deref.ensures.value in
    on_ok_weaker c.push_module.result (λ pushed. pushed ∙ ap (λ l. c.args.text.now.items ++ l)
    (wired_line c.args.table.now.wires (plan_value c.args.plan.now) c.args.tests.now c.args.place m c.args.ws.now c.bus_of-bus.result c.width_at-width.result c.wired_cycles-taken.result (time_of c.args.table.now c.args.place)
    some bus c.requires.widths c.width_at-width.ensures c.wired_cycles-taken.ensures (times_are c.args.table.now c.args.place m c.requires.there))) c.push_module.ensures
