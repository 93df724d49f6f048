use Rattle.std.proofs.Common.{◌∙◌, refl, sym}
use Rattle.soc_model.specs.Chips.{module_value}
use Rattle.plan_model.specs.Views.{plan_value}
use Rattle.plan_model.proofs.FoundWrappers.{IsFound, found_at, proper_found, always_found}
use Rattle.plan_commands.proofs.ProgramAnswers.{same_wrapped}
use Rattle.plan_commands.proofs.programs.wrapper_for.Goals as goal

abbrev found : (c : goal.After-index) → IsFound (module_value c.args.«module».now) c.args.test.now.scan c.args.plan.now.wrappers.items c.in-Some.place c.index.result.now
found c =
    let at = rw c.deref.ensures.value at c.wrapper_of.ensures in
    found_at (module_value c.args.«module».now) c.args.test.now.scan c.args.plan.now.wrappers.items c.in-Some.place c.index.result.now c.index.result.now (sym at ∙ c.in-Some.is) c.index.ensures

pub unreachable-requires : goal.unreachable-requires
unreachable-requires c =
    let at = rw c.deref.ensures.value at c.wrapper_of.ensures in
    always_found (module_value c.args.«module».now) c.args.test.now c.args.plan.now.wrappers.items c.requires (sym at ∙ c.in-None.is)

pub returns-clause-proper : goal.returns-clause-proper
returns-clause-proper c = proper_found (module_value c.args.«module».now) c.args.test.now c.args.plan.now.wrappers.items c.in-Some.place c.index.result.now c.requires (found c)

pub returns-clause-same : goal.returns-clause-same
returns-clause-same c = same_wrapped (plan_value c.args.plan.now) (module_value c.args.«module».now) c.args.test.now c.args.plan.now.wrappers.items c.in-Some.place c.index.result.now refl (found c)
