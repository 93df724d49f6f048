use Rattle.std.proofs.Common.{arith}
use Rattle.soc_model.specs.Chips.{soc_value, module_value}
use Rattle.soc_model.proofs.Limits.{test_work-le-at, work-le}
use Rattle.plan_model.specs.Rules.{Wrappers, Proper}
use Rattle.plan_model.specs.Views.{plan_value}
use Rattle.plan_model.proofs.FoundWrappers.{wrapped_test}
use Rattle.plan_model.proofs.SoundChips.{module_size-le}
use Rattle.shift_program.specs.Programs.{program_value}
use Rattle.plan_commands.proofs.ProgramAnswers.{IsThere, read_there, judged_there}
use Rattle.plan_commands.proofs.programs.judge_named.Goals as goal

abbrev there : (c : goal.After-index) → IsThere (soc_value c.args.soc.now).modules c.in-Some.place c.in-Some.at (module_value c.module_at-module.result.now) c.index.result.now
there c =
    let f = c.in-Some.ensures.found in
    read_there (soc_value c.args.soc.now).modules c.in-Some.place c.in-Some.at f.0 (module_value c.module_at-module.result.now) f.1 c.index.result.now f.2 f.3 f.4 c.module_at-module.ensures c.index.ensures

pub judge_program-requires-clause-wrapped : goal.judge_program-requires-clause-wrapped
judge_program-requires-clause-wrapped c =
    let s = there c in
    wrapped_test (soc_value c.args.soc.now) (plan_value c.args.plan.now) (c.requires.good Wrappers).1 (c.requires.good Proper) c.in-Some.place c.in-Some.at (module_value c.module_at-module.result.now) c.index.result.now s.here s.there s.live s.wires

pub judge_program-requires-clause-small : goal.judge_program-requires-clause-small
judge_program-requires-clause-small c = module_size-le (soc_value c.args.soc.now) c.requires.chip c.in-Some.place (module_value c.module_at-module.result.now) c.module_at-module.ensures

pub judge_program-requires-clause-work : goal.judge_program-requires-clause-work
judge_program-requires-clause-work c =
    let s = there c in
    let part = test_work-le-at (soc_value c.args.soc.now) c.in-Some.place c.in-Some.at (module_value c.module_at-module.result.now) c.index.result.now s.here s.there s.live in
    omega (arith, part, work-le (soc_value c.args.soc.now) c.requires.chip.size)

pub judge_program-requires-clause-tam : goal.judge_program-requires-clause-tam
judge_program-requires-clause-tam c = let s = there c in s.tam

pub returns-in-Some : goal.returns-in-Some
returns-in-Some c =
    let f = c.in-Some.ensures.found in
    judged_there (soc_value c.args.soc.now) (plan_value c.args.plan.now) (program_value c.args.program.now) c.in-Some.place c.in-Some.at f.0 (module_value c.module_at-module.result.now) f.1 c.index.result.now _ f.2 f.3 c.module_at-module.ensures c.index.ensures f.5 c.judge_program.ensures
