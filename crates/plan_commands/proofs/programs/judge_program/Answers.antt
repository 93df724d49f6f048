use Rattle.std.proofs.Common.{Some, map, ap, sym}
use Rattle.std.proofs.lemmas.Bool.{and_parts}
use Rattle.soc_model.specs.Chips.{module_value, is_live}
use Rattle.plan_model.specs.Views.{plan_value, wrapper_value}
use Rattle.shift_program.specs.Programs.{program_value}
use Rattle.plan_commands.specs.ShiftPrograms.{program_fault_line}
use Rattle.plan_commands.proofs.ProgramAnswers.{right_for, fault_for, judged_right, judged_refused}
use Rattle.plan_commands.proofs.programs.judge_program.Goals as goal

pub returns-in-Ok-judged : goal.returns-in-Ok-judged
returns-in-Ok-judged c =
    let e = c.in-Ok-judged.ensures in
    let tam = and_parts (is_live c.args.test.now) c.args.test.now.tam c.requires.tam in
    let right = right_for (plan_value c.args.plan.now) (program_value c.args.program.now) (module_value c.args.«module».now) c.args.test.now (wrapper_value c.wrapper_for-wrapper.result.now) c.in-Ok-judged.done c.wrapper_for-wrapper.ensures.same tam.1 e.right e.operations e.least in
    judged_right (plan_value c.args.plan.now) (program_value c.args.program.now) (module_value c.args.«module».now) c.args.test.now c.in-Ok-judged.done c.test_cycles-cycles.result _ _ right c.accepted_program.ensures e.operations
    (c.test_cycles-cycles.ensures.time (plan_value c.args.plan.now) (ap (map wrapper_value) (sym c.deref.ensures.value))) c.answered_with.ensures

pub returns-in-Err : goal.returns-in-Err
returns-in-Err c =
    let fault = fault_for (plan_value c.args.plan.now) (program_value c.args.program.now) (module_value c.args.«module».now) c.args.test.now (wrapper_value c.wrapper_for-wrapper.result.now) c.in-Err.fault c.wrapper_for-wrapper.ensures.same c.in-Err.ensures.fault in
    judged_refused (plan_value c.args.plan.now) (program_value c.args.program.now) (Some (module_value c.args.«module».now, c.args.test.now)) (program_fault_line c.in-Err.fault) _ _ fault c.program_fault_line.ensures.text c.program_fault_line.ensures.line c.refused_with.ensures
