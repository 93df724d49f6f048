use Rattle.std.proofs.Common.{Err, inl, refl, subst}
use Rattle.soc_model.specs.Chips.{soc_value}
use Rattle.plan_model.specs.Views.{plan_value}
use Rattle.shift_program.specs.Answers.{ProgramRead}
use Rattle.commands.proofs.OwnFiles.{bytes_refused}
use Rattle.plan_commands.specs.ShiftPrograms.{SaysRight, RefusesProgram, accepted_program, program_line}
use Rattle.plan_commands.proofs.programs.answer_program.Goals as goal

pub returns-in-Err-Text : goal.returns-in-Err-Text
returns-in-Err-Text c =
    let why = subst (λ fault. ProgramRead c.args.bytes.now (Err fault)) c.in-Err-Text.field-0-is c.in-Err-Text.ensures in
    bytes_refused (SaysRight (soc_value c.args.soc.now) (plan_value c.args.plan.now)) (RefusesProgram (soc_value c.args.soc.now) (plan_value c.args.plan.now)) (accepted_program (soc_value c.args.soc.now) (plan_value c.args.plan.now)) c.args.bytes.now (program_line c.in-Err-Text.line) _ _ (inl (c.in-Err-Text.line, why, refl)) c.program_line.ensures.text c.program_line.ensures.line c.refused_with.ensures
