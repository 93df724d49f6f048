use Rattle.std.proofs.Common.{◌≡◌, ℕ, List, IfOk, Err, refl, subst}
use Rattle.fail_locate.specs.LogAnswers.{LogRead, SaysLog}
use Rattle.commands.proofs.OwnFiles.{bytes_answered, bytes_refused}
use Rattle.plan_commands.specs.LocateText.{locate_text}
use Rattle.plan_commands.specs.LogReadings.{RefusesFails}
use Rattle.plan_commands.specs.Texts.{log_line}
use Rattle.plan_commands.proofs.logs.answer_log.Goals as goal

pub returns-in-Ok : goal.returns-in-Ok
returns-in-Ok c =
    let text = subst (λ (fails : List (ℕ × ℕ)). IfOk c.located.result (λ text. text.items ≡ locate_text c.args.all.now.soc c.args.all.now.plan fails)) c.as_slice.ensures.value c.located.ensures in
    bytes_answered SaysLog RefusesFails (locate_text c.args.all.now.soc c.args.all.now.plan) c.args.bytes.now c.in-Ok.fails.items _ _ c.in-Ok.ensures text c.answered_with.ensures

pub returns-in-Err-Text : goal.returns-in-Err-Text
returns-in-Err-Text c =
    let why = subst (λ fault. LogRead c.args.bytes.now (Err fault)) c.in-Err-Text.field-0-is c.in-Err-Text.ensures in
    bytes_refused SaysLog RefusesFails (locate_text c.args.all.now.soc c.args.all.now.plan) c.args.bytes.now (log_line c.in-Err-Text.line) _ _ (c.in-Err-Text.line, why, refl) c.log_line.ensures.text c.log_line.ensures.line c.refused_with.ensures
