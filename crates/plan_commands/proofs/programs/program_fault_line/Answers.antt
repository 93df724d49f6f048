use Rattle.std.proofs.Common.{arith, IsTrue}
use Rattle.std.proofs.lemmas.Grind.{common_steps}
use Rattle.commands.specs.Texts.{no_feed}
use Rattle.commands.proofs.LineFacts.{line_from}
use Rattle.plan_commands.proofs.programs.program_fault_line.Goals as goal

pub returns-clause-line : goal.returns-clause-line
returns-clause-line c =
    let front : IsTrue (no_feed c.push_text.new.to.items) = grind (arith, common_steps, c.in_ok-push_text.ensures.plain) in
    let middle : IsTrue (no_feed c.push_text-2.new.to.items) = grind (arith, common_steps, c.in_ok-push_text-2.ensures.plain, c.in_ok-push_decimal.ensures.plain front, c.fault_word.ensures.plain) in
    line_from _ _ c.in_ok-push_text-3.ensures.text middle
