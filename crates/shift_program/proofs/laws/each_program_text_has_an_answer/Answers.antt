use Rattle.shift_program.proofs.Texts.{each_text}
use Rattle.shift_program.proofs.laws.each_program_text_has_an_answer.Goals as goal

pub returns : goal.returns
returns c = each_text
