use Rattle.shift_program.proofs.Texts.{one_answer}
use Rattle.shift_program.proofs.laws.program_texts_have_one_answer.Goals as goal

pub returns : goal.returns
returns c = one_answer
