use Rattle.soc_reader.proofs.EachText.{each_text}
use Rattle.soc_reader.proofs.each_text_has_an_answer.Goals as goal

pub returns : goal.returns
returns c = each_text
