use Rattle.soc_reader.proofs.ChipsSaid.{one_chip}
use Rattle.soc_reader.proofs.OneAnswer.{one_line, one_limit, no_line-from_chip, no_line-from_limit, no_limit-from_chip}
use Rattle.soc_reader.proofs.texts_have_one_answer.Goals as goal

pub returns : goal.returns
returns c = record {
  chip = one_chip;
  line = one_line;
  limit = one_limit;
  chip_or_line = no_line-from_chip;
  chip_or_limit = no_limit-from_chip;
  limit_or_line = no_line-from_limit;
}
