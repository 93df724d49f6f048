use Rattle.commands.proofs.WordLaws.{each_has_words}
use Rattle.commands.proofs.words.each_command_has_words.Goals as goal

pub returns : goal.returns
returns c = each_has_words
