use Rattle.std.proofs.Common.{map, string_bytes}
use Rattle.commands.specs.Commands.{command_of}
use Rattle.commands.proofs.WordLaws.{in_range}
use Rattle.commands.proofs.words.command_of.Goals as goal

pub returns-clause-in_range : goal.returns-clause-in_range
returns-clause-in_range c = in_range c.named.result (command_of (map string_bytes c.args.words.now)) c.named.ensures.value c.named.ensures.range
