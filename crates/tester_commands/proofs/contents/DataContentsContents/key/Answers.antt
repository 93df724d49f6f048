use Rattle.std.proofs.Common.{◌∙◌}
use Rattle.tester_commands.proofs.SaidBits.{no_entry}
use Rattle.tester_commands.proofs.contents.DataContentsContents.key.Goals as goal

pub returns-in-None : goal.returns-in-None
returns-in-None c = c.len.ensures ∙ no_entry c.args.self.now.test_data.now c.args.id c.in-None.ensures
