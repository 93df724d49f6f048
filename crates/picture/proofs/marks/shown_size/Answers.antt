use Rattle.std.proofs.Common.{◌∙◌, sym}
use Rattle.picture.proofs.Readable.{shown_size}
use Rattle.picture.proofs.marks.shown_size.Goals as goal

pub returns-clause-is : goal.returns-clause-is
returns-clause-is c = c.min.ensures ∙ sym (shown_size c.args.name.now)
