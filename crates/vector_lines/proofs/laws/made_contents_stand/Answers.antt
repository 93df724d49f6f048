use Rattle.vector_lines.proofs.MadeStand.{made_stand}
use Rattle.vector_lines.proofs.laws.made_contents_stand.Goals as goal

pub returns : goal.returns
returns c = made_stand
