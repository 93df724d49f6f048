use Rattle.tester_vectors.proofs.ReadBits.{marks_stand_in}
use Rattle.tester_vectors.proofs.laws.marks_stand.Goals as goal

pub returns : goal.returns
returns c = λ soc limits plan marks good. marks_stand_in soc limits plan marks good
