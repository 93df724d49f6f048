use Rattle.tester_vectors.specs.Marks.{response_digits}
use Rattle.tester_vectors.proofs.ReadBits.{marks_stand_in}
use Rattle.tester_vectors.proofs.laws.marks_are_reads.Goals as goal

pub returns : goal.returns
returns c = λ soc limits plan content good. marks_stand_in soc limits plan (response_digits content) good
