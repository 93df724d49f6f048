use Rattle.fail_locate.proofs.CountedBack.{finds_reads}
use Rattle.fail_locate.proofs.laws.spots_are_reads.Goals as goal

pub returns : goal.returns
returns c = finds_reads
