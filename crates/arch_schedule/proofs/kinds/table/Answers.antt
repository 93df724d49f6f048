use Rattle.arch_schedule.proofs.KindTable.{each_kind}
use Rattle.arch_schedule.proofs.kinds.table.Goals as goal

pub returns : goal.returns
returns c = each_kind
