use Rattle.std.proofs.Common.{sym}
use Rattle.plan_model.proofs.OperationCounts.{ops_length}
use Rattle.plan_model.proofs.times.closed_time.Goals as goal

pub returns-clause-time : goal.returns-clause-time
returns-clause-time c = rw (c.max.ensures, c.min.ensures) (sym (ops_length c.args.setup c.args.si c.args.so c.args.p c.requires.patterns))
