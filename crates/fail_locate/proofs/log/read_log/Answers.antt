use Rattle.fail_locate.proofs.ReadLogs.{reads_logs}
use Rattle.fail_locate.proofs.log.read_log.Goals as goal

pub read_by-requires-clause-reads : goal.read_by-requires-clause-reads
read_by-requires-clause-reads c κs = reads_logs
