use Rattle.fail_locate.proofs.ReadLogs.{reads_logs}
use Rattle.fail_locate.proofs.laws.logs_are_not_refused.Goals as goal

pub texts_are_settled-requires-after_bounds : goal.texts_are_settled-requires-after_bounds
texts_are_settled-requires-after_bounds c κs = reads_logs
