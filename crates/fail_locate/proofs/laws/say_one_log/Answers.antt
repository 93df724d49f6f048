use Rattle.fail_locate.proofs.ReadLogs.{reads_logs}
use Rattle.fail_locate.proofs.laws.say_one_log.Goals as goal

pub texts_are_settled-requires-after_bounds : goal.texts_are_settled-requires-after_bounds
texts_are_settled-requires-after_bounds c κs = reads_logs
