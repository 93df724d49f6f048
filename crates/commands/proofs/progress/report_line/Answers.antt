use Rattle.std.proofs.Common.{false}
use Rattle.outside.specs.Puts.{Puts}
use Rattle.commands.proofs.progress.report_line.Goals as goal

pub returns-in-Err-clause-puts : goal.returns-in-Err-clause-puts
returns-in-Err-clause-puts g c = (false, Puts.begins)
