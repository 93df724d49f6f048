use Rattle.std.proofs.Common.{◌-◌}
use Rattle.fail_locate.proofs.FoundSpots.{turn_is}
use Rattle.fail_locate.proofs.locator.capture_behind.Goals as goal

pub returns : goal.returns
returns c = turn_is c.args.test.now.phases (c.args.cycle - c.args.test.now.start) c.at.result c.behind.result c.at.ensures c.behind.ensures
