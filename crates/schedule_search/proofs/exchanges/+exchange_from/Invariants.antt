use Rattle.std.proofs.Common.{◌-◌, length}
use Rattle.schedule_search.proofs.exchanges.+exchange_from.Given as goal

abbrev pub decreases-exchange_from : goal.decreases-exchange_from
decreases-exchange_from g l = length l.order.now - l.place
