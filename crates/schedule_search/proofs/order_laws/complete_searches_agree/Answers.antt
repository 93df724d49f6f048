use Rattle.schedule_search.proofs.Agreeing.{same_order, same_starts, same_cycles}
use Rattle.schedule_search.proofs.order_laws.complete_searches_agree.Goals as goal

pub returns-clause-order : goal.returns-clause-order
returns-clause-order c = same_order

pub returns-clause-starts : goal.returns-clause-starts
returns-clause-starts c = same_starts

pub returns-clause-cycles : goal.returns-clause-cycles
returns-clause-cycles c = same_cycles
