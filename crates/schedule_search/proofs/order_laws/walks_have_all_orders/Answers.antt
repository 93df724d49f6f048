use Rattle.schedule_search.proofs.Walking.{in_walk, in_walk_ready, ready_in_walk}
use Rattle.schedule_search.proofs.order_laws.walks_have_all_orders.Goals as goal

pub returns-clause-ready : goal.returns-clause-ready
returns-clause-ready c = ready_in_walk

pub returns-clause-has : goal.returns-clause-has
returns-clause-has c = in_walk_ready

pub returns-clause-orders : goal.returns-clause-orders
returns-clause-orders c = in_walk
