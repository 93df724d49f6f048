use Rattle.schedule_search.proofs.Walking.{ready_in_walk}
use Rattle.schedule_search.proofs.WalkOrders.{walk_in_order, walk_once, walk_begins, begins_in_walk}
use Rattle.schedule_search.proofs.order_laws.walks_are_in_order.Goals as goal

pub returns-clause-order : goal.returns-clause-order
returns-clause-order c = walk_in_order

pub returns-clause-once : goal.returns-clause-once
returns-clause-once c = walk_once

pub returns-clause-begin_orders : goal.returns-clause-begin_orders
returns-clause-begin_orders c = λ job entry sound there. walk_begins job entry sound (ready_in_walk job entry there)

pub returns-clause-beginnings : goal.returns-clause-beginnings
returns-clause-beginnings c = begins_in_walk
