use Rattle.std.proofs.Common.{◌∙◌, length}
use Rattle.arch_schedule.proofs.Refilled.{with_second}
use Rattle.arch_search.proofs.weighing.place_by_chains.Goals as goal

pub place_order-requires-clause-room : goal.place_order-requires-clause-room
place_order-requires-clause-room g c = with_second (length c.args.problem.now.tests.items) c.order_by_chains.new.self c.swap.new.y c.args.state.now.order c.swap.ensures.y_after (c.order_by_chains.ensures.room _ c.requires.room) c.requires.state.as_many_tests c.requires.state.within

pub returns-clause-room : goal.returns-clause-room
returns-clause-room g c = with_second (length c.args.problem.now.tests.items) c.place_order.new.room c.swap-2.new.y c.order_by_chains.new.self.second (c.swap-2.ensures.y_after ∙ c.swap.ensures.x_after) c.place_order.ensures.room (c.order_by_chains.ensures.room (length c.args.problem.now.tests.items) c.requires.room).second (c.order_by_chains.ensures.room (length c.args.problem.now.tests.items) c.requires.room).in_second
