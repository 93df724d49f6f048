use Rattle.resource_table.specs.Jobs.{job_value}
use Rattle.schedule_search.specs.Progress.{stand_of}
use Rattle.schedule_search.proofs.PlacedOrders.{first_topological}
use Rattle.schedule_search.proofs.Searching.{begun_best, begun_behind, searched, explored_all}
use Rattle.schedule_search.proofs.search.search_orders.Goals as goal

pub explore_orders-requires-clause-best : goal.explore_orders-requires-clause-best
explore_orders-requires-clause-best g c = begun_best (job_value c.args.job.now) c.args.first.now (stand_of c.begin_orders.new.progress) c.requires.first (first_topological (job_value c.args.job.now) c.args.first.now c.requires.first) c.begin_orders.ensures.begun

pub explore_orders-requires-clause-none_before : goal.explore_orders-requires-clause-none_before
explore_orders-requires-clause-none_before g c = begun_behind (job_value c.args.job.now) c.args.first.now (stand_of c.begin_orders.new.progress) c.begin.new.self.tests.items c.requires.first c.begin_orders.ensures.begun c.begin.ensures.tests

pub returns-clause-found : goal.returns-clause-found
returns-clause-found g c =
    searched (job_value c.args.job.now) c.args.tries.now.budget c.args.first.now (stand_of c.begin_orders.new.progress) (stand_of c.explore_orders.new.progress) (stand_of c.improve_best.new.progress) c.begin_orders.ensures.begun c.explore_orders.ensures.best
    (explored_all (job_value c.args.job.now) c.args.tries.now.budget c.begin.new.self.tests.items (stand_of c.begin_orders.new.progress) (stand_of c.explore_orders.new.progress) c.begin.ensures.tests c.explore_orders.ensures.explored) c.improve_best.ensures.improved
