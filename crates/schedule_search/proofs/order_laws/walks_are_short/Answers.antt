use Rattle.std.proofs.Common.{refl}
use Rattle.schedule_search.proofs.WalkCounts.{lists_are, walk_short, entries_few, searched_whole}
use Rattle.schedule_search.proofs.order_laws.walks_are_short.Goals as goal

pub returns-clause-lists : goal.returns-clause-lists
returns-clause-lists c = lists_are

pub returns-clause-few : goal.returns-clause-few
returns-clause-few c = walk_short

pub returns-clause-few_open : goal.returns-clause-few_open
returns-clause-few_open c = λ job entries in_ open_. entries_few job entries in_

pub returns-clause-complete : goal.returns-clause-complete
returns-clause-complete c = searched_whole

pub returns-clause-seven : goal.returns-clause-seven
returns-clause-seven c = refl
