use Rattle.indexmap.specs.IndexSet.{keys}
use Rattle.plan_checker.proofs.NamesApart.{name_found, name_missing}
use Rattle.plan_checker.proofs.named.listed_place.Goals as goal

pub returns-clause-found : goal.returns-clause-found
returns-clause-found c = name_found c.args.id (keys c.args.names.now) c.get_index_of.result c.get_index_of.ensures.index

pub returns-clause-none : goal.returns-clause-none
returns-clause-none c = name_missing c.args.id (keys c.args.names.now) c.get_index_of.result c.get_index_of.ensures.index
