use Rattle.plan_checker.proofs.NamesApart.{name_found, name_missing}
use Rattle.plan_checker.proofs.named.live_place.Goals as goal

pub returns-clause-found : goal.returns-clause-found
returns-clause-found c = name_found c.args.id c.args.tests.now c.place.result c.place.ensures

pub returns-clause-none : goal.returns-clause-none
returns-clause-none c = name_missing c.args.id c.args.tests.now c.place.result c.place.ensures
