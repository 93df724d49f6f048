use Rattle.resource_table.proofs.Rewinding.{taken_back, places_left}
use Rattle.resource_table.proofs.history.take_back.Goals as goal

pub returns-in-Some-clause-same : goal.returns-in-Some-clause-same
returns-in-Some-clause-same c n lt =
    taken_back c.args.history.now.log.items c.pop.new.self.items c.in-Some.last c.args.history.now.values.items n c.in-Some.ensures.items lt

pub returns-in-Some-clause-places : goal.returns-in-Some-clause-places
returns-in-Some-clause-places c =
    places_left c.args.history.now.log.items c.pop.new.self.items c.in-Some.last c.args.history.now.values.items c.in-Some.ensures.items c.requires.places
