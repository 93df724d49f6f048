use Rattle.soctest.specs.Commands.{procedure_of}
use Rattle.soctest.proofs.SameCommand.{decides_as, loads_as}
use Rattle.soctest.proofs.deciding.decide_searches.Goals as goal

pub returns-in-Improve-clause-decides : goal.returns-in-Improve-clause-decides
unfolding procedure_of
returns-in-Improve-clause-decides g c = decides_as _ _ _ _ c.in-Improve.is c.decide_improve.ensures.follows

pub returns-in-Improve-clause-by_loads : goal.returns-in-Improve-clause-by_loads
unfolding procedure_of
returns-in-Improve-clause-by_loads g c = loads_as _ _ _ _ c.in-Improve.is c.decide_improve.ensures.by_loads

pub returns-in-Prove-clause-decides : goal.returns-in-Prove-clause-decides
unfolding procedure_of
returns-in-Prove-clause-decides g c = decides_as _ _ _ _ c.in-Prove.is c.decide_prove.ensures.follows

pub returns-in-Prove-clause-by_loads : goal.returns-in-Prove-clause-by_loads
unfolding procedure_of
returns-in-Prove-clause-by_loads g c = loads_as _ _ _ _ c.in-Prove.is c.decide_prove.ensures.by_loads
