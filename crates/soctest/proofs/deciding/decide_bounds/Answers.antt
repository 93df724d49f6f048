use Rattle.soctest.specs.Commands.{procedure_of}
use Rattle.soctest.proofs.SameCommand.{decides_as, loads_as}
use Rattle.soctest.proofs.deciding.decide_bounds.Goals as goal

pub returns-in-Tree-clause-decides : goal.returns-in-Tree-clause-decides
unfolding procedure_of
returns-in-Tree-clause-decides g c = decides_as _ _ _ _ c.in-Tree.is c.decide_tree.ensures.follows

pub returns-in-Tree-clause-by_loads : goal.returns-in-Tree-clause-by_loads
unfolding procedure_of
returns-in-Tree-clause-by_loads g c = loads_as _ _ _ _ c.in-Tree.is c.decide_tree.ensures.by_loads

pub returns-in-Bound-clause-decides : goal.returns-in-Bound-clause-decides
unfolding procedure_of
returns-in-Bound-clause-decides g c = decides_as _ _ _ _ c.in-Bound.is c.decide_bound.ensures.follows

pub returns-in-Bound-clause-by_loads : goal.returns-in-Bound-clause-by_loads
unfolding procedure_of
returns-in-Bound-clause-by_loads g c = loads_as _ _ _ _ c.in-Bound.is c.decide_bound.ensures.by_loads

pub returns-in-Picture-clause-decides : goal.returns-in-Picture-clause-decides
unfolding procedure_of
returns-in-Picture-clause-decides g c = decides_as _ _ _ _ c.in-Picture.is c.decide_picture.ensures.follows

pub returns-in-Picture-clause-by_loads : goal.returns-in-Picture-clause-by_loads
unfolding procedure_of
returns-in-Picture-clause-by_loads g c = loads_as _ _ _ _ c.in-Picture.is c.decide_picture.ensures.by_loads

pub returns-in-PictureWithProof-clause-decides : goal.returns-in-PictureWithProof-clause-decides
unfolding procedure_of
returns-in-PictureWithProof-clause-decides g c = decides_as _ _ _ _ c.in-PictureWithProof.is c.decide_picture_with_proof.ensures.follows

pub returns-in-PictureWithProof-clause-by_loads : goal.returns-in-PictureWithProof-clause-by_loads
unfolding procedure_of
returns-in-PictureWithProof-clause-by_loads g c = loads_as _ _ _ _ c.in-PictureWithProof.is c.decide_picture_with_proof.ensures.by_loads
