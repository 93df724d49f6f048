use Rattle.bound_certificate.proofs.Links.{AreLinkedTo}
use Rattle.bound_certificate.proofs.nodes.link_nodes.Given as goal

abbrev pub invariant-loop-place : goal.invariant-loop-place
invariant-loop-place l = AreLinkedTo l.initial.nodes.items l.nodes.items l.initial.lists.items l.lists.items l.place
