use Rattle.std.proofs.Common.{◌∙◌, ap, sym}
use Rattle.std.proofs.lemmas.Option.{slice_get-get_or}
use Rattle.bit_machine.specs.declared.stepped.SteppedLane.{SteppedLane}
use Rattle.vector_lines.proofs.Columns.{set_elsewhere}
use Rattle.bit_machine.proofs.Standing.{own_unstood, own_stood}
use Rattle.bit_machine.proofs.machine.stand_at.Goals as goal

pub returns-then-lanes-place-clause-own : goal.returns-then-lanes-place-clause-own
returns-then-lanes-place-clause-own c = λ l at. own_unstood c.args.lanes.now c.args.place c.args.wire c.args.cycle at c.index-lanes-place.is
    (λ e. c.if-lanes-place.true (ap (λ (l : SteppedLane). l.lane.first_wire) (sym c.index-lanes-place.is) ∙ e)) (c.requires.ready l at).0

pub stand-requires-clause-ready : goal.stand-requires-clause-ready
stand-requires-clause-ready c = (c.requires.ready _ (slice_get-get_or c.args.lanes.now c.args.place c.index-lanes-place-2.result c.requires.within)).0

pub stand-requires-clause-busy : goal.stand-requires-clause-busy
stand-requires-clause-busy c = (c.requires.ready _ (slice_get-get_or c.args.lanes.now c.args.place c.index-lanes-place-2.result c.requires.within)).1

pub returns-clause-others : goal.returns-clause-others
returns-clause-others c = λ i other. set_elsewhere c.args.lanes.now c.args.place i c.stand.new.self other

pub returns-clause-own : goal.returns-clause-own
returns-clause-own c = λ l at.
    own_stood c.args.lanes.now c.args.place c.args.wire c.args.cycle c.requires.within (slice_get-get_or c.args.lanes.now c.args.place c.index-lanes-place-2.result c.requires.within) at c.stand.ensures.same c.stand.ensures.pages c.stand.ensures.now
