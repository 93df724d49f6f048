use Rattle.std.proofs.Common.{◌≡◌, ◌<◌, Some, length, arith, slice_get}
use Rattle.bit_machine.proofs.LaneSteps.{ring_long, ring_stepped, lane_bits_stepped}
use Rattle.common_lemmas.proofs.Lists.{slice_at}
use Rattle.bit_machine.proofs.stepped.SteppedLane.step.Goals as goal

pub step_ring-requires-clause-fits : goal.step_ring-requires-clause-fits
step_ring-requires-clause-fits c =
    let within : c.args.chain < length c.args.self.now.lane.paths.items = omega (arith, c.if-chain-len.false, c.len.ensures, c.args.self.now.lane.paths.ok.0) in
    let at : slice_get c.args.self.now.lane.paths.items c.args.chain ≡ Some c.index-path.result.now = slice_at c.args.self.now.lane.paths.items c.args.chain c.index-path.result.now within c.index-path.ensures in
    omega (arith, ring_long c.args.chain c.requires.rings at c.index_mut.ensures.value, (c.requires.ready.paths c.args.chain c.index-path.result.now at).answers)

pub returns-clause-ready : goal.returns-clause-ready
returns-clause-ready c =
    let within : c.args.chain < length c.args.self.now.lane.paths.items = omega (arith, c.if-chain-len.false, c.len.ensures, c.args.self.now.lane.paths.ok.0) in
    let at : slice_get c.args.self.now.lane.paths.items c.args.chain ≡ Some c.index-path.result.now = slice_at c.args.self.now.lane.paths.items c.args.chain c.index-path.result.now within c.index-path.ensures in
    ring_stepped c.args.chain c.step_ring.new.ring at c.requires c.index_mut.ensures.value c.step_ring.ensures.long

pub returns-clause-bits : goal.returns-clause-bits
returns-clause-bits c = λ content t cycle tam is now.
    let within : c.args.chain < length c.args.self.now.lane.paths.items = omega (arith, c.if-chain-len.false, c.len.ensures, c.args.self.now.lane.paths.ok.0) in
    let at : slice_get c.args.self.now.lane.paths.items c.args.chain ≡ Some c.index-path.result.now = slice_at c.args.self.now.lane.paths.items c.args.chain c.index-path.result.now within c.index-path.ensures in
    lane_bits_stepped c.args.chain c.step_ring.new.ring at c.args.drive tam is c.requires.rings now c.index_mut.ensures.value c.step_ring.ensures.bits
