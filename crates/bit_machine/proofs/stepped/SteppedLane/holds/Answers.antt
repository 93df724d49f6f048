use Rattle.std.proofs.Common.{◌≡◌, ◌<◌, ◌≤◌, Some, true, false, length, sym, arith, slice_get}
use Rattle.bit_machine.proofs.LaneSteps.{ring_long, path_holds_in, path_holds_next, all_hold, one_differs}
use Rattle.common_lemmas.proofs.Lists.{slice_at}
use Rattle.bit_machine.proofs.stepped.SteppedLane.holds.Goals as goal

pub returns-then-not-holds_stimulus : goal.returns-then-not-holds_stimulus
returns-then-not-holds_stimulus c = λ content t tam is.
    let within : c.loop-chain.chain < length c.args.self.now.lane.paths.items = omega (arith, c.loop-chain-test.true, c.len-chain-end.ensures, c.args.self.now.lane.paths.ok.0) in
    let at : slice_get c.args.self.now.lane.paths.items c.loop-chain.chain ≡ Some c.index-path.result.now = slice_at c.args.self.now.lane.paths.items c.loop-chain.chain c.index-path.result.now within c.index-path.ensures in
    one_differs tam is c.requires.rings c.args.pattern c.loop-chain.chain within (path_holds_in tam is c.requires.rings c.args.pattern c.loop-chain.chain false at c.index.ensures
    (λ inputs lengths cells path all. rw (sym c.if-not-holds_stimulus.true) (c.holds_stimulus.ensures inputs lengths cells path all)))

pub loop-chain-preserved : goal.loop-chain-preserved
loop-chain-preserved c = λ content t tam is.
    let within : c.loop-chain.chain < length c.args.self.now.lane.paths.items = omega (arith, c.loop-chain-test.true, c.len-chain-end.ensures, c.args.self.now.lane.paths.ok.0) in
    let at : slice_get c.args.self.now.lane.paths.items c.loop-chain.chain ≡ Some c.index-path.result.now = slice_at c.args.self.now.lane.paths.items c.loop-chain.chain c.index-path.result.now within c.index-path.ensures in
    path_holds_next content t c.args.self.now c.args.pattern c.loop-chain.chain (c.loop-chain.invariant content t tam is)
    (path_holds_in tam is c.requires.rings c.args.pattern c.loop-chain.chain true at c.index.ensures (λ inputs lengths cells path all. rw (sym c.if-not-holds_stimulus.false) (c.holds_stimulus.ensures inputs lengths cells path all)))

pub holds_stimulus-requires-clause-fits : goal.holds_stimulus-requires-clause-fits
holds_stimulus-requires-clause-fits c =
    let within : c.loop-chain.chain < length c.args.self.now.lane.paths.items = omega (arith, c.loop-chain-test.true, c.len-chain-end.ensures, c.args.self.now.lane.paths.ok.0) in
    let at : slice_get c.args.self.now.lane.paths.items c.loop-chain.chain ≡ Some c.index-path.result.now = slice_at c.args.self.now.lane.paths.items c.loop-chain.chain c.index-path.result.now within c.index-path.ensures in
    omega (arith, ring_long c.loop-chain.chain c.requires.rings at c.index.ensures, (c.requires.ready.paths c.loop-chain.chain c.index-path.result.now at).loads)

pub returns : goal.returns
returns c = λ content t tam is.
    let past : length c.args.self.now.lane.paths.items ≤ c.loop-chain.chain = omega (arith, c.loop-chain-test.false, c.len-chain-end.ensures, c.args.self.now.lane.paths.ok.0) in
    all_hold tam is c.requires.rings c.args.pattern c.loop-chain.chain past (c.loop-chain.invariant content t tam is)
