use Rattle.std.proofs.Common.{◌≡◌, ◌<◌, ◌∙◌, Some, sym, ap, length, arith, nat_lt, option_map}
use Rattle.plan_model.specs.Moments.{near_capture, moment_behind}
use Rattle.bit_machine.proofs.LaneSteps.{read_within}
use Rattle.common_lemmas.proofs.Lists.{slice_at}
use Rattle.bit_machine.proofs.stepped.SteppedLane.is_read.Goals as goal

pub returns-in-Some : goal.returns-in-Some
returns-in-Some c = λ content t tam is.
    let within : c.args.chain < length c.args.self.now.lane.paths.items = omega (arith, c.if-chain-len.false, c.len.ensures, c.args.self.now.lane.paths.ok.0) in
    let behind : moment_behind c.args.self.now.moment ≡ Some (c.in-Some.near.shifts, c.in-Some.near.pattern) = sym c.behind.ensures ∙ ap (option_map near_capture) c.in-Some.is in
    ap (nat_lt c.in-Some.near.shifts) c.len-in-Some.ensures
    ∙ read_within c.args.self.now c.args.chain c.in-Some.near.shifts c.in-Some.near.pattern tam is (slice_at c.args.self.now.lane.paths.items c.args.chain c.index.result.now within c.index.ensures) behind
