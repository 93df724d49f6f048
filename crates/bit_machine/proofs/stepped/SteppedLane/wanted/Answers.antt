use Rattle.std.proofs.Common.{◌≡◌, ◌<◌, ◌%◌, ◌∙◌, Some, sym, ap, length, arith, slice_index, option_map}
use Rattle.plan_model.specs.Moments.{near_capture, moment_ahead}
use Rattle.bit_machine.specs.Packed.{is_set}
use Rattle.bit_machine.proofs.LaneSteps.{wanted_bit}
use Rattle.common_lemmas.proofs.Lists.{any_default}
use Rattle.bit_machine.proofs.stepped.SteppedLane.wanted.Goals as goal

pub returns-in-Some : goal.returns-in-Some
returns-in-Some c = λ content t cycle tam is now.
    let within : c.args.chain < length c.args.self.now.pages.items = omega (arith, c.if-chain-len.false, c.len.ensures, c.args.self.now.pages.ok.0) in
    let ahead : moment_ahead c.args.self.now.moment ≡ Some (c.in-Some.near.shifts, c.in-Some.near.pattern) = sym c.ahead.ensures ∙ ap (option_map near_capture) c.in-Some.is in
    let word : c.index.result.now ≡ slice_index c.args.self.now.pages.items c.args.chain = c.index.ensures ∙ any_default c.args.self.now.pages.items c.args.chain c.index.result.now 0 within in
    c.is_set.ensures ∙ ap (λ word. is_set word (c.in-Some.near.shifts % 64)) word ∙ wanted_bit tam is now c.args.chain c.in-Some.near.shifts c.in-Some.near.pattern c.requires.pages ahead within
