use Rattle.std.proofs.Common.{◌∙◌, ◌+◌, sym, ap, arith}
use Rattle.bit_machine.specs.Machines.{lanes_state, one_capture, one_right}
use Rattle.bit_machine.proofs.Counting.{nothing_below, capture_more, right_more, all_captures, all_rights}
use Rattle.bit_machine.proofs.machine.Machine.captures.Goals as goal

pub loop-wire-init : goal.loop-wire-init
loop-wire-init c = record {
  few = omega arith;
  fit = omega arith;
  captures = λ content tests is. (nothing_below content tests (lanes_state c.args.self.now.lanes.items) c.args.self.now.cycle).0;
  rights = λ content tests is. (nothing_below content tests (lanes_state c.args.self.now.lanes.items) c.args.self.now.cycle).1;
}

pub loop-wire-preserved : goal.loop-wire-preserved
loop-wire-preserved c = record {
  few = c.count_capture-counts.ensures.few;
  fit = omega (arith, c.count_capture-counts.ensures.one, c.loop-wire.invariant.fit);
  captures = λ content tests is.
      c.count_capture-counts.ensures.captures ∙ ap (λ n. n + one_capture c.capture_of.result) (c.loop-wire.invariant.captures content tests is)
      ∙ sym (capture_more is c.capture_of.result (c.capture_of.ensures content tests is));
  rights = λ content tests is.
      c.count_capture-counts.ensures.right ∙ ap (λ n. n + one_right c.capture_of.result) (c.loop-wire.invariant.rights content tests is)
      ∙ sym (right_more is (c.capture_of.ensures content tests is));
}

pub returns-clause-captures : goal.returns-clause-captures
returns-clause-captures c = λ content tests is.
    c.loop-wire.invariant.captures content tests is ∙ all_captures is c.loop-wire.wire (omega (arith, c.loop-wire-test.false, c.len-wire-end.ensures, c.args.self.now.users.ok.0))

pub returns-clause-right : goal.returns-clause-right
returns-clause-right c = λ content tests is.
    c.loop-wire.invariant.rights content tests is ∙ all_rights is c.loop-wire.wire (omega (arith, c.loop-wire-test.false, c.len-wire-end.ensures, c.args.self.now.users.ok.0))
