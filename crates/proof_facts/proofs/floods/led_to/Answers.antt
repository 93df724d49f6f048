use Rattle.std.proofs.Common.{◌∙◌, sym, ◌<◌, arith, length, map}
use Rattle.live_tests.specs.Neighbours.{tests_of}
use Rattle.proof_facts.proofs.Flooding.{flood_goes_on, flood_ends, popped_in, next_is, length-lists, among_lists, nothing_left}
use Rattle.proof_facts.proofs.floods.led_to.Goals as goal

pub bounds-lists-test : goal.bounds-lists-test
bounds-lists-test c = omega (arith, length-lists c.args.lists.now, c.loop-test.invariant.within c.in-Some.test (popped_in c.in-Some.test c.loop-test.stack.items c.pop.new.self.items c.in-Some.ensures.items))

pub offset_bounds-lists-test : goal.offset_bounds-lists-test
offset_bounds-lists-test c = omega (arith, bounds-lists-test c)

pub mark_all-requires : goal.mark_all-requires
mark_all-requires c = λ j h.
    let within : c.in-Some.test < length c.args.lists.now = omega (arith, length-lists c.args.lists.now, c.loop-test.invariant.within c.in-Some.test (popped_in c.in-Some.test c.loop-test.stack.items c.pop.new.self.items c.in-Some.ensures.items)) in
    omega (arith, length-lists c.args.lists.now, c.loop-test.invariant.long, c.requires.among c.in-Some.test j (rw (c.deref.ensures.value ∙ next_is c.args.lists.now c.in-Some.test c.index-lists-test.result within) at h))

pub loop-test-preserved : goal.loop-test-preserved
loop-test-preserved c =
    let within : c.in-Some.test < length c.args.lists.now = omega (arith, length-lists c.args.lists.now, c.loop-test.invariant.within c.in-Some.test (popped_in c.in-Some.test c.loop-test.stack.items c.pop.new.self.items c.in-Some.ensures.items)) in
    flood_goes_on (map tests_of c.args.lists.now) c.args.from c.in-Some.test c.deref.result.now c.loop-test.marks.items c.mark_all.new.marks.items c.loop-test.stack.items c.pop.new.self.items c.mark_all.new.stack.items
    c.in-Some.ensures.items (c.deref.ensures.value ∙ next_is c.args.lists.now c.in-Some.test c.index-lists-test.result within) (among_lists c.args.lists.now c.requires.among) c.loop-test.invariant c.in_ok-mark_all.ensures

pub returns-clause-marks : goal.returns-clause-marks
returns-clause-marks c =
    flood_ends (map tests_of c.args.lists.now) c.args.from c.loop-test.marks.items c.loop-test.stack.items (nothing_left _ c.loop-test.stack.items (sym c.loop-test.stack.ok.0) c.in_default.ensures.variant.1) c.loop-test.invariant
