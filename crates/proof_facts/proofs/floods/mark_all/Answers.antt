use Rattle.std.proofs.Common.{◌∙◌, sym, arith, get_or, refl, false}
use Rattle.std.proofs.lemmas.List.{get_or_default}
use Rattle.proof_facts.proofs.Marking.{in_at, was_marked, is_put}
use Rattle.proof_facts.proofs.floods.mark_all.Goals as goal

pub index-requires : goal.index-requires
index-requires c = omega (arith, c.loop-test.marks.ok.0, c.loop-test.invariant.long, c.requires (get_or c.args.tests.now c.loop-test.test-index 0) (in_at c.args.tests.now c.loop-test.test-index 0 c.loop-test-test.true))

pub index_mut-requires : goal.index_mut-requires
index_mut-requires c = omega (arith, c.loop-test.marks.ok.0, c.loop-test.invariant.long, c.requires (get_or c.args.tests.now c.loop-test.test-index 0) (in_at c.args.tests.now c.loop-test.test-index 0 c.loop-test-test.true))

pub loop-test-preserved-then-index : goal.loop-test-preserved-then-index
loop-test-preserved-then-index c =
    was_marked c.args.tests.now c.loop-test.test-index (get_or c.args.tests.now c.loop-test.test-index 0) c.args.marks.now.items c.loop-test.marks.items c.args.stack.now.items c.loop-test.stack.items c.loop-test-test.true refl
    (get_or_default c.loop-test.marks.items (get_or c.args.tests.now c.loop-test.test-index 0) false c.index.result.now (omega (arith, c.loop-test.invariant.long, c.requires (get_or c.args.tests.now c.loop-test.test-index 0) (in_at c.args.tests.now c.loop-test.test-index 0 c.loop-test-test.true))) ∙ sym c.index.ensures ∙ c.if-index.true)
    c.loop-test.invariant

pub loop-test-preserved : goal.loop-test-preserved
loop-test-preserved c =
    rw c.in_ok-push.ensures.ok (is_put c.args.tests.now c.loop-test.test-index (get_or c.args.tests.now c.loop-test.test-index 0) c.args.marks.now.items c.loop-test.marks.items c.args.stack.now.items c.loop-test.stack.items c.loop-test-test.true refl
    (omega (arith, c.loop-test.invariant.long, c.requires (get_or c.args.tests.now c.loop-test.test-index 0) (in_at c.args.tests.now c.loop-test.test-index 0 c.loop-test-test.true)))
    (get_or_default c.loop-test.marks.items (get_or c.args.tests.now c.loop-test.test-index 0) false c.index.result.now (omega (arith, c.loop-test.invariant.long, c.requires (get_or c.args.tests.now c.loop-test.test-index 0) (in_at c.args.tests.now c.loop-test.test-index 0 c.loop-test-test.true))) ∙ sym c.index.ensures ∙ c.if-index.false)
    c.loop-test.invariant)
