use Rattle.std.proofs.Common.{◌∙◌, ap, arith}
use Rattle.std.specs.List.{sum}
use Rattle.proof_facts.specs.Packed.{packed}
use Rattle.proof_facts.proofs.Rising.{sum_by-rising}
use Rattle.proof_facts.proofs.Rows.{row_more}
use Rattle.proof_facts.proofs.lengths.packed_lengths.Goals as goal

pub front_sums-requires : goal.front_sums-requires
front_sums-requires c = omega (arith, ap sum (c.deref.ensures.value ∙ c.in_ok-sorted.ensures), sum_by-rising (λ x. x) c.args.lengths.now, c.requires.sum)

pub packed_length-requires-clause-sum : goal.packed_length-requires-clause-sum
packed_length-requires-clause-sum c = omega (arith, ap sum (c.deref-in-loop-place.ensures.value ∙ c.in_ok-sorted.ensures), sum_by-rising (λ x. x) c.args.lengths.now, c.requires.sum)

pub loop-place-preserved : goal.loop-place-preserved
loop-place-preserved c =
    row_more (packed c.args.lengths.now) c.loop-place.place c.packed_length.result c.loop-place.row.items c.push.new.to.items c.loop-place.invariant (c.packed_length.ensures c.args.lengths.now (c.deref-in-loop-place.ensures.value ∙ c.in_ok-sorted.ensures)) c.in_ok-push.ensures.ok
