use Rattle.std.proofs.Common.{arith, ◌≡◌, ◌+◌, ◌++◌, ◌∷◌, [], map, ap, ◌∙◌, refl}
use Rattle.std.specs.List.{range_with_len}
use Rattle.wrapper_design.proofs.OneOrder.{chain_at, order_from_sort}
use Rattle.wrapper_design.proofs.order.longest_first.Goals as goal
use Rattle.common_lemmas.proofs.Ranges.{range_push}

pub loop-place-preserved : goal.loop-place-preserved
loop-place-preserved c =
    let e : map (chain_at c.args.lengths.now) (range_with_len 0 (c.loop-place.place + 1)) ≡ map (chain_at c.args.lengths.now) (range_with_len 0 c.loop-place.place) ++ chain_at c.args.lengths.now c.loop-place.place ∷ [] =
    range_push (chain_at c.args.lengths.now) c.loop-place.place in
    c.in_ok-push.ensures.items ∙ rw (e, c.loop-place.invariant) refl

pub returns : goal.returns
returns c = order_from_sort c.args.lengths.now c.loop-place.order.items c.sort.new.self.items (c.loop-place.invariant ∙ ap (λ v. map (chain_at c.args.lengths.now) (range_with_len 0 v)) (omega arith)) c.in_ok-sort.ensures.permutation c.in_ok-sort.ensures.sorted
