use Rattle.std.proofs.Common.{◌≡◌, ◌++◌, ◌∷◌, [], List, ℕ, length, arith, sym, ap, ◌∙◌, subst, position, nat_eq, refl, rules, length-append, slice_index}
use Rattle.limits_text.specs.Orders.{ComesAgain}
use Rattle.limits_text.proofs.Walking.{IsWalking, seen_none, walk_more, walk_short, walk_ends}
use Rattle.limits_text.proofs.graph.walk_on.Goals as goal

pub returns-in-Some : goal.returns-in-Some
returns-in-Some c =
    let pushed : c.push.new.to.items ≡ c.loop-meets.walk.items ++ c.loop-meets.test ∷ [] = search rules in
    subst (λ (l : List ℕ). ComesAgain c.args.next.now c.args.start l c.in-Some.meets) (sym pushed)
    (walk_ends c.loop-meets.invariant c.in-Some.meets (ap (position (nat_eq c.loop-meets.test)) (sym c.as_slice.ensures.value) ∙ sym c.place_of.ensures ∙ c.in-Some.is))

pub loop-meets-preserved : goal.loop-meets-preserved
loop-meets-preserved c =
    let none = seen_none c.loop-meets.test c.loop-meets.walk.items c.as_slice.result.now c.place_of.result c.as_slice.ensures.value c.place_of.ensures (search rules) in
    let pushed : c.push-in-loop-meets.new.to.items ≡ c.loop-meets.walk.items ++ c.loop-meets.test ∷ [] = search rules in
    subst (λ (l : List ℕ). IsWalking c.args.next.now c.args.start l (slice_index c.args.next.now c.loop-meets.test)) (sym pushed)
    (walk_more c.loop-meets.invariant (slice_index c.args.next.now c.loop-meets.test) none c.requires.next refl)

pub loop-meets-smaller : goal.loop-meets-smaller
loop-meets-smaller c =
    let none = seen_none c.loop-meets.test c.loop-meets.walk.items c.as_slice.result.now c.place_of.result c.as_slice.ensures.value c.place_of.ensures (search rules) in
    let pushed : c.push-in-loop-meets.new.to.items ≡ c.loop-meets.walk.items ++ c.loop-meets.test ∷ [] = search rules in
    omega (arith, walk_short c.loop-meets.invariant none, ap length pushed, length-append c.loop-meets.walk.items (c.loop-meets.test ∷ []))
