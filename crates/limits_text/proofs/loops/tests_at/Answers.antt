use Rattle.std.proofs.Common.{◌≡◌, ◌+◌, ◌++◌, ◌∷◌, [], List, get_or, take, sym, subst, refl, rules}
use Rattle.soc_model.specs.declared.TestId.{TestId}
use Rattle.limits_text.specs.Loops.{AreAt}
use Rattle.limits_text.proofs.FirstLoops.{tests_more}
use Rattle.limits_text.proofs.loops.tests_at.Goals as goal

pub loop-place-preserved : goal.loop-place-preserved
loop-place-preserved c =
    let d : TestId = record { «module» = 0; test = 0 } in
    let test = get_or c.args.ids.now (get_or c.args.places.now c.loop-place.place-index 0) d in
    let pushed : c.push.new.to.items ≡ c.loop-place.tests.items ++ test ∷ [] = search rules in
    subst (λ (l : List TestId). AreAt c.args.ids.now (take (c.loop-place.place-index + 1) c.args.places.now) l) (sym pushed)
    (tests_more c.args.ids.now c.args.places.now c.loop-place.tests.items c.loop-place.place-index test d c.loop-place.invariant c.loop-place-test.true c.requires refl)
