use Rattle.std.proofs.Common.{◌∙◌, refl, sym, ap, arith, sum_by}
use Rattle.std.proofs.lemmas.Option.{slice_get-map}
use Rattle.plan_model.specs.Views.{profile_value}
use Rattle.bound_rules.proofs.Energies.{sound_steps}
use Rattle.leaf_bounds.specs.Lists.{use_of}
use Rattle.leaf_bounds.specs.Leaves.{is_rank}
use Rattle.leaf_bounds.specs.Bases.{chip_of, limits_of}
use Rattle.leaf_bounds.specs.LeafCosts.{USES_COST_MOST, beside_use, drawn_use}
use Rattle.leaf_bounds.proofs.LeafSums.{parts, three_are, two_fit, three_fit}
use Rattle.leaf_bounds.proofs.leaf_costs.test_uses.Goals as goal

pub beside_uses-beside-requires-clause-fits : goal.beside_uses-beside-requires-clause-fits
beside_uses-beside-requires-clause-fits c =
    rw c.deref.ensures.value (parts (is_rank c.args.rank) c.args.test c.args.cycles c.requires.weighed.1 c.requires.test.1 c.requires.cycles).beside

pub drawn_uses-drawn-requires-clause-steps : goal.drawn_uses-drawn-requires-clause-steps
drawn_uses-drawn-requires-clause-steps c = λ i p at.
    sound_steps (chip_of c.args.basis.now) (limits_of c.args.basis.now) c.requires.basis.limits i (profile_value p) (slice_get-map profile_value c.args.basis.now.limits.now.profiles.items i ∙ rw at refl)

pub drawn_uses-drawn-requires-clause-test : goal.drawn_uses-drawn-requires-clause-test
drawn_uses-drawn-requires-clause-test c =
    let w = c.requires.weighed in
    let t = c.requires.test in
    let is = c.requires.basis.tests.tests.at c.args.test t.0 c.place_at-profile.result t.1 c.place_at-profile.ensures in
    (t.0, is.profile, t.2, rw c.deref-2.ensures.value (parts (is_rank c.args.rank) c.args.test c.args.cycles w.1 t.1 c.requires.cycles).drawn)

pub overflow_add-result : goal.overflow_add-result
overflow_add-result c =
    let w = c.requires.weighed in
    let t = c.requires.test in
    let all = (parts (is_rank c.args.rank) c.args.test c.args.cycles w.1 t.1 c.requires.cycles).all in
    let beside = c.beside_uses-beside.ensures ∙ ap (sum_by (beside_use c.args.basis.now.lists (is_rank c.args.rank) c.args.test c.args.cycles)) c.deref.ensures.value in
    let fits = two_fit
    (sum_by (drawn_use (limits_of c.args.basis.now) t.0 c.args.cycles) c.args.room.now.power.items) USES_COST_MOST c.inside_uses-inside.ensures beside all in
    omega (arith, fits)

pub overflow_add-result-2 : goal.overflow_add-result-2
overflow_add-result-2 c =
    let w = c.requires.weighed in
    let t = c.requires.test in
    let is = c.requires.basis.tests.tests.at c.args.test t.0 c.place_at-profile.result t.1 c.place_at-profile.ensures in
    let all = (parts (is_rank c.args.rank) c.args.test c.args.cycles w.1 t.1 c.requires.cycles).all in
    let beside = c.beside_uses-beside.ensures ∙ ap (sum_by (beside_use c.args.basis.now.lists (is_rank c.args.rank) c.args.test c.args.cycles)) c.deref.ensures.value in
    let drawn = c.drawn_uses-drawn.ensures t.0 is.profile t.2 ∙ ap (sum_by (drawn_use (limits_of c.args.basis.now) t.0 c.args.cycles)) c.deref-2.ensures.value in
    omega (arith, three_fit USES_COST_MOST c.inside_uses-inside.ensures beside drawn all)

pub returns : goal.returns
returns c = λ weights l weighed at own.
    let is = c.requires.basis.tests.tests.at c.args.test l c.place_at-profile.result at c.place_at-profile.ensures in
    let beside = c.beside_uses-beside.ensures ∙ ap (sum_by (beside_use c.args.basis.now.lists (is_rank c.args.rank) c.args.test c.args.cycles)) c.deref.ensures.value in
    let drawn = c.drawn_uses-drawn.ensures l is.profile own ∙ ap (sum_by (drawn_use (limits_of c.args.basis.now) l c.args.cycles)) c.deref-2.ensures.value in
    three_are c.inside_uses-inside.ensures beside drawn
    ∙ sym (weighed.made.uses (is_rank c.args.rank) c.args.test c.args.cycles l at)
    ∙ weighed.same (λ list. use_of (chip_of c.args.basis.now) (limits_of c.args.basis.now) (is_rank c.args.rank) list c.args.cycles l)
