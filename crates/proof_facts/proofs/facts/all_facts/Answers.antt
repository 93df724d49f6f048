use Rattle.std.proofs.Common.{◌≡◌, ◌∙◌, ◌<◌, ◌+◌, Some, length, get_or, sym, ap, refl, subst, arith, rules, slice_get}
use Rattle.std.proofs.lemmas.Option.{slice_get-get_or, same_Some}
use Rattle.soc_model.specs.Chips.{SocValue, soc_value, module_value, parent_place}
use Rattle.live_tests.specs.Parents.{AreParentPlaces}
use Rattle.live_tests.specs.Problems.{ProblemValue}
use Rattle.proof_facts.specs.Rows.{all_facts}
use Rattle.proof_facts.proofs.FactLists.{facts_more, facts_done}
use Rattle.proof_facts.proofs.facts.all_facts.Goals as goal

pub loop-place-preserved : goal.loop-place-preserved
loop-place-preserved c =
    let p = c.args.problem.now in
    let parents = c.problem.inside.resolved.now.parents.items in
    let chip : soc_value c.problem.inside.soc.now ≡ p.soc = ap (λ (v : ProblemValue). v.soc) c.problem.view_is in
    let are : AreParentPlaces p.soc parents = rw chip at c.problem.invariant.places.parents in
    let long : c.len-place-end.result ≡ length parents = search rules in
    let within : c.loop-place.place < length parents = omega (arith, long, c.loop-place-test.true) in
    let over : c.index-parent.result.now ≡ parent_place p.soc.modules c.loop-place.place =
    c.index-parent.ensures ∙ same_Some (get_or parents c.loop-place.place c.index-parent.result.now) (parent_place p.soc.modules c.loop-place.place)
    (sym (slice_get-get_or parents c.loop-place.place c.index-parent.result.now within) ∙ are.are c.loop-place.place (omega (arith, within, are.long))) in
    facts_more p.soc p.limits c.loop-place.facts.items c.push_facts.new.facts.items (all_facts p.soc p.limits) c.loop-place.place (c.loop-place.place + 1) c.index-parent.result.now
    (module_value c.module_at.result.now) refl (subst (λ (s : SocValue). slice_get s.modules c.loop-place.place ≡ Some (module_value c.module_at.result.now)) chip c.module_at.ensures) over c.in_ok-push_facts.ensures c.loop-place.invariant

pub returns : goal.returns
returns c =
    let p = c.args.problem.now in
    let parents = c.problem.inside.resolved.now.parents.items in
    let chip : soc_value c.problem.inside.soc.now ≡ p.soc = ap (λ (v : ProblemValue). v.soc) c.problem.view_is in
    let are : AreParentPlaces p.soc parents = rw chip at c.problem.invariant.places.parents in
    let long : c.len-place-end.result ≡ length parents = search rules in
    facts_done p.soc p.limits c.loop-place.facts.items (all_facts p.soc p.limits) c.loop-place.place (omega (arith, long, c.loop-place-test.false, are.long)) c.loop-place.invariant
