use Rattle.std.proofs.Common.{arith, ◌∙◌, inl, inr}
use Rattle.std.proofs.lemmas.Bool.{cases_eq}
use Rattle.soc_model.specs.Chips.{soc_value}
use Rattle.live_tests.specs.Parents.{HasParentAt}
use Rattle.live_tests.proofs.WrittenParents.{set_else}
use Rattle.live_tests.proofs.parent_places.fill_parents.Goals as goal
use Rattle.common_lemmas.proofs.Lists.{set_here}

pub loop-place-preserved : goal.loop-place-preserved
loop-place-preserved c = λ p less. elim (cases_eq p c.loop-place.place) [
  | inl same ↦ rw same (record { q = c.parent_of-found.result; at = set_here c.loop-place.parents c.loop-place.place c.parent_of-found.result (omega arith); is = c.parent_of-found.ensures.is; only = c.parent_of-found.ensures.only; within = c.parent_of-found.ensures.within })
  | inr other ↦
      let h : HasParentAt (soc_value c.args.soc.now) c.loop-place.parents p = c.loop-place.invariant p (omega (arith, other)) in
      record { q = h.q; at = set_else c.loop-place.parents c.loop-place.place p c.parent_of-found.result other ∙ h.at; is = h.is; only = h.only; within = h.within }
]
