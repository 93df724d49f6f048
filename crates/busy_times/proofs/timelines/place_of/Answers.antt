use Rattle.std.proofs.Common.{◌≡◌, ℕ, ◌+◌, ◌<◌, ◌≤◌, List, Some, inl, inr, get_or, length, ap, arith}
use Rattle.std.{specs.Prelude.slice_get, proofs.lemmas.Bool.cases_lt, proofs.lemmas.Option.slice_get_within, proofs.lemmas.Option.get_or_from_slice_get}
use Rattle.busy_times.specs.declared.timelines.Span.{Span}
use Rattle.busy_times.proofs.Spans.{same_time}
use Rattle.common_lemmas.proofs.Lists.{any_default}
use Rattle.busy_times.proofs.timelines.place_of.Goals as goal

pub returns : goal.returns
returns c =
    let spans = c.args.spans.now in
    let place = c.loop-place.place in
    let there = c.loop-place.invariant.there in
    let read = get_or spans place (record { from = 0; to = 0 }) in
    let within : place < length spans = (let le = there.1 in omega (arith, le, slice_get_within spans there.0 c.args.span there.2)) in
    same_time spans c.args.span read place there.0 c.requires.ordered c.loop-place.invariant.late there.1 there.2 (any_default spans place (record { from = 0; to = 0 }) read within) c.loop-place-test.false

-- a time that ends otherwise than the one at a place stands behind it
behind : (spans : List Span) (place at : ℕ) (span : Span) → place ≤ at → slice_get spans at ≡ Some span → ((get_or spans place (record { from = 0; to = 0 })).to ≡ span.to → ⊥) → place + 1 ≤ at
behind spans place at span le there apart = elim (cases_lt place at) [
  | inl before ↦ omega (arith, before)
  | inr late ↦ absurd (apart (let same : at ≡ place = omega (arith, le, late) in ap (λ (s : Span). s.to) (get_or_from_slice_get spans place span (record { from = 0; to = 0 }) (rw same at there))))
]

pub loop-place-preserved : goal.loop-place-preserved
loop-place-preserved c =
    let there = c.loop-place.invariant.there in
    record {
      late = (λ k d le lt. c.loop-place.invariant.late k d (omega (arith, le)) lt);
      there = (there.0, behind c.args.spans.now c.loop-place.place there.0 c.args.span there.1 there.2 c.loop-place-test.true, there.2);
    }

-- the time that is there stands from the place on, so that the place is within
inside : (spans : List Span) (place : ℕ) (span : Span) → (at : ℕ) × (place ≤ at) × (slice_get spans at ≡ Some span) → place < length spans
inside spans place span there = let le = there.1 in omega (arith, le, slice_get_within spans there.0 span there.2)

pub bounds-spans-place : goal.bounds-spans-place
bounds-spans-place c = inside c.args.spans.now c.loop-place.place c.args.span c.loop-place.invariant.there

pub offset_bounds-spans-place : goal.offset_bounds-spans-place
offset_bounds-spans-place c = omega (arith, inside c.args.spans.now c.loop-place.place c.args.span c.loop-place.invariant.there)

pub overflow_add-place : goal.overflow_add-place
overflow_add-place c = omega (arith, inside c.args.spans.now c.loop-place.place c.args.span c.loop-place.invariant.there)
