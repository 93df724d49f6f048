use Rattle.std.proofs.Common.{◌∙◌, ◌<◌, ◌-◌, length, inl, inr, max, arith, ap}
use Rattle.std.{specs.Prelude.nat_lt, proofs.lemmas.Bool.cases_lt}
use Rattle.busy_times.specs.Profiles.{no_point}
use Rattle.busy_times.proofs.Sweeps.{parts_to, swept_first, swept_crowd, swept_free, swept_through, crowd_met, crowd_ends, none_crowded}
use Rattle.busy_times.proofs.crowds.after_crowds.Goals as goal

pub crowds-init : goal.crowds-init
crowds-init c = record {
  order = omega arith;
  bound = c.places_before_near-place.ensures.bound;
  behind = λ k low inside. (let late = c.places_before_near-place.ensures.parts.1 k no_point low inside in omega (arith, late));
  calm = λ k low less. absurd (omega (arith, low, less));
  swept = rw (c.is_crowded-crowded.ensures ∙ ap (nat_lt c.args.free) c.load_before.ensures) (swept_first c.args.points.now c.args.free c.args.from c.args.width c.args.last c.places_before_near-place.result c.requires.some c.places_before_near-place.ensures.bound (parts_to c.args.points.now c.args.from c.places_before_near-place.result c.places_before_near-place.ensures.parts));
}

pub returns-then-end-points-clause-least : goal.returns-then-end-points-clause-least
returns-then-end-points-clause-least c =
    let swept = swept_crowd c.args.points.now c.args.free c.args.from c.args.width c.args.last c.crowds.start (c.crowd_end-end.result - c.crowds.place) c.crowds.place c.crowd_end-end.result c.requires.profile c.requires.some (let low = c.crowd_end-end.ensures.from in omega arith) c.crowd_end-end.ensures.bound c.crowds.invariant.behind c.crowd_end-end.ensures.crowded
    (rw c.if-crowded.true at c.crowds.invariant.swept) in
    none_crowded c.args.points.now c.args.free c.args.from c.args.width c.args.last c.crowd_end-end.result c.crowds.start c.requires.profile (let end = c.if-end-points.true in omega arith) swept

pub crowds-preserved-then-crowded : goal.crowds-preserved-then-crowded
crowds-preserved-then-crowded c =
    let swept = swept_crowd c.args.points.now c.args.free c.args.from c.args.width c.args.last c.crowds.start (c.crowd_end-end.result - c.crowds.place) c.crowds.place c.crowd_end-end.result c.requires.profile c.requires.some (let low = c.crowd_end-end.ensures.from in omega arith) c.crowd_end-end.ensures.bound c.crowds.invariant.behind c.crowd_end-end.ensures.crowded
    (rw c.if-crowded.true at c.crowds.invariant.swept) in
    let low = c.crowd_end-end.ensures.from in
    let old = c.crowds.invariant.bound in
    let lt : c.crowd_end-end.result < length c.args.points.now = (let bound = c.crowd_end-end.ensures.bound in let more = c.if-end-points.false in omega (arith, bound, more)) in
    record {
      order = omega (arith, c.max-calm.ensures);
      bound = omega (arith, c.max-calm.ensures, lt, old);
      behind = λ k from inside. c.crowds.invariant.behind k (omega (arith, from, low)) inside;
      calm = λ k from less. c.crowds.invariant.calm k (omega (arith, from, low)) (omega (arith, from, less, c.max-calm.ensures));
      swept = crowd_ends c.args.points.now c.args.free c.args.from c.args.width c.args.last c.crowd_end-end.result c.crowds.start c.requires.profile c.requires.some lt (c.crowds.invariant.behind c.crowd_end-end.result low lt) swept (c.crowd_end-end.ensures.end lt);
    }

pub returns-in_default-clause-free : goal.returns-in_default-clause-free
returns-in_default-clause-free c =
    let order = c.crowds.invariant.order in
    let bound = c.crowds.invariant.bound in
    let far = max c.crowds.calm c.places_before_near-to.result in
    let swept = swept_free c.args.points.now c.args.free c.args.from c.args.width c.args.last c.crowds.start (far - c.crowds.place) c.crowds.place far c.requires.profile c.requires.some (omega (arith, order)) (let e = c.places_before_near-to.ensures.bound in omega (arith, bound, e)) c.crowds.invariant.behind
    (λ k low less. elim (cases_lt k c.crowds.calm) [
      | inl before ↦ c.crowds.invariant.calm k low before
      | inr behind ↦ c.in_default.ensures.none k behind (omega (arith, less, behind))
    ])
    (rw c.if-crowded.false at c.crowds.invariant.swept) in
    (swept_through c.args.points.now c.args.free c.args.from c.args.width c.args.last far c.crowds.start swept (λ inside. c.places_before_near-to.ensures.parts.1 far no_point (omega arith) inside)).0

pub crowds-preserved : goal.crowds-preserved
crowds-preserved c =
    let from = c.in-Some.ensures.from in
    let to = c.in-Some.ensures.to in
    let bound = c.places_before_near-to.ensures.bound in
    record {
      order = omega (arith, to);
      bound = bound;
      behind = λ k low inside. c.crowds.invariant.behind k (omega (arith, c.crowds.invariant.order, from, low)) inside;
      calm = λ k low less. c.in-Some.ensures.behind k (omega (arith, low)) less;
      swept = crowd_met c.args.points.now c.args.free c.args.from c.args.width c.args.last c.crowds.place c.crowds.start c.in-Some.crowd c.requires.some
          (rw c.if-crowded.false at c.crowds.invariant.swept)
          (omega (arith, to, bound)) (c.places_before_near-to.ensures.parts.0 c.in-Some.crowd no_point (omega arith) to) c.in-Some.ensures.crowded;
    }
