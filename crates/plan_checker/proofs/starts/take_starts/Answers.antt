use Rattle.std.proofs.Common.{◌≡◌, ℕ, Some, List, get_or, take, refl, sym, ◌∙◌, subst, arith, true≢false, slice_get}
use Rattle.std.proofs.lemmas.List.{take_all}
use Rattle.std.proofs.lemmas.Option.{slice_get_within, slice_get-get_or}
use Rattle.plan_checker.specs.Named.{ids_of}
use Rattle.soc_model.specs.declared.TestId.{TestId}
use Rattle.plan_checker.specs.Starting.{AreStarts, IsOnce}
use Rattle.plan_model.proofs.FirstBreaches.{each_more, each_all, first_here}
use Rattle.plan_checker.proofs.Starting.{is_key, no_key, key_has, starts_more, front_early}
use Rattle.common_lemmas.proofs.Lists.{contains_from}
use Rattle.plan_checker.proofs.starts.take_starts.Goals as goal

none : TestId × ℕ
none = (record { «module» = 0; test = 0 }, 0)

pub returns-then-room-place-lt-NO_START-clause-first : goal.returns-then-room-place-lt-NO_START-clause-first
unfolding none
returns-then-room-place-lt-NO_START-clause-first c =
    let k = c.loop-id.id-index in
    let key = is_key (ids_of c.args.names.now) (take k c.args.starts.now) c.loop-id.room c.in-Some.place 0 (get_or c.args.starts.now k none).0 c.loop-id.invariant.filled (front_early c.args.starts.now k c.requires.early) c.in-Some.ensures.found c.if-room-place-lt-NO_START.true in
    (k, get_or c.args.starts.now k none, first_here (IsOnce (ids_of c.args.names.now)) c.args.starts.now k (get_or c.args.starts.now k none) c.loop-id.invariant.each (slice_get-get_or c.args.starts.now k none (omega arith)) (λ once. once.1 key), refl)

pub loop-id-preserved : goal.loop-id-preserved
unfolding none
loop-id-preserved c =
    let k = c.loop-id.id-index in
    let ids = ids_of c.args.names.now in
    let s : TestId × ℕ = get_or c.args.starts.now k none in
    let at : slice_get c.args.starts.now k ≡ Some s = slice_get-get_or c.args.starts.now k none (omega arith) in
    let fresh = no_key ids (take k c.args.starts.now) c.loop-id.room c.in-Some.place 0 s.0 c.loop-id.invariant.filled (front_early c.args.starts.now k c.requires.early) c.in-Some.ensures.found (omega (arith, c.if-room-place-lt-NO_START.false)) in
    record {
      each = each_more (IsOnce ids) c.args.starts.now k s c.loop-id.invariant.each at (contains_from ids s.0 c.in-Some.place c.in-Some.ensures.found, λ key. true≢false (sym (key_has s.0 (take k c.args.starts.now) key) ∙ fresh));
      filled = starts_more ids c.args.starts.now c.loop-id.room k c.in-Some.place none s c.requires.apart c.loop-id.invariant.filled (omega arith) refl c.in-Some.ensures.found fresh;
    }

pub returns-clause-kept : goal.returns-clause-kept
returns-clause-kept c = each_all (IsOnce (ids_of c.args.names.now)) c.args.starts.now c.loop-id.id-index (omega arith) c.loop-id.invariant.each

pub returns-clause-filled : goal.returns-clause-filled
returns-clause-filled c = subst (λ (l : List (TestId × ℕ)). AreStarts (ids_of c.args.names.now) l c.loop-id.room) (take_all c.loop-id.id-index c.args.starts.now (omega arith)) c.loop-id.invariant.filled

pub bounds-room-place : goal.bounds-room-place
bounds-room-place c = slice_get_within c.loop-id.room c.in-Some.place _ (c.loop-id.invariant.filled c.in-Some.place _ c.in-Some.ensures.found)

pub bounds-room-place-in-loop-id : goal.bounds-room-place-in-loop-id
bounds-room-place-in-loop-id c = slice_get_within c.loop-id.room c.in-Some.place _ (c.loop-id.invariant.filled c.in-Some.place _ c.in-Some.ensures.found)

pub offset_bounds-room-place : goal.offset_bounds-room-place
offset_bounds-room-place c = omega (arith, slice_get_within c.loop-id.room c.in-Some.place _ (c.loop-id.invariant.filled c.in-Some.place _ c.in-Some.ensures.found))

pub offset_bounds-room-place-in-loop-id : goal.offset_bounds-room-place-in-loop-id
offset_bounds-room-place-in-loop-id c = omega (arith, slice_get_within c.loop-id.room c.in-Some.place _ (c.loop-id.invariant.filled c.in-Some.place _ c.in-Some.ensures.found))
