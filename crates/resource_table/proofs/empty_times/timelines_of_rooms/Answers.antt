use Rattle.std.proofs.Common.{◌≡◌, ℕ, zero, suc, ◌+◌, ◌≤◌, inl, inr, Some, List, [], ◌∷◌, ◌++◌, length, get_or, ap, arith, length-append, slice_get, vec_capacity}
use Rattle.plan_model.proofs.Lists.{from_append}
use Rattle.busy_times.specs.declared.timelines.Timeline.{Timeline}
use Rattle.resource_table.proofs.empty_times.timelines_of_rooms.Goals as goal

-- what holds of each timeline at its place holds also with one more
each_more : (P : ℕ → Timeline → Type 0) (lines new : List Timeline) (last : Timeline) → new ≡ lines ++ last ∷ [] → ((k : ℕ) (line : Timeline) → slice_get lines k ≡ Some line → P k line) → P (length lines) last →
    (k : ℕ) (line : Timeline) → slice_get new k ≡ Some line → P k line
each_more P lines new last is old here k line at = elim (from_append lines (last ∷ []) k line (rw is at at)) [
  | inl before ↦ old k line before
  | inr end ↦ at_end end.0 end.1 end.2
]
  where
    at_end : (j : ℕ) → k ≡ length lines + j → slice_get (last ∷ []) j ≡ Some line → P k line
    at_end zero place there =
        let same : last ≡ line = cc in
        let at_length : k ≡ length lines = omega (arith, place) in
        rw at_length (rw same at here)
    at_end (suc j) place there = absurd cc

pub loop-room-preserved : goal.loop-room-preserved
loop-room-preserved c =
    let lines = c.loop-room.lines.items in
    let new = c.push.new.to.items in
    let last = c.in_ok-empty_timeline.field-0 in
    let is = c.in_ok-push.ensures.ok in
    let long = c.loop-room.invariant.long in
    record {
      long = omega (arith, ap length is, length-append lines (last ∷ []), long);
      empty = each_more (λ k line. line.spans.items ≡ []) lines new last is c.loop-room.invariant.empty c.in_ok-empty_timeline.ensures.empty;
      room = each_more (λ k line. get_or c.args.rooms.now k 0 ≤ vec_capacity line.spans) lines new last is c.loop-room.invariant.room
          (rw long c.in_ok-empty_timeline.ensures.room);
    }
