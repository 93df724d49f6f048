-- Tests that stand at a cycle.
use Rattle.std.proofs.Common.{◌≡◌, ◌≢◌, ℕ, suc, ◌+◌, ◌≤◌, ◌<◌, ◌⊎◌, true, Option, Some, None, List, [], ◌∷◌, length, get_or, map, set, refl, ap, sym, subst, ◌∙◌, arith, inl, inr, slice_get}
use Rattle.std.proofs.lemmas.Option.{slice_get_within, get_or_from_slice_get, same_Some}
use Rattle.std.proofs.lemmas.Bool.{cases_lt, cases_eq, and_parts}
use Rattle.plan_model.specs.Plans.{PlannedTest, is_active}
use Rattle.plan_model.specs.Right.{IsAt}
use Rattle.plan_model.specs.Runs.{Content}
use Rattle.plan_model.proofs.TestsInGoodPlans.{uses_is}
use Rattle.bit_machine.specs.Lanes.{lane_bits, lane_on, ArePages, IsBusy, IsLane, IsNow, IsSameTest, IsSteppable}
use Rattle.bit_machine.specs.Machines.{lanes_state, AreStepped, AreNow, AreNowBelow, AreSomeUsers, IsStood}
use Rattle.vector_lines.specs.declared.lane.Lane.{Lane}
use Rattle.bit_machine.specs.declared.stepped.SteppedLane.{SteppedLane}
use Rattle.bit_machine.proofs.Assigning.{on_is, uses_from}
use Rattle.bit_machine.proofs.LaneSteps.{same_bits, same_on, same_steppable}
use Rattle.bit_machine.proofs.WireUsers.{busy_of}
use Rattle.common_lemmas.proofs.Lists.{some_item, set_here}
use Rattle.common_lemmas.proofs.Options.{none_some}

-- ---- the user of a wire

module _ {lanes : List SteppedLane} {c : ℕ} {users : List (Option ℕ)} (s : AreSomeUsers lanes c users) where
  pub user_ready : (w : ℕ) {p : ℕ} → slice_get users w ≡ Some (Some p) → (l : SteppedLane) → slice_get lanes p ≡ Some l →
      IsSteppable l × IsBusy l.lane c
  user_ready w {p} there l at =
      let u = s.by.user w p there in
      let lane = s.are.lane p u.0 l u.1 at in
      let x = uses_is c w u.0 u.2 in
      (s.are.steppable p l at, busy_of c (lane.wired x.tam) lane.start x.active)

  -- the test of a lane that is on has the first wire of its bus
  first_user : (i : ℕ) {l : SteppedLane} → slice_get lanes i ≡ Some l → lane_on l.lane c ≡ true →
      (l.lane.first_wire < length users) × (slice_get users l.lane.first_wire ≡ Some (Some i))
  first_user i {l} at on =
      let t = some_item s.tests i (omega (arith, s.are.long, slice_get_within lanes i l at)) in
      let is = s.are.lane i t.0 l t.1 at in
      let tam : (t.0).tam ≡ true = (and_parts (t.0).tam (is_active c t.0) (sym (on_is c is) ∙ on)).0 in
      let w = is.wired tam in
      let some = s.on.some i t.0 t.1 tam in
      let fits = s.on.within i t.0 t.1 tam in
      let less : l.lane.first_wire < length users = omega (arith, w.first_wire) in
      let used = uses_from c is l.lane.first_wire on (omega arith) (omega (arith, w.width)) in
      (less, s.by.every l.lane.first_wire i t.0 less t.1 used)

  pub all_now : (w : ℕ) → length users ≤ w → AreNowBelow lanes c w → AreNow lanes c
  all_now w all below i l at on = below i l at on (omega (arith, all, (first_user i at on).0))

  -- ---- one wire more

  -- nobody has the wire
  pub now_unused : (w : ℕ) → slice_get users w ≡ Some None → AreNowBelow lanes c w → AreNowBelow lanes c (w + 1)
  now_unused w none below i l at on less = elim (cases_lt l.lane.first_wire w) [
    | inl before ↦ below i l at on before
    | inr past ↦
        let same : l.lane.first_wire ≡ w = omega arith in
        absurd (none_some (same_Some _ _ (sym none ∙ ap (slice_get users) (sym same) ∙ (first_user i at on).1)))
  ]

-- what the test of a wire does
pub record AreStood (old new : List SteppedLane) (p w c : ℕ) : Type 0 where
  pub long : length new ≡ length old
  pub others : (i : ℕ) → i ≢ p → slice_get new i ≡ slice_get old i
  pub own : (l : SteppedLane) → slice_get new p ≡ Some l → IsStood old p w c l

pub stood_lanes : {content : Content} {tests : List PlannedTest} {old : List SteppedLane} (new : List SteppedLane) (p w c : ℕ) →
    AreStood old new p w c → AreStepped content tests old → AreStepped content tests new
stood_lanes {content} {tests} {old} new p w c s are = record {
  long = s.long ∙ are.long;
  lane = λ i t l at there. lane i t l at there (cases_eq i p);
  steppable = λ i l there. elim (cases_eq i p) [
    | inl same ↦
        let o = s.own l (rw same at there) in
        same_steppable o.same o.pages (are.steppable i o.old (rw (← same) at o.at))
    | inr other ↦ are.steppable i l (sym (s.others i other) ∙ there)
  ];
}
  where
    lane : (i : ℕ) (t : PlannedTest) (l : SteppedLane) → IsAt tests i t → slice_get new i ≡ Some l → (i ≡ p) ⊎ (i ≢ p) → IsLane content t l.lane
    lane i t l at there (inl same) =
        let o = s.own l (rw same at there) in
        subst (IsLane content t) (sym o.same.lane) (are.lane i t o.old at (rw (← same) at o.at))
    lane i t l at there (inr other) = are.lane i t l at (sym (s.others i other) ∙ there)

map_same : {X Y : Type 0} (f : X → Y) (xs ys : List X) → length xs ≡ length ys → ((i : ℕ) (x : X) → slice_get xs i ≡ Some x → (y : X) × (slice_get ys i ≡ Some y) × (f x ≡ f y)) → map f xs ≡ map f ys
map_same f [] [] long each = refl
map_same f [] (y ∷ ys) long each = absurd (omega arith)
map_same f (x ∷ xs) [] long each = absurd (omega arith)
map_same f (x ∷ xs) (y ∷ ys) long each =
    let e = each 0 x refl in
    let same = same_Some _ _ e.1 in
    rw (e.2 ∙ ap f (sym same), map_same f xs ys (omega arith) (λ i z at. each (suc i) z at)) refl

module _ (old new : List SteppedLane) (p w c : ℕ) (s : AreStood old new p w c) where
  pub stood_state : lanes_state new ≡ lanes_state old
  stood_state = map_same lane_bits new old s.long (λ i l there. go i l there (cases_eq i p)) where
    go : (i : ℕ) (l : SteppedLane) → slice_get new i ≡ Some l → (i ≡ p) ⊎ (i ≢ p) → (o : SteppedLane) × (slice_get old i ≡ Some o) × (lane_bits l ≡ lane_bits o)
    go i l there (inl same) =
        let o = s.own l (rw same at there) in
        (o.old, rw (← same) at o.at, same_bits o.same)
    go i l there (inr other) = (l, sym (s.others i other) ∙ there, refl)

  pub stood_some : {users : List (Option ℕ)} → AreSomeUsers old c users → AreSomeUsers new c users
  stood_some some = record { content = some.content; tests = some.tests; are = stood_lanes new p w c s some.are; on = some.on; by = some.by }

  pub now_more : {users : List (Option ℕ)} → AreSomeUsers old c users → slice_get users w ≡ Some (Some p) → AreNowBelow old c w →
      AreNowBelow new c (w + 1)
  now_more {users} some there below i l at on less = go (cases_eq i p) (cases_lt l.lane.first_wire w) where
    none : w ≤ l.lane.first_wire → l.lane.first_wire ≡ w
    none past = omega arith

    go : (i ≡ p) ⊎ (i ≢ p) → (l.lane.first_wire < w) ⊎ (w ≤ l.lane.first_wire) → IsNow l c
    go (inl same) (inl before) =
        let o = s.own l (rw same at at) in
        o.stays (below p o.old o.at (sym (same_on o.same c) ∙ on) (omega (arith, before, ap (λ (l : Lane). l.first_wire) o.same.lane)))
    go (inl same) (inr past) =
        let o = s.own l (rw same at at) in
        o.stands (sym (ap (λ (l : Lane). l.first_wire) o.same.lane) ∙ none past)
    go (inr other) (inl before) = below i l (sym (s.others i other) ∙ at) on before
    go (inr other) (inr past) =
        let f = first_user some i (sym (s.others i other) ∙ at) on in
        absurd (other (same_Some _ _ (same_Some _ _ (sym f.1 ∙ ap (slice_get users) (none past) ∙ there))))

-- ---- one test

module _ (lanes : List SteppedLane) (p w c : ℕ) {l : SteppedLane} where
  -- its bus begins with another wire
  pub own_unstood : {r : SteppedLane} → slice_get lanes p ≡ Some l → r ≡ get_or lanes p r → (r.lane.first_wire ≡ w → ⊥) → IsSteppable l →
      IsStood lanes p w c l
  own_unstood {r} at is other can =
      let same : r ≡ l = is ∙ get_or_from_slice_get lanes p l r at in
      record {
        old = l;
        at = at;
        same = record { lane = refl; rings = refl };
        pages = can.pages;
        stands = λ e. absurd (other (ap (λ (l : SteppedLane). l.lane.first_wire) same ∙ e));
        stays = λ now. now;
      }

  pub own_stood : {old new : SteppedLane} → p < length lanes → slice_get lanes p ≡ Some old → slice_get (set lanes p new) p ≡ Some l →
      IsSameTest old new → ArePages new → IsNow new c → IsStood lanes p w c l
  own_stood {old} {new} h at there same pages now =
      subst (IsStood lanes p w c) (same_Some _ _ (sym (set_here lanes p new h) ∙ there)) (record { old = old; at = at; same = same; pages = pages; stands = λ e. now; stays = λ n. now })
