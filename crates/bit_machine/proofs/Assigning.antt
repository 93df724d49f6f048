-- Which test each wire belongs to, test by test and cycle by cycle.
use Rattle.std.proofs.Common.{◌≡◌, ◌≢◌, ℕ, zero, suc, ◌+◌, ◌≤◌, ◌<◌, ◌⊎◌, true, false, Option, Some, None, List, [], ◌∷◌, length, set, leb, ltb, refl, ap, sym, subst, ◌∙◌, arith, inl, inr, slice_get, nat_le, nat_lt, ◌&&◌}
use Rattle.std.specs.Global.{Vec}
use Rattle.std.specs.Vec.{with_items}
use Rattle.std.proofs.lemmas.List.{with_items_is}
use Rattle.std.proofs.lemmas.Option.{slice_get_within, same_Some}
use Rattle.std.proofs.lemmas.Bool.{cases_lt, cases_Bool, cases_eq, lt-ltb, le-ltb, le-leb, lt-leb, and_parts, leb-true, ltb-true}
use Rattle.plan_model.specs.Plans.{PlannedTest, uses, is_active, end_of}
use Rattle.plan_model.specs.Runs.{Content}
use Rattle.plan_model.specs.Right.{IsAt}
use Rattle.bit_machine.specs.Lanes.{lane_on, IsLane}
use Rattle.bit_machine.specs.Machines.{FitLanes, AreStepped, AreUsers, AreUsersBelow, AreUnchanged, AreNow, AreSomeStepped, AreSomeUsers, IsUnchanged, IsLaneUnchanged, IsMachine, IsSomeMachine}
use Rattle.vector_lines.specs.Wires.{AreOnWires}
use Rattle.vector_lines.specs.declared.lane.Lane.{Lane}
use Rattle.bit_machine.specs.declared.machine.Machine.{Machine}
use Rattle.bit_machine.specs.declared.stepped.SteppedLane.{SteppedLane}
use Rattle.common_lemmas.proofs.Lists.{set_here, some_item}
use Rattle.common_lemmas.proofs.Options.{none_some}
use Rattle.vector_lines.proofs.Columns.{set_elsewhere}

-- ---- a range of entries

pub record Given (old new : List (Option ℕ)) (place first w : ℕ) : Type 0 where
  pub given : (v : ℕ) → first ≤ v → v < w → slice_get new v ≡ Some (Some place)
  pub others : (v : ℕ) → (v < first) ⊎ (w ≤ v) → slice_get new v ≡ slice_get old v

pub given_none : (old : List (Option ℕ)) (place first : ℕ) → Given old old place first first
given_none old place first = record { given = λ v a b. absurd (omega arith); others = λ v h. refl }

pub given_more : {old new : List (Option ℕ)} {place first w : ℕ} → first ≤ w → w < length new → Given old new place first w →
    Given old (set new w (Some place)) place first (w + 1)
given_more {new} {place} {first} {w} low h g = record {
  given = λ v a b. elim (cases_eq v w) [
    | inl same ↦ rw same (set_here new w (Some place) h)
    | inr other ↦ set_elsewhere new w v (Some place) other ∙ g.given v a (omega arith)
  ];
  others = λ v e. set_elsewhere new w v (Some place) (apart v e) ∙ g.others v (before v e);
}
  where
    apart : (v : ℕ) → (v < first) ⊎ (w + 1 ≤ v) → v ≢ w
    apart v (inl less) e = omega arith
    apart v (inr past) e = omega arith

    before : (v : ℕ) → (v < first) ⊎ (w + 1 ≤ v) → (v < first) ⊎ (w ≤ v)
    before v (inl less) = inl less
    before v (inr past) = inr (omega arith)

-- ---- entries that are cleared

abbrev pub IsClear : List (Option ℕ) → ℕ → Type 0
IsClear users n = (w i : ℕ) → w < n → slice_get users w ≡ Some (Some i) → ⊥

pub clear_more : (users : List (Option ℕ)) (n : ℕ) → n < length users → IsClear users n → IsClear (set users n None) (n + 1)
clear_more users n h before w i less at = elim (cases_eq w n) [
  | inl same ↦ none_some (same_Some _ _ (sym (set_here users n None h) ∙ rw same at at))
  | inr other ↦ before w i (omega arith) (sym (set_elsewhere users n w None other) ∙ at)
]

-- ---- the next change

pub sooner_still : (c change change' : ℕ) (l : Lane) → change' ≤ change → IsLaneUnchanged c change l → IsLaneUnchanged c change' l
sooner_still c change change' l less u = (go u.0, go u.1) where
  go : {n : ℕ} → (n ≤ c) ⊎ (change ≤ n) → (n ≤ c) ⊎ (change' ≤ n)
  go (inl past) = inl past
  go (inr later) = inr (omega arith)

-- ---- test by test

pub nobody_below : (tests : List PlannedTest) (c : ℕ) (users : List (Option ℕ)) → ((w i : ℕ) → slice_get users w ≡ Some (Some i) → ⊥) → AreUsersBelow tests c 0 users
nobody_below tests c users none = record { user = λ w i at. absurd (none w i at); every = λ w i t h. absurd (omega arith) }

module _ {content : Content} {t : PlannedTest} {l : Lane} (c : ℕ) (is : IsLane content t l) where
  -- a lane is on exactly where its test is active over the wires
  pub on_is : lane_on l c ≡ (t.tam && is_active c t)
  on_is = rw (is.tam, is.start, is.ends) refl

  pub uses_from : (w : ℕ) → lane_on l c ≡ true → l.first_wire ≤ w → w < l.first_wire + l.width → uses c w t ≡ true
  uses_from w on low high =
      let e : (t.tam && is_active c t) ≡ true = sym on_is ∙ on in
      let p = and_parts t.tam (is_active c t) e in
      let wired = is.wired p.0 in
      rw (p.0, p.1, le-leb t.first_wire w (omega arith), lt-ltb w (t.first_wire + t.width) (omega arith)) refl

pub record Within (l : Lane) (c w : ℕ) : Type 0 where
  pub on : lane_on l c ≡ true
  pub low : l.first_wire ≤ w
  pub high : w < l.first_wire + l.width

pub from_uses : {content : Content} {t : PlannedTest} {l : Lane} (c w : ℕ) → IsLane content t l → uses c w t ≡ true → Within l c w
from_uses {t} c w is used =
    let a = and_parts t.tam (is_active c t && (leb t.first_wire w && ltb w (t.first_wire + t.width))) used in
    let b = and_parts (is_active c t) (leb t.first_wire w && ltb w (t.first_wire + t.width)) a.1 in
    let d = and_parts (leb t.first_wire w) (ltb w (t.first_wire + t.width)) b.1 in
    let low = leb-true t.first_wire w d.0 in
    let high = ltb-true w (t.first_wire + t.width) d.1 in
    let wired = is.wired a.0 in
    record { on = on_is c is ∙ rw (a.0, b.0) refl; low = omega arith; high = omega arith }

pub record GivenLane (old new : List (Option ℕ)) (l : Lane) (p c : ℕ) : Type 0 where
  pub given : lane_on l c ≡ true → (w : ℕ) → l.first_wire ≤ w → w < l.first_wire + l.width → slice_get new w ≡ Some (Some p)
  pub others : lane_on l c ≡ true → (w : ℕ) → (w < l.first_wire) ⊎ (l.first_wire + l.width ≤ w) → slice_get new w ≡ slice_get old w
  pub off : lane_on l c ≡ false → new ≡ old

module _ {tests : List PlannedTest} {c p : ℕ} where
  pub users_more : {content : Content} {n : ℕ} (on : AreOnWires tests n) {l : Lane} {t : PlannedTest} {old new : List (Option ℕ)} → IsAt tests p t →
      IsLane content t l → length new ≡ length old → GivenLane old new l p c → AreUsersBelow tests c p old → AreUsersBelow tests c (p + 1) new
  users_more on {l} {t} {old} {new} at is long g below = record {
    user = λ w i there. user w i there (cases_Bool (lane_on l c)) (cases_lt w l.first_wire) (cases_lt w (l.first_wire + l.width));
    every = λ w i u less h at' used. every w i u less h at' used (cases_eq i p);
  }
    where
      keep : (w i : ℕ) → slice_get new w ≡ slice_get old w → slice_get new w ≡ Some (Some i) → (t : PlannedTest) × IsAt tests i t × (uses c w t ≡ true)
      keep w i same there = below.user w i (sym same ∙ there)

      user : (w i : ℕ) → slice_get new w ≡ Some (Some i) → (lane_on l c ≡ true) ⊎ (lane_on l c ≡ false) → (w < l.first_wire) ⊎ (l.first_wire ≤ w) → (w < l.first_wire + l.width) ⊎ (l.first_wire + l.width ≤ w) →
          (t : PlannedTest) × IsAt tests i t × (uses c w t ≡ true)
      user w i there (inr off) _ _ = keep w i (ap (λ v. slice_get v w) (g.off off)) there
      user w i there (inl yes') (inl less) _ = keep w i (g.others yes' w (inl less)) there
      user w i there (inl yes') (inr low) (inr past) = keep w i (g.others yes' w (inr past)) there
      user w i there (inl yes') (inr low) (inl high) =
          let place = same_Some _ _ (same_Some _ _ (sym (g.given yes' w low high) ∙ there)) in
          (t, rw place at at, uses_from c is w yes' low high)

      every : (w i : ℕ) (u : PlannedTest) → i < p + 1 → w < length new → IsAt tests i u → uses c w u ≡ true → (i ≡ p) ⊎ (i ≢ p) → slice_get new w ≡ Some (Some i)
      every w i u less h at' used (inl same) =
          let t_is = same_Some _ _ (sym at ∙ rw same at at') in
          let x = from_uses c w is (rw (← t_is) at used) in
          rw same (g.given x.on w x.low x.high)
      every w i u less h at' used (inr other) = earlier (cases_Bool (lane_on l c)) (cases_lt w l.first_wire) (cases_lt w (l.first_wire + l.width)) where
        old_has : slice_get old w ≡ Some (Some i)
        old_has = below.every w i u (omega arith) (omega arith) at' used

        earlier : (lane_on l c ≡ true) ⊎ (lane_on l c ≡ false) → (w < l.first_wire) ⊎ (l.first_wire ≤ w) → (w < l.first_wire + l.width) ⊎ (l.first_wire + l.width ≤ w) → slice_get new w ≡ Some (Some i)
        earlier (inr off) _ _ = ap (λ v. slice_get v w) (g.off off) ∙ old_has
        earlier (inl yes') (inl low) _ = g.others yes' w (inl low) ∙ old_has
        earlier (inl yes') (inr low) (inr past) = g.others yes' w (inr past) ∙ old_has
        earlier (inl yes') (inr low) (inl high) = absurd (other (on.alone c w p i t u at at' (uses_from c is w yes' low high) used))

  pub all_users : {users : List (Option ℕ)} → length tests ≤ p → AreUsersBelow tests c p users → AreUsers tests c users
  all_users all below = record {
    user = below.user;
    every = λ w i t h at used. below.every w i t (let within = slice_get_within tests i t at in omega arith) h at used;
  }

-- ---- cycle by cycle

module _ (c change : ℕ) (h : c + 1 < change) where
  same_le : (n : ℕ) → (n ≤ c) ⊎ (change ≤ n) → nat_le n (c + 1) ≡ nat_le n c
  same_le n (inl past) = le-leb n (c + 1) (omega arith) ∙ sym (le-leb n c past)
  same_le n (inr later) = lt-leb n (c + 1) (omega arith) ∙ sym (lt-leb n c (omega arith))

  same_lt : (n : ℕ) → (n ≤ c) ⊎ (change ≤ n) → nat_lt (c + 1) n ≡ nat_lt c n
  same_lt n (inl past) = le-ltb (c + 1) n (omega arith) ∙ sym (le-ltb c n past)
  same_lt n (inr later) = lt-ltb (c + 1) n (omega arith) ∙ sym (lt-ltb c n (omega arith))

  same_uses : (w : ℕ) (t : PlannedTest) → IsUnchanged c change t.start × IsUnchanged c change (end_of t) → uses (c + 1) w t ≡ uses c w t
  same_uses w t u = rw (same_le t.start u.0, same_lt (end_of t) u.1) refl

module _ {m : Machine} (n : ℕ) (is_next : n ≡ m.cycle + 1) (h : n < m.change) where
  -- the users at the next cycle
  pub next_users : {content : Content} {tests : List PlannedTest} → IsMachine content tests m → AreUsers tests n m.users.items
  next_users is = rw is_next (record {
    user = λ w i there. let u = is.users.user w i there in (u.0, u.1, same_uses m.cycle m.change (omega arith) w u.0 (is.change i u.0 u.1) ∙ u.2);
    every = λ w i t less at used. is.users.every w i t less at (sym (same_uses m.cycle m.change (omega arith) w t (is.change i t at)) ∙ used);
  })

  pub next_some : IsSomeMachine m → {seen : List SteppedLane} {users : List (Option ℕ)} → seen ≡ m.lanes.items → users ≡ m.users.items →
      AreSomeUsers seen n users
  next_some s e f = record {
    content = s.content;
    tests = s.tests;
    are = subst (AreStepped s.content s.tests) (sym e) s.is.lanes;
    on = subst (λ (v : List (Option ℕ)). AreOnWires s.tests (length v)) (sym f) s.is.wires;
    by = subst (AreUsers s.tests n) (sym f) (next_users s.is);
  }

  pub next_machine : {content : Content} {tests : List PlannedTest} (lanes : Vec SteppedLane) → AreStepped content tests lanes.items →
      AreNow lanes.items n → IsMachine content tests m →
      IsMachine content tests (record { lanes = lanes; users = m.users; cycle = n; change = m.change })
  next_machine lanes are now is = record {
    lanes = are;
    wires = is.wires;
    users = next_users is;
    change = λ i t at. let u = is.change i t at in (later u.0, later u.1);
    now = now;
  }
    where
      later : {x : ℕ} → (x ≤ m.cycle) ⊎ (m.change ≤ x) → (x ≤ n) ⊎ (m.change ≤ x)
      later (inl past) = inl (omega arith)
      later (inr after) = inr after

-- what the lanes say of the change, the tests do
some_lane : (ls : List SteppedLane) (i : ℕ) → i < length ls → (l : SteppedLane) × (slice_get ls i ≡ Some l)
some_lane [] i h = absurd (omega arith)
some_lane (l ∷ ls) zero h = (l, refl)
some_lane (l ∷ ls) (suc i) h = some_lane ls i (omega arith)

module _ {content : Content} {tests : List PlannedTest} {lanes : List SteppedLane} (are : AreStepped content tests lanes) where
  pub tests_unchanged : (c change : ℕ) → ((i : ℕ) (l : SteppedLane) → slice_get lanes i ≡ Some l → IsLaneUnchanged c change l.lane) →
      AreUnchanged tests c change
  tests_unchanged c change each i t at =
      let within = slice_get_within tests i t at in
      let l = some_lane lanes i (omega arith) in
      let u = each i l.0 l.1 in
      let is = are.lane i t l.0 at l.1 in
      (subst (IsUnchanged c change) is.start u.0, subst (IsUnchanged c change) is.ends u.1)

  -- the lanes of a machine have their wires
  pub lanes_fit : {n : ℕ} → AreOnWires tests n → FitLanes lanes n
  lanes_fit on i l at tam =
      let within = slice_get_within lanes i l at in
      let t = some_item tests i (omega arith) in
      let is = are.lane i t.0 l t.1 at in
      let tam' : (t.0).tam ≡ true = sym is.tam ∙ tam in
      let wired = is.wired tam' in
      let fits = on.within i t.0 t.1 tam' in
      omega arith

module _ (lanes : List SteppedLane) (c n : ℕ) {l : SteppedLane} where
  pub sooner_more : (change change' : ℕ) → slice_get lanes n ≡ Some l → change' ≤ change → IsLaneUnchanged c change' l.lane →
      ((i : ℕ) (x : SteppedLane) → i < n → slice_get lanes i ≡ Some x → IsLaneUnchanged c change x.lane) → (i : ℕ) (x : SteppedLane) → i < n + 1 →
      slice_get lanes i ≡ Some x → IsLaneUnchanged c change' x.lane
  sooner_more change change' at less here before i x below there = elim (cases_eq i n) [
    | inl same ↦ subst (λ (l : SteppedLane). IsLaneUnchanged c change' l.lane) (same_Some _ _ (sym at ∙ rw same at there)) here
    | inr other ↦ sooner_still c change change' x.lane less (before i x (omega arith) there)
  ]

  pub assign_more : {content : Content} {tests : List PlannedTest} (are : AreStepped content tests lanes) (on : AreOnWires tests n) {p : ℕ}
      {old : List (Option ℕ)} (new : List (Option ℕ)) → slice_get lanes p ≡ Some l → length new ≡ length old → GivenLane old new l.lane p c →
      AreUsersBelow tests c p old → AreUsersBelow tests c (p + 1) new
  assign_more {tests} are on {p} new there long g below =
      let within = slice_get_within lanes p l there in
      let t = some_item tests p (omega arith) in
      users_more on t.1 (are.lane p t.0 l t.1 there) long g below

module _ (users : Vec (Option ℕ)) {seen : List SteppedLane} (new : List (Option ℕ)) (c : ℕ) where
  -- a machine that stands at a cycle
  pub stood : {content : Content} {tests : List PlannedTest} (lanes now_lanes : Vec SteppedLane) (change : ℕ) → seen ≡ lanes.items →
      length new ≡ length users.items → ((i : ℕ) (l : SteppedLane) → slice_get seen i ≡ Some l → IsLaneUnchanged c change l.lane) →
      AreUsers tests c new → AreStepped content tests lanes.items → AreStepped content tests now_lanes.items → AreNow now_lanes.items c →
      AreOnWires tests (length users.items) →
      IsMachine content tests (record { lanes = now_lanes; users = with_items users new; cycle = c; change = change })
  stood {tests} lanes now_lanes change e long each assigned are stand now on =
      let items = with_items_is users new (omega (arith, users.ok.0)) in
      let n : length (with_items users new).items ≡ length users.items = ap length items ∙ long in
      record {
        lanes = stand;
        wires = subst (AreOnWires tests) (sym n) on;
        users = subst (AreUsers tests c) (sym items) assigned;
        change = tests_unchanged are c change (subst (λ (ls : List SteppedLane). (i : ℕ) (l : SteppedLane) → slice_get ls i ≡ Some l → IsLaneUnchanged c change l.lane) e each);
        now = now;
      }

  -- the users who were given their wires
  pub users_stand : {lanes : List SteppedLane} (s : AreSomeStepped lanes (length users.items)) {seen' : List SteppedLane}
      {given now : List (Option ℕ)} → seen ≡ lanes → given ≡ users.items → length new ≡ length given →
      ((content : Content) (tests : List PlannedTest) → AreStepped content tests seen → AreOnWires tests (length given) → AreUsers tests c new) →
      seen' ≡ lanes → now ≡ (with_items users new).items → AreSomeUsers seen' c now
  users_stand s {given} {now} e f long assigned e' g =
      let same : length given ≡ length users.items = ap length f in
      let items : now ≡ new = g ∙ with_items_is users new (omega (arith, users.ok.0)) in
      record {
        content = s.content;
        tests = s.tests;
        are = subst (AreStepped s.content s.tests) (sym e') s.are;
        on = subst (AreOnWires s.tests) (sym (ap length items ∙ long ∙ same)) s.on;
        by = subst (AreUsers s.tests c) (sym items) (assigned s.content s.tests (subst (AreStepped s.content s.tests) (sym e) s.are) (subst (AreOnWires s.tests) (sym same) s.on));
      }
