-- What remains once no more tests can be taken away, the loop that is found there, and its tests.
use Rattle.std.proofs.Common.{◌≡◌, ℕ, ◌<◌, List, length, get_or, Bool, true, false, cond, nat_lt, Some, None, slice_get, position, sym, ◌∙◌, ap, arith, ◌⊎◌, inl, inr, zero, suc, ◌+◌, ◌-◌, ◌≤◌, [], ◌∷◌, ◌&&◌, not, nat_eq, refl, subst, add-one, ◌++◌, take, map, Option, All, Contains, min}
use Rattle.std.specs.List.{position_or_len}
use Rattle.std.proofs.lemmas.List.Sums.{fails_before_first}
use Rattle.std.proofs.lemmas.List.Quantifiers.{position-Some}
use Rattle.std.proofs.lemmas.Option.{get_or_from_slice_get, slice_get-get_or, slice_get_within, same_Some}
use Rattle.std.proofs.lemmas.Bool.{cases_lt, eqb-true, eq-eqb, cases_Bool}
use Rattle.std.proofs.lemmas.List.Elements.{All-contains, All-get_or, All-from_get_or}
use Rattle.plan_model.proofs.Finding.{none_passes}
use Rattle.limits_text.specs.Loops.{IsTaken, take_away, Remains, IsFirstRemaining, IsForerunner, IsWalk, IsFirstLoop, HasRank, AreAt}
use Rattle.limits_text.specs.Orders.{is_in, least_before, Counts, IsTaking, AreMarked, ComesAgain, IsBack}
use Rattle.limits_text.proofs.Taking.{in_at, in_take_at}
use Rattle.common_lemmas.proofs.Tests.{not_true, not_false}
use Rattle.common_lemmas.proofs.Lists.{contains_at, contains_from}
use Rattle.std.proofs.lemmas.List.{take_more, map-append}
use Rattle.soc_model.specs.declared.TestId.{TestId}
use Rattle.soc_model.specs.Chips.{SocValue}
use Rattle.plan_model.specs.Plans.{LimitsValue}
use Rattle.plan_model.specs.Rules.{live_ids}
use Rattle.plan_model.specs.SoundLimits.{IsAcyclic}
use Rattle.plan_model.proofs.Lists.{at_contains}
use Rattle.live_tests.proofs.Precedences.{place_among, place_there, pair_there, StandsFor, stands_for}
use Rattle.live_tests.specs.Names.{precedences}

-- ---- the first place at which an element passes a test

cond_some : {X : Type 0} (b : Bool) (x y : X) → cond b (Some x) None ≡ Some y → x ≡ y
cond_some true x y e = cc
cond_some false x y e = cc

module _ {X : Type 0} (p : X → Bool) (xs : List X) (k : ℕ) where
  -- before the first that passes
  pub fails_before : (i : ℕ) (x : X) → position p xs ≡ Some k → i < k → slice_get xs i ≡ Some x → p x ≡ false
  fails_before i x found less at =
      let same = cond_some (nat_lt (position_or_len p xs) (length xs)) (position_or_len p xs) k found in
      ap p (sym (get_or_from_slice_get xs i x x at)) ∙ fails_before_first p xs i x (omega (arith, less, same))

  -- the first that passes
  pub passes_at : (d : X) → position p xs ≡ Some k → (k < length xs) × (p (get_or xs k d) ≡ true)
  passes_at d found = let e = position-Some p xs k d found in (e.0, e.1)

-- ---- what remains once no more tests can be taken away, and the loop that is found there

abbrev pub AreWithin : List (ℕ × ℕ) → ℕ → Type 0
AreWithin pairs count = All (λ (e : ℕ × ℕ). (e.0 < count) × (e.1 < count)) pairs

module _ {pairs : List (ℕ × ℕ)} {count : ℕ} {order : List ℕ} (t : IsTaking pairs count order) where
  -- what is in the order can be taken away
  taken_below : (n p j : ℕ) → p < n → slice_get order p ≡ Some j → IsTaken pairs j
  taken_below zero p j less at = absurd (omega (arith, less))
  taken_below (suc n) p j less at =
      take_away j (λ i c. (let a = in_take_at order p i (t.ordered p i j at c) in taken_below n a.0 i (omega (arith, a.1, less)) a.2))

  pub taken : (j : ℕ) → is_in order j ≡ true → IsTaken pairs j
  taken j e = let a = in_at order j e in taken_below (suc a.0) a.0 j (omega arith) a.1

  -- what is not in the order is never taken away
  never : AreWithin pairs count → (j : ℕ) → IsTaken pairs j → j < count → is_in order j ≡ false → ⊥
  never all _ (take_away i f) small fresh =
      let k = t.stuck i small fresh in
      never all k.0 (f k.0 k.1) (All-contains (λ (e : ℕ × ℕ). (e.0 < count) × (e.1 < count)) pairs (k.0, i) all k.1).0 k.2

  pub remains : AreWithin pairs count → (j : ℕ) → j < count → is_in order j ≡ false → Remains pairs j
  remains all j small fresh is = never all j is small fresh

-- ---- without a loop

-- the place of a test in the order
rank_in : List ℕ → ℕ → ℕ
rank_in [] j = 0
rank_in (y ∷ xs) j = cond (nat_eq j y) 0 (suc (rank_in xs j))

rank-upto : (xs : List ℕ) (q x : ℕ) → slice_get xs q ≡ Some x → rank_in xs x ≤ q
unfolding rank_in
rank-upto [] q x at = cc
rank-upto (y ∷ xs) zero x at = here (nat_eq x y) (eq-eqb x y (sym (same_Some y x at)))
  where
    here : (b : Bool) → b ≡ true → cond b 0 (suc (rank_in xs x)) ≤ 0
    here true f = omega arith
    here false f = cc
rank-upto (y ∷ xs) (suc q) x at = next (nat_eq x y) (rank-upto xs q x at)
  where
    next : (b : Bool) → rank_in xs x ≤ q → cond b 0 (suc (rank_in xs x)) ≤ suc q
    next true f = omega arith
    next false f = omega (arith, f)

at_rank : (xs : List ℕ) (x : ℕ) → is_in xs x ≡ true → slice_get xs (rank_in xs x) ≡ Some x
unfolding rank_in
at_rank [] x e = cc
at_rank (y ∷ xs) x e = elim (cases_Bool (nat_eq x y)) [
  | inl is ↦ rw is (ap Some (sym (eqb-true x y is)))
  | inr is ↦ rw is (at_rank xs x (rw is at e))
]

-- the marks say what is in the order
pub record Marked (count : ℕ) (order : List ℕ) (gone : List Bool) : Type 0 where
  pub long : length gone ≡ count
  pub marks : AreMarked gone order

module _ {count : ℕ} {order : List ℕ} {gone : List Bool} (m : Marked count order gone) where
  marked_in : (j : ℕ) (b : Bool) → j < count → get_or gone j false ≡ b → is_in order j ≡ b
  marked_in j b small e = sym (m.marks j (omega (arith, small, m.long))) ∙ e

-- a test that is not gone, and so remains
abbrev IsLeft : ℕ → List Bool → ℕ → Type 0
IsLeft count gone j = (j < count) × (get_or gone j false ≡ false)

module _ {pairs : List (ℕ × ℕ)} {count : ℕ} {order : List ℕ} {gone : List Bool} (t : IsTaking pairs count order) (m : Marked count order gone) (all : AreWithin pairs count) where
  -- where all tests are gone they have ranks
  pub all_ranked : position not gone ≡ None → HasRank pairs
  all_ranked none = (λ j. rank_in order j, λ i j c. grows i j c)
    where
      every : (j : ℕ) → j < count → is_in order j ≡ true
      every j small = marked_in m j true small (not_false (get_or gone j false) (none_passes not gone none j (get_or gone j false) (slice_get-get_or gone j false (omega (arith, small, m.long)))))

      grows : (i j : ℕ) → Contains pairs (i, j) → rank_in order i < rank_in order j
      grows i j c =
          let small = (All-contains (λ (e : ℕ × ℕ). (e.0 < count) × (e.1 < count)) pairs (i, j) all c).1 in
          let a = in_take_at order (rank_in order j) i (t.ordered (rank_in order j) i j (at_rank order j (every j small)) c) in
          omega (arith, a.1, rank-upto order a.0 i a.2)

  left_remains : (j : ℕ) → IsLeft count gone j → Remains pairs j
  left_remains j l = remains t all j l.0 (marked_in m j false l.0 l.1)

  pub first_left : (start : ℕ) → position not gone ≡ Some start → IsFirstRemaining pairs count start × IsLeft count gone start
  first_left start found =
      let at = passes_at not gone start false found in
      let left : IsLeft count gone start = (omega (arith, at.0, m.long), not_true (get_or gone start false) at.1) in (
        record {
          within = left.0;
          remains = left_remains start left;
          earlier = λ k less. taken t k (marked_in m k true (omega (arith, less, left.0)) (not_false (get_or gone k false) (fails_before not gone start k (get_or gone k false) found less (slice_get-get_or gone k false (omega (arith, less, at.0))))));
        },
        left,
      )

  -- no test that is left stands before `j` and is less
  least_le : (none : ℕ) (ps : List (ℕ × ℕ)) (p i j : ℕ) → slice_get ps p ≡ Some (i, j) → get_or gone i false ≡ false → least_before gone none ps j ≤ i
  least_le none [] p i j at left = cc
  least_le none (e ∷ ps) zero i j at left = by e (same_Some e (i, j) at)
    where
      here : (b c : Bool) (x : ℕ) → b ≡ true → c ≡ false → cond (b && not c) (min i x) x ≤ i
      here true false x f g = omega arith
      here true true x f g = cc
      here false c x f g = cc

      by : (e : ℕ × ℕ) → e ≡ (i, j) → least_before gone none (e ∷ ps) j ≤ i
      by e same = subst (λ (y : ℕ × ℕ). least_before gone none (y ∷ ps) j ≤ i) (sym same) (here (nat_eq j j) (get_or gone i false) (least_before gone none ps j) (eq-eqb j j refl) left)
  least_le none (e ∷ ps) (suc p) i j at left = by (nat_eq j e.1 && not (get_or gone e.0 false)) (least_le none ps p i j at left)
    where
      by : (b : Bool) → least_before gone none ps j ≤ i → cond b (min e.0 (least_before gone none ps j)) (least_before gone none ps j) ≤ i
      by true f = omega (arith, f)
      by false f = f

  -- the least test before `j` is one, or there is none
  least_is : (none : ℕ) (ps : List (ℕ × ℕ)) (j : ℕ) → (least_before gone none ps j ≡ none) ⊎ ((p : ℕ) × (slice_get ps p ≡ Some (least_before gone none ps j, j)) × (get_or gone (least_before gone none ps j) false ≡ false))
  least_is none [] j = inl refl
  least_is none (e ∷ ps) j = by (nat_eq j e.1) (get_or gone e.0 false) refl refl (least_is none ps j)
    where
      Found : ℕ → Type 0
      Found x = (x ≡ none) ⊎ ((p : ℕ) × (slice_get (e ∷ ps) p ≡ Some (x, j)) × (get_or gone x false ≡ false))

      later : (x : ℕ) → (x ≡ none) ⊎ ((p : ℕ) × (slice_get ps p ≡ Some (x, j)) × (get_or gone x false ≡ false)) → Found x
      later x (inl f) = inl f
      later x (inr f) = inr (suc f.0, f.1, f.2)

      pick : (x : ℕ) → nat_eq j e.1 ≡ true → get_or gone e.0 false ≡ false → Found x → Found (min e.0 x)
      pick x f g found = elim (cases_lt e.0 x) [
        | inl less ↦ subst Found (smaller e.0 x less) (inr (0, ap (λ n. Some (e.0, n)) (sym (eqb-true j e.1 f)), g))
        | inr most ↦ subst Found (greater e.0 x most) found
      ]
        where
          smaller : (a b : ℕ) → a < b → a ≡ min a b
          smaller a b h = omega arith

          greater : (a b : ℕ) → b ≤ a → b ≡ min a b
          greater a b h = omega arith

      by : (b c : Bool) → nat_eq j e.1 ≡ b → get_or gone e.0 false ≡ c → (least_before gone none ps j ≡ none) ⊎ ((p : ℕ) × (slice_get ps p ≡ Some (least_before gone none ps j, j)) × (get_or gone (least_before gone none ps j) false ≡ false))
          → Found (cond (b && not c) (min e.0 (least_before gone none ps j)) (least_before gone none ps j))
      by true false f g again = pick (least_before gone none ps j) f g (later (least_before gone none ps j) again)
      by true true f g again = later (least_before gone none ps j) again
      by false c f g again = later (least_before gone none ps j) again

  -- the forerunner of a test that is left
  forerunner : (j : ℕ) → IsLeft count gone j → IsForerunner pairs j (least_before gone (length gone - 1) pairs j) × IsLeft count gone (least_before gone (length gone - 1) pairs j)
  forerunner j left =
      let k = t.stuck j left.0 (marked_in m j false left.0 left.1) in
      let small = (All-contains (λ (e : ℕ × ℕ). (e.0 < count) × (e.1 < count)) pairs (k.0, j) all k.1).0 in
      let open_k : get_or gone k.0 false ≡ false = m.marks k.0 (omega (arith, small, m.long)) ∙ k.2 in
      let c = contains_at pairs (k.0, j) k.1 in
      let below = least_le (length gone - 1) pairs c.0 k.0 j c.1 open_k in
      by (least_is (length gone - 1) pairs j) k.0 small k.1 open_k below
    where
      least : ℕ
      least = least_before gone (length gone - 1) pairs j

      earlier : (k : ℕ) → k < least → Contains pairs (k, j) → IsTaken pairs k
      earlier k less c =
          let small = (All-contains (λ (e : ℕ × ℕ). (e.0 < count) × (e.1 < count)) pairs (k, j) all c).0 in
          taken t k (marked_in m k true small (gone_k (get_or gone k false) refl (contains_at pairs (k, j) c)))
        where
          gone_k : (b : Bool) → get_or gone k false ≡ b → (p : ℕ) × (slice_get pairs p ≡ Some (k, j)) → get_or gone k false ≡ true
          gone_k true e c = e
          gone_k false e c = absurd (omega (arith, less, least_le (length gone - 1) pairs c.0 k j c.1 e))

      found : (i : ℕ) → least ≡ i → Contains pairs (i, j) → IsLeft count gone i → IsForerunner pairs j least × IsLeft count gone least
      found i same c l = subst (λ n. IsForerunner pairs j n × IsLeft count gone n) (sym same) (record { precedes = c; remains = left_remains i l; earlier = λ k less. earlier k (omega (arith, less, same)) }, l)

      by : (least ≡ length gone - 1) ⊎ ((p : ℕ) × (slice_get pairs p ≡ Some (least, j)) × (get_or gone least false ≡ false)) → (i : ℕ) → i < count → Contains pairs (i, j) → get_or gone i false ≡ false → least ≤ i → IsForerunner pairs j least × IsLeft count gone least
      by (inl e) i small c open_i below = found i (omega (arith, e, below, small, m.long)) c (small, open_i)
      by (inr f) i small c open_i below =
          let has = contains_from pairs (least, j) f.0 f.1 in
          found least refl has ((All-contains (λ (e : ℕ × ℕ). (e.0 < count) × (e.1 < count)) pairs (least, j) all has).0, f.2)

  -- a walk over the least tests is over forerunners
  pub walk_is : (least : List ℕ) (start : ℕ) (walk : List ℕ) (meets : ℕ) → position not gone ≡ Some start → length least ≡ length gone → Counts least (least_before gone (length gone - 1) pairs) → ComesAgain least start walk meets → IsWalk pairs count walk
  walk_is least start walk meets found long are w =
      let begin = first_left start found in
      record {
        begins = λ x at. subst (IsFirstRemaining pairs count) (same_Some start x (sym w.begins ∙ at)) begin.0;
        goes = λ k x y at there. (let l = left k x at begin.1 in subst (IsForerunner pairs x) (next k x y at there l) (forerunner x l).0);
      }
    where
      next : (k x y : ℕ) → slice_get walk k ≡ Some x → slice_get walk (k + 1) ≡ Some y → IsLeft count gone x → least_before gone (length gone - 1) pairs x ≡ y
      next k x y at there l = sym (w.goes k x y at there ∙ are x (omega (arith, l.0, m.long, long)))

      left : (k x : ℕ) → slice_get walk k ≡ Some x → IsLeft count gone start → IsLeft count gone x
      left zero x at begin = subst (IsLeft count gone) (same_Some start x (sym w.begins ∙ at)) begin
      left (suc k) x at begin =
          let within = slice_get_within walk (suc k) x at in
          let before : slice_get walk k ≡ Some (get_or walk k 0) = slice_get-get_or walk k 0 (omega (arith, within)) in
          let l = left k (get_or walk k 0) before begin in
          subst (IsLeft count gone) (next k (get_or walk k 0) x before (ap (slice_get walk) (add-one k) ∙ at) l) (forerunner (get_or walk k 0) l).1

  -- the loop that a walk over the least tests ends in
  pub loop_found : (least : List ℕ) (start : ℕ) (walk : List ℕ) (meets : ℕ) (circle : List ℕ) → position not gone ≡ Some start → length least ≡ length gone → Counts least (least_before gone (length gone - 1) pairs) → ComesAgain least start walk meets
      → length circle + meets + 1 ≡ length walk → IsBack walk circle → IsFirstLoop pairs count circle
  loop_found least start walk meets circle found long are w loop_long back = record {
    walk = walk;
    meets = meets;
    last = w.last;
    is_walk = walk_is least start walk meets found long are w;
    long = w.long;
    before_last = w.before_last;
    again = w.again;
    differ = w.differ;
    loop_long = omega (arith, loop_long, w.long);
    loop_is = λ k less. back k less ∙ ap (λ n. slice_get walk (n - k)) (last_is (length walk) w.last w.long);
  }
    where
      last_is : (a b : ℕ) → a ≡ b + 1 → a - 1 ≡ b
      last_is a b e = omega arith

-- ---- ranks of live tests and of their places, and the tests of a loop

-- ---- ranks

-- ranks of places are ranks of tests
rank_of : (ℕ → ℕ) → Option ℕ → ℕ
rank_of rank None = 0
rank_of rank (Some i) = rank i

pub acyclic : (soc : SocValue) (limits : LimitsValue) → HasRank (precedences soc limits) → IsAcyclic soc limits
unfolding rank_of
acyclic soc limits r = (λ id. rank_of r.0 (place_among (live_ids soc) id), λ a b c live_a live_b. grows a b c live_a live_b)
  where
    grows : (a b : TestId) → Contains limits.before (a, b) → Contains (live_ids soc) a → Contains (live_ids soc) b → rank_of r.0 (place_among (live_ids soc) a) < rank_of r.0 (place_among (live_ids soc) b)
    grows a b c live_a live_b =
        let k = contains_at limits.before (a, b) c in
        let at_a = contains_at (live_ids soc) a live_a in
        let at_b = contains_at (live_ids soc) b live_b in
        let i = place_there at_a.0 (live_ids soc) a at_a.1 in
        let j = place_there at_b.0 (live_ids soc) b at_b.1 in
        let less : r.0 i.0 < r.0 j.0 = r.1 i.0 j.0 (pair_there (live_ids soc) limits.before k.0 i.0 j.0 a b k.1 i.1 j.1) in
        let left : rank_of r.0 (place_among (live_ids soc) a) ≡ r.0 i.0 = ap (rank_of r.0) i.1 in
        let right : rank_of r.0 (place_among (live_ids soc) b) ≡ r.0 j.0 = ap (rank_of r.0) j.1 in
        omega (arith, less, left, right)

-- ranks of tests are ranks of their places
rank_at : (TestId → ℕ) → Option TestId → ℕ
rank_at rank None = 0
rank_at rank (Some id) = rank id

pub ranked : (soc : SocValue) (limits : LimitsValue) → IsAcyclic soc limits → HasRank (precedences soc limits)
unfolding rank_at
ranked soc limits r = (λ i. rank_at r.0 (slice_get (live_ids soc) i), λ i j c. grows i j (stands_for (live_ids soc) limits.before i j c))
  where
    grows : (i j : ℕ) → StandsFor (live_ids soc) limits.before i j → rank_at r.0 (slice_get (live_ids soc) i) < rank_at r.0 (slice_get (live_ids soc) j)
    grows i j s =
        let less : r.0 s.first < r.0 s.second = r.1 s.first s.second s.precedes (at_contains (live_ids soc) i s.first s.first_at) (at_contains (live_ids soc) j s.second s.second_at) in
        let left : rank_at r.0 (slice_get (live_ids soc) i) ≡ r.0 s.first = ap (rank_at r.0) s.first_at in
        let right : rank_at r.0 (slice_get (live_ids soc) j) ≡ r.0 s.second = ap (rank_at r.0) s.second_at in
        omega (arith, less, left, right)

-- ---- the tests of a loop

module _ (pairs : List (ℕ × ℕ)) (count : ℕ) where
  walk_within : (walk : List ℕ) → AreWithin pairs count → IsWalk pairs count walk → (k x : ℕ) → slice_get walk k ≡ Some x → x < count
  walk_within walk all w zero x at = (w.begins x at).within
  walk_within walk all w (suc k) x at =
      let within = slice_get_within walk (suc k) x at in
      let before : slice_get walk k ≡ Some (get_or walk k 0) = slice_get-get_or walk k 0 (omega (arith, within)) in
      let f = w.goes k (get_or walk k 0) x before (ap (slice_get walk) (add-one k) ∙ at) in
      (All-contains (λ (e : ℕ × ℕ). (e.0 < count) × (e.1 < count)) pairs (x, get_or walk k 0) all f.precedes).0

  pub loop_within : (circle : List ℕ) → AreWithin pairs count → IsFirstLoop pairs count circle → All (λ p. p < count) circle
  loop_within circle all c =
      All-from_get_or (λ p. p < count) circle 0 (λ k less. walk_within c.walk all c.is_walk (c.last - k) (get_or circle k 0) (sym (c.loop_is k less) ∙ slice_get-get_or circle k 0 less))

pub tests_more : (ids : List TestId) (places : List ℕ) (tests : List TestId) (k : ℕ) (test d : TestId) → AreAt ids (take k places) tests → k < length places → All (λ p. p < length ids) places → test ≡ get_or ids (get_or places k 0) d → AreAt ids (take (k + 1) places) (tests ++ test ∷ [])
tests_more ids places tests k test d are less all is =
    let small = All-get_or (λ p. p < length ids) places k 0 less all in
    ap (map (slice_get ids)) (take_more places k 0 less) ∙ map-append (slice_get ids) (take k places) (get_or places k 0 ∷ [])
    ∙ ap (λ l. l ++ slice_get ids (get_or places k 0) ∷ []) are ∙ ap (λ o. map Some tests ++ o ∷ []) (slice_get-get_or ids (get_or places k 0) d small ∙ ap Some (sym is)) ∙ sym (map-append Some tests (test ∷ []))
