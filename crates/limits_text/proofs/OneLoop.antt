-- Precedences have one first loop, which goes round, and none where the tests have ranks.
use Rattle.std.proofs.Common.{◌≡◌, ◌⊎◌, inl, inr, ℕ, zero, suc, ◌-◌, ◌<◌, ◌≤◌, List, [], ◌∷◌, length, get_or, map, Some, slice_get, refl, sym, ◌∙◌, ap, subst, arith, add-one, ◌+◌, Contains}
use Rattle.std.proofs.lemmas.Bool.{cases_order}
use Rattle.std.proofs.lemmas.List.{same_lists, length-map}
use Rattle.std.proofs.lemmas.Option.{slice_get-get_or, slice_get_within, get_or_from_slice_get, same_Some}
use Rattle.soc_model.specs.declared.TestId.{TestId}
use Rattle.soc_model.specs.Chips.{SocValue}
use Rattle.plan_model.specs.Plans.{LimitsValue}
use Rattle.plan_model.specs.Rules.{live_ids}
use Rattle.limits_text.specs.Loops.{IsTaken, take_away, IsFirstRemaining, IsForerunner, IsWalk, IsFirstLoop, IsLoopOf, HasRank, AreAt, GoesRound}
use Rattle.live_tests.specs.Names.{precedences}
use Rattle.common_lemmas.proofs.Lists.{same_somes}
use Rattle.plan_model.proofs.Lists.{at_contains}
use Rattle.live_tests.proofs.Precedences.{place_among, StandsFor, stands_for}
use Rattle.limits_text.specs.Laws.{LoopsGoRound}

-- ---- precedences have one first loop, and none where the tests have ranks

-- ---- one walk

module _ (pairs : List (ℕ × ℕ)) where
  one_first : (count a b : ℕ) → IsFirstRemaining pairs count a → IsFirstRemaining pairs count b → a ≡ b
  one_first count a b f g = by (cases_order a b)
    where
      by : (a ≡ b) ⊎ ((a < b) ⊎ (b < a)) → a ≡ b
      by (inl same) = same
      by (inr (inl less)) = absurd (f.remains (g.earlier a less))
      by (inr (inr less)) = absurd (g.remains (f.earlier b less))

  one_forerunner : (j a b : ℕ) → IsForerunner pairs j a → IsForerunner pairs j b → a ≡ b
  one_forerunner j a b f g = by (cases_order a b)
    where
      by : (a ≡ b) ⊎ ((a < b) ⊎ (b < a)) → a ≡ b
      by (inl same) = same
      by (inr (inl less)) = absurd (f.remains (g.earlier a less f.precedes))
      by (inr (inr less)) = absurd (g.remains (f.earlier b less g.precedes))

  -- two walks agree as far as both go
  same_walk : (count : ℕ) (v w : List ℕ) → IsWalk pairs count v → IsWalk pairs count w → (k x y : ℕ) → slice_get v k ≡ Some x → slice_get w k ≡ Some y → x ≡ y
  same_walk count v w a b zero x y at there = one_first count x y (a.begins x at) (b.begins y there)
  same_walk count v w a b (suc k) x y at there =
      let in_v = slice_get_within v (suc k) x at in
      let in_w = slice_get_within w (suc k) y there in
      let before_v : slice_get v k ≡ Some (get_or v k 0) = slice_get-get_or v k 0 (omega (arith, in_v)) in
      let before_w : slice_get w k ≡ Some (get_or w k 0) = slice_get-get_or w k 0 (omega (arith, in_w)) in
      let same : get_or v k 0 ≡ get_or w k 0 = same_walk count v w a b k (get_or v k 0) (get_or w k 0) before_v before_w in
      let f : IsForerunner pairs (get_or v k 0) x = a.goes k (get_or v k 0) x before_v (ap (slice_get v) (add-one k) ∙ at) in
      let g : IsForerunner pairs (get_or w k 0) y = b.goes k (get_or w k 0) y before_w (ap (slice_get w) (add-one k) ∙ there) in
      one_forerunner (get_or w k 0) x y (subst (λ j. IsForerunner pairs j x) same f) g

-- ---- one loop

-- what stands at a place of the one walk stands there in the other, where both go so far
module _ (pairs : List (ℕ × ℕ)) (count : ℕ) (c d : List ℕ) (a : IsFirstLoop pairs count c) (b : IsFirstLoop pairs count d) where
  agree : (k : ℕ) → k ≤ a.last → k ≤ b.last → slice_get a.walk k ≡ slice_get b.walk k
  agree k small below =
      let at : slice_get a.walk k ≡ Some (get_or a.walk k 0) = slice_get-get_or a.walk k 0 (omega (arith, small, a.long)) in
      let there : slice_get b.walk k ≡ Some (get_or b.walk k 0) = slice_get-get_or b.walk k 0 (omega (arith, below, b.long)) in
      at ∙ ap Some (same_walk pairs count a.walk b.walk a.is_walk b.is_walk k (get_or a.walk k 0) (get_or b.walk k 0) at there) ∙ sym there

module _ (pairs : List (ℕ × ℕ)) (count : ℕ) where
  -- a walk has come again before it ends in the other
  comes_later : (c d : List ℕ) (a : IsFirstLoop pairs count c) (b : IsFirstLoop pairs count d) → a.last < b.last → ⊥
  comes_later c d a b less =
      let early : a.meets ≤ b.last = omega (arith, a.before_last, less) in
      let inside : a.meets < b.last = omega (arith, a.before_last, less) in
      let at : slice_get b.walk a.last ≡ Some (get_or b.walk a.last 0) = slice_get-get_or b.walk a.last 0 (omega (arith, less, b.long)) in
      let again : slice_get b.walk a.meets ≡ Some (get_or b.walk a.last 0) =
      sym (agree pairs count c d a b a.meets (omega (arith, a.before_last)) early) ∙ a.again ∙ agree pairs count c d a b a.last (omega arith) (omega (arith, less)) ∙ at in
      let same : a.meets ≡ a.last = b.differ a.meets a.last (get_or b.walk a.last 0) inside less again at in
      omega (arith, same, a.before_last)

  pub one_loop : (c d : List ℕ) → IsFirstLoop pairs count c → IsFirstLoop pairs count d → c ≡ d
  one_loop c d a b = by (cases_order a.last b.last)
    where
      ends : a.last ≡ b.last → c ≡ d
      ends last =
          let at : slice_get a.walk a.meets ≡ Some (get_or a.walk a.meets 0) = slice_get-get_or a.walk a.meets 0 (omega (arith, a.before_last, a.long)) in
          let small : b.meets < a.last = omega (arith, b.before_last, last) in
          let other : slice_get a.walk b.meets ≡ Some (get_or a.walk a.meets 0) =
          agree pairs count c d a b b.meets (omega (arith, small)) (omega (arith, b.before_last)) ∙ b.again ∙ ap (slice_get b.walk) (sym last)
          ∙ sym (agree pairs count c d a b a.last (omega arith) (omega (arith, last))) ∙ sym a.again ∙ at in
          let meets : a.meets ≡ b.meets = a.differ a.meets b.meets (get_or a.walk a.meets 0) a.before_last small at other in
          let long : length c ≡ length d = omega (arith, a.loop_long, b.loop_long, last, meets) in
          same_lists c d long (λ k e less. element k e last (omega (arith, less)) (omega (arith, less, long)))
        where
          element : (k e : ℕ) → a.last ≡ b.last → k < length c → k < length d → get_or c k e ≡ get_or d k e
          element k e last less below =
              let same : slice_get c k ≡ slice_get d k =
              a.loop_is k less ∙ agree pairs count c d a b (a.last - k) (omega arith) (omega (arith, last)) ∙ ap (λ n. slice_get b.walk (n - k)) last ∙ sym (b.loop_is k below) in
              get_or_from_slice_get c k (get_or d k e) e (same ∙ slice_get-get_or d k e below)

      by : (a.last ≡ b.last) ⊎ ((a.last < b.last) ⊎ (b.last < a.last)) → c ≡ d
      by (inl last) = ends last
      by (inr (inl less)) = absurd (comes_later c d a b less)
      by (inr (inr less)) = absurd (comes_later d c b a less)

-- a chip refuses of limits at most one loop
pub one_loop_of : (soc : SocValue) (limits : LimitsValue) (a b : List TestId) → IsLoopOf soc limits a → IsLoopOf soc limits b → a ≡ b
one_loop_of soc limits a b c d =
    same_somes a b (sym c.2 ∙ ap (map (slice_get (live_ids soc))) (one_loop (precedences soc limits) (length (live_ids soc)) c.0 d.0 c.1 d.1) ∙ d.2)

-- ---- ranks

module _ (pairs : List (ℕ × ℕ)) (r : HasRank pairs) where
  taken_below : (n j : ℕ) → r.0 j < n → IsTaken pairs j
  taken_below zero j less = absurd (omega (arith, less))
  taken_below (suc n) j less = take_away j (λ i c. taken_below n i (omega (arith, less, r.1 i j c)))

  -- where the tests have ranks all are taken away
  ranked_taken : (j : ℕ) → IsTaken pairs j
  ranked_taken j = taken_below (suc (r.0 j)) j (omega arith)

pub no_ranked_loop : (pairs : List (ℕ × ℕ)) (count : ℕ) (circle : List ℕ) → IsFirstLoop pairs count circle → HasRank pairs → ⊥
no_ranked_loop pairs count circle c r =
    let at : slice_get c.walk 0 ≡ Some (get_or c.walk 0 0) = slice_get-get_or c.walk 0 0 (omega (arith, c.long)) in
    (c.is_walk.begins (get_or c.walk 0 0) at).remains (ranked_taken pairs r (get_or c.walk 0 0))

-- ---- the tests of a shown loop go round

module _ (ids : List TestId) where
  -- the place of a shown test
  place_at : (places : List ℕ) (tests : List TestId) (k : ℕ) (a : TestId) → AreAt ids places tests → slice_get tests k ≡ Some a → (x : ℕ) × (slice_get places k ≡ Some x) × (slice_get ids x ≡ Some a)
  place_at places [] k a are at = cc
  place_at [] (t ∷ tests) k a are at = cc
  place_at (x ∷ places) (t ∷ tests) zero a are at = (x, refl, first)
    where
      first : slice_get ids x ≡ Some a
      first = cc
  place_at (x ∷ places) (t ∷ tests) (suc k) a are at = place_at places tests k a rest at
    where
      rest : AreAt ids places tests
      rest = cc

  long_at : (places : List ℕ) (tests : List TestId) → AreAt ids places tests → length places ≡ length tests
  long_at places tests are = sym (length-map places (slice_get ids)) ∙ ap length are ∙ length-map tests Some

module _ (soc : SocValue) (limits : LimitsValue) (tests : List TestId) (circle : List ℕ) (c : IsFirstLoop (precedences soc limits) (length (live_ids soc)) circle) (are : AreAt (live_ids soc) circle tests) where
  long : length tests + c.meets ≡ c.last
  long = omega (arith, c.loop_long, long_at (live_ids soc) circle tests are)

  -- of two tests that follow each other in the walk the later one precedes the earlier one
  precede : (k x y : ℕ) (a b : TestId) → slice_get c.walk k ≡ Some x → slice_get c.walk (k + 1) ≡ Some y → slice_get (live_ids soc) x ≡ Some a → slice_get (live_ids soc) y ≡ Some b → Contains limits.before (b, a)
  precede k x y a b at there at_a at_b = by (stands_for (live_ids soc) limits.before y x (c.is_walk.goes k x y at there).precedes)
    where
      by : StandsFor (live_ids soc) limits.before y x → Contains limits.before (b, a)
      by s =
          let first : s.first ≡ b = same_Some s.first b (sym s.first_at ∙ at_b) in
          let second : s.second ≡ a = same_Some s.second a (sym s.second_at ∙ at_a) in
          rw (← first) (rw (← second) s.precedes)

  -- where a shown test stands in the walk
  walked : (k x : ℕ) → slice_get circle k ≡ Some x → slice_get c.walk (c.last - k) ≡ Some x
  walked k x at = sym (c.loop_is k (slice_get_within circle k x at)) ∙ at

  walked_last : (x : ℕ) → slice_get circle 0 ≡ Some x → slice_get c.walk c.last ≡ Some x
  walked_last x at = let end : c.last ≡ c.last - 0 = omega arith in ap (slice_get c.walk) end ∙ walked 0 x at

  small : (k : ℕ) (a : TestId) → slice_get tests k ≡ Some a → k + c.meets < c.last
  small k a at = omega (arith, long, slice_get_within tests k a at)

  follows : (k : ℕ) (a b : TestId) → slice_get tests k ≡ Some a → slice_get tests (k + 1) ≡ Some b → Contains limits.before (a, b)
  follows k a b at there =
      let p = place_at (live_ids soc) circle tests k a are at in
      let q = place_at (live_ids soc) circle tests (k + 1) b are there in
      let room : c.last - (k + 1) + 1 ≡ c.last - k = omega (arith, small (k + 1) b there) in
      precede (c.last - (k + 1)) q.0 p.0 b a (walked (k + 1) q.0 q.1) (ap (slice_get c.walk) room ∙ walked k p.0 p.1) q.2 p.2

  closing : (a b : TestId) → slice_get tests 0 ≡ Some a → slice_get tests (length tests - 1) ≡ Some b → Contains limits.before (b, a)
  closing a b at there =
      let p = place_at (live_ids soc) circle tests 0 a are at in
      let q = place_at (live_ids soc) circle tests (length tests - 1) b are there in
      let room : c.last - (length tests - 1) ≡ c.meets + 1 = omega (arith, long, slice_get_within tests 0 a at) in
      precede c.meets p.0 q.0 a b (c.again ∙ walked_last p.0 p.1) (ap (slice_get c.walk) (sym room) ∙ walked (length tests - 1) q.0 q.1) p.2 q.2

  -- a shown test has its own place among the live tests
  own_place : (k x : ℕ) (a : TestId) → slice_get circle k ≡ Some x → slice_get (live_ids soc) x ≡ Some a → place_among (live_ids soc) a ≡ Some x
  own_place k x a at at_a = by (stands_for (live_ids soc) limits.before x before (c.is_walk.goes (c.last - (k + 1)) before x there here).precedes)
    where
      within : k < length circle
      within = slice_get_within circle k x at

      before : ℕ
      before = get_or c.walk (c.last - (k + 1)) 0

      there : slice_get c.walk (c.last - (k + 1)) ≡ Some before
      there = slice_get-get_or c.walk (c.last - (k + 1)) 0 (omega (arith, c.long))

      room : c.last - (k + 1) + 1 ≡ c.last - k
      room = omega (arith, within, c.loop_long)

      here : slice_get c.walk (c.last - (k + 1) + 1) ≡ Some x
      here = ap (slice_get c.walk) room ∙ walked k x at

      by : StandsFor (live_ids soc) limits.before x before → place_among (live_ids soc) a ≡ Some x
      by s = let first : s.first ≡ a = same_Some s.first a (sym s.first_at ∙ at_a) in ap (place_among (live_ids soc)) (sym first) ∙ s.first_place

  -- a place that stands before the end of the walk, and goes to the same test
  early : (k x : ℕ) → slice_get circle k ≡ Some x → (p : ℕ) × (p < c.last) × (slice_get c.walk p ≡ Some x) × ((p ≡ c.last - k) ⊎ ((p ≡ c.meets) × (k ≡ 0)))
  early zero x at = (c.meets, c.before_last, c.again ∙ walked_last x at, inr (refl, refl))
  early (suc k) x at = (c.last - suc k, omega (arith, c.before_last), walked (suc k) x at, inl refl)

  once : (p q : ℕ) (a : TestId) → slice_get tests p ≡ Some a → slice_get tests q ≡ Some a → p ≡ q
  once p q a at there =
      let i = place_at (live_ids soc) circle tests p a are at in
      let j = place_at (live_ids soc) circle tests q a are there in
      let same : j.0 ≡ i.0 = same_Some j.0 i.0 (sym (own_place q j.0 a j.1 j.2) ∙ own_place p i.0 a i.1 i.2) in
      let e = early p i.0 i.1 in
      let f = early q j.0 j.1 in
      let places : e.0 ≡ f.0 = c.differ e.0 f.0 i.0 e.1 f.1 e.2 (f.2 ∙ ap Some same) in
      by e.3 f.3 places (small p a at) (small q a there)
    where
      by : {m n : ℕ} → (m ≡ c.last - p) ⊎ ((m ≡ c.meets) × (p ≡ 0)) → (n ≡ c.last - q) ⊎ ((n ≡ c.meets) × (q ≡ 0)) → m ≡ n → p + c.meets < c.last → q + c.meets < c.last → p ≡ q
      by (inl e) (inl f) same less below = omega (arith, e, f, same, less, below)
      by (inl e) (inr f) same less below = omega (arith, e, f.0, same, less)
      by (inr e) (inl f) same less below = omega (arith, e.0, f, same, below)
      by (inr e) (inr f) same less below = omega (arith, e.1, f.1)

  round : GoesRound soc limits tests
  round = record {
    some = omega (arith, long, c.before_last);
    live = λ k a at. (let p = place_at (live_ids soc) circle tests k a are at in at_contains (live_ids soc) p.0 a p.2);
    precedes = follows;
    closes = closing;
    once = once;
  }

pub goes_round : LoopsGoRound
goes_round soc limits tests c = round soc limits tests c.0 c.1 c.2
