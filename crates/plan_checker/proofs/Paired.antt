-- Precedences by the places of their tests stand for those by name: all are kept where those are, and the first that is broken by place
-- is the first by name.
use Rattle.std.proofs.Common.{◌≡◌, ℕ, zero, suc, ◌<◌, ◌≤◌, Option, Some, None, List, [], ◌∷◌, ◌++◌, length, take, refl, sym, ap, ◌∙◌, subst, arith, slice_get}
use Rattle.std.specs.List.{All, flat_map}
use Rattle.std.proofs.lemmas.Option.{slice_get_within}
use Rattle.soc_model.specs.declared.TestId.{TestId}
use Rattle.soc_model.specs.Chips.{SocValue}
use Rattle.plan_model.specs.Plans.{PlanValue, planned}
use Rattle.plan_model.specs.Rules.{Each, InOrder, IsFirstBreach}
use Rattle.live_tests.specs.declared.placed.PlacedTest.{PlacedTest}
use Rattle.live_tests.specs.Placed.{placed_tests}
use Rattle.live_tests.specs.Names.{AllDiffer, both_places, places_of}
use Rattle.live_tests.proofs.Precedences.{pair_there, pairs_within, place_among, place_there, test_there}
use Rattle.plan_model.proofs.FirstBreaches.{EachTo}
use Rattle.plan_checker.specs.Broken.{Breaks, EachOf}
use Rattle.plan_checker.specs.Named.{names_of}
use Rattle.plan_checker.specs.Order.{AreInOrder, IsInOrderAt}
use Rattle.plan_checker.proofs.Breaking.{breaks_behind, breaks_first, breaks_front, breaks_one, of_one}
use Rattle.plan_checker.proofs.Finding.{some_same}
use Rattle.plan_checker.proofs.Ordering.{order_down, order_up}
use Rattle.plan_checker.proofs.Rooms.{length_values}
use Rattle.common_lemmas.proofs.Lists.{contains_at, map_at}

-- the places are those of placed tests
pub places_within : (placed : List PlacedTest) (before : List (TestId × TestId)) (pairs : List (ℕ × ℕ)) → pairs ≡ flat_map (places_of (names_of placed)) before → All (λ (e : ℕ × ℕ). (e.0 < length placed) × (e.1 < length placed)) pairs
places_within placed before pairs are = rw are (subst (λ n. All (λ (e : ℕ × ℕ). (e.0 < n) × (e.1 < n)) (flat_map (places_of (names_of placed)) before)) (length_values (λ (j : PlacedTest). j.id) placed) (pairs_within (names_of placed) before))

-- ---- one precedence

abbrev place_of : List PlacedTest → TestId → Option ℕ
place_of placed id = place_among (names_of placed) id

-- a placed test stands at the place of its name
placed_at : (placed : List PlacedTest) (i p : ℕ) (a : PlacedTest) (id : TestId) → AllDiffer (names_of placed) → place_of placed id ≡ Some p → slice_get placed i ≡ Some a → a.id ≡ id → i ≡ p
placed_at placed i p a id apart place at named = apart i p id (map_at (λ (j : PlacedTest). j.id) placed i a at ∙ ap Some named) (test_there p (names_of placed) id place)

-- what stands there has the name
named_at : (placed : List PlacedTest) (p : ℕ) (a : PlacedTest) (id : TestId) → place_of placed id ≡ Some p → slice_get placed p ≡ Some a → a.id ≡ id
named_at placed p a id place at = some_same (sym (map_at (λ (j : PlacedTest). j.id) placed p a at) ∙ test_there p (names_of placed) id place)

-- a name without a place is of no placed test
unnamed : (placed : List PlacedTest) (i : ℕ) (a : PlacedTest) (id : TestId) → place_of placed id ≡ None → slice_get placed i ≡ Some a → a.id ≡ id → ⊥
unnamed placed i a id none at named =
    let p = place_there i (names_of placed) id (map_at (λ (j : PlacedTest). j.id) placed i a at ∙ ap Some named) in
    let both = sym none ∙ p.1 in
    absurd cc

order_named : (placed : List PlacedTest) (p : TestId × TestId) (i j : ℕ) → AllDiffer (names_of placed) → place_of placed p.0 ≡ Some i → place_of placed p.1 ≡ Some j → IsInOrderAt placed (i, j) → AreInOrder placed [] p
order_named placed p i j apart first second kept m n a b at there a_is b_is =
    kept a b
    (ap (slice_get placed) (sym (placed_at placed m i a p.0 apart first at a_is)) ∙ at)
    (ap (slice_get placed) (sym (placed_at placed n j b p.1 apart second there b_is)) ∙ there)

order_placed : (placed : List PlacedTest) (p : TestId × TestId) (i j : ℕ) → place_of placed p.0 ≡ Some i → place_of placed p.1 ≡ Some j → AreInOrder placed [] p → IsInOrderAt placed (i, j)
order_placed placed p i j first second kept a b at there = kept i j a b at there (named_at placed i a p.0 first at) (named_at placed j b p.1 second there)

-- ---- all of them

pub all_in_order : (placed : List PlacedTest) (before : List (TestId × TestId)) (n : ℕ) → AllDiffer (names_of placed) → length (flat_map (places_of (names_of placed)) before) ≤ n
    → EachTo (λ (earlier : List (ℕ × ℕ)) (e : ℕ × ℕ). IsInOrderAt placed e) (flat_map (places_of (names_of placed)) before) n → EachOf (AreInOrder placed []) before
all_in_order placed before n apart all kept k p at = by (place_of placed p.0) (place_of placed p.1) refl refl where
  by : (o u : Option ℕ) → place_of placed p.0 ≡ o → place_of placed p.1 ≡ u → AreInOrder placed [] p
  by None u first second = λ i j a b here there a_is b_is. absurd (unnamed placed i a p.0 first here a_is)
  by (Some f) None first second = λ i j a b here there a_is b_is. absurd (unnamed placed j b p.1 second there b_is)
  by (Some f) (Some s) first second =
      let pairs = flat_map (places_of (names_of placed)) before in
      let c = contains_at pairs (f, s) (pair_there (names_of placed) before k f s p.0 p.1 at first second) in
      order_named placed p f s apart first second (kept c.0 (f, s) (within pairs c.0 (f, s) n all c.1) c.1)
    where
      within : (xs : List (ℕ × ℕ)) (c : ℕ) (x : ℕ × ℕ) (n : ℕ) → length xs ≤ n → slice_get xs c ≡ Some x → c < n
      within xs c x n long at = omega (arith, long, slice_get_within xs c x at)

-- ---- the first that is broken

pub first_out_of_order : (placed : List PlacedTest) (before : List (TestId × TestId)) (k i j : ℕ) (a b : PlacedTest) → AllDiffer (names_of placed) → slice_get (flat_map (places_of (names_of placed)) before) k ≡ Some (i, j) → slice_get placed i ≡ Some a → slice_get placed j ≡ Some b
    → EachTo (λ (earlier : List (ℕ × ℕ)) (e : ℕ × ℕ). IsInOrderAt placed e) (flat_map (places_of (names_of placed)) before) k → (IsInOrderAt placed (i, j) → ⊥) → Breaks (AreInOrder placed []) before (a.id, b.id)
first_out_of_order placed [] k i j a b apart at here there kept broken = absurd cc
first_out_of_order placed (p ∷ before) k i j a b apart at here there kept broken =
    by (place_of placed p.0) (place_of placed p.1) refl refl k at kept (λ n at' kept'. first_out_of_order placed before n i j a b apart at' here there kept' broken)
  where
    behind : AreInOrder placed [] p → Breaks (AreInOrder placed []) before (a.id, b.id) → Breaks (AreInOrder placed []) (p ∷ before) (a.id, b.id)
    behind first later = breaks_behind (AreInOrder placed []) (p ∷ []) before (a.id, b.id) (of_one (AreInOrder placed []) p first) later

    pair : a.id ≡ p.0 → b.id ≡ p.1 → p ≡ (a.id, b.id)
    pair e f = rw (e, f) refl

    here_broken : (f s : ℕ) → place_of placed p.0 ≡ Some f → place_of placed p.1 ≡ Some s → f ≡ i → s ≡ j → Breaks (AreInOrder placed []) (p ∷ before) (a.id, b.id)
    here_broken f s first second one two =
        let first' : place_of placed p.0 ≡ Some i = first ∙ ap Some one in
        let second' : place_of placed p.1 ≡ Some j = second ∙ ap Some two in
        subst (Breaks (AreInOrder placed []) (p ∷ before)) (pair (named_at placed i a p.0 first' here) (named_at placed j b p.1 second' there))
        (breaks_front (AreInOrder placed []) (p ∷ []) before p (breaks_one (AreInOrder placed []) p (λ h. broken (order_placed placed p i j first' second' h))))

    by : (o u : Option ℕ) → place_of placed p.0 ≡ o → place_of placed p.1 ≡ u → (k : ℕ) → slice_get (both_places o u ++ flat_map (places_of (names_of placed)) before) k ≡ Some (i, j)
        → EachTo (λ (earlier : List (ℕ × ℕ)) (e : ℕ × ℕ). IsInOrderAt placed e) (both_places o u ++ flat_map (places_of (names_of placed)) before) k
        → ((n : ℕ) → slice_get (flat_map (places_of (names_of placed)) before) n ≡ Some (i, j) → EachTo (λ (earlier : List (ℕ × ℕ)) (e : ℕ × ℕ). IsInOrderAt placed e) (flat_map (places_of (names_of placed)) before) n → Breaks (AreInOrder placed []) before (a.id, b.id))
        → Breaks (AreInOrder placed []) (p ∷ before) (a.id, b.id)
    by None u first second k at kept later = behind (λ m n c d l r c_is d_is. absurd (unnamed placed m c p.0 first l c_is)) (later k at kept)
    by (Some f) None first second k at kept later = behind (λ m n c d l r c_is d_is. absurd (unnamed placed n d p.1 second r d_is)) (later k at kept)
    by (Some f) (Some s) first second zero at kept later =
        let same : (f, s) ≡ (i, j) = some_same {X = ℕ × ℕ} at in
        here_broken f s first second (ap (λ (e : ℕ × ℕ). e.0) same) (ap (λ (e : ℕ × ℕ). e.1) same)
    by (Some f) (Some s) first second (suc k) at kept later =
        behind (order_named placed p f s apart first second (kept 0 (f, s) (omega arith) refl)) (later k at (λ m e less at'. kept (suc m) e (omega (arith, less)) at'))

-- ---- of the tests that a plan places

pub kept_by_place : (soc : SocValue) (plan : PlanValue) (placed : List PlacedTest) (before : List (TestId × TestId)) (pairs : List (ℕ × ℕ)) (n : ℕ) → AllDiffer (names_of placed) → placed ≡ placed_tests soc plan → pairs ≡ flat_map (places_of (names_of placed)) before → length pairs ≤ n
    → EachTo (λ (earlier : List (ℕ × ℕ)) (e : ℕ × ℕ). IsInOrderAt placed e) pairs n → Each (InOrder (planned soc plan)) before
kept_by_place soc plan placed before pairs n apart same are all kept k p at =
    order_up (planned soc plan) [] (take k before) p
    (subst (λ (ps : List PlacedTest). AreInOrder ps [] p) same
    (all_in_order placed before n apart (subst (λ (es : List (ℕ × ℕ)). length es ≤ n) are all) (subst (λ (es : List (ℕ × ℕ)). EachTo (λ (earlier : List (ℕ × ℕ)) (e : ℕ × ℕ). IsInOrderAt placed e) es n) are kept) k p at))

pub broken_by_place : (soc : SocValue) (plan : PlanValue) (placed : List PlacedTest) (before : List (TestId × TestId)) (pairs : List (ℕ × ℕ)) (k : ℕ) (e : ℕ × ℕ) (a b : PlacedTest) → AllDiffer (names_of placed) → placed ≡ placed_tests soc plan → pairs ≡ flat_map (places_of (names_of placed)) before
    → slice_get pairs k ≡ Some e → slice_get placed e.0 ≡ Some a → slice_get placed e.1 ≡ Some b → EachTo (λ (earlier : List (ℕ × ℕ)) (e : ℕ × ℕ). IsInOrderAt placed e) pairs k → (IsInOrderAt placed e → ⊥) → (n : ℕ) × IsFirstBreach (InOrder (planned soc plan)) before n (a.id, b.id)
broken_by_place soc plan placed before pairs k e a b apart same are at here there kept broken =
    let breaks = first_out_of_order placed before k e.0 e.1 a b apart (ap (λ (es : List (ℕ × ℕ)). slice_get es k) (sym are) ∙ at) here there (subst (λ (es : List (ℕ × ℕ)). EachTo (λ (earlier : List (ℕ × ℕ)) (e : ℕ × ℕ). IsInOrderAt placed e) es k) are kept) broken in
    let f = breaks_first (AreInOrder placed []) before (a.id, b.id) breaks in (
      f.0,
      record {
        there = f.1.there;
        breaks = λ h. f.1.breaks (subst (λ (ps : List PlacedTest). AreInOrder ps [] (a.id, b.id)) (sym same) (order_down (planned soc plan) (take f.0 before) [] (a.id, b.id) h));
        earlier = λ m p less there'. order_up (planned soc plan) [] (take m before) p (subst (λ (ps : List PlacedTest). AreInOrder ps [] p) same (f.1.earlier m p less there'));
      },
    )
