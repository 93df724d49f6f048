-- Precedences and the last end, from placed tests to the tests that a plan places.
use Rattle.std.proofs.Common.{◌≡◌, ℕ, ◌≤◌, List, [], ◌∷◌, take, map, refl, ap, ◌∙◌, sym, arith}
use Rattle.soc_model.specs.declared.TestId.{TestId}
use Rattle.soc_model.specs.Chips.{SocValue}
use Rattle.plan_model.specs.Plans.{PlanValue, PlannedTest, planned, end_of, greatest}
use Rattle.plan_model.specs.Rules.{InOrder}
use Rattle.live_tests.specs.declared.placed.PlacedTest.{PlacedTest}
use Rattle.live_tests.specs.Placed.{placed_of, placed_tests}
use Rattle.plan_checker.specs.Order.{AreInOrder, last_end}
use Rattle.plan_model.proofs.FirstBreaches.{EachTo}
use Rattle.common_lemmas.proofs.Lists.{map_at, from_map}

pub order_up : (tests : List PlannedTest) (e e' : List (TestId × TestId)) (p : TestId × TestId) → AreInOrder (map placed_of tests) e p → InOrder tests e' p
order_up tests e e' p h i j t u at at' same = h i j (placed_of t) (placed_of u) (map_at placed_of tests i t at) (map_at placed_of tests j u at') (ap (λ (p : TestId × TestId). p.0) (sym same)) (ap (λ (p : TestId × TestId). p.1) (sym same))

pub order_down : (tests : List PlannedTest) (e e' : List (TestId × TestId)) (p : TestId × TestId) → InOrder tests e p → AreInOrder (map placed_of tests) e' p
order_down tests e e' p h i j a b at at' first second =
    let t = from_map placed_of tests i a at in
    let u = from_map placed_of tests j b at' in
    let id : (t.0).id ≡ p.0 = ap (λ (j : PlacedTest). j.id) t.2 ∙ first in
    let id' : (u.0).id ≡ p.1 = ap (λ (j : PlacedTest). j.id) u.2 ∙ second in
    let k : end_of t.0 ≤ (u.0).start = h i j t.0 u.0 t.1 u.1 (pair p (t.0).id (u.0).id id id') in
    rw (← t.2, ← u.2) k
  where
    pair : (p : TestId × TestId) (a b : TestId) → a ≡ p.0 → b ≡ p.1 → p ≡ (a, b)
    pair p a b e f = rw (e, f) refl

pub order_each : (tests : List PlannedTest) (before : List (TestId × TestId)) (n : ℕ) → EachTo (AreInOrder (map placed_of tests)) before n → EachTo (InOrder tests) before n
order_each tests before n h m p less at = order_up tests (take m before) (take m before) p (h m p less at)

pub last_is : (soc : SocValue) (plan : PlanValue) → last_end (placed_tests soc plan) ≡ greatest (map end_of (planned soc plan))
last_is soc plan = go (planned soc plan) where
  go : (tests : List PlannedTest) → last_end (map placed_of tests) ≡ greatest (map end_of tests)
  go [] = refl
  go (t ∷ ts) = let ih : last_end (map placed_of ts) ≡ greatest (map end_of ts) = go ts in omega arith
