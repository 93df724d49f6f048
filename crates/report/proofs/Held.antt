-- Who held a test, and that the lines of those that end last are whole.
use Rattle.std.proofs.Common.{◌≡◌, ℕ, zero, suc, ◌≤◌, ◌<◌, Option, None, Some, List, [], ◌∷◌, ◌++◌, length, refl, sym, ap, ◌∙◌, subst, arith, slice_get, nat_eq, option_map, IfSome}
use Rattle.std.proofs.lemmas.Bool.{and_parts, eqb-true, leb-true}
use Rattle.soc_model.specs.Chips.{SocValue, is_live}
use Rattle.plan_model.specs.Plans.{LimitsValue, PlanValue, PlannedTest, end_of, planned}
use Rattle.plan_model.proofs.GoodPlansRunRight.{planned_some}
use Rattle.plan_model.proofs.Lists.{from_filter}
use Rattle.plan_model.proofs.PlannedTests.{Origin, origin}
use Rattle.live_tests.specs.declared.placed.PlacedTest.{PlacedTest}
use Rattle.live_tests.specs.Placed.{placed_of, placed_tests}
use Rattle.report.specs.declared.holders.Hold.{Hold}
use Rattle.report.specs.Chains.{chain_lines, last_line, last_test, test_of}
use Rattle.report.specs.Holders.{first_held, held, holder, holds, is_holder, keeps_out, or_else}
use Rattle.report.specs.Laws.{IsHeldBy, IsWhole}
use Rattle.common_lemmas.proofs.Lists.{found_at, from_map}

-- a live test takes a cycle at least
pub some_cycle : (soc : SocValue) (plan : PlanValue) (i : ℕ) (t : PlacedTest) → slice_get (placed_tests soc plan) i ≡ Some t → t.start < t.end
some_cycle soc plan i t at =
    let u = from_map placed_of (planned soc plan) i t at in
    let o : Origin soc plan i u.0 = origin soc plan i u.0 u.1 in
    let live : 1 ≤ o.l.test.patterns = leb-true 1 o.l.test.patterns ((from_filter is_live o.l.core.tests o.n o.l.test o.test_at).2) in
    let some : 1 ≤ length (u.0).operations = subst (λ (t : PlannedTest). 1 ≤ length t.operations) o.is (planned_some plan o.l.place o.l.core o.l.test live) in
    let start : (u.0).start ≡ t.start = ap (λ (t : PlacedTest). t.start) u.2 in
    let end : end_of u.0 ≡ t.end = ap (λ (t : PlacedTest). t.end) u.2 in
    omega (arith, some, start, end)

-- ---- who held a test

by_holder : (soc : SocValue) (limits : LimitsValue) (load : ℕ → ℕ) (tests : List PlacedTest) (kind : Hold) (t u : PlacedTest) → ((i : ℕ) (t : PlacedTest) → slice_get tests i ≡ Some t → t.start < t.end) → holder soc limits load tests kind t ≡ Some u → IsHeldBy soc limits load tests t u kind
unfolding holder
by_holder soc limits load tests kind t u some e =
    let r = found_at (is_holder soc limits load kind t) tests u e in
    let parts = and_parts (nat_eq u.end t.start) (keeps_out soc limits load kind t u) r.2 in
    let ended : u.end ≡ t.start = eqb-true u.end t.start parts.0 in
    record { place = r.0; there = r.1; ended = ended; earlier = omega (arith, ended, some r.0 u r.1); kept_out = parts.1 }

-- by the first kind that has a holder
either_held : (soc : SocValue) (limits : LimitsValue) (load : ℕ → ℕ) (tests : List PlacedTest) (t u : PlacedTest) (kind k : Hold) (o : Option PlacedTest) (rest : Option (PlacedTest × Hold)) → ((v : PlacedTest) → o ≡ Some v → IsHeldBy soc limits load tests t v k) → (rest ≡ Some (u, kind) → IsHeldBy soc limits load tests t u kind) →
    or_else (option_map (λ (v : PlacedTest). (v, k)) o) rest ≡ Some (u, kind) → IsHeldBy soc limits load tests t u kind
either_held soc limits load tests t u kind k None rest here later e = later e
either_held soc limits load tests t u kind k (Some v) rest here later e =
    let pair : (v, k) ≡ (u, kind) = some_same e in
    subst (λ (h : PlacedTest × Hold). IsHeldBy soc limits load tests t h.0 h.1) pair (here v refl)
  where
    some_same : {X : Type 0} {x y : X} → Some x ≡ Some y → x ≡ y
    some_same e = cc

held_from : (soc : SocValue) (limits : LimitsValue) (load : ℕ → ℕ) (tests : List PlacedTest) (t u : PlacedTest) (kind : Hold) → ((i : ℕ) (t : PlacedTest) → slice_get tests i ≡ Some t → t.start < t.end) → (kinds : List Hold) → first_held soc limits load tests t kinds ≡ Some (u, kind) → IsHeldBy soc limits load tests t u kind
held_from soc limits load tests t u kind some [] e = absurd cc
held_from soc limits load tests t u kind some (k ∷ kinds) e =
    either_held soc limits load tests t u kind k (holder soc limits load tests k t) (first_held soc limits load tests t kinds) (λ v h. by_holder soc limits load tests k t v some h) (λ r. held_from soc limits load tests t u kind some kinds r) e

held_of : (soc : SocValue) (limits : LimitsValue) (load : ℕ → ℕ) (tests : List PlacedTest) (t u : PlacedTest) (kind : Hold) → ((i : ℕ) (t : PlacedTest) → slice_get tests i ≡ Some t → t.start < t.end) → held soc limits load tests t ≡ Some (u, kind) → IsHeldBy soc limits load tests t u kind
unfolding held
held_of soc limits load tests t u kind some e = held_from soc limits load tests t u kind some holds e

pub held_is : (soc : SocValue) (limits : LimitsValue) (plan : PlanValue) (load : ℕ → ℕ) (t u : PlacedTest) (kind : Hold) → held soc limits load (placed_tests soc plan) t ≡ Some (u, kind) → IsHeldBy soc limits load (placed_tests soc plan) t u kind
held_is soc limits plan load t u kind e = held_of soc limits load (placed_tests soc plan) t u kind (some_cycle soc plan) e

-- ---- all lines

starts_earlier : (soc : SocValue) (limits : LimitsValue) (load : ℕ → ℕ) (tests : List PlacedTest) (t : PlacedTest) → ((i : ℕ) (t : PlacedTest) → slice_get tests i ≡ Some t → t.start < t.end) → (h : Option (PlacedTest × Hold)) → held soc limits load tests t ≡ h → IfSome (test_of h) (λ u. u.start < t.start)
starts_earlier soc limits load tests t some None e = tt
starts_earlier soc limits load tests t some (Some h) e = (held_of soc limits load tests t h.0 h.1 some e).earlier

no_more : (soc : SocValue) (limits : LimitsValue) (load : ℕ → ℕ) (tests : List PlacedTest) (n : ℕ) → chain_lines soc limits load tests n None ≡ []
unfolding chain_lines
no_more soc limits load tests zero = refl
no_more soc limits load tests (suc n) = refl

-- further lines change nothing behind a test that starts before as many cycles
enough : (soc : SocValue) (limits : LimitsValue) (load : ℕ → ℕ) (tests : List PlacedTest) → ((i : ℕ) (t : PlacedTest) → slice_get tests i ≡ Some t → t.start < t.end) → (n m : ℕ) (o : Option PlacedTest) → n ≤ m → IfSome o (λ t. t.start < n) → chain_lines soc limits load tests m o ≡ chain_lines soc limits load tests n o
unfolding chain_lines
enough soc limits load tests some n m None less low = no_more soc limits load tests m ∙ sym (no_more soc limits load tests n)
enough soc limits load tests some zero m (Some t) less low = absurd (omega (arith, low))
enough soc limits load tests some (suc n) zero (Some t) less low = absurd (omega arith)
enough soc limits load tests some (suc n) (suc m) (Some t) less low =
    ap (λ (l : List ℕ). last_line t (held soc limits load tests t) ++ l)
    (enough soc limits load tests some n m (test_of (held soc limits load tests t)) (omega arith) (lower (test_of (held soc limits load tests t)) (starts_earlier soc limits load tests t some (held soc limits load tests t) refl) low))
  where
    lower : (o : Option PlacedTest) → IfSome o (λ u. u.start < t.start) → t.start < suc n → IfSome o (λ u. u.start < n)
    lower None low less = tt
    lower (Some u) low less = omega (arith, low, less)

last_starts : (soc : SocValue) (plan : PlanValue) (o : Option PlacedTest) → last_test (placed_tests soc plan) plan.cycles ≡ o → IfSome o (λ t. t.start < plan.cycles)
last_starts soc plan None e = tt
last_starts soc plan (Some t) e =
    let r = found_at (λ (t : PlacedTest). nat_eq t.end plan.cycles) (placed_tests soc plan) t e in
    omega (arith, some_cycle soc plan r.0 t r.1, eqb-true t.end plan.cycles r.2)

pub lines_whole : (soc : SocValue) (limits : LimitsValue) (plan : PlanValue) (load : ℕ → ℕ) → IsWhole soc limits load (placed_tests soc plan) plan.cycles
lines_whole soc limits plan load n few =
    enough soc limits load (placed_tests soc plan) (some_cycle soc plan) plan.cycles n (last_test (placed_tests soc plan) plan.cycles) few (last_starts soc plan (last_test (placed_tests soc plan) plan.cycles) refl)
