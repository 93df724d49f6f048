-- What the live tests of a chip cost at the weights of a leaf, over lists and over tests.
use Rattle.std.proofs.Common.{◌≡◌, ◌≢◌, ℕ, zero, suc, ◌+◌, ◌-◌, ◌*◌, ◌^◌, ◌≤◌, ◌<◌, Bool, true, false, Option, Some, None, List, [], ◌∷◌, ◌++◌, length, get_or, take, drop, refl, sym, ap, subst, ◌∙◌, arith, append_assoc, drop-cons, mul-le-mul_left, if◌then◌else◌, ◌&&◌, not, slice_get, slice_index, nat_eq, sum_by}
use Rattle.std.proofs.lemmas.Bool.{eq-eqb, ne_eqb}
use Rattle.std.proofs.lemmas.List.{drop_all, length-append, length-drop}
use Rattle.std.proofs.lemmas.List.FromFn.{get_or-map-range_with_len, length-map-range_with_len}
use Rattle.std.proofs.lemmas.List.Sums.{sum_by-cons, sum_by-append, sum_by-take-drop, sum_by-drop_more}
use Rattle.std.proofs.lemmas.Option.{slice_get_within, get_or_from_slice_get, same_Some}
use Rattle.soc_model.specs.declared.Test.{Test}
use Rattle.soc_model.specs.Chips.{ModuleValue, SocValue, LiveTest, is_live, live_of, live_from, live_tests}
use Rattle.soc_model.specs.Sizes.{test_work}
use Rattle.soc_model.proofs.Limits.{work-le}
use Rattle.plan_model.specs.Plans.{LimitsValue}
use Rattle.plan_model.specs.Bounds.{is_of, sum_where}
use Rattle.plan_model.specs.Certificates.{on}
use Rattle.plan_model.proofs.PlannedTests.{live_at}
use Rattle.plan_model.proofs.Lists.{from_filter}
use Rattle.plan_model.proofs.Sums.{sum_by-le_at}
use Rattle.bound_rules.proofs.Modules.{the_live, only_module, sum_of_module}
use Rattle.bound_rules.proofs.Works.{live_patterns}
use Rattle.bound_rules.proofs.SoundWork.{live_work-le_live}
use Rattle.soc_model.specs.SoundChips.{IsSoundChip}
use Rattle.proof_facts.specs.Packed.{packed_time, packed_tam_time}
use Rattle.proof_facts.proofs.LeastTimes.{packed_time-le}
use Rattle.leaf_bounds.specs.declared.basis.Basis.{Basis}
use Rattle.plan_model.specs.Proofs.{ListValue, OfTurns, OfTurnsOn, OfCrowd, OfPower, WeightsValue}
use Rattle.leaf_bounds.specs.Lists.{use_of}
use Rattle.leaf_bounds.specs.Leaves.{cost, is_rank, module_use, self_use, slot, weighed}
use Rattle.plan_model.specs.declared.Limits.{Limits}
use Rattle.leaf_bounds.specs.declared.test_table.TestTable.{TestTable}
use Rattle.leaf_bounds.specs.declared.test_table.TestPlace.{TestPlace}
use Rattle.leaf_bounds.specs.TestTables.{IsTestAt, IsTestTable, tests_before}
use Rattle.leaf_bounds.specs.Bases.{IsBasis, chip_of, limits_of, lists_of}
use Rattle.leaf_bounds.specs.declared.leaf_costs.Weighed.{Weighed}
use Rattle.leaf_bounds.specs.LeafCosts.{AreUses, IsIdle, IsWeighed, USES_COST_MOST, beside_use, drawn_use, is_over, kind_cost, test_cost, weighed_by}
use Rattle.leaf_bounds.proofs.WeighedSums.{weighed-add}
use Rattle.leaf_bounds.proofs.LeafSums.{uses-le}
use Rattle.common_lemmas.proofs.Lists.{sums_agree}

-- ---- over lists, then tests: over tests, then lists

module _ (lists : List ListValue) (weights : WeightsValue) where
  weighed_same : (f g : ListValue → ℕ) → ((list : ListValue) → f list ≡ g list) → weighed lists weights f ≡ weighed lists weights g
  weighed_same f g same = sums_agree (λ (o : ℕ × ℕ). o.1 * on (slice_get lists o.0) f) (λ (o : ℕ × ℕ). o.1 * on (slice_get lists o.0) g) weights.lists (λ o. ap (λ v. o.1 * v) (one (slice_get lists o.0)))
    where
      one : (o : Option ListValue) → on o f ≡ on o g
      one None = refl
      one (Some list) = same list

  weighed_none : weighed lists weights (λ list. 0) ≡ 0
  weighed_none = go weights.lists
    where
      one : (o : Option ListValue) → on o (λ list. 0) ≡ 0
      one None = refl
      one (Some list) = refl

      go : (os : List (ℕ × ℕ)) → weighed_by lists os (λ list. 0) ≡ 0
      go [] = refl
      go (o ∷ os) =
          let here : o.1 * on (slice_get lists o.0) (λ list. 0) ≡ 0 = rw (one (slice_get lists o.0)) (omega arith) in
          omega (arith, here, go os, sum_by-cons (λ (o : ℕ × ℕ). o.1 * on (slice_get lists o.0) (λ list. 0)) o os)

  pub weighed_sum : (p : LiveTest → Bool) (u : ListValue → LiveTest → ℕ) (ls : List LiveTest) →
      weighed lists weights (λ list. sum_by (λ l. if p l then u list l else 0) ls) ≡ sum_by (λ l. if p l then weighed lists weights (λ list. u list l) else 0) ls
  weighed_sum p u [] = weighed_none
  weighed_sum p u (l ∷ ls) =
      let split =
      weighed_same (λ list. sum_by (λ l. if p l then u list l else 0) (l ∷ ls)) (λ list. (if p l then u list l else 0) + sum_by (λ l. if p l then u list l else 0) ls)
      (λ list. sum_by-cons (λ l. if p l then u list l else 0) l ls) in
      let both = weighed-add lists weights (λ list. if p l then u list l else 0) (λ list. sum_by (λ l. if p l then u list l else 0) ls) in
      omega (arith, split, both, first (p l), weighed_sum p u ls, sum_by-cons (λ l. if p l then weighed lists weights (λ list. u list l) else 0) l ls)
    where
      first : (b : Bool) → weighed lists weights (λ list. if b then u list l else 0) ≡ (if b then weighed lists weights (λ list. u list l) else 0)
      first true = refl
      first false = weighed_none

-- ---- the tests of a module among all

drop_front : {X : Type 0} (xs ys : List X) → drop (length xs) (xs ++ ys) ≡ ys
drop_front [] ys = refl
drop_front (x ∷ xs) ys = drop_front xs ys

live_split : (base : ℕ) (ms : List ModuleValue) (p : ℕ) → live_from base ms ≡ live_from base (take p ms) ++ live_from (base + p) (drop p ms)
unfolding live_from
live_split base [] zero = refl
live_split base [] (suc p) = refl
live_split base (m ∷ ms) zero = let here : base + 0 ≡ base = omega arith in rw here refl
live_split base (m ∷ ms) (suc p) =
    let here : base + suc p ≡ base + 1 + p = omega arith in
    rw here (ap (λ l. live_of base m ++ l) (live_split (base + 1) ms p) ∙ sym (append_assoc (live_of base m) (live_from (base + 1) (take p ms)) (live_from (base + 1 + p) (drop p ms))))

pub from_module : (soc : SocValue) (p : ℕ) → drop (tests_before soc p) (live_tests soc) ≡ live_from p (drop p soc.modules)
from_module soc p =
    let zero' : 0 + p ≡ p = omega arith in
    let split = live_split 0 soc.modules p ∙ ap (λ q. live_from 0 (take p soc.modules) ++ live_from q (drop p soc.modules)) zero' in
    ap (drop (tests_before soc p)) split ∙ drop_front (live_from 0 (take p soc.modules)) (live_from p (drop p soc.modules))

pub sum_from_module : (f : LiveTest → ℕ) (soc : SocValue) (p : ℕ) {m : ModuleValue} → slice_get soc.modules p ≡ Some m →
    sum_by f (drop (tests_before soc p) (live_tests soc)) ≡ sum_by f (live_of p m) + sum_by f (drop (tests_before soc (p + 1)) (live_tests soc))
unfolding live_from
sum_from_module f soc p {m} at =
    let cut = drop-cons soc.modules p m (slice_get_within soc.modules p m at) ∙ ap (λ x. x ∷ drop (suc p) soc.modules) (get_or_from_slice_get soc.modules p m m at) in
    let from = from_module soc p ∙ ap (live_from p) cut in
    let one : p + 1 ≡ suc p = omega arith in
    rw (from, one, (from_module soc (suc p))) (sum_by-append f (live_of p m) (live_from (suc p) (drop (suc p) soc.modules)))

pub before_within : (soc : SocValue) (p : ℕ) → tests_before soc p ≤ length (live_tests soc)
before_within soc p = omega (arith, ap length (live_split 0 soc.modules p), length-append (live_from 0 (take p soc.modules)) (live_from (0 + p) (drop p soc.modules)))

pub before_grows : (soc : SocValue) (p : ℕ) {m : ModuleValue} → slice_get soc.modules p ≡ Some m → tests_before soc p ≤ tests_before soc (p + 1)
before_grows soc p at =
    let all = sum_from_module (λ l. 1) soc p at in
    omega (arith, all, count (drop (tests_before soc p) (live_tests soc)), count (drop (tests_before soc (p + 1)) (live_tests soc)), long (tests_before soc p), long (tests_before soc (p + 1)), before_within soc p, before_within soc (p + 1))
  where
    count : (ls : List LiveTest) → sum_by (λ l. 1) ls ≡ length ls
    count [] = refl
    count (l ∷ ls) = omega (arith, sum_by-cons (λ (l : LiveTest). 1) l ls, count ls)

    long : (n : ℕ) → length (drop n (live_tests soc)) ≡ length (live_tests soc) - n
    long n = length-drop n (live_tests soc)

-- a sum over the tests over the wires of a module
pub sum_in_module : (f : LiveTest → ℕ) (soc : SocValue) (p : ℕ) {m : ModuleValue} → slice_get soc.modules p ≡ Some m →
    sum_where (λ l. l.test.tam && is_of p l) f soc ≡ sum_by (λ l. if l.test.tam then f l else 0) (live_of p m)
sum_in_module f soc p {m} at =
    only_module (λ l. if l.test.tam && is_of p l then f l else 0) soc p m (λ l other. elsewhere l l.test.tam other) at
    ∙ sums_agree (λ t. if is_live t then (if t.tam && nat_eq p p then f (the_live p m t) else 0) else 0) (λ t. if is_live t then (if t.tam then f (the_live p m t) else 0) else 0) m.tests (λ t. each t t.tam)
    ∙ sym (sum_of_module (λ l. if l.test.tam then f l else 0) p m)
  where
    elsewhere : (l : LiveTest) (tam : Bool) → l.place ≢ p → (if tam && is_of p l then f l else 0) ≡ 0
    elsewhere l true other = rw (ne_eqb l.place p other) refl
    elsewhere l false other = refl

    each : (t : Test) (tam : Bool) → (if is_live t then (if tam && nat_eq p p then f (the_live p m t) else 0) else 0) ≡ (if is_live t then (if tam then f (the_live p m t) else 0) else 0)
    each t true = rw (eq-eqb p p refl) refl
    each t false = refl

-- ---- what a module costs

pub module_uses : (g : Basis) (weights : WeightsValue) (p : ℕ) {m : ModuleValue} (rank : Option ℕ) (width rate costs : ℕ) → slice_get (chip_of g).modules p ≡ Some m →
    costs + sum_by (kind_cost g weights true rank width) (drop (tests_before (chip_of g) (p + 1)) (live_tests (chip_of g))) ≡ sum_by (kind_cost g weights true rank width) (drop (tests_before (chip_of g) p) (live_tests (chip_of g))) →
    rate * packed_tam_time (chip_of g) p width + costs ≡ cost (chip_of g) (limits_of g) (lists_of g) weights p (slot rank width rate)
module_uses g weights p {m} rank width rate costs at is =
    let here : costs ≡ sum_by (kind_cost g weights true rank width) (live_of p m) = omega (arith, is, sum_from_module (kind_cost g weights true rank width) (chip_of g) p at) in
    let wired = sum_in_module (test_cost (chip_of g) (limits_of g) (lists_of g) weights rank width) (chip_of g) p at in
    let turned : weighed (lists_of g) weights (module_use (chip_of g) (limits_of g) p (slot rank width rate)) ≡ sum_where (λ l. l.test.tam && is_of p l) (test_cost (chip_of g) (limits_of g) (lists_of g) weights rank width) (chip_of g) =
    weighed_sum (lists_of g) weights (λ l. l.test.tam && is_of p l) (λ list l. use_of (chip_of g) (limits_of g) (is_rank rank) list (packed_time l.core l.test width) l) (live_tests (chip_of g)) in
    ap (λ v. rate * packed_tam_time (chip_of g) p width + v) (here ∙ sym wired ∙ sym turned)

-- ---- what self tests cost

own_time : (l : LiveTest) (w : ℕ) → l.test.tam ≡ false → packed_time l.core l.test w ≡ l.test.patterns
unfolding packed_time
own_time l w own = rw own refl

no_rank : (soc : SocValue) (limits : LimitsValue) (list : ListValue) (cycles : ℕ) (l : LiveTest) → use_of soc limits (is_rank None) list cycles l ≡ use_of soc limits (λ rank. false) list cycles l
no_rank soc limits (OfTurns tests) cycles l = refl
no_rank soc limits (OfTurnsOn rank tests) cycles l = refl
no_rank soc limits (OfCrowd most tests) cycles l = refl
no_rank soc limits (OfPower near) cycles l = refl

pub self_uses : (g : Basis) (weights : WeightsValue) (costs n : ℕ) → length (live_tests (chip_of g)) ≤ n →
    costs + sum_by (kind_cost g weights false None 1) (drop n (live_tests (chip_of g))) ≡ sum_by (kind_cost g weights false None 1) (drop 0 (live_tests (chip_of g))) →
    costs ≡ weighed (lists_of g) weights (self_use (chip_of g) (limits_of g))
self_uses g weights costs n all is =
    let is' = rw (drop_all n (live_tests (chip_of g)) all) at is in
    let here : costs ≡ sum_by (kind_cost g weights false None 1) (live_tests (chip_of g)) = omega (arith, is') in
    let turned : weighed (lists_of g) weights (self_use (chip_of g) (limits_of g)) ≡ sum_by (λ l. if not l.test.tam then weighed (lists_of g) weights (λ list. use_of (chip_of g) (limits_of g) (λ rank. false) list l.test.patterns l) else 0) (live_tests (chip_of g)) =
    weighed_sum (lists_of g) weights (λ l. not l.test.tam) (λ list l. use_of (chip_of g) (limits_of g) (λ rank. false) list l.test.patterns l) (live_tests (chip_of g)) in
    here ∙ sums_agree (kind_cost g weights false None 1) (λ l. if not l.test.tam then weighed (lists_of g) weights (λ list. use_of (chip_of g) (limits_of g) (λ rank. false) list l.test.patterns l) else 0) (live_tests (chip_of g)) (λ l. each l) ∙ sym turned
  where
    part : (tam : Bool) (x y : ℕ) → (tam ≡ false → x ≡ y) → (if not tam then x else 0) ≡ (if not tam then y else 0)
    part true x y h = refl
    part false x y h = h refl

    each : (l : LiveTest) → kind_cost g weights false None 1 l ≡ (if not l.test.tam then weighed (lists_of g) weights (λ list. use_of (chip_of g) (limits_of g) (λ rank. false) list l.test.patterns l) else 0)
    each l =
        part l.test.tam (weighed (lists_of g) weights (λ list. use_of (chip_of g) (limits_of g) (is_rank None) list (packed_time l.core l.test 1) l)) (weighed (lists_of g) weights (λ list. use_of (chip_of g) (limits_of g) (λ rank. false) list l.test.patterns l))
        (λ own. weighed_same (lists_of g) weights (λ list. use_of (chip_of g) (limits_of g) (is_rank None) list (packed_time l.core l.test 1) l) (λ list. use_of (chip_of g) (limits_of g) (λ rank. false) list l.test.patterns l)
        (λ list. ap (λ n. use_of (chip_of g) (limits_of g) (is_rank None) list n l) (own_time l 1 own) ∙ no_rank (chip_of g) (limits_of g) list l.test.patterns l))

-- ---- bounds

times_right : {X : Type 0} (f : X → ℕ) (k : ℕ) (xs : List X) → sum_by (λ x. k * f x) xs ≡ k * sum_by f xs
times_right f k [] = omega arith
times_right f k (x ∷ xs) =
    let split : k * (f x + sum_by f xs) ≡ k * f x + k * sum_by f xs = omega arith in
    sum_by-cons (λ x. k * f x) x xs ∙ rw (sum_by-cons f x xs) (omega (arith, times_right f k xs))

module _ {g : Basis} {weights : WeightsValue} (wires : Bool) (rank : Option ℕ) (width : ℕ) where
  -- all tests together
  pub all_costs-le : IsBasis g → AreUses g weights → 1 ≤ width → sum_by (kind_cost g weights wires rank width) (live_tests (chip_of g)) ≤ USES_COST_MOST
  all_costs-le is uses some =
      let each = sum_by-le_at (kind_cost g weights wires rank width) (λ (l : LiveTest). 2 ^ 24 * 10 ^ 9 * test_work l.core l.test) (live_tests (chip_of g)) one in
      let out = times_right (λ (l : LiveTest). test_work l.core l.test) (2 ^ 24 * 10 ^ 9) (live_tests (chip_of g)) in
      let wide = mul-le-mul_left (2 ^ 24 * 10 ^ 9) (work-le (chip_of g) is.sound.size) in
      omega arith
    where
      kind-le : (b : Bool) (x y : ℕ) → x ≤ y → (if b then x else 0) ≤ y
      kind-le true x y h = h
      kind-le false x y h = omega arith

      one : (i : ℕ) (l : LiveTest) → slice_get (live_tests (chip_of g)) i ≡ Some l → kind_cost g weights wires rank width l ≤ 2 ^ 24 * 10 ^ 9 * test_work l.core l.test
      one i l at =
          let o = live_at (chip_of g).modules 0 i l at in
          let live = live_patterns l.test ((from_filter is_live l.core.tests o.n l.test o.test_at).2) in
          let few = uses-le (is_rank rank) (packed_time l.core l.test width) l uses in
          let wide = mul-le-mul_left (2 ^ 24 * 10 ^ 9) (packed_time-le l.core l.test width live some) in
          kind-le (is_over wires l.test.tam) (test_cost (chip_of g) (limits_of g) (lists_of g) weights rank width l) (2 ^ 24 * 10 ^ 9 * test_work l.core l.test) (omega arith)

  -- so what is added up on the way
  pub costs_fit : (from n sum : ℕ) → IsBasis g → AreUses g weights → 1 ≤ width →
      sum + sum_by (kind_cost g weights wires rank width) (drop n (live_tests (chip_of g))) ≡ sum_by (kind_cost g weights wires rank width) (drop from (live_tests (chip_of g))) →
      sum ≤ USES_COST_MOST
  costs_fit from n sum is uses some total =
      omega (arith, total, all_costs-le is uses some, sum_by-take-drop (kind_cost g weights wires rank width) (live_tests (chip_of g)) from)

-- ---- one live test

module _ {soc : SocValue} {limits : Limits} {l : LiveTest} {t : TestPlace} where
  pub own_core : {m : ModuleValue} → IsTestAt soc limits l t → slice_get soc.modules t.«module» ≡ Some m → l.core ≡ m
  own_core {m} is at = same_Some l.core m (sym is.core ∙ ap (slice_get soc.modules) (sym is.«module») ∙ at)

  pub own_test : {m : ModuleValue} {own : Test} → IsTestAt soc limits l t → slice_get soc.modules t.«module» ≡ Some m → slice_get m.tests t.test ≡ Some own → l.test ≡ own
  own_test {own} is at there = same_Some l.test own (sym is.test ∙ ap (λ (x : ModuleValue). slice_get x.tests t.test) (own_core is at) ∙ there)

  pub place_within : IsTestAt soc limits l t → t.«module» < length soc.modules
  place_within is = omega (arith, is.«module», slice_get_within soc.modules l.place l.core is.core)

  pub test_within : {m : ModuleValue} → IsTestAt soc limits l t → slice_get soc.modules t.«module» ≡ Some m → t.test < length m.tests
  test_within is at = subst (λ (x : ModuleValue). t.test < length x.tests) (own_core is at) (slice_get_within l.core.tests t.test l.test is.test)

pub own_live : (soc : SocValue) (i : ℕ) {l : LiveTest} → slice_get (live_tests soc) i ≡ Some l → is_live l.test ≡ true
own_live soc i {l} at =
    let o = live_at soc.modules 0 i l at in
    (from_filter is_live l.core.tests o.n l.test o.test_at).2

module _ (g : Basis) (weights : WeightsValue) (wires : Bool) (rank : Option ℕ) (width : ℕ) where
  pub kind_is : (l : LiveTest) {m : ModuleValue} {own : Test} {cycles costs : ℕ} → l.core ≡ m → l.test ≡ own → is_over wires own.tam ≡ true →
      cycles ≡ packed_time m own width → costs ≡ weighed (lists_of g) weights (λ list. use_of (chip_of g) (limits_of g) (is_rank rank) list cycles l) →
      costs ≡ kind_cost g weights wires rank width l
  kind_is l {own} {cycles} core test over time is =
      let over' = ap (λ (t : Test). is_over wires t.tam) test ∙ over in
      let time' = time ∙ ap (λ x. packed_time x own width) (sym core) ∙ ap (λ t. packed_time l.core t width) (sym test) in
      rw over' (is ∙ ap (λ n. weighed (lists_of g) weights (λ list. use_of (chip_of g) (limits_of g) (is_rank rank) list n l)) time')

  pub kind_not : (l : LiveTest) {own : Test} → l.test ≡ own → is_over wires own.tam ≡ false → 0 ≡ kind_cost g weights wires rank width l
  kind_not l test over =
      rw (ap (λ (t : Test). is_over wires t.tam) test ∙ over) refl

  -- a test that uses nothing costs nothing
  pub idle_costs : {i : ℕ} {l : LiveTest} {room : Weighed} → IsWeighed g weights room → IsIdle room i → slice_get (live_tests (chip_of g)) i ≡ Some l →
      0 ≡ kind_cost g weights wires rank width l
  idle_costs {i} {l} {room} is idle at =
      let cycles = packed_time l.core l.test width in
      let uses = sym (is.same (λ list. use_of (chip_of g) (limits_of g) (is_rank rank) list cycles l)) ∙ is.made.uses (is_rank rank) i cycles l at in
      let none : slice_index room.sums.items i * cycles + sum_by (beside_use g.lists (is_rank rank) i cycles) room.beside.items + sum_by (drawn_use (limits_of g) l cycles) room.power.items ≡ 0 = rw (idle.sum, idle.beside, idle.power) (omega arith) in
      either (is_over wires l.test.tam) (test_cost (chip_of g) (limits_of g) (lists_of g) weights rank width l) (uses ∙ none)
    where
      either : (b : Bool) (n : ℕ) → n ≡ 0 → 0 ≡ (if b then n else 0)
      either true n e = sym e
      either false n e = refl

-- ---- where the tests of a module begin

module _ {soc : SocValue} {limits : Limits} where
  pub starts_long : {table : TestTable} → IsTestTable soc limits table → length table.starts.items ≡ length soc.modules + 1
  starts_long is = ap length is.starts ∙ length-map-range_with_len (tests_before soc) 0 (length soc.modules + 1)

  pub start_is : {table : TestTable} (p : ℕ) {start : ℕ} → IsTestTable soc limits table → slice_get table.starts.items p ≡ Some start → start ≡ tests_before soc p
  start_is {table} p {start} is at =
      let within = slice_get_within table.starts.items p start at in
      sym (get_or_from_slice_get table.starts.items p start start at) ∙ ap (λ xs. get_or xs p start) is.starts
      ∙ get_or-map-range_with_len (tests_before soc) 0 (length soc.modules + 1) p p start (omega (arith, starts_long is)) (omega arith)

  -- ---- one test more

  pub own_work : (i : ℕ) {l : LiveTest} {t : TestPlace} {m : ModuleValue} {own : Test} → IsSoundChip soc → slice_get (live_tests soc) i ≡ Some l → IsTestAt soc limits l t →
      slice_get soc.modules t.«module» ≡ Some m → slice_get m.tests t.test ≡ Some own → test_work m own ≤ 10 ^ 18
  own_work i {l} {m} sound at is there own-at =
      let work' = subst (λ x. test_work x l.test ≤ 10 ^ 18) (own_core is there) (live_work-le_live soc sound i l at) in
      subst (λ x. test_work m x ≤ 10 ^ 18) (own_test is there own-at) work'

pub next_cost : (f : LiveTest → ℕ) (xs : List LiveTest) {whole : ℕ} (i sum : ℕ) {costs : ℕ} {l : LiveTest} → slice_get xs i ≡ Some l → costs ≡ f l →
    sum + sum_by f (drop i xs) ≡ whole → sum + costs + sum_by f (drop (i + 1) xs) ≡ whole
next_cost f xs i sum {l} at is before =
    omega (arith, sum_by-drop_more f xs i l (slice_get_within xs i l at), ap f (get_or_from_slice_get xs i l l at), is, before)
