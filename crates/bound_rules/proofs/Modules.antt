-- Sums over the live tests of a chip that are over one module, by the tests of that module.
use Rattle.std.proofs.Common.{◌≡◌, ◌≢◌, ℕ, zero, suc, ◌+◌, ◌*◌, ◌≤◌, ◌<◌, ◌^◌, max, Bool, true, false, Some, List, [], ◌∷◌, length, map, refl, ◌∙◌, sym, arith}
use Rattle.std.specs.Prelude.{slice_get, nat_eq, ◌&&◌, if◌then◌else◌}
use Rattle.std.specs.List.{sum, sum_by, filter}
use Rattle.std.proofs.lemmas.Bool.{eq-eqb, ne_eqb}
use Rattle.std.proofs.lemmas.List.Sums.{sum_by-cons, sum_by-append}
use Rattle.soc_model.specs.declared.Test.{Test}
use Rattle.soc_model.specs.Chips.{ModuleValue, SocValue, LiveTest, is_live, live_of, live_from, live_tests}
use Rattle.soc_model.specs.Sizes.{test_work, work}
use Rattle.plan_model.specs.Listing.{module_size}
use Rattle.plan_model.specs.Operations.{ops_of}
use Rattle.plan_model.specs.Plans.{greatest}
use Rattle.plan_model.specs.Bounds.{quotient_up, least_length, lower_time, lower, is_of, module_bound, lower_tam_time}
use Rattle.plan_model.proofs.Sums.{item-le-sum_by, sum_by-filter, sum_by-le_at}
use Rattle.bound_rules.specs.declared.sizes.Sizes.{Sizes}
use Rattle.bound_rules.specs.Sizes.{sizes_of, least_chain, time_by, work_by, times_by, tam_times_by, works_by, IsFitting}
use Rattle.soc_model.specs.Modes.{is_tam}
use Rattle.common_lemmas.proofs.Lists.{sums_agree, sum_map}

-- ---- the sizes of a module

greatest-le-sum : (xs : List ℕ) → greatest xs ≤ sum xs
greatest-le-sum [] = omega arith
greatest-le-sum (x ∷ xs) = omega (arith, greatest-le-sum xs, sum_by-cons (λ x. x) x xs)

pub fitting_sizes : (m : ModuleValue) → module_size m ≤ 10 ^ 18 → IsFitting (sizes_of m)
fitting_sizes m small = record { cells = small; longest = greatest-le-sum m.chains }

pub time_by_sizes : (m : ModuleValue) (t : Test) (w : ℕ) → time_by (sizes_of m) w t ≡ lower_time m t w
unfolding lower_time time_by
time_by_sizes m t w = go t.scan where
  go : (scan : Bool) → (if t.tam then length (ops_of m.setup (least_chain (sizes_of m) scan (m.inputs + m.bidirs) w) (least_chain (sizes_of m) scan (m.outputs + m.bidirs) w) t.patterns) else t.patterns)
      ≡ (if t.tam then length (ops_of m.setup (least_length m (record t { scan = scan }) (m.inputs + m.bidirs) w) (least_length m (record t { scan = scan }) (m.outputs + m.bidirs) w) t.patterns) else t.patterns)
  go true = refl
  go false =
      let ins : max 0 (quotient_up (m.inputs + m.bidirs + 0) w) ≡ quotient_up (m.inputs + m.bidirs) w = plain (m.inputs + m.bidirs) in
      let outs : max 0 (quotient_up (m.outputs + m.bidirs + 0) w) ≡ quotient_up (m.outputs + m.bidirs) w = plain (m.outputs + m.bidirs) in
      rw (ins, outs) refl
    where
      plain : (n : ℕ) → max 0 (quotient_up (n + 0) w) ≡ quotient_up n w
      plain n = let none : n + 0 ≡ n = omega arith in rw none (omega arith)

pub work_by_sizes : (m : ModuleValue) (t : Test) → work_by (sizes_of m) t ≡ test_work m t
unfolding work_by
work_by_sizes m t = refl

-- the module of a live test is within its work
pub module_size-le_work : (m : ModuleValue) (t : Test) → 1 ≤ t.patterns → module_size m ≤ test_work m t
module_size-le_work m t live = by t.patterns live
  where
    by : (p : ℕ) → 1 ≤ p → module_size m ≤ p * module_size m + (if t.tam then m.setup else 0)
    by (suc p) live = let product : suc p * module_size m ≡ module_size m + p * module_size m = omega arith in omega arith
    by zero live = absurd (omega arith)

-- a live test of a module is within the work of its tests
pub work_of_one : (s : Sizes) (ts : List Test) (k : ℕ) (t : Test) → slice_get ts k ≡ Some t → is_live t ≡ true → work_by s t ≤ works_by s ts
work_of_one s ts k t at live =
    let item : (if is_live t then work_by s t else 0) ≤ works_by s ts = item-le-sum_by (λ (t : Test). if is_live t then work_by s t else 0) ts k t at in
    rw live at item

-- ---- of all live tests, those of one module

abbrev pub the_live : ℕ → ModuleValue → Test → LiveTest
the_live p m t = record { place = p; core = m; test = t }

all_zero : (g : LiveTest → ℕ) (base : ℕ) (n : ModuleValue) → ((l : LiveTest) → l.place ≡ base → g l ≡ 0) → (ts : List Test) → sum_by g (map (the_live base n) ts) ≡ 0
all_zero g base n nothing [] = refl
all_zero g base n nothing (t ∷ ts) =
    let here : g (the_live base n t) ≡ 0 = nothing (the_live base n t) refl in
    let ih : sum_by g (map (the_live base n) ts) ≡ 0 = all_zero g base n nothing ts in
    sum_by-cons g (the_live base n t) (map (the_live base n) ts) ∙ omega arith

zeros : (g : LiveTest → ℕ) (base : ℕ) (n : ModuleValue) → ((l : LiveTest) → l.place ≡ base → g l ≡ 0) → sum_by g (live_of base n) ≡ 0
zeros g base n nothing = all_zero g base n nothing (filter is_live n.tests)

none_of : (g : LiveTest → ℕ) (p base : ℕ) (ms : List ModuleValue) → ((l : LiveTest) → l.place ≢ p → g l ≡ 0) → p < base → sum_by g (live_from base ms) ≡ 0
unfolding live_from
none_of g p base [] only less = refl
none_of g p base (m ∷ ms) only less =
    let ih : sum_by g (live_from (base + 1) ms) ≡ 0 = none_of g p (base + 1) ms only (omega arith) in
    let here : sum_by g (live_of base m) ≡ 0 = zeros g base m (λ l at. only l (omega arith)) in
    sum_by-append g (live_of base m) (live_from (base + 1) ms) ∙ omega arith

sum_at : (g : LiveTest → ℕ) (p base up : ℕ) (ms : List ModuleValue) (m : ModuleValue) → ((l : LiveTest) → l.place ≢ p → g l ≡ 0) → slice_get ms up ≡ Some m → p ≡ base + up → sum_by g (live_from base ms) ≡ sum_by g (live_of p m)
unfolding live_from
sum_at g p base up [] m only at is = absurd cc
sum_at g p base zero (n ∷ ms) m only at is =
    let same : n ≡ m = cc in
    let here : base ≡ p = omega arith in
    let rest : sum_by g (live_from (base + 1) ms) ≡ 0 = none_of g p (base + 1) ms only (omega arith) in
    let first : sum_by g (live_of base n) ≡ sum_by g (live_of p m) = rw (here, same) refl in
    sum_by-append g (live_of base n) (live_from (base + 1) ms) ∙ omega arith
sum_at g p base (suc up) (n ∷ ms) m only at is =
    let rest : sum_by g (live_from (base + 1) ms) ≡ sum_by g (live_of p m) = sum_at g p (base + 1) up ms m only at (omega arith) in
    let first : sum_by g (live_of base n) ≡ 0 = zeros g base n (λ l here. only l (omega arith)) in
    sum_by-append g (live_of base n) (live_from (base + 1) ms) ∙ omega arith

-- a sum over the live tests of one module, by its tests
pub sum_of_module : (g : LiveTest → ℕ) (p : ℕ) (m : ModuleValue) → sum_by g (live_of p m) ≡ sum_by (λ t. if is_live t then g (the_live p m t) else 0) m.tests
sum_of_module g p m = sum_map g (the_live p m) (filter is_live m.tests) ∙ sum_by-filter is_live (λ t. g (the_live p m t)) m.tests

-- a sum over all live tests that is over one module's
pub only_module : (g : LiveTest → ℕ) (soc : SocValue) (p : ℕ) (m : ModuleValue) → ((l : LiveTest) → l.place ≢ p → g l ≡ 0) → slice_get soc.modules p ≡ Some m →
    sum_by g (live_tests soc) ≡ sum_by (λ t. if is_live t then g (the_live p m t) else 0) m.tests
only_module g soc p m only at = sum_at g p 0 p soc.modules m only at (omega arith) ∙ sum_of_module g p m

pub module_bound_is : (soc : SocValue) (w p : ℕ) (m : ModuleValue) → slice_get soc.modules p ≡ Some m → module_bound soc w p ≡ times_by (sizes_of m) w m.tests
module_bound_is soc w p m at =
    only_module (λ l. if is_of p l then lower w l else 0) soc p m (λ l other. rw (ne_eqb l.place p other) refl) at
    ∙ sums_agree (λ t. if is_live t then (if is_of p (the_live p m t) then lower w (the_live p m t) else 0) else 0) (λ t. if is_live t then time_by (sizes_of m) w t else 0) m.tests (λ t. each t (is_live t))
  where
    each : (t : Test) (live : Bool) → (if live then (if nat_eq p p then lower_time m t w else 0) else 0) ≡ (if live then time_by (sizes_of m) w t else 0)
    each t false = refl
    each t true = rw (eq-eqb p p refl) (sym (time_by_sizes m t w))

-- a test over the wires of another module
elsewhere : (p : ℕ) (l : LiveTest) (n : ℕ) (tam : Bool) → l.place ≢ p → (if tam && is_of p l then n else 0) ≡ 0
elsewhere p l n true other = rw (ne_eqb l.place p other) refl
elsewhere p l n false other = refl

pub tam_times_are : (soc : SocValue) (w p : ℕ) (m : ModuleValue) → slice_get soc.modules p ≡ Some m → lower_tam_time soc p w ≡ tam_times_by (sizes_of m) w m.tests
tam_times_are soc w p m at =
    only_module (λ l. if l.test.tam && is_of p l then lower w l else 0) soc p m (λ l other. elsewhere p l (lower w l) l.test.tam other) at
    ∙ sums_agree (λ t. if is_live t then (if t.tam && is_of p (the_live p m t) then lower w (the_live p m t) else 0) else 0) (λ t. if is_tam t then time_by (sizes_of m) w t else 0) m.tests (λ t. each t (is_live t) t.tam)
  where
    each : (t : Test) (live tam : Bool) → (if live then (if tam && nat_eq p p then lower_time m t w else 0) else 0) ≡ (if live && tam then time_by (sizes_of m) w t else 0)
    each t false tam = refl
    each t true true = rw (eq-eqb p p refl) (sym (time_by_sizes m t w))
    each t true false = refl

-- ---- the work of one module

abbrev pub work_at_place : SocValue → ℕ → ℕ
work_at_place soc p = sum_by (λ (l : LiveTest). if is_of p l then test_work l.core l.test else 0) (live_tests soc)

pub works_are : (soc : SocValue) (p : ℕ) (m : ModuleValue) → slice_get soc.modules p ≡ Some m → works_by (sizes_of m) m.tests ≡ work_at_place soc p
works_are soc p m at =
    sym (only_module (λ l. if is_of p l then test_work l.core l.test else 0) soc p m (λ l other. rw (ne_eqb l.place p other) refl) at
    ∙ sums_agree (λ t. if is_live t then (if is_of p (the_live p m t) then test_work m t else 0) else 0) (λ t. if is_live t then work_by (sizes_of m) t else 0) m.tests (λ t. each t (is_live t)))
  where
    each : (t : Test) (live : Bool) → (if live then (if nat_eq p p then test_work m t else 0) else 0) ≡ (if live then work_by (sizes_of m) t else 0)
    each t false = refl
    each t true = rw (eq-eqb p p refl) (sym (work_by_sizes m t))

work_at_place-le : (soc : SocValue) (p : ℕ) → work_at_place soc p ≤ work soc
work_at_place-le soc p = sum_by-le_at (λ (l : LiveTest). if is_of p l then test_work l.core l.test else 0) (λ (l : LiveTest). test_work l.core l.test) (live_tests soc) (λ i l at. each l (nat_eq l.place p)) where
  each : (l : LiveTest) (b : Bool) → (if b then test_work l.core l.test else 0) ≤ test_work l.core l.test
  each l true = omega arith
  each l false = omega arith

pub works_by-le : (soc : SocValue) (p : ℕ) (m : ModuleValue) → slice_get soc.modules p ≡ Some m → works_by (sizes_of m) m.tests ≤ work soc
works_by-le soc p m at = omega (arith, works_are soc p m at, work_at_place-le soc p)
