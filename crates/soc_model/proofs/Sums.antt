-- Sums over the modules and tests of a chip, and bounds of them.
use Rattle.std.proofs.Common.{◌≡◌, ℕ, ◌+◌, ◌<◌, ◌≤◌, ◌^◌, Bool, true, false, cond, Option, None, Some, List, [], ◌∷◌, ◌++◌, map, length, filter, find, nat_lt, refl, sym, ap, ◌∙◌, subst, arith}
use Rattle.std.specs.List.{sum_by, flat_map, All}
use Rattle.std.proofs.lemmas.Bool.Decides.{nat_tests}
use Rattle.std.proofs.lemmas.List.{map-append}
use Rattle.std.proofs.lemmas.List.Concat.{length-flat_map}
use Rattle.std.proofs.lemmas.List.Elements.{All-head, All-tail, All-cons, All-weaker, All-append, All-nil}
use Rattle.std.proofs.lemmas.List.Folds.{find-append, fold-map}
use Rattle.std.proofs.lemmas.List.Sums.{sum_by-cons, sum_by-append, get_or-le-sum_by}
use Rattle.soc_model.specs.declared.Module.{Module}
use Rattle.soc_model.specs.declared.Test.{Test}
use Rattle.soc_model.specs.declared.TheConstants.{CHAINS_MOST, POWER_MOST}
use Rattle.soc_model.specs.declared.Which.TheVariants.{Tests, Chains, Power}
use Rattle.soc_model.specs.Chips.{ModuleValue, SocValue, module_value, LiveTest, is_live, live_of, live_from}
use Rattle.soc_model.specs.Sizes.{HasSmall, HasSmallNumbers, all_tests, test_numbers, test_work, work, over, passed}
use Rattle.common_lemmas.proofs.Lists.{sum_map}

-- ---- lists in general

pub all_left : {X : Type 0} (P : X → Type 0) (xs ys : List X) → All P (xs ++ ys) → All P xs
all_left P [] ys h = λ k d lt. absurd (omega arith)
all_left P (x ∷ xs) ys h = All-cons P x xs (All-head P x (xs ++ ys) h) (all_left P xs ys (All-tail P x (xs ++ ys) h))

pub all_right : {X : Type 0} (P : X → Type 0) (xs ys : List X) → All P (xs ++ ys) → All P ys
all_right P [] ys h = h
all_right P (x ∷ xs) ys h = all_right P xs ys (All-tail P x (xs ++ ys) h)

pub all_flat : {X Y : Type 0} (P : Y → Type 0) (f : X → List Y) (xs : List X) → All P (flat_map f xs) → All (λ x. All P (f x)) xs
all_flat P f [] h = λ k d lt. absurd (omega arith)
all_flat P f (x ∷ xs) h = All-cons (λ x. All P (f x)) x xs (all_left P (f x) (flat_map f xs) h) (all_flat P f xs (all_right P (f x) (flat_map f xs) h))

pub flat_from_all : {X Y : Type 0} (P : Y → Type 0) (f : X → List Y) (xs : List X) → All (λ x. All P (f x)) xs → All P (flat_map f xs)
flat_from_all P f [] h = λ k d lt. absurd (omega arith)
flat_from_all P f (x ∷ xs) h = All-append P (f x) (flat_map f xs) (All-head (λ x. All P (f x)) x xs h) (flat_from_all P f xs (All-tail (λ x. All P (f x)) x xs h))

pub find_first : {X : Type 0} (p : X → Bool) (xs ys : List X) (v : X) → Some v ≡ find p xs → Some v ≡ find p (xs ++ ys)
find_first p xs ys v e = rw (find-append p xs ys, ← e) refl

pub find_later : {X : Type 0} (p : X → Bool) (xs ys : List X) → find p xs ≡ None → find p (xs ++ ys) ≡ find p ys
find_later p xs ys e = rw (find-append p xs ys, e) refl

-- ---- the work

-- the work of a module's live tests
abbrev pub work_in : ModuleValue → ℕ
work_in m = sum_by (test_work m) (filter is_live m.tests)

pub work_from : (place : ℕ) (ms : List ModuleValue) → sum_by (λ (l : LiveTest). test_work l.core l.test) (live_from place ms) ≡ sum_by work_in ms
unfolding live_from
work_from place [] = refl
work_from place (m ∷ ms) =
    sum_by-append (λ (l : LiveTest). test_work l.core l.test) (live_of place m) (live_from (place + 1) ms)
    ∙ ap (λ n. n + sum_by (λ (l : LiveTest). test_work l.core l.test) (live_from (place + 1) ms)) (sum_map (λ (l : LiveTest). test_work l.core l.test) (λ (t : Test). record { place = place; core = m; test = t }) (filter is_live m.tests))
    ∙ ap (λ n. work_in m + n) (work_from (place + 1) ms)
    ∙ sym (sum_by-cons work_in m ms)

-- the work of a chip is the sum over its modules
pub work-modules : (soc : SocValue) → work soc ≡ sum_by work_in soc.modules
work-modules soc = work_from 0 soc.modules

-- ---- the first power that passes the limit

abbrev pub power_in : List Test → Option ℕ
power_in ts = find (nat_lt POWER_MOST) (map (λ (t : Test). t.power) ts)

pub power_here : (it rest : List Module) (m : Module) (v : ℕ) → it ≡ m ∷ rest → Some v ≡ power_in m.tests.items → Some v ≡ power_in (flat_map (λ (m : Module). m.tests.items) it)
power_here it rest m v next here =
    rw (next, map-append (λ (t : Test). t.power) m.tests.items (flat_map (λ (m : Module). m.tests.items) rest)) (find_first (nat_lt POWER_MOST) (map (λ (t : Test). t.power) m.tests.items) (map (λ (t : Test). t.power) (flat_map (λ (m : Module). m.tests.items) rest)) v here)

pub power_later : (it rest : List Module) (m : Module) → it ≡ m ∷ rest → power_in m.tests.items ≡ None → power_in (flat_map (λ (m : Module). m.tests.items) it) ≡ power_in (flat_map (λ (m : Module). m.tests.items) rest)
power_later it rest m next here =
    rw (next, map-append (λ (t : Test). t.power) m.tests.items (flat_map (λ (m : Module). m.tests.items) rest)) (find_later (nat_lt POWER_MOST) (map (λ (t : Test). t.power) m.tests.items) (map (λ (t : Test). t.power) (flat_map (λ (m : Module). m.tests.items) rest)) here)

-- ---- small numbers

-- what is asked of the numbers of a module where its work is summed
pub record IsSmall (m : ModuleValue) : Type 0 where
  pub inputs : m.inputs < 10 ^ 12
  pub outputs : m.outputs < 10 ^ 12
  pub bidirs : m.bidirs < 10 ^ 12
  pub setup : m.setup < 10 ^ 12
  pub chains : All (λ n. n < 10 ^ 12) m.chains
  pub tests : All (λ (t : Test). t.patterns < 10 ^ 12) m.tests

pub small_module : (m : ModuleValue) → HasSmall m → IsSmall m
small_module m h =
    let P : ℕ → Type 0 = λ n. n < 10 ^ 12 in
    let rest : All P (m.chains ++ flat_map test_numbers m.tests) = all_right P (m.number ∷ m.level ∷ m.inputs ∷ m.outputs ∷ m.bidirs ∷ m.setup ∷ []) (m.chains ++ flat_map test_numbers m.tests) h in
    record {
      inputs = h 2 0 (omega arith);
      outputs = h 3 0 (omega arith);
      bidirs = h 4 0 (omega arith);
      setup = h 5 0 (omega arith);
      chains = all_left P m.chains (flat_map test_numbers m.tests) rest;
      tests = All-weaker (λ (t : Test). All P (test_numbers t)) (λ (t : Test). t.patterns < 10 ^ 12) (λ t k. k 1 0 (omega arith)) m.tests (all_flat P test_numbers m.tests (all_right P m.chains (flat_map test_numbers m.tests) rest));
    }

-- the numbers of a test
pub record IsSmallTest (t : Test) : Type 0 where
  pub number : t.number < 10 ^ 12
  pub patterns : t.patterns < 10 ^ 12
  pub power : t.power < 10 ^ 12

-- every number of a module, from its parts
pub module_numbers-small : (m : ModuleValue) → IsSmall m → m.number < 10 ^ 12 → m.level < 10 ^ 12 → All IsSmallTest m.tests → HasSmall m
module_numbers-small m small number level tests =
    let P : ℕ → Type 0 = λ n. n < 10 ^ 12 in
    let nil : All P [] = All-nil P in
    let of_test : (t : Test) → IsSmallTest t → All P (test_numbers t) = λ t h. All-cons P t.number (t.patterns ∷ t.power ∷ []) h.number (All-cons P t.patterns (t.power ∷ []) h.patterns (All-cons P t.power [] h.power nil)) in
    let ns : All P (flat_map test_numbers m.tests) = flat_from_all P test_numbers m.tests (All-weaker IsSmallTest (λ (t : Test). All P (test_numbers t)) of_test m.tests tests) in
    let rest : All P (m.chains ++ flat_map test_numbers m.tests) = All-append P m.chains (flat_map test_numbers m.tests) small.chains ns in
    let own : All P (m.number ∷ m.level ∷ m.inputs ∷ m.outputs ∷ m.bidirs ∷ m.setup ∷ []) =
    All-cons P m.number (m.level ∷ m.inputs ∷ m.outputs ∷ m.bidirs ∷ m.setup ∷ []) number
    (All-cons P m.level (m.inputs ∷ m.outputs ∷ m.bidirs ∷ m.setup ∷ []) level
    (All-cons P m.inputs (m.outputs ∷ m.bidirs ∷ m.setup ∷ []) small.inputs
    (All-cons P m.outputs (m.bidirs ∷ m.setup ∷ []) small.outputs
    (All-cons P m.bidirs (m.setup ∷ []) small.bidirs
    (All-cons P m.setup [] small.setup nil))))) in
    All-append P (m.number ∷ m.level ∷ m.inputs ∷ m.outputs ∷ m.bidirs ∷ m.setup ∷ []) (m.chains ++ flat_map test_numbers m.tests) own rest

-- what is asked of a module where its work is summed
pub record IsBounded (m : ModuleValue) : Type 0 where
  pub small : HasSmall m
  pub chains : length m.chains ≤ 1000
  pub tests : length m.tests ≤ 4096

pub bounded-next : (it rest : List Module) (m : Module) → it ≡ m ∷ rest → All IsBounded (map module_value it) → IsBounded (module_value m) × All IsBounded (map module_value rest)
bounded-next it rest m next h =
    let h : All IsBounded (map module_value (m ∷ rest)) = subst (λ (ms : List Module). All IsBounded (map module_value ms)) next h in
    (All-head IsBounded (module_value m) (map module_value rest) h, All-tail IsBounded (module_value m) (map module_value rest) h)

pub work-next : (it rest : List Module) (m : Module) → it ≡ m ∷ rest → sum_by work_in (map module_value it) ≡ work_in (module_value m) + sum_by work_in (map module_value rest)
work-next it rest m next = rw next (sum_by-cons work_in (module_value m) (map module_value rest))

-- ---- limits that are kept

pub kept : (most n : ℕ) → over most n ≡ None → n ≤ most
kept most n e = grind (arith, nat_tests)

none-cons : {X : Type 0} (b : Bool) (x : X) (o : Option X) → cond b (Some x) o ≡ None → (b ≡ false) × (o ≡ None)
none-cons true x o e = cc
none-cons false x o e = (refl, e)

few_from : (ms : List ModuleValue) → find (nat_lt CHAINS_MOST) (map (λ (m : ModuleValue). length m.chains) ms) ≡ None → All (λ (m : ModuleValue). length m.chains ≤ 1000) ms
few_from [] e = λ k d lt. absurd (omega arith)
few_from (m ∷ ms) e =
    let s = none-cons (nat_lt CHAINS_MOST (length m.chains)) (length m.chains) (find (nat_lt CHAINS_MOST) (map (λ (m : ModuleValue). length m.chains) ms)) e in
    All-cons (λ (m : ModuleValue). length m.chains ≤ 1000) m ms (grind (arith, nat_tests)) (few_from ms s.1)

pub few_chains : (soc : SocValue) → passed soc Chains ≡ None → All (λ (m : ModuleValue). length m.chains ≤ 1000) soc.modules
few_chains soc e = few_from soc.modules e

weak_from : (ts : List Test) → find (nat_lt POWER_MOST) (map (λ (t : Test). t.power) ts) ≡ None → All (λ (t : Test). t.power ≤ 10 ^ 9) ts
weak_from [] e = λ k d lt. absurd (omega arith)
weak_from (t ∷ ts) e =
    let s = none-cons (nat_lt POWER_MOST t.power) t.power (find (nat_lt POWER_MOST) (map (λ (t : Test). t.power) ts)) e in
    All-cons (λ (t : Test). t.power ≤ 10 ^ 9) t ts (grind (arith, nat_tests)) (weak_from ts s.1)

pub weak_tests : (soc : SocValue) → passed soc Power ≡ None → All (λ (t : Test). t.power ≤ 10 ^ 9) (all_tests soc)
weak_tests soc e = weak_from (all_tests soc) e

pub tests_in : (soc : SocValue) → All (λ (m : ModuleValue). length m.tests ≤ length (all_tests soc)) soc.modules
tests_in soc = λ k d lt.
    let all = length-flat_map (λ (m : ModuleValue). m.tests) soc.modules in
    let part = get_or-le-sum_by (λ (m : ModuleValue). length m.tests) soc.modules k d lt in
    omega arith

pub all_bounded : (soc : SocValue) → HasSmallNumbers soc → passed soc Tests ≡ None → passed soc Chains ≡ None → All IsBounded soc.modules
all_bounded soc small tests chains = λ k d lt. record {
  small = small k d lt;
  chains = few_chains soc chains k d lt;
  tests = let t = tests_in soc k d lt in let most = kept 4096 (length (all_tests soc)) tests in omega arith;
}
