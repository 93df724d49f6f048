-- A made chip is sound.
use Rattle.std.proofs.Common.{◌≡◌, ◌∙◌, ℕ, suc, ◌+◌, ◌*◌, ◌%◌, ◌<◌, ◌≤◌, ◌^◌, Bool, true, false, Some, None, List, [], ◌∷◌, map, length, find, filter, get_or, slice_get, nat_lt, not, refl, sym, ap, subst, sum, arith, if◌then◌else◌, codes, IsTrue}
use Rattle.std.specs.List.{All, sum_by, range_with_len}
use Rattle.std.proofs.Math.Nat.{mod-lt, mul-le-mul_left, mul-le-mul_right}
use Rattle.std.proofs.lemmas.Bool.Decides.{nat_tests}
use Rattle.std.proofs.lemmas.List.Concat.{length-flat_map}
use Rattle.std.proofs.lemmas.List.Elements.{All-map, All-cons, All-nil, All-weaker, All-append, All-filter, All-head, All-tail}
use Rattle.std.proofs.lemmas.List.Filters.{sum_by-filter_both}
use Rattle.std.proofs.lemmas.List.FromFn.{length-range_with_len, get_or-range_with_len, length-map-range_with_len}
use Rattle.std.proofs.lemmas.List.Sums.{sum_by-le}
use Rattle.std.proofs.lemmas.Option.{slice_get_within, get_or_from_slice_get}
use Rattle.soc_model.specs.declared.Test.{Test}
use Rattle.soc_model.specs.declared.Which.TheVariants.{Modules, Tests, Chains, Power, Work}
use Rattle.soc_model.specs.Chips.{ModuleValue, LiveTest, is_live, live_of, live_from, live_tests}
use Rattle.soc_model.specs.Sizes.{HasSmall, IsWithinSize, over, all_tests, test_work, work}
use Rattle.soc_model.specs.SoundChips.{AllDiffer, IsSoundModule, IsSoundChip, IsName, is_name_byte, is_keyword, keywords}
use Rattle.soc_model.proofs.Sums.{IsSmallTest, module_numbers-small, flat_from_all, work_in, work-modules}
use Rattle.sample_maker.specs.Samples.{drawn, is_below, chain_length, chain_lengths, scan_test, self_test, has_self_test, made_module, top_module, made_chip}
use Rattle.common_lemmas.proofs.Tests.{lt_false}

-- ---- lists

every : {X : Type 0} (P : X → Type 0) (xs : List X) → ((x : X) → P x) → All P xs
every P xs h = λ k d lt. h (get_or xs k d)

none_found : (most : ℕ) (xs : List ℕ) → All (λ n. n ≤ most) xs → find (nat_lt most) xs ≡ None
none_found most [] small = refl
none_found most (x ∷ xs) small = rw (lt_false most x (small 0 0 (omega arith))) (none_found most xs (λ k d lt. small (suc k) d (omega arith)))

over_none : (most n : ℕ) → n ≤ most → over most n ≡ None
over_none most n le = rw (lt_false most n le) refl

-- ---- numbers of modules and of tests

range_place : (a n p k : ℕ) → slice_get (range_with_len a n) p ≡ Some k → k ≡ a + p
range_place a n p k at =
    let within : p < n = subst (λ m. p < m) (length-range_with_len a n) (slice_get_within (range_with_len a n) p k at) in
    sym (get_or_from_slice_get (range_with_len a n) p k 0 at) ∙ get_or-range_with_len a n p 0 within

range_differs : (a n : ℕ) → AllDiffer (range_with_len a n)
range_differs a n = λ p q k atp atq. let e = range_place a n p k atp in let f = range_place a n q k atq in omega arith

numbers_of : (seed : ℕ) (ns : List ℕ) → map (λ (m : ModuleValue). m.number) (map (made_module seed) ns) ≡ ns
numbers_of seed [] = refl
numbers_of seed (n ∷ ns) = ap (λ xs. n ∷ xs) (numbers_of seed ns)

-- ---- the tests of a module

below : (n m : ℕ) → 0 < m → n % m < m
below n m some = mod-lt n some

drawn-lt : (seed a b : ℕ) → drawn seed a b < 997
drawn-lt seed a b = below (((seed + 31 * a + 101 * b) % 997) * ((seed + 31 * a + 101 * b) % 997)) 997 (omega arith)

record IsModestTest (t : Test) : Type 0 where
  number : t.number ≤ 2
  patterns : t.patterns ≤ 20000
  power : t.power ≤ 99

scan_modest : (seed number : ℕ) → IsModestTest (scan_test seed number)
scan_modest seed number = record {
  number = omega arith;
  patterns = let r = below (drawn seed number 20) 200 (omega arith) in omega arith;
  power = let r = below (drawn seed number 21) 90 (omega arith) in omega arith;
}

self_modest : (seed number : ℕ) → IsModestTest (self_test seed number)
self_modest seed number = record {
  number = omega arith;
  patterns = let r = drawn-lt seed number 23 in omega arith;
  power = omega arith;
}

-- one test, or two
abbrev tests_if : (seed number : ℕ) → Bool → List Test
tests_if seed number b = scan_test seed number ∷ (if b then self_test seed number ∷ [] else [])

tests_modest : (seed number : ℕ) (b : Bool) → All IsModestTest (tests_if seed number b)
tests_modest seed number true = All-cons IsModestTest (scan_test seed number) (self_test seed number ∷ []) (scan_modest seed number) (All-cons IsModestTest (self_test seed number) [] (self_modest seed number) (All-nil IsModestTest))
tests_modest seed number false = All-cons IsModestTest (scan_test seed number) [] (scan_modest seed number) (All-nil IsModestTest)

tests_few : (seed number : ℕ) (b : Bool) → length (tests_if seed number b) ≤ 2
tests_few seed number true = omega arith
tests_few seed number false = omega arith

tests_apart : (seed number : ℕ) (b : Bool) → AllDiffer (map (λ (t : Test). t.number) (tests_if seed number b))
tests_apart seed number true = range_differs 1 2
tests_apart seed number false = range_differs 1 1

-- ---- what a module has at most

-- no name is no keyword
nameless : is_keyword [] ≡ false
unfolding keywords
nameless = refl

record IsModest (m : ModuleValue) : Type 0 where
  small : HasSmall m
  sound : IsSoundModule m
  chains : length m.chains ≤ 9
  tests : length m.tests ≤ 2
  powers : All (λ (t : Test). t.power ≤ 99) m.tests
  work : work_in m ≤ 10 ^ 9

level-lt : (b : Bool) → (if b then 2 else 1) < 10 ^ 12
level-lt true = omega arith
level-lt false = omega arith

length-le : (seed number chain : ℕ) → chain_length seed number chain ≤ 99
length-le seed number chain = let r = below (drawn seed number (5 + chain)) 90 (omega arith) in omega arith

lengths : (seed number : ℕ) → All (λ n. n ≤ 99) (chain_lengths seed number)
lengths seed number = All-map (λ n. n ≤ 99) (chain_length seed number) (range_with_len 0 (drawn seed number 4 % 10)) (every (λ c. chain_length seed number c ≤ 99) (range_with_len 0 (drawn seed number 4 % 10)) (length-le seed number))

few_chains : (seed number : ℕ) → length (chain_lengths seed number) ≤ 9
few_chains seed number =
    let r = below (drawn seed number 4) 10 (omega arith) in
    let e = length-map-range_with_len (chain_length seed number) 0 (drawn seed number 4 % 10) in
    omega arith

small_test : (t : Test) → IsModestTest t → IsSmallTest t
small_test t modest = record { number = omega (arith, modest.number); patterns = omega (arith, modest.patterns); power = omega (arith, modest.power) }

made_small : (seed number : ℕ) → number ≤ 200 → HasSmall (made_module seed number)
made_small seed number le =
    let m : ModuleValue = made_module seed number in
    let ts = tests_modest seed number (has_self_test seed number) in
    let inputs = below (drawn seed number 1) 100 (omega arith) in
    let outputs = below (drawn seed number 2) 100 (omega arith) in
    let bidirs = below (drawn seed number 3) 10 (omega arith) in
    module_numbers-small m
    (record {
      inputs = omega arith;
      outputs = omega arith;
      bidirs = omega arith;
      setup = omega arith;
      chains = All-weaker (λ n. n ≤ 99) (λ n. n < 10 ^ 12) (λ n le. omega arith) m.chains (lengths seed number);
      tests = All-weaker IsModestTest (λ (t : Test). t.patterns < 10 ^ 12) (λ t modest. omega (arith, modest.patterns)) m.tests ts;
    })
    (omega arith) (level-lt (is_below seed number)) (All-weaker IsModestTest IsSmallTest small_test m.tests ts)

no_setup : (b : Bool) (n : ℕ) → n ≡ 0 → (if b then n else 0) ≡ 0
no_setup true n is = is
no_setup false n is = refl

test_work-le : (seed number : ℕ) (t : Test) → IsModestTest t → test_work (made_module seed number) t ≤ 5 * 10 ^ 8
test_work-le seed number t modest =
    let m : ModuleValue = made_module seed number in
    let inputs = below (drawn seed number 1) 100 (omega arith) in
    let outputs = below (drawn seed number 2) 100 (omega arith) in
    let bidirs = below (drawn seed number 3) 10 (omega arith) in
    let scans = sum_by-le (λ (n : ℕ). n) 99 m.chains (lengths seed number) in
    let few = few_chains seed number in
    let cells : ℕ = 1 + (m.inputs + m.bidirs) + (m.outputs + m.bidirs) + 2 * sum m.chains in
    let most : cells ≤ 2000 = omega arith in
    let wide : t.patterns * cells ≤ t.patterns * 2000 = mul-le-mul_left t.patterns most in
    let long : t.patterns * 2000 ≤ 20000 * 2000 = mul-le-mul_right 2000 modest.patterns in
    let none = no_setup t.tam m.setup refl in
    omega arith

filtered-le : {X : Type 0} (f : X → ℕ) (p : X → Bool) (xs : List X) → sum_by f (filter p xs) ≤ sum_by f xs
filtered-le f p xs = let both = sum_by-filter_both p (λ x. not (p x)) (λ x. refl) f xs in omega arith

made_work : (seed number : ℕ) → work_in (made_module seed number) ≤ 10 ^ 9
made_work seed number =
    let m : ModuleValue = made_module seed number in
    let all = filtered-le (test_work m) is_live m.tests in
    let each = sum_by-le (test_work m) (5 * 10 ^ 8) m.tests (All-weaker IsModestTest (λ (t : Test). test_work m t ≤ 5 * 10 ^ 8) (test_work-le seed number) m.tests (tests_modest seed number (has_self_test seed number))) in
    let few : length m.tests ≤ 2 = tests_few seed number (has_self_test seed number) in
    let most = mul-le-mul_right (5 * 10 ^ 8) few in
    omega arith

made_modest : (seed number : ℕ) → number ≤ 200 → IsModest (made_module seed number)
made_modest seed number le = record {
  small = made_small seed number le;
  sound = record { name = All-nil (λ b. IsTrue (is_name_byte b)); no_keyword = nameless; tests_differ = tests_apart seed number (has_self_test seed number) };
  chains = few_chains seed number;
  tests = tests_few seed number (has_self_test seed number);
  powers = All-weaker IsModestTest (λ (t : Test). t.power ≤ 99) (λ t modest. modest.power) (made_module seed number).tests (tests_modest seed number (has_self_test seed number));
  work = made_work seed number;
}

zeros : HasSmall top_module
zeros =
    module_numbers-small top_module
    (record { inputs = omega arith; outputs = omega arith; bidirs = omega arith; setup = omega arith; chains = All-nil (λ n. n < 10 ^ 12); tests = All-nil (λ (t : Test). t.patterns < 10 ^ 12) })
    (omega arith) (omega arith) (All-nil IsSmallTest)

top_modest : IsModest top_module
top_modest = record {
  small = zeros;
  sound = record { name = All-nil (λ b. IsTrue (is_name_byte b)); no_keyword = nameless; tests_differ = range_differs 1 0 };
  chains = omega arith;
  tests = omega arith;
  powers = All-nil (λ (t : Test). t.power ≤ 99);
  work = omega arith;
}

-- ---- the chip

modules_modest : (seed n : ℕ) → n ≤ 200 → All IsModest (top_module ∷ map (made_module seed) (range_with_len 1 n))
modules_modest seed n le =
    All-cons IsModest top_module (map (made_module seed) (range_with_len 1 n)) top_modest
    (All-map IsModest (made_module seed) (range_with_len 1 n)
    (λ k d lt.
    let within : k < n = subst (λ m. k < m) (length-range_with_len 1 n) lt in
    let is = get_or-range_with_len 1 n k d within in
    made_modest seed (get_or (range_with_len 1 n) k d) (omega arith)))

few_modules : (seed n : ℕ) → n ≤ 200 → length (top_module ∷ map (made_module seed) (range_with_len 1 n)) ≤ 201
few_modules seed n le = let e = length-map-range_with_len (made_module seed) 1 n in omega arith

within : (seed n : ℕ) → n ≤ 200 → IsWithinSize (made_chip n seed)
within seed n le Modules = over_none 1000 (length (made_chip n seed).modules) (let few = few_modules seed n le in omega arith)
within seed n le Tests =
    let ms = (made_chip n seed).modules in
    let few = few_modules seed n le in
    let e = length-flat_map (λ (m : ModuleValue). m.tests) ms in
    let each = sum_by-le (λ (m : ModuleValue). length m.tests) 2 ms (All-weaker IsModest (λ (m : ModuleValue). length m.tests ≤ 2) (λ m modest. modest.tests) ms (modules_modest seed n le)) in
    over_none 4096 (length (all_tests (made_chip n seed))) (omega arith)
within seed n le Chains =
    let ms = (made_chip n seed).modules in
    none_found 1000 (map (λ (m : ModuleValue). length m.chains) ms)
    (All-map (λ n. n ≤ 1000) (λ (m : ModuleValue). length m.chains) ms (All-weaker IsModest (λ (m : ModuleValue). length m.chains ≤ 1000) (λ m modest. let few = modest.chains in omega arith) ms (modules_modest seed n le)))
within seed n le Power =
    let ms = (made_chip n seed).modules in
    none_found (10 ^ 9) (map (λ (t : Test). t.power) (all_tests (made_chip n seed)))
    (All-map (λ n. n ≤ 10 ^ 9) (λ (t : Test). t.power) (all_tests (made_chip n seed))
    (flat_from_all (λ (t : Test). t.power ≤ 10 ^ 9) (λ (m : ModuleValue). m.tests) ms (All-weaker IsModest (λ (m : ModuleValue). All (λ (t : Test). t.power ≤ 10 ^ 9) m.tests) (λ m modest. All-weaker (λ (t : Test). t.power ≤ 99) (λ (t : Test). t.power ≤ 10 ^ 9) (λ t le. omega arith) m.tests modest.powers) ms (modules_modest seed n le))))
within seed n le Work =
    let ms = (made_chip n seed).modules in
    let few = few_modules seed n le in
    let e = work-modules (made_chip n seed) in
    let each = sum_by-le work_in (10 ^ 9) ms (All-weaker IsModest (λ (m : ModuleValue). work_in m ≤ 10 ^ 9) (λ m modest. modest.work) ms (modules_modest seed n le)) in
    over_none (10 ^ 18) (work (made_chip n seed)) (omega arith)

-- the chip's name makes one word
named : IsName (codes "sample")
named =
    All-cons (λ b. IsTrue (is_name_byte b)) 115 (97 ∷ 109 ∷ 112 ∷ 108 ∷ 101 ∷ []) refl
    (All-cons (λ b. IsTrue (is_name_byte b)) 97 (109 ∷ 112 ∷ 108 ∷ 101 ∷ []) refl
    (All-cons (λ b. IsTrue (is_name_byte b)) 109 (112 ∷ 108 ∷ 101 ∷ []) refl
    (All-cons (λ b. IsTrue (is_name_byte b)) 112 (108 ∷ 101 ∷ []) refl
    (All-cons (λ b. IsTrue (is_name_byte b)) 108 (101 ∷ []) refl
    (All-cons (λ b. IsTrue (is_name_byte b)) 101 [] refl (All-nil (λ b. IsTrue (is_name_byte b))))))))

pub made_sound : (n seed : ℕ) → n ≤ 200 → IsSoundChip (made_chip n seed)
made_sound n seed le = record {
  keyed = sym (ap (λ ns. 0 ∷ ns) (numbers_of seed (range_with_len 1 n)));
  modules_differ = subst AllDiffer (sym (ap (λ ns. 0 ∷ ns) (numbers_of seed (range_with_len 1 n)))) (range_differs 0 (suc n));
  name = named;
  modules = All-weaker IsModest IsSoundModule (λ m modest. modest.sound) (made_chip n seed).modules (modules_modest seed n le);
  small = All-weaker IsModest HasSmall (λ m modest. modest.small) (made_chip n seed).modules (modules_modest seed n le);
  size = within seed n le;
}

-- ---- what its live tests draw

live_in : (P : Test → Type 0) (place : ℕ) (ms : List ModuleValue) → All (λ (m : ModuleValue). All P m.tests) ms → All (λ (l : LiveTest). P l.test) (live_from place ms)
unfolding live_from
live_in P place [] all = All-nil (λ (l : LiveTest). P l.test)
live_in P place (m ∷ ms) all =
    All-append (λ (l : LiveTest). P l.test) (live_of place m) (live_from (place + 1) ms)
    (All-map (λ (l : LiveTest). P l.test) (λ (t : Test). record { place = place; core = m; test = t }) (filter is_live m.tests) (All-filter is_live P m.tests (All-head (λ (m : ModuleValue). All P m.tests) m ms all)))
    (live_in P (place + 1) ms (All-tail (λ (m : ModuleValue). All P m.tests) m ms all))

pub made_weak : (n seed : ℕ) → n ≤ 200 → All (λ (l : LiveTest). l.test.power ≤ 99) (live_tests (made_chip n seed))
made_weak n seed le =
    live_in (λ (t : Test). t.power ≤ 99) 0 (made_chip n seed).modules
    (All-weaker IsModest (λ (m : ModuleValue). All (λ (t : Test). t.power ≤ 99) m.tests) (λ m modest. modest.powers) (made_chip n seed).modules (modules_modest seed n le))
