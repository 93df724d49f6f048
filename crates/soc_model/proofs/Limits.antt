-- What the limits and small numbers of a chip bound: what crates above cite.
use Rattle.std.proofs.Common.{◌≡◌, ℕ, ◌<◌, ◌≤◌, ◌^◌, Bool, true, false, cond, Some, Result, Ok, Err, OnOk, OnErr, List, [], ◌∷◌, ◌++◌, length, get_or, filter, slice_get, sum, refl, ap, sym, subst, zero, suc, inl, inr, ◌⊎◌, arith}
use Rattle.std.proofs.lemmas.List.Sums.{sum_by-cons, sum_by-le, get_or-le-sum_by}
use Rattle.std.proofs.lemmas.List.Elements.{All-weaker, All-push}
use Rattle.std.proofs.lemmas.Option.{slice_get_within, get_or_from_slice_get, same_Some}
use Rattle.std.specs.List.{sum_by, All}
use Rattle.soc_model.specs.declared.Test.{Test}
use Rattle.soc_model.specs.declared.Which.TheVariants.{Modules, Tests, Chains, Power, Work}
use Rattle.soc_model.specs.Chips.{ModuleValue, SocValue, LiveTest, is_live, live_tests}
use Rattle.soc_model.specs.Sizes.{HasSmall, HasSmallNumbers, IsWithinSize, all_tests, test_work, work}
use Rattle.soc_model.proofs.Sums.{IsSmall, small_module, kept, few_chains, weak_tests, tests_in, work_in, work-modules}

-- ---- the limits

pub modules-le : (soc : SocValue) → IsWithinSize soc → length soc.modules ≤ 1000
modules-le soc within = kept 1000 (length soc.modules) (within Modules)

pub tests-le : (soc : SocValue) → IsWithinSize soc → length (all_tests soc) ≤ 4096
tests-le soc within = kept 4096 (length (all_tests soc)) (within Tests)

pub module_tests-le : (soc : SocValue) → IsWithinSize soc → All (λ (m : ModuleValue). length m.tests ≤ 4096) soc.modules
module_tests-le soc within = λ k d lt. let part = tests_in soc k d lt in let all = tests-le soc within in omega arith

pub module_chains-le : (soc : SocValue) → IsWithinSize soc → All (λ (m : ModuleValue). length m.chains ≤ 1000) soc.modules
module_chains-le soc within = few_chains soc (within Chains)

pub powers-le : (soc : SocValue) → IsWithinSize soc → All (λ (t : Test). t.power ≤ 10 ^ 9) (all_tests soc)
powers-le soc within = weak_tests soc (within Power)

pub work-le : (soc : SocValue) → IsWithinSize soc → work soc ≤ 10 ^ 18
work-le soc within = kept (10 ^ 18) (work soc) (within Work)

-- ---- small numbers

pub modules-small : (soc : SocValue) → HasSmallNumbers soc → All IsSmall soc.modules
modules-small soc small = λ k d lt. small_module (get_or soc.modules k d) (small k d lt)

-- at most a thousand lengths below 10^12
pub scan_cells-lt : (soc : SocValue) → HasSmallNumbers soc → IsWithinSize soc → All (λ (m : ModuleValue). sum m.chains < 10 ^ 15) soc.modules
scan_cells-lt soc small within = λ k d lt.
    let m : ModuleValue = get_or soc.modules k d in
    let each = (modules-small soc small k d lt).chains in
    let few = module_chains-le soc within k d lt in
    let most = sum_by-le (λ (n : ℕ). n) 999999999999 m.chains (All-weaker (λ n. n < 10 ^ 12) (λ n. n ≤ 999999999999) (λ n below. omega arith) m.chains each) in
    omega arith

-- ---- a test's part of the work

filtered-more : {X : Type 0} (f : X → ℕ) (p : X → Bool) (xs : List X) (y x : X) (b : Bool) → p y ≡ b → (y ≡ x) ⊎ (f x ≤ sum_by f (filter p xs)) → p x ≡ true → f x ≤ sum_by f (cond b (y ∷ filter p xs) (filter p xs))
filtered-more f p xs y x true here (inl same) passes = let e = ap f same in let s = sum_by-cons f y (filter p xs) in omega arith
filtered-more f p xs y x true here (inr le) passes = let s = sum_by-cons f y (filter p xs) in omega arith
filtered-more f p xs y x false here (inl same) passes = cc
filtered-more f p xs y x false here (inr le) passes = le

filtered-le : {X : Type 0} (f : X → ℕ) (p : X → Bool) (xs : List X) (q : ℕ) (x : X) → slice_get xs q ≡ Some x → p x ≡ true → f x ≤ sum_by f (filter p xs)
filtered-le f p [] q x at passes = cc
filtered-le f p (y ∷ xs) zero x at passes = filtered-more f p xs y x (p y) refl (inl (same_Some y x at)) passes
filtered-le f p (y ∷ xs) (suc q) x at passes = filtered-more f p xs y x (p y) refl (inr (filtered-le f p xs q x at passes)) passes

-- a live test of the chip, by its place in the list of live tests
pub test_work-le : (soc : SocValue) (k : ℕ) (l : LiveTest) → slice_get (live_tests soc) k ≡ Some l → test_work l.core l.test ≤ work soc
test_work-le soc k l at =
    let part = get_or-le-sum_by (λ (l : LiveTest). test_work l.core l.test) (live_tests soc) k l (slice_get_within (live_tests soc) k l at) in
    let same = ap (λ (l : LiveTest). test_work l.core l.test) (get_or_from_slice_get (live_tests soc) k l l at) in
    omega arith

-- a live test of the chip, by the places of its module and of itself
pub test_work-le-at : (soc : SocValue) (p q : ℕ) (m : ModuleValue) (t : Test) → slice_get soc.modules p ≡ Some m → slice_get m.tests q ≡ Some t → is_live t ≡ true → test_work m t ≤ work soc
test_work-le-at soc p q m t at there live =
    let part = get_or-le-sum_by work_in soc.modules p m (slice_get_within soc.modules p m at) in
    let same = ap work_in (get_or_from_slice_get soc.modules p m m at) in
    let own = filtered-le (test_work m) is_live m.tests q t there live in
    let all = work-modules soc in
    omega arith

-- ---- a chip that grows keeps small numbers
