-- The chip of parts is sound where its tests and its work are within their limits, and these are the numbers that the code
-- counts.
use Rattle.std.proofs.Common.{◌≡◌, inl, inr, ℕ, suc, ◌+◌, ◌-◌, ◌*◌, ◌<◌, ◌≤◌, ◌^◌, Bool, true, false, Some, None, List, [], ◌∷◌, length, map, min, nat_lt, refl, sym, ap, ◌∙◌, arith, slice_get, nat_le, if◌then◌else◌, find, sum, sum_by, All}
use Rattle.std.specs.List.{range_with_len}
use Rattle.std.proofs.lemmas.Bool.{cases_Bool, cond-true, cond-false}
use Rattle.std.proofs.lemmas.Bool.Decides.{nat_tests}
use Rattle.std.proofs.lemmas.List.{map-append, length-map}
use Rattle.std.proofs.lemmas.List.Elements.{All-map}
use Rattle.std.proofs.lemmas.List.Concat.{length-flat_map}
use Rattle.std.proofs.lemmas.List.FromFn.{length-range_with_len}
use Rattle.std.proofs.lemmas.List.Sums.{sum_by-cons, sum_by-append}
use Rattle.soc_model.specs.declared.Test.{Test}
use Rattle.soc_model.specs.declared.TestId.{TestId}
use Rattle.soc_model.specs.declared.TheConstants.{MODULES_MOST, TESTS_MOST, CHAINS_MOST, POWER_MOST, WORK_MOST}
use Rattle.soc_model.specs.declared.Which.{Which}
use Rattle.soc_model.specs.declared.Which.TheVariants.{Modules, Tests, Chains, Power, Work}
use Rattle.soc_model.specs.Chips.{ModuleValue, SocValue, is_live, numbers, same_test}
use Rattle.soc_model.specs.Sizes.{HasSmall, IsWithinSize, IsFirstPassed, all_tests, test_work, work, over, passed, rank_of}
use Rattle.soc_model.specs.SoundChips.{IsSoundChip, IsSoundModule}
use Rattle.soc_model.proofs.Limits.{tests-le, powers-le}
use Rattle.soc_model.proofs.Sums.{IsSmall, IsSmallTest, small_module, module_numbers-small, work_in, work-modules, all_flat}
use Rattle.plan_model.specs.Plans.{LimitsValue, ProfileValue, greatest, of_first}
use Rattle.plan_model.specs.SoundLimits.{IsSoundLimits, IsSoundProfile}
use Rattle.plan_model.proofs.Greatest.{greatest-least}
use Rattle.plan_model.proofs.Lists.{from_flat_map}
use Rattle.plan_model.proofs.Sums.{sum_by-filter, item-le-sum_by}
use Rattle.split_plan.specs.declared.cuts.Cut.{Cut}
use Rattle.split_plan.specs.Cuts.{part_count, part_power, peak, cut_of, cuts_from, cuts_in, pieces_of, pieces, patterns_of, part_test}
use Rattle.split_plan.specs.Parts.{split_module, split_chip}
use Rattle.split_plan.specs.Steps.{count_in, count_all, parts_work, module_work, total_work}
use Rattle.split_plan.proofs.Lists.{range_at, range_differs, sum_left}
use Rattle.split_plan.proofs.CutTests.{are_parts, cut_from, piece_from, total, numbers_in, nth_part, AreParts, IsCut}
use Rattle.common_lemmas.proofs.Lists.{sums_agree, map_twice, map_at, all_at, all_from, from_map, sum_map}

-- ---- how many tests there are

count_here : (m : ModuleValue) (limits : LimitsValue) (most : ℕ) → length (split_module limits most m).tests ≡ count_in most m
count_here m limits most =
    sym (length-map (map part_test (pieces (cuts_in limits most m))) (λ (t : Test). t.number)) ∙ ap length (numbers_in limits most m) ∙ length-range_with_len 1 (total most m.tests)

pub counts_are : (limits : LimitsValue) (most : ℕ) (soc : SocValue) → length (all_tests (split_chip limits most soc)) ≡ count_all most soc
counts_are limits most soc =
    length-flat_map (λ (m : ModuleValue). m.tests) (map (split_module limits most) soc.modules)
    ∙ sum_map (λ (m : ModuleValue). length m.tests) (split_module limits most) soc.modules
    ∙ sums_agree (λ m. length (split_module limits most m).tests) (count_in most) soc.modules (λ m. count_here m limits most)

-- ---- the work

-- a sum of products over a range
spread : (f : ℕ → ℕ) (a b : ℕ) (ks : List ℕ) → sum_by (λ (k : ℕ). f k * a + b) ks ≡ sum_by f ks * a + length ks * b
spread f a b [] = omega arith
spread f a b (k ∷ ks) =
    let rest = spread f a b ks in
    let one = sum_by-cons (λ k. f k * a + b) k ks in
    let two = sum_by-cons f k ks in
    one ∙ omega (arith, ap (λ n. n * a) two)

agree_at : {X : Type 0} (f g : X → ℕ) (xs : List X) → ((i : ℕ) (x : X) → slice_get xs i ≡ Some x → f x ≡ g x) → sum_by f xs ≡ sum_by g xs
agree_at f g [] same = refl
agree_at f g (x ∷ xs) same =
    sum_by-cons f x xs ∙ ap (λ n. n + sum_by f xs) (same 0 x refl) ∙ ap (λ n. g x + n) (agree_at f g xs (λ i y at. same (suc i) y at)) ∙ sym (sum_by-cons g x xs)

-- the patterns of all parts of a test together
pub all_patterns : (c : Cut) → AreParts c.test.patterns c.count c.size → sum_by (λ (k : ℕ). patterns_of c k) (range_with_len 0 c.count) ≡ c.test.patterns
all_patterns c parts =
    sum_left c.test.patterns c.size 0 c.count ∙ omega arith

-- each part of a live test is live
pub live_part : (c : Cut) (k : ℕ) → AreParts c.test.patterns c.count c.size → is_live c.test ≡ true → k < c.count → is_live (part_test (c, k)) ≡ true
live_part c k parts live within =
    let some : 1 ≤ c.test.patterns = grind (arith, nat_tests) in
    let size = parts.size some in
    let left = parts.begins_before some k within in
    let here : 1 ≤ min c.size (c.test.patterns - k * c.size) = omega arith in
    grind (arith, nat_tests)

-- no part of another is
pub dead_part : (c : Cut) (k : ℕ) → is_live c.test ≡ false → is_live (part_test (c, k)) ≡ false
dead_part c k dead =
    let none : c.test.patterns ≡ 0 = grind (arith, nat_tests) in
    let here : min c.size (c.test.patterns - k * c.size) ≡ 0 = omega arith in
    grind (arith, nat_tests)

module _ (m : ModuleValue) where
  -- the cells of a module and one
  abbrev cells : ℕ
  cells = 1 + (m.inputs + m.bidirs) + (m.outputs + m.bidirs) + 2 * sum m.chains

  -- the work of a test that is live, 0 else
  abbrev live_work : Test → ℕ
  live_work t = if is_live t then test_work m t else 0

  -- the setup that a test counts
  abbrev setup_of : Test → ℕ
  setup_of t = if t.tam then m.setup else 0

  work_live : (c : Cut) → AreParts c.test.patterns c.count c.size → is_live c.test ≡ true →
      sum_by live_work (map part_test (pieces_of c)) ≡ c.test.patterns * cells + c.count * setup_of c.test
  work_live c parts live =
      let long = length-range_with_len 0 c.count in
      let each : sum_by (λ k. live_work (part_test (c, k))) (range_with_len 0 c.count) ≡ sum_by (λ k. patterns_of c k * cells + setup_of c.test) (range_with_len 0 c.count) =
      agree_at (λ k. live_work (part_test (c, k))) (λ k. patterns_of c k * cells + setup_of c.test) (range_with_len 0 c.count)
      (λ i k at. let r = range_at 0 c.count i k at in let within : k < c.count = omega arith in here k (live_part c k parts live within)) in
      sum_map live_work part_test (pieces_of c)
      ∙ sum_map (λ e. live_work (part_test e)) (nth_part c) (range_with_len 0 c.count)
      ∙ each
      ∙ spread (patterns_of c) cells (setup_of c.test) (range_with_len 0 c.count)
      ∙ ap (λ n. n * cells + length (range_with_len 0 c.count) * setup_of c.test) (all_patterns c parts)
      ∙ ap (λ n. c.test.patterns * cells + n * setup_of c.test) long
    where
      here : (k : ℕ) → is_live (part_test (c, k)) ≡ true → live_work (part_test (c, k)) ≡ patterns_of c k * cells + setup_of c.test
      here k yes' = rw yes' refl

  work_dead : (c : Cut) → is_live c.test ≡ false → sum_by live_work (map part_test (pieces_of c)) ≡ 0
  work_dead c dead =
      sum_map live_work part_test (pieces_of c)
      ∙ sum_map (λ e. live_work (part_test e)) (nth_part c) (range_with_len 0 c.count)
      ∙ none (range_with_len 0 c.count)
    where
      here : (k : ℕ) → is_live (part_test (c, k)) ≡ false → live_work (part_test (c, k)) ≡ 0
      here k no' = rw no' refl

      none : (ks : List ℕ) → sum_by (λ k. live_work (part_test (c, k))) ks ≡ 0
      none [] = refl
      none (k ∷ ks) = sum_by-cons (λ k. live_work (part_test (c, k))) k ks ∙ ap (λ n. n + sum_by (λ k. live_work (part_test (c, k))) ks) (here k (dead_part c k dead)) ∙ omega (arith, none ks)

module _ (limits : LimitsValue) (most : ℕ) (some : 1 ≤ most) where
  module _ (m : ModuleValue) (home : ℕ) where
    work_cut : (number : ℕ) (t : Test) →
        sum_by (live_work m) (map part_test (pieces_of (cut_of limits most home number t))) ≡ (if is_live t then parts_work most m t else 0)
    work_cut number t = elim (cases_Bool (is_live t)) [
      | inl yes' ↦
          work_live m (cut_of limits most home number t) (are_parts most t some) yes'
          ∙ ap (λ n. t.patterns * cells m + n) (setups t.tam)
          ∙ sym (cond-true (is_live t) (parts_work most m t) 0 yes')
      | inr no' ↦ work_dead m (cut_of limits most home number t) no' ∙ sym (cond-false (is_live t) (parts_work most m t) 0 no')
    ]
      where
        setups : (b : Bool) → part_count most t * (if b then m.setup else 0) ≡ (if b then m.setup * part_count most t else 0)
        setups true = omega arith
        setups false = omega arith

    work_from_cuts : (number : ℕ) (ts : List Test) →
        sum_by (live_work m) (map part_test (pieces (cuts_from limits most home number ts))) ≡ sum_by (λ (t : Test). if is_live t then parts_work most m t else 0) ts
    work_from_cuts number [] = refl
    work_from_cuts number (t ∷ ts) =
        simp (map-append, sum_by-append)
        (cc (work_cut number t, work_from_cuts (number + part_count most t) ts, sum_by-cons (λ t. if is_live t then parts_work most m t else 0) t ts))

  work_of_module : (m : ModuleValue) → work_in (split_module limits most m) ≡ module_work most m
  work_of_module m =
      sum_by-filter is_live (test_work m) (map part_test (pieces (cuts_in limits most m)))
      ∙ work_from_cuts m m.number 1 m.tests
      ∙ sym (sum_by-filter is_live (parts_work most m) m.tests)

  pub work_is : (soc : SocValue) → work (split_chip limits most soc) ≡ total_work most soc
  work_is soc =
      work-modules (split_chip limits most soc)
      ∙ sum_map work_in (split_module limits most) soc.modules
      ∙ sums_agree (λ m. work_in (split_module limits most m)) (module_work most) soc.modules (λ m. work_of_module m)

-- ---- powers

peak_within : (P : ℕ → Type 0) (limits : LimitsValue) (id : TestId) (own : ℕ) → P own →
    ((i : ℕ) (p : ProfileValue) → slice_get limits.profiles i ≡ Some p → P (greatest (map (λ (s : ℕ × ℕ). s.1) p.steps))) → P (peak limits id own)
peak_within P limits id own here each = go limits.profiles each
  where
    go : (ps : List ProfileValue) → ((i : ℕ) (p : ProfileValue) → slice_get ps i ≡ Some p → P (greatest (map (λ (s : ℕ × ℕ). s.1) p.steps))) → P (of_first (λ (p : ProfileValue). same_test id p.test) (λ p. greatest (map (λ (s : ℕ × ℕ). s.1) p.steps)) own ps)
    go [] h = here
    go (p ∷ ps) h = elim (cases_Bool (same_test id p.test)) [
      | inl yes' ↦ rw yes' (h 0 p refl)
      | inr no' ↦ rw no' (go ps (λ i q at. h (suc i) q at))
    ]

-- a part of a test of a module
pub record IsPartTest (limits : LimitsValue) (most : ℕ) (m : ModuleValue) (t : Test) : Type 0 where
  pub cut : Cut
  pub place : ℕ
  pub is_cut : IsCut limits most m.number m.tests cut
  pub is : part_test (cut, place) ≡ t

pub part_from : (limits : LimitsValue) (most : ℕ) (m : ModuleValue) (i : ℕ) (t : Test) → slice_get (split_module limits most m).tests i ≡ Some t →
    IsPartTest limits most m t
part_from limits most m i t at =
    let r = from_map part_test (pieces (cuts_in limits most m)) i t at in
    let p = piece_from (cuts_in limits most m) i r.0 r.1 in
    record { cut = (r.0).0; place = (r.0).1; is_cut = cut_from limits most m.number 1 m.tests p.at (r.0).0 p.there; is = r.2 }

-- what a sound chip asks of the tests of a module
record AreSmall (m : ModuleValue) : Type 0 where
  small : IsSmall m
  number : m.number < 10 ^ 12
  level : m.level < 10 ^ 12
  powers : All (λ (t : Test). t.power ≤ 10 ^ 9) m.tests

-- what is asked of a part
record IsFit (t : Test) : Type 0 where
  patterns : t.patterns < 10 ^ 12
  power : t.power ≤ 10 ^ 9

number_small : (limits : LimitsValue) (most : ℕ) (m : ModuleValue) → total most m.tests ≤ 4096 → (i : ℕ) (t : Test) →
    slice_get (split_module limits most m).tests i ≡ Some t → t.number < 10 ^ 12
number_small limits most m few i t at =
    let number = map_at (λ (t : Test). t.number) (split_module limits most m).tests i t at in
    let r = range_at 1 (total most m.tests) i t.number (ap (λ ns. slice_get ns i) (sym (numbers_in limits most m)) ∙ number) in
    omega arith

count-le : (most : ℕ) (ms : List ModuleValue) (i : ℕ) (m : ModuleValue) → slice_get ms i ≡ Some m → count_in most m ≤ sum_by (count_in most) ms
count-le most ms i m at = item-le-sum_by (count_in most) ms i m at

module _ (soc : SocValue) where
  are_small : IsSoundChip soc → (i : ℕ) (m : ModuleValue) → slice_get soc.modules i ≡ Some m → AreSmall m
  are_small sound i m at =
      let h = all_at HasSmall soc.modules i m sound.small at in
      record {
        small = small_module m h;
        number = h 0 0 (omega arith);
        level = h 1 0 (omega arith);
        powers = all_at (λ (m : ModuleValue). All (λ (t : Test). t.power ≤ 10 ^ 9) m.tests) soc.modules i m (all_flat (λ (t : Test). t.power ≤ 10 ^ 9) (λ (m : ModuleValue). m.tests) soc.modules (powers-le soc sound.size)) at;
      }

  module _ (limits : LimitsValue) where
    module _ (sound : IsSoundLimits soc limits) where
      steps_within : (i : ℕ) (p : ProfileValue) → slice_get limits.profiles i ≡ Some p → greatest (map (λ (s : ℕ × ℕ). s.1) p.steps) ≤ 10 ^ 9
      steps_within i p at =
          let h = all_at (IsSoundProfile soc) limits.profiles i p sound.profiles at in
          greatest-least (λ (s : ℕ × ℕ). s.1) (10 ^ 9) p.steps (λ k s there. (all_at (λ (s : ℕ × ℕ). (s.0 ≤ 10 ^ 12 - 1) × (s.1 ≤ 10 ^ 9)) p.steps k s h.small there).1)

      power_within : (id : TestId) (t : Test) (count : ℕ) → t.power ≤ 10 ^ 9 → part_power limits id t count ≤ 10 ^ 9
      power_within id t count own = elim (cases_Bool (nat_le count 1)) [
        | inl yes' ↦ rw yes' own
        | inr no' ↦ rw no' (peak_within (λ n. n ≤ 10 ^ 9) limits id t.power own steps_within)
      ]

    -- ---- each part as a test

    fit : (most : ℕ) → IsSoundLimits soc limits → (m : ModuleValue) → AreSmall m → (i : ℕ) (t : Test) → slice_get (split_module limits most m).tests i ≡ Some t → IsFit t
    fit most bounds m small i t at =
        let p = part_from limits most m i t at in
        let c = p.cut in
        let own = all_at (λ (t : Test). t.patterns < 10 ^ 12) m.tests p.is_cut.at c.test small.small.tests p.is_cut.test_at in
        let power = all_at (λ (t : Test). t.power ≤ 10 ^ 9) m.tests p.is_cut.at c.test small.powers p.is_cut.test_at in
        let of_part = power_within bounds (record { «module» = m.number; test = c.test.number }) c.test (part_count most c.test) power in
        let same = ap (λ (d : Cut). d.power) p.is_cut.is in
        let here : IsFit (part_test (c, p.place)) = record { patterns = omega arith; power = omega arith } in
        rw (← p.is) here

    -- ---- the chip of parts is sound

    small_parts : (most : ℕ) → IsSoundChip soc → IsSoundLimits soc limits → count_all most soc ≤ 4096 → (i : ℕ) (m : ModuleValue) →
        slice_get soc.modules i ≡ Some m → HasSmall (split_module limits most m)
    small_parts most sound bounds few i m at =
        let small = are_small sound i m at in
        let here : total most m.tests ≤ 4096 = omega (arith, count-le most soc.modules i m at) in
        let tests : (k : ℕ) (t : Test) → slice_get (split_module limits most m).tests k ≡ Some t → IsSmallTest t = λ k t there.
        let f = fit most bounds m small k t there in
        let power = f.power in
        record { number = number_small limits most m here k t there; patterns = f.patterns; power = omega (arith, power) } in
        let patterns = all_from (λ (t : Test). t.patterns < 10 ^ 12) (split_module limits most m).tests (λ k t there. (tests k t there).patterns) in
        module_numbers-small (split_module limits most m)
        (record { inputs = small.small.inputs; outputs = small.small.outputs; bidirs = small.small.bidirs; setup = small.small.setup; chains = small.small.chains; tests = patterns })
        small.number small.level (all_from IsSmallTest (split_module limits most m).tests tests)

no_power : (ts : List Test) → ((i : ℕ) (t : Test) → slice_get ts i ≡ Some t → t.power ≤ 10 ^ 9) → find (nat_lt POWER_MOST) (map (λ (t : Test). t.power) ts) ≡ None
no_power [] h = refl
no_power (t ∷ ts) h =
    let own : t.power ≤ 10 ^ 9 = h 0 t refl in
    let low : nat_lt POWER_MOST t.power ≡ false = grind (arith, nat_tests) in
    rw low (no_power ts (λ i u at. h (suc i) u at))

module _ (most n : ℕ) where
  not_over : n ≤ most → over most n ≡ None
  not_over le = let low : nat_lt most n ≡ false = grind (arith, nat_tests) in rw low refl

  is_over : most < n → over most n ≡ Some n
  is_over less = let high : nat_lt most n ≡ true = grind (arith, nat_tests) in rw high refl

modules_kept : (soc : SocValue) (limits : LimitsValue) (most : ℕ) → IsSoundChip soc → passed (split_chip limits most soc) Modules ≡ None
modules_kept soc limits most sound = ap (over MODULES_MOST) (length-map soc.modules (split_module limits most)) ∙ sound.size Modules

numbers_stay : (limits : LimitsValue) (most : ℕ) (soc : SocValue) → numbers (split_chip limits most soc) ≡ numbers soc
numbers_stay limits most soc = map_twice (λ (m : ModuleValue). m.number) (split_module limits most) soc.modules

module _ (soc : SocValue) (limits : LimitsValue) (most : ℕ) where
  module _ (sound : IsSoundChip soc) where
    chains_kept : passed (split_chip limits most soc) Chains ≡ None
    chains_kept = ap (find (nat_lt CHAINS_MOST)) (map_twice (λ (m : ModuleValue). length m.chains) (split_module limits most) soc.modules) ∙ sound.size Chains

    module _ (bounds : IsSoundLimits soc limits) where
      powers_kept : passed (split_chip limits most soc) Power ≡ None
      powers_kept = no_power (all_tests (split_chip limits most soc)) each
        where
          each : (i : ℕ) (t : Test) → slice_get (all_tests (split_chip limits most soc)) i ≡ Some t → t.power ≤ 10 ^ 9
          each i t at =
              let r = from_flat_map (λ (m : ModuleValue). m.tests) (map (split_module limits most) soc.modules) i t at in
              let q = from_map (split_module limits most) soc.modules r.0 r.1 r.3 in
              (fit soc limits most bounds q.0 (are_small soc sound r.0 q.0 q.1) r.2 t (ap (λ (m : ModuleValue). slice_get m.tests r.2) q.2 ∙ r.4)).power

      pub size_kept : 1 ≤ most → count_all most soc ≤ 4096 → total_work most soc ≤ 10 ^ 18 → IsWithinSize (split_chip limits most soc)
      size_kept some few light Modules = modules_kept soc limits most sound
      size_kept some few light Tests = ap (over TESTS_MOST) (counts_are limits most soc) ∙ not_over TESTS_MOST (count_all most soc) few
      size_kept some few light Chains = chains_kept
      size_kept some few light Power = powers_kept
      size_kept some few light Work = ap (over WORK_MOST) (work_is limits most some soc) ∙ not_over WORK_MOST (total_work most soc) light

  module _ (n : ℕ) (sound : IsSoundChip soc) where
    pub tests_passed : n ≡ count_all most soc → 4096 < n → IsFirstPassed (split_chip limits most soc) (record { which = Tests; value = n })
    tests_passed is many = record {
      passes = ap (over TESTS_MOST) (counts_are limits most soc ∙ sym is) ∙ is_over TESTS_MOST n many;
      earlier = earlier;
    }
      where
        earlier : (w : Which) → rank_of w < 1 → passed (split_chip limits most soc) w ≡ None
        earlier Modules less = modules_kept soc limits most sound
        earlier Tests less = absurd (omega arith)
        earlier Chains less = absurd (omega arith)
        earlier Power less = absurd (omega arith)
        earlier Work less = absurd (omega arith)

    pub work_passed : IsSoundLimits soc limits → 1 ≤ most → count_all most soc ≤ 4096 → n ≡ total_work most soc → 10 ^ 18 < n →
        IsFirstPassed (split_chip limits most soc) (record { which = Work; value = n })
    work_passed bounds some few is heavy = record {
      passes = ap (over WORK_MOST) (work_is limits most some soc ∙ sym is) ∙ is_over WORK_MOST n heavy;
      earlier = earlier;
    }
      where
        earlier : (w : Which) → rank_of w < 4 → passed (split_chip limits most soc) w ≡ None
        earlier Modules less = modules_kept soc limits most sound
        earlier Tests less = ap (over TESTS_MOST) (counts_are limits most soc) ∙ not_over TESTS_MOST (count_all most soc) few
        earlier Chains less = chains_kept sound
        earlier Power less = powers_kept sound bounds
        earlier Work less = absurd (omega arith)

  pub split_sound : IsSoundChip soc → IsSoundLimits soc limits → IsWithinSize (split_chip limits most soc) → IsSoundChip (split_chip limits most soc)
  split_sound sound bounds size = record {
    keyed = sound.keyed ∙ sym (numbers_stay limits most soc);
    modules_differ = rw (numbers_stay limits most soc) sound.modules_differ;
    name = sound.name;
    modules = All-map IsSoundModule (split_module limits most) soc.modules (all_from (λ m. IsSoundModule (split_module limits most m)) soc.modules each);
    small = All-map HasSmall (split_module limits most) soc.modules (all_from (λ m. HasSmall (split_module limits most m)) soc.modules (small_parts soc limits most sound bounds few));
    size = size;
  }
    where
      few : count_all most soc ≤ 4096
      few = let h = tests-le (split_chip limits most soc) size in let is = counts_are limits most soc in omega (arith, is)

      each : (i : ℕ) (m : ModuleValue) → slice_get soc.modules i ≡ Some m → IsSoundModule (split_module limits most m)
      each i m at =
          let own = all_at IsSoundModule soc.modules i m sound.modules at in
          record {
            name = own.name;
            no_keyword = own.no_keyword;
            tests_differ = rw (numbers_in limits most m) (range_differs 1 (total most m.tests));
          }
