-- The first live test that passes the limit, or none.
use Rattle.std.proofs.Common.{◌≡◌, ℕ, zero, suc, ◌+◌, ◌≤◌, List, [], ◌∷◌, Bool, true, false, cond, map, Option, None, Some, slice_get, nat_lt, refl, ◌∙◌, subst, arith, ◌⊎◌, inl, inr, ◌<◌, ◌++◌, length, get_or, drop, option_map, sym, ap, nat_le, IfSome, find, MatchOption, All, filter}
use Rattle.std.proofs.lemmas.Bool.{cases_Bool, cases_order}
use Rattle.std.proofs.lemmas.Bool.Decides.{nat_tests}
use Rattle.std.proofs.lemmas.List.Elements.{All-head, All-tail}
use Rattle.std.proofs.lemmas.Option.{same_Some}
use Rattle.soc_model.specs.declared.TestId.{TestId}
use Rattle.soc_model.specs.Chips.{SocValue, LiveTest, live_tests, id_of, same_test, ModuleValue, is_live, live_of, live_from}
use Rattle.plan_model.specs.Plans.{ProfileValue, LimitsValue, of_first, step_power, power_of_id}
use Rattle.plan_model.specs.SoundLimits.{Grow, IsSoundProfile, IsSoundLimits}
use Rattle.limits_text.specs.Meaning.{powers_named, powers_of, NonePasses, or_first, IsFirstPassing}
use Rattle.common_lemmas.proofs.Tests.{lt_false, le_true}
use Rattle.common_lemmas.proofs.Lists.{from_map}
use Rattle.std.proofs.Math.Seq.{drop-cons}
use Rattle.soc_model.specs.declared.Test.{Test}
use Rattle.limits_text.specs.Passing.{live_at, passing, first_passing}
use Rattle.common_lemmas.proofs.Options.{never_both}

-- ---- where no live test passes the limit at any cycle, none of their powers does

-- ---- the steps of a profile

le_false : (a b : ℕ) → b + 1 ≤ a → nat_le a b ≡ false
le_false a b e = grind (arith, nat_tests)

-- before its next step a test draws what it drew
step_before : (r now from : ℕ) (steps : List (ℕ × ℕ)) → r + 1 ≤ from → Grow from steps → step_power r now steps ≡ now
step_before r now from [] late g = refl
step_before r now from (s ∷ steps) late g = rw (le_false s.0 r (omega (arith, late, g.0))) (step_before r now (s.0 + 1) steps (omega (arith, late, g.0)) g.1)

-- as a step begins a test draws its power
step_begins : (from now n : ℕ) (steps : List (ℕ × ℕ)) (s : ℕ × ℕ) → Grow from steps → slice_get steps n ≡ Some s → step_power s.0 now steps ≡ s.1
step_begins from now n [] s g at = cc
step_begins from now zero (t ∷ steps) s g at =
    let same : t ≡ s = same_Some t s at in
    subst (λ (x : ℕ × ℕ). step_power x.0 now (t ∷ steps) ≡ x.1) same (rw (le_true t.0 t.0 (omega arith)) (step_before t.0 t.1 (t.0 + 1) steps (omega arith) g.1))
step_begins from now (suc n) (t ∷ steps) s g at = by (nat_le t.0 s.0) (step_begins (t.0 + 1) t.1 n steps s g.1 at) (step_begins (t.0 + 1) now n steps s g.1 at)
  where
    by : (b : Bool) → step_power s.0 t.1 steps ≡ s.1 → step_power s.0 now steps ≡ s.1 → cond b (step_power s.0 t.1 steps) (step_power s.0 now steps) ≡ s.1
    by true e f = e
    by false e f = f

-- ---- powers

none_found : (most : ℕ) (xs : List ℕ) → ((i x : ℕ) → slice_get xs i ≡ Some x → x ≤ most) → find (nat_lt most) xs ≡ None
none_found most [] small = refl
none_found most (x ∷ xs) small = rw (lt_false most x (small 0 x refl)) (none_found most xs (λ i y at. small (suc i) y at))

module _ (soc : SocValue) (most : ℕ) where
  profile_small : (p : ProfileValue) → IsSoundProfile soc p → ((r : ℕ) → step_power r 0 p.steps ≤ most) → find (nat_lt most) (map (λ (s : ℕ × ℕ). s.1) p.steps) ≡ None
  profile_small p sound small =
      none_found most (map (λ (s : ℕ × ℕ). s.1) p.steps)
      (λ i x at. (let k = from_map (λ (s : ℕ × ℕ). s.1) p.steps i x at in subst (λ n. n ≤ most) (step_begins 0 0 i p.steps k.0 sound.grows k.1 ∙ k.2) (small k.0.0)))

  powers_small : (profiles : List ProfileValue) (id : TestId) (own : ℕ) → All (IsSoundProfile soc) profiles
      → ((r : ℕ) → of_first (λ (p : ProfileValue). same_test p.test id) (λ p. step_power r 0 p.steps) own profiles ≤ most)
      → find (nat_lt most) (powers_named profiles id own) ≡ None
  powers_small [] id own all small = rw (lt_false most own (small 0)) refl
  powers_small (p ∷ profiles) id own all small = elim (cases_Bool (same_test p.test id)) [
    | inl is ↦ rw is (profile_small p (All-head (IsSoundProfile soc) p profiles all) (λ r. rw is at (small r)))
    | inr is ↦ rw is (powers_small profiles id own (All-tail (IsSoundProfile soc) p profiles all) (λ r. rw is at (small r)))
  ]

-- no test of a list passes
abbrev NonePass : List ProfileValue → ℕ → List LiveTest → Type 0
NonePass profiles most tests = (n : ℕ) (l : LiveTest) → slice_get tests n ≡ Some l → find (nat_lt most) (powers_of profiles l) ≡ None

-- in sound limits no live test passes the limit
pub none_passes : (soc : SocValue) (limits : LimitsValue) → IsSoundLimits soc limits → NonePasses soc limits
none_passes soc limits sound = by limits.power sound.within
  where
    by : (o : Option ℕ)
        → ((i : ℕ) (l : LiveTest) → slice_get (live_tests soc) i ≡ Some l → (r : ℕ) → IfSome o (λ most. power_of_id limits (id_of l) l.test.power r ≤ most))
        → IfSome o (λ most. NonePass limits.profiles most (live_tests soc))
    by None within = tt
    by (Some most) within = λ n l at. powers_small soc most limits.profiles (id_of l) l.test.power sound.profiles (within n l at)

-- ---- the first live test that passes the limit on power: there is at most one, and one or none

-- ---- at most one

module _ (soc : SocValue) (limits : LimitsValue) where
  -- where none passes, no first one does
  pub none_or_first : (test : TestId) (power : ℕ) → NonePasses soc limits → IsFirstPassing soc limits test power → ⊥
  none_or_first test power none first =
      let all = subst (λ (o : Option ℕ). IfSome o (λ most. NonePass limits.profiles most (live_tests soc))) first.limit none in
      never_both (find (nat_lt first.most) (powers_of limits.profiles first.live)) power (all first.place first.live first.there) first.passes

  pub one_passing : (s t : TestId) (m n : ℕ) → IsFirstPassing soc limits s m → IsFirstPassing soc limits t n → (s ≡ t) × (m ≡ n)
  one_passing s t m n x y = by (cases_order x.place y.place)
    where
      most : x.most ≡ y.most
      most = same_Some x.most y.most (sym x.limit ∙ y.limit)

      not_before : (s t : TestId) (m n : ℕ) (x : IsFirstPassing soc limits s m) (y : IsFirstPassing soc limits t n) → x.most ≡ y.most → x.place < y.place → ⊥
      not_before s t m n x y same less = never_both (find (nat_lt y.most) (powers_of limits.profiles x.live)) m (y.earlier x.place x.live less x.there) (ap (λ (k : ℕ). find (nat_lt k) (powers_of limits.profiles x.live)) (sym same) ∙ x.passes)

      at_one : x.place ≡ y.place → (s ≡ t) × (m ≡ n)
      at_one same =
          let live : x.live ≡ y.live = same_Some x.live y.live (sym x.there ∙ ap (slice_get (live_tests soc)) same ∙ y.there) in (
            x.named ∙ ap id_of live ∙ sym y.named,
            same_Some m n (sym x.passes ∙ ap (λ (k : ℕ). find (nat_lt k) (powers_of limits.profiles x.live)) most ∙ ap (λ (l : LiveTest). find (nat_lt y.most) (powers_of limits.profiles l)) live ∙ y.passes),
          )

      by : (x.place ≡ y.place) ⊎ ((x.place < y.place) ⊎ (y.place < x.place)) → (s ≡ t) × (m ≡ n)
      by (inl same) = at_one same
      by (inr (inl less)) = absurd (not_before s t m n x y most less)
      by (inr (inr more)) = absurd (not_before t s n m y x (sym most) more)

-- ---- one or none

-- the first of a list that passes, by its place
record IsFound (profiles : List ProfileValue) (most : ℕ) (tests : List LiveTest) (test : TestId) (power : ℕ) : Type 0 where
  place : ℕ
  live : LiveTest
  there : slice_get tests place ≡ Some live
  named : test ≡ id_of live
  passes : find (nat_lt most) (powers_of profiles live) ≡ Some power
  earlier : (n : ℕ) (l : LiveTest) → n < place → slice_get tests n ≡ Some l → find (nat_lt most) (powers_of profiles l) ≡ None

-- what a search says of a list
abbrev Found : List ProfileValue → ℕ → List LiveTest → Option (TestId × ℕ) → Type 0
Found profiles most tests o = MatchOption o (NonePass profiles most tests) (λ found. IsFound profiles most tests found.0 found.1)

module _ (profiles : List ProfileValue) (most : ℕ) where
  found_here : (power : ℕ) (l : LiveTest) (tests : List LiveTest) → find (nat_lt most) (powers_of profiles l) ≡ Some power → IsFound profiles most (l ∷ tests) (id_of l) power
  found_here power l tests passes = record { place = 0; live = l; there = refl; named = refl; passes = passes; earlier = λ n k less at. absurd (omega (arith, less)) }

  found_later : (l : LiveTest) (tests : List LiveTest) (test : TestId) (power : ℕ) → find (nat_lt most) (powers_of profiles l) ≡ None
      → IsFound profiles most tests test power → IsFound profiles most (l ∷ tests) test power
  found_later l tests test power none f = record { place = suc f.place; live = f.live; there = f.there; named = f.named; passes = f.passes; earlier = λ n k less at. before n k less at }
    where
      before : (n : ℕ) (k : LiveTest) → n < suc f.place → slice_get (l ∷ tests) n ≡ Some k → find (nat_lt most) (powers_of profiles k) ≡ None
      before zero k less at = subst (λ (x : LiveTest). find (nat_lt most) (powers_of profiles x) ≡ None) (same_Some l k at) none
      before (suc n) k less at = f.earlier n k (omega (arith, less)) at

  none_more : (l : LiveTest) (tests : List LiveTest) → find (nat_lt most) (powers_of profiles l) ≡ None → NonePass profiles most tests → NonePass profiles most (l ∷ tests)
  none_more l tests none rest zero k at = subst (λ (x : LiveTest). find (nat_lt most) (powers_of profiles x) ≡ None) (same_Some l k at) none
  none_more l tests none rest (suc n) k at = rest n k at

  -- what the search test by test finds
  found_in : (tests : List LiveTest) → Found profiles most tests (first_passing profiles most tests)
  found_in [] = λ n l at. absurd cc
  found_in (l ∷ tests) = by (find (nat_lt most) (powers_of profiles l)) refl (found_in tests)
    where
      later : find (nat_lt most) (powers_of profiles l) ≡ None → (o : Option (TestId × ℕ)) → Found profiles most tests o → Found profiles most (l ∷ tests) o
      later none None rest = none_more l tests none rest
      later none (Some found) rest = found_later l tests found.0 found.1 none rest

      by : (o : Option ℕ) → find (nat_lt most) (powers_of profiles l) ≡ o → Found profiles most tests (first_passing profiles most tests)
          → Found profiles most (l ∷ tests) (or_first (option_map (λ (power : ℕ). (id_of l, power)) o) (first_passing profiles most tests))
      by None none rest = later none (first_passing profiles most tests) rest
      by (Some power) passes rest = found_here power l tests passes

module _ (soc : SocValue) (limits : LimitsValue) where
  is_first : (most : ℕ) (test : TestId) (power : ℕ) → limits.power ≡ Some most → IsFound limits.profiles most (live_tests soc) test power → IsFirstPassing soc limits test power
  is_first most test power limit f = record { most = most; limit = limit; place = f.place; live = f.live; there = f.there; named = f.named; passes = f.passes; earlier = f.earlier }

  -- under a limit
  pub passes_under : (most : ℕ) (o : Option (TestId × ℕ)) → limits.power ≡ Some most → o ≡ first_passing limits.profiles most (live_tests soc)
      → MatchOption o (NonePasses soc limits) (λ found. IsFirstPassing soc limits found.0 found.1)
  passes_under most o limit is = by o (subst (λ (o : Option (TestId × ℕ)). Found limits.profiles most (live_tests soc) o) (sym is) (found_in limits.profiles most (live_tests soc)))
    where
      by : (o : Option (TestId × ℕ)) → Found limits.profiles most (live_tests soc) o → MatchOption o (NonePasses soc limits) (λ found. IsFirstPassing soc limits found.0 found.1)
      by None none = subst (λ (o : Option ℕ). IfSome o (λ most. NonePass limits.profiles most (live_tests soc))) (sym limit) none
      by (Some found) f = is_first most found.0 found.1 limit f

  -- without a limit
  pub passes_free : limits.power ≡ None → NonePasses soc limits
  passes_free free = subst (λ (o : Option ℕ). IfSome o (λ most. NonePass limits.profiles most (live_tests soc))) (sym free) tt

  pub passes_or_not : NonePasses soc limits ⊎ ((test : TestId) × (power : ℕ) × IsFirstPassing soc limits test power)
  passes_or_not = by limits.power refl
    where
      under : (o : Option (TestId × ℕ)) → MatchOption o (NonePasses soc limits) (λ found. IsFirstPassing soc limits found.0 found.1)
          → NonePasses soc limits ⊎ ((test : TestId) × (power : ℕ) × IsFirstPassing soc limits test power)
      under None none = inl none
      under (Some found) first = inr (found.0, found.1, first)

      by : (o : Option ℕ) → limits.power ≡ o → NonePasses soc limits ⊎ ((test : TestId) × (power : ℕ) × IsFirstPassing soc limits test power)
      by None free = inl (passes_free free)
      by (Some most) limit = under (first_passing limits.profiles most (live_tests soc)) (passes_under most (first_passing limits.profiles most (live_tests soc)) limit refl)

-- ---- module by module

or_first_assoc : {X : Type 0} (a b c : Option X) → or_first (or_first a b) c ≡ or_first a (or_first b c)
or_first_assoc None b c = refl
or_first_assoc (Some x) b c = refl

module _ (profiles : List ProfileValue) (most : ℕ) where
  pub first_of_both : (a b : List LiveTest) → first_passing profiles most (a ++ b) ≡ or_first (first_passing profiles most a) (first_passing profiles most b)
  first_of_both [] b = refl
  first_of_both (l ∷ a) b = ap (or_first (passing profiles most l)) (first_of_both a b) ∙ sym (or_first_assoc (passing profiles most l) (first_passing profiles most a) (first_passing profiles most b))

  -- the places of modules change nothing
  of_tests : (base other : ℕ) (m : ModuleValue) (ts : List Test) → first_passing profiles most (map (live_at base m) ts) ≡ first_passing profiles most (map (live_at other m) ts)
  of_tests base other m [] = refl
  of_tests base other m (t ∷ ts) = ap (or_first (passing profiles most (live_at base m t))) (of_tests base other m ts)

  of_modules : (base other : ℕ) (ms : List ModuleValue) → first_passing profiles most (live_from base ms) ≡ first_passing profiles most (live_from other ms)
  unfolding live_from
  of_modules base other [] = refl
  of_modules base other (m ∷ ms) =
      first_of_both (live_of base m) (live_from (base + 1) ms)
      ∙ ap (λ o. or_first o (first_passing profiles most (live_from (base + 1) ms))) (of_tests base other m (filter is_live m.tests))
      ∙ ap (or_first (first_passing profiles most (live_of other m))) (of_modules (base + 1) (other + 1) ms)
      ∙ sym (first_of_both (live_of other m) (live_from (other + 1) ms))

-- what the first module gives
module_first : (profiles : List ProfileValue) (most : ℕ) (m : ModuleValue) (rest : List ModuleValue)
    → first_passing profiles most (live_from 0 (m ∷ rest)) ≡ or_first (first_passing profiles most (live_of 0 m)) (first_passing profiles most (live_from 0 rest))
unfolding live_from
module_first profiles most m rest =
    first_of_both profiles most (live_of 0 m) (live_from (0 + 1) rest) ∙ ap (or_first (first_passing profiles most (live_of 0 m))) (of_modules profiles most (0 + 1) 0 rest)

module _ (profiles : List ProfileValue) (most : ℕ) (m : ModuleValue) (rest left : List ModuleValue) (r : Option (TestId × ℕ)) where
  pub module_passes : (found : TestId × ℕ) (whole : Option (TestId × ℕ)) → left ≡ m ∷ rest → r ≡ first_passing profiles most (live_of 0 m) → r ≡ Some found
      → first_passing profiles most (live_from 0 left) ≡ whole → Some found ≡ whole
  module_passes found whole goes is some before =
      ap (λ o. or_first o (first_passing profiles most (live_from 0 rest))) (sym some ∙ is) ∙ sym (module_first profiles most m rest) ∙ ap (λ ms. first_passing profiles most (live_from 0 ms)) (sym goes) ∙ before

  pub module_passes_not : (whole : Option (TestId × ℕ)) → left ≡ m ∷ rest → r ≡ first_passing profiles most (live_of 0 m) → r ≡ None
      → first_passing profiles most (live_from 0 left) ≡ whole → first_passing profiles most (live_from 0 rest) ≡ whole
  module_passes_not whole goes is none before =
      ap (λ o. or_first o (first_passing profiles most (live_from 0 rest))) (sym none ∙ is) ∙ sym (module_first profiles most m rest) ∙ ap (λ ms. first_passing profiles most (live_from 0 ms)) (sym goes) ∙ before

pub no_module_passes : (profiles : List ProfileValue) (most : ℕ) (left : List ModuleValue) (whole : Option (TestId × ℕ)) → left ≡ [] → first_passing profiles most (live_from 0 left) ≡ whole → None ≡ whole
unfolding live_from
no_module_passes profiles most left whole none before = ap (λ ms. first_passing profiles most (live_from 0 ms)) (sym none) ∙ before

-- ---- test by test

module _ (profiles : List ProfileValue) (most place : ℕ) (m : ModuleValue) where
  -- a live test that doesn't pass is left behind
  left_behind : (tests : List Test) (i : ℕ) (d : Test) (whole : Option (TestId × ℕ)) → i < length tests → is_live (get_or tests i d) ≡ true
      → passing profiles most (live_at place m (get_or tests i d)) ≡ None
      → whole ≡ first_passing profiles most (map (live_at place m) (filter is_live (drop i tests)))
      → whole ≡ first_passing profiles most (map (live_at place m) (filter is_live (drop (i + 1) tests)))
  left_behind tests i d whole within live none before =
      let next : suc i ≡ i + 1 = omega arith in
      let goes : drop i tests ≡ get_or tests i d ∷ drop (i + 1) tests = drop-cons tests i d within ∙ ap (λ n. get_or tests i d ∷ drop n tests) next in
      let kept : filter is_live (get_or tests i d ∷ drop (i + 1) tests) ≡ get_or tests i d ∷ filter is_live (drop (i + 1) tests) = rw live refl in
      before ∙ ap (λ l. first_passing profiles most (map (live_at place m) (filter is_live l))) goes ∙ ap (λ l. first_passing profiles most (map (live_at place m) l)) kept
      ∙ ap (λ o. or_first o (first_passing profiles most (map (live_at place m) (filter is_live (drop (i + 1) tests))))) none

  pub test_passes_not : (items tests : List Test) (i : ℕ) (d : Test) (whole : Option (TestId × ℕ)) → items ≡ tests → i < length items
      → is_live (get_or items i d) ≡ true → passing profiles most (live_at place m (get_or items i d)) ≡ None
      → whole ≡ first_passing profiles most (map (live_at place m) (filter is_live (drop i tests)))
      → whole ≡ first_passing profiles most (map (live_at place m) (filter is_live (drop (i + 1) tests)))
  test_passes_not items tests i d whole same within live none before =
      subst (λ (l : List Test). whole ≡ first_passing profiles most (map (live_at place m) (filter is_live (drop (i + 1) l)))) same
      (left_behind items i d whole within live none (subst (λ (l : List Test). whole ≡ first_passing profiles most (map (live_at place m) (filter is_live (drop i l)))) (sym same) before))
