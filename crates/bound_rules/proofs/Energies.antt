-- Power added up over cycles, by the steps of profiles.
use Rattle.std.proofs.Common.{◌≡◌, ℕ, zero, suc, ◌+◌, ◌-◌, ◌*◌, ◌≤◌, ◌<◌, ◌^◌, true, List, [], ◌∷◌, length, get_or, drop, take, refl, sym, ap, ◌∙◌, arith, drop-cons, inl, inr, add-one}
use Rattle.std.specs.Prelude.{if◌then◌else◌, min}
use Rattle.std.specs.List.{sum_by}
use Rattle.std.proofs.lemmas.Bool.{cases_lt, le-leb, lt-leb}
use Rattle.std.proofs.lemmas.List.{drop_all}
use Rattle.std.proofs.lemmas.List.Elements.{All-get_or}
use Rattle.std.proofs.Math.Nat.{mul-le-mul_right}
use Rattle.std.specs.Prelude.{slice_get, Option, None, Some}
use Rattle.std.specs.Option.{unwrap_or}
use Rattle.std.proofs.lemmas.List.Sums.{sum_by-cons, sum_by-append, sum_by_more_le}
use Rattle.std.proofs.lemmas.Option.{slice_get_within, get_or_from_slice_get, same_Some}
use Rattle.soc_model.specs.declared.Test.{Test}
use Rattle.soc_model.specs.Chips.{ModuleValue, SocValue, LiveTest, is_live, live_of, live_from, live_tests, id_of}
use Rattle.soc_model.specs.Sizes.{test_work, work}
use Rattle.soc_model.specs.SoundChips.{IsSoundChip}
use Rattle.soc_model.proofs.Limits.{work-le}
use Rattle.plan_model.specs.SoundLimits.{IsSoundLimits, IsSoundProfile, Grow}
use Rattle.plan_model.proofs.SoundChips.{module_size-le}
use Rattle.plan_model.proofs.PlannedTests.{IsLive, live_at}
use Rattle.plan_model.proofs.Lists.{from_filter}
use Rattle.plan_model.proofs.Sums.{sum_by-le_at}
use Rattle.bound_rules.specs.declared.sizes.Sizes.{Sizes}
use Rattle.bound_rules.specs.Sizes.{sizes_of}
use Rattle.bound_rules.specs.Energy.{energy_of, energies}
use Rattle.bound_rules.proofs.Works.{time_by-le, live_patterns}
use Rattle.bound_rules.proofs.Modules.{the_live, sum_of_module, time_by_sizes, work_by_sizes, fitting_sizes}
use Rattle.plan_model.proofs.SumsOverCycles.{sum_below-le}
use Rattle.plan_model.specs.Plans.{ProfileValue, LimitsValue, step_power, power_of_id}
use Rattle.plan_model.specs.Bounds.{sum_below, lower, least_energy, quotient_up, power_bound}
use Rattle.common_lemmas.proofs.Lists.{sums_agree}

pub sum_below-next : (f : ℕ → ℕ) (n : ℕ) → sum_below f (suc n) ≡ sum_below f n + f n
unfolding sum_below
sum_below-next f n = refl

pub sum_below-none : (f : ℕ → ℕ) → sum_below f 0 ≡ 0
unfolding sum_below
sum_below-none f = refl

-- a stretch of one value
pub stretch : (f : ℕ → ℕ) (k a b : ℕ) → a ≤ b → ((r : ℕ) → a ≤ r → r < b → f r ≡ k) → sum_below f b ≡ sum_below f a + k * (b - a)
stretch f k a zero less same = let here : a ≡ 0 = omega arith in rw here (omega arith)
stretch f k a (suc b) less same = elim (cases_lt b a) [
  | inl all ↦
      let here : a ≡ suc b = omega arith in
      let none : suc b - suc b ≡ 0 = omega arith in
      rw (here, none) (omega arith)
  | inr within ↦
      let ih : sum_below f b ≡ sum_below f a + k * (b - a) = stretch f k a b within (λ r x y. same r x (omega arith)) in
      let last : f b ≡ k = same b within (omega arith) in
      let product : k * (suc b - a) ≡ k * (b - a) + k = let n : suc b - a ≡ (b - a) + 1 = omega arith in rw n (omega arith) in
      sum_below-next f b ∙ omega arith
]

-- before its steps begin, the power is that from before
pub before_steps : (r now : ℕ) (steps : List (ℕ × ℕ)) (from : ℕ) → r < from → Grow from steps → step_power r now steps ≡ now
before_steps r now [] from less grow = refl
before_steps r now (s ∷ steps) from less grow = rw (lt-leb s.0 r (omega (arith, grow.0))) (before_steps r now steps (s.0 + 1) (omega (arith, grow.0)) grow.1)

pub grow-less : (from lower : ℕ) (steps : List (ℕ × ℕ)) → lower ≤ from → Grow from steps → Grow lower steps
grow-less from lower [] less grow = tt
grow-less from lower (s ∷ steps) less grow = (omega (arith, grow.0), grow.1)

-- What `f` says of a power is added up for the steps before the one at `i`, over the cycles below `begun`, to at most `most` a
-- cycle; from there on the power is `power`, until that step begins.
pub record Added (f : ℕ → ℕ) (most : ℕ) (steps : List (ℕ × ℕ)) (n i begun power sum : ℕ) : Type 0 where
  pub sum_is : sum ≡ sum_below (λ r. f (step_power r 0 steps)) begun
  pub within : begun ≤ n
  pub grow : Grow begun (drop i steps)
  pub rest : (r : ℕ) → begun ≤ r → r < n → step_power r 0 steps ≡ step_power r power (drop i steps)
  pub few : sum ≤ most * begun

pub none_added : (f : ℕ → ℕ) (most : ℕ) (steps : List (ℕ × ℕ)) (n : ℕ) → Grow 0 steps → Added f most steps n 0 0 0 0
none_added f most steps n grow = record { sum_is = sym (sum_below-none (λ r. f (step_power r 0 steps))); within = omega arith; grow = grow; rest = λ r a b. refl; few = omega arith }

few-more : (k power d begun sum : ℕ) → power * d ≤ k * d → sum ≤ k * begun → sum + power * d ≤ k * (begun + d)
few-more k power d begun sum few so_far =
    let split : k * (begun + d) ≡ k * begun + k * d = omega arith in
    omega arith

begins : (r : ℕ) (now : ℕ) (s : ℕ × ℕ) (steps : List (ℕ × ℕ)) → s.0 ≤ r → step_power r now (s ∷ steps) ≡ step_power r s.1 steps
begins r now s steps h = rw (le-leb s.0 r h) refl

pub next_added : (f : ℕ → ℕ) (most : ℕ) (steps : List (ℕ × ℕ)) (n i begun power sum : ℕ) (d : ℕ × ℕ) → i < length steps → f power * (min n (get_or steps i d).0 - begun) ≤ most * (min n (get_or steps i d).0 - begun) → Added f most steps n i begun power sum →
    Added f most steps n (i + 1) (min n (get_or steps i d).0) (get_or steps i d).1 (sum + f power * (min n (get_or steps i d).0 - begun))
next_added f most steps n i begun power sum d h few so_far =
    let cut : drop i steps ≡ get_or steps i d ∷ drop (suc i) steps = drop-cons steps i d h in
    let grow = rw cut at so_far.grow in
    let less : begun ≤ (get_or steps i d).0 = grow.0 in
    let within : begun ≤ n = so_far.within in
    let flat : (r : ℕ) → begun ≤ r → r < min n (get_or steps i d).0 → f (step_power r 0 steps) ≡ f power =
    λ r a b. ap f (so_far.rest r a (omega arith) ∙ before_steps r power (drop i steps) (r + 1) (omega arith) (grow-from r b so_far.grow cut)) in
    let total : sum_below (λ r. f (step_power r 0 steps)) (min n (get_or steps i d).0) ≡ sum_below (λ r. f (step_power r 0 steps)) begun + f power * (min n (get_or steps i d).0 - begun) =
    stretch (λ r. f (step_power r 0 steps)) (f power) begun (min n (get_or steps i d).0) (omega arith) flat in
    let up : begun + (min n (get_or steps i d).0 - begun) ≡ min n (get_or steps i d).0 = omega arith in
    let more : sum + f power * (min n (get_or steps i d).0 - begun) ≤ most * (begun + (min n (get_or steps i d).0 - begun)) = few-more most (f power) (min n (get_or steps i d).0 - begun) begun sum few so_far.few in
    record {
      sum_is = omega (arith, so_far.sum_is, total);
      within = omega arith;
      grow = rw add-one (grow-less ((get_or steps i d).0 + 1) (min n (get_or steps i d).0) (drop (suc i) steps) (omega arith) grow.1);
      rest = λ r a b. rw add-one (so_far.rest r (omega arith) b ∙ rw cut (begins r power (get_or steps i d) (drop (suc i) steps) (omega arith)));
      few = rw up at more;
    }
  where
    grow-from : (r : ℕ) → r < min n (get_or steps i d).0 → Grow begun (drop i steps) → drop i steps ≡ get_or steps i d ∷ drop (suc i) steps → Grow (r + 1) (drop i steps)
    grow-from r b grow cut =
        let g = rw cut at grow in
        rw cut (omega arith, g.1)

pub all_added : (f : ℕ → ℕ) (most : ℕ) (steps : List (ℕ × ℕ)) (n i begun power sum : ℕ) → length steps ≤ i → Added f most steps n i begun power sum → sum + f power * (n - begun) ≡ sum_below (λ r. f (step_power r 0 steps)) n
all_added f most steps n i begun power sum all so_far =
    let none : drop i steps ≡ [] = drop_all i steps all in
    let total : sum_below (λ r. f (step_power r 0 steps)) n ≡ sum_below (λ r. f (step_power r 0 steps)) begun + f power * (n - begun) =
    stretch (λ r. f (step_power r 0 steps)) (f power) begun n so_far.within (λ r a b. ap f (so_far.rest r a b ∙ rw none refl)) in
    omega (arith, so_far.sum_is)

-- ---- the energy of a test, by its profile or its own power

pub own_energy : (own n : ℕ) → sum_below (λ r. own) n ≡ own * n
own_energy own n =
    let whole : n - 0 ≡ n = omega arith in
    let total = rw whole at (stretch (λ r. own) own 0 n (omega arith) (λ r a b. refl)) in
    omega (arith, total, sum_below-none (λ r. own))

pub energy-le : (f : ℕ → ℕ) (most n : ℕ) → ((r : ℕ) → f r ≤ most) → sum_below f n ≤ n * most
energy-le f most n h = sum_below-le f most n (λ c l. h c)

pub next_energy : (c : Sizes) (number : ℕ) (profiles : List ProfileValue) (w : ℕ) (ts : List Test) (i : ℕ) (d : Test) → i < length ts → is_live (get_or ts i d) ≡ true →
    energies c number profiles w (take i ts) + energy_of c number profiles w (get_or ts i d) ≤ energies c number profiles w ts
next_energy c number profiles w ts i d h yes' =
    let more = sum_by_more_le (λ t. if is_live t then energy_of c number profiles w t else 0) ts i d h in
    rw yes' at more

-- ---- the energy of all live tests, module by module

abbrev pub energy_at_least : LimitsValue → LiveTest → ℕ
energy_at_least limits l = sum_below (power_of_id limits (id_of l) l.test.power) (lower limits.wires l)

pub energies_are : (limits : LimitsValue) (p : ℕ) (m : ModuleValue) → energies (sizes_of m) m.number limits.profiles limits.wires m.tests ≡ sum_by (energy_at_least limits) (live_of p m)
energies_are limits p m = sym (sum_of_module (energy_at_least limits) p m ∙ sums_agree (λ t. if is_live t then energy_at_least limits (the_live p m t) else 0) (λ t. if is_live t then energy_of (sizes_of m) m.number limits.profiles limits.wires t else 0) m.tests each)
  where
    each : (t : Test) → (if is_live t then energy_at_least limits (the_live p m t) else 0) ≡ (if is_live t then energy_of (sizes_of m) m.number limits.profiles limits.wires t else 0)
    each t = rw (← time_by_sizes m t limits.wires) refl

pub rest_energy : (limits : LimitsValue) (ms : List ModuleValue) (p : ℕ) (m : ModuleValue) → slice_get ms p ≡ Some m →
    sum_by (energy_at_least limits) (live_from p (drop p ms)) ≡ energies (sizes_of m) m.number limits.profiles limits.wires m.tests + sum_by (energy_at_least limits) (live_from (p + 1) (drop (p + 1) ms))
unfolding live_from
rest_energy limits ms p m at =
    let there : get_or ms p m ≡ m = get_or_from_slice_get ms p m m at in
    let cut : drop p ms ≡ m ∷ drop (suc p) ms = drop-cons ms p m (slice_get_within ms p m at) ∙ ap (λ x. x ∷ drop (suc p) ms) there in
    rw (cut, add-one) (sum_by-append (energy_at_least limits) (live_of p m) (live_from (suc p) (drop (suc p) ms)) ∙ ap (λ n. n + sum_by (energy_at_least limits) (live_from (suc p) (drop (suc p) ms))) (sym (energies_are limits p m)))

pub energy-fits : (soc : SocValue) (limits : LimitsValue) (most : ℕ) → IsSoundChip soc → 1 ≤ limits.wires →
    ((i : ℕ) (l : LiveTest) → slice_get (live_tests soc) i ≡ Some l → (r : ℕ) → power_of_id limits (id_of l) l.test.power r ≤ most) → least_energy soc limits ≤ 10 ^ 18 * most
energy-fits soc limits most sound some within =
    let each : sum_by (energy_at_least limits) (live_tests soc) ≤ sum_by (λ (l : LiveTest). test_work l.core l.test * most) (live_tests soc) = sum_by-le_at (energy_at_least limits) (λ (l : LiveTest). test_work l.core l.test * most) (live_tests soc) one in
    let out : sum_by (λ (l : LiveTest). test_work l.core l.test * most) (live_tests soc) ≡ work soc * most = sum_by-times_right (λ (l : LiveTest). test_work l.core l.test) most (live_tests soc) in
    let wide : work soc * most ≤ 10 ^ 18 * most = mul-le-mul_right most (work-le soc sound.size) in
    omega arith
  where
    sum_by-times_right : {X : Type 0} (f : X → ℕ) (k : ℕ) (xs : List X) → sum_by (λ x. f x * k) xs ≡ sum_by f xs * k
    sum_by-times_right f k [] = omega arith
    sum_by-times_right f k (x ∷ xs) =
        let ih : sum_by (λ x. f x * k) xs ≡ sum_by f xs * k = sum_by-times_right f k xs in
        let split : (f x + sum_by f xs) * k ≡ f x * k + sum_by f xs * k = omega arith in
        sum_by-cons (λ x. f x * k) x xs ∙ rw (sum_by-cons f x xs) (omega arith)

    one : (i : ℕ) (l : LiveTest) → slice_get (live_tests soc) i ≡ Some l → energy_at_least limits l ≤ test_work l.core l.test * most
    one i l at =
        let o : IsLive soc.modules 0 l = live_at soc.modules 0 i l at in
        let live : 1 ≤ l.test.patterns = live_patterns l.test ((from_filter is_live l.core.tests o.n l.test o.test_at).2) in
        let long : lower limits.wires l ≤ test_work l.core l.test = rw (← time_by_sizes l.core l.test limits.wires, ← work_by_sizes l.core l.test) (time_by-le (sizes_of l.core) l.test limits.wires some live (fitting_sizes l.core (module_size-le soc sound o.up l.core o.module_at))) in
        let few : energy_at_least limits l ≤ lower limits.wires l * most = energy-le (power_of_id limits (id_of l) l.test.power) most (lower limits.wires l) (λ r. within i l at r) in
        let wide : lower limits.wires l * most ≤ test_work l.core l.test * most = mul-le-mul_right most long in
        omega arith

pub no_rest : (limits : LimitsValue) (ms : List ModuleValue) (p base : ℕ) → length ms ≤ p → sum_by (energy_at_least limits) (live_from base (drop p ms)) ≡ 0
unfolding live_from
no_rest limits ms p base all = rw (drop_all p ms all) refl

-- where the limits allow a power of `most`: a bound of the least energy, and one of `most`
pub allowed-energy : (soc : SocValue) (limits : LimitsValue) (most : ℕ) → limits.power ≡ Some most → IsSoundChip soc → IsSoundLimits soc limits → (least_energy soc limits ≤ 10 ^ 18 * most) × (most ≤ 10 ^ 9)
allowed-energy soc limits most is sound limited =
    let few = rw is at limited.power in
    (energy-fits soc limits most sound limited.some_wire (λ i l at r. let w = rw is at (limited.within i l at r) in w), few)

-- the steps of sound limits grow
pub sound_steps : (soc : SocValue) (limits : LimitsValue) → IsSoundLimits soc limits → (i : ℕ) (p : ProfileValue) → slice_get limits.profiles i ≡ Some p → Grow 0 p.steps
sound_steps soc limits sound i p at =
    let profile : IsSoundProfile soc (get_or limits.profiles i p) = All-get_or (IsSoundProfile soc) limits.profiles i p (slice_get_within limits.profiles i p at) sound.profiles in
    let same : get_or limits.profiles i p ≡ p = get_or_from_slice_get limits.profiles i p p at in
    (rw same at profile).grows

-- ---- the power limit, or 0

pub some_power : (power : Option ℕ) (most : ℕ) → most ≡ unwrap_or power 0 → 1 ≤ most → power ≡ Some most
some_power None most is some = absurd (omega arith)
some_power (Some n) most is some = ap Some (sym is)

pub no_power : (soc : SocValue) (limits : LimitsValue) (power : Option ℕ) → unwrap_or power 0 ≡ 0 → power_bound soc limits power ≡ 0
no_power soc limits None is = refl
no_power soc limits (Some zero) is = refl
no_power soc limits (Some (suc n)) is = absurd (omega arith)

pub power_bound_is : (soc : SocValue) (limits : LimitsValue) (power : Option ℕ) (most : ℕ) → power ≡ Some most → 1 ≤ most → power_bound soc limits power ≡ quotient_up (least_energy soc limits) most
power_bound_is soc limits None most is some = absurd cc
power_bound_is soc limits (Some zero) most is some = let same : 0 ≡ most = same_Some 0 most is in absurd (omega arith)
power_bound_is soc limits (Some (suc n)) most is some = let same : suc n ≡ most = same_Some (suc n) most is in rw (← same) refl
