-- Sums over lists, modules and ranks, and the slot of a module in a plan.
use Rattle.std.proofs.Common.{◌≡◌, ℕ, zero, suc, ◌+◌, ◌-◌, ◌*◌, ◌≤◌, ◌<◌, Bool, true, false, Option, Some, None, List, [], ◌∷◌, length, refl, ap, ◌∙◌, arith, inl, inr, mul-add, add-mul, mul_left_comm, mul-le-mul_left, subst, slice_get, slice_index, nat_eq, ◌&&◌, if◌then◌else◌, nat_lt, sum, sum_by}
use Rattle.std.proofs.lemmas.Bool.{cases_lt, lt-ltb, le-ltb}
use Rattle.std.proofs.lemmas.List.Sums.{sum_by-cons}
use Rattle.soc_model.specs.Chips.{SocValue, LiveTest, live_tests}
use Rattle.plan_model.specs.Bounds.{sum_below, is_of}
use Rattle.plan_model.specs.Certificates.{on}
use Rattle.plan_model.proofs.Sums.{sum_by-le_at, sum_by-times}
use Rattle.plan_model.proofs.SumsOverCycles.{sum_below-add, sum_below-sum_by, sum_below-le_by, sum_below-zero, indicator-le, le-indicator}
use Rattle.plan_model.specs.Proofs.{ListValue, WeightsValue}
use Rattle.leaf_bounds.specs.Cases.{Case, low_at, spare, known_ranks, interval}
use Rattle.leaf_bounds.specs.Leaves.{rank_weight, weighed, slot, rest_high}
use Rattle.bus_proofs.proofs.Intervals.{AreLows, beyond_lows, Fits, AreHighs, Falls, falls_far, term-le, lows-le}
use Rattle.leaf_bounds.proofs.PackSteps.{sum_below-first}
use Rattle.std.proofs.lemmas.List.{get_or_past}
use Rattle.leaf_bounds.proofs.WeighedSums.{HasSlot, by_weight, of_known, of_rest, weighed-add}

-- over the tests of a module that are over the wires, and over all such tests
abbrev pub on_module : (p : ℕ) → (LiveTest → ℕ) → LiveTest → ℕ
on_module p t l = if l.test.tam && is_of p l then t l else 0

abbrev pub on_wires : (LiveTest → ℕ) → LiveTest → ℕ
on_wires t l = if l.test.tam then t l else 0

abbrev pub of_module : SocValue → (p : ℕ) → (LiveTest → ℕ) → ℕ
of_module soc p t = sum_by (on_module p t) (live_tests soc)

abbrev pub of_wires : SocValue → (LiveTest → ℕ) → ℕ
of_wires soc t = sum_by (on_wires t) (live_tests soc)

-- ==== sums over the lists that a leaf weighs, over modules and over ranks

-- ---- weighed lists

on-times : (f : ListValue → ℕ) (k : ℕ) (o : Option ListValue) → on o (λ x. k * f x) ≡ k * on o f
on-times f k None = omega arith
on-times f k (Some x) = refl

module _ (lists : List ListValue) where
  by_weight-times : (os : List (ℕ × ℕ)) (k : ℕ) (f : ListValue → ℕ) → by_weight lists os (λ x. k * f x) ≡ k * by_weight lists os f
  by_weight-times [] k f = omega arith
  by_weight-times (o ∷ os) k f =
      let here = ap (λ v. o.1 * v) (on-times f k (slice_get lists o.0)) ∙ mul_left_comm o.1 k (on (slice_get lists o.0) f) in
      let product = mul-add k (o.1 * on (slice_get lists o.0) f) (by_weight lists os f) in
      let all = ap (λ v. k * v) (sum_by-cons (λ (o : ℕ × ℕ). o.1 * on (slice_get lists o.0) f) o os) in
      omega (arith, here, product, all, by_weight-times os k f, sum_by-cons (λ (o : ℕ × ℕ). o.1 * on (slice_get lists o.0) (λ x. k * f x)) o os)

  pub weighed-times : (weights : WeightsValue) (k : ℕ) (f : ListValue → ℕ) → weighed lists weights (λ x. k * f x) ≡ k * weighed lists weights f
  weighed-times weights k f = by_weight-times weights.lists k f

  -- summed over numbers
  pub weighed-below : (weights : WeightsValue) (f : ℕ → ListValue → ℕ) (n : ℕ) →
      sum_below (λ p. weighed lists weights (f p)) n ≤ weighed lists weights (λ list. sum_below (λ p. f p list) n)
  unfolding sum_below
  weighed-below weights f zero = omega arith
  weighed-below weights f (suc n) = omega (arith, weighed-below weights f n, weighed-add lists weights (λ list. sum_below (λ p. f p list) n) (f n))

-- ---- by modules

-- what is summed over modules is that of all tests over the wires
pub by_module : (g : LiveTest → ℕ) (ls : List LiveTest) (n : ℕ) → sum_below (λ p. sum_by (λ l. if l.test.tam && is_of p l then g l else 0) ls) n ≤ sum_by (λ l. if l.test.tam then g l else 0) ls
by_module g ls n =
    let swap : sum_below (λ p. sum_by (λ l. if l.test.tam && is_of p l then g l else 0) ls) n ≡ sum_by (λ l. sum_below (λ p. if l.test.tam && is_of p l then g l else 0) n) ls = sum_below-sum_by (λ l p. if l.test.tam && is_of p l then g l else 0) ls n in
    omega (arith, swap, sum_by-le_at (λ l. sum_below (λ p. if l.test.tam && is_of p l then g l else 0) n) (λ l. if l.test.tam then g l else 0) ls (λ i l at. each l.test.tam l))
  where
    each : (tam : Bool) (l : LiveTest) → sum_below (λ p. if tam && is_of p l then g l else 0) n ≤ (if tam then g l else 0)
    each true l = indicator-le (λ p. g l) l.place n
    each false l = rw (sum_below-zero n) (omega arith)

-- ---- by ranks

scaled : (f : ℕ → ℕ) (m n : ℕ) → sum_below (λ k. f k * m) n ≡ sum_below f n * m
unfolding sum_below
scaled f m zero = omega arith
scaled f m (suc n) =
    omega (arith, scaled f m n, add-mul (sum_below f n) (f n) m)

-- where the tests over the wires of each rank take at most `n` cycles, all of them at the rates of their ranks take no more than
-- `n` cycles at the rates of all ranks together
pub by_rank : (rate : ℕ → ℕ) (rk time : LiveTest → ℕ) (ls : List LiveTest) (top n : ℕ) → ((i : ℕ) (l : LiveTest) → slice_get ls i ≡ Some l → l.test.tam ≡ true → rk l < top) →
    ((k : ℕ) → sum_by (λ l. if l.test.tam && nat_eq (rk l) k then time l else 0) ls ≤ n) → sum_by (λ l. if l.test.tam then rate (rk l) * time l else 0) ls ≤ sum_below rate top * n
by_rank rate rk time ls top n below few =
    let parted : sum_by (λ l. if l.test.tam then rate (rk l) * time l else 0) ls ≤ sum_by (λ l. sum_below (λ k. if l.test.tam && nat_eq (rk l) k then rate k * time l else 0) top) ls =
    sum_by-le_at (λ l. if l.test.tam then rate (rk l) * time l else 0) (λ l. sum_below (λ k. if l.test.tam && nat_eq (rk l) k then rate k * time l else 0) top) ls (λ i l at. each l.test.tam l (below i l at)) in
    let swap : sum_below (λ k. sum_by (λ l. if l.test.tam && nat_eq (rk l) k then rate k * time l else 0) ls) top ≡ sum_by (λ l. sum_below (λ k. if l.test.tam && nat_eq (rk l) k then rate k * time l else 0) top) ls =
    sum_below-sum_by (λ l k. if l.test.tam && nat_eq (rk l) k then rate k * time l else 0) ls top in
    let loads : sum_below (λ k. sum_by (λ l. if l.test.tam && nat_eq (rk l) k then rate k * time l else 0) ls) top ≤ sum_below (λ k. rate k * n) top =
    sum_below-le_by (λ k. sum_by (λ l. if l.test.tam && nat_eq (rk l) k then rate k * time l else 0) ls) (λ k. rate k * n) top (λ k less. load k) in
    omega (arith, parted, swap, loads, scaled rate n top)
  where
    each : (tam : Bool) (l : LiveTest) → (tam ≡ true → rk l < top) → (if tam then rate (rk l) * time l else 0) ≤ sum_below (λ k. if tam && nat_eq (rk l) k then rate k * time l else 0) top
    each true l within = le-indicator (λ k. rate k * time l) (rk l) top (within refl)
    each false l within = omega arith

    load : (k : ℕ) → sum_by (λ l. if l.test.tam && nat_eq (rk l) k then rate k * time l else 0) ls ≤ rate k * n
    load k =
        omega (arith, sum_by-times (λ (l : LiveTest). l.test.tam && nat_eq (rk l) k) time (rate k) ls, mul-le-mul_left (rate k) (few k))

-- ---- the rates of ranks

-- the rate of a cycle on the bus of a rank, where the widths of ranks are `f`
abbrev pub rate_of : (ℕ → ℕ) → Case → WeightsValue → ℕ → ℕ
rate_of f c weights rank = rank_weight weights rank + weights.wire * (f rank - low_at c rank)

sum_of_indices : (ws : List ℕ) (n : ℕ) → sum_below (slice_index ws) n ≤ sum ws
unfolding sum_below
sum_of_indices ws zero = omega arith
sum_of_indices [] (suc n) = omega (arith, sum_of_indices [] n)
sum_of_indices (x ∷ ws) (suc n) = omega (arith, sum_below-first (slice_index (x ∷ ws)) n, sum_of_indices ws n, sum_by-cons (λ x. x) x ws)

times_below : (f : ℕ → ℕ) (k n : ℕ) → sum_below (λ r. k * f r) n ≡ k * sum_below f n
unfolding sum_below
times_below f k zero = omega arith
times_below f k (suc n) = omega (arith, times_below f k n, mul-add k (sum_below f n) (f n))

pub rates-le : {w : ℕ} {f : ℕ → ℕ} (c : Case) (weights : WeightsValue) (n : ℕ) → AreLows c.intervals f → Fits f w → length c.intervals ≤ n →
    sum_below (rate_of f c weights) n ≤ sum weights.ranks + weights.wire * spare w c.intervals
rates-le {w} {f} c weights n lows fits long =
    let split = sum_below-add (rank_weight weights) (λ r. weights.wire * (f r - low_at c r)) n in
    let product = times_below (λ r. f r - low_at c r) weights.wire n in
    let few : sum_below (λ r. f r - low_at c r) n ≤ spare w c.intervals = omega (arith, beyond_lows c.intervals f n long lows, fits n) in
    omega (arith, split, product, mul-le-mul_left weights.wire few, sum_of_indices weights.ranks n)

-- ==== in a plan each module with a test over the wires is on one of its slots

-- a rank, where the case speaks of it
abbrev pub known_rank : (known rank : ℕ) → Option ℕ
known_rank known rank = if nat_lt rank known then Some rank else None

none_below : (f : ℕ → ℕ) → sum_below f 0 ≡ 0
unfolding sum_below
none_below f = refl

-- a width beside those of earlier ranks
beside : (f : ℕ → ℕ) (n k : ℕ) → n ≤ k → f k + sum_below f n ≤ sum_below f (suc k)
beside f zero k h = omega (arith, term-le f (suc k) k (omega arith), none_below f)
beside f (suc n) zero h = absurd (omega arith)
beside f (suc n) (suc k) h = omega (arith, beside (λ j. f (suc j)) n k (omega arith), sum_below-first f n, sum_below-first f (suc k))

module _ {w : ℕ} {f : ℕ → ℕ} (c : Case) where
  -- a bus of the rest is within its bound
  pub rest_fits : (r : ℕ) → Falls f → Fits f w → AreLows c.intervals f → AreHighs c.intervals f → known_ranks c ≤ r → f r ≤ rest_high w c (known_ranks c)
  rest_fits r falls fits lows highs rest = go (known_ranks c) refl
    where
      go : (known : ℕ) → known_ranks c ≡ known → f r ≤ rest_high w c known
      go zero e =
          let one = term-le f (suc r) r (omega arith) in
          let all = fits (suc r) in
          omega arith
      go (suc last) e =
          let above = falls_far f falls last r (omega arith) in
          let high = highs last (omega arith) in
          let least = lows-le c.intervals f lows in
          let both : f r + sum_below f (known_ranks c) ≤ w = omega (arith, beside f (known_ranks c) r rest, fits (suc r)) in
          omega arith

  -- the slot of a module that is on a rank
  pub slot_there : (weights : WeightsValue) (p r : ℕ) → Falls f → Fits f w → AreLows c.intervals f → AreHighs c.intervals f → length weights.ranks ≤ known_ranks c →
      1 ≤ f r → (r < known_ranks c → c.may p r ≡ true) → (known_ranks c ≤ r → c.may_rest p ≡ true) →
      HasSlot w c weights p (slot (known_rank (known_ranks c) r) (f r) (rate_of f c weights r))
  slot_there weights p r falls fits lows highs few some may may_rest = elim (cases_lt r (known_ranks c)) [
    | inl known ↦ rw (lt-ltb r (known_ranks c) known) (of_known w c weights p r (f r) known (may known) some (lows r known) (highs r known))
    | inr rest ↦
        let low : low_at c r ≡ 0 = ap (λ i. i.low) (get_or_past c.intervals r (interval 0 0) rest) in
        let wires : f r - low_at c r ≡ f r = omega arith in
        let rate : weights.wire * f r ≡ rate_of f c weights r = rw ((get_or_past weights.ranks r 0 (omega arith)), wires) (omega arith) in
        rw (le-ltb r (known_ranks c) rest) (subst (λ v. HasSlot w c weights p (slot None (f r) v)) rate (of_rest w c weights p (f r) (may_rest rest) some (rest_fits r falls fits lows highs rest)))
  ]
