-- Times of lists of places: they are bounded, since no place stands twice.
use Rattle.std.proofs.Common.{◌≡◌, ℕ, zero, suc, ◌+◌, ◌*◌, ◌^◌, ◌<◌, ◌≤◌, ◌⊎◌, inl, inr, true, false, cond, List, [], ◌∷◌, get_or, All, sum_by, nat_eq, refl, sym, ◌∙◌, ap, arith}
use Rattle.std.proofs.lemmas.List.Sums.{sum_by-cons, get_or-le-sum_by}
use Rattle.std.proofs.lemmas.List.Elements.{All-head, All-tail}
use Rattle.plan_model.specs.Bounds.{sum_below}
use Rattle.plan_model.proofs.SumsOverCycles.{sum_below-same, sum_below-add, sum_below-le_by}
use Rattle.width_table.specs.Tables.{TableValue, IsTable, places_of, time_of, has_tam}
use Rattle.bus_model.specs.Buses.{places_time}
use Rattle.bus_model.specs.Sound.{times_listed, due}

-- 1 at x, 0 elsewhere
abbrev pub only_at : ℕ → ℕ → ℕ
only_at x p = cond (nat_eq x p) 1 0

pub only_at-same : (x : ℕ) → only_at x x ≡ 1
only_at-same x = grind arith

pub only_at-above : (x p : ℕ) → p < x → only_at x p ≡ 0
only_at-above x p less = grind arith

pub only_at-below : (x p : ℕ) → x < p → only_at x p ≡ 0
only_at-below x p less = grind arith

sum_below-none : (n x : ℕ) (f : ℕ → ℕ) → n ≤ x → sum_below (λ p. only_at x p * f p) n ≡ 0
unfolding sum_below
sum_below-none zero x f le = refl
sum_below-none (suc n) x f le =
    let e = sum_below-none n x f (omega arith) in
    let z = only_at-above x n (omega arith) in
    let k : only_at x n * f n ≡ 0 = ap (λ a. a * f n) z ∙ omega arith in
    omega arith

at_or_below : (x n : ℕ) → x < suc n → (x ≡ n) ⊎ (x < n)
at_or_below x n h = grind arith

sum_below-one : (n x : ℕ) (f : ℕ → ℕ) → x < n → sum_below (λ p. only_at x p * f p) n ≡ f x
unfolding sum_below
sum_below-one zero x f less = omega arith
sum_below-one (suc n) x f less =
    elim (at_or_below x n less) [
      | inl e ↦
          let z = sum_below-none n x f (omega arith) in
          let k : only_at x n * f n ≡ f x = ap (λ a. only_at x a * f a) (sym e) ∙ (ap (λ a. a * f x) (only_at-same x) ∙ omega arith) in
          omega arith
      | inr h ↦
          let e = sum_below-one n x f h in
          let z = only_at-below x n h in
          let k : only_at x n * f n ≡ 0 = ap (λ a. a * f n) z ∙ omega arith in
          omega arith
    ]

-- a sum over a list, place by place
pub sum_by-counts : (f : ℕ → ℕ) (n : ℕ) (xs : List ℕ) → All (λ p. p < n) xs → sum_by f xs ≡ sum_below (λ p. times_listed p xs * f p) n
unfolding sum_below
sum_by-counts f n [] low = sym (none n)
  where
    none : (m : ℕ) → sum_below (λ p. times_listed p [] * f p) m ≡ 0
    none zero = refl
    none (suc m) = let e = none m in omega arith
sum_by-counts f n (x ∷ xs) low =
    let rest = sum_by-counts f n xs (All-tail (λ p. p < n) x xs low) in
    let one = sum_below-one n x f (All-head (λ p. p < n) x xs low) in
    let both = sum_below-add (λ p. only_at x p * f p) (λ p. times_listed p xs * f p) n in
    let split = sum_below-same (λ p. times_listed p (x ∷ xs) * f p) (λ p. only_at x p * f p + times_listed p xs * f p) n
    (λ p _. ap (λ a. a * f p) (sum_by-cons (λ q. cond (nat_eq q p) 1 0) x xs) ∙ omega arith) in
    let head = sum_by-cons f x xs in
    omega arith

-- each listed place is in the chip
pub listed-in_range : (table : TableValue) (places : List ℕ) → IsTable table → ((p : ℕ) → times_listed p places ≤ due table p) → All (λ p. p < places_of table) places
listed-in_range table places laws listed k d h =
    laws.in_range (get_or places k d) (tam_at (get_or places k d)
    (let one = get_or-le-sum_by (λ q. cond (nat_eq q (get_or places k d)) 1 0) places k d h in
    let same = only_at-same (get_or places k d) in
    let most = listed (get_or places k d) in omega arith))
  where
    tam_at : (p : ℕ) → 1 ≤ due table p → has_tam table p ≡ true
    tam_at p some = elim (has_tam table p) as (λ b. 1 ≤ cond b 1 0 → b ≡ true) [ true ↦ λ _. refl | false ↦ λ h. absurd (omega arith) ] some

-- no width is slower than one wire
pub time_of-falls : (table : TableValue) (p width : ℕ) → IsTable table → 1 ≤ width → width ≤ table.wires → time_of table p width ≤ time_of table p 1
time_of-falls table p width laws some within = laws.falls p 1 width (omega arith) some

at_most_once : (t m a b : ℕ) → t ≤ m → m ≤ 1 → a ≤ b → t * a ≤ b
at_most_once zero m a b few one less = omega arith
at_most_once (suc zero) m a b few one less = omega arith
at_most_once (suc (suc t)) m a b few one less = absurd (omega arith)

pub due-one : (table : TableValue) (p : ℕ) → due table p ≤ 1
due-one table p = elim (has_tam table p) as (λ b. cond b 1 0 ≤ 1) [ true ↦ omega arith | false ↦ omega arith ]

-- the places of a sound bus take at most 10^18 cycles
pub places_time-bound : (table : TableValue) (width : ℕ) (places : List ℕ) → IsTable table → ((p : ℕ) → times_listed p places ≤ due table p) → 1 ≤ width → width ≤ table.wires → places_time table width places ≤ 10 ^ 18
places_time-bound table width places laws listed some within =
    let e = sum_by-counts (λ p. time_of table p width) (places_of table) places (listed-in_range table places laws listed) in
    let less = sum_below-le_by (λ p. times_listed p places * time_of table p width) (λ p. time_of table p 1) (places_of table)
    (λ p h. at_most_once (times_listed p places) (due table p) (time_of table p width) (time_of table p 1) (listed p) (due-one table p) (time_of-falls table p width laws some within)) in
    let most = laws.bounded in
    omega arith
