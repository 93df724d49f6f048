-- Averaging: what the boxes with more than `k` numbers show. It never grows with the wires, and is no more than all numbers together.
use Rattle.std.proofs.Common.{◌≡◌, ℕ, zero, suc, ◌+◌, ◌-◌, ◌*◌, ◌≤◌, ◌<◌, min, Bool, true, false, Some, List, [], ◌∷◌, map, length, get_or, take, drop, refl, ap, ◌∙◌, sym, arith, inl, inr, eqb, ltb}
use Rattle.std.specs.Prelude.{slice_get, if◌then◌else◌}
use Rattle.std.specs.List.{sum, sum_by, range_with_len}
use Rattle.std.proofs.lemmas.Bool.{cases_Bool, cases_lt, eqb-true, ne_eqb, ltb-true, ltb-false, lt-ltb}
use Rattle.std.proofs.lemmas.Grind.{div_ceil_times}
use Rattle.std.proofs.lemmas.List.FromFn.{length-range_with_len, get_or-range_with_len}
use Rattle.std.proofs.lemmas.Option.{slice_get-get_or, slice_get_within}
use Rattle.std.proofs.lemmas.List.Sums.{sum_by-cons}
use Rattle.std.proofs.Math.Nat.{mul-le-mul_left, mul-le-mul_right}
use Rattle.plan_model.specs.Plans.{smallest}
use Rattle.plan_model.specs.Bounds.{sum_below, quotient_up, least_from_one}
use Rattle.plan_model.proofs.LowerTimes.{quotient_up-le}
use Rattle.plan_model.proofs.Sums.{one_if}
use Rattle.plan_model.proofs.SumsOverCycles.{sum_below-sum_by, sum_below-same}
use Rattle.proof_facts.specs.Packed.{rising, excess, share, least_share, averaging}
use Rattle.proof_facts.proofs.Rising.{Rises, rising-rises, length-rising, sum_by-rising, window-le, window-le-sum}
use Rattle.proof_facts.proofs.Crowds.{second, count_in, held, rising_pairs, map-rising, sum_by-rising_pairs, least_taken, counts-all, one_at_most}
use Rattle.proof_facts.proofs.FrontSums.{front_split}
use Rattle.proof_facts.proofs.Counting.{Boxed, within_at-le, within-least, place_within}

-- ---- boxes with more than `k`

-- how many of the first `m` have more than `k`
abbrev busy : (ℕ → ℕ) → (k m : ℕ) → ℕ
busy f k m = sum_below (λ b. one_if (ltb k (f b))) m

-- what these have beside `k` each
abbrev over : (ℕ → ℕ) → (k m : ℕ) → ℕ
over f k m = sum_below (λ b. f b - k) m

one-le-over : (k x : ℕ) → one_if (ltb k x) ≤ x - k
one-le-over k x = elim (cases_Bool (ltb k x)) [
  | inl yes' ↦ let more : k < x = ltb-true k x yes' in rw yes' (omega arith)
  | inr no' ↦ rw no' (omega arith)
]

busy-le-over : (f : ℕ → ℕ) (k m : ℕ) → busy f k m ≤ over f k m
unfolding sum_below
busy-le-over f k zero = omega arith
busy-le-over f k (suc m) = omega (arith, busy-le-over f k m, one-le-over k (f m))

all-le-over : (f : ℕ → ℕ) (k m : ℕ) → sum_below f m ≤ m * k + over f k m
unfolding sum_below
all-le-over f k zero = omega arith
all-le-over f k (suc m) =
    let product : suc m * k ≡ m * k + k = omega arith in
    omega (arith, all-le-over f k m)

-- so many boxes from the first on that those with more than `k` have `e` beside, and are no more than `e`
record Chosen (f : ℕ → ℕ) (k e n : ℕ) : Type 0 where
  m : ℕ
  within : m ≤ n
  few : busy f k m ≤ e
  enough : e ≤ over f k m

choose : (f : ℕ → ℕ) (k e n : ℕ) → e ≤ over f k n → Chosen f k e n
unfolding sum_below
choose f k e zero enough = record { m = 0; within = omega arith; few = omega arith; enough = enough }
choose f k e (suc n) enough = elim (cases_lt (over f k n) e) [
  | inl less ↦ record { m = suc n; within = omega arith; few = omega (arith, busy-le-over f k n, one_at_most (ltb k (f n))); enough = enough }
  | inr more ↦
      let c = choose f k e n more in
      record { m = c.m; within = omega (arith, c.within); few = c.few; enough = c.enough }
]

busy-le : (f : ℕ → ℕ) (k m : ℕ) → busy f k m ≤ m
unfolding sum_below
busy-le f k zero = omega arith
busy-le f k (suc m) = omega (arith, busy-le f k m, one_at_most (ltb k (f m)))

some_busy : (f : ℕ → ℕ) (k m : ℕ) → 1 ≤ over f k m → 1 ≤ busy f k m
unfolding sum_below
some_busy f k zero some = absurd (omega arith)
some_busy f k (suc m) some = elim (cases_lt k (f m)) [
  | inl more ↦ let one : one_if (ltb k (f m)) ≡ 1 = rw (lt-ltb k (f m) more) refl in omega arith
  | inr few ↦ omega (arith, some_busy f k m (omega arith))
]

-- ---- the numbers in these boxes

-- `x` where a pair is in one of the first `m` boxes that `g` takes
abbrev taken : (ℕ → ℕ) → (m b x : ℕ) → ℕ
taken g m b x = sum_below (λ c. if eqb b c then g c * x else 0) m

taken-past : (g : ℕ → ℕ) (m b x : ℕ) → m ≤ b → taken g m b x ≡ 0
unfolding sum_below
taken-past g zero b x past = refl
taken-past g (suc m) b x past =
    let ih : taken g m b x ≡ 0 = taken-past g m b x (omega arith) in
    let other : (if eqb b m then g m * x else 0) ≡ 0 = rw (ne_eqb b m (λ same. omega (arith, same))) refl in
    omega arith

taken-once : (g : ℕ → ℕ) (m b : ℕ) → ((c : ℕ) → g c ≤ 1) → taken g m b 1 ≤ 1
unfolding sum_below
taken-once g zero b one = omega arith
taken-once g (suc m) b one = elim (cases_Bool (eqb b m)) [
  | inl yes' ↦
      let same : b ≡ m = eqb-true b m yes' in
      let here : (if eqb b m then g m * 1 else 0) ≡ g m * 1 = rw yes' refl in
      omega (arith, taken-past g m b 1 (omega arith), one m)
  | inr no' ↦
      let other : (if eqb b m then g m * 1 else 0) ≡ 0 = rw no' refl in
      omega (arith, taken-once g m b one)
]

taken-times : (g : ℕ → ℕ) (m b x : ℕ) → taken g m b 1 * x ≡ taken g m b x
unfolding sum_below
taken-times g zero b x = omega arith
taken-times g (suc m) b x = elim (cases_Bool (eqb b m)) [
  | inl yes' ↦
      let ih : taken g m b 1 * x ≡ taken g m b x = taken-times g m b x in
      let product : (taken g m b 1 + g m * 1) * x ≡ taken g m b 1 * x + g m * x = omega arith in
      rw yes' (omega arith)
  | inr no' ↦
      let ih : taken g m b 1 * x ≡ taken g m b x = taken-times g m b x in
      let product : (taken g m b 1 + 0) * x ≡ taken g m b 1 * x = omega arith in
      rw no' (omega arith)
]

counted : (t b : ℕ) (ps : List (ℕ × ℕ)) → sum_by (λ (p : ℕ × ℕ). if eqb p.0 b then t * 1 else 0) ps ≡ t * count_in b ps
counted t b [] = omega arith
counted t b (p ∷ ps) =
    let ih : sum_by (λ (p : ℕ × ℕ). if eqb p.0 b then t * 1 else 0) ps ≡ t * count_in b ps = counted t b ps in
    let left : sum_by (λ (p : ℕ × ℕ). if eqb p.0 b then t * 1 else 0) (p ∷ ps) ≡ (if eqb p.0 b then t * 1 else 0) + sum_by (λ (p : ℕ × ℕ). if eqb p.0 b then t * 1 else 0) ps = sum_by-cons (λ (p : ℕ × ℕ). if eqb p.0 b then t * 1 else 0) p ps in
    let right : count_in b (p ∷ ps) ≡ one_if (eqb p.0 b) + count_in b ps = sum_by-cons (λ (p : ℕ × ℕ). one_if (eqb p.0 b)) p ps in
    let own : (if eqb p.0 b then t * 1 else 0) ≡ t * one_if (eqb p.0 b) = of (eqb p.0 b) in
    let product : t * (one_if (eqb p.0 b) + count_in b ps) ≡ t * one_if (eqb p.0 b) + t * count_in b ps = omega arith in
    rw right (omega arith)
  where
    of : (a : Bool) → (if a then t * 1 else 0) ≡ t * one_if a
    of true = refl
    of false = omega arith

weighed : (t b : ℕ) (ps : List (ℕ × ℕ)) → sum_by (λ (p : ℕ × ℕ). if eqb p.0 b then t * p.1 else 0) ps ≡ t * held b ps
weighed t b [] = omega arith
weighed t b (p ∷ ps) =
    let ih : sum_by (λ (p : ℕ × ℕ). if eqb p.0 b then t * p.1 else 0) ps ≡ t * held b ps = weighed t b ps in
    let left : sum_by (λ (p : ℕ × ℕ). if eqb p.0 b then t * p.1 else 0) (p ∷ ps) ≡ (if eqb p.0 b then t * p.1 else 0) + sum_by (λ (p : ℕ × ℕ). if eqb p.0 b then t * p.1 else 0) ps = sum_by-cons (λ (p : ℕ × ℕ). if eqb p.0 b then t * p.1 else 0) p ps in
    let right : held b (p ∷ ps) ≡ (if eqb p.0 b then p.1 else 0) + held b ps = sum_by-cons (λ (p : ℕ × ℕ). if eqb p.0 b then p.1 else 0) p ps in
    let own : (if eqb p.0 b then t * p.1 else 0) ≡ t * (if eqb p.0 b then p.1 else 0) = of (eqb p.0 b) p.1 in
    let product : t * ((if eqb p.0 b then p.1 else 0) + held b ps) ≡ t * (if eqb p.0 b then p.1 else 0) + t * held b ps = omega arith in
    rw right (omega arith)
  where
    of : (a : Bool) (x : ℕ) → (if a then t * x else 0) ≡ t * (if a then x else 0)
    of true x = refl
    of false x = omega arith

-- these boxes have `k` each and what they have beside, and hold no more than `most` each
busy-counts : (f : ℕ → ℕ) (k m : ℕ) → k * busy f k m + over f k m ≤ sum_below (λ b. one_if (ltb k (f b)) * f b) m
unfolding sum_below
busy-counts f k zero = omega arith
busy-counts f k (suc m) =
    let ih : k * busy f k m + over f k m ≤ sum_below (λ b. one_if (ltb k (f b)) * f b) m = busy-counts f k m in
    let product : k * (busy f k m + one_if (ltb k (f m))) ≡ k * busy f k m + k * one_if (ltb k (f m)) = omega arith in
    omega (arith, one_box (f m))
  where
    one_box : (x : ℕ) → k * one_if (ltb k x) + (x - k) ≤ one_if (ltb k x) * x
    one_box x = elim (cases_Bool (ltb k x)) [
      | inl yes' ↦ let more : k < x = ltb-true k x yes' in rw yes' (omega arith)
      | inr no' ↦ let few : x ≤ k = ltb-false k x no' in rw no' (omega arith)
    ]

busy-holds : (f g : ℕ → ℕ) (k most m : ℕ) → ((b : ℕ) → g b ≤ most) → sum_below (λ b. one_if (ltb k (f b)) * g b) m ≤ most * busy f k m
unfolding sum_below
busy-holds f g k most zero h = omega arith
busy-holds f g k most (suc m) h =
    let ih : sum_below (λ b. one_if (ltb k (f b)) * g b) m ≤ most * busy f k m = busy-holds f g k most m h in
    let product : most * (busy f k m + one_if (ltb k (f m))) ≡ most * busy f k m + most * one_if (ltb k (f m)) = omega arith in
    omega (arith, of (ltb k (f m)) (g m) (h m))
  where
    of : (a : Bool) (x : ℕ) → x ≤ most → one_if a * x ≤ most * one_if a
    of true x le = omega arith
    of false x le = omega arith

-- ---- what so many boxes show

-- that q boxes hold the least numbers that a share is made of, and each no more than `most`
pub record Shared (lengths : List ℕ) (w k most : ℕ) : Type 0 where
  pub q : ℕ
  pub some : 1 ≤ q
  pub few : q ≤ w
  pub no_more : q ≤ excess lengths w k
  pub holds : sum (take (k * q + excess lengths w k) (rising lengths)) ≤ most * q

shared-boxed : (lengths : List ℕ) (w k most : ℕ) → Boxed lengths w most → k * w < length lengths → Shared lengths w k most
shared-boxed lengths w k most in_boxes more =
    let all : length in_boxes.ps ≤ in_boxes.boxes * k + over f k in_boxes.boxes = omega (arith, counts-all in_boxes.boxes in_boxes.ps in_boxes.inside, all-le-over f k in_boxes.boxes) in
    let product : in_boxes.boxes * k ≤ w * k = mul-le-mul_right k in_boxes.few in
    let turned : w * k ≡ k * w = omega arith in
    go (choose f k (excess lengths w k) in_boxes.boxes (omega (arith, in_boxes.long)))
  where
    f : ℕ → ℕ
    f b = count_in b in_boxes.ps

    go : Chosen f k (excess lengths w k) in_boxes.boxes → Shared lengths w k most
    go c =
        let sorted : map second (rising_pairs in_boxes.ps) ≡ rising lengths = map-rising in_boxes.ps ∙ in_boxes.order in
        let one : (b : ℕ) → one_if (ltb k (f b)) ≤ 1 = λ b. one_at_most (ltb k (f b)) in
        let counts : sum_by (λ (p : ℕ × ℕ). taken (λ b. one_if (ltb k (f b))) c.m p.0 1) (rising_pairs in_boxes.ps) ≡ sum_below (λ b. one_if (ltb k (f b)) * f b) c.m =
        sum_by-rising_pairs (λ (p : ℕ × ℕ). taken (λ b. one_if (ltb k (f b))) c.m p.0 1) in_boxes.ps
        ∙ sym (sum_below-sum_by (λ (p : ℕ × ℕ) b. if eqb p.0 b then one_if (ltb k (f b)) * 1 else 0) in_boxes.ps c.m)
        ∙ sum_below-same (λ b. sum_by (λ (p : ℕ × ℕ). if eqb p.0 b then one_if (ltb k (f b)) * 1 else 0) in_boxes.ps) (λ b. one_if (ltb k (f b)) * f b) c.m (λ b less. counted (one_if (ltb k (f b))) b in_boxes.ps) in
        let weighs : sum_by (λ (p : ℕ × ℕ). taken (λ b. one_if (ltb k (f b))) c.m p.0 p.1) (rising_pairs in_boxes.ps) ≡ sum_below (λ b. one_if (ltb k (f b)) * held b in_boxes.ps) c.m =
        sum_by-rising_pairs (λ (p : ℕ × ℕ). taken (λ b. one_if (ltb k (f b))) c.m p.0 p.1) in_boxes.ps
        ∙ sym (sum_below-sum_by (λ (p : ℕ × ℕ) b. if eqb p.0 b then one_if (ltb k (f b)) * p.1 else 0) in_boxes.ps c.m)
        ∙ sum_below-same (λ b. sum_by (λ (p : ℕ × ℕ). if eqb p.0 b then one_if (ltb k (f b)) * p.1 else 0) in_boxes.ps) (λ b. one_if (ltb k (f b)) * held b in_boxes.ps) c.m (λ b less. weighed (one_if (ltb k (f b))) b in_boxes.ps) in
        let least : sum (take (k * busy f k c.m + excess lengths w k) (map second (rising_pairs in_boxes.ps))) ≤ sum_by (λ (p : ℕ × ℕ). taken (λ b. one_if (ltb k (f b))) c.m p.0 p.1) (rising_pairs in_boxes.ps) =
        least_taken (λ p. taken (λ b. one_if (ltb k (f b))) c.m p.0 1) (λ p. taken (λ b. one_if (ltb k (f b))) c.m p.0 p.1)
        (λ p. taken-once (λ b. one_if (ltb k (f b))) c.m p.0 one) (λ p. omega (arith, taken-times (λ b. one_if (ltb k (f b))) c.m p.0 p.1))
        (k * busy f k c.m + excess lengths w k) (rising_pairs in_boxes.ps) (rw sorted (rising-rises lengths)) (omega (arith, counts, busy-counts f k c.m, c.enough)) in
        let least' = rw sorted at least in
        record {
          q = busy f k c.m;
          some = some_busy f k c.m (omega (arith, c.enough, more));
          few = omega (arith, busy-le f k c.m, c.within, in_boxes.few);
          no_more = c.few;
          holds = omega (arith, least', weighs, busy-holds f (λ b. held b in_boxes.ps) k most c.m in_boxes.holds);
        }

-- ---- shares on more chains

pub quotient_up-falls : (a v w : ℕ) → 1 ≤ v → v ≤ w → quotient_up a w ≤ quotient_up a v
quotient_up-falls a v w some less =
    let up = div_ceil_times a v some in
    let enough : a ≤ quotient_up a v * v = omega (arith, up.0) in
    let wide : quotient_up a v * v ≤ quotient_up a v * w = mul-le-mul_left (quotient_up a v) less in
    quotient_up-le a (quotient_up a v) w (omega arith) (omega arith)

-- ---- the least of some numbers

smallest-le : (g : ℕ → ℕ) (xs : List ℕ) (i x : ℕ) → slice_get xs i ≡ Some x → smallest (map g xs) ≤ g x
smallest-le g [] i x at = absurd cc
smallest-le g (y ∷ []) zero x at = let same : g y ≡ g x = ap g cc in omega arith
smallest-le g (y ∷ []) (suc i) x at = absurd cc
smallest-le g (y ∷ z ∷ xs) zero x at = let same : g y ≡ g x = ap g cc in omega arith
smallest-le g (y ∷ z ∷ xs) (suc i) x at = omega (arith, smallest-le g (z ∷ xs) i x at)

smallest-most : (g : ℕ → ℕ) (xs : List ℕ) (low : ℕ) → 1 ≤ length xs → ((i x : ℕ) → slice_get xs i ≡ Some x → low ≤ g x) → low ≤ smallest (map g xs)
smallest-most g [] low some h = absurd (omega arith)
smallest-most g (y ∷ []) low some h = h 0 y refl
smallest-most g (y ∷ z ∷ xs) low some h = omega (arith, h 0 y refl, smallest-most g (z ∷ xs) low (omega arith) (λ i x at. h (suc i) x at))

pub least_from_one-le : (f : ℕ → ℕ) (n q : ℕ) → 1 ≤ q → q ≤ n → least_from_one f n ≤ f q
least_from_one-le f n q some within =
    let long : length (range_with_len 1 n) ≡ n = length-range_with_len 1 n in
    let number : get_or (range_with_len 1 n) (q - 1) 0 ≡ q = get_or-range_with_len 1 n (q - 1) 0 (omega arith) ∙ omega arith in
    smallest-le f (range_with_len 1 n) (q - 1) q (slice_get-get_or (range_with_len 1 n) (q - 1) 0 (omega arith) ∙ ap Some number)

pub least_from_one-most : (f : ℕ → ℕ) (n low : ℕ) → 1 ≤ n → ((q : ℕ) → 1 ≤ q → q ≤ n → low ≤ f q) → low ≤ least_from_one f n
least_from_one-most f n low some h =
    let long : length (range_with_len 1 n) ≡ n = length-range_with_len 1 n in
    smallest-most f (range_with_len 1 n) low (omega arith) (λ i x at.
    let within : i < length (range_with_len 1 n) = slice_get_within (range_with_len 1 n) i x at in
    let there : Some (get_or (range_with_len 1 n) i 0) ≡ Some x = sym (slice_get-get_or (range_with_len 1 n) i 0 within) ∙ at in
    let item : get_or (range_with_len 1 n) i 0 ≡ x = cc in
    let number : get_or (range_with_len 1 n) i 0 ≡ 1 + i = get_or-range_with_len 1 n i 0 (omega arith) in
    h x (omega arith) (omega arith))

-- ---- the greatest of the least shares

pub share_at-le : (lengths : List ℕ) (w k : ℕ) → k < length lengths → k * w < length lengths → least_share lengths w k ≤ averaging lengths w
unfolding averaging
share_at-le lengths w k within more = within_at-le (least_share lengths w) (length lengths) w k within more

pub averaging-least : (lengths : List ℕ) (w most : ℕ) → ((k : ℕ) → k * w < length lengths → least_share lengths w k ≤ most) → averaging lengths w ≤ most
unfolding averaging
averaging-least lengths w most h = within-least (least_share lengths w) (length lengths) w most h

pub averaging-boxed : (lengths : List ℕ) (w most : ℕ) → Boxed lengths w most → averaging lengths w ≤ most
averaging-boxed lengths w most in_boxes = averaging-least lengths w most (λ k more.
    let s : Shared lengths w k most = shared-boxed lengths w k most in_boxes more in
    let least : least_share lengths w k ≤ share lengths w k s.q = least_from_one-le (share lengths w k) (min w (excess lengths w k)) s.q s.some (omega (arith, s.few, s.no_more)) in
    omega (arith, least, quotient_up-le (sum (take (k * s.q + excess lengths w k) (rising lengths))) most s.q s.some s.holds))

pub averaging-le-sum : (lengths : List ℕ) (w : ℕ) → 1 ≤ w → averaging lengths w ≤ sum lengths
averaging-le-sum lengths w some = averaging-least lengths w (sum lengths) (λ k more.
    let whole : sum (rising lengths) ≡ sum lengths = sum_by-rising (λ x. x) lengths in
    let least : least_share lengths w k ≤ share lengths w k 1 = least_from_one-le (share lengths w k) (min w (excess lengths w k)) 1 (omega arith) (omega arith) in
    let part : sum (take (k * 1 + excess lengths w k) (rising lengths)) ≤ sum (rising lengths) = window-le-sum (k * 1 + excess lengths w k) 0 (rising lengths) in
    omega (arith, least, quotient_up-le (sum (take (k * 1 + excess lengths w k) (rising lengths))) (sum lengths) 1 (omega arith) (omega arith)))

-- ---- it never grows

fronts-rise : (m n : ℕ) (xs : List ℕ) → m ≤ n → sum (take m xs) ≤ sum (take n xs)
fronts-rise zero n xs le = omega arith
fronts-rise (suc m) zero xs le = absurd (omega arith)
fronts-rise (suc m) (suc n) [] le = omega arith
fronts-rise (suc m) (suc n) (x ∷ xs) le = omega (arith, sum_by-cons (λ v. v) x (take m xs), sum_by-cons (λ v. v) x (take n xs), fronts-rise m n xs (omega arith))

-- `p` stretches of `j` from the first on are no more than `p` times a later one
stretches : (j p a : ℕ) (xs : List ℕ) → Rises xs → j * p ≤ a → a + j ≤ length xs → sum (take (j * p) xs) ≤ p * sum (take j (drop a xs))
stretches j zero a xs rises before within = let none : j * 0 ≡ 0 = omega arith in rw none (omega arith)
stretches j (suc p) a xs rises before within =
    let next : j * suc p ≡ j * p + j = omega arith in
    let split : sum (take (j * suc p) xs) ≡ sum (take (j * p) xs) + sum (take j (drop (j * p) xs)) = front_split (j * suc p) (j * p) j xs next in
    let product : suc p * sum (take j (drop a xs)) ≡ p * sum (take j (drop a xs)) + sum (take j (drop a xs)) = omega arith in
    omega (arith, stretches j p a xs rises (omega arith) within, window-le j (j * p) a xs rises (omega arith) within)

-- one stretch less, the last, where all are no more than `most` each in the mean
one_less : (j p most : ℕ) (xs : List ℕ) → Rises xs → j * suc p ≤ length xs → sum (take (j * suc p) xs) ≤ most * suc p → sum (take (j * p) xs) ≤ most * p
one_less j p most xs rises within all =
    let next : j * suc p ≡ j * p + j = omega arith in
    let split : sum (take (j * suc p) xs) ≡ sum (take (j * p) xs) + sum (take j (drop (j * p) xs)) = front_split (j * suc p) (j * p) j xs next in
    let product : most * suc p ≡ most * p + most = omega arith in
    elim (cases_lt most (sum (take j (drop (j * p) xs)))) [
      | inl more ↦ omega arith
      | inr no_more ↦
          let wide : p * sum (take j (drop (j * p) xs)) ≤ p * most = mul-le-mul_left p no_more in
          let turned : p * most ≡ most * p = omega arith in
          omega (arith, stretches j p (j * p) xs rises (omega arith) (omega arith))
    ]

fewer : (j e d most : ℕ) (xs : List ℕ) → Rises xs → j * (e + d) ≤ length xs → sum (take (j * (e + d)) xs) ≤ most * (e + d) → sum (take (j * e) xs) ≤ most * e
fewer j e zero most xs rises within all = let same : e + 0 ≡ e = omega arith in rw same at all
fewer j e (suc d) most xs rises within all =
    let next : e + suc d ≡ suc (e + d) = omega arith in
    let all' = rw next at all in
    let within' = rw next at within in
    let product : j * suc (e + d) ≡ j * (e + d) + j = omega arith in
    fewer j e d most xs rises (omega (arith, within')) (one_less j (e + d) most xs rises within' all')

share-falls : (lengths : List ℕ) (v w k q : ℕ) → 1 ≤ v → v ≤ w → k * w < length lengths → 1 ≤ q → q ≤ v → q ≤ excess lengths v k → least_share lengths w k ≤ share lengths v k q
share-falls lengths v w k q some less more one on_wires in_excess =
    let product : k * v ≤ k * w = mul-le-mul_left k less in
    let long : length (rising lengths) ≡ length lengths = length-rising lengths in
    let up = div_ceil_times (sum (take (k * q + excess lengths v k) (rising lengths))) q one in
    let enough : sum (take (k * q + excess lengths v k) (rising lengths)) ≤ share lengths v k q * q = omega (arith, up.0) in
    elim (cases_lt (excess lengths w k) q) [
      | inl past ↦
          let e : ℕ = excess lengths w k in
          let next : k * e + e ≡ suc k * e = omega arith in
          let sum_is : suc k * (e + (q - e)) ≡ k * q + q = (let same : e + (q - e) ≡ q = omega arith in ap (λ v. suc k * v) same ∙ omega arith) in
          let own : k * q ≤ k * v = mul-le-mul_left k on_wires in
          let part : sum (take (suc k * (e + (q - e))) (rising lengths)) ≤ sum (take (k * q + excess lengths v k) (rising lengths)) = fronts-rise (suc k * (e + (q - e))) (k * q + excess lengths v k) (rising lengths) (omega arith) in
          let same : share lengths v k q * (e + (q - e)) ≡ share lengths v k q * q = (let s : e + (q - e) ≡ q = omega arith in ap (λ z. share lengths v k q * z) s) in
          let holds : sum (take (suc k * e) (rising lengths)) ≤ share lengths v k q * e = fewer (suc k) e (q - e) (share lengths v k q) (rising lengths) (rising-rises lengths) (omega arith) (omega arith) in
          let holds' : sum (take (k * e + e) (rising lengths)) ≤ share lengths v k q * e = rw next holds in
          let least : least_share lengths w k ≤ share lengths w k e = least_from_one-le (share lengths w k) (min w (excess lengths w k)) e (omega arith) (omega arith) in
          omega (arith, least, quotient_up-le (sum (take (k * e + e) (rising lengths))) (share lengths v k q) e (omega arith) holds')
      | inr within ↦
          let least : least_share lengths w k ≤ share lengths w k q = least_from_one-le (share lengths w k) (min w (excess lengths w k)) q one (omega arith) in
          let part : sum (take (k * q + excess lengths w k) (rising lengths)) ≤ sum (take (k * q + excess lengths v k) (rising lengths)) = fronts-rise (k * q + excess lengths w k) (k * q + excess lengths v k) (rising lengths) (omega arith) in
          omega (arith, least, quotient_up-le (sum (take (k * q + excess lengths w k) (rising lengths))) (share lengths v k q) q one (omega arith))
    ]

pub averaging-falls : (lengths : List ℕ) (v w : ℕ) → 1 ≤ v → v ≤ w → averaging lengths w ≤ averaging lengths v
averaging-falls lengths v w some less = averaging-least lengths w (averaging lengths v) (λ k more.
    let within = place_within k v w (length lengths) some less more in
    let lower : least_share lengths w k ≤ least_share lengths v k = least_from_one-most (share lengths v k) (min v (excess lengths v k)) (least_share lengths w k) (omega (arith, some, within.1))
    (λ q one few. share-falls lengths v w k q some less more one (omega (arith, few)) (omega (arith, few))) in
    omega (arith, lower, share_at-le lengths v k within.0 within.1))
