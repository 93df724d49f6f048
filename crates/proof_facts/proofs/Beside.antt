-- Beside: the box of the greatest number has another one, or the others are in one box less. It never grows with the wires, and is no
-- more than all numbers together.
use Rattle.std.proofs.Common.{◌≡◌, ℕ, zero, suc, ◌+◌, ◌-◌, ◌*◌, ◌≤◌, ◌<◌, max, min, Bool, true, false, List, [], ◌∷◌, map, length, take, refl, ap, ◌∙◌, sym, arith, inl, inr, eqb, leb}
use Rattle.std.specs.Prelude.{slice_index, ◌&&◌, if◌then◌else◌}
use Rattle.std.specs.List.{sum, sum_by}
use Rattle.std.proofs.lemmas.Bool.{cases_lt, le-leb, lt-leb, eq-eqb}
use Rattle.std.proofs.lemmas.List.{length-map, take_all, get_or-take}
use Rattle.std.proofs.lemmas.List.Sums.{sum_by-cons}
use Rattle.plan_model.proofs.Sums.{one_if}
use Rattle.proof_facts.specs.Packed.{rising, crowd, counting, shortest, longest, without_longest, beside}
use Rattle.proof_facts.proofs.Rising.{Rises, rising-rises, length-rising, sum_by-rising, rises-take, rising-same}
use Rattle.proof_facts.proofs.Crowds.{second, count_in, held, beyond, rising_pairs, map-rising, sum_by-rising_pairs, few_least, crowd-in_others}
use Rattle.proof_facts.proofs.Counting.{Boxed, counting-least, counting-falls, crowd_at-le}

-- ---- the last of a list and those before it

record Parted (ps : List (ℕ × ℕ)) (n : ℕ) : Type 0 where
  last : ℕ × ℕ
  front : List (ℕ × ℕ)
  long : length front ≡ n
  front_is : map second front ≡ take n (map second ps)
  last_is : slice_index (map second ps) n ≡ last.1
  sums : (f : ℕ × ℕ → ℕ) → sum_by f ps ≡ sum_by f front + f last

parted : (ps : List (ℕ × ℕ)) (n : ℕ) → length ps ≡ suc n → Parted ps n
parted [] n long = absurd (omega arith)
parted (p ∷ []) zero long = record { last = p; front = []; long = refl; front_is = refl; last_is = refl; sums = λ f. omega (arith, sum_by-cons f p []) }
parted (p ∷ []) (suc n) long = absurd (omega arith)
parted (p ∷ q ∷ ps) zero long = absurd (omega arith)
parted (p ∷ q ∷ ps) (suc n) long =
    let rest = parted (q ∷ ps) n (omega arith) in
    record {
      last = rest.last;
      front = p ∷ rest.front;
      long = omega (arith, rest.long);
      front_is = ap (λ v. p.1 ∷ v) rest.front_is;
      last_is = rest.last_is;
      sums = λ f. omega (arith, sum_by-cons f p (q ∷ ps), sum_by-cons f p rest.front, rest.sums f);
    }

first_of : (xs : List ℕ) → 1 ≤ length xs → sum (take 1 xs) ≡ slice_index xs 0
first_of [] some = absurd (omega arith)
first_of (x ∷ xs) some = omega (arith, sum_by-cons (λ v. v) x [])

-- the first and the last of two numbers or more
ends-le-sum : (x : ℕ) (xs : List ℕ) (n : ℕ) → length xs ≡ suc n → x + slice_index xs n ≤ sum (x ∷ xs)
ends-le-sum x [] n long = absurd (omega arith)
ends-le-sum x (y ∷ ys) zero long = omega (arith, sum_by-cons (λ v. v) x (y ∷ ys), sum_by-cons (λ v. v) y ys)
ends-le-sum x (y ∷ ys) (suc n) long = omega (arith, sum_by-cons (λ v. v) x (y ∷ ys), sum_by-cons (λ v. v) y ys, sum_by-cons (λ v. v) x ys, ends-le-sum x ys n (omega arith))

two-le-sum : (lengths : List ℕ) → 2 ≤ length lengths → longest lengths + shortest lengths ≤ sum lengths
two-le-sum lengths many =
    let whole : sum (rising lengths) ≡ sum lengths = sum_by-rising (λ x. x) lengths in
    omega (arith, go (rising lengths) (length lengths - 2) (omega (arith, length-rising lengths)) (length lengths - 1) (omega arith))
  where
    go : (xs : List ℕ) (n : ℕ) → length xs ≡ suc (suc n) → (last : ℕ) → last ≡ suc n → slice_index xs last + slice_index xs 0 ≤ sum xs
    go [] n long last is = absurd (omega arith)
    go (x ∷ xs) n long last is = rw is (omega (arith, ends-le-sum x xs n (omega arith)))

-- on one wire all are together
all_on_one : (lengths : List ℕ) → 1 ≤ length lengths → sum lengths ≤ counting lengths 1
all_on_one lengths some =
    let whole : sum (rising lengths) ≡ sum lengths = sum_by-rising (λ x. x) lengths in
    let k : ℕ = length lengths - 1 in
    let none : length lengths - (k * 1 + 1) ≡ 0 = omega arith in
    let all : k + 1 ≡ length lengths = omega arith in
    let front : take (length lengths) (rising lengths) ≡ rising lengths = take_all (length lengths) (rising lengths) (omega (arith, length-rising lengths)) in
    let is : crowd lengths 1 k ≡ sum lengths = rw (none, all) (ap sum front ∙ whole) in
    omega (arith, crowd_at-le lengths 1 k (omega arith) (omega arith))

-- ---- of numbers in boxes

-- where another one is beside the last, in order
with_another : (lengths : List ℕ) (w most n : ℕ) (in_boxes : Boxed lengths w most) → length lengths ≡ suc n → 1 ≤ n → (p : Parted (rising_pairs in_boxes.ps) n) → 1 ≤ count_in p.last.0 p.front → longest lengths + shortest lengths ≤ most
with_another lengths w most n in_boxes long some p another = go (map-rising in_boxes.ps ∙ in_boxes.order)
  where
    go : map second (rising_pairs in_boxes.ps) ≡ rising lengths → longest lengths + shortest lengths ≤ most
    go sorted =
        let front_is : map second p.front ≡ take n (rising lengths) = p.front_is ∙ ap (take n) sorted in
        let rises : Rises (map second p.front) = rw front_is (rises-take n (rising lengths) (rising-rises lengths)) in
        let least : sum (take 1 (map second p.front)) ≤ held p.last.0 p.front = few_least p.last.0 1 p.front rises another in
        let front_long : length (map second p.front) ≡ n = length-map p.front second ∙ p.long in
        let first : sum (take 1 (map second p.front)) ≡ slice_index (map second p.front) 0 = first_of (map second p.front) (omega arith) in
        let same : slice_index (map second p.front) 0 ≡ shortest lengths = ap (λ v. slice_index v 0) front_is ∙ get_or-take n (rising lengths) 0 0 (omega arith) in
        let all : held p.last.0 (rising_pairs in_boxes.ps) ≡ held p.last.0 p.front + (if eqb p.last.0 p.last.0 then p.last.1 else 0) = p.sums (λ (q : ℕ × ℕ). if eqb q.0 p.last.0 then q.1 else 0) in
        let own : (if eqb p.last.0 p.last.0 then p.last.1 else 0) ≡ p.last.1 = rw (eq-eqb p.last.0 p.last.0 refl) refl in
        let whole : held p.last.0 (rising_pairs in_boxes.ps) ≡ held p.last.0 in_boxes.ps = sum_by-rising_pairs (λ (q : ℕ × ℕ). if eqb q.0 p.last.0 then q.1 else 0) in_boxes.ps in
        let one_less : length lengths - 1 ≡ n = omega arith in
        let last : longest lengths ≡ p.last.1 = ap (slice_index (rising lengths)) one_less ∙ ap (λ v. slice_index v n) (sym sorted) ∙ p.last_is in
        omega (arith, in_boxes.holds p.last.0)

-- where the last is alone
when_alone : (lengths : List ℕ) (w most n : ℕ) (in_boxes : Boxed lengths w most) → length lengths ≡ suc n → 2 ≤ w → (p : Parted (rising_pairs in_boxes.ps) n) → count_in p.last.0 p.front ≡ 0 → max (longest lengths) (counting (without_longest lengths) (w - 1)) ≤ most
when_alone lengths w most n in_boxes long wide p alone = go (map-rising in_boxes.ps ∙ in_boxes.order)
  where
    go : map second (rising_pairs in_boxes.ps) ≡ rising lengths → max (longest lengths) (counting (without_longest lengths) (w - 1)) ≤ most
    go sorted =
        let one_less : length lengths - 1 ≡ n = omega arith in
        let front_is : map second p.front ≡ take n (rising lengths) = p.front_is ∙ ap (take n) sorted in
        let others : without_longest lengths ≡ map second p.front = ap (λ v. take v (rising lengths)) one_less ∙ sym front_is in
        let front_long : length (map second p.front) ≡ n = length-map p.front second ∙ p.long in
        let beyond_all : beyond in_boxes.boxes (rising_pairs in_boxes.ps) ≡ beyond in_boxes.boxes p.front + one_if (leb in_boxes.boxes p.last.0) = p.sums (λ (q : ℕ × ℕ). one_if (leb in_boxes.boxes q.0)) in
        let same : beyond in_boxes.boxes (rising_pairs in_boxes.ps) ≡ beyond in_boxes.boxes in_boxes.ps = sum_by-rising_pairs (λ (q : ℕ × ℕ). one_if (leb in_boxes.boxes q.0)) in_boxes.ps in
        let inside : p.last.0 < in_boxes.boxes = inside_of p.last.0 in_boxes.boxes (omega (arith, in_boxes.inside)) in
        let held_le : (b : ℕ) → held b p.front ≤ most = λ b.
        (let all : held b (rising_pairs in_boxes.ps) ≡ held b p.front + (if eqb p.last.0 b then p.last.1 else 0) = p.sums (λ (q : ℕ × ℕ). if eqb q.0 b then q.1 else 0) in
        let whole : held b (rising_pairs in_boxes.ps) ≡ held b in_boxes.ps = sum_by-rising_pairs (λ (q : ℕ × ℕ). if eqb q.0 b then q.1 else 0) in_boxes.ps in
        omega (arith, in_boxes.holds b)) in
        let crowds : counting (map second p.front) (w - 1) ≤ most = counting-least (map second p.front) (w - 1) most (λ k more.
        let box = crowd-in_others in_boxes.boxes (w - 1) k p.last.0 p.front (omega (arith, in_boxes.few)) (omega (arith, in_boxes.inside)) inside alone (omega (arith, p.long)) in
        omega (arith, box.1, held_le box.0)) in
        let crowds' : counting (without_longest lengths) (w - 1) ≤ most = rw others crowds in
        let all : held p.last.0 (rising_pairs in_boxes.ps) ≡ held p.last.0 p.front + (if eqb p.last.0 p.last.0 then p.last.1 else 0) = p.sums (λ (q : ℕ × ℕ). if eqb q.0 p.last.0 then q.1 else 0) in
        let own : (if eqb p.last.0 p.last.0 then p.last.1 else 0) ≡ p.last.1 = rw (eq-eqb p.last.0 p.last.0 refl) refl in
        let whole : held p.last.0 (rising_pairs in_boxes.ps) ≡ held p.last.0 in_boxes.ps = sum_by-rising_pairs (λ (q : ℕ × ℕ). if eqb q.0 p.last.0 then q.1 else 0) in_boxes.ps in
        let last : longest lengths ≡ p.last.1 = ap (slice_index (rising lengths)) one_less ∙ ap (λ v. slice_index v n) (sym sorted) ∙ p.last_is in
        omega (arith, in_boxes.holds p.last.0, crowds')
      where
        inside_of : (b n : ℕ) → one_if (leb n b) ≡ 0 → b < n
        inside_of b n none = elim (cases_lt b n) [
          | inl yes' ↦ yes'
          | inr past ↦ let one : one_if (leb n b) ≡ 1 = rw (le-leb n b past) refl in absurd (omega arith)
        ]

-- ---- the choice of the lesser

-- `beside` where there are two numbers and two wires
pub beside_is : (lengths : List ℕ) (w : ℕ) → 2 ≤ length lengths → 2 ≤ w → beside lengths w ≡ min (longest lengths + shortest lengths) (max (longest lengths) (counting (without_longest lengths) (w - 1)))
unfolding beside
beside_is lengths w many wide = rw (le-leb 2 (length lengths) many, le-leb 2 w wide) refl

pub none_beside : (lengths : List ℕ) (w : ℕ) → length lengths < 2 → beside lengths w ≡ 0
unfolding beside
none_beside lengths w few = rw (lt-leb 2 (length lengths) few) refl

pub one_wire : (lengths : List ℕ) (w : ℕ) → w < 2 → beside lengths w ≡ 0
unfolding beside
one_wire lengths w narrow = rw (lt-leb 2 w narrow) (both (leb 2 (length lengths)))
  where
    both : (a : Bool) → (if a && false then min (longest lengths + shortest lengths) (max (longest lengths) (counting (without_longest lengths) (w - 1))) else 0) ≡ 0
    both true = refl
    both false = refl

-- what is within in each case is within
pub beside-least : (lengths : List ℕ) (w most : ℕ) → (2 ≤ length lengths → 2 ≤ w → min (longest lengths + shortest lengths) (max (longest lengths) (counting (without_longest lengths) (w - 1))) ≤ most) → beside lengths w ≤ most
beside-least lengths w most h = elim (cases_lt (length lengths) 2) [
  | inl few ↦ omega (arith, none_beside lengths w few)
  | inr many ↦ elim (cases_lt w 2) [
    | inl narrow ↦ omega (arith, one_wire lengths w narrow)
    | inr wide ↦ omega (arith, beside_is lengths w many wide, h many wide)
  ]
]

pub beside-boxed : (lengths : List ℕ) (w most : ℕ) → Boxed lengths w most → beside lengths w ≤ most
beside-boxed lengths w most in_boxes = beside-least lengths w most (λ many wide.
    let sorted : map second (rising_pairs in_boxes.ps) ≡ rising lengths = map-rising in_boxes.ps ∙ in_boxes.order in
    let n : ℕ = length lengths - 1 in
    let long : length lengths ≡ suc n = omega arith in
    let pairs : length (rising_pairs in_boxes.ps) ≡ suc n = sym (length-map (rising_pairs in_boxes.ps) second) ∙ ap length sorted ∙ length-rising lengths ∙ long in
    let p : Parted (rising_pairs in_boxes.ps) n = parted (rising_pairs in_boxes.ps) n pairs in
    elim (cases_lt 0 (count_in p.last.0 p.front)) [
      | inl another ↦ omega (arith, with_another lengths w most n in_boxes long (omega arith) p another)
      | inr none ↦ omega (arith, when_alone lengths w most n in_boxes long wide p (omega arith))
    ])

-- ---- it never grows

pub beside-falls : (lengths : List ℕ) (v w : ℕ) → 1 ≤ v → v ≤ w → beside lengths w ≤ max (counting lengths v) (beside lengths v)
beside-falls lengths v w some less = beside-least lengths w (max (counting lengths v) (beside lengths v)) (λ many wide. elim (cases_lt v 2) [
  | inl narrow ↦
      let one : v ≡ 1 = omega arith in
      let all : sum lengths ≤ counting lengths 1 = all_on_one lengths (omega arith) in
      let two : longest lengths + shortest lengths ≤ sum lengths = two-le-sum lengths many in
      rw one (omega arith)
  | inr wide' ↦ omega (arith, beside_is lengths v many wide', counting-falls (without_longest lengths) (v - 1) (w - 1) (omega arith) (omega arith))
])

pub beside-le-sum : (lengths : List ℕ) (w : ℕ) → beside lengths w ≤ sum lengths
beside-le-sum lengths w = beside-least lengths w (sum lengths) (λ many wide. omega (arith, two-le-sum lengths many))

-- ---- found from lengths in order

others_sorted : (lengths : List ℕ) → take (length lengths - 1) (rising lengths) ≡ rising (without_longest lengths)
others_sorted lengths = sym (rising-same (without_longest lengths) (rises-take (length lengths - 1) (rising lengths) (rising-rises lengths)))

pub beside_found : (lengths xs : List ℕ) (w others most least : ℕ) → xs ≡ rising lengths → 2 ≤ length xs → 2 ≤ w → ((ys : List ℕ) → take (length xs - 1) xs ≡ rising ys → others ≡ counting ys (w - 1)) →
    most ≡ max (slice_index xs (length xs - 1)) others → least ≡ min (slice_index xs (length xs - 1) + slice_index xs 0) most → least ≡ beside lengths w
beside_found lengths xs w others most least sorted many wide found most_is least_is =
    let long : length xs ≡ length lengths = ap length sorted ∙ length-rising lengths in
    let cut : take (length xs - 1) xs ≡ rising (without_longest lengths) = rw long (rw sorted (others_sorted lengths)) in
    let counts : others ≡ counting (without_longest lengths) (w - 1) = found (without_longest lengths) cut in
    let last : slice_index xs (length xs - 1) ≡ longest lengths = rw long (ap (λ v. slice_index v (length lengths - 1)) sorted) in
    let first : slice_index xs 0 ≡ shortest lengths = ap (λ v. slice_index v 0) sorted in
    omega (arith, beside_is lengths w (omega arith) wide, most_is, least_is)
