-- Of more than `k * w` numbers in `w` boxes some box has more than `k`: boxes are wrapper chains, numbers lengths of scan chains.
use Rattle.std.proofs.Common.{◌≡◌, ℕ, zero, suc, ◌+◌, ◌-◌, ◌*◌, ◌≤◌, ◌<◌, Bool, true, false, List, [], ◌∷◌, map, length, drop, take, refl, ap, ◌∙◌, sym, arith, inl, inr, eqb, leb}
use Rattle.std.specs.Prelude.{if◌then◌else◌}
use Rattle.std.specs.List.{sum, sum_by}
use Rattle.std.proofs.lemmas.Bool.{cases_Bool, cases_lt, le-leb, lt-leb, eq-eqb}
use Rattle.std.proofs.lemmas.List.{length-map, length-drop}
use Rattle.std.proofs.lemmas.List.Sums.{sum_by-cons}
use Rattle.std.proofs.Math.Nat.{mul-le-mul_right}
use Rattle.plan_model.specs.Bounds.{sum_below}
use Rattle.plan_model.proofs.Sums.{one_if}
use Rattle.plan_model.proofs.SumsOverCycles.{sum_below-sum_by}
use Rattle.proof_facts.specs.Packed.{insert, rising, crowd}
use Rattle.proof_facts.proofs.Rising.{Rises, rising-rises, rises-drop, next_least, length-rising}

-- numbers, each with its box
abbrev pub second : ℕ × ℕ → ℕ
second p = p.1

-- how many numbers a box has, and what they are together
abbrev pub count_in : ℕ → List (ℕ × ℕ) → ℕ
count_in b ps = sum_by (λ (p : ℕ × ℕ). one_if (eqb p.0 b)) ps

abbrev pub held : ℕ → List (ℕ × ℕ) → ℕ
held b ps = sum_by (λ (p : ℕ × ℕ). if eqb p.0 b then p.1 else 0) ps

-- how many are in no box below `n`
abbrev pub beyond : ℕ → List (ℕ × ℕ) → ℕ
beyond n ps = sum_by (λ (p : ℕ × ℕ). one_if (leb n p.0)) ps

-- ---- in the order of the numbers

insert_pair : ℕ × ℕ → List (ℕ × ℕ) → List (ℕ × ℕ)
insert_pair p [] = p ∷ []
insert_pair p (q ∷ qs) = if leb p.1 q.1 then p ∷ q ∷ qs else q ∷ insert_pair p qs

pub rising_pairs : List (ℕ × ℕ) → List (ℕ × ℕ)
rising_pairs [] = []
rising_pairs (p ∷ ps) = insert_pair p (rising_pairs ps)

map-insert : (p : ℕ × ℕ) (qs : List (ℕ × ℕ)) → map second (insert_pair p qs) ≡ insert p.1 (map second qs)
unfolding insert_pair
map-insert p [] = refl
map-insert p (q ∷ qs) = elim (cases_Bool (leb p.1 q.1)) [
  | inl yes' ↦ rw yes' refl
  | inr no' ↦ rw no' (ap (λ v. q.1 ∷ v) (map-insert p qs))
]

pub map-rising : (ps : List (ℕ × ℕ)) → map second (rising_pairs ps) ≡ rising (map second ps)
unfolding rising_pairs
map-rising [] = refl
map-rising (p ∷ ps) = map-insert p (rising_pairs ps) ∙ ap (insert p.1) (map-rising ps)

sum_by-insert_pair : (f : ℕ × ℕ → ℕ) (p : ℕ × ℕ) (qs : List (ℕ × ℕ)) → sum_by f (insert_pair p qs) ≡ f p + sum_by f qs
unfolding insert_pair
sum_by-insert_pair f p [] = sum_by-cons f p []
sum_by-insert_pair f p (q ∷ qs) = elim (cases_Bool (leb p.1 q.1)) [
  | inl yes' ↦ rw yes' (sum_by-cons f p (q ∷ qs))
  | inr no' ↦
      let ih : sum_by f (insert_pair p qs) ≡ f p + sum_by f qs = sum_by-insert_pair f p qs in
      rw no' (omega (arith, sum_by-cons f q (insert_pair p qs), sum_by-cons f q qs))
]

pub sum_by-rising_pairs : (f : ℕ × ℕ → ℕ) (ps : List (ℕ × ℕ)) → sum_by f (rising_pairs ps) ≡ sum_by f ps
unfolding rising_pairs
sum_by-rising_pairs f [] = refl
sum_by-rising_pairs f (p ∷ ps) =
    let ih : sum_by f (rising_pairs ps) ≡ sum_by f ps = sum_by-rising_pairs f ps in
    omega (arith, sum_by-insert_pair f p (rising_pairs ps), sum_by-cons f p ps)

-- ---- what a box of many numbers holds

-- of numbers that are taken or not
sum_by-le-length : (h : ℕ × ℕ → ℕ) → ((p : ℕ × ℕ) → h p ≤ 1) → (ps : List (ℕ × ℕ)) → sum_by h ps ≤ length ps
sum_by-le-length h one [] = omega arith
sum_by-le-length h one (p ∷ ps) = omega (arith, sum_by-cons h p ps, one p, sum_by-le-length h one ps)

-- the `j` least of all are together no more than those that are taken, where these are at least `j`
pub least_taken : (h g : ℕ × ℕ → ℕ) → ((p : ℕ × ℕ) → h p ≤ 1) → ((p : ℕ × ℕ) → h p * p.1 ≤ g p) → (j : ℕ) (ps : List (ℕ × ℕ)) → Rises (map second ps) → j ≤ sum_by h ps → sum (take j (map second ps)) ≤ sum_by g ps
least_taken h g one holds zero ps rises many = omega arith
least_taken h g one holds (suc j) [] rises many = omega arith
least_taken h g one holds (suc j) (p ∷ ps) rises many =
    let counts : sum_by h (p ∷ ps) ≡ h p + sum_by h ps = sum_by-cons h p ps in
    let takes : sum_by g (p ∷ ps) ≡ g p + sum_by g ps = sum_by-cons g p ps in
    let split : sum (p.1 ∷ take j (map second ps)) ≡ p.1 + sum (take j (map second ps)) = sum_by-cons (λ v. v) p.1 (take j (map second ps)) in
    elim (cases_lt 0 (h p)) [
      | inl more ↦
          let is_one : h p ≡ 1 = omega (arith, one p) in
          let own : h p * p.1 ≡ p.1 = rw is_one (omega arith) in
          omega (arith, holds p, least_taken h g one holds j ps rises.1 (omega arith))
      | inr none ↦
          let long : length (map second ps) ≡ length ps = length-map ps second in
          omega (arith, least_taken h g one holds (suc j) ps rises.1 (omega arith), next_least p.1 (map second ps) j rises.0 (omega (arith, sum_by-le-length h one ps)))
    ]

pub one_at_most : (a : Bool) → one_if a ≤ 1
one_at_most true = omega arith
one_at_most false = omega arith

-- the `j` least of all are together no more than all of box `b`, where it has at least `j`
pub few_least : (b j : ℕ) (ps : List (ℕ × ℕ)) → Rises (map second ps) → j ≤ count_in b ps → sum (take j (map second ps)) ≤ held b ps
few_least b j ps rises many = least_taken (λ p. one_if (eqb p.0 b)) (λ p. if eqb p.0 b then p.1 else 0) (λ p. one_at_most (eqb p.0 b)) (λ p. own (eqb p.0 b) p.1) j ps rises many
  where
    own : (a : Bool) (x : ℕ) → one_if a * x ≤ (if a then x else 0)
    own true x = omega arith
    own false x = omega arith

-- ---- some box has many

in_some : (p n : ℕ) → 1 ≤ sum_below (λ b. one_if (eqb p b)) n + one_if (leb n p)
unfolding sum_below
in_some p zero = let all : one_if (leb 0 p) ≡ 1 = rw (le-leb 0 p (omega arith)) refl in omega arith
in_some p (suc n) = elim (cases_lt p n) [
  | inl less ↦
      let none : one_if (leb n p) ≡ 0 = rw (lt-leb n p less) refl in
      omega (arith, in_some p n)
  | inr more ↦ elim (cases_lt n p) [
    | inl past ↦ let all : one_if (leb (suc n) p) ≡ 1 = rw (le-leb (suc n) p (omega arith)) refl in omega arith
    | inr here ↦
        let same : p ≡ n = omega arith in
        let one : one_if (eqb p n) ≡ 1 = rw (eq-eqb p n same) refl in
        omega arith
  ]
]

all_counted : (n : ℕ) (ps : List (ℕ × ℕ)) → length ps ≤ sum_by (λ (p : ℕ × ℕ). sum_below (λ b. one_if (eqb p.0 b)) n) ps + beyond n ps
all_counted n [] = omega arith
all_counted n (p ∷ ps) =
    let a : sum_by (λ (p : ℕ × ℕ). sum_below (λ b. one_if (eqb p.0 b)) n) (p ∷ ps) ≡ sum_below (λ b. one_if (eqb p.0 b)) n + sum_by (λ (p : ℕ × ℕ). sum_below (λ b. one_if (eqb p.0 b)) n) ps =
    sum_by-cons (λ (p : ℕ × ℕ). sum_below (λ b. one_if (eqb p.0 b)) n) p ps in
    let c : beyond n (p ∷ ps) ≡ one_if (leb n p.0) + beyond n ps = sum_by-cons (λ (p : ℕ × ℕ). one_if (leb n p.0)) p ps in
    omega (arith, in_some p.0 n, all_counted n ps)

find_box : (f : ℕ → ℕ) (k n : ℕ) → n * k < sum_below f n → (b : ℕ) × (suc k ≤ f b)
unfolding sum_below
find_box f k zero more = absurd (omega arith)
find_box f k (suc n) more = elim (cases_lt k (f n)) [
  | inl many ↦ (n, omega arith)
  | inr few ↦
      let product : suc n * k ≡ n * k + k = omega arith in
      find_box f k n (omega arith)
]

-- all boxes together have all numbers
pub counts-all : (n : ℕ) (ps : List (ℕ × ℕ)) → beyond n ps ≡ 0 → length ps ≤ sum_below (λ b. count_in b ps) n
counts-all n ps none =
    let turned : sum_below (λ b. count_in b ps) n ≡ sum_by (λ (p : ℕ × ℕ). sum_below (λ b. one_if (eqb p.0 b)) n) ps = sum_below-sum_by (λ (p : ℕ × ℕ) b. one_if (eqb p.0 b)) ps n in
    omega (arith, all_counted n ps)

pub crowded_box : (n k : ℕ) (ps : List (ℕ × ℕ)) → beyond n ps ≡ 0 → n * k < length ps → (b : ℕ) × (suc k ≤ count_in b ps)
crowded_box n k ps none more = find_box (λ b. count_in b ps) k n (omega (arith, counts-all n ps none))

-- a box that isn't the empty one
find_other : (f : ℕ → ℕ) (k n box : ℕ) → box < n → f box ≡ 0 → (n - 1) * k < sum_below f n → (b : ℕ) × (suc k ≤ f b)
unfolding sum_below
find_other f k zero box within empty more = absurd (omega arith)
find_other f k (suc n) box within empty more = elim (cases_lt k (f n)) [
  | inl many ↦ (n, omega arith)
  | inr few ↦ elim (cases_lt box n) [
    | inl earlier ↦
        let product : n * k ≡ (n - 1) * k + k = (let next : suc (n - 1) * k ≡ (n - 1) * k + k = omega arith in let same : n ≡ suc (n - 1) = omega arith in ap (λ v. v * k) same ∙ next) in
        let one_less : suc n - 1 ≡ n = omega arith in
        let more' : n * k < sum_below f n + f n = rw one_less at more in
        find_other f k n box earlier empty (omega arith)
    | inr last ↦
        let same : n ≡ box = omega arith in
        let none : f n ≡ 0 = ap f same ∙ empty in
        let one_less : suc n - 1 ≡ n = omega arith in
        let more' : n * k < sum_below f n + f n = rw one_less at more in
        find_box f k n (omega arith)
  ]
]

-- some other box has more than `k`, where one has none
pub crowded_other : (n k box : ℕ) (ps : List (ℕ × ℕ)) → beyond n ps ≡ 0 → box < n → count_in box ps ≡ 0 → (n - 1) * k < length ps → (b : ℕ) × (suc k ≤ count_in b ps)
crowded_other n k box ps none within empty more = find_other (λ b. count_in b ps) k n box within empty (omega (arith, counts-all n ps none))

sum_by-drop-le : {X : Type 0} (f : X → ℕ) (n : ℕ) (xs : List X) → sum_by f (drop n xs) ≤ sum_by f xs
sum_by-drop-le f zero xs = omega arith
sum_by-drop-le f (suc n) [] = omega arith
sum_by-drop-le f (suc n) (x ∷ xs) = omega (arith, sum_by-cons f x xs, sum_by-drop-le f n xs)

pub map-drop' : (n : ℕ) (ps : List (ℕ × ℕ)) → map second (drop n ps) ≡ drop n (map second ps)
map-drop' zero ps = refl
map-drop' (suc n) [] = refl
map-drop' (suc n) (p ∷ ps) = map-drop' n ps

-- Some box holds as much as the crowd, where of any `k * w + 1` of the numbers some box has more than `k`.
pub crowd-held : (w k : ℕ) (ps : List (ℕ × ℕ)) → k * w < length ps → ((top : List (ℕ × ℕ)) → k * w < length top → ((f : ℕ × ℕ → ℕ) → sum_by f top ≤ sum_by f ps) → (b : ℕ) × (suc k ≤ count_in b top)) → (b : ℕ) × (crowd (map second ps) w k ≤ held b ps)
crowd-held w k ps more some_box =
    let long : length (map second ps) ≡ length ps = length-map ps second in
    let sorted : length (rising (map second ps)) ≡ length (map second ps) = length-rising (map second ps) in
    let order : map second (rising_pairs ps) ≡ rising (map second ps) = map-rising ps in
    let pairs : length (rising_pairs ps) ≡ length ps = sym (length-map (rising_pairs ps) second) ∙ ap length order ∙ sorted ∙ long in
    let top_is : map second (drop (length (map second ps) - (k * w + 1)) (rising_pairs ps)) ≡ drop (length (map second ps) - (k * w + 1)) (rising (map second ps)) =
    map-drop' (length (map second ps) - (k * w + 1)) (rising_pairs ps) ∙ ap (drop (length (map second ps) - (k * w + 1))) order in
    let rises : Rises (drop (length (map second ps) - (k * w + 1)) (rising (map second ps))) = rises-drop (length (map second ps) - (k * w + 1)) (rising (map second ps)) (rising-rises (map second ps)) in
    go (drop (length (map second ps) - (k * w + 1)) (rising_pairs ps)) top_is rises
    (λ f. omega (arith, sum_by-drop-le f (length (map second ps) - (k * w + 1)) (rising_pairs ps), sum_by-rising_pairs f ps))
    (let l : length (drop (length (map second ps) - (k * w + 1)) (rising_pairs ps)) ≡ length (rising_pairs ps) - (length (map second ps) - (k * w + 1)) = length-drop (length (map second ps) - (k * w + 1)) (rising_pairs ps) in omega arith)
  where
    go : (top : List (ℕ × ℕ)) → map second top ≡ drop (length (map second ps) - (k * w + 1)) (rising (map second ps)) → Rises (drop (length (map second ps) - (k * w + 1)) (rising (map second ps))) → ((f : ℕ × ℕ → ℕ) → sum_by f top ≤ sum_by f ps) → length top ≡ k * w + 1 →
        (b : ℕ) × (crowd (map second ps) w k ≤ held b ps)
    go top shown rises part long =
        let box = some_box top (omega arith) part in
        let least : sum (take (suc k) (map second top)) ≤ held box.0 top = few_least box.0 (suc k) top (rw shown rises) box.1 in
        let whole : held box.0 top ≤ held box.0 ps = part (λ (p : ℕ × ℕ). if eqb p.0 box.0 then p.1 else 0) in
        let one : k + 1 ≡ suc k = omega arith in
        let crowd_is : crowd (map second ps) w k ≡ sum (take (suc k) (map second top)) = rw (one, shown) refl in
        (box.0, omega arith)

-- of numbers in `n` boxes, at most `w` of them
pub crowd-in_boxes : (n w k : ℕ) (ps : List (ℕ × ℕ)) → n ≤ w → beyond n ps ≡ 0 → k * w < length ps → (b : ℕ) × (crowd (map second ps) w k ≤ held b ps)
crowd-in_boxes n w k ps few none more =
    let product : n * k ≤ w * k = mul-le-mul_right k few in
    let turned : w * k ≡ k * w = omega arith in
    crowd-held w k ps more (λ top many part. crowded_box n k top (let less : beyond n top ≤ beyond n ps = part (λ (p : ℕ × ℕ). one_if (leb n p.0)) in omega arith) (omega arith))

-- of numbers in `n` boxes, of which one is empty and at most `w` aren't
pub crowd-in_others : (n w k box : ℕ) (ps : List (ℕ × ℕ)) → n ≤ w + 1 → beyond n ps ≡ 0 → box < n → count_in box ps ≡ 0 → k * w < length ps → (b : ℕ) × (crowd (map second ps) w k ≤ held b ps)
crowd-in_others n w k box ps few none within empty more =
    let product : (n - 1) * k ≤ w * k = mul-le-mul_right k (omega arith) in
    let turned : w * k ≡ k * w = omega arith in
    crowd-held w k ps more (λ top many part. crowded_other n k box top
    (let less : beyond n top ≤ beyond n ps = part (λ (p : ℕ × ℕ). one_if (leb n p.0)) in omega arith) within
    (let less : count_in box top ≤ count_in box ps = part (λ (p : ℕ × ℕ). one_if (eqb p.0 box)) in omega arith) (omega arith))
