-- Whether a test fits at a start is decided, so there is a least start at which it fits.
use Rattle.std.proofs.Common.{◌≡◌, ◌⊎◌, inl, inr, ℕ, zero, suc, ◌+◌, ◌-◌, ◌<◌, ◌≤◌, max, min, true, Option, None, Some, List, [], ◌∷◌, length, refl, subst, arith, slice_get, IfSome}
use Rattle.std.proofs.lemmas.Bool.{cases_Bool, cases_lt}
use Rattle.resource_table.specs.declared.Placement.{Placement}
use Rattle.resource_table.specs.Jobs.{JobValue, test_at, cycles_of, Precedes, IsSoundJob}
use Rattle.resource_table.specs.Schedules.{at_start, exclude, end_of, last_end, precedes, power_at, power_of, IsActive, StaysWithin, Fits, IsEarliest}
use Rattle.resource_table.proofs.Ready.{precedes_from, precedes_to}
use Rattle.resource_table.proofs.Schedules.{fits_at_last}

-- ---- what is decided

-- a property of all items of a list
all_items : {X : Type 0} (P : X → Type 0) → ((x : X) → P x ⊎ (P x → ⊥)) → (xs : List X) → ((n : ℕ) (x : X) → slice_get xs n ≡ Some x → P x) ⊎ (((n : ℕ) (x : X) → slice_get xs n ≡ Some x → P x) → ⊥)
all_items P decide [] = inl (λ n x at. absurd cc)
all_items {X} P decide (y ∷ xs) = elim (decide y) [
  | inr none ↦ inr (λ all. none (all 0 y refl))
  | inl here ↦ elim (all_items P decide xs) [
    | inr none ↦ inr (λ all. none (λ n x at. all (suc n) x at))
    | inl rest ↦ inl (both here rest)
  ]
]
  where
    both : P y → ((n : ℕ) (x : X) → slice_get xs n ≡ Some x → P x) → (n : ℕ) (x : X) → slice_get (y ∷ xs) n ≡ Some x → P x
    both here rest zero x at = let same : y ≡ x = cc in subst P same here
    both here rest (suc n) x at = rest n x at

-- a property of all numbers below one
all_below : (P : ℕ → Type 0) → ((k : ℕ) → P k ⊎ (P k → ⊥)) → (n : ℕ) → ((k : ℕ) → k < n → P k) ⊎ (((k : ℕ) → k < n → P k) → ⊥)
all_below P decide zero = inl (λ k less. absurd (omega arith))
all_below P decide (suc n) = elim (all_below P decide n) [
  | inr none ↦ inr (λ all. none (λ k less. all k (omega arith)))
  | inl front ↦ elim (decide n) [
    | inr none ↦ inr (λ all. none (all n (omega arith)))
    | inl here ↦ inl (λ k less. elim (cases_lt k n) [
      | inl old ↦ front k old
      | inr new ↦ subst P (let same : n ≡ k = omega arith in same) here
    ])
  ]
]

-- the least number with a property
abbrev Least : (ℕ → Type 0) → Type 0
Least P = (m : ℕ) × P m × ((k : ℕ) → P k → m ≤ k)

least_below : (P : ℕ → Type 0) → ((k : ℕ) → P k ⊎ (P k → ⊥)) → (n : ℕ) → Least P ⊎ ((k : ℕ) → k < n → P k → ⊥)
least_below P decide zero = inr (λ k less p. omega arith)
least_below P decide (suc n) = elim (least_below P decide n) [
  | inl found ↦ inl found
  | inr none ↦ elim (decide n) [
    | inl here ↦ inl (n, here, λ k p. elim (cases_lt k n) [ inl less ↦ absurd (none k less p) | inr le ↦ le ])
    | inr not ↦ inr (λ k less p. elim (cases_lt k n) [
      | inl old ↦ none k old p
      | inr new ↦ not (subst P (let same : k ≡ n = omega arith in same) p)
    ])
  ]
]

least : (P : ℕ → Type 0) → ((k : ℕ) → P k ⊎ (P k → ⊥)) → (n : ℕ) → P n → Least P
least P decide n here = elim (least_below P decide (suc n)) [
  | inl found ↦ found
  | inr none ↦ absurd (none n (omega arith) here)
]

-- ---- whether a test fits

meets_decided : (job : JobValue) (test start : ℕ) (p : Placement) → (exclude (test_at job p.test) (test_at job test) ≡ true → (c : ℕ) → IsActive job p c → IsActive job (at_start test start) c → ⊥)
    ⊎ ((exclude (test_at job p.test) (test_at job test) ≡ true → (c : ℕ) → IsActive job p c → IsActive job (at_start test start) c → ⊥) → ⊥)
meets_decided job test start p = elim (cases_lt (max p.start start) (min (end_of job p) (start + cycles_of job test))) [
  | inr apart ↦ inl (λ clash c one other. omega (arith, one.0, one.1, other.0, other.1, apart))
  | inl meet ↦ elim (cases_Bool (exclude (test_at job p.test) (test_at job test))) [
    | inl clash ↦ inr (λ never. never clash (max p.start start) (omega arith, omega arith) (omega arith, omega arith))
    | inr free ↦ inl (λ clash. absurd cc)
  ]
]

within_decided : (limit : Option ℕ) (load : ℕ) → IfSome limit (λ most. load ≤ most) ⊎ (IfSome limit (λ most. load ≤ most) → ⊥)
within_decided None load = inl tt
within_decided (Some most) load = elim (cases_lt most load) [ inl more ↦ inr (λ le. omega arith) | inr le ↦ inl le ]

after_decided : (job : JobValue) (test start : ℕ) (p : Placement) → (Precedes job p.test test → end_of job p ≤ start) ⊎ ((Precedes job p.test test → end_of job p ≤ start) → ⊥)
after_decided job test start p = elim (cases_lt start (end_of job p)) [
  | inr over ↦ inl (λ before. over)
  | inl late ↦ elim (cases_Bool (precedes job p.test test)) [
    | inl before ↦ inr (λ all. let over = all (precedes_to job p.test test before) in omega arith)
    | inr free ↦ inl (λ before. let holds = precedes_from job p.test test before in absurd cc)
  ]
]

power_decided : (job : JobValue) (placed : List Placement) (test start : ℕ) → StaysWithin job placed test start ⊎ (StaysWithin job placed test start → ⊥)
power_decided job placed test start = elim (all_below P (λ r. within_decided job.power (power_at job placed (start + r) + power_of job test (start + r - start))) (cycles_of job test)) [
  | inl all ↦ inl (λ c active. subst (λ (v : ℕ). IfSome job.power (λ most. power_at job placed v + power_of job test (v - start) ≤ most)) (let same : start + (c - start) ≡ c = omega (arith, active.0) in same) (all (c - start) (omega (arith, active.0, active.1))))
  | inr none ↦ inr (λ within. none (λ r less. within (start + r) (omega arith, omega arith)))
]
  where
    P : ℕ → Type 0
    P r = IfSome job.power (λ most. power_at job placed (start + r) + power_of job test (start + r - start) ≤ most)

fits_decided : (job : JobValue) (placed : List Placement) (test start : ℕ) → Fits job placed test start ⊎ (Fits job placed test start → ⊥)
fits_decided job placed test start = elim (all_items (λ (p : Placement). exclude (test_at job p.test) (test_at job test) ≡ true → (c : ℕ) → IsActive job p c → IsActive job (at_start test start) c → ⊥) (meets_decided job test start) placed) [
  | inr none ↦ inr (λ fits. none (λ n p at clash c one other. fits.apart n p c at clash one other))
  | inl apart ↦ elim (power_decided job placed test start) [
    | inr none ↦ inr (λ fits. none fits.power)
    | inl power ↦ elim (all_items (λ (p : Placement). Precedes job p.test test → end_of job p ≤ start) (after_decided job test start) placed) [
      | inr none ↦ inr (λ fits. none fits.after)
      | inl after ↦ inl (record { apart = λ n p c at clash one other. apart n p at clash c one other; power = power; after = after })
    ]
  ]
]

-- beside any placed tests there is a least start at which a test fits
pub some_earliest : (job : JobValue) (placed : List Placement) (test : ℕ) → IsSoundJob job → test < length job.tests → (start : ℕ) × IsEarliest job placed test start
some_earliest job placed test sound inside =
    let r = least (Fits job placed test) (fits_decided job placed test) (last_end job placed) (fits_at_last job placed test sound inside) in
    (r.0, record { fits = r.1; least = r.2 })
