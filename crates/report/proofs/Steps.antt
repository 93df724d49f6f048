-- The steps of a load: its peak, and the load at a cycle.
use Rattle.std.proofs.Common.{◌≡◌, ℕ, zero, suc, ◌+◌, ◌-◌, ◌≤◌, ◌<◌, List, [], ◌∷◌, ◌++◌, map, refl, sym, ap, ◌∙◌, arith, inl, inr, nat_eq, filter}
use Rattle.std.specs.List.{range_with_len}
use Rattle.std.proofs.lemmas.Bool.{cases_lt, cases_Bool, le-leb, lt-leb, lt-ltb, le-ltb, eqb-true}
use Rattle.std.proofs.lemmas.List.{map-append}
use Rattle.std.proofs.lemmas.List.Elements.{filter-append}
use Rattle.plan_model.specs.Plans.{step_power}
use Rattle.live_tests.specs.Loads.{before, changes, load_steps, with_change}
use Rattle.live_tests.proofs.Sweeping.{steps_to}
use Rattle.report.specs.declared.peak.Peak.{Peak}
use Rattle.report.specs.Peaks.{higher, no_power, peak, peak_after}
use Rattle.common_lemmas.proofs.Ranges.{range_next}

-- ---- one cycle more

one_change : (f : ℕ → ℕ) (n : ℕ) → map (λ c. (c, f c)) (filter (changes f) (n ∷ [])) ≡ with_change (before f n) n (f n)
one_change f n = elim (cases_Bool (nat_eq (f n) (before f n))) [ inl same ↦ rw same refl | inr other ↦ rw other refl ]

step_more : (f : ℕ → ℕ) (n : ℕ) → steps_to f (suc n) ≡ steps_to f n ++ with_change (before f n) n (f n)
step_more f n =
    let e : 0 + n ≡ n = omega arith in
    ap (λ l. map (λ c. (c, f c)) (filter (changes f) l)) (range_next 0 n)
    ∙ ap (λ v. map (λ c. (c, f c)) (filter (changes f) (range_with_len 0 n ++ v ∷ []))) e
    ∙ ap (map (λ c. (c, f c))) (filter-append (changes f) (range_with_len 0 n) (n ∷ []))
    ∙ map-append (λ c. (c, f c)) (filter (changes f) (range_with_len 0 n)) (filter (changes f) (n ∷ []))
    ∙ ap (λ l. steps_to f n ++ l) (one_change f n)

steps_all : (f : ℕ → ℕ) (last : ℕ) → load_steps f last ≡ steps_to f (suc last)
steps_all f last = let e : last + 1 ≡ suc last = omega arith in ap (steps_to f) e

-- ---- the peak

peak_behind : (p : Peak) (xs ys : List (ℕ × ℕ)) → peak_after p (xs ++ ys) ≡ peak_after (peak_after p xs) ys
peak_behind p [] ys = refl
peak_behind p (x ∷ xs) ys = peak_behind (higher p x.0 x.1) xs ys

not_higher : (p : Peak) (cycle power : ℕ) → power ≤ p.power → higher p cycle power ≡ p
not_higher p cycle power low = rw (le-ltb p.power power low) refl

at_least : (p : Peak) (cycle power : ℕ) → power ≤ (higher p cycle power).power
at_least p cycle power = elim (cases_lt p.power power) [
  | inl more ↦ rw (lt-ltb p.power power more) (omega arith)
  | inr low ↦ rw (le-ltb p.power power low) low
]

-- where the load stays as it was, the peak does
over_change : (p : Peak) (was cycle power : ℕ) → was ≤ p.power → peak_after p (with_change was cycle power) ≡ higher p cycle power
over_change p was cycle power seen = elim (cases_Bool (nat_eq power was)) [
  | inl same ↦ rw same (sym (not_higher p cycle power (let e : power ≡ was = eqb-true power was same in omega arith)))
  | inr other ↦ rw other refl
]

peak_so_far : (f : ℕ → ℕ) (n : ℕ) → (peak_after no_power (steps_to f n) ≡ peak f n) × (before f n ≤ (peak f n).power)
unfolding peak
peak_so_far f zero = (refl, omega arith)
peak_so_far f (suc n) =
    let so_far : (peak_after no_power (steps_to f n) ≡ peak f n) × (before f n ≤ (peak f n).power) = peak_so_far f n in (
      ap (peak_after no_power) (step_more f n) ∙ peak_behind no_power (steps_to f n) (with_change (before f n) n (f n))
          ∙ ap (λ (p : Peak). peak_after p (with_change (before f n) n (f n))) so_far.0 ∙ over_change (peak f n) (before f n) n (f n) so_far.1,
      at_least (peak f n) n (f n),
    )

peak_of_next : (f : ℕ → ℕ) (n : ℕ) → f n ≡ 0 → peak f (suc n) ≡ peak f n
unfolding peak
peak_of_next f n none = not_higher (peak f n) n (f n) (omega (arith, none))

-- the peak of the steps is that of the load, which ends
pub peak_is : (f : ℕ → ℕ) (last : ℕ) → f last ≡ 0 → peak_after no_power (load_steps f last) ≡ peak f last
peak_is f last none = ap (peak_after no_power) (steps_all f last) ∙ (peak_so_far f (suc last)).0 ∙ peak_of_next f last none

-- ---- the load at a cycle

power_behind : (r now : ℕ) (xs ys : List (ℕ × ℕ)) → step_power r now (xs ++ ys) ≡ step_power r (step_power r now xs) ys
power_behind r now [] ys = refl
power_behind r now (x ∷ xs) ys = elim (cases_lt r x.0) [
  | inl later ↦ rw (lt-leb x.0 r later) (power_behind r now xs ys)
  | inr from ↦ rw (le-leb x.0 r from) (power_behind r x.1 xs ys)
]

-- a change that is reached, and one that comes later
reached : (r was cycle power : ℕ) → cycle ≤ r → step_power r was (with_change was cycle power) ≡ power
reached r was cycle power from = elim (cases_Bool (nat_eq power was)) [
  | inl same ↦ rw same (sym (eqb-true power was same))
  | inr other ↦ rw (other, le-leb cycle r from) refl
]

not_yet : (r now was cycle power : ℕ) → r < cycle → step_power r now (with_change was cycle power) ≡ now
not_yet r now was cycle power later = elim (cases_Bool (nat_eq power was)) [
  | inl same ↦ rw same refl
  | inr other ↦ rw (other, lt-leb cycle r later) refl
]

load_so_far : (f : ℕ → ℕ) (r n : ℕ) → n ≤ r + 1 → step_power r 0 (steps_to f n) ≡ before f n
load_so_far f r zero few = refl
load_so_far f r (suc n) few =
    ap (step_power r 0) (step_more f n) ∙ power_behind r 0 (steps_to f n) (with_change (before f n) n (f n))
    ∙ ap (λ v. step_power r v (with_change (before f n) n (f n))) (load_so_far f r n (omega arith)) ∙ reached r (before f n) n (f n) (omega arith)

load_stays : (f : ℕ → ℕ) (r k : ℕ) → step_power r 0 (steps_to f (suc r + k)) ≡ f r
load_stays f r zero = let e : suc r + 0 ≡ suc r = omega arith in ap (λ n. step_power r 0 (steps_to f n)) e ∙ load_so_far f r (suc r) (omega arith)
load_stays f r (suc k) =
    let n : ℕ = suc r + k in
    let e : suc r + suc k ≡ suc (suc r + k) = omega arith in
    ap (λ v. step_power r 0 (steps_to f v)) e ∙ ap (step_power r 0) (step_more f (suc r + k)) ∙ power_behind r 0 (steps_to f (suc r + k)) (with_change (before f (suc r + k)) (suc r + k) (f (suc r + k)))
    ∙ not_yet r (step_power r 0 (steps_to f (suc r + k))) (before f (suc r + k)) (suc r + k) (f (suc r + k)) (omega arith) ∙ load_stays f r k

-- of a load that is 0 from a cycle on
pub load_is : (f : ℕ → ℕ) (last r : ℕ) → ((c : ℕ) → last ≤ c → f c ≡ 0) → step_power r 0 (load_steps f last) ≡ f r
load_is f last r ends = ap (step_power r 0) (steps_all f last) ∙ elim (cases_lt last r) [
  | inl past ↦ load_so_far f r (suc last) (omega arith) ∙ ends last (omega arith) ∙ sym (ends r (omega arith))
  | inr within ↦
      let e : suc last ≡ suc r + (last - r) = omega arith in
      ap (λ n. step_power r 0 (steps_to f n)) e ∙ load_stays f r (last - r)
]
