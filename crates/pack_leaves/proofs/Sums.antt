-- Sums over the first places: one place on its own, and places that all differ.
use Rattle.std.proofs.Common.{◌≡◌, ℕ, zero, suc, ◌+◌, ◌<◌, ◌≤◌, refl, sym, ap, arith, inl, inr, nat_eq, if◌then◌else◌}
use Rattle.std.proofs.lemmas.Bool.{cases_eq, eq-eqb, ne_eqb}
use Rattle.plan_model.specs.Bounds.{sum_below}
use Rattle.plan_model.proofs.SumsOverCycles.{sum_below-same}

pub sum_next : (f : ℕ → ℕ) (n : ℕ) → sum_below f (suc n) ≡ sum_below f n + f n
unfolding sum_below
sum_next f n = refl

pub sum_none : (f : ℕ → ℕ) → sum_below f 0 ≡ 0
unfolding sum_below
sum_none f = refl

-- the function, but for one place
abbrev pub put_at : {X : Type 0} → (ℕ → X) → ℕ → X → ℕ → X
put_at f p x i = if nat_eq i p then x else f i

pub put_same : {X : Type 0} (f : ℕ → X) (p : ℕ) (x : X) → put_at f p x p ≡ x
put_same f p x = rw (eq-eqb p p refl) refl

pub put_other : {X : Type 0} (f : ℕ → X) (p i : ℕ) (x : X) → (i ≡ p → ⊥) → put_at f p x i ≡ f i
put_other f p i x other = rw (ne_eqb i p other) refl

-- a sum over places before that one stays
pub put_behind : {X : Type 0} (f : ℕ → X) (g : ℕ → X → ℕ) (n p : ℕ) (x : X) → n ≤ p → sum_below (λ i. g i (put_at f p x i)) n ≡ sum_below (λ i. g i (f i)) n
put_behind f g n p x within = sum_below-same (λ i. g i (put_at f p x i)) (λ i. g i (f i)) n (λ i less. ap (g i) (put_other f p i x (λ e. omega (arith, e, less, within))))

-- one place on its own
pub sum_apart : (g : ℕ → ℕ) (n p : ℕ) → p < n → sum_below g n ≡ g p + sum_below (put_at g p 0) n
sum_apart g zero p less = absurd (omega (arith, less))
sum_apart g (suc n) p less = elim (cases_eq p n) [
  | inl last ↦
      let here : put_at g p 0 n ≡ 0 = rw (sym last) (put_same g p 0) in
      let rest : sum_below (put_at g p 0) n ≡ sum_below g n = put_behind g (λ i x. x) n p 0 (omega (arith, last)) in
      let same : g p ≡ g n = ap g last in
      omega (arith, here, rest, same, sum_next g n, sum_next (put_at g p 0) n)
  | inr other ↦
      let here : put_at g p 0 n ≡ g n = put_other g p n 0 (λ e. other (sym e)) in
      let ih : sum_below g n ≡ g p + sum_below (put_at g p 0) n = sum_apart g n p (omega (arith, less, other)) in
      omega (arith, here, ih, sum_next g n, sum_next (put_at g p 0) n)
]

-- places below `n` that all differ have no more together than all places
pub differing-le : (places : ℕ → ℕ) (g : ℕ → ℕ) (count n : ℕ) → ((i : ℕ) → i < count → places i < n) →
    ((i j : ℕ) → i < count → j < count → places i ≡ places j → i ≡ j) → sum_below (λ i. g (places i)) count ≤ sum_below g n
differing-le places g zero n within differ = omega (arith, sum_none (λ i. g (places i)))
differing-le places g (suc count) n within differ =
    let less : (i : ℕ) → i < count → i < suc count = (λ i l. omega (arith, l)) in
    let ih : sum_below (λ i. put_at g (places count) 0 (places i)) count ≤ sum_below (put_at g (places count) 0) n =
    differing-le places (put_at g (places count) 0) count n (λ i l. within i (less i l)) (λ i j l m e. differ i j (less i l) (less j m) e) in
    let same : sum_below (λ i. put_at g (places count) 0 (places i)) count ≡ sum_below (λ i. g (places i)) count =
    sum_below-same (λ i. put_at g (places count) 0 (places i)) (λ i. g (places i)) count
    (λ i l. put_other g (places count) (places i) 0 (λ e. let one : i ≡ count = differ i count (less i l) (omega arith) e in omega (arith, l, one))) in
    omega (arith, ih, same, sum_next (λ i. g (places i)) count, sum_apart g n (places count) (within count (omega arith)))
