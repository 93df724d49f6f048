-- There is one start solution: the order of its modules is fixed.
use Rattle.std.proofs.Common.{◌≡◌, ℕ, suc, ◌+◌, ◌<◌, ◌≤◌, ◌⊎◌, inl, inr, cond, List, [], ◌∷◌, length, get_or, nat_eq, refl, sym, ◌∙◌, ap, subst, arith}
use Rattle.std.specs.List.{AllPairs}
use Rattle.std.proofs.lemmas.List.Sums.{sum_by-cons}
use Rattle.width_table.specs.Tables.{TableValue, time_of}
use Rattle.std.specs.Prelude.{Result, Ok, Err, IfOk}
use Rattle.outside.specs.declared.NoMemory.{NoMemory}
use Rattle.bus_model.specs.declared.Arch.{Arch}
use Rattle.bus_model.specs.Buses.{BusValue, arch_value}
use Rattle.bus_model.specs.Sound.{times_listed}
use Rattle.bus_model.specs.Start.{StandsBefore, IsStartOrder, IsStart, start_of}
use Rattle.bus_model.proofs.Times.{only_at, only_at-same}

same_or_not : (x y : ℕ) → (x ≡ y) ⊎ (only_at x y ≡ 0)
same_or_not x y = grind arith

not_same : (x y : ℕ) → only_at x y ≡ 0 → only_at y x ≡ 0
not_same x y h = grind arith

listed-cons : (p x : ℕ) (xs : List ℕ) → times_listed p (x ∷ xs) ≡ only_at x p + times_listed p xs
listed-cons p x xs = sum_by-cons (λ q. cond (nat_eq q p) 1 0) x xs

-- what is listed stands somewhere
listed_at : (p : ℕ) (xs : List ℕ) → 1 ≤ times_listed p xs → (j : ℕ) × (j < length xs) × (get_or xs j p ≡ p)
listed_at p [] h = absurd (omega arith)
listed_at p (x ∷ xs) h = elim (same_or_not x p) [
  | inl e ↦ (0, omega arith, e)
  | inr differ ↦ later p x xs (listed_at p xs (let k = listed-cons p x xs in omega arith))
]
  where
    later : (p x : ℕ) (xs : List ℕ) → (j : ℕ) × (j < length xs) × (get_or xs j p ≡ p) → (j : ℕ) × (j < length (x ∷ xs)) × (get_or (x ∷ xs) j p ≡ p)
    later p x xs found = (suc found.0, (let low = found.1 in omega arith), found.2)

-- the first of ordered numbers stands before any other that is listed
first_before : (P : ℕ → ℕ → Type 0) (y p : ℕ) (ys : List ℕ) → AllPairs P (y ∷ ys) → only_at y p ≡ 0 → 1 ≤ times_listed p (y ∷ ys) → P y p
first_before P y p ys pairs differ some =
    let k = listed-cons p y ys in
    let found = listed_at p ys (omega arith) in
    let low = found.1 in
    subst (P y) found.2 (pairs 0 (suc found.0) p (omega arith) (omega arith))

rest_pairs : (P : ℕ → ℕ → Type 0) (x : ℕ) (xs : List ℕ) → AllPairs P (x ∷ xs) → AllPairs P xs
rest_pairs P x xs pairs i j d less h = pairs (suc i) (suc j) d (omega arith) (omega arith)

-- two ordered lists of the same numbers are one
one_order : (P : ℕ → ℕ → Type 0) → ((p q : ℕ) → P p q → P q p → ⊥) → (xs ys : List ℕ) → ((p : ℕ) → times_listed p xs ≡ times_listed p ys) → AllPairs P xs → AllPairs P ys → xs ≡ ys
one_order P once [] [] same up down = refl
one_order P once [] (y ∷ ys) same up down = absurd (let e = same y in let k = listed-cons y y ys in let o = only_at-same y in omega arith)
one_order P once (x ∷ xs) [] same up down = absurd (let e = same x in let k = listed-cons x x xs in let o = only_at-same x in omega arith)
one_order P once (x ∷ xs) (y ∷ ys) same up down = elim (same_or_not x y) [
  | inl e ↦ ap (λ z. z ∷ xs) e ∙ ap (λ zs. y ∷ zs) (one_order P once xs ys (λ p. fewer p e) (rest_pairs P x xs up) (rest_pairs P y ys down))
  | inr differ ↦ absurd (once x y
      (first_before P x y xs up differ (let e = same y in let k = listed-cons y y ys in let o = only_at-same y in omega arith))
      (first_before P y x ys down (not_same x y differ) (let e = same x in let k = listed-cons x x xs in let o = only_at-same x in omega arith)))
]
  where
    fewer : (p : ℕ) → x ≡ y → times_listed p xs ≡ times_listed p ys
    fewer p e =
        let a = same p in
        let b = listed-cons p x xs in
        let c = listed-cons p y ys in
        let d = ap (λ z. only_at z p) e in
        omega arith

not_both : (s t p q : ℕ) → (t < s) ⊎ ((s ≡ t) × (p < q)) → (s < t) ⊎ ((t ≡ s) × (q < p)) → ⊥
not_both s t p q one two = grind arith

stands_once : (table : TableValue) (p q : ℕ) → StandsBefore table p q → StandsBefore table q p → ⊥
stands_once table p q one two = not_both (time_of table p 1) (time_of table q 1) p q one two

pub one_start : (table : TableValue) (arch other : List BusValue) → IsStart table arch → IsStart table other → other ≡ arch
one_start table arch other start again =
    again.2 ∙ (ap (start_of table) (one_order (StandsBefore table) (stands_once table) again.0 start.0
    (λ p. again.1.once p ∙ sym (start.1.once p)) again.1.longest_first start.1.longest_first)
    ∙ sym start.2)

-- what the calls for few and for many modules answer is the only start solution
pub only_start : (table : TableValue) (order : List ℕ) (result : Result Arch NoMemory) → IsStartOrder table order → IfOk result (λ arch. arch_value arch ≡ start_of table order)
    → IfOk result (λ arch. (other : List BusValue) → IsStart table other → other ≡ arch_value arch)
only_start table order (Ok arch) ordered is = λ other again. one_start table (arch_value arch) other (order, ordered, is) again
only_start table order (Err e) ordered is = tt
