-- Widths of ranks within the intervals of a case, from the case of a node to those of its branches.
use Rattle.std.proofs.Common.{◌≡◌, ℕ, zero, suc, ◌+◌, ◌-◌, ◌≤◌, ◌<◌, min, List, [], ◌∷◌, ◌++◌, length, get_or, map, take, drop, refl, ap, arith, inl, inr, Bool, true, false, not, ◌∙◌, sym, ◌⊎◌, nat_eq, ◌&&◌, if◌then◌else◌}
use Rattle.std.proofs.lemmas.Bool.{cases_lt, cases_Bool, cases_eq, eq-eqb, ne_eqb}
use Rattle.std.proofs.lemmas.List.{get_or-map, get_or_append_left, length-append}
use Rattle.std.proofs.lemmas.List.Sums.{sum_by-cons}
use Rattle.plan_model.specs.Bounds.{sum_below}
use Rattle.plan_model.proofs.SumsOverCycles.{sum_below-same}
use Rattle.leaf_bounds.specs.declared.widths.Interval.{Interval}
use Rattle.leaf_bounds.specs.Cases.{interval_of, least_wires, tightened_below, tightened_by, interval, Case, known_ranks, spare, tightened, extended, at_most, at_least, narrow, wide, placed_on, placed_off}
use Rattle.bus_proofs.specs.Cases.{with_rank}
use Rattle.std.specs.List.{list_any}
use Rattle.leaf_bounds.proofs.Trails.{front_length, tight_length}
use Rattle.leaf_bounds.proofs.PackSteps.{sum_below-first}

-- ==== widths of ranks, as a function, within the intervals of a case

-- ---- lists of which a part is mapped

module _ {X : Type 0} (g : X → X) where
  pub front_kept : (xs : List X) (n k : ℕ) (d : X) → k < length xs → k < n → get_or (take n xs ++ map g (drop n xs)) k d ≡ get_or xs k d
  front_kept [] n k d h less = absurd (omega arith)
  front_kept (x ∷ xs) zero k d h less = absurd (omega arith)
  front_kept (x ∷ xs) (suc n) zero d h less = refl
  front_kept (x ∷ xs) (suc n) (suc k) d h less = front_kept xs n k d (omega arith) (omega arith)

  pub back_mapped : (xs : List X) (n k : ℕ) (d : X) → k < length xs → n ≤ k → get_or (take n xs ++ map g (drop n xs)) k d ≡ g (get_or xs k d)
  back_mapped [] n k d h more = absurd (omega arith)
  back_mapped (x ∷ xs) zero k d h more = get_or-map g (x ∷ xs) k d d h
  back_mapped (x ∷ xs) (suc n) zero d h more = absurd (omega arith)
  back_mapped (x ∷ xs) (suc n) (suc k) d h more = back_mapped xs n k d (omega arith) (omega arith)

  pub back_length : (xs : List X) (n : ℕ) → length (take n xs ++ map g (drop n xs)) ≡ length xs
  back_length [] zero = refl
  back_length [] (suc n) = refl
  back_length (x ∷ xs) zero = ap suc (back_length xs zero)
  back_length (x ∷ xs) (suc n) = ap suc (back_length xs n)

  pub front_mapped : (xs : List X) (n k : ℕ) (d : X) → k < length xs → k < n → get_or (map g (take n xs) ++ drop n xs) k d ≡ g (get_or xs k d)
  front_mapped [] n k d h less = absurd (omega arith)
  front_mapped (x ∷ xs) zero k d h less = absurd (omega arith)
  front_mapped (x ∷ xs) (suc n) zero d h less = refl
  front_mapped (x ∷ xs) (suc n) (suc k) d h less = front_mapped xs n k d (omega arith) (omega arith)

  pub back_kept : (xs : List X) (n k : ℕ) (d : X) → n ≤ k → get_or (map g (take n xs) ++ drop n xs) k d ≡ get_or xs k d
  back_kept [] zero k d more = refl
  back_kept [] (suc n) k d more = refl
  back_kept (x ∷ xs) zero k d more = refl
  back_kept (x ∷ xs) (suc n) zero d more = absurd (omega arith)
  back_kept (x ∷ xs) (suc n) (suc k) d more = back_kept xs n k d (omega arith)

-- ---- sums of widths

module _ (f : ℕ → ℕ) where
  -- a term of a sum is at most the sum
  pub term-le : (n k : ℕ) → k < n → f k ≤ sum_below f n
  unfolding sum_below
  term-le zero k h = absurd (omega arith)
  term-le (suc n) k h = elim (cases_lt k n) [
    | inl less ↦ omega (arith, term-le n k less)
    | inr last ↦
        let same : k ≡ n = omega arith in
        let value = ap f same in
        omega arith
  ]

-- the widths are at least the least ones
abbrev pub AreLows : List Interval → (ℕ → ℕ) → Type 0
AreLows xs f = (k : ℕ) → k < length xs → (interval_of xs k).low ≤ f k

abbrev pub AreHighs : List Interval → (ℕ → ℕ) → Type 0
AreHighs xs f = (k : ℕ) → k < length xs → f k ≤ (interval_of xs k).high

lows_rest : (x : Interval) (xs : List Interval) (f : ℕ → ℕ) → AreLows (x ∷ xs) f → AreLows xs (λ k. f (suc k))
lows_rest x xs f lows k h = lows (suc k) (omega arith)

pub lows-le : (xs : List Interval) (f : ℕ → ℕ) → AreLows xs f → least_wires xs ≤ sum_below f (length xs)
lows-le [] f lows = omega arith
lows-le (x ∷ xs) f lows =
    let first = lows 0 (omega arith) in
    let ih = lows-le xs (λ k. f (suc k)) (lows_rest x xs f lows) in
    omega (arith, sum_by-cons (λ (i : Interval). i.low) x xs, sum_below-first f (length xs))

-- one width beside the least of the others
pub others-le : (xs : List Interval) (f : ℕ → ℕ) (k : ℕ) → k < length xs → AreLows xs f → f k + least_wires xs ≤ sum_below f (length xs) + (interval_of xs k).low
others-le [] f k h lows = absurd (omega arith)
others-le (x ∷ xs) f zero h lows =
    let rest = lows-le xs (λ k. f (suc k)) (lows_rest x xs f lows) in
    omega (arith, sum_by-cons (λ (i : Interval). i.low) x xs, sum_below-first f (length xs))
others-le (x ∷ xs) f (suc k) h lows =
    let first = lows 0 (omega arith) in
    let ih = others-le xs (λ k. f (suc k)) k (omega arith) (lows_rest x xs f lows) in
    omega (arith, sum_by-cons (λ (i : Interval). i.low) x xs, sum_below-first f (length xs))

-- all widths are the least ones and what is beyond them
pub beyond_lows : (xs : List Interval) (f : ℕ → ℕ) (n : ℕ) → length xs ≤ n → AreLows xs f → sum_below (λ k. f k - (interval_of xs k).low) n + least_wires xs ≡ sum_below f n
beyond_lows [] f n h lows =
    let same : sum_below (λ k. f k - (interval_of [] k).low) n ≡ sum_below f n = sum_below-same (λ k. f k - (interval_of [] k).low) f n (λ k l. omega arith) in
    let none : least_wires [] ≡ 0 = refl in
    omega arith
beyond_lows (x ∷ xs) f zero h lows = absurd (omega arith)
beyond_lows (x ∷ xs) f (suc n) h lows =
    let first = lows 0 (omega arith) in
    let ih = beyond_lows xs (λ k. f (suc k)) n (omega arith) (lows_rest x xs f lows) in
    omega (arith, sum_by-cons (λ (i : Interval). i.low) x xs, sum_below-first f n, sum_below-first (λ k. f k - (interval_of (x ∷ xs) k).low) n)

-- ---- tightening

abbrev pub Falls : (ℕ → ℕ) → Type 0
Falls f = (k : ℕ) → f (suc k) ≤ f k

pub falls_far : (f : ℕ → ℕ) → Falls f → (j k : ℕ) → j ≤ k → f k ≤ f j
falls_far f falls j zero h = let same : j ≡ 0 = omega arith in let value = ap f same in omega arith
falls_far f falls j (suc k) h = elim (cases_lt j (suc k)) [
  | inl less ↦ omega (arith, falls k, falls_far f falls j k (omega arith))
  | inr last ↦ let same : j ≡ suc k = omega arith in let value = ap f same in omega arith
]

module _ (more : ℕ) where
  below_low : (above : ℕ) (xs : List Interval) (k : ℕ) → (interval_of (tightened_below more above xs) k).low ≡ (interval_of xs k).low
  below_low above [] k = refl
  below_low above (x ∷ xs) zero = refl
  below_low above (x ∷ xs) (suc k) = below_low (min (min x.high (x.low + more)) above) xs k

  below_high : (above : ℕ) (xs : List Interval) (f : ℕ → ℕ) → Falls f → f 0 ≤ above → AreHighs xs f → ((k : ℕ) → k < length xs → f k ≤ (interval_of xs k).low + more) →
      (k : ℕ) → k < length xs → f k ≤ (interval_of (tightened_below more above xs) k).high
  below_high above [] f falls first highs few k h = absurd (omega arith)
  below_high above (x ∷ xs) f falls first highs few zero h =
      let a = highs 0 (omega arith) in
      let b = few 0 (omega arith) in
      omega arith
  below_high above (x ∷ xs) f falls first highs few (suc k) h =
      let a = highs 0 (omega arith) in
      let b = few 0 (omega arith) in
      let next = falls 0 in
      below_high (min (min x.high (x.low + more)) above) xs (λ k. f (suc k)) (λ k. falls (suc k)) (omega arith) (λ k h. highs (suc k) (omega arith)) (λ k h. few (suc k) (omega arith)) k (omega arith)

  pub tight_low : (xs : List Interval) (k : ℕ) → (interval_of (tightened_by more xs) k).low ≡ (interval_of xs k).low
  tight_low [] k = refl
  tight_low (x ∷ xs) k = below_low x.high (x ∷ xs) k

  pub tight_high : (xs : List Interval) (f : ℕ → ℕ) → Falls f → AreHighs xs f → ((k : ℕ) → k < length xs → f k ≤ (interval_of xs k).low + more) → (k : ℕ) → k < length xs →
      f k ≤ (interval_of (tightened_by more xs) k).high
  tight_high [] f falls highs few k h = absurd (omega arith)
  tight_high (x ∷ xs) f falls highs few k h = below_high x.high (x ∷ xs) f falls (highs 0 (omega arith)) highs few k h

-- ==== from the case of a node to those of its branches: widths and ranks that are in the one are in one of the others

-- The widths of ranks are `f`, the module at a place is on the bus of rank `rank` of it where it is `wired`; all this is in the case.
pub record IsIn (f rank : ℕ → ℕ) (wired : ℕ → Bool) (c : Case) : Type 0 where
  pub low : AreLows c.intervals f
  pub high : AreHighs c.intervals f
  pub may : (p : ℕ) → wired p ≡ true → rank p < length c.intervals → c.may p (rank p) ≡ true
  pub rest : (p : ℕ) → wired p ≡ true → length c.intervals ≤ rank p → c.may_rest p ≡ true

-- all widths together are on the wires
abbrev pub Fits : (ℕ → ℕ) → ℕ → Type 0
Fits f w = (n : ℕ) → sum_below f n ≤ w

-- ---- tightening

spare-le : {w : ℕ} {f : ℕ → ℕ} (xs : List Interval) → Fits f w → AreLows xs f → (k : ℕ) → k < length xs → f k ≤ (interval_of xs k).low + spare w xs
spare-le {w} {f} xs fits lows k h =
    let all = fits (length xs) in
    let others = others-le xs f k h lows in
    omega arith

pub tightened_in : {w : ℕ} {f rank : ℕ → ℕ} {wired : ℕ → Bool} {c : Case} → Falls f → Fits f w → IsIn f rank wired c → IsIn f rank wired (tightened w c)
tightened_in {w} {f} {c} falls fits is =
    let more = spare w c.intervals in
    let long = tight_length (spare w c.intervals) c.intervals in
    record {
      low = λ k h. rw (tight_low (spare w c.intervals) c.intervals k) (is.low k (omega arith));
      high = λ k h. tight_high (spare w c.intervals) c.intervals f falls is.high (spare-le c.intervals fits is.low) k (omega arith);
      may = λ p wired' less. is.may p wired' (omega arith);
      rest = λ p wired' more'. is.rest p wired' (omega arith);
    }

-- ---- one more rank

last_interval : (xs : List Interval) (i : Interval) (k : ℕ) → k ≡ length xs → interval_of (xs ++ i ∷ []) k ≡ i
last_interval [] i zero e = refl
last_interval [] i (suc k) e = absurd (omega arith)
last_interval (x ∷ xs) i zero e = absurd (omega arith)
last_interval (x ∷ xs) i (suc k) e = last_interval xs i k (omega arith)

module _ {w : ℕ} {f rank : ℕ → ℕ} {wired : ℕ → Bool} {c : Case} where
  extended_in : Fits f w → IsIn f rank wired c → IsIn f rank wired (extended w c)
  extended_in fits is =
      let long = length-append c.intervals (interval 0 w ∷ []) in
      record {
        low = λ k h. low k (cases_lt k (length c.intervals)) (omega arith);
        high = λ k h. high k (cases_lt k (length c.intervals)) (omega arith);
        may = λ p wired' less. may p wired' (cases_eq (rank p) (length c.intervals)) (omega arith);
        rest = λ p wired' more. is.rest p wired' (omega arith);
      }
    where
      low : (k : ℕ) → (k < length c.intervals) ⊎ (length c.intervals ≤ k) → k ≤ length c.intervals → (interval_of (c.intervals ++ interval 0 w ∷ []) k).low ≤ f k
      low k (inl less) h = rw (get_or_append_left c.intervals (interval 0 w ∷ []) (interval 0 0) k less) (is.low k less)
      low k (inr last) h = rw (last_interval c.intervals (interval 0 w) k (omega arith)) (omega arith)

      high : (k : ℕ) → (k < length c.intervals) ⊎ (length c.intervals ≤ k) → k ≤ length c.intervals → f k ≤ (interval_of (c.intervals ++ interval 0 w ∷ []) k).high
      high k (inl less) h = rw (get_or_append_left c.intervals (interval 0 w ∷ []) (interval 0 0) k less) (is.high k less)
      high k (inr last) h =
          let all = fits (suc k) in
          let one = term-le f (suc k) k (omega arith) in
          let few : f k ≤ w = omega arith in
          rw (last_interval c.intervals (interval 0 w) k (omega arith)) few

      may : (p : ℕ) → wired p ≡ true → (rank p ≡ length c.intervals) ⊎ (rank p ≡ length c.intervals → ⊥) → rank p ≤ length c.intervals → (if nat_eq (rank p) (length c.intervals) then c.may_rest p else c.may p (rank p)) ≡ true
      may p wired' (inl same) h = rw (eq-eqb (rank p) (length c.intervals) same) (is.rest p wired' (omega arith))
      may p wired' (inr other) h = rw (ne_eqb (rank p) (length c.intervals) other) (is.may p wired' (omega (arith, other)))

  pub with_rank_in : (k : ℕ) → Falls f → Fits f w → IsIn f rank wired c → IsIn f rank wired (with_rank w c k)
  with_rank_in k falls fits is = elim (cases_Bool (nat_eq k (known_ranks c))) [
    | inl yes' ↦ rw yes' (tightened_in falls fits (extended_in fits is))
    | inr no' ↦ rw no' is
  ]

-- ---- narrow and wide

module _ {f rank : ℕ → ℕ} {wired : ℕ → Bool} {c : Case} where
  pub narrow_in : (k width : ℕ) → Falls f → IsIn f rank wired c → f k ≤ width → IsIn f rank wired (narrow c k width)
  narrow_in k width falls is few =
      let long = back_length (at_most width) c.intervals k in
      record {
        low = λ q h. low q (omega arith) (cases_lt q k);
        high = λ q h. high q (omega arith) (cases_lt q k);
        may = λ p wired' less. is.may p wired' (omega arith);
        rest = λ p wired' more. is.rest p wired' (omega arith);
      }
    where
      low : (q : ℕ) → q < length c.intervals → (q < k) ⊎ (k ≤ q) → (interval_of (take k c.intervals ++ map (at_most width) (drop k c.intervals)) q).low ≤ f q
      low q h (inl less) = rw (front_kept (at_most width) c.intervals k q (interval 0 0) h less) (is.low q h)
      low q h (inr more) = rw (back_mapped (at_most width) c.intervals k q (interval 0 0) h more) (is.low q h)

      high : (q : ℕ) → q < length c.intervals → (q < k) ⊎ (k ≤ q) → f q ≤ (interval_of (take k c.intervals ++ map (at_most width) (drop k c.intervals)) q).high
      high q h (inl less) = rw (front_kept (at_most width) c.intervals k q (interval 0 0) h less) (is.high q h)
      high q h (inr more) =
          let a = falls_far f falls k q more in
          let b = is.high q h in
          rw (back_mapped (at_most width) c.intervals k q (interval 0 0) h more) (omega arith)

  pub wide_in : (k width : ℕ) → Falls f → IsIn f rank wired c → width < f k → IsIn f rank wired (wide c k width)
  wide_in k width falls is much =
      let long = front_length (at_least (width + 1)) c.intervals (k + 1) in
      record {
        low = λ q h. low q (omega arith) (cases_lt q (k + 1));
        high = λ q h. high q (omega arith) (cases_lt q (k + 1));
        may = λ p wired' less. is.may p wired' (omega arith);
        rest = λ p wired' more. is.rest p wired' (omega arith);
      }
    where
      low : (q : ℕ) → q < length c.intervals → (q < k + 1) ⊎ (k + 1 ≤ q) → (interval_of (map (at_least (width + 1)) (take (k + 1) c.intervals) ++ drop (k + 1) c.intervals) q).low ≤ f q
      low q h (inl less) =
          let a = falls_far f falls q k (omega arith) in
          let b = is.low q h in
          rw (front_mapped (at_least (width + 1)) c.intervals (k + 1) q (interval 0 0) h less) (omega arith)
      low q h (inr more) = rw (back_kept (at_least (width + 1)) c.intervals (k + 1) q (interval 0 0) more) (is.low q h)

      high : (q : ℕ) → q < length c.intervals → (q < k + 1) ⊎ (k + 1 ≤ q) → f q ≤ (interval_of (map (at_least (width + 1)) (take (k + 1) c.intervals) ++ drop (k + 1) c.intervals) q).high
      high q h (inl less) = rw (front_mapped (at_least (width + 1)) c.intervals (k + 1) q (interval 0 0) h less) (is.high q h)
      high q h (inr more) = rw (back_kept (at_least (width + 1)) c.intervals (k + 1) q (interval 0 0) more) (is.high q h)

  -- ---- a module on a rank, or on none of some

  pub placed_on_in : (k place : ℕ) → IsIn f rank wired c → k < length c.intervals → (wired place ≡ true → rank place ≡ k) → IsIn f rank wired (placed_on c k place)
  placed_on_in k place is within there = record {
    low = is.low;
    high = is.high;
    may = λ p wired' less. may p wired' less (cases_eq p place);
    rest = λ p wired' more. rest p wired' more (cases_eq p place);
  }
    where
      may : (p : ℕ) → wired p ≡ true → rank p < length c.intervals → (p ≡ place) ⊎ (p ≡ place → ⊥) → (if nat_eq p place then c.may p (rank p) && nat_eq (rank p) k else c.may p (rank p)) ≡ true
      may p wired' less (inl same) =
          let here : rank p ≡ k = ap rank same ∙ there (rw (← same) wired') in
          rw (eq-eqb p place same, is.may p wired' less) (eq-eqb (rank p) k here)
      may p wired' less (inr other) = rw (ne_eqb p place other) (is.may p wired' less)

      rest : (p : ℕ) → wired p ≡ true → length c.intervals ≤ rank p → (p ≡ place) ⊎ (p ≡ place → ⊥) → (if nat_eq p place then false else c.may_rest p) ≡ true
      rest p wired' more (inl same) =
          let here : rank p ≡ k = ap rank same ∙ there (rw (← same) wired') in
          absurd (omega arith)
      rest p wired' more (inr other) = rw (ne_eqb p place other) (is.rest p wired' more)

  pub placed_off_in : (ranks : List ℕ) (place : ℕ) → IsIn f rank wired c → list_any (nat_eq (rank place)) ranks ≡ false → IsIn f rank wired (placed_off c ranks place)
  placed_off_in ranks place is none = record {
    low = is.low;
    high = is.high;
    may = λ p wired' less. may p wired' less (cases_eq p place);
    rest = is.rest;
  }
    where
      may : (p : ℕ) → wired p ≡ true → rank p < length c.intervals → (p ≡ place) ⊎ (p ≡ place → ⊥) → (if nat_eq p place then c.may p (rank p) && not (list_any (nat_eq (rank p)) ranks) else c.may p (rank p)) ≡ true
      may p wired' less (inl same) =
          rw (eq-eqb p place same, is.may p wired' less, (ap (λ q. list_any (nat_eq (rank q)) ranks) same ∙ none)) refl
      may p wired' less (inr other) = rw (ne_eqb p place other) (is.may p wired' less)

-- ---- two ranks exchanged

abbrev pub exchanged : (k j : ℕ) → ℕ → ℕ
exchanged k j q = if nat_eq q k then j else if nat_eq q j then k else q

pub exchanged_in : {f rank : ℕ → ℕ} {wired : ℕ → Bool} {c : Case} (k j : ℕ) → IsIn f rank wired c → k < length c.intervals → j < length c.intervals →
    ((p : ℕ) → wired p ≡ true → c.may p j ≡ c.may p k) → IsIn f (λ p. exchanged k j (rank p)) wired c
exchanged_in {rank} {wired} {c} k j is k_within j_within alike = record {
  low = is.low;
  high = is.high;
  may = λ p wired' less. may p wired' less (cases_eq (rank p) k) (cases_eq (rank p) j);
  rest = λ p wired' more. rest p wired' more (cases_eq (rank p) k) (cases_eq (rank p) j);
}
  where
    may : (p : ℕ) → wired p ≡ true → exchanged k j (rank p) < length c.intervals → (rank p ≡ k) ⊎ (rank p ≡ k → ⊥) → (rank p ≡ j) ⊎ (rank p ≡ j → ⊥) → c.may p (exchanged k j (rank p)) ≡ true
    may p wired' less (inl same) _ =
        rw (eq-eqb (rank p) k same) (alike p wired' ∙ (ap (c.may p) (sym same) ∙ is.may p wired' (omega arith)))
    may p wired' less (inr other) (inl same) =
        rw (ne_eqb (rank p) k other, eq-eqb (rank p) j same) (sym (alike p wired') ∙ (ap (c.may p) (sym same) ∙ is.may p wired' (omega arith)))
    may p wired' less (inr other) (inr other') =
        let less' = rw (ne_eqb (rank p) k other, ne_eqb (rank p) j other') at less in
        rw (ne_eqb (rank p) k other, ne_eqb (rank p) j other') (is.may p wired' less')

    rest : (p : ℕ) → wired p ≡ true → length c.intervals ≤ exchanged k j (rank p) → (rank p ≡ k) ⊎ (rank p ≡ k → ⊥) → (rank p ≡ j) ⊎ (rank p ≡ j → ⊥) → c.may_rest p ≡ true
    rest p wired' more (inl same) _ = let more' = rw (eq-eqb (rank p) k same) at more in absurd (omega arith)
    rest p wired' more (inr other) (inl same) = let more' = rw (ne_eqb (rank p) k other, eq-eqb (rank p) j same) at more in absurd (omega arith)
    rest p wired' more (inr other) (inr other') =
        let more' = rw (ne_eqb (rank p) k other, ne_eqb (rank p) j other') at more in
        is.rest p wired' more'

-- where the module is on the second, it is on the first afterwards
pub exchanged_at : (k : ℕ) {j q : ℕ} → q ≡ j → exchanged k j q ≡ k
exchanged_at k {j} {q} e = go (cases_eq q k)
  where
    go : (q ≡ k) ⊎ (q ≡ k → ⊥) → exchanged k j q ≡ k
    go (inl same) = rw (eq-eqb q k same) (sym e ∙ same)
    go (inr other) = rw (ne_eqb q k other, eq-eqb q j e) refl

-- two modules are on one rank afterwards only where they were before
pub exchanged_back : (k j q r : ℕ) → exchanged k j q ≡ exchanged k j r → q ≡ r
exchanged_back k j q r e = go (cases_eq q k) (cases_eq q j) (cases_eq r k) (cases_eq r j)
  where
    go : (q ≡ k) ⊎ (q ≡ k → ⊥) → (q ≡ j) ⊎ (q ≡ j → ⊥) → (r ≡ k) ⊎ (r ≡ k → ⊥) → (r ≡ j) ⊎ (r ≡ j → ⊥) → q ≡ r
    go (inl a) _ (inl b) _ = a ∙ sym b
    go (inl a) _ (inr b) (inl d) = let e' = rw (eq-eqb q k a, ne_eqb r k b, eq-eqb r j d) at e in omega arith
    go (inl a) _ (inr b) (inr d) = let e' = rw (eq-eqb q k a, ne_eqb r k b, ne_eqb r j d) at e in absurd (d (sym e'))
    go (inr a) (inl x) (inl b) _ = let e' = rw (ne_eqb q k a, eq-eqb q j x, eq-eqb r k b) at e in omega arith
    go (inr a) (inl x) (inr b) (inl d) = x ∙ sym d
    go (inr a) (inl x) (inr b) (inr d) = let e' = rw (ne_eqb q k a, eq-eqb q j x, ne_eqb r k b, ne_eqb r j d) at e in absurd (b (sym e'))
    go (inr a) (inr x) (inl b) _ = let e' = rw (ne_eqb q k a, ne_eqb q j x, eq-eqb r k b) at e in absurd (x e')
    go (inr a) (inr x) (inr b) (inl d) = let e' = rw (ne_eqb q k a, ne_eqb q j x, ne_eqb r k b, eq-eqb r j d) at e in absurd (a e')
    go (inr a) (inr x) (inr b) (inr d) = rw (ne_eqb q k a, ne_eqb q j x, ne_eqb r k b, ne_eqb r j d) at e
