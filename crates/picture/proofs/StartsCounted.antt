-- How many rectangles of a band start before a cycle, by the sorted keys of their starts.
use Rattle.std.proofs.Common.{◌≡◌, ℕ, zero, suc, ◌+◌, ◌-◌, ◌^◌, ◌≤◌, ◌<◌, Bool, true, false, cond, Some, List, [], ◌∷◌, ◌++◌, length, get_or, map, take, refl, sym, ap, subst, ◌∙◌, arith, inl, inr, slice_get, nat_eq, nat_lt, ◌&&◌, count_by}
use Rattle.std.specs.List.{AllWithin}
use Rattle.std.specs.List.Sorted.{IsPartitionPoint}
use Rattle.std.proofs.lemmas.Bool.{cases_eq, cases_lt, eq-eqb, ne_eqb, lt-ltb, le-ltb}
use Rattle.std.proofs.lemmas.List.{map-append, take_more}
use Rattle.std.proofs.lemmas.List.Sorted.{sum_by-IsPermutation}
use Rattle.plan_model.proofs.Lists.{from_append}
use Rattle.picture.specs.declared.panels.Drawn.{Drawn}
use Rattle.picture.specs.Fills.{AreStartKeys, AreStarts, band, band_key, earlier, is_earlier, start_key}
use Rattle.common_lemmas.proofs.Lists.{only_one, count_cons, sum_map}

-- ---- how many pass a test

none_pass : (p : ℕ → Bool) (xs : List ℕ) → AllWithin (λ k. p k ≡ false) xs 0 (length xs) → count_by p xs ≡ 0
none_pass p [] fail = refl
none_pass p (x ∷ xs) fail =
    let fails : p x ≡ false = fail 0 0 (omega arith) (omega arith) in
    let here : ◌≡◌ {A = ℕ} (cond (p x) 1 0) 0 = rw fails refl in
    omega (arith, count_cons p x xs, here, none_pass p xs (λ k d low less. fail (suc k) d (omega arith) (omega (arith, less))))

-- the place at which a test changes is how many pass it
pub count_point : (p : ℕ → Bool) (xs : List ℕ) (n : ℕ) → n ≤ length xs → IsPartitionPoint (λ k. p k ≡ true) (λ k. p k ≡ false) xs n → n ≡ count_by p xs
count_point p [] n within point = omega (arith, within)
count_point p (x ∷ xs) zero within point = sym (none_pass p (x ∷ xs) (λ k d low less. point.1 k d (omega arith) less))
count_point p (x ∷ xs) (suc n) within point =
    let passes : p x ≡ true = point.0 0 0 (omega arith) (omega arith) in
    let here : ◌≡◌ {A = ℕ} (cond (p x) 1 0) 1 = rw passes refl in
    let rest = count_point p xs n (omega (arith, within)) (λ k d low less. point.0 (suc k) d (omega arith) (omega (arith, less)), λ k d low less. point.1 (suc k) d (omega (arith, low)) (omega (arith, less))) in
    omega (arith, count_cons p x xs, here, rest)

-- those that pass one of two other tests
pub count_split : (p q r : Drawn → Bool) (xs : List Drawn) → ((i : ℕ) (d : Drawn) → slice_get xs i ≡ Some d → ◌≡◌ {A = ℕ} (cond (p d) 1 0) (cond (q d) 1 0 + cond (r d) 1 0)) → count_by p xs ≡ count_by q xs + count_by r xs
count_split p q r [] each = refl
count_split p q r (x ∷ xs) each =
    omega (arith, count_cons p x xs, count_cons q x xs, count_cons r x xs, each 0 x refl, count_split p q r xs (λ i d at. each (suc i) d at))

-- ---- by keys

-- a key below that of a cycle is below that of the band, or in the band and earlier
key_counts : (a s b c : ℕ) → s < 2 ^ 64 → c < 2 ^ 64 → ◌≡◌ {A = ℕ} (cond (nat_lt (band_key a s) (band_key b c)) 1 0) (cond (nat_lt (band_key a s) (band_key b 0)) 1 0 + cond (nat_eq a b && nat_lt s c) 1 0)
key_counts a s b c small small' = elim (cases_lt a b) [
  | inl less ↦
      let below : band_key a s < band_key b 0 = omega (arith, less, small) in
      let below' : band_key a s < band_key b c = omega (arith, less, small) in
      let other : nat_eq a b ≡ false = ne_eqb a b (λ e. omega (arith, less, e)) in
      rw (lt-ltb (band_key a s) (band_key b 0) below, lt-ltb (band_key a s) (band_key b c) below', other) refl
  | inr more ↦ elim (cases_eq a b) [
    | inl same ↦
        let above : band_key b 0 ≤ band_key a s = omega (arith, same) in
        elim (cases_lt s c) [
          | inl early ↦
              let below : band_key a s < band_key b c = omega (arith, same, early) in
              rw (le-ltb (band_key a s) (band_key b 0) above, lt-ltb (band_key a s) (band_key b c) below, eq-eqb a b same, lt-ltb s c early) refl
          | inr late ↦
              let above' : band_key b c ≤ band_key a s = omega (arith, same, late) in
              rw (le-ltb (band_key a s) (band_key b 0) above, le-ltb (band_key a s) (band_key b c) above', eq-eqb a b same, le-ltb s c late) refl
        ]
    | inr other ↦
        let above : band_key b 0 ≤ band_key a s = omega (arith, more) in
        let above' : band_key b c ≤ band_key a s = omega (arith, more, other, small') in
        rw (le-ltb (band_key a s) (band_key b 0) above, le-ltb (band_key a s) (band_key b c) above', ne_eqb a b other) refl
  ]
]

-- the sorted keys below one are those of rectangles
by_drawn : (drawn : List Drawn) (keys : List ℕ) (key : ℕ) → AreStarts drawn keys → count_by (λ k. nat_lt k key) keys ≡ count_by (λ d. nat_lt (start_key d) key) drawn
by_drawn drawn keys key starts =
    sum_by-IsPermutation (λ k. cond (nat_lt k key) 1 0) (map start_key drawn) keys starts.once ∙ sum_map (λ k. cond (nat_lt k key) 1 0) start_key drawn

pub earlier_is : (drawn : List Drawn) (keys : List ℕ) (b c : ℕ) → c < 2 ^ 64 → AreStarts drawn keys → count_by (λ k. nat_lt k (band_key b c)) keys - count_by (λ k. nat_lt k (band_key b 0)) keys ≡ earlier drawn b c
earlier_is drawn keys b c small starts =
    let split = count_split (λ d. nat_lt (start_key d) (band_key b c)) (λ d. nat_lt (start_key d) (band_key b 0)) (is_earlier b c) drawn (λ i d at. key_counts (band d) d.rectangle.start b c (starts.small i d at) small) in
    omega (arith, by_drawn drawn keys (band_key b c) starts, by_drawn drawn keys (band_key b 0) starts, split)

-- ---- one rectangle more

pub keys_more : (drawn : List Drawn) (i : ℕ) (d : Drawn) (old new : List ℕ) → i < length drawn → (get_or drawn i d).rectangle.start < 2 ^ 64 → AreStartKeys (take i drawn) old → new ≡ old ++ start_key (get_or drawn i d) ∷ [] → AreStartKeys (take (i + 1) drawn) new
keys_more drawn i d old new less small so_far added =
    let x = get_or drawn i d in
    let more = take_more drawn i d less in
    record {
      all = added ∙ ap (λ l. l ++ start_key x ∷ []) so_far.all ∙ sym (map-append start_key (take i drawn) (x ∷ [])) ∙ ap (map start_key) (sym more);
      small = λ k e at.
          let at' : slice_get (take i drawn ++ x ∷ []) k ≡ Some e = subst (λ l. slice_get l k ≡ Some e) more at in
          elim (from_append (take i drawn) (x ∷ []) k e at') [
            | inl front ↦ so_far.small k e front
            | inr last ↦ subst (λ (f : Drawn). f.rectangle.start < 2 ^ 64) (only_one x e last.0 last.2) small
          ];
    }
