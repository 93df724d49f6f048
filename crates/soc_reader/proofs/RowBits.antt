-- The rows that were given of a subject, one bit each.
use Rattle.std.proofs.Common.{◌≡◌, ◌∙◌, sym, ap, refl, ℕ, ◌≤◌, ◌^◌, ◌&&◌, ◌||◌, Bool, true, false, Option, None, Some, option_map, is_some, slice_get, cond, eqb, nat_eq, arith, inl, inr, not, if◌then◌else◌}
use Rattle.std.specs.Int.Bits.{bit_and, bit_or}
use Rattle.std.proofs.lemmas.Grind.{common_steps}
use Rattle.std.proofs.lemmas.Bool.{cases_Bool, eqb-true, ne_eqb}
use Rattle.std.proofs.lemmas.Option.{same_Some, slice_get-map}
use Rattle.std.proofs.lemmas.Nat.{and_comm, or_comm, and_or_self, and_or_apart, pow_apart, pow_pos}
use Rattle.std.specs.Option.{option_map_or}
use Rattle.std.specs.Cmp.{IsEquivalence, decided}
use Rattle.indexmap.specs.IndexMap.{IndexMap, values, with_value_at, IsUnique}
use Rattle.indexmap.proofs.CallerLemmas.{updates-with_value_at}
use Rattle.soc_reader.specs.declared.keys.Given.{Given}
use Rattle.soc_reader.specs.declared.keys.Subject.{Subject}
use Rattle.soc_reader.specs.declared.keys.Subject.TheVariants.{Chip, OfModule, OfTest}
use Rattle.soc_reader.specs.declared.keys.Key.{Key}
use Rattle.soc_reader.specs.Marks.{bits_of, has_row, is_marked, is_same, with_row}
use Rattle.soc_reader.specs.Grammar.{same_subject, row}
use Rattle.common_lemmas.proofs.Tests.{both_true}
use lib.Bits.{and_zero_r}

-- ---- subjects

same_turned : (u s : Subject) → is_same u s ≡ same_subject s u
same_turned Chip Chip = refl
same_turned Chip (OfModule n) = refl
same_turned Chip (OfTest n u) = refl
same_turned (OfModule m) Chip = refl
same_turned (OfModule m) (OfModule n) = grind (arith, common_steps)
same_turned (OfModule m) (OfTest n u) = refl
same_turned (OfTest m t) Chip = refl
same_turned (OfTest m t) (OfModule n) = refl
same_turned (OfTest m t) (OfTest n u) = grind (arith, common_steps)

subject_same : (s u : Subject) → same_subject s u ≡ true → s ≡ u
subject_same Chip Chip e = refl
subject_same Chip (OfModule n) e = cc
subject_same Chip (OfTest n u) e = cc
subject_same (OfModule m) Chip e = cc
subject_same (OfModule m) (OfModule n) e = ap OfModule (eqb-true m n e)
subject_same (OfModule m) (OfTest n u) e = cc
subject_same (OfTest m t) Chip e = cc
subject_same (OfTest m t) (OfModule n) e = cc
subject_same (OfTest m t) (OfTest n u) e =
    let parts = both_true (nat_eq m n) (nat_eq t u) e in
    let first = eqb-true m n parts.0 in
    let second = eqb-true t u parts.1 in
    cc

subject_is : (s u : Subject) → is_same s u ≡ true → s ≡ u
subject_is s u e = sym (subject_same u s (sym (same_turned s u) ∙ e))

same_self : (s : Subject) → is_same s s ≡ true
same_self Chip = refl
same_self (OfModule n) = grind (arith, common_steps)
same_self (OfTest n u) = grind (arith, common_steps)

same_laws : IsEquivalence is_same
same_laws = decided is_same (λ s u. (subject_is s u, λ e. sym (ap (λ v. is_same v u) (sym e)) ∙ same_self u))

-- ---- rows

bit_is : (n : ℕ) → not (nat_eq (bit_and (2 ^ n) (2 ^ n)) 0) ≡ true
bit_is n =
    let same : bit_and (2 ^ n) (2 ^ n) ≡ 2 ^ n = grind (arith, common_steps) in
    let some : 1 ≤ 2 ^ n = omega (arith, pow_pos n) in
    rw same (none (2 ^ n) some)
  where
    none : (n : ℕ) → 1 ≤ n → not (nat_eq n 0) ≡ true
    none n h = rw (ne_eqb n 0 (λ e. omega (arith, e, h))) refl

set_row : (bits n : ℕ) → not (nat_eq (bit_and (bit_or bits (2 ^ n)) (2 ^ n)) 0) ≡ true
set_row bits n = rw (and_or_self (2 ^ n) bits) (rw (one n) (bit_is n)) where
  one : (n : ℕ) → 2 ^ n ≡ bit_and (2 ^ n) (2 ^ n)
  one n = grind (arith, common_steps)

-- one row more
row_more : (bits i j : ℕ) → not (nat_eq (bit_and (bit_or bits (2 ^ j)) (2 ^ i)) 0) ≡ (nat_eq i j || not (nat_eq (bit_and bits (2 ^ i)) 0))
row_more bits i j = elim (cases_Bool (eqb i j)) [
  | inl yes' ↦
      let same : i ≡ j = eqb-true i j yes' in
      rw (yes', same) (set_row bits j)
  | inr no' ↦ rw (no', and_or_apart (2 ^ i) bits (2 ^ j) (pow_apart j i (λ e. other (sym e) no'))) refl
]
  where
    other : i ≡ j → eqb i j ≡ false → ⊥
    other e no' = absurd (grind (arith, common_steps))

-- the first row
row_first : (i j : ℕ) → not (nat_eq (bit_and (2 ^ j) (2 ^ i)) 0) ≡ nat_eq i j
row_first i j = elim (cases_Bool (eqb i j)) [
  | inl yes' ↦
      let same : i ≡ j = eqb-true i j yes' in
      rw (yes', same) (bit_is j)
  | inr no' ↦ rw (no', pow_apart j i (λ e. other (sym e) no')) refl
]
  where
    other : i ≡ j → eqb i j ≡ false → ⊥
    other e no' = absurd (grind (arith, common_steps))

-- ---- marks

-- one row more of a subject of which rows were given
pub marked_more : {S : Type 0} (old new : IndexMap Subject ℕ S) (g : Given) (bit : ℕ) (t : Bool) → bit ≡ 2 ^ row g.key → t ≡ is_some (bits_of old g.subject) → t ≡ true → ((s : Subject) → bits_of new s ≡ with_row g.subject bit s (bits_of old s)) →
    (s : Subject) (k : Key) → is_marked s k new ≡ ((same_subject s g.subject && nat_eq (row k) (row g.key)) || is_marked s k old)
marked_more old new g bit t is there yes' next s k = ap (λ o. has_row o k) (next s) ∙ elim (cases_Bool (same_subject s g.subject)) [
  | inr other ↦ rw (other, same_turned g.subject s ∙ other) refl
  | inl same ↦
      let one : s ≡ g.subject = subject_same s g.subject same in
      rw (same, same_turned g.subject s ∙ same, is) (some (bits_of old s) (sym (ap (λ v. is_some (bits_of old v)) one ∙ sym there ∙ yes')))
]
  where
    some : (o : Option ℕ) → true ≡ is_some o → has_row (option_map (λ bits. bit_or bits (2 ^ row g.key)) o) k ≡ (nat_eq (row k) (row g.key) || has_row o k)
    some None h = absurd cc
    some (Some bits) h = row_more bits (row k) (row g.key)

-- one row more of a subject, or its first
pub marked_any : {S : Type 0} (old new : IndexMap Subject ℕ S) (g : Given) (bit : ℕ) → bit ≡ 2 ^ row g.key → ((s : Subject) → bits_of new s ≡ (if is_same g.subject s then Some (option_map_or (λ rows. bit_or rows bit) (bits_of old g.subject) bit) else bits_of old s)) →
    (s : Subject) (k : Key) → is_marked s k new ≡ ((same_subject s g.subject && nat_eq (row k) (row g.key)) || is_marked s k old)
marked_any old new g bit is next s k = ap (λ o. has_row o k) (next s) ∙ elim (cases_Bool (same_subject s g.subject)) [
  | inr other ↦ rw (other, same_turned g.subject s ∙ other) refl
  | inl same ↦
      let one : s ≡ g.subject = subject_same s g.subject same in
      rw (same, same_turned g.subject s ∙ same, is, ap (λ v. bits_of old v) one) (any (bits_of old g.subject))
]
  where
    or_none : (b : Bool) → b ≡ (b || false)
    or_none true = refl
    or_none false = refl

    any : (o : Option ℕ) → has_row (Some (option_map_or (λ rows. bit_or rows (2 ^ row g.key)) o (2 ^ row g.key))) k ≡ (nat_eq (row k) (row g.key) || has_row o k)
    any None = row_first (row k) (row g.key) ∙ or_none (nat_eq (row k) (row g.key))
    any (Some bits) = row_more bits (row k) (row g.key)

-- one row more, written where the subject stands
row_at : {S : Type 0} (old : IndexMap Subject ℕ S) (place rows bit : ℕ) (found subject : Subject) → IsUnique is_same old → slice_get old.entries place ≡ Some (found, rows) → bits_of old found ≡ Some rows → is_same found subject ≡ true →
    (s : Subject) → bits_of (with_value_at old place (bit_or rows bit)) s ≡ with_row subject bit s (bits_of old s)
row_at old place rows bit found subject unique at known same s =
    let one : found ≡ subject = subject_is found subject same in
    let there : slice_get old.entries place ≡ Some (subject, rows) = at ∙ ap (λ v. Some (v, rows)) one in
    (updates-with_value_at old place (bit_or rows bit) same_laws unique subject rows there).0 s ∙ by (is_same subject s) refl
  where
    by : (b : Bool) → is_same subject s ≡ b → cond b (Some (bit_or rows bit)) (bits_of old s) ≡ (if b then option_map (λ bits. bit_or bits bit) (bits_of old s) else bits_of old s)
    by false e = refl
    by true e = sym (ap (option_map (λ bits. bit_or bits bit)) (ap (λ v. bits_of old v) (sym (subject_is found subject same ∙ subject_is subject s e)) ∙ known))

abbrev rows_of : Subject × ℕ → ℕ
rows_of e = e.1

pub row_written : {S : Type 0} (old : IndexMap Subject ℕ S) (place written rows bit : ℕ) (found subject : Subject) (t : Bool) → IsUnique is_same old → Some (found, rows) ≡ slice_get old.entries place → bits_of old found ≡ Some rows →
    Some written ≡ slice_get (values old) place → t ≡ is_same found subject → t ≡ true →
    (s : Subject) → bits_of (with_value_at old place (bit_or written bit)) s ≡ with_row subject bit s (bits_of old s)
row_written old place written rows bit found subject t unique at known back is yes' s =
    let one : written ≡ rows = same_Some written rows (back ∙ slice_get-map rows_of old.entries place ∙ ap (option_map rows_of) (sym at)) in
    ap (λ v. bits_of (with_value_at old place (bit_or v bit)) s) one ∙ row_at old place rows bit found subject unique (sym at) known (sym is ∙ yes') s

-- what is noted goes by marks that are left as they were
pub marked_left : {S : Type 0} (old left new : IndexMap Subject ℕ S) (g : Given) → left ≡ old → ((s : Subject) (k : Key) → is_marked s k new ≡ ((same_subject s g.subject && nat_eq (row k) (row g.key)) || is_marked s k left)) →
    (s : Subject) (k : Key) → is_marked s k new ≡ ((same_subject s g.subject && nat_eq (row k) (row g.key)) || is_marked s k old)
marked_left old left new g same next s k = next s k ∙ ap (λ m. (same_subject s g.subject && nat_eq (row k) (row g.key)) || is_marked s k m) same

-- a row is put in the place of those before, and these are noted again
pub noted_again : {S : Type 0} (old put new : IndexMap Subject ℕ S) (subject : Subject) (bit rows : ℕ) → ((s : Subject) → bits_of put s ≡ cond (is_same subject s) (Some bit) (bits_of old s)) → ((s : Subject) → bits_of new s ≡ with_row subject rows s (bits_of put s)) → Some rows ≡ bits_of old subject →
    (s : Subject) → bits_of new s ≡ (if is_same subject s then Some (option_map_or (λ rows. bit_or rows bit) (bits_of old subject) bit) else bits_of old s)
noted_again old put new subject bit rows first next known s = next s ∙ by (is_same subject s) refl
  where
    by : (b : Bool) → is_same subject s ≡ b → (if b then option_map (λ x. bit_or x rows) (bits_of put s) else bits_of put s) ≡ (if b then Some (option_map_or (λ rows. bit_or rows bit) (bits_of old subject) bit) else bits_of old s)
    by false e = first s ∙ ap (λ b. cond b (Some bit) (bits_of old s)) e
    by true e =
        ap (option_map (λ x. bit_or x rows)) (first s ∙ ap (λ b. cond b (Some bit) (bits_of old s)) e) ∙ ap Some (or_comm bit rows) ∙ ap (λ o. Some (option_map_or (λ rows. bit_or rows bit) o bit)) known

zero_row : (n : ℕ) → bit_and 0 (2 ^ n) ≡ 0
zero_row n = and_comm 0 (2 ^ n) ∙ and_zero_r (2 ^ n)

-- no row more of a subject, or none of it yet
pub rows-opened : {S : Type 0} (old new : IndexMap Subject ℕ S) (subject : Subject) → ((s : Subject) → bits_of new s ≡ (if is_same subject s then Some (option_map_or (λ rows. bit_or rows 0) (bits_of old subject) 0) else bits_of old s)) →
    (s : Subject) (k : Key) → is_marked s k new ≡ is_marked s k old
rows-opened old new subject next s k = ap (λ o. has_row o k) (next s) ∙ by (is_same subject s) refl
  where
    any : (o : Option ℕ) → has_row (Some (option_map_or (λ rows. bit_or rows 0) o 0)) k ≡ has_row o k
    any None = ap (λ n. not (nat_eq n 0)) (zero_row (row k))
    any (Some rows) = ap (λ n. not (nat_eq n 0)) (and_or_apart (2 ^ row k) rows 0 (zero_row (row k)))

    by : (b : Bool) → is_same subject s ≡ b → has_row (if b then Some (option_map_or (λ rows. bit_or rows 0) (bits_of old subject) 0) else bits_of old s) k ≡ has_row (bits_of old s) k
    by false e = refl
    by true e = any (bits_of old subject) ∙ ap (λ v. has_row (bits_of old v) k) (subject_is subject s e)
