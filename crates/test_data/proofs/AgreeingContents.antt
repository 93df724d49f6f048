-- A content that agrees with data that suits a chip.
use Rattle.std.proofs.Common.{◌≡◌, ◌⊎◌, inl, inr, ℕ, zero, suc, ◌-◌, ◌<◌, ◌≤◌, Bool, true, false, List, [], ◌∷◌, get_or, position, cond, Option, None, Some, refl, sym, ◌∙◌, ap, arith, eq-eqb, find, slice_get, count_by, filter}
use Rattle.std.proofs.lemmas.Bool.{cases_Bool, cases_order}
use Rattle.std.proofs.lemmas.List.Sums.{sum_by-cons}
use Rattle.std.proofs.lemmas.List.Quantifiers.{position-Some}
use Rattle.std.proofs.lemmas.Option.{slice_get-get_or}
use Rattle.soc_model.specs.declared.Test.{Test}
use Rattle.soc_model.specs.declared.TestId.{TestId}
use Rattle.soc_model.specs.Chips.{ModuleValue, SocValue, same_test}
use Rattle.soc_model.specs.Lookups.{test_places}
use Rattle.soc_model.specs.SoundChips.{IsSoundChip}
use Rattle.plan_model.specs.Cells.{Cell, In, Flop, Out, is_loaded, is_read, cells_of, stimulus_cells, response_cells}
use Rattle.plan_model.specs.Runs.{Content}
use Rattle.plan_model.proofs.CellsOnce.{same_cell, cells_once}
use Rattle.plan_model.proofs.Finding.{none_passes}
use Rattle.plan_model.proofs.Sums.{two-le-sum_by}
use Rattle.test_data.specs.declared.DataBit.{DataBit}
use Rattle.test_data.specs.declared.DataBit.TheVariants.{Zero, One, Any}
use Rattle.test_data.specs.DataWords.{PatternValue, EntryValue}
use Rattle.test_data.specs.DataPlaces.{pattern_of}
use Rattle.test_data.specs.Suiting.{name_in}
use Rattle.test_data.specs.Agreement.{IsTamTest, Suits, driven_bit, MayShow, IsPatternOf, Agrees}
use Rattle.test_data.proofs.SuitedData.{id_itself, same_id, places_of}

-- ---- the place of a cell

same_itself : (x : Cell) → same_cell x x ≡ true
same_itself (In k) = eq-eqb k k refl
same_itself (Flop c i) = rw (eq-eqb c c refl, eq-eqb i i refl) refl
same_itself (Out k) = eq-eqb k k refl

-- fewer pass among those that another test lets through
count_filter : (p q : Cell → Bool) (xs : List Cell) → count_by p (filter q xs) ≤ count_by p xs
count_filter p q [] = omega arith
count_filter p q (x ∷ xs) = by (cases_Bool (q x)) (count_filter p q xs)
  where
    by : (q x ≡ true) ⊎ (q x ≡ false) → count_by p (filter q xs) ≤ count_by p xs → count_by p (filter q (x ∷ xs)) ≤ count_by p (x ∷ xs)
    by (inl yes') rest = rw yes' (omega (arith, sum_by-cons (λ y. cond (p y) 1 0) x (filter q xs), sum_by-cons (λ y. cond (p y) 1 0) x xs))
    by (inr no') rest = rw no' (omega (arith, sum_by-cons (λ y. cond (p y) 1 0) x xs))

-- two places count twice
twice : (p : Cell → Bool) (cells : List Cell) (a b : ℕ) (x y : Cell) → a < b → slice_get cells a ≡ Some x → slice_get cells b ≡ Some y → p x ≡ true → p y ≡ true → 2 ≤ count_by p cells
twice p cells a b x y less at there one two =
    let both = rw (one, two) at (two-le-sum_by (λ z. cond (p z) 1 0) cells a b x y less at there) in
    both

one_place : (p : Cell → Bool) (cells : List Cell) (a b : ℕ) (x y : Cell) → count_by p cells ≤ 1 → slice_get cells a ≡ Some x → slice_get cells b ≡ Some y → p x ≡ true → p y ≡ true → a ≡ b
one_place p cells a b x y few at there one two = elim (cases_order a b) [
  | inl same ↦ same
  | inr other ↦ elim other [
    | inl less ↦ absurd (omega (arith, twice p cells a b x y less at there one two))
    | inr more ↦ absurd (omega (arith, twice p cells b a y x more there at two one))
  ]
]

place_found : (cells : List Cell) (n : ℕ) (x : Cell) → count_by (same_cell x) cells ≤ 1 → slice_get cells n ≡ Some x → (o : Option ℕ) → position (same_cell x) cells ≡ o → o ≡ Some n
place_found cells n x few at None none = let no : same_cell x x ≡ false = none_passes (same_cell x) cells none n x at in let yes' : same_cell x x ≡ true = same_itself x in absurd cc
place_found cells n x few at (Some q) found =
    let first = position-Some (same_cell x) cells q x found in
    ap Some (one_place (same_cell x) cells q n (get_or cells q x) x few (slice_get-get_or cells q x first.0) at first.1 (same_itself x))

-- ---- the bits of a test

cells_of_test : (ModuleValue → Bool → List Cell) → ModuleValue → Option Test → List Cell
cells_of_test f m None = []
cells_of_test f m (Some t) = f m t.scan

cells_in : (ModuleValue → Bool → List Cell) → Option ModuleValue → ℕ → List Cell
cells_in f None n = []
cells_in f (Some m) n = cells_of_test f m (slice_get m.tests n)

cells_at : (ModuleValue → Bool → List Cell) → SocValue → Option (ℕ × ℕ) → List Cell
cells_at f soc None = []
cells_at f soc (Some at) = cells_in f (slice_get soc.modules at.0) at.1

named_cells : (f : ModuleValue → Bool → List Cell) (soc : SocValue) → IsSoundChip soc → (m : ModuleValue) (t : Test) → (is : IsTamTest soc m t) → cells_at f soc (test_places soc (name_in m t)) ≡ f m t.scan
unfolding cells_of_test cells_in cells_at
named_cells f soc sound m t is =
    ap (cells_at f soc) (places_of soc sound m t is) ∙ ap (λ (o : Option ModuleValue). cells_in f o is.at) is.module_at ∙ ap (cells_of_test f m) is.test_at

bits_of_pattern : (PatternValue → List DataBit) → Option PatternValue → List DataBit
bits_of_pattern part None = []
bits_of_pattern part (Some p) = part p

find_only : (p : EntryValue → Bool) (xs : List EntryValue) (n : ℕ) (x : EntryValue) → slice_get xs n ≡ Some x → p x ≡ true → ((q : ℕ) (y : EntryValue) → slice_get xs q ≡ Some y → p y ≡ true → q ≡ n) → find p xs ≡ Some x
find_only p [] n x at yes' only = absurd cc
find_only p (y ∷ xs) zero x at yes' only = let same : y ≡ x = cc in let here : p y ≡ true = ap p same ∙ yes' in rw here (ap Some same)
find_only p (y ∷ xs) (suc n) x at yes' only = by (cases_Bool (p y)) (find_only p xs n x at yes' (λ q z there is. let e : suc q ≡ suc n = only (suc q) z there is in omega (arith, e)))
  where
    by : (p y ≡ true) ⊎ (p y ≡ false) → find p xs ≡ Some x → find p (y ∷ xs) ≡ Some x
    by (inl first) rest = let e : 0 ≡ suc n = only 0 y refl first in absurd (omega (arith, e))
    by (inr no') rest = rw no' rest

entry_found : (soc : SocValue) (es : List EntryValue) → Suits soc es → (m : ModuleValue) (t : Test) (k : ℕ) (p : PatternValue) → (is : IsPatternOf soc es m t k p) → find (λ (e : EntryValue). same_test e.test (name_in m t)) es ≡ Some is.entry
entry_found soc es suits m t k p is =
    find_only (λ (e : EntryValue). same_test e.test (name_in m t)) es is.place is.entry is.at (ap (λ i. same_test i (name_in m t)) is.named ∙ id_itself (name_in m t))
    (λ q e there same. (suits.each m t is.tested).only q e there (same_id e.test (name_in m t) same) ∙ sym ((suits.each m t is.tested).only is.place is.entry is.at is.named))

bits_named : (PatternValue → List DataBit) → List EntryValue → TestId → ℕ → List DataBit
bits_named part es id k = bits_of_pattern part (pattern_of (find (λ (e : EntryValue). same_test e.test id) es) (k - 1))

named_bits : (part : PatternValue → List DataBit) (soc : SocValue) (es : List EntryValue) → Suits soc es → (m : ModuleValue) (t : Test) (k : ℕ) (p : PatternValue) → IsPatternOf soc es m t k p → bits_named part es (name_in m t) k ≡ part p
unfolding bits_of_pattern bits_named
named_bits part soc es suits m t k p is =
    let before : k - 1 ≡ is.before = omega (arith, is.number_is) in
    ap (λ o. bits_of_pattern part (pattern_of o (k - 1))) (entry_found soc es suits m t k p is) ∙ ap (λ n. bits_of_pattern part (slice_get is.entry.patterns n)) before ∙ ap (bits_of_pattern part) is.pattern

-- ---- the content

shown_bit : Option DataBit → Bool
shown_bit None = false
shown_bit (Some b) = driven_bit b

bit_at : List DataBit → Option ℕ → Bool
bit_at bits None = false
bit_at bits (Some n) = shown_bit (slice_get bits n)

bit_is : (bits : List DataBit) (cells : List Cell) (n : ℕ) (x : Cell) (b : DataBit) → count_by (same_cell x) cells ≤ 1 → slice_get cells n ≡ Some x → slice_get bits n ≡ Some b → bit_at bits (position (same_cell x) cells) ≡ driven_bit b
unfolding shown_bit bit_at
bit_is bits cells n x b few at there = ap (bit_at bits) (place_found cells n x few at (position (same_cell x) cells) refl) ∙ ap shown_bit there

bit_of_test : (ModuleValue → Bool → List Cell) → (PatternValue → List DataBit) → SocValue → List EntryValue → TestId → ℕ → Cell → Bool
bit_of_test f part soc es id k x = bit_at (bits_named part es id k) (position (same_cell x) (cells_at f soc (test_places soc id)))

bit_in_test : (f : ModuleValue → Bool → List Cell) (part : PatternValue → List DataBit) (soc : SocValue) (es : List EntryValue) → IsSoundChip soc → Suits soc es → (m : ModuleValue) (t : Test) (k n : ℕ) (p : PatternValue) (x : Cell) (b : DataBit) →
    IsPatternOf soc es m t k p → count_by (same_cell x) (f m t.scan) ≤ 1 → slice_get (f m t.scan) n ≡ Some x → slice_get (part p) n ≡ Some b → bit_of_test f part soc es (name_in m t) k x ≡ driven_bit b
unfolding bit_of_test
bit_in_test f part soc es sound suits m t k n p x b is few at there =
    ap (λ bits. bit_at bits (position (same_cell x) (cells_at f soc (test_places soc (name_in m t))))) (named_bits part soc es suits m t k p is)
    ∙ ap (λ cells. bit_at (part p) (position (same_cell x) cells)) (named_cells f soc sound m t is.tested)
    ∙ bit_is (part p) (f m t.scan) n x b few at there

content_of : SocValue → List EntryValue → Content
content_of soc es = record {
  initial = λ id x. false;
  stimulus = bit_of_test stimulus_cells (λ (p : PatternValue). p.load) soc es;
  response = bit_of_test response_cells (λ (p : PatternValue). p.unload) soc es;
}

may_show : (b : DataBit) (shown : Bool) → shown ≡ driven_bit b → MayShow b shown
may_show Zero shown e = e
may_show One shown e = e
may_show Any shown e = tt

few_cells : (q : Cell → Bool) (m : ModuleValue) (scan : Bool) (x : Cell) → count_by (same_cell x) (filter q (cells_of m scan)) ≤ 1
few_cells q m scan x = omega (arith, count_filter (same_cell x) q (cells_of m scan), cells_once m scan x)

pub agreeing : (soc : SocValue) (es : List EntryValue) → IsSoundChip soc → Suits soc es → (content : Content) × Agrees soc es content
unfolding content_of
agreeing soc es sound suits = (
  content_of soc es,
  record {
    stimulus = λ m t k n p x b is at there.
        bit_in_test stimulus_cells (λ (p : PatternValue). p.load) soc es sound suits m t k n p x b is (few_cells is_loaded m t.scan x) at there;
    response = λ m t k n p x b is at there.
        may_show b (bit_of_test response_cells (λ (p : PatternValue). p.unload) soc es (name_in m t) k x)
        (bit_in_test response_cells (λ (p : PatternValue). p.unload) soc es sound suits m t k n p x b is (few_cells is_read m t.scan x) at there);
  },
)
