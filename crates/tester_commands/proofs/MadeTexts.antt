-- What is written part by part is the text of the made contents.
use Rattle.std.proofs.Common.{◌≡◌, ◌≢◌, ℕ, zero, suc, ◌+◌, ◌*◌, ◌%◌, ◌⊎◌, inl, inr, true, false, nat_eq, List, [], ◌∷◌, ◌++◌, length, map, Some, refl, sym, ◌∙◌, ap, subst, arith, eq-eqb, slice_get, codes, filter, flat_map, sum_by}
use Rattle.std.specs.List.{range_with_len, position_or_len}
use Rattle.std.proofs.lemmas.Bool.{cases_Bool, and_parts, ne_eqb}
use Rattle.std.proofs.lemmas.Grind.{flat_map-append}
use Rattle.std.proofs.lemmas.List.{length-append, length-map}
use Rattle.std.proofs.lemmas.List.FromFn.{length-range_with_len}
use Rattle.std.proofs.lemmas.List.Sums.{sum_by-cons}
use Rattle.std.proofs.lemmas.Option.{slice_get-map, slice_get_within, get_or_from_slice_get, same_Some}
use Rattle.soc_model.specs.declared.Test.{Test}
use Rattle.soc_model.specs.Chips.{ModuleValue, SocValue, is_live}
use Rattle.soc_model.specs.Modes.{is_tam, scan_lengths}
use Rattle.soc_model.specs.SoundChips.{IsSoundChip, IsSoundModule, AllDiffer}
use Rattle.plan_model.specs.Cells.{Cell, stimulus_cells, response_cells}
use Rattle.vector_lines.specs.Made.{made_content, made_stimulus, made_response, made_from}
use Rattle.vector_lines.specs.Places.{stimulus_place, response_place}
use Rattle.vector_lines.proofs.MadeBits.{made_from_is}
use Rattle.vector_lines.proofs.PlacedLanes.{of_the_live}
use Rattle.vector_lines.proofs.Responses.{response_number}
use Rattle.vector_lines.proofs.Stimuli.{stimulus_number}
use Rattle.test_data.specs.declared.DataBit.{DataBit}
use Rattle.test_data.specs.declared.misfits.Wanted.{Wanted}
use Rattle.test_data.specs.DataWords.{PatternValue}
use Rattle.test_data.specs.Suiting.{wanted_for, name_in}
use Rattle.tester_commands.specs.DataText.{bit_byte, bits_word, pattern_line, test_line, entry_lines, data_text}
use Rattle.tester_commands.specs.ContentEntries.{data_bit, pattern_of, entry_of, entries_in, entries_of}
use Rattle.tester_commands.specs.DataParts.{PartValue, made_bits, made_pattern, made_lines, part_text, parts_text, parts_in, parts_from, word_length, part_length}

-- ---- the bits of a test

differ_tail : (n : ℕ) (ns : List ℕ) → AllDiffer (n ∷ ns) → AllDiffer ns
differ_tail n ns d p q k a b = let e : suc p ≡ suc q = d (suc p) (suc q) k a b in omega arith

zero_suc : (n : ℕ) → 0 ≡ suc n → ⊥
zero_suc n e = cc

first_place : (ts : List Test) (q : ℕ) (t : Test) → AllDiffer (map (λ (t : Test). t.number) ts) → slice_get ts q ≡ Some t → position_or_len (λ (u : Test). nat_eq u.number t.number) ts ≡ q
first_place [] q t d at = absurd cc
first_place (u ∷ ts) zero t d at =
    let same : u ≡ t = same_Some u t at in
    rw (same, eq-eqb t.number t.number refl) refl
first_place (u ∷ ts) (suc q) t d at =
    let there : slice_get (map (λ (t : Test). t.number) ts) q ≡ Some t.number = slice_get-map (λ (t : Test). t.number) ts q ∙ rw at refl in
    let other : u.number ≢ t.number = λ e. zero_suc q (d 0 (suc q) t.number (ap Some e) there) in
    let more : 1 + q ≡ suc q = omega arith in
    rw (ne_eqb u.number t.number other) (ap (λ v. 1 + v) (first_place ts q t (differ_tail u.number (map (λ (t : Test). t.number) ts) d) at) ∙ more)

sound_module : (soc : SocValue) → IsSoundChip soc → (p : ℕ) (m : ModuleValue) → slice_get soc.modules p ≡ Some m → IsSoundModule m
sound_module soc sound p m at = subst IsSoundModule (get_or_from_slice_get soc.modules p m m at) (sound.modules p m (slice_get_within soc.modules p m at))

abbrev base_at : (seed p q : ℕ) → ℕ
base_at seed p q = (seed + 31 * p + 17 * q) % 997

stimulus_is : (soc : SocValue) → IsSoundChip soc → (seed p q : ℕ) (m : ModuleValue) (t : Test) → slice_get soc.modules p ≡ Some m → slice_get m.tests q ≡ Some t → is_live t ≡ true → (k : ℕ) (x : Cell) →
    (made_content soc seed).stimulus (name_in m t) k x ≡ made_from (base_at seed p q) k (stimulus_place (m.inputs + m.bidirs) (scan_lengths m t.scan) x) 0
unfolding made_content
stimulus_is soc sound seed p q m t at there live k x =
    of_the_live soc sound p q m t at there live (λ l. made_stimulus seed l k x)
    ∙ rw (first_place m.tests q t (sound_module soc sound p m at).tests_differ there) (sym (made_from_is seed p q k _ 0))

response_is : (soc : SocValue) → IsSoundChip soc → (seed p q : ℕ) (m : ModuleValue) (t : Test) → slice_get soc.modules p ≡ Some m → slice_get m.tests q ≡ Some t → is_live t ≡ true → (k : ℕ) (x : Cell) →
    (made_content soc seed).response (name_in m t) k x ≡ made_from (base_at seed p q) k (response_place (scan_lengths m t.scan) x) 1
unfolding made_content
response_is soc sound seed p q m t at there live k x =
    of_the_live soc sound p q m t at there live (λ l. made_response seed l k x)
    ∙ rw (first_place m.tests q t (sound_module soc sound p m at).tests_differ there) (sym (made_from_is seed p q k _ 1))

-- a list made of cells is one made of their numbers
by_number : (f : Cell → DataBit) (g : ℕ → DataBit) (cells : List Cell) (from : ℕ) → ((n : ℕ) (x : Cell) → slice_get cells n ≡ Some x → f x ≡ g (from + n)) → map f cells ≡ map g (range_with_len from (length cells))
by_number f g [] from each = refl
by_number f g (x ∷ cells) from each =
    let here : from + 0 ≡ from = omega arith in
    let others : map f cells ≡ map g (range_with_len (from + 1) (length cells)) =
    by_number f g cells (from + 1) (λ n y at. let place : from + suc n ≡ from + 1 + n = omega arith in each (suc n) y at ∙ ap g place) in
    ap (λ b. b ∷ map f cells) (each 0 x refl ∙ ap g here) ∙ ap (λ bs. g from ∷ bs) others

abbrev two : List DataBit → List DataBit → PatternValue
two a b = record { load = a; unload = b }

both : (a b c d : List DataBit) → a ≡ b → c ≡ d → two b d ≡ two a c
both a b c d e f = ap (λ (x : List DataBit). two x d) (sym e) ∙ ap (λ (x : List DataBit). two a x) (sym f)

pattern_is : (soc : SocValue) → IsSoundChip soc → (seed p q : ℕ) (m : ModuleValue) (t : Test) → slice_get soc.modules p ≡ Some m → slice_get m.tests q ≡ Some t → is_live t ≡ true → (k : ℕ) →
    made_pattern (base_at seed p q) (wanted_for m t) k ≡ pattern_of (made_content soc seed) m t k
pattern_is soc sound seed p q m t at there live k =
    let content = made_content soc seed in
    let load : (pattern_of content m t k).load ≡ made_bits (base_at seed p q) k 0 (length (stimulus_cells m t.scan)) =
    by_number (λ (x : Cell). data_bit (content.stimulus (name_in m t) k x)) (λ n. data_bit (made_from (base_at seed p q) k n 0)) (stimulus_cells m t.scan) 0
    (λ n x here. let start : n ≡ 0 + n = omega arith in ap data_bit (stimulus_is soc sound seed p q m t at there live k x ∙ ap (λ i. made_from (base_at seed p q) k i 0) (stimulus_number m t.scan x n here ∙ start))) in
    let unload : (pattern_of content m t k).unload ≡ made_bits (base_at seed p q) k 1 (length (response_cells m t.scan)) =
    by_number (λ (x : Cell). data_bit (content.response (name_in m t) k x)) (λ n. data_bit (made_from (base_at seed p q) k n 1)) (response_cells m t.scan) 0
    (λ n x here. let start : n ≡ 0 + n = omega arith in ap data_bit (response_is soc sound seed p q m t at there live k x ∙ ap (λ i. made_from (base_at seed p q) k i 1) (response_number m t.scan x n here ∙ start))) in
    both (pattern_of content m t k).load (made_bits (base_at seed p q) k 0 (length (stimulus_cells m t.scan))) (pattern_of content m t k).unload (made_bits (base_at seed p q) k 1 (length (response_cells m t.scan))) load unload

-- ---- the texts of parts

lines_are : (soc : SocValue) → IsSoundChip soc → (seed p q : ℕ) (m : ModuleValue) (t : Test) → slice_get soc.modules p ≡ Some m → slice_get m.tests q ≡ Some t → is_live t ≡ true → (from count : ℕ) →
    made_lines (base_at seed p q) (wanted_for m t) from count ≡ flat_map pattern_line (map (pattern_of (made_content soc seed) m t) (range_with_len from count))
lines_are soc sound seed p q m t at there live from zero = refl
lines_are soc sound seed p q m t at there live from (suc count) =
    ap (λ (x : PatternValue). pattern_line x ++ made_lines (base_at seed p q) (wanted_for m t) (from + 1) count) (pattern_is soc sound seed p q m t at there live from)
    ∙ ap (λ rest. pattern_line (pattern_of (made_content soc seed) m t from) ++ rest) (lines_are soc sound seed p q m t at there live (from + 1) count)

in_module : (soc : SocValue) → IsSoundChip soc → (seed p : ℕ) (m : ModuleValue) → slice_get soc.modules p ≡ Some m → (q : ℕ) (ts : List Test) → ((i : ℕ) (t : Test) → slice_get ts i ≡ Some t → slice_get m.tests (q + i) ≡ Some t) →
    parts_text (parts_in seed p m q ts) ≡ flat_map entry_lines (map (entry_of (made_content soc seed) m) (filter is_tam ts))
in_module soc sound seed p m at q [] there = refl
in_module soc sound seed p m at q (t ∷ ts) there =
    by (cases_Bool (is_tam t))
    (in_module soc sound seed p m at (q + 1) ts (λ i u here. let place : q + 1 + i ≡ q + suc i = omega arith in ap (slice_get m.tests) place ∙ there (suc i) u here))
  where
    here : slice_get m.tests q ≡ Some t
    here = let place : q ≡ q + 0 = omega arith in ap (slice_get m.tests) place ∙ there 0 t refl

    by : (is_tam t ≡ true) ⊎ (is_tam t ≡ false) → parts_text (parts_in seed p m (q + 1) ts) ≡ flat_map entry_lines (map (entry_of (made_content soc seed) m) (filter is_tam ts)) →
        parts_text (parts_in seed p m q (t ∷ ts)) ≡ flat_map entry_lines (map (entry_of (made_content soc seed) m) (filter is_tam (t ∷ ts)))
    by (inl yes') rest =
        let live : is_live t ≡ true = (and_parts (is_live t) t.tam yes').0 in
        rw yes'
        (ap (λ lines. (test_line (name_in m t) ++ lines) ++ parts_text (parts_in seed p m (q + 1) ts)) (lines_are soc sound seed p q m t at here live 1 t.patterns)
        ∙ ap (λ others. entry_lines (entry_of (made_content soc seed) m t) ++ others) rest)
    by (inr no') rest = rw no' rest

from_modules : (soc : SocValue) → IsSoundChip soc → (seed p : ℕ) (ms : List ModuleValue) → ((i : ℕ) (m : ModuleValue) → slice_get ms i ≡ Some m → slice_get soc.modules (p + i) ≡ Some m) →
    parts_text (parts_from seed p ms) ≡ flat_map entry_lines (flat_map (entries_in (made_content soc seed)) ms)
from_modules soc sound seed p [] there = refl
from_modules soc sound seed p (m ∷ ms) there =
    let place : p ≡ p + 0 = omega arith in
    let here : slice_get soc.modules p ≡ Some m = ap (slice_get soc.modules) place ∙ there 0 m refl in
    flat_map-append part_text (parts_in seed p m 0 m.tests) (parts_from seed (p + 1) ms)
    ∙ ap (λ x. x ++ parts_text (parts_from seed (p + 1) ms)) (in_module soc sound seed p m here 0 m.tests (λ i t at. let start : 0 + i ≡ i = omega arith in ap (slice_get m.tests) start ∙ at))
    ∙ ap (λ x. flat_map entry_lines (entries_in (made_content soc seed) m) ++ x)
    (from_modules soc sound seed (p + 1) ms (λ i n at. let next : p + 1 + i ≡ p + suc i = omega arith in ap (slice_get soc.modules) next ∙ there (suc i) n at))
    ∙ sym (flat_map-append entry_lines (entries_in (made_content soc seed) m) (flat_map (entries_in (made_content soc seed)) ms))

pub whole_text : (soc : SocValue) → IsSoundChip soc → (seed : ℕ) → codes "Data 1\n" ++ parts_text (parts_from seed 0 soc.modules) ≡ data_text (entries_of soc (made_content soc seed))
unfolding data_text entries_of
whole_text soc sound seed = ap (λ x. codes "Data 1\n" ++ x) (from_modules soc sound seed 0 soc.modules (λ i m at. let start : 0 + i ≡ i = omega arith in ap (slice_get soc.modules) start ∙ at))

-- ---- their lengths

word_long : (base k side count : ℕ) → length (bits_word (made_bits base k side count)) ≡ word_length count
word_long base k side zero = omega arith
word_long base k side (suc count) =
    let numbers = range_with_len 0 (suc count) in
    let made : length (map (λ n. data_bit (made_from base k n side)) numbers) ≡ suc count = length-map numbers (λ n. data_bit (made_from base k n side)) ∙ length-range_with_len 0 (suc count) in
    let all : length (map bit_byte (map (λ n. data_bit (made_from base k n side)) numbers)) ≡ suc count = length-map (map (λ n. data_bit (made_from base k n side)) numbers) bit_byte ∙ made in
    omega (arith, all)

line_long : (base : ℕ) (w : Wanted) (k : ℕ) → length (pattern_line (made_pattern base w k)) ≡ word_length w.load + word_length w.unload + 2
line_long base w k =
    let load = bits_word (made_bits base k 0 w.load) in
    let unload = bits_word (made_bits base k 1 w.unload) in
    let a : length (load ++ (32 ∷ (unload ++ 10 ∷ []))) ≡ length load + length (32 ∷ (unload ++ 10 ∷ [])) = length-append load (32 ∷ (unload ++ 10 ∷ [])) in
    let b : length (unload ++ 10 ∷ []) ≡ length unload + 1 = length-append unload (10 ∷ []) in
    let c : length load ≡ word_length w.load = word_long base k 0 w.load in
    let d : length unload ≡ word_length w.unload = word_long base k 1 w.unload in
    omega (arith, a, b, c, d)

lines_long : (base : ℕ) (w : Wanted) (from count : ℕ) → length (made_lines base w from count) ≡ count * (word_length w.load + word_length w.unload + 2)
lines_long base w from zero = omega arith
lines_long base w from (suc count) =
    let one : ℕ = word_length w.load + word_length w.unload + 2 in
    let first = line_long base w from in
    let all = length-append (pattern_line (made_pattern base w from)) (made_lines base w (from + 1) count) in
    let others = lines_long base w (from + 1) count in
    let more : suc count * one ≡ one + count * one = times one count in
    all ∙ ap (λ n. n + length (made_lines base w (from + 1) count)) first ∙ ap (λ n. one + n) others ∙ sym more
  where
    times : (a n : ℕ) → suc n * a ≡ a + n * a
    times a n = omega arith

pub part_long : (p : PartValue) → length (part_text p) ≡ part_length p
part_long p = length-append p.head (made_lines p.base p.wanted 1 p.wanted.patterns) ∙ ap (λ n. length p.head + n) (lines_long p.base p.wanted 1 p.wanted.patterns)

pub parts_long : (ps : List PartValue) → length (parts_text ps) ≡ sum_by part_length ps
parts_long [] = refl
parts_long (p ∷ ps) =
    length-append (part_text p) (parts_text ps) ∙ ap (λ n. n + length (parts_text ps)) (part_long p) ∙ ap (λ n. part_length p + n) (parts_long ps) ∙ sym (sum_by-cons part_length p ps)
