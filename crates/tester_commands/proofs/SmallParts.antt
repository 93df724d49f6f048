-- The parts of a sound chip are few, and small; together they make the text.
use Rattle.std.proofs.Common.{◌≡◌, ℕ, suc, ◌+◌, ◌<◌, ◌≤◌, ◌^◌, ◌⊎◌, inl, inr, Bool, true, false, List, [], ◌∷◌, ◌++◌, length, map, Some, refl, sym, ◌∙◌, ap, subst, arith, slice_get, sum, codes, All, flat_map, sum_by}
use Rattle.std.proofs.lemmas.Bool.{cases_Bool}
use Rattle.std.proofs.lemmas.List.{length-append, length-map, get_or-map}
use Rattle.std.proofs.lemmas.List.Elements.{All-nil, All-cons, All-append}
use Rattle.std.proofs.lemmas.Option.{slice_get_within, get_or_from_slice_get}
use Rattle.soc_model.specs.declared.Test.{Test}
use Rattle.soc_model.specs.declared.TheConstants.{TESTS_MOST}
use Rattle.soc_model.specs.declared.Which.TheVariants.{Tests}
use Rattle.soc_model.specs.Chips.{ModuleValue, SocValue}
use Rattle.soc_model.specs.Modes.{is_tam, scan_lengths}
use Rattle.soc_model.specs.Sizes.{all_tests}
use Rattle.soc_model.specs.SoundChips.{IsSoundChip}
use Rattle.soc_model.proofs.Limits.{modules-small, scan_cells-lt}
use Rattle.soc_model.proofs.Sums.{IsSmall, kept}
use Rattle.test_data.proofs.ChipBits.{stimulus_length, response_length}
use Rattle.tester_commands.specs.declared.parts.Part.{Part}
use Rattle.tester_commands.specs.MadeText.{made_text}
use Rattle.tester_commands.specs.DataParts.{PartValue, IsSmallPart, part_value, parts_text, part_of, parts_in, parts_from, part_length}
use Rattle.tester_commands.proofs.MadeTexts.{whole_text, parts_long}

no_more_cells : (m : ModuleValue) (scan : Bool) → sum (scan_lengths m scan) ≤ sum m.chains
no_more_cells m true = omega arith
no_more_cells m false = omega arith

small_part : (soc : SocValue) → IsSoundChip soc → (seed p q : ℕ) (m : ModuleValue) (t : Test) → slice_get soc.modules p ≡ Some m → slice_get m.tests q ≡ Some t → IsSmallPart (part_of seed p m q t)
small_part soc sound seed p q m t at there =
    let inside = slice_get_within soc.modules p m at in
    let small : IsSmall m = subst IsSmall (get_or_from_slice_get soc.modules p m m at) (modules-small soc sound.small p m inside) in
    let cells : sum m.chains < 10 ^ 15 = subst (λ (m : ModuleValue). sum m.chains < 10 ^ 15) (get_or_from_slice_get soc.modules p m m at) (scan_cells-lt soc sound.small sound.size p m inside) in
    let patterns : t.patterns < 10 ^ 12 = subst (λ (t : Test). t.patterns < 10 ^ 12) (get_or_from_slice_get m.tests q t t there) (small.tests q t (slice_get_within m.tests q t there)) in
    let fewer = no_more_cells m t.scan in
    let load = stimulus_length m t.scan in
    let unload = response_length m t.scan in
    let inputs = small.inputs in
    let outputs = small.outputs in
    let bidirs = small.bidirs in
    record { base = omega arith; patterns = omega arith; load = omega arith; unload = omega arith }

small_in : (soc : SocValue) → IsSoundChip soc → (seed p : ℕ) (m : ModuleValue) → slice_get soc.modules p ≡ Some m → (q : ℕ) (ts : List Test) → ((i : ℕ) (t : Test) → slice_get ts i ≡ Some t → slice_get m.tests (q + i) ≡ Some t) →
    All IsSmallPart (parts_in seed p m q ts)
small_in soc sound seed p m at q [] there = All-nil IsSmallPart
small_in soc sound seed p m at q (t ∷ ts) there =
    by (cases_Bool (is_tam t))
    (small_in soc sound seed p m at (q + 1) ts (λ i u here. let place : q + 1 + i ≡ q + suc i = omega arith in ap (slice_get m.tests) place ∙ there (suc i) u here))
  where
    here : slice_get m.tests q ≡ Some t
    here = let place : q ≡ q + 0 = omega arith in ap (slice_get m.tests) place ∙ there 0 t refl

    by : (is_tam t ≡ true) ⊎ (is_tam t ≡ false) → All IsSmallPart (parts_in seed p m (q + 1) ts) → All IsSmallPart (parts_in seed p m q (t ∷ ts))
    by (inl yes') rest = rw yes' (All-cons IsSmallPart (part_of seed p m q t) (parts_in seed p m (q + 1) ts) (small_part soc sound seed p q m t at here) rest)
    by (inr no') rest = rw no' rest

small_from : (soc : SocValue) → IsSoundChip soc → (seed p : ℕ) (ms : List ModuleValue) → ((i : ℕ) (m : ModuleValue) → slice_get ms i ≡ Some m → slice_get soc.modules (p + i) ≡ Some m) → All IsSmallPart (parts_from seed p ms)
small_from soc sound seed p [] there = All-nil IsSmallPart
small_from soc sound seed p (m ∷ ms) there =
    let place : p ≡ p + 0 = omega arith in
    let here : slice_get soc.modules p ≡ Some m = ap (slice_get soc.modules) place ∙ there 0 m refl in
    All-append IsSmallPart (parts_in seed p m 0 m.tests) (parts_from seed (p + 1) ms)
    (small_in soc sound seed p m here 0 m.tests (λ i t at. let start : 0 + i ≡ i = omega arith in ap (slice_get m.tests) start ∙ at))
    (small_from soc sound seed (p + 1) ms (λ i n at. let next : p + 1 + i ≡ p + suc i = omega arith in ap (slice_get soc.modules) next ∙ there (suc i) n at))

pub all_small : (soc : SocValue) → IsSoundChip soc → (seed : ℕ) (ps : List Part) → map part_value ps ≡ parts_from seed 0 soc.modules → All (λ (p : Part). IsSmallPart (part_value p)) ps
all_small soc sound seed ps is = λ k d inside.
    let all : All IsSmallPart (parts_from seed 0 soc.modules) = small_from soc sound seed 0 soc.modules (λ i m at. let start : 0 + i ≡ i = omega arith in ap (slice_get soc.modules) start ∙ at) in
    let of_parts : All IsSmallPart (map part_value ps) = subst (λ vs. All IsSmallPart vs) (sym is) all in
    let within : k < length (map part_value ps) = omega (arith, length-map ps part_value) in
    subst IsSmallPart (get_or-map part_value ps k d (part_value d) inside) (of_parts k (part_value d) within)

-- ---- how many they are

few_in : (seed p : ℕ) (m : ModuleValue) (q : ℕ) (ts : List Test) → length (parts_in seed p m q ts) ≤ length ts
few_in seed p m q [] = omega arith
few_in seed p m q (t ∷ ts) = by (cases_Bool (is_tam t)) (few_in seed p m (q + 1) ts)
  where
    by : (is_tam t ≡ true) ⊎ (is_tam t ≡ false) → length (parts_in seed p m (q + 1) ts) ≤ length ts → length (parts_in seed p m q (t ∷ ts)) ≤ suc (length ts)
    by (inl yes') rest = rw yes' (omega arith)
    by (inr no') rest = rw no' (omega arith)

few_from : (seed p : ℕ) (ms : List ModuleValue) → length (parts_from seed p ms) ≤ length (flat_map (λ (m : ModuleValue). m.tests) ms)
few_from seed p [] = omega arith
few_from seed p (m ∷ ms) =
    let a = length-append (parts_in seed p m 0 m.tests) (parts_from seed (p + 1) ms) in
    let b = length-append m.tests (flat_map (λ (m : ModuleValue). m.tests) ms) in
    omega (arith, a, b, few_in seed p m 0 m.tests, few_from seed (p + 1) ms)

pub few_parts : (soc : SocValue) → IsSoundChip soc → (seed : ℕ) (ps : List Part) → map part_value ps ≡ parts_from seed 0 soc.modules → length ps ≤ 4096
few_parts soc sound seed ps is =
    let same : length (map part_value ps) ≡ length (parts_from seed 0 soc.modules) = ap (λ (vs : List PartValue). length vs) is in
    let most : length (all_tests soc) ≤ TESTS_MOST = kept TESTS_MOST (length (all_tests soc)) (sound.size Tests) in
    omega (arith, same, most, length-map ps part_value, few_from seed 0 soc.modules)

-- ---- the text

pub text_made : (soc : SocValue) → IsSoundChip soc → (seed : ℕ) (ps : List Part) → map part_value ps ≡ parts_from seed 0 soc.modules → codes "Data 1\n" ++ parts_text (map part_value ps) ≡ made_text soc seed
unfolding made_text
text_made soc sound seed ps is = ap (λ (vs : List PartValue). codes "Data 1\n" ++ parts_text vs) is ∙ whole_text soc sound seed

pub length_made : (soc : SocValue) → IsSoundChip soc → (seed : ℕ) (ps : List Part) → map part_value ps ≡ parts_from seed 0 soc.modules → 7 + sum_by part_length (map part_value ps) ≡ length (made_text soc seed)
length_made soc sound seed ps is =
    let text : length (codes "Data 1\n" ++ parts_text (map part_value ps)) ≡ length (made_text soc seed) = ap (λ (t : List ℕ). length t) (text_made soc sound seed ps is) in
    let both : length (codes "Data 1\n" ++ parts_text (map part_value ps)) ≡ 7 + length (parts_text (map part_value ps)) = length-append (codes "Data 1\n") (parts_text (map part_value ps)) in
    let long = parts_long (map part_value ps) in
    ap (λ n. 7 + n) (sym long) ∙ sym both ∙ text
