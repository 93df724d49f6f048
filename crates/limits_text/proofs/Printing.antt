-- Limits are printed, and the words of what is printed.
use Rattle.std.proofs.Common.{◌≡◌, ℕ, ◌+◌, ◌<◌, ◌≤◌, ◌^◌, List, [], ◌∷◌, ◌++◌, length, get_or, take, codes, decimal, refl, sym, ◌∙◌, ap, arith, append_assoc, inl, inr, Bool, true, false, Some, slice_get, subst, append-nil, flat_map, All}
use Rattle.std.proofs.lemmas.List.{flat_map_more, take_more}
use Rattle.std.proofs.lemmas.Fmt.{decimal_nonempty}
use Rattle.outside.specs.Words.{words_left, AllInWord, IsEnd, Word}
use Rattle.outside.proofs.DecimalLemmas.{decimal_in_word}
use Rattle.outside.proofs.WordLemmas.{first_word}
use Rattle.soc_model.specs.declared.TestId.{TestId}
use Rattle.soc_model.specs.declared.TheConstants.{NUMBER_WORD_MOST, POWER_MOST}
use Rattle.limits_text.specs.Items.{NamesTest, ArePairs, key_of, is_in_range, Item, amount_item, before_item, profile_item, has_amount, has_profile, AreSteps}
use Rattle.outside.specs.Decimal.{spaced_number}
use Rattle.limits_text.specs.Texts.{test_fields, number_line, before_line, step_fields, profile_line}
use Rattle.limits_text.proofs.WordFacts.{number-decimal}
use Rattle.std.proofs.lemmas.List.Elements.{All-head, All-tail, All-weaker}
use Rattle.std.proofs.lemmas.Option.{slice_get_within}
use Rattle.soc_model.specs.Chips.{SocValue, same_test}
use Rattle.plan_model.specs.Plans.{ProfileValue}
use Rattle.plan_model.specs.SoundLimits.{IsSoundProfile}
use Rattle.plan_model.proofs.CertificatesAreBounds.{same_test_is}
use Rattle.limits_text.specs.declared.items.Amount.{Amount}
use Rattle.limits_text.specs.declared.items.Amount.TheVariants.{Wires, Power, Budget}
use Rattle.limits_text.specs.declared.items.Key.TheVariants.{One, Before, Profile}
use Rattle.limits_text.specs.Grammar.{Comes, AreItems}
use Rattle.limits_text.specs.Meaning.{limits_of}
use Rattle.limits_text.proofs.Taking.{false_from}
use Rattle.common_lemmas.proofs.Lists.{at_seam, at_left}
use Rattle.common_lemmas.proofs.Tests.{or_cases}

-- ---- the words of printed limits

-- a number that is a number word
abbrev pub IsSmall : ℕ → Type 0
IsSmall n = n ≤ NUMBER_WORD_MOST

pub record IsSmallTest (id : TestId) : Type 0 where
  pub module_small : IsSmall id.«module»
  pub test_small : IsSmall id.test

fits : (n : ℕ) → IsSmall n → n < 2 ^ 64
fits n small = omega arith

pub field_words : (line n : ℕ) (rest : List ℕ) → IsSmall n → IsEnd rest → words_left line (spaced_number n ++ rest) ≡ (decimal n, line) ∷ words_left line rest
field_words line n rest small end = first_word line (decimal n) rest (decimal_nonempty n (fits n small)) (decimal_in_word n (fits n small)) end

abbrev pub test_words : ℕ → TestId → List Word
test_words line id = (decimal id.«module», line) ∷ (decimal id.test, line) ∷ []

module _ (line : ℕ) (id : TestId) where
  pub names_test : IsSmallTest id → NamesTest id (decimal id.«module», line) (decimal id.test, line)
  names_test small = (number-decimal id.«module» small.module_small, number-decimal id.test small.test_small)

  pub test_fields_words : (rest : List ℕ) → IsSmallTest id → IsEnd rest → words_left line (test_fields id ++ rest) ≡ test_words line id ++ words_left line rest
  test_fields_words rest small end =
      ap (words_left line) (append_assoc (spaced_number id.«module») (spaced_number id.test) rest)
      ∙ field_words line id.«module» (spaced_number id.test ++ rest) small.module_small refl
      ∙ ap (λ l. (decimal id.«module», line) ∷ l) (field_words line id.test rest small.test_small end)

-- a line of a word and a number
pub number_line_words : (line n : ℕ) (word rest : List ℕ) → 0 < length word → AllInWord word → IsSmall n → words_left line (number_line word n ++ rest) ≡ (word, line) ∷ (decimal n, line) ∷ words_left (line + 1) rest
number_line_words line n word rest some all small =
    ap (words_left line) (append_assoc (word ++ spaced_number n) (10 ∷ []) rest ∙ append_assoc word (spaced_number n) (10 ∷ rest))
    ∙ first_word line word (spaced_number n ++ 10 ∷ rest) some all refl
    ∙ ap (λ l. (word, line) ∷ l) (field_words line n (10 ∷ rest) small refl)

abbrev pub before_words : ℕ → TestId × TestId → List Word
before_words line p = (codes "Before", line) ∷ (decimal p.0.«module», line) ∷ (decimal p.0.test, line) ∷ (decimal p.1.«module», line) ∷ (decimal p.1.test, line) ∷ []

before_in_word : AllInWord (codes "Before")
before_in_word = (refl, (refl, (refl, (refl, (refl, (refl, tt))))))

pub before_line_words : (line : ℕ) (p : TestId × TestId) (rest : List ℕ) → IsSmallTest p.0 → IsSmallTest p.1 → words_left line (before_line p ++ rest) ≡ before_words line p ++ words_left (line + 1) rest
before_line_words line p rest a b =
    ap (words_left line) (append_assoc (codes "Before" ++ test_fields p.0 ++ test_fields p.1) (10 ∷ []) rest ∙ append_assoc (codes "Before" ++ test_fields p.0) (test_fields p.1) (10 ∷ rest) ∙ append_assoc (codes "Before") (test_fields p.0) (test_fields p.1 ++ 10 ∷ rest))
    ∙ first_word line (codes "Before") (test_fields p.0 ++ (test_fields p.1 ++ 10 ∷ rest)) (omega arith) before_in_word refl
    ∙ ap (λ l. (codes "Before", line) ∷ l) (test_fields_words line p.0 (test_fields p.1 ++ 10 ∷ rest) a refl ∙ ap (λ l. test_words line p.0 ++ l) (test_fields_words line p.1 (10 ∷ rest) b refl))

abbrev pub pair_words : ℕ → List (ℕ × ℕ) → List Word
pair_words line [] = []
pair_words line (s ∷ steps) = (decimal s.0, line) ∷ (decimal s.1, line) ∷ pair_words line steps

abbrev pub AreSmall : List (ℕ × ℕ) → Type 0
AreSmall [] = Unit {0}
AreSmall (s ∷ steps) = IsSmall s.0 × IsSmall s.1 × AreSmall steps

pub pairs_are : (line : ℕ) (steps : List (ℕ × ℕ)) → AreSmall steps → ArePairs (pair_words line steps) steps
pairs_are line [] small = refl
pairs_are line (s ∷ steps) small =
    ((decimal s.0, line), (decimal s.1, line), pair_words line steps, refl, number-decimal s.0 small.0, number-decimal s.1 small.1, pairs_are line steps small.2)

pub step_fields_words : (line : ℕ) (steps : List (ℕ × ℕ)) (rest : List ℕ) → AreSmall steps → IsEnd rest → words_left line (step_fields steps ++ rest) ≡ pair_words line steps ++ words_left line rest
step_fields_words line [] rest small end = refl
step_fields_words line (s ∷ steps) rest small end =
    ap (words_left line) (append_assoc (spaced_number s.0 ++ spaced_number s.1) (step_fields steps) rest ∙ append_assoc (spaced_number s.0) (spaced_number s.1) (step_fields steps ++ rest))
    ∙ field_words line s.0 (spaced_number s.1 ++ (step_fields steps ++ rest)) small.0 refl
    ∙ ap (λ l. (decimal s.0, line) ∷ l) (field_words line s.1 (step_fields steps ++ rest) small.1 (ends steps)
    ∙ ap (λ l. (decimal s.1, line) ∷ l) (step_fields_words line steps rest small.2 end))
  where
    ends : (steps : List (ℕ × ℕ)) → IsEnd (step_fields steps ++ rest)
    ends [] = end
    ends (t ∷ steps) = refl

-- ---- the steps of a profile, one by one

pub steps_more : (old so_far from new : List ℕ) (steps : List (ℕ × ℕ)) (i : ℕ) → i < length steps → so_far ≡ old ++ step_fields (take i steps) → from ≡ so_far ++ spaced_number (get_or steps i (0, 0)).0 → new ≡ from ++ spaced_number (get_or steps i (0, 0)).1
    → new ≡ old ++ step_fields (take (i + 1) steps)
steps_more old so_far from new steps i within before first second =
    let f = λ (s : ℕ × ℕ). spaced_number s.0 ++ spaced_number s.1 in
    let s = get_or steps i (0, 0) in
    second ∙ ap (λ l. l ++ spaced_number s.1) (first ∙ ap (λ l. l ++ spaced_number s.0) before) ∙ append_assoc (old ++ step_fields (take i steps)) (spaced_number s.0) (spaced_number s.1)
    ∙ flat_map_more f old (take i steps) s ∙ ap (λ l. old ++ flat_map f l) (sym (take_more steps i (0, 0) within))

-- ---- reading the text of limits gives them again

-- the words of the items of a text are these items, and then the words of the rest
pub record Printed (whole : List Word) (form : Bool) (items : List Item) (line : ℕ) (rest : List ℕ) : Type 0 where
  pub front : List Word
  pub words : whole ≡ front ++ words_left line rest
  pub are : AreItems form items front

module _ (whole : List Word) (form : Bool) (items : List Item) (line : ℕ) where
  goes : (next : ℕ) (text rest : List ℕ) (x : Item) (own : List Word) → Printed whole form items line text → words_left line text ≡ own ++ words_left next rest
      → Comes form items x own → Printed whole form (x ∷ items) next rest
  goes next text rest x own p e comes = record {
    front = p.front ++ own;
    words = p.words ∙ ap (λ l. p.front ++ l) e ∙ sym (append_assoc p.front own (words_left next rest));
    are = (p.front, own, refl, p.are, comes);
  }

  pub amount_goes : (rest word : List ℕ) (a : Amount) (n : ℕ) → key_of word ≡ Some (One a) → 0 < length word → AllInWord word → is_in_range a n ≡ true
      → IsSmall n → has_amount a items ≡ false → Printed whole form items line (number_line word n ++ rest)
      → Printed whole form (amount_item a n ∷ items) (line + 1) rest
  amount_goes rest word a n key some all range small once p =
      goes (line + 1) (number_line word n ++ rest) rest (amount_item a n) ((word, line) ∷ (decimal n, line) ∷ []) p (number_line_words line n word rest some all small)
      (record { first = (word, line); second = (decimal n, line); words = refl; keyword = key; value = number-decimal n small; range = range; once = once })

-- ---- precedences

before_is : key_of (codes "Before") ≡ Some Before
unfolding key_of
before_is = refl

profile_is : key_of (codes "Profile") ≡ Some Profile
unfolding key_of
profile_is = refl

pub power_is : key_of (codes "Power") ≡ Some (One Power)
unfolding key_of
power_is = refl

pub budget_is : key_of (codes "Budget") ≡ Some (One Budget)
unfolding key_of
budget_is = refl

abbrev pub AreSmallTests : List (TestId × TestId) → Type 0
AreSmallTests [] = Unit {0}
AreSmallTests (p ∷ before) = IsSmallTest p.0 × IsSmallTest p.1 × AreSmallTests before

pub record AfterBefore (whole : List Word) (form : Bool) (items : List Item) (rest : List ℕ) (before : List (TestId × TestId)) : Type 0 where
  pub now : List Item
  pub line : ℕ
  pub printed : Printed whole form now line rest
  pub limits_are : limits_of now ≡ record (limits_of items) { before = (limits_of items).before ++ before }
  pub amounts : (a : Amount) → has_amount a now ≡ has_amount a items

pub befores_go : (whole : List Word) (form : Bool) (items : List Item) (line : ℕ) (rest : List ℕ) (before : List (TestId × TestId)) → AreSmallTests before → Printed whole form items line (flat_map before_line before ++ rest) → AfterBefore whole form items rest before
befores_go whole form items line rest [] small p = record {
  now = items;
  line = line;
  printed = p;
  limits_are = ap (λ (b : List (TestId × TestId)). record (limits_of items) { before = b }) (sym (append-nil (limits_of items).before));
  amounts = λ a. refl;
}
befores_go whole form items line rest (b ∷ before) small p =
    let more = flat_map before_line before ++ rest in
    let q = subst (λ text. Printed whole form items line text) (append_assoc (before_line b) (flat_map before_line before) rest) p in
    let next = goes whole form items line (line + 1) (before_line b ++ more) more (before_item line b.0 b.1) (before_words line b) q (before_line_words line b more small.0 small.1)
    (record {
      first = (codes "Before", line);
      module_a = (decimal b.0.«module», line);
      test_a = (decimal b.0.test, line);
      module_b = (decimal b.1.«module», line);
      test_b = (decimal b.1.test, line);
      words = refl;
      keyword = before_is;
      here = refl;
      names_a = names_test line b.0 small.0;
      names_b = names_test line b.1 small.1;
    }) in
    let k = befores_go whole form (before_item line b.0 b.1 ∷ items) (line + 1) rest before small.2 next in
    record {
      now = k.now;
      line = k.line;
      printed = k.printed;
      limits_are = k.limits_are ∙ ap (λ (l : List (TestId × TestId)). record (limits_of items) { before = l }) (append_assoc (limits_of items).before (b ∷ []) before);
      amounts = k.amounts;
    }

-- ---- profiles

begins_with : (steps : List (ℕ × ℕ)) (power : ℕ) → slice_get steps 0 ≡ Some (0, power) → (p : ℕ) × (rest : List (ℕ × ℕ)) × (steps ≡ (0, p) ∷ rest)
begins_with [] power e = cc
begins_with (s ∷ steps) power e = (power, steps, ap (λ x. x ∷ steps) (same s (0, power) e))
  where
    same : (a b : ℕ × ℕ) → Some a ≡ Some b → a ≡ b
    same a b e = cc

steps_are : (soc : SocValue) (p : ProfileValue) → IsSoundProfile soc p → AreSteps p.steps
steps_are soc p s = record {
  begins = begins_with p.steps s.begins.0 s.begins.1;
  few = s.few_steps;
  grows = s.grows;
  small = All-weaker (λ (s : ℕ × ℕ). (s.0 ≤ NUMBER_WORD_MOST) × (s.1 ≤ POWER_MOST)) (λ (s : ℕ × ℕ). s.1 ≤ POWER_MOST) (λ x h. h.1) p.steps s.small;
}

small_steps : (steps : List (ℕ × ℕ)) → All (λ (s : ℕ × ℕ). (s.0 ≤ NUMBER_WORD_MOST) × (s.1 ≤ POWER_MOST)) steps → AreSmall steps
small_steps [] all = tt
small_steps (s ∷ steps) all =
    let h = All-head (λ (s : ℕ × ℕ). (s.0 ≤ NUMBER_WORD_MOST) × (s.1 ≤ POWER_MOST)) s steps all in
    (h.0, omega (arith, h.1), small_steps steps (All-tail (λ (s : ℕ × ℕ). (s.0 ≤ NUMBER_WORD_MOST) × (s.1 ≤ POWER_MOST)) s steps all))

profile_line_words : (line : ℕ) (p : ProfileValue) (rest : List ℕ) → IsSmallTest p.test → AreSmall p.steps → words_left line (profile_line p ++ rest) ≡ ((codes "Profile", line) ∷ (decimal p.test.«module», line) ∷ (decimal p.test.test, line) ∷ pair_words line p.steps) ++ words_left (line + 1) rest
profile_line_words line p rest test steps =
    ap (words_left line) (append_assoc (codes "Profile" ++ test_fields p.test ++ step_fields p.steps) (10 ∷ []) rest ∙ append_assoc (codes "Profile" ++ test_fields p.test) (step_fields p.steps) (10 ∷ rest) ∙ append_assoc (codes "Profile") (test_fields p.test) (step_fields p.steps ++ 10 ∷ rest))
    ∙ first_word line (codes "Profile") (test_fields p.test ++ (step_fields p.steps ++ 10 ∷ rest)) (omega arith) (refl, (refl, (refl, (refl, (refl, (refl, (refl, tt))))))) refl
    ∙ ap (λ l. (codes "Profile", line) ∷ l) (test_fields_words line p.test (step_fields p.steps ++ 10 ∷ rest) test (ends p.steps) ∙ ap (λ l. test_words line p.test ++ l) (step_fields_words line p.steps (10 ∷ rest) steps refl))
  where
    ends : (steps : List (ℕ × ℕ)) → IsEnd (step_fields steps ++ 10 ∷ rest)
    ends [] = refl
    ends (t ∷ steps) = refl

-- a test that has a profile among the items has one in the limits
profile_in : (items : List Item) (id : TestId) → has_profile id items ≡ true → (q : ℕ) × (x : ProfileValue) × (slice_get (limits_of items).profiles q ≡ Some x) × (x.test ≡ id)
profile_in [] id e = cc
profile_in (amount_item Wires n ∷ items) id e = profile_in items id e
profile_in (amount_item Power n ∷ items) id e = profile_in items id e
profile_in (amount_item Budget n ∷ items) id e = profile_in items id e
profile_in (before_item line a b ∷ items) id e = profile_in items id e
profile_in (profile_item line other steps ∷ items) id e = elim (or_cases (same_test id other) (has_profile id items) e) [
  | inl f ↦ (length (limits_of items).profiles, record { test = other; steps = steps }, at_seam (limits_of items).profiles [] (record { test = other; steps = steps }), sym (same_test_is id other f))
  | inr f ↦ let k = profile_in items id f in (k.0, k.1, at_left (limits_of items).profiles (record { test = other; steps = steps } ∷ []) k.0 k.1 k.2, k.3)
]

abbrev pub OneEach : List ProfileValue → Type 0
OneEach profiles = (p q : ℕ) (x y : ProfileValue) → slice_get profiles p ≡ Some x → slice_get profiles q ≡ Some y → x.test ≡ y.test → p ≡ q

new_test : (items : List Item) (p : ProfileValue) (profiles : List ProfileValue) → OneEach ((limits_of items).profiles ++ p ∷ profiles) → has_profile p.test items ≡ false
new_test items p profiles one = false_from (has_profile p.test items) (λ e.
    (let k = profile_in items p.test e in
    let same = one k.0 (length (limits_of items).profiles) k.1 p (at_left (limits_of items).profiles (p ∷ profiles) k.0 k.1 k.2) (at_seam (limits_of items).profiles profiles p) k.3 in
    absurd (omega (arith, same, slice_get_within (limits_of items).profiles k.0 k.1 k.2))))

pub record AfterProfiles (whole : List Word) (items : List Item) (rest : List ℕ) (profiles : List ProfileValue) : Type 0 where
  pub now : List Item
  pub line : ℕ
  pub printed : Printed whole true now line rest
  pub limits_are : limits_of now ≡ record (limits_of items) { profiles = (limits_of items).profiles ++ profiles }
  pub amounts : (a : Amount) → has_amount a now ≡ has_amount a items

abbrev pub AreSmallProfiles : List ProfileValue → Type 0
AreSmallProfiles [] = Unit {0}
AreSmallProfiles (p ∷ profiles) = IsSmallTest p.test × AreSmallProfiles profiles

pub profiles_go : (soc : SocValue) (whole : List Word) (items : List Item) (line : ℕ) (rest : List ℕ) (profiles : List ProfileValue) → All (IsSoundProfile soc) profiles → AreSmallProfiles profiles → OneEach ((limits_of items).profiles ++ profiles) → Printed whole true items line (flat_map profile_line profiles ++ rest) → AfterProfiles whole items rest profiles
profiles_go soc whole items line rest [] all small one p = record {
  now = items;
  line = line;
  printed = p;
  limits_are = ap (λ (b : List ProfileValue). record (limits_of items) { profiles = b }) (sym (append-nil (limits_of items).profiles));
  amounts = λ a. refl;
}
profiles_go soc whole items line rest (x ∷ profiles) all small one p =
    let more = flat_map profile_line profiles ++ rest in
    let sound = All-head (IsSoundProfile soc) x profiles all in
    let q = subst (λ text. Printed whole true items line text) (append_assoc (profile_line x) (flat_map profile_line profiles) rest) p in
    let steps = small_steps x.steps sound.small in
    let next = goes whole true items line (line + 1) (profile_line x ++ more) more (profile_item line x.test x.steps) ((codes "Profile", line) ∷ (decimal x.test.«module», line) ∷ (decimal x.test.test, line) ∷ pair_words line x.steps) q (profile_line_words line x more small.0 steps)
    (record {
      first = (codes "Profile", line);
      module_word = (decimal x.test.«module», line);
      test_word = (decimal x.test.test, line);
      pairs = pair_words line x.steps;
      words = refl;
      keyword = profile_is;
      here = refl;
      has_form = refl;
      names = names_test line x.test small.0;
      once = new_test items x profiles one;
      are = pairs_are line x.steps steps;
      steps_are = steps_are soc x sound;
    }) in
    let again : OneEach (((limits_of items).profiles ++ x ∷ []) ++ profiles) = subst OneEach (sym (append_assoc (limits_of items).profiles (x ∷ []) profiles)) one in
    let k = profiles_go soc whole (profile_item line x.test x.steps ∷ items) (line + 1) rest profiles (All-tail (IsSoundProfile soc) x profiles all) small.1 again next in
    record {
      now = k.now;
      line = k.line;
      printed = k.printed;
      limits_are = k.limits_are ∙ ap (λ (l : List ProfileValue). record (limits_of items) { profiles = l }) (append_assoc (limits_of items).profiles (x ∷ []) profiles);
      amounts = k.amounts;
    }
