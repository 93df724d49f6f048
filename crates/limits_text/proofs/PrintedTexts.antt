-- The printed text of sound limits is read as these limits.
use Rattle.std.proofs.Common.{◌≡◌, ℕ, ◌+◌, ◌<◌, ◌≤◌, List, [], ◌∷◌, ◌++◌, get_or, codes, decimal, position, option_map, Bool, true, false, nat_eq, Option, None, Some, slice_get, refl, sym, ◌∙◌, ap, subst, arith, append_assoc, append-nil, is_some, IfSome, All, flat_map}
use Rattle.std.proofs.lemmas.Bool.{eqb-true}
use Rattle.std.proofs.lemmas.List.Elements.{All-head, All-tail, All-nil, All-cons, All-weaker}
use Rattle.std.proofs.lemmas.List.Quantifiers.{position-Some}
use Rattle.std.proofs.lemmas.Option.{slice_get-get_or}
use Rattle.outside.specs.Words.{words_left, words_of, AllInWord, Word}
use Rattle.soc_model.specs.declared.Test.{Test}
use Rattle.soc_model.specs.declared.TestId.{TestId}
use Rattle.soc_model.specs.declared.TheConstants.{NUMBER_WORD_MOST, POWER_MOST}
use Rattle.soc_model.specs.Chips.{ModuleValue, SocValue}
use Rattle.soc_model.specs.Lookups.{module_place, with_test}
use Rattle.soc_model.specs.Sizes.{test_numbers, module_numbers, HasSmall}
use Rattle.soc_model.specs.SoundChips.{IsSoundChip}
use Rattle.soc_model.proofs.Places.{test_places-at, module-from_place, IsKeyed-from_sound}
use Rattle.plan_model.specs.declared.TheConstants.{WIRES_MOST, BUDGET_MOST}
use Rattle.plan_model.specs.Plans.{ProfileValue, LimitsValue}
use Rattle.plan_model.specs.SoundLimits.{HasTest, IsSoundProfile, IsSoundLimits}
use Rattle.plan_model.proofs.Lists.{in_append_right, in_flat_map}
use Rattle.limits_text.specs.declared.items.Amount.TheVariants.{Wires, Power, Budget}
use Rattle.limits_text.specs.Items.{is_in_range, Item, amount_item, has_amount, before_item, profile_item}
use Rattle.limits_text.specs.Grammar.{AreItems, form_number}
use Rattle.limits_text.specs.Meaning.{limits_of, is_known, unknown_line, or_first, first_unknown}
use Rattle.limits_text.specs.Answers.{SaysLimits, read_as}
use Rattle.limits_text.specs.Texts.{number_line, power_lines, before_line, profile_line, limits_text}
use Rattle.limits_text.proofs.WordFacts.{title_is, wires_is, number-decimal}
use Rattle.limits_text.proofs.Printing.{IsSmall, IsSmallTest, number_line_words, Printed, amount_goes, power_is, budget_is, AreSmallTests, befores_go, OneEach, AreSmallProfiles, profiles_go}
use Rattle.common_lemmas.proofs.Tests.{le_true}
use Rattle.common_lemmas.proofs.Lists.{all_at}
use Rattle.limits_text.specs.Laws.{PrintedLimitsAreRead, PrintedLimitsAreAnswered}
use Rattle.limits_text.proofs.SoundText.{unknown_more}
use Rattle.limits_text.proofs.OneAnswer.{answered}

-- ---- the text of sound limits says them

-- ---- the tests of a sound chip have small numbers

small_below : (n : ℕ) → n < NUMBER_WORD_MOST + 1 → IsSmall n
small_below n less = omega arith

module_small : (m : ModuleValue) → HasSmall m → IsSmall m.number
module_small m all = small_below m.number (all_at (λ n. n < NUMBER_WORD_MOST + 1) (module_numbers m) 0 m.number all refl)

test_small : (m : ModuleValue) (k : ℕ) (t : Test) → HasSmall m → slice_get m.tests k ≡ Some t → IsSmall t.number
test_small m k t all at =
    let a = in_flat_map test_numbers m.tests k 0 t t.number at refl in
    let b = in_append_right ((m.number ∷ m.level ∷ m.inputs ∷ m.outputs ∷ m.bidirs ∷ m.setup ∷ []) ++ m.chains) (flat_map test_numbers m.tests) a.0 t.number a.1 in
    small_below t.number (all_at (λ n. n < NUMBER_WORD_MOST + 1) (module_numbers m) b.0 t.number all b.1)

found_of : {X Y : Type 0} (f : X → Y) (o : Option X) → is_some (option_map f o) ≡ true → (x : X) × (o ≡ Some x)
found_of f None e = cc
found_of f (Some x) e = (x, refl)

small_test : (soc : SocValue) (id : TestId) → IsSoundChip soc → HasTest soc id → IsSmallTest id
small_test soc id sound has = by (module_place soc id.«module») refl
  where
    by : (o : Option ℕ) → module_place soc id.«module» ≡ o → IsSmallTest id
    by None e = absurd (none (ap (λ p. is_some (with_test soc id p)) (sym e) ∙ has))
      where
        none : is_some (with_test soc id None) ≡ true → ⊥
        none f = cc
    by (Some p) e =
        let m = module-from_place (IsKeyed-from_sound sound) id.«module» p e in
        let small = all_at HasSmall soc.modules p m.0 sound.small m.1 in
        let k = found_of (λ (n : ℕ). (p, n)) (position (λ (t : Test). nat_eq id.test t.number) m.0.tests) (ap is_some (sym (test_places-at soc id p m.0 e m.1)) ∙ has) in
        let d : Test = record { number = 0; scan = false; tam = false; patterns = 0; power = 0 } in
        let at = position-Some (λ (t : Test). nat_eq id.test t.number) m.0.tests k.0 d k.1 in
        let t = get_or m.0.tests k.0 d in
        record {
          module_small = subst IsSmall m.2 (module_small m.0 small);
          test_small = subst IsSmall (sym (eqb-true id.test t.number at.1)) (test_small m.0 k.0 t small (slice_get-get_or m.0.tests k.0 d at.0));
        }

module _ (soc : SocValue) (sound : IsSoundChip soc) where
  small_tests : (before : List (TestId × TestId)) → All (λ (p : TestId × TestId). HasTest soc p.0 × HasTest soc p.1) before → AreSmallTests before
  small_tests [] all = tt
  small_tests (p ∷ before) all =
      let h = All-head (λ (p : TestId × TestId). HasTest soc p.0 × HasTest soc p.1) p before all in
      (small_test soc p.0 sound h.0, small_test soc p.1 sound h.1, small_tests before (All-tail (λ (p : TestId × TestId). HasTest soc p.0 × HasTest soc p.1) p before all))

  small_profiles : (profiles : List ProfileValue) → All (IsSoundProfile soc) profiles → AreSmallProfiles profiles
  small_profiles [] all = tt
  small_profiles (p ∷ profiles) all =
      (small_test soc p.test sound (All-head (IsSoundProfile soc) p profiles all).test, small_profiles profiles (All-tail (IsSoundProfile soc) p profiles all))

-- ---- the lines before the profiles

wires_range : (w : ℕ) → 1 ≤ w → w ≤ WIRES_MOST → is_in_range Wires w ≡ true
wires_range w some few = rw (le_true 1 w some, le_true w WIRES_MOST few) refl

wires_in_word : AllInWord (codes "Wires")
wires_in_word = (refl, (refl, (refl, (refl, (refl, tt)))))

power_in_word : AllInWord (codes "Power")
power_in_word = (refl, (refl, (refl, (refl, (refl, tt)))))

budget_in_word : AllInWord (codes "Budget")
budget_in_word = (refl, (refl, (refl, (refl, (refl, (refl, tt))))))

title_in_word : AllInWord (codes "Limits")
title_in_word = (refl, (refl, (refl, (refl, (refl, (refl, tt))))))

-- limits without profiles
abbrev plain : ℕ → Option ℕ → List (TestId × TestId) → ℕ → LimitsValue
plain w o before b = record { wires = w; power = o; before = before; budget = b; profiles = [] }

record Front (whole : List Word) (form : Bool) (rest : List ℕ) (limits : LimitsValue) : Type 0 where
  now : List Item
  line : ℕ
  printed : Printed whole form now line rest
  limits_are : limits_of now ≡ limits
  wires : has_amount Wires now ≡ true

module _ (whole : List Word) (form : Bool) where
  front_from : (items : List Item) (line : ℕ) (rest : List ℕ) (w : ℕ) (o : Option ℕ) (before : List (TestId × TestId)) (b : ℕ) → b ≤ BUDGET_MOST
      → AreSmallTests before → has_amount Budget items ≡ false → has_amount Wires items ≡ true
      → record (limits_of items) { budget = b; before = (limits_of items).before ++ before } ≡ plain w o before b
      → Printed whole form items line (number_line (codes "Budget") b ++ (flat_map before_line before ++ rest)) → Front whole form rest (plain w o before b)
  front_from items line rest w o before b few small once wires is p =
      let q = amount_goes whole form items line (flat_map before_line before ++ rest) (codes "Budget") Budget b budget_is (omega arith) budget_in_word (le_true b BUDGET_MOST few) (omega (arith, few)) once p in
      let k = befores_go whole form (amount_item Budget b ∷ items) (line + 1) rest before small q in
      record { now = k.now; line = k.line; printed = k.printed; limits_are = k.limits_are ∙ is; wires = k.amounts Wires ∙ wires }

  front : (rest : List ℕ) (w : ℕ) (o : Option ℕ) (before : List (TestId × TestId)) (b : ℕ) → 1 ≤ w → w ≤ WIRES_MOST → IfSome o (λ most. most ≤ POWER_MOST)
      → b ≤ BUDGET_MOST → AreSmallTests before
      → Printed whole form [] 2 (number_line (codes "Wires") w ++ (power_lines o ++ (number_line (codes "Budget") b ++ (flat_map before_line before ++ rest))))
      → Front whole form rest (plain w o before b)
  front rest w None before b some most power few small p =
      let q = amount_goes whole form [] 2 (number_line (codes "Budget") b ++ (flat_map before_line before ++ rest)) (codes "Wires") Wires w wires_is (omega arith) wires_in_word (wires_range w some most) (omega (arith, most)) refl p in
      front_from (amount_item Wires w ∷ []) (2 + 1) rest w None before b few small refl refl refl q
  front rest w (Some n) before b some most power few small p =
      let q = amount_goes whole form [] 2 (number_line (codes "Power") n ++ (number_line (codes "Budget") b ++ (flat_map before_line before ++ rest))) (codes "Wires") Wires w wires_is (omega arith) wires_in_word (wires_range w some most) (omega (arith, most)) refl p in
      let r = amount_goes whole form (amount_item Wires w ∷ []) (2 + 1) (number_line (codes "Budget") b ++ (flat_map before_line before ++ rest)) (codes "Power") Power n power_is (omega arith) power_in_word (le_true n POWER_MOST power) (omega (arith, power)) refl q in
      front_from (amount_item Power n ∷ amount_item Wires w ∷ []) ((2 + 1) + 1) rest w (Some n) before b few small refl refl refl r

-- ---- whole texts

regroup : (a b c d e f : List ℕ) → a ++ b ++ c ++ d ++ e ++ f ≡ a ++ (b ++ (c ++ (d ++ (e ++ (f ++ [])))))
regroup a b c d e f = simp (append_assoc, append-nil)

items_end : (whole : List Word) (form : Bool) (items : List Item) (line : ℕ) → Printed whole form items line [] → AreItems form items whole
items_end whole form items line p = subst (λ ws. AreItems form items ws) (sym (p.words ∙ append-nil p.front)) p.are

form_small : (form : Bool) → IsSmall (form_number form)
form_small true = omega arith
form_small false = omega arith

whole_said : (form : Bool) (items : List Item) (line : ℕ) (tail : List ℕ) (limits : LimitsValue) → limits_text limits ≡ number_line (codes "Limits") (form_number form) ++ tail → Printed (words_left 2 tail) form items line [] → limits_of items ≡ limits → has_amount Wires items ≡ true → SaysLimits (limits_text limits) limits
whole_said form items line tail limits text p is wires = record {
  form = form;
  items = items;
  text = record {
    title = (codes "Limits", 1);
    version = (decimal (form_number form), 1);
    rest = words_left 2 tail;
    words = ap words_of text ∙ number_line_words 1 (form_number form) (codes "Limits") tail (omega arith) title_in_word (form_small form);
    title_is = title_is;
    version_is = number-decimal (form_number form) (form_small form);
    are = items_end (words_left 2 tail) form items line p;
    wires = wires;
  };
  limits_are = sym is;
}

said_by : (soc : SocValue) (w : ℕ) (o : Option ℕ) (before : List (TestId × TestId)) (b : ℕ) (profiles : List ProfileValue) → IsSoundChip soc → IsSoundLimits soc (record { wires = w; power = o; before = before; budget = b; profiles = profiles })
    → SaysLimits (limits_text (record { wires = w; power = o; before = before; budget = b; profiles = profiles })) (record { wires = w; power = o; before = before; budget = b; profiles = profiles })
said_by soc w o before b [] sound s =
    let tail = number_line (codes "Wires") w ++ (power_lines o ++ (number_line (codes "Budget") b ++ (flat_map before_line before ++ []))) in
    let f = front (words_left 2 tail) false [] w o before b s.some_wire s.few_wires s.power s.budget (small_tests soc sound before s.before) (record { front = []; words = refl; are = refl }) in
    whole_said false f.now f.line tail (plain w o before b)
    (regroup (number_line (codes "Limits") 1) (number_line (codes "Wires") w) (power_lines o) (number_line (codes "Budget") b) (flat_map before_line before) [])
    f.printed f.limits_are f.wires
said_by soc w o before b (x ∷ profiles) sound s =
    let all = flat_map profile_line (x ∷ profiles) in
    let tail = number_line (codes "Wires") w ++ (power_lines o ++ (number_line (codes "Budget") b ++ (flat_map before_line before ++ (all ++ [])))) in
    let f = front (words_left 2 tail) true (all ++ []) w o before b s.some_wire s.few_wires s.power s.budget (small_tests soc sound before s.before) (record { front = []; words = refl; are = refl }) in
    let none : (limits_of f.now).profiles ≡ [] = ap (λ (l : LimitsValue). l.profiles) f.limits_are in
    let k = profiles_go soc (words_left 2 tail) f.now f.line [] (x ∷ profiles) s.profiles (small_profiles soc sound (x ∷ profiles) s.profiles) (subst (λ (l : List ProfileValue). OneEach (l ++ x ∷ profiles)) (sym none) s.one_profile) f.printed in
    whole_said true k.now k.line tail (record { wires = w; power = o; before = before; budget = b; profiles = x ∷ profiles })
    (regroup (number_line (codes "Limits") 2) (number_line (codes "Wires") w) (power_lines o) (number_line (codes "Budget") b) (flat_map before_line before) all)
    k.printed (k.limits_are ∙ ap (λ (l : LimitsValue). record l { profiles = l.profiles ++ x ∷ profiles }) f.limits_are) (k.amounts Wires ∙ f.wires)

-- the printed text of sound limits says them
pub printed_said : (soc : SocValue) (limits : LimitsValue) → IsSoundChip soc → IsSoundLimits soc limits → SaysLimits (limits_text limits) limits
printed_said soc limits sound s = said_by soc limits.wires limits.power limits.before limits.budget limits.profiles sound s

-- ---- the printed text of sound limits is read as these limits

all_pushed : {X : Type 0} (P : X → Type 0) (xs : List X) (y : X) → All P (xs ++ y ∷ []) → All P xs × P y
all_pushed P [] y all = (All-nil P, All-head P y [] all)
all_pushed P (x ∷ xs) y all =
    let k = all_pushed P xs y (All-tail P x (xs ++ y ∷ []) all) in
    (All-cons P x xs (All-head P x (xs ++ y ∷ []) all) k.0, k.1)

abbrev Known : SocValue → TestId × TestId → Type 0
Known soc p = HasTest soc p.0 × HasTest soc p.1

abbrev HasKnown : SocValue → ProfileValue → Type 0
HasKnown soc p = HasTest soc p.test

module _ (soc : SocValue) where
  -- an item whose tests are known goes on with none that is unknown
  none_more : (x : Item) (earlier : List Item) → first_unknown soc earlier ≡ None → unknown_line soc x ≡ None → first_unknown soc (x ∷ earlier) ≡ None
  none_more x earlier e f = unknown_more soc x earlier ∙ ap (λ o. or_first o (or_first (unknown_line soc x) None)) e ∙ ap (λ o. or_first o None) f

  -- items whose limits name known tests alone name none that is unknown
  all_known : (items : List Item) → All (Known soc) (limits_of items).before → All (HasKnown soc) (limits_of items).profiles → first_unknown soc items ≡ None
  all_known [] before profiles = refl
  all_known (before_item line a b ∷ earlier) before profiles =
      let k = all_pushed (Known soc) (limits_of earlier).before (a, b) before in
      let a_known : is_known soc a ≡ true = k.1.0 in
      let b_known : is_known soc b ≡ true = k.1.1 in
      none_more (before_item line a b) earlier (all_known earlier k.0 profiles) (rw a_known (rw b_known refl))
  all_known (profile_item line id steps ∷ earlier) before profiles =
      let k = all_pushed (HasKnown soc) (limits_of earlier).profiles (record { test = id; steps = steps }) profiles in
      let known : is_known soc id ≡ true = k.1 in
      none_more (profile_item line id steps) earlier (all_known earlier before k.0) (rw known refl)
  all_known (amount_item Wires n ∷ earlier) before profiles = none_more (amount_item Wires n) earlier (all_known earlier before profiles) refl
  all_known (x ∷ earlier) before profiles = none_more x earlier (all_known earlier before profiles) refl

pub printed_read : PrintedLimitsAreRead
printed_read soc limits sound s =
    let says = printed_said soc limits sound s in
    let before = subst (λ (l : LimitsValue). All (Known soc) l.before) says.limits_are s.before in
    let profiles = subst (λ (l : LimitsValue). All (HasKnown soc) l.profiles) says.limits_are (All-weaker (IsSoundProfile soc) (HasKnown soc) (λ p h. h.test) limits.profiles s.profiles) in
    record { said = record { says = says; known = all_known soc says.items before profiles }; sound = s }

pub printed_answered : PrintedLimitsAreAnswered
printed_answered soc limits answer sound s is = answered (limits_text limits) soc answer (read_as limits) is (printed_read soc limits sound s)
