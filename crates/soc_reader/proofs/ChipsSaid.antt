-- What every chip keeps that a text says: it is the only one, and it is sound.
use Rattle.std.proofs.Common.{◌≡◌, inl, inr, ℕ, zero, suc, ◌<◌, ◌^◌, List, [], ◌∷◌, ◌++◌, map, Bool, true, false, cond, nat_eq, position, Option, None, Some, option_map, refl, sym, ◌∙◌, ap, subst, arith}
use Rattle.std.proofs.lemmas.Grind.{common_steps}
use Rattle.std.specs.List.{All, list_any}
use Rattle.std.proofs.lemmas.List.Elements.{All-nil, All-cons, All-head, All-tail, All-push, All-weaker}
use Rattle.outside.specs.Words.{words_of, Word}
use Rattle.soc_model.specs.declared.Test.{Test}
use Rattle.soc_model.specs.Chips.{ModuleValue, SocValue, numbers}
use Rattle.soc_model.specs.Lookups.{module_place, has_module_number}
use Rattle.soc_model.specs.Sizes.{HasSmall, HasSmallNumbers}
use Rattle.soc_model.specs.SoundChips.{AllDiffer, IsName, is_keyword, keywords, IsSoundModule, IsSoundChip}
use Rattle.soc_model.proofs.Sums.{IsSmallTest, module_numbers-small, all_left, all_right}
use Rattle.soc_reader.specs.declared.keys.Key.{Key}
use Rattle.soc_reader.specs.declared.keys.Key.TheVariants.{SocName, PowerFlag, XyFlag, Module, Level, Inputs, Outputs, Bidirs, Setup, ScanChains, Test as TestKey, ScanUse, TamUse, Patterns, Power}
use Rattle.soc_reader.specs.declared.keys.Subject.TheVariants.{Chip, OfModule, OfTest}
use Rattle.soc_reader.specs.declared.keys.Shape.{Shape}
use Rattle.soc_reader.specs.declared.keys.Shape.TheVariants.{NoWord, OneWord, OneNumber, OneFlag, ManyNumbers}
use Rattle.soc_reader.specs.Keywords.{number, flag_of, is_printable}
use Rattle.soc_reader.specs.Table.{Value, nothing, word, count, flag, lengths, Item, entry, name, place_data, coordinate, shape_of, AreNumbers, AreLengths, Follows}
use Rattle.soc_reader.specs.Grammar.{Comes, IsText}
use Rattle.soc_reader.specs.Meaning.{new_module, new_test, with_module, with_test, change_at, change_found, at_module, at_test, test_says, module_says, chip_says, tells, says, chip_of}
use Rattle.soc_reader.specs.Drafts.{test_numbers}
use Rattle.soc_reader.specs.ChipForm.{SaysModules, SaysChip}
use Rattle.soc_reader.proofs.DifferentNumbers.{differ-none, differ-push}
use Rattle.soc_reader.proofs.Places.{any-numbers, numbers-push, numbers-found}
use Rattle.soc_reader.proofs.Viable.{one_text}
use Rattle.soc_reader.proofs.WordBytes.{IsUnbroken, AllUnbroken, words-unbroken, name-from_word, printable-from_free, no_keyword-from_free}

-- ---- changes at a place

All-change : {A : Type 0} (P : A → Type 0) (place : ℕ) (f : A → A) (xs : List A) → ((x : A) → P x → P (f x)) → All P xs → All P (change_at place f xs)
All-change P place f [] keeps all = all
All-change P zero f (x ∷ xs) keeps all = All-cons P (f x) xs (keeps x (All-head P x xs all)) (All-tail P x xs all)
All-change P (suc place) f (x ∷ xs) keeps all = All-cons P x (change_at place f xs) (All-head P x xs all) (All-change P place f xs keeps (All-tail P x xs all))

All-found : {A : Type 0} (P : A → Type 0) (o : Option ℕ) (f : A → A) (xs : List A) → ((x : A) → P x → P (f x)) → All P xs → All P (change_found o f xs)
All-found P None f xs keeps all = all
All-found P (Some place) f xs keeps all = All-change P place f xs keeps all

numbers-changed : (place : ℕ) (f : ModuleValue → ModuleValue) (ms : List ModuleValue) → ((m : ModuleValue) → (f m).number ≡ m.number) → map (λ (m : ModuleValue). m.number) (change_at place f ms) ≡ map (λ (m : ModuleValue). m.number) ms
numbers-changed place f [] keeps = refl
numbers-changed zero f (m ∷ ms) keeps = ap (λ n. n ∷ map (λ (m : ModuleValue). m.number) ms) (keeps m)
numbers-changed (suc place) f (m ∷ ms) keeps = ap (λ ns. m.number ∷ ns) (numbers-changed place f ms keeps)

numbers-at : (o : Option ℕ) (f : ModuleValue → ModuleValue) (ms : List ModuleValue) → ((m : ModuleValue) → (f m).number ≡ m.number) → map (λ (m : ModuleValue). m.number) (change_found o f ms) ≡ map (λ (m : ModuleValue). m.number) ms
numbers-at None f ms keeps = refl
numbers-at (Some place) f ms keeps = numbers-changed place f ms keeps

module_numbers-push : (ms : List ModuleValue) (m : ModuleValue) → map (λ (m : ModuleValue). m.number) (ms ++ m ∷ []) ≡ map (λ (m : ModuleValue). m.number) ms ++ m.number ∷ []
module_numbers-push [] m = refl
module_numbers-push (k ∷ ms) m = ap (λ ns. k.number ∷ ns) (module_numbers-push ms m)

-- ---- values of items

abbrev SoundValue : Value → Type 0
SoundValue nothing = Unit {0}
SoundValue (word w) = IsName w
SoundValue (count n line) = n < 10 ^ 12
SoundValue (flag b) = Unit {0}
SoundValue (lengths ns) = All (λ n. n < 10 ^ 12) ns

record SoundName (w : List ℕ) : Type 0 where
  letters : IsName w
  no_keyword : is_keyword w ≡ false

abbrev SoundItem : Item → Type 0
SoundItem (entry s k v) = SoundValue v
SoundItem (name m w) = SoundName w
SoundItem place_data = Unit {0}
SoundItem coordinate = Unit {0}

-- ---- tests

test_small : (k : Key) (v : Value) (t : Test) → SoundValue v → IsSmallTest t → IsSmallTest (test_says k v t)
test_small Patterns (count n line) t small sound = record { number = sound.number; patterns = small; power = sound.power }
test_small Power (count n line) t small sound = record { number = sound.number; patterns = sound.patterns; power = small }
test_small ScanUse (flag b) t small sound = record { number = sound.number; patterns = sound.patterns; power = sound.power }
test_small TamUse (flag b) t small sound = record { number = sound.number; patterns = sound.patterns; power = sound.power }
test_small k v t small sound = sound

pub test_number : (k : Key) (v : Value) (t : Test) → (test_says k v t).number ≡ t.number
test_number Patterns (count n line) t = refl
test_number Power (count n line) t = refl
test_number ScanUse (flag b) t = refl
test_number TamUse (flag b) t = refl
test_number k v t = refl

small_zero : 0 < 10 ^ 12
small_zero = omega arith

with_test-small : (t : ℕ) (ts : List Test) → t < 10 ^ 12 → All IsSmallTest ts → All IsSmallTest (with_test t ts)
with_test-small t ts small each = elim (list_any (λ (x : Test). nat_eq t x.number) ts) as (λ b. All IsSmallTest (cond b ts (ts ++ new_test t ∷ []))) [
  | true ↦ each
  | false ↦ All-push IsSmallTest ts (new_test t) each (record { number = small; patterns = small_zero; power = small_zero })
]

with_test-differ : (t : ℕ) (ts : List Test) → AllDiffer (test_numbers ts) → AllDiffer (test_numbers (with_test t ts))
with_test-differ t ts differ = by (list_any (λ (x : Test). nat_eq t x.number) ts) refl
  where
    by : (b : Bool) → list_any (λ (x : Test). nat_eq t x.number) ts ≡ b → AllDiffer (test_numbers (cond b ts (ts ++ new_test t ∷ [])))
    by true e = differ
    by false e = subst AllDiffer (sym (numbers-push ts (new_test t))) (differ-push (test_numbers ts) t differ (any-numbers t ts ∙ e))

-- ---- modules

-- what each module of a text's chip keeps
record Told (m : ModuleValue) : Type 0 where
  number : m.number < 10 ^ 12
  level : m.level < 10 ^ 12
  inputs : m.inputs < 10 ^ 12
  outputs : m.outputs < 10 ^ 12
  bidirs : m.bidirs < 10 ^ 12
  setup : m.setup < 10 ^ 12
  chains : All (λ n. n < 10 ^ 12) m.chains
  tests : All IsSmallTest m.tests
  differ : AllDiffer (test_numbers m.tests)
  name : SoundName m.name

told-small : (m : ModuleValue) → Told m → HasSmall m
told-small m told =
    let patterns : All (λ (t : Test). t.patterns < 10 ^ 12) m.tests = All-weaker IsSmallTest (λ (t : Test). t.patterns < 10 ^ 12) (λ t small. small.patterns) m.tests told.tests in
    module_numbers-small m (record { inputs = told.inputs; outputs = told.outputs; bidirs = told.bidirs; setup = told.setup; chains = told.chains; tests = patterns }) told.number told.level told.tests

told-sound : (m : ModuleValue) → Told m → IsSoundModule m
told-sound m told = record { name = told.name.letters; no_keyword = told.name.no_keyword; tests_differ = told.differ }

module_told : (k : Key) (v : Value) (m : ModuleValue) → SoundValue v → Told m → Told (module_says k v m)
module_told Level (count n line) m small t = record { number = t.number; level = small; inputs = t.inputs; outputs = t.outputs; bidirs = t.bidirs; setup = t.setup; chains = t.chains; tests = t.tests; differ = t.differ; name = t.name }
module_told Inputs (count n line) m small t = record { number = t.number; level = t.level; inputs = small; outputs = t.outputs; bidirs = t.bidirs; setup = t.setup; chains = t.chains; tests = t.tests; differ = t.differ; name = t.name }
module_told Outputs (count n line) m small t = record { number = t.number; level = t.level; inputs = t.inputs; outputs = small; bidirs = t.bidirs; setup = t.setup; chains = t.chains; tests = t.tests; differ = t.differ; name = t.name }
module_told Bidirs (count n line) m small t = record { number = t.number; level = t.level; inputs = t.inputs; outputs = t.outputs; bidirs = small; setup = t.setup; chains = t.chains; tests = t.tests; differ = t.differ; name = t.name }
module_told Setup (count n line) m small t = record { number = t.number; level = t.level; inputs = t.inputs; outputs = t.outputs; bidirs = t.bidirs; setup = small; chains = t.chains; tests = t.tests; differ = t.differ; name = t.name }
module_told ScanChains (lengths ns) m small t = record { number = t.number; level = t.level; inputs = t.inputs; outputs = t.outputs; bidirs = t.bidirs; setup = t.setup; chains = small; tests = t.tests; differ = t.differ; name = t.name }
module_told TestKey (count n line) m small t = record { number = t.number; level = t.level; inputs = t.inputs; outputs = t.outputs; bidirs = t.bidirs; setup = t.setup; chains = t.chains; tests = with_test-small n m.tests small t.tests; differ = with_test-differ n m.tests t.differ; name = t.name }
module_told k v m small t = t

module_number : (k : Key) (v : Value) (m : ModuleValue) → (module_says k v m).number ≡ m.number
module_number Level (count n line) m = refl
module_number Inputs (count n line) m = refl
module_number Outputs (count n line) m = refl
module_number Bidirs (count n line) m = refl
module_number Setup (count n line) m = refl
module_number ScanChains (lengths ns) m = refl
module_number TestKey (count t line) m = refl
module_number k v m = refl

tells_number : (x : Item) (m : ModuleValue) → (tells x m).number ≡ m.number
tells_number (entry Chip k v) m = refl
tells_number (entry (OfModule n) k v) m = module_number k v m
tells_number (entry (OfTest n t) k v) m = refl
tells_number (name n w) m = refl
tells_number place_data m = refl
tells_number coordinate m = refl

tells_told : (x : Item) (m : ModuleValue) → SoundItem x → Told m → Told (tells x m)
tells_told (entry Chip k v) m small told = told
tells_told (entry (OfModule n) k v) m small told = module_told k v m small told
tells_told (entry (OfTest n t) k v) m small told =
    let place = position (λ (x : Test). nat_eq t x.number) m.tests in
    let tests : All IsSmallTest (at_test t (test_says k v) m.tests) = All-found IsSmallTest place (test_says k v) m.tests (λ x is. test_small k v x small is) told.tests in
    let same : test_numbers (at_test t (test_says k v) m.tests) ≡ test_numbers m.tests = numbers-found place (test_says k v) m.tests (test_number k v) in
    record { number = told.number; level = told.level; inputs = told.inputs; outputs = told.outputs; bidirs = told.bidirs; setup = told.setup; chains = told.chains; tests = tests; differ = subst AllDiffer (sym same) told.differ; name = told.name }
tells_told (name n w) m small told = record { number = told.number; level = told.level; inputs = told.inputs; outputs = told.outputs; bidirs = told.bidirs; setup = told.setup; chains = told.chains; tests = told.tests; differ = told.differ; name = small }
tells_told place_data m small told = told
tells_told coordinate m small told = told

new_level : (m : ℕ) → (new_module m).level < 10 ^ 12
new_level m = elim (nat_eq m 0) as (λ b. cond b 0 1 < 10 ^ 12) [
  | true ↦ (omega arith)
  | false ↦ (omega arith)
]

empty_name : SoundName []
unfolding keywords
empty_name = record { letters = All-nil _; no_keyword = refl }

new_told : (m : ℕ) → m < 10 ^ 12 → Told (new_module m)
new_told m small = record { number = small; level = new_level m; inputs = small_zero; outputs = small_zero; bidirs = small_zero; setup = small_zero; chains = All-nil (λ n. n < 10 ^ 12); tests = All-nil IsSmallTest; differ = differ-none; name = empty_name }

-- ---- chips

record ToldChip (c : SocValue) : Type 0 where
  keyed : c.keys ≡ numbers c
  differ : AllDiffer c.keys
  name : IsName c.name
  modules : All Told c.modules

changed_told : (x : Item) (m : ℕ) (c : SocValue) → SoundItem x → ToldChip c → ToldChip (at_module m (tells x) c)
changed_told x m c small told = record {
  keyed = told.keyed ∙ sym (numbers-at (module_place c m) (tells x) c.modules (tells_number x));
  differ = told.differ;
  name = told.name;
  modules = All-found Told (module_place c m) (tells x) c.modules (λ y is. tells_told x y small is) told.modules;
}

added_told : (m : ℕ) (c : SocValue) → m < 10 ^ 12 → ToldChip c → ToldChip (with_module m c)
added_told m c small told = by (has_module_number c m) refl
  where
    by : (b : Bool) → has_module_number c m ≡ b → ToldChip (cond b c (record c { keys = c.keys ++ m ∷ []; modules = c.modules ++ new_module m ∷ [] }))
    by true e = told
    by false e = record {
      keyed = ap (λ ns. ns ++ m ∷ []) told.keyed ∙ sym (module_numbers-push c.modules (new_module m));
      differ = differ-push c.keys m told.differ e;
      name = told.name;
      modules = All-push Told c.modules (new_module m) told.modules (new_told m small);
    }

chip_told : (k : Key) (v : Value) (c : SocValue) → SoundValue v → ToldChip c → ToldChip (chip_says k v c)
chip_told SocName (word w) c small told = record { keyed = told.keyed; differ = told.differ; name = small; modules = told.modules }
chip_told PowerFlag (flag b) c small told = record { keyed = told.keyed; differ = told.differ; name = told.name; modules = told.modules }
chip_told XyFlag (flag b) c small told = record { keyed = told.keyed; differ = told.differ; name = told.name; modules = told.modules }
chip_told Module (count m line) c small told = added_told m c small told
chip_told k v c small told = told

says_told : (x : Item) (c : SocValue) → SoundItem x → ToldChip c → ToldChip (says x c)
says_told (entry Chip k v) c small told = chip_told k v c small told
says_told (entry (OfModule m) k v) c small told = changed_told (entry (OfModule m) k v) m c small told
says_told (entry (OfTest m t) k v) c small told = changed_told (entry (OfTest m t) k v) m c small told
says_told (name m w) c small told = changed_told (name m w) m c small told
says_told place_data c small told = told
says_told coordinate c small told = told

-- ---- what stands in a text

number_small : (w : List ℕ) (n : ℕ) → number w ≡ Some n → n < 10 ^ 12
unfolding number
number_small w n e = let small : n < 1000000000000 = grind (arith, common_steps) in omega arith

numbers_small : (ws : List Word) (ns : List ℕ) → AreNumbers ws ns → All (λ n. n < 10 ^ 12) ns
numbers_small [] [] are = All-nil (λ n. n < 10 ^ 12)
numbers_small [] (n ∷ ns) are = absurd are
numbers_small (w ∷ ws) [] are = absurd are
numbers_small (w ∷ ws) (n ∷ ns) are = All-cons (λ n. n < 10 ^ 12) n ns (number_small w.0 n are.0) (numbers_small ws ns are.1)

lengths_small : (ws : List Word) (ns : List ℕ) → AreLengths ws ns → All (λ n. n < 10 ^ 12) ns
lengths_small ws ns (inl are) = numbers_small ws ns are
lengths_small ws ns (inr f) = numbers_small f.1 ns f.4

same_value : (a b : Value) → Some a ≡ Some b → a ≡ b
same_value a b e = cc

count_small : (w : Word) (o : Option ℕ) (v : Value) → number w.0 ≡ o → option_map (λ n. count n w.1) o ≡ Some v → SoundValue v
count_small w None v e is = cc
count_small w (Some n) v e is = subst SoundValue (same_value (count n w.1) v is) (number_small w.0 n e)

-- the words of a value
unbroken_first : (w : Word) (rest : List Word) → AllUnbroken (w ∷ rest) → IsUnbroken w.0
unbroken_first w rest all = All-head (λ (w : Word). IsUnbroken w.0) w rest all

unbroken_rest : (w : Word) (rest : List Word) → AllUnbroken (w ∷ rest) → AllUnbroken rest
unbroken_rest w rest all = All-tail (λ (w : Word). IsUnbroken w.0) w rest all

follows_sound : (shape : Shape) (ws : List Word) (v : Value) → AllUnbroken ws → Follows shape ws v → SoundValue v
follows_sound NoWord ws v unbroken f = subst SoundValue (sym f.1) tt
follows_sound OneWord ws v unbroken f = word_sound (is_printable f.0.0) refl f.2
  where
    whole : IsUnbroken f.0.0
    whole = unbroken_first f.0 [] (subst AllUnbroken f.1 unbroken)

    word_sound : (b : Bool) → is_printable f.0.0 ≡ b → cond b (Some (word f.0.0)) None ≡ Some v → SoundValue v
    word_sound true is e = subst SoundValue (same_value (word f.0.0) v e) (name-from_word f.0.0 is whole)
    word_sound false is e = cc
follows_sound OneNumber ws v unbroken f = count_small f.0 (number f.0.0) v refl f.2
follows_sound OneFlag ws v unbroken f = flag_sound (flag_of f.0.0) v f.2
  where
    flag_sound : (o : Option Bool) (v : Value) → option_map flag o ≡ Some v → SoundValue v
    flag_sound None v e = cc
    flag_sound (Some b) v e = subst SoundValue (same_value (flag b) v e) tt
follows_sound ManyNumbers ws v unbroken f = subst SoundValue (sym f.2) (lengths_small f.1.rest f.0 f.1.numbers)

comes_sound : (earlier : List Item) (x : Item) (ws : List Word) → AllUnbroken ws → Comes earlier x ws → SoundItem x
comes_sound earlier (entry s k v) ws unbroken c = follows_sound (shape_of k) c.rest v (unbroken_rest c.first c.rest (subst AllUnbroken c.words unbroken)) c.value
comes_sound earlier (name m w) ws unbroken c =
    let whole = unbroken_first (w, c.line) [] (subst AllUnbroken c.words unbroken) in
    record { letters = name-from_word w (printable-from_free w c.free.free) whole; no_keyword = no_keyword-from_free w c.free }
comes_sound earlier place_data ws unbroken c = tt
comes_sound earlier coordinate ws unbroken c = tt

text_told : (items : List Item) (ws : List Word) → AllUnbroken ws → IsText items ws → ToldChip (chip_of items)
text_told [] ws unbroken is = record { keyed = refl; differ = differ-none; name = All-nil _; modules = All-nil Told }
text_told (x ∷ earlier) ws unbroken is =
    let both : AllUnbroken (is.0 ++ is.1) = subst AllUnbroken is.2 unbroken in
    let P : Word → Type 0 = λ (w : Word). IsUnbroken w.0 in
    says_told x (chip_of earlier) (comes_sound earlier x is.1 (all_right P is.0 is.1 both) is.4) (text_told earlier is.0 (all_left P is.0 is.1 both) is.3)

said_told : (bytes : List ℕ) (soc : SocValue) → SaysModules bytes soc → ToldChip soc
said_told bytes soc says = subst ToldChip (sym says.chip) (text_told says.items (words_of bytes) (words-unbroken bytes) says.text)

-- ---- what crates above cite

-- a text says at most one chip, of whatever size
pub one_of_modules : (bytes : List ℕ) (a b : SocValue) → SaysModules bytes a → SaysModules bytes b → a ≡ b
one_of_modules bytes a b this that =
    this.chip ∙ ap chip_of (one_text (words_of bytes) this.items that.items this.text that.text) ∙ sym that.chip

pub one_chip : (bytes : List ℕ) (a b : SocValue) → SaysChip bytes a → SaysChip bytes b → a ≡ b
one_chip bytes a b this that = one_of_modules bytes a b this.modules that.modules

-- every number of the chip that a text says is small, also where that chip is too large
pub small-from_modules : (bytes : List ℕ) (soc : SocValue) → SaysModules bytes soc → HasSmallNumbers soc
small-from_modules bytes soc says = All-weaker Told HasSmall told-small soc.modules (said_told bytes soc says).modules

-- the chip that a text says is sound
pub sound_chip : (bytes : List ℕ) (soc : SocValue) → SaysChip bytes soc → IsSoundChip soc
sound_chip bytes soc says =
    let told = said_told bytes soc says.modules in
    record {
      keyed = told.keyed;
      modules_differ = subst AllDiffer told.keyed told.differ;
      name = told.name;
      modules = All-weaker Told IsSoundModule told-sound soc.modules told.modules;
      small = small-from_modules bytes soc says.modules;
      size = says.size;
    }
