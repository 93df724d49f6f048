-- What the words are that are printed.
use Rattle.std.proofs.Common.{◌≡◌, ℕ, ◌<◌, ◌≤◌, ◌^◌, List, [], ◌∷◌, ◌++◌, take, drop, Bool, true, false, ◌||◌, codes, decimal, map, None, Some, IsTrue, refl, arith}
use Rattle.std.specs.List.{All, list_any}
use Rattle.std.proofs.lemmas.Grind.{common_steps}
use Rattle.std.proofs.lemmas.List.Elements.{All-head, All-tail}
use Rattle.std.proofs.lemmas.Bool.{or_parts}
use Rattle.outside.specs.Words.{same_letters}
use Rattle.outside.proofs.DecimalLemmas.{number_of-decimal}
use Rattle.soc_model.specs.declared.TheConstants.{NUMBER_WORD_MOST}
use Rattle.soc_model.specs.SoundChips.{IsName, is_name_byte, is_keyword, keywords as spellings}
use Rattle.soc_reader.specs.declared.keys.Key.{Key}
use Rattle.soc_reader.specs.declared.keys.Key.TheVariants.{SocName, TotalModules, Options, PowerFlag, XyFlag, Module, Level, Inputs, Outputs, Bidirs, Setup, ScanChains, TotalTests, Test, ScanUse, TamUse, Patterns, Power}
use Rattle.soc_reader.specs.Keywords.{keywords, named, key_of, number, flag_of, is_printable_byte, is_printable, is_free_word, is_lengths_word}
use Rattle.soc_reader.specs.Table.{AreNumbers}
use Rattle.soc_reader.specs.Grammar.{IsFree, row}
use Rattle.soc_printer.specs.SocText.{flag_word}
use Rattle.soc_printer.proofs.TextWords.{words_on}

-- ---- keywords

pub soc_name-key : (b : Bool) → key_of b (codes "SocName") ≡ Some SocName
unfolding key_of
soc_name-key true = refl
soc_name-key false = refl

pub total_modules-key : (b : Bool) → key_of b (codes "TotalModules") ≡ Some TotalModules
unfolding key_of
total_modules-key true = refl
total_modules-key false = refl

pub options-key : (b : Bool) → key_of b (codes "Options") ≡ Some Options
unfolding key_of
options-key true = refl
options-key false = refl

pub power_flag-key : key_of true (codes "Power") ≡ Some PowerFlag
unfolding key_of
power_flag-key = refl

pub xy_flag-key : key_of true (codes "XY") ≡ Some XyFlag
unfolding key_of
xy_flag-key = refl

pub module-key : (b : Bool) → key_of b (codes "Module") ≡ Some Module
unfolding key_of
module-key true = refl
module-key false = refl

pub level-key : key_of false (codes "Level") ≡ Some Level
unfolding key_of
level-key = refl

pub inputs-key : key_of false (codes "Inputs") ≡ Some Inputs
unfolding key_of
inputs-key = refl

pub outputs-key : key_of false (codes "Outputs") ≡ Some Outputs
unfolding key_of
outputs-key = refl

pub bidirs-key : key_of false (codes "Bidirs") ≡ Some Bidirs
unfolding key_of
bidirs-key = refl

pub setup-key : key_of false (codes "Setup") ≡ Some Setup
unfolding key_of
setup-key = refl

pub scan_chains-key : key_of false (codes "ScanChains") ≡ Some ScanChains
unfolding key_of
scan_chains-key = refl

pub total_tests-key : key_of false (codes "TotalTests") ≡ Some TotalTests
unfolding key_of
total_tests-key = refl

pub test-key : key_of false (codes "Test") ≡ Some Test
unfolding key_of
test-key = refl

pub scan_use-key : key_of false (codes "ScanUse") ≡ Some ScanUse
unfolding key_of
scan_use-key = refl

pub tam_use-key : key_of false (codes "TamUse") ≡ Some TamUse
unfolding key_of
tam_use-key = refl

pub patterns-key : key_of false (codes "Patterns") ≡ Some Patterns
unfolding key_of
patterns-key = refl

pub power-key : key_of false (codes "Power") ≡ Some Power
unfolding key_of
power-key = refl

pub row-small : (k : Key) → row k < 18
row-small SocName = omega arith
row-small TotalModules = omega arith
row-small Options = omega arith
row-small PowerFlag = omega arith
row-small XyFlag = omega arith
row-small Module = omega arith
row-small Level = omega arith
row-small Inputs = omega arith
row-small Outputs = omega arith
row-small Bidirs = omega arith
row-small Setup = omega arith
row-small ScanChains = omega arith
row-small TotalTests = omega arith
row-small Test = omega arith
row-small ScanUse = omega arith
row-small TamUse = omega arith
row-small Patterns = omega arith
row-small Power = omega arith

-- ---- numbers and flags

pub number-decimal : (n : ℕ) → n < 10 ^ 12 → number (decimal n) ≡ Some n
unfolding number
number-decimal n small =
    let fits : n < 2 ^ 64 = omega arith in
    let within : n ≤ NUMBER_WORD_MOST = omega arith in
    number_of-decimal n NUMBER_WORD_MOST fits within

pub numbers-decimal : (line : ℕ) (ns : List ℕ) → All (λ n. n < 10 ^ 12) ns → AreNumbers (words_on line (map decimal ns)) ns
numbers-decimal line [] small = tt
numbers-decimal line (n ∷ ns) small = (number-decimal n (All-head (λ n. n < 10 ^ 12) n ns small), numbers-decimal line ns (All-tail (λ n. n < 10 ^ 12) n ns small))

pub flag-read : (f : Bool) → flag_of (flag_word f) ≡ Some f
unfolding flag_of
flag-read true = refl
flag-read false = refl

-- ---- names

name_byte-printable : (b : ℕ) → IsTrue (is_name_byte b) → is_printable_byte b ≡ true
name_byte-printable b is = grind (arith, common_steps)

pub name-printable : (w : List ℕ) → IsName w → is_printable w ≡ true
unfolding is_printable
name-printable [] is = refl
name-printable (b ∷ w) is =
    rw (name_byte-printable b (All-head (λ b. IsTrue (is_name_byte b)) b w is)) (name-printable w (All-tail (λ b. IsTrue (is_name_byte b)) b w is))

-- a word that is none of these spellings is none of these keywords
no_key : (w : List ℕ) (ks : List (List ℕ × Key)) → list_any (same_letters w) (map {A = List ℕ × Key} (λ k. k.0) ks) ≡ false → named ks w ≡ None
no_key w [] none = refl
no_key w (k ∷ ks) none =
    let parts = or_parts (same_letters w k.0) (list_any (same_letters w) (map {A = List ℕ × Key} (λ k. k.0) ks)) none in
    rw parts.0 (no_key w ks parts.1)

record TwoLess (p : List ℕ → Bool) (front back : List (List ℕ)) (x y : List ℕ) : Type 0 where
  others : list_any p (front ++ back) ≡ false
  first : p x ≡ false
  second : p y ≡ false

two_less : (p : List ℕ → Bool) (front back : List (List ℕ)) (x y : List ℕ) → list_any p (front ++ x ∷ (back ++ y ∷ [])) ≡ false → TwoLess p front back x y
two_less p [] [] x y none =
    let parts = or_parts (p x) (p y || false) none in
    record { others = refl; first = parts.0; second = (or_parts (p y) false parts.1).0 }
two_less p [] (b ∷ back) x y none =
    let parts = or_parts (p x) (p b || list_any p (back ++ y ∷ [])) none in
    let rest = or_parts (p b) (list_any p (back ++ y ∷ [])) parts.1 in
    let less = two_less p [] back x y (rw parts.0 rest.1) in
    record { others = rw rest.0 less.others; first = parts.0; second = less.second }
two_less p (a ∷ front) back x y none =
    let parts = or_parts (p a) (list_any p (front ++ x ∷ (back ++ y ∷ []))) none in
    let less = two_less p front back x y parts.1 in
    record { others = rw parts.0 less.others; first = less.first; second = less.second }

pub free-from_name : (w : List ℕ) → IsName w → is_keyword w ≡ false → IsFree w
unfolding key_of is_free_word is_lengths_word spellings
free-from_name w is none =
    let spelled : List (List ℕ) = map {A = List ℕ × Key} (λ k. k.0) keywords in
    let less : TwoLess (same_letters w) (take 11 spelled) (drop 11 spelled) (codes "ScanChainLengths") (codes "XY") = two_less (same_letters w) (take 11 spelled) (drop 11 spelled) (codes "ScanChainLengths") (codes "XY") none in
    record { no_key = no_key w keywords less.others; free = rw (name-printable w is, less.first, less.second) refl }
