-- The words of a printed text, line by line.
use Rattle.std.proofs.Common.{◌≡◌, ℕ, ◌+◌, ◌<◌, ◌^◌, List, [], ◌∷◌, ◌++◌, length, map, Bool, true, false, cond, nat_eq, codes, decimal, refl, ◌∙◌, ap, append_assoc}
use Rattle.std.specs.List.{All, flat_map}
use Rattle.std.proofs.lemmas.List.Elements.{All-head, All-tail}
use Rattle.outside.specs.Words.{words_left, Word}
use Rattle.soc_model.specs.declared.Test.{Test}
use Rattle.soc_model.specs.Chips.{ModuleValue}
use Rattle.soc_model.specs.SoundChips.{IsName}
use Rattle.soc_model.proofs.Sums.{IsSmallTest}
use Rattle.soc_printer.specs.SocText.{flag_word, name_words, setup_words, terminal_words, module_words, module_line, tests_line, test_line, module_text, name_line, total_line, options_line}
use Rattle.soc_printer.proofs.TextWords.{IsOneWord, AllWords, AllWords-append, words_on, line-words, module_line-words, name-word, plain-word, flag-word, decimal-word, decimal-words}
use Rattle.soc_printer.proofs.ModuleReads.{IsPrintable, tests_words, test_words, all_test_words}

module_word : IsOneWord (codes "Module")
module_word = plain-word 77 (111 ∷ 100 ∷ 117 ∷ 108 ∷ 101 ∷ []) refl

-- ---- tests

test-words : (t : Test) (m : ℕ) → m < 10 ^ 12 → IsSmallTest t → AllWords (decimal m ∷ codes "Test" ∷ decimal t.number ∷ codes "ScanUse" ∷ flag_word t.scan ∷ codes "TamUse" ∷ flag_word t.tam ∷ codes "Patterns" ∷ decimal t.patterns ∷ codes "Power" ∷ decimal t.power ∷ [])
test-words t m small is =
    (decimal-word m small, (plain-word _ _ refl, (decimal-word t.number is.number, (plain-word _ _ refl, (flag-word t.scan, (plain-word _ _ refl, (flag-word t.tam, (plain-word _ _ refl, (decimal-word t.patterns is.patterns, (plain-word _ _ refl, (decimal-word t.power is.power, tt)))))))))))

-- the line behind those of tests
abbrev pub behind : ℕ → List Test → ℕ
behind line [] = line
behind line (t ∷ ts) = behind (line + 1) ts

test_lines-words : (line m : ℕ) (ts : List Test) (rest : List ℕ) → m < 10 ^ 12 → All IsSmallTest ts → words_left line (flat_map (test_line m) ts ++ rest) ≡ all_test_words line m ts ++ words_left (behind line ts) rest
test_lines-words line m [] rest small are = refl
test_lines-words line m (t ∷ ts) rest small are =
    ap (words_left line) (append_assoc (test_line m t) (flat_map (test_line m) ts) rest)
    ∙ line-words line (codes "Module") (decimal m ∷ codes "Test" ∷ decimal t.number ∷ codes "ScanUse" ∷ flag_word t.scan ∷ codes "TamUse" ∷ flag_word t.tam ∷ codes "Patterns" ∷ decimal t.patterns ∷ codes "Power" ∷ decimal t.power ∷ []) (flat_map (test_line m) ts ++ rest) module_word (test-words t m small (All-head IsSmallTest t ts are))
    ∙ ap (λ l. test_words line m t ++ l) (test_lines-words (line + 1) m ts rest small (All-tail IsSmallTest t ts are))

-- ---- modules

names-words : (nm : List ℕ) → IsName nm → AllWords (name_words nm)
names-words [] is = tt
names-words (b ∷ nm) is = (name-word b nm is, tt)

setup-words : (n : ℕ) → n < 10 ^ 12 → AllWords (setup_words n)
setup-words n small = by (nat_eq n 0)
  where
    by : (b : Bool) → AllWords (cond b [] (codes "Setup" ∷ decimal n ∷ []))
    by true = tt
    by false = (plain-word _ _ refl, (decimal-word n small, tt))

words-of_module : (m : ModuleValue) → IsPrintable m → AllWords (module_words m)
words-of_module m is =
    let chains : List (List ℕ) = codes "ScanChains" ∷ decimal (length m.chains) ∷ [] in
    let from_setup : AllWords (setup_words m.setup ++ chains) = AllWords-append (setup_words m.setup) chains (setup-words m.setup is.setup) (plain-word _ _ refl, (decimal-word (length m.chains) is.few_chains, tt)) in
    let terminals : AllWords (terminal_words m ++ (setup_words m.setup ++ chains)) =
    (plain-word _ _ refl, (decimal-word m.inputs is.inputs, (plain-word _ _ refl, (decimal-word m.outputs is.outputs, (plain-word _ _ refl, (decimal-word m.bidirs is.bidirs, from_setup)))))) in
    (decimal-word m.number is.number, AllWords-append (name_words m.name) (codes "Level" ∷ decimal m.level ∷ (terminal_words m ++ (setup_words m.setup ++ chains))) (names-words m.name is.sound.name) (plain-word _ _ refl, (decimal-word m.level is.level, terminals)))

-- the words of a module's lines, and then these
abbrev pub module_then : ℕ → ModuleValue → List Word → List Word
module_then line m left =
    words_on line (codes "Module" ∷ module_words m)
    ++ (words_on line (map decimal m.chains) ++ (tests_words (line + 1) m.number (length m.tests) ++ (all_test_words (line + 1 + 1) m.number m.tests ++ left)))

module-words : (line : ℕ) (m : ModuleValue) (rest : List ℕ) → IsPrintable m → words_left line (module_text m ++ rest) ≡ module_then line m (words_left (behind (line + 1 + 1) m.tests) rest)
module-words line m rest is =
    let tests = flat_map (test_line m.number) m.tests in
    let total = tests_line m.number (length m.tests) in
    ap (words_left line) (append_assoc (module_line m) (total ++ tests) rest ∙ ap (λ t. module_line m ++ t) (append_assoc total tests rest))
    ∙ module_line-words line (codes "Module") (module_words m) m.chains (total ++ (tests ++ rest)) module_word (words-of_module m is) (decimal-words m.chains is.chains)
    ∙ ap (λ l. words_on line (codes "Module" ∷ module_words m) ++ (words_on line (map decimal m.chains) ++ l))
    (line-words (line + 1) (codes "Module") (decimal m.number ∷ codes "TotalTests" ∷ decimal (length m.tests) ∷ []) (tests ++ rest) module_word (decimal-word m.number is.number, (plain-word _ _ refl, (decimal-word (length m.tests) is.few_tests, tt)))
    ∙ ap (λ l. tests_words (line + 1) m.number (length m.tests) ++ l) (test_lines-words (line + 1 + 1) m.number m.tests rest is.number is.tests))

abbrev pub modules_words : ℕ → List ModuleValue → List Word
modules_words line [] = []
modules_words line (m ∷ ms) = module_then line m (modules_words (behind (line + 1 + 1) m.tests) ms)

pub modules-words : (line : ℕ) (ms : List ModuleValue) → All IsPrintable ms → words_left line (flat_map module_text ms) ≡ modules_words line ms
modules-words line [] are = refl
modules-words line (m ∷ ms) are =
    module-words line m (flat_map module_text ms) (All-head IsPrintable m ms are)
    ∙ ap (module_then line m) (modules-words (behind (line + 1 + 1) m.tests) ms (All-tail IsPrintable m ms are))

-- ---- the first lines

abbrev pub head_words : ℕ → ℕ → Bool → Bool → List Word
head_words line n power xy =
    (codes "TotalModules", line) ∷ (decimal n, line) ∷ (codes "Options", line + 1) ∷ (codes "Power", line + 1) ∷ (flag_word power, line + 1) ∷ (codes "XY", line + 1) ∷ (flag_word xy, line + 1) ∷ []

pub head-words : (line n : ℕ) (power xy : Bool) (rest : List ℕ) → n < 10 ^ 12 → words_left line (total_line n ++ (options_line power xy ++ rest)) ≡ head_words line n power xy ++ words_left (line + 1 + 1) rest
head-words line n power xy rest small =
    line-words line (codes "TotalModules") (decimal n ∷ []) (options_line power xy ++ rest) (plain-word _ _ refl) (decimal-word n small, tt)
    ∙ ap (λ l. words_on line (codes "TotalModules" ∷ decimal n ∷ []) ++ l)
    (line-words (line + 1) (codes "Options") (codes "Power" ∷ flag_word power ∷ codes "XY" ∷ flag_word xy ∷ []) rest (plain-word _ _ refl) (plain-word _ _ refl, (flag-word power, (plain-word _ _ refl, (flag-word xy, tt)))))

pub name_line-words : (line b : ℕ) (nm : List ℕ) (rest : List ℕ) → IsName (b ∷ nm) → words_left line (name_line (b ∷ nm) ++ rest) ≡ (codes "SocName", line) ∷ (b ∷ nm, line) ∷ words_left (line + 1) rest
name_line-words line b nm rest is = line-words line (codes "SocName") ((b ∷ nm) ∷ []) rest (plain-word _ _ refl) (name-word b nm is, tt)
