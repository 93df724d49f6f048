-- What is printed of a sound chip is read as that chip.
use Rattle.std.proofs.Common.{◌≡◌, ℕ, ◌+◌, ◌<◌, ◌≤◌, ◌^◌, List, [], ◌∷◌, ◌++◌, length, true, false, cond, codes, decimal, None, Some, slice_get, get_or, refl, sym, ◌∙◌, ap, subst, append_assoc, append-nil, arith}
use Rattle.std.specs.List.{All, flat_map}
use Rattle.std.proofs.lemmas.List.{map-append}
use Rattle.std.proofs.lemmas.List.Elements.{All-head, All-tail, All-weaker}
use Rattle.std.proofs.lemmas.Bool.{eq-eqb}
use Rattle.outside.specs.Words.{words_of, Word}
use Rattle.soc_model.specs.declared.Test.{Test}
use Rattle.soc_model.specs.Chips.{ModuleValue, SocValue, numbers}
use Rattle.soc_model.specs.Lookups.{module_place}
use Rattle.soc_model.specs.Sizes.{HasSmall, test_numbers as numbers_of_test}
use Rattle.soc_model.specs.SoundChips.{IsName, IsSoundChip, IsSoundModule, AllDiffer}
use Rattle.soc_model.proofs.Places.{IsKeyed-from_sound, place-from_module}
use Rattle.soc_model.proofs.Limits.{modules-le, module_tests-le, module_chains-le}
use Rattle.soc_model.proofs.Sums.{IsSmallTest, small_module, all_flat, all_right}
use Rattle.soc_reader.specs.declared.keys.Key.{Key}
use Rattle.soc_reader.specs.declared.keys.Key.TheVariants.{SocName, TotalModules, Options, PowerFlag, XyFlag}
use Rattle.soc_reader.specs.declared.keys.Subject.TheVariants.{Chip}
use Rattle.soc_reader.specs.Keywords.{key_of, is_printable}
use Rattle.soc_reader.specs.Table.{Value, nothing, word, count, flag, entry, owner, shape_of, Follows}
use Rattle.soc_reader.specs.Grammar.{open_after, after, is_options, may_give, IsText}
use Rattle.soc_reader.specs.Meaning.{empty_chip, says, wrong_total, module_count, test_count}
use Rattle.soc_reader.specs.ChipForm.{SaysChip}
use Rattle.soc_printer.specs.SocText.{flag_word, name_line, total_line, options_line, module_text, soc_text}
use Rattle.soc_printer.proofs.PrintedWords.{soc_name-key, total_modules-key, options-key, power_flag-key, xy_flag-key, name-printable}
use Rattle.soc_printer.proofs.LastChanges.{IsAbsent, numbers_of, numbers-push, upto, with_last, absent-from_differ}
use Rattle.soc_printer.proofs.Steps.{ReadSoFar, push, number-follows, flag-follows}
use Rattle.soc_printer.proofs.ModuleReads.{IsPrintable, line-reads, tests_line-reads, tests-read, tests_words, all_test_words, no_wrong}
use Rattle.soc_printer.proofs.LineWords.{behind, modules_words, modules-words, head_words, head-words, name_line-words}
use Rattle.common_lemmas.proofs.Lists.{at_seam}

-- ---- sound chips can be printed

printable : (m : ModuleValue) → HasSmall m → IsSoundModule m → length m.chains ≤ 1000 → length m.tests ≤ 4096 → IsPrintable m
printable m small sound chains tests =
    let P : ℕ → Type 0 = λ n. n < 10 ^ 12 in
    let own = small_module m small in
    let of_tests : All P (flat_map numbers_of_test m.tests) = all_right P m.chains (flat_map numbers_of_test m.tests) (all_right P (m.number ∷ m.level ∷ m.inputs ∷ m.outputs ∷ m.bidirs ∷ m.setup ∷ []) (m.chains ++ flat_map numbers_of_test m.tests) small) in
    let of_test : (t : Test) → All P (numbers_of_test t) → IsSmallTest t = λ t all. record { number = all 0 0 (omega arith); patterns = all 1 0 (omega arith); power = all 2 0 (omega arith) } in
    record {
      number = small 0 0 (omega arith);
      level = small 1 0 (omega arith);
      inputs = own.inputs;
      outputs = own.outputs;
      bidirs = own.bidirs;
      setup = own.setup;
      chains = own.chains;
      few_chains = omega arith;
      few_tests = omega arith;
      tests = All-weaker (λ (t : Test). All P (numbers_of_test t)) IsSmallTest of_test m.tests (all_flat P numbers_of_test m.tests of_tests);
      sound = sound;
    }

all_printable : (soc : SocValue) → IsSoundChip soc → All IsPrintable soc.modules
all_printable soc sound = λ k d within.
    printable (get_or soc.modules k d) (sound.small k d within) (sound.modules k d within) (module_chains-le soc sound.size k d within) (module_tests-le soc sound.size k d within)

-- ---- the first lines

-- nothing was read
unfoldable nothing_read : (whole : SocValue) (all : List Word) → ReadSoFar whole all all empty_chip []
nothing_read whole all = record {
  items = [];
  front = [];
  words = refl;
  text = refl;
  says_chip = refl;
  totals = refl;
  unsaid = λ n gone. record { modules = λ k. refl; tests = λ t k. refl; names = λ w. refl };
}

-- an entry of the chip
unfoldable chip-push : (whole : SocValue) (all left left' : List Word) (chip chip' : SocValue) (s : ReadSoFar whole all left chip []) (line : ℕ) (k : Key) (v : Value) (kw : List ℕ) (ws : List Word) → left ≡ ((kw, line) ∷ ws) ++ left'
    → key_of (is_options (after s.items)) kw ≡ Some k → owner k (open_after s.items) ≡ Some Chip → may_give Chip k s.items ≡ true → Follows (shape_of k) ws v → wrong_total whole (entry Chip k v) ≡ None → says (entry Chip k v) chip ≡ chip' → ReadSoFar whole all left' chip' []
chip-push whole all left left' chip chip' s line k v kw ws split known stands often follows right e =
    push whole all left left' chip chip' [] [] s (entry Chip k v) ((kw, line) ∷ ws) split
    (record { first = (kw, line); rest = ws; words = refl; keyword = known; stands = stands; often = often; value = follows })
    right
    (λ n gone.
    let old = s.unsaid n gone in
    record { modules = λ j. old.modules j; tests = λ t j. old.tests t j; names = λ w. old.names w })
    e

all_counted : (whole : SocValue) → module_count whole (length whole.modules) ≡ true
all_counted whole = rw (eq-eqb (length whole.modules) (length whole.modules) refl) refl

-- the number of modules and the flags, behind the name where there is one
head-reads : (whole : SocValue) (all left : List Word) (line : ℕ) (start : SocValue) → length whole.modules < 10 ^ 12 → start ≡ record empty_chip { name = whole.name }
    → (s : ReadSoFar whole all (head_words line (length whole.modules) whole.power_flag whole.xy_flag ++ left) start [])
    → is_options (after s.items) ≡ false → open_after s.items ≡ Chip
    → may_give Chip TotalModules s.items ≡ true → may_give Chip Options s.items ≡ true → may_give Chip PowerFlag s.items ≡ true → may_give Chip XyFlag s.items ≡ true
    → ReadSoFar whole all left (upto whole []) []
unfolding push chip-push
head-reads whole all left line start small is s no_options open_chip total options power xy =
    let n = length whole.modules in
    let l = line + 1 in
    let after_power : List Word = (codes "XY", l) ∷ (flag_word whole.xy_flag, l) ∷ left in
    let after_options : List Word = (codes "Power", l) ∷ (flag_word whole.power_flag, l) ∷ after_power in
    let after_total : List Word = (codes "Options", l) ∷ after_options in
    let named : SocValue = record empty_chip { name = whole.name } in
    let powered : SocValue = record named { power_flag = whole.power_flag } in
    let s1 = chip-push whole all ((codes "TotalModules", line) ∷ (decimal n, line) ∷ after_total) after_total start named s line TotalModules (count n line) (codes "TotalModules") ((decimal n, line) ∷ []) refl
    (total_modules-key (is_options (after s.items))) refl total (number-follows n line small) (no_wrong (module_count whole n) line (all_counted whole)) is in
    let s2 = chip-push whole all after_total after_options named named s1 l Options nothing (codes "Options") [] refl (options-key false) refl options (refl, refl) refl refl in
    let s3 = chip-push whole all after_options after_power named powered s2 l PowerFlag (flag whole.power_flag) (codes "Power") ((flag_word whole.power_flag, l) ∷ []) refl power_flag-key refl power (flag-follows whole.power_flag l) refl refl in
    chip-push whole all after_power left powered (upto whole []) s3 l XyFlag (flag whole.xy_flag) (codes "XY") ((flag_word whole.xy_flag, l) ∷ []) refl xy_flag-key refl xy (flag-follows whole.xy_flag l) refl refl

word-follows : (w : List ℕ) (line : ℕ) → IsName w → (v : Word) × ((w, line) ∷ [] ≡ v ∷ []) × (cond (is_printable v.0) (Some (word v.0)) None ≡ Some (word w))
word-follows w line is = ((w, line), refl, rw (name-printable w is) refl)

-- all words of a printed text: those of the first lines, and those of the modules
record Words (whole : SocValue) (all : List Word) : Type 0 where
  line : ℕ
  read : ReadSoFar whole all (modules_words line whole.modules) (upto whole []) []

first_lines : (whole : SocValue) (nm : List ℕ) → whole.name ≡ nm → IsName nm → length whole.modules < 10 ^ 12 → All IsPrintable whole.modules
    → Words whole (words_of (name_line nm ++ (total_line (length whole.modules) ++ (options_line whole.power_flag whole.xy_flag ++ flat_map module_text whole.modules))))
unfolding push chip-push nothing_read
first_lines whole [] same is small are =
    let n = length whole.modules in
    let text = total_line n ++ (options_line whole.power_flag whole.xy_flag ++ flat_map module_text whole.modules) in
    let words : words_of text ≡ head_words 1 n whole.power_flag whole.xy_flag ++ modules_words 3 whole.modules =
    head-words 1 n whole.power_flag whole.xy_flag (flat_map module_text whole.modules) small ∙ ap (λ l. head_words 1 n whole.power_flag whole.xy_flag ++ l) (modules-words 3 whole.modules are) in
    let all : List Word = head_words 1 n whole.power_flag whole.xy_flag ++ modules_words 3 whole.modules in
    let unnamed : empty_chip ≡ record empty_chip { name = whole.name } = ap (λ w. record empty_chip { name = w }) (sym same) in
    record {
      line = 3;
      read = subst (λ l. ReadSoFar whole l (modules_words 3 whole.modules) (upto whole []) []) (sym words)
          (head-reads whole all (modules_words 3 whole.modules) 1 empty_chip small unnamed (nothing_read whole all) refl refl refl refl refl refl);
    }
first_lines whole (b ∷ bs) same is small are =
    let n = length whole.modules in
    let nm : List ℕ = b ∷ bs in
    let text = total_line n ++ (options_line whole.power_flag whole.xy_flag ++ flat_map module_text whole.modules) in
    let rest : List Word = head_words 2 n whole.power_flag whole.xy_flag ++ modules_words 4 whole.modules in
    let all : List Word = (codes "SocName", 1) ∷ (nm, 1) ∷ rest in
    let words : words_of (name_line nm ++ text) ≡ all =
    name_line-words 1 b bs text is ∙ ap (λ l. (codes "SocName", 1) ∷ (nm, 1) ∷ l) (head-words 2 n whole.power_flag whole.xy_flag (flat_map module_text whole.modules) small ∙ ap (λ l. head_words 2 n whole.power_flag whole.xy_flag ++ l) (modules-words 4 whole.modules are)) in
    let named : record empty_chip { name = nm } ≡ record empty_chip { name = whole.name } = ap (λ w. record empty_chip { name = w }) (sym same) in
    let s1 = chip-push whole all all rest empty_chip (record empty_chip { name = nm }) (nothing_read whole all) 1 SocName (word nm) (codes "SocName") ((nm, 1) ∷ []) refl (soc_name-key false) refl refl (word-follows nm 1 is) refl refl in
    record {
      line = 4;
      read = subst (λ l. ReadSoFar whole l (modules_words 4 whole.modules) (upto whole []) []) (sym words)
          (head-reads whole all (modules_words 4 whole.modules) 2 (record empty_chip { name = nm }) small named s1 refl refl refl refl refl refl);
    }

-- ---- the modules

tests_counted : (whole : SocValue) → IsSoundChip whole → (done more : List ModuleValue) (m : ModuleValue) → whole.modules ≡ done ++ m ∷ more → test_count whole m.number (length m.tests) ≡ true
tests_counted whole sound done more m split =
    let at : slice_get whole.modules (length done) ≡ Some m = ap (λ ms. slice_get ms (length done)) split ∙ at_seam done more m in
    let place : module_place whole m.number ≡ Some (length done) = place-from_module (IsKeyed-from_sound sound) (length done) m at in
    rw place (rw at (eq-eqb (length m.tests) (length m.tests) refl))

modules-read : (whole : SocValue) (all : List Word) (done more : List ModuleValue) (line : ℕ) → IsSoundChip whole → whole.modules ≡ done ++ more → All IsPrintable more
    → ReadSoFar whole all (modules_words line more) (upto whole done) (numbers_of done) → ReadSoFar whole all [] (upto whole whole.modules) (numbers_of whole.modules)
modules-read whole all done [] line sound split are s =
    let same : done ≡ whole.modules = sym (split ∙ append-nil done) in
    subst (λ ms. ReadSoFar whole all [] (upto whole ms) (numbers_of ms)) same s
modules-read whole all done (m ∷ more) line sound split are s =
    let number = m.number in
    let is = All-head IsPrintable m more are in
    let left : List Word = modules_words (behind (line + 1 + 1) m.tests) more in
    let numbers_split : numbers whole ≡ numbers_of done ++ number ∷ numbers_of more = ap numbers_of split ∙ map-append (λ (m : ModuleValue). m.number) done (m ∷ more) in
    let absent : IsAbsent number (numbers_of done) = absent-from_differ (numbers_of done) (numbers_of more) number (subst AllDiffer numbers_split sound.modules_differ) in
    let seen : List ℕ = numbers_of done ++ number ∷ [] in
    let r1 = line-reads whole all (tests_words (line + 1) number (length m.tests) ++ (all_test_words (line + 1 + 1) number m.tests ++ left)) done m line is absent s in
    let r2 = tests_line-reads whole all (all_test_words (line + 1 + 1) number m.tests ++ left) done (record m { tests = [] }) seen number (line + 1) (length m.tests) absent is.number is.few_tests (tests_counted whole sound done more m split) r1 in
    let r3 : ReadSoFar whole all left (with_last whole done number m) seen = tests-read whole all left done m [] m.tests seen number (line + 1 + 1) _ 13 absent is.number is.tests is.sound.tests_differ r2 in
    let next : ReadSoFar whole all left (upto whole (done ++ m ∷ [])) (numbers_of (done ++ m ∷ [])) =
    subst (λ ns. ReadSoFar whole all left (record whole { keys = ns; modules = done ++ m ∷ [] }) ns) (sym (numbers-push done m)) r3 in
    modules-read whole all (done ++ m ∷ []) more (behind (line + 1 + 1) m.tests) sound (split ∙ sym (append_assoc done (m ∷ []) more)) (All-tail IsPrintable m more are) next

-- ---- the whole text

-- what is printed of a sound chip says that chip
pub says-printed : (soc : SocValue) → IsSoundChip soc → SaysChip (soc_text soc) soc
says-printed soc sound =
    let are = all_printable soc sound in
    let few : length soc.modules < 10 ^ 12 = omega (arith, modules-le soc sound.size) in
    let head = first_lines soc soc.name refl sound.name few are in
    let s = modules-read soc (words_of (soc_text soc)) [] soc.modules head.line sound refl are head.read in
    let words : words_of (soc_text soc) ≡ s.front = s.words ∙ append-nil s.front in
    let whole : upto soc soc.modules ≡ soc = ap (λ ks. record soc { keys = ks }) (sym sound.keyed) in
    record {
      modules = record {
        items = s.items;
        text = subst (IsText s.items) (sym words) s.text;
        chip = sym (s.says_chip ∙ whole);
        totals = s.totals;
      };
      size = sound.size;
    }
