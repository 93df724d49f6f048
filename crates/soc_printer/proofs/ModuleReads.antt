-- The lines of a printed module are read as that module.
use Rattle.std.proofs.Common.{◌≡◌, inl, ℕ, ◌+◌, ◌<◌, ◌^◌, List, [], ◌∷◌, ◌++◌, length, map, Bool, true, false, cond, nat_eq, codes, decimal, None, Some, refl, sym, ◌∙◌, ap, subst, append_assoc, append-nil, arith}
use Rattle.std.specs.List.{All}
use Rattle.std.proofs.lemmas.Bool.Decides.{nat_tests}
use Rattle.std.proofs.lemmas.List.{map-append}
use Rattle.std.proofs.lemmas.List.Elements.{All-head, All-tail}
use Rattle.soc_model.specs.declared.Test.{Test}
use Rattle.soc_model.specs.Chips.{ModuleValue, SocValue}
use Rattle.soc_model.specs.SoundChips.{IsName, is_keyword, AllDiffer, IsSoundModule}
use Rattle.soc_model.proofs.Sums.{IsSmallTest}
use Rattle.soc_reader.specs.declared.keys.Key.TheVariants.{Level, Inputs, Outputs, Bidirs, Setup, ScanChains, TotalTests, ScanUse, TamUse, Patterns, Power}
use Rattle.soc_reader.specs.declared.keys.Subject.{Subject}
use Rattle.soc_reader.specs.declared.keys.Subject.TheVariants.{OfModule, OfTest}
use Rattle.outside.specs.Words.{Word}
use Rattle.soc_reader.specs.Table.{count, flag, lengths, name, Follows}
use Rattle.soc_reader.specs.declared.keys.Shape.TheVariants.{ManyNumbers}
use Rattle.soc_reader.specs.Meaning.{new_module, new_test, test_count, tells}
use Rattle.soc_reader.specs.Drafts.{test_numbers}
use Rattle.soc_reader.proofs.Places.{numbers-push}
use Rattle.soc_printer.specs.SocText.{flag_word, name_words, setup_words, terminal_words, module_words}
use Rattle.soc_printer.proofs.TextWords.{words_on}
use Rattle.soc_printer.proofs.PrintedWords.{level-key, inputs-key, outputs-key, bidirs-key, setup-key, scan_chains-key, total_tests-key, scan_use-key, tam_use-key, patterns-key, power-key, row-small, number-decimal, numbers-decimal, free-from_name}
use Rattle.soc_printer.proofs.LastChanges.{IsAbsent, numbers_of, upto, with_last, absent-from_differ, last-changed}
use Rattle.soc_printer.proofs.Steps.{ReadSoFar, Reading, Begun, push, number-follows, flag-follows, module-begun, module-again, module-step, test-begun, test-step}

-- ---- the line of a module

-- the name of a module, where it has one
name-reads : (whole : SocValue) (all left : List Word) (done : List ModuleValue) (m line : ℕ) (nm : List ℕ) (more : List (List ℕ)) → IsAbsent m (numbers_of done) → IsName nm → is_keyword nm ≡ false
    → Begun whole all (words_on line (name_words nm ++ more) ++ left) (with_last whole done m (new_module m)) (numbers_of done ++ m ∷ []) m
    → Reading whole all (words_on line more ++ left) (with_last whole done m (record (new_module m) { name = nm })) (numbers_of done ++ m ∷ []) m [] (OfModule m) 0
unfolding push
name-reads whole all left done m line [] more absent is free b = b.reading
name-reads whole all left done m line (c ∷ cs) more absent is free b =
    let r = b.reading in
    let nm : List ℕ = c ∷ cs in
    let seen : List ℕ = numbers_of done ++ m ∷ [] in
    record {
      so_far = push whole all ((nm, line) ∷ (words_on line more ++ left)) (words_on line more ++ left) (with_last whole done m (new_module m)) (with_last whole done m (record (new_module m) { name = nm })) seen seen r.so_far (name m nm) ((nm, line) ∷ []) refl
          (record { line = line; words = refl; free = free-from_name nm is free; stands = b.named; of = r.opened; often = rw (b.names nm) refl })
          refl
          (λ n gone.
          let old = r.so_far.unsaid n gone in
          record { modules = λ k. old.modules k; tests = λ t k. old.tests t k; names = λ w. rw (r.module_seen n gone) (old.names w) })
          (last-changed whole done m (tells (name m nm)) (new_module m) absent);
      opened = r.opened;
      no_options = refl;
      other = r.other;
      other_tests = r.other_tests;
      untested = λ t gone k. r.untested t gone k;
      keys = λ k le. r.keys k le;
      module_seen = r.module_seen;
    }

eq-zero : (n : ℕ) → nat_eq n 0 ≡ true → n ≡ 0
eq-zero n e = grind (arith, nat_tests)

-- setup cycles, where there are any
setup-reads : (whole : SocValue) (all left : List Word) (done : List ModuleValue) (last : ModuleValue) (seen : List ℕ) (m : ℕ) (line n : ℕ) (more : List (List ℕ)) → IsAbsent m (numbers_of done) → n < 10 ^ 12 → last.setup ≡ 0
    → Reading whole all (words_on line (setup_words n ++ more) ++ left) (with_last whole done m last) seen m [] (OfModule m) 10
    → Reading whole all (words_on line more ++ left) (with_last whole done m (record last { setup = n })) seen m [] (OfModule m) 11
setup-reads whole all left done last seen m line n more absent small none r = by (nat_eq n 0) refl r
  where
    by : (b : Bool) → nat_eq n 0 ≡ b → Reading whole all (words_on line (cond b [] (codes "Setup" ∷ decimal n ∷ []) ++ more) ++ left) (with_last whole done m last) seen m [] (OfModule m) 10
        → Reading whole all (words_on line more ++ left) (with_last whole done m (record last { setup = n })) seen m [] (OfModule m) 11
    by true is r =
        let same : last ≡ record last { setup = n } = ap (λ k. record last { setup = k }) (none ∙ sym (eq-zero n is)) in
        let later : Reading whole all (words_on line more ++ left) (with_last whole done m last) seen m [] (OfModule m) 11 = record {
          so_far = r.so_far;
          opened = r.opened;
          no_options = r.no_options;
          other = r.other;
          other_tests = r.other_tests;
          untested = r.untested;
          keys = λ k le. r.keys k (omega arith);
          module_seen = r.module_seen;
        } in
        subst (λ l. Reading whole all (words_on line more ++ left) (with_last whole done m l) seen m [] (OfModule m) 11) same later
    by false is r =
        module-step whole all ((codes "Setup", line) ∷ (decimal n, line) ∷ (words_on line more ++ left)) (words_on line more ++ left) done last seen m [] 10 11 line Setup (count n line) (codes "Setup") ((decimal n, line) ∷ []) absent r refl
        (record { known = setup-key; stands = refl; once = refl; follows = number-follows n line small; stays = refl; no_options = refl }) (omega arith) (omega arith) refl

-- the number of scan chains and their lengths
chains-follow : (ns : List ℕ) (line : ℕ) → length ns < 10 ^ 12 → All (λ n. n < 10 ^ 12) ns → Follows ManyNumbers ((decimal (length ns), line) ∷ words_on line (map decimal ns)) (lengths ns)
chains-follow ns line few small = (ns, record { first = (decimal (length ns), line); rest = words_on line (map decimal ns); words = refl; many = number-decimal (length ns) few; numbers = inl (numbers-decimal line ns small) }, refl)

-- what is asked of a module that is printed
pub record IsPrintable (m : ModuleValue) : Type 0 where
  pub number : m.number < 10 ^ 12
  pub level : m.level < 10 ^ 12
  pub inputs : m.inputs < 10 ^ 12
  pub outputs : m.outputs < 10 ^ 12
  pub bidirs : m.bidirs < 10 ^ 12
  pub setup : m.setup < 10 ^ 12
  pub chains : All (λ n. n < 10 ^ 12) m.chains
  pub few_chains : length m.chains < 10 ^ 12
  pub few_tests : length m.tests < 10 ^ 12
  pub tests : All IsSmallTest m.tests
  pub sound : IsSoundModule m

pub line-reads : (whole : SocValue) (all left : List Word) (done : List ModuleValue) (M : ModuleValue) (line : ℕ) → IsPrintable M → IsAbsent M.number (numbers_of done)
    → ReadSoFar whole all (words_on line (codes "Module" ∷ module_words M) ++ (words_on line (map decimal M.chains) ++ left)) (upto whole done) (numbers_of done)
    → Reading whole all left (with_last whole done M.number (record M { tests = [] })) (numbers_of done ++ M.number ∷ []) M.number [] (OfModule M.number) 12
line-reads whole all left done M line is absent s =
    let m = M.number in
    let seen : List ℕ = numbers_of done ++ m ∷ [] in
    let rest : List Word = words_on line (map decimal M.chains) ++ left in
    let chains : List (List ℕ) = codes "ScanChains" ∷ decimal (length M.chains) ∷ [] in
    let after_setup : List Word = words_on line chains ++ rest in
    let after_bidirs : List Word = words_on line (setup_words M.setup ++ chains) ++ rest in
    let after_outputs : List Word = (codes "Bidirs", line) ∷ (decimal M.bidirs, line) ∷ after_bidirs in
    let after_inputs : List Word = (codes "Outputs", line) ∷ (decimal M.outputs, line) ∷ after_outputs in
    let after_level : List Word = (codes "Inputs", line) ∷ (decimal M.inputs, line) ∷ after_inputs in
    let more : List (List ℕ) = codes "Level" ∷ decimal M.level ∷ (terminal_words M ++ (setup_words M.setup ++ chains)) in
    let v1 : ModuleValue = record (new_module m) { name = M.name } in
    let v2 : ModuleValue = record v1 { level = M.level } in
    let v3 : ModuleValue = record v2 { inputs = M.inputs } in
    let v4 : ModuleValue = record v3 { outputs = M.outputs } in
    let v5 : ModuleValue = record v4 { bidirs = M.bidirs } in
    let v6 : ModuleValue = record v5 { setup = M.setup } in
    let begun = module-begun whole all (words_on line (name_words M.name ++ more) ++ rest) done m line s is.number absent in
    let r1 = name-reads whole all rest done m line M.name more absent is.sound.name is.sound.no_keyword begun in
    let r2 = module-step whole all ((codes "Level", line) ∷ (decimal M.level, line) ∷ after_level) after_level done v1 seen m [] 0 7 line Level (count M.level line) (codes "Level") ((decimal M.level, line) ∷ []) absent r1 refl
    (record { known = level-key; stands = refl; once = refl; follows = number-follows M.level line is.level; stays = refl; no_options = refl }) (omega arith) (omega arith) refl in
    let r3 = module-step whole all after_level after_inputs done v2 seen m [] 7 8 line Inputs (count M.inputs line) (codes "Inputs") ((decimal M.inputs, line) ∷ []) absent r2 refl
    (record { known = inputs-key; stands = refl; once = refl; follows = number-follows M.inputs line is.inputs; stays = refl; no_options = refl }) (omega arith) (omega arith) refl in
    let r4 = module-step whole all after_inputs after_outputs done v3 seen m [] 8 9 line Outputs (count M.outputs line) (codes "Outputs") ((decimal M.outputs, line) ∷ []) absent r3 refl
    (record { known = outputs-key; stands = refl; once = refl; follows = number-follows M.outputs line is.outputs; stays = refl; no_options = refl }) (omega arith) (omega arith) refl in
    let r5 = module-step whole all after_outputs after_bidirs done v4 seen m [] 9 10 line Bidirs (count M.bidirs line) (codes "Bidirs") ((decimal M.bidirs, line) ∷ []) absent r4 refl
    (record { known = bidirs-key; stands = refl; once = refl; follows = number-follows M.bidirs line is.bidirs; stays = refl; no_options = refl }) (omega arith) (omega arith) refl in
    let r6 = setup-reads whole all rest done v5 seen m line M.setup chains absent is.setup refl r5 in
    module-step whole all after_setup left done v6 seen m [] 11 12 line ScanChains (lengths M.chains) (codes "ScanChains") ((decimal (length M.chains), line) ∷ words_on line (map decimal M.chains)) absent r6 refl
    (record { known = scan_chains-key; stands = refl; once = refl; follows = chains-follow M.chains line is.few_chains is.chains; stays = refl; no_options = refl }) (omega arith) (omega arith) refl

-- ---- the number of its tests

abbrev pub tests_words : ℕ → ℕ → ℕ → List Word
tests_words line m tests = (codes "Module", line) ∷ (decimal m, line) ∷ (codes "TotalTests", line) ∷ (decimal tests, line) ∷ []

pub no_wrong : (b : Bool) (line : ℕ) → b ≡ true → cond b None (Some line) ≡ None
no_wrong true line e = refl
no_wrong false line e = cc

pub tests_line-reads : (whole : SocValue) (all left : List Word) (done : List ModuleValue) (last : ModuleValue) (seen : List ℕ) (m line tests : ℕ) → IsAbsent m (numbers_of done) → m < 10 ^ 12 → tests < 10 ^ 12 → test_count whole m tests ≡ true
    → Reading whole all (tests_words line m tests ++ left) (with_last whole done m last) seen m [] (OfModule m) 12
    → Reading whole all left (with_last whole done m last) seen m [] (OfModule m) 13
tests_line-reads whole all left done last seen m line tests absent small few right r =
    let after : List Word = (codes "TotalTests", line) ∷ (decimal tests, line) ∷ left in
    let again = module-again whole all after done last seen m [] (OfModule m) 12 12 line r small r.keys in
    module-step whole all after left done last seen m [] 12 13 line TotalTests (count tests line) (codes "TotalTests") ((decimal tests, line) ∷ []) absent again refl
    (record { known = total_tests-key; stands = refl; once = refl; follows = number-follows tests line few; stays = refl; no_options = refl }) (omega arith) (omega arith) (no_wrong (test_count whole m tests) line right)

-- ---- its tests

abbrev pub test_words : ℕ → ℕ → Test → List Word
test_words line m t =
    (codes "Module", line) ∷ (decimal m, line) ∷ (codes "Test", line) ∷ (decimal t.number, line) ∷ (codes "ScanUse", line) ∷ (flag_word t.scan, line)
    ∷ (codes "TamUse", line) ∷ (flag_word t.tam, line) ∷ (codes "Patterns", line) ∷ (decimal t.patterns, line) ∷ (codes "Power", line) ∷ (decimal t.power, line) ∷ []

pub test_line-reads : (whole : SocValue) (all left : List Word) (done : List ModuleValue) (M : ModuleValue) (ts : List Test) (t : Test) (seen : List ℕ) (m line : ℕ) (s : Subject) (next : ℕ)
    → IsAbsent m (numbers_of done) → m < 10 ^ 12 → IsSmallTest t → IsAbsent t.number (test_numbers ts)
    → Reading whole all (test_words line m t ++ left) (with_last whole done m (record M { tests = ts })) seen m (test_numbers ts) s next
    → Reading whole all left (with_last whole done m (record M { tests = ts ++ t ∷ [] })) seen m (test_numbers ts ++ t.number ∷ []) (OfTest m t.number) 18
test_line-reads whole all left done M ts t seen m line s next absent small is new r =
    let n = t.number in
    let tested : List ℕ = test_numbers ts ++ n ∷ [] in
    let after_patterns : List Word = (codes "Power", line) ∷ (decimal t.power, line) ∷ left in
    let after_tam : List Word = (codes "Patterns", line) ∷ (decimal t.patterns, line) ∷ after_patterns in
    let after_scan : List Word = (codes "TamUse", line) ∷ (flag_word t.tam, line) ∷ after_tam in
    let after_test : List Word = (codes "ScanUse", line) ∷ (flag_word t.scan, line) ∷ after_scan in
    let after_module : List Word = (codes "Test", line) ∷ (decimal n, line) ∷ after_test in
    let x0 : Test = new_test n in
    let x1 : Test = record x0 { scan = t.scan } in
    let x2 : Test = record x1 { tam = t.tam } in
    let x3 : Test = record x2 { patterns = t.patterns } in
    let again = module-again whole all after_module done (record M { tests = ts }) seen m (test_numbers ts) s next 18 line r small (λ k le. absurd (omega (arith, row-small k))) in
    let r0 = test-begun whole all after_test done (record M { tests = ts }) seen m 18 n line absent new is.number again in
    let r1 = test-step whole all after_test after_scan done M ts x0 seen m tested n 0 15 line ScanUse (flag t.scan) (codes "ScanUse") ((flag_word t.scan, line) ∷ []) absent new refl r0 refl
    (record { known = scan_use-key; stands = refl; once = refl; follows = flag-follows t.scan line; stays = refl; no_options = refl }) (omega arith) (omega arith) in
    let r2 = test-step whole all after_scan after_tam done M ts x1 seen m tested n 15 16 line TamUse (flag t.tam) (codes "TamUse") ((flag_word t.tam, line) ∷ []) absent new refl r1 refl
    (record { known = tam_use-key; stands = refl; once = refl; follows = flag-follows t.tam line; stays = refl; no_options = refl }) (omega arith) (omega arith) in
    let r3 = test-step whole all after_tam after_patterns done M ts x2 seen m tested n 16 17 line Patterns (count t.patterns line) (codes "Patterns") ((decimal t.patterns, line) ∷ []) absent new refl r2 refl
    (record { known = patterns-key; stands = refl; once = refl; follows = number-follows t.patterns line is.patterns; stays = refl; no_options = refl }) (omega arith) (omega arith) in
    test-step whole all after_patterns left done M ts x3 seen m tested n 17 18 line Power (count t.power line) (codes "Power") ((decimal t.power, line) ∷ []) absent new refl r3 refl
    (record { known = power-key; stands = refl; once = refl; follows = number-follows t.power line is.power; stays = refl; no_options = refl }) (omega arith) (omega arith)

abbrev pub all_test_words : ℕ → ℕ → List Test → List Word
all_test_words line m [] = []
all_test_words line m (t ∷ ts) = test_words line m t ++ all_test_words (line + 1) m ts

pub tests-read : (whole : SocValue) (all left : List Word) (done : List ModuleValue) (M : ModuleValue) (ts more : List Test) (seen : List ℕ) (m line : ℕ) (s : Subject) (next : ℕ)
    → IsAbsent m (numbers_of done) → m < 10 ^ 12 → All IsSmallTest more → AllDiffer (test_numbers (ts ++ more))
    → Reading whole all (all_test_words line m more ++ left) (with_last whole done m (record M { tests = ts })) seen m (test_numbers ts) s next
    → ReadSoFar whole all left (with_last whole done m (record M { tests = ts ++ more })) seen
tests-read whole all left done M ts [] seen m line s next absent small are differ r =
    subst (λ us. ReadSoFar whole all left (with_last whole done m (record M { tests = us })) seen) (sym (append-nil ts)) r.so_far
tests-read whole all left done M ts (t ∷ more) seen m line s next absent small are differ r =
    let P : Test → Type 0 = IsSmallTest in
    let split : test_numbers (ts ++ t ∷ more) ≡ test_numbers ts ++ t.number ∷ test_numbers more = map-append (λ (x : Test). x.number) ts (t ∷ more) in
    let new : IsAbsent t.number (test_numbers ts) = absent-from_differ (test_numbers ts) (test_numbers more) t.number (subst AllDiffer split differ) in
    let assoc : (ts ++ t ∷ []) ++ more ≡ ts ++ t ∷ more = append_assoc ts (t ∷ []) more in
    let one = test_line-reads whole all (all_test_words (line + 1) m more ++ left) done M ts t seen m line s next absent small (All-head P t more are) new r in
    let here : Reading whole all (all_test_words (line + 1) m more ++ left) (with_last whole done m (record M { tests = ts ++ t ∷ [] })) seen m (test_numbers (ts ++ t ∷ [])) (OfTest m t.number) 18 =
    subst (λ ns. Reading whole all (all_test_words (line + 1) m more ++ left) (with_last whole done m (record M { tests = ts ++ t ∷ [] })) seen m ns (OfTest m t.number) 18) (sym (numbers-push ts t)) one in
    subst (λ us. ReadSoFar whole all left (with_last whole done m (record M { tests = us })) seen) assoc
    (tests-read whole all left done M (ts ++ t ∷ []) more seen m (line + 1) (OfTest m t.number) 18 absent small (All-tail P t more are) (subst (λ us. AllDiffer (test_numbers us)) (sym assoc) differ) here)
