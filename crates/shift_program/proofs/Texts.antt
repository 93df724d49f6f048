-- Texts of programs and their words: what is read is what is said, and each state can be ended.
use Rattle.std.proofs.Common.{◌≡◌, ℕ, List, [], ◌∷◌, ◌++◌, Bool, true, false, nat_eq, Option, Some, refl, sym, ◌∙◌, ap, append_assoc, append-nil, arith, ◌⊎◌, inl, inr, nat_le, Err, All, flat_map}
use Rattle.std.proofs.lemmas.Bool.{eqb-true, leb-true, le-leb}
use Rattle.std.proofs.lemmas.List.Concat.{flat_map-append}
use Rattle.std.proofs.lemmas.List.Elements.{All-nil, All-cons, All-push, All-head, All-tail}
use Rattle.outside.specs.Runs.{run_by}
use Rattle.outside.proofs.Runs.{run-append}
use Rattle.plan_model.specs.declared.TheConstants.{PLAN_NUMBER_MOST}
use Rattle.keyword_text.specs.declared.tokens.Token.{Token}
use Rattle.keyword_text.specs.declared.tokens.Token.TheVariants.{Key, Number}
use Rattle.keyword_text.specs.Tokens.{token_of}
use Rattle.keyword_text.specs.Texts.{AllSmall, Says as SaysProgram}
use Rattle.keyword_text.specs.Machines.{IsRun, IsSaid, IsReadWhole, MayEnd, ReadsGrammar}
use Rattle.keyword_text.proofs.Kept.{kept_by_words, kept_holds}
use Rattle.shift_program.specs.declared.Entry.{Entry}
use Rattle.shift_program.specs.declared.tokens.Keyword.{Keyword}
use Rattle.shift_program.specs.declared.steps.Part.{Part}
use Rattle.shift_program.specs.Programs.{ProgramValue, IsLasting, program_value}
use Rattle.shift_program.specs.Tokens.{spelling, program_lexicon, entry_tokens, program_tokens}
use Rattle.shift_program.specs.Grammar.{program_grammar, IsSmallEntry, IsInRange}
use Rattle.shift_program.specs.Steps.{State, at, with_entry, lasting_entry, next_if, step_number, begin, begin_program, begin_test, begun, step_key, step, ended_by, ended, program_machine, with_test}
use Rattle.keyword_text.proofs.Endings.{ends_by_key, ends_by_number, ends_by_zero}
use Rattle.outside.specs.Words.{words_of}
use Rattle.outside.specs.Grammars.{last_line}
use Rattle.keyword_text.specs.Reads.{IsReadText}
use Rattle.keyword_text.proofs.Ranges.{spelled_small}
use Rattle.keyword_text.proofs.EachText.{each_text as each_by}
use Rattle.keyword_text.proofs.Viability.{one_value}
use Rattle.keyword_text.proofs.Settled.{not_refused, refused_once}
use Rattle.shift_program.specs.declared.ProgramTextFault.{ProgramTextFault}
use Rattle.shift_program.specs.declared.ProgramTextFault.TheVariants.{Text, NoMemory}
use Rattle.shift_program.specs.Answers.{RefusesText, program_unread, IsReadProgram, ProgramRead, TextMeaning, Says, RefusedAt, Means}
use Rattle.shift_program.specs.Laws.{EachTextHasAnAnswer, TextsHaveOneAnswer}
use Rattle.keyword_text.proofs.Kept as kept
use Rattle.shift_program.specs.declared.Entry.TheVariants as entry
use Rattle.shift_program.specs.declared.tokens.Keyword.TheVariants as key
use Rattle.shift_program.specs.declared.steps.Part.TheVariants as part

-- ---- what was read so far is the words of the state, and the words of a program are read whole

-- ---- the words of a state

-- the word that begins a Rest or Shifts
abbrev lasting_key : Bool → Keyword
lasting_key true = key.Shift
lasting_key false = key.Rest

-- no entry was read before the test
abbrev IsFresh : Part → ProgramValue → Type 0
IsFresh part.WantsProgram d = d.entries ≡ []
IsFresh part.WantsForm d = d.entries ≡ []
IsFresh part.WantsTestWord d = d.entries ≡ []
IsFresh part.WantsModule d = d.entries ≡ []
IsFresh (part.WantsTest m) d = d.entries ≡ []
IsFresh part.AfterEntry d = Unit {0}
IsFresh (part.WantsCycles shifts) d = Unit {0}
IsFresh part.WantsPattern d = Unit {0}

module _ (d : ProgramValue) where
  abbrev state_tokens : Part → List (Token Keyword)
  state_tokens part.WantsProgram = []
  state_tokens part.WantsForm = Key key.Program ∷ []
  state_tokens part.WantsTestWord = Key key.Program ∷ Number 1 ∷ []
  state_tokens part.WantsModule = Key key.Program ∷ Number 1 ∷ Key key.Test ∷ []
  state_tokens (part.WantsTest m) = Key key.Program ∷ Number 1 ∷ Key key.Test ∷ Number m ∷ []
  state_tokens part.AfterEntry = program_tokens d
  state_tokens (part.WantsCycles shifts) = program_tokens d ++ Key (lasting_key shifts) ∷ []
  state_tokens part.WantsPattern = program_tokens d ++ Key key.Capture ∷ []

  -- the words that were read are those of this draft and this part
  record Holds (p : Part) (ts : List (Token Keyword)) : Type 0 where
    fresh : IsFresh p d
    read : ts ≡ state_tokens p
    lasting : All IsLasting d.entries

abbrev IsRead : List (Token Keyword) → State → Type 0
IsRead ts s = Holds s.draft s.part ts

abbrev HoldsNext : Option State → List (Token Keyword) → Type 0
HoldsNext o ts = kept.HoldsNext IsRead o ts

entry_pushed : (d : ProgramValue) (e : Entry) → program_tokens d ++ entry_tokens e ≡ program_tokens (with_entry d e)
entry_pushed d e =
    ap (λ l. Key key.Program ∷ Number 1 ∷ Key key.Test ∷ Number d.test.«module» ∷ Number d.test.test ∷ l)
    (ap (λ l. flat_map entry_tokens d.entries ++ l) (sym (append-nil (entry_tokens e))) ∙ sym (flat_map-append entry_tokens d.entries (e ∷ [])))

one_more : (ts : List (Token Keyword)) (d : ProgramValue) (k : Keyword) (n : ℕ) → ts ≡ program_tokens d ++ Key k ∷ [] →
    ts ++ Number n ∷ [] ≡ program_tokens d ++ (Key k ∷ Number n ∷ [])
one_more ts d k n read = ap (λ l. l ++ Number n ∷ []) read ∙ append_assoc (program_tokens d) (Key k ∷ []) (Number n ∷ [])

number_holds : (p : Part) (d : ProgramValue) (n : ℕ) (ts : List (Token Keyword)) → Holds d p ts → HoldsNext (step_number d p n) (ts ++ Number n ∷ [])
number_holds part.WantsProgram d n ts h = tt
number_holds part.WantsForm d n ts h = by (nat_eq n 1) refl
  where
    by : (b : Bool) → nat_eq n 1 ≡ b → HoldsNext (next_if b (at d part.WantsTestWord)) (ts ++ Number n ∷ [])
    by true e = record { fresh = h.fresh; read = ap (λ l. l ++ Number n ∷ []) h.read ∙ ap (λ m. Key key.Program ∷ Number m ∷ []) (eqb-true n 1 e); lasting = h.lasting }
    by false e = tt
number_holds part.WantsTestWord d n ts h = tt
number_holds part.WantsModule d n ts h = record { fresh = h.fresh; read = ap (λ l. l ++ Number n ∷ []) h.read; lasting = h.lasting }
number_holds (part.WantsTest m) d n ts h =
    record {
      fresh = tt;
      read = ap (λ l. l ++ Number n ∷ []) h.read ∙ ap (λ es. Key key.Program ∷ Number 1 ∷ Key key.Test ∷ Number m ∷ Number n ∷ flat_map entry_tokens es) (sym h.fresh);
      lasting = h.lasting;
    }
number_holds part.AfterEntry d n ts h = tt
number_holds (part.WantsCycles shifts) d n ts h = by shifts (nat_le 1 n) refl h.read
  where
    by : (shifts b : Bool) → nat_le 1 n ≡ b → ts ≡ program_tokens d ++ Key (lasting_key shifts) ∷ [] → HoldsNext (next_if b (at (with_entry d (lasting_entry shifts n)) part.AfterEntry)) (ts ++ Number n ∷ [])
    by true true e read = record { fresh = tt; read = one_more ts d key.Shift n read ∙ entry_pushed d (entry.Shift n); lasting = All-push IsLasting d.entries (entry.Shift n) h.lasting (leb-true 1 n e) }
    by false true e read = record { fresh = tt; read = one_more ts d key.Rest n read ∙ entry_pushed d (entry.Rest n); lasting = All-push IsLasting d.entries (entry.Rest n) h.lasting (leb-true 1 n e) }
    by shifts false e read = tt
number_holds part.WantsPattern d n ts h =
    record { fresh = tt; read = one_more ts d key.Capture n h.read ∙ entry_pushed d (entry.Capture n); lasting = All-push IsLasting d.entries (entry.Capture n) h.lasting tt }

program_holds : (k : Keyword) (d : ProgramValue) (ts : List (Token Keyword)) → Holds d part.WantsProgram ts → HoldsNext (begun d (begin_program k)) (ts ++ Key k ∷ [])
program_holds key.Program d ts h = record { fresh = h.fresh; read = ap (λ l. l ++ Key key.Program ∷ []) h.read; lasting = h.lasting }
program_holds key.Test d ts h = tt
program_holds key.Rest d ts h = tt
program_holds key.Shift d ts h = tt
program_holds key.Capture d ts h = tt

test_holds : (k : Keyword) (d : ProgramValue) (ts : List (Token Keyword)) → Holds d part.WantsTestWord ts → HoldsNext (begun d (begin_test k)) (ts ++ Key k ∷ [])
test_holds key.Program d ts h = tt
test_holds key.Test d ts h = record { fresh = h.fresh; read = ap (λ l. l ++ Key key.Test ∷ []) h.read; lasting = h.lasting }
test_holds key.Rest d ts h = tt
test_holds key.Shift d ts h = tt
test_holds key.Capture d ts h = tt

entry_holds : (k : Keyword) (d : ProgramValue) (ts : List (Token Keyword)) → Holds d part.AfterEntry ts → HoldsNext (begun d (begin k)) (ts ++ Key k ∷ [])
entry_holds key.Program d ts h = tt
entry_holds key.Test d ts h = tt
entry_holds key.Rest d ts h = record { fresh = tt; read = ap (λ l. l ++ Key key.Rest ∷ []) h.read; lasting = h.lasting }
entry_holds key.Shift d ts h = record { fresh = tt; read = ap (λ l. l ++ Key key.Shift ∷ []) h.read; lasting = h.lasting }
entry_holds key.Capture d ts h = record { fresh = tt; read = ap (λ l. l ++ Key key.Capture ∷ []) h.read; lasting = h.lasting }

key_holds : (p : Part) (d : ProgramValue) (k : Keyword) (ts : List (Token Keyword)) → Holds d p ts → HoldsNext (step_key d p k) (ts ++ Key k ∷ [])
key_holds part.WantsProgram d k ts h = program_holds k d ts h
key_holds part.WantsForm d k ts h = tt
key_holds part.WantsTestWord d k ts h = test_holds k d ts h
key_holds part.WantsModule d k ts h = tt
key_holds (part.WantsTest m) d k ts h = tt
key_holds part.AfterEntry d k ts h = entry_holds k d ts h
key_holds (part.WantsCycles shifts) d k ts h = tt
key_holds part.WantsPattern d k ts h = tt

-- words that were read to a state are its words
read_holds : (ts : List (Token Keyword)) (s : State) → IsRun program_machine ts s → Holds s.draft s.part ts
read_holds ts s runs = kept_holds program_machine IsRead (record { fresh = refl; read = refl; lasting = All-nil IsLasting })
    (kept_by_words program_machine IsRead (λ ts s n h. number_holds s.part s.draft n ts h) (λ ts s k h. key_holds s.part s.draft k ts h)) ts s runs

part_said : (part : Part) (d : ProgramValue) (ts : List (Token Keyword)) (p : ProgramValue) → Holds d part ts → ended_by d part ≡ Some p → IsSaid program_grammar ts p
part_said part.AfterEntry d ts p h e =
    let same : d ≡ p = cc in
    rw (← same) (record { words = h.read; allowed = h.lasting })
part_said part d ts p h e = absurd cc

-- words that were read to the end of an entry are those of a program
pub program_said : (ts : List (Token Keyword)) (s : State) (p : ProgramValue) → IsRun program_machine ts s → ended s ≡ Some p → IsSaid program_grammar ts p
program_said ts s p runs ends = part_said s.part s.draft ts p (read_holds ts s runs) ends

-- ---- the words of a program are read whole

-- the state after these words
abbrev run : Option State → List (Token Keyword) → Option State
run s ts = run_by step s ts

module _ (d : ProgramValue) where
  abbrev with_entries : List Entry → ProgramValue
  with_entries es = record d { entries = d.entries ++ es }

  entry_read : (e : Entry) → IsLasting e → run (Some (at d part.AfterEntry)) (entry_tokens e) ≡ Some (at (with_entry d e) part.AfterEntry)
  entry_read (entry.Rest n) lasting = ap (λ b. next_if b (at (with_entry d (entry.Rest n)) part.AfterEntry)) (le-leb 1 n lasting)
  entry_read (entry.Shift n) lasting = ap (λ b. next_if b (at (with_entry d (entry.Shift n)) part.AfterEntry)) (le-leb 1 n lasting)
  entry_read (entry.Capture n) lasting = refl

entries_read : (es : List Entry) (d : ProgramValue) → All IsLasting es →
    run (Some (at d part.AfterEntry)) (flat_map entry_tokens es) ≡ Some (at (with_entries d es) part.AfterEntry)
entries_read [] d lasting = ap (λ l. Some (at (record d { entries = l }) part.AfterEntry)) (sym (append-nil d.entries))
entries_read (e ∷ es) d lasting =
    run-append step (Some (at d part.AfterEntry)) (entry_tokens e) (flat_map entry_tokens es)
    ∙ ap (λ o. run o (flat_map entry_tokens es)) (entry_read d e (All-head IsLasting e es lasting))
    ∙ entries_read es (with_entry d e) (All-tail IsLasting e es lasting)
    ∙ ap (λ l. Some (at (record d { entries = l }) part.AfterEntry)) (append_assoc d.entries (e ∷ []) es)

pub program_read : (p : ProgramValue) → All IsLasting p.entries → IsReadWhole program_machine (program_tokens p) p
program_read p lasting = record { end = at p part.AfterEntry; runs = entries_read p.entries (record { test = p.test; entries = [] }) lasting; ends = refl }

-- ---- ranges

small_entries : (es : List Entry) → AllSmall PLAN_NUMBER_MOST (flat_map entry_tokens es) → All IsSmallEntry es
small_entries [] x = All-nil IsSmallEntry
small_entries (entry.Rest n ∷ es) x = All-cons IsSmallEntry (entry.Rest n) es x.1.0 (small_entries es x.1.1)
small_entries (entry.Shift n ∷ es) x = All-cons IsSmallEntry (entry.Shift n) es x.1.0 (small_entries es x.1.1)
small_entries (entry.Capture n ∷ es) x = All-cons IsSmallEntry (entry.Capture n) es x.1.0 (small_entries es x.1.1)

pub range_of : (p : ProgramValue) → AllSmall PLAN_NUMBER_MOST (program_tokens p) → IsInRange p
range_of p x = record { of = x.1.1.1.0; number = x.1.1.1.1.0; entries = small_entries p.entries x.1.1.1.1.1 }

-- ---- a word for each keyword

pub key_back : (k : Keyword) → token_of program_lexicon (spelling k) ≡ Some (Key k)
unfolding token_of
key_back key.Program = refl
key_back key.Test = refl
key_back key.Rest = refl
key_back key.Shift = refl
key_back key.Capture = refl

-- ---- each state that words come to may still be ended

-- words that make a state end in a whole program
abbrev Ends : State → Type 0
Ends s = MayEnd program_machine PLAN_NUMBER_MOST s

finish_whole : (d : ProgramValue) → Ends (at d part.AfterEntry)
finish_whole d = record { more = []; small = tt; end = at d part.AfterEntry; value = d; runs = refl; ends = refl }

module _ (d : ProgramValue) where
  finish_test : (m : ℕ) → Ends (at d (part.WantsTest m))
  finish_test m = ends_by_zero _ (at (with_test d m 0) part.AfterEntry) refl (finish_whole (with_test d m 0))

  finish_module : Ends (at d part.WantsModule)
  finish_module = ends_by_zero _ (at d (part.WantsTest 0)) refl (finish_test 0)

  finish_word : Ends (at d part.WantsTestWord)
  finish_word = ends_by_key _ (at d part.WantsModule) key.Test refl finish_module

  finish_form : Ends (at d part.WantsForm)
  finish_form = ends_by_number _ (at d part.WantsTestWord) 1 (omega arith) refl finish_word

pub finish : (p : Part) (d : ProgramValue) → Ends (at d p)
finish part.WantsProgram d = ends_by_key _ (at d part.WantsForm) key.Program refl (finish_form d)
finish part.WantsForm d = finish_form d
finish part.WantsTestWord d = finish_word d
finish part.WantsModule d = finish_module d
finish (part.WantsTest m) d = finish_test d m
finish part.AfterEntry d = finish_whole d
finish (part.WantsCycles shifts) d = ends_by_number _ (at (with_entry d (lasting_entry shifts 1)) part.AfterEntry) 1 (omega arith) refl (finish_whole (with_entry d (lasting_entry shifts 1)))
finish part.WantsPattern d = ends_by_zero _ (at (with_entry d (entry.Capture 0)) part.AfterEntry) refl (finish_whole (with_entry d (entry.Capture 0)))

-- ---- what a program's text says is settled

-- what reads programs reads their grammar
pub reads_programs : ReadsGrammar program_grammar program_machine
reads_programs = record {
  sound = λ ts s p small runs ends. program_said ts s p runs ends;
  complete = program_read;
  endable = λ ts s runs. finish s.part s.draft;
  spelled = λ k. record { word = spelling k; is = key_back k };
  fits = omega arith;
}

module _ (bytes : List ℕ) where
  -- a program that a text says has its numbers in the grammar's range
  pub said_in_range : (program : ProgramValue) → SaysProgram program_grammar bytes program → IsReadProgram bytes program
  said_in_range program said =
      record { said = said; range = range_of program (spelled_small program_lexicon (words_of bytes) (program_tokens program) said.words) }

  -- what was not read
  pub not_read : (fault : ProgramTextFault) → IsReadText program_grammar program_value program_unread bytes (Err fault) → ProgramRead bytes (Err fault)
  not_read (Text line) is = is
  not_read NoMemory is = tt

pub each_text : EachTextHasAnAnswer
each_text bytes = by (each_by program_grammar program_machine reads_programs bytes) where
  by : ((program : ProgramValue) × SaysProgram program_grammar bytes program) ⊎ ((line : ℕ) × RefusesText bytes line) → (meaning : TextMeaning) × Means bytes meaning
  by (inl (program, said)) = (Says program, said_in_range bytes program said)
  by (inr (line, refused)) = (RefusedAt line, refused)

pub one_answer : TextsHaveOneAnswer
one_answer bytes (Says a) (Says b) is is' = ap Says (one_value program_grammar program_machine reads_programs (words_of bytes) a b is.said is'.said)
one_answer bytes (Says a) (RefusedAt m) is is' = absurd (not_refused program_grammar (words_of bytes) (last_line bytes) m (a, is.said) is')
one_answer bytes (RefusedAt m) (Says b) is is' = absurd (not_refused program_grammar (words_of bytes) (last_line bytes) m (b, is'.said) is)
one_answer bytes (RefusedAt m) (RefusedAt n) is is' = ap RefusedAt (refused_once program_grammar (words_of bytes) (last_line bytes) m n is is')
