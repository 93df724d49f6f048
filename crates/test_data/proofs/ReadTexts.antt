-- What reads test data word by word reads its grammar.
use Rattle.std.proofs.Common.{◌≡◌, ◌⊎◌, inl, inr, ℕ, List, [], ◌∷◌, ◌++◌, true, false, nat_eq, codes, Option, None, Some, refl, sym, ◌∙◌, ap, subst, append_assoc, append-nil, flat_map}
use Rattle.std.proofs.lemmas.Bool.{cases_Bool, eqb-true}
use Rattle.std.proofs.lemmas.List.Concat.{flat_map-append}
use Rattle.std.proofs.lemmas.Option.{same_Some}
use Rattle.outside.specs.Words.{Word}
use Rattle.outside.specs.Runs.{run_by}
use Rattle.outside.specs.Grammars.{Viable}
use Rattle.outside.proofs.Runs.{run-none, run-append, Fits}
use Rattle.soc_model.specs.declared.TestId.{TestId}
use Rattle.test_data.specs.declared.DataBit.{DataBit}
use Rattle.test_data.specs.DataWords.{bit_word, PatternValue, EntryValue, DataToken, title, header, number, bits, SaysToken, SayTokens, pattern_tokens, entry_tokens, data_tokens, IsDataText, InData}
use Rattle.test_data.specs.DataReads.{State, empty, titled, begun, headed, numbered, within, loaded, entry_of, name_of, with_pattern, is_title, is_header, number_in, after, ended, IsAfterWords}
use Rattle.test_data.proofs.BitWords.{bits_no_header}

-- ---- what was read is the words of the state

abbrev read_tokens : State → List DataToken
read_tokens empty = []
read_tokens titled = title ∷ []
read_tokens begun = data_tokens []
read_tokens (headed es) = data_tokens es ++ header ∷ []
read_tokens (numbered es m) = data_tokens es ++ header ∷ number m ∷ []
read_tokens (within es id ps) = data_tokens (es ++ entry_of id ps ∷ [])
read_tokens (loaded es id ps load) = data_tokens (es ++ entry_of id ps ∷ []) ++ bits load ∷ []

-- an entry more
data_more : (es : List EntryValue) (e : EntryValue) → data_tokens (es ++ e ∷ []) ≡ data_tokens es ++ entry_tokens e
data_more es e = ap (λ l. title ∷ number 1 ∷ l) (flat_map-append entry_tokens es (e ∷ []) ∙ ap (λ l. flat_map entry_tokens es ++ l) (append-nil (entry_tokens e)))

-- an entry without patterns
named_more : (es : List EntryValue) (m k : ℕ) → data_tokens (es ++ entry_of (name_of m k) [] ∷ []) ≡ (data_tokens es ++ header ∷ number m ∷ []) ++ number k ∷ []
named_more es m k = data_more es (entry_of (name_of m k) []) ∙ sym (append_assoc (data_tokens es) (header ∷ number m ∷ []) (number k ∷ []))

-- a pattern more
entry_more : (id : TestId) (ps : List PatternValue) (l u : List DataBit) → entry_tokens (entry_of id (with_pattern ps l u)) ≡ entry_tokens (entry_of id ps) ++ bits l ∷ bits u ∷ []
entry_more id ps l u = ap (λ ts. header ∷ number id.«module» ∷ number id.test ∷ ts) (flat_map-append pattern_tokens ps ((record { load = l; unload = u }) ∷ []))

pattern_more : (es : List EntryValue) (id : TestId) (ps : List PatternValue) (l u : List DataBit) →
    data_tokens (es ++ entry_of id (with_pattern ps l u) ∷ []) ≡ (data_tokens (es ++ entry_of id ps ∷ []) ++ bits l ∷ []) ++ bits u ∷ []
pattern_more es id ps l u =
    data_more es (entry_of id (with_pattern ps l u)) ∙ ap (λ ts. data_tokens es ++ ts) (entry_more id ps l u)
    ∙ sym (append_assoc (data_tokens es) (entry_tokens (entry_of id ps)) (bits l ∷ bits u ∷ []))
    ∙ ap (λ ts. ts ++ bits l ∷ bits u ∷ []) (sym (data_more es (entry_of id ps)))
    ∙ sym (append_assoc (data_tokens (es ++ entry_of id ps ∷ [])) (bits l ∷ []) (bits u ∷ []))

-- a word that was read, and what it says
record Reads (s n : State) (w : Word) : Type 0 where
  token : DataToken
  says : SaysToken w.0 token
  more : read_tokens n ≡ read_tokens s ++ token ∷ []

reads_title : (n : State) (w : Word) → after empty w ≡ Some n → Reads empty n w
reads_title n w e = by (cases_Bool (is_title w))
  where
    by : (is_title w ≡ true) ⊎ (is_title w ≡ false) → Reads empty n w
    by (inl y) = let f = rw y at e in let same : titled ≡ n = cc in record { token = title; says = y; more = rw (← same) refl }
    by (inr m) = absurd (let f = rw m at e in cc)

reads_version : (n : State) (w : Word) (o : Option ℕ) → number_in w ≡ o → after titled w ≡ Some n → Reads titled n w
reads_version n w None is e = absurd (let f = rw is at e in cc)
reads_version n w (Some k) is e = by (cases_Bool (nat_eq k 1))
  where
    by : (nat_eq k 1 ≡ true) ⊎ (nat_eq k 1 ≡ false) → Reads titled n w
    by (inl y) = let f = rw (is, y) at e in let same : begun ≡ n = cc in record { token = number 1; says = is ∙ ap Some (eqb-true k 1 y); more = rw (← same) refl }
    by (inr m) = absurd (let f = rw (is, m) at e in cc)

reads_first : (n : State) (w : Word) → after begun w ≡ Some n → Reads begun n w
reads_first n w e = by (cases_Bool (is_header w))
  where
    by : (is_header w ≡ true) ⊎ (is_header w ≡ false) → Reads begun n w
    by (inl y) = let f = rw y at e in let same : headed [] ≡ n = cc in record { token = header; says = y; more = rw (← same) refl }
    by (inr m) = absurd (let f = rw m at e in cc)

reads_module : (es : List EntryValue) (n : State) (w : Word) (o : Option ℕ) → number_in w ≡ o → after (headed es) w ≡ Some n → Reads (headed es) n w
reads_module es n w None is e = absurd (let f = rw is at e in cc)
reads_module es n w (Some k) is e =
    let f = rw is at e in let same : numbered es k ≡ n = cc in
    record { token = number k; says = is; more = rw (← same) (sym (append_assoc (data_tokens es) (header ∷ []) (number k ∷ []))) }

reads_test : (es : List EntryValue) (m : ℕ) (n : State) (w : Word) (o : Option ℕ) → number_in w ≡ o → after (numbered es m) w ≡ Some n → Reads (numbered es m) n w
reads_test es m n w None is e = absurd (let f = rw is at e in cc)
reads_test es m n w (Some k) is e =
    let f = rw is at e in let same : within es (name_of m k) [] ≡ n = cc in
    record { token = number k; says = is; more = rw (← same) (named_more es m k) }

reads_load : (es : List EntryValue) (id : TestId) (ps : List PatternValue) (n : State) (w : Word) (o : Option (List DataBit)) → bit_word w.0 ≡ o → after (within es id ps) w ≡ Some n → Reads (within es id ps) n w
reads_load es id ps n w o is e = by (cases_Bool (is_header w)) o is
  where
    by : (is_header w ≡ true) ⊎ (is_header w ≡ false) → (o : Option (List DataBit)) → bit_word w.0 ≡ o → Reads (within es id ps) n w
    by (inl y) o' is' = let f = rw y at e in let same : headed (es ++ entry_of id ps ∷ []) ≡ n = cc in record { token = header; says = y; more = rw (← same) refl }
    by (inr m) None is' = absurd (let f = rw (m, is') at e in cc)
    by (inr m) (Some l) is' = let f = rw (m, is') at e in let same : loaded es id ps l ≡ n = cc in record { token = bits l; says = is'; more = rw (← same) refl }

reads_unload : (es : List EntryValue) (id : TestId) (ps : List PatternValue) (l : List DataBit) (n : State) (w : Word) (o : Option (List DataBit)) → bit_word w.0 ≡ o → after (loaded es id ps l) w ≡ Some n → Reads (loaded es id ps l) n w
reads_unload es id ps l n w None is e = absurd (let f = rw is at e in cc)
reads_unload es id ps l n w (Some u) is e =
    let f = rw is at e in let same : within es id (with_pattern ps l u) ≡ n = cc in
    record { token = bits u; says = is; more = rw (← same) (pattern_more es id ps l u) }

reads : (s n : State) (w : Word) → after s w ≡ Some n → Reads s n w
reads empty n w e = reads_title n w e
reads titled n w e = reads_version n w (number_in w) refl e
reads begun n w e = reads_first n w e
reads (headed es) n w e = reads_module es n w (number_in w) refl e
reads (numbered es m) n w e = reads_test es m n w (number_in w) refl e
reads (within es id ps) n w e = reads_load es id ps n w (bit_word w.0) refl e
reads (loaded es id ps l) n w e = reads_unload es id ps l n w (bit_word w.0) refl e

say_more : (ws : List Word) (ts : List DataToken) (w : Word) (t : DataToken) → SayTokens ws ts → SaysToken w.0 t → SayTokens (ws ++ w ∷ []) (ts ++ t ∷ [])
say_more [] [] w t all is = (is, tt)
say_more [] (u ∷ ts) w t all is = absurd all
say_more (v ∷ ws) [] w t all is = absurd all
say_more (v ∷ ws) (u ∷ ts) w t all is = (all.0, say_more ws ts w t all.1 is)

none_ends : (ws : List Word) (e : State) → run_by after None ws ≡ Some e → ⊥
none_ends ws e runs = let none = run-none after ws in cc

-- words behind those of a state are those of the state that they lead to
says_on : (front ws : List Word) (s e : State) → SayTokens front (read_tokens s) → run_by after (Some s) ws ≡ Some e → SayTokens (front ++ ws) (read_tokens e)
says_on front [] s e all runs = let same : s ≡ e = cc in subst (λ l. SayTokens l (read_tokens e)) (sym (append-nil front)) (subst (λ x. SayTokens front (read_tokens x)) same all)
says_on front (w ∷ ws) s e all runs = by (after s w) refl (λ n more. says_on (front ++ w ∷ []) ws n e more)
  where
    by : (o : Option State) → after s w ≡ o → ((n : State) → SayTokens (front ++ w ∷ []) (read_tokens n) → run_by after (Some n) ws ≡ Some e → SayTokens ((front ++ w ∷ []) ++ ws) (read_tokens e))
        → SayTokens (front ++ w ∷ ws) (read_tokens e)
    by None is on = absurd (none_ends ws e (ap (λ x. run_by after x ws) (sym is) ∙ runs))
    by (Some n) is on =
        let r = reads s n w is in
        subst (λ l. SayTokens l (read_tokens e)) (append_assoc front (w ∷ []) ws)
        (on n (subst (SayTokens (front ++ w ∷ [])) (sym r.more) (say_more front (read_tokens s) w r.token all r.says)) (ap (λ x. run_by after x ws) (sym is) ∙ runs))

ends_whole : (s : State) (es : List EntryValue) → ended s ≡ Some es → read_tokens s ≡ data_tokens es
ends_whole empty es e = absurd cc
ends_whole titled es e = absurd cc
ends_whole begun es e = ap data_tokens (same_Some [] es e)
ends_whole (headed done) es e = absurd cc
ends_whole (numbered done m) es e = absurd cc
ends_whole (within done id ps) es e = ap data_tokens (same_Some (done ++ entry_of id ps ∷ []) es e)
ends_whole (loaded done id ps l) es e = absurd cc

-- words that may end are those of the entries
pub text_read : (s : State) (es : List EntryValue) (ws : List Word) → IsAfterWords s ws → ended s ≡ Some es → IsDataText ws es
text_read s es ws runs ends = subst (SayTokens ws) (ends_whole s es ends) (says_on [] ws empty s tt runs)

-- ---- the words of entries are read

-- behind whole entries
data Closed : State → List EntryValue → Type 0 where
  none : Closed begun []
  some : (es : List EntryValue) (id : TestId) (ps : List PatternValue) → Closed (within es id ps) (es ++ entry_of id ps ∷ [])

closed_ended : (s : State) (es : List EntryValue) → Closed s es → ended s ≡ Some es
closed_ended s es none = refl
closed_ended s es (some done id ps) = refl

closed_header : (s : State) (es : List EntryValue) (w : Word) → Closed s es → is_header w ≡ true → after s w ≡ Some (headed es)
closed_header s es w none is = rw is refl
closed_header s es w (some done id ps) is = rw is refl

-- the rest of the words behind patterns
record PatternsRead (ws : List Word) (es : List EntryValue) (id : TestId) (ps : List PatternValue) (rest : List DataToken) : Type 0 where
  left : List Word
  says : SayTokens left rest
  runs : (done : List PatternValue) → run_by after (Some (within es id done)) ws ≡ run_by after (Some (within es id (done ++ ps))) left

load_read : (es : List EntryValue) (id : TestId) (done : List PatternValue) (w : Word) (l : List DataBit) → bit_word w.0 ≡ Some l → after (within es id done) w ≡ Some (loaded es id done l)
load_read es id done w l is = rw (bits_no_header w.0 l is, is) refl

unload_read : (es : List EntryValue) (id : TestId) (done : List PatternValue) (l : List DataBit) (w : Word) (u : List DataBit) → bit_word w.0 ≡ Some u → after (loaded es id done l) w ≡ Some (within es id (with_pattern done l u))
unload_read es id done l w u is = rw is refl

patterns_read : (ws : List Word) (es : List EntryValue) (id : TestId) (ps : List PatternValue) (rest : List DataToken) → SayTokens ws (flat_map pattern_tokens ps ++ rest) → PatternsRead ws es id ps rest
patterns_read ws es id [] rest all = record { left = ws; says = all; runs = λ done. ap (λ l. run_by after (Some (within es id l)) ws) (sym (append-nil done)) }
patterns_read [] es id (p ∷ ps) rest all = absurd all
patterns_read (v ∷ []) es id (p ∷ ps) rest all = absurd all.1
patterns_read (v ∷ w ∷ ws) es id (p ∷ ps) rest all =
    let r = patterns_read ws es id ps rest all.1.1 in
    record {
      left = r.left;
      says = r.says;
      runs = λ done.
          ap (λ o. run_by after o (w ∷ ws)) (load_read es id done v p.load all.0)
          ∙ ap (λ o. run_by after o ws) (unload_read es id done p.load w p.unload all.1.0)
          ∙ r.runs (with_pattern done p.load p.unload)
          ∙ ap (λ l. run_by after (Some (within es id l)) r.left) (append_assoc done (p ∷ []) ps);
    }

module_read : (es : List EntryValue) (w : Word) (m : ℕ) → number_in w ≡ Some m → after (headed es) w ≡ Some (numbered es m)
module_read es w m is = rw is refl

test_read : (es : List EntryValue) (m : ℕ) (w : Word) (k : ℕ) → number_in w ≡ Some k → after (numbered es m) w ≡ Some (within es (name_of m k) [])
test_read es m w k is = rw is refl

-- where they lead to
record EntriesRead (ws : List Word) (s : State) (es : List EntryValue) : Type 0 where
  end : State
  runs : run_by after (Some s) ws ≡ Some end
  closed : Closed end es

entries_read : (ws : List Word) (s : State) (done es : List EntryValue) → Closed s done → SayTokens ws (flat_map entry_tokens es) → EntriesRead ws s (done ++ es)
entries_read [] s done [] closed all = record { end = s; runs = refl; closed = subst (Closed s) (sym (append-nil done)) closed }
entries_read (w ∷ ws) s done [] closed all = absurd all
entries_read [] s done (e ∷ es) closed all = absurd all
entries_read (a ∷ []) s done (e ∷ es) closed all = absurd all.1
entries_read (a ∷ b ∷ []) s done (e ∷ es) closed all = absurd all.1.1
entries_read (a ∷ b ∷ c ∷ ws) s done (e ∷ es) closed all =
    let r = patterns_read ws done e.test e.patterns (flat_map entry_tokens es) all.1.1.1 in
    let more = entries_read r.left (within done e.test e.patterns) (done ++ e ∷ []) es (some done e.test e.patterns) r.says in
    record {
      end = more.end;
      runs =
          ap (λ o. run_by after o (b ∷ c ∷ ws)) (closed_header s done a closed all.0)
          ∙ ap (λ o. run_by after o (c ∷ ws)) (module_read done b e.test.«module» all.1.0)
          ∙ ap (λ o. run_by after o ws) (test_read done e.test.«module» c e.test.test all.1.1.0)
          ∙ r.runs []
          ∙ more.runs;
      closed = subst (Closed more.end) (append_assoc done (e ∷ []) es) more.closed;
    }

-- the words of entries lead to where they may end
pub record IsReadWhole (ws : List Word) (es : List EntryValue) : Type 0 where
  pub end : State
  pub runs : IsAfterWords end ws
  pub ends : ended end ≡ Some es

title_read : (w : Word) → is_title w ≡ true → after empty w ≡ Some titled
title_read w is = rw is refl

version_read : (w : Word) → number_in w ≡ Some 1 → after titled w ≡ Some begun
version_read w is = rw is refl

pub whole_read : (ws : List Word) (es : List EntryValue) → IsDataText ws es → IsReadWhole ws es
whole_read [] es all = absurd all
whole_read (a ∷ []) es all = absurd all.1
whole_read (a ∷ b ∷ ws) es all =
    let r = entries_read ws begun [] es none all.1.1 in
    record {
      end = r.end;
      runs = ap (λ o. run_by after o (b ∷ ws)) (title_read a all.0) ∙ ap (λ o. run_by after o ws) (version_read b all.1.0) ∙ r.runs;
      ends = closed_ended r.end es r.closed;
    }

-- words say one list of entries
pub say_one : (ws : List Word) (a b : List EntryValue) → IsDataText ws a → IsDataText ws b → a ≡ b
say_one ws a b is is' =
    let x = whole_read ws a is in
    let y = whole_read ws b is' in
    let same : x.end ≡ y.end = same_Some x.end y.end (sym x.runs ∙ y.runs) in
    same_Some a b (sym x.ends ∙ ap ended same ∙ y.ends)

-- ---- words that end a text

record MayEnd (s : State) : Type 0 where
  more : List Word
  end : State
  entries : List EntryValue
  runs : run_by after (Some s) more ≡ Some end
  ends : ended end ≡ Some entries

word_of : List ℕ → Word
word_of w = (w, 0)

endable : (s : State) → MayEnd s
unfolding bit_word word_of
endable empty = record { more = word_of (codes "Data") ∷ word_of (codes "1") ∷ []; end = begun; entries = []; runs = refl; ends = refl }
endable titled = record { more = word_of (codes "1") ∷ []; end = begun; entries = []; runs = refl; ends = refl }
endable begun = record { more = []; end = begun; entries = []; runs = refl; ends = refl }
endable (headed es) =
    record { more = word_of (codes "0") ∷ word_of (codes "0") ∷ []; end = within es (name_of 0 0) []; entries = es ++ entry_of (name_of 0 0) [] ∷ []; runs = refl; ends = refl }
endable (numbered es m) =
    record { more = word_of (codes "0") ∷ []; end = within es (name_of m 0) []; entries = es ++ entry_of (name_of m 0) [] ∷ []; runs = refl; ends = refl }
endable (within es id ps) = record { more = []; end = within es id ps; entries = es ++ entry_of id ps ∷ []; runs = refl; ends = refl }
endable (loaded es id ps l) =
    record { more = word_of (codes "-") ∷ []; end = within es id (with_pattern ps l []); entries = es ++ entry_of id (with_pattern ps l []) ∷ []; runs = refl; ends = refl }

-- ---- what reads them decides of each word, and of the end

pub viable : (s : State) (ws : List Word) → IsAfterWords s ws → Viable InData ws
viable s ws read =
    let m = endable s in
    (m.more, (m.entries, text_read m.end m.entries (ws ++ m.more) (run-append after (Some empty) ws m.more ∙ ap (λ o. run_by after o m.more) read ∙ m.runs) m.ends))

pub stuck : (ws : List Word) → run_by after (Some empty) ws ≡ None → Viable InData ws → ⊥
stuck ws read v =
    let w = whole_read (ws ++ v.0) v.1.0 v.1.1 in
    none_ends v.0 w.end (ap (λ o. run_by after o v.0) (sym read) ∙ sym (run-append after (Some empty) ws v.0) ∙ w.runs)

pub early : (s : State) (ws : List Word) → IsAfterWords s ws → ended s ≡ None → InData ws → ⊥
early s ws read ends is =
    let w = whole_read ws is.0 is.1 in
    let same : s ≡ w.end = same_Some s w.end (sym read ∙ w.runs) in
    let no : ended w.end ≡ None = ap ended (sym same) ∙ ends in
    cc (no, w.ends)

pub fits : (most : ℕ) → Fits InData most State (List EntryValue) after ended empty
fits most = record {
  viable = λ s ws few read. viable s ws read;
  stuck = stuck;
  whole_read = λ s es ws read ends. (es, text_read s es ws read ends);
  early = early;
}
