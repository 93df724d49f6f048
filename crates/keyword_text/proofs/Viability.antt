-- What is read so far is what begins a text; where it ends, it is one.
use Rattle.std.proofs.Common.{◌≡◌, List, [], ◌∷◌, ◌++◌, map, Option, None, Some, sym, ◌∙◌, ap, append_assoc}
use Rattle.std.proofs.lemmas.List.{map-append}
use Rattle.outside.proofs.Runs.{run-none, run-append, run-one_more}
use Rattle.outside.specs.Runs.{run_by}
use Rattle.outside.specs.Words.{Word}
use Rattle.outside.specs.Grammars.{Viable, Stops, EndsEarly}
use Rattle.keyword_text.specs.declared.tokens.Token.{Token}
use Rattle.keyword_text.specs.Tokens.{Lexicon, token_of}
use Rattle.keyword_text.specs.Texts.{Grammar, meanings, Spells, IsText, InGrammar}
use Rattle.keyword_text.specs.Machines.{Machine, ReadsGrammar}
use Rattle.keyword_text.specs.Reads.{IsAfter}
use Rattle.keyword_text.proofs.Spelling.{one_more, both_spell, spelled_once, follows, same_some}
use Rattle.keyword_text.proofs.Ranges.{words_for, spelled_small}
use Rattle.common_lemmas.proofs.Options.{never_both}

-- words that are read to where a text may end say its value
pub read_whole : {K S V : Type 0} (g : Grammar K V) (m : Machine K S V) → ReadsGrammar g m → (ws : List Word) (s : S) (value : V) → IsAfter g.lexicon m s ws → m.end s ≡ Some value → IsText g ws value
read_whole {K} g m reads ws s value at is =
    let said = reads.sound at.tokens s value (spelled_small g.lexicon ws at.tokens at.spelled) at.read is in
    record { words = at.spelled ∙ ap (λ (ts : List (Token K)). map Some ts) said.words; allowed = said.allowed }

-- more words that are read
pub read_on : {K S V : Type 0} (l : Lexicon K) (m : Machine K S V) (s e : S) (ws more : List Word) (ts : List (Token K)) → IsAfter l m s ws → Spells l more ts → run_by m.step (Some s) ts ≡ Some e → IsAfter l m e (ws ++ more)
read_on {K} {S} l m s e ws more ts at spelled runs =
    record {
      tokens = at.tokens ++ ts;
      spelled = both_spell l ws more at.tokens ts at.spelled spelled;
      read = run-append m.step (Some m.start) at.tokens ts ∙ ap (λ (o : Option S). run_by m.step o ts) at.read ∙ runs;
    }

-- one more word that is read
pub read_one : {K S V : Type 0} (l : Lexicon K) (m : Machine K S V) (s next : S) (ws : List Word) (w : Word) (t : Token K) → IsAfter l m s ws → token_of l w.0 ≡ Some t → m.step s t ≡ Some next → IsAfter l m next (ws ++ w ∷ [])
read_one l m s next ws w t at is goes =
    record { tokens = at.tokens ++ t ∷ []; spelled = one_more l ws at.tokens w t at.spelled is; read = run-one_more m.step (Some m.start) at.tokens t s at.read ∙ goes }

-- words that are read so far begin a text
pub read_viable : {K S V : Type 0} (g : Grammar K V) (m : Machine K S V) → ReadsGrammar g m → (ws : List Word) (s : S) → IsAfter g.lexicon m s ws → Viable (InGrammar g) ws
read_viable g m reads ws s at =
    let f = reads.endable at.tokens s at.read in
    let more = words_for g.lexicon reads.fits reads.spelled f.more f.small in
    (more.words, (f.value, read_whole g m reads (ws ++ more.words) f.end f.value (read_on g.lexicon m s f.end ws more.words f.more at more.are f.runs) f.ends))

-- ---- no other words

-- the state can't go on with this word
pub record RefusesWord {K S V : Type 0} (l : Lexicon K) (m : Machine K S V) (s : S) (w : Word) : Type 0 where
  pub refused : (t : Token K) → token_of l w.0 ≡ Some t → m.step s t ≡ None

-- the word stands for nothing
pub unknown_word : {K S V : Type 0} (l : Lexicon K) (m : Machine K S V) (s : S) (w : Word) → token_of l w.0 ≡ None → RefusesWord l m s w
unknown_word l m s w none = record { refused = λ t e. absurd (never_both (token_of l w.0) t none e) }

-- nothing goes on with what it stands for
pub stuck_word : {K S V : Type 0} (l : Lexicon K) (m : Machine K S V) (s : S) (w : Word) (t : Token K) → token_of l w.0 ≡ Some t → m.step s t ≡ None → RefusesWord l m s w
stuck_word l m s w t is none = record { refused = λ u e. ap (m.step s) (sym (same_some (token_of l w.0) t u is e)) ∙ none }

not_viable : {K S V : Type 0} (g : Grammar K V) (m : Machine K S V) → ReadsGrammar g m → (front : List Word) (s : S) (w : Word) → IsAfter g.lexicon m s front → RefusesWord g.lexicon m s w → Viable (InGrammar g) (front ++ w ∷ []) → ⊥
not_viable {K} {S} g m reads front s w at refuses v =
    let value = v.1.0 in
    let text = v.1.1 in
    let ts = at.tokens in
    let parted : meanings g.lexicon ((front ++ w ∷ []) ++ v.0) ≡ map Some ts ++ token_of g.lexicon w.0 ∷ meanings g.lexicon v.0 =
    ap (meanings g.lexicon) (append_assoc front (w ∷ []) v.0) ∙ map-append (λ (w : Word). token_of g.lexicon w.0) front (w ∷ v.0) ∙ ap (λ l. l ++ token_of g.lexicon w.0 ∷ meanings g.lexicon v.0) at.spelled in
    let f = follows ts (g.tokens value) (token_of g.lexicon w.0) (meanings g.lexicon v.0) (sym parted ∙ text.words) in
    let r = reads.complete value text.allowed in
    let ran : run_by m.step (Some m.start) (ts ++ f.next ∷ f.rest) ≡ None =
    run-append m.step (Some m.start) ts (f.next ∷ f.rest) ∙ ap (λ (o : Option S). run_by m.step o (f.next ∷ f.rest)) at.read
    ∙ ap (λ (o : Option S). run_by m.step o f.rest) (refuses.refused f.next f.is) ∙ run-none m.step f.rest in
    never_both (run_by m.step (Some m.start) (g.tokens value)) r.end (ap (run_by m.step (Some m.start)) f.words ∙ ran) r.runs

-- the word at which the reader stops
pub stops_here : {K S V : Type 0} (g : Grammar K V) (m : Machine K S V) → ReadsGrammar g m → (front : List Word) (s : S) (w : Word) → IsAfter g.lexicon m s front → RefusesWord g.lexicon m s w → Stops (InGrammar g) front w
stops_here g m reads front s w at refuses = record { before = read_viable g m reads front s at; refused = not_viable g m reads front s w at refuses }

-- the text that ends too early
pub ends_here : {K S V : Type 0} (g : Grammar K V) (m : Machine K S V) → ReadsGrammar g m → (ws : List Word) (s : S) → IsAfter g.lexicon m s ws → m.end s ≡ None → EndsEarly (InGrammar g) ws
ends_here {K} {S} {V} g m reads ws s at none = record { viable = read_viable g m reads ws s at; refused = no_text }
  where
    no_text : InGrammar g ws → ⊥
    no_text is =
        let r = reads.complete is.0 is.1.allowed in
        let same : at.tokens ≡ g.tokens is.0 = spelled_once g.lexicon ws at.tokens (g.tokens is.0) at.spelled is.1.words in
        let end : s ≡ r.end = same_some (run_by m.step (Some m.start) (g.tokens is.0)) s r.end (ap (run_by m.step (Some m.start)) (sym same) ∙ at.read) r.runs in
        never_both (m.end s) is.0 none (ap m.end end ∙ r.ends)

-- words say at most one value
pub one_value : {K S V : Type 0} (g : Grammar K V) (m : Machine K S V) → ReadsGrammar g m → (ws : List Word) (a b : V) → IsText g ws a → IsText g ws b → a ≡ b
one_value {K} {S} {V} g m reads ws a b is_a is_b =
    let r = reads.complete a is_a.allowed in
    let q = reads.complete b is_b.allowed in
    let same : g.tokens a ≡ g.tokens b = spelled_once g.lexicon ws (g.tokens a) (g.tokens b) is_a.words is_b.words in
    let ends : r.end ≡ q.end = same_some (run_by m.step (Some m.start) (g.tokens b)) r.end q.end (ap (run_by m.step (Some m.start)) (sym same) ∙ r.runs) q.runs in
    same_some (m.end q.end) a b (ap m.end (sym ends) ∙ r.ends) q.ends
