-- What reads logs reads their grammar.
use Rattle.std.proofs.Common.{◌≡◌, ◌⊎◌, inl, inr, ℕ, true, false, List, [], ◌∷◌, ◌++◌, Some, refl, sym, ◌∙◌, ap, arith, append_assoc, append-nil, nat_eq, codes, flat_map}
use Rattle.std.proofs.lemmas.Bool.{cases_Bool, eqb-true}
use Rattle.std.proofs.lemmas.List.Concat.{flat_map-append}
use Rattle.outside.specs.Runs.{run_by}
use Rattle.keyword_text.specs.declared.tokens.Token.{Token}
use Rattle.keyword_text.specs.declared.tokens.Token.TheVariants.{Key, Number}
use Rattle.keyword_text.specs.Tokens.{token_of}
use Rattle.keyword_text.specs.Texts.{AllSmall}
use Rattle.keyword_text.specs.Machines.{IsRun, MayEnd, IsSaid, IsSpelled, ReadsGrammar}
use Rattle.keyword_text.proofs.Kept.{IsKept, kept_holds}
use Rattle.fail_locate.specs.declared.tokens.Keyword.{Keyword}
use Rattle.fail_locate.specs.LogWords.{log_lexicon, fail_tokens, log_tokens, log_grammar}
use Rattle.fail_locate.specs.LogReads.{State, empty, titled, between, begun, timed, after, ended, log_machine}
use Rattle.fail_locate.specs.declared.tokens.Keyword.TheVariants as key

-- ---- what was read is the words of the state

abbrev read_tokens : State → List (Token Keyword)
read_tokens empty = []
read_tokens titled = Key key.Log ∷ []
read_tokens (between fails) = log_tokens fails
read_tokens (begun fails) = log_tokens fails ++ Key key.Fail ∷ []
read_tokens (timed fails cycle) = log_tokens fails ++ Key key.Fail ∷ Number cycle ∷ []

log_more : (fails : List (ℕ × ℕ)) (c w : ℕ) → log_tokens (fails ++ (c, w) ∷ []) ≡ (log_tokens fails ++ Key key.Fail ∷ Number c ∷ []) ++ Number w ∷ []
log_more fails c w =
    ap (λ l. Key key.Log ∷ Number 1 ∷ l) (flat_map-append fail_tokens fails ((c, w) ∷ []) ∙ sym (append_assoc (flat_map fail_tokens fails) (Key key.Fail ∷ Number c ∷ []) (Number w ∷ [])))

-- one word more
read_more : (s n : State) (t : Token Keyword) → after s t ≡ Some n → read_tokens n ≡ read_tokens s ++ t ∷ []
read_more empty n (Key key.Log) e = let same : titled ≡ n = cc in rw (← same) refl
read_more empty n (Key key.Fail) e = absurd cc
read_more empty n (Number k) e = absurd cc
read_more titled n (Key k) e = absurd cc
read_more titled n (Number k) e = go (cases_Bool (nat_eq k 1)) where
  go : (nat_eq k 1 ≡ true) ⊎ (nat_eq k 1 ≡ false) → read_tokens n ≡ Key key.Log ∷ Number k ∷ []
  go (inl yes') = let e' = rw yes' at e in let same : between [] ≡ n = cc in let one : k ≡ 1 = eqb-true k 1 yes' in rw (← same, one) refl
  go (inr no') = let e' = rw no' at e in absurd cc
read_more (between fails) n (Key key.Log) e = absurd cc
read_more (between fails) n (Key key.Fail) e = let same : begun fails ≡ n = cc in rw (← same) refl
read_more (between fails) n (Number k) e = absurd cc
read_more (begun fails) n (Key k) e = absurd cc
read_more (begun fails) n (Number k) e = let same : timed fails k ≡ n = cc in rw (← same) (sym (append_assoc (log_tokens fails) (Key key.Fail ∷ []) (Number k ∷ [])))
read_more (timed fails cycle) n (Key k) e = absurd cc
read_more (timed fails cycle) n (Number k) e = let same : between (fails ++ (cycle, k) ∷ []) ≡ n = cc in rw (← same) (log_more fails cycle k)

abbrev IsRead : List (Token Keyword) → State → Type 0
IsRead ts s = ts ≡ read_tokens s

read_kept : IsKept log_machine IsRead
read_kept ts s next t is goes = ap (λ l. l ++ t ∷ []) is ∙ sym (read_more s next t goes)

ends_whole : (s : State) (fails : List (ℕ × ℕ)) → ended s ≡ Some fails → read_tokens s ≡ log_tokens fails
ends_whole empty fails e = absurd cc
ends_whole titled fails e = absurd cc
ends_whole (between done) fails e = let same : done ≡ fails = cc in rw same refl
ends_whole (begun done) fails e = absurd cc
ends_whole (timed done cycle) fails e = absurd cc

sound : (ts : List (Token Keyword)) (s : State) (fails : List (ℕ × ℕ)) → AllSmall log_lexicon.most ts → IsRun log_machine ts s → ended s ≡ Some fails → IsSaid log_grammar ts fails
sound ts s fails small runs ends = record { words = kept_holds log_machine IsRead refl read_kept ts s runs ∙ ends_whole s fails ends; allowed = tt }

-- ---- the words of each log are read

fails_read : (fails done : List (ℕ × ℕ)) → run_by after (Some (between done)) (flat_map fail_tokens fails) ≡ Some (between (done ++ fails))
fails_read [] done = ap (λ l. Some (between l)) (sym (append-nil done))
fails_read (f ∷ fails) done = fails_read fails (done ++ f ∷ []) ∙ ap (λ l. Some (between l)) (append_assoc done (f ∷ []) fails)

-- ---- words that end a log

endable : (s : State) → MayEnd log_machine log_lexicon.most s
endable empty = record { more = Key key.Log ∷ Number 1 ∷ []; small = (tt, (omega arith, tt)); end = between []; value = []; runs = refl; ends = refl }
endable titled = record { more = Number 1 ∷ []; small = (omega arith, tt); end = between []; value = []; runs = refl; ends = refl }
endable (between fails) = record { more = []; small = tt; end = between fails; value = fails; runs = refl; ends = refl }
endable (begun fails) =
    record { more = Number 0 ∷ Number 0 ∷ []; small = (omega arith, (omega arith, tt)); end = between (fails ++ (0, 0) ∷ []); value = fails ++ (0, 0) ∷ []; runs = refl; ends = refl }
endable (timed fails cycle) = record { more = Number 0 ∷ []; small = (omega arith, tt); end = between (fails ++ (cycle, 0) ∷ []); value = fails ++ (cycle, 0) ∷ []; runs = refl; ends = refl }

spelled : (k : Keyword) → IsSpelled log_lexicon k
unfolding token_of
spelled key.Log = record { word = codes "Log"; is = refl }
spelled key.Fail = record { word = codes "Fail"; is = refl }

pub reads_logs : ReadsGrammar log_grammar log_machine
reads_logs = record {
  sound = sound;
  complete = λ fails allowed. record { end = between fails; runs = fails_read fails []; ends = refl };
  endable = λ ts s runs. endable s;
  spelled = spelled;
  fits = omega arith;
}
