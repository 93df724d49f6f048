-- Each text says a value, or is refused at a line.
use Rattle.std.proofs.Common.{◌≡◌, ◌⊎◌, inl, inr, ℕ, List, [], ◌∷◌, ◌++◌, length, Option, None, Some, refl, arith}
use Rattle.outside.specs.Words.{Word, words_of}
use Rattle.outside.specs.Grammars.{Viable, last_line}
use Rattle.outside.proofs.Refusals.{Decides, whole_or_refused}
use Rattle.keyword_text.specs.declared.tokens.Token.{Token}
use Rattle.keyword_text.specs.Tokens.{token_of}
use Rattle.keyword_text.specs.Texts.{Grammar, InGrammar, Says, Refuses}
use Rattle.keyword_text.specs.Machines.{Machine, ReadsGrammar}
use Rattle.keyword_text.specs.Reads.{IsAfter}
use Rattle.keyword_text.proofs.Viability.{RefusesWord, unknown_word, stuck_word, read_whole, read_one, read_viable, stops_here, ends_here}

abbrev GoesOnOrNot : {K S V : Type 0} → Grammar K V → Machine K S V → List Word → Word → Type 0
GoesOnOrNot {S} g m front w = ((next : S) × IsAfter g.lexicon m next (front ++ w ∷ [])) ⊎ (Viable (InGrammar g) (front ++ w ∷ []) → ⊥)

steps : {K S V : Type 0} (g : Grammar K V) (m : Machine K S V) → ReadsGrammar g m → (s : S) (front : List Word) (w : Word) → IsAfter g.lexicon m s front → GoesOnOrNot g m front w
steps {K} {S} {V} g m reads s front w at = by (token_of g.lexicon w.0) refl
  where
    never : RefusesWord g.lexicon m s w → GoesOnOrNot g m front w
    never refuses = let stops = stops_here g m reads front s w at refuses in inr stops.refused

    goes : (t : Token K) → token_of g.lexicon w.0 ≡ Some t → (o : Option S) → m.step s t ≡ o → GoesOnOrNot g m front w
    goes t is None none = never (stuck_word g.lexicon m s w t is none)
    goes t is (Some next) into = inl (next, read_one g.lexicon m s next front w t at is into)

    by : (o : Option (Token K)) → token_of g.lexicon w.0 ≡ o → GoesOnOrNot g m front w
    by None none = never (unknown_word g.lexicon m s w none)
    by (Some t) is = goes t is (m.step s t) refl

ends : {K S V : Type 0} (g : Grammar K V) (m : Machine K S V) → ReadsGrammar g m → (s : S) (ws : List Word) → IsAfter g.lexicon m s ws → InGrammar g ws ⊎ (InGrammar g ws → ⊥)
ends {K} {S} {V} g m reads s ws at = by (m.end s) refl
  where
    by : (o : Option V) → m.end s ≡ o → InGrammar g ws ⊎ (InGrammar g ws → ⊥)
    by (Some value) is = inl (value, read_whole g m reads ws s value at is)
    by None none = let early = ends_here g m reads ws s at none in inr early.refused

decides : {K S V : Type 0} (g : Grammar K V) (m : Machine K S V) → ReadsGrammar g m → (most : ℕ) → Decides (InGrammar g) most S (IsAfter g.lexicon m)
decides g m reads most = record { viable = λ s front few at. read_viable g m reads front s at; step = steps g m reads; end = ends g m reads }

pub each_text : {K S V : Type 0} (g : Grammar K V) (m : Machine K S V) → ReadsGrammar g m → (bytes : List ℕ) → ((value : V) × Says g bytes value) ⊎ ((line : ℕ) × Refuses g bytes line)
each_text {K} {S} {V} g m reads bytes =
    whole_or_refused (InGrammar g) (length (words_of bytes)) S (IsAfter g.lexicon m) (decides g m reads (length (words_of bytes))) (last_line bytes) m.start (words_of bytes)
    (record { tokens = []; spelled = refl; read = refl }) (omega arith)
