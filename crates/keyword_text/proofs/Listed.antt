-- The words and the texts of lists of lines and numbers.
use Rattle.std.proofs.Common.{◌≡◌, ℕ, List, [], ◌∷◌, ◌++◌, map, ap, sym, ◌∙◌, append_assoc, append-nil}
use Rattle.std.proofs.lemmas.List.{map-append}
use Rattle.std.proofs.lemmas.List.Concat.{flat_map-append}
use Rattle.keyword_text.specs.declared.tokens.Token.{Token}
use Rattle.keyword_text.specs.declared.tokens.Token.TheVariants.{Number}
use Rattle.keyword_text.specs.Lines.{Line, line_tokens, tokens_of, line_text, text_of}

pub tokens_append : {K : Type 0} (a b : List (Line K)) → tokens_of (a ++ b) ≡ tokens_of a ++ tokens_of b
tokens_append a b = flat_map-append line_tokens a b

pub tokens_push : {K : Type 0} (a : List (Line K)) (l : Line K) → tokens_of (a ++ l ∷ []) ≡ tokens_of a ++ line_tokens l
tokens_push a l = tokens_append a (l ∷ []) ∙ ap (λ ts. tokens_of a ++ ts) (append-nil (line_tokens l))

pub text_append : {K : Type 0} (spelling : K → List ℕ) (a b : List (Line K)) → text_of spelling (a ++ b) ≡ text_of spelling a ++ text_of spelling b
text_append spelling a b = flat_map-append (line_text spelling) a b

pub numbers_push : {K : Type 0} (ns : List ℕ) (n : ℕ) → map {B = Token K} Number (ns ++ n ∷ []) ≡ map Number ns ++ Number n ∷ []
numbers_push ns n = map-append Number ns (n ∷ [])

-- one more word, of the words behind the first ones
pub word_pushed : {K : Type 0} (ts own new first : List (Token K)) (t : Token K) → ts ≡ first ++ own → new ≡ own ++ t ∷ [] → ts ++ t ∷ [] ≡ first ++ new
word_pushed ts own new first t read is = ap (λ l. l ++ t ∷ []) read ∙ append_assoc first own (t ∷ []) ∙ ap (λ l. first ++ l) (sym is)
