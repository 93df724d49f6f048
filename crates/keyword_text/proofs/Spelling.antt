-- Words, and what they stand for one by one.
use Rattle.std.proofs.Common.{◌≡◌, List, [], ◌∷◌, ◌++◌, map, Option, None, Some, refl, sym, ◌∙◌, ap}
use Rattle.std.proofs.lemmas.List.{map-append}
use Rattle.outside.specs.Words.{Word}
use Rattle.keyword_text.specs.declared.tokens.Token.{Token}
use Rattle.keyword_text.specs.Tokens.{Lexicon, token_of}
use Rattle.keyword_text.specs.Texts.{meanings, Spells}
use Rattle.common_lemmas.proofs.Lists.{same_somes}

pub one_more : {K : Type 0} (l : Lexicon K) (front : List Word) (ts : List (Token K)) (w : Word) (t : Token K) → Spells l front ts → token_of l w.0 ≡ Some t → Spells l (front ++ w ∷ []) (ts ++ t ∷ [])
one_more l front ts w t spells is =
    map-append (λ (w : Word). token_of l w.0) front (w ∷ []) ∙ ap (λ x. x ++ token_of l w.0 ∷ []) spells ∙ ap (λ o. map Some ts ++ o ∷ []) is ∙ sym (map-append Some ts (t ∷ []))

pub both_spell : {K : Type 0} (l : Lexicon K) (a b : List Word) (x y : List (Token K)) → Spells l a x → Spells l b y → Spells l (a ++ b) (x ++ y)
both_spell l a b x y ax by =
    map-append (λ (w : Word). token_of l w.0) a b ∙ ap (λ z. z ++ meanings l b) ax ∙ ap (λ z. map Some x ++ z) by ∙ sym (map-append Some x y)

-- words are spelled in one way
pub spelled_once : {K : Type 0} (l : Lexicon K) (ws : List Word) (x y : List (Token K)) → Spells l ws x → Spells l ws y → x ≡ y
spelled_once l ws x y a b = same_somes x y (sym a ∙ b)

-- what follows words that were spelled
pub record Follows {T : Type 0} (xs ts : List T) (o : Option T) : Type 0 where
  pub next : T
  pub rest : List T
  pub words : xs ≡ ts ++ next ∷ rest
  pub is : o ≡ Some next

pub follows : {T : Type 0} (ts xs : List T) (o : Option T) (os : List (Option T)) → map Some ts ++ o ∷ os ≡ map Some xs → Follows xs ts o
follows [] [] o os e = cc
follows {T} [] (x ∷ xs) o os e = let is : o ≡ Some x = cc in record { next = x; rest = xs; words = refl; is = is }
follows (t ∷ ts) [] o os e = cc
follows {T} (t ∷ ts) (x ∷ xs) o os e =
    let tails : map Some ts ++ o ∷ os ≡ map Some xs = cc in
    let same : x ≡ t = cc in
    let f = follows ts xs o os tails in
    let words : x ∷ xs ≡ t ∷ (ts ++ f.next ∷ f.rest) = let tail = f.words in cc in
    record { next = f.next; rest = f.rest; words = words; is = f.is }

pub same_some : {T : Type 0} (o : Option T) (x y : T) → o ≡ Some x → o ≡ Some y → x ≡ y
same_some o x y e f = cc
