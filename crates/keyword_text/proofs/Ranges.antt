-- The numbers of words are of the format's range, and each keyword and each such number has a word.
use Rattle.std.proofs.Common.{◌≡◌, ◌≤◌, ◌<◌, ◌^◌, ℕ, List, [], ◌∷◌, ◌++◌, length, map, Bool, true, false, ◌&&◌, not, nat_eq, decimal, Option, None, Some, refl, ◌∙◌, ap, subst, arith}
use Rattle.std.specs.Prelude.{nat_le}
use Rattle.std.specs.Str.{all_ascii_digits}
use Rattle.std.proofs.lemmas.Bool.{leb-true}
use Rattle.outside.specs.Decimal.{value_after, number_of}
use Rattle.outside.proofs.DecimalLemmas.{number_of-decimal}
use Rattle.outside.specs.Words.{Word}
use Rattle.keyword_text.specs.declared.tokens.Token.{Token}
use Rattle.keyword_text.specs.declared.tokens.Token.TheVariants.{Key, Number}
use Rattle.keyword_text.specs.Tokens.{Lexicon, named, number_or_key, token_of}
use Rattle.keyword_text.specs.Texts.{Spells, IsSmall, AllSmall}
use Rattle.keyword_text.specs.Machines.{IsSpelled}

pub small_append : {K : Type 0} (most : ℕ) (a b : List (Token K)) → AllSmall most a → AllSmall most b → AllSmall most (a ++ b)
small_append most [] b x y = y
small_append most (t ∷ a) b x y = (x.0, small_append most a b x.1 y)

pub small_split : {K : Type 0} (most : ℕ) (a b : List (Token K)) → AllSmall most (a ++ b) → AllSmall most a × AllSmall most b
small_split most [] b x = (tt, x)
small_split most (t ∷ a) b x = let rest = small_split most a b x.1 in ((x.0, rest.0), rest.1)

-- ---- the numbers of words

number_small : (w : List ℕ) (most n : ℕ) → number_of w most ≡ Some n → n ≤ most
number_small w most n e = by_test (all_ascii_digits w && not (nat_eq (length w) 0) && nat_le (value_after 0 w) most) refl
  where
    last_true : (p q : Bool) → (p && q) ≡ true → q ≡ true
    last_true true q h = h
    last_true false q h = cc

    same : (a b : ℕ) → Some a ≡ Some b → a ≡ b
    same a b h = cc

    by_test : (b : Bool) → (all_ascii_digits w && not (nat_eq (length w) 0) && nat_le (value_after 0 w) most) ≡ b → n ≤ most
    by_test true is =
        let value : value_after 0 w ≡ n = same (value_after 0 w) n (rw is at e) in
        let small : value_after 0 w ≤ most = leb-true (value_after 0 w) most (last_true (all_ascii_digits w && not (nat_eq (length w) 0)) (nat_le (value_after 0 w) most) is) in
        omega arith
    by_test false is = let no = rw is at e in cc

meaning_small : {K : Type 0} (most : ℕ) (o : Option ℕ) (k : Option K) (t : Token K) → ((n : ℕ) → o ≡ Some n → n ≤ most) → number_or_key o k ≡ Some t → IsSmall most t
meaning_small {K} most (Some n) k t small e = let same : Number n ≡ t = cc in subst (IsSmall most) same (small n refl)
meaning_small {K} most None (Some k) t small e = let same : Key k ≡ t = cc in subst (IsSmall most) same tt
meaning_small most None None t small e = cc

word_small : {K : Type 0} (l : Lexicon K) (w : List ℕ) (t : Token K) → token_of l w ≡ Some t → IsSmall l.most t
unfolding token_of
word_small l w t e = meaning_small l.most (number_of w l.most) (named l.table w) t (number_small w l.most) e

pub spelled_small : {K : Type 0} (l : Lexicon K) (ws : List Word) (ts : List (Token K)) → Spells l ws ts → AllSmall l.most ts
spelled_small l ws [] e = tt
spelled_small l [] (t ∷ ts) e = cc
spelled_small {K} l (w ∷ ws) (t ∷ ts) e =
    let first : token_of l w.0 ≡ Some t = cc in
    let rest : Spells l ws ts = cc in
    (word_small l w.0 t first, spelled_small l ws ts rest)

-- ---- a word for each token

-- a number of the range is read as it is printed
pub number_back : {K : Type 0} (l : Lexicon K) (n : ℕ) → l.most < 2 ^ 64 → n ≤ l.most → token_of l (decimal n) ≡ Some (Number n)
unfolding token_of
number_back {K} l n fits small = ap (λ (o : Option ℕ). number_or_key o (named l.table (decimal n))) (number_of-decimal n l.most (omega arith) small)

-- words that stand for these
pub record AreSpelled {K : Type 0} (l : Lexicon K) (ts : List (Token K)) : Type 0 where
  pub words : List Word
  pub are : Spells l words ts

pub words_for : {K : Type 0} (l : Lexicon K) → l.most < 2 ^ 64 → ((k : K) → IsSpelled l k) → (ts : List (Token K)) → AllSmall l.most ts → AreSpelled l ts
words_for l fits spelled [] small = record { words = []; are = refl }
words_for {K} l fits spelled (Key k ∷ ts) small =
    let rest = words_for l fits spelled ts small.1 in
    let word = spelled k in
    record {
      words = (word.word, 1) ∷ rest.words;
      are = ap (λ (o : Option (Token K)). o ∷ map (λ (w : Word). token_of l w.0) rest.words) word.is ∙ ap (λ os. Some (Key k) ∷ os) rest.are;
    }
words_for {K} l fits spelled (Number n ∷ ts) small =
    let rest = words_for l fits spelled ts small.1 in
    record {
      words = (decimal n, 1) ∷ rest.words;
      are = ap (λ (o : Option (Token K)). o ∷ map (λ (w : Word). token_of l w.0) rest.words) (number_back l n fits small.0) ∙ ap (λ os. Some (Number n) ∷ os) rest.are;
    }
