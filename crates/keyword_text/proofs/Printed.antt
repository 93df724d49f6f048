-- The words of printed lines are those of the lines.
use Rattle.std.proofs.Common.{◌≡◌, ◌<◌, ◌≤◌, ◌^◌, ◌+◌, ℕ, List, [], ◌∷◌, ◌++◌, length, map, decimal, Bool, true, false, not, ◌&&◌, Some, None, Option, cond, nat_eq, refl, sym, ◌∙◌, ap, arith, append_assoc}
use Rattle.std.specs.List.{list_all}
use Rattle.std.proofs.lemmas.List.{map-append}
use Rattle.std.proofs.lemmas.Fmt.{decimal_nonempty}
use Rattle.std.specs.Char.{to_ascii_lowercase}
use Rattle.std.proofs.lemmas.Grind.{common_steps}
use Rattle.std.proofs.lemmas.Bool.{not-true, and_parts, and_from, eqb-true}
use Rattle.outside.specs.Words.{words_left, words_of, AllInWord, IsEnd, ends_word, same_letters}
use Rattle.outside.specs.Decimal.{number_of}
use Rattle.outside.proofs.WordLemmas.{first_word}
use Rattle.outside.proofs.DecimalLemmas.{decimal_in_word}
use Rattle.keyword_text.specs.declared.tokens.Token.{Token}
use Rattle.keyword_text.specs.declared.tokens.Token.TheVariants.{Key, Number}
use Rattle.keyword_text.specs.Tokens.{Lexicon, token_of, named, number_or_key}
use Rattle.keyword_text.specs.Texts.{meanings, Spells, IsSmall, AllSmall}
use Rattle.keyword_text.specs.Lines.{Line, line_tokens, tokens_of, token_text, spaced, spaced_numbers, listed_text, line_text, text_of}
use Rattle.keyword_text.proofs.Ranges.{small_split, number_back}

-- What a format shows of the spellings of its keywords: each is a word, and read as the keyword. Numbers fit 64 bits.
pub record IsPrinted {K : Type 0} (l : Lexicon K) (spelling : K → List ℕ) : Type 0 where
  pub read_back : (k : K) → token_of l (spelling k) ≡ Some (Key k)
  pub in_word : (k : K) → list_all (λ b. not (ends_word b)) (spelling k) ≡ true
  pub some : (k : K) → 0 < length (spelling k)
  pub fits : l.most < 2 ^ 64

-- ---- a word for each keyword

-- some bytes, none of which ends a word
abbrev pub is_word : List ℕ → Bool
is_word [] = false
is_word (b ∷ w) = list_all (λ b. not (ends_word b)) (b ∷ w)

abbrev pub are_words : {K : Type 0} → List (K × List ℕ) → Bool
are_words [] = true
are_words (e ∷ es) = is_word e.1 && are_words es

byte_in_word : (b c : ℕ) → to_ascii_lowercase b ≡ to_ascii_lowercase c → not (ends_word c) ≡ true → not (ends_word b) ≡ true
byte_in_word b c same inside = grind (arith, common_steps)

bytes_in_word : (w x : List ℕ) → same_letters w x ≡ true → list_all (λ b. not (ends_word b)) x ≡ true → list_all (λ b. not (ends_word b)) w ≡ true
bytes_in_word [] x same inside = refl
bytes_in_word (b ∷ w) [] same inside = cc
bytes_in_word (b ∷ w) (c ∷ x) same inside =
    let alike = and_parts (nat_eq (to_ascii_lowercase b) (to_ascii_lowercase c)) (same_letters w x) same in
    let parts = and_parts (not (ends_word c)) (list_all (λ b. not (ends_word b)) x) inside in
    and_from (not (ends_word b)) (list_all (λ b. not (ends_word b)) w) (byte_in_word b c (eqb-true (to_ascii_lowercase b) (to_ascii_lowercase c) alike.0) parts.0) (bytes_in_word w x alike.1 parts.1)

-- a word in other letters is a word
is_word-same : (w x : List ℕ) → same_letters w x ≡ true → is_word x ≡ true → is_word w ≡ true
is_word-same w [] same inside = cc
is_word-same [] (c ∷ x) same inside = cc
is_word-same (b ∷ w) (c ∷ x) same inside = bytes_in_word (b ∷ w) (c ∷ x) same inside

-- what a table of words names is a word
named_word : {K : Type 0} (es : List (K × List ℕ)) (w : List ℕ) (k : K) → are_words es ≡ true → named es w ≡ Some k → is_word w ≡ true
named_word [] w k words is = cc
named_word (e ∷ es) w k words is =
    let parts = and_parts (is_word e.1) (are_words es) words in
    by parts.0 (named_word es w k parts.1) (same_letters w e.1) refl is
  where
    by : is_word e.1 ≡ true → (named es w ≡ Some k → is_word w ≡ true) → (b : Bool) → same_letters w e.1 ≡ b → cond b (Some e.0) (named es w) ≡ Some k → is_word w ≡ true
    by here later true same is = is_word-same w e.1 same here
    by here later false other is = later is

key_named : {K : Type 0} (n : Option ℕ) (o : Option K) (k : K) → number_or_key n o ≡ Some (Key k) → (j : K) × (o ≡ Some j)
key_named (Some n) o k is = cc
key_named None None k is = cc
key_named None (Some j) k is = (j, refl)

keyword_word : {K : Type 0} (l : Lexicon K) (w : List ℕ) (k : K) → are_words l.table ≡ true → token_of l w ≡ Some (Key k) → is_word w ≡ true
unfolding token_of
keyword_word l w k words is =
    let found = key_named (number_of w l.most) (named l.table w) k is in
    named_word l.table w found.0 words found.1

word_some : (w : List ℕ) → is_word w ≡ true → 0 < length w
word_some [] is = cc
word_some (b ∷ w) is = omega arith

word_unbroken : (w : List ℕ) → is_word w ≡ true → list_all (λ b. not (ends_word b)) w ≡ true
word_unbroken [] is = refl
word_unbroken (b ∷ w) is = is

-- a format whose table has words alone, each read back
pub are_printed : {K : Type 0} (l : Lexicon K) (spelling : K → List ℕ) → ((k : K) → token_of l (spelling k) ≡ Some (Key k)) → are_words l.table ≡ true → l.most < 2 ^ 64 → IsPrinted l spelling
are_printed l spelling back words fits =
    record {
      read_back = back;
      in_word = λ k. word_unbroken (spelling k) (keyword_word l (spelling k) k words (back k));
      some = λ k. word_some (spelling k) (keyword_word l (spelling k) k words (back k));
      fits = fits;
    }

-- ---- one word

in_word_by : (w : List ℕ) → list_all (λ b. not (ends_word b)) w ≡ true → AllInWord w
in_word_by [] e = tt
in_word_by (b ∷ w) e =
    let parts = and_parts (not (ends_word b)) (list_all (λ b. not (ends_word b)) w) e in
    (not-true (ends_word b) parts.0, in_word_by w parts.1)

number_first : {K : Type 0} (l : Lexicon K) → l.most < 2 ^ 64 → (m n : ℕ) (rest : List ℕ) → m ≤ l.most → IsEnd rest → meanings l (words_left n (decimal m ++ rest)) ≡ Some (Number m) ∷ meanings l (words_left n rest)
number_first l fits m n rest small end =
    ap (meanings l) (first_word n (decimal m) rest (decimal_nonempty m (omega (arith, fits, small))) (decimal_in_word m (omega (arith, fits, small))) end)
    ∙ ap (λ o. o ∷ meanings l (words_left n rest)) (number_back l m fits small)

word_first : {K : Type 0} (l : Lexicon K) (spelling : K → List ℕ) → IsPrinted l spelling → (t : Token K) (n : ℕ) (rest : List ℕ) → IsSmall l.most t → IsEnd rest → meanings l (words_left n (token_text spelling t ++ rest)) ≡ Some t ∷ meanings l (words_left n rest)
word_first l spelling is (Key k) n rest small end =
    ap (meanings l) (first_word n (spelling k) rest (is.some k) (in_word_by (spelling k) (is.in_word k)) end)
    ∙ ap (λ o. o ∷ meanings l (words_left n rest)) (is.read_back k)
word_first l spelling is (Number m) n rest small end = number_first l is.fits m n rest small end

-- ---- one line

spaced_end : {K : Type 0} (spelling : K → List ℕ) (ts : List (Token K)) (rest : List ℕ) → IsEnd rest → IsEnd (spaced spelling ts ++ rest)
spaced_end spelling [] rest end = end
spaced_end spelling (t ∷ ts) rest end = refl

spaced_words : {K : Type 0} (l : Lexicon K) (spelling : K → List ℕ) → IsPrinted l spelling → (ts : List (Token K)) (n : ℕ) (rest : List ℕ) → AllSmall l.most ts → IsEnd rest
    → meanings l (words_left n (spaced spelling ts ++ rest)) ≡ map Some ts ++ meanings l (words_left n rest)
spaced_words l spelling is [] n rest small end = refl
spaced_words l spelling is (t ∷ ts) n rest small end =
    ap (λ x. meanings l (words_left n x)) (append_assoc (token_text spelling t) (spaced spelling ts) rest)
    ∙ word_first l spelling is t n (spaced spelling ts ++ rest) small.0 (spaced_end spelling ts rest end)
    ∙ ap (λ x. Some t ∷ x) (spaced_words l spelling is ts n rest small.1 end)

numbers_end : (ns rest : List ℕ) → IsEnd rest → IsEnd (spaced_numbers ns ++ rest)
numbers_end [] rest end = end
numbers_end (n ∷ ns) rest end = refl

numbers_words : {K : Type 0} (l : Lexicon K) → l.most < 2 ^ 64 → (ns : List ℕ) (n : ℕ) (rest : List ℕ) → AllSmall {K = K} l.most (map Number ns) → IsEnd rest
    → meanings l (words_left n (spaced_numbers ns ++ rest)) ≡ map Some (map Number ns) ++ meanings l (words_left n rest)
numbers_words l fits [] n rest small end = refl
numbers_words l fits (m ∷ ns) n rest small end =
    ap (λ x. meanings l (words_left n x)) (append_assoc (decimal m) (spaced_numbers ns) rest)
    ∙ number_first l fits m n (spaced_numbers ns ++ rest) small.0 (numbers_end ns rest end)
    ∙ ap (λ x. Some (Number m) ∷ x) (numbers_words l fits ns n rest small.1 end)

listed_end : (b : Bool) (ns : List ℕ) (rest : List ℕ) → IsEnd rest → IsEnd (listed_text b ns ++ rest)
listed_end false ns rest end = numbers_end ns rest end
listed_end true [] rest end = end
listed_end true (n ∷ ns) rest end = refl

listed_words : {K : Type 0} (l : Lexicon K) → l.most < 2 ^ 64 → (b : Bool) (ns : List ℕ) (n : ℕ) (rest : List ℕ) → AllSmall {K = K} l.most (map Number ns) → IsEnd rest
    → meanings l (words_left n (listed_text b ns ++ rest)) ≡ map Some (map Number ns) ++ meanings l (words_left n rest)
listed_words l fits false ns n rest small end = numbers_words l fits ns n rest small end
listed_words l fits true [] n rest small end = refl
listed_words l fits true (m ∷ ns) n rest small end = numbers_words l fits (m ∷ ns) n rest small end

line_words : {K : Type 0} (l : Lexicon K) (spelling : K → List ℕ) → IsPrinted l spelling → (x : Line K) (n : ℕ) (rest : List ℕ) → AllSmall l.most (line_tokens x)
    → meanings l (words_left n (line_text spelling x ++ rest)) ≡ map Some (line_tokens x) ++ meanings l (words_left (n + 1) rest)
line_words {K} l spelling is x n rest small =
    let parts = small_split l.most x.others (map Number x.listed) small.1 in
    let after_list : List ℕ = 10 ∷ rest in
    let after_others : List ℕ = listed_text x.colon x.listed ++ after_list in
    let list_end : IsEnd after_others = listed_end x.colon x.listed after_list refl in
    let text : line_text spelling x ++ rest ≡ spelling x.head ++ (spaced spelling x.others ++ after_others) =
    append_assoc (spelling x.head) (spaced spelling x.others ++ (listed_text x.colon x.listed ++ 10 ∷ [])) rest
    ∙ ap (λ y. spelling x.head ++ y) (append_assoc (spaced spelling x.others) (listed_text x.colon x.listed ++ 10 ∷ []) rest
    ∙ ap (λ y. spaced spelling x.others ++ y) (append_assoc (listed_text x.colon x.listed) (10 ∷ []) rest)) in
    let after = meanings l (words_left (n + 1) rest) in
    let tokens : map Some x.others ++ (map Some (map Number x.listed) ++ after) ≡ map Some (x.others ++ map Number x.listed) ++ after =
    sym (append_assoc (map Some x.others) (map Some (map Number x.listed)) after) ∙ ap (λ y. y ++ after) (sym (map-append Some x.others (map Number x.listed))) in
    ap (λ y. meanings l (words_left n y)) text
    ∙ word_first l spelling is (Key x.head) n (spaced spelling x.others ++ after_others) tt (spaced_end spelling x.others after_others list_end)
    ∙ ap (λ y. Some (Key x.head) ∷ y)
    (spaced_words l spelling is x.others n after_others parts.0 list_end
    ∙ ap (λ y. map Some x.others ++ y) (listed_words l is.fits x.colon x.listed n after_list parts.1 refl)
    ∙ tokens)

-- ---- all lines

lines_words : {K : Type 0} (l : Lexicon K) (spelling : K → List ℕ) → IsPrinted l spelling → (xs : List (Line K)) (n : ℕ) → AllSmall l.most (tokens_of xs) → meanings l (words_left n (text_of spelling xs)) ≡ map Some (tokens_of xs)
lines_words l spelling is [] n small = refl
lines_words l spelling is (x ∷ xs) n small =
    let parts = small_split l.most (line_tokens x) (tokens_of xs) small in
    line_words l spelling is x n (text_of spelling xs) parts.0
    ∙ ap (λ y. map Some (line_tokens x) ++ y) (lines_words l spelling is xs (n + 1) parts.1)
    ∙ sym (map-append Some (line_tokens x) (tokens_of xs))

-- the words of printed lines stand for what the lines have
pub printed_lines : {K : Type 0} (l : Lexicon K) (spelling : K → List ℕ) → IsPrinted l spelling → (xs : List (Line K)) → AllSmall l.most (tokens_of xs) → Spells l (words_of (text_of spelling xs)) (tokens_of xs)
printed_lines l spelling is xs small = lines_words l spelling is xs 1 small
