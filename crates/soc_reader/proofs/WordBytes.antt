-- The bytes of a text's words, and the names that words make.
use Rattle.std.proofs.Common.{◌≡◌, ℕ, List, [], ◌∷◌, ◌++◌, Bool, true, false, ◌+◌, refl, ◌&&◌, ◌||◌, not, IsTrue, cond, map, take, drop, codes, None, Some, arith}
use Rattle.std.specs.List.{All, list_all, list_any}
use Rattle.std.proofs.lemmas.Grind.{common_steps}
use Rattle.std.proofs.lemmas.List.Elements.{All-nil, All-cons, All-append, All-head, All-tail}
use Rattle.outside.specs.Words.{is_separator, is_hash, is_line_feed, uncommented, word_before, words_from, words_of, ends_word, same_letters, Word}
use Rattle.soc_model.specs.SoundChips.{is_name_byte, IsName, is_keyword, keywords as spellings}
use Rattle.soc_reader.specs.declared.keys.Key.{Key}
use Rattle.soc_reader.specs.Keywords.{keywords, named, key_of, is_printable_byte, is_printable, is_free_word, is_lengths_word}
use Rattle.soc_reader.specs.Grammar.{IsFree}
use Rattle.std.proofs.lemmas.Bool.{or_parts}
use Rattle.common_lemmas.proofs.Tests.{both_true, not_true}

-- no byte of the word ends a word
abbrev pub IsUnbroken : List ℕ → Type 0
IsUnbroken w = All (λ b. ends_word b ≡ false) w

abbrev pub AllUnbroken : List Word → Type 0
AllUnbroken ws = All (λ (w : Word). IsUnbroken w.0) ws

unbroken_before : (word : List ℕ) (line : ℕ) (ws : List Word) → IsUnbroken word → AllUnbroken ws → AllUnbroken (word_before word line ws)
unbroken_before [] line ws own rest = rest
unbroken_before (b ∷ word) line ws own rest = All-cons (λ (w : Word). IsUnbroken w.0) (b ∷ word, line) ws own rest

ends : (b : ℕ) → is_separator b ≡ false → is_hash b ≡ false → ends_word b ≡ false
ends b separator hash = rw (hash, separator) refl

clear : (within : Bool) (bs : List ℕ) → All (λ b. is_hash b ≡ false) (uncommented within bs)
clear within [] = All-nil (λ b. is_hash b ≡ false)
clear within (b ∷ bs) = by (is_line_feed b) (within || is_hash b) refl refl (clear false bs) (clear true bs)
  where
    cons : (c : ℕ) (cs : List ℕ) → is_hash c ≡ false → All (λ b. is_hash b ≡ false) cs → All (λ b. is_hash b ≡ false) (c ∷ cs)
    cons c cs here rest = All-cons (λ b. is_hash b ≡ false) c cs here rest

    feed_no_hash : (c : ℕ) → is_line_feed c ≡ true → is_hash c ≡ false
    feed_no_hash c is = grind (arith, common_steps)

    by : (feed comment : Bool) → is_line_feed b ≡ feed → (within || is_hash b) ≡ comment → All (λ b. is_hash b ≡ false) (uncommented false bs) → All (λ b. is_hash b ≡ false) (uncommented true bs) → All (λ b. is_hash b ≡ false) (cond feed (b ∷ uncommented false bs) (cond comment (32 ∷ uncommented true bs) (b ∷ uncommented false bs)))
    by true comment is of outside inside = cons b (uncommented false bs) (feed_no_hash b is) outside
    by false true is of outside inside = cons 32 (uncommented true bs) refl inside
    by false false is of outside inside = cons b (uncommented false bs) (second within (is_hash b) of) outside
      where
        second : (p q : Bool) → (p || q) ≡ false → q ≡ false
        second true q e = cc
        second false q e = e

unbroken_from : (line : ℕ) (word bs : List ℕ) → IsUnbroken word → All (λ b. is_hash b ≡ false) bs → AllUnbroken (words_from line word bs)
unbroken_from line word [] own clean = unbroken_before word line [] own (All-nil (λ (w : Word). IsUnbroken w.0))
unbroken_from line word (b ∷ bs) own clean =
    let rest : All (λ b. is_hash b ≡ false) bs = All-tail (λ b. is_hash b ≡ false) b bs clean in
    let here : is_hash b ≡ false = All-head (λ b. is_hash b ≡ false) b bs clean in
    by (is_separator b) refl here
    (λ l. unbroken_from l [] bs (All-nil (λ b. ends_word b ≡ false)) rest)
    (λ own. unbroken_from line (word ++ b ∷ []) bs own rest)
  where
    longer : ends_word b ≡ false → IsUnbroken (word ++ b ∷ [])
    longer is = All-append (λ b. ends_word b ≡ false) word (b ∷ []) own (All-cons (λ b. ends_word b ≡ false) b [] is (All-nil (λ b. ends_word b ≡ false)))

    by : (t : Bool) → is_separator b ≡ t → is_hash b ≡ false → ((l : ℕ) → AllUnbroken (words_from l [] bs)) → (IsUnbroken (word ++ b ∷ []) → AllUnbroken (words_from line (word ++ b ∷ []) bs))
        → AllUnbroken (cond t (word_before word line (words_from (cond (is_line_feed b) (line + 1) line) [] bs)) (words_from line (word ++ b ∷ []) bs))
    by true is hash after on = unbroken_before word line (words_from (cond (is_line_feed b) (line + 1) line) [] bs) own (after (cond (is_line_feed b) (line + 1) line))
    by false is hash after on = on (longer (ends b is hash))

-- no byte of a text's words ends a word
pub words-unbroken : (bytes : List ℕ) → AllUnbroken (words_of bytes)
words-unbroken bytes = unbroken_from 1 [] (uncommented false bytes) (All-nil (λ b. ends_word b ≡ false)) (clear false bytes)

-- ---- names

name_byte : (b : ℕ) → is_printable_byte b ≡ true → ends_word b ≡ false → IsTrue (is_name_byte b)
name_byte b printable unbroken = grind (arith, common_steps)

-- a printable word is a name
pub name-from_word : (w : List ℕ) → is_printable w ≡ true → IsUnbroken w → IsName w
unfolding is_printable
name-from_word [] printable unbroken = All-nil (λ b. IsTrue (is_name_byte b))
name-from_word (b ∷ w) printable unbroken =
    let parts = both_true (is_printable_byte b) (list_all is_printable_byte w) printable in
    All-cons (λ b. IsTrue (is_name_byte b)) b w
    (name_byte b parts.0 (All-head (λ b. ends_word b ≡ false) b w unbroken))
    (name-from_word w parts.1 (All-tail (λ b. ends_word b ≡ false) b w unbroken))

-- a free word is printable
pub printable-from_free : (w : List ℕ) → is_free_word w ≡ true → is_printable w ≡ true
unfolding is_free_word
printable-from_free w free = (both_true (is_printable w) (not (is_lengths_word w)) (both_true (is_printable w && not (is_lengths_word w)) _ free).0).0

-- a word that is none of the keywords with items is none of their spellings
no_spelling : (w : List ℕ) (ks : List (List ℕ × Key)) → named ks w ≡ None → list_any (same_letters w) (map {A = List ℕ × Key} (λ k. k.0) ks) ≡ false
no_spelling w [] none = refl
no_spelling w (k ∷ ks) none = by (same_letters w k.0) none (no_spelling w ks)
  where
    by : (b : Bool) → cond b (Some k.1) (named ks w) ≡ None → (named ks w ≡ None → list_any (same_letters w) (map {A = List ℕ × Key} (λ k. k.0) ks) ≡ false) → (b || list_any (same_letters w) (map {A = List ℕ × Key} (λ k. k.0) ks)) ≡ false
    by true e rest = cc
    by false e rest = rest e

-- two more words that fail the test, one within the list and one behind it
two_more : (p : List ℕ → Bool) (front back : List (List ℕ)) (x y : List ℕ) → list_any p (front ++ back) ≡ false → p x ≡ false → p y ≡ false → list_any p (front ++ x ∷ (back ++ y ∷ [])) ≡ false
two_more p [] [] x y none first second = rw (first, second) refl
two_more p [] (b ∷ back) x y none first second =
    let parts = or_parts (p b) (list_any p back) none in
    let rest = two_more p [] back x y parts.1 first second in
    rw (first, parts.0) (rw first at rest)
two_more p (a ∷ front) back x y none first second =
    let parts = or_parts (p a) (list_any p (front ++ back)) none in
    rw parts.0 (two_more p front back x y parts.1 first second)

-- a word that is no keyword with items, and neither `ScanChainLengths` nor `XY`, is no keyword
pub no_keyword-from_free : (w : List ℕ) → IsFree w → is_keyword w ≡ false
unfolding key_of is_free_word is_lengths_word spellings
no_keyword-from_free w free =
    let spelled : List (List ℕ) = map {A = List ℕ × Key} (λ k. k.0) keywords in
    let parts = both_true (is_printable w && not (is_lengths_word w)) (not (same_letters w (codes "XY"))) free.free in
    two_more (same_letters w) (take 11 spelled) (drop 11 spelled) (codes "ScanChainLengths") (codes "XY")
    (no_spelling w keywords free.no_key)
    (not_true (is_lengths_word w) (both_true (is_printable w) (not (is_lengths_word w)) parts.0).1)
    (not_true (same_letters w (codes "XY")) parts.1)
