-- A text has no more words than bytes.
use Rattle.std.proofs.Common.{◌≡◌, ℕ, ◌+◌, ◌≤◌, List, [], ◌∷◌, ◌++◌, length, Bool, true, false, ◌||◌, cond, refl, arith, length-append}
use Rattle.outside.specs.Words.{is_separator, is_hash, is_line_feed, uncommented, word_before, words_from, words_of}

uncommented-length : (within : Bool) (bs : List ℕ) → length (uncommented within bs) ≡ length bs
uncommented-length within [] = refl
uncommented-length within (b ∷ bs) = by (is_line_feed b) (within || is_hash b) (uncommented-length false bs) (uncommented-length true bs)
  where
    by : (p q : Bool) → length (uncommented false bs) ≡ length bs → length (uncommented true bs) ≡ length bs → length (cond p (b ∷ uncommented false bs) (cond q (32 ∷ uncommented true bs) (b ∷ uncommented false bs))) ≡ length (b ∷ bs)
    by true q e f = omega (arith, e)
    by false true e f = omega (arith, f)
    by false false e f = omega (arith, e)

before-length : (word : List ℕ) (line : ℕ) (words : List (List ℕ × ℕ)) → length (word_before word line words) ≤ length word + length words
before-length [] line words = omega arith
before-length (b ∷ bs) line words = omega arith

from-length : (line : ℕ) (word bs : List ℕ) → length (words_from line word bs) ≤ length word + length bs
from-length line word [] = omega (arith, before-length word line [])
from-length line word (b ∷ bs) = by (is_separator b) (cond (is_line_feed b) (line + 1) line) (from-length (cond (is_line_feed b) (line + 1) line) [] bs) (from-length line (word ++ b ∷ []) bs)
  where
    by : (p : Bool) (next : ℕ) → length (words_from next [] bs) ≤ length {A = ℕ} [] + length bs → length (words_from line (word ++ b ∷ []) bs) ≤ length (word ++ b ∷ []) + length bs
        → length (cond p (word_before word line (words_from next [] bs)) (words_from line (word ++ b ∷ []) bs)) ≤ length word + length (b ∷ bs)
    by true next e f = omega (arith, e, before-length word line (words_from next [] bs))
    by false next e f = omega (arith, f, length-append word (b ∷ []))

pub words-length : (bytes : List ℕ) → length (words_of bytes) ≤ length bytes
words-length bytes = omega (arith, from-length 1 [] (uncommented false bytes), uncommented-length false bytes)
