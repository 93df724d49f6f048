-- The words of a printed text, with their lines.
use Rattle.std.proofs.Common.{◌≡◌, ℕ, ◌+◌, ◌<◌, ◌^◌, List, [], ◌∷◌, ◌++◌, length, map, Bool, true, false, IsTrue, decimal, refl, ◌∙◌, ap, append_assoc, arith}
use Rattle.std.specs.List.{All, list_all}
use Rattle.std.proofs.lemmas.List.Elements.{All-head, All-tail}
use Rattle.std.proofs.lemmas.Fmt.{decimal_nonempty}
use Rattle.std.proofs.lemmas.Grind.{common_steps}
use Rattle.std.proofs.lemmas.List.Sums.{AllPass-from_list_all}
use Rattle.outside.specs.Words.{words_left, ends_word, IsEnd, AllInWord, Word}
use Rattle.outside.proofs.WordLemmas.{first_word}
use Rattle.outside.proofs.DecimalLemmas.{decimal_in_word}
use Rattle.soc_model.specs.SoundChips.{IsName, is_name_byte}
use Rattle.soc_printer.specs.SocText.{spaced, line_of, flag_word, lengths_text}

-- a word, as it may stand in a text
pub record IsOneWord (w : List ℕ) : Type 0 where
  pub some : 0 < length w
  pub unbroken : AllInWord w

abbrev pub AllWords : List (List ℕ) → Type 0
AllWords [] = Unit {0}
AllWords (w ∷ ws) = IsOneWord w × AllWords ws

pub AllWords-append : (ws more : List (List ℕ)) → AllWords ws → AllWords more → AllWords (ws ++ more)
AllWords-append [] more are rest = rest
AllWords-append (w ∷ ws) more are rest = (are.0, AllWords-append ws more are.1 rest)

-- words on a line
abbrev pub words_on : ℕ → List (List ℕ) → List Word
words_on line [] = []
words_on line (w ∷ ws) = (w, line) ∷ words_on line ws

spaced-end : (ws : List (List ℕ)) (rest : List ℕ) → IsEnd rest → IsEnd (spaced ws ++ rest)
spaced-end [] rest end = end
spaced-end (w ∷ ws) rest end = refl

-- words behind spaces
pub spaced-words : (line : ℕ) (ws : List (List ℕ)) (rest : List ℕ) → AllWords ws → IsEnd rest → words_left line (spaced ws ++ rest) ≡ words_on line ws ++ words_left line rest
spaced-words line [] rest are end = refl
spaced-words line (w ∷ ws) rest are end =
    ap (words_left line) (append_assoc w (spaced ws) rest)
    ∙ first_word line w (spaced ws ++ rest) are.0.some are.0.unbroken (spaced-end ws rest end)
    ∙ ap (λ l. (w, line) ∷ l) (spaced-words line ws rest are.1 end)

-- a line
pub line-words : (line : ℕ) (first : List ℕ) (more : List (List ℕ)) (rest : List ℕ) → IsOneWord first → AllWords more → words_left line (line_of first more ++ rest) ≡ words_on line (first ∷ more) ++ words_left (line + 1) rest
line-words line first more rest is are =
    ap (words_left line) (append_assoc first (spaced more ++ 10 ∷ []) rest ∙ ap (λ t. first ++ t) (append_assoc (spaced more) (10 ∷ []) rest))
    ∙ first_word line first (spaced more ++ 10 ∷ rest) is.some is.unbroken (spaced-end more (10 ∷ rest) refl)
    ∙ ap (λ l. (first, line) ∷ l) (spaced-words line more (10 ∷ rest) are refl)

lengths-end : (ns rest : List ℕ) → IsEnd rest → IsEnd (lengths_text ns ++ rest)
lengths-end [] rest end = end
lengths-end (n ∷ ns) rest end = refl

-- the lengths of scan chains
pub lengths-words : (line : ℕ) (ns rest : List ℕ) → AllWords (map decimal ns) → IsEnd rest → words_left line (lengths_text ns ++ rest) ≡ words_on line (map decimal ns) ++ words_left line rest
lengths-words line [] rest are end = refl
lengths-words line (n ∷ ns) rest are end = spaced-words line (map decimal (n ∷ ns)) rest are end

-- the line of a module
pub module_line-words : (line : ℕ) (first : List ℕ) (more : List (List ℕ)) (ns rest : List ℕ) → IsOneWord first → AllWords more → AllWords (map decimal ns) → words_left line ((first ++ (spaced more ++ (lengths_text ns ++ 10 ∷ []))) ++ rest) ≡ words_on line (first ∷ more) ++ (words_on line (map decimal ns) ++ words_left (line + 1) rest)
module_line-words line first more ns rest is are lengths =
    let end : IsEnd (lengths_text ns ++ 10 ∷ rest) = lengths-end ns (10 ∷ rest) refl in
    ap (words_left line) (append_assoc first (spaced more ++ (lengths_text ns ++ 10 ∷ [])) rest
    ∙ ap (λ t. first ++ t) (append_assoc (spaced more) (lengths_text ns ++ 10 ∷ []) rest ∙ ap (λ t. spaced more ++ t) (append_assoc (lengths_text ns) (10 ∷ []) rest)))
    ∙ first_word line first (spaced more ++ (lengths_text ns ++ 10 ∷ rest)) is.some is.unbroken (spaced-end more (lengths_text ns ++ 10 ∷ rest) end)
    ∙ ap (λ l. (first, line) ∷ l) (spaced-words line more (lengths_text ns ++ 10 ∷ rest) are end ∙ ap (λ l. words_on line more ++ l) (lengths-words line ns (10 ∷ rest) lengths refl))

-- ---- words that are printed

name_byte-unbroken : (b : ℕ) → IsTrue (is_name_byte b) → ends_word b ≡ false
name_byte-unbroken b is = grind (arith, common_steps)

name-unbroken : (w : List ℕ) → IsName w → AllInWord w
name-unbroken [] is = tt
name-unbroken (b ∷ w) is = (name_byte-unbroken b (All-head (λ b. IsTrue (is_name_byte b)) b w is), name-unbroken w (All-tail (λ b. IsTrue (is_name_byte b)) b w is))

pub name-word : (b : ℕ) (w : List ℕ) → IsName (b ∷ w) → IsOneWord (b ∷ w)
name-word b w is = record { some = omega arith; unbroken = name-unbroken (b ∷ w) is }

-- a word whose bytes are looked at
pub plain-word : (b : ℕ) (w : List ℕ) → list_all is_name_byte (b ∷ w) ≡ true → IsOneWord (b ∷ w)
plain-word b w e = name-word b w (AllPass-from_list_all is_name_byte (b ∷ w) e)

pub flag-word : (f : Bool) → IsOneWord (flag_word f)
flag-word true = plain-word 49 [] refl
flag-word false = plain-word 48 [] refl

pub decimal-word : (n : ℕ) → n < 10 ^ 12 → IsOneWord (decimal n)
decimal-word n small =
    let fits : n < 2 ^ 64 = omega arith in
    record { some = decimal_nonempty n fits; unbroken = decimal_in_word n fits }

pub decimal-words : (ns : List ℕ) → All (λ n. n < 10 ^ 12) ns → AllWords (map decimal ns)
decimal-words [] small = tt
decimal-words (n ∷ ns) small = (decimal-word n (All-head (λ n. n < 10 ^ 12) n ns small), decimal-words ns (All-tail (λ n. n < 10 ^ 12) n ns small))
