-- Texts line by line, as what is read and what is printed.
use Rattle.std.specs.Prelude.{ℕ, List, [], ◌∷◌, ◌++◌, Bool, true, false, map, codes, decimal}
use Rattle.std.specs.List.{flat_map}
use Rattle.keyword_text.specs.declared.tokens.Token.{Token}
use Rattle.keyword_text.specs.declared.tokens.Token.TheVariants.{Key, Number}

-- A line: a keyword, further words, and a list of any length, before which a colon is printed or not.
pub record Line (K : Type 0) : Type 0 where
  pub head : K
  pub others : List (Token K)
  pub colon : Bool
  pub listed : List ℕ

-- a line without a list
abbrev pub line : {K : Type 0} → K → List (Token K) → Line K
line head others = record { head = head; others = others; colon = false; listed = [] }

-- ---- what the words of lines stand for

abbrev pub line_tokens : {K : Type 0} → Line K → List (Token K)
line_tokens l = Key l.head ∷ (l.others ++ map Number l.listed)

abbrev pub tokens_of : {K : Type 0} → List (Line K) → List (Token K)
tokens_of lines = flat_map line_tokens lines

-- ---- what is printed, where each keyword has its spelling

abbrev pub token_text : {K : Type 0} → (K → List ℕ) → Token K → List ℕ
token_text spelling (Key k) = spelling k
token_text spelling (Number n) = decimal n

-- each with a space before it
abbrev pub spaced : {K : Type 0} → (K → List ℕ) → List (Token K) → List ℕ
spaced spelling [] = []
spaced spelling (t ∷ ts) = (32 ∷ token_text spelling t) ++ spaced spelling ts

-- numbers, each with a space before it
abbrev pub spaced_numbers : List ℕ → List ℕ
spaced_numbers [] = []
spaced_numbers (n ∷ ns) = (32 ∷ decimal n) ++ spaced_numbers ns

abbrev pub colon_text : Bool → List ℕ → List ℕ
colon_text false ns = []
colon_text true [] = []
colon_text true (n ∷ ns) = codes " :"

-- a list, with a space and a colon before it where it has numbers and such a line wants them
abbrev pub listed_text : Bool → List ℕ → List ℕ
listed_text colon ns = colon_text colon ns ++ spaced_numbers ns

abbrev pub line_text : {K : Type 0} → (K → List ℕ) → Line K → List ℕ
line_text spelling l = spelling l.head ++ (spaced spelling l.others ++ (listed_text l.colon l.listed ++ codes "\n"))

abbrev pub text_of : {K : Type 0} → (K → List ℕ) → List (Line K) → List ℕ
text_of spelling lines = flat_map (line_text spelling) lines
