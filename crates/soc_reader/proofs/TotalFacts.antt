-- Totals in the order of the text.
use Rattle.std.proofs.Common.{◌≡◌, ℕ, List, [], ◌∷◌, ◌++◌, reverse, Option, None, Some, refl, sym, ◌∙◌, ap}
use Rattle.std.proofs.lemmas.List.{reverse-append}
use Rattle.soc_model.specs.Chips.{SocValue}
use Rattle.soc_reader.specs.Table.{Item}
use Rattle.soc_reader.specs.Meaning.{first_wrong, wrong_total, or_else}

-- the first wrong total of items in their order
abbrev pub first_of : SocValue → List Item → Option ℕ
first_of c [] = None
first_of c (x ∷ xs) = or_else (wrong_total c x) (first_of c xs)

pub or_else-none : (o : Option ℕ) → or_else o None ≡ o
or_else-none None = refl
or_else-none (Some n) = refl

or_else-assoc : (a b c : Option ℕ) → or_else (or_else a b) c ≡ or_else a (or_else b c)
or_else-assoc None b c = refl
or_else-assoc (Some n) b c = refl

first_push : (c : SocValue) (xs earlier : List Item) → first_wrong c (xs ++ earlier) ≡ or_else (first_wrong c earlier) (first_wrong c xs)
first_push c [] earlier = sym (or_else-none (first_wrong c earlier))
first_push c (x ∷ xs) earlier = ap (λ o. or_else o (wrong_total c x)) (first_push c xs earlier) ∙ or_else-assoc (first_wrong c earlier) (first_wrong c xs) (wrong_total c x)

pub first_in_order : (c : SocValue) (xs : List Item) → first_wrong c (reverse xs) ≡ first_of c xs
first_in_order c [] = refl
first_in_order c (x ∷ xs) =
    ap (first_wrong c) (reverse-append (x ∷ []) xs) ∙ first_push c (reverse xs) (x ∷ []) ∙ ap (λ o. or_else (or_else None (wrong_total c x)) o) (first_in_order c xs)
