-- Texts without a line feed, and with one at the end.
use Rattle.std.proofs.Common.{lit≤, Result, Ok, Err, OnOk, ◌≡◌, ℕ, ◌+◌, ◌%◌, ◌^◌, ◌<◌, ◌≤◌, List, [], ◌∷◌, ◌++◌, true, decimal, length, get_or, take, refl, sym, ap, ◌∙◌, append_assoc, arith, not, ◌&&◌, nat_eq, codes, IsTrue, flat_map}
use Rattle.std.proofs.lemmas.Grind.{common_steps}
use Rattle.std.proofs.lemmas.Bool.{and_from, and_parts}
use Rattle.std.proofs.lemmas.List.{append-nil, take_more}
use Rattle.std.proofs.lemmas.List.Concat.{flat_map-append}
use Rattle.std.proofs.lemmas.List.Folds.{list_all-append}
use Rattle.std.proofs.lemmas.Fmt.{decimal_by_steps_wide}
use Rattle.outside.specs.Decimal.{dotted_numbers}
use Rattle.commands.specs.Texts.{is_line, no_feed}

pub no_feed-append : (xs ys : List ℕ) → no_feed (xs ++ ys) ≡ (no_feed xs && no_feed ys)
no_feed-append xs ys = list_all-append (λ b. not (nat_eq b 10)) xs ys

digit_plain : (d : ℕ) → not (nat_eq (48 + d) 10) ≡ true
digit_plain d = grind (arith, common_steps)

pub no_feed-decimal : (n : ℕ) → n < 10 ^ 64 → no_feed (decimal n) ≡ true
no_feed-decimal n small = decimal_by_steps_wide (λ k ds. no_feed ds ≡ true) (λ k h. and_from (not (nat_eq (48 + k) 10)) true (digit_plain k) refl) (λ k ds h ih. no_feed-append ds ((48 + k % 10) ∷ []) ∙ and_from (no_feed ds) _ ih (and_from (not (nat_eq (48 + k % 10) 10)) true (digit_plain (k % 10)) refl)) n small

-- a text without a line feed is a line with one at its end
pub line_of : (xs : List ℕ) → no_feed xs ≡ true → is_line (xs ++ 10 ∷ []) ≡ true
line_of [] h = refl
line_of (x ∷ []) h = and_from (not (nat_eq x 10)) true (and_parts (not (nat_eq x 10)) true h).0 refl
line_of (x ∷ y ∷ xs) h =
    let p = and_parts (not (nat_eq x 10)) (no_feed (y ∷ xs)) h in
    and_from (not (nat_eq x 10)) (is_line ((y ∷ xs) ++ 10 ∷ [])) p.0 (line_of (y ∷ xs) p.1)

-- what is appended has no line feed where what is there and the number have none
pub number_plain : {E : Type 0} (r : Result (Unit {0}) E) (old new : List ℕ) (n : ℕ) → n < 2 ^ 128 → OnOk r (new ≡ old ++ decimal n) → OnOk r (IsTrue (no_feed old) → IsTrue (no_feed new))
number_plain (Ok u) old new n small e = λ plain. rw e (rw (no_feed-append old (decimal n)) (and_from (no_feed old) (no_feed (decimal n)) plain (no_feed-decimal n (omega (arith, fits)))))
  where
    fits : 2 ^ 128 ≤ 10 ^ 64
    fits = lit≤ tt
number_plain (Err e) old new n small h = tt

-- a line of two numbers with a dot between them has no line feed
pub dotted_plain : {E : Type 0} (r : Result (Unit {0}) E) (old new : List ℕ) (a b : ℕ) → a < 2 ^ 64 → b < 2 ^ 64 → OnOk r (new ≡ old ++ dotted_numbers a b) → OnOk r (IsTrue (no_feed old) → IsTrue (no_feed new))
dotted_plain (Ok u) old new a b small few e = λ plain.
    rw e (rw (no_feed-append old (dotted_numbers a b)) (and_from (no_feed old) (no_feed (dotted_numbers a b)) plain dotted))
  where
    fits : 2 ^ 64 ≤ 10 ^ 64
    fits = lit≤ tt

    dotted : no_feed (dotted_numbers a b) ≡ true
    dotted =
        no_feed-append (decimal a ++ codes ".") (decimal b)
        ∙ and_from (no_feed (decimal a ++ codes ".")) (no_feed (decimal b)) (no_feed-append (decimal a) (codes ".") ∙ and_from (no_feed (decimal a)) true (no_feed-decimal a (omega (arith, fits))) refl) (no_feed-decimal b (omega (arith, fits)))
dotted_plain (Err e) old new a b small few h = tt

pub line_from : (xs line : List ℕ) → line ≡ xs ++ 10 ∷ [] → IsTrue (no_feed xs) → IsTrue (is_line line)
line_from xs line e plain = rw e (line_of xs plain)

-- ---- texts that are appended

-- one item more, of each of which a text is appended
pub flat_more : {X : Type 0} (f : X → List ℕ) (xs : List X) (i : ℕ) (d : X) (start old new : List ℕ) → i < length xs → old ≡ start ++ flat_map f (take i xs) → new ≡ old ++ f (get_or xs i d) → new ≡ start ++ flat_map f (take (i + 1) xs)
flat_more f xs i d start old new less so_far added =
    added ∙ ap (λ l. l ++ f (get_or xs i d)) so_far ∙ append_assoc start (flat_map f (take i xs)) (f (get_or xs i d))
    ∙ ap (λ l. start ++ (flat_map f (take i xs) ++ l)) (sym (append-nil (f (get_or xs i d))))
    ∙ ap (λ l. start ++ l) (sym (flat_map-append f (take i xs) (get_or xs i d ∷ [])))
    ∙ ap (λ l. start ++ flat_map f l) (sym (take_more xs i d less))
