-- Changes of the last module of a chip, and of the last test of a module.
use Rattle.std.proofs.Common.{◌≡◌, ℕ, zero, suc, ◌<◌, List, [], ◌∷◌, ◌++◌, length, map, Bool, true, false, not, ◌||◌, nat_eq, nat_lt, position, slice_get, Some, refl, sym, ◌∙◌, ap, arith}
use Rattle.std.specs.List.{list_any, prefix_len}
use Rattle.std.proofs.lemmas.Bool.Decides.{nat_tests}
use Rattle.std.proofs.lemmas.List.{length-append, length-map}
use Rattle.std.proofs.lemmas.Bool.{or_parts, eq-eqb}
use Rattle.soc_model.specs.declared.Test.{Test}
use Rattle.soc_model.specs.Chips.{ModuleValue, SocValue}
use Rattle.soc_model.specs.SoundChips.{AllDiffer}
use Rattle.soc_reader.specs.Drafts.{test_numbers}
use Rattle.soc_reader.proofs.Places.{any-numbers}
use Rattle.soc_reader.specs.Meaning.{change_at, change_found, at_module, at_test, with_module, with_test, new_test}
use Rattle.common_lemmas.proofs.Lists.{at_seam, at_left}

-- a number that does not stand in a list
abbrev pub IsAbsent : ℕ → List ℕ → Type 0
IsAbsent n ns = list_any (nat_eq n) ns ≡ false

pub absent-front : (n : ℕ) (ns : List ℕ) (m : ℕ) → IsAbsent n (ns ++ m ∷ []) → IsAbsent n ns
absent-front n [] m absent = refl
absent-front n (k ∷ ns) m absent =
    let parts = or_parts (nat_eq n k) (list_any (nat_eq n) (ns ++ m ∷ [])) absent in
    rw parts.0 (absent-front n ns m parts.1)

pub absent-last : (n : ℕ) (ns : List ℕ) (m : ℕ) → IsAbsent n (ns ++ m ∷ []) → nat_eq n m ≡ false
absent-last n [] m absent = (or_parts (nat_eq n m) false absent).0
absent-last n (k ∷ ns) m absent = absent-last n ns m (or_parts (nat_eq n k) (list_any (nat_eq n) (ns ++ m ∷ [])) absent).1

pub there-last : (ns : List ℕ) (m : ℕ) → list_any (nat_eq m) (ns ++ m ∷ []) ≡ true
there-last [] m = rw (eq-eqb m m refl) refl
there-last (k ∷ ns) m = rw (there-last ns m) (or_true (nat_eq m k))
  where
    or_true : (b : Bool) → (b || true) ≡ true
    or_true true = refl
    or_true false = refl

-- ---- lists of different numbers

record HasPlace (ns : List ℕ) (n : ℕ) : Type 0 where
  place : ℕ
  within : place < length ns
  at : slice_get ns place ≡ Some n

eq-true : (n x : ℕ) → nat_eq n x ≡ true → x ≡ n
eq-true n x e = grind (arith, nat_tests)

place_of_either : (b : Bool) (ns : List ℕ) (x n : ℕ) → nat_eq n x ≡ b → (b || list_any (nat_eq n) ns) ≡ true → (list_any (nat_eq n) ns ≡ true → HasPlace ns n) → HasPlace (x ∷ ns) n
place_of_either true ns x n is e rest = record { place = 0; within = omega arith; at = ap Some (eq-true n x is) }
place_of_either false ns x n is e rest = let found = rest e in record { place = suc found.place; within = omega arith; at = found.at }

place_from : (ns : List ℕ) (n : ℕ) → list_any (nat_eq n) ns ≡ true → HasPlace ns n
place_from [] n e = cc
place_from (x ∷ ns) n e = place_of_either (nat_eq n x) ns x n refl e (place_from ns n)

-- a number does not stand before itself
pub absent-from_differ : (ns more : List ℕ) (n : ℕ) → AllDiffer (ns ++ n ∷ more) → IsAbsent n ns
absent-from_differ ns more n differ = by (list_any (nat_eq n) ns) refl
  where
    by : (b : Bool) → list_any (nat_eq n) ns ≡ b → list_any (nat_eq n) ns ≡ false
    by false e = e
    by true e =
        let found = place_from ns n e in
        let same = differ found.place (length ns) n (at_left ns (n ∷ more) found.place n found.at) (at_seam ns more n) in
        let within = found.within in
        absurd (omega arith)

-- ---- the last element

prefix-last : {A : Type 0} (p : A → Bool) (xs : List A) (x : A) → list_any p xs ≡ false → p x ≡ true → prefix_len (λ y. not (p y)) (xs ++ x ∷ []) ≡ length xs
prefix-last p [] x none is = rw is refl
prefix-last p (y ∷ xs) x none is =
    let parts = or_parts (p y) (list_any p xs) none in
    let rest = prefix-last p xs x parts.1 is in
    rw parts.0 (omega (arith, rest))

pub position-last : {A : Type 0} (p : A → Bool) (xs : List A) (x : A) → list_any p xs ≡ false → p x ≡ true → position p (xs ++ x ∷ []) ≡ Some (length xs)
position-last p xs x none is =
    let shorter : nat_lt (length xs) (length (xs ++ x ∷ [])) ≡ true = grind (arith, nat_tests, length-append xs (x ∷ [])) in
    rw (prefix-last p xs x none is) (rw shorter refl)

change-last : {A : Type 0} (f : A → A) (xs : List A) (x : A) → change_at (length xs) f (xs ++ x ∷ []) ≡ xs ++ f x ∷ []
change-last f [] x = refl
change-last f (y ∷ xs) x = ap (λ l. y ∷ l) (change-last f xs x)

-- ---- tests

-- the first test of a number is the last test
pub test-changed : (t : ℕ) (f : Test → Test) (ts : List Test) (x : Test) → IsAbsent t (test_numbers ts) → x.number ≡ t → at_test t f (ts ++ x ∷ []) ≡ ts ++ f x ∷ []
test-changed t f ts x absent same =
    let is : nat_eq t x.number ≡ true = ap (nat_eq t) same ∙ eq-eqb t t refl in
    ap (λ o. change_found o f (ts ++ x ∷ [])) (position-last (λ (x : Test). nat_eq t x.number) ts x (sym (any-numbers t ts) ∙ absent) is) ∙ change-last f ts x

-- a new test goes last
pub test-added : (t : ℕ) (ts : List Test) → IsAbsent t (test_numbers ts) → with_test t ts ≡ ts ++ new_test t ∷ []
test-added t ts absent = rw (sym (any-numbers t ts) ∙ absent) refl

-- ---- modules

abbrev pub numbers_of : List ModuleValue → List ℕ
numbers_of ms = map (λ (m : ModuleValue). m.number) ms

pub numbers-push : (ms : List ModuleValue) (m : ModuleValue) → numbers_of (ms ++ m ∷ []) ≡ numbers_of ms ++ m.number ∷ []
numbers-push [] m = refl
numbers-push (k ∷ ms) m = ap (λ ns. k.number ∷ ns) (numbers-push ms m)

-- the chip with these modules alone
abbrev pub upto : SocValue → List ModuleValue → SocValue
upto whole done = record whole { keys = numbers_of done; modules = done }

-- the chip with these modules and one more, which is found by its number
abbrev pub with_last : SocValue → List ModuleValue → ℕ → ModuleValue → SocValue
with_last whole done m last = record whole { keys = numbers_of done ++ m ∷ []; modules = done ++ last ∷ [] }

pub last-changed : (whole : SocValue) (done : List ModuleValue) (m : ℕ) (f : ModuleValue → ModuleValue) (last : ModuleValue) → IsAbsent m (numbers_of done) → at_module m f (with_last whole done m last) ≡ with_last whole done m (f last)
last-changed whole done m f last absent =
    let found : position (nat_eq m) (numbers_of done ++ m ∷ []) ≡ Some (length done) = position-last (nat_eq m) (numbers_of done) m absent (eq-eqb m m refl) ∙ ap Some (length-map done (λ (m : ModuleValue). m.number)) in
    ap (λ ms. record whole { keys = numbers_of done ++ m ∷ []; modules = ms }) (ap (λ o. change_found o f (done ++ last ∷ [])) found ∙ change-last f done last)

pub last-there : (whole : SocValue) (done : List ModuleValue) (m : ℕ) (last : ModuleValue) → with_module m (with_last whole done m last) ≡ with_last whole done m last
last-there whole done m last = rw (there-last (numbers_of done) m) refl
