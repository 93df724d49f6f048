-- Words, steps and whether some element passes a test.
use Rattle.std.proofs.Common.{◌≡◌, ℕ, ◌<◌, ◌≤◌, List, [], ◌∷◌, length, true, ◌&&◌, not, nat_eq, codes, decimal, Option, None, Some, refl, sym, ◌∙◌, arith, suc, ◌-◌, map, reverse, Bool, false, ◌||◌, slice_get, nat_lt, ap, nat_le}
use Rattle.std.specs.Char.{is_ascii_digit}
use Rattle.std.specs.Str.{all_ascii_digits}
use Rattle.std.proofs.lemmas.Bool.{and_parts}
use Rattle.std.proofs.lemmas.Option.{none-some, cond_some}
use Rattle.outside.specs.Words.{same_letters, Word}
use Rattle.outside.specs.Decimal.{value_after}
use Rattle.outside.proofs.DecimalLemmas.{number_of-decimal}
use Rattle.outside.proofs.OtherWords.{low_other, digit_low}
use Rattle.outside.proofs.WordLemmas.{same_letters-same}
use Rattle.soc_model.specs.declared.TheConstants.{NUMBER_WORD_MOST}
use Rattle.limits_text.specs.declared.items.Amount.{Amount}
use Rattle.limits_text.specs.declared.items.Amount.TheVariants.{Wires, Power, Budget}
use Rattle.limits_text.specs.declared.items.Key.{Key}
use Rattle.limits_text.specs.declared.items.Key.TheVariants.{One, Before}
use Rattle.limits_text.specs.Items.{number, is_title, key_of, is_in_range, Item}
use Rattle.std.specs.List.{list_any}
use Rattle.plan_model.specs.declared.TheConstants.{STEPS_MOST}
use Rattle.std.proofs.lemmas.Bool.Decides.{nat_tests}
use Rattle.std.proofs.lemmas.Grind.{common_steps}
use Rattle.std.proofs.lemmas.List.{reverse-append}
use Rattle.std.proofs.lemmas.List.Folds.{list_any-append}
use Rattle.limits_text.specs.declared.items.Item.{Item as ReadItem}
use Rattle.limits_text.specs.Views.{item_of}
use Rattle.limits_text.specs.Steps.{last_from, may_follow}
use Rattle.common_lemmas.proofs.Tests.{or_false_right, or_comm}

-- ---- a keyword is no number

number_low : (c : ℕ) (cs : List ℕ) (n : ℕ) → number (c ∷ cs) ≡ Some n → c < 65
unfolding number
number_low c cs n e =
    let whole = (cond_some (all_ascii_digits (c ∷ cs) && not (nat_eq (length (c ∷ cs)) 0) && nat_le (value_after 0 (c ∷ cs)) NUMBER_WORD_MOST) (value_after 0 (c ∷ cs)) n e).0 in
    let digits = (and_parts (all_ascii_digits (c ∷ cs)) _ (and_parts (all_ascii_digits (c ∷ cs) && not (nat_eq (length (c ∷ cs)) 0)) _ whole).0).0 in
    digit_low c (and_parts (is_ascii_digit c) (all_ascii_digits cs) digits).0

no_number_at_end : (n : ℕ) → number [] ≡ Some n → ⊥
unfolding number
no_number_at_end n e = cc

low_no_key : (c : ℕ) (cs : List ℕ) → c < 65 → key_of (c ∷ cs) ≡ None
unfolding key_of
low_no_key c cs low =
    rw (low_other c cs (codes "Wires") low refl, low_other c cs (codes "Power") low refl, low_other c cs (codes "Budget") low refl, low_other c cs (codes "Before") low refl, low_other c cs (codes "Profile") low refl) refl

number_no_key : (w : List ℕ) (n : ℕ) → number w ≡ Some n → key_of w ≡ None
number_no_key [] n e = absurd (no_number_at_end n e)
number_no_key (c ∷ cs) n e = low_no_key c cs (number_low c cs n e)

-- a keyword is no number
pub key_no_number : (w : List ℕ) (k : Key) → key_of w ≡ Some k → number w ≡ None
key_no_number w k e = by_cases (number w) refl
  where
    by_cases : (o : Option ℕ) → number w ≡ o → number w ≡ None
    by_cases None f = f
    by_cases (Some n) f = absurd (none-some k (sym (number_no_key w n f) ∙ e))

-- ---- words that complete a text

abbrev pub word_at : List ℕ → Word
word_at w = (w, 0)

abbrev pub one_word : Word
one_word = word_at (codes "1")

abbrev pub zero_word : Word
zero_word = word_at (codes "0")

abbrev pub title_word : Word
title_word = word_at (codes "Limits")

abbrev pub wires_word : Word
wires_word = word_at (codes "Wires")

pub one_is : number (codes "1") ≡ Some 1
unfolding number
one_is = refl

pub zero_is : number (codes "0") ≡ Some 0
unfolding number
zero_is = refl

pub title_is : is_title (codes "Limits") ≡ true
unfolding is_title
title_is = refl

pub wires_is : key_of (codes "Wires") ≡ Some (One Wires)
unfolding key_of
wires_is = refl

pub one_in_range : (a : Amount) → is_in_range a 1 ≡ true
one_in_range Wires = refl
one_in_range Power = refl
one_in_range Budget = refl

-- the decimal text of a number is that number
pub number-decimal : (n : ℕ) → n ≤ NUMBER_WORD_MOST → number (decimal n) ≡ Some n
unfolding number
number-decimal n small = number_of-decimal n NUMBER_WORD_MOST (omega arith) small

-- `Before` may be looked for first
pub before_key : (w : List ℕ) → same_letters w (codes "Before") ≡ true → Some Before ≡ key_of w
unfolding key_of
before_key w is =
    let other = λ (x : List ℕ). same_letters-same w (codes "Before") x is in
    rw (other (codes "Wires"), other (codes "Power"), other (codes "Budget"), other (codes "Before")) refl

-- ---- whether some element passes a test, from either end; the last of some steps

pub list_any-reverse : {X : Type 0} (p : X → Bool) (xs : List X) → list_any p (reverse xs) ≡ list_any p xs
list_any-reverse p [] = refl
list_any-reverse p (x ∷ xs) =
    ap (list_any p) (reverse-append (x ∷ []) xs) ∙ list_any-append p (reverse xs) (x ∷ []) ∙ or_comm (list_any p (reverse xs)) (p x || false)
    ∙ ap (λ b. b || list_any p (reverse xs)) (or_false_right (p x)) ∙ ap (λ b. p x || b) (list_any-reverse p xs)

pub some_done : (p : Item → Bool) (list found : List ReadItem) (b : Bool) → found ≡ list → b ≡ list_any p (map item_of found) → b ≡ list_any p (reverse (map item_of list))
some_done p list found b same is = is ∙ ap (λ l. list_any p (map item_of l)) same ∙ sym (list_any-reverse p (map item_of list))

-- the last of some steps
pub last-at : (s x : ℕ × ℕ) (steps : List (ℕ × ℕ)) → slice_get (s ∷ steps) (length steps) ≡ Some x → last_from s.0 steps ≡ x.0
last-at s x [] e = grind (arith, common_steps)
last-at s x (t ∷ steps) e = last-at t x steps (grind (arith, common_steps))

-- whether a step may follow steps, by the last of them
pub last_follows : (steps : List (ℕ × ℕ)) (x : ℕ × ℕ) (from : ℕ) → Some x ≡ slice_get steps (length steps - 1) → may_follow steps from ≡ (nat_lt x.0 from && nat_lt (length steps) STEPS_MOST)
last_follows [] x from e = cc
last_follows (s ∷ steps) x from e =
    let at : slice_get (s ∷ steps) (length steps) ≡ Some x = (rw at_end at (sym e)) in
    ap (λ n. nat_lt n from && nat_lt (length (s ∷ steps)) STEPS_MOST) (last-at s x steps at)
  where
    at_end : suc (length steps) - 1 ≡ length steps
    at_end = omega arith

module _ (steps : List (ℕ × ℕ)) (x : ℕ × ℕ) (from : ℕ) (e : Some x ≡ slice_get steps (length steps - 1)) where
  pub follows_true : x.0 < from → nat_lt (length steps) STEPS_MOST ≡ may_follow steps from
  follows_true less = sym (last_follows steps x from e ∙ ap (λ b. b && nat_lt (length steps) STEPS_MOST) (is_less x.0 from less))
    where
      is_less : (a b : ℕ) → a < b → nat_lt a b ≡ true
      is_less a b less = grind (arith, nat_tests)

  pub follows_false : from ≤ x.0 → nat_lt x.0 from ≡ may_follow steps from
  follows_false most = is_most x.0 from most ∙ sym (last_follows steps x from e ∙ ap (λ b. b && nat_lt (length steps) STEPS_MOST) (is_most x.0 from most))
    where
      is_most : (a b : ℕ) → b ≤ a → nat_lt a b ≡ false
      is_most a b most = grind (arith, nat_tests)
