-- Taking tests away one by one.
use Rattle.std.proofs.Common.{◌≡◌, ℕ, ◌+◌, ◌<◌, List, [], ◌∷◌, length, Bool, true, false, cond, ◌&&◌, nat_eq, refl, sym, ◌∙◌, arith, ◌⊎◌, inl, inr, zero, suc, ◌-◌, ◌≤◌, ◌++◌, get_or, take, drop, map, ◌||◌, not, Some, slice_get, ap, subst, add-one, append_assoc, length-append, slice_index_or, slice_index, slice_set, All, Contains}
use Rattle.live_tests.specs.Neighbours.{before, after, tests_of}
use Rattle.limits_text.specs.Orders.{one_if, held, Counts, is_in, holds_back, copies, IsKept, GoesOn, IsOrdered, IsTaking, AreMarked}
use Rattle.live_tests.specs.declared.neighbours.Neighbours.{Neighbours}
use Rattle.std.proofs.Math.Seq.{drop-cons}
use Rattle.std.proofs.lemmas.Grind.{common_steps, get_or-set_at}
use Rattle.std.proofs.lemmas.Bool.{cases_eq, cases_lt, eqb-true, eq-eqb, ne_eqb, or_right, or_left, cases_Bool}
use Rattle.std.proofs.lemmas.List.{get_or-map, take_more, take_all, take-append-drop, take-append-le, get_or-set_other, length-set}
use Rattle.std.proofs.lemmas.List.Elements.{All-nil, All-cons, All-head, All-tail}
use Rattle.std.proofs.lemmas.List.Folds.{list_any-append}
use Rattle.std.proofs.lemmas.Option.{slice_get-get_or, same_Some}
use Rattle.limits_text.proofs.SoundText.{push_cases}
use Rattle.indexmap.proofs.IndexTableLemmas.Probe.{pigeonhole}
use Rattle.common_lemmas.proofs.Lists.{contains_from, contains_at, in_take, from_take, take_front}
use Rattle.common_lemmas.proofs.Tests.{false_true, or_cases, or_false_right}

-- ---- pairs that are counted and listed one by one

-- what holds a test back where none is gone is what comes before it
held_none : (pairs : List (ℕ × ℕ)) (j : ℕ) → held [] pairs j ≡ length (before j pairs)
held_none [] j = refl
held_none (e ∷ pairs) j = by (nat_eq j e.1) (held_none pairs j)
  where
    by : (b : Bool) → held [] pairs j ≡ length (before j pairs) → one_if (b && true) + held [] pairs j ≡ length (cond b (e.0 ∷ before j pairs) (before j pairs))
    by true ih = omega (arith, ih)
    by false ih = omega (arith, ih)

-- where `counts` says how many come before each test, as many hold it back while no test is gone
pub counts_held : (count : ℕ) (counts : List ℕ) (pairs : List (ℕ × ℕ)) → length counts ≡ count → ((i : ℕ) → i < count → slice_index_or counts i 0 ≡ length (before i pairs)) → Counts counts (held [] pairs)
counts_held count counts pairs long are j less = are j (omega (arith, less, long)) ∙ sym (held_none pairs j)

-- ---- taking tests away one by one

-- ---- places in lists

-- what is in a list stands at a place
pub in_at : (xs : List ℕ) (x : ℕ) → is_in xs x ≡ true → (p : ℕ) × (slice_get xs p ≡ Some x)
in_at [] x e = cc
in_at (y ∷ xs) x e = elim (or_cases (nat_eq x y) (is_in xs x) e) [
  | inl f ↦ (0, ap Some (sym (eqb-true x y f)))
  | inr f ↦ let k = in_at xs x f in (suc k.0, k.1)
]

pub at_in : (xs : List ℕ) (p x : ℕ) → slice_get xs p ≡ Some x → is_in xs x ≡ true
at_in [] p x e = cc
at_in (y ∷ xs) zero x e = or_left (nat_eq x y) (is_in xs x) (eq-eqb x y (sym (same_Some y x e)))
at_in (y ∷ xs) (suc p) x e = or_right (nat_eq x y) (is_in xs x) (at_in xs p x e)

pub in_append : (xs ys : List ℕ) (x : ℕ) → is_in xs x ≡ true → is_in (xs ++ ys) x ≡ true
in_append xs ys x e = list_any-append (nat_eq x) xs ys ∙ or_left (is_in xs x) (is_in ys x) e

module _ (xs : List ℕ) (k : ℕ) where
  -- what is among the first places stands at one of them
  pub in_take_at : (x : ℕ) → is_in (take k xs) x ≡ true → (p : ℕ) × (p < k) × (slice_get xs p ≡ Some x)
  in_take_at x e =
      let a = in_at (take k xs) x e in
      let b = from_take xs k a.0 x a.1 in
      (a.0, b.0, b.1)

  pub at_in_take : (p x : ℕ) → p < k → slice_get xs p ≡ Some x → is_in (take k xs) x ≡ true
  at_in_take p x less e = at_in (take k xs) p x (in_take xs k p x less e)

pub false_from : (b : Bool) → (b ≡ true → ⊥) → b ≡ false
false_from true e = absurd (e refl)
false_from false e = refl

-- different numbers below `count` are no more than it
pub few : (order : List ℕ) (count : ℕ) → ((p j : ℕ) → slice_get order p ≡ Some j → j < count) → ((p q j : ℕ) → slice_get order p ≡ Some j → slice_get order q ≡ Some j → p ≡ q) → length order ≤ count
few order count within once =
    pigeonhole (length order) count (λ p. get_or order p 0)
    (λ p less. within p (get_or order p 0) (slice_get-get_or order p 0 less))
    (λ p q less below same. once p q (get_or order p 0) (slice_get-get_or order p 0 less) (slice_get-get_or order q 0 below ∙ ap Some (sym same)))

-- ---- lists that go on

module _ (xs : List ℕ) where
  pub goes_itself : GoesOn xs xs
  goes_itself = grind (arith, common_steps)

  pub goes_push : (x : ℕ) → GoesOn xs (xs ++ x ∷ [])
  goes_push x = grind (arith, common_steps)

  goes_parts : (ys : List ℕ) → GoesOn xs ys → ys ≡ xs ++ drop (length xs) ys
  goes_parts ys e = sym (take-append-drop (length xs) ys) ∙ ap (λ l. l ++ drop (length xs) ys) e

module _ (xs ys : List ℕ) where
  pub goes_then : (zs : List ℕ) → GoesOn xs ys → GoesOn ys zs → GoesOn xs zs
  goes_then zs e f =
      let whole : zs ≡ xs ++ (drop (length xs) ys ++ drop (length ys) zs) = goes_parts ys zs f ∙ ap (λ l. l ++ drop (length ys) zs) (goes_parts xs ys e) ∙ append_assoc xs (drop (length xs) ys) (drop (length ys) zs) in
      ap (take (length xs)) whole ∙ take_front xs (drop (length xs) ys ++ drop (length ys) zs)

  pub goes_long : GoesOn xs ys → length xs ≤ length ys
  goes_long e = omega (arith, ap length (goes_parts xs ys e), length-append xs (drop (length xs) ys))

  goes_take : (k : ℕ) → GoesOn xs ys → k ≤ length xs → take k ys ≡ take k xs
  goes_take k e small = ap (take k) (goes_parts xs ys e) ∙ take-append-le k xs (drop (length xs) ys) small

-- ---- one test less held back

abbrev pub EachAt : List ℕ → (ℕ → Type 0) → Type 0
EachAt xs P = (p j : ℕ) → slice_get xs p ≡ Some j → P j

abbrev pub Once : List ℕ → Type 0
Once xs = (p q j : ℕ) → slice_get xs p ≡ Some j → slice_get xs q ≡ Some j → p ≡ q

module _ (xs : List ℕ) (x : ℕ) where
  pub each_push : (P : ℕ → Type 0) → EachAt xs P → P x → EachAt (xs ++ x ∷ []) P
  each_push P all here p j at = elim (push_cases xs x j p at) [
    | inl e ↦ all p j e
    | inr e ↦ subst P e.1 here
  ]

  -- a test that is not in a list differs from those that are
  differs : (p j : ℕ) → is_in xs x ≡ false → slice_get xs p ≡ Some j → j ≡ x → ⊥
  differs p j fresh at same = false_true (is_in xs x) fresh (at_in xs p x (at ∙ ap Some same))

  pub once_push : is_in xs x ≡ false → Once xs → Once (xs ++ x ∷ [])
  once_push fresh once p q j at there = by (push_cases xs x j p at) (push_cases xs x j q there)
    where
      by : (slice_get xs p ≡ Some j) ⊎ ((p ≡ length xs) × (x ≡ j)) → (slice_get xs q ≡ Some j) ⊎ ((q ≡ length xs) × (x ≡ j)) → p ≡ q
      by (inl e) (inl f) = once p q j e f
      by (inl e) (inr f) = absurd (differs p j fresh e (sym f.1))
      by (inr e) (inl f) = absurd (differs q j fresh f (sym e.1))
      by (inr e) (inr f) = e.0 ∙ sym f.0

  in_push : (j : ℕ) → j ≡ x → is_in (xs ++ x ∷ []) j ≡ true
  in_push j same = list_any-append (nat_eq j) xs (x ∷ []) ∙ or_right (is_in xs j) (nat_eq j x || false) (or_left (nat_eq j x) false (eq-eqb j x same))

module _ (counts : List ℕ) (upto : ℕ) (order : List ℕ) where
  -- one more test is taken
  pub kept_push : (new : List ℕ) (test : ℕ) → test < upto → slice_index new test ≡ 0 → is_in order test ≡ false
      → ((j : ℕ) → (j ≡ test → ⊥) → slice_index new j ≡ slice_index counts j) → IsKept counts upto order → IsKept new upto (order ++ test ∷ [])
  kept_push new test small zero_is fresh others k = record {
    zero_taken = λ j less e. zero_taken j less e (cases_eq j test);
    within = each_push order test (λ j. j < upto) k.within small;
    taken_zero = each_push order test (λ j. slice_index new j ≡ 0) (λ p j at. others j (differs order test p j fresh at) ∙ k.taken_zero p j at) zero_is;
    once = once_push order test fresh k.once;
  }
    where
      zero_taken : (j : ℕ) → j < upto → slice_index new j ≡ 0 → (j ≡ test) ⊎ (j ≡ test → ⊥) → is_in (order ++ test ∷ []) j ≡ true
      zero_taken j less e (inl same) = in_push order test j same
      zero_taken j less e (inr apart) = in_append order (test ∷ []) j (k.zero_taken j less (sym (others j apart) ∙ e))

  -- a test that is held back is not taken
  pub held_fresh : (test : ℕ) → 1 ≤ slice_index counts test → IsKept counts upto order → is_in order test ≡ false
  held_fresh test some k = false_from (is_in order test) (λ e. (let a = in_at order test e in let z = k.taken_zero a.0 test a.1 in absurd (omega (arith, some, z))))

  -- a test stays held back
  pub kept_still : (new : List ℕ) (test : ℕ) → (slice_index new test ≡ 0 → ⊥) → is_in order test ≡ false
      → ((j : ℕ) → (j ≡ test → ⊥) → slice_index new j ≡ slice_index counts j) → IsKept counts upto order → IsKept new upto order
  kept_still new test some fresh others k = record {
    zero_taken = λ j less e. zero_taken j less e (cases_eq j test);
    within = k.within;
    taken_zero = λ p j at. others j (differs order test p j fresh at) ∙ k.taken_zero p j at;
    once = k.once;
  }
    where
      zero_taken : (j : ℕ) → j < upto → slice_index new j ≡ 0 → (j ≡ test) ⊎ (j ≡ test → ⊥) → is_in order j ≡ true
      zero_taken j less e (inl same) = absurd (some (ap (slice_index new) (sym same) ∙ e))
      zero_taken j less e (inr apart) = k.zero_taken j less (sym (others j apart) ∙ e)

-- what is written of a count
pub record IsWritten (counts : List ℕ) (test left : ℕ) (new : List ℕ) : Type 0 where
  pub here : slice_index new test ≡ left
  pub others : (j : ℕ) → (j ≡ test → ⊥) → slice_index new j ≡ slice_index counts j

pub written : (counts : List ℕ) (test left : ℕ) → test < length counts → IsWritten counts test left (slice_set counts test left)
written counts test left within = record { here = get_or-set_at counts test test left 0 refl within; others = λ j apart. get_or-set_other counts test j left 0 apart }

pub let_go_kept : (counts : List ℕ) (upto : ℕ) (order new : List ℕ) (test left : ℕ) → test < length counts → test < upto → 1 ≤ slice_index counts test → (left ≡ 0 → new ≡ order ++ test ∷ []) → ((left ≡ 0 → ⊥) → new ≡ order) → IsKept counts upto order → IsKept (slice_set counts test left) upto new
let_go_kept counts upto order new test left within small some taken still k = elim (cases_eq left 0) [
  | inl e ↦ subst (IsKept (slice_set counts test left) upto) (sym (taken e)) (kept_push counts upto order (slice_set counts test left) test small (w.here ∙ e) fresh w.others k)
  | inr e ↦ subst (IsKept (slice_set counts test left) upto) (sym (still e)) (kept_still counts upto order (slice_set counts test left) test (λ z. e (sym w.here ∙ z)) fresh w.others k)
]
  where
    w : IsWritten counts test left (slice_set counts test left)
    w = written counts test left within

    fresh : is_in order test ≡ false
    fresh = held_fresh counts upto order test some k

pub let_go_on : (order new : List ℕ) (test left : ℕ) → (left ≡ 0 → new ≡ order ++ test ∷ []) → ((left ≡ 0 → ⊥) → new ≡ order) → GoesOn order new
let_go_on order new test left taken still = elim (cases_eq left 0) [
  | inl e ↦ subst (GoesOn order) (sym (taken e)) (goes_push order test)
  | inr e ↦ subst (GoesOn order) (sym (still e)) (goes_itself order)
]

-- ---- at the start

pub none_kept : (counts : List ℕ) → IsKept counts 0 []
none_kept counts = record {
  zero_taken = λ j less e. absurd (omega (arith, less));
  within = λ p j at. absurd (none p j at);
  taken_zero = λ p j at. absurd (none p j at);
  once = λ p q j at there. absurd (none p j at);
}
  where
    none : (p j : ℕ) → slice_get {X = ℕ} [] p ≡ Some j → ⊥
    none p j at = cc

-- one more test is looked at
pub kept_more : (counts : List ℕ) (i left : ℕ) (order new : List ℕ) → left ≡ slice_index counts i → (left ≡ 0 → new ≡ order ++ i ∷ []) → ((left ≡ 0 → ⊥) → new ≡ order) → IsKept counts i order → IsKept counts (i + 1) new
kept_more counts i left order new is taken still k = elim (cases_eq left 0) [
  | inl e ↦ subst (IsKept counts (i + 1)) (sym (taken e)) (pushed e)
  | inr e ↦ subst (IsKept counts (i + 1)) (sym (still e)) (wider e)
]
  where
    fresh : is_in order i ≡ false
    fresh = false_from (is_in order i) (λ e. (let a = in_at order i e in absurd (omega (arith, k.within a.0 i a.1))))

    wider : (left ≡ 0 → ⊥) → IsKept counts (i + 1) order
    wider some = record {
      zero_taken = λ j less e. zero_taken j less e (cases_eq j i);
      within = λ p j at. omega (arith, k.within p j at);
      taken_zero = k.taken_zero;
      once = k.once;
    }
      where
        zero_taken : (j : ℕ) → j < i + 1 → slice_index counts j ≡ 0 → (j ≡ i) ⊎ (j ≡ i → ⊥) → is_in order j ≡ true
        zero_taken j less e (inl same) = absurd (some (is ∙ ap (slice_index counts) (sym same) ∙ e))
        zero_taken j less e (inr apart) = k.zero_taken j (omega (arith, less, apart)) e

    pushed : left ≡ 0 → IsKept counts (i + 1) (order ++ i ∷ [])
    pushed e = record {
      zero_taken = λ j less f. zero_taken j less f (cases_eq j i);
      within = each_push order i (λ j. j < i + 1) (λ p j at. omega (arith, k.within p j at)) (omega arith);
      taken_zero = each_push order i (λ j. slice_index counts j ≡ 0) k.taken_zero (sym is ∙ e);
      once = once_push order i fresh k.once;
    }
      where
        zero_taken : (j : ℕ) → j < i + 1 → slice_index counts j ≡ 0 → (j ≡ i) ⊎ (j ≡ i → ⊥) → is_in (order ++ i ∷ []) j ≡ true
        zero_taken j less f (inl same) = in_push order i j same
        zero_taken j less f (inr apart) = in_append order (i ∷ []) j (k.zero_taken j (omega (arith, less, apart)) f)

-- ---- a whole step: all tests after one are held back once less

module _ (gone : List ℕ) where
  -- what holds a test back, before and after one more is gone
  pub held_gone : (i : ℕ) (pairs : List (ℕ × ℕ)) (j : ℕ) → is_in gone i ≡ false → held gone pairs j ≡ held (gone ++ i ∷ []) pairs j + copies (after i pairs) j
  held_gone i [] j fresh = omega arith
  held_gone i (e ∷ pairs) j fresh = by (cases_eq i e.0) (held_gone i pairs j fresh)
    where
      by : (i ≡ e.0) ⊎ (i ≡ e.0 → ⊥) → held gone pairs j ≡ held (gone ++ i ∷ []) pairs j + copies (after i pairs) j → held gone (e ∷ pairs) j ≡ held (gone ++ i ∷ []) (e ∷ pairs) j + copies (after i (e ∷ pairs)) j
      by (inl same) again =
          let was : is_in gone e.0 ≡ false = ap (is_in gone) (sym same) ∙ fresh in
          let now : is_in (gone ++ i ∷ []) e.0 ≡ true = in_push gone i e.0 (sym same) in
          rw (was, now, eq-eqb i e.0 same) (here (nat_eq j e.1) (held gone pairs j) (held (gone ++ i ∷ []) pairs j) (copies (after i pairs) j) again)
        where
          here : (b : Bool) (x y z : ℕ) → x ≡ y + z → one_if (b && true) + x ≡ (one_if (b && false) + y) + (one_if b + z)
          here true x y z e = omega arith
          here false x y z e = omega arith
      by (inr apart) again =
          let same : is_in (gone ++ i ∷ []) e.0 ≡ is_in gone e.0 = list_any-append (nat_eq e.0) gone (i ∷ []) ∙ ap (λ b. is_in gone e.0 || (b || false)) (ne_eqb e.0 i (λ f. apart (sym f))) ∙ or_false_right (is_in gone e.0) in
          rw (same, ne_eqb i e.0 apart) (omega (arith, again))

  -- what holds nothing back is gone
  pub all_gone : (pairs : List (ℕ × ℕ)) (i j p : ℕ) → held gone pairs j ≡ 0 → slice_get pairs p ≡ Some (i, j) → is_in gone i ≡ true
  all_gone [] i j p none at = cc
  all_gone (e ∷ pairs) i j zero none at =
      let same : e ≡ (i, j) = same_Some e (i, j) at in
      let back : one_if (holds_back gone j e) ≡ 0 = omega (arith, none) in
      yes' (is_in gone i) (nat_eq j j) (eq-eqb j j refl) (subst (λ (x : ℕ × ℕ). one_if (holds_back gone j x) ≡ 0) same back)
    where
      yes' : (b c : Bool) → c ≡ true → one_if (c && not b) ≡ 0 → b ≡ true
      yes' true c e f = refl
      yes' false true e f = absurd (omega (arith, f))
      yes' false false e f = cc
  all_gone (e ∷ pairs) i j (suc p) none at = all_gone pairs i j p (omega (arith, none)) at

  -- what is held back is so by a test that is not gone
  pub some_left : (pairs : List (ℕ × ℕ)) (j : ℕ) → (held gone pairs j ≡ 0 → ⊥) → (i p : ℕ) × (slice_get pairs p ≡ Some (i, j)) × (is_in gone i ≡ false)
  some_left [] j some = absurd (some refl)
  some_left (e ∷ pairs) j some = elim (cases_Bool (holds_back gone j e)) [
    | inl is ↦
        let k = parts (nat_eq j e.1) (is_in gone e.0) is in
        (e.0, 0, ap (λ n. Some (e.0, n)) (sym (eqb-true j e.1 k.0)), k.1)
    | inr is ↦
        let k = some_left pairs j (λ z. some (rw is (omega (arith, z)))) in
        (k.0, suc k.1, k.2, k.3)
  ]
    where
      parts : (b c : Bool) → (b && not c) ≡ true → (b ≡ true) × (c ≡ false)
      parts true true e = cc
      parts true false e = (refl, refl)
      parts false c e = cc

pub record IsUnderWay (pairs : List (ℕ × ℕ)) (count : ℕ) (counts order : List ℕ) (done : ℕ) : Type 0 where
  pub long : length counts ≡ count
  pub kept : IsKept counts count order
  pub upto : done ≤ length order
  pub counts_are : Counts counts (held (take done order) pairs)
  pub ordered : IsOrdered pairs order

pub starts : (pairs : List (ℕ × ℕ)) (count : ℕ) (counts order : List ℕ) → length counts ≡ count → Counts counts (held [] pairs) → IsKept counts (length counts) order → IsUnderWay pairs count counts order 0
starts pairs count counts order long are k = record {
  long = long;
  kept = subst (λ n. IsKept counts n order) long k;
  upto = omega arith;
  counts_are = are;
  ordered = λ p i j at c. absurd (no p i j at (contains_at pairs (i, j) c));
}
  where
    no : (p i j : ℕ) → slice_get order p ≡ Some j → (q : ℕ) × (slice_get pairs q ≡ Some (i, j)) → ⊥
    no p i j at c =
        let none : held [] pairs j ≡ 0 = sym (are j (k.within p j at)) ∙ k.taken_zero p j at in
        false_true (is_in [] i) refl (all_gone [] pairs i j c.0 none c.1)

-- what holds of a step
pub record IsStep (count : ℕ) (counts order new next tests : List ℕ) : Type 0 where
  pub long : length new ≡ length counts
  pub counts_are : (j : ℕ) → j < length counts → slice_index new j + copies tests j ≡ slice_index counts j
  pub kept : IsKept new (length counts) next
  pub goes_on : GoesOn order next

module _ {pairs : List (ℕ × ℕ)} {count : ℕ} {counts order : List ℕ} {done : ℕ} (u : IsUnderWay pairs count counts order done)
    {test : ℕ} (less : done < length order) (is : test ≡ get_or order done test) where
  -- the test that is taken up was not taken up before
  taken_once : is_in (take done order) test ≡ false
  taken_once = false_from (is_in (take done order) test)
      (λ e. (let a = in_take_at order done test e in let same : a.0 ≡ done = u.kept.once a.0 done test a.2 (slice_get-get_or order done test less ∙ ap Some (sym is)) in absurd (omega (arith, a.1, same))))

  next_front : take (done + 1) order ≡ take done order ++ test ∷ []
  next_front = take_more order done test less ∙ ap (λ n. take done order ++ n ∷ []) (sym is)

  -- what was held back, in two parts
  step_parts : (j : ℕ) → j < count → slice_index counts j ≡ held (take (done + 1) order) pairs j + copies (after test pairs) j
  step_parts j small =
      u.counts_are j (omega (arith, small, u.long)) ∙ held_gone (take done order) test pairs j taken_once
      ∙ ap (λ l. held l pairs j + copies (after test pairs) j) (sym next_front)

  -- the tests after it are no more often among them than their counts say
  pub enough_held : (j : ℕ) → j < length counts → copies (after test pairs) j ≤ slice_index counts j
  enough_held j small = omega (arith, step_parts j (omega (arith, small, u.long)))

  pub test_small : test < count
  test_small = u.kept.within done test (slice_get-get_or order done test less ∙ ap Some (sym is))

  pub goes_step : {new next : List ℕ} → IsStep count counts order new next (after test pairs) → IsUnderWay pairs count new next (done + 1)
  goes_step {new} {next} s = record {
    long = s.long ∙ u.long;
    kept = kept;
    upto = omega (arith, less, goes_long order next s.goes_on);
    counts_are = λ j small. counts_are j (omega (arith, small, s.long, u.long));
    ordered = λ p i j at c. ordered p i j at (contains_at pairs (i, j) c) c;
  }
    where
      kept : IsKept new count next
      kept = subst (λ n. IsKept new n next) u.long s.kept

      front : take (done + 1) next ≡ take (done + 1) order
      front = goes_take order next (done + 1) s.goes_on (omega (arith, less))

      counts_are : (j : ℕ) → j < count → slice_index new j ≡ held (take (done + 1) next) pairs j
      counts_are j small =
          let parts = step_parts j small in
          let sum = s.counts_are j (omega (arith, small, u.long)) in
          let here : slice_index new j ≡ held (take (done + 1) order) pairs j = omega (arith, parts, sum) in
          here ∙ ap (λ l. held l pairs j) (sym front)

      ordered : (p i j : ℕ) → slice_get next p ≡ Some j → (q : ℕ) × (slice_get pairs q ≡ Some (i, j)) → Contains pairs (i, j) → is_in (take p next) i ≡ true
      ordered p i j at c has = elim (cases_lt p (length order)) [
        | inl below ↦
            let was : slice_get order p ≡ Some j = ap (λ l. slice_get l p) (sym s.goes_on) ∙ in_take next (length order) p j below at in
            ap (λ l. is_in l i) (goes_take order next p s.goes_on (omega (arith, below))) ∙ u.ordered p i j was has
        | inr past ↦
            let none : held (take (done + 1) next) pairs j ≡ 0 = sym (counts_are j (kept.within p j at)) ∙ kept.taken_zero p j at in
            let a = in_take_at next (done + 1) i (all_gone (take (done + 1) next) pairs i j c.0 none c.1) in
            at_in_take next p a.0 i (omega (arith, a.1, less, past)) a.2
      ]

module _ {pairs : List (ℕ × ℕ)} {count : ℕ} {counts order : List ℕ} {done : ℕ} (u : IsUnderWay pairs count counts order done) where
  -- nothing more can be taken
  pub all_taken : length order ≤ done → IsTaking pairs count order
  all_taken past = record { ordered = u.ordered; within = u.kept.within; stuck = stuck }
    where
      stuck : (j : ℕ) → j < count → is_in order j ≡ false → (i : ℕ) × Contains pairs (i, j) × (is_in order i ≡ false)
      stuck j small fresh =
          let are : slice_index counts j ≡ held order pairs j = u.counts_are j (omega (arith, small, u.long)) ∙ ap (λ l. held l pairs j) (take_all done order past) in
          let k = some_left order pairs j (λ z. false_true (is_in order j) fresh (u.kept.zero_taken j small (are ∙ z))) in
          (k.0, contains_from pairs (k.0, j) k.1 k.2, k.3)

  -- at most `count` tests are taken
  pub few_taken : length order ≤ count
  few_taken = few order count u.kept.within u.kept.once

-- ---- what is released

front_copies : (tests : List ℕ) (k j : ℕ) → k < length tests → copies (drop k tests) j ≡ one_if (nat_eq j (get_or tests k 0)) + copies (drop (k + 1) tests) j
front_copies tests k j less = ap (λ l. copies l j) (drop-cons tests k 0 less) ∙ ap (λ n. one_if (nat_eq j (get_or tests k 0)) + copies (drop n tests) j) (sym (add-one k))

-- counts that are released as far as the k-th test
abbrev pub AreReleased : List ℕ → List ℕ → List ℕ → ℕ → Type 0
AreReleased initial counts tests k = (j : ℕ) → j < length initial → slice_index counts j + copies tests j ≡ slice_index initial j + copies (drop k tests) j

module _ (initial counts : List ℕ) where
  pub released_some : (tests : List ℕ) (k : ℕ) → AreReleased initial counts tests k → k < length tests → get_or tests k 0 < length initial
      → ((j : ℕ) → j < length initial → copies tests j ≤ slice_index initial j) → 1 ≤ slice_index counts (get_or tests k 0)
  released_some tests k are less small enough =
      let test = get_or tests k 0 in
      let sum = are test small in
      let most = enough test small in
      let front : copies (drop k tests) test ≡ 1 + copies (drop (k + 1) tests) test = front_copies tests k test less ∙ ap (λ b. one_if b + copies (drop (k + 1) tests) test) (eq-eqb test test refl) in
      omega (arith, sum, most, front)

  pub released_more : (new tests : List ℕ) (k : ℕ) → AreReleased initial counts tests k → length counts ≡ length initial → k < length tests
      → get_or tests k 0 < length initial → ((j : ℕ) → j < length initial → copies tests j ≤ slice_index initial j)
      → new ≡ slice_set counts (get_or tests k 0) (slice_index counts (get_or tests k 0) - 1) → AreReleased initial new tests (k + 1)
  released_more new tests k are long less small enough is j below = elim (cases_eq j test) [
    | inl same ↦
        let some : 1 ≤ slice_index counts test = released_some tests k are less small enough in
        let here : slice_index new j ≡ slice_index counts test - 1 = ap (λ l. slice_index l j) is ∙ ap (slice_index (slice_set counts test (slice_index counts test - 1))) same ∙ w.here in
        let was : slice_index counts j ≡ slice_index counts test = ap (slice_index counts) same in
        let front : copies (drop k tests) j ≡ 1 + copies (drop (k + 1) tests) j = front_copies tests k j less ∙ ap (λ b. one_if b + copies (drop (k + 1) tests) j) (eq-eqb j test same) in
        let sum = are j below in
        omega (arith, here, some, was, front, sum)
    | inr apart ↦
        let here : slice_index new j ≡ slice_index counts j = ap (λ l. slice_index l j) is ∙ w.others j apart in
        let front : copies (drop k tests) j ≡ 0 + copies (drop (k + 1) tests) j = front_copies tests k j less ∙ ap (λ b. one_if b + copies (drop (k + 1) tests) j) (ne_eqb j test apart) in
        let sum = are j below in
        omega (arith, here, front, sum)
  ]
    where
      test : ℕ
      test = get_or tests k 0

      w : IsWritten counts test (slice_index counts test - 1) (slice_set counts test (slice_index counts test - 1))
      w = written counts test (slice_index counts test - 1) (omega (arith, small, long))

pub after_within : (count i : ℕ) (pairs : List (ℕ × ℕ)) → All (λ (e : ℕ × ℕ). (e.0 < count) × (e.1 < count)) pairs → All (λ j. j < count) (after i pairs)
after_within count i [] all = All-nil (λ j. j < count)
after_within count i (e ∷ pairs) all = by (nat_eq i e.0) (All-head (λ (e : ℕ × ℕ). (e.0 < count) × (e.1 < count)) e pairs all).1 (after_within count i pairs (All-tail (λ (e : ℕ × ℕ). (e.0 < count) × (e.1 < count)) e pairs all))
  where
    by : (b : Bool) → e.1 < count → All (λ j. j < count) (after i pairs) → All (λ j. j < count) (cond b (e.1 ∷ after i pairs) (after i pairs))
    by true here again = All-cons (λ j. j < count) e.1 (after i pairs) here again
    by false here again = again

-- the list of a test has the tests after it
pub listed : (lists : List Neighbours) (pairs : List (ℕ × ℕ)) (count test : ℕ) (here : Neighbours) (tests : List ℕ) → length lists ≡ count → ((i : ℕ) → i < count → slice_index_or (map tests_of lists) i [] ≡ after i pairs) → test < count → here ≡ get_or lists test here → tests ≡ tests_of here → tests ≡ after test pairs
listed lists pairs count test here tests long are small is same =
    same ∙ ap tests_of is ∙ sym (get_or-map tests_of lists test here [] (omega (arith, small, long))) ∙ are test small

-- ---- marks

-- one test more of an order is marked
pub marked_more : (gone : List Bool) (order : List ℕ) (i count : ℕ) → i < length order → (length gone ≡ count) × AreMarked gone (take i order)
    → (length (slice_set gone (get_or order i 0) true) ≡ count) × AreMarked (slice_set gone (get_or order i 0) true) (take (i + 1) order)
marked_more gone order i count within before = (length-set gone test true ∙ before.0, λ k less. by k (omega (arith, less, length-set gone test true)) (cases_eq k test))
  where
    test : ℕ
    test = get_or order i 0

    more : (k : ℕ) → is_in (take (i + 1) order) k ≡ (is_in (take i order) k || (nat_eq k test || false))
    more k = ap (λ l. is_in l k) (take_more order i 0 within) ∙ list_any-append (nat_eq k) (take i order) (test ∷ [])

    by : (k : ℕ) → k < length gone → (k ≡ test) ⊎ (k ≡ test → ⊥) → slice_index_or (slice_set gone test true) k false ≡ is_in (take (i + 1) order) k
    by k less (inl same) =
        get_or-set_at gone test k true false same (omega (arith, less, same))
        ∙ sym (more k ∙ or_right (is_in (take i order) k) (nat_eq k test || false) (or_left (nat_eq k test) false (eq-eqb k test same)))
    by k less (inr apart) =
        get_or-set_other gone test k true false apart ∙ before.1 k less
        ∙ sym (more k ∙ ap (λ b. is_in (take i order) k || (b || false)) (ne_eqb k test apart) ∙ or_false_right (is_in (take i order) k))
