-- Tests that are marked one by one.
use Rattle.std.proofs.Common.{◌≡◌, ℕ, ◌+◌, ◌<◌, Bool, true, false, List, [], ◌∷◌, ◌++◌, length, get_or, set, take, refl, ap, ◌∙◌, sym, arith, inl, inr, ◌⊎◌, eqb, ◌||◌, if◌then◌else◌}
use Rattle.std.proofs.lemmas.Bool.{cases_eq, or_cases, or_left, or_right, eqb-true, eq-eqb}
use Rattle.std.proofs.lemmas.List.{take_more, length-set, length_push, get_or-set_same, get_or-set_other}
use Rattle.std.proofs.lemmas.List.Sums.{sum_by-set}
use Rattle.std.proofs.lemmas.Option.{slice_get-get_or}
use Rattle.plan_model.proofs.Lists.{any_from}
use Rattle.proof_facts.specs.Marks.{is_marked, is_in, unmarked, AreMarked}

is_in-push : (j x : ℕ) (xs : List ℕ) → is_in j (xs ++ x ∷ []) ≡ (is_in j xs || eqb x j)
is_in-push j x [] = go (eqb x j)
  where
    go : (b : Bool) → (b || false) ≡ b
    go true = refl
    go false = refl
is_in-push j x (y ∷ ys) = ap (λ b. eqb y j || b) (is_in-push j x ys) ∙ go (eqb y j) (is_in j ys) (eqb x j)
  where
    go : (a b c : Bool) → (a || (b || c)) ≡ ((a || b) || c)
    go true b c = refl
    go false b c = refl

pub pushed_in : (j x : ℕ) (xs : List ℕ) → is_in j xs ≡ true → is_in j (xs ++ x ∷ []) ≡ true
pushed_in j x xs h = is_in-push j x xs ∙ or_left (is_in j xs) (eqb x j) h

pub last_in : (x : ℕ) (xs : List ℕ) → is_in x (xs ++ x ∷ []) ≡ true
last_in x xs = is_in-push x x xs ∙ or_right (is_in x xs) (eqb x x) (eq-eqb x x refl)

pub in_pushed : (j x : ℕ) (xs : List ℕ) → is_in j (xs ++ x ∷ []) ≡ true → (is_in j xs ≡ true) ⊎ (j ≡ x)
in_pushed j x xs h = elim (or_cases (is_in j xs) (eqb x j) (sym (is_in-push j x xs) ∙ h)) [
  | inl a ↦ inl a
  | inr b ↦ inr (sym (eqb-true x j b))
]

pub in_at : (tests : List ℕ) (i d : ℕ) → i < length tests → is_in (get_or tests i d) tests ≡ true
in_at tests i d within = any_from (λ t. eqb t (get_or tests i d)) tests i (get_or tests i d) (slice_get-get_or tests i d within) (eq-eqb (get_or tests i d) (get_or tests i d) refl)

-- ---- one more test of the list

longer : (tests : List ℕ) (i x : ℕ) → i < length tests → get_or tests i 0 ≡ x → take (i + 1) tests ≡ take i tests ++ x ∷ []
longer tests i x within at = take_more tests i 0 within ∙ ap (λ v. take i tests ++ v ∷ []) at

pub was_marked : (tests : List ℕ) (i x : ℕ) (old new : List Bool) (stack rest : List ℕ) → i < length tests → get_or tests i 0 ≡ x → is_marked new x ≡ true → AreMarked (take i tests) old new stack rest → AreMarked (take (i + 1) tests) old new stack rest
was_marked tests i x old new stack rest within at there so_far = rw (longer tests i x within at) (record {
  long = so_far.long;
  all = λ j h. elim (in_pushed j x (take i tests) h) [
    | inl earlier ↦ so_far.all j earlier
    | inr same ↦ rw same there
  ];
  kept = so_far.kept;
  only = λ j h. elim (so_far.only j h) [ inl a ↦ inl a | inr b ↦ inr (pushed_in j x (take i tests) b) ];
  stacked = so_far.stacked;
  still = so_far.still;
  from = λ j h. elim (so_far.from j h) [ inl a ↦ inl a | inr b ↦ inr (pushed_in j x (take i tests) b) ];
  fewer = so_far.fewer;
})

set-marked : (marks : List Bool) (x j : ℕ) → x < length marks → is_marked (set marks x true) j ≡ true → (j ≡ x) ⊎ (is_marked marks j ≡ true)
set-marked marks x j within h = elim (cases_eq j x) [
  | inl same ↦ inl same
  | inr other ↦ inr (sym (get_or-set_other marks x j true false other) ∙ h)
]

set-kept : (marks : List Bool) (x j : ℕ) → x < length marks → is_marked marks j ≡ true → is_marked (set marks x true) j ≡ true
set-kept marks x j within h = elim (cases_eq j x) [
  | inl same ↦ rw same (get_or-set_same marks x true false within)
  | inr other ↦ get_or-set_other marks x j true false other ∙ h
]

set-here : (marks : List Bool) (x : ℕ) → x < length marks → is_marked (set marks x true) x ≡ true
set-here marks x within = get_or-set_same marks x true false within

abbrev one_unless : Bool → ℕ
one_unless b = if b then 0 else 1

unmarked-set : (marks : List Bool) (x : ℕ) → x < length marks → is_marked marks x ≡ false → unmarked (set marks x true) + 1 ≡ unmarked marks
unmarked-set marks x within no' =
    let split : unmarked (set marks x true) + one_unless (get_or marks x false) ≡ unmarked marks + one_unless true = sum_by-set one_unless marks x true false within in
    let one : one_unless (get_or marks x false) ≡ 1 = ap one_unless no' in
    omega arith

pub is_put : (tests : List ℕ) (i x : ℕ) (old new : List Bool) (stack rest : List ℕ) → i < length tests → get_or tests i 0 ≡ x → x < length new → is_marked new x ≡ false → AreMarked (take i tests) old new stack rest →
    AreMarked (take (i + 1) tests) old (set new x true) stack (rest ++ x ∷ [])
is_put tests i x old new stack rest within at inside free so_far = rw (longer tests i x within at) (record {
  long = length-set new x true ∙ so_far.long;
  all = λ j h. elim (in_pushed j x (take i tests) h) [
    | inl earlier ↦ set-kept new x j inside (so_far.all j earlier)
    | inr same ↦ rw same (set-here new x inside)
  ];
  kept = λ j h. set-kept new x j inside (so_far.kept j h);
  only = λ j h. elim (set-marked new x j inside h) [
    | inl same ↦ inr (rw same (last_in x (take i tests)))
    | inr there ↦ elim (so_far.only j there) [ inl a ↦ inl a | inr b ↦ inr (pushed_in j x (take i tests) b) ]
  ];
  stacked = λ j h. elim (set-marked new x j inside h) [
    | inl same ↦ inr (rw same (last_in x rest))
    | inr there ↦ elim (so_far.stacked j there) [ inl a ↦ inl a | inr b ↦ inr (pushed_in j x rest b) ]
  ];
  still = λ j h. pushed_in j x rest (so_far.still j h);
  from = λ j h. elim (in_pushed j x rest h) [
    | inl there ↦ elim (so_far.from j there) [ inl a ↦ inl a | inr b ↦ inr (pushed_in j x (take i tests) b) ]
    | inr same ↦ inr (rw same (last_in x (take i tests)))
  ];
  fewer = omega (arith, so_far.fewer, length_push rest x, unmarked-set new x inside free);
})
