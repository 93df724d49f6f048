-- Paths from neighbour to neighbour are paths of precedences.
use Rattle.std.proofs.Common.{◌≡◌, ◌↔◌, ℕ, ◌<◌, Bool, true, false, List, [], ◌∷◌, length, map, refl, ap, ◌∙◌, sym, arith, inl, inr, eqb, ◌&&◌, ◌||◌, Contains}
use Rattle.std.proofs.lemmas.Bool.{cases_Bool, cases_eq, cases_lt, eq-eqb, ne_eqb}
use Rattle.std.proofs.lemmas.List.{get_or_past, length-map}
use Rattle.std.proofs.lemmas.List.Elements.{All-contains}
use Rattle.live_tests.specs.declared.neighbours.Neighbours.{Neighbours}
use Rattle.live_tests.specs.Neighbours.{tests_of, after, before}
use Rattle.proof_facts.specs.Exclusions.{Leads, OnePair, PairFirst, has_pair}
use Rattle.proof_facts.specs.Marks.{is_in, next_of, LedTo, FirstStep, LastStep, AreAmong, AreAfter, AreBefore}
use Rattle.proof_facts.proofs.Paths.{joined, pair_found, pair_there}

eqb-turned : (a b : ℕ) → eqb a b ≡ eqb b a
eqb-turned a b = elim (cases_eq a b) [
  | inl same ↦ eq-eqb a b same ∙ sym (eq-eqb b a (sym same))
  | inr other ↦ ne_eqb a b other ∙ sym (ne_eqb b a (λ same. other (sym same)))
]

in_after : (i j : ℕ) (pairs : List (ℕ × ℕ)) → is_in j (after i pairs) ≡ has_pair pairs i j
in_after i j [] = refl
in_after i j (e ∷ pairs) = elim (cases_Bool (eqb i e.0)) [
  | inl yes' ↦ rw (yes', sym (eqb-turned i e.0) ∙ yes') (ap (λ b. eqb e.1 j || b) (in_after i j pairs))
  | inr no' ↦ rw (no', sym (eqb-turned i e.0) ∙ no') (in_after i j pairs)
]

in_before : (i j : ℕ) (pairs : List (ℕ × ℕ)) → is_in j (before i pairs) ≡ has_pair pairs j i
in_before i j [] = refl
in_before i j (e ∷ pairs) = elim (cases_Bool (eqb i e.1)) [
  | inl yes' ↦ rw (yes', sym (eqb-turned i e.1) ∙ yes') (ap (λ b. eqb e.0 j || b) (in_before i j pairs) ∙ with_true (eqb e.0 j) (has_pair pairs j i))
  | inr no' ↦ rw (no', sym (eqb-turned i e.1) ∙ no') (in_before i j pairs ∙ with_false (eqb e.0 j) (has_pair pairs j i))
]
  where
    with_true : (a b : Bool) → (a || b) ≡ ((a && true) || b)
    with_true true b = refl
    with_true false b = refl

    with_false : (a b : Bool) → b ≡ ((a && false) || b)
    with_false true b = refl
    with_false false b = refl

-- past the lists nothing is next
next_there : (lists : List Neighbours) (i j : ℕ) → is_in j (next_of (map tests_of lists) i) ≡ true → i < length lists
next_there lists i j h = elim (cases_lt i (length lists)) [
  | inl within ↦ within
  | inr past ↦
      let none : next_of (map tests_of lists) i ≡ [] = get_or_past (map tests_of lists) i [] (omega (arith, length-map lists tests_of)) in
      absurd (not_in j (next_of (map tests_of lists) i) none h)
]
  where
    not_in : (j : ℕ) (xs : List ℕ) → xs ≡ [] → is_in j xs ≡ true → ⊥
    not_in j [] e h = absurd cc
    not_in j (x ∷ xs) e h = absurd cc

-- ---- lists of those after each test

step_after : (pairs : List (ℕ × ℕ)) (lists : List Neighbours) → AreAfter pairs lists → (i j : ℕ) → is_in j (next_of (map tests_of lists) i) ≡ true → Contains pairs (i, j)
step_after pairs lists are i j h = pair_there pairs i j (sym (in_after i j pairs) ∙ ap (is_in j) (sym (are.lists_are i (next_there lists i j h))) ∙ h)

after_step : (pairs : List (ℕ × ℕ)) (lists : List Neighbours) → AreAfter pairs lists → (i j : ℕ) → Contains pairs (i, j) → is_in j (next_of (map tests_of lists) i) ≡ true
after_step pairs lists are i j c =
    let ends = All-contains (λ (e : ℕ × ℕ). (e.0 < length lists) × (e.1 < length lists)) pairs (i, j) are.within c in
    ap (is_in j) (are.lists_are i ends.0) ∙ in_after i j pairs ∙ pair_found pairs i j c

pub among_after : (pairs : List (ℕ × ℕ)) (lists : List Neighbours) → AreAfter pairs lists → AreAmong lists
among_after pairs lists are i j h = (All-contains (λ (e : ℕ × ℕ). (e.0 < length lists) × (e.1 < length lists)) pairs (i, j) are.within (step_after pairs lists are i j h)).1

led_front : (lists : List (List ℕ)) (i k j : ℕ) → is_in k (next_of lists i) ≡ true → LedTo lists k j → LedTo lists i j
led_front lists i k _ h (FirstStep j e) = LastStep k j (FirstStep k h) e
led_front lists i k _ h (LastStep m j led e) = LastStep m j (led_front lists i k m h led) e

leads_from : (pairs : List (ℕ × ℕ)) (lists : List Neighbours) → AreAfter pairs lists → (i j : ℕ) → LedTo (map tests_of lists) i j → Leads pairs i j
leads_from pairs lists are i _ (FirstStep j e) = OnePair i j (step_after pairs lists are i j e)
leads_from pairs lists are i _ (LastStep k j led e) = joined pairs i k j (leads_from pairs lists are i k led) (OnePair k j (step_after pairs lists are k j e))

led_from : (pairs : List (ℕ × ℕ)) (lists : List Neighbours) → AreAfter pairs lists → (i j : ℕ) → Leads pairs i j → LedTo (map tests_of lists) i j
led_from pairs lists are _ _ (OnePair i j c) = FirstStep j (after_step pairs lists are i j c)
led_from pairs lists are _ _ (PairFirst i k j c rest) = led_front (map tests_of lists) i k j (after_step pairs lists are i k c) (led_from pairs lists are k j rest)

-- ---- lists of those before each test

step_before : (pairs : List (ℕ × ℕ)) (lists : List Neighbours) → AreBefore pairs lists → (i j : ℕ) → is_in j (next_of (map tests_of lists) i) ≡ true → Contains pairs (j, i)
step_before pairs lists are i j h = pair_there pairs j i (sym (in_before i j pairs) ∙ ap (is_in j) (sym (are.lists_are i (next_there lists i j h))) ∙ h)

before_step : (pairs : List (ℕ × ℕ)) (lists : List Neighbours) → AreBefore pairs lists → (i j : ℕ) → Contains pairs (j, i) → is_in j (next_of (map tests_of lists) i) ≡ true
before_step pairs lists are i j c =
    let ends = All-contains (λ (e : ℕ × ℕ). (e.0 < length lists) × (e.1 < length lists)) pairs (j, i) are.within c in
    ap (is_in j) (are.lists_are i ends.1) ∙ in_before i j pairs ∙ pair_found pairs j i c

pub among_before : (pairs : List (ℕ × ℕ)) (lists : List Neighbours) → AreBefore pairs lists → AreAmong lists
among_before pairs lists are i j h = (All-contains (λ (e : ℕ × ℕ). (e.0 < length lists) × (e.1 < length lists)) pairs (j, i) are.within (step_before pairs lists are i j h)).0

leads_to : (pairs : List (ℕ × ℕ)) (lists : List Neighbours) → AreBefore pairs lists → (i j : ℕ) → LedTo (map tests_of lists) i j → Leads pairs j i
leads_to pairs lists are i _ (FirstStep j e) = OnePair j i (step_before pairs lists are i j e)
leads_to pairs lists are i _ (LastStep k j led e) = PairFirst j k i (step_before pairs lists are k j e) (leads_to pairs lists are i k led)

led_back : (pairs : List (ℕ × ℕ)) (lists : List Neighbours) → AreBefore pairs lists → (i j : ℕ) → Leads pairs j i → LedTo (map tests_of lists) i j
led_back pairs lists are _ _ (OnePair j i c) = FirstStep j (before_step pairs lists are i j c)
led_back pairs lists are _ _ (PairFirst j k i c rest) = LastStep k j (led_back pairs lists are i k rest) (before_step pairs lists are k j c)

-- ---- for the code

pub by_after : (pairs : List (ℕ × ℕ)) (lists : List Neighbours) (i j : ℕ) (P : Type 0) → AreAfter pairs lists → P ↔ LedTo (map tests_of lists) i j → P ↔ Leads pairs i j
by_after pairs lists i j P are same = ((λ p. leads_from pairs lists are i j (same.0 p)), λ path. same.1 (led_from pairs lists are i j path))

pub by_before : (pairs : List (ℕ × ℕ)) (lists : List Neighbours) (i j : ℕ) (P : Type 0) → AreBefore pairs lists → P ↔ LedTo (map tests_of lists) i j → P ↔ Leads pairs j i
by_before pairs lists i j P are same = ((λ p. leads_to pairs lists are i j (same.0 p)), λ path. same.1 (led_back pairs lists are i j path))
