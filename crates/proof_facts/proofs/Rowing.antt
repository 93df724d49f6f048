-- The row of a test: its marks are made place by place, and are what the definition says.
use Rattle.std.proofs.Common.{◌≡◌, ◌↔◌, ℕ, zero, suc, ◌+◌, ◌≤◌, ◌<◌, Bool, true, false, Option, Some, None, List, [], ◌∷◌, length, map, take, drop, ◌++◌, set, refl, sym, ap, ◌∙◌, arith, inl, inr, option_map, slice_get, nat_eq, not, ◌&&◌, ◌||◌, All}
use Rattle.std.proofs.lemmas.Grind.{common_steps}
use Rattle.std.proofs.lemmas.Bool.{cases_eq, cases_lt}
use Rattle.std.proofs.lemmas.List.{length-set, length-map, get_or-set_same, get_or-set_other, get_or_past}
use Rattle.std.proofs.lemmas.Option.{slice_get-map, slice_get_past, same_Some}
use Rattle.soc_model.specs.Chips.{SocValue, LiveTest, live_tests}
use Rattle.plan_model.specs.Plans.{LimitsValue}
use Rattle.live_tests.specs.declared.neighbours.Neighbours.{Neighbours}
use Rattle.live_tests.specs.Neighbours.{tests_of, after, before}
use Rattle.proof_facts.specs.declared.facts.TestFacts.{TestFacts}
use Rattle.proof_facts.specs.Exclusions.{Leads, leads, is_passed, has_reason, both_pass, excludes}
use Rattle.live_tests.specs.Names.{precedences}
use Rattle.proof_facts.specs.Marks.{is_marked, next_of, AreAfter, AreBefore}
use Rattle.proof_facts.specs.Rows.{facts_of, all_facts, mark_of, are_kin}
use Rattle.proof_facts.proofs.Paths.{path_from, path_found}
use Rattle.proof_facts.proofs.Decided.{below_count}
use Rattle.common_lemmas.proofs.Lists.{some_item}

-- ---- mark by mark

-- the marks below a place are those of the row, the others are as they were
pub record AreMarkedTo (facts : List TestFacts) (power : Option ℕ) (test : ℕ) (ahead old new : List Bool) (n : ℕ) : Type 0 where
  pub long : length new ≡ length old
  pub done : (j : ℕ) (own other : TestFacts) → j < n → slice_get facts test ≡ Some own → slice_get facts j ≡ Some other →
      is_marked new j ≡ mark_of power own other test j (is_marked old j) (is_marked ahead j)
  pub kept : (j : ℕ) → n ≤ j → is_marked new j ≡ is_marked old j

pub none_made : (facts : List TestFacts) (power : Option ℕ) (test : ℕ) (ahead old : List Bool) → AreMarkedTo facts power test ahead old old 0
none_made facts power test ahead old = record {
  long = refl;
  done = λ j own other less at there. absurd (omega arith);
  kept = λ j from. refl;
}

pub mark_more : (facts : List TestFacts) (power : Option ℕ) (test : ℕ) (ahead old new : List Bool) (n next : ℕ) (own other : TestFacts) (x : Bool) → next ≡ n + 1 → n < length new → slice_get facts test ≡ Some own → slice_get facts n ≡ Some other →
    x ≡ mark_of power own other test n (is_marked new n) (is_marked ahead n) → AreMarkedTo facts power test ahead old new n → AreMarkedTo facts power test ahead old (set new n x) next
mark_more facts power test ahead old new n next own other x more within at there is so_far = record {
  long = length-set new n x ∙ so_far.long;
  done = λ j a b less a_at b_at. elim (cases_eq j n) [
    | inl same ↦ here j a b same a_at b_at
    | inr else' ↦ get_or-set_other new n j x false else' ∙ so_far.done j a b (omega (arith, more, less, else')) a_at b_at
  ];
  kept = λ j from. get_or-set_other new n j x false (λ same. absurd (omega (arith, more, from, same))) ∙ so_far.kept j (omega (arith, more, from));
}
  where
    here : (j : ℕ) (a b : TestFacts) → j ≡ n → slice_get facts test ≡ Some a → slice_get facts j ≡ Some b → is_marked (set new n x) j ≡ mark_of power a b test j (is_marked old j) (is_marked ahead j)
    here j a b same a_at b_at =
        let first : own ≡ a = same_Some own a (sym at ∙ a_at) in
        let second : other ≡ b = same_Some other b (sym there ∙ (ap (slice_get facts) (sym same) ∙ b_at)) in
        rw (same, sym first, sym second) (get_or-set_same new n x false within ∙ is ∙ ap (λ m. mark_of power own other test n m (is_marked ahead n)) (so_far.kept n (omega arith)))

-- marks of the same length, written over others
pub written_over : (n : ℕ) (xs ys : List Bool) → n ≡ length ys → length xs ≡ length ys → take n (xs ++ drop (length xs) ys) ≡ xs
written_over n xs ys all long = grind (arith, common_steps)

-- nothing, which stands past the ends of lists
abbrev pub no_facts : TestFacts
no_facts = record { place = 0; parent = None; least = 0 }

-- ---- the lists of neighbours

pub pairs_below : (soc : SocValue) (limits : LimitsValue) (count : ℕ) (pairs : List (ℕ × ℕ)) → count ≡ length (live_tests soc) → pairs ≡ precedences soc limits → All (λ (e : ℕ × ℕ). (e.0 < count) × (e.1 < count)) pairs
pairs_below soc limits count pairs is are = rw (is, are) (below_count soc limits)

pub after_are : (soc : SocValue) (limits : LimitsValue) (count : ℕ) (pairs : List (ℕ × ℕ)) (lists : List Neighbours) → count ≡ length (live_tests soc) → pairs ≡ precedences soc limits → length lists ≡ count →
    ((i : ℕ) → i < count → next_of (map tests_of lists) i ≡ after i pairs) → AreAfter (precedences soc limits) lists
after_are soc limits count pairs lists is are long have = record {
  within = rw (long ∙ is) (below_count soc limits);
  lists_are = λ i less. have i (omega (arith, long, less)) ∙ ap (after i) are;
}

pub before_are : (soc : SocValue) (limits : LimitsValue) (count : ℕ) (pairs : List (ℕ × ℕ)) (lists : List Neighbours) → count ≡ length (live_tests soc) → pairs ≡ precedences soc limits → length lists ≡ count →
    ((i : ℕ) → i < count → next_of (map tests_of lists) i ≡ before i pairs) → AreBefore (precedences soc limits) lists
before_are soc limits count pairs lists is are long have = record {
  within = rw (long ∙ is) (below_count soc limits);
  lists_are = λ i less. have i (omega (arith, long, less)) ∙ ap (before i) are;
}

pub facts_long : (soc : SocValue) (limits : LimitsValue) (facts : List TestFacts) → facts ≡ all_facts soc limits → length facts ≡ length (live_tests soc)
facts_long soc limits facts are = ap length are ∙ length-map (live_tests soc) (facts_of soc limits)

-- ---- the row

same_truth : (x y : Bool) → (x ≡ true → y ≡ true) → (y ≡ true → x ≡ true) → x ≡ y
same_truth true y f g = sym (f refl)
same_truth false true f g = g refl
same_truth false false f g = refl

led_is : (soc : SocValue) (limits : LimitsValue) (i j : ℕ) (x : Bool) → (x ≡ true) ↔ Leads (precedences soc limits) i j → x ≡ leads (precedences soc limits) (length (live_tests soc)) i j
led_is soc limits i j x same =
    same_truth x (leads (precedences soc limits) (length (live_tests soc)) i j)
    (λ h. path_found (precedences soc limits) (length (live_tests soc)) i j (below_count soc limits) (same.0 h))
    (λ h. same.1 (path_from (precedences soc limits) (length (live_tests soc)) i j h))

in_order : (x y k p : Bool) → ((x || y) || (k || p)) ≡ (k || (x || y) || p)
in_order true y true p = refl
in_order true y false p = refl
in_order false true true p = refl
in_order false true false p = refl
in_order false false true p = refl
in_order false false false p = refl

reasons_are : (soc : SocValue) (limits : LimitsValue) (i j : ℕ) (a b : LiveTest) (behind ahead : Bool) → (behind ≡ true) ↔ Leads (precedences soc limits) i j → (ahead ≡ true) ↔ Leads (precedences soc limits) j i →
    mark_of limits.power (facts_of soc limits a) (facts_of soc limits b) i j behind ahead ≡ (not (nat_eq i j) && has_reason soc limits i j a b)
reasons_are soc limits i j a b behind ahead led back =
    rw (led_is soc limits i j behind led, led_is soc limits j i ahead back)
    (ap (λ r. not (nat_eq i j) && r) (in_order (leads (precedences soc limits) (length (live_tests soc)) i j) (leads (precedences soc limits) (length (live_tests soc)) j i) (are_kin (facts_of soc limits a) (facts_of soc limits b)) (is_passed limits.power ((facts_of soc limits a).least + (facts_of soc limits b).least))))

fact_there : (soc : SocValue) (limits : LimitsValue) (facts : List TestFacts) → facts ≡ all_facts soc limits → (i : ℕ) (l : LiveTest) → slice_get (live_tests soc) i ≡ Some l → slice_get facts i ≡ Some (facts_of soc limits l)
fact_there soc limits facts are i l at = ap (λ fs. slice_get fs i) are ∙ slice_get-map (facts_of soc limits) (live_tests soc) i ∙ ap (option_map (facts_of soc limits)) at

excludes_there : (soc : SocValue) (limits : LimitsValue) (i j : ℕ) (a b : LiveTest) → slice_get (live_tests soc) i ≡ Some a → slice_get (live_tests soc) j ≡ Some b → excludes soc limits i j ≡ (not (nat_eq i j) && has_reason soc limits i j a b)
unfolding excludes
excludes_there soc limits i j a b at there = rw (at, there) refl

excludes_past : (soc : SocValue) (limits : LimitsValue) (i j : ℕ) → slice_get (live_tests soc) j ≡ None → excludes soc limits i j ≡ false
unfolding excludes
excludes_past soc limits i j none = rw none (go (not (nat_eq i j)) (has_reason soc limits i j) (slice_get (live_tests soc) i))
  where
    go : (d : Bool) (p : LiveTest → LiveTest → Bool) (o : Option LiveTest) → (d && both_pass p o None) ≡ false
    go true p None = refl
    go true p (Some a) = refl
    go false p o = refl

-- all marks of the row
pub row_is : (soc : SocValue) (limits : LimitsValue) (facts : List TestFacts) (power : Option ℕ) (test : ℕ) (behind ahead marks : List Bool) → facts ≡ all_facts soc limits → power ≡ limits.power → test < length (live_tests soc) → length marks ≡ length (live_tests soc) →
    ((j : ℕ) → (is_marked behind j ≡ true) ↔ Leads (precedences soc limits) test j) → ((j : ℕ) → (is_marked ahead j ≡ true) ↔ Leads (precedences soc limits) j test) →
    ((j : ℕ) (own other : TestFacts) → j < length facts → slice_get facts test ≡ Some own → slice_get facts j ≡ Some other → is_marked marks j ≡ mark_of power own other test j (is_marked behind j) (is_marked ahead j)) →
    (j : ℕ) → is_marked marks j ≡ excludes soc limits test j
row_is soc limits facts power test behind ahead marks are same within long led back marked j = elim (cases_lt j (length (live_tests soc))) [
  | inl less ↦
      let a = some_item (live_tests soc) test within in
      let b = some_item (live_tests soc) j less in
      marked j (facts_of soc limits a.0) (facts_of soc limits b.0) (omega (arith, less, facts_long soc limits facts are)) (fact_there soc limits facts are test a.0 a.1) (fact_there soc limits facts are j b.0 b.1)
      ∙ ap (λ p. mark_of p (facts_of soc limits a.0) (facts_of soc limits b.0) test j (is_marked behind j) (is_marked ahead j)) same
      ∙ reasons_are soc limits test j a.0 b.0 (is_marked behind j) (is_marked ahead j) (led j) (back j)
      ∙ sym (excludes_there soc limits test j a.0 b.0 a.1 b.1)
  | inr past ↦
      get_or_past marks j false (omega (arith, long, past))
      ∙ sym (excludes_past soc limits test j (slice_get_past (live_tests soc) j past))
]
