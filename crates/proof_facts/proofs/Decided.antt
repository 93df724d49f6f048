-- The test finds exactly the tests that exclude each other.
use Rattle.std.proofs.Common.{◌≡◌, ◌↔◌, ℕ, ◌+◌, ◌<◌, Bool, true, false, Option, None, Some, length, refl, ap, ◌∙◌, sym, arith, inl, inr, eqb, slice_get, nat_eq, not, ◌||◌, IsTrue}
use Rattle.std.proofs.lemmas.Bool.{cases_Bool, and_parts, eqb-true, eq-eqb, ltb-true, lt-ltb, ne_eqb}
use Rattle.std.proofs.lemmas.List.{length-map}
use Rattle.soc_model.specs.Chips.{SocValue, LiveTest, live_tests, id_of, parent_place}
use Rattle.soc_model.proofs.Parents.{IsParent-from_place, place-from_IsParent}
use Rattle.plan_model.specs.Plans.{LimitsValue}
use Rattle.plan_model.specs.Rules.{live_ids}
use Rattle.live_tests.proofs.Precedences.{pairs_within}
use Rattle.proof_facts.specs.Exclusions.{least_power, Reason, OneModule, IsParentOf, IsChildOf, ComesBefore, ComesAfter, TooMuchPower, Excludes, leads, is_place, is_passed, has_reason, both_pass, excludes}
use Rattle.live_tests.specs.Names.{precedences}
use Rattle.proof_facts.proofs.Paths.{AreBelow, path_from, path_found}

pub below_count : (soc : SocValue) (limits : LimitsValue) → AreBelow (length (live_tests soc)) (precedences soc limits)
below_count soc limits =
    let long : length (live_ids soc) ≡ length (live_tests soc) = length-map (live_tests soc) id_of in
    rw long at (pairs_within (live_ids soc) limits.before)

-- ---- a place, and a limit that is passed

place_is : (o : Option ℕ) (p : ℕ) → is_place o p ≡ true → o ≡ Some p
place_is None p h = absurd cc
place_is (Some q) p h = ap Some (eqb-true q p h)

is_this_place : (o : Option ℕ) (p : ℕ) → o ≡ Some p → is_place o p ≡ true
is_this_place None p e = absurd cc
is_this_place (Some q) p e = let same : q ≡ p = cc in eq-eqb q p same

passed_is : (o : Option ℕ) (n : ℕ) → is_passed o n ≡ true → (most : ℕ) × (o ≡ Some most) × (most < n)
passed_is None n h = absurd cc
passed_is (Some most) n h = (most, refl, ltb-true most n h)

is_this_passed : (o : Option ℕ) (most n : ℕ) → o ≡ Some most → most < n → is_passed o n ≡ true
is_this_passed None most n e less = absurd cc
is_this_passed (Some m) most n e less = let same : m ≡ most = cc in lt-ltb m n (omega arith)

-- ---- one of the reasons

reason_from : (soc : SocValue) (limits : LimitsValue) (i j : ℕ) (a b : LiveTest) → has_reason soc limits i j a b ≡ true → Reason soc limits i j a b
reason_from soc limits i j a b h =
    let one : Bool = nat_eq a.place b.place in
    let two : Bool = is_place (parent_place soc.modules b.place) a.place in
    let three : Bool = is_place (parent_place soc.modules a.place) b.place in
    let four : Bool = leads (precedences soc limits) (length (live_tests soc)) i j in
    let five : Bool = leads (precedences soc limits) (length (live_tests soc)) j i in
    by one two three four five (is_passed limits.power (least_power limits a + least_power limits b)) h (λ e. OneModule (eqb-true a.place b.place e))
    (λ e. IsParentOf (IsParent-from_place soc.modules a.place b.place (place_is (parent_place soc.modules b.place) a.place e)))
    (λ e. IsChildOf (IsParent-from_place soc.modules b.place a.place (place_is (parent_place soc.modules a.place) b.place e)))
    (λ e. ComesBefore (path_from (precedences soc limits) (length (live_tests soc)) i j e))
    (λ e. ComesAfter (path_from (precedences soc limits) (length (live_tests soc)) j i e))
    (λ e. let p = passed_is limits.power (least_power limits a + least_power limits b) e in TooMuchPower p.0 p.1 p.2)
  where
    by : (one two three four five six : Bool) → (one || two || three) || (four || five) || six ≡ true → (one ≡ true → Reason soc limits i j a b) → (two ≡ true → Reason soc limits i j a b) → (three ≡ true → Reason soc limits i j a b) →
        (four ≡ true → Reason soc limits i j a b) → (five ≡ true → Reason soc limits i j a b) → (six ≡ true → Reason soc limits i j a b) → Reason soc limits i j a b
    by true two three four five six h f g k l m n = f refl
    by false true three four five six h f g k l m n = g refl
    by false false true four five six h f g k l m n = k refl
    by false false false true five six h f g k l m n = l refl
    by false false false false true six h f g k l m n = m refl
    by false false false false false true h f g k l m n = n refl
    by false false false false false false h f g k l m n = absurd cc

none_holds : (one two three four five six : Bool) → (one || two || three) || (four || five) || six ≡ false → (one ≡ false) × (two ≡ false) × (three ≡ false) × (four ≡ false) × (five ≡ false) × (six ≡ false)
none_holds true two three four five six h = absurd cc
none_holds false true three four five six h = absurd cc
none_holds false false true four five six h = absurd cc
none_holds false false false true five six h = absurd cc
none_holds false false false false true six h = absurd cc
none_holds false false false false false true h = absurd cc
none_holds false false false false false false h = (refl, refl, refl, refl, refl, refl)

not_both : (x : Bool) → x ≡ true → x ≡ false → ⊥
not_both x yes' no' = cc

no_reason : (soc : SocValue) (limits : LimitsValue) (i j : ℕ) (a b : LiveTest) → has_reason soc limits i j a b ≡ false → Reason soc limits i j a b → ⊥
no_reason soc limits i j a b none r =
    let parts = none_holds (nat_eq a.place b.place) (is_place (parent_place soc.modules b.place) a.place) (is_place (parent_place soc.modules a.place) b.place) (leads (precedences soc limits) (length (live_tests soc)) i j) (leads (precedences soc limits) (length (live_tests soc)) j i) (is_passed limits.power (least_power limits a + least_power limits b)) none in
    go r parts.0 parts.1 parts.2 parts.3 parts.4 parts.5
  where
    go : Reason soc limits i j a b → nat_eq a.place b.place ≡ false → is_place (parent_place soc.modules b.place) a.place ≡ false → is_place (parent_place soc.modules a.place) b.place ≡ false → leads (precedences soc limits) (length (live_tests soc)) i j ≡ false →
        leads (precedences soc limits) (length (live_tests soc)) j i ≡ false → is_passed limits.power (least_power limits a + least_power limits b) ≡ false → ⊥
    go (OneModule same) n o p q u v = not_both (nat_eq a.place b.place) (eq-eqb a.place b.place same) n
    go (IsParentOf is) n o p q u v = not_both (is_place (parent_place soc.modules b.place) a.place) (is_this_place (parent_place soc.modules b.place) a.place (place-from_IsParent soc.modules a.place b.place is)) o
    go (IsChildOf is) n o p q u v = not_both (is_place (parent_place soc.modules a.place) b.place) (is_this_place (parent_place soc.modules a.place) b.place (place-from_IsParent soc.modules b.place a.place is)) p
    go (ComesBefore path) n o p q u v = not_both (leads (precedences soc limits) (length (live_tests soc)) i j) (path_found (precedences soc limits) (length (live_tests soc)) i j (below_count soc limits) path) q
    go (ComesAfter path) n o p q u v = not_both (leads (precedences soc limits) (length (live_tests soc)) j i) (path_found (precedences soc limits) (length (live_tests soc)) j i (below_count soc limits) path) u
    go (TooMuchPower most is much) n o p q u v = not_both (is_passed limits.power (least_power limits a + least_power limits b)) (is_this_passed limits.power most (least_power limits a + least_power limits b) is much) v

reason_found : (soc : SocValue) (limits : LimitsValue) (i j : ℕ) (a b : LiveTest) → Reason soc limits i j a b → has_reason soc limits i j a b ≡ true
reason_found soc limits i j a b r = elim (cases_Bool (has_reason soc limits i j a b)) [
  | inl yes' ↦ yes'
  | inr no' ↦ absurd (no_reason soc limits i j a b no' r)
]

-- ---- both are there

both_there : (p : LiveTest → LiveTest → Bool) (x y : Option LiveTest) → both_pass p x y ≡ true → (a : LiveTest) × (b : LiveTest) × (x ≡ Some a) × (y ≡ Some b) × (p a b ≡ true)
both_there p None y h = absurd cc
both_there p (Some a) None h = absurd cc
both_there p (Some a) (Some b) h = (a, b, refl, refl, h)

excluded_from : (soc : SocValue) (limits : LimitsValue) (i j : ℕ) → excludes soc limits i j ≡ true → Excludes soc limits i j
unfolding excludes
excluded_from soc limits i j h =
    let both = and_parts (not (eqb i j)) (both_pass (has_reason soc limits i j) (slice_get (live_tests soc) i) (slice_get (live_tests soc) j)) h in
    let there = both_there (has_reason soc limits i j) (slice_get (live_tests soc) i) (slice_get (live_tests soc) j) both.1 in
    record {
      first = there.0;
      second = there.1;
      first_at = there.2;
      second_at = there.3;
      differ = λ same. differ (eqb i j) (eq-eqb i j same) both.0;
      reason = reason_from soc limits i j there.0 there.1 there.4;
    }
  where
    differ : (x : Bool) → x ≡ true → not x ≡ true → ⊥
    differ true e h = absurd cc
    differ false e h = absurd cc

excluded_found : (soc : SocValue) (limits : LimitsValue) (i j : ℕ) → Excludes soc limits i j → excludes soc limits i j ≡ true
unfolding excludes
excluded_found soc limits i j e =
    rw (ne_eqb i j e.differ, e.first_at, e.second_at) (reason_found soc limits i j e.first e.second e.reason)

pub decided : (soc : SocValue) (limits : LimitsValue) (i j : ℕ) → IsTrue (excludes soc limits i j) ↔ Excludes soc limits i j
decided soc limits i j = (excluded_from soc limits i j, excluded_found soc limits i j)

-- ---- it is the same both ways

turned_reason : (soc : SocValue) (limits : LimitsValue) (i j : ℕ) (a b : LiveTest) → Reason soc limits i j a b → Reason soc limits j i b a
turned_reason soc limits i j a b (OneModule same) = OneModule (sym same)
turned_reason soc limits i j a b (IsParentOf is) = IsChildOf is
turned_reason soc limits i j a b (IsChildOf is) = IsParentOf is
turned_reason soc limits i j a b (ComesBefore path) = ComesAfter path
turned_reason soc limits i j a b (ComesAfter path) = ComesBefore path
turned_reason soc limits i j a b (TooMuchPower most is much) = TooMuchPower most is (omega arith)

turned_over : (soc : SocValue) (limits : LimitsValue) (i j : ℕ) → Excludes soc limits i j → Excludes soc limits j i
turned_over soc limits i j e = record {
  first = e.second;
  second = e.first;
  first_at = e.second_at;
  second_at = e.first_at;
  differ = λ same. e.differ (sym same);
  reason = turned_reason soc limits i j e.first e.second e.reason;
}

pub turned : (soc : SocValue) (limits : LimitsValue) (i j : ℕ) → excludes soc limits i j ≡ excludes soc limits j i
turned soc limits i j = elim (cases_Bool (excludes soc limits i j)) [
  | inl yes' ↦ yes' ∙ sym (excluded_found soc limits j i (turned_over soc limits i j (excluded_from soc limits i j yes')))
  | inr no' ↦ elim (cases_Bool (excludes soc limits j i)) [
    | inl other ↦ absurd (not_both (excludes soc limits i j) (excluded_found soc limits i j (turned_over soc limits j i (excluded_from soc limits j i other))) no')
    | inr none ↦ no' ∙ sym none
  ]
]
