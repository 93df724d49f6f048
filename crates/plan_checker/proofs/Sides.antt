-- From meetings in the order of starts to clashes in the order of the chip.
use Rattle.std.proofs.Common.{◌≡◌, ℕ, ◌≤◌, ◌<◌, Bool, true, min, Option, Some, None, List, refl, ap, ◌∙◌, sym, subst, arith, inl, inr, ◌⊎◌, slice_get, slice_index}
use Rattle.std.proofs.lemmas.Bool.{cases_lt, cases_order, eqb-true, eq-eqb, true≢false}
use Rattle.live_tests.specs.declared.placed.PlacedTest.{PlacedTest}
use Rattle.plan_checker.specs.declared.meetings.Begin.{Begin}
use Rattle.plan_checker.specs.Clashes.{keeps_apart, same_slot, Clash, ParentsFirst, IsLeastCycle, IsFirstCycle}
use Rattle.plan_checker.specs.Meetings.{notes_for, AreBegins, Meeting, IsFirstMeeting, earlier_of}
use Rattle.plan_checker.proofs.Finding.{some_same}
use Rattle.plan_checker.specs.declared.meetings.EndKey.TheVariants as key
use Rattle.plan_checker.specs.declared.clashes.Apart.TheVariants as apart

-- Two tests clash where one of two relations holds: `f` where the first of them in the order of the chip starts first, else
-- `g`. And where either holds of two tests, in the order of their starts, they clash.
pub record AreSides (r f g : PlacedTest → PlacedTest → Bool) (placed : List PlacedTest) : Type 0 where
  pub first : (x y : PlacedTest) → r x y ≡ true → f x y ≡ true
  pub second : (x y : PlacedTest) → r x y ≡ true → g y x ≡ true
  pub from_first : (i j : ℕ) (x y : PlacedTest) → slice_get placed i ≡ Some x → slice_get placed j ≡ Some y → (i ≡ j → ⊥) → f x y ≡ true → ((i < j) × (r x y ≡ true)) ⊎ ((j < i) × (r y x ≡ true))
  pub from_second : (i j : ℕ) (x y : PlacedTest) → slice_get placed i ≡ Some x → slice_get placed j ≡ Some y → (i ≡ j → ⊥) → g x y ≡ true → ((i < j) × (r x y ≡ true)) ⊎ ((j < i) × (r y x ≡ true))

-- ---- the two sides of each rule

-- a relation of one key is the same both ways
same_slot_sym : (o u : Option ℕ) → same_slot o u ≡ true → same_slot u o ≡ true
same_slot_sym None u h = absurd (true≢false (sym h))
same_slot_sym (Some s) None h = absurd (true≢false (sym h))
same_slot_sym (Some s) (Some t) h = eq-eqb t s (sym (eqb-true s t h))

either_way : (r : PlacedTest → PlacedTest → Bool) (i j : ℕ) (x y : PlacedTest) → (i ≡ j → ⊥) → r x y ≡ true → r y x ≡ true → ((i < j) × (r x y ≡ true)) ⊎ ((j < i) × (r y x ≡ true))
either_way r i j x y other h h' = elim (cases_order i j) [
  | inl same ↦ absurd (other same)
  | inr apart' ↦ elim apart' [ inl less ↦ inl (less, h) | inr more ↦ inr (more, h') ]
]

pub one_bus : (parents : List ℕ) (placed : List PlacedTest) → AreSides (keeps_apart parents apart.OneBus) (notes_for parents key.Bus key.Bus) (notes_for parents key.Bus key.Bus) placed
one_bus parents placed = record {
  first = λ x y h. h;
  second = λ x y h. same_slot_sym x.bus y.bus h;
  from_first = from;
  from_second = from;
}
  where
    from : (i j : ℕ) (x y : PlacedTest) → slice_get placed i ≡ Some x → slice_get placed j ≡ Some y → (i ≡ j → ⊥) → notes_for parents key.Bus key.Bus x y ≡ true → ((i < j) × (keeps_apart parents apart.OneBus x y ≡ true)) ⊎ ((j < i) × (keeps_apart parents apart.OneBus y x ≡ true))
    from i j x y at at' other h = either_way (keeps_apart parents apart.OneBus) i j x y other h (same_slot_sym x.bus y.bus h)

pub one_module : (parents : List ℕ) (placed : List PlacedTest) → AreSides (keeps_apart parents apart.OneModule) (notes_for parents key.Place key.Place) (notes_for parents key.Place key.Place) placed
one_module parents placed = record {
  first = λ x y h. h;
  second = λ x y h. eq-eqb y.place x.place (sym (eqb-true x.place y.place h));
  from_first = from;
  from_second = from;
}
  where
    from : (i j : ℕ) (x y : PlacedTest) → slice_get placed i ≡ Some x → slice_get placed j ≡ Some y → (i ≡ j → ⊥) → notes_for parents key.Place key.Place x y ≡ true → ((i < j) × (keeps_apart parents apart.OneModule x y ≡ true)) ⊎ ((j < i) × (keeps_apart parents apart.OneModule y x ≡ true))
    from i j x y at at' other h = either_way (keeps_apart parents apart.OneModule) i j x y other h (eq-eqb y.place x.place (sym (eqb-true x.place y.place h)))

pub parent_and_child : (parents : List ℕ) (placed : List PlacedTest) → ParentsFirst parents placed → AreSides (keeps_apart parents apart.ParentAndChild) (notes_for parents key.Place key.Parent) (notes_for parents key.Parent key.Place) placed
parent_and_child parents placed ordered = record {
  first = λ x y h. h;
  second = λ x y h. eq-eqb (slice_index parents y.place) x.place (sym (eqb-true x.place (slice_index parents y.place) h));
  from_first = λ i j x y at at' other h. inl (ordered i j x y at at' (eqb-true x.place (slice_index parents y.place) h), h);
  from_second = λ i j x y at at' other h.
      let same : y.place ≡ slice_index parents x.place = sym (eqb-true (slice_index parents x.place) y.place h) in
      inr (ordered j i y x at' at same, eq-eqb y.place (slice_index parents x.place) same);
}

-- ---- clashes and meetings

record ClashAt (r : PlacedTest → PlacedTest → Bool) (placed : List PlacedTest) (c : ℕ) : Type 0 where
  i : ℕ
  j : ℕ
  clash : Clash r placed i j c

clash_of : (r h : PlacedTest → PlacedTest → Bool) (placed : List PlacedTest) (begins : List Begin) → AreBegins placed begins → ((i j : ℕ) (x y : PlacedTest) → slice_get placed i ≡ Some x → slice_get placed j ≡ Some y → (i ≡ j → ⊥) → h x y ≡ true → ((i < j) × (r x y ≡ true)) ⊎ ((j < i) × (r y x ≡ true))) → (p q c : ℕ) → Meeting h placed begins p q c → ClashAt r placed c
clash_of r h placed begins are from p q c m = elim (from m.a.place m.b.place m.x m.y m.test m.test' (λ same. let one : p ≡ q = are.once p q m.a m.b m.at m.at' same in omega (arith, m.order)) m.both.related) [
  | inl f ↦ record { i = m.a.place; j = m.b.place; clash = record { a = m.x; b = m.y; at = m.test; at' = m.test'; order = f.0; both = record { related = f.1; begun = m.both.begun; begun' = m.both.begun'; active = m.both.active; active' = m.both.active' } } }
  | inr s ↦ record { i = m.b.place; j = m.a.place; clash = record { a = m.y; b = m.x; at = m.test'; at' = m.test; order = s.0; both = record { related = s.1; begun = m.both.begun'; begun' = m.both.begun; active = m.both.active'; active' = m.both.active } } }
]

record MeetingAt (h : PlacedTest → PlacedTest → Bool) (placed : List PlacedTest) (begins : List Begin) (c : ℕ) : Type 0 where
  p : ℕ
  q : ℕ
  meeting : Meeting h placed begins p q c

meeting_of : (r f g : PlacedTest → PlacedTest → Bool) (placed : List PlacedTest) (begins : List Begin) → AreSides r f g placed → AreBegins placed begins → (i j c : ℕ) → Clash r placed i j c → MeetingAt f placed begins c ⊎ MeetingAt g placed begins c
meeting_of r f g placed begins sides are i j c k =
    let a = are.all i k.a k.at in
    let b = are.all j k.b k.at' in
    go a.0 b.0 a.1 b.1 a.2 b.2 (ap (slice_get placed) a.3 ∙ k.at) (ap (slice_get placed) b.3 ∙ k.at') (λ same. apart_places a.0 b.0 a.1 b.1 a.2 b.2 a.3 b.3 same)
  where
    apart_places : (p q : ℕ) (a b : Begin) → slice_get begins p ≡ Some a → slice_get begins q ≡ Some b → a.place ≡ i → b.place ≡ j → p ≡ q → ⊥
    apart_places p q a b at at' a_is b_is same =
        let one : a ≡ b = some_same (sym at ∙ ap (slice_get begins) same ∙ at') in
        let e : a.place ≡ b.place = ap (λ (v : Begin). v.place) one in
        omega (arith, e, a_is, b_is, k.order)

    go : (p q : ℕ) (a b : Begin) → slice_get begins p ≡ Some a → slice_get begins q ≡ Some b → slice_get placed a.place ≡ Some k.a → slice_get placed b.place ≡ Some k.b → (p ≡ q → ⊥) → MeetingAt f placed begins c ⊎ MeetingAt g placed begins c
    go p q a b at at' test test' other = elim (cases_order p q) [
      | inl same ↦ absurd (other same)
      | inr apart' ↦ elim apart' [
        | inl less ↦ inl (record { p = p; q = q; meeting = record { a = a; b = b; x = k.a; y = k.b; at = at; at' = at'; test = test; test' = test'; order = less; both = record { related = sides.first k.a k.b k.both.related; begun = k.both.begun; begun' = k.both.begun'; active = k.both.active; active' = k.both.active' } } })
        | inr more ↦ inr (record { p = q; q = p; meeting = record { a = b; b = a; x = k.b; y = k.a; at = at'; at' = at; test = test'; test' = test; order = more; both = record { related = sides.second k.a k.b k.both.related; begun = k.both.begun'; begun' = k.both.begun; active = k.both.active'; active' = k.both.active } } })
      ]
    ]

-- ---- the least cycle of both sides

least_from : (r f g : PlacedTest → PlacedTest → Bool) (placed : List PlacedTest) (begins : List Begin) → AreSides r f g placed → AreBegins placed begins → (c : ℕ) → ClashAt r placed c → ((p q d : ℕ) → Meeting f placed begins p q d → c ≤ d) → ((p q d : ℕ) → Meeting g placed begins p q d → c ≤ d) → IsLeastCycle r placed c
least_from r f g placed begins sides are c k first second = record {
  i = k.i;
  j = k.j;
  clash = k.clash;
  least = λ i j d other. elim (meeting_of r f g placed begins sides are i j d other) [
    | inl m ↦ first m.p m.q d m.meeting
    | inr m ↦ second m.p m.q d m.meeting
  ];
}

pub first_cycle : (r f g : PlacedTest → PlacedTest → Bool) (placed : List PlacedTest) (begins : List Begin) → AreSides r f g placed → AreBegins placed begins → (m n : Option ℕ) → IsFirstMeeting f placed begins m → IsFirstMeeting g placed begins n → IsFirstCycle r placed (earlier_of m n)
first_cycle r f g placed begins sides are None None none none' = λ i j c k. elim (meeting_of r f g placed begins sides are i j c k) [
  | inl m ↦ none m.p m.q c m.meeting
  | inr m ↦ none' m.p m.q c m.meeting
]
first_cycle r f g placed begins sides are None (Some b) none least =
    least_from r f g placed begins sides are b (clash_of r g placed begins are sides.from_second least.p least.q b least.meeting) (λ p q d m. absurd (none p q d m)) least.least
first_cycle r f g placed begins sides are (Some a) None least none =
    least_from r f g placed begins sides are a (clash_of r f placed begins are sides.from_first least.p least.q a least.meeting) least.least (λ p q d m. absurd (none p q d m))
first_cycle r f g placed begins sides are (Some a) (Some b) least least' = elim (cases_lt b a) [
  | inl less ↦
      let is : min a b ≡ b = omega arith in
      rw is (least_from r f g placed begins sides are b (clash_of r g placed begins are sides.from_second least'.p least'.q b least'.meeting) (λ p q d m. omega (arith, least.least p q d m)) least'.least)
  | inr more ↦
      let is : min a b ≡ a = omega arith in
      rw is (least_from r f g placed begins sides are a (clash_of r f placed begins are sides.from_first least.p least.q a least.meeting) least.least (λ p q d m. omega (arith, least'.least p q d m)))
]

earlier_itself : (m : Option ℕ) → earlier_of m m ≡ m
earlier_itself None = refl
earlier_itself (Some a) = ap Some (omega arith)

-- where both sides are one
pub one_side : (r f : PlacedTest → PlacedTest → Bool) (placed : List PlacedTest) (begins : List Begin) → AreSides r f f placed → AreBegins placed begins → (m : Option ℕ) → IsFirstMeeting f placed begins m → IsFirstCycle r placed m
one_side r f placed begins sides are m first = subst (IsFirstCycle r placed) (earlier_itself m) (first_cycle r f f placed begins sides are m m first first)
