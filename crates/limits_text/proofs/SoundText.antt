-- The limits that a text says keep their ranges, and are sound for a chip that refuses nothing of them.
use Rattle.std.proofs.Common.{◌≡◌, ◌⊎◌, inl, inr, ℕ, zero, suc, ◌≤◌, List, [], ◌∷◌, ◌++◌, length, Bool, true, false, ◌&&◌, ◌||◌, not, map, reverse, Option, None, Some, slice_get, nat_lt, cond, refl, sym, ◌∙◌, ap, subst, arith, nat_le, IfSome, find, All}
use Rattle.std.proofs.lemmas.Grind.{common_steps}
use Rattle.std.proofs.lemmas.Bool.Decides.{nat_tests}
use Rattle.std.proofs.lemmas.List.{reverse-append}
use Rattle.std.proofs.lemmas.List.Elements.{All-nil, All-push, All-cons, All-head, All-tail}
use Rattle.std.proofs.lemmas.Bool.{and_parts, or_right, cases_Bool}
use Rattle.std.proofs.lemmas.Option.{same_Some}
use Rattle.soc_model.specs.declared.TestId.{TestId}
use Rattle.soc_model.specs.declared.TheConstants.{NUMBER_WORD_MOST, POWER_MOST}
use Rattle.soc_model.specs.Chips.{SocValue, LiveTest, live_tests, id_of, same_test}
use Rattle.plan_model.specs.declared.TheConstants.{WIRES_MOST, BUDGET_MOST}
use Rattle.plan_model.specs.Plans.{ProfileValue, LimitsValue, of_first, step_power, power_of_id}
use Rattle.plan_model.specs.SoundLimits.{HasTest, IsSoundProfile, IsAcyclic, IsSoundLimits}
use Rattle.limits_text.specs.declared.items.Amount.TheVariants.{Wires, Power, Budget}
use Rattle.outside.specs.Words.{Word}
use Rattle.limits_text.specs.Items.{number, Item, amount_item, before_item, profile_item, has_amount, has_profile, ArePairs}
use Rattle.limits_text.specs.Grammar.{AreItems, IsText, ProfileComes}
use Rattle.limits_text.specs.Meaning.{limits_of, is_known, line_if, unknown_line, or_first, first_line, first_unknown, powers_named, powers_of, NonePasses}
use Rattle.common_lemmas.proofs.Tests.{false_true, le_from_true}

-- ---- ranges

pub record HasWires (wires : ℕ) : Type 0 where
  pub some : 1 ≤ wires
  pub few : wires ≤ WIRES_MOST

module _ (form : Bool) where
  pub wires_in_range : (items : List Item) (ws : List Word) → AreItems form items ws → has_amount Wires items ≡ true → HasWires (limits_of items).wires
  wires_in_range [] ws is has = cc
  wires_in_range (amount_item Wires n ∷ earlier) ws is has =
      let parts = and_parts (nat_le 1 n) (nat_le n WIRES_MOST) is.4.range in
      record { some = le_from_true 1 n parts.0; few = le_from_true n WIRES_MOST parts.1 }
  wires_in_range (x ∷ earlier) ws is has = wires_in_range earlier is.0 is.3 has

  pub power_in_range : (items : List Item) (ws : List Word) → AreItems form items ws → IfSome (limits_of items).power (λ most. most ≤ POWER_MOST)
  power_in_range [] ws is = tt
  power_in_range (amount_item Power n ∷ earlier) ws is = le_from_true n POWER_MOST is.4.range
  power_in_range (x ∷ earlier) ws is = power_in_range earlier is.0 is.3

  pub budget_in_range : (items : List Item) (ws : List Word) → AreItems form items ws → (limits_of items).budget ≤ BUDGET_MOST
  budget_in_range [] ws is = omega arith
  budget_in_range (amount_item Budget n ∷ earlier) ws is = le_from_true n BUDGET_MOST is.4.range
  budget_in_range (x ∷ earlier) ws is = budget_in_range earlier is.0 is.3

-- ---- known tests

first_line-append : (soc : SocValue) (xs ys : List Item) → first_line soc (xs ++ ys) ≡ or_first (first_line soc xs) (first_line soc ys)
first_line-append soc [] ys = refl
first_line-append soc (x ∷ xs) ys = ap (or_first (unknown_line soc x)) (first_line-append soc xs ys) ∙ assoc (unknown_line soc x) (first_line soc xs) (first_line soc ys)
  where
    assoc : (a b c : Option ℕ) → or_first a (or_first b c) ≡ or_first (or_first a b) c
    assoc None b c = refl
    assoc (Some n) b c = refl

both_none : (a b : Option ℕ) → or_first a (or_first b None) ≡ None → (a ≡ None) × (b ≡ None)
both_none None None e = (refl, refl)
both_none None (Some n) e = cc
both_none (Some n) b e = cc

module _ (soc : SocValue) (x : Item) (earlier : List Item) where
  -- the latest item comes after the earlier ones
  pub unknown_more : first_unknown soc (x ∷ earlier) ≡ or_first (first_unknown soc earlier) (or_first (unknown_line soc x) None)
  unknown_more = ap (first_line soc) (reverse-append (x ∷ []) earlier) ∙ first_line-append soc (reverse earlier) (x ∷ [])

  -- nothing is unknown in the latest item and in the earlier ones
  none_unknown : first_unknown soc (x ∷ earlier) ≡ None → (first_unknown soc earlier ≡ None) × (unknown_line soc x ≡ None)
  none_unknown e = both_none (first_unknown soc earlier) (unknown_line soc x) (sym unknown_more ∙ e)

none_if : (b : Bool) (line : ℕ) → line_if (not b) line ≡ None → b ≡ true
none_if true line e = refl
none_if false line e = cc

abbrev Known : SocValue → TestId × TestId → Type 0
Known soc p = HasTest soc p.0 × HasTest soc p.1

pub before_known : (soc : SocValue) (items : List Item) → first_unknown soc items ≡ None → All (λ (p : TestId × TestId). HasTest soc p.0 × HasTest soc p.1) (limits_of items).before
before_known soc [] e = All-nil _
before_known soc (before_item line a b ∷ earlier) e =
    let parts = none_unknown soc (before_item line a b) earlier e in
    let known = and_parts (is_known soc a) (is_known soc b) (none_if (is_known soc a && is_known soc b) line parts.1) in
    All-push (λ (p : TestId × TestId). HasTest soc p.0 × HasTest soc p.1) (limits_of earlier).before (a, b) (before_known soc earlier parts.0) known
before_known soc (amount_item Wires n ∷ earlier) e = before_known soc earlier (none_unknown soc (amount_item Wires n) earlier e).0
before_known soc (x ∷ earlier) e = before_known soc earlier (none_unknown soc x earlier e).0

-- ---- profiles

number_small : (w : List ℕ) (n : ℕ) → number w ≡ Some n → n ≤ NUMBER_WORD_MOST
unfolding number
number_small w n e = grind (arith, common_steps)

pairs_small : (ws : List Word) (steps : List (ℕ × ℕ)) → ArePairs ws steps → All (λ (s : ℕ × ℕ). s.1 ≤ POWER_MOST) steps → All (λ (s : ℕ × ℕ). (s.0 ≤ NUMBER_WORD_MOST) × (s.1 ≤ POWER_MOST)) steps
pairs_small ws [] are all = All-nil _
pairs_small ws (s ∷ steps) are all =
    All-cons (λ (s : ℕ × ℕ). (s.0 ≤ NUMBER_WORD_MOST) × (s.1 ≤ POWER_MOST)) s steps (number_small are.0.0 s.0 are.4, All-head (λ (s : ℕ × ℕ). s.1 ≤ POWER_MOST) s steps all)
    (pairs_small are.2 steps are.6 (All-tail (λ (s : ℕ × ℕ). s.1 ≤ POWER_MOST) s steps all))

module _ (soc : SocValue) (form : Bool) where
  profile_sound : (earlier : List Item) (line : ℕ) (id : TestId) (steps : List (ℕ × ℕ)) (ws : List Word) → ProfileComes form earlier line id steps ws
      → HasTest soc id → IsSoundProfile soc (record { test = id; steps = steps })
  profile_sound earlier line id steps ws c known = record {
    test = known;
    some_step = omega (arith, ap length c.steps_are.begins.2);
    few_steps = c.steps_are.few;
    begins = (c.steps_are.begins.0, ap (λ l. slice_get l 0) c.steps_are.begins.2);
    grows = c.steps_are.grows;
    small = pairs_small c.pairs steps c.are c.steps_are.small;
  }

  pub profiles_sound : (items : List Item) (ws : List Word) → AreItems form items ws → first_unknown soc items ≡ None → All (IsSoundProfile soc) (limits_of items).profiles
  profiles_sound [] ws is e = All-nil _
  profiles_sound (profile_item line id steps ∷ earlier) ws is e =
      let parts = none_unknown soc (profile_item line id steps) earlier e in
      All-push (IsSoundProfile soc) (limits_of earlier).profiles (record { test = id; steps = steps }) (profiles_sound earlier is.0 is.3 parts.0)
      (profile_sound earlier line id steps is.1 is.4 (none_if (is_known soc id) line parts.1))
  profiles_sound (amount_item Wires n ∷ earlier) ws is e = profiles_sound earlier is.0 is.3 (none_unknown soc (amount_item Wires n) earlier e).0
  profiles_sound (x ∷ earlier) ws is e = profiles_sound earlier is.0 is.3 (none_unknown soc x earlier e).0

-- what stands in a list and one more element
pub push_cases : {X : Type 0} (xs : List X) (y x : X) (p : ℕ) → slice_get (xs ++ y ∷ []) p ≡ Some x → (slice_get xs p ≡ Some x) ⊎ ((p ≡ length xs) × (y ≡ x))
push_cases [] y x zero e = inr (refl, same_Some y x e)
push_cases [] y x (suc p) e = cc
push_cases (z ∷ xs) y x zero e = inl e
push_cases (z ∷ xs) y x (suc p) e = elim (push_cases xs y x p e) [
  | inl f ↦ inl f
  | inr f ↦ inr (ap suc f.0, f.1)
]

same_itself : (id : TestId) → same_test id id ≡ true
same_itself id = grind (arith, nat_tests)

-- a profile was given
profile_given : (items : List Item) (p : ℕ) (x : ProfileValue) → slice_get (limits_of items).profiles p ≡ Some x → has_profile x.test items ≡ true
profile_given [] p x e = cc
profile_given (profile_item line id steps ∷ earlier) p x e = elim (push_cases (limits_of earlier).profiles (record { test = id; steps = steps }) x p e) [
  | inl f ↦ or_right (same_test x.test id) (has_profile x.test earlier) (profile_given earlier p x f)
  | inr f ↦ subst (λ (y : ProfileValue). has_profile y.test (profile_item line id steps ∷ earlier) ≡ true) f.1 (ap (λ b. b || has_profile id earlier) (same_itself id))
]
profile_given (amount_item Wires n ∷ earlier) p y e = profile_given earlier p y e
profile_given (x ∷ earlier) p y e = profile_given earlier p y e

abbrev OneProfile : List ProfileValue → Type 0
OneProfile profiles = (p q : ℕ) (x y : ProfileValue) → slice_get profiles p ≡ Some x → slice_get profiles q ≡ Some y → x.test ≡ y.test → p ≡ q

one_more : (earlier : List Item) (new : ProfileValue) → has_profile new.test earlier ≡ false → OneProfile (limits_of earlier).profiles → OneProfile ((limits_of earlier).profiles ++ new ∷ [])
one_more earlier new once one p q x y at there same =
    by (push_cases (limits_of earlier).profiles new x p at) (push_cases (limits_of earlier).profiles new y q there)
  where
    apart : (k : ℕ) (z : ProfileValue) → slice_get (limits_of earlier).profiles k ≡ Some z → z.test ≡ new.test → ⊥
    apart k z e f = false_true (has_profile new.test earlier) once (ap (λ id. has_profile id earlier) (sym f) ∙ profile_given earlier k z e)

    by : (slice_get (limits_of earlier).profiles p ≡ Some x) ⊎ ((p ≡ length (limits_of earlier).profiles) × (new ≡ x)) → (slice_get (limits_of earlier).profiles q ≡ Some y) ⊎ ((q ≡ length (limits_of earlier).profiles) × (new ≡ y)) → p ≡ q
    by (inl e) (inl f) = one p q x y e f same
    by (inl e) (inr f) = absurd (apart p x e (same ∙ sym (ap (λ (z : ProfileValue). z.test) f.1)))
    by (inr e) (inl f) = absurd (apart q y f (sym same ∙ sym (ap (λ (z : ProfileValue). z.test) e.1)))
    by (inr e) (inr f) = e.0 ∙ sym f.0

no_profiles : OneProfile []
no_profiles p q x y at there same = cc

pub one_profile : (form : Bool) (items : List Item) (ws : List Word) → AreItems form items ws → (p q : ℕ) (x y : ProfileValue) → slice_get (limits_of items).profiles p ≡ Some x → slice_get (limits_of items).profiles q ≡ Some y → x.test ≡ y.test → p ≡ q
one_profile form [] ws is = no_profiles
one_profile form (profile_item line id steps ∷ earlier) ws is = one_more earlier (record { test = id; steps = steps }) is.4.once (one_profile form earlier is.0 is.3)
one_profile form (amount_item Wires n ∷ earlier) ws is = one_profile form earlier is.0 is.3
one_profile form (x ∷ earlier) ws is = one_profile form earlier is.0 is.3

-- ---- powers

not_found : (most x : ℕ) (xs : List ℕ) → find (nat_lt most) (x ∷ xs) ≡ None → (x ≤ most) × (find (nat_lt most) xs ≡ None)
not_found most x xs e = elim (cases_Bool (nat_lt most x)) [
  | inl is ↦ let none = rw is at e in cc
  | inr is ↦ (less_false most x is, rw is at e)
]
  where
    less_false : (a b : ℕ) → nat_lt a b ≡ false → b ≤ a
    less_false a b e = grind (arith, nat_tests)

module _ (most r : ℕ) where
  step_within : (now : ℕ) (steps : List (ℕ × ℕ)) → now ≤ most → find (nat_lt most) (map (λ (s : ℕ × ℕ). s.1) steps) ≡ None → step_power r now steps ≤ most
  step_within now [] small none = small
  step_within now (s ∷ steps) small none =
      let parts = not_found most s.1 (map (λ (s : ℕ × ℕ). s.1) steps) none in
      by (nat_le s.0 r) (step_within s.1 steps parts.0 parts.1) (step_within now steps small parts.1)
    where
      by : (b : Bool) → step_power r s.1 steps ≤ most → step_power r now steps ≤ most → cond b (step_power r s.1 steps) (step_power r now steps) ≤ most
      by true e f = e
      by false e f = f

  power_within : (profiles : List ProfileValue) (id : TestId) (own : ℕ) → find (nat_lt most) (powers_named profiles id own) ≡ None
      → of_first (λ (p : ProfileValue). same_test p.test id) (λ p. step_power r 0 p.steps) own profiles ≤ most
  power_within [] id own none = (not_found most own [] none).0
  power_within (p ∷ profiles) id own none = elim (cases_Bool (same_test p.test id)) [
    | inl is ↦ rw is (step_within 0 p.steps (omega arith) (rw is at none))
    | inr is ↦ rw is (power_within profiles id own (rw is at none))
  ]

pub all_within : (soc : SocValue) (limits : LimitsValue) → NonePasses soc limits → (i : ℕ) (l : LiveTest) → slice_get (live_tests soc) i ≡ Some l → (r : ℕ) → IfSome limits.power (λ most. power_of_id limits (id_of l) l.test.power r ≤ most)
all_within soc limits none i l at r = by limits.power none
  where
    by : (o : Option ℕ) → IfSome o (λ most. (n : ℕ) (l : LiveTest) → slice_get (live_tests soc) n ≡ Some l → find (nat_lt most) (powers_of limits.profiles l) ≡ None) → IfSome o (λ most. power_of_id limits (id_of l) l.test.power r ≤ most)
    by None e = tt
    by (Some most) e = power_within most r limits.profiles (id_of l) l.test.power (e i l at)

-- limits that a chip refuses nothing of are sound
pub text_sound : (soc : SocValue) (form : Bool) (items : List Item) (ws : List Word) → IsText form items ws → first_unknown soc items ≡ None → IsAcyclic soc (limits_of items) → NonePasses soc (limits_of items) → IsSoundLimits soc (limits_of items)
text_sound soc form items ws is known acyclic power =
    let wires = wires_in_range form items is.rest is.are is.wires in
    record {
      some_wire = wires.some;
      few_wires = wires.few;
      power = power_in_range form items is.rest is.are;
      budget = budget_in_range form items is.rest is.are;
      before = before_known soc items known;
      profiles = profiles_sound soc form items is.rest is.are known;
      one_profile = one_profile form items is.rest is.are;
      acyclic = acyclic;
      within = all_within soc (limits_of items) power;
    }
