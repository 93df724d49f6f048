-- A live test by its name stands in the module of its module's number.
use Rattle.std.proofs.Common.{◌≡◌, ◌≢◌, ℕ, zero, suc, ◌+◌, ◌≤◌, Bool, true, eqb, Option, Some, None, is_some, option_map, List, [], ◌∷◌, map, refl, ap, ◌∙◌, sym, arith, inl, inr}
use Rattle.std.specs.Prelude.{slice_get, nat_eq}
use Rattle.std.specs.List.{find, filter}
use Rattle.std.specs.Option.{option_or, unwrap_or, IfSome}
use Rattle.std.proofs.lemmas.Bool.{cases_Bool, eq-eqb, ne_eqb, and_parts}
use Rattle.std.proofs.lemmas.List.Folds.{find-append}
use Rattle.std.proofs.lemmas.Option.{same_Some}
use Rattle.soc_model.specs.declared.Test.{Test}
use Rattle.soc_model.specs.declared.TestId.{TestId}
use Rattle.soc_model.specs.Chips.{ModuleValue, SocValue, LiveTest, is_live, live_of, live_from, live_tests}
use Rattle.soc_model.specs.SoundChips.{IsSoundChip}
use Rattle.soc_model.specs.Lookups.{module_place}
use Rattle.soc_model.proofs.Places.{IsKeyed, IsKeyed-from_sound, module-from_place, no_module-from_place, module-unique}
use Rattle.plan_model.specs.Bounds.{lower}
use Rattle.plan_model.specs.Plans.{of_first}
use Rattle.plan_model.specs.Certificates.{is_called, lower_of_id, on}
use Rattle.bound_rules.specs.Named.{is_named}
use Rattle.bound_rules.specs.declared.sizes.Sizes.{Sizes}
use Rattle.bound_rules.specs.Sizes.{work_by, works_by}
use Rattle.bound_rules.proofs.Works.{item_work, live_patterns}
use Rattle.bound_rules.proofs.Modules.{the_live}
use Rattle.common_lemmas.proofs.Lists.{found_at}

-- in its own module
find_in : (id : TestId) (p : ℕ) (m : ModuleValue) → m.number ≡ id.module → (ts : List Test) → find (is_called id) (map (the_live p m) (filter is_live ts)) ≡ option_map (the_live p m) (find (is_named id.test) ts)
find_in id p m same [] = refl
find_in id p m same (t ∷ ts) = elim (cases_Bool (is_live t)) [
  | inr no' ↦ rw no' (find_in id p m same ts)
  | inl yes' ↦ elim (cases_Bool (eqb t.number id.test)) [
    | inl here ↦ rw (yes', eq-eqb m.number id.module same, here) refl
    | inr other ↦ rw (yes', eq-eqb m.number id.module same, other) (find_in id p m same ts)
  ]
]

-- in any other
find_out : (id : TestId) (p : ℕ) (m : ModuleValue) → m.number ≢ id.module → (ts : List Test) → find (is_called id) (map (the_live p m) ts) ≡ None
find_out id p m other [] = refl
find_out id p m other (t ∷ ts) = rw (ne_eqb m.number id.module other) (find_out id p m other ts)

-- a module of the list has another number
abbrev pub NoneHas : ℕ → List ModuleValue → Type 0
NoneHas number ms = (q : ℕ) (n : ModuleValue) → slice_get ms q ≡ Some n → n.number ≢ number

find_nowhere : (id : TestId) (base : ℕ) (ms : List ModuleValue) → NoneHas id.module ms → find (is_called id) (live_from base ms) ≡ None
unfolding live_from
find_nowhere id base [] none = refl
find_nowhere id base (m ∷ ms) none =
    let here : find (is_called id) (live_of base m) ≡ None = find_out id base m (none 0 m refl) (filter is_live m.tests) in
    let rest : find (is_called id) (live_from (base + 1) ms) ≡ None = find_nowhere id (base + 1) ms (λ q n at. none (suc q) n at) in
    find-append (is_called id) (live_of base m) (live_from (base + 1) ms) ∙ rw (here, rest) refl

find_there : (id : TestId) (base up p : ℕ) (ms : List ModuleValue) (m : ModuleValue) → slice_get ms up ≡ Some m → p ≡ base + up → m.number ≡ id.module →
    ((q : ℕ) (n : ModuleValue) → slice_get ms q ≡ Some n → n.number ≡ id.module → q ≡ up) → find (is_called id) (live_from base ms) ≡ option_map (the_live p m) (find (is_named id.test) m.tests)
unfolding live_from
find_there id base up p [] m at is same only = absurd cc
find_there id base zero p (x ∷ ms) m at is same only =
    let this : x ≡ m = cc in
    let place : base ≡ p = omega arith in
    let here : find (is_called id) (live_of base x) ≡ option_map (the_live p m) (find (is_named id.test) m.tests) = rw (this, place) (find_in id p m same m.tests) in
    let rest : find (is_called id) (live_from (base + 1) ms) ≡ None = find_nowhere id (base + 1) ms (λ q n at' e. let wrong : suc q ≡ 0 = only (suc q) n at' e in omega arith) in
    find-append (is_called id) (live_of base x) (live_from (base + 1) ms) ∙ rw (here, rest) (or_none (option_map (the_live p m) (find (is_named id.test) m.tests)))
  where
    or_none : {X : Type 0} (o : Option X) → option_or o None ≡ o
    or_none None = refl
    or_none (Some x) = refl
find_there id base (suc up) p (x ∷ ms) m at is same only =
    let here : find (is_called id) (live_of base x) ≡ None = find_out id base x (λ e. let wrong : 0 ≡ suc up = only 0 x refl e in omega arith) (filter is_live x.tests) in
    let rest : find (is_called id) (live_from (base + 1) ms) ≡ option_map (the_live p m) (find (is_named id.test) m.tests) =
    find_there id (base + 1) up p ms m at (omega arith) same (λ q n at' e. let q' : suc q ≡ suc up = only (suc q) n at' e in omega arith) in
    find-append (is_called id) (live_of base x) (live_from (base + 1) ms) ∙ rw (here, rest) refl

-- ---- by the place of its module

pub named_at : (soc : SocValue) (id : TestId) (p : ℕ) (m : ModuleValue) → IsSoundChip soc → module_place soc id.module ≡ Some p → slice_get soc.modules p ≡ Some m →
    find (is_called id) (live_tests soc) ≡ option_map (the_live p m) (find (is_named id.test) m.tests)
named_at soc id p m sound place at =
    let keyed : IsKeyed soc = IsKeyed-from_sound sound in
    let there = module-from_place keyed id.module p place in
    let same_module : there.0 ≡ m = same_Some there.0 m (sym there.1 ∙ at) in
    let same : m.number ≡ id.module = rw same_module at there.2 in
    find_there id 0 p p soc.modules m at (omega arith) same (λ q n at' e. module-unique keyed q p n m at' at (e ∙ sym same))

pub named_nowhere : (soc : SocValue) (id : TestId) → IsSoundChip soc → module_place soc id.module ≡ None → find (is_called id) (live_tests soc) ≡ None
named_nowhere soc id sound none = find_nowhere id 0 soc.modules (no_module-from_place (IsKeyed-from_sound sound) id.module none)

-- the value of a test by its name
pub value_named : (soc : SocValue) (w : ℕ) (id : TestId) → lower_of_id soc w id ≡ on (find (is_called id) (live_tests soc)) (lower w)
value_named soc w id = go (live_tests soc) where
  go : (ls : List LiveTest) → of_first (is_called id) (lower w) 0 ls ≡ on (find (is_called id) ls) (lower w)
  go [] = refl
  go (l ∷ ls) = elim (cases_Bool (is_called id l)) [ inl yes' ↦ rw yes' refl | inr no' ↦ rw no' (go ls) ]

-- the time that was found, or 0
pub time_or_zero : (soc : SocValue) (w : ℕ) (id : TestId) (o : Option ℕ) → o ≡ option_map (lower w) (find (is_called id) (live_tests soc)) → lower_of_id soc w id ≡ unwrap_or o 0
time_or_zero soc w id o is = value_named soc w id ∙ go (find (is_called id) (live_tests soc)) ∙ ap (λ o. unwrap_or o 0) (sym is) where
  go : (f : Option LiveTest) → on f (lower w) ≡ unwrap_or (option_map (lower w) f) 0
  go None = refl
  go (Some l) = refl

pub or_zero-le : (o : Option ℕ) (k : ℕ) → IfSome o (λ n. n ≤ k) → unwrap_or o 0 ≤ k
or_zero-le None k few = omega arith
or_zero-le (Some n) k few = few

pub found_work : (s : Sizes) (number : ℕ) (ts : List Test) (t : Test) → Some t ≡ find (is_named number) ts → (1 ≤ t.patterns) × (work_by s t ≤ works_by s ts)
found_work s number ts t found =
    let q = found_at (is_named number) ts t (sym found) in
    let live : is_live t ≡ true = (and_parts (is_live t) (nat_eq t.number number) q.2).0 in
    (live_patterns t live, item_work s ts q.0 t q.1 live)

pub found_some : {X : Type 0} (p : X → Bool) (xs : List X) (k : ℕ) (x : X) → slice_get xs k ≡ Some x → p x ≡ true → is_some (find p xs) ≡ true
found_some p [] k x at yes' = absurd cc
found_some p (y ∷ xs) zero x at yes' = let same : y ≡ x = cc in rw (same, yes') refl
found_some p (y ∷ xs) (suc k) x at yes' = elim (cases_Bool (p y)) [
  | inl here ↦ rw here refl
  | inr later ↦ rw later (found_some p xs k x at yes')
]
