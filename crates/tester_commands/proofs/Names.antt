-- The names of the live tests over the wires of a sound chip: none stands twice.
use Rattle.std.proofs.Common.{◌≡◌, ◌⊎◌, inl, inr, ℕ, suc, Bool, true, false, not, ◌&&◌, ◌||◌, List, [], ◌∷◌, ◌++◌, map, nat_eq, Some, None, Option, option_map, is_some, refl, sym, ◌∙◌, ap, subst, arith, append_assoc, slice_get, find, filter, flat_map}
use Rattle.std.proofs.lemmas.Bool.{cases_Bool, ne_eqb, or_parts}
use Rattle.std.proofs.lemmas.List.Folds.{list_any-append}
use Rattle.std.proofs.lemmas.Option.{slice_get-map}
use Rattle.soc_model.specs.declared.Test.{Test}
use Rattle.soc_model.specs.declared.TestId.{TestId}
use Rattle.soc_model.specs.Chips.{ModuleValue, SocValue, same_test}
use Rattle.soc_model.specs.Modes.{is_tam}
use Rattle.soc_model.specs.SoundChips.{AllDiffer}
use Rattle.test_data.specs.Suiting.{name_in, tam_names_in, has_name, misnamed_after, wanted_by}
use Rattle.test_data.proofs.SuitedData.{id_itself}
use Rattle.common_lemmas.proofs.Tests.{eq_turned}

-- each name has none of its kind behind it
pub AreNew : List TestId → Type 0
AreNew [] = Unit {0}
AreNew (id ∷ ids) = (has_name ids id ≡ false) × AreNew ids

-- no name of the second list is among the first
pub AreAbsent : (before ids : List TestId) → Type 0
AreAbsent before [] = Unit {0}
AreAbsent before (id ∷ ids) = (has_name before id ≡ false) × AreAbsent before ids

both_false : (a b : Bool) → a ≡ false → b ≡ false → (a || b) ≡ false
both_false a b e f = rw (e, f) refl

swapped : (a b : TestId) → same_test a b ≡ same_test b a
swapped a b = rw (eq_turned a.«module» b.«module», eq_turned a.test b.test) refl

-- ---- no name twice is no misnaming

absent_more : (before ids : List TestId) (id : TestId) → AreAbsent before ids → has_name ids id ≡ false → AreAbsent (before ++ id ∷ []) ids
unfolding AreAbsent
absent_more before [] id absent new = tt
absent_more before (x ∷ xs) id absent new =
    let parts = or_parts (same_test id x) (has_name xs id) new in
    let here : has_name (before ++ id ∷ []) x ≡ false = list_any-append (same_test x) before (id ∷ []) ∙ both_false (has_name before x) (same_test x id || false) absent.0 (both_false (same_test x id) false (swapped x id ∙ parts.0) refl) in
    (here, absent_more before xs id absent.1 parts.1)

pub named_right : (soc : SocValue) (before ids : List TestId) → ((q : ℕ) (id : TestId) → slice_get ids q ≡ Some id → is_some (wanted_by soc id) ≡ true) → AreNew ids → AreAbsent before ids → misnamed_after soc before ids ≡ None
unfolding AreNew AreAbsent
named_right soc before [] known new absent = refl
named_right soc before (id ∷ ids) known new absent =
    rw (known 0 id refl, absent.0) (named_right soc (before ++ id ∷ []) ids (λ q x at. known (suc q) x at) new.1 (absent_more before ids id absent.1 new.0))

pub none_before : (ids : List TestId) → AreAbsent [] ids
unfolding AreAbsent
none_before [] = tt
none_before (id ∷ ids) = (refl, none_before ids)

-- ---- none is missing among themselves

missing_none : (front ids : List TestId) → find (λ id. not (has_name (front ++ ids) id)) ids ≡ None
missing_none front [] = refl
missing_none front (id ∷ ids) =
    let there : has_name (front ++ id ∷ ids) id ≡ true = list_any-append (same_test id) front (id ∷ ids) ∙ rw (id_itself id) (or_true (has_name front id)) in
    let others : find (λ x. not (has_name ((front ++ id ∷ []) ++ ids) x)) ids ≡ None = missing_none (front ++ id ∷ []) ids in
    rw there (subst (λ all. find (λ x. not (has_name all x)) ids ≡ None) (append_assoc front (id ∷ []) ids) others)
  where
    or_true : (a : Bool) → (a || true) ≡ true
    or_true true = refl
    or_true false = refl

pub none_missing : (ids : List TestId) → find (λ id. not (has_name ids id)) ids ≡ None
none_missing ids = missing_none [] ids

-- ---- the names of a chip

-- a name of another module is none of a module's
other_module : (m : ModuleValue) (ts : List Test) (id : TestId) → nat_eq id.«module» m.number ≡ false → has_name (map (name_in m) (filter is_tam ts)) id ≡ false
other_module m [] id other = refl
other_module m (t ∷ ts) id other = by (cases_Bool (is_tam t)) (other_module m ts id other)
  where
    by : (is_tam t ≡ true) ⊎ (is_tam t ≡ false) → has_name (map (name_in m) (filter is_tam ts)) id ≡ false → has_name (map (name_in m) (filter is_tam (t ∷ ts))) id ≡ false
    by (inl yes') rest = rw (yes', other) rest
    by (inr no') rest = rw no' rest

other_modules : (ms : List ModuleValue) (id : TestId) → ((q : ℕ) (m : ModuleValue) → slice_get ms q ≡ Some m → nat_eq id.«module» m.number ≡ false) → has_name (flat_map tam_names_in ms) id ≡ false
other_modules [] id other = refl
other_modules (m ∷ ms) id other =
    list_any-append (same_test id) (tam_names_in m) (flat_map tam_names_in ms)
    ∙ both_false (has_name (tam_names_in m) id) (has_name (flat_map tam_names_in ms) id) (other_module m m.tests id (other 0 m refl)) (other_modules ms id (λ q x at. other (suc q) x at))

other_test : (m : ModuleValue) (ts : List Test) (id : TestId) → ((q : ℕ) (t : Test) → slice_get ts q ≡ Some t → nat_eq id.test t.number ≡ false) → has_name (map (name_in m) (filter is_tam ts)) id ≡ false
other_test m [] id other = refl
other_test m (t ∷ ts) id other = by (cases_Bool (is_tam t)) (other_test m ts id (λ q x at. other (suc q) x at))
  where
    none : (a b : Bool) → b ≡ false → (a && b) ≡ false
    none true b e = e
    none false b e = refl

    by : (is_tam t ≡ true) ⊎ (is_tam t ≡ false) → has_name (map (name_in m) (filter is_tam ts)) id ≡ false → has_name (map (name_in m) (filter is_tam (t ∷ ts))) id ≡ false
    by (inl yes') rest = rw yes' (both_false (same_test id (name_in m t)) (has_name (map (name_in m) (filter is_tam ts)) id) (none (nat_eq id.«module» m.number) (nat_eq id.test t.number) (other 0 t refl)) rest)
    by (inr no') rest = rw no' rest

differ_tail : (n : ℕ) (ns : List ℕ) → AllDiffer (n ∷ ns) → AllDiffer ns
differ_tail n ns d p q k a b = let e : suc p ≡ suc q = d (suc p) (suc q) k a b in omega arith

-- a number at the front stands nowhere behind
no_other : {X : Type 0} (number : X → ℕ) (x : X) (xs : List X) → AllDiffer (map number (x ∷ xs)) → (q : ℕ) (y : X) → slice_get xs q ≡ Some y → nat_eq (number x) (number y) ≡ false
no_other {X} number x xs d q y at = ne_eqb (number x) (number y) (λ same.
    let there : slice_get (map number xs) q ≡ Some (number x) = slice_get-map number xs q ∙ ap (option_map number) at ∙ ap Some (sym same) in
    let e : 0 ≡ suc q = d 0 (suc q) (number x) refl there in
    cc)

tests_new : (m : ModuleValue) (ts : List Test) → AllDiffer (map (λ (t : Test). t.number) ts) → AreNew (map (name_in m) (filter is_tam ts))
unfolding AreNew
tests_new m [] d = tt
tests_new m (t ∷ ts) d = by (cases_Bool (is_tam t)) (tests_new m ts (differ_tail t.number (map (λ (t : Test). t.number) ts) d))
  where
    by : (is_tam t ≡ true) ⊎ (is_tam t ≡ false) → AreNew (map (name_in m) (filter is_tam ts)) → AreNew (map (name_in m) (filter is_tam (t ∷ ts)))
    by (inl yes') rest = rw yes' (other_test m ts (name_in m t) (no_other (λ (t : Test). t.number) t ts d), rest)
    by (inr no') rest = rw no' rest

new_append : (xs ys : List TestId) → AreNew xs → AreNew ys → ((q : ℕ) (id : TestId) → slice_get xs q ≡ Some id → has_name ys id ≡ false) → AreNew (xs ++ ys)
unfolding AreNew
new_append [] ys a b apart = b
new_append (x ∷ xs) ys a b apart =
    (list_any-append (same_test x) xs ys ∙ both_false (has_name xs x) (has_name ys x) a.0 (apart 0 x refl), new_append xs ys a.1 b (λ q id at. apart (suc q) id at))

-- each name of a module has its number
of_module : (m : ModuleValue) (ts : List Test) (q : ℕ) (id : TestId) → slice_get (map (name_in m) (filter is_tam ts)) q ≡ Some id → id.«module» ≡ m.number
of_module m ts q id at = by (slice_get (filter is_tam ts) q) (sym (slice_get-map (name_in m) (filter is_tam ts) q) ∙ at)
  where
    by : (o : Option Test) → option_map (name_in m) o ≡ Some id → id.«module» ≡ m.number
    by None e = cc
    by (Some t) e = let same : name_in m t ≡ id = cc in ap (λ (i : TestId). i.«module») (sym same)

pub names_new : (ms : List ModuleValue) → AllDiffer (map (λ (m : ModuleValue). m.number) ms) → ((q : ℕ) (m : ModuleValue) → slice_get ms q ≡ Some m → AllDiffer (map (λ (t : Test). t.number) m.tests)) → AreNew (flat_map tam_names_in ms)
unfolding AreNew
names_new [] d tests = tt
names_new (m ∷ ms) d tests =
    new_append (tam_names_in m) (flat_map tam_names_in ms) (tests_new m m.tests (tests 0 m refl))
    (names_new ms (differ_tail m.number (map (λ (m : ModuleValue). m.number) ms) d) (λ q x at. tests (suc q) x at))
    (λ q id at. other_modules ms id (λ p x there. ap (λ n. nat_eq n x.number) (of_module m m.tests q id at) ∙ no_other (λ (m : ModuleValue). m.number) m ms d p x there))
