-- Data that has no misfit suits the chip.
use Rattle.std.proofs.Common.{◌≡◌, ◌⊎◌, inl, inr, ℕ, zero, suc, ◌+◌, Bool, true, false, ◌&&◌, ◌||◌, List, [], ◌∷◌, ◌++◌, length, map, get_or, nat_eq, position, option_map, not, cond, Option, None, Some, is_some, refl, sym, ◌∙◌, ap, subst, eq-eqb, find, slice_get, filter, flat_map}
use Rattle.std.specs.List.{list_any}
use Rattle.std.proofs.lemmas.Bool.{cases_Bool, eqb-true, and_parts, or_parts}
use Rattle.std.proofs.lemmas.List.Folds.{list_any-append}
use Rattle.std.proofs.lemmas.List.Quantifiers.{position-Some}
use Rattle.std.proofs.lemmas.Option.{slice_get-map, slice_get-get_or, slice_get_within, get_or_from_slice_get}
use Rattle.soc_model.specs.declared.Test.{Test}
use Rattle.soc_model.specs.declared.TestId.{TestId}
use Rattle.soc_model.specs.Chips.{ModuleValue, SocValue, same_test}
use Rattle.soc_model.specs.Lookups.{module_place, test_places, with_test}
use Rattle.soc_model.specs.Modes.{is_tam}
use Rattle.soc_model.specs.SoundChips.{IsSoundChip, IsSoundModule}
use Rattle.soc_model.proofs.Places.{IsKeyed-from_sound, place-from_module, module-from_place, test_places-at}
use Rattle.plan_model.proofs.Lists.{in_append_right}
use Rattle.plan_model.proofs.Finding.{none_passes}
use Rattle.test_data.specs.declared.Misfit.{Misfit}
use Rattle.test_data.specs.declared.misfits.Wanted.{Wanted}
use Rattle.test_data.specs.DataWords.{PatternValue, EntryValue}
use Rattle.test_data.specs.Suiting.{wanted_for, wanted_by, tam_only, test_in, test_at, name_in, tam_names_in, tam_names, entry_names, has_name, misnamed_after, first_misnamed, first_missing, patterns_against, wrong_patterns, wrong_word, bits_against, wrong_bits, or_else, first_of, misnaming, misfit_of}
use Rattle.test_data.specs.Agreement.{IsTamTest, HasEntry, Suits}
use Rattle.common_lemmas.proofs.Tests.{not_true, not_false}
use Rattle.common_lemmas.proofs.Lists.{in_filter, from_map, at_left}

-- ---- names

pub same_id : (a b : TestId) → same_test a b ≡ true → a ≡ b
same_id a b e =
    let parts = and_parts (nat_eq a.«module» b.«module») (nat_eq a.test b.test) e in
    ap (λ (n : ℕ). record a { «module» = n }) (eqb-true a.«module» b.«module» parts.0) ∙ ap (λ (n : ℕ). record b { test = n }) (eqb-true a.test b.test parts.1)

pub id_itself : (a : TestId) → same_test a a ≡ true
id_itself a = rw (eq-eqb a.«module» a.«module» refl, eq-eqb a.test a.test refl) refl

-- ---- the rule of names

-- the names are of live tests over the wires, none of these stands before them, and no two are the same
record AreNamed (soc : SocValue) (before ns : List TestId) : Type 0 where
  known : (q : ℕ) (id : TestId) → slice_get ns q ≡ Some id → is_some (wanted_by soc id) ≡ true
  new : (q : ℕ) (id : TestId) → slice_get ns q ≡ Some id → has_name before id ≡ false
  differ : (p q : ℕ) (id : TestId) → slice_get ns p ≡ Some id → slice_get ns q ≡ Some id → p ≡ q

-- the first is right, and so are the others
first_right : (soc : SocValue) (before ids : List TestId) (id : TestId) → misnamed_after soc before (id ∷ ids) ≡ None →
    (is_some (wanted_by soc id) ≡ true) × (has_name before id ≡ false) × (misnamed_after soc (before ++ id ∷ []) ids ≡ None)
first_right soc before ids id none = by (cases_Bool (is_some (wanted_by soc id) && not (has_name before id)))
  where
    by : ((is_some (wanted_by soc id) && not (has_name before id)) ≡ true) ⊎ ((is_some (wanted_by soc id) && not (has_name before id)) ≡ false)
        → (is_some (wanted_by soc id) ≡ true) × (has_name before id ≡ false) × (misnamed_after soc (before ++ id ∷ []) ids ≡ None)
    by (inl y) = let parts = and_parts (is_some (wanted_by soc id)) (not (has_name before id)) y in (parts.0, not_true (has_name before id) parts.1, (rw y at none))
    by (inr n) = absurd (let f = rw n at none in cc)

are_named : (soc : SocValue) (before ns : List TestId) → misnamed_after soc before ns ≡ None → AreNamed soc before ns
are_named soc before [] none = record { known = λ q id at. absurd (nothing q id at); new = λ q id at. absurd (nothing q id at); differ = λ p q id at there. absurd (nothing p id at) }
  where
    nothing : (q : ℕ) (id : TestId) → slice_get {X = TestId} [] q ≡ Some id → ⊥
    nothing q id at = cc
are_named soc before (x ∷ xs) none =
    let f = first_right soc before xs x none in
    let rest = are_named soc (before ++ x ∷ []) xs f.2 in
    record { known = known f rest; new = new f rest; differ = differ rest }
  where
    apart : AreNamed soc (before ++ x ∷ []) xs → (q : ℕ) (id : TestId) → slice_get xs q ≡ Some id → (has_name before id ≡ false) × (list_any (same_test id) (x ∷ []) ≡ false)
    apart rest q id at = or_parts (has_name before id) (list_any (same_test id) (x ∷ [])) (sym (list_any-append (same_test id) before (x ∷ [])) ∙ rest.new q id at)

    known : (is_some (wanted_by soc x) ≡ true) × (has_name before x ≡ false) × (misnamed_after soc (before ++ x ∷ []) xs ≡ None) → AreNamed soc (before ++ x ∷ []) xs → (q : ℕ) (id : TestId) → slice_get (x ∷ xs) q ≡ Some id → is_some (wanted_by soc id) ≡ true
    known f rest zero id at = let same : x ≡ id = cc in ap (λ i. is_some (wanted_by soc i)) (sym same) ∙ f.0
    known f rest (suc q) id at = rest.known q id at

    new : (is_some (wanted_by soc x) ≡ true) × (has_name before x ≡ false) × (misnamed_after soc (before ++ x ∷ []) xs ≡ None) → AreNamed soc (before ++ x ∷ []) xs → (q : ℕ) (id : TestId) → slice_get (x ∷ xs) q ≡ Some id → has_name before id ≡ false
    new f rest zero id at = let same : x ≡ id = cc in ap (has_name before) (sym same) ∙ f.1
    new f rest (suc q) id at = (apart rest q id at).0

    not_first : AreNamed soc (before ++ x ∷ []) xs → (q : ℕ) (id : TestId) → x ≡ id → slice_get xs q ≡ Some id → ⊥
    not_first rest q id same at =
        let no : list_any (same_test id) (x ∷ []) ≡ false = (apart rest q id at).1 in
        let yes' : same_test id x ≡ true = ap (same_test id) same ∙ id_itself id in
        let no' : false ≡ true = sym (rw yes' at no) in
        cc

    differ : AreNamed soc (before ++ x ∷ []) xs → (p q : ℕ) (id : TestId) → slice_get (x ∷ xs) p ≡ Some id → slice_get (x ∷ xs) q ≡ Some id → p ≡ q
    differ rest zero zero id at there = refl
    differ rest zero (suc q) id at there = let same : x ≡ id = cc in absurd (not_first rest q id same there)
    differ rest (suc p) zero id at there = let same : x ≡ id = cc in absurd (not_first rest p id same at)
    differ rest (suc p) (suc q) id at there = ap suc (rest.differ p q id at there)

-- ---- lists in which nothing is found

find_none : {X : Type 0} (p : X → Bool) (xs : List X) → find p xs ≡ None → (q : ℕ) (x : X) → slice_get xs q ≡ Some x → p x ≡ false
find_none p [] none q x at = absurd cc
find_none {X = X} p (y ∷ xs) none q x at = by (cases_Bool (p y)) q at (find_none p xs)
  where
    by : (p y ≡ true) ⊎ (p y ≡ false) → (q : ℕ) → slice_get (y ∷ xs) q ≡ Some x → (find p xs ≡ None → (q : ℕ) (x : X) → slice_get xs q ≡ Some x → p x ≡ false) → p x ≡ false
    by (inl yes') q' at' rest = absurd (let f = rw yes' at none in cc)
    by (inr no') zero at' rest = let same : y ≡ x = cc in ap p (sym same) ∙ no'
    by (inr no') (suc q') at' rest = rest (rw no' at none) q' x at'

-- a name that is among names
named_at : (names : List TestId) (id : TestId) → has_name names id ≡ true → (q : ℕ) × (slice_get names q ≡ Some id)
named_at [] id e = absurd cc
named_at (n ∷ names) id e = by (cases_Bool (same_test id n)) (named_at names id)
  where
    by : (same_test id n ≡ true) ⊎ (same_test id n ≡ false) → (has_name names id ≡ true → (q : ℕ) × (slice_get names q ≡ Some id)) → (q : ℕ) × (slice_get (n ∷ names) q ≡ Some id)
    by (inl yes') rest = (0, ap Some (sym (same_id id n yes')))
    by (inr no') rest = let r = rest (rw no' at e) in (suc (r.0), r.1)

-- a name of a module is one of the chip
in_modules : (ms : List ModuleValue) (p : ℕ) (m : ModuleValue) (i : ℕ) (id : TestId) → slice_get ms p ≡ Some m → slice_get (tam_names_in m) i ≡ Some id → (j : ℕ) × (slice_get (flat_map tam_names_in ms) j ≡ Some id)
in_modules [] p m i id at there = absurd cc
in_modules (x ∷ ms) zero m i id at there = let same : x ≡ m = cc in (i, at_left (tam_names_in x) (flat_map tam_names_in ms) i id (ap (λ y. slice_get (tam_names_in y) i) same ∙ there))
in_modules (x ∷ ms) (suc p) m i id at there = let r = in_modules ms p m i id at there in in_append_right (tam_names_in x) (flat_map tam_names_in ms) r.0 id r.1

tam_name_at : (soc : SocValue) (m : ModuleValue) (t : Test) → IsTamTest soc m t → (j : ℕ) × (slice_get (tam_names soc) j ≡ Some (name_in m t))
tam_name_at soc m t is =
    let n = in_filter is_tam m.tests is.at t is.test_at is.tam in
    in_modules soc.modules is.place m n.0 (name_in m t) is.module_at (slice_get-map (name_in m) (filter is_tam m.tests) n.0 ∙ ap (option_map (name_in m)) n.1)

-- each live test over the wires is named, where none is missing
is_named : (soc : SocValue) (names : List TestId) → first_missing soc names ≡ None → (m : ModuleValue) (t : Test) → IsTamTest soc m t → (q : ℕ) × (slice_get names q ≡ Some (name_in m t))
is_named soc names none m t is =
    let j = tam_name_at soc m t is in
    named_at names (name_in m t) (not_false (has_name names (name_in m t)) (find_none (λ id. not (has_name names id)) (tam_names soc) none j.0 (name_in m t) j.1))

-- ---- what is wanted of a test

sound_module : (soc : SocValue) → IsSoundChip soc → (p : ℕ) (m : ModuleValue) → slice_get soc.modules p ≡ Some m → IsSoundModule m
sound_module soc sound p m at = subst IsSoundModule (get_or_from_slice_get soc.modules p m m at) (sound.modules p m (slice_get_within soc.modules p m at))

-- the first test of a number
test_position : (n : ℕ) (ts : List Test) (q : ℕ) (t : Test) → slice_get ts q ≡ Some t → t.number ≡ n → ((p q : ℕ) (x : ℕ) → slice_get (map (λ (t : Test). t.number) ts) p ≡ Some x → slice_get (map (λ (t : Test). t.number) ts) q ≡ Some x → p ≡ q) →
    (o : Option ℕ) → position (λ (t : Test). nat_eq n t.number) ts ≡ o → o ≡ Some q
test_position n ts q t at is differ None found =
    let no : nat_eq n t.number ≡ false = none_passes (λ (t : Test). nat_eq n t.number) ts found q t at in
    let yes' : nat_eq n t.number ≡ true = eq-eqb n t.number (sym is) in
    absurd cc
test_position n ts q t at is differ (Some p) found =
    let first = position-Some (λ (t : Test). nat_eq n t.number) ts p t found in
    let there : slice_get ts p ≡ Some (get_or ts p t) = slice_get-get_or ts p t first.0 in
    let number : n ≡ (get_or ts p t).number = eqb-true n (get_or ts p t).number first.1 in
    ap Some (differ p q n (slice_get-map (λ (t : Test). t.number) ts p ∙ ap (option_map (λ (t : Test). t.number)) there ∙ ap Some (sym number)) (slice_get-map (λ (t : Test). t.number) ts q ∙ ap (option_map (λ (t : Test). t.number)) at ∙ ap Some is))

pub places_of : (soc : SocValue) → IsSoundChip soc → (m : ModuleValue) (t : Test) → (is : IsTamTest soc m t) → test_places soc (name_in m t) ≡ Some (is.place, is.at)
places_of soc sound m t is =
    let placed = place-from_module (IsKeyed-from_sound sound) is.place m is.module_at in
    let found = test_position t.number m.tests is.at t is.test_at refl (sound_module soc sound is.place m is.module_at).tests_differ (position (λ (u : Test). nat_eq t.number u.number) m.tests) refl in
    test_places-at soc (name_in m t) is.place m placed is.module_at ∙ ap (option_map (λ (n : ℕ). (is.place, n))) found

pub wanted_is : (soc : SocValue) → IsSoundChip soc → (m : ModuleValue) (t : Test) → IsTamTest soc m t → wanted_by soc (name_in m t) ≡ Some (wanted_for m t)
unfolding wanted_by
wanted_is soc sound m t is =
    ap (test_at soc) (places_of soc sound m t is) ∙ ap (λ (o : Option ModuleValue). test_in o is.at) is.module_at ∙ ap (tam_only m) is.test_at ∙ ap (λ b. cond b (Some (wanted_for m t)) None) is.tam

-- ---- a name of which something is wanted is a live test's over the wires

record IsWantedTest (soc : SocValue) (id : TestId) : Type 0 where
  core : ModuleValue
  test : Test
  is : IsTamTest soc core test
  named : id ≡ name_in core test

test_of : (soc : SocValue) (id : TestId) (p n : ℕ) (m : ModuleValue) → slice_get soc.modules p ≡ Some m → m.number ≡ id.«module» → position (λ (t : Test). nat_eq id.test t.number) m.tests ≡ Some n →
    (o : Option Test) → slice_get m.tests n ≡ o → is_some (tam_only m o) ≡ true → IsWantedTest soc id
test_of soc id p n m at number found None there some = absurd cc
test_of soc id p n m at number found (Some t) there some = by (cases_Bool (is_tam t))
  where
    same : id.test ≡ t.number
    same =
        let first = position-Some (λ (t : Test). nat_eq id.test t.number) m.tests n t found in
        eqb-true id.test (get_or m.tests n t).number first.1 ∙ ap (λ (u : Test). u.number) (get_or_from_slice_get m.tests n t t there)

    by : (is_tam t ≡ true) ⊎ (is_tam t ≡ false) → IsWantedTest soc id
    by (inl yes') = record {
      core = m;
      test = t;
      is = record { place = p; module_at = at; at = n; test_at = there; tam = yes' };
      named = ap (λ (x : ℕ). record id { «module» = x }) (sym number) ∙ ap (λ (x : ℕ). record (name_in m t) { test = x }) same;
    }
    by (inr no') = absurd (let f = rw no' at some in cc)

test_in_module : (soc : SocValue) (id : TestId) (p : ℕ) (m : ModuleValue) → slice_get soc.modules p ≡ Some m → m.number ≡ id.«module» → (o : Option ℕ) → position (λ (t : Test). nat_eq id.test t.number) m.tests ≡ o →
    is_some (test_at soc (option_map (λ (n : ℕ). (p, n)) o)) ≡ true → IsWantedTest soc id
test_in_module soc id p m at number None found some = absurd cc
test_in_module soc id p m at number (Some n) found some = test_of soc id p n m at number found (slice_get m.tests n) refl (ap (λ (o : Option ModuleValue). is_some (test_in o n)) (sym at) ∙ some)

wanted_test : (soc : SocValue) → IsSoundChip soc → (id : TestId) → is_some (wanted_by soc id) ≡ true → IsWantedTest soc id
unfolding wanted_by
wanted_test soc sound id some = by (module_place soc id.«module») refl
  where
    by : (o : Option ℕ) → module_place soc id.«module» ≡ o → IsWantedTest soc id
    by None none = absurd (let f : is_some (test_at soc (with_test soc id None)) ≡ true = ap (λ (o : Option ℕ). is_some (test_at soc (with_test soc id o))) (sym none) ∙ some in cc)
    by (Some p) found =
        let m = module-from_place (IsKeyed-from_sound sound) id.«module» p found in
        test_in_module soc id p m.0 m.1 m.2 (position (λ (t : Test). nat_eq id.test t.number) m.0.tests) refl
        (ap (λ (o : Option (ℕ × ℕ)). is_some (test_at soc o)) (sym (test_places-at soc id p m.0 found m.1)) ∙ some)

-- ---- the rules of patterns and of bits

both_none : (a b : Option Misfit) → or_else a b ≡ None → (a ≡ None) × (b ≡ None)
both_none None b e = (refl, e)
both_none (Some m) b e = absurd cc

no_name : (o : Option TestId) → misnaming o ≡ None → o ≡ None
no_name None e = refl
no_name (Some id) e = absurd cc

none_of : (f : EntryValue → Option Misfit) (es : List EntryValue) → first_of f es ≡ None → (q : ℕ) (e : EntryValue) → slice_get es q ≡ Some e → f e ≡ None
none_of f [] none q e at = absurd cc
none_of f (x ∷ es) none zero e at = let same : x ≡ e = cc in ap f (sym same) ∙ (both_none (f x) (first_of f es) none).0
none_of f (x ∷ es) none (suc q) e at = none_of f es (both_none (f x) (first_of f es) none).1 q e at

right_patterns : (e : EntryValue) (w : Wanted) → patterns_against e (Some w) ≡ None → length e.patterns ≡ w.patterns
right_patterns e w none = by (cases_Bool (nat_eq (length e.patterns) w.patterns))
  where
    by : (nat_eq (length e.patterns) w.patterns ≡ true) ⊎ (nat_eq (length e.patterns) w.patterns ≡ false) → length e.patterns ≡ w.patterns
    by (inl y) = eqb-true (length e.patterns) w.patterns y
    by (inr n) = absurd (let f = rw n at none in cc)

first_words : (id : TestId) (w : Wanted) (k : ℕ) (p : PatternValue) (ps : List PatternValue) → wrong_word id w k (p ∷ ps) ≡ None →
    (length p.load ≡ w.load) × (length p.unload ≡ w.unload) × (wrong_word id w (k + 1) ps ≡ None)
first_words id w k p ps none = by (cases_Bool (nat_eq (length p.load) w.load)) (cases_Bool (nat_eq (length p.unload) w.unload))
  where
    by : (nat_eq (length p.load) w.load ≡ true) ⊎ (nat_eq (length p.load) w.load ≡ false) → (nat_eq (length p.unload) w.unload ≡ true) ⊎ (nat_eq (length p.unload) w.unload ≡ false)
        → (length p.load ≡ w.load) × (length p.unload ≡ w.unload) × (wrong_word id w (k + 1) ps ≡ None)
    by (inl y) (inl z) = (eqb-true (length p.load) w.load y, eqb-true (length p.unload) w.unload z, (rw (y, z) at none))
    by (inl y) (inr n) = absurd (let f = rw (y, n) at none in cc)
    by (inr n) z = absurd (let f = rw n at none in cc)

right_words : (id : TestId) (w : Wanted) (k : ℕ) (ps : List PatternValue) → wrong_word id w k ps ≡ None → (j : ℕ) (p : PatternValue) → slice_get ps j ≡ Some p → (length p.load ≡ w.load) × (length p.unload ≡ w.unload)
right_words id w k [] none j p at = absurd cc
right_words id w k (x ∷ ps) none zero p at =
    let same : x ≡ p = cc in
    let f = first_words id w k x ps none in
    (ap (λ (y : PatternValue). length y.load) (sym same) ∙ f.0, ap (λ (y : PatternValue). length y.unload) (sym same) ∙ f.1)
right_words id w k (x ∷ ps) none (suc j) p at = right_words id w (k + 1) ps (first_words id w k x ps none).2 j p at

-- ---- all rules

record NoMisfit (soc : SocValue) (es : List EntryValue) : Type 0 where
  named : first_misnamed soc (entry_names es) ≡ None
  missing : first_missing soc (entry_names es) ≡ None
  patterns : first_of (wrong_patterns soc) es ≡ None
  bits : first_of (wrong_bits soc) es ≡ None

no_misfit : (soc : SocValue) (es : List EntryValue) → misfit_of soc es ≡ None → NoMisfit soc es
no_misfit soc es none =
    let a = both_none (misnaming (first_misnamed soc (entry_names es))) (or_else (misnaming (first_missing soc (entry_names es))) (or_else (first_of (wrong_patterns soc) es) (first_of (wrong_bits soc) es))) none in
    let b = both_none (misnaming (first_missing soc (entry_names es))) (or_else (first_of (wrong_patterns soc) es) (first_of (wrong_bits soc) es)) a.1 in
    let c = both_none (first_of (wrong_patterns soc) es) (first_of (wrong_bits soc) es) b.1 in
    record { named = no_name (first_misnamed soc (entry_names es)) a.0; missing = no_name (first_missing soc (entry_names es)) b.0; patterns = c.0; bits = c.1 }

entry_name_at : (es : List EntryValue) (q : ℕ) (e : EntryValue) → slice_get es q ≡ Some e → slice_get (entry_names es) q ≡ Some e.test
entry_name_at es q e at = slice_get-map (λ (e : EntryValue). e.test) es q ∙ ap (option_map (λ (e : EntryValue). e.test)) at

has_its_entry : (soc : SocValue) (es : List EntryValue) → IsSoundChip soc → NoMisfit soc es → (m : ModuleValue) (t : Test) → IsTamTest soc m t → HasEntry es m t
has_its_entry soc es sound none m t is =
    let q = is_named soc (entry_names es) none.missing m t is in
    let e = from_map (λ (e : EntryValue). e.test) es q.0 (name_in m t) q.1 in
    let wanted : wanted_by soc e.0.test ≡ Some (wanted_for m t) = ap (wanted_by soc) e.2 ∙ wanted_is soc sound m t is in
    let right = right_patterns e.0 (wanted_for m t) (ap (patterns_against e.0) (sym wanted) ∙ none_of (wrong_patterns soc) es none.patterns q.0 e.0 e.1) in
    let words = right_words e.0.test (wanted_for m t) 1 e.0.patterns (ap (bits_against e.0) (sym wanted) ∙ none_of (wrong_bits soc) es none.bits q.0 e.0 e.1) in
    record {
      place = q.0;
      entry = e.0;
      at = e.1;
      named = e.2;
      only = λ p other there name. (are_named soc [] (entry_names es) none.named).differ p q.0 (name_in m t) (entry_name_at es p other there ∙ ap Some name) q.1;
      patterns = right;
      words = λ k p there. let w = words k p there in record { load = w.0; unload = w.1 };
    }

-- data without a misfit suits
pub suits : (soc : SocValue) (es : List EntryValue) → IsSoundChip soc → misfit_of soc es ≡ None → Suits soc es
suits soc es sound e =
    let none = no_misfit soc es e in
    record {
      each = λ m t is. has_its_entry soc es sound none m t is;
      only = λ q entry at.
          let w = wanted_test soc sound entry.test ((are_named soc [] (entry_names es) none.named).known q entry.test (entry_name_at es q entry at)) in
          record { core = w.core; test = w.test; is = w.is; named = w.named };
    }
