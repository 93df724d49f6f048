-- The live tests of a plan, module by module and test by test.
use Rattle.std.proofs.Common.{◌≡◌, ℕ, suc, ◌+◌, ◌<◌, ◌≤◌, Bool, true, false, Some, List, [], ◌∷◌, ◌++◌, length, map, take, drop, refl, ap, ◌∙◌, sym, arith, append-nil, append_assoc, slice_get, filter, flat_map}
use Rattle.std.specs.List.{list_any}
use Rattle.std.proofs.Math.Seq.{split_at, drop-cons}
use Rattle.std.proofs.lemmas.List.{length-append, length-map, map-append, take_more}
use Rattle.std.proofs.lemmas.List.Elements.{filter-append}
use Rattle.std.proofs.lemmas.Option.{slice_get_within, get_or_from_slice_get}
use Rattle.soc_model.specs.declared.TestId.{TestId}
use Rattle.soc_model.specs.declared.Test.{Test}
use Rattle.soc_model.specs.Chips.{ModuleValue, SocValue, LiveTest, id_of, live_from, live_tests, same_test}
use Rattle.plan_model.specs.Plans.{PlanValue, planned, planned_test}
use Rattle.live_tests.specs.Names.{AllDiffer, names_in}
use Rattle.live_tests.specs.Placed.{placed_in, placed_of, placed_tests}
use Rattle.live_tests.specs.declared.placed.PlacedTest.{PlacedTest}
use Rattle.live_tests.proofs.Placing.{module_more, names_placed, placed_live, the_live}
use Rattle.plan_model.specs.Rules.{live_ids}
use Rattle.plan_checker.proofs.Firsts.{get_behind}
use Rattle.plan_checker.proofs.Rooms.{same_test_is}
use Rattle.common_lemmas.proofs.Lists.{any_at, at_left, map_at}

-- ---- what passes at the front of a list

pub front_taken : {X Y : Type 0} (f : X → Y) (p : X → Bool) (xs : List X) (k : ℕ) (x : X) → slice_get xs k ≡ Some x → p x ≡ true → map f (filter p (take (k + 1) xs)) ≡ map f (filter p (take k xs)) ++ f x ∷ []
front_taken f p xs k x at passes =
    ap (λ l. map f (filter p l)) (take_more xs k x (slice_get_within xs k x at) ∙ ap (λ v. take k xs ++ v ∷ []) (get_or_from_slice_get xs k x x at))
    ∙ ap (map f) (filter-append p (take k xs) (x ∷ [])) ∙ map-append f (filter p (take k xs)) (filter p (x ∷ [])) ∙ rw passes refl

pub front_left : {X Y : Type 0} (f : X → Y) (p : X → Bool) (xs : List X) (k : ℕ) (x : X) → slice_get xs k ≡ Some x → p x ≡ false → map f (filter p (take (k + 1) xs)) ≡ map f (filter p (take k xs))
front_left f p xs k x at fails =
    ap (λ l. map f (filter p l)) (take_more xs k x (slice_get_within xs k x at) ∙ ap (λ v. take k xs ++ v ∷ []) (get_or_from_slice_get xs k x x at))
    ∙ ap (map f) (filter-append p (take k xs) (x ∷ [])) ∙ map-append f (filter p (take k xs)) (filter p (x ∷ [])) ∙ rw fails (append-nil (map f (filter p (take k xs))))

-- what passes, cut around an item that does
pub passing_split : {X Y : Type 0} (f : X → Y) (p : X → Bool) (xs : List X) (k : ℕ) (x : X) → slice_get xs k ≡ Some x → p x ≡ true → map f (filter p xs) ≡ map f (filter p (take k xs)) ++ f x ∷ map f (filter p (drop (suc k) xs))
passing_split f p xs k x at passes =
    ap (λ l. map f (filter p l)) (split_at xs k x (slice_get_within xs k x at) ∙ ap (λ v. take k xs ++ v ∷ drop (suc k) xs) (get_or_from_slice_get xs k x x at))
    ∙ ap (map f) (filter-append p (take k xs) (x ∷ drop (suc k) xs)) ∙ map-append f (filter p (take k xs)) (filter p (x ∷ drop (suc k) xs)) ∙ rw passes refl

pub passing_room : {X Y : Type 0} (f : X → Y) (p : X → Bool) (xs : List X) (k : ℕ) (x : X) → slice_get xs k ≡ Some x → p x ≡ true → length (map f (filter p (take k xs))) + 1 ≤ length (map f (filter p xs))
passing_room f p xs k x at passes =
    let e = ap length (passing_split f p xs k x at passes) in
    omega (arith, simp length-append at e)

-- where what passes has room behind `done`, the next one does
pub passing_within : {X Y : Type 0} (f : X → Y) (p : X → Bool) (xs : List X) (k : ℕ) (x : X) (done next n : ℕ) → slice_get xs k ≡ Some x → p x ≡ true → next ≡ done + length (map f (filter p (take k xs))) → done + length (map f (filter p xs)) ≤ n → next < n
passing_within f p xs k x done next n at passes is room = omega (arith, passing_room f p xs k x at passes, is, room)

-- it stands behind those before it
pub passing_at : {X Y : Type 0} (f : X → Y) (p : X → Bool) (xs : List X) (k : ℕ) (x : X) → slice_get xs k ≡ Some x → p x ≡ true → slice_get (map f (filter p xs)) (length (map f (filter p (take k xs)))) ≡ Some (f x)
passing_at f p xs k x at passes = ap (λ l. slice_get l (length (map f (filter p (take k xs))))) (passing_split f p xs k x at passes) ∙ middle (map f (filter p (take k xs))) (f x) (map f (filter p (drop (suc k) xs))) where
  middle : {Y : Type 0} (xs : List Y) (y : Y) (ys : List Y) → slice_get (xs ++ y ∷ ys) (length xs) ≡ Some y
  middle [] y ys = refl
  middle (x ∷ xs) y ys = middle xs y ys

-- ---- names

differ_front : {X : Type 0} (xs ys : List X) → AllDiffer (xs ++ ys) → AllDiffer xs
differ_front xs ys differ p q x at there = differ p q x (at_left xs ys p x at) (at_left xs ys q x there)

-- where names differ, the next one isn't among those before it
pub name_new : (names rest all : List TestId) (id : TestId) → AllDiffer all → all ≡ names ++ id ∷ rest → list_any (same_test id) names ≡ false
name_new names rest all id differ is = by (list_any (same_test id) names) refl
  where
    here : (names : List TestId) → slice_get (names ++ id ∷ rest) (length names) ≡ Some id
    here [] = refl
    here (n ∷ names) = here names

    by : (b : Bool) → list_any (same_test id) names ≡ b → b ≡ false
    by false e = refl
    by true e =
        let r = any_at (same_test id) names e in
        let same : id ≡ r.1 = same_test_is id r.1 r.3 in
        let there : slice_get all r.0 ≡ Some id = ap (λ l. slice_get l r.0) is ∙ at_left names (id ∷ rest) r.0 r.1 r.2 ∙ ap Some (sym same) in
        let one : r.0 ≡ length names = differ r.0 (length names) id there (ap (λ l. slice_get l (length names)) is ∙ here names) in
        absurd (omega (arith, one, slice_get_within names r.0 r.1 r.2))

-- the names of one module more
pub names_step : (names ids : List TestId) (ms : List ModuleValue) (place next : ℕ) (m : ModuleValue) → next ≡ place + 1 → slice_get ms place ≡ Some m → names ++ flat_map names_in (drop place ms) ≡ ids → (names ++ names_in m) ++ flat_map names_in (drop next ms) ≡ ids
names_step names ids ms place next m is at before =
    let step : suc place ≡ next = omega (arith, is) in
    let here : drop place ms ≡ m ∷ drop next ms = drop-cons ms place m (slice_get_within ms place m at) ∙ ap (λ v. v ∷ drop (suc place) ms) (get_or_from_slice_get ms place m m at) ∙ ap (λ n. m ∷ drop n ms) step in
    append_assoc names (names_in m) (flat_map names_in (drop next ms)) ∙ ap (λ l. names ++ flat_map names_in l) (sym here) ∙ before

pub names_apart : (names ids : List TestId) (ms : List ModuleValue) (place : ℕ) (m : ModuleValue) → AllDiffer ids → slice_get ms place ≡ Some m → names ++ flat_map names_in (drop place ms) ≡ ids → AllDiffer (names ++ names_in m)
names_apart names ids ms place m differ at before =
    differ_front (names ++ names_in m) (flat_map names_in (drop (suc place) ms)) (rw (names_step names ids ms place (suc place) m (omega arith) at before) differ)

pub names_room : (names ids : List TestId) (ms : List ModuleValue) (place : ℕ) (m : ModuleValue) → slice_get ms place ≡ Some m → names ++ flat_map names_in (drop place ms) ≡ ids → length names + length (names_in m) ≤ length ids
names_room names ids ms place m at before =
    let e = ap length (names_step names ids ms place (suc place) m (omega arith) at before) in
    omega (arith, simp length-append at e)

-- ---- the tests that a plan places

pub module_room : (plan : PlanValue) (old all : List PlacedTest) (place : ℕ) (ms : List ModuleValue) (m : ModuleValue) → slice_get ms place ≡ Some m → old ++ map (placed_live plan) (live_from place (drop place ms)) ≡ all
    → length old + length (placed_in plan place m m.tests) ≤ length all
module_room plan old all place ms m at before =
    let e = ap length (module_more plan old (old ++ placed_in plan place m m.tests) all place (place + 1) ms m refl at refl before) in
    omega (arith, simp length-append at e)

-- the tests of a module stand behind those of the modules before it
pub module_at : (plan : PlanValue) (old all : List PlacedTest) (place done : ℕ) (ms : List ModuleValue) (m : ModuleValue) → slice_get ms place ≡ Some m → old ++ map (placed_live plan) (live_from place (drop place ms)) ≡ all → length old ≡ done
    → (k : ℕ) (t : PlacedTest) → slice_get (placed_in plan place m m.tests) k ≡ Some t → slice_get all (done + k) ≡ Some t
module_at plan old all place done ms m at before long k t there =
    let here = placed_in plan place m m.tests in
    let e = module_more plan old (old ++ here) all place (place + 1) ms m refl at refl before in
    ap (λ l. slice_get l (done + k)) (sym e)
    ∙ at_left (old ++ here) (map (placed_live plan) (live_from (place + 1) (drop (place + 1) ms))) (done + k) t
    (ap (λ n. slice_get (old ++ here) (n + k)) (sym long) ∙ get_behind old here k ∙ there)

-- the live test of a placed one
pub called : (soc : SocValue) (plan : PlanValue) (at place : ℕ) (m : ModuleValue) (t : Test) → slice_get (placed_tests soc plan) at ≡ Some (placed_of (planned_test plan place m t)) → slice_get (live_ids soc) at ≡ Some (id_of (the_live place m t))
unfolding planned_test
called soc plan at place m t there = ap (λ l. slice_get l at) (sym (names_placed soc plan)) ∙ map_at (λ (j : PlacedTest). j.id) (placed_tests soc plan) at (placed_of (planned_test plan place m t)) there

pub placed_length : (soc : SocValue) (plan : PlanValue) → length (placed_tests soc plan) ≡ length (live_tests soc)
unfolding planned
placed_length soc plan = length-map (map (λ (l : LiveTest). planned_test plan l.place l.core l.test) (live_tests soc)) placed_of ∙ length-map (live_tests soc) (λ (l : LiveTest). planned_test plan l.place l.core l.test)
