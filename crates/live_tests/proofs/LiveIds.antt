-- In a sound chip no two live tests have the same numbers.
use Rattle.std.proofs.Common.{◌≡◌, ◌⊎◌, inl, inr, ℕ, zero, suc, ◌+◌, Bool, Some, List, [], ◌∷◌, ◌++◌, length, map, refl, sym, ap, ◌∙◌, subst, arith}
use Rattle.std.specs.Prelude.{slice_get}
use Rattle.std.specs.List.{filter}
use Rattle.std.proofs.lemmas.Bool.{cases_Bool}
use Rattle.std.proofs.lemmas.List.{map-append}
use Rattle.std.proofs.lemmas.List.Elements.{All-contains}
use Rattle.std.proofs.lemmas.Option.{slice_get-map}
use Rattle.soc_model.specs.declared.Test.{Test}
use Rattle.soc_model.specs.declared.TestId.{TestId}
use Rattle.soc_model.specs.Chips.{ModuleValue, SocValue, LiveTest, is_live, live_of, live_from, id_of}
use Rattle.soc_model.specs.SoundChips.{IsSoundChip, IsSoundModule}
use Rattle.plan_model.specs.Rules.{live_ids}
use Rattle.plan_model.proofs.Lists.{from_append, from_filter, at_contains}
use Rattle.plan_model.proofs.PlannedTests.{IsLive, live_at}
use Rattle.live_tests.specs.Names.{AllDiffer}
use Rattle.common_lemmas.proofs.Lists.{from_map}

-- ---- lists whose items differ

differ_cons : {X : Type 0} (x : X) (xs : List X) → ((q : ℕ) → slice_get xs q ≡ Some x → ⊥) → AllDiffer xs → AllDiffer (x ∷ xs)
differ_cons x xs new differ zero zero y at there = refl
differ_cons x xs new differ zero (suc q) y at there = let same : x ≡ y = cc in absurd (new q (there ∙ ap Some (sym same)))
differ_cons x xs new differ (suc p) zero y at there = let same : x ≡ y = cc in absurd (new p (at ∙ ap Some (sym same)))
differ_cons x xs new differ (suc p) (suc q) y at there = ap suc (differ p q y at there)

differ_tail : {X : Type 0} (x : X) (xs : List X) → AllDiffer (x ∷ xs) → AllDiffer xs
differ_tail x xs differ p q y at there = let same : suc p ≡ suc q = differ (suc p) (suc q) y at there in omega (arith, same)

differ_append : {X : Type 0} (xs ys : List X) → AllDiffer xs → AllDiffer ys → ((p q : ℕ) (x : X) → slice_get xs p ≡ Some x → slice_get ys q ≡ Some x → ⊥) → AllDiffer (xs ++ ys)
differ_append {X} xs ys first second apart p q x at there = by (from_append xs ys p x at) (from_append xs ys q x there)
  where
    by : (slice_get xs p ≡ Some x) ⊎ ((j : ℕ) × (p ≡ length xs + j) × (slice_get ys j ≡ Some x)) → (slice_get xs q ≡ Some x) ⊎ ((j : ℕ) × (q ≡ length xs + j) × (slice_get ys j ≡ Some x)) → p ≡ q
    by (inl a) (inl b) = first p q x a b
    by (inl a) (inr b) = absurd (apart p b.0 x a b.2)
    by (inr a) (inl b) = absurd (apart q a.0 x b a.2)
    by (inr a) (inr b) = let same : a.0 ≡ b.0 = second a.0 b.0 x a.2 b.2 in omega (arith, same, a.1, b.1)

differ_filter : {X Y : Type 0} (f : X → Y) (p : X → Bool) (xs : List X) → AllDiffer (map f xs) → AllDiffer (map f (filter p xs))
differ_filter f p [] differ = differ
differ_filter f p (x ∷ xs) differ = elim (cases_Bool (p x)) [
  | inl yes' ↦ rw yes' (differ_cons (f x) (map f (filter p xs)) new (differ_filter f p xs (differ_tail (f x) (map f xs) differ)))
  | inr no' ↦ rw no' (differ_filter f p xs (differ_tail (f x) (map f xs) differ))
]
  where
    new : (q : ℕ) → slice_get (map f (filter p xs)) q ≡ Some (f x) → ⊥
    new q at =
        let a = from_map f (filter p xs) q (f x) at in
        let b = from_filter p xs q a.0 a.1 in
        let there : slice_get (map f xs) b.0 ≡ Some (f x) = slice_get-map f xs b.0 ∙ rw (b.1, a.2) refl in
        let same : 0 ≡ suc b.0 = differ 0 (suc b.0) (f x) refl there in
        absurd (omega (arith, same))

-- ---- live tests

the_id : ModuleValue → Test → TestId
the_id m t = record { «module» = m.number; test = t.number }

abbrev HasDifferentTests : List ModuleValue → Type 0
HasDifferentTests ms = (k : ℕ) (m : ModuleValue) → slice_get ms k ≡ Some m → AllDiffer (map (λ (t : Test). t.number) m.tests)

differ_in : (base : ℕ) (m : ModuleValue) → AllDiffer (map (λ (t : Test). t.number) m.tests) → AllDiffer (map id_of (live_of base m))
differ_in base m differ p q id at there =
    let a = from_map id_of (live_of base m) p id at in
    let b = from_map id_of (live_of base m) q id there in
    let c = from_map (λ (t : Test). the_live t) (filter is_live m.tests) p a.0 a.1 in
    let d = from_map (λ (t : Test). the_live t) (filter is_live m.tests) q b.0 b.1 in
    let e : (c.0).number ≡ id.test = ap (λ (l : LiveTest). l.test.number) c.2 ∙ ap (λ (i : TestId). i.test) a.2 in
    let f : (d.0).number ≡ id.test = ap (λ (l : LiveTest). l.test.number) d.2 ∙ ap (λ (i : TestId). i.test) b.2 in
    differ_filter (λ (t : Test). t.number) is_live m.tests differ p q id.test
    (slice_get-map (λ (t : Test). t.number) (filter is_live m.tests) p ∙ rw (c.1, e) refl)
    (slice_get-map (λ (t : Test). t.number) (filter is_live m.tests) q ∙ rw (d.1, f) refl)
  where
    the_live : Test → LiveTest
    the_live t = record { place = base; core = m; test = t }

-- the module of a live test is one of these
number_among : (base : ℕ) (ms : List ModuleValue) (q : ℕ) (id : TestId) → slice_get (map id_of (live_from base ms)) q ≡ Some id → (k : ℕ) × (slice_get (map (λ (m : ModuleValue). m.number) ms) k ≡ Some id.module)
number_among base ms q id at =
    let a = from_map id_of (live_from base ms) q id at in
    let l : IsLive ms base a.0 = live_at ms base q a.0 a.1 in
    let same : (a.0).core.number ≡ id.module = ap (λ (i : TestId). i.module) a.2 in
    (l.up, slice_get-map (λ (m : ModuleValue). m.number) ms l.up ∙ rw (l.module_at, same) refl)

number_here : (base : ℕ) (m : ModuleValue) (p : ℕ) (id : TestId) → slice_get (map id_of (live_of base m)) p ≡ Some id → m.number ≡ id.module
number_here base m p id at =
    let a = from_map id_of (live_of base m) p id at in
    let b = from_map (λ (t : Test). the_live t) (filter is_live m.tests) p a.0 a.1 in
    ap (λ (l : LiveTest). l.core.number) b.2 ∙ ap (λ (i : TestId). i.module) a.2
  where
    the_live : Test → LiveTest
    the_live t = record { place = base; core = m; test = t }

differ_from : (base : ℕ) (ms : List ModuleValue) → AllDiffer (map (λ (m : ModuleValue). m.number) ms) → HasDifferentTests ms → AllDiffer (map id_of (live_from base ms))
unfolding live_from
differ_from base [] differ tests = (λ p q id at there. absurd cc)
differ_from base (m ∷ ms) differ tests =
    let first = differ_in base m (tests 0 m refl) in
    let rest = differ_from (base + 1) ms (differ_tail m.number (map (λ (m : ModuleValue). m.number) ms) differ) (λ k n at. tests (suc k) n at) in
    subst (λ (ids : List TestId). AllDiffer ids) (sym (map-append id_of (live_of base m) (live_from (base + 1) ms)))
    (differ_append (map id_of (live_of base m)) (map id_of (live_from (base + 1) ms)) first rest (λ p q id at there. apart p q id at there))
  where
    apart : (p q : ℕ) (id : TestId) → slice_get (map id_of (live_of base m)) p ≡ Some id → slice_get (map id_of (live_from (base + 1) ms)) q ≡ Some id → ⊥
    apart p q id at there =
        let here : m.number ≡ id.module = number_here base m p id at in
        let k = number_among (base + 1) ms q id there in
        let same : 0 ≡ suc k.0 = differ 0 (suc k.0) id.module (ap Some here) k.1 in
        absurd (omega (arith, same))

pub ids_differ : (soc : SocValue) → IsSoundChip soc → AllDiffer (live_ids soc)
ids_differ soc sound = differ_from 0 soc.modules sound.modules_differ (λ k m at. (All-contains IsSoundModule soc.modules m sound.modules (at_contains soc.modules k m at)).tests_differ)
