-- Each pattern of a live test is in exactly one part, parts are runs of patterns in order, and each is a live test of the chip
-- of parts.
use Rattle.std.proofs.Common.{◌≡◌, inl, inr, ℕ, zero, suc, ◌+◌, ◌-◌, ◌*◌, ◌<◌, ◌≤◌, Bool, true, false, Some, List, [], ◌∷◌, ◌++◌, length, map, min, refl, sym, ap, ◌∙◌, arith, slice_get, filter, flat_map}
use Rattle.std.specs.List.{range_with_len}
use Rattle.std.proofs.lemmas.Bool.{cases_Bool, cases_lt, cases_order}
use Rattle.std.proofs.lemmas.Bool.Decides.{nat_tests}
use Rattle.std.proofs.lemmas.List.{map-append, map-id, length-map}
use Rattle.std.proofs.lemmas.List.Concat.{flat_map-append}
use Rattle.std.proofs.lemmas.List.Elements.{filter-append}
use Rattle.std.proofs.lemmas.Option.{same_Some}
use Rattle.std.proofs.Math.Nat.{mul-le-mul_right}
use Rattle.soc_model.specs.declared.Test.{Test}
use Rattle.soc_model.specs.declared.TestId.{TestId}
use Rattle.soc_model.specs.Chips.{ModuleValue, SocValue, LiveTest, is_live, id_of, live_of, live_from, live_tests}
use Rattle.soc_model.specs.SoundChips.{IsSoundChip}
use Rattle.soc_model.proofs.Places.{IsKeyed-from_sound, module-unique}
use Rattle.plan_model.specs.Plans.{LimitsValue}
use Rattle.plan_model.proofs.Lists.{from_filter, in_flat_map}
use Rattle.plan_model.proofs.PlannedTests.{live_at}
use Rattle.live_tests.specs.Names.{AllDiffer}
use Rattle.split_plan.specs.declared.Part.{Part}
use Rattle.split_plan.specs.declared.cuts.Cut.{Cut}
use Rattle.split_plan.specs.Cuts.{part_count, cut_of, cuts_from, cuts_in, all_cuts, live_cuts, pieces_of, pieces, patterns_of, part_test, part_at}
use Rattle.split_plan.specs.Laws.{HasPattern, EachPatternOnce, IsPart, AreParts}
use Rattle.split_plan.specs.Parts.{split_module, split_chip, split_parts}
use Rattle.split_plan.proofs.Lists.{differ_tail, range_at}
use Rattle.split_plan.proofs.CutTests.{cut_from, cut_of_chip, parts_of_cut, piece_from, piece_to, pieces_ordered, in_module, name_of, wholes_differ, nth_part, AreParts as DoLie, IsCutOf}
use Rattle.split_plan.proofs.ChipOfParts.{live_part, dead_part}
use Rattle.split_plan.proofs.PartsAsTests.{live_cut, live_whole, whole_is, lie}
use Rattle.common_lemmas.proofs.Lists.{map_at, from_map, in_filter}

-- ---- live tests that are cut

-- a live one stands among all
pub live_from_all : (cuts : List Cut) (i : ℕ) (c : Cut) → slice_get (live_cuts cuts) i ≡ Some c → (k : ℕ) × (slice_get cuts k ≡ Some c) × (is_live c.test ≡ true)
live_from_all cuts i c at = from_filter (λ (c : Cut). is_live c.test) cuts i c at

differ_filter : {X Y : Type 0} (f : X → Y) (p : X → Bool) (xs : List X) → AllDiffer (map f xs) → AllDiffer (map f (filter p xs))
differ_filter f p [] differ = differ
differ_filter {X} {Y} f p (x ∷ xs) differ = elim (cases_Bool (p x)) [
  | inl yes' ↦ rw yes' (cons (differ_filter f p xs (differ_tail (f x) (map f xs) differ)))
  | inr no' ↦ rw no' (differ_filter f p xs (differ_tail (f x) (map f xs) differ))
]
  where
    new : (q : ℕ) → slice_get (map f (filter p xs)) q ≡ Some (f x) → ⊥
    new q at =
        let a = from_map f (filter p xs) q (f x) at in
        let b = from_filter p xs q a.0 a.1 in
        let there = map_at f xs b.0 a.0 b.1 ∙ ap Some a.2 in
        let same : 0 ≡ suc b.0 = differ 0 (suc b.0) (f x) refl there in
        absurd (omega arith)

    cons : AllDiffer (map f (filter p xs)) → AllDiffer (f x ∷ map f (filter p xs))
    cons rest zero zero y at there = refl
    cons rest zero (suc q) y at there = let same : f x ≡ y = cc in absurd (new q (there ∙ ap Some (sym same)))
    cons rest (suc p) zero y at there = let same : f x ≡ y = cc in absurd (new p (at ∙ ap Some (sym same)))
    cons rest (suc p) (suc q) y at there = ap suc (rest p q y at there)

-- an earlier part ends before a later one begins
ends_before : (c : Cut) (k l : ℕ) → k < l → k * c.size + patterns_of c k < l * c.size + 1
ends_before c k l less =
    let le : (k + 1) * c.size ≤ l * c.size = mul-le-mul_right c.size (omega arith) in
    omega arith

-- the part of a pattern
part_of : (s p n count : ℕ) → 1 ≤ n → n ≤ count * s → (k : ℕ) × (k < count) × (k * s < n) × (n ≤ k * s + s)
part_of s p n zero one h = absurd (omega arith)
part_of s p n (suc count) one h = elim (cases_lt (count * s) n) [
  | inl past ↦ (count, omega arith, past, omega arith)
  | inr within ↦ let r = part_of s p n count one within in (r.0, omega arith, r.2, r.3)
]

module _ (limits : LimitsValue) (most : ℕ) where
  -- a test of the chip is cut
  cut_to : (home number : ℕ) (ts : List Test) (q : ℕ) (t : Test) → slice_get ts q ≡ Some t →
      (c : Cut) × (slice_get (cuts_from limits most home number ts) q ≡ Some c) × (c.test ≡ t) × (c.whole ≡ in_module home t.number)
  cut_to home number [] q t at = absurd cc
  cut_to home number (u ∷ ts) zero t at =
      let same : u ≡ t = cc in
      (cut_of limits most home number u, refl, same, ap (λ (t : Test). in_module home t.number) same)
  cut_to home number (u ∷ ts) (suc q) t at = cut_to home (number + part_count most u) ts q t at

  module _ (soc : SocValue) where
    abbrev live_ones : List Cut
    live_ones = live_cuts (all_cuts limits most soc)

    -- how its parts lie
    live_lie : 1 ≤ most → (i : ℕ) (c : Cut) → slice_get live_ones i ≡ Some c → DoLie c.test.patterns c.count c.size
    live_lie some i c at = let r = live_from_all (all_cuts limits most soc) i c at in lie limits most soc some r.0 c r.1

    -- a live test is among those that are cut
    pub live_is_cut : (i : ℕ) (l : LiveTest) → slice_get (live_tests soc) i ≡ Some l →
        (c : Cut) × (j : ℕ) × (slice_get live_ones j ≡ Some c) × (c.test ≡ l.test) × (c.whole ≡ id_of l)
    live_is_cut i l at =
        let v = live_at soc.modules 0 i l at in
        let f = from_filter is_live l.core.tests v.n l.test v.test_at in
        let c = cut_to l.core.number 1 l.core.tests f.0 l.test f.1 in
        let a = in_flat_map (cuts_in limits most) soc.modules v.up f.0 l.core c.0 v.module_at c.1 in
        let live : is_live (c.0).test ≡ true = rw c.2 f.2 in
        let b = in_filter (λ (c : Cut). is_live c.test) (all_cuts limits most soc) a.0 c.0 a.1 live in
        (c.0, b.0, b.1, c.2, c.3)

    module _ (sound : IsSoundChip soc) where
      -- two live ones of one name stand at one place
      live_unique : (i j : ℕ) (c d : Cut) → slice_get live_ones i ≡ Some c →
          slice_get live_ones j ≡ Some d → c.whole ≡ d.whole → i ≡ j
      live_unique i j c d at there same =
          differ_filter (λ (c : Cut). c.whole) (λ (c : Cut). is_live c.test) (all_cuts limits most soc) (wholes_differ limits most soc sound) i j d.whole
          (map_at (λ (c : Cut). c.whole) live_ones i c at ∙ ap Some same)
          (map_at (λ (c : Cut). c.whole) live_ones j d there)

      -- ---- parts in order

      -- of two parts of a test the earlier one has the earlier patterns
      pub in_order : (i j : ℕ) (p q : Part) → i < j → slice_get (split_parts limits most soc) i ≡ Some p →
          slice_get (split_parts limits most soc) j ≡ Some q → p.whole ≡ q.whole → p.last < q.first
      in_order i j p q less at there same =
          let e = from_map part_at (pieces live_ones) i p at in
          let f = from_map part_at (pieces live_ones) j q there in
          let o = pieces_ordered live_ones i j e.0 f.0 less e.1 f.1 in
          let whole = ap (λ (p : Part). p.whole) e.2 ∙ same ∙ sym (ap (λ (p : Part). p.whole) f.2) in
          let place = live_unique o.first o.second (e.0).0 (f.0).0 o.first_at o.second_at whole in
          let cuts = same_Some (e.0).0 (f.0).0 (sym o.first_at ∙ ap (slice_get live_ones) place ∙ o.second_at) in
          let later : (e.0).1 < (f.0).1 = elim o.order [ inl h ↦ absurd (omega arith) | inr h ↦ h.1 ] in
          let before = ends_before (e.0).0 (e.0).1 (f.0).1 later in
          let first = ap (λ (p : Part). p.last) (sym e.2) in
          let second = ap (λ (p : Part). p.first) (sym f.2) in
          let size = ap (λ (c : Cut). (f.0).1 * c.size) (sym cuts) in
          omega arith

      -- ---- each pattern

      -- two parts of a test that share a pattern stand at one place
      one_place : (id : TestId) (n i j : ℕ) (p q : Part) → slice_get (split_parts limits most soc) i ≡ Some p →
          slice_get (split_parts limits most soc) j ≡ Some q → HasPattern id n p → HasPattern id n q → i ≡ j
      one_place id n i j p q at there has has' = elim (cases_order i j) [
        | inl same ↦ same
        | inr apart ↦ elim apart [
          | inl less ↦ let h = in_order i j p q less at there (has.0 ∙ sym has'.0) in absurd (omega arith)
          | inr more ↦ let h = in_order j i q p more there at (has'.0 ∙ sym has.0) in absurd (omega arith)
        ]
      ]

    pub each_once : 1 ≤ most → IsSoundChip soc → EachPatternOnce soc (split_parts limits most soc)
    each_once some sound i l n at one most_n =
        let c = live_is_cut i l at in
        let parts = live_lie some c.1 c.0 c.2 in
        let patterns = ap (λ (t : Test). t.patterns) c.3 in
        let k = part_of (c.0).size (c.0).test.patterns n (c.0).count one (omega arith) in
        let e = piece_to live_ones c.1 c.0 k.0 c.2 k.1 in
        let there = map_at part_at (pieces live_ones) e.0 (c.0, k.0) e.1 in
        let low : k.0 * (c.0).size + 1 ≤ n = omega arith in
        let high = ends (c.0).size (c.0).test.patterns (k.0 * (c.0).size) n k.2 k.3 (omega arith) in
        let has : HasPattern (id_of l) n (part_at (c.0, k.0)) = (c.4, low, high) in
        record {
          place = e.0;
          part = part_at (c.0, k.0);
          there = there;
          has = has;
          only = λ q p at' has'. one_place sound (id_of l) n q e.0 p (part_at (c.0, k.0)) at' there has' has;
        }
      where
        ends : (s p b n : ℕ) → b < n → n ≤ b + s → n ≤ p → n ≤ b + min s (p - b)
        ends s p b n h i j = omega arith

-- ---- the live tests of the chip of parts

-- parts of cut tests are live where these are
live_parts : (cs : List Cut) → ((i : ℕ) (c : Cut) → slice_get cs i ≡ Some c → DoLie c.test.patterns c.count c.size) →
    filter is_live (map part_test (pieces cs)) ≡ map part_test (pieces (live_cuts cs))
live_parts [] lies = refl
live_parts (c ∷ cs) lies =
    let front = map-append part_test (pieces_of c) (pieces cs) in
    let rest = live_parts cs (λ i d at. lies (suc i) d at) in
    let both =
    ap (filter is_live) front ∙ filter-append is_live (map part_test (pieces_of c)) (map part_test (pieces cs)) ∙ ap (λ l. filter is_live (map part_test (pieces_of c)) ++ l) rest in
    elim (cases_Bool (is_live c.test)) [
      | inl yes' ↦
          let all : filter is_live (map part_test (pieces_of c)) ≡ map part_test (pieces_of c) = kept (range_with_len 0 c.count) (λ i k at. let r = range_at 0 c.count i k at in live_part c k (lies 0 c refl) yes' (omega arith)) in
          let joined = sym (map-append part_test (pieces_of c) (pieces (live_cuts cs))) in
          let here = live_here yes' in
          both ∙ ap (λ l. l ++ map part_test (pieces (live_cuts cs))) all ∙ joined ∙ ap (λ l. map part_test (pieces l)) (sym here)
      | inr no' ↦
          let none = dropped (range_with_len 0 c.count) no' in
          let here = dead_here no' in
          both ∙ ap (λ l. l ++ map part_test (pieces (live_cuts cs))) none ∙ ap (λ l. map part_test (pieces l)) (sym here)
    ]
  where
    live_here : is_live c.test ≡ true → live_cuts (c ∷ cs) ≡ c ∷ live_cuts cs
    live_here yes' = rw yes' refl

    dead_here : is_live c.test ≡ false → live_cuts (c ∷ cs) ≡ live_cuts cs
    dead_here no' = rw no' refl

    kept : (ks : List ℕ) → ((i k : ℕ) → slice_get ks i ≡ Some k → is_live (part_test (c, k)) ≡ true) → filter is_live (map part_test (map (nth_part c) ks)) ≡ map part_test (map (nth_part c) ks)
    kept [] live = refl
    kept (k ∷ ks) live = rw (live 0 k refl) (ap (λ l. part_test (c, k) ∷ l) (kept ks (λ i n at. live (suc i) n at)))

    dropped : (ks : List ℕ) → is_live c.test ≡ false → filter is_live (map part_test (map (nth_part c) ks)) ≡ []
    dropped [] no' = refl
    dropped (k ∷ ks) no' = rw (dead_part c k no') (dropped ks no')

-- names of pieces of a module
names_in_module : (home : ℕ) (cs : List Cut) → ((i : ℕ) (c : Cut) → slice_get cs i ≡ Some c → c.whole.module ≡ home) →
    map (λ (t : Test). in_module home t.number) (map part_test (pieces cs)) ≡ map name_of (pieces cs)
names_in_module home [] homes = refl
names_in_module home (c ∷ cs) homes =
    simp map-append (cc (here (range_with_len 0 c.count) (homes 0 c refl), names_in_module home cs (λ i d at. homes (suc i) d at)))
  where
    here : (ks : List ℕ) → c.whole.module ≡ home → map (λ (t : Test). in_module home t.number) (map part_test (map (nth_part c) ks)) ≡ map name_of (map (nth_part c) ks)
    here [] same = refl
    here (k ∷ ks) same = ap (λ l. in_module home (c.number + k) ∷ l) (here ks same) ∙ ap (λ h. in_module h (c.number + k) ∷ map name_of (map (nth_part c) ks)) (sym same)

-- what is seen of each live test of a module
seen_in : {X : Type 0} (base : ℕ) (m : ModuleValue) (f : LiveTest → X) (g : Test → X) →
    ((t : Test) → f (record { place = base; core = m; test = t }) ≡ g t) → map f (live_of base m) ≡ map g (filter is_live m.tests)
seen_in base m f g same = go (filter is_live m.tests)
  where
    go : (ts : List Test) → map f (map (λ t. record { place = base; core = m; test = t }) ts) ≡ map g ts
    go [] = refl
    go (t ∷ ts) = ap (λ l. f (record { place = base; core = m; test = t }) ∷ l) (go ts) ∙ ap (λ x. x ∷ map g ts) (same t)

-- what is seen of the live tests of the chip of parts, module by module
seen : {X : Type 0} (limits : LimitsValue) (most : ℕ) (f : LiveTest → X) (h : Cut × ℕ → X) (base : ℕ) (ms : List ModuleValue) →
    ((base i : ℕ) (m : ModuleValue) → slice_get ms i ≡ Some m → map f (live_of base (split_module limits most m)) ≡ map h (pieces (live_cuts (cuts_in limits most m)))) →
    map f (live_from base (map (split_module limits most) ms)) ≡ map h (pieces (live_cuts (flat_map (cuts_in limits most) ms)))
unfolding live_from
seen limits most f h base [] each = refl
seen limits most f h base (m ∷ ms) each =
    simp (filter-append, flat_map-append, map-append) (cc (each base 0 m refl, seen limits most f h (base + 1) ms (λ b i n at. each b (suc i) n at)))

module_lies : (limits : LimitsValue) (most : ℕ) → 1 ≤ most → (m : ModuleValue) (i : ℕ) (c : Cut) → slice_get (cuts_in limits most m) i ≡ Some c →
    DoLie c.test.patterns c.count c.size
module_lies limits most some m i c at = parts_of_cut limits most some m.number m.tests c (cut_from limits most m.number 1 m.tests i c at)

module _ (limits : LimitsValue) (most : ℕ) where
  tests_of_module : 1 ≤ most → (m : ModuleValue) → filter is_live (split_module limits most m).tests ≡ map part_test (pieces (live_cuts (cuts_in limits most m)))
  tests_of_module some m = live_parts (cuts_in limits most m) (λ i c at. module_lies limits most some m i c at)

  module _ (soc : SocValue) where
    abbrev pieces_of_live : List (Cut × ℕ)
    pieces_of_live = pieces (live_cuts (all_cuts limits most soc))

    -- the live test of the chip of parts that a piece is
    record IsTestOf (i : ℕ) (e : Cut × ℕ) : Type 0 where
      part : LiveTest
      part_at : slice_get (live_tests (split_chip limits most soc)) i ≡ Some part
      test_is : part.test ≡ part_test e
      id_is : id_of part ≡ name_of e

    -- its module stands where that of the whole test does
    same_place : IsSoundChip soc → (i : ℕ) (e : Cut × ℕ) (t : IsTestOf i e) (o : IsCutOf limits most soc e.0) → t.part.place ≡ o.place
    same_place sound i e t o =
        let v = live_at (map (split_module limits most) soc.modules) 0 i t.part t.part_at in
        let m = from_map (split_module limits most) soc.modules v.up t.part.core v.module_at in
        let number = ap (λ (m : ModuleValue). m.number) m.2 ∙ ap (λ (id : TestId). id.module) t.id_is ∙ ap (λ (id : TestId). id.module) (whole_is limits most soc e.0 o) in
        let place = module-unique (IsKeyed-from_sound sound) v.up o.place m.0 o.core m.1 o.core_at number in
        omega arith

    module _ (some : 1 ≤ most) where
      -- the live tests of the chip of parts are the parts of live tests
      tests_are : map (λ (l : LiveTest). l.test) (live_tests (split_chip limits most soc)) ≡ map part_test pieces_of_live
      tests_are = seen limits most (λ (l : LiveTest). l.test) part_test 0 soc.modules each
        where
          each : (base i : ℕ) (m : ModuleValue) → slice_get soc.modules i ≡ Some m → map (λ (l : LiveTest). l.test) (live_of base (split_module limits most m)) ≡ map part_test (pieces (live_cuts (cuts_in limits most m)))
          each base i m at = seen_in base (split_module limits most m) (λ (l : LiveTest). l.test) (λ t. t) (λ t. refl) ∙ map-id (filter is_live (split_module limits most m).tests) ∙ tests_of_module some m

      -- and so are their names
      names_are : map id_of (live_tests (split_chip limits most soc)) ≡ map name_of pieces_of_live
      names_are = seen limits most id_of name_of 0 soc.modules each
        where
          homes : (m : ModuleValue) (i : ℕ) (c : Cut) → slice_get (live_cuts (cuts_in limits most m)) i ≡ Some c → c.whole.module ≡ m.number
          homes m i c at =
              let f = from_filter (λ (c : Cut). is_live c.test) (cuts_in limits most m) i c at in
              ap (λ (d : Cut). d.whole.module) (cut_from limits most m.number 1 m.tests f.0 c f.1).is

          each : (base i : ℕ) (m : ModuleValue) → slice_get soc.modules i ≡ Some m → map id_of (live_of base (split_module limits most m)) ≡ map name_of (pieces (live_cuts (cuts_in limits most m)))
          each base i m at =
              seen_in base (split_module limits most m) id_of (λ (t : Test). in_module m.number t.number) (λ t. refl)
              ∙ ap (map (λ (t : Test). in_module m.number t.number)) (tests_of_module some m)
              ∙ names_in_module m.number (live_cuts (cuts_in limits most m)) (homes m)

      test_of : (i : ℕ) (e : Cut × ℕ) → slice_get pieces_of_live i ≡ Some e → IsTestOf i e
      test_of i e at =
          let t = ap (λ l. slice_get l i) tests_are ∙ map_at part_test pieces_of_live i e at in
          let l = from_map (λ (l : LiveTest). l.test) (live_tests (split_chip limits most soc)) i (part_test e) t in
          let name = sym (map_at id_of (live_tests (split_chip limits most soc)) i l.0 l.1) ∙ ap (λ l. slice_get l i) names_are ∙ map_at name_of pieces_of_live i e at in
          record { part = l.0; part_at = l.1; test_is = l.2; id_is = same_Some (id_of l.0) (name_of e) name }

      many : length (split_parts limits most soc) ≡ length (live_tests (split_chip limits most soc))
      many =
          length-map pieces_of_live part_at
          ∙ sym (length-map pieces_of_live part_test)
          ∙ sym (ap length tests_are)
          ∙ length-map (live_tests (split_chip limits most soc)) (λ (l : LiveTest). l.test)

      each_part : IsSoundChip soc → (i : ℕ) (p : Part) → slice_get (split_parts limits most soc) i ≡ Some p → IsPart soc (split_chip limits most soc) i p
      each_part sound i p at =
          let f = from_map part_at pieces_of_live i p at in
          rw (← f.2) (it f.0 f.1)
        where
          it : (e : Cut × ℕ) → slice_get pieces_of_live i ≡ Some e → IsPart soc (split_chip limits most soc) i (part_at e)
          it e there =
              let q = piece_from (live_cuts (all_cuts limits most soc)) i e there in
              let a = live_from_all (all_cuts limits most soc) q.at e.0 q.there in
              let o = cut_of_chip limits most soc a.0 e.0 a.1 in
              let w = live_cut limits most soc e.0 o a.2 in
              let t = test_of i e there in
              let lies = lie limits most soc some a.0 e.0 a.1 in
              let live : 1 ≤ e.0.test.patterns = grind (arith, nat_tests) in
              let size = lies.size live in
              let begins = lies.begins_before live e.1 q.within in
              let whole = ap (λ (t : Test). t.patterns) w.5 in
              let own = ap (λ (t : Test). t.patterns) t.test_is in
              record {
                at = w.0;
                whole = w.1;
                whole_at = w.2;
                whole_is = live_whole limits most soc e.0 o w.1 w.4 w.5;
                from_one = omega arith;
                some = omega arith;
                within = omega arith;
                part = t.part;
                part_at = t.part_at;
                part_is = t.id_is;
                patterns = omega arith;
                tam = ap (λ (t : Test). t.tam) t.test_is ∙ sym (ap (λ (t : Test). t.tam) w.5);
                scan = ap (λ (t : Test). t.scan) t.test_is ∙ sym (ap (λ (t : Test). t.scan) w.5);
                place = same_place sound i e t o ∙ sym w.3;
              }

pub are_parts : (limits : LimitsValue) (most : ℕ) (soc : SocValue) → 1 ≤ most → IsSoundChip soc → AreParts soc (split_chip limits most soc) (split_parts limits most soc)
are_parts limits most soc some sound = record {
  many = many limits most soc some;
  each = each_part limits most soc some sound;
  order = in_order limits most soc sound;
}
