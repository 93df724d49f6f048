-- The cut tests of a chip, and their parts.
use Rattle.std.proofs.Common.{◌≡◌, ◌⊎◌, inl, inr, ℕ, zero, suc, ◌+◌, ◌*◌, ◌<◌, ◌≤◌, true, Some, List, [], ◌∷◌, ◌++◌, length, map, refl, sym, ap, ◌∙◌, arith, slice_get, flat_map, sum_by}
use Rattle.std.specs.Int.{div_ceil}
use Rattle.std.specs.List.{range_with_len}
use Rattle.std.proofs.lemmas.Bool.{cases_Bool, and_parts}
use Rattle.std.proofs.lemmas.Bool.Decides.{nat_tests}
use Rattle.std.proofs.lemmas.Grind.{div_ceil_times}
use Rattle.std.proofs.lemmas.List.{map-append}
use Rattle.std.proofs.lemmas.List.Sums.{sum_by-cons}
use Rattle.std.proofs.lemmas.Option.{slice_get_within, same_Some}
use Rattle.std.proofs.lemmas.List.Concat.{flat_map-append}
use Rattle.std.proofs.Math.Nat.{mul-le-mul_right, mul-le-mul_left}
use Rattle.soc_model.specs.declared.Test.{Test}
use Rattle.soc_model.specs.declared.TestId.{TestId}
use Rattle.soc_model.specs.Chips.{ModuleValue, SocValue, is_live}
use Rattle.soc_model.specs.Modes.{is_tam}
use Rattle.soc_model.specs.SoundChips.{IsSoundChip, IsSoundModule}
use Rattle.plan_model.specs.Plans.{LimitsValue}
use Rattle.plan_model.proofs.Lists.{from_append, from_flat_map, in_flat_map}
use Rattle.live_tests.specs.Names.{AllDiffer}
use Rattle.split_plan.specs.declared.cuts.Cut.{Cut}
use Rattle.split_plan.specs.Cuts.{part_count, part_size, cut_of, cuts_from, cuts_in, all_cuts, pieces_of, pieces, part_id, part_test}
use Rattle.split_plan.specs.Steps.{wholes}
use Rattle.split_plan.proofs.Lists.{range_at, at_range, range_differs, range_moved, range_joined, differ_append, differ_tail, differ_map}
use Rattle.common_lemmas.proofs.Lists.{map_twice, map_at, all_at, from_map}

-- ---- how many parts a test has

module _ (p : ℕ) where
  -- of p patterns by s: the parts cover them, and each begins before their end
  pub record AreParts (n s : ℕ) : Type 0 where
    pub some : 1 ≤ n
    pub covers : p ≤ n * s
    pub size : 1 ≤ p → 1 ≤ s
    pub begins : (k : ℕ) → k < n → k * s ≤ p
    pub begins_before : 1 ≤ p → (k : ℕ) → k < n → k * s < p
    pub few : n ≤ p + 1

  several : (most : ℕ) → 1 ≤ most → 1 ≤ p → AreParts (div_ceil p most) most
  several most some live =
      let up = div_ceil_times p most some in
      let n : ℕ = div_ceil p most in
      let high : p ≤ div_ceil p most * most = up.0 in
      let low : div_ceil p most * most < p + most = up.1 in
      record {
        some = one (div_ceil p most) high;
        covers = high;
        size = λ h. some;
        begins = λ k less. let b = before (div_ceil p most) low k less in omega arith;
        begins_before = λ h k less. before (div_ceil p most) low k less;
        few = few (div_ceil p most) low;
      }
    where
      one : (n : ℕ) → p ≤ n * most → 1 ≤ n
      one zero high = absurd (omega arith)
      one (suc n) high = omega arith

      before : (n : ℕ) → n * most < p + most → (k : ℕ) → k < n → k * most < p
      before n low k less =
          let le : (k + 1) * most ≤ n * most = mul-le-mul_right most (omega arith) in
          omega arith

      few : (n : ℕ) → n * most < p + most → n ≤ p + 1
      few zero low = omega arith
      few (suc n) low =
          let le : n * 1 ≤ n * most = mul-le-mul_left n some in
          omega arith

  one_part : AreParts 1 p
  one_part = record {
    some = omega arith;
    covers = omega arith;
    size = λ h. h;
    begins = λ k less. let none : k ≡ 0 = omega arith in let e : k * p ≡ 0 = rw none (omega arith) in omega arith;
    begins_before = λ h k less. let none : k ≡ 0 = omega arith in let e : k * p ≡ 0 = rw none (omega arith) in omega arith;
    few = omega arith;
  }

tam_live : (t : Test) → is_tam t ≡ true → 1 ≤ t.patterns
tam_live t tam = let live = (and_parts (is_live t) t.tam tam).0 in grind (arith, nat_tests)

pub are_parts : (most : ℕ) (t : Test) → 1 ≤ most → AreParts t.patterns (part_count most t) (part_size most t)
are_parts most t some = elim (cases_Bool (is_tam t)) [
  | inl yes' ↦ rw yes' (several t.patterns most some (tam_live t yes'))
  | inr no' ↦ rw no' (one_part t.patterns)
]

-- ---- where a cut test comes from

module _ (limits : LimitsValue) (most : ℕ) where
  module _ (home : ℕ) where
    -- a cut test of a module
    pub record IsCut (ts : List Test) (c : Cut) : Type 0 where
      pub at : ℕ
      pub test_at : slice_get ts at ≡ Some c.test
      pub is : c ≡ cut_of limits most home c.number c.test

    pub cut_from : (number : ℕ) (ts : List Test) (i : ℕ) (c : Cut) → slice_get (cuts_from limits most home number ts) i ≡ Some c → IsCut ts c
    cut_from number [] i c e = absurd cc
    cut_from number (t ∷ ts) zero c e =
        let same : cut_of limits most home number t ≡ c = cc in
        rw (← same) (record { at = 0; test_at = refl; is = refl })
    cut_from number (t ∷ ts) (suc i) c e =
        let r = cut_from (number + part_count most t) ts i c e in
        record { at = suc r.at; test_at = r.test_at; is = r.is }

  -- a cut test of the chip, with its module
  pub record IsCutOf (soc : SocValue) (c : Cut) : Type 0 where
    pub place : ℕ
    pub core : ModuleValue
    pub core_at : slice_get soc.modules place ≡ Some core
    pub nth : ℕ
    pub nth_is : slice_get (cuts_in limits most core) nth ≡ Some c
    pub cut : IsCut core.number core.tests c

  pub cut_of_chip : (soc : SocValue) (i : ℕ) (c : Cut) → slice_get (all_cuts limits most soc) i ≡ Some c → IsCutOf soc c
  cut_of_chip soc i c e =
      let r = from_flat_map (cuts_in limits most) soc.modules i c e in
      record { place = r.0; core = r.1; core_at = r.3; nth = r.2; nth_is = r.4; cut = cut_from (r.1).number 1 (r.1).tests r.2 c r.4 }

  -- how its parts lie
  pub parts_of_cut : 1 ≤ most → (home : ℕ) (ts : List Test) (c : Cut) → IsCut home ts c → AreParts c.test.patterns c.count c.size
  parts_of_cut some home ts c cut =
      rw cut.is (are_parts most c.test some)

-- ---- pieces

-- a part of a cut test, by its place
abbrev pub nth_part : Cut → ℕ → Cut × ℕ
nth_part c k = (c, k)

piece_here : (c : Cut) (j : ℕ) (e : Cut × ℕ) → slice_get (pieces_of c) j ≡ Some e → (e ≡ (c, j)) × (j < c.count)
piece_here c j e at =
    let r = from_map (nth_part c) (range_with_len 0 c.count) j e at in
    let k = range_at 0 c.count j r.0 r.1 in
    let same : r.0 ≡ j = omega arith in
    (sym r.2 ∙ ap (nth_part c) same, k.0)

module _ (cuts : List Cut) where
  pub record IsPiece (e : Cut × ℕ) : Type 0 where
    pub at : ℕ
    pub there : slice_get cuts at ≡ Some e.0
    pub within : e.1 < e.0.count

  pub piece_from : (i : ℕ) (e : Cut × ℕ) → slice_get (pieces cuts) i ≡ Some e → IsPiece e
  piece_from i e at =
      let r = from_flat_map pieces_of cuts i e at in
      let h = piece_here r.1 r.2 e r.4 in
      rw h.0 (record { at = r.0; there = r.3; within = h.1 })

  pub piece_to : (at : ℕ) (c : Cut) (k : ℕ) → slice_get cuts at ≡ Some c → k < c.count → (n : ℕ) × (slice_get (pieces cuts) n ≡ Some (c, k))
  piece_to at c k there within =
      let here = at_range 0 c.count k within in
      let zero' : 0 + k ≡ k = omega arith in
      in_flat_map pieces_of cuts at k c (nth_part c k) there (map_at (nth_part c) (range_with_len 0 c.count) k k (here ∙ ap Some zero'))

  -- of two pieces the earlier one is of an earlier test, or an earlier one of the same
  pub record AreOrdered (e f : Cut × ℕ) : Type 0 where
    pub first : ℕ
    pub second : ℕ
    pub first_at : slice_get cuts first ≡ Some e.0
    pub second_at : slice_get cuts second ≡ Some f.0
    pub order : (first < second) ⊎ ((first ≡ second) × (e.1 < f.1))

pub pieces_ordered : (cuts : List Cut) (i j : ℕ) (e f : Cut × ℕ) → i < j → slice_get (pieces cuts) i ≡ Some e → slice_get (pieces cuts) j ≡ Some f → AreOrdered cuts e f
pieces_ordered [] i j e f less at there = absurd cc
pieces_ordered (c ∷ cs) i j e f less at there = by (λ m n less' at' there'. pieces_ordered cs m n e f less' at' there') (from_append (pieces_of c) (pieces cs) i e at) (from_append (pieces_of c) (pieces cs) j f there)
  where
    more : (a b k l : ℕ) → (a < b) ⊎ ((a ≡ b) × (k < l)) → (suc a < suc b) ⊎ ((suc a ≡ suc b) × (k < l))
    more a b k l (inl h) = inl (omega arith)
    more a b k l (inr h) = inr (ap suc h.0, h.1)

    by : ((m n : ℕ) → m < n → slice_get (pieces cs) m ≡ Some e → slice_get (pieces cs) n ≡ Some f → AreOrdered cs e f) →
        (slice_get (pieces_of c) i ≡ Some e) ⊎ ((m : ℕ) × (i ≡ length (pieces_of c) + m) × (slice_get (pieces cs) m ≡ Some e)) →
        (slice_get (pieces_of c) j ≡ Some f) ⊎ ((m : ℕ) × (j ≡ length (pieces_of c) + m) × (slice_get (pieces cs) m ≡ Some f)) → AreOrdered (c ∷ cs) e f
    by later (inl a) (inl b) =
        let p = piece_here c i e a in
        let q = piece_here c j f b in
        let first = ap (λ (x : Cut × ℕ). x.0) p.0 in
        let second = ap (λ (x : Cut × ℕ). x.0) q.0 in
        let k = ap (λ (x : Cut × ℕ). x.1) p.0 in
        let l = ap (λ (x : Cut × ℕ). x.1) q.0 in
        record { first = 0; second = 0; first_at = ap Some (sym first); second_at = ap Some (sym second); order = inr (refl, omega arith) }
    by later (inl a) (inr b) =
        let p = piece_here c i e a in
        let first = ap (λ (x : Cut × ℕ). x.0) p.0 in
        let q = piece_from cs b.0 f b.2 in
        record { first = 0; second = suc q.at; first_at = ap Some (sym first); second_at = q.there; order = inl (omega arith) }
    by later (inr a) (inl b) = let within = slice_get_within (pieces_of c) j f b in absurd (omega (arith, within))
    by later (inr a) (inr b) =
        let r = later a.0 b.0 (omega arith) a.2 b.2 in
        record { first = suc r.first; second = suc r.second; first_at = r.first_at; second_at = r.second_at; order = more r.first r.second e.1 f.1 r.order }

-- ---- names

abbrev pub in_module : ℕ → ℕ → TestId
in_module home n = record { «module» = home; test = n }

-- the names of all tests: in each module some numbers
abbrev pub names_of : (ModuleValue → List ℕ) → List ModuleValue → List TestId
names_of f ms = flat_map (λ (m : ModuleValue). map (in_module m.number) (f m)) ms

module _ (f : ModuleValue → List ℕ) where
  name_from : (ms : List ModuleValue) (i : ℕ) (id : TestId) → slice_get (names_of f ms) i ≡ Some id →
      (k : ℕ) × (slice_get (map (λ (m : ModuleValue). m.number) ms) k ≡ Some id.module)
  name_from ms i id at =
      let r = from_flat_map (λ (m : ModuleValue). map (in_module m.number) (f m)) ms i id at in
      let b = from_map (in_module (r.1).number) (f r.1) r.2 id r.4 in
      (r.0, map_at (λ (m : ModuleValue). m.number) ms r.0 r.1 r.3 ∙ ap Some (ap (λ (x : TestId). x.module) b.2))

  pub names_differ : (ms : List ModuleValue) → AllDiffer (map (λ (m : ModuleValue). m.number) ms) →
      ((i : ℕ) (m : ModuleValue) → slice_get ms i ≡ Some m → AllDiffer (f m)) → AllDiffer (names_of f ms)
  names_differ [] differ each = λ p q id at there. absurd cc
  names_differ (m ∷ ms) differ each =
      differ_append (map (in_module m.number) (f m)) (names_of f ms)
      (differ_map (in_module m.number) (f m) (λ x y e. ap (λ (i : TestId). i.test) e) (each 0 m refl))
      (names_differ ms (differ_tail m.number (map (λ (m : ModuleValue). m.number) ms) differ) (λ i n at. each (suc i) n at))
      (λ p q id at there. apart p q id at there)
    where
      apart : (p q : ℕ) (id : TestId) → slice_get (map (in_module m.number) (f m)) p ≡ Some id → slice_get (names_of f ms) q ≡ Some id → ⊥
      apart p q id at there =
          let b = from_map (in_module m.number) (f m) p id at in
          let here = ap (λ (x : TestId). x.module) b.2 in
          let k = name_from ms q id there in
          let same = differ 0 (suc k.0) id.module (ap Some here) k.1 in
          absurd (omega arith)

-- ---- the names of the tests that are cut

abbrev pub total : (most : ℕ) → List Test → ℕ
total most ts = sum_by (part_count most) ts

abbrev pub number_of : Cut × ℕ → ℕ
number_of e = e.0.number + e.1

numbers_here : (c : Cut) → map number_of (pieces_of c) ≡ range_with_len c.number c.count
numbers_here c = map_twice number_of (nth_part c) (range_with_len 0 c.count) ∙ range_moved c.number 0 c.number c.count (omega arith)

abbrev pub name_of : Cut × ℕ → TestId
name_of e = part_id e.0 e.1

ids_here : (home : ℕ) (c : Cut) → c.whole.module ≡ home → map name_of (pieces_of c) ≡ map (in_module home) (map number_of (pieces_of c))
ids_here home c same = go (range_with_len 0 c.count)
  where
    go : (ks : List ℕ) → map name_of (map (nth_part c) ks) ≡ map (in_module home) (map number_of (map (nth_part c) ks))
    go [] = refl
    go (k ∷ ks) = ap (λ l. part_id c k ∷ l) (go ks) ∙ ap (λ h. in_module h (c.number + k) ∷ map (in_module home) (map number_of (map (nth_part c) ks))) same

module _ (limits : LimitsValue) (most : ℕ) where
  wholes_from : (home number : ℕ) (ts : List Test) → wholes (cuts_from limits most home number ts) ≡ map (in_module home) (map (λ (t : Test). t.number) ts)
  wholes_from home number [] = refl
  wholes_from home number (t ∷ ts) = ap (λ l. in_module home t.number ∷ l) (wholes_from home (number + part_count most t) ts)

  wholes_are : (ms : List ModuleValue) → wholes (flat_map (cuts_in limits most) ms) ≡ names_of (λ (m : ModuleValue). map (λ (t : Test). t.number) m.tests) ms
  wholes_are [] = refl
  wholes_are (m ∷ ms) = simp map-append (cc (wholes_from m.number 1 m.tests, wholes_are ms))

  pub numbers_from : (home number : ℕ) (ts : List Test) → map number_of (pieces (cuts_from limits most home number ts)) ≡ range_with_len number (total most ts)
  numbers_from home number [] = refl
  numbers_from home number (t ∷ ts) =
      simp map-append (rw (numbers_here (cut_of limits most home number t), numbers_from home (number + part_count most t) ts)
      (range_joined number (part_count most t) (number + part_count most t) (total most ts) (total most (t ∷ ts)) refl (sym (sum_by-cons (part_count most) t ts))))

  pub numbers_in : (m : ModuleValue) → map (λ (t : Test). t.number) (map part_test (pieces (cuts_in limits most m))) ≡ range_with_len 1 (total most m.tests)
  numbers_in m = map_twice (λ (t : Test). t.number) part_test (pieces (cuts_in limits most m)) ∙ numbers_from m.number 1 m.tests

  ids_from : (home number : ℕ) (ts : List Test) →
      map name_of (pieces (cuts_from limits most home number ts)) ≡ map (in_module home) (map number_of (pieces (cuts_from limits most home number ts)))
  ids_from home number [] = refl
  ids_from home number (t ∷ ts) =
      simp map-append (cc (ids_here home (cut_of limits most home number t) refl, ids_from home (number + part_count most t) ts))

  ids_are : (ms : List ModuleValue) → map name_of (pieces (flat_map (cuts_in limits most) ms)) ≡ names_of (λ (m : ModuleValue). range_with_len 1 (total most m.tests)) ms
  ids_are [] = refl
  ids_are (m ∷ ms) =
      simp (flat_map-append, map-append) (cc (ids_from m.number 1 m.tests ∙ ap (map (in_module m.number)) (numbers_from m.number 1 m.tests), ids_are ms))

  module _ (soc : SocValue) (sound : IsSoundChip soc) where
    abbrev cuts : List Cut
    cuts = all_cuts limits most soc

    pub wholes_differ : AllDiffer (wholes cuts)
    wholes_differ =
        rw (wholes_are soc.modules)
        (names_differ (λ (m : ModuleValue). map (λ (t : Test). t.number) m.tests) soc.modules sound.modules_differ (λ i m at. (all_at IsSoundModule soc.modules i m sound.modules at).tests_differ))

    -- two cut tests of one name stand at one place
    pub cut_unique : (p q : ℕ) (c d : Cut) → slice_get cuts p ≡ Some c → slice_get cuts q ≡ Some d → c.whole ≡ d.whole → p ≡ q
    cut_unique p q c d at there same =
        wholes_differ p q d.whole (map_at (λ (c : Cut). c.whole) cuts p c at ∙ ap Some same) (map_at (λ (c : Cut). c.whole) cuts q d there)

    -- ---- the numbers of parts

    -- ---- the names of parts

    pub ids_differ : AllDiffer (map name_of (pieces cuts))
    ids_differ =
        rw (ids_are soc.modules)
        (names_differ (λ (m : ModuleValue). range_with_len 1 (total most m.tests)) soc.modules sound.modules_differ (λ i m at. range_differs 1 (total most m.tests)))

    -- two pieces of one name are one
    pub piece_unique : (e f : Cut × ℕ) → IsPiece cuts e → IsPiece cuts f → name_of e ≡ name_of f → e ≡ f
    piece_unique e f is_e is_f same =
        let a = piece_to cuts is_e.at e.0 e.1 is_e.there is_e.within in
        let b = piece_to cuts is_f.at f.0 f.1 is_f.there is_f.within in
        let at = map_at name_of (pieces cuts) a.0 (e.0, e.1) a.1 in
        let there = map_at name_of (pieces cuts) b.0 (f.0, f.1) b.1 in
        same_Some e f (sym a.1 ∙ ap (slice_get (pieces cuts)) (ids_differ a.0 b.0 (name_of f) (at ∙ ap Some same) there) ∙ b.1)
