-- The limits of the parts: their precedences have no cycle, their profiles, and what parts draw at each cycle.
use Rattle.std.proofs.Common.{◌≡◌, ◌⊎◌, inl, inr, ℕ, zero, suc, ◌+◌, ◌-◌, ◌*◌, ◌<◌, ◌≤◌, ◌^◌, true, Option, Some, None, List, [], ◌∷◌, refl, sym, ap, ◌∙◌, subst, arith, Bool, false, map, slice_get, ◌&&◌, nat_le, IfSome, flat_map, Contains}
use Rattle.std.specs.List.{range_with_len}
use Rattle.std.proofs.lemmas.Bool.{cases_Bool, and_parts}
use Rattle.std.proofs.lemmas.Option.{same_Some}
use Rattle.soc_model.specs.declared.Test.{Test}
use Rattle.soc_model.specs.declared.TestId.{TestId}
use Rattle.soc_model.specs.Chips.{SocValue, is_live, same_test, id_of, live_tests, LiveTest}
use Rattle.soc_model.specs.Sizes.{HasSmall}
use Rattle.soc_model.specs.SoundChips.{IsSoundChip}
use Rattle.soc_model.proofs.Sums.{small_module}
use Rattle.plan_model.specs.Plans.{LimitsValue, of_first, ProfileValue, greatest, step_power, power_of_id}
use Rattle.plan_model.specs.Rules.{live_ids}
use Rattle.plan_model.specs.SoundLimits.{HasTest, IsAcyclic, Grow, IsSoundProfile, IsSoundLimits}
use Rattle.plan_model.proofs.CertificatesAreBounds.{same_test_is, is_same_test}
use Rattle.plan_model.proofs.Lists.{from_append, from_flat_map, at_contains}
use Rattle.plan_model.proofs.PlannedTests.{of_first_is}
use Rattle.split_plan.specs.declared.cuts.Cut.{Cut}
use Rattle.split_plan.specs.Cuts.{all_cuts, cut_named, pieces, part_id, part_power, peak}
use Rattle.split_plan.specs.Parts.{split_chip, split_limits, chain, joined, kept_profile, profiles_of}
use Rattle.split_plan.proofs.Lists.{range_at, differ_append}
use Rattle.split_plan.proofs.CutTests.{cut_of_chip, piece_from, piece_to, name_of, piece_unique, IsPiece, IsCutOf}
use Rattle.split_plan.proofs.PartsAsTests.{has_part, live_cut, live_whole, from_named, lie, piece_at, live_piece, whole_live, flip_test, named}
use Rattle.common_lemmas.proofs.Lists.{map_at, all_at, from_map, contains_at, all_from, only_one}
use Rattle.std.proofs.lemmas.Bool.Decides.{nat_tests}
use Rattle.std.proofs.lemmas.List.{map-append}
use Rattle.plan_model.proofs.Greatest.{greatest-least}
use Rattle.live_tests.specs.Names.{AllDiffer}
use Rattle.split_plan.specs.Steps.{profiled}

both : (x y : TestId) (q : TestId × TestId) → x ≡ q.0 → y ≡ q.1 → q ≡ (x, y)
both x y q e f = ap (λ z. pair z q.1) (sym e) ∙ ap (λ z. pair x z) (sym f)
  where
    pair : TestId → TestId → TestId × TestId
    pair a b = (a, b)

-- the rank of a part: that of its test, spread by more than a test has parts, and then its place
rank_of_part : (TestId → ℕ) → List Cut → TestId → ℕ
rank_of_part rank cuts id = of_first (λ e. same_test (name_of e) id) (λ (e : Cut × ℕ). rank e.0.whole * 10 ^ 13 + e.1) 0 (pieces cuts)

-- a part of a test of lower rank comes first
before : (r s k : ℕ) → r < s → k < 10 ^ 13 → r * 10 ^ 13 + k < s * 10 ^ 13 + 0
before r s k h within = omega (arith, within)

only_kept : (x r : ProfileValue) (n : ℕ) → slice_get (x ∷ []) n ≡ Some r → (r ≡ x) × (n ≡ 0)
only_kept x r zero e = (sym (same_Some x r e), refl)
only_kept x r (suc n) e = absurd cc

-- no two profiles are of one test
abbrev HaveOne : List ProfileValue → Type 0
HaveOne ps = (p q : ℕ) (x y : ProfileValue) → slice_get ps p ≡ Some x → slice_get ps q ≡ Some y → x.test ≡ y.test → p ≡ q

-- what a test draws by its profile, of these
abbrev drawn : List ProfileValue → TestId → (own r : ℕ) → ℕ
drawn ps id own r = of_first (λ (p : ProfileValue). same_test p.test id) (λ p. step_power r 0 p.steps) own ps

-- ---- a step is drawn at the cycle that it is from

-- growing steps start from their bound
grown : (from : ℕ) (steps : List (ℕ × ℕ)) → Grow from steps → (i : ℕ) (s : ℕ × ℕ) → slice_get steps i ≡ Some s → from ≤ s.0
grown from [] g i s at = absurd cc
grown from (x ∷ steps) g zero s at = let same : x ≡ s = cc in rw (← same) g.0
grown from (x ∷ steps) g (suc i) s at = let a = grown (x.0 + 1) steps g.1 i s at in omega arith

-- before its first step nothing changes
unchanged : (from r now : ℕ) (steps : List (ℕ × ℕ)) → Grow from steps → r < from → step_power r now steps ≡ now
unchanged from r now [] g less = refl
unchanged from r now (x ∷ steps) g less =
    let late : nat_le x.0 r ≡ false = grind (arith, nat_tests) in
    rw late (unchanged (x.0 + 1) r now steps g.1 (omega arith))

step_drawn : (from now : ℕ) (steps : List (ℕ × ℕ)) → Grow from steps → (i : ℕ) (s : ℕ × ℕ) → slice_get steps i ≡ Some s → step_power s.0 now steps ≡ s.1
step_drawn from now [] g i s at = absurd cc
step_drawn from now (x ∷ steps) g zero s at =
    let same : x ≡ s = cc in
    subst (λ (s : ℕ × ℕ). step_power s.0 now (x ∷ steps) ≡ s.1) same here
  where
    here : step_power x.0 now (x ∷ steps) ≡ x.1
    here = let now' : nat_le x.0 x.0 ≡ true = grind (arith, nat_tests) in rw now' (unchanged (x.0 + 1) x.0 x.1 steps g.1 (omega arith))
step_drawn from now (x ∷ steps) g (suc i) s at =
    let later = grown (x.0 + 1) steps g.1 i s at in
    let past : nat_le x.0 s.0 ≡ true = grind (arith, nat_tests) in
    rw past (step_drawn (x.0 + 1) x.1 steps g.1 i s at)

-- what is drawn at no cycle more than a limit has its peak within it
peak-le : (most : ℕ) (id : TestId) (own : ℕ) (ps : List ProfileValue) → ((i : ℕ) (p : ProfileValue) → slice_get ps i ≡ Some p → Grow 0 p.steps) →
    ((r : ℕ) → drawn ps id own r ≤ most) →
    of_first (λ (p : ProfileValue). same_test id p.test) (λ p. greatest (map (λ (s : ℕ × ℕ). s.1) p.steps)) own ps ≤ most
peak-le most id own [] grow h = h 0
peak-le most id own (p ∷ ps) grow h = elim (cases_Bool (same_test p.test id)) [
  | inl yes' ↦
      let flipped = flip_test id p.test ∙ yes' in
      rw flipped (greatest-least (λ (s : ℕ × ℕ). s.1) most p.steps (λ i s at. step i s at yes'))
  | inr no' ↦
      let flipped = flip_test id p.test ∙ no' in
      rw flipped (peak-le most id own ps (λ i q at. grow (suc i) q at) (λ r. later r no'))
]
  where
    step : (i : ℕ) (s : ℕ × ℕ) → slice_get p.steps i ≡ Some s → same_test p.test id ≡ true → s.1 ≤ most
    step i s at yes' =
        let is = step_drawn 0 0 p.steps (grow 0 p refl) i s at in
        let all : step_power s.0 0 p.steps ≤ most = rw yes' at (h s.0) in
        omega arith

    later : (r : ℕ) → same_test p.test id ≡ false → drawn ps id own r ≤ most
    later r no' = rw no' at (h r)

at_limit : (P : ℕ → Type 0) (bound : ℕ) (o : Option ℕ) → o ≡ Some bound → IfSome o P → P bound
at_limit P bound o is h = subst (λ (o : Option ℕ). IfSome o P) is h

module _ (limits : LimitsValue) (most : ℕ) (soc : SocValue) where
  abbrev cuts : List Cut
  cuts = all_cuts limits most soc

  -- ---- precedences

  -- each part before the next
  pub record IsChained (p : TestId × TestId) : Type 0 where
    pub cut : Cut
    pub at : ℕ
    pub there : slice_get cuts at ≡ Some cut
    pub k : ℕ
    pub within : k + 1 < cut.count
    pub is : p ≡ (part_id cut k, part_id cut (k + 1))

  -- the last part of a live test before the first of another
  pub record IsJoined (p : TestId × TestId) : Type 0 where
    pub a : Cut
    pub b : Cut
    pub i : ℕ
    pub j : ℕ
    pub a_at : slice_get cuts i ≡ Some a
    pub b_at : slice_get cuts j ≡ Some b
    pub a_live : is_live a.test ≡ true
    pub b_live : is_live b.test ≡ true
    pub old : Contains limits.before (a.whole, b.whole)
    pub is : p ≡ (part_id a (a.count - 1), part_id b 0)

  joined_from : (old : TestId × TestId) → Contains limits.before old → (x y : Option Cut) → cut_named cuts old.0 ≡ x →
      cut_named cuts old.1 ≡ y →
      (n : ℕ) (p : TestId × TestId) → slice_get (joined x y) n ≡ Some p → IsJoined p
  joined_from old has None y e f n p at = absurd cc
  joined_from old has (Some a) None e f n p at = absurd cc
  joined_from old has (Some a) (Some b) e f n p at = elim (cases_Bool (is_live a.test && is_live b.test)) [
    | inl yes' ↦
        let at' = rw yes' at at in
        let live = and_parts (is_live a.test) (is_live b.test) yes' in
        let first = from_named cuts old.0 a e in
        let second = from_named cuts old.1 b f in
        let old' : Contains limits.before (a.whole, b.whole) = rw (← (both a.whole b.whole old first.2 second.2)) has in
        record { a = a; b = b; i = first.0; j = second.0; a_at = first.1; b_at = second.1; a_live = live.0; b_live = live.1; old = old'; is = sym (only_one (part_id a (a.count - 1), part_id b 0) p n at') }
    | inr no' ↦ let at' = rw no' at at in absurd cc
  ]

  pub precedence_from : (n : ℕ) (p : TestId × TestId) → slice_get (split_limits limits most soc).before n ≡ Some p → IsChained p ⊎ IsJoined p
  precedence_from n p at = elim (from_append (flat_map chain cuts) (flat_map (λ (q : TestId × TestId). joined (cut_named cuts q.0) (cut_named cuts q.1)) limits.before) n p at) [
    | inl h ↦
        let r = from_flat_map chain cuts n p h in
        let m = from_map (λ k. pair r.1 k) (range_with_len 0 ((r.1).count - 1)) r.2 p r.4 in
        let k = range_at 0 ((r.1).count - 1) r.2 m.0 m.1 in
        inl (record { cut = r.1; at = r.0; there = r.3; k = m.0; within = omega (arith, k.0, k.1); is = sym m.2 })
    | inr h ↦
        let r = from_flat_map (λ (q : TestId × TestId). joined (cut_named cuts q.0) (cut_named cuts q.1)) limits.before h.0 p h.2 in
        inr (joined_from r.1 (at_contains limits.before r.0 r.1 r.3) (cut_named cuts (r.1).0) (cut_named cuts (r.1).1) refl refl r.2 p r.4)
  ]
    where
      pair : Cut → ℕ → TestId × TestId
      pair c k = (part_id c k, part_id c (k + 1))

  rank_is : IsSoundChip soc → (rank : TestId → ℕ) (e : Cut × ℕ) → IsPiece cuts e →
      rank_of_part rank cuts (name_of e) ≡ rank e.0.whole * 10 ^ 13 + e.1
  unfolding rank_of_part
  rank_is sound rank e piece =
      let n = piece_to cuts piece.at e.0 e.1 piece.there piece.within in
      let r = of_first_is (λ f. same_test (name_of f) (name_of e)) (λ (f : Cut × ℕ). rank f.0.whole * 10 ^ 13 + f.1) 0 (pieces cuts) n.0 (e.0, e.1) n.1 (is_same_test (name_of e)) in
      let same = piece_unique limits most soc sound r.1 e (piece_from cuts r.0 r.1 r.2) piece (same_test_is (name_of r.1) (name_of e) r.3) in
      r.4 ∙ ap (λ (f : Cut × ℕ). rank f.0.whole * 10 ^ 13 + f.1) same

  patterns_small : IsSoundChip soc → (i : ℕ) (c : Cut) → slice_get cuts i ≡ Some c → c.test.patterns < 10 ^ 12
  patterns_small sound i c at =
      let o = cut_of_chip limits most soc i c at in
      let small = small_module o.core (all_at HasSmall soc.modules o.place o.core sound.small o.core_at) in
      all_at (λ (t : Test). t.patterns < 10 ^ 12) o.core.tests o.cut.at c.test small.tests o.cut.test_at

  -- a live test that is cut is one of the live tests
  live_among : (i : ℕ) (c : Cut) → slice_get cuts i ≡ Some c → is_live c.test ≡ true → Contains (live_ids soc) c.whole
  live_among i c at live =
      let o = cut_of_chip limits most soc i c at in
      let l = live_cut limits most soc c o live in
      rw (← (live_whole limits most soc c o l.1 l.4 l.5)) (at_contains (live_ids soc) l.0 (id_of l.1) (map_at id_of (live_tests soc) l.0 l.1 l.2))

  -- one piece is of a lower rank than another
  lower : IsSoundChip soc → (rank : TestId → ℕ) (x y : TestId) (e f : Cut × ℕ) → IsPiece cuts e →
      IsPiece cuts f → x ≡ name_of e → y ≡ name_of f →
      rank e.0.whole * 10 ^ 13 + e.1 < rank f.0.whole * 10 ^ 13 + f.1 → rank_of_part rank cuts x < rank_of_part rank cuts y
  lower sound rank x y e f is_e is_f a b lt =
      let c = ap (rank_of_part rank cuts) a ∙ rank_is sound rank e is_e in
      let d = ap (rank_of_part rank cuts) b ∙ rank_is sound rank f is_f in
      omega arith

  module _ (some : 1 ≤ most) where
    -- both tests of a precedence are parts
    pub before_known : IsSoundChip (split_chip limits most soc) → (n : ℕ) (p : TestId × TestId) → slice_get (split_limits limits most soc).before n ≡ Some p →
        HasTest (split_chip limits most soc) p.0 × HasTest (split_chip limits most soc) p.1
    before_known sound n p at = elim (precedence_from n p at) [
      | inl h ↦
          let within = h.within in
          rw h.is (
            has_part limits most soc sound (h.cut, h.k) (piece_at limits most soc h.at h.cut h.k h.there (omega (arith, within))),
            has_part limits most soc sound (h.cut, h.k + 1) (piece_at limits most soc h.at h.cut (h.k + 1) h.there within),
          )
      | inr h ↦
          let a = (lie limits most soc some h.i h.a h.a_at).some in
          let b = (lie limits most soc some h.j h.b h.b_at).some in
          rw h.is (
            has_part limits most soc sound (h.a, h.a.count - 1) (piece_at limits most soc h.i h.a (h.a.count - 1) h.a_at (omega (arith, a))),
            has_part limits most soc sound (h.b, 0) (piece_at limits most soc h.j h.b 0 h.b_at (omega (arith, b))),
          )
    ]

    -- ---- no cycle

    pub acyclic : IsSoundChip soc → IsAcyclic soc limits → IsAcyclic (split_chip limits most soc) (split_limits limits most soc)
    acyclic sound old = (rank_of_part old.0 cuts, λ x y has live live'. later x y has)
      where
        later : (x y : TestId) → Contains (split_limits limits most soc).before (x, y) → rank_of_part old.0 cuts x < rank_of_part old.0 cuts y
        later x y has =
            let n = contains_at (split_limits limits most soc).before (x, y) has in
            elim (precedence_from n.0 (x, y) n.1) [
              | inl h ↦
                  let within = h.within in
                  lower sound old.0 x y (h.cut, h.k) (h.cut, h.k + 1) (piece_at limits most soc h.at h.cut h.k h.there (omega (arith, within))) (piece_at limits most soc h.at h.cut (h.k + 1) h.there within)
                  (ap (λ (p : TestId × TestId). p.0) h.is) (ap (λ (p : TestId × TestId). p.1) h.is) (omega arith)
              | inr h ↦
                  let a = lie limits most soc some h.i h.a h.a_at in
                  let b = lie limits most soc some h.j h.b h.b_at in
                  let small = patterns_small sound h.i h.a h.a_at in
                  let ranks = old.1 h.a.whole h.b.whole h.old (live_among h.i h.a h.a_at h.a_live) (live_among h.j h.b h.b_at h.b_live) in
                  lower sound old.0 x y (h.a, h.a.count - 1) (h.b, 0) (piece_at limits most soc h.i h.a (h.a.count - 1) h.a_at (omega arith)) (piece_at limits most soc h.j h.b 0 h.b_at (omega arith))
                  (ap (λ (p : TestId × TestId). p.0) h.is) (ap (λ (p : TestId × TestId). p.1) h.is)
                  (before (old.0 h.a.whole) (old.0 h.b.whole) (h.a.count - 1) ranks (omega arith))
            ]

  -- ---- profiles

  -- the profile that is kept of one
  abbrev kept_of : ProfileValue → List ProfileValue
  kept_of p = kept_profile (cut_named cuts p.test) p

  -- the profile of a test of one part
  pub record IsKept (old r : ProfileValue) : Type 0 where
    pub cut : Cut
    pub at : ℕ
    pub there : slice_get cuts at ≡ Some cut
    pub whole : cut.whole ≡ old.test
    pub one : cut.count ≤ 1
    pub test_is : r.test ≡ part_id cut 0
    pub steps_are : r.steps ≡ old.steps

  -- a test has one kept profile or none
  kept_is : (old : ProfileValue) (o : Option Cut) → cut_named cuts old.test ≡ o → (n : ℕ) (r : ProfileValue) →
      slice_get (kept_profile o old) n ≡ Some r → IsKept old r × (n ≡ 0)
  kept_is old None e n r at = absurd cc
  kept_is old (Some c) e n r at = elim (cases_Bool (nat_le c.count 1)) [
    | inl yes' ↦
        let at' = rw yes' at at in
        let f = from_named cuts old.test c e in
        let few : c.count ≤ 1 = grind (arith, nat_tests) in
        let is = only_kept (record { test = part_id c 0; steps = old.steps }) r n at' in
        (record { cut = c; at = f.0; there = f.1; whole = f.2; one = few; test_is = ap (λ (p : ProfileValue). p.test) is.0; steps_are = ap (λ (p : ProfileValue). p.steps) is.0 }, is.1)
    | inr no' ↦ let at' = rw no' at at in absurd cc
  ]

  -- where a profile of the parts comes from
  pub profile_from : (ps : List ProfileValue) (n : ℕ) (r : ProfileValue) → slice_get (profiles_of cuts ps) n ≡ Some r →
      (i : ℕ) × (p : ProfileValue) × (slice_get ps i ≡ Some p) × IsKept p r
  profile_from ps n r at =
      let f = from_flat_map kept_of ps n r at in
      (f.0, f.1, f.3, (kept_is f.1 (cut_named cuts (f.1).test) refl f.2 r f.4).0)

  kept_test : (p : ProfileValue) (i : ℕ) (id : TestId) →
      slice_get (profiled (kept_of p)) i ≡ Some id → (r : ProfileValue) × IsKept p r × (i ≡ 0) × (r.test ≡ id)
  kept_test p i id at =
      let m = from_map (λ (p : ProfileValue). p.test) (kept_of p) i id at in
      let k = kept_is p (cut_named cuts p.test) refl i m.0 m.1 in
      (m.0, k.0, k.1, m.2)

  module _ (some : 1 ≤ most) where
    profile_sound : IsSoundChip (split_chip limits most soc) → (old r : ProfileValue) → IsSoundProfile soc old → IsKept old r →
        IsSoundProfile (split_chip limits most soc) r
    profile_sound sound old r h k =
        let one = (lie limits most soc some k.at k.cut k.there).some in
        let test = has_part limits most soc sound (k.cut, 0) (piece_at limits most soc k.at k.cut 0 k.there (omega (arith, one))) in
        rw (ap (λ t. made t r.steps) k.test_is ∙ ap (made (part_id k.cut 0)) k.steps_are)
        (record { test = test; some_step = h.some_step; few_steps = h.few_steps; begins = h.begins; grows = h.grows; small = h.small })
      where
        made : TestId → List (ℕ × ℕ) → ProfileValue
        made t steps = record { test = t; steps = steps }

    module _ (sound : IsSoundChip soc) where
      -- kept profiles of one new test are of one old test
      same_old : (p q a b : ProfileValue) → IsKept p a → IsKept q b → a.test ≡ b.test → p.test ≡ q.test
      same_old p q a b k l same =
          let one_a = (lie limits most soc some k.at k.cut k.there).some in
          let one_b = (lie limits most soc some l.at l.cut l.there).some in
          let names = sym k.test_is ∙ same ∙ l.test_is in
          let both = piece_unique limits most soc sound (k.cut, 0) (l.cut, 0) (piece_at limits most soc k.at k.cut 0 k.there (omega arith)) (piece_at limits most soc l.at l.cut 0 l.there (omega arith)) names in
          sym k.whole ∙ ap (λ (e : Cut × ℕ). e.0.whole) both ∙ l.whole

      kept_differ : (ps : List ProfileValue) → HaveOne ps → AllDiffer (profiled (profiles_of cuts ps))
      kept_differ [] one = λ p q x at there. absurd cc
      kept_differ (p ∷ ps) one =
          rw (map-append (λ (p : ProfileValue). p.test) (kept_of p) (profiles_of cuts ps))
          (differ_append (profiled (kept_of p)) (profiled (profiles_of cuts ps))
          (λ i j id at there. alone i j id at there)
          (kept_differ ps (λ i j x y at there same. let e = one (suc i) (suc j) x y at there same in omega arith))
          (λ i j id at there. clash i j id at there))
        where
          alone : (i j : ℕ) (id : TestId) → slice_get (profiled (kept_of p)) i ≡ Some id → slice_get (profiled (kept_of p)) j ≡ Some id → i ≡ j
          alone i j id at there =
              let a = (kept_test p i id at).2 in
              let b = (kept_test p j id there).2 in
              omega arith

          clash : (i j : ℕ) (id : TestId) → slice_get (profiled (kept_of p)) i ≡ Some id → slice_get (profiled (profiles_of cuts ps)) j ≡ Some id → ⊥
          clash i j id at there =
              let a = kept_test p i id at in
              let m = from_map (λ (p : ProfileValue). p.test) (profiles_of cuts ps) j id there in
              let q = profile_from ps j m.0 m.1 in
              let tests = same_old p q.1 a.0 m.0 a.1 q.3 (a.3 ∙ sym m.2) in
              let e : 0 ≡ suc q.0 = one 0 (suc q.0) p q.1 refl q.2 tests in
              absurd (omega arith)

      -- ---- powers at every cycle

      -- parts of one-part tests of one name are of one test
      other_part : (i j k : ℕ) (c d : Cut) → slice_get cuts i ≡ Some c → slice_get cuts j ≡ Some d → k < c.count →
          (c ≡ d → ⊥) → (b : Bool) → same_test (part_id d 0) (part_id c k) ≡ b → b ≡ false
      other_part i j k c d at there within apart false e = refl
      other_part i j k c d at there within apart true e =
          let one = (lie limits most soc some j d there).some in
          let same = piece_unique limits most soc sound (d, 0) (c, k) (piece_at limits most soc j d 0 there (omega (arith, one))) (piece_at limits most soc i c k at within) (same_test_is (part_id d 0) (part_id c k) e) in
          absurd (apart (sym (ap (λ (e : Cut × ℕ). e.0) same)))

      -- a test of one part draws what it drew
      same_power : (i : ℕ) (c : Cut) → slice_get cuts i ≡ Some c → c.count ≤ 1 → (own r : ℕ) (ps : List ProfileValue) →
          drawn (profiles_of cuts ps) (part_id c 0) own r ≡ drawn ps c.whole own r
      same_power i c at few own r [] = refl
      same_power i c at few own r (p ∷ ps) = elim (cases_Bool (same_test p.test c.whole)) [
        | inl yes' ↦ rw yes' (here yes')
        | inr no' ↦ rw no' (there no' (cut_named cuts p.test) refl (same_power i c at few own r ps))
      ]
        where
          here : same_test p.test c.whole ≡ true → drawn (profiles_of cuts (p ∷ ps)) (part_id c 0) own r ≡ step_power r 0 p.steps
          here yes' =
              let same = same_test_is p.test c.whole yes' in
              let found = ap (cut_named cuts) same ∙ named limits most soc sound i c at in
              let one : nat_le c.count 1 ≡ true = grind (arith, nat_tests) in
              let it = is_same_test (part_id c 0) in
              rw (found, one, it) refl

          there : same_test p.test c.whole ≡ false → (o : Option Cut) → cut_named cuts p.test ≡ o → drawn (profiles_of cuts ps) (part_id c 0) own r ≡ drawn ps c.whole own r →
              drawn (profiles_of cuts (p ∷ ps)) (part_id c 0) own r ≡ drawn ps c.whole own r
          there no' None e rest = rw e rest
          there no' (Some d) e rest = elim (cases_Bool (nat_le d.count 1)) [
            | inl one ↦
                let f = from_named cuts p.test d e in
                let some_part = (lie limits most soc some i c at).some in
                let other : same_test (part_id d 0) (part_id c 0) ≡ false = other_part i f.0 0 c d at f.1 (omega arith) (λ same. differ same f.2 no') (same_test (part_id d 0) (part_id c 0)) refl in
                rw (e, one, other) rest
            | inr cut ↦ rw (e, cut) rest
          ]
            where
              differ : c ≡ d → d.whole ≡ p.test → same_test p.test c.whole ≡ false → ⊥
              differ same whole no' =
                  let tests = sym whole ∙ ap (λ (c : Cut). c.whole) (sym same) in
                  let yes' : same_test p.test c.whole ≡ true = rw (← tests) (is_same_test p.test) in
                  absurd cc

      -- a part of a test that is cut has no profile
      no_profile : (i k : ℕ) (c : Cut) → slice_get cuts i ≡ Some c → k < c.count → 1 < c.count → (own r : ℕ) (ps : List ProfileValue) →
          drawn (profiles_of cuts ps) (part_id c k) own r ≡ own
      no_profile i k c at within many own r [] = refl
      no_profile i k c at within many own r (p ∷ ps) = there (cut_named cuts p.test) refl (no_profile i k c at within many own r ps)
        where
          there : (o : Option Cut) → cut_named cuts p.test ≡ o → drawn (profiles_of cuts ps) (part_id c k) own r ≡ own → drawn (profiles_of cuts (p ∷ ps)) (part_id c k) own r ≡ own
          there None e rest = rw e rest
          there (Some d) e rest = elim (cases_Bool (nat_le d.count 1)) [
            | inl one ↦
                let f = from_named cuts p.test d e in
                let few : d.count ≤ 1 = grind (arith, nat_tests, one) in
                let other : same_test (part_id d 0) (part_id c k) ≡ false = other_part i f.0 k c d at f.1 within (λ same. let n = ap (λ (c : Cut). c.count) same in omega arith) (same_test (part_id d 0) (part_id c k)) refl in
                rw (e, one, other) rest
            | inr cut ↦ rw (e, cut) rest
          ]

  -- the power of the parts of a cut test of the chip
  power_is : (c : Cut) (o : IsCutOf limits most soc c) → c.power ≡ part_power limits c.whole c.test c.count
  power_is c o = rw o.cut.is refl

  -- what a live test that is cut keeps to
  old_within : IsSoundLimits soc limits → (bound : ℕ) → limits.power ≡ Some bound → (at : ℕ) (c : Cut) →
      slice_get cuts at ≡ Some c → is_live c.test ≡ true → (r : ℕ) → drawn limits.profiles c.whole c.test.power r ≤ bound
  old_within bounds bound limit at c there live r =
      let o = cut_of_chip limits most soc at c there in
      let w = live_cut limits most soc c o live in
      let here = at_limit (λ (n : ℕ). drawn limits.profiles (id_of w.1) (w.1).test.power r ≤ n) bound limits.power limit (bounds.within w.0 w.1 w.2 r) in
      subst (λ (id : TestId). drawn limits.profiles id c.test.power r ≤ bound) (live_whole limits most soc c o w.1 w.4 w.5)
      (subst (λ (t : Test). drawn limits.profiles (id_of w.1) t.power r ≤ bound) w.5 here)

  module _ (some : 1 ≤ most) (sound : IsSoundChip soc) (bounds : IsSoundLimits soc limits) where
    -- what a part of a test draws is within what the test keeps to
    part_draws : (bound k at : ℕ) (c : Cut) → slice_get cuts at ≡ Some c → k < c.count →
        ((r : ℕ) → drawn limits.profiles c.whole c.test.power r ≤ bound) → (r : ℕ) →
        drawn (profiles_of cuts limits.profiles) (part_id c k) c.power r ≤ bound
    part_draws bound k at c there inside old r = elim (cases_Bool (nat_le c.count 1)) [
      | inl one ↦
          let few : c.count ≤ 1 = grind (arith, nat_tests, one) in
          let first : k ≡ 0 = omega arith in
          let power = power_is c (cut_of_chip limits most soc at c there) ∙ single one in
          let same = same_power some sound at c there few c.test.power r limits.profiles in
          let all =
          ap (λ k. drawn (profiles_of cuts limits.profiles) (part_id c k) c.power r) first ∙ ap (λ own. drawn (profiles_of cuts limits.profiles) (part_id c 0) own r) power ∙ same in
          rw all (old r)
      | inr several ↦
          let many : 1 < c.count = grind (arith, nat_tests) in
          let power = power_is c (cut_of_chip limits most soc at c there) ∙ cut several in
          let own = no_profile some sound at k c there inside many c.power r limits.profiles in
          rw (own ∙ power) (peak-le bound c.whole c.test.power limits.profiles (λ i p p_at. (all_at (IsSoundProfile soc) limits.profiles i p bounds.profiles p_at).grows) old)
    ]
      where
        single : nat_le c.count 1 ≡ true → part_power limits c.whole c.test c.count ≡ c.test.power
        single one = rw one refl

        cut : nat_le c.count 1 ≡ false → part_power limits c.whole c.test c.count ≡ peak limits c.whole c.test.power
        cut several = rw several refl

    -- no part draws more than the limit
    within : (i : ℕ) (l : LiveTest) → slice_get (live_tests (split_chip limits most soc)) i ≡ Some l → (r bound : ℕ) → limits.power ≡ Some bound →
        power_of_id (split_limits limits most soc) (id_of l) l.test.power r ≤ bound
    within i l at r bound limit =
        let v = live_piece limits most soc i l at in
        let p = v.is_piece in
        let part =
        part_draws bound (v.piece).1 p.at (v.piece).0 p.there p.within (old_within bounds bound limit p.at (v.piece).0 p.there (whole_live limits most soc l v)) r in
        subst (λ (id : TestId). power_of_id (split_limits limits most soc) id l.test.power r ≤ bound) (sym v.id_is)
        (subst (λ (t : Test). power_of_id (split_limits limits most soc) (name_of v.piece) t.power r ≤ bound) (sym v.test_is) part)

if_limit : (P : ℕ → Type 0) (o : Option ℕ) → ((bound : ℕ) → o ≡ Some bound → P bound) → IfSome o P
if_limit P None h = tt
if_limit P (Some n) h = h n refl

-- ---- the limits of the parts are sound

pub limits_sound : (limits : LimitsValue) (most : ℕ) (soc : SocValue) → 1 ≤ most → IsSoundChip soc → IsSoundLimits soc limits →
    IsSoundChip (split_chip limits most soc) → IsSoundLimits (split_chip limits most soc) (split_limits limits most soc)
limits_sound limits most soc some sound bounds parts = record {
  some_wire = bounds.some_wire;
  few_wires = bounds.few_wires;
  power = bounds.power;
  budget = bounds.budget;
  before = all_from (λ (p : TestId × TestId). HasTest (split_chip limits most soc) p.0 × HasTest (split_chip limits most soc) p.1) (split_limits limits most soc).before (before_known limits most soc some parts);
  profiles = all_from (IsSoundProfile (split_chip limits most soc)) (split_limits limits most soc).profiles each;
  one_profile = λ p q x y at there same. apart p q x y at there same;
  acyclic = acyclic limits most soc some sound bounds.acyclic;
  within = λ i l at r. if_limit (λ bound. power_of_id (split_limits limits most soc) (id_of l) l.test.power r ≤ bound) limits.power (λ bound limit. within limits most soc some sound bounds i l at r bound limit);
}
  where
    each : (i : ℕ) (r : ProfileValue) → slice_get (profiles_of (all_cuts limits most soc) limits.profiles) i ≡ Some r → IsSoundProfile (split_chip limits most soc) r
    each i r at =
        let f = profile_from limits most soc limits.profiles i r at in
        profile_sound limits most soc some parts f.1 r (all_at (IsSoundProfile soc) limits.profiles f.0 f.1 bounds.profiles f.2) f.3

    apart : (p q : ℕ) (x y : ProfileValue) → slice_get (profiles_of (all_cuts limits most soc) limits.profiles) p ≡ Some x → slice_get (profiles_of (all_cuts limits most soc) limits.profiles) q ≡ Some y → x.test ≡ y.test → p ≡ q
    apart p q x y at there same =
        kept_differ limits most soc some sound limits.profiles bounds.one_profile p q y.test
        (map_at (λ (p : ProfileValue). p.test) (profiles_of (all_cuts limits most soc) limits.profiles) p x at ∙ ap Some same)
        (map_at (λ (p : ProfileValue). p.test) (profiles_of (all_cuts limits most soc) limits.profiles) q y there)
