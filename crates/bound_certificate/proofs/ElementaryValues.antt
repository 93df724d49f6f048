-- The winner of the candidates has at least every elementary value.
use Rattle.std.proofs.Common.{◌≡◌, ℕ, zero, suc, ◌≤◌, ◌<◌, Bool, true, false, ltb, leb, Option, Some, None, List, [], ◌∷◌, ◌++◌, length, get_or, refl, ap, ◌∙◌, arith, inl, inr, slice_get, if◌then◌else◌, sum_by, fold, flat_map, Contains}
use Rattle.std.specs.List.{list_any}
use Rattle.std.proofs.lemmas.Bool.{cases_Bool, ltb-true, ltb-false, eq-eqb}
use Rattle.std.proofs.lemmas.List.Sums.{sum_by-cons}
use Rattle.std.proofs.lemmas.List.FromFn.{length-range_with_len, get_or-range_with_len}
use Rattle.std.proofs.lemmas.Option.{slice_get-get_or, slice_get_within}
use Rattle.soc_model.specs.declared.TestId.{TestId}
use Rattle.soc_model.specs.Chips.{ModuleValue, SocValue, is_live, live_tests, parent_place}
use Rattle.soc_model.specs.Lookups.{module_place}
use Rattle.soc_model.specs.SoundChips.{IsSoundChip}
use Rattle.soc_model.proofs.Parents.{IsParent-from_place}
use Rattle.soc_model.proofs.Places.{IsKeyed-from_sound, module-from_place}
use Rattle.plan_model.specs.Plans.{LimitsValue, WhyValue, OfModule, OfPair, OfChain, OfArea, OfPower, OfForced, BoundValue}
use Rattle.plan_model.specs.Rules.{Each, live_ids}
use Rattle.plan_model.specs.Bounds.{lower, is_of, module_bound, pair_bound, power_bound}
use Rattle.plan_model.specs.Certificates.{on, certificate_value, pair_bound_of, lower_of_id, KeepsList, IsChainItem, IsElementary, is_elementary}
use Rattle.plan_model.proofs.CertificatesAreBounds.{Named, named}
use Rattle.plan_model.proofs.Lists.{in_append_right, in_flat_map}
use Rattle.plan_model.proofs.PlannedTests.{IsLive, live_at}
use Rattle.plan_model.proofs.Sums.{item-le-sum_by}
use Rattle.bound_rules.specs.Sizes.{sizes_of, time_by}
use Rattle.bound_rules.proofs.Modules.{module_bound_is}
use Rattle.bound_certificate.specs.Best.{places, has_live, module_why, pair_why, chain_why, power_why, candidates, better, winner, winning, chain_sum, IsGreatestChain, forced_or, IsBestWith}
use Rattle.bound_certificate.proofs.Considered.{number_is, module_value_of, pair_bound_of as pair_of_number}
use Rattle.common_lemmas.proofs.Lists.{at_left, contains_at}

-- ---- the winner of a list

-- the value of the best so far, 0 where there is none
worth : (WhyValue → ℕ) → Option WhyValue → ℕ
worth f None = 0
worth f (Some why) = f why

better-kept : (f : WhyValue → ℕ) (o : Option WhyValue) (why : WhyValue) → worth f o ≤ worth f (better f o why)
unfolding worth
better-kept f None why = omega arith
better-kept f (Some best) why = elim (cases_Bool (ltb (f best) (f why))) [
  | inl less ↦ rw less (omega (arith, ltb-true (f best) (f why) less))
  | inr more ↦ rw more (omega arith)
]

better-new : (f : WhyValue → ℕ) (o : Option WhyValue) (why : WhyValue) → f why ≤ worth f (better f o why)
unfolding worth
better-new f None why = omega arith
better-new f (Some best) why = elim (cases_Bool (ltb (f best) (f why))) [
  | inl less ↦ rw less (omega arith)
  | inr more ↦ rw more (omega (arith, ltb-false (f best) (f why) more))
]

fold-kept : (f : WhyValue → ℕ) (o : Option WhyValue) (whys : List WhyValue) → worth f o ≤ worth f (fold (better f) o whys)
fold-kept f o [] = omega arith
fold-kept f o (why ∷ whys) = omega (arith, better-kept f o why, fold-kept f (better f o why) whys)

fold-le : (f : WhyValue → ℕ) (o : Option WhyValue) (whys : List WhyValue) (i : ℕ) (why : WhyValue) → slice_get whys i ≡ Some why → f why ≤ worth f (fold (better f) o whys)
fold-le f o [] i why at = absurd cc
fold-le f o (x ∷ whys) zero why at =
    let same : x ≡ why = cc in
    rw same (omega (arith, better-new f o why, fold-kept f (better f o why) whys))
fold-le f o (x ∷ whys) (suc i) why at = fold-le f (better f o x) whys i why at

module _ (soc : SocValue) (limits : LimitsValue) where
  claimed-worth : (chain : Option (List TestId)) → (winning soc limits chain).cycles ≡ worth (certificate_value soc limits) (winner (certificate_value soc limits) (candidates soc limits chain))
  unfolding worth
  claimed-worth chain = go (winner (certificate_value soc limits) (candidates soc limits chain)) refl where
    go : (o : Option WhyValue) → winner (certificate_value soc limits) (candidates soc limits chain) ≡ o → (winning soc limits chain).cycles ≡ worth (certificate_value soc limits) (winner (certificate_value soc limits) (candidates soc limits chain))
    go None e = rw e refl
    go (Some why) e = rw e refl

  candidate-le : (chain : Option (List TestId)) (i : ℕ) (why : WhyValue) → slice_get (candidates soc limits chain) i ≡ Some why → certificate_value soc limits why ≤ (winning soc limits chain).cycles
  candidate-le chain i why at = rw (claimed-worth chain) (fold-le (certificate_value soc limits) None (candidates soc limits chain) i why at)

-- ---- the candidates

place-at : (soc : SocValue) (p : ℕ) → p < length soc.modules → slice_get (places soc) p ≡ Some p
place-at soc p within =
    slice_get-get_or (places soc) p 0 (omega (arith, length-range_with_len 0 (length soc.modules)))
    ∙ ap Some (get_or-range_with_len 0 (length soc.modules) p 0 within ∙ omega arith)

abbrev of_modules : SocValue → List WhyValue
of_modules soc = flat_map (module_why soc) (places soc)

abbrev of_pairs : SocValue → List WhyValue
of_pairs soc = flat_map (pair_why soc) (places soc)

-- the last two kinds
abbrev of_sums : LimitsValue → List WhyValue
of_sums limits = OfArea ∷ power_why limits.power

module _ (soc : SocValue) (limits : LimitsValue) where
  module_candidate : (chain : Option (List TestId)) (p : ℕ) (m : ModuleValue) → IsSoundChip soc → slice_get soc.modules p ≡ Some m → has_live m ≡ true → module_bound soc limits.wires p ≤ (winning soc limits chain).cycles
  module_candidate chain p m sound at live =
      let here : slice_get (module_why soc p) 0 ≡ Some (OfModule m.number) = rw (at, live, number_is soc p m at) refl in
      let a = in_flat_map (module_why soc) (places soc) p 0 p (OfModule m.number) (place-at soc p (slice_get_within soc.modules p m at)) here in
      let b = at_left (of_modules soc) (of_pairs soc) a.0 (OfModule m.number) a.1 in
      let c = at_left (of_modules soc ++ of_pairs soc) (chain_why chain) a.0 (OfModule m.number) b in
      let d = at_left (of_modules soc ++ of_pairs soc ++ chain_why chain) (of_sums limits) a.0 (OfModule m.number) c in
      rw (module_value_of soc limits p m sound at) (candidate-le soc limits chain a.0 (OfModule m.number) d)

  pair_candidate : (chain : Option (List TestId)) (p q : ℕ) (m n : ModuleValue) → IsSoundChip soc → slice_get soc.modules p ≡ Some m → slice_get soc.modules q ≡ Some n → parent_place soc.modules p ≡ Some q → has_live m ≡ true → has_live n ≡ true →
      pair_bound soc limits.wires q p ≤ (winning soc limits chain).cycles
  pair_candidate chain p q m n sound at above is live live' =
      let here : slice_get (pair_why soc p) 0 ≡ Some (OfPair m.number) = rw (is, at, above, live, live', number_is soc p m at) refl in
      let a = in_flat_map (pair_why soc) (places soc) p 0 p (OfPair m.number) (place-at soc p (slice_get_within soc.modules p m at)) here in
      let b = in_append_right (of_modules soc) (of_pairs soc) a.0 (OfPair m.number) a.1 in
      let c = at_left (of_modules soc ++ of_pairs soc) (chain_why chain) b.0 (OfPair m.number) b.1 in
      let d = at_left (of_modules soc ++ of_pairs soc ++ chain_why chain) (of_sums limits) b.0 (OfPair m.number) c in
      let value : pair_bound soc limits.wires q p ≡ certificate_value soc limits (OfPair m.number) = pair_of_number soc limits p (pair_bound soc limits.wires q p) m sound at (rw is refl) in
      rw value (candidate-le soc limits chain b.0 (OfPair m.number) d)

  chain_candidate : (chain : Option (List TestId)) → chain_sum soc limits.wires chain ≤ (winning soc limits chain).cycles
  unfolding certificate_value
  chain_candidate None = omega arith
  chain_candidate (Some ids) =
      let c = in_append_right (of_modules soc ++ of_pairs soc) (OfChain ids ∷ []) 0 (OfChain ids) refl in
      let d = at_left (of_modules soc ++ of_pairs soc ++ OfChain ids ∷ []) (of_sums limits) c.0 (OfChain ids) c.1 in
      candidate-le soc limits (Some ids) c.0 (OfChain ids) d

  area_there : (chain : Option (List TestId)) (i : ℕ) (why : WhyValue) → slice_get (of_sums limits) i ≡ Some why → certificate_value soc limits why ≤ (winning soc limits chain).cycles
  area_there chain i why at =
      let d = in_append_right (of_modules soc ++ of_pairs soc ++ chain_why chain) (of_sums limits) i why at in
      candidate-le soc limits chain d.0 why d.1

-- ---- every elementary value

-- a module without a live test has the value 0
none_pass : {X : Type 0} (p : X → Bool) (f : X → ℕ) (xs : List X) → list_any p xs ≡ false → sum_by (λ x. if p x then f x else 0) xs ≡ 0
none_pass p f [] none = refl
none_pass p f (x ∷ xs) none = elim (cases_Bool (p x)) [
  | inl yes' ↦ let wrong = rw yes' at none in absurd cc
  | inr no' ↦
      let rest = rw no' at none in
      let here : (if p x then f x else 0) ≡ 0 = rw no' refl in
      omega (arith, sum_by-cons (λ x. if p x then f x else 0) x xs, none_pass p f xs rest)
]

module _ (soc : SocValue) (limits : LimitsValue) where
  module_at-le : (chain : Option (List TestId)) (p : ℕ) (m : ModuleValue) → IsSoundChip soc → slice_get soc.modules p ≡ Some m → module_bound soc limits.wires p ≤ (winning soc limits chain).cycles
  module_at-le chain p m sound at = elim (cases_Bool (has_live m)) [
    | inl live ↦ module_candidate soc limits chain p m sound at live
    | inr none ↦ omega (arith, module_bound_is soc limits.wires p m at, none_pass is_live (time_by (sizes_of m) limits.wires) m.tests none)
  ]

  pair_at-le : (chain : Option (List TestId)) (p q : ℕ) (m n : ModuleValue) → IsSoundChip soc → slice_get soc.modules p ≡ Some m → slice_get soc.modules q ≡ Some n → parent_place soc.modules p ≡ Some q → pair_bound soc limits.wires q p ≤ (winning soc limits chain).cycles
  pair_at-le chain p q m n sound at above is = elim (cases_Bool (has_live m)) [
    | inl live ↦ elim (cases_Bool (has_live n)) [
      | inl live' ↦ pair_candidate soc limits chain p q m n sound at above is live live'
      | inr none ↦ omega (arith, module_candidate soc limits chain p m sound at live, module_bound_is soc limits.wires q n above, none_pass is_live (time_by (sizes_of n) limits.wires) n.tests none)
    ]
    | inr none ↦ omega (arith, module_at-le chain q n sound above, module_bound_is soc limits.wires p m at, none_pass is_live (time_by (sizes_of m) limits.wires) m.tests none)
  ]

  module-le : (chain : Option (List TestId)) (number : ℕ) → IsSoundChip soc → certificate_value soc limits (OfModule number) ≤ (winning soc limits chain).cycles
  unfolding certificate_value
  module-le chain number sound = go (module_place soc number) refl where
    go : (o : Option ℕ) → module_place soc number ≡ o → on o (module_bound soc limits.wires) ≤ (winning soc limits chain).cycles
    go None e = omega arith
    go (Some p) e = let m = module-from_place (IsKeyed-from_sound sound) number p e in module_at-le chain p m.0 sound m.1

  pair-le : (chain : Option (List TestId)) (number : ℕ) → IsSoundChip soc → certificate_value soc limits (OfPair number) ≤ (winning soc limits chain).cycles
  unfolding certificate_value
  pair-le chain number sound = go (module_place soc number) refl where
    family : (p : ℕ) (m : ModuleValue) → slice_get soc.modules p ≡ Some m → (o : Option ℕ) → parent_place soc.modules p ≡ o → on o (λ parent. pair_bound soc limits.wires parent p) ≤ (winning soc limits chain).cycles
    family p m at None e = omega arith
    family p m at (Some q) e =
        let within : q < length soc.modules = omega (arith, (IsParent-from_place soc.modules q p e).earlier, slice_get_within soc.modules p m at) in
        pair_at-le chain p q m (get_or soc.modules q m) sound at (slice_get-get_or soc.modules q m within) e

    go : (o : Option ℕ) → module_place soc number ≡ o → on o (pair_bound_of soc limits.wires) ≤ (winning soc limits chain).cycles
    go None e = omega arith
    go (Some p) e = let m = module-from_place (IsKeyed-from_sound sound) number p e in family p m.0 m.1 (parent_place soc.modules p) refl

  -- a list of one test has at most the value of its module
  one-le : (chain : Option (List TestId)) (id : TestId) → IsSoundChip soc → Contains (live_ids soc) id → lower_of_id soc limits.wires id ≤ (winning soc limits chain).cycles
  one-le chain id sound live =
      let n : Named soc limits.wires id = named soc limits.wires id live in
      let k = contains_at (live_tests soc) n.l n.live in
      let o : IsLive soc.modules 0 n.l = live_at soc.modules 0 k.0 n.l k.1 in
      let same : (n.l).place ≡ o.up = omega (arith, o.place_is) in
      let part : (if is_of (n.l).place n.l then lower limits.wires n.l else 0) ≤ module_bound soc limits.wires (n.l).place = item-le-sum_by (λ l. if is_of (n.l).place l then lower limits.wires l else 0) (live_tests soc) k.0 n.l k.1 in
      let own : (if is_of (n.l).place n.l then lower limits.wires n.l else 0) ≡ lower limits.wires n.l = rw (eq-eqb (n.l).place (n.l).place refl) refl in
      let whole : module_bound soc limits.wires (n.l).place ≤ (winning soc limits chain).cycles = rw same (module_at-le chain o.up (n.l).core sound o.module_at) in
      omega (arith, n.lower_is, part, own, whole)

  list-le : (chain : Option (List TestId)) (ids : List TestId) → IsSoundChip soc → IsGreatestChain soc limits chain → Each (IsChainItem soc limits) ids → sum_by (lower_of_id soc limits.wires) ids ≤ (winning soc limits chain).cycles
  list-le chain [] sound most keeps = omega arith
  list-le chain (id ∷ []) sound most keeps = omega (arith, sum_by-cons (lower_of_id soc limits.wires) id [], one-le chain id sound (keeps 0 id refl).0)
  list-le chain (id ∷ next ∷ ids) sound most keeps = omega (arith, most (id ∷ next ∷ ids) keeps (omega arith), chain_candidate soc limits chain)

  power-le : (chain : Option (List TestId)) → certificate_value soc limits OfPower ≤ (winning soc limits chain).cycles
  unfolding certificate_value
  power-le chain = go limits.power refl where
    go : (o : Option ℕ) → limits.power ≡ o → certificate_value soc limits OfPower ≤ (winning soc limits chain).cycles
    go None e =
        let none : power_bound soc limits limits.power ≡ 0 = ap (power_bound soc limits) e in
        omega arith
    go (Some most) e = area_there soc limits chain 1 OfPower (rw e refl)

  elementary-le_winning : (chain : Option (List TestId)) (n : ℕ) → IsSoundChip soc → IsGreatestChain soc limits chain → IsElementary soc limits n → n ≤ (winning soc limits chain).cycles
  unfolding certificate_value
  elementary-le_winning chain n sound most e = rw e.value (go e.why e.kind e.keeps) where
    go : (why : WhyValue) → is_elementary why ≡ true → KeepsList soc limits n why → certificate_value soc limits why ≤ (winning soc limits chain).cycles
    go (OfModule m) kind keeps = module-le chain m sound
    go (OfPair m) kind keeps = pair-le chain m sound
    go (OfChain tests) kind keeps = list-le chain tests sound most keeps
    go OfArea kind keeps = area_there soc limits chain 0 OfArea refl
    go OfPower kind keeps = power-le chain
    go (OfForced ms) kind keeps = absurd cc

  -- the planner's bound has at least the value of the winner
  winning-le : (cycles : ℕ) (chain : Option (List TestId)) (bound : ℕ) (ms : List ℕ) → bound ≡ (forced_or soc limits cycles ms (winning soc limits chain)).cycles → (winning soc limits chain).cycles ≤ bound
  winning-le cycles chain bound ms is = elim (cases_Bool (ltb (winning soc limits chain).cycles cycles)) [
    | inl less ↦ elim (cases_Bool (leb cycles (certificate_value soc limits (OfForced ms)))) [
      | inl enough ↦ let is' = rw (less, enough) at is in omega (arith, ltb-true (winning soc limits chain).cycles cycles less)
      | inr few ↦ let is' = rw (less, few) at is in omega arith
    ]
    | inr more ↦ let is' = rw more at is in omega arith
  ]

  pub elementary-le : (cycles : ℕ) (chain : Option (List TestId)) (bound : BoundValue) (n : ℕ) → IsSoundChip soc → IsGreatestChain soc limits chain → IsBestWith soc limits cycles chain bound → IsElementary soc limits n → n ≤ bound.cycles
  elementary-le cycles chain bound n sound most best e =
      let is : bound.cycles ≡ (forced_or soc limits cycles best.forced (winning soc limits chain)).cycles = ap (λ (b : BoundValue). b.cycles) best.is in
      omega (arith, elementary-le_winning chain n sound most e, winning-le cycles chain bound.cycles best.forced is)
