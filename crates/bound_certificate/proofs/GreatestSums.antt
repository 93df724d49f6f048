-- The greatest sum of a test from those of the tests before it, and how great it can be.
use Rattle.std.proofs.Common.{◌≡◌, ◌⊎◌, inl, inr, ℕ, zero, suc, ◌+◌, ◌-◌, ◌*◌, ◌^◌, ◌≤◌, ◌<◌, Some, List, [], ◌∷◌, ◌++◌, length, get_or, refl, sym, ap, ◌∙◌, subst, arith, slice_get, if◌then◌else◌, sum_by, Contains}
use Rattle.std.proofs.Math.Nat.{mul-le-mul_right}
use Rattle.std.proofs.lemmas.Bool.{cases_Bool, cases_lt}
use Rattle.std.proofs.lemmas.List.{length-map}
use Rattle.std.proofs.lemmas.List.Sums.{sum_by_push, sum_by-le}
use Rattle.std.proofs.lemmas.Option.{slice_get-map, slice_get-get_or, slice_get_within}
use Rattle.indexmap.proofs.IndexTableLemmas.Probe.{pigeonhole}
use Rattle.soc_model.specs.declared.TestId.{TestId}
use Rattle.soc_model.specs.Chips.{SocValue, same_test}
use Rattle.plan_model.specs.Plans.{LimitsValue}
use Rattle.plan_model.specs.Rules.{Each, live_ids}
use Rattle.plan_model.specs.SoundLimits.{IsAcyclic}
use Rattle.plan_model.specs.Certificates.{lower_of_id, IsChainItem}
use Rattle.plan_model.proofs.Lists.{at_contains, last-take}
use Rattle.plan_model.proofs.CertificatesAreBounds.{same_test_is, is_same_test}
use Rattle.bound_certificate.specs.Best.{EndsIn, IsGreatestSum}
use Rattle.bound_certificate.specs.Nodes.{NodeValue, AreNodes}
use Rattle.bound_certificate.specs.Sums.{HasSum, IsMost}
use Rattle.bound_certificate.proofs.ChainLists.{chain_push, chain_one, ComesFrom, IsSplit, split_chain}
use Rattle.common_lemmas.proofs.Lists.{from_map, contains_at}

-- ---- nodes and their tests

module _ (soc : SocValue) (limits : LimitsValue) (nodes : List NodeValue) where
  pub node_live : AreNodes soc limits nodes → (i : ℕ) (n : NodeValue) → slice_get nodes i ≡ Some n → slice_get (live_ids soc) i ≡ Some n.id
  node_live are i n at = ap (λ (ids : List TestId). slice_get ids i) (sym are.ids) ∙ slice_get-map (λ (n : NodeValue). n.id) nodes i ∙ rw at refl

  pub node_of : AreNodes soc limits nodes → (i : ℕ) (id : TestId) → slice_get (live_ids soc) i ≡ Some id → (n : NodeValue) × (slice_get nodes i ≡ Some n) × (n.id ≡ id)
  node_of are i id at = from_map (λ (n : NodeValue). n.id) nodes i id (ap (λ (ids : List TestId). slice_get ids i) are.ids ∙ at)

  -- ---- one step

  pub sum_step : AreNodes soc limits nodes → (j : ℕ) (n : NodeValue) (most : ℕ) → slice_get nodes j ≡ Some n → IsMost soc limits nodes n.before most → IsGreatestSum soc limits n.id (most + n.time)
  sum_step are j n most at m = by m.attained
    where
      f : TestId → ℕ
      f = lower_of_id soc limits.wires

      live : Contains (live_ids soc) n.id
      live = at_contains (live_ids soc) j n.id (node_live are j n at)

      time : n.time ≡ lower_of_id soc limits.wires n.id
      time = are.times j n at

      -- no chain that ends in a test before it has a greater sum
      front_small : (front : List TestId) → ComesFrom soc limits n.id front → sum_by (lower_of_id soc limits.wires) front ≤ most
      front_small front c =
          let p = contains_at (live_ids soc) c.a c.live in
          let q = node_of are p.0 c.a p.1 in
          let before : Contains n.before p.0 = are.linked.all p.0 j q.0 n q.1 at (subst (λ (id : TestId). Contains limits.before (id, n.id)) (sym q.2) c.before) in
          let k = contains_at n.before p.0 before in
          let s = m.within k.0 p.0 k.1 in
          let g : IsGreatestSum soc limits c.a s.0 = subst (λ (id : TestId). IsGreatestSum soc limits id s.0) q.2 (s.2 q.0 q.1) in
          omega (arith, g.greatest front c.ends, s.1)

      greatest : (others : List TestId) → EndsIn soc limits n.id others → sum_by (lower_of_id soc limits.wires) others ≤ most + n.time
      greatest others ends =
          let s : IsSplit soc limits n.id others = split_chain soc limits n.id others ends in
          let sum : sum_by (lower_of_id soc limits.wires) others ≡ sum_by (lower_of_id soc limits.wires) s.front + lower_of_id soc limits.wires n.id = ap (sum_by (lower_of_id soc limits.wires)) s.is ∙ sum_by_push (lower_of_id soc limits.wires) s.front n.id in
          front_by s sum s.from
        where
          front_by : (s : IsSplit soc limits n.id others) → sum_by (lower_of_id soc limits.wires) others ≡ sum_by (lower_of_id soc limits.wires) s.front + lower_of_id soc limits.wires n.id → (s.front ≡ []) ⊎ ComesFrom soc limits n.id s.front → sum_by (lower_of_id soc limits.wires) others ≤ most + n.time
          front_by s sum (inl none) =
              let zero_is : sum_by (lower_of_id soc limits.wires) s.front ≡ 0 = ap (sum_by (lower_of_id soc limits.wires)) none in
              omega (arith, sum, zero_is, time)
          front_by s sum (inr c) = omega (arith, sum, front_small s.front c, time)

      by : (most ≡ 0) ⊎ ((p : ℕ) × Contains n.before p × HasSum soc limits nodes p most) → IsGreatestSum soc limits n.id (most + n.time)
      by (inl none) = record {
        ids = n.id ∷ [];
        ends = chain_one soc limits n.id live;
        sum_is = omega (arith, none, time, sum_by_push (lower_of_id soc limits.wires) [] n.id);
        greatest = greatest;
      }
      by (inr c) =
          let l = are.linked.listed j c.0 n at c.1 in
          let g : IsGreatestSum soc limits (l.0).id most = c.2 l.0 l.1 in
          record {
            ids = g.ids ++ n.id ∷ [];
            ends = chain_push soc limits g.ids (l.0).id n.id g.ends live l.2;
            sum_is = omega (arith, g.sum_is, time, sum_by_push (lower_of_id soc limits.wires) g.ids n.id);
            greatest = greatest;
          }

-- ---- how many tests a chain has

-- the first place of a test
place_in : List TestId → TestId → ℕ
place_in [] id = 0
place_in (x ∷ xs) id = if same_test id x then 0 else suc (place_in xs id)

place_right : (ids : List TestId) (k : ℕ) (id : TestId) → slice_get ids k ≡ Some id → slice_get ids (place_in ids id) ≡ Some id
unfolding place_in
place_right [] k id at = cc
place_right (x ∷ xs) zero id at = let same : x ≡ id = cc in rw (same, is_same_test id) refl
place_right (x ∷ xs) (suc k) id at = elim (cases_Bool (same_test id x)) [
  | inl yes' ↦ rw yes' (ap Some (sym (same_test_is id x yes')))
  | inr no' ↦ rw no' (place_right xs k id at)
]

module _ (soc : SocValue) (limits : LimitsValue) (acyclic : IsAcyclic soc limits) (ids : List TestId) (keeps : Each (IsChainItem soc limits) ids) where
  next_up : (k : ℕ) (a b : TestId) → slice_get ids k ≡ Some a → slice_get ids (suc k) ≡ Some b → acyclic.0 a < acyclic.0 b
  next_up k a b at there =
      let item = keeps (suc k) b there in
      acyclic.1 a b (item.1 a (last-take ids k a at)) (keeps k a at).0 item.0

  later_up : (d k : ℕ) (a b : TestId) → slice_get ids k ≡ Some a → slice_get ids (k + suc d) ≡ Some b → acyclic.0 a < acyclic.0 b
  later_up zero k a b at there = let step : k + 1 ≡ suc k = omega arith in next_up k a b at (ap (slice_get ids) (sym step) ∙ there)
  later_up (suc d) k a b at there =
      let within = slice_get_within ids (k + suc (suc d)) b there in
      let mid : slice_get ids (k + suc d) ≡ Some (get_or ids (k + suc d) a) = slice_get-get_or ids (k + suc d) a (omega (arith, within)) in
      let step : k + suc (suc d) ≡ suc (k + suc d) = omega arith in
      omega (arith, later_up d k a (get_or ids (k + suc d) a) at mid, next_up (k + suc d) (get_or ids (k + suc d) a) b mid (ap (slice_get ids) (sym step) ∙ there))

  apart : (p q : ℕ) (a : TestId) → p < q → slice_get ids p ≡ Some a → slice_get ids q ≡ Some a → ⊥
  apart p q a less at there =
      let gap : p + suc (q - p - 1) ≡ q = omega (arith, less) in
      absurd (omega (arith, later_up (q - p - 1) p a a at (ap (slice_get ids) gap ∙ there)))

  one_place : (p q : ℕ) (a : TestId) → slice_get ids p ≡ Some a → slice_get ids q ≡ Some a → p ≡ q
  one_place p q a at there = elim (cases_lt p q) [
    | inl less ↦ absurd (apart p q a less at there)
    | inr most ↦ elim (cases_lt q p) [
      | inl less ↦ absurd (apart q p a less there at)
      | inr least ↦ omega (arith, most, least)
    ]
  ]

  chain_short : length ids ≤ length (live_ids soc)
  chain_short = pigeonhole (length ids) (length (live_ids soc)) (λ k. place_in (live_ids soc) (get_or ids k no_id)) (λ k less. within k less) (λ p q less below same. one p q less below same)
    where
      no_id : TestId
      no_id = record { «module» = 0; test = 0 }

      placed : (k : ℕ) → k < length ids → slice_get (live_ids soc) (place_in (live_ids soc) (get_or ids k no_id)) ≡ Some (get_or ids k no_id)
      placed k less =
          let live = (keeps k (get_or ids k no_id) (slice_get-get_or ids k no_id less)).0 in
          let c = contains_at (live_ids soc) (get_or ids k no_id) live in
          place_right (live_ids soc) c.0 (get_or ids k no_id) c.1

      within : (k : ℕ) → k < length ids → place_in (live_ids soc) (get_or ids k no_id) < length (live_ids soc)
      within k less = slice_get_within (live_ids soc) (place_in (live_ids soc) (get_or ids k no_id)) (get_or ids k no_id) (placed k less)

      one : (p q : ℕ) → p < length ids → q < length ids → place_in (live_ids soc) (get_or ids p no_id) ≡ place_in (live_ids soc) (get_or ids q no_id) → p ≡ q
      one p q less below same =
          let a = placed p less in
          let b = placed q below in
          let a' = rw same at a in
          let item : get_or ids p no_id ≡ get_or ids q no_id = cc in
          one_place p q (get_or ids q no_id) (slice_get-get_or ids p no_id less ∙ ap Some item) (slice_get-get_or ids q no_id below)

pub sum_small : (soc : SocValue) (limits : LimitsValue) (nodes : List NodeValue) → AreNodes soc limits nodes → IsAcyclic soc limits → (id : TestId) (s : ℕ) → IsGreatestSum soc limits id s → s ≤ length nodes * 10 ^ 18
sum_small soc limits nodes are acyclic id s g =
    let short : length g.ids ≤ length (live_ids soc) = chain_short soc limits acyclic g.ids g.ends.0 in
    let many : length (live_ids soc) ≡ length nodes = ap length (sym are.ids) ∙ length-map nodes (λ (n : NodeValue). n.id) in
    let sum = sum_by-le (lower_of_id soc limits.wires) (10 ^ 18) g.ids (λ k d less. each k d less) in
    let product : length g.ids * 10 ^ 18 ≤ length nodes * 10 ^ 18 = mul-le-mul_right (10 ^ 18) (omega (arith, short, many)) in
    omega (arith, g.sum_is, sum, product)
  where
    each : (k : ℕ) (d : TestId) → k < length g.ids → lower_of_id soc limits.wires (get_or g.ids k d) ≤ 10 ^ 18
    each k d less =
        let live = (g.ends.0 k (get_or g.ids k d) (slice_get-get_or g.ids k d less)).0 in
        let c = contains_at (live_ids soc) (get_or g.ids k d) live in
        let n = node_of soc limits nodes are c.0 (get_or g.ids k d) c.1 in
        omega (arith, are.short c.0 n.0 n.1, are.times c.0 n.0 n.1, ap (lower_of_id soc limits.wires) n.2)
