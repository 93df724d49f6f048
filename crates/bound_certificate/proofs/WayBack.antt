-- The chain that goes back over the tests of greatest sum, its sum, and that no chain has a greater one.
use Rattle.std.proofs.Common.{◌≡◌, ◌⊎◌, inl, inr, ℕ, ◌+◌, ◌-◌, ◌≤◌, ◌<◌, Option, None, Some, List, [], ◌∷◌, ◌++◌, length, get_or, reverse, sym, ap, ◌∙◌, subst, arith, append-nil, append_assoc, Vec, Global, slice_get, slice_index, IfSome, sum_by, Contains}
use Rattle.std.proofs.lemmas.List.{reverse-append}
use Rattle.std.proofs.lemmas.List.Sums.{sum_by_push}
use Rattle.std.proofs.lemmas.Option.{slice_get-get_or, slice_get_within}
use Rattle.soc_model.specs.declared.TestId.{TestId}
use Rattle.soc_model.specs.Chips.{SocValue}
use Rattle.plan_model.specs.Plans.{LimitsValue}
use Rattle.plan_model.specs.Rules.{Each, live_ids}
use Rattle.plan_model.specs.Certificates.{lower_of_id, IsChainItem}
use Rattle.plan_model.proofs.Lists.{at_contains}
use Rattle.bound_certificate.specs.Best.{EndsIn, IsGreatestSum, IsFirstGreatest, IsBefore, HasBefore, GoesBack, IsPrintedChain, IsGreatestChain}
use Rattle.bound_certificate.specs.Nodes.{NodeValue, AreNodes}
use Rattle.bound_certificate.specs.Sums.{AreSums}
use Rattle.bound_certificate.specs.Chains.{IsNoBetter, IsBest, HasEarlier, SumsFall, LeadsBack}
use Rattle.bound_certificate.specs.Winners.{names_of}
use Rattle.bound_certificate.proofs.ChainLists.{chain_push, chain_one, ComesFrom, IsSplit, split_chain}
use Rattle.bound_certificate.proofs.GreatestSums.{node_live, node_of}
use Rattle.common_lemmas.proofs.Lists.{contains_at}

reverse_cons : {X : Type 0} (x : X) (xs : List X) → reverse (x ∷ xs) ≡ reverse xs ++ x ∷ []
reverse_cons x xs = reverse-append (x ∷ []) xs

-- a test has one greatest sum
one_sum : (soc : SocValue) (limits : LimitsValue) (id : TestId) (s t : ℕ) → IsGreatestSum soc limits id s → IsGreatestSum soc limits id t → s ≡ t
one_sum soc limits id s t g h = omega (arith, g.sum_is, h.sum_is, g.greatest h.ids h.ends, h.greatest g.ids g.ends)

module _ (soc : SocValue) (limits : LimitsValue) (nodes : List NodeValue) (sums : List ℕ) (are : AreNodes soc limits nodes) (right : AreSums soc limits nodes sums) where
  -- the sum of the node at a place
  sum_at : (i : ℕ) (n : NodeValue) → slice_get nodes i ≡ Some n → IsGreatestSum soc limits n.id (slice_index sums i)
  sum_at i n at = right.right i (slice_index sums i) (slice_get-get_or sums i 0 (omega (arith, slice_get_within nodes i n at, right.long))) n at

  -- each live test has a greatest sum
  has_sum : (id : TestId) → Contains (live_ids soc) id → (s : ℕ) × IsGreatestSum soc limits id s
  has_sum id live =
      let k = contains_at (live_ids soc) id live in
      let n = node_of soc limits nodes are k.0 id k.1 in
      (slice_index sums k.0, subst (λ (i : TestId). IsGreatestSum soc limits i (slice_index sums k.0)) n.2 (sum_at k.0 n.0 n.1))

  pub fall : SumsFall nodes sums
  fall i j n at c =
      let m = are.linked.listed j i n at c in
      let g = sum_at i m.0 m.1 in
      let h = sum_at j n at in
      let live = at_contains (live_ids soc) j n.id (node_live soc limits nodes are j n at) in
      let more = h.greatest (g.ids ++ n.id ∷ []) (chain_push soc limits g.ids (m.0).id n.id g.ends live m.2) in
      (slice_get_within nodes i m.0 m.1, omega (arith, more, sum_by_push (lower_of_id soc limits.wires) g.ids n.id, g.sum_is, are.some_time j n at, are.times j n at))

  -- the best place is of the first test of greatest sum
  first_by : (P : ℕ → Type 0) (Q : TestId → Type 0) (b : ℕ) (n : NodeValue) → IsBest sums P (Some b) → slice_get nodes b ≡ Some n → Q n.id → ((m : ℕ) (q : NodeValue) → slice_get nodes m ≡ Some q → Q q.id → P m) → IsFirstGreatest soc limits Q n.id
  first_by P Q b n best at taken from = record {
    place = b;
    there = node_live soc limits nodes are b n at;
    taken = taken;
    s = slice_index sums b;
    sum = sum_at b n at;
    first = first;
  }
    where
      first : (m : ℕ) (other : TestId) (t : ℕ) → slice_get (live_ids soc) m ≡ Some other → Q other → IsGreatestSum soc limits other t → (t < slice_index sums b) ⊎ ((t ≡ slice_index sums b) × (b ≤ m))
      first m other t there q g =
          let k = node_of soc limits nodes are m other there in
          let p : P m = from m k.0 k.1 (subst Q (sym k.2) q) in
          let same : t ≡ slice_index sums m = one_sum soc limits other t (slice_index sums m) g (subst (λ (i : TestId). IsGreatestSum soc limits i (slice_index sums m)) k.2 (sum_at m k.0 k.1)) in
          by same (best.1 m p)
        where
          by : t ≡ slice_index sums m → IsNoBetter sums b m → (t < slice_index sums b) ⊎ ((t ≡ slice_index sums b) × (b ≤ m))
          by same (inl less) = inl (omega (arith, same, less))
          by same (inr equal) = inr (same ∙ equal.0, equal.1)

  -- of the tests before one
  first_before : (j a : ℕ) (n m : NodeValue) → slice_get nodes j ≡ Some n → slice_get nodes a ≡ Some m → IsBest sums (Contains n.before) (Some a) → IsFirstGreatest soc limits (IsBefore limits n.id) m.id
  first_before j a n m at there best =
      let l = are.linked.listed j a n at best.0 in
      let same : l.0 ≡ m = some_is l.0 m (sym l.1 ∙ there) in
      first_by (Contains n.before) (IsBefore limits n.id) a m best there (subst (λ (v : NodeValue). Contains limits.before (v.id, n.id)) same l.2) (λ i q at_q c. are.linked.all i j q n at_q at c)
    where
      some_is : (x y : NodeValue) → Some x ≡ Some y → x ≡ y
      some_is x y e = cc

  -- a node that others precede is of a test that live tests precede, and the other way round
  earlier_has : (j : ℕ) (n : NodeValue) → slice_get nodes j ≡ Some n → 1 ≤ length n.before → HasBefore soc limits n.id
  earlier_has j n at some =
      let c = at_contains n.before 0 (get_or n.before 0 0) (slice_get-get_or n.before 0 0 (omega (arith, some))) in
      let l = are.linked.listed j (get_or n.before 0 0) n at c in
      ((l.0).id, at_contains (live_ids soc) (get_or n.before 0 0) (l.0).id (node_live soc limits nodes are (get_or n.before 0 0) l.0 l.1), l.2)

  has_earlier : (j : ℕ) (n : NodeValue) → slice_get nodes j ≡ Some n → HasBefore soc limits n.id → 1 ≤ length n.before
  has_earlier j n at h =
      let k = contains_at (live_ids soc) h.0 h.1 in
      let m = node_of soc limits nodes are k.0 h.0 k.1 in
      let c : Contains n.before k.0 = are.linked.all k.0 j m.0 n m.1 at (subst (λ (id : TestId). IsBefore limits n.id id) (sym m.2) h.2) in
      let p = contains_at n.before k.0 c in
      omega (arith, slice_get_within n.before p.0 k.0 p.1)

  first_last : (b : ℕ) (n : NodeValue) → slice_get nodes b ≡ Some n → IsBest sums (HasEarlier nodes) (Some b) → IsFirstGreatest soc limits (HasBefore soc limits) n.id
  first_last b n at best =
      let h = best.0 in
      let same : h.n ≡ n = some_is h.n n (sym h.at ∙ at) in
      first_by (HasEarlier nodes) (HasBefore soc limits) b n best at (subst (λ (v : NodeValue). HasBefore soc limits v.id) same (earlier_has b h.n h.at h.some)) (λ i q at_q c. record { n = q; at = at_q; some = has_earlier i q at_q c })
    where
      some_is : (x y : NodeValue) → Some x ≡ Some y → x ≡ y
      some_is x y e = cc

  pub none_last : IsBest sums (HasEarlier nodes) None → IsPrintedChain soc limits None
  none_last none id live h =
      let k = contains_at (live_ids soc) id live in
      let n = node_of soc limits nodes are k.0 id k.1 in
      none k.0 (record { n = n.0; at = n.1; some = has_earlier k.0 n.0 n.1 (subst (HasBefore soc limits) (sym n.2) h) })

  -- ---- the way back

  pub way_starts : (last : ℕ) (n : NodeValue) (way : List TestId) → slice_get nodes last ≡ Some n → way ≡ n.id ∷ [] → LeadsBack soc limits nodes last way last
  way_starts last n way at is end m back at_end at_m goes =
      let a : n.id ≡ end.id = id_is n end (sym at ∙ at_end) in
      let b : m.id ≡ end.id = id_is m end (sym at_m ∙ at_end) in
      (back, ap (λ (l : List TestId). l ++ back) is ∙ ap (λ (i : TestId). i ∷ back) a, subst (λ (i : TestId). GoesBack soc limits i back) b goes)
    where
      id_is : (x y : NodeValue) → Some x ≡ Some y → x.id ≡ y.id
      id_is x y e = let same : x ≡ y = cc in ap (λ (v : NodeValue). v.id) same

  pub way_goes : (last test a : ℕ) (n m : NodeValue) (way new : List TestId) → LeadsBack soc limits nodes last way test → slice_get nodes test ≡ Some n → slice_get nodes a ≡ Some m → IsBest sums (Contains n.before) (Some a) → new ≡ way ++ m.id ∷ [] → LeadsBack soc limits nodes last new a
  way_goes last test a n m way new leads at there best is end q back at_end at_q goes =
      let same : m.id ≡ q.id = id_is m q (sym there ∙ at_q) in
      let w = leads end n (m.id ∷ back) at_end at (first_before test a n m at there best, subst (λ (i : TestId). GoesBack soc limits i back) (sym same) goes) in
      (w.0, ap (λ (l : List TestId). l ++ back) is ∙ append_assoc way (m.id ∷ []) back ∙ w.1, w.2)
    where
      id_is : (x y : NodeValue) → Some x ≡ Some y → x.id ≡ y.id
      id_is x y e = let same : x ≡ y = cc in ap (λ (v : NodeValue). v.id) same

  pub way_ends : (last test : ℕ) (end n : NodeValue) (way : List TestId) → LeadsBack soc limits nodes last way test → slice_get nodes last ≡ Some end → slice_get nodes test ≡ Some n → IsBest sums (Contains n.before) None → (back : List TestId) × (way ≡ end.id ∷ back) × GoesBack soc limits end.id back
  way_ends last test end n way leads at_end at none =
      let w = leads end n [] at_end at (λ h. nothing (has_earlier test n at h)) in
      (w.0, sym (append-nil way) ∙ w.1, w.2)
    where
      nothing : 1 ≤ length n.before → ⊥
      nothing some = none (get_or n.before 0 0) (at_contains n.before 0 (get_or n.before 0 0) (slice_get-get_or n.before 0 0 (omega (arith, some))))

  -- ---- the sum of the way back

  -- a chain from the first of greatest sum among the tests before one is as good as any
  way_sum : (id : TestId) (back : List TestId) → Contains (live_ids soc) id → GoesBack soc limits id back → (s : ℕ) → IsGreatestSum soc limits id s → EndsIn soc limits id (reverse (id ∷ back)) × (sum_by (lower_of_id soc limits.wires) (reverse (id ∷ back)) ≡ s)
  way_sum id [] live none s g = (chain_one soc limits id live, by (split_chain soc limits id g.ids g.ends))
    where
      by : IsSplit soc limits id g.ids → sum_by (lower_of_id soc limits.wires) (id ∷ []) ≡ s
      by p = from p p.from
        where
          from : (p : IsSplit soc limits id g.ids) → (p.front ≡ []) ⊎ ComesFrom soc limits id p.front → sum_by (lower_of_id soc limits.wires) (id ∷ []) ≡ s
          from p (inl empty) =
              let whole : g.ids ≡ id ∷ [] = p.is ∙ ap (λ (l : List TestId). l ++ id ∷ []) empty in
              ap (sum_by (lower_of_id soc limits.wires)) (sym whole) ∙ sym g.sum_is
          from p (inr c) = absurd (none (c.a, c.live, c.before))
  way_sum id (a ∷ back) live goes s g =
      let first = goes.0 in
      let live_a = at_contains (live_ids soc) first.place a first.there in
      let rest = way_sum a back live_a goes.1 first.s first.sum in
      let ends = chain_push soc limits (reverse (a ∷ back)) a id rest.0 live first.taken in
      let sum = sum_by_push (lower_of_id soc limits.wires) (reverse (a ∷ back)) id in
      let turned = reverse_cons id (a ∷ back) in (
        subst (λ (l : List TestId). EndsIn soc limits id l) (sym turned) ends,
        ap (sum_by (lower_of_id soc limits.wires)) turned ∙ by first (sum_by (lower_of_id soc limits.wires) (reverse (a ∷ back))) (sum_by (lower_of_id soc limits.wires) (reverse (a ∷ back) ++ id ∷ [])) rest.1 sum (g.greatest (reverse (a ∷ back) ++ id ∷ []) ends) (split_chain soc limits id g.ids g.ends),
      )
    where
      least : (first : IsFirstGreatest soc limits (IsBefore limits id) a) (front : List TestId) → ComesFrom soc limits id front → sum_by (lower_of_id soc limits.wires) front ≤ first.s
      least first front c =
          let t = has_sum c.a c.live in
          let k = contains_at (live_ids soc) c.a c.live in
          omega (arith, (t.1).greatest front c.ends, at_most (first.first k.0 c.a t.0 k.1 c.before t.1))
        where
          at_most : {t s : ℕ} {A : Type 0} → (t < s) ⊎ ((t ≡ s) × A) → t ≤ s
          at_most (inl less) = omega (arith, less)
          at_most (inr same) = omega (arith, same.0)

      by : (first : IsFirstGreatest soc limits (IsBefore limits id) a) (r whole : ℕ) → r ≡ first.s → whole ≡ r + lower_of_id soc limits.wires id → whole ≤ s → IsSplit soc limits id g.ids → whole ≡ s
      by first r whole rest sum small p = from (sum_by_push (lower_of_id soc limits.wires) p.front id) p.from
        where
          all : sum_by (lower_of_id soc limits.wires) g.ids ≡ sum_by (lower_of_id soc limits.wires) (p.front ++ id ∷ [])
          all = ap (sum_by (lower_of_id soc limits.wires)) p.is

          from : sum_by (lower_of_id soc limits.wires) (p.front ++ id ∷ []) ≡ sum_by (lower_of_id soc limits.wires) p.front + lower_of_id soc limits.wires id → (p.front ≡ []) ⊎ ComesFrom soc limits id p.front → whole ≡ s
          from split (inl empty) =
              let none : sum_by (lower_of_id soc limits.wires) p.front ≡ 0 = ap (sum_by (lower_of_id soc limits.wires)) empty in
              omega (arith, g.sum_is, all, split, none, sum, small)
          from split (inr c) = omega (arith, g.sum_is, all, split, least first p.front c, rest, sum, small)

  keeps_rule : (id : TestId) (back : List TestId) → IsFirstGreatest soc limits (HasBefore soc limits) id → GoesBack soc limits id back → Each (IsChainItem soc limits) (reverse (id ∷ back))
  keeps_rule id back first goes = (way_sum id back (at_contains (live_ids soc) first.place id first.there) goes first.s first.sum).0.0

  -- a list of two tests or more ends in a test that live tests precede
  two_end : (x : TestId) (xs : List TestId) → 2 ≤ length (x ∷ xs) → Each (IsChainItem soc limits) (x ∷ xs) → (id : TestId) × EndsIn soc limits id (x ∷ xs) × Contains (live_ids soc) id × HasBefore soc limits id
  two_end x xs two keeps =
      let id = get_or (x ∷ xs) (length (x ∷ xs) - 1) x in
      let last : slice_get (x ∷ xs) (length (x ∷ xs) - 1) ≡ Some id = slice_get-get_or (x ∷ xs) (length (x ∷ xs) - 1) x (omega arith) in
      let p : IsSplit soc limits id (x ∷ xs) = split_chain soc limits id (x ∷ xs) (keeps, last) in
      (id, (keeps, last), p.live, from id p p.from)
    where
      from : (id : TestId) (p : IsSplit soc limits id (x ∷ xs)) → (p.front ≡ []) ⊎ ComesFrom soc limits id p.front → HasBefore soc limits id
      from id p (inl empty) =
          let one : length (x ∷ xs) ≡ 1 = ap length p.is ∙ ap (λ (l : List TestId). length (l ++ id ∷ [])) empty in
          absurd (omega (arith, one, two))
      from id p (inr c) = (c.a, c.live, c.before)

  -- no chain of two tests or more has a greater sum
  pub greatest_chain : (chain : Option (List TestId)) → IsPrintedChain soc limits chain → IsGreatestChain soc limits chain
  greatest_chain chain printed [] keeps two = absurd (omega (arith, two))
  greatest_chain None printed (x ∷ xs) keeps two = let e = two_end x xs two keeps in absurd (printed e.0 e.2 e.3)
  greatest_chain (Some tests) printed (x ∷ xs) keeps two =
      let e = two_end x xs two keeps in
      let k = contains_at (live_ids soc) e.0 e.2 in
      let t = has_sum e.0 e.2 in
      let first = printed.3 in
      let way = way_sum printed.0 printed.1 (at_contains (live_ids soc) first.place printed.0 first.there) printed.4 first.s first.sum in
      let whole : sum_by (lower_of_id soc limits.wires) tests ≡ first.s = ap (sum_by (lower_of_id soc limits.wires)) printed.2 ∙ way.1 in
      omega (arith, whole, (t.1).greatest (x ∷ xs) e.1, at_most (first.first k.0 e.0 t.0 k.1 e.3 t.1))
    where
      at_most : {t s : ℕ} {A : Type 0} → (t < s) ⊎ ((t ≡ s) × A) → t ≤ s
      at_most (inl less) = omega (arith, less)
      at_most (inr same) = omega (arith, same.0)

  -- ---- the chain that is found

  pub chain_found : (last : ℕ) (ids : List TestId) → IsBest sums (HasEarlier nodes) (Some last) → ((n : NodeValue) → slice_get nodes last ≡ Some n → (back : List TestId) × (ids ≡ reverse (n.id ∷ back)) × GoesBack soc limits n.id back) → IsPrintedChain soc limits (Some ids)
  chain_found last ids best way =
      let h = best.0 in
      let w = way h.n h.at in
      (h.n.id, w.0, w.1, first_last last h.n h.at best, w.2)

  pub printed_keeps : (chain : Option (Vec TestId Global)) → IsPrintedChain soc limits (names_of chain) → IfSome chain (λ tests. Each (IsChainItem soc limits) tests.items)
  printed_keeps None printed = tt
  printed_keeps (Some tests) printed = subst (λ (l : List TestId). Each (IsChainItem soc limits) l) (sym printed.2) (keeps_rule printed.0 printed.1 printed.3 printed.4)
