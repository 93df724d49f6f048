-- What becomes known of sums, step by step.
use Rattle.std.proofs.Common.{◌≡◌, ◌⊎◌, inl, inr, ℕ, zero, suc, ◌+◌, ◌*◌, ◌^◌, ◌≤◌, ◌<◌, max, Some, List, [], ◌∷◌, ◌++◌, length, get_or, take, replicate, refl, sym, ap, ◌∙◌, subst, arith, slice_get, slice_set, if◌then◌else◌, Contains}
use Rattle.std.proofs.Math.Nat.{mul-le-mul_right}
use Rattle.std.proofs.lemmas.Bool.{cases_eq, cases_lt}
use Rattle.std.proofs.lemmas.List.{take_more, take_all}
use Rattle.std.proofs.lemmas.List.Elements.{Contains-append_left, Contains-append_right}
use Rattle.std.proofs.lemmas.List.Sums.{sum_by-cons}
use Rattle.std.proofs.lemmas.Option.{slice_get-map, slice_get-get_or, slice_get_within}
use Rattle.soc_model.specs.declared.TestId.{TestId}
use Rattle.soc_model.specs.Chips.{SocValue}
use Rattle.plan_model.specs.Plans.{LimitsValue}
use Rattle.plan_model.specs.Rules.{live_ids}
use Rattle.plan_model.specs.SoundLimits.{IsAcyclic}
use Rattle.plan_model.proofs.Lists.{from_append, at_contains}
use Rattle.bound_certificate.specs.declared.nodes.PrecedenceNode.{PrecedenceNode}
use Rattle.bound_certificate.specs.declared.sums.Sum.{Sum}
use Rattle.bound_certificate.specs.declared.sums.Sum.TheVariants.{Unknown, Begun, Known}
use Rattle.bound_certificate.specs.Nodes.{NodeValue, node_value, node_values, AreNodes}
use Rattle.bound_certificate.specs.Sums.{HasSum, AreRight, GoOn, AreAcyclic, IsRank, IsUnderWay, IsMost, is_unknown, unknown_count}
use Rattle.bound_certificate.proofs.GreatestSums.{node_live, sum_step, sum_small}
use Rattle.common_lemmas.proofs.Lists.{set_length}

-- ---- written lists

set_here : {X : Type 0} (xs : List X) (i : ℕ) (v : X) → i < length xs → slice_get (slice_set xs i v) i ≡ Some v
set_here [] i v within = absurd (omega (arith, within))
set_here (x ∷ xs) zero v within = refl
set_here (x ∷ xs) (suc i) v within = set_here xs i v (omega (arith, within))

set_apart : {X : Type 0} (xs : List X) (i j : ℕ) (v : X) → (j ≡ i → ⊥) → slice_get (slice_set xs i v) j ≡ slice_get xs j
set_apart [] i j v apart = refl
set_apart (x ∷ xs) zero zero v apart = absurd (apart refl)
set_apart (x ∷ xs) zero (suc j) v apart = refl
set_apart (x ∷ xs) (suc i) zero v apart = refl
set_apart (x ∷ xs) (suc i) (suc j) v apart = set_apart xs i j v (λ e. apart (ap suc e))

-- what stands there after a write
after_set : {X : Type 0} (xs : List X) (i j : ℕ) (v w : X) → i < length xs → slice_get (slice_set xs i v) j ≡ Some w → ((j ≡ i) × (v ≡ w)) ⊎ ((j ≡ i → ⊥) × (slice_get xs j ≡ Some w))
after_set xs i j v w within at = by (cases_eq j i)
  where
    by : (j ≡ i) ⊎ (j ≡ i → ⊥) → ((j ≡ i) × (v ≡ w)) ⊎ ((j ≡ i → ⊥) × (slice_get xs j ≡ Some w))
    by (inl same) =
        let here = set_here xs i v within in
        let there = at in
        let there' = rw same at there in
        inl (same, cc)
    by (inr apart) = inr (apart, sym (set_apart xs i j v apart) ∙ at)

-- ---- how many tests are not begun

count_less : (sums : List Sum) (i : ℕ) → slice_get sums i ≡ Some Unknown → unknown_count (slice_set sums i Begun) < unknown_count sums
count_less [] i at = cc
count_less (x ∷ sums) zero at =
    let same : x ≡ Unknown = cc in
    let one : ◌≡◌ {A = ℕ} (if is_unknown x then 1 else 0) 1 = rw same refl in
    omega (arith, one, sum_by-cons (λ (s : Sum). if is_unknown s then 1 else 0) x sums, sum_by-cons (λ (s : Sum). if is_unknown s then 1 else 0) Begun sums)
count_less (x ∷ sums) (suc i) at =
    omega (arith, count_less sums i at, sum_by-cons (λ (s : Sum). if is_unknown s then 1 else 0) x sums, sum_by-cons (λ (s : Sum). if is_unknown s then 1 else 0) x (slice_set sums i Begun))

count_most : (old new : List Sum) → length new ≡ length old → ((i : ℕ) → slice_get new i ≡ Some Unknown → slice_get old i ≡ Some Unknown) → unknown_count new ≤ unknown_count old
count_most old [] long unknown = omega arith
count_most [] (y ∷ new) long unknown = absurd (omega (arith, long))
count_most (x ∷ old) (y ∷ new) long unknown =
    omega (arith, count_most old new (omega (arith, long)) (λ i at. unknown (suc i) at), first x y (λ e. same x (unknown 0 (ap Some e))), sum_by-cons (λ (s : Sum). if is_unknown s then 1 else 0) x old, sum_by-cons (λ (s : Sum). if is_unknown s then 1 else 0) y new)
  where
    same : (x : Sum) → Some x ≡ Some Unknown → x ≡ Unknown
    same x e = cc

    first : (x y : Sum) → (y ≡ Unknown → x ≡ Unknown) → (if is_unknown y then 1 else 0) ≤ (if is_unknown x then 1 else 0)
    first x Unknown f = let e = f refl in rw e (omega arith)
    first x Begun f = omega arith
    first x (Known s) f = omega arith

pub falls : (nodes : List NodeValue) (old now : List Sum) (test : ℕ) → slice_get old test ≡ Some Unknown → GoOn nodes (slice_set old test Begun) now → unknown_count now < unknown_count old
falls nodes old now test at goes = omega (arith, count_less old test at, count_most (slice_set old test Begun) now goes.long goes.unknown)

-- ---- sums go on

pub go_then : (nodes : List NodeValue) (a b c : List Sum) → GoOn nodes a b → GoOn nodes b c → GoOn nodes a c
go_then nodes a b c f g = record {
  long = g.long ∙ f.long;
  unknown = λ i at. f.unknown i (g.unknown i at);
  begun = λ i at. f.begun i (g.begun i at);
  right = λ soc limits are right. g.right soc limits are (f.right soc limits are right);
}

begun_known : (s : ℕ) → Begun ≡ Known s → ⊥
begun_known s e = cc

known_unknown : (s : ℕ) → Known s ≡ Unknown → ⊥
known_unknown s e = cc

known_begun : (s : ℕ) → Known s ≡ Begun → ⊥
known_begun s e = cc

begun_unknown : Begun ≡ Unknown → ⊥
begun_unknown e = cc

known_same : (s t : ℕ) → Known s ≡ Known t → s ≡ t
known_same s t e = cc

nothing : (count i : ℕ) (s : Sum) → slice_get (replicate count Unknown) i ≡ Some s → (s ≡ Unknown → ⊥) → ⊥
nothing zero i s at apart = cc
nothing (suc count) zero s at apart = let same : Unknown ≡ s = cc in apart (sym same)
nothing (suc count) (suc i) s at apart = nothing count i s at apart

pub begun_right : (soc : SocValue) (limits : LimitsValue) (nodes : List NodeValue) (old : List Sum) (test : ℕ) → test < length old → AreRight soc limits nodes old → AreRight soc limits nodes (slice_set old test Begun)
begun_right soc limits nodes old test within r = record { right = λ i s at. by i s (after_set old test i Begun (Known s) within at) }
  where
    by : (i s : ℕ) → ((i ≡ test) × (Begun ≡ Known s)) ⊎ ((i ≡ test → ⊥) × (slice_get old i ≡ Some (Known s))) → HasSum soc limits nodes i s
    by i s (inl e) = absurd (begun_known s e.1)
    by i s (inr e) = r.right i s e.1

-- a test whose sum is found
pub found : (nodes : List NodeValue) (old now : List Sum) (test sum : ℕ) → test < length old → GoOn nodes (slice_set old test Begun) now → ((soc : SocValue) (limits : LimitsValue) → AreNodes soc limits nodes → AreRight soc limits nodes old → HasSum soc limits nodes test sum) → GoOn nodes old (slice_set now test (Known sum))
found nodes old now test sum within goes has = record {
  long = set_length now test (Known sum) ∙ goes.long ∙ set_length old test Begun;
  unknown = λ i at. unknown i (after_set now test i (Known sum) Unknown now_within at);
  begun = λ i at. begun i (after_set now test i (Known sum) Begun now_within at);
  right = λ soc limits are r. record { right = λ i s at. right soc limits are r i s (after_set now test i (Known sum) (Known s) now_within at) };
}
  where
    now_within : test < length now
    now_within = omega (arith, within, goes.long, set_length old test Begun)

    unknown : (i : ℕ) → ((i ≡ test) × (Known sum ≡ Unknown)) ⊎ ((i ≡ test → ⊥) × (slice_get now i ≡ Some Unknown)) → slice_get old i ≡ Some Unknown
    unknown i (inl e) = absurd (known_unknown sum e.1)
    unknown i (inr e) = by (after_set old test i Begun Unknown within (goes.unknown i e.1))
      where
        by : ((i ≡ test) × (Begun ≡ Unknown)) ⊎ ((i ≡ test → ⊥) × (slice_get old i ≡ Some Unknown)) → slice_get old i ≡ Some Unknown
        by (inl f) = absurd (e.0 f.0)
        by (inr f) = f.1

    begun : (i : ℕ) → ((i ≡ test) × (Known sum ≡ Begun)) ⊎ ((i ≡ test → ⊥) × (slice_get now i ≡ Some Begun)) → slice_get old i ≡ Some Begun
    begun i (inl e) = absurd (known_begun sum e.1)
    begun i (inr e) = by (after_set old test i Begun Begun within (goes.begun i e.1))
      where
        by : ((i ≡ test) × (Begun ≡ Begun)) ⊎ ((i ≡ test → ⊥) × (slice_get old i ≡ Some Begun)) → slice_get old i ≡ Some Begun
        by (inl f) = absurd (e.0 f.0)
        by (inr f) = f.1

    right : (soc : SocValue) (limits : LimitsValue) → AreNodes soc limits nodes → AreRight soc limits nodes old → (i s : ℕ) → ((i ≡ test) × (Known sum ≡ Known s)) ⊎ ((i ≡ test → ⊥) × (slice_get now i ≡ Some (Known s))) → HasSum soc limits nodes i s
    right soc limits are r i s (inl e) =
        let same : sum ≡ s = known_same sum s e.1 in
        rw (e.0, ← same) (has soc limits are r)
    right soc limits are r i s (inr e) = (goes.right soc limits are (begun_right soc limits nodes old test within r)).right i s e.1

-- ---- the call for a test before

-- the node at a place
pub node_here : (nodes : List PrecedenceNode) (i : ℕ) (n : PrecedenceNode) → i < length nodes → n ≡ get_or nodes i n → slice_get (node_values nodes) i ≡ Some (node_value n)
node_here nodes i n within is =
    let at : slice_get nodes i ≡ Some n = slice_get-get_or nodes i n within ∙ ap Some (sym is) in
    slice_get-map node_value nodes i ∙ rw at refl

pub under_way : (nodes : List NodeValue) (old now : List Sum) (test p : ℕ) (n : NodeValue) → test < length old → IsUnderWay nodes old test → GoOn nodes (slice_set old test Begun) now → slice_get nodes test ≡ Some n → Contains n.before p → IsUnderWay nodes now p
under_way nodes old now test p n within u goes at before = record {
  graph = u.graph;
  right = goes.right u.graph.soc u.graph.limits u.graph.are (begun_right u.graph.soc u.graph.limits nodes old test within u.right);
  rank = u.rank;
  ranked = u.ranked;
  later = λ i begun. later i (after_set old test i Begun Begun within (goes.begun i begun));
}
  where
    less : u.rank p < u.rank test
    less = u.ranked p test n at before

    later : (i : ℕ) → ((i ≡ test) × (Begun ≡ Begun)) ⊎ ((i ≡ test → ⊥) × (slice_get old i ≡ Some Begun)) → u.rank p < u.rank i
    later i (inl e) = rw e.0 less
    later i (inr e) = omega (arith, less, u.later i e.1)

-- the place of a test before is one of the nodes
pub before_within : (soc : SocValue) (limits : LimitsValue) (nodes : List NodeValue) → AreNodes soc limits nodes → (j p : ℕ) (n : NodeValue) → slice_get nodes j ≡ Some n → Contains n.before p → p < length nodes
before_within soc limits nodes are j p n at c =
    let m = are.linked.listed j p n at c in
    slice_get_within nodes p m.0 m.1

-- ---- the greatest so far

pub most_more : (soc : SocValue) (limits : LimitsValue) (nodes : List NodeValue) (places : List ℕ) (k most s : ℕ) → k < length places → IsMost soc limits nodes (take k places) most → HasSum soc limits nodes (get_or places k 0) s → IsMost soc limits nodes (take (k + 1) places) (max most s)
most_more soc limits nodes places k most s less m has = subst (λ (l : List ℕ). IsMost soc limits nodes l (max most s)) (sym (take_more places k 0 less)) (record {
  within = λ i p at. within i p (from_append (take k places) (get_or places k 0 ∷ []) i p at);
  attained = by (cases_lt most s) m.attained;
})
  where
    one : (j p : ℕ) → slice_get (get_or places k 0 ∷ []) j ≡ Some p → get_or places k 0 ≡ p
    one zero p at = cc
    one (suc j) p at = cc

    within : (i p : ℕ) → (slice_get (take k places) i ≡ Some p) ⊎ ((j : ℕ) × (i ≡ length (take k places) + j) × (slice_get (get_or places k 0 ∷ []) j ≡ Some p)) → (t : ℕ) × (t ≤ max most s) × HasSum soc limits nodes p t
    within i p (inl a) = let w = m.within i p a in (w.0, omega (arith, w.1), w.2)
    within i p (inr a) = (s, omega arith, rw (← one a.0 p a.2) has)

    by : (most < s) ⊎ (s ≤ most) → (most ≡ 0) ⊎ ((p : ℕ) × Contains (take k places) p × HasSum soc limits nodes p most) → (max most s ≡ 0) ⊎ ((p : ℕ) × Contains (take k places ++ get_or places k 0 ∷ []) p × HasSum soc limits nodes p (max most s))
    by (inl great) a =
        let same : max most s ≡ s = omega (arith, great) in
        inr (get_or places k 0, Contains-append_right (take k places) (get_or places k 0 ∷ []) (get_or places k 0) (at_contains (get_or places k 0 ∷ []) 0 (get_or places k 0) refl), rw same has)
    by (inr small) (inl none) = inl (omega (arith, small, none))
    by (inr small) (inr a) =
        let same : max most s ≡ most = omega (arith, small) in
        inr (a.0, Contains-append_left (take k places) (get_or places k 0 ∷ []) a.0 a.1, rw same a.2)

-- the sum fits
pub most_small : (soc : SocValue) (limits : LimitsValue) (nodes : List NodeValue) → AreNodes soc limits nodes → IsAcyclic soc limits → length nodes < 2 ^ 64 → (j : ℕ) (n : NodeValue) (most : ℕ) → slice_get nodes j ≡ Some n → IsMost soc limits nodes n.before most → most + n.time < 2 ^ 128
most_small soc limits nodes are acyclic few j n most at m =
    let s = sum_step soc limits nodes are j n most at m in
    let less : length nodes ≤ 2 ^ 64 = omega (arith, few) in
    let product : length nodes * 10 ^ 18 ≤ (2 ^ 64) * 10 ^ 18 = mul-le-mul_right (10 ^ 18) less in
    omega (arith, sum_small soc limits nodes are acyclic n.id (most + n.time) s, product)

-- what the loop over the tests before one has found, at its end
pub loop_ends : (nodes : List PrecedenceNode) (old : List Sum) (test : ℕ) (first second : PrecedenceNode) (items : List ℕ) (k most time : ℕ) → test < length nodes → test < length old → first ≡ get_or nodes test first → second ≡ get_or nodes test second → items ≡ (get_or nodes test first).before.items → time ≡ (get_or nodes test second).time → length items ≤ k
    → ((soc : SocValue) (limits : LimitsValue) → AreNodes soc limits (node_values nodes) → AreRight soc limits (node_values nodes) (slice_set old test Begun) → IsMost soc limits (node_values nodes) (take k items) most)
    → (soc : SocValue) (limits : LimitsValue) → AreNodes soc limits (node_values nodes) → AreRight soc limits (node_values nodes) old → (n : NodeValue) → slice_get (node_values nodes) test ≡ Some n → IsMost soc limits (node_values nodes) n.before most × (time ≡ n.time)
loop_ends nodes old test first second items k most time within old_within first_is second_is items_are time_is whole invariant soc limits are right n at =
    let one = node_here nodes test first within first_is in
    let two = node_here nodes test second within second_is in
    let a : node_value first ≡ n = some_is (node_value first) n (sym one ∙ at) in
    let b : node_value second ≡ n = some_is (node_value second) n (sym two ∙ at) in
    let places : take k items ≡ n.before = take_all k items whole ∙ items_are ∙ ap (λ (m : PrecedenceNode). m.before.items) (sym first_is) ∙ ap (λ (m : NodeValue). m.before) a in (
      subst (λ (l : List ℕ). IsMost soc limits (node_values nodes) l most) places (invariant soc limits are (begun_right soc limits (node_values nodes) old test old_within right)),
      time_is ∙ ap (λ (m : PrecedenceNode). m.time) (sym second_is) ∙ ap (λ (m : NodeValue). m.time) b,
    )
  where
    some_is : (x y : NodeValue) → Some x ≡ Some y → x ≡ y
    some_is x y e = cc

-- ---- the nodes of an acyclic chip have a rank

pub rank_at : List NodeValue → (TestId → ℕ) → ℕ → ℕ
rank_at [] rank i = 0
rank_at (n ∷ nodes) rank zero = rank n.id
rank_at (n ∷ nodes) rank (suc i) = rank_at nodes rank i

rank_is : (nodes : List NodeValue) (rank : TestId → ℕ) (i : ℕ) (n : NodeValue) → slice_get nodes i ≡ Some n → rank_at nodes rank i ≡ rank n.id
unfolding rank_at
rank_is [] rank i n at = cc
rank_is (x ∷ nodes) rank zero n at = let same : x ≡ n = cc in ap (λ (n : NodeValue). rank n.id) same
rank_is (x ∷ nodes) rank (suc i) n at = rank_is nodes rank i n at

ranked : (nodes : List NodeValue) (a : AreAcyclic nodes) → IsRank nodes (rank_at nodes a.acyclic.0)
ranked nodes a i j n at c =
    let m = a.are.linked.listed j i n at c in
    let less : a.acyclic.0 (m.0).id < a.acyclic.0 n.id = a.acyclic.1 (m.0).id n.id m.2 (at_contains (live_ids a.soc) i (m.0).id (node_live a.soc a.limits nodes a.are i m.0 m.1)) (at_contains (live_ids a.soc) j n.id (node_live a.soc a.limits nodes a.are j n at)) in
    omega (arith, less, rank_is nodes a.acyclic.0 i m.0 m.1, rank_is nodes a.acyclic.0 j n at)

-- ---- the loop over all tests

pub none_right : (soc : SocValue) (limits : LimitsValue) (nodes : List NodeValue) (sums : List Sum) (count : ℕ) → sums ≡ replicate count Unknown → AreRight soc limits nodes sums
none_right soc limits nodes sums count are = record { right = λ i s at. absurd (nothing count i (Known s) (ap (λ (l : List Sum). slice_get l i) (sym are) ∙ at) (known_unknown s)) }

pub none_begun : (sums : List Sum) (count : ℕ) → sums ≡ replicate count Unknown → (i : ℕ) → slice_get sums i ≡ Some Begun → ⊥
none_begun sums count are i at = nothing count i Begun (ap (λ (l : List Sum). slice_get l i) (sym are) ∙ at) begun_unknown

-- nothing stands in an empty list of sums
pub none_found : (sums : List ℕ) (i s : ℕ) → sums ≡ [] → slice_get sums i ≡ Some s → ⊥
none_found sums i s is at = let none = ap (λ (l : List ℕ). slice_get l i) (sym is) ∙ at in cc

pub sums_more : (soc : SocValue) (limits : LimitsValue) (nodes : List NodeValue) (sums new : List ℕ) (test sum : ℕ) → length sums ≡ test → new ≡ sums ++ sum ∷ [] → ((i s : ℕ) → slice_get sums i ≡ Some s → HasSum soc limits nodes i s) → HasSum soc limits nodes test sum → (i s : ℕ) → slice_get new i ≡ Some s → HasSum soc limits nodes i s
sums_more soc limits nodes sums new test sum long pushed old has i s at = by (from_append sums (sum ∷ []) i s (ap (λ (l : List ℕ). slice_get l i) (sym pushed) ∙ at))
  where
    one : (j : ℕ) → slice_get (sum ∷ []) j ≡ Some s → (j ≡ 0) × (sum ≡ s)
    one zero e = (refl, cc)
    one (suc j) e = cc

    by : (slice_get sums i ≡ Some s) ⊎ ((j : ℕ) × (i ≡ length sums + j) × (slice_get (sum ∷ []) j ≡ Some s)) → HasSum soc limits nodes i s
    by (inl a) = old i s a
    by (inr a) =
        let o = one a.0 a.2 in
        let here : i ≡ test = omega (arith, a.1, o.0, long) in
        rw (here, ← o.1) has

-- where no test stands begun
pub starts : (nodes : List NodeValue) (sums : List Sum) (test : ℕ) → (a : AreAcyclic nodes) → AreRight a.soc a.limits nodes sums → ((i : ℕ) → slice_get sums i ≡ Some Begun → ⊥) → IsUnderWay nodes sums test
starts nodes sums test a right none = record { graph = a; right = right; rank = rank_at nodes a.acyclic.0; ranked = ranked nodes a; later = λ i begun. absurd (none i begun) }
