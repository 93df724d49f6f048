-- The tests before each node, found by the places of tests, are those that precede it by name.
use Rattle.std.proofs.Common.{◌≡◌, ◌⊎◌, inl, inr, ℕ, zero, suc, ◌+◌, ◌<◌, ◌≤◌, Some, List, [], ◌∷◌, length, get_or, map, refl, sym, ap, ◌∙◌, subst, arith, slice_get, slice_set, Contains, flat_map}
use Rattle.std.proofs.lemmas.Bool.{cases_eq}
use Rattle.std.proofs.lemmas.List.{length-map, length-set, get_or-map, get_or-set_same, get_or-set_other, map-set}
use Rattle.std.proofs.lemmas.Option.{slice_get-map}
use Rattle.soc_model.specs.declared.TestId.{TestId}
use Rattle.plan_model.proofs.Lists.{at_contains}
use Rattle.live_tests.specs.declared.neighbours.Neighbours.{Neighbours}
use Rattle.live_tests.specs.Names.{AllDiffer, places_of}
use Rattle.live_tests.specs.Neighbours.{before as tests_before, tests_of}
use Rattle.live_tests.proofs.Precedences.{StandsFor, stands_for, place_there, test_there, pair_there}
use Rattle.live_tests.proofs.Sides.{sides_from, sides_have}
use Rattle.bound_certificate.specs.declared.nodes.PrecedenceNode.{PrecedenceNode}
use Rattle.bound_certificate.specs.Nodes.{NodeValue, node_value, node_values, ids_of, fixed_parts, before_at, tests_at, AreLinked}
use Rattle.common_lemmas.proofs.Options.{some_same}
use Rattle.common_lemmas.proofs.Lists.{from_map, contains_at}

id_at : (nodes : List NodeValue) (ids : List TestId) (k : ℕ) (n : NodeValue) → ids ≡ ids_of nodes → slice_get nodes k ≡ Some n → slice_get ids k ≡ Some n.id
id_at nodes ids k n same at = ap (λ (l : List TestId). slice_get l k) same ∙ slice_get-map (λ (n : NodeValue). n.id) nodes k ∙ rw at refl

node_at : (nodes : List NodeValue) (ids : List TestId) (k : ℕ) (id : TestId) → ids ≡ ids_of nodes → slice_get ids k ≡ Some id → (n : NodeValue) × (slice_get nodes k ≡ Some n) × (n.id ≡ id)
node_at nodes ids k id same at = from_map (λ (n : NodeValue). n.id) nodes k id (ap (λ (l : List TestId). slice_get l k) (sym same) ∙ at)

abbrev pair_of : TestId → TestId → TestId × TestId
pair_of a b = (a, b)

pub linked_by : (before : List (TestId × TestId)) (nodes : List NodeValue) (ids : List TestId) → ids ≡ ids_of nodes → AllDiffer ids → ((j : ℕ) (n : NodeValue) → slice_get nodes j ≡ Some n → n.before ≡ tests_before j (flat_map (places_of ids) before)) → AreLinked before nodes
linked_by before nodes ids same differ each = record { listed = λ j p n at c. listed j p n at c; all = λ i j m n at there c. all i j m n at there c }
  where
    pairs : List (ℕ × ℕ)
    pairs = flat_map (places_of ids) before

    listed : (j p : ℕ) (n : NodeValue) → slice_get nodes j ≡ Some n → Contains n.before p → (m : NodeValue) × (slice_get nodes p ≡ Some m) × Contains before (pair_of m.id n.id)
    listed j p n at c =
        let k = contains_at (tests_before j pairs) p (subst (λ (l : List ℕ). Contains l p) (each j n at) c) in
        let e = sides_from (λ (e : ℕ × ℕ). e.1) (λ (e : ℕ × ℕ). e.0) j pairs k.0 p k.1 in
        let s : StandsFor ids before e.1.0 e.1.1 = stands_for ids before e.1.0 e.1.1 (at_contains pairs e.0 e.1 e.2) in
        let m = node_at nodes ids p s.first same (ap (slice_get ids) (sym e.4) ∙ s.first_at) in
        let later : n.id ≡ s.second = some_same n.id s.second (sym (id_at nodes ids j n same at) ∙ ap (slice_get ids) (sym e.3) ∙ s.second_at) in
        (m.0, m.1, subst (λ (q : TestId × TestId). Contains before q) (ap (λ (v : TestId). pair_of v s.second) (sym m.2) ∙ ap (λ (v : TestId). pair_of (m.0).id v) (sym later)) s.precedes)

    all : (i j : ℕ) (m n : NodeValue) → slice_get nodes i ≡ Some m → slice_get nodes j ≡ Some n → Contains before (pair_of m.id n.id) → Contains n.before i
    all i j m n at there c =
        let k = contains_at before (pair_of m.id n.id) c in
        let first = id_at nodes ids i m same at in
        let second = id_at nodes ids j n same there in
        let p = place_there i ids m.id first in
        let q = place_there j ids n.id second in
        let one : p.0 ≡ i = differ p.0 i m.id (test_there p.0 ids m.id p.1) first in
        let two : q.0 ≡ j = differ q.0 j n.id (test_there q.0 ids n.id q.1) second in
        let r = contains_at pairs (i, j) (pair_there ids before k.0 i j m.id n.id k.1 (p.1 ∙ ap Some one) (q.1 ∙ ap Some two)) in
        let h = sides_have (λ (e : ℕ × ℕ). e.1) (λ (e : ℕ × ℕ). e.0) j pairs r.0 (i, j) r.1 refl in
        subst (λ (l : List ℕ). Contains l i) (sym (each j n there)) (at_contains (tests_before j pairs) h.0 i h.1)

-- ---- the steps of the loop

ids_fixed : (nodes : List NodeValue) → ids_of nodes ≡ map (λ (p : TestId × ℕ). p.0) (fixed_parts nodes)
ids_fixed [] = refl
ids_fixed (n ∷ nodes) = ap (λ ids. n.id ∷ ids) (ids_fixed nodes)

pub ids_same : (nodes others : List NodeValue) → fixed_parts nodes ≡ fixed_parts others → ids_of nodes ≡ ids_of others
ids_same nodes others same = ids_fixed nodes ∙ ap (λ (ps : List (TestId × ℕ)). map (λ (p : TestId × ℕ). p.0) ps) same ∙ sym (ids_fixed others)

-- the tests before a node
pub before_is : (nodes : List PrecedenceNode) (j : ℕ) (n : NodeValue) → slice_get (node_values nodes) j ≡ Some n → (j < length nodes) × (n.before ≡ before_at nodes j)
before_is [] j n at = absurd cc
before_is (x ∷ nodes) zero n at = let same : node_value x ≡ n = cc in (omega arith, ap (λ (v : NodeValue). v.before) (sym same))
before_is (x ∷ nodes) (suc j) n at = let r = before_is nodes j n at in (omega (arith, r.0), r.1)

set_fixed : (nodes : List PrecedenceNode) (k : ℕ) (here new : PrecedenceNode) → k < length nodes → here ≡ get_or nodes k here → new.id ≡ here.id → new.time ≡ here.time → fixed_parts (node_values (slice_set nodes k new)) ≡ fixed_parts (node_values nodes)
set_fixed [] k here new within is id time = absurd (omega (arith, within))
set_fixed (n ∷ nodes) zero here new within is id time =
    ap (λ (p : TestId × ℕ). p ∷ fixed_parts (node_values nodes)) (ap (λ (i : TestId). the_part i new.time) (id ∙ ap (λ (m : PrecedenceNode). m.id) is) ∙ ap (the_part n.id) (time ∙ ap (λ (m : PrecedenceNode). m.time) is))
  where
    the_part : TestId → ℕ → TestId × ℕ
    the_part id time = (id, time)
set_fixed (n ∷ nodes) (suc k) here new within is id time = ap (λ (ps : List (TestId × ℕ)). (n.id, n.time) ∷ ps) (set_fixed nodes k here new (omega (arith, within)) is id time)

-- there are as many
pub same_count : (nodes others : List PrecedenceNode) → fixed_parts (node_values nodes) ≡ fixed_parts (node_values others) → length nodes ≡ length others
same_count nodes others same = sym (count nodes) ∙ ap length same ∙ count others
  where
    count : (nodes : List PrecedenceNode) → length (fixed_parts (node_values nodes)) ≡ length nodes
    count [] = refl
    count (n ∷ nodes) = ap suc (count nodes)

-- what the loop has done before a place
pub record AreLinkedTo (start nodes : List PrecedenceNode) (first lists : List Neighbours) (place : ℕ) : Type 0 where
  pub fixed : fixed_parts (node_values nodes) ≡ fixed_parts (node_values start)
  pub many : length nodes ≡ length start
  pub long : length lists ≡ length start
  pub done : (i : ℕ) → i < place → before_at nodes i ≡ tests_at first i
  pub left : (i : ℕ) → place ≤ i → tests_at lists i ≡ tests_at first i

-- the lists at one place more are exchanged
pub link_next : (start nodes : List PrecedenceNode) (first lists : List Neighbours) (k : ℕ) (here new : PrecedenceNode) (list other : Neighbours) → AreLinkedTo start nodes first lists k → k < length start → here ≡ get_or nodes k here → list ≡ get_or lists k list
    → new.id ≡ here.id → new.time ≡ here.time → new.before.items ≡ list.tests.items → AreLinkedTo start (slice_set nodes k new) first (slice_set lists k other) (k + 1)
link_next start nodes first lists k here new list other old within here_is list_is id time moved = record {
  fixed = set_fixed nodes k here new near here_is id time ∙ old.fixed;
  many = length-set nodes k new ∙ old.many;
  long = length-set lists k other ∙ old.long;
  done = λ i less. done i less (cases_eq i k);
  left = λ i past. ap (λ l. get_or l i []) (map-set tests_of lists k other) ∙ get_or-set_other (map tests_of lists) k i (tests_of other) [] (λ same. absurd (omega (arith, same, past))) ∙ old.left i (omega (arith, past));
}
  where
    near : k < length nodes
    near = omega (arith, within, old.many)

    done : (i : ℕ) → i < k + 1 → (i ≡ k) ⊎ (i ≡ k → ⊥) → before_at (slice_set nodes k new) i ≡ tests_at first i
    done i less (inl same) =
        let there : tests_of list ≡ tests_at lists k = ap tests_of list_is ∙ sym (get_or-map tests_of lists k list [] (omega (arith, within, old.long))) in
        ap (λ l. get_or l i []) (map-set (λ (n : PrecedenceNode). n.before.items) nodes k new)
        ∙ ap (λ n. get_or (slice_set (map (λ (n : PrecedenceNode). n.before.items) nodes) k new.before.items) n []) same
        ∙ get_or-set_same (map (λ (n : PrecedenceNode). n.before.items) nodes) k new.before.items [] (omega (arith, near, length-map nodes (λ (n : PrecedenceNode). n.before.items)))
        ∙ moved ∙ there ∙ old.left k (omega arith) ∙ ap (tests_at first) (sym same)
    done i less (inr apart) =
        ap (λ l. get_or l i []) (map-set (λ (n : PrecedenceNode). n.before.items) nodes k new)
        ∙ get_or-set_other (map (λ (n : PrecedenceNode). n.before.items) nodes) k i new.before.items [] apart ∙ old.done i (omega (arith, less, apart))
