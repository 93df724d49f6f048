-- The nodes of a chip's live tests, without precedences.
use Rattle.std.proofs.Common.{◌≡◌, inl, inr, ℕ, ◌+◌, ◌*◌, ◌<◌, ◌≤◌, ◌^◌, max, Some, true, false, List, [], ◌∷◌, ◌++◌, length, get_or, take, map, refl, sym, ap, subst, ◌∙◌, append-nil, append_assoc, arith, slice_get, filter, flat_map}
use Rattle.std.proofs.lemmas.Bool.{cases_Bool}
use Rattle.std.proofs.lemmas.List.{length-map, map-append, take_more}
use Rattle.std.proofs.lemmas.List.Elements.{filter-append}
use Rattle.std.proofs.lemmas.Option.{slice_get-map}
use Rattle.std.proofs.Math.Nat.{mul-le-mul_left}
use Rattle.soc_model.specs.declared.Test.{Test}
use Rattle.soc_model.specs.declared.TestId.{TestId}
use Rattle.soc_model.specs.Chips.{ModuleValue, SocValue, LiveTest, is_live, live_of, live_from, live_tests, id_of}
use Rattle.soc_model.specs.Sizes.{test_work}
use Rattle.soc_model.specs.SoundChips.{IsSoundChip}
use Rattle.plan_model.specs.Plans.{LimitsValue}
use Rattle.plan_model.specs.Bounds.{lower_time, lower}
use Rattle.plan_model.specs.Rules.{live_ids}
use Rattle.plan_model.specs.Certificates.{is_called, lower_of_id}
use Rattle.plan_model.proofs.PlannedTests.{of_first_is}
use Rattle.plan_model.proofs.CertificatesAreBounds.{same_test_is, is_same_test}
use Rattle.plan_model.proofs.ShortTests.{live_patterns}
use Rattle.bound_rules.specs.Sizes.{sizes_of, least_chain, IsFitting}
use Rattle.bound_rules.proofs.Works.{time_by-le, tam_time_is, self_time_is}
use Rattle.bound_rules.proofs.Modules.{fitting_sizes, time_by_sizes, work_by_sizes, module_size-le_work}
use Rattle.bound_rules.proofs.SoundWork.{live_work-le_live}
use Rattle.bound_certificate.specs.declared.nodes.PrecedenceNode.{PrecedenceNode}
use Rattle.bound_certificate.specs.Nodes.{NodeValue, node_value, node_values, ids_of, fixed_parts, node_in, nodes_in, live_nodes, AreLinked, AreNodes}
use Rattle.live_tests.proofs.LiveIds.{ids_differ}
use Rattle.bound_certificate.proofs.Links.{ids_same}
use Rattle.common_lemmas.proofs.Lists.{from_map}

-- ---- lower times of live tests

lower_some : (m : ModuleValue) (t : Test) (w : ℕ) → 1 ≤ t.patterns → 1 ≤ lower_time m t w
lower_some m t w live = elim (cases_Bool t.tam) [
  | inl tam ↦
      let e = time_by_sizes m t w in
      let f = tam_time_is (sizes_of m) t w live tam in
      let product : (1 + max (least_chain (sizes_of m) t.scan (sizes_of m).inputs w) (least_chain (sizes_of m) t.scan (sizes_of m).outputs w)) * 1 ≤ (1 + max (least_chain (sizes_of m) t.scan (sizes_of m).inputs w) (least_chain (sizes_of m) t.scan (sizes_of m).outputs w)) * t.patterns =
      mul-le-mul_left (1 + max (least_chain (sizes_of m) t.scan (sizes_of m).inputs w) (least_chain (sizes_of m) t.scan (sizes_of m).outputs w)) live in
      omega (arith, e, f, product)
  | inr self ↦ omega (arith, time_by_sizes m t w, self_time_is (sizes_of m) t w self, live)
]

lower_small : (m : ModuleValue) (t : Test) (w : ℕ) → 1 ≤ w → 1 ≤ t.patterns → test_work m t ≤ 10 ^ 18 → lower_time m t w ≤ 10 ^ 18
lower_small m t w some live small =
    let fits : IsFitting (sizes_of m) = fitting_sizes m (omega (arith, module_size-le_work m t live, small)) in
    omega (arith, time_by_sizes m t w, time_by-le (sizes_of m) t w some live fits, work_by_sizes m t, small)

-- ---- all live tests

abbrev node_of : ℕ → LiveTest → NodeValue
node_of w l = record { id = id_of l; time = lower w l; before = [] }

the_live : ℕ → ModuleValue → Test → LiveTest
the_live base m t = record { place = base; core = m; test = t }

nodes_of_module : (w base : ℕ) (m : ModuleValue) (ts : List Test) → map (node_in w m) ts ≡ map (node_of w) (map (λ (t : Test). the_live base m t) ts)
unfolding the_live
nodes_of_module w base m [] = refl
nodes_of_module w base m (t ∷ ts) = ap (λ ns. node_in w m t ∷ ns) (nodes_of_module w base m ts)

nodes_from : (w base : ℕ) (ms : List ModuleValue) → flat_map (nodes_in w) ms ≡ map (node_of w) (live_from base ms)
unfolding live_from the_live
nodes_from w base [] = refl
nodes_from w base (m ∷ ms) =
    ap (λ ns. ns ++ flat_map (nodes_in w) ms) (nodes_of_module w base m (filter is_live m.tests)) ∙ ap (λ ns. map (node_of w) (live_of base m) ++ ns) (nodes_from w (base + 1) ms) ∙ sym (map-append (node_of w) (live_of base m) (live_from (base + 1) ms))

nodes_are : (soc : SocValue) (w : ℕ) → live_nodes soc w ≡ map (node_of w) (live_tests soc)
nodes_are soc w = nodes_from w 0 soc.modules

ids_are : (w : ℕ) (ls : List LiveTest) → ids_of (map (node_of w) ls) ≡ map id_of ls
ids_are w [] = refl
ids_are w (l ∷ ls) = ap (λ ids. id_of l ∷ ids) (ids_are w ls)

pub live_ids_are : (soc : SocValue) (w : ℕ) → ids_of (live_nodes soc w) ≡ live_ids soc
live_ids_are soc w = ap ids_of (nodes_are soc w) ∙ ids_are w (live_tests soc)

-- ---- with their precedences

-- a live test by its place
record Behind (soc : SocValue) (w i : ℕ) (n : NodeValue) : Type 0 where
  l : LiveTest
  at : slice_get (live_tests soc) i ≡ Some l
  id : id_of l ≡ n.id
  time : lower w l ≡ n.time

behind : (soc : SocValue) (w : ℕ) (nodes : List NodeValue) → fixed_parts nodes ≡ fixed_parts (live_nodes soc w) → (i : ℕ) (n : NodeValue) → slice_get nodes i ≡ Some n → Behind soc w i n
behind soc w nodes same i n at =
    let here : slice_get (fixed_parts nodes) i ≡ Some (n.id, n.time) = slice_get-map (λ (n : NodeValue). (n.id, n.time)) nodes i ∙ rw at refl in
    let there : slice_get (fixed_parts (map (node_of w) (live_tests soc))) i ≡ Some (n.id, n.time) = ap (λ (ns : List NodeValue). slice_get (fixed_parts ns) i) (sym (nodes_are soc w)) ∙ ap (λ (ps : List (TestId × ℕ)). slice_get ps i) (sym same) ∙ here in
    let a = from_map (λ (n : NodeValue). (n.id, n.time)) (map (node_of w) (live_tests soc)) i (n.id, n.time) there in
    let b = from_map (node_of w) (live_tests soc) i a.0 a.1 in
    record {
      l = b.0;
      at = b.1;
      id = ap (λ (n : NodeValue). n.id) b.2 ∙ ap (λ (p : TestId × ℕ). p.0) a.2;
      time = ap (λ (n : NodeValue). n.time) b.2 ∙ ap (λ (p : TestId × ℕ). p.1) a.2;
    }

-- each live test is found by its numbers
lower_is : (soc : SocValue) (w : ℕ) → IsSoundChip soc → (i : ℕ) (l : LiveTest) → slice_get (live_tests soc) i ≡ Some l → lower_of_id soc w (id_of l) ≡ lower w l
lower_is soc w sound i l at =
    let r = of_first_is (is_called (id_of l)) (lower w) 0 (live_tests soc) i l at (is_same_test (id_of l)) in
    let one : slice_get (live_ids soc) i ≡ Some (id_of l) = slice_get-map id_of (live_tests soc) i ∙ rw at refl in
    let two : slice_get (live_ids soc) r.0 ≡ Some (id_of l) = slice_get-map id_of (live_tests soc) r.0 ∙ rw r.2 (ap Some (same_test_is (id_of r.1) (id_of l) r.3)) in
    let same : i ≡ r.0 = ids_differ soc sound i r.0 (id_of l) one two in
    let there = r.2 in
    let there' = rw (← same) at there in
    let item : r.1 ≡ l = cc in
    r.4 ∙ ap (lower w) item

pub nodes_found : (soc : SocValue) (limits : LimitsValue) (nodes : List NodeValue) → IsSoundChip soc → 1 ≤ limits.wires → fixed_parts nodes ≡ fixed_parts (live_nodes soc limits.wires) → AreLinked limits.before nodes → AreNodes soc limits nodes
nodes_found soc limits nodes sound some same linked = record {
  ids = ids_same nodes (live_nodes soc limits.wires) same ∙ live_ids_are soc limits.wires;
  times = λ i n at. (let b = behind soc limits.wires nodes same i n at in sym b.time ∙ sym (lower_is soc limits.wires sound i b.l b.at) ∙ ap (lower_of_id soc limits.wires) b.id);
  some_time = λ i n at. (let b = behind soc limits.wires nodes same i n at in omega (arith, b.time, lower_some b.l.core b.l.test limits.wires (live_patterns soc i b.l b.at)));
  short = λ i n at. (let b = behind soc limits.wires nodes same i n at in omega (arith, b.time, lower_small b.l.core b.l.test limits.wires some (live_patterns soc i b.l b.at) (live_work-le_live soc sound i b.l b.at)));
  linked = linked;
}

-- there are as many nodes as live tests
pub node_count : (soc : SocValue) (w : ℕ) (nodes : List PrecedenceNode) → node_values nodes ≡ live_nodes soc w → length nodes ≡ length (live_ids soc)
node_count soc w nodes are =
    sym (length-map nodes node_value) ∙ sym (length-map (node_values nodes) (λ (n : NodeValue). n.id)) ∙ ap (λ (ns : List NodeValue). length (ids_of ns)) are ∙ ap length (live_ids_are soc w)

-- ---- the nodes of a module, one by one

-- a node that was made for a test
pub node_made : (w : ℕ) (m : ModuleValue) (t : Test) (n : PrecedenceNode) → n.id ≡ record { «module» = m.number; test = t.number } → n.time ≡ lower_time m t w → n.before.items ≡ [] → node_value n ≡ node_in w m t
node_made w m t n id time before = rw (id, time, before) refl

taken : (w : ℕ) (m : ModuleValue) (old : List NodeValue) (nodes new : List PrecedenceNode) (tests : List Test) (i : ℕ) (d : Test) (n : PrecedenceNode) → i < length tests → is_live (get_or tests i d) ≡ true → node_value n ≡ node_in w m (get_or tests i d) → new ≡ nodes ++ n ∷ []
    → node_values nodes ≡ old ++ map (node_in w m) (filter is_live (take i tests)) → node_values new ≡ old ++ map (node_in w m) (filter is_live (take (i + 1) tests))
taken w m old nodes new tests i d n within live made pushed before =
    let here : map (node_in w m) (filter is_live (get_or tests i d ∷ [])) ≡ node_value n ∷ [] = rw live (ap (λ v. v ∷ []) (sym made)) in
    let more : map (node_in w m) (filter is_live (take (i + 1) tests)) ≡ map (node_in w m) (filter is_live (take i tests)) ++ node_value n ∷ [] =
    ap (λ l. map (node_in w m) (filter is_live l)) (take_more tests i d within) ∙ ap (map (node_in w m)) (filter-append is_live (take i tests) (get_or tests i d ∷ []))
    ∙ map-append (node_in w m) (filter is_live (take i tests)) (filter is_live (get_or tests i d ∷ [])) ∙ ap (λ l. map (node_in w m) (filter is_live (take i tests)) ++ l) here in
    ap node_values pushed ∙ map-append node_value nodes (n ∷ []) ∙ ap (λ l. l ++ node_value n ∷ []) before ∙ append_assoc old (map (node_in w m) (filter is_live (take i tests))) (node_value n ∷ []) ∙ ap (λ l. old ++ l) (sym more)

left : (w : ℕ) (m : ModuleValue) (old : List NodeValue) (nodes : List PrecedenceNode) (tests : List Test) (i : ℕ) (d : Test) → i < length tests → is_live (get_or tests i d) ≡ false
    → node_values nodes ≡ old ++ map (node_in w m) (filter is_live (take i tests)) → node_values nodes ≡ old ++ map (node_in w m) (filter is_live (take (i + 1) tests))
left w m old nodes tests i d within idle before =
    let here : filter is_live (get_or tests i d ∷ []) ≡ [] = rw idle refl in
    let more : filter is_live (take (i + 1) tests) ≡ filter is_live (take i tests) =
    ap (filter is_live) (take_more tests i d within) ∙ filter-append is_live (take i tests) (get_or tests i d ∷ []) ∙ ap (λ l. filter is_live (take i tests) ++ l) here ∙ append-nil (filter is_live (take i tests)) in
    before ∙ ap (λ l. old ++ map (node_in w m) l) (sym more)

-- a live test has its node behind the others
pub node_taken : (w : ℕ) (m : ModuleValue) (old : List NodeValue) (nodes new : List PrecedenceNode) (items tests : List Test) (i : ℕ) (d : Test) (n : PrecedenceNode) → items ≡ tests → i < length items → is_live (get_or items i d) ≡ true → node_value n ≡ node_in w m (get_or items i d) → new ≡ nodes ++ n ∷ []
    → node_values nodes ≡ old ++ map (node_in w m) (filter is_live (take i tests)) → node_values new ≡ old ++ map (node_in w m) (filter is_live (take (i + 1) tests))
node_taken w m old nodes new items tests i d n same within live made pushed before =
    subst (λ (l : List Test). node_values new ≡ old ++ map (node_in w m) (filter is_live (take (i + 1) l))) same
    (taken w m old nodes new items i d n within live made pushed (subst (λ (l : List Test). node_values nodes ≡ old ++ map (node_in w m) (filter is_live (take i l))) (sym same) before))

-- any other test has none
pub node_left : (w : ℕ) (m : ModuleValue) (old : List NodeValue) (nodes : List PrecedenceNode) (items tests : List Test) (i : ℕ) (d : Test) → items ≡ tests → i < length items → is_live (get_or items i d) ≡ false
    → node_values nodes ≡ old ++ map (node_in w m) (filter is_live (take i tests)) → node_values nodes ≡ old ++ map (node_in w m) (filter is_live (take (i + 1) tests))
node_left w m old nodes items tests i d same within idle before =
    subst (λ (l : List Test). node_values nodes ≡ old ++ map (node_in w m) (filter is_live (take (i + 1) l))) same
    (left w m old nodes items i d within idle (subst (λ (l : List Test). node_values nodes ≡ old ++ map (node_in w m) (filter is_live (take i l))) (sym same) before))
