-- Accepted proofs bound every good plan; others have one fault.
use Rattle.std.proofs.Common.{◌≡◌, ℕ, ◌≤◌, true, false, Some, length, refl, arith, inl, inr, ◌↔◌, List, [], ◌++◌, sym, ap, ◌∙◌, append_assoc, append-nil, zero, suc, ◌+◌, ◌-◌, ◌*◌, ◌<◌, subst, mul-suc, mul_comm, slice_get, IsTrue}
use Rattle.std.proofs.lemmas.Bool.{cases_lt, and_parts, cases_order, ne_eqb}
use Rattle.soc_model.specs.Chips.{SocValue, LiveTest, is_live, live_tests, id_of}
use Rattle.soc_model.specs.Modes.{is_tam}
use Rattle.plan_model.specs.Plans.{PlanValue, LimitsValue, PlannedTest, planned, planned_test, power_of_id}
use Rattle.plan_model.specs.Right.{IsAt, Meet}
use Rattle.plan_model.specs.Rules.{IsGood, IsFirstBreach}
use Rattle.plan_model.specs.SoundLimits.{IsSoundLimits}
use Rattle.plan_model.proofs.PlannedTests.{Origin}
use Rattle.plan_model.proofs.PowerAndAreaBounds.{planned_bus_width, some_width}
use Rattle.plan_model.proofs.TurnBounds.{plan_of}
use Rattle.live_tests.proofs.Placing.{in_live}
use Rattle.proof_facts.specs.Packed.{packed_time}
use Rattle.proof_facts.specs.Exclusions.{Excludes, excludes, least_power}
use Rattle.leaf_bounds.specs.Cases.{root_case, Case}
use Rattle.bus_proofs.specs.Cases.{NodeCase}
use Rattle.bus_proofs.specs.Laws.{AcceptedCasesHaveNoPlan, AcceptedProofsAreBounds, NodesTellTheTree, ProofsHaveOneFault, AcceptedProofsHaveNoFault, LessShowsLess}
use Rattle.bus_proofs.proofs.ListBounds.{planned_at}
use Rattle.bus_proofs.proofs.LeafBounds.{IsTimed, SomeWire}
use Rattle.bus_proofs.proofs.PackBounds.{leaves_none}
use Rattle.bus_proofs.proofs.Rankings.{plans_have_rankings, by_ranks, root_in, tree_none}
use Rattle.common_lemmas.proofs.Lists.{any_at, in_filter}
use Rattle.plan_model.specs.Proofs.{NodeValue, CaseTree, Leaf, Branches, nodes_of, ListValue, LeafValue, OfLeaf, OfSum, OfPack, ProofValue}
use Rattle.bus_proofs.specs.declared.ProofFault.{ProofFault}
use Rattle.bus_proofs.specs.declared.ProofFault.TheVariants.{BadList, BadNode, Less}
use Rattle.plan_model.proofs.LowerTimes.{quotient_up-le}
use Rattle.leaf_bounds.specs.Leaves.{cost_of_all, worth_of_cycle, cycles_shown, leaf_shows}
use Rattle.leaf_bounds.specs.AnyLeaves.{AnyLeafHolds, any_leaf_shows}
use Rattle.bus_proofs.specs.Bounds.{KeepsNodeAt, NodeHolds, AreEnough, IsFirstLess, HasFault, IsNodeFault, all_cases}

-- ==== accepted proofs bound every good plan

-- ---- the laws of the crates below

-- tests over the wires take at least their packed times, self tests their patterns
abbrev pub TestsArePacked : Type 0
TestsArePacked = (soc : SocValue) (limits : LimitsValue) (plan : PlanValue) (i : ℕ) (l : LiveTest) (t : PlannedTest) → IsGood soc limits plan → slice_get (live_tests soc) i ≡ Some l → IsAt (planned soc plan) i t → l.test.tam ≡ true → packed_time l.core l.test t.width ≤ length t.operations

abbrev pub SelfTestsAreExact : Type 0
SelfTestsAreExact = (soc : SocValue) (limits : LimitsValue) (plan : PlanValue) (i : ℕ) (l : LiveTest) (t : PlannedTest) → IsGood soc limits plan → slice_get (live_tests soc) i ≡ Some l → IsAt (planned soc plan) i t → l.test.tam ≡ false → length t.operations ≡ l.test.patterns

-- tests that exclude each other never meet, and a test tells which do
abbrev pub ExclusionsHold : Type 0
ExclusionsHold = (soc : SocValue) (limits : LimitsValue) (plan : PlanValue) (i j c : ℕ) (t u : PlannedTest) → IsSoundLimits soc limits → IsGood soc limits plan → Excludes soc limits i j → IsAt (planned soc plan) i t → IsAt (planned soc plan) j u → Meet t u c → ⊥

abbrev pub ExclusionsAreDecided : Type 0
ExclusionsAreDecided = (soc : SocValue) (limits : LimitsValue) (i j : ℕ) → IsTrue (excludes soc limits i j) ↔ Excludes soc limits i j

abbrev pub LeastPowersAreDrawn : Type 0
LeastPowersAreDrawn = (soc : SocValue) (limits : LimitsValue) (l : LiveTest) → IsSoundLimits soc limits → (r : ℕ) → least_power limits l ≤ power_of_id limits (id_of l) l.test.power r

pub record LawsBelow : Type 0 where
  pub packed : TestsArePacked
  pub own : SelfTestsAreExact
  pub apart : ExclusionsHold
  pub decided : ExclusionsAreDecided
  pub drawn : LeastPowersAreDrawn

timed : LawsBelow → {soc : SocValue} {limits : LimitsValue} (plan : PlanValue) → IsSoundLimits soc limits → IsGood soc limits plan → IsTimed soc limits plan
timed laws {soc} {limits} plan sound good = record {
  packed = λ i l at tam. let h = laws.packed soc limits plan i l (plan_of plan l) good at (planned_at soc plan i at) tam in rw (← planned_bus_width plan l) h;
  own = λ i l at self. let e = laws.own soc limits plan i l (plan_of plan l) good at (planned_at soc plan i at) self in omega arith;
  never = λ i j c a b at at' h active active'. laws.apart soc limits plan i j c (plan_of plan a) (plan_of plan b) sound good ((laws.decided soc limits i j).0 h) (planned_at soc plan i at) (planned_at soc plan j at') (active, active');
  draws = λ i l at r. laws.drawn soc limits l sound r;
}

-- ---- the bus of a module with a test over the wires has a wire

some_wire : (soc : SocValue) (limits : LimitsValue) (plan : PlanValue) → IsGood soc limits plan → SomeWire soc plan
some_wire soc limits plan good p m at has =
    let k = any_at is_tam m.tests has in
    let both = and_parts (is_live k.1) (k.1).tam k.3 in
    let n = in_filter is_live m.tests k.0 k.1 k.2 both.0 in
    let i = in_live soc.modules 0 p n.0 p m k.1 (omega arith) at n.1 in
    let l : LiveTest = record { place = p; core = m; test = k.1 } in
    let o : Origin soc plan i.0 (planned_test plan p m k.1) = record { l = record { place = p; core = m; test = k.1 }; at = i.1; n = n.0; module_at = at; test_at = n.1; is = refl } in
    let wide = some_width soc limits plan good i.0 (planned_test plan p m k.1) o both.1 in
    rw (← planned_bus_width plan (record { place = p; core = m; test = k.1 })) wide

-- ---- whole proofs

pub cases_have_none : LawsBelow → AcceptedCasesHaveNoPlan
cases_have_none laws soc limits lists claim c tree sound sound' kept enough plan ranking good ranking' is short =
    let r = by_ranks soc limits good ranking' is in
    tree_none soc limits lists claim plan (leaves_none soc limits lists claim sound good (timed laws plan sound' good) (some_wire soc limits plan good) kept short) tree c enough r.width r.rank r.top r.ranked r.is_in

pub accepted_bounds : LawsBelow → AcceptedProofsAreBounds
accepted_bounds laws soc limits p sound sound' accepted plan good = elim (cases_lt plan.cycles p.claimed) [
  | inr long ↦ long
  | inl short ↦
      let ranking = plans_have_rankings plan in
      absurd (cases_have_none laws soc limits p.lists p.claimed root_case accepted.tree sound sound' accepted.lists accepted.enough plan ranking.0 good ranking.1 (root_in soc limits plan good ranking.1) short)
]

-- ==== a list of nodes tells its tree

-- the tree at the front of a list of nodes, and what is behind it
record Front (a b : CaseTree) (r s : List NodeValue) : Type 0 where
  tree : a ≡ b
  rest : r ≡ s

fronts : (a b : CaseTree) (r s : List NodeValue) → nodes_of a ++ r ≡ nodes_of b ++ s → Front a b r s
fronts (Leaf x) (Leaf y) r s e = let same : x ≡ y = cc in record { tree = ap Leaf same; rest = cc }
fronts (Leaf x) (Branches k t u) r s e = absurd cc
fronts (Branches k a b) (Leaf y) r s e = absurd cc
fronts (Branches k a b) (Branches m t u) r s e =
    let tails : (nodes_of a ++ nodes_of b) ++ r ≡ (nodes_of t ++ nodes_of u) ++ s = cc in
    let split : k ≡ m = cc in
    let first = fronts a t (nodes_of b ++ r) (nodes_of u ++ s) (sym (append_assoc (nodes_of a) (nodes_of b) r) ∙ tails ∙ append_assoc (nodes_of t) (nodes_of u) s) in
    let second = fronts b u r s first.rest in
    let one = first.tree in
    let two = second.tree in
    record { tree = cc; rest = second.rest }

pub one_tree : NodesTellTheTree
one_tree a b e = (fronts a b [] [] (append-nil (nodes_of a) ∙ e ∙ sym (append-nil (nodes_of b)))).tree

-- ==== a proof has at most one fault, and none where it is accepted

-- ---- the first breach

module _ {X : Type 0} (P : List X → X → Type 0) {xs : List X} {p q : ℕ} {x y : X} (a : IsFirstBreach P xs p x) (b : IsFirstBreach P xs q y) where
  same_place : p ≡ q
  same_place = elim (cases_order p q) [
    | inl same ↦ same
    | inr other ↦ elim other [
      | inl less ↦ absurd (a.breaks (b.earlier p x less a.there))
      | inr more ↦ absurd (b.breaks (a.earlier q y more b.there))
    ]
  ]

  same_item : x ≡ y
  same_item =
      let there : slice_get xs q ≡ Some x = rw same_place at a.there in
      let there' = b.there in
      cc

-- ---- the fault of some nodes

same_node : (soc : SocValue) (limits : LimitsValue) (lists : List ListValue) (claim : ℕ) (nodes : List NodeCase) (p q : ℕ) (m n : NodeCase) → IsFirstLess soc limits lists claim nodes p m → IsFirstLess soc limits lists claim nodes q n → m ≡ n
same_node soc limits lists claim nodes p q m n a b = same_item _ a b

same_leaf : {x y : LeafValue} → OfLeaf x ≡ OfLeaf y → x ≡ y
same_leaf e = cc

module _ (soc : SocValue) (limits : LimitsValue) (lists : List ListValue) (claim : ℕ) (nodes : List NodeCase) where
  -- the rule at one place is the one at the other, where these are the same
  same_rule : {p q : ℕ} {m n : NodeCase} → p ≡ q → m ≡ n → KeepsNodeAt soc limits lists claim nodes p m → KeepsNodeAt soc limits lists claim nodes q n
  same_rule {p} {n} place node keeps =
      subst (λ k. KeepsNodeAt soc limits lists claim nodes k n) place (subst (λ x. KeepsNodeAt soc limits lists claim nodes p x) node keeps)

  same_fault : (f g : ProofFault) → HasFault soc limits lists claim nodes f → HasFault soc limits lists claim nodes g → f ≡ g
  same_fault (BadList p) g a b = absurd a
  same_fault (BadNode p) (BadList q) a b = absurd b
  same_fault (BadNode p) (BadNode q) a b = ap BadNode (same_place _ a.first b.first)
  same_fault (BadNode p) (Less q c s) a b =
      absurd (a.broken (same_rule (sym (same_place _ a.first b.first)) (sym (same_node soc limits lists claim nodes p q a.n b.n a.first b.first)) b.rule))
  same_fault (Less p c s) (BadList q) a b = absurd b
  same_fault (Less p c s) (BadNode q) a b =
      absurd (b.broken (same_rule (same_place _ a.first b.first) (same_node soc limits lists claim nodes p q a.n b.n a.first b.first) a.rule))
  same_fault (Less p c s) (Less q d u) a b =
      let place : p ≡ q = same_place _ a.first b.first in
      let node = same_node soc limits lists claim nodes p q a.n b.n a.first b.first in
      let leaf = same_leaf (sym a.leaf_is ∙ ap (λ (n : NodeCase). n.node) node ∙ b.leaf_is) in
      let claimed = a.claimed_is ∙ sym b.claimed_is in
      let shown = a.shown_is ∙ ap (λ (n : NodeCase). any_leaf_shows soc limits lists claim n.within a.leaf) node ∙ ap (any_leaf_shows soc limits lists claim (b.n).within) leaf ∙ sym b.shown_is in
      cc

  none : (f : ProofFault) → AreEnough soc limits lists claim nodes → HasFault soc limits lists claim nodes f → ⊥
  none (BadList p) enough a = a
  none (BadNode p) enough a = a.first.breaks (enough p a.n a.first.there)
  none (Less p c s) enough a = a.first.breaks (enough p a.n a.first.there)

-- ---- the fault of a proof

same_node_fault : {soc : SocValue} {limits : LimitsValue} {p : ProofValue} {f g : ProofFault} → IsNodeFault soc limits p f → IsNodeFault soc limits p g → f ≡ g
same_node_fault {soc} {limits} {p} {f} {g} a b =
    let same = one_tree a.tree b.tree (a.nodes ∙ sym b.nodes) in
    same_fault soc limits p.lists p.claimed (all_cases soc limits b.tree) f g (subst (λ x. HasFault soc limits p.lists p.claimed (all_cases soc limits x) f) same a.has) b.has

pub one_fault : ProofsHaveOneFault
one_fault soc limits p (BadList x) (BadList y) a b = ap BadList (same_place _ a.1 b.1)
one_fault soc limits p (BadList x) (BadNode y) a b = absurd (a.1.breaks (b.lists x a.0 a.1.there))
one_fault soc limits p (BadList x) (Less y c s) a b = absurd (a.1.breaks (b.lists x a.0 a.1.there))
one_fault soc limits p (BadNode x) (BadList y) a b = absurd (b.1.breaks (a.lists y b.0 b.1.there))
one_fault soc limits p (BadNode x) (BadNode y) a b = same_node_fault a b
one_fault soc limits p (BadNode x) (Less y c s) a b = same_node_fault a b
one_fault soc limits p (Less x c s) (BadList y) a b = absurd (b.1.breaks (a.lists y b.0 b.1.there))
one_fault soc limits p (Less x c s) (BadNode y) a b = same_node_fault a b
one_fault soc limits p (Less x c s) (Less y d u) a b = same_node_fault a b

pub no_fault : AcceptedProofsHaveNoFault
no_fault soc limits p (BadList x) accepted a = a.1.breaks (accepted.lists x a.0 a.1.there)
no_fault soc limits p (BadNode x) accepted a =
    let same = one_tree accepted.tree a.tree (accepted.nodes ∙ sym a.nodes) in
    none soc limits p.lists p.claimed (all_cases soc limits a.tree) (BadNode x) (subst (λ x. AreEnough soc limits p.lists p.claimed (all_cases soc limits x)) same accepted.enough) a.has
no_fault soc limits p (Less x c s) accepted a =
    let same = one_tree accepted.tree a.tree (accepted.nodes ∙ sym a.nodes) in
    none soc limits p.lists p.claimed (all_cases soc limits a.tree) (Less x c s) (subst (λ x. AreEnough soc limits p.lists p.claimed (all_cases soc limits x)) same accepted.enough) a.has

-- ---- what a leaf shows that doesn't hold

shown-less : (cost worth claim : ℕ) → 1 ≤ claim → cost + worth ≤ worth * claim → cycles_shown cost worth < claim
shown-less cost worth claim some few = go worth few
  where
    go : (worth : ℕ) → cost + worth ≤ worth * claim → cycles_shown cost worth < claim
    go zero few = omega arith
    go (suc w) few =
        let before : claim ≡ suc (claim - 1) = omega arith in
        let product = mul-suc (suc w) (claim - 1) in
        let all = ap (λ n. suc w * n) before in
        let least = quotient_up-le cost (claim - 1) (suc w) (omega arith) (omega (arith, few, product, all, mul_comm (suc w) (claim - 1))) in
        rw (ne_eqb (suc w) 0 (λ e. omega arith)) (omega (arith, least, before))

-- a leaf that doesn't hold shows less than is claimed
leaf_less : (soc : SocValue) (limits : LimitsValue) (lists : List ListValue) (claim : ℕ) (c : Case) (leaf : LeafValue) → 1 ≤ claim → (AnyLeafHolds soc limits lists claim c leaf → ⊥) → any_leaf_shows soc limits lists claim c leaf < claim
unfolding leaf_shows
leaf_less soc limits lists claim c (OfPack pricing) some less = omega (arith, some)
leaf_less soc limits lists claim c (OfSum weights) some less = elim (cases_lt (worth_of_cycle limits.wires lists c weights * claim) (cost_of_all soc limits lists claim c weights + worth_of_cycle limits.wires lists c weights)) [
  | inl more ↦ absurd (less (inr (inr more)))
  | inr few ↦ shown-less (cost_of_all soc limits lists claim c weights) (worth_of_cycle limits.wires lists c weights) claim some few
]

pub less_shows_less : LessShowsLess
less_shows_less soc limits p place claimed shown fault some =
    let a = fault.has in
    let less : AnyLeafHolds soc limits p.lists p.claimed (a.n).within a.leaf → ⊥ = (λ holds. a.first.breaks (record { rule = a.rule; holds = subst (NodeHolds soc limits p.lists p.claimed (a.n).within) (sym a.leaf_is) holds })) in
    let few = leaf_less soc limits p.lists p.claimed (a.n).within a.leaf (omega (arith, some, a.claimed_is)) less in
    omega (arith, few, a.shown_is, a.claimed_is)
