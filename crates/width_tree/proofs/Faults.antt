-- A list of nodes tells its tree.
use Rattle.std.proofs.Common.{◌≡◌, List, [], ◌++◌, sym, ap, ◌∙◌, append_assoc, append-nil, ℕ, Some, subst, inl, inr, slice_get, Result, Ok, Err, OnOk}
use Rattle.width_tree.specs.Trees.{NodeValue, WidthTree, Leaf, Branches, nodes_of, TreeValue, IsOneTree}
use Rattle.std.proofs.lemmas.Bool.{cases_order}
use Rattle.soc_model.specs.Chips.{SocValue}
use Rattle.plan_model.specs.Plans.{LimitsValue}
use Rattle.width_tree.specs.declared.TreeFault.{TreeFault}
use Rattle.width_tree.specs.declared.TreeFault.TheVariants.{BadNode, Less}
use Rattle.width_tree.specs.Cases.{NodeCase, KeepsNode, node_shows}
use Rattle.width_tree.specs.Bounds.{AreEnough, IsFirstLess, HasFault, all_cases, IsChecked, IsAcceptedTree}
use Rattle.width_tree.specs.Laws.{TreesHaveOneFault, AcceptedTreesHaveNoFault}
use Rattle.common_lemmas.proofs.Options.{some_same}

-- the tree at the front of a list of nodes, and what is behind it
record Front (a b : WidthTree) (r s : List NodeValue) : Type 0 where
  tree : a ≡ b
  rest : r ≡ s

fronts : (a b : WidthTree) (r s : List NodeValue) → nodes_of a ++ r ≡ nodes_of b ++ s → Front a b r s
fronts (Leaf x) (Leaf y) r s e = let same : x ≡ y = cc in record { tree = ap Leaf same; rest = cc }
fronts (Leaf x) (Branches m w t u) r s e = absurd cc
fronts (Branches k v a b) (Leaf y) r s e = absurd cc
fronts (Branches k v a b) (Branches m w t u) r s e =
    let tails : (nodes_of a ++ nodes_of b) ++ r ≡ (nodes_of t ++ nodes_of u) ++ s = cc in
    let first = fronts a t (nodes_of b ++ r) (nodes_of u ++ s) (sym (append_assoc (nodes_of a) (nodes_of b) r) ∙ tails ∙ append_assoc (nodes_of t) (nodes_of u) s) in
    let second = fronts b u r s first.rest in
    record { tree = cc; rest = second.rest }

pub one_tree : (a b : WidthTree) → nodes_of a ≡ nodes_of b → a ≡ b
one_tree a b e = (fronts a b [] [] (append-nil (nodes_of a) ∙ e ∙ sym (append-nil (nodes_of b)))).tree

-- ---- a tree has at most one fault, and none where it is accepted

module _ (soc : SocValue) (w claim : ℕ) (nodes : List NodeCase) where
  module _ (p q : ℕ) (m n : NodeCase) (a : IsFirstLess soc w claim nodes p m) (b : IsFirstLess soc w claim nodes q n) where
    same_place : p ≡ q
    same_place = elim (cases_order p q) [
      | inl same ↦ same
      | inr other ↦ elim other [
        | inl less ↦ absurd (a.breaks (b.earlier p m less a.there))
        | inr more ↦ absurd (b.breaks (a.earlier q n more b.there))
      ]
    ]

    same_node : m ≡ n
    same_node =
        let there : slice_get nodes q ≡ Some m = rw same_place at a.there in
        cc

  same_fault : (f g : TreeFault) → HasFault soc w claim nodes f → HasFault soc w claim nodes g → f ≡ g
  same_fault (BadNode p) (BadNode q) a b = ap BadNode (same_place p q a.n b.n a.first b.first)
  same_fault (BadNode p) (Less q c s) a b =
      absurd (a.broken (rw (same_node p q a.n b.n a.first b.first) b.rule))
  same_fault (Less p c s) (BadNode q) a b =
      absurd (b.broken (rw (← (same_node p q a.n b.n a.first b.first)) a.rule))
  same_fault (Less p c s) (Less q d u) a b =
      let place = same_place p q a.n b.n a.first b.first in
      let node = same_node p q a.n b.n a.first b.first in
      let claimed = a.claimed_is ∙ sym b.claimed_is in
      let shown = some_same s u (sym a.shows ∙ ap (λ (n : NodeCase). node_shows soc w n.widths n.node) node ∙ b.shows) in
      cc

pub one_fault : TreesHaveOneFault
one_fault soc limits t f g a b =
    same_fault soc limits.wires t.claimed (all_cases soc limits b.tree) f g (rw (← (one_tree a.tree b.tree (a.nodes ∙ sym b.nodes))) a.has) b.has

none : (soc : SocValue) (w claim : ℕ) (nodes : List NodeCase) (f : TreeFault) → AreEnough soc w claim nodes → HasFault soc w claim nodes f → ⊥
none soc w claim nodes (BadNode p) enough a = a.first.breaks (enough p a.n a.first.there)
none soc w claim nodes (Less p c s) enough a = a.first.breaks (enough p a.n a.first.there)

pub no_fault : AcceptedTreesHaveNoFault
no_fault soc limits t f accepted a =
    none soc limits.wires t.claimed (all_cases soc limits a.tree) f (rw (← (one_tree accepted.tree a.tree (accepted.nodes ∙ sym a.nodes))) accepted.enough) a.has

-- what is checked of the one tree of some nodes
pub checked_accepted : (soc : SocValue) (limits : LimitsValue) (t : TreeValue) (r : Result (Unit {0}) TreeFault) → IsOneTree t.nodes →
    ((tree : WidthTree) → nodes_of tree ≡ t.nodes → IsChecked soc limits.wires t.claimed (all_cases soc limits tree) r) → OnOk r (IsAcceptedTree soc limits t)
checked_accepted soc limits t (Ok u) one h = record { tree = one.0; nodes = one.1; enough = h one.0 one.1 }
checked_accepted soc limits t (Err f) one h = tt
