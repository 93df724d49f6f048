-- Where a proof has no nodes yet, one is wanted.
use Rattle.std.proofs.Common.{◌≡◌, ℕ, zero, suc, ◌≤◌, List, [], refl, subst, arith}
use Rattle.keyword_text.proofs.Trees.{Fills}
use Rattle.plan_model.specs.Proofs.{NodeValue, CaseTree, Leaf, Branches, nodes_of}

-- no nodes are no tree
fills_some : Fills nodes_of [] 0 → ⊥
fills_some fills = let r = fills [] refl in by r.0 r.1
  where
    by : (t : CaseTree) → nodes_of t ≡ [] → ⊥
    by (Leaf leaf) e = cc
    by (Branches s a b) e = cc

-- where there are no nodes, one is wanted
pub some_wanted : (nodes : List NodeValue) (n : ℕ) → nodes ≡ [] → Fills nodes_of nodes n → 1 ≤ n
some_wanted nodes zero none fills = absurd (fills_some (subst (λ ns. Fills nodes_of ns 0) none fills))
some_wanted nodes (suc n) none fills = omega arith
