-- The cases of a tree's nodes computed on a small chip, against values that were found by hand.
use Rattle.std.proofs.Common.{◌≡◌, ℕ, false, List, [], ◌∷◌, map, refl}
use Rattle.soc_model.specs.Chips.{ModuleValue, SocValue}
use Rattle.plan_model.specs.Proofs.{WeightsValue, OfSum, OfWide, OfPlace, CaseTree, Leaf, Branches}
use Rattle.leaf_bounds.specs.Cases.{interval, root_case}
use Rattle.bus_proofs.specs.Cases.{NodeCase, cases_of}

module_x : ℕ → ModuleValue
module_x n = record { number = n; name = []; level = 1; inputs = 2; outputs = 3; bidirs = 0; setup = 0; chains = []; tests = [] }

soc_xx : SocValue
soc_xx = record { name = []; power_flag = false; xy_flag = false; keys = 1 ∷ 2 ∷ []; modules = module_x 1 ∷ module_x 2 ∷ [] }

sum_of : (wire : ℕ) → List ℕ → WeightsValue
sum_of wire ranks = record { wire = wire; ranks = ranks; lists = [] }

node_tree : CaseTree
node_tree =
    Branches (OfWide 0 1)
    (Branches (OfWide 1 0) (Leaf (OfSum (sum_of 1 []))) (Branches (OfPlace 1 0 (1 ∷ [])) (Leaf (OfSum (sum_of 1 (1 ∷ [])))) (Leaf (OfSum (sum_of 1 (1 ∷ []))))))
    (Leaf (OfSum (sum_of 0 (1 ∷ []))))

-- the widths of each node's ranks
widths_of_nodes : map (λ (n : NodeCase). n.within.intervals) (cases_of soc_xx 2 root_case node_tree) ≡
    [] ∷ (interval 0 1 ∷ []) ∷ (interval 0 1 ∷ interval 0 0 ∷ []) ∷ (interval 1 1 ∷ interval 1 1 ∷ []) ∷ (interval 1 1 ∷ interval 1 1 ∷ []) ∷ (interval 1 1 ∷ interval 1 1 ∷ []) ∷ (interval 2 2 ∷ []) ∷ []
unfolding node_tree sum_of soc_xx module_x cases_of
widths_of_nodes = refl
