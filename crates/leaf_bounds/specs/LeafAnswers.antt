-- What is found at a leaf.
use Rattle.std.specs.Prelude.{◌≡◌, ℕ, ◌+◌, ◌≤◌, [], length}
use Rattle.std.specs.List.{All}
use Rattle.leaf_bounds.specs.declared.case.CaseRoom.{CaseRoom}
use Rattle.leaf_bounds.specs.declared.basis.Basis.{Basis}
use Rattle.leaf_bounds.specs.declared.leaf.LeafAnswer.{LeafAnswer}
use Rattle.leaf_bounds.specs.declared.leaf.LeafAnswer.TheVariants.{Broken, Holds, Shows}
use Rattle.leaf_bounds.specs.declared.leaf.LeafRoom.{LeafRoom}
use Rattle.leaf_bounds.specs.declared.pack_room.PackRoom.{PackRoom}
use Rattle.plan_model.specs.Proofs.{WeightsValue, LeafValue, weights_value}
use Rattle.leaf_bounds.specs.LeafCosts.{HasSpaceFor}
use Rattle.leaf_bounds.specs.Cases.{Case, Interval}
use Rattle.leaf_bounds.specs.PackLeaves.{CELLS_MOST, WORK_MOST}
use Rattle.leaf_bounds.specs.AnyLeaves.{KeepsLeaf, AnyLeafHolds, any_leaf_shows}
use Rattle.leaf_bounds.specs.Bases.{chip_of, limits_of, lists_of, claim_of}

-- the room of a case is one of this chip and its wires, and no bus may be wider than these
pub record IsCaseFor (g : Basis) (room : CaseRoom) : Type 0 where
  pub modules : room.modules ≡ length (chip_of g).modules
  pub wires : room.widths.wires ≡ (limits_of g).wires
  pub within : All (λ (i : Interval). i.high ≤ (limits_of g).wires) room.widths.intervals.items

-- the rule of a leaf, where the leaves before it have the work `done`, and whether it holds
abbrev pub LeafKept : Basis → (done : ℕ) → Case → LeafValue → Type 0
LeafKept g done c leaf = KeepsLeaf (chip_of g) (limits_of g) (lists_of g) (claim_of g) done c leaf

abbrev pub HoldsLeaf : Basis → Case → LeafValue → Type 0
HoldsLeaf g c leaf = AnyLeafHolds (chip_of g) (limits_of g) (lists_of g) (claim_of g) c leaf

-- it keeps its rule and doesn't hold, and shows `shown` cycles
pub record IsShort (g : Basis) (done : ℕ) (c : Case) (leaf : LeafValue) (shown : ℕ) : Type 0 where
  pub rule : LeafKept g done c leaf
  pub less : HoldsLeaf g c leaf → ⊥
  pub shown_is : shown ≡ any_leaf_shows (chip_of g) (limits_of g) (lists_of g) (claim_of g) c leaf

-- what is found says how the leaf is in its case
abbrev pub IsLeafAnswer : Basis → (done : ℕ) → Case → LeafValue → LeafAnswer → Type 0
IsLeafAnswer g done c leaf Broken = LeafKept g done c leaf → ⊥
IsLeafAnswer g done c leaf Holds = LeafKept g done c leaf × HoldsLeaf g c leaf
IsLeafAnswer g done c leaf (Shows shown) = IsShort g done c leaf shown

-- weights of nothing
abbrev pub no_weights : WeightsValue
no_weights = record { wire = 0; ranks = []; lists = [] }

-- the room of leaves of prices has a place for each number of cells and of wires, and no more work than may be was noted
pub record HasPackSpace (g : Basis) (room : PackRoom) : Type 0 where
  pub cells : length room.bus.cells.items ≡ CELLS_MOST + 1
  pub wires : length room.wires.items ≡ (limits_of g).wires + 1
  pub worth : length room.worth.items ≡ (limits_of g).wires + 1
  pub kept : length room.kept.worths.items ≡ (limits_of g).wires + 1
  pub little : room.work ≤ WORK_MOST

-- the room has space for the leaves of the proof
pub record HasLeafSpace (g : Basis) (room : LeafRoom) : Type 0 where
  pub weighed : HasSpaceFor g room.weighed
  pub nothing : weights_value room.nothing ≡ no_weights
  pub pack : HasPackSpace g room.pack
