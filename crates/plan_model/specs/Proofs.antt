-- Proofs of bounds by cases on buses. Modules and tests go by their numbers, buses by their ranks: rank 0 is the widest.
use Rattle.std.specs.Prelude.{ℕ, List, [], ◌∷◌, ◌++◌, map}
use Rattle.soc_model.specs.declared.TestId.{TestId}
use Rattle.plan_model.specs.declared.proof.TestList.{TestList}
use Rattle.plan_model.specs.declared.proof.TestList.TheVariants.{Turns, TurnsOn, Crowd, Power}
use Rattle.plan_model.specs.declared.proof.Weights.{Weights}
use Rattle.plan_model.specs.declared.proof.Pricing.{Pricing}
use Rattle.plan_model.specs.declared.proof.Node.{Node}
use Rattle.plan_model.specs.declared.proof.Node.TheVariants.{Wide, Place, Sum, Pack}
use Rattle.plan_model.specs.declared.proof.Proof.{Proof}

-- something of which tests can use only a limited amount at one cycle
pub data ListValue : Type 0 where
  -- of these tests no two are ever active together
  OfTurns : (tests : List TestId) → ListValue
  -- nor is one of them beside a test over the bus of that rank that excludes each of them
  OfTurnsOn : (rank : ℕ) (tests : List TestId) → ListValue
  -- at most `most` of these tests are active together
  OfCrowd : (most : ℕ) (tests : List TestId) → ListValue
  -- the power; a test that is this near to all of it counts for all, one that draws less than this for nothing
  OfPower : (near : ℕ) → ListValue

-- the weights of a leaf Sum: of a wire beyond the least, of each rank, and of lists by their places
pub record WeightsValue : Type 0 where
  pub wire : ℕ
  pub ranks : List ℕ
  pub lists : List (ℕ × ℕ)

-- the prices of a leaf: of modules by their numbers, counted in cells of `grain` cycles, and the weights of lists by their places
pub record PricingValue : Type 0 where
  pub grain : ℕ
  pub prices : List (ℕ × ℕ)
  pub lists : List (ℕ × ℕ)

-- a leaf: of weights, or of prices
pub data LeafValue : Type 0 where
  OfSum : (weights : WeightsValue) → LeafValue
  OfPack : (pricing : PricingValue) → LeafValue

-- two cases: by the width of the bus of a rank, or by whether a module is on the bus of a rank, or of another one like it
pub data SplitValue : Type 0 where
  OfWide : (rank width : ℕ) → SplitValue
  OfPlace : (number rank : ℕ) (twins : List ℕ) → SplitValue

pub data NodeValue : Type 0 where
  OfSplit : (split : SplitValue) → NodeValue
  OfLeaf : (leaf : LeafValue) → NodeValue

-- a tree of cases: a leaf, or two cases with a tree for each
pub data CaseTree : Type 0 where
  Leaf : (leaf : LeafValue) → CaseTree
  Branches : (split : SplitValue) (first second : CaseTree) → CaseTree

-- the nodes of a tree, each before those of its branches
abbrev pub nodes_of : CaseTree → List NodeValue
nodes_of (Leaf leaf) = OfLeaf leaf ∷ []
nodes_of (Branches split first second) = OfSplit split ∷ (nodes_of first ++ nodes_of second)

-- a claim in cycles, lists of tests, and the nodes of the tree that is to show the claim
pub record ProofValue : Type 0 where
  pub claimed : ℕ
  pub lists : List ListValue
  pub nodes : List NodeValue

-- ---- the structs without where their lists lie in memory

abbrev pub list_value : TestList → ListValue
list_value (Turns tests) = OfTurns tests.items
list_value (TurnsOn rank tests) = OfTurnsOn rank tests.items
list_value (Crowd most tests) = OfCrowd most tests.items
list_value (Power near) = OfPower near

abbrev pub weights_value : Weights → WeightsValue
weights_value w = record { wire = w.wire; ranks = w.ranks.items; lists = w.lists.items }

abbrev pub pricing_value : Pricing → PricingValue
pricing_value p = record { grain = p.grain; prices = p.prices.items; lists = p.lists.items }

abbrev pub node_value : Node → NodeValue
node_value (Wide rank width) = OfSplit (OfWide rank width)
node_value (Place number rank twins) = OfSplit (OfPlace number rank twins.items)
node_value (Sum weights) = OfLeaf (OfSum (weights_value weights))
node_value (Pack pricing) = OfLeaf (OfPack (pricing_value pricing))

abbrev pub proof_value : Proof → ProofValue
proof_value p = record { claimed = p.claimed; lists = map list_value p.lists.items; nodes = map node_value p.nodes.items }
