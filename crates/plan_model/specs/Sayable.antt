-- Which proofs a text may say.
use Rattle.std.specs.Prelude.{◌≡◌, ◌≤◌, ℕ, List, length}
use Rattle.std.specs.List.{All}
use Rattle.plan_model.specs.declared.proof.TheConstants.{LISTS_MOST, WEIGHT_MOST, PRICE_MOST}
use Rattle.plan_model.specs.Proofs.{ListValue, OfTurns, OfTurnsOn, OfCrowd, OfPower, WeightsValue, PricingValue, LeafValue, OfSum, OfPack, NodeValue, OfSplit, OfLeaf, CaseTree, nodes_of, ProofValue}

-- a list of exactly one node with its branches
abbrev pub IsOneTree : List NodeValue → Type 0
IsOneTree nodes = (tree : CaseTree) × (nodes_of tree ≡ nodes)

-- a list that names tests names at least one
abbrev pub NamesTests : ListValue → Type 0
NamesTests (OfTurns tests) = 1 ≤ length tests
NamesTests (OfTurnsOn rank tests) = 1 ≤ length tests
NamesTests (OfCrowd most tests) = 1 ≤ length tests
NamesTests (OfPower near) = Unit {0}

abbrev pub IsWeight : ℕ → Type 0
IsWeight n = n ≤ WEIGHT_MOST

abbrev pub IsUse : ℕ × ℕ → Type 0
IsUse o = IsWeight o.1

-- no weight is greater than a text may give
pub record AreWeights (w : WeightsValue) : Type 0 where
  pub wire : IsWeight w.wire
  pub ranks : All IsWeight w.ranks
  pub lists : All IsUse w.lists

abbrev pub IsPrice : ℕ × ℕ → Type 0
IsPrice p = p.1 ≤ PRICE_MOST

-- nor is a price, and a cell has a cycle
pub record ArePrices (p : PricingValue) : Type 0 where
  pub grain : 1 ≤ p.grain
  pub prices : All IsPrice p.prices
  pub lists : All IsUse p.lists

abbrev pub LeafHasWeights : LeafValue → Type 0
LeafHasWeights (OfSum w) = AreWeights w
LeafHasWeights (OfPack p) = ArePrices p

abbrev pub HasWeights : NodeValue → Type 0
HasWeights (OfSplit split) = Unit {0}
HasWeights (OfLeaf leaf) = LeafHasWeights leaf

-- a proof that a text may say: no more lists than there may be, one tree, and no weight or price that is too great
pub record MayBeSaid (p : ProofValue) : Type 0 where
  pub few : length p.lists ≤ LISTS_MOST
  pub lists : All NamesTests p.lists
  pub one : IsOneTree p.nodes
  pub weights : All HasWeights p.nodes
