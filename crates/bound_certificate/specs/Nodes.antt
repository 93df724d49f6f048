-- The live tests of a chip as nodes of a graph, whose edges are the precedences of live tests.
use Rattle.std.specs.Prelude.{◌≡◌, ℕ, ◌^◌, ◌≤◌, Some, List, [], map, slice_get, slice_index_or}
use Rattle.std.specs.List.{flat_map, filter, Contains}
use Rattle.soc_model.specs.declared.Test.{Test}
use Rattle.soc_model.specs.declared.TestId.{TestId}
use Rattle.soc_model.specs.Chips.{ModuleValue, SocValue, is_live}
use Rattle.plan_model.specs.Plans.{LimitsValue}
use Rattle.plan_model.specs.Bounds.{lower_time}
use Rattle.plan_model.specs.Rules.{live_ids}
use Rattle.plan_model.specs.Certificates.{lower_of_id}
use Rattle.live_tests.specs.declared.neighbours.Neighbours.{Neighbours}
use Rattle.live_tests.specs.Neighbours.{tests_of}
use Rattle.bound_certificate.specs.declared.nodes.PrecedenceNode.{PrecedenceNode}

-- a live test with its lower time, and the places of those that precede it
pub record NodeValue : Type 0 where
  pub id : TestId
  pub time : ℕ
  pub before : List ℕ

abbrev pub node_value : PrecedenceNode → NodeValue
node_value n = record { id = n.id; time = n.time; before = n.before.items }

abbrev pub node_values : List PrecedenceNode → List NodeValue
node_values nodes = map node_value nodes

abbrev pub ids_of : List NodeValue → List TestId
ids_of nodes = map (λ (n : NodeValue). n.id) nodes

-- all but the precedences
abbrev pub fixed_parts : List NodeValue → List (TestId × ℕ)
fixed_parts nodes = map (λ (n : NodeValue). (n.id, n.time)) nodes

-- ---- without precedences

abbrev pub node_in : ℕ → ModuleValue → Test → NodeValue
node_in wires m t = record { id = record { «module» = m.number; test = t.number }; time = lower_time m t wires; before = [] }

-- the live tests of a module
abbrev pub nodes_in : ℕ → ModuleValue → List NodeValue
nodes_in wires m = map (node_in wires m) (filter is_live m.tests)

-- the live tests of a chip
abbrev pub live_nodes : SocValue → ℕ → List NodeValue
live_nodes soc wires = flat_map (nodes_in wires) soc.modules

-- ---- precedences

-- the places of the tests before the node at a place
abbrev pub before_at : List PrecedenceNode → ℕ → List ℕ
before_at nodes i = slice_index_or (map (λ (n : PrecedenceNode). n.before.items) nodes) i []

-- the list at a place
abbrev pub tests_at : List Neighbours → ℕ → List ℕ
tests_at lists i = slice_index_or (map tests_of lists) i []

-- the nodes have exactly these precedences
pub record AreLinked (before : List (TestId × TestId)) (nodes : List NodeValue) : Type 0 where
  pub listed : (j p : ℕ) (n : NodeValue) → slice_get nodes j ≡ Some n → Contains n.before p →
      (m : NodeValue) × (slice_get nodes p ≡ Some m) × Contains before (m.id, n.id)
  pub all : (i j : ℕ) (m n : NodeValue) → slice_get nodes i ≡ Some m → slice_get nodes j ≡ Some n → Contains before (m.id, n.id) →
      Contains n.before i

-- the live tests of the chip with their lower times and precedences
pub record AreNodes (soc : SocValue) (limits : LimitsValue) (nodes : List NodeValue) : Type 0 where
  pub ids : ids_of nodes ≡ live_ids soc
  pub times : (i : ℕ) (n : NodeValue) → slice_get nodes i ≡ Some n → n.time ≡ lower_of_id soc limits.wires n.id
  pub some_time : (i : ℕ) (n : NodeValue) → slice_get nodes i ≡ Some n → 1 ≤ n.time
  pub short : (i : ℕ) (n : NodeValue) → slice_get nodes i ≡ Some n → n.time ≤ 10 ^ 18
  pub linked : AreLinked limits.before nodes
