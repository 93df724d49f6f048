-- Reading word by word: the nodes that were read, how many more are wanted, and what was read of the next. Only the
-- reader's own contracts speak of it.
use Rattle.std.specs.Prelude.{◌≡◌, ℕ, zero, suc, ◌+◌, ◌++◌, List, [], ◌∷◌, Bool, true, false, nat_eq, map, Option, None, Some, Result, Ok, Err}
use Rattle.outside.specs.declared.reading.Stop.{Stop}
use Rattle.outside.specs.declared.reading.Stop.TheVariants.{Refused, NoMemory}
use Rattle.keyword_text.specs.declared.tokens.Token.{Token}
use Rattle.keyword_text.specs.declared.tokens.Token.TheVariants.{Key, Number}
use Rattle.keyword_text.specs.Machines.{Machine}
use Rattle.width_tree.specs.declared.tokens.Keyword.{Keyword}
use Rattle.width_tree.specs.declared.tokens.Keyword.TheVariants as key
use Rattle.width_tree.specs.declared.parts.Draft.{Draft}
use Rattle.width_tree.specs.declared.parts.Part.{Part}
use Rattle.width_tree.specs.declared.parts.Part.TheVariants as read
use Rattle.width_tree.specs.Trees.{OfTime, OfArea, OfBus, OfApart, NodeValue, OfSplit, OfLeaf, TreeValue, node_value}

-- the claim and the nodes that were read whole, and how many nodes are still to begin
pub record DraftValue : Type 0 where
  pub claimed : ℕ
  pub nodes : List NodeValue
  pub wanted : ℕ

-- what was read of the part that comes next
pub data PartValue : Type 0 where
  wants_tree : PartValue
  wants_form : PartValue
  wants_bound : PartValue
  wants_claim : PartValue
  between : PartValue
  wants_split_module : PartValue
  wants_split_width : ℕ → PartValue
  wants_time_module : PartValue
  in_bus : List ℕ → PartValue
  wants_first : PartValue
  wants_second : ℕ → PartValue

pub record State : Type 0 where
  pub draft : DraftValue
  pub part : PartValue

abbrev pub at : DraftValue → PartValue → State
at draft part = record { draft = draft; part = part }

abbrev pub start : State
start = at (record { claimed = 0; nodes = []; wanted = 1 }) wants_tree

-- ---- more nodes

abbrev pub with_node : DraftValue → NodeValue → DraftValue
with_node d n = record d { nodes = d.nodes ++ n ∷ [] }

-- a split wants a node for each of its branches
abbrev pub with_split : DraftValue → (m width : ℕ) → DraftValue
with_split d m width = record d { nodes = d.nodes ++ OfSplit m width ∷ []; wanted = d.wanted + 2 }

-- ---- steps

abbrev pub next_if : Bool → State → Option State
next_if true s = Some s
next_if false s = None

abbrev pub step_number : DraftValue → PartValue → ℕ → Option State
step_number d wants_tree n = None
step_number d wants_form n = next_if (nat_eq n 1) (at d wants_bound)
step_number d wants_bound n = None
step_number d wants_claim n = Some (at (record d { claimed = n }) between)
step_number d between n = None
step_number d wants_split_module n = Some (at d (wants_split_width n))
step_number d (wants_split_width m) n = Some (at (with_split d m n) between)
step_number d wants_time_module n = Some (at (with_node d (OfLeaf (OfTime n))) between)
step_number d (in_bus ms) n = Some (at d (in_bus (ms ++ n ∷ [])))
step_number d wants_first n = Some (at d (wants_second n))
step_number d (wants_second a) n = Some (at (with_node d (OfLeaf (OfApart a n))) between)

-- what a keyword begins
abbrev pub begin_node : DraftValue → Keyword → Option State
begin_node d key.Tree = None
begin_node d key.Bound = None
begin_node d key.Split = Some (at d wants_split_module)
begin_node d key.Time = Some (at d wants_time_module)
begin_node d key.Area = Some (at (with_node d (OfLeaf OfArea)) between)
begin_node d key.Bus = Some (at d (in_bus []))
begin_node d key.Apart = Some (at d wants_first)

-- a node begins only where one is wanted
abbrev pub begin_wanted : ℕ → DraftValue → Keyword → Option State
begin_wanted zero d k = None
begin_wanted (suc n) d k = begin_node (record d { wanted = n }) k

abbrev pub begin : DraftValue → Keyword → Option State
begin d k = begin_wanted d.wanted d k

abbrev pub begin_tree : DraftValue → Keyword → Option State
begin_tree d key.Tree = Some (at d wants_form)
begin_tree d k = None

abbrev pub begin_bound : DraftValue → Keyword → Option State
begin_bound d key.Bound = Some (at d wants_claim)
begin_bound d k = None

abbrev pub step_key : DraftValue → PartValue → Keyword → Option State
step_key d wants_tree k = begin_tree d k
step_key d wants_form k = None
step_key d wants_bound k = begin_bound d k
step_key d wants_claim k = None
step_key d between k = begin d k
step_key d wants_split_module k = None
step_key d (wants_split_width m) k = None
step_key d wants_time_module k = None
step_key d (in_bus ms) k = begin (with_node d (OfLeaf (OfBus ms))) k
step_key d wants_first k = None
step_key d (wants_second a) k = None

abbrev pub step : State → Token Keyword → Option State
step s (Number n) = step_number s.draft s.part n
step s (Key k) = step_key s.draft s.part k

-- ---- the end of a text

abbrev pub whole_at : ℕ → DraftValue → Option TreeValue
whole_at zero d = Some (record { claimed = d.claimed; nodes = d.nodes })
whole_at (suc n) d = None

-- the tree, where the words end here
abbrev pub tree_at : DraftValue → PartValue → Option TreeValue
tree_at d between = whole_at d.wanted d
tree_at d (in_bus ms) = whole_at d.wanted (with_node d (OfLeaf (OfBus ms)))
tree_at d part = None

abbrev pub ended : State → Option TreeValue
ended s = tree_at s.draft s.part

abbrev pub tree_machine : Machine Keyword State TreeValue
tree_machine = record { start = start; step = step; end = ended }

-- ---- what the reader's values stand for

abbrev pub draft_value : Draft → DraftValue
draft_value d = record { claimed = d.claimed; nodes = map node_value d.nodes.items; wanted = d.wanted }

abbrev pub part_value : Part → PartValue
part_value read.WantsTree = wants_tree
part_value read.WantsForm = wants_form
part_value read.WantsBound = wants_bound
part_value read.WantsClaim = wants_claim
part_value read.Between = between
part_value read.WantsSplitModule = wants_split_module
part_value (read.WantsSplitWidth m) = wants_split_width m
part_value read.WantsTimeModule = wants_time_module
part_value (read.InBus ms) = in_bus ms.items
part_value read.WantsFirst = wants_first
part_value (read.WantsSecond a) = wants_second a

-- The next state is this draft and this part; or there is none.
abbrev pub Steps : Option State → Result Part Stop → Draft → Type 0
Steps next (Ok part) draft = next ≡ Some (at (draft_value draft) (part_value part))
Steps next (Err Refused) draft = next ≡ None
Steps next (Err NoMemory) draft = Unit {0}
