-- How the check goes over the nodes of a proof: the splits whose second branch is to come, or is under way.
use Rattle.std.specs.Prelude.{◌≡◌, ◌⊎◌, ℕ, zero, suc, ◌+◌, ◌^◌, ◌<◌, ◌≤◌, max, false, MatchBool, Some, Result, Ok, Err, List, [], ◌∷◌, ◌++◌, length, slice_get, slice_index, slice_index_or}
use Rattle.std.specs.List.{All}
use Rattle.soc_model.specs.Chips.{SocValue}
use Rattle.soc_model.specs.Lookups.{module_place}
use Rattle.soc_model.specs.SoundChips.{AllDiffer}
use Rattle.plan_model.specs.Certificates.{HasTamTest}
use Rattle.bus_proofs.specs.declared.ProofFault.{ProofFault}
use Rattle.bus_proofs.specs.declared.ProofFault.TheVariants.{BadList, BadNode, Less}
use Rattle.leaf_bounds.specs.declared.basis.Basis.{Basis}
use Rattle.leaf_bounds.specs.declared.case.CaseRoom.{CaseRoom}
use Rattle.leaf_bounds.specs.declared.leaf.LeafRoom.{LeafRoom}
use Rattle.bus_proofs.specs.declared.walk.OpenSplit.{OpenSplit}
use Rattle.plan_model.specs.Proofs.{LeafValue, OfSum, OfPack, SplitValue, OfWide, OfPlace, NodeValue, OfSplit, OfLeaf, CaseTree}
use Rattle.leaf_bounds.specs.Cases.{Case, known_ranks, wide, placed_off}
use Rattle.bus_proofs.specs.Cases.{with_rank, case_by, first_case, second_case, NodeCase, cases_of, IsWide, IsPlace, KeepsSplit}
use Rattle.bus_proofs.specs.Bounds.{AreEnough, HasFault, IsEnough, KeepsNode, work_of_node}
use Rattle.leaf_bounds.specs.CaseRooms.{HasCase, IsCaseOf, IsFurther, IsMark}
use Rattle.leaf_bounds.specs.Bases.{chip_of, limits_of, lists_of, claim_of, proof_of, IsWiredAt}
use Rattle.leaf_bounds.specs.LeafAnswers.{HasLeafSpace, IsCaseFor, IsShort}

-- ---- the room of a case

-- the room has a case, is one of this chip and its wires, and has space for each rank that a proof may speak of
pub record IsRoomFor (g : Basis) (room : CaseRoom) : Type 0 where
  pub has : HasCase room
  pub of : IsCaseFor g room
  pub most : room.widths.most ≡ 256

-- the node at a place of the proof
abbrev pub IsNodeAt : Basis → (place : ℕ) → NodeValue → Type 0
IsNodeAt g place n = slice_get (proof_of g).nodes place ≡ Some n

-- how many lists a leaf names, or modules, where these are more
abbrev pub named_in : LeafValue → ℕ
named_in (OfSum weights) = length weights.lists
named_in (OfPack pricing) = max (length pricing.lists) (length pricing.prices)

-- the room has space for the lists and the modules of a leaf, and these are no more than may be
pub record FitsLeaf (g : Basis) (room : LeafRoom) (leaf : LeafValue) : Type 0 where
  pub few : named_in leaf ≤ 2 ^ 24
  pub places : named_in leaf ≤ length room.pack.bus.places.items
  pub space : HasLeafSpace g room

-- it has for each leaf of the proof
abbrev pub FitsLeaves : Basis → LeafRoom → Type 0
FitsLeaves g room = (place : ℕ) (leaf : LeafValue) → IsNodeAt g place (OfLeaf leaf) → FitsLeaf g room leaf

-- ---- the rules of splits

-- the width keeps its rule, and the room has the case with its rank now
pub record IsWideNow (room : CaseRoom) (w : ℕ) (c : Case) (rank width : ℕ) : Type 0 where
  pub rule : IsWide w c rank width
  pub case : IsCaseOf room (with_rank w c rank)
  pub within : rank < length room.widths.intervals.items

-- ranks that are known, no two of them the same
pub record AreRanks (known : ℕ) (ranks : List ℕ) : Type 0 where
  pub known_all : All (λ r. r < known) ranks
  pub differ : AllDiffer ranks

-- the twin at a place is a known rank, and another one than the first and than each twin before it
pub record IsNewTwin (known rank : ℕ) (twins : List ℕ) (at : ℕ) : Type 0 where
  pub below : slice_index twins at < known
  pub other : slice_index twins at ≡ rank → ⊥
  pub new : (q : ℕ) → q < at → slice_index twins q ≡ slice_index twins at → ⊥

-- the rule of a Place is kept, and its module stands at this place
pub record IsPlaceAt (soc : SocValue) (c : Case) (m rank : ℕ) (twins : List ℕ) (place : ℕ) : Type 0 where
  pub rule : IsPlace soc c m rank twins
  pub wired : IsWiredAt soc m place

-- ---- open splits

abbrev pub no_split : OpenSplit
no_split = record { mark = record { changes = 0; takings = 0; places = 0 }; node = 0; second = false }

abbrev pub split_at : List OpenSplit → ℕ → OpenSplit
split_at stack n = slice_index_or stack n no_split

-- the case that both branches of a split are made of
abbrev pub split_case : (w : ℕ) → Case → SplitValue → Case
split_case w c (OfWide rank width) = with_rank w c rank
split_case w c (OfPlace m rank twins) = c

-- its second branch
abbrev pub branch_later : SocValue → Case → SplitValue → Case
branch_later soc c (OfWide rank width) = wide c rank width
branch_later soc c (OfPlace m rank twins) = case_by c (placed_off c (rank ∷ twins)) (module_place soc m)

-- what the second branch asks of that case
abbrev pub IsForked : SocValue → Case → SplitValue → Type 0
IsForked soc c (OfWide rank width) = (rank < known_ranks c) × (width < 256)
IsForked soc c (OfPlace m rank twins) = HasTamTest soc m × All (λ r. r < known_ranks c) (rank ∷ twins)

-- A split of the proof, of which a branch is under way: the room before its branches, what was noted there, and the case there.
pub record IsOpenSplit (g : Basis) (root now : CaseRoom) (opened : OpenSplit) (before : CaseRoom) (c : Case)
    (split : SplitValue) : Type 0 where
  pub mark : IsMark opened.mark before
  pub room : IsRoomFor g before
  pub case : IsCaseOf before c
  pub forked : IsForked (chip_of g) c split
  pub node : IsNodeAt g opened.node (OfSplit split)
  pub behind_root : IsFurther root before
  pub further : IsFurther before now

-- the second branch is to come, and then what `Rest` says
pub record IsLaterThen (g : Basis) (c : Case) (split : SplitValue) (Rest : List NodeCase → Type 0) (left : List NodeCase) : Type 0 where
  pub tree : CaseTree
  pub rest : List NodeCase
  pub left_is : left ≡ cases_of (chip_of g) (limits_of g).wires (branch_later (chip_of g) c split) tree ++ rest
  pub then : Rest rest

-- Behind an open split the nodes `left` are to come, where `Rest` says which come behind the split: behind its first branch its second
-- one and then those, behind its second branch those alone.
pub record IsWithin (g : Basis) (root : CaseRoom) (opened : OpenSplit) (Rest : CaseRoom → List NodeCase → Type 0) (room : CaseRoom)
    (left : List NodeCase) : Type 0 where
  pub before : CaseRoom
  pub c : Case
  pub split : SplitValue
  pub opened_is : IsOpenSplit g root room opened before c split
  pub behind : MatchBool opened.second (Rest before left) (IsLaterThen g c split (Rest before) left)

-- behind a tree in the case of the room, within `depth` splits, the nodes `left` are to come
unfoldable pub Awaits : Basis → (root : CaseRoom) → List OpenSplit → (depth : ℕ) → CaseRoom → List NodeCase → Type 0
Awaits g root stack zero room left = left ≡ []
Awaits g root stack (suc depth) room left = IsWithin g root (split_at stack depth) (Awaits g root stack depth) room left

-- the nodes that are left begin with those of a tree in the case of the room
pub record Begins (g : Basis) (root : CaseRoom) (stack : List OpenSplit) (depth : ℕ) (room : CaseRoom) (left : List NodeCase) : Type 0 where
  pub c : Case
  pub case : IsCaseOf room c
  pub tree : CaseTree
  pub rest : List NodeCase
  pub left_is : left ≡ cases_of (chip_of g) (limits_of g).wires c tree ++ rest
  pub awaits : Awaits g root stack depth room rest

-- they do, or none is left
abbrev pub GoesOn : Basis → (root : CaseRoom) → List OpenSplit → (depth : ℕ) → CaseRoom → List NodeCase → Type 0
GoesOn g root stack depth room left = (left ≡ []) ⊎ Begins g root stack depth room left

-- ---- a node

-- the node at the place comes, and then the nodes `left`
pub record IsHere (g : Basis) (root : CaseRoom) (stack : List OpenSplit) (depth : ℕ) (room : CaseRoom) (place : ℕ) (x : NodeCase)
    (left : List NodeCase) : Type 0 where
  pub node : IsNodeAt g place x.node
  pub further : IsFurther root room
  pub begins : Begins g root stack depth room (x ∷ left)

-- both branches of a split are left, and then what awaits behind them
pub record IsFork (g : Basis) (root : CaseRoom) (stack : List OpenSplit) (depth : ℕ) (room : CaseRoom) (c : Case) (split : SplitValue)
    (left : List NodeCase) : Type 0 where
  pub first : CaseTree
  pub second : CaseTree
  pub rest : List NodeCase
  pub left_is : left ≡ cases_of (chip_of g) (limits_of g).wires (first_case (chip_of g) (limits_of g).wires c split) first
      ++ (cases_of (chip_of g) (limits_of g).wires (second_case (chip_of g) (limits_of g).wires c split) second ++ rest)
  pub awaits : Awaits g root stack depth room rest

-- what is left behind a node
abbrev pub Follows : Basis → (root : CaseRoom) → List OpenSplit → (depth : ℕ) → CaseRoom → Case → NodeValue → List NodeCase → Type 0
Follows g root stack depth room c (OfSplit split) left = IsFork g root stack depth room c split left
Follows g root stack depth room c (OfLeaf leaf) left = Awaits g root stack depth room left

-- the room has the case of the node at the place, tightened, and then the nodes `left` come
pub record IsAt (g : Basis) (root : CaseRoom) (stack : List OpenSplit) (depth : ℕ) (room : CaseRoom) (place : ℕ) (x : NodeCase)
    (left : List NodeCase) : Type 0 where
  pub node : IsNodeAt g place x.node
  pub case : IsCaseOf room x.within
  pub further : IsFurther root room
  pub follows : Follows g root stack depth room x.within x.node left

-- the first branch of a split that keeps its rule has begun, in the room `new`
pub record IsBegun (g : Basis) (root : CaseRoom) (stack stack' : List OpenSplit) (depth : ℕ) (old new : CaseRoom) (c : Case)
    (split : SplitValue) : Type 0 where
  pub rule : KeepsSplit (chip_of g) (limits_of g).wires c split
  pub first : IsCaseOf new (first_case (chip_of g) (limits_of g).wires c split)
  pub awaits : (tree : CaseTree) (rest : List NodeCase) → Awaits g root stack depth old rest →
      Awaits g root stack' (depth + 1) new (cases_of (chip_of g) (limits_of g).wires
      (second_case (chip_of g) (limits_of g).wires c split) tree ++ rest)

-- the room `new` has the case of the second branch of a split, from the room before its branches
pub record IsSecond (g : Basis) (before new : CaseRoom) (c : Case) (split : SplitValue) : Type 0 where
  pub room : IsRoomFor g new
  pub further : IsFurther before new
  pub case : IsCaseOf new (branch_later (chip_of g) c split)

-- ---- what is answered

-- a node as it should be, and its rule, where the leaves before it have the work `done`
abbrev pub IsEnoughFor : Basis → (done : ℕ) → NodeCase → Type 0
IsEnoughFor g done n = IsEnough (chip_of g) (limits_of g) (lists_of g) (claim_of g) done n

abbrev pub KeepsRuleFor : Basis → (done : ℕ) → NodeCase → Type 0
KeepsRuleFor g done n = KeepsNode (chip_of g) (limits_of g) (lists_of g) (claim_of g) done n.within n.node

-- the node at the place is as it should be, or the fault says how it isn't
abbrev pub IsJudged : {X : Type 0} → Basis → (done place : ℕ) → NodeCase → Result X ProofFault → Type 0
IsJudged g done place n (Ok _) = IsEnoughFor g done n
IsJudged g done place n (Err (BadList p)) = ⊥
IsJudged g done place n (Err (BadNode p)) = (p ≡ place) × (KeepsRuleFor g done n → ⊥)
IsJudged g done place n (Err (Less p claimed shown)) = (p ≡ place) × (claimed ≡ claim_of g) ×
    ((leaf : LeafValue) × (n.node ≡ OfLeaf leaf) × IsShort g done n.within leaf shown)

-- the work of the node
abbrev pub node_work : Basis → NodeCase → ℕ
node_work g n = work_of_node (limits_of g).wires (claim_of g) n.within n.node

-- each of some nodes is as it should be, or the first that isn't has this fault
abbrev pub IsChecked : Basis → List NodeCase → Result (Unit {0}) ProofFault → Type 0
IsChecked g nodes (Ok _) = AreEnough (chip_of g) (limits_of g) (lists_of g) (claim_of g) nodes
IsChecked g nodes (Err fault) = HasFault (chip_of g) (limits_of g) (lists_of g) (claim_of g) nodes fault
