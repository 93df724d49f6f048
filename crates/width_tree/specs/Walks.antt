-- How the check goes over the nodes of a tree: the splits whose second branch is to come, or is under way.
use Rattle.std.specs.Prelude.{◌≡◌, ◌⊎◌, ℕ, zero, suc, ◌+◌, ◌<◌, ◌≤◌, false, MatchBool, Some, Result, Ok, Err, List, [], ◌++◌, length, slice_index_or, slice_set}
use Rattle.soc_model.specs.Chips.{SocValue}
use Rattle.width_tree.specs.declared.TreeFault.{TreeFault}
use Rattle.width_tree.specs.declared.TreeFault.TheVariants.{BadNode, Less}
use Rattle.width_tree.specs.declared.walk.OpenSplit.{OpenSplit}
use Rattle.width_tree.specs.Trees.{WidthTree, TreeValue}
use Rattle.width_tree.specs.Cases.{Case, interval, NodeCase, cases_of, KeepsNode, node_shows}
use Rattle.width_tree.specs.Bounds.{IsEnough}
use Rattle.width_tree.specs.Findings.{area_by, IsInterval}

abbrev pub no_split : OpenSplit
no_split = record { place = 0; at = 0; old = interval 0 0; area = 0; second = false }

abbrev pub split_at : List OpenSplit → ℕ → OpenSplit
split_at stack n = slice_index_or stack n no_split

-- the case before a split, from one within either of its branches where all splits below are over
abbrev pub case_before : Case → OpenSplit → Case
case_before c opened = slice_set c opened.place opened.old

-- the case of the second branch, from one within the first
abbrev pub case_later : Case → OpenSplit → Case
case_later c opened = slice_set c opened.place (interval (opened.at + 1) opened.old.high)

-- a split at a width within the interval that its module had
pub record IsOpenSplit (w : ℕ) (times : List ℕ) (c : Case) (opened : OpenSplit) : Type 0 where
  pub within : opened.place < length c
  pub old : IsInterval w opened.old
  pub some : opened.old.low ≤ opened.at
  pub below : opened.at < opened.old.high
  pub area : opened.area ≡ area_by times opened.old opened.place

-- Behind an open split the nodes `left` are to come, where `Rest` says which come behind the split: behind its first branch its second
-- one and then those, behind its second branch those alone.
abbrev pub Behind : SocValue → Case → OpenSplit → (List NodeCase → Type 0) → List NodeCase → Type 0
Behind soc c opened Rest left = MatchBool opened.second (Rest left)
    ((tree : WidthTree) × (rest : List NodeCase) × (left ≡ cases_of soc (case_later c opened) tree ++ rest) × Rest rest)

-- behind a tree in this case, within `depth` splits, the nodes `left` are to come
unfoldable pub Awaits : SocValue → (w : ℕ) → (times : List ℕ) → List OpenSplit → (depth : ℕ) → Case → List NodeCase → Type 0
Awaits soc w times stack zero c left = left ≡ []
Awaits soc w times stack (suc depth) c left =
    IsOpenSplit w times c (split_at stack depth) × Behind soc c (split_at stack depth)
    (Awaits soc w times stack depth (case_before c (split_at stack depth))) left

-- the nodes that are left begin with those of a tree in this case
pub record Begins (soc : SocValue) (w : ℕ) (times : List ℕ) (stack : List OpenSplit) (depth : ℕ) (c : Case)
    (left : List NodeCase) : Type 0 where
  pub tree : WidthTree
  pub rest : List NodeCase
  pub left_is : left ≡ cases_of soc c tree ++ rest
  pub awaits : Awaits soc w times stack depth c rest

-- they do, or none is left
abbrev pub GoesOn : SocValue → (w : ℕ) → (times : List ℕ) → List OpenSplit → (depth : ℕ) → Case → List NodeCase → Type 0
GoesOn soc w times stack depth c left = (left ≡ []) ⊎ Begins soc w times stack depth c left

-- ---- what is answered of a node

-- the node at the place is enough, or the fault says how it isn't
abbrev pub IsJudged : {X : Type 0} → SocValue → (w claim : ℕ) → (place : ℕ) → NodeCase → Result X TreeFault → Type 0
IsJudged soc w claim place n (Ok _) = IsEnough soc w claim n
IsJudged soc w claim place n (Err (BadNode p)) = (p ≡ place) × (KeepsNode soc w n.widths n.node → ⊥)
IsJudged soc w claim place n (Err (Less p claimed shown)) =
    (p ≡ place) × (claimed ≡ claim) × KeepsNode soc w n.widths n.node × (node_shows soc w n.widths n.node ≡ Some shown) × (shown < claim)

-- ---- the room

-- what there is room for
pub record RoomValue : Type 0 where
  pub modules : ℕ
  pub nodes : ℕ

-- room for the modules of the chip and at least the nodes of the tree
pub record HasRoom (soc : SocValue) (t : TreeValue) (room : RoomValue) : Type 0 where
  pub modules : room.modules ≡ length soc.modules
  pub nodes : length t.nodes ≤ room.nodes
