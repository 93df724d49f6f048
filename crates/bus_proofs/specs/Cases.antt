-- Cases at the nodes of a proof: what a split hands on to its branches, and the rules of splits.
use Rattle.std.specs.Prelude.{◌≡◌, ℕ, ◌+◌, ◌-◌, ◌<◌, ◌≤◌, true, Option, None, Some, List, [], ◌∷◌, ◌++◌, nat_eq, if◌then◌else◌}
use Rattle.std.specs.List.{All}
use Rattle.soc_model.specs.Chips.{SocValue}
use Rattle.soc_model.specs.Lookups.{module_place}
use Rattle.soc_model.specs.SoundChips.{AllDiffer}
use Rattle.plan_model.specs.Certificates.{has_tam_at, HasTamTest}
use Rattle.plan_model.specs.Proofs.{SplitValue, OfWide, OfPlace, NodeValue, OfSplit, OfLeaf, CaseTree, Leaf, Branches}
use Rattle.leaf_bounds.specs.Cases.{Case, extended, high_at, known_ranks, low_at, narrow, placed_off, placed_on, tightened, wide}

-- the case that has the rank: a further one comes first where it is the first of the rest
abbrev pub with_rank : (w : ℕ) → Case → (rank : ℕ) → Case
with_rank w c rank = if nat_eq rank (known_ranks c) then tightened w (extended w c) else c

-- the case by the place of a module, where the chip has it
abbrev pub case_by : Case → (ℕ → Case) → Option ℕ → Case
case_by c f None = c
case_by c f (Some place) = f place

-- ---- the branches of a split

-- what a split hands on to its first branch, and to its second
abbrev pub first_case : SocValue → (w : ℕ) → Case → SplitValue → Case
first_case soc w c (OfWide rank width) = narrow (with_rank w c rank) rank width
first_case soc w c (OfPlace m rank twins) = case_by c (placed_on c rank) (module_place soc m)

abbrev pub second_case : SocValue → (w : ℕ) → Case → SplitValue → Case
second_case soc w c (OfWide rank width) = wide (with_rank w c rank) rank width
second_case soc w c (OfPlace m rank twins) = case_by c (placed_off c (rank ∷ twins)) (module_place soc m)

-- a node in its case
pub record NodeCase : Type 0 where
  pub node : NodeValue
  pub within : Case

abbrev pub in_case : Case → NodeValue → NodeCase
in_case c node = record { node = node; within = c }

-- the nodes of a tree, each with its case, which it tightens first
unfoldable pub cases_of : SocValue → (w : ℕ) → Case → CaseTree → List NodeCase
cases_of soc w c (Leaf leaf) = in_case (tightened w c) (OfLeaf leaf) ∷ []
cases_of soc w c (Branches split first second) =
    in_case (tightened w c) (OfSplit split)
    ∷ (cases_of soc w (first_case soc w (tightened w c) split) first ++ cases_of soc w (second_case soc w (tightened w c) split) second)

-- ---- the rules of splits

-- a width within the interval of a known rank, or of the next one, but not at its end
pub record IsWide (w : ℕ) (c : Case) (rank width : ℕ) : Type 0 where
  pub known : rank ≤ known_ranks c
  pub few : rank < 256
  pub some : low_at (with_rank w c rank) rank ≤ width
  pub below : width < high_at (with_rank w c rank) rank

-- two buses of one fixed width, on either of which each module may be that may be on the other
pub record AreTwins (soc : SocValue) (c : Case) (rank twin : ℕ) : Type 0 where
  pub fixed : low_at c rank ≡ high_at c rank
  pub low : low_at c twin ≡ low_at c rank
  pub high : high_at c twin ≡ high_at c rank
  pub alike : (place : ℕ) → has_tam_at soc place ≡ true → c.may place twin ≡ c.may place rank

-- a module with a test over the wires, and different known ranks, of which each further one is a twin of the first
pub record IsPlace (soc : SocValue) (c : Case) (m rank : ℕ) (twins : List ℕ) : Type 0 where
  pub tam : HasTamTest soc m
  pub known : All (λ r. r < known_ranks c) (rank ∷ twins)
  pub differ : AllDiffer (rank ∷ twins)
  pub alike : All (AreTwins soc c rank) twins

-- the rule of a split in its case
abbrev pub KeepsSplit : SocValue → (w : ℕ) → Case → SplitValue → Type 0
KeepsSplit soc w c (OfWide rank width) = IsWide w c rank width
KeepsSplit soc w c (OfPlace m rank twins) = IsPlace soc c m rank twins
