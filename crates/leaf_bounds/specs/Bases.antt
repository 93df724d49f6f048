-- What the check looks up at all nodes: a chip, its limits, a proof, and tables of them.
use Rattle.std.specs.Prelude.{◌≡◌, ℕ, ◌<◌, List, length, Some}
use Rattle.soc_model.specs.Chips.{SocValue, soc_value}
use Rattle.soc_model.specs.SoundChips.{IsSoundChip}
use Rattle.plan_model.specs.Plans.{LimitsValue}
use Rattle.plan_model.specs.Views.{limits_value}
use Rattle.plan_model.specs.SoundLimits.{IsSoundLimits}
use Rattle.plan_model.specs.Certificates.{has_tam_at, HasTamTest}
use Rattle.leaf_bounds.specs.declared.basis.Basis.{Basis}
use Rattle.plan_model.specs.Proofs.{ListValue, ProofValue, proof_value}
use Rattle.leaf_bounds.specs.Takings.{bit_at}
use Rattle.leaf_bounds.specs.ListTables.{IsListTable}
use Rattle.leaf_bounds.specs.TestTables.{IsTestTable}
use Rattle.soc_model.specs.Lookups.{module_place}

abbrev pub chip_of : Basis → SocValue
chip_of g = soc_value g.soc.now

abbrev pub limits_of : Basis → LimitsValue
limits_of g = limits_value g.limits.now

abbrev pub proof_of : Basis → ProofValue
proof_of g = proof_value g.proof.now

-- the lists of the proof, and its claim
abbrev pub lists_of : Basis → List ListValue
lists_of g = (proof_of g).lists

abbrev pub claim_of : Basis → ℕ
claim_of g = g.proof.now.claimed

-- a sound chip under sound limits, and what its tables say of it
pub record IsBasis (g : Basis) : Type 0 where
  pub sound : IsSoundChip (chip_of g)
  pub limits : IsSoundLimits (chip_of g) (limits_of g)
  pub times : g.times ≡ record { chip = chip_of g; wires = (limits_of g).wires }
  pub wired_long : length g.wired.items ≡ length (chip_of g).modules
  pub wired : (place : ℕ) → place < length (chip_of g).modules → bit_at g.wired.items place ≡ has_tam_at (chip_of g) place
  pub tests : IsTestTable (chip_of g) g.limits.now g.tests
  pub lists : IsListTable (chip_of g) (limits_of g) (lists_of g) g.lists

-- every list keeps its rule
abbrev pub AllKept : Basis → Type 0
AllKept g = g.lists.kept ≡ length (lists_of g)

-- a module with a test over the wires stands at this place
pub record IsWiredAt (soc : SocValue) (m place : ℕ) : Type 0 where
  pub there : module_place soc m ≡ Some place
  pub within : place < length soc.modules
  pub tam : HasTamTest soc m
