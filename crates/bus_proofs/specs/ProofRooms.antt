-- The room of the check.
use Rattle.std.specs.Prelude.{◌≤◌, List, length}
use Rattle.soc_model.specs.Chips.{SocValue}
use Rattle.plan_model.specs.Plans.{LimitsValue}
use Rattle.leaf_bounds.specs.declared.basis.Basis.{Basis}
use Rattle.leaf_bounds.specs.declared.case.CaseRoom.{CaseRoom}
use Rattle.leaf_bounds.specs.declared.leaf.LeafRoom.{LeafRoom}
use Rattle.bus_proofs.specs.declared.walk.OpenSplit.{OpenSplit}
use Rattle.plan_model.specs.Proofs.{ProofValue}
use Rattle.leaf_bounds.specs.Cases.{root_case}
use Rattle.plan_model.specs.Sayable.{MayBeSaid}
use Rattle.leaf_bounds.specs.Bases.{IsBasis, proof_of}
use Rattle.leaf_bounds.specs.CaseRooms.{IsCaseOf}
use Rattle.bus_proofs.specs.Walks.{IsRoomFor, FitsLeaves}

-- whose check a room is for
pub record RoomValue : Type 0 where
  pub chip : SocValue
  pub limits : LimitsValue
  pub proof : ProofValue

-- the room has the case of the root, and space for each leaf of a proof that a text may say, and for an open split at each node
pub record IsProofRoom (basis : Basis) (case : CaseRoom) (leaf : LeafRoom) (stack : List OpenSplit) : Type 0 where
  pub basis_is : IsBasis basis
  pub said : MayBeSaid (proof_of basis)
  pub room : IsRoomFor basis case
  pub root : IsCaseOf case root_case
  pub leaves : FitsLeaves basis leaf
  pub stack_fits : length (proof_of basis).nodes ≤ length stack
