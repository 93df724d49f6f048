-- The laws that these commands rest on beyond those of all commands.
use Rattle.std.specs.Prelude.{[]}
use Rattle.soc_model.specs.Chips.{SocValue}
use Rattle.plan_model.specs.Plans.{LimitsValue, PlanValue, planned}
use Rattle.plan_model.specs.Rules.{IsGood}
use Rattle.live_tests.specs.Placed.{placed_tests}
use Rattle.picture.specs.Laws.{AreApart, AreDrawn, AreLaned, AreToldApart, ShowsUse, StaysWithin}
use Rattle.picture.specs.PictureText.{plan_steps, self_tests}
use Rattle.picture.specs.Rectangles.{bus_wires, laned, wired}
use Rattle.proof_text.specs.TextLaws.{SayOneProof, ProofsAreNotRefused, ProofsAreRefusedOnce}
use Rattle.bus_proofs.specs.Laws.{AcceptedProofsAreBounds, ProofsHaveOneFault, AcceptedProofsHaveNoFault}

-- A text says at most one proof, which has no more than one fault, and none where it is accepted; its claim is then a bound.
pub record ProofLaws : Type 0 where
  pub say_one : SayOneProof
  pub not_refused : ProofsAreNotRefused
  pub refused_once : ProofsAreRefusedOnce
  pub one_fault : ProofsHaveOneFault
  pub no_fault : AcceptedProofsHaveNoFault
  pub are_bounds : AcceptedProofsAreBounds

-- The picture of a good plan shows what it should.
pub record PictureLaws : Type 0 where
  pub drawn : (soc : SocValue) (limits : LimitsValue) (plan : PlanValue) → IsGood soc limits plan →
      AreDrawn (wired (bus_wires plan) (placed_tests soc plan)) (placed_tests soc plan)
  pub apart : (soc : SocValue) (limits : LimitsValue) (plan : PlanValue) → IsGood soc limits plan →
      AreApart (wired (bus_wires plan) (placed_tests soc plan))
  pub lanes : (soc : SocValue) (limits : LimitsValue) (plan : PlanValue) → IsGood soc limits plan →
      AreApart (laned [] (self_tests soc plan))
  pub within : (soc : SocValue) (limits : LimitsValue) (plan : PlanValue) → IsGood soc limits plan →
      StaysWithin limits (plan_steps soc limits plan)
  pub used : (soc : SocValue) (limits : LimitsValue) (plan : PlanValue) → IsGood soc limits plan →
      ShowsUse (wired (bus_wires plan) (placed_tests soc plan)) (planned soc plan)
  pub self_drawn : (soc : SocValue) (limits : LimitsValue) (plan : PlanValue) → IsGood soc limits plan →
      AreLaned (laned [] (self_tests soc plan)) (placed_tests soc plan)
  pub told_apart : (soc : SocValue) (limits : LimitsValue) (plan : PlanValue) → IsGood soc limits plan →
      AreToldApart (wired (bus_wires plan) (placed_tests soc plan))
  pub lanes_told_apart : (soc : SocValue) (limits : LimitsValue) (plan : PlanValue) → IsGood soc limits plan →
      AreToldApart (laned [] (self_tests soc plan))

pub record BoundLaws : Type 0 where
  pub proofs : ProofLaws
  pub pictures : PictureLaws
