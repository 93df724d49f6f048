-- What is kept of each command by itself.
use Rattle.std.proofs.Common.{ℕ, List, true}
use Rattle.picture.specs.PictureText.{picture_text}
use Rattle.commands.specs.Procedures.{done_with}
use Rattle.commands.specs.Settled.{FilesSayOneThing}
use Rattle.commands.specs.Trusted.{TrustLaws}
use Rattle.commands.specs.Kept.{IsKept}
use Rattle.commands.proofs.Completeness.{settled_all, settled_both}
use Rattle.commands.proofs.Settled.{done_once}
use Rattle.bound_commands.specs.Laws.{BoundLaws}
use Rattle.bound_commands.specs.Pictures.{IsPictured, ShowsClaim, ShowsPlan, claim_picture}
use Rattle.bound_commands.specs.Procedures.{with_tree, with_proof, with_claim, tree_procedure, bound_procedure, picture_procedure, picture_with_proof_procedure}
use Rattle.bound_commands.specs.ProofBounds.{IsProvedBound}
use Rattle.bound_commands.specs.TreeBounds.{IsShownBound}
use Rattle.bound_commands.proofs.Drawings.{claim_shown, pictured}
use Rattle.bound_commands.proofs.ProofFiles.{bound_settled, proof_one, proof_refused_one, proved}
use Rattle.bound_commands.proofs.TreeFiles.{shown, tree_settled}

pub tree_kept : FilesSayOneThing → (soc limits tree : List ℕ) → IsKept true (tree_procedure soc limits tree) (λ files. IsShownBound files soc limits tree)
tree_kept one soc limits tree = record {
  named = tt;
  settled = settled_both one true soc limits (with_tree tree) (tree_settled tree);
  trusted = λ files text old new answer put. shown files soc limits tree text old new answer put;
}

pub bound_kept : FilesSayOneThing → BoundLaws → (soc limits proof : List ℕ) → IsKept true (bound_procedure soc limits proof) (λ files. IsProvedBound files soc limits proof)
bound_kept one laws soc limits proof = record {
  named = tt;
  settled = settled_both one true soc limits (with_proof proof) (bound_settled laws.proofs proof);
  trusted = λ files text old new answer put. proved laws.proofs.are_bounds files soc limits proof text old new answer put;
}

pub picture_kept : FilesSayOneThing → TrustLaws → BoundLaws → (soc limits plan : List ℕ) → IsKept true (picture_procedure soc limits plan) (λ files. IsPictured files soc limits plan ShowsPlan)
picture_kept one trust laws soc limits plan = record {
  named = tt;
  settled = settled_all one true soc limits plan (λ chip bounds value. done_with (picture_text chip bounds value)) (λ chip bounds value. done_once true (picture_text chip bounds value));
  trusted = λ files text old new answer put.
      pictured trust laws.pictures files soc limits plan ShowsPlan (λ chip bounds value. done_with (picture_text chip bounds value)) (λ chip bounds value text sound sound' shown. shown.1) text old new answer put;
}

pub picture_with_proof_kept : FilesSayOneThing → TrustLaws → BoundLaws → (soc limits plan proof : List ℕ) → IsKept true (picture_with_proof_procedure soc limits plan proof) (λ files. IsPictured files soc limits plan (ShowsClaim files proof))
picture_with_proof_kept one trust laws soc limits plan proof = record {
  named = tt;
  settled = settled_all one true soc limits plan (with_claim proof)
      (λ chip bounds value. (proof_one laws.proofs chip bounds, proof_refused_one laws.proofs chip bounds, λ claimed. done_once true (claim_picture chip bounds value claimed)));
  trusted = λ files text old new answer put. pictured trust laws.pictures files soc limits plan (ShowsClaim files proof) (with_claim proof) (claim_shown laws.proofs.are_bounds files proof) text old new answer put;
}
