-- A file with a proof: the files give one answer of it, and the bound that is printed is one.
use Rattle.std.proofs.Common.{◌≡◌, ◌∙◌, ℕ, List, Option, true, sym, subst, ap}
use Rattle.std.specs.FinMap.{get}
use Rattle.outside.specs.Held.{Files, Appended}
use Rattle.outside.specs.Words.{words_of}
use Rattle.outside.specs.Grammars.{last_line}
use Rattle.soc_model.specs.Chips.{SocValue}
use Rattle.plan_model.specs.Plans.{LimitsValue}
use Rattle.soc_reader.specs.ChipForm.{SaysChip}
use Rattle.soc_reader.proofs.ChipsSaid.{sound_chip}
use Rattle.bus_proofs.specs.declared.ProofFault.{ProofFault}
use Rattle.plan_model.specs.Proofs.{ProofValue}
use Rattle.proof_text.specs.Answers.{SaysProof, RefusesText}
use Rattle.bus_proofs.specs.Bounds.{IsAccepted, IsProofFault}
use Rattle.bus_proofs.specs.Laws.{AcceptedProofsAreBounds}
use Rattle.commands.specs.declared.FileKind.TheVariants.{Soc, Limits, Proof}
use Rattle.commands.specs.declared.Status.TheVariants.{Done}
use Rattle.commands.specs.Answers.{Answers}
use Rattle.commands.specs.Procedures.{with_both, done_with}
use Rattle.commands.specs.Readings.{IsRead, SaysLimits}
use Rattle.commands.specs.Settled.{SaysOne, RefusesOne, IsSettled}
use Rattle.commands.proofs.Judged.{JudgedLaws, judged_one, judged_refused_one}
use Rattle.commands.proofs.Settled.{done_once}
use Rattle.commands.proofs.Trusted.{both_done, read_as_well, stage_done}
use Rattle.bound_commands.specs.Laws.{ProofLaws}
use Rattle.bound_commands.specs.ProofBounds.{IsProvedBound}
use Rattle.bound_commands.specs.ProofReadings.{SaysAcceptedProof, RefusesProof}
use Rattle.bound_commands.specs.Procedures.{with_proof}
use Rattle.bound_commands.specs.ProofTexts.{bound_line, proof_line, proof_fault_line}

-- ---- one answer

-- a proof is refused for a fault
abbrev RefusedProof : SocValue → LimitsValue → ProofValue → List ℕ → Type 0
RefusedProof chip bounds value text = (fault : ProofFault) × IsProofFault chip bounds value fault × (text ≡ proof_fault_line fault)

judged_proofs : ProofLaws → (chip : SocValue) (bounds : LimitsValue) → JudgedLaws SaysProof RefusesText (IsAccepted chip bounds) (RefusedProof chip bounds)
judged_proofs laws chip bounds = record {
  one = λ bytes v w a b. laws.say_one (words_of bytes) v w a b;
  not_refused = λ bytes line v says refused. laws.not_refused (words_of bytes) (last_line bytes) line (v, says) refused;
  refused_once = λ bytes m n a b. laws.refused_once (words_of bytes) (last_line bytes) m n a b;
  one_line = λ v t t' a b. a.2 ∙ ap proof_fault_line (laws.one_fault chip bounds v a.0 b.0 a.1 b.1) ∙ sym b.2;
  not_both = λ bytes v t says right refused. laws.no_fault chip bounds v refused.0 right refused.1;
}

pub proof_one : ProofLaws → (chip : SocValue) (bounds : LimitsValue) → SaysOne (SaysAcceptedProof chip bounds)
proof_one laws chip bounds = judged_one SaysProof RefusesText (IsAccepted chip bounds) (RefusedProof chip bounds) (judged_proofs laws chip bounds)

pub proof_refused_one : ProofLaws → (chip : SocValue) (bounds : LimitsValue) → RefusesOne (SaysAcceptedProof chip bounds) (RefusesProof chip bounds)
proof_refused_one laws chip bounds = judged_refused_one SaysProof RefusesText (IsAccepted chip bounds) (RefusedProof chip bounds) proof_line (judged_proofs laws chip bounds)

pub bound_settled : ProofLaws → (proof : List ℕ) (chip : SocValue) (bounds : LimitsValue) → IsSettled true (with_proof proof chip bounds)
bound_settled laws proof chip bounds = (proof_one laws chip bounds, proof_refused_one laws chip bounds, λ value. done_once true (bound_line value))

-- ---- the bound that is printed

pub proved : AcceptedProofsAreBounds → (files : Files) (soc limits proof text : List ℕ) (old new : Option (List ℕ)) → Answers (with_both soc limits (with_proof proof)) files Done text → Appended old text new → IsProvedBound files soc limits proof old new
proved bounds_are files soc limits proof text old new answer put =
    let b = both_done files soc limits text (with_proof proof) answer in
    let c = stage_done Proof (SaysAcceptedProof b.0 b.1) (RefusesProof b.0 b.1) (λ value. Answers (done_with (bound_line value)) files) (get files proof) text b.4 in
    go b.0 b.1 c.0 b.2 b.3 c.1 c.2.1
  where
    go : (chip : SocValue) (bounds : LimitsValue) (value : ProofValue) → IsRead Soc SaysChip (get files soc) chip → IsRead Limits (SaysLimits chip) (get files limits) bounds → IsRead Proof (SaysAcceptedProof chip bounds) (get files proof) value → text ≡ bound_line value → IsProvedBound files soc limits proof old new
    go chip bounds value a b c is = record {
      chip = chip;
      bounds = bounds;
      value = value;
      chip_is = a;
      limits_are = b;
      proof_is = read_as_well Proof (SaysAcceptedProof chip bounds) SaysProof (get files proof) value (λ bytes says. says.0) c;
      accepted = c.says.1;
      bound = bounds_are chip bounds value (sound_chip a.bytes chip a.says) b.says.sound c.says.1;
      written = subst (λ t. Appended old t new) is put;
    }
