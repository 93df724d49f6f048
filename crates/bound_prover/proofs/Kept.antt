-- What is kept of `prove`: there is one answer to each file, and the proof that is written is what it should be.
use Rattle.std.proofs.Common.{◌≡◌, ℕ, List, Option, false, subst}
use Rattle.std.specs.FinMap.{get}
use Rattle.outside.specs.Held.{Files, Appended}
use Rattle.soc_model.specs.Chips.{SocValue}
use Rattle.soc_reader.specs.ChipForm.{SaysChip}
use Rattle.soc_reader.proofs.ChipsSaid.{sound_chip}
use Rattle.plan_model.specs.Plans.{LimitsValue, PlanValue}
use Rattle.plan_model.specs.Rules.{IsBound}
use Rattle.plan_text.specs.Answers.{SaysPlan}
use Rattle.bus_proofs.specs.Laws.{AcceptedProofsAreBounds}
use Rattle.commands.specs.declared.FileKind.TheVariants.{Soc, Limits, Plan}
use Rattle.commands.specs.declared.Status.TheVariants.{Done}
use Rattle.commands.specs.Readings.{IsRead, SaysLimits, SaysAccepted, RefusesPlan}
use Rattle.commands.specs.Procedures.{done_with_any, with_accepted}
use Rattle.commands.specs.Answers.{Answers}
use Rattle.commands.specs.Settled.{FilesSayOneThing}
use Rattle.commands.specs.Kept.{IsKept}
use Rattle.commands.proofs.Settled.{left_open}
use Rattle.commands.proofs.Completeness.{settled_all}
use Rattle.commands.proofs.Trusted.{stage_done, both_done, read_as_well}
use Rattle.bound_prover.specs.Proved.{IsProofText}
use Rattle.bound_prover.specs.Procedures.{prove_procedure}
use Rattle.bound_prover.specs.Promises.{IsProvedFor}

-- the text of a proof for the cycles of a plan
abbrev pub Proves : ℕ → SocValue → LimitsValue → PlanValue → List ℕ → Type 0
Proves nodes chip bounds given text = IsProofText chip bounds given.cycles nodes text

-- what is promised of a text that is written
proved : AcceptedProofsAreBounds → (files : Files) (soc limits plan : List ℕ) (nodes : ℕ) (text : List ℕ) (old new : Option (List ℕ)) →
    Answers (prove_procedure soc limits plan nodes) files Done text → Appended old text new →
    IsProvedFor soc limits plan nodes files old new
proved bounds_are files soc limits plan nodes text old new answer put =
    let b = both_done files soc limits text (λ chip bounds. with_accepted chip bounds plan (λ given. done_with_any (Proves nodes chip bounds given))) answer in
    let c = stage_done Plan (SaysAccepted b.0 b.1) (RefusesPlan b.0 b.1) (λ given. Answers (done_with_any (Proves nodes b.0 b.1 given)) files) (get files plan) text b.4 in
    go b.0 b.1 c.0 b.2 b.3 c.1 c.2.1
  where
    go : (chip : SocValue) (bounds : LimitsValue) (given : PlanValue) → IsRead Soc SaysChip (get files soc) chip →
        IsRead Limits (SaysLimits chip) (get files limits) bounds → IsRead Plan (SaysAccepted chip bounds) (get files plan) given →
        IsProofText chip bounds given.cycles nodes text → IsProvedFor soc limits plan nodes files old new
    go chip bounds given a b c proof =
        let bound : IsBound chip bounds proof.0.claimed = bounds_are chip bounds proof.0 (sound_chip a.bytes chip a.says) b.says.sound proof.1.accepted in
        record {
          chip = chip;
          bounds = bounds;
          given = given;
          value = proof.0;
          chip_is = a;
          limits_are = b;
          given_is = read_as_well Plan (SaysAccepted chip bounds) SaysPlan (get files plan) given (λ bytes says. says.0) c;
          good = c.says.1.0;
          accepted = proof.1.accepted;
          bound = bound;
          at_most = proof.1.at_most;
          shortest = λ (same : proof.0.claimed ≡ given.cycles). subst (IsBound chip bounds) same bound;
          few = proof.1.few;
          written = subst (λ t. Appended old t new) proof.2.text_is put;
          short = rw proof.2.text_is at proof.2.short;
          reads_back = rw proof.2.text_is at proof.2.said;
        }

pub prove_kept : FilesSayOneThing → AcceptedProofsAreBounds → (soc limits plan : List ℕ) (nodes : ℕ) →
    IsKept false (prove_procedure soc limits plan nodes) (λ files. IsProvedFor soc limits plan nodes files)
prove_kept one bounds_are soc limits plan nodes = record {
  named = tt;
  -- more than one text may be written
  settled = settled_all one false soc limits plan (λ chip bounds given. done_with_any (Proves nodes chip bounds given))
      (λ chip bounds given. left_open (Proves nodes chip bounds given));
  trusted = λ files text old new answer put. proved bounds_are files soc limits plan nodes text old new answer put;
}
