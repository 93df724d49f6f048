-- What is kept of each command: the files fix the one answer to them, and what is written is right.
use Rattle.std.proofs.Common.{◌≡◌, ℕ, List, Option, true, subst, ap, ◌∙◌}
use Rattle.std.specs.FinMap.{get}
use Rattle.outside.specs.Held.{Files, Appended}
use Rattle.soc_model.specs.Chips.{SocValue}
use Rattle.soc_model.specs.SoundChips.{IsSoundChip}
use Rattle.plan_model.specs.Plans.{LimitsValue, PlanValue, planned}
use Rattle.soc_reader.specs.ChipForm.{SaysChip}
use Rattle.soc_reader.proofs.ChipsSaid.{sound_chip}
use Rattle.plan_text.specs.Answers.{SaysPlan}
use Rattle.vector_lines.specs.Made.{made_content}
use Rattle.tester_vectors.specs.VectorText.{vector_text, too_many}
use Rattle.test_data.specs.DataWords.{EntryValue, SaysData}
use Rattle.test_data.specs.Agreement.{Suits}
use Rattle.test_data.proofs.AgreeingContents.{agreeing}
use Rattle.test_data.proofs.SuitedData.{suits}
use Rattle.controls.proofs.Saying.{run_the_plan}
use Rattle.cycle_texts.proofs.VectorRows.{vectors_shown}
use Rattle.commands.specs.declared.FileKind.TheVariants.{Soc, Limits, Plan, Data}
use Rattle.commands.specs.declared.Status.TheVariants.{Done}
use Rattle.commands.specs.Answers.{Answers}
use Rattle.commands.specs.Kept.{IsKept}
use Rattle.commands.specs.Procedures.{Unless, done_with, with_accepted}
use Rattle.commands.specs.Readings.{IsRead, RefusesChip, SaysLimits, SaysAccepted, RefusesPlan}
use Rattle.commands.specs.Settled.{FilesSayOneThing}
use Rattle.commands.specs.Texts.{run_refusal}
use Rattle.commands.specs.Trusted.{TrustLaws}
use Rattle.commands.proofs.Completeness.{settled_chip, settled_all}
use Rattle.commands.proofs.Settled.{done_once}
use Rattle.commands.proofs.Trusted.{accepted, both_done, not_refused, read_as_well, stage_done}
use Rattle.tester_commands.specs.declared.ending.RunForm.{RunForm}
use Rattle.tester_commands.specs.declared.ending.RunForm.TheVariants as form
use Rattle.tester_commands.specs.DataContents.{data_content, data_marks}
use Rattle.tester_commands.specs.DataReadings.{SaysSuiting, RefusesData}
use Rattle.tester_commands.specs.MadeText.{made_text, long_data_refusal}
use Rattle.tester_commands.specs.Procedures.{vectors_procedure, simulate_procedure, data_procedure, run_procedure, long_run_refusal, with_run, with_data_run}
use Rattle.tester_commands.specs.Promises.{AreVectors, IsSimulated, IsMadeData, IsRetargeted, IsProgrammed}
use Rattle.tester_commands.specs.RunCounts.{captures_in, right_loads_in, wired_patterns, counts_line, simulated_text}
use Rattle.tester_commands.specs.RunTexts.{run_text}
use Rattle.tester_commands.proofs.CaptureCounts.{captures_are_patterns}
use Rattle.tester_commands.proofs.DataFiles.{data_one, data_refused_one}
use Rattle.tester_commands.proofs.DataOfContents.{data_of}
use Rattle.tester_commands.proofs.RetargetTexts.{runs_with_data}
use Rattle.tester_commands.proofs.RightLoads.{right_loads_are_patterns}

-- ---- vectors

pub vectors_kept : FilesSayOneThing → TrustLaws → (soc limits plan : List ℕ) (seed : ℕ) → IsKept true (vectors_procedure soc limits plan seed) (λ files. AreVectors files soc limits plan seed)
vectors_kept files_say laws soc limits plan seed = record {
  named = tt;
  settled = settled_all files_say true soc limits plan (λ chip bounds value. Unless (run_refusal (too_many value)) (done_with (vector_text chip value (made_content chip seed)))) (λ chip bounds value. done_once true (vector_text chip value (made_content chip seed)));
  trusted = λ files text old new answer put.
      accepted laws files soc limits plan (λ chip value t. t ≡ vector_text chip value (made_content chip seed)) (λ chip bounds value. Unless (run_refusal (too_many value)) (done_with (vector_text chip value (made_content chip seed))))
      (λ chip bounds value text a. (not_refused files (run_refusal (too_many value)) (done_with (vector_text chip value (made_content chip seed))) text a).1) text old new answer put;
}

-- ---- simulate

-- both counts are one number
both_counts : (cycles captures loaded n : ℕ) → captures ≡ n → loaded ≡ n → counts_line cycles captures loaded ≡ counts_line cycles n n
both_counts cycles captures loaded n is is' = ap (λ m. counts_line cycles m loaded) is ∙ ap (λ m. counts_line cycles n m) is'

simulated : TrustLaws → (soc limits plan : List ℕ) (seed : ℕ) (files : Files) (text : List ℕ) (old new : Option (List ℕ)) → Answers (simulate_procedure soc limits plan seed) files Done text → Appended old text new → IsSimulated files soc limits plan old new
simulated laws soc limits plan seed files text old new answer put =
    let b = both_done files soc limits text (λ chip bounds. with_accepted chip bounds plan (λ value. Unless (run_refusal (too_many value)) (done_with (simulated_text chip value seed)))) answer in
    let c = stage_done Plan (SaysAccepted b.0 b.1) (RefusesPlan b.0 b.1) (λ value. Answers (Unless (run_refusal (too_many value)) (done_with (simulated_text b.0 value seed))) files) (get files plan) text b.4 in
    let done = not_refused files (run_refusal (too_many c.0)) (done_with (simulated_text b.0 c.0 seed)) text c.2 in
    let captured : captures_in (planned b.0 c.0) (c.0).cycles ≡ wired_patterns b.0 = captures_are_patterns b.0 b.1 c.0 c.1.says.1.0 in
    let line : simulated_text b.0 c.0 seed ≡ counts_line (c.0).cycles (wired_patterns b.0) (wired_patterns b.0) =
    both_counts (c.0).cycles (captures_in (planned b.0 c.0) (c.0).cycles) (right_loads_in (made_content b.0 seed) (planned b.0 c.0) (c.0).cycles) (wired_patterns b.0) captured (right_loads_are_patterns b.0 b.1 c.0 c.1.says.1.0 (made_content b.0 seed)) in
    record {
      chip = b.0;
      bounds = b.1;
      value = c.0;
      chip_is = b.2;
      limits_are = b.3;
      plan_is = read_as_well Plan (SaysAccepted b.0 b.1) SaysPlan (get files plan) c.0 (λ bytes says. says.0) c.1;
      right = λ content. laws.right b.0 b.1 c.0 content c.1.says.1.0;
      bound = laws.bound b.0 b.1 (c.0).bound b.3.says.sound.some_wire c.1.says.1.1;
      captures = captured;
      loaded = λ content. right_loads_are_patterns b.0 b.1 c.0 c.1.says.1.0 content;
      written = subst (λ (t : List ℕ). Appended old t new) line (subst (λ (t : List ℕ). Appended old t new) done.1 put);
    }

pub simulate_kept : FilesSayOneThing → TrustLaws → (soc limits plan : List ℕ) (seed : ℕ) → IsKept true (simulate_procedure soc limits plan seed) (λ files. IsSimulated files soc limits plan)
simulate_kept files_say laws soc limits plan seed = record {
  named = tt;
  settled = settled_all files_say true soc limits plan (λ chip bounds value. Unless (run_refusal (too_many value)) (done_with (simulated_text chip value seed))) (λ chip bounds value. done_once true (simulated_text chip value seed));
  trusted = simulated laws soc limits plan seed;
}

-- ---- data

made : (soc : List ℕ) (seed : ℕ) (files : Files) (text : List ℕ) (old new : Option (List ℕ)) → Answers (data_procedure soc seed) files Done text → Appended old text new → IsMadeData files soc seed old new
made soc seed files text old new answer put =
    let b = stage_done Soc SaysChip RefusesChip (λ chip. Answers (Unless (long_data_refusal (made_text chip seed)) (done_with (made_text chip seed))) files) (get files soc) text answer in
    let done = not_refused files (long_data_refusal (made_text b.0 seed)) (done_with (made_text b.0 seed)) text b.2 in
    record {
      chip = b.0;
      chip_is = b.1;
      is_data = data_of b.0 (made_content b.0 seed) (sound_chip b.1.bytes b.0 b.1.says);
      written = subst (λ (t : List ℕ). Appended old t new) done.1 put;
    }

pub data_kept : FilesSayOneThing → (soc : List ℕ) (seed : ℕ) → IsKept true (data_procedure soc seed) (λ files. IsMadeData files soc seed)
data_kept files_say soc seed = record {
  named = tt;
  settled = settled_chip files_say true (λ chip. Unless (long_data_refusal (made_text chip seed)) (done_with (made_text chip seed))) (λ chip. done_once true (made_text chip seed)) soc;
  trusted = made soc seed;
}

-- ---- a plan with test data

programmed : TrustLaws → (form : RunForm) (soc limits plan name : List ℕ) (files : Files) (text : List ℕ) (old new : Option (List ℕ)) → Answers (run_procedure form soc limits plan name) files Done text → Appended old text new → IsProgrammed form files soc limits plan name old new
programmed laws form soc limits plan name files text old new answer put =
    let b = both_done files soc limits text (λ chip bounds. with_accepted chip bounds plan (with_data_run form name chip bounds)) answer in
    let c = stage_done Plan (SaysAccepted b.0 b.1) (RefusesPlan b.0 b.1) (λ value. Answers (with_data_run form name b.0 b.1 value) files) (get files plan) text b.4 in
    let d = stage_done Data (SaysSuiting b.0) (RefusesData b.0) (λ es. Answers (with_run form b.0 c.0 es) files) (get files name) text c.2 in
    let done = not_refused files (long_run_refusal c.0) (done_with (run_text form b.0 c.0 d.0)) text d.2 in
    go b.0 b.1 c.0 d.0 b.2 b.3 c.1 d.1 done.1
  where
    go : (chip : SocValue) (bounds : LimitsValue) (value : PlanValue) (es : List EntryValue) → IsRead Soc SaysChip (get files soc) chip → IsRead Limits (SaysLimits chip) (get files limits) bounds → IsRead Plan (SaysAccepted chip bounds) (get files plan) value → IsRead Data (SaysSuiting chip) (get files name) es →
        text ≡ run_text form chip value es → IsProgrammed form files soc limits plan name old new
    go chip bounds value es a b c d is =
        let sound : IsSoundChip chip = sound_chip a.bytes chip a.says in
        let suited : Suits chip es = suits chip es sound d.says.1 in
        record {
          chip = chip;
          bounds = bounds;
          value = value;
          es = es;
          chip_is = a;
          limits_are = b;
          plan_is = read_as_well Plan (SaysAccepted chip bounds) SaysPlan (get files plan) value (λ bytes says. says.0) c;
          data_is = read_as_well Data (SaysSuiting chip) SaysData (get files name) es (λ bytes says. says.0) d;
          suits = suited;
          some = agreeing chip es sound suited;
          right = λ content. laws.right chip bounds value content c.says.1.0;
          bound = laws.bound chip bounds value.bound b.says.sound.some_wire c.says.1.1;
          runs = runs_with_data chip bounds value es sound c.says.1.0 suited;
          rows = vectors_shown chip value (data_content chip es) (data_marks chip es);
          controlled = run_the_plan chip bounds value sound c.says.1.0;
          written = subst (λ t. Appended old t new) is put;
        }

-- in each form
pub program_kept : FilesSayOneThing → TrustLaws → (form : RunForm) (soc limits plan name : List ℕ) → IsKept true (run_procedure form soc limits plan name) (λ files. IsProgrammed form files soc limits plan name)
program_kept files_say laws form soc limits plan name = record {
  named = tt;
  settled = settled_all files_say true soc limits plan (with_data_run form name) (λ chip bounds value. (data_one chip, data_refused_one chip, λ es. done_once true (run_text form chip value es)));
  trusted = programmed laws form soc limits plan name;
}

retargeted : {files : Files} {soc limits plan name : List ℕ} {old new : Option (List ℕ)} → IsProgrammed form.Vectors files soc limits plan name old new → IsRetargeted files soc limits plan name old new
retargeted p = record {
  chip = p.chip;
  bounds = p.bounds;
  value = p.value;
  es = p.es;
  chip_is = p.chip_is;
  limits_are = p.limits_are;
  plan_is = p.plan_is;
  data_is = p.data_is;
  suits = p.suits;
  some = p.some;
  right = p.right;
  bound = p.bound;
  runs = p.runs;
  written = p.written;
}

-- of the vectors alone less is said
pub retarget_kept : FilesSayOneThing → TrustLaws → (soc limits plan name : List ℕ) → IsKept true (run_procedure form.Vectors soc limits plan name) (λ files. IsRetargeted files soc limits plan name)
retarget_kept files_say laws soc limits plan name =
    let kept = program_kept files_say laws form.Vectors soc limits plan name in
    record {
      named = kept.named;
      settled = kept.settled;
      trusted = λ files text old new answer put. retargeted (kept.trusted files text old new answer put);
    }
