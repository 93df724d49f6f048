-- What is kept of `improve`: there is one answer to each file, and the plan that is written is what it should be.
use Rattle.std.proofs.Common.{◌≡◌, ℕ, List, Option, false, subst}
use Rattle.std.specs.FinMap.{get}
use Rattle.outside.specs.Held.{Files, Appended}
use Rattle.soc_model.specs.Chips.{SocValue}
use Rattle.plan_model.specs.Plans.{LimitsValue, PlanValue}
use Rattle.plan_text.specs.PlanLines.{plan_text}
use Rattle.plan_text.specs.Answers.{SaysPlan}
use Rattle.plan_text.specs.Laws.{PrintedPlansAreRead}
use Rattle.commands.specs.declared.FileKind.TheVariants.{Plan}
use Rattle.commands.specs.declared.Status.TheVariants.{Done}
use Rattle.commands.specs.Readings.{SaysAccepted, RefusesPlan}
use Rattle.commands.specs.Procedures.{done_with_any, with_accepted}
use Rattle.commands.specs.Answers.{Answers}
use Rattle.commands.specs.Settled.{FilesSayOneThing}
use Rattle.commands.proofs.Settled.{left_open}
use Rattle.commands.proofs.Completeness.{settled_all}
use Rattle.commands.specs.Trusted.{TrustLaws}
use Rattle.commands.specs.Kept.{IsKept}
use Rattle.commands.proofs.Trusted.{stage_done, both_done, read_as_well}
use Rattle.plan_improver.specs.Improved.{IsImproved}
use Rattle.plan_improver.specs.Procedures.{improve_procedure}
use Rattle.plan_improver.specs.Promises.{Improves}

-- the text of an improved plan
abbrev pub Improved : ℕ → SocValue → LimitsValue → PlanValue → List ℕ → Type 0
Improved tries chip bounds given text = (value : PlanValue) × IsImproved chip bounds tries given value × (text ≡ plan_text value)

improves : TrustLaws → PrintedPlansAreRead → (files : Files) (soc limits plan : List ℕ) (tries seed : ℕ) (text : List ℕ) (old new : Option (List ℕ)) → Answers (improve_procedure soc limits plan tries seed) files Done text → Appended old text new → Improves soc limits plan tries files old new
improves laws reads files soc limits plan tries seed text old new answer put =
    let b = both_done files soc limits text (λ chip bounds. with_accepted chip bounds plan (λ given. done_with_any (Improved tries chip bounds given))) answer in
    let c = stage_done Plan (SaysAccepted b.0 b.1) (RefusesPlan b.0 b.1) (λ given. Answers (done_with_any (Improved tries b.0 b.1 given)) files) (get files plan) text b.4 in
    record {
      chip = b.0;
      bounds = b.1;
      given = c.0;
      value = c.2.1.0;
      chip_is = b.2;
      limits_are = b.3;
      given_is = read_as_well Plan (SaysAccepted b.0 b.1) SaysPlan (get files plan) c.0 (λ bytes says. says.0) c.1;
      improved = c.2.1.1;
      right = λ content. laws.right b.0 b.1 c.2.1.0 content c.2.1.1.good;
      bound = laws.bound b.0 b.1 c.2.1.0.bound b.3.says.sound.some_wire c.2.1.1.accepted;
      written = subst (λ (t : List ℕ). Appended old t new) c.2.1.2 put;
      reads_back = reads c.2.1.0 (c.2.1.1.in_range c.1.says.0.allowed);
    }

pub improve_kept : FilesSayOneThing → TrustLaws → PrintedPlansAreRead → (soc limits plan : List ℕ) (tries seed : ℕ) → IsKept false (improve_procedure soc limits plan tries seed) (λ files. Improves soc limits plan tries files)
improve_kept one trust reads soc limits plan tries seed = record {
  named = tt;
  settled = settled_all one false soc limits plan (λ chip bounds given. done_with_any (Improved tries chip bounds given)) (λ chip bounds given. left_open (Improved tries chip bounds given));
  trusted = λ files text old new answer put. improves trust reads files soc limits plan tries seed text old new answer put;
}
