use Rattle.std.proofs.Common.{◌≡◌, Err, IfOk, ◌∙◌, ap, subst}
use Rattle.soc_model.specs.Chips.{soc_value}
use Rattle.sample_maker.specs.declared.SampleFault.TheVariants.{SampleSize}
use Rattle.plan_commands.specs.Procedures.{done_with_sample, sample_refusal}
use Rattle.plan_commands.specs.Samples.{sample_line}
use Rattle.commands.proofs.FileStages.{line_refuses, unless_line}
use Rattle.plan_commands.proofs.MadeLimits.{limits_sound, refused}
use Rattle.plan_commands.proofs.samples.decide_sample.Goals as goal

pub plan_sample-requires-clause-limits : goal.plan_sample-requires-clause-limits
plan_sample-requires-clause-limits c = limits_sound (soc_value c.in-Ok.soc) c.in-Ok.ensures.power

pub returns-in-Err-SampleSize : goal.returns-in-Err-SampleSize
returns-in-Err-SampleSize c =
    let is : c.sample.result ≡ Err (SampleSize c.in-Err-SampleSize.n) = c.in-Err-SampleSize.is ∙ ap Err c.in-Err-SampleSize.field-0-is in
    let n : c.in-Err-SampleSize.n ≡ c.args.n = c.sample.ensures.shown c.in-Err-SampleSize.n is in
    let size : c.sample.result ≡ Err (SampleSize c.args.n) = subst (λ m. c.sample.result ≡ Err (SampleSize m)) n is in
    λ held before after.
    unless_line (sample_refusal c.args.n) (sample_line c.args.n) (done_with_sample c.args.n c.args.seed) held before after c.refused_with.result (refused c.args.n (c.sample.ensures.size.0 size))
    (line_refuses (sample_line c.args.n) c.sample_line.result c.refused_with.result (subst (λ m. IfOk c.sample_line.result (λ text. text.items ≡ sample_line m)) n c.sample_line.ensures.text) c.sample_line.ensures.line c.refused_with.ensures)
