use Rattle.std.proofs.Common.{◌∙◌, sym}
use Rattle.std.{proofs.lemmas.List.length-map}
use Rattle.resource_table.{specs.Jobs.test_value, specs.Jobs.job_value, proofs.Befores.listed_new}
use Rattle.resource_table.proofs.table.job_parts.Goals as goal

pub returns-clause-before : goal.returns-clause-before
returns-clause-before c =
    let tests = c.len.ensures ∙ c.args.job.now.tests.ok.0 ∙ sym (length-map c.args.job.now.tests.items test_value) in
    listed_new (job_value c.args.job.now) c.in_ok-before.before.items c.len.result c.deref.result.now tests c.deref.ensures.value c.in_ok-before.ensures.long c.in_ok-before.ensures.lists

pub all_before-requires : goal.all_before-requires
all_before-requires c =
    let all = (job_value c.args.job.now).tests in
    rw (c.len.ensures ∙ c.args.job.now.tests.ok.0 ∙ sym (length-map c.args.job.now.tests.items test_value)) (rw c.deref.ensures.value c.requires.in_range)
