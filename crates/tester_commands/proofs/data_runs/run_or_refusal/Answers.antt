use Rattle.std.proofs.Common.{◌≡◌, None, Some, option_map, ap, sym, ◌∙◌}
use Rattle.commands.specs.Texts.{run_line}
use Rattle.commands.proofs.Endings.{may_be_long}
use Rattle.tester_commands.specs.Procedures.{long_run_refusal}
use Rattle.tester_commands.specs.RunTexts.{run_text}
use Rattle.tester_commands.proofs.RefusedRuns.{refused_run}
use Rattle.tester_commands.proofs.data_runs.run_or_refusal.Goals as goal

pub returns-in-Some : goal.returns-in-Some
returns-in-Some c = λ held before after.
    let long : long_run_refusal c.args.all.plan ≡ Some (run_line c.in-Some.cells) = ap (option_map run_line) (sym c.long_run.ensures ∙ c.in-Some.is) in
    refused_run c.args.form c.args.all.soc c.args.all.plan c.args.test_data (run_line c.in-Some.cells) c.run_line.result c.refused_with.result held before after long c.run_line.ensures.text c.run_line.ensures.line c.refused_with.ensures

pub returns-in-None : goal.returns-in-None
returns-in-None c = λ held before after.
    let short : long_run_refusal c.args.all.plan ≡ None = ap (option_map run_line) (sym c.long_run.ensures ∙ c.in-None.is) in
    rw c.data_run.ensures (may_be_long (long_run_refusal c.args.all.plan) (run_text c.args.form c.args.all.soc c.args.all.plan c.args.test_data) held short)

pub data_run-requires : goal.data_run-requires
data_run-requires c = sym c.long_run.ensures ∙ c.in-None.is
