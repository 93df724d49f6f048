use Rattle.std.proofs.Common.{◌∙◌, ap}
use Rattle.live_tests.specs.Problems.{ProblemValue}
use Rattle.plan_model.specs.Rules.{live_ids}
use Rattle.case_tables.proofs.HasRows.{has_row}
use Rattle.case_tables.proofs.filling.push_rows.Goals as goal

pub row-requires : goal.row-requires
row-requires c =
    let p = c.args.problem.now in
    has_row p.soc p.limits c.in_ok-rows.rows c.names-tests.result.now c.loop-test.test
    c.in_ok-rows.ensures (c.names-tests.ensures ∙ c.problem.invariant.places.tests ∙ ap (λ (v : ProblemValue). live_ids v.soc) c.problem.view_is) c.loop-test-test.true

pub least-requires : goal.least-requires
least-requires c =
    let p = c.args.problem.now in
    has_row p.soc p.limits c.in_ok-rows.rows c.names-tests.result.now c.loop-test.test
    c.in_ok-rows.ensures (c.names-tests.ensures ∙ c.problem.invariant.places.tests ∙ ap (λ (v : ProblemValue). live_ids v.soc) c.problem.view_is) c.loop-test-test.true
