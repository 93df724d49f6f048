use Rattle.std.proofs.Common.{◌∙◌, position, ap}
use Rattle.soc_model.specs.declared.TestId.{TestId}
use Rattle.soc_model.specs.Chips.{same_test}
use Rattle.plan_model.specs.declared.Profile.{Profile}
use Rattle.plan_model.specs.Views.{limits_value}
use Rattle.proof_facts.proofs.FactLists.{facts_are}
use Rattle.proof_facts.proofs.facts.test_facts.Goals as goal

pub least_at-least-requires : goal.least_at-least-requires
least_at-least-requires c =
    let id : TestId = record { «module» = c.args.number; test = c.args.test.now.number } in
    (id, c.profile_place-found.ensures ∙ ap (position (λ (p : Profile). same_test p.test id)) c.deref.ensures.value)

pub returns : goal.returns
returns c =
    let id : TestId = record { «module» = c.args.number; test = c.args.test.now.number } in
    rw (← c.problem.view_is) (facts_are (limits_value c.problem.inside.limits.now) c.args.place c.args.parent c.args.number c.args.test.now c.least_at-least.result (c.least_at-least.ensures id (c.profile_place-found.ensures ∙ ap (position (λ (p : Profile). same_test p.test id)) c.deref.ensures.value)))
