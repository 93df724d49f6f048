use Rattle.std.proofs.Common.{◌∙◌, position, ap}
use Rattle.soc_model.specs.Chips.{same_test}
use Rattle.plan_model.specs.declared.Profile.{Profile}
use Rattle.proof_facts.proofs.powers.least_power.Goals as goal

pub least_at-requires : goal.least_at-requires
least_at-requires c = (c.args.id, c.profile_of.ensures ∙ ap (position (λ (p : Profile). same_test p.test c.args.id)) c.deref.ensures.value)

pub returns : goal.returns
returns c = c.least_at.ensures c.args.id (c.profile_of.ensures ∙ ap (position (λ (p : Profile). same_test p.test c.args.id)) c.deref.ensures.value)
