use Rattle.std.proofs.Common.{◌∙◌, ℕ, map, refl, sym, ap, position, List}
use Rattle.soc_model.specs.declared.TestId.{TestId}
use Rattle.soc_model.specs.Chips.{same_test}
use Rattle.plan_model.specs.Plans.{greatest}
use Rattle.plan_model.specs.Views.{limits_value}
use Rattle.split_plan.proofs.Making.{peak_found, peak_own}
use Rattle.split_plan.proofs.cuts.peak.Goals as goal

pub returns-in-Some : goal.returns-in-Some
returns-in-Some c =
    c.greatest_power.ensures ∙ ap (λ (steps : List (ℕ × ℕ)). greatest (map (λ (s : ℕ × ℕ). s.1) steps)) c.deref.ensures.value
    ∙ sym (peak_found (limits_value c.args.limits.now) c.args.limits.now.profiles.items c.args.id c.args.own c.in-Some.place c.index.result.now refl c.index.ensures
    (ap (λ (l : List TestId). position (same_test c.args.id) l) (sym c.requires) ∙ sym c.get_index_of.ensures.index ∙ c.in-Some.is))

pub returns-in-None : goal.returns-in-None
returns-in-None c =
    sym (peak_own (limits_value c.args.limits.now) c.args.id c.args.own (ap (λ (l : List TestId). position (same_test c.args.id) l) (sym c.requires) ∙ sym c.get_index_of.ensures.index ∙ c.in-None.is))
