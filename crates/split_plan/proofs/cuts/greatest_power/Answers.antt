use Rattle.std.proofs.Common.{◌∙◌, ℕ, max, get_or, sym, ap}
use Rattle.std.proofs.lemmas.List.{get_or_default}
use Rattle.plan_model.proofs.Greatest.{greatest_more}
use Rattle.split_plan.proofs.cuts.greatest_power.Goals as goal

pub loop-power-preserved : goal.loop-power-preserved
loop-power-preserved c =
    let x : ℕ × ℕ = get_or c.args.steps.now c.loop-power.power-index (0, 0) in
    c.max-greatest.ensures ∙ ap (λ (g : ℕ). max g x.1) c.loop-power.invariant ∙ sym (greatest_more (λ (s : ℕ × ℕ). s.1) c.args.steps.now c.loop-power.power-index x c.loop-power-test.true (get_or_default c.args.steps.now c.loop-power.power-index x (0, 0) c.loop-power-test.true))
