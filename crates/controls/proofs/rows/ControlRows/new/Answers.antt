use Rattle.std.proofs.Common.{◌∙◌, ap, length, subst, arith}
use Rattle.soc_model.specs.SoundChips.{IsSoundChip}
use Rattle.plan_model.specs.Rules.{IsGoodAlone}
use Rattle.live_tests.specs.PlacedPlans.{PlacedPlanValue}
use Rattle.controls.specs.Controls.{controls, tam_numbers}
use Rattle.controls.proofs.rows.ControlRows.new.Goals as goal

pub returns : goal.returns
returns c = record {
  sound = subst (λ (p : PlacedPlanValue). IsSoundChip p.soc) c.placed.view_is c.placed.invariant.sound;
  good = subst (λ (p : PlacedPlanValue). IsGoodAlone p.soc p.plan) c.placed.view_is c.placed.invariant.good;
  tests = c.in_ok-tests.ensures;
  modules = omega (arith, c.len.ensures, c.in_ok-numbers.numbers.ok.0, ap length c.in_ok-numbers.ensures ∙ ap (λ (p : PlacedPlanValue). length (tam_numbers p.soc)) c.placed.view_is);
  columns = omega (arith, c.len-2.ensures, c.in_ok-list.list.ok.0, ap length c.in_ok-list.ensures ∙ ap (λ (p : PlacedPlanValue). length (controls p.soc)) c.placed.view_is);
}
