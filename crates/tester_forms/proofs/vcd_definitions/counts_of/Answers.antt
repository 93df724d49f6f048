use Rattle.std.proofs.Common.{◌≡◌, ◌+◌, ◌*◌, length, ap, ◌∙◌, arith}
use Rattle.soc_model.specs.Chips.{soc_value}
use Rattle.plan_model.specs.Rules.{live_ids}
use Rattle.controls.specs.Controls.{tam_numbers}
use Rattle.tester_forms.proofs.Listed.{controls-length}
use Rattle.tester_forms.proofs.vcd_definitions.counts_of.Goals as goal

pub overflow_sub-result : goal.overflow_sub-result
overflow_sub-result c =
    let soc = soc_value c.args.soc.now in
    let wired : c.len-wired.result ≡ length (tam_numbers soc) = c.len-wired.ensures ∙ c.in_ok-modules.modules.ok.0 ∙ ap length c.in_ok-modules.ensures in
    let all : c.len.result ≡ length (live_ids soc) + 2 * length (tam_numbers soc) = c.len.ensures ∙ c.in_ok-controls.controls.ok.0 ∙ ap length c.in_ok-controls.ensures ∙ controls-length soc in
    omega (arith, wired, all)

pub returns-clause-runs : goal.returns-clause-runs
returns-clause-runs c =
    let soc = soc_value c.args.soc.now in
    let wired : c.len-wired.result ≡ length (tam_numbers soc) = c.len-wired.ensures ∙ c.in_ok-modules.modules.ok.0 ∙ ap length c.in_ok-modules.ensures in
    let all : c.len.result ≡ length (live_ids soc) + 2 * length (tam_numbers soc) = c.len.ensures ∙ c.in_ok-controls.controls.ok.0 ∙ ap length c.in_ok-controls.ensures ∙ controls-length soc in
    omega (arith, wired, all)
