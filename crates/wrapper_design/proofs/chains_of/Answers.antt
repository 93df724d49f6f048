use Rattle.std.proofs.Common.{◌≡◌, ℕ, ◌+◌, ◌∙◌, Bool, List, ap, subst, sym, arith, map}
use Rattle.std.specs.List.{sum}
use Rattle.std.proofs.lemmas.Result.{IfOk-weaker}
use Rattle.soc_model.specs.Chips.{ModuleValue, module_value}
use Rattle.plan_model.specs.Views.{chain_value}
use Rattle.plan_model.specs.Cells.{ChainValue}
use Rattle.soc_model.specs.Modes.{scan_lengths}
use Rattle.wrapper_design.specs.Design.{mode_of, design}
use Rattle.wrapper_design.specs.Loads.{IsOrder}
use Rattle.wrapper_design.proofs.Limits.{flops-le, order_sum}
use Rattle.wrapper_design.proofs.chains_of.Goals as goal

pub build_chains-requires-clause-few_flops : goal.build_chains-requires-clause-few_flops
build_chains-requires-clause-few_flops c =
    omega (arith, c.flops_of-flops.ensures, ap sum c.mode_chains-lengths.ensures, flops-le (module_value c.args.«module».now) c.args.scan, c.requires.small)

pub build_chains-requires-clause-fits : goal.build_chains-requires-clause-fits
build_chains-requires-clause-fits c =
    let is = subst (λ v. IsOrder c.mode_chains-lengths.result.now v) (sym c.deref.ensures.value) c.in_ok-order.ensures in
    omega (arith, order_sum c.mode_chains-lengths.result.now c.deref.result.now is, ap sum c.mode_chains-lengths.ensures, flops-le (module_value c.args.«module».now) c.args.scan, c.requires.small)

chains_are : (m : ModuleValue) (scan : Bool) (w : ℕ) (lengths : List ℕ) (chains : List ChainValue) → lengths ≡ scan_lengths m scan → chains ≡ design (record { lengths = lengths; ins = m.inputs + m.bidirs; outs = m.outputs + m.bidirs }) w → chains ≡ design (mode_of m scan) w
chains_are m scan w lengths chains e is = is ∙ ap (λ v. design (record { lengths = v; ins = m.inputs + m.bidirs; outs = m.outputs + m.bidirs }) w) e

mode_is : (m : ModuleValue) (scan : Bool) (w : ℕ) (lengths : List ℕ) (chains : List ChainValue) → lengths ≡ scan_lengths m scan → chains ≡ design (record { lengths = lengths; ins = m.inputs + m.bidirs; outs = m.outputs + m.bidirs }) w → chains ≡ design (mode_of m scan) w
mode_is m scan w lengths chains e is = is ∙ ap (λ v. design (record { lengths = v; ins = m.inputs + m.bidirs; outs = m.outputs + m.bidirs }) w) e

pub returns : goal.returns
returns c =
    let is = subst (λ v. IsOrder c.mode_chains-lengths.result.now v) (sym c.deref.ensures.value) c.in_ok-order.ensures in
    IfOk-weaker c.build_chains.result (λ v. (lengths : List ℕ) → IsOrder lengths c.deref.result.now → c.flops_of-flops.result ≡ sum lengths → map chain_value v.items ≡ design (record { lengths = lengths; ins = c.args.«module».now.inputs + c.args.«module».now.bidirs; outs = c.args.«module».now.outputs + c.args.«module».now.bidirs }) c.args.width)
    (λ v. map chain_value v.items ≡ design (mode_of (module_value c.args.«module».now) c.args.scan) c.args.width)
    (λ v h. mode_is (module_value c.args.«module».now) c.args.scan c.args.width c.mode_chains-lengths.result.now (map chain_value v.items) c.mode_chains-lengths.ensures (h c.mode_chains-lengths.result.now is c.flops_of-flops.ensures)) c.build_chains.ensures
