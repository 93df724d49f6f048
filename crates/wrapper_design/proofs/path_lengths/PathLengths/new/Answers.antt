use Rattle.std.proofs.Common.{◌∙◌, ◌<◌, ◌^◌, List, map, ap, arith}
use Rattle.plan_model.specs.Plans.{greatest}
use Rattle.wrapper_design.specs.declared.order.ScanChain.{ScanChain}
use Rattle.std.specs.List.{sum}
use Rattle.soc_model.specs.Chips.{module_value}
use Rattle.wrapper_design.proofs.Limits.{flops-le}
use Rattle.wrapper_design.proofs.path_lengths.PathLengths.new.Goals as goal

pub invariant_of-result : goal.invariant_of-result
invariant_of-result c =
    let few : c.flops_of-flops.result < 2 ^ 62 = omega (arith, c.flops_of-flops.ensures, ap sum c.mode_chains-lengths.ensures, flops-le (module_value c.args.«module».now) c.args.scan, c.requires) in
    record {
      in_order = c.in_ok-order.ensures;
      longest_is = c.longest_of-longest_chain.ensures ∙ ap (λ (v : List ScanChain). greatest (map (λ (s : ScanChain). s.length.0) v)) c.deref.ensures.value;
      flops_are = c.flops_of-flops.ensures;
      few_flops = few;
      few_ins = omega (arith, c.requires);
      few_outs = omega (arith, c.requires);
    }
