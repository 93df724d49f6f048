use Rattle.std.proofs.Common.{◌≡◌, ℕ, ◌+◌, ◌∙◌, ap, max, arith, length}
use Rattle.plan_model.specs.Bounds.{quotient_up}
use Rattle.wrapper_design.proofs.Chains.{design_from, at_most_greatest}
use Rattle.wrapper_design.proofs.dealing.put_cells.Goals as goal

pub fill_chains-requires-clause-below_si : goal.fill_chains-requires-clause-below_si
fill_chains-requires-clause-below_si c = λ k d h. omega (arith, at_most_greatest c.put_scans.new.loads k d h, c.in_ok-longest.ensures.longest)

pub fill_chains-requires-clause-below_so : goal.fill_chains-requires-clause-below_so
fill_chains-requires-clause-below_so c = λ k d h. omega (arith, at_most_greatest c.put_scans.new.loads k d h, c.in_ok-longest.ensures.longest)

pub returns : goal.returns
returns c = λ lengths is sum_is.
    let w : ℕ = length c.args.loads.now in
    let e : length c.put_scans.new.loads ≡ length c.args.loads.now = omega arith in
    let si : c.level-si.result ≡ max c.in_ok-longest.longest (quotient_up (c.args.ins + c.args.flops) (length c.args.loads.now)) = c.level-si.ensures ∙ ap (λ v. max c.in_ok-longest.longest (quotient_up (c.args.ins + c.args.flops) v)) e in
    let so : c.level-so.result ≡ max c.in_ok-longest.longest (quotient_up (c.args.outs + c.args.flops) (length c.args.loads.now)) = c.level-so.ensures ∙ ap (λ v. max c.in_ok-longest.longest (quotient_up (c.args.outs + c.args.flops) v)) e in
    design_from lengths c.args.flops c.args.ins c.args.outs w c.in_ok-longest.longest c.level-si.result c.level-so.result c.put_scans.new.loads c.put_scans.new.chains c.fill_chains.new.chains
    (c.in_ok-longest.ensures.loads lengths is) (c.in_ok-longest.ensures.parts lengths is) c.in_ok-longest.ensures.longest sum_is si so (c.fill_chains.ensures lengths)
