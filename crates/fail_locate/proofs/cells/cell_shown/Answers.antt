use Rattle.std.proofs.Common.{◌^◌, ◌<◌, List, length, take, ap, sym, subst, ◌∙◌, arith, All, sum_by}
use Rattle.std.proofs.lemmas.List.Sums.{sum_by_more_le}
use Rattle.soc_model.specs.Chips.{module_value}
use Rattle.plan_model.specs.declared.ChainPlan.{ChainPlan}
use Rattle.plan_model.proofs.ChainLengths.{FitsModule, chain_fits_at}
use Rattle.fail_locate.proofs.EndCells.{no_chain, in_chain, outs_fit}
use Rattle.fail_locate.proofs.cells.cell_shown.Goals as goal

pub returns-then-chain-len : goal.returns-then-chain-len
returns-then-chain-len c = no_chain (module_value c.args.module.now) c.args.wrapper.now.scan c.args.wrapper.now.chains.items c.args.chain c.args.shifts (omega (arith, c.if-chain-len.true, c.len.ensures, c.args.wrapper.now.chains.ok.0))

pub outs_before-outs_from-requires-clause-fits : goal.outs_before-outs_from-requires-clause-fits
outs_before-outs_from-requires-clause-fits c =
    subst (λ (xs : List ChainPlan). sum_by (λ (p : ChainPlan). p.outs) xs < 2 ^ 63) (sym c.deref.ensures.value) (omega (arith, outs_fit (module_value c.args.module.now) c.args.wrapper.now.scan c.args.wrapper.now.chains.items c.requires.proper c.requires.small))

pub read_from_end-requires-clause-listed : goal.read_from_end-requires-clause-listed
read_from_end-requires-clause-listed c =
    let within : c.args.chain < length c.args.wrapper.now.chains.items = omega (arith, c.if-chain-len.false, c.len.ensures, c.args.wrapper.now.chains.ok.0) in
    let f : FitsModule (module_value c.args.module.now) c.args.wrapper.now.scan c.index.result.now = chain_fits_at (module_value c.args.module.now) c.args.wrapper.now.scan c.args.wrapper.now.chains.items c.requires.proper c.args.chain c.index.result.now within (sym c.index.ensures) in
    subst (λ ls. All (λ x. x < length ls) c.index.result.now.scans.items) (sym c.mode_chains-lengths.ensures) f.listed

pub read_from_end-requires-clause-fits : goal.read_from_end-requires-clause-fits
read_from_end-requires-clause-fits c =
    let within : c.args.chain < length c.args.wrapper.now.chains.items = omega (arith, c.if-chain-len.false, c.len.ensures, c.args.wrapper.now.chains.ok.0) in
    let all = sum_by_more_le (λ (p : ChainPlan). p.outs) c.args.wrapper.now.chains.items c.args.chain c.index.result.now within in
    let here = ap (λ (p : ChainPlan). p.outs) c.index.ensures in
    let first = c.outs_before-outs_from.ensures ∙ ap (λ (xs : List ChainPlan). sum_by (λ (p : ChainPlan). p.outs) (take c.args.chain xs)) c.deref.ensures.value in
    omega (arith, all, here, first, outs_fit (module_value c.args.module.now) c.args.wrapper.now.scan c.args.wrapper.now.chains.items c.requires.proper c.requires.small)

pub returns : goal.returns
returns c =
    let within : c.args.chain < length c.args.wrapper.now.chains.items = omega (arith, c.if-chain-len.false, c.len.ensures, c.args.wrapper.now.chains.ok.0) in
    in_chain (module_value c.args.module.now) c.args.wrapper.now.scan c.args.wrapper.now.chains.items c.args.chain c.args.shifts c.outs_before-outs_from.result c.index.result.now c.mode_chains-lengths.result.now c.read_from_end.result within (sym c.index.ensures) c.mode_chains-lengths.ensures
    (c.outs_before-outs_from.ensures ∙ ap (λ (xs : List ChainPlan). sum_by (λ (p : ChainPlan). p.outs) (take c.args.chain xs)) c.deref.ensures.value) c.read_from_end.ensures
