use Rattle.std.proofs.Common.{◌≡◌, ◌<◌, ◌+◌, ◌∙◌, [], ℕ, refl, sym, ap, subst, length, get_or, take, arith, sum_by}
use Rattle.std.proofs.lemmas.List.Sums.{sum_by_more}
use Rattle.plan_model.specs.declared.ChainPlan.{ChainPlan}
use Rattle.plan_model.specs.Views.{chain_value}
use Rattle.vector_lines.specs.Layouts.{layout_cells, chain_of}
use Rattle.vector_lines.specs.Building.{ArePaths}
use Rattle.vector_lines.specs.Paths.{IsPath}
use Rattle.vector_lines.proofs.Layouts.{dealt-at, chain_listed, chain_within}
use Rattle.vector_lines.proofs.Numbering.{no_paths, paths_more}
use Rattle.vector_lines.proofs.building.paths_of.Goals as goal

pub loop-chain-preserved : goal.loop-chain-preserved
loop-chain-preserved c =
    let e = c.deref-chain-items.ensures.value in
    let within : c.loop-chain.chain-index < length c.args.layout.now.chains.items = rw e at c.loop-chain-test.true in
    let item = rw e at c.chain-item.is in
    let at : get_or c.args.layout.now.chains.items c.loop-chain.chain-index c.chain-item.result ≡ c.chain-item.result = sym item in
    let ins = rw at at (sum_by_more (λ (c : ChainPlan). c.ins) c.args.layout.now.chains.items c.loop-chain.chain-index c.chain-item.result within) in
    let outs = rw at at (sum_by_more (λ (c : ChainPlan). c.outs) c.args.layout.now.chains.items c.loop-chain.chain-index c.chain-item.result within) in
    let o : ℕ = sum_by (λ (c : ChainPlan). c.outs) (take c.loop-chain.chain-index c.args.layout.now.chains.items) in
    let cells = dealt-at c.args.layout.now.lengths.items 0 0 c.args.layout.now.chains.items c.loop-chain.chain-index within at in
    let first : 0 + sum_by (λ (c : ChainPlan). c.ins) (take c.loop-chain.chain-index c.args.layout.now.chains.items) ≡ c.loop-chain.ins_from = omega (arith, c.loop-chain.invariant.ins) in
    let last : 0 + sum_by (λ (c : ChainPlan). c.outs) (take c.loop-chain.chain-index c.args.layout.now.chains.items) ≡ o = omega arith in
    let same : get_or (layout_cells c.args.layout.now) c.loop-chain.chain-index [] ≡ chain_of c.args.layout.now.lengths.items c.loop-chain.ins_from o (chain_value c.chain-item.result) =
    cells ∙ ap (λ i. chain_of c.args.layout.now.lengths.items i (0 + o) (chain_value c.chain-item.result)) first ∙ ap (λ o. chain_of c.args.layout.now.lengths.items c.loop-chain.ins_from o (chain_value c.chain-item.result)) last in
    record {
      ins = omega (arith, ins, c.loop-chain.invariant.ins);
      outs = omega (arith, outs, c.loop-chain.invariant.outs);
      paths =
          paths_more c.args.inputs c.args.layout.now.lengths.items (layout_cells c.args.layout.now) c.loop-chain.invariant.paths c.in_ok-push.ensures.ok
          (subst (λ v. IsPath c.args.inputs c.args.layout.now.lengths.items v c.in_ok-path.path) (sym same) (c.in_ok-path.ensures o c.loop-chain.invariant.outs));
    }

pub loop-chain-init : goal.loop-chain-init
loop-chain-init c = record {
  ins = refl;
  outs = omega (arith, c.requires.layout.flops);
  paths = no_paths c.args.inputs c.args.layout.now.lengths.items (layout_cells c.args.layout.now) c.new-paths.ensures.items;
}

pub returns : goal.returns
returns c =
    let all : c.loop-chain.chain-index ≡ length c.args.layout.now.chains.items = omega (arith, ap length c.deref-chain-items.ensures.value, c.loop-chain-test.false, c.loop-chain.auto.chain-index-end) in
    subst (λ n. ArePaths c.args.inputs c.args.layout.now.lengths.items (layout_cells c.args.layout.now) n c.loop-chain.paths.items) all c.loop-chain.invariant.paths

pub path_of-requires-clause-listed : goal.path_of-requires-clause-listed
path_of-requires-clause-listed c = (chain_listed c.loop-chain.chain-index c.deref-chain-items.ensures.value c.loop-chain-test.true c.chain-item.is c.args.layout.now.lengths.items c.requires.layout.chains).listed

pub path_of-requires-clause-long : goal.path_of-requires-clause-long
path_of-requires-clause-long c = (chain_listed c.loop-chain.chain-index c.deref-chain-items.ensures.value c.loop-chain-test.true c.chain-item.is c.args.layout.now.lengths.items c.requires.layout.chains).fits

pub overflow_add-ins_from : goal.overflow_add-ins_from
overflow_add-ins_from c =
    let part = chain_within c.loop-chain.chain-index c.deref-chain-items.ensures.value c.loop-chain-test.true c.chain-item.is (λ (c : ChainPlan). c.ins) in
    omega (arith, part, c.loop-chain.invariant.ins, c.requires.ins)

pub overflow_add-outs_from : goal.overflow_add-outs_from
overflow_add-outs_from c =
    let part = chain_within c.loop-chain.chain-index c.deref-chain-items.ensures.value c.loop-chain-test.true c.chain-item.is (λ (c : ChainPlan). c.outs) in
    omega (arith, part, c.loop-chain.invariant.outs, c.requires.outs, c.requires.fits)

pub path_of-requires-clause-ins : goal.path_of-requires-clause-ins
path_of-requires-clause-ins c =
    let part = chain_within c.loop-chain.chain-index c.deref-chain-items.ensures.value c.loop-chain-test.true c.chain-item.is (λ (c : ChainPlan). c.ins) in
    omega (arith, part, c.loop-chain.invariant.ins, c.requires.ins)

pub path_of-requires-clause-outs : goal.path_of-requires-clause-outs
path_of-requires-clause-outs c =
    let part = chain_within c.loop-chain.chain-index c.deref-chain-items.ensures.value c.loop-chain-test.true c.chain-item.is (λ (c : ChainPlan). c.outs) in
    omega (arith, part, c.loop-chain.invariant.outs, c.requires.outs, c.requires.fits)
