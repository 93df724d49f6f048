use Rattle.std.proofs.Common.{◌∙◌, ◌<◌, ℕ, Option, length, sym, subst, IfSome}
use Rattle.std.proofs.lemmas.List.Elements.{All-set}
use Rattle.arch_schedule.specs.declared.problem.TestTimes.{TestTimes}
use Rattle.arch_schedule.specs.declared.times.ModuleCycles.{ModuleCycles}
use Rattle.arch_schedule.specs.Problems.{IsTimed}
use Rattle.arch_schedule.specs.Times.{IsRow}
use Rattle.arch_schedule.proofs.Refilled.{as_long}
use Rattle.arch_schedule.proofs.times.add_test.Goals as goal

pub returns-clause-rows : goal.returns-clause-rows
returns-clause-rows c =
    let wires : ℕ = c.args.problem.now.wires in
    let modules : ℕ = length c.args.problem.now.modules.items in
    let timed : IsTimed wires modules c.index.result.now = subst (λ (t : TestTimes). IsTimed wires modules t) (sym c.index.ensures) (c.requires.problem.1.timed c.args.test c.index.result.now c.requires.test) in
    let within : c.in-Some.module < length c.args.rows.now.items = subst (λ (n : ℕ). c.in-Some.module < n) (sym c.requires.long) (subst (λ (m : Option ℕ). IfSome m (λ k. k < modules)) c.in-Some.is timed.within) in
    let row : IsRow wires c.index_mut.result.now = subst (λ (r : ModuleCycles). IsRow wires r) (sym c.index_mut.ensures.value) (c.requires.rows c.in-Some.module c.index_mut.result.now within) in
    All-set (λ (r : ModuleCycles). IsRow wires r) c.args.rows.now.items c.in-Some.module _ (as_long c.index_mut.result.now.cycles c.add_cycles.new.sums ∙ row) c.requires.rows
