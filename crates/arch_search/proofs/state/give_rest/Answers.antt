use Rattle.std.proofs.Common.{◌∙◌, ◌<◌, ℕ, length, arith, sym, subst, length-set, All}
use Rattle.arch_search.proofs.Wires.{total_given, some_there}
use Rattle.arch_search.proofs.state.give_rest.Goals as goal

pub returns-clause-buses : goal.returns-clause-buses
returns-clause-buses c =
    let widths = c.args.buses.now.widths.items in
    let slots = c.args.buses.now.slots.items in
    let first : ℕ = c.index-first.result.now in
    let some : 0 < length slots = omega (arith, some_there _ c.if-is_empty.ensures, c.args.buses.now.slots.ok.0) in
    let there : first < length widths = omega (arith, c.index-first.ensures, c.requires.within 0 first some) in
    record {
      few_wires = total_given widths first c.index_mut.result.now c.args.left there c.index_mut.ensures.value c.requires.wires;
      within = subst (λ (n : ℕ). All (λ slot. slot < n) slots) (sym (length-set widths first _)) c.requires.within;
      as_many_loads = c.requires.loads ∙ sym (length-set widths first _);
    }
