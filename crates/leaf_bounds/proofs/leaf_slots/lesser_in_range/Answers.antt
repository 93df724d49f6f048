use Rattle.std.proofs.Common.{◌≡◌, ℕ, ◌+◌, ◌≤◌, ◌<◌, min, sym, subst, arith}
use Rattle.proof_facts.specs.Tables.{TableValue}
use Rattle.proof_facts.specs.Packed.{packed_tam_time}
use Rattle.leaf_bounds.specs.Bases.{chip_of, claim_of}
use Rattle.leaf_bounds.specs.LeafSlots.{IsOfRange, costs_at}
use Rattle.leaf_bounds.proofs.LeafSlots.{jump_costs, no_width, none_lesser, range_ended, range_lesser}
use Rattle.leaf_bounds.proofs.leaf_slots.lesser_in_range.Goals as goal

pub loop-width-init : goal.loop-width-init
loop-width-init c = record {
  from = omega arith;
  least = λ weights is.
      let end = min c.args.range.first (c.args.range.high + 1) in
      none_lesser (costs_at c.args.basis.now weights c.args.place) (IsOfRange (chip_of c.args.basis.now) (claim_of c.args.basis.now) c.args.place c.args.range end) c.args.least
      (no_width (costs_at c.args.basis.now weights c.args.place) (chip_of c.args.basis.now) (claim_of c.args.basis.now) c.args.place c.args.range end (omega arith));
  small = c.requires.few;
}

pub loop-width-preserved : goal.loop-width-preserved
loop-width-preserved c = record {
  from = omega (arith, c.loop-width.invariant.from, c.next_width-width.ensures.wider);
  least = λ weights is.
      let some = c.requires.some_wire in
      let same : (v : ℕ) → c.loop-width.width ≤ v → v < c.next_width-width.result → packed_tam_time (chip_of c.args.basis.now) c.args.place v ≡ packed_tam_time (chip_of c.args.basis.now) c.args.place c.loop-width.width = λ v from to. subst (λ (t : TableValue). packed_tam_time t.chip c.args.place v ≡ packed_tam_time t.chip c.args.place c.loop-width.width) c.requires.basis.times (c.next_width-width.ensures.same v from to) in
      range_lesser (costs_at c.args.basis.now weights c.args.place) (chip_of c.args.basis.now) (claim_of c.args.basis.now) c.args.place c.args.range c.loop-width.width c.next_width-width.result
      c.loop-width.invariant.from c.next_width-width.ensures.wider c.loop-width-test.true
      (λ v from to. jump_costs c.wider_slots_cost_no_less.ensures c.args.basis.now weights c.args.place c.args.range c.loop-width.width v (omega (arith, some, c.loop-width.invariant.from)) from (sym (same v from to)))
      same (c.loop-width.invariant.least weights is) (c.lesser_at-best.ensures.cost weights is);
  small = c.lesser_at-best.ensures.small;
}

pub loop-width-smaller : goal.loop-width-smaller
loop-width-smaller c = omega (arith, c.loop-width-test.true, c.next_width-width.ensures.wider)

pub returns-clause-least : goal.returns-clause-least
returns-clause-least c = λ weights is. range_ended (costs_at c.args.basis.now weights c.args.place) (chip_of c.args.basis.now) (claim_of c.args.basis.now) c.args.place c.args.range c.loop-width.width (omega (arith, c.loop-width-test.false))
    (c.loop-width.invariant.least weights is)
