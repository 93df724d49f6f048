use Rattle.std.proofs.Common.{arith, ℕ, ◌++◌, ◌≡◌, ◌<◌, ◌≤◌, ◌∙◌, ap, get_or, length, map, set}
use Rattle.bus_model.specs.Buses.{bus_value, no_bus}
use Rattle.bus_model.proofs.Views.{value_at, value_length}
use Rattle.arch_settle.proofs.Joins.{IsShifted, shifted_below, shifted_above, join_value, get_or-remove}
use Rattle.arch_settle.proofs.merging.join_buses.Goals as goal
use Rattle.arch_settle.proofs.merging.join_buses.Goals.{then-into-from, else-into-from}

pub returns-clause-value : goal.returns-clause-value
returns-clause-value c =
    let n = value_length c.args.arch.now.buses.items in
    let from = c.requires.from in
    let into = c.requires.into in
    let left = c.remove-gone.ensures.items in
    let shifted : IsShifted c.args.from c.args.into c.if-into-from.at = elim c.if-into-from.branch [
      | then-into-from w ↦ shifted_below c.args.from c.args.into c.if-into-from.at w.if-into-from.true w.at-is
      | else-into-from w ↦ shifted_above c.args.from c.args.into c.if-into-from.at (differ_above c.args.from c.args.into w.if-into-from.false c.requires.differ) w.at-is
    ] in
    ap (λ xs. map bus_value (set xs c.if-into-from.at (record { width = c.max-bus.result; places = c.extend.new.to }))) left
    ∙ join_value c.args.arch.now.buses.items c.args.from c.args.into c.if-into-from.at c.index_mut-bus.result.now c.remove-gone.result
    (record { width = c.max-bus.result; places = c.extend.new.to }) (omega arith) (omega arith) shifted
    (c.index_mut-bus.ensures.value ∙ ap (λ xs. get_or xs c.if-into-from.at c.index_mut-bus.result.now) left) c.remove-gone.ensures.value c.max-bus.ensures
    (c.in_ok-extend.ensures.ok ∙ ap (λ ys. c.index_mut-bus.result.now.places.items ++ ys) c.as_slice.ensures.value)
  where
    differ_above : (a b : ℕ) → a ≤ b → (a ≡ b → ⊥) → a < b
    differ_above a b le ne = grind arith

pub returns-clause-smaller : goal.returns-clause-smaller
returns-clause-smaller c =
    let n = value_length c.args.arch.now.buses.items in
    let from = c.requires.from in
    let into = c.requires.into in
    let left = c.remove-gone.ensures.items in
    let shifted : IsShifted c.args.from c.args.into c.if-into-from.at = elim c.if-into-from.branch [
      | then-into-from w ↦ shifted_below c.args.from c.args.into c.if-into-from.at w.if-into-from.true w.at-is
      | else-into-from w ↦ shifted_above c.args.from c.args.into c.if-into-from.at (differ_above c.args.from c.args.into w.if-into-from.false c.requires.differ) w.at-is
    ] in
    let low : c.args.from < length c.args.arch.now.buses.items = omega arith in
    let high : c.args.into < length c.args.arch.now.buses.items = omega arith in
    let read = c.index_mut-bus.ensures.value ∙ (ap (λ xs. get_or xs c.if-into-from.at c.index_mut-bus.result.now) left
    ∙ get_or-remove c.args.arch.now.buses.items c.args.from c.args.into c.if-into-from.at c.index_mut-bus.result.now low shifted) in
    let b = ap (λ x. x.width) (value_at c.args.arch.now.buses.items c.args.into c.index_mut-bus.result.now no_bus high read) in
    let g = ap (λ x. x.width) (value_at c.args.arch.now.buses.items c.args.from c.remove-gone.result no_bus low c.remove-gone.ensures.value) in
    let e = c.min-smaller.ensures in
    omega arith
  where
    differ_above : (a b : ℕ) → a ≤ b → (a ≡ b → ⊥) → a < b
    differ_above a b le ne = grind arith
