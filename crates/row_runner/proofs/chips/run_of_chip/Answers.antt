use Rattle.std.proofs.Common.{ℕ, ap, subst}
use Rattle.bit_machine.specs.Chips.{ChipValue}
use Rattle.row_runner.specs.Widths.{IsWide}
use Rattle.row_runner.proofs.chips.run_of_chip.Goals as goal

pub loop-cycle-init : goal.loop-cycle-init
loop-cycle-init c = record {
  plan = ap (λ (chip : ChipValue). chip.plan) c.in_ok-chip.ensures;
  cycle = ap (λ (chip : ChipValue). chip.cycle) c.in_ok-chip.ensures;
  wide = subst (λ (n : ℕ). IsWide n c.in_ok-wires.wires) c.all_wires.ensures c.in_ok-wires.ensures;
}
