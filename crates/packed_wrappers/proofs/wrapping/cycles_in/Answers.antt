use Rattle.std.proofs.Common.{◌≡◌, Bool, true, false, List, length, get_or, sym, subst, ◌∙◌, arith}
use Rattle.soc_model.specs.declared.Test.{Test}
use Rattle.soc_model.specs.Chips.{ModuleValue, module_value}
use Rattle.soc_model.specs.Modes.{is_of_mode}
use Rattle.plan_model.specs.Cells.{ChainValue, chain_cells}
use Rattle.plan_model.specs.Plans.{operations_of}
use Rattle.plan_model.specs.Views.{wrapper_value}
use Rattle.packed_wrappers.proofs.ModeTimes.{left_yes, left_no, scan_of_mode, time_of}
use Rattle.packed_wrappers.proofs.wrapping.cycles_in.Goals as goal
use Rattle.packed_wrappers.proofs.wrapping.cycles_in.Goals.{then-is_of_mode, else-is_of_mode}

no_test : Test
no_test = record { number = 0; scan = false; tam = false; patterns = 0; power = 0 }

pub loop-test-preserved : goal.loop-test-preserved
unfolding no_test
loop-test-preserved c = elim c.if-is_of_mode.branch [
  | then-is_of_mode w ↦
      let m : ModuleValue = module_value c.args.«module».now in
      let chains : List ChainValue = (wrapper_value c.args.wrapper.now).chains in
      let t : Test = get_or c.deref-test-items.result.now c.loop-test.test-index no_test in
      let of_mode : is_of_mode c.args.wrapper.now.scan t ≡ true = sym c.is_of_mode.ensures ∙ w.if-is_of_mode.true in
      let time : w.tam_duration.result ≡ time_of m (wrapper_value c.args.wrapper.now) t =
      subst (λ (s : Bool). w.tam_duration.result ≡ length (operations_of m t (chain_cells m s chains))) (scan_of_mode c.args.wrapper.now.scan t of_mode) w.tam_duration.ensures.time in
      let r = left_yes (is_of_mode c.args.wrapper.now.scan) (time_of m (wrapper_value c.args.wrapper.now)) c.deref-test-items.result.now c.loop-test.test-index no_test c.loop-test-test.true of_mode in
      record { cycles = omega (arith, r, time, c.loop-test.invariant.cycles, w.cycles-is); small = omega (arith, c.loop-test.invariant.small, w.cycles-is, w.tam_duration.ensures.small) }
  | else-is_of_mode w ↦
      let r = left_no (is_of_mode c.args.wrapper.now.scan) (time_of (module_value c.args.«module».now) (wrapper_value c.args.wrapper.now)) c.deref-test-items.result.now c.loop-test.test-index no_test c.loop-test-test.true (sym c.is_of_mode.ensures ∙ w.if-is_of_mode.false) in
      record { cycles = omega (arith, r, c.loop-test.invariant.cycles, w.cycles-is); small = omega (arith, c.loop-test.invariant.small, w.cycles-is) }
]
