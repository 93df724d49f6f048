use Rattle.std.proofs.Common.{false, map}
use Rattle.soc_model.specs.Chips.{soc_value}
use Rattle.plan_model.specs.Views.{bus_value, wrapper_value}
use Rattle.planner.specs.declared.wrappers.UsedMode.{UsedMode}
use Rattle.planner.proofs.UsedModes.{mode_within, wrapper_made, none_made, made_next, all_made}
use Rattle.planner.proofs.wrappers.table_wrappers.Goals as goal

no_mode : UsedMode
no_mode = record { place = 0; scan = false; width = 0 }

pub loop-mode-init : goal.loop-mode-init
loop-mode-init c = none_made (soc_value c.args.soc.now) (map bus_value c.args.buses.now) c.new-wrappers.result.items c.new-wrappers.ensures.items

pub wrapper-requires : goal.wrapper-requires
unfolding no_mode
wrapper-requires c =
    let is = mode_within c.args.table.now (soc_value c.args.soc.now) (map bus_value c.args.buses.now) c.in_ok-modes.modes.items c.deref-mode-items.result.now c.loop-mode.mode-index no_mode c.requires.chip c.requires.widths c.in_ok-modes.ensures.used c.deref-mode-items.ensures.value c.loop-mode-test.true in
    record { place = is.place; some = is.some; within = is.within }

pub loop-mode-preserved : goal.loop-mode-preserved
unfolding no_mode
loop-mode-preserved c = made_next (soc_value c.args.soc.now) (map bus_value c.args.buses.now) c.deref-mode-items.result.now c.loop-mode.mode-index no_mode c.loop-mode.wrappers.items c.push.new.to.items c.in_ok-wrapper.wrapper
    c.loop-mode-test.true c.in_ok-push.ensures.ok c.loop-mode.invariant
    (wrapper_made c.args.table.now (soc_value c.args.soc.now) (map bus_value c.args.buses.now) c.in_ok-modes.modes.items c.deref-mode-items.result.now c.loop-mode.mode-index no_mode c.requires.chip c.requires.widths c.in_ok-modes.ensures.used c.deref-mode-items.ensures.value c.loop-mode-test.true (wrapper_value c.in_ok-wrapper.wrapper) c.in_ok-wrapper.ensures.designed)

pub returns : goal.returns
returns c = all_made (soc_value c.args.soc.now) (map bus_value c.args.buses.now) c.deref-mode-items.result.now c.loop-mode.mode-index (map wrapper_value c.loop-mode.wrappers.items) c.loop-mode-test.false (rw c.deref-mode-items.ensures.value c.in_ok-modes.ensures) c.loop-mode.invariant
