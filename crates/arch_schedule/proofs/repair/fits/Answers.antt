use Rattle.std.proofs.Common.{◌∙◌, refl, sym}
use Rattle.arch_schedule.proofs.Alike.{alike_then, times_alike}
use Rattle.arch_schedule.proofs.repair.fits.Goals as goal

pub fill_less-requires-clause-times : goal.fill_less-requires-clause-times
fill_less-requires-clause-times c = c.requires.times

pub loop-wire-init : goal.loop-wire-init
loop-wire-init c = record { buses = c.requires.buses; alike = record { widths = refl; slots = refl }; times = c.requires.times; less = c.fill_less.ensures ∙ c.requires.less }

pub returns-in_default-clause-buses : goal.returns-in_default-clause-buses
returns-in_default-clause-buses c = c.loop-wire.invariant.buses

pub returns-in_default-giver-clause-buses : goal.returns-in_default-giver-clause-buses
returns-in_default-giver-clause-buses c = c.loop-wire.invariant.buses

pub pass_wire-requires-clause-buses : goal.pass_wire-requires-clause-buses
pass_wire-requires-clause-buses c = c.loop-wire.invariant.buses

pub pass_wire-requires-clause-times : goal.pass_wire-requires-clause-times
pass_wire-requires-clause-times c = c.loop-wire.invariant.times

pub pass_wire-requires-clause-less : goal.pass_wire-requires-clause-less
pass_wire-requires-clause-less c = c.loop-wire.invariant.less

pub loop-wire-preserved : goal.loop-wire-preserved
loop-wire-preserved c = record {
  buses = c.pass_wire.ensures.buses;
  alike = alike_then c.args.buses.now c.loop-wire.buses c.pass_wire.new.buses c.loop-wire.invariant.alike c.pass_wire.ensures.alike;
  times = times_alike c.loop-wire.buses c.pass_wire.new.buses c.args.times.now c.pass_wire.ensures.alike c.loop-wire.invariant.times;
  less = c.pass_wire.ensures.less ∙ c.loop-wire.invariant.less ∙ sym c.pass_wire.ensures.alike.widths;
}

pub returns-clause-buses : goal.returns-clause-buses
returns-clause-buses c = c.loop-wire.invariant.buses
