use Rattle.std.proofs.Common.{◌++◌, ℕ, true, map, take, arith, flat_map}
use Rattle.std.proofs.lemmas.List.{length-map}
use Rattle.soc_model.specs.declared.Module.{Module}
use Rattle.soc_model.specs.Chips.{soc_value, module_value}
use Rattle.plan_model.specs.Rules.{mode_pair}
use Rattle.plan_model.specs.Views.{bus_value}
use Rattle.planner.proofs.UsedModes.{pairs_in, no_modes, pairs_next, all_pairs, module_there}
use Rattle.planner.proofs.wrappers.modes_at.Goals as goal

pub loop-place-preserved : goal.loop-place-preserved
loop-place-preserved c =
    let soc = soc_value c.args.soc.now in
    let core = module_there soc.modules c.loop-place.place (omega (arith, length-map c.args.soc.now.modules.entries (λ (e : ℕ × Module). module_value e.1))) in
    let first = c.in_ok-push_mode.ensures core.0 (flat_map pairs_in (take c.loop-place.place soc.modules)) core.1 c.loop-place.invariant in
    rw (pairs_next soc.modules c.loop-place.place core.0 core.1) (c.in_ok-push_mode-2.ensures core.0 (flat_map pairs_in (take c.loop-place.place soc.modules) ++ mode_pair true core.0) core.1 first)

pub loop-place-init : goal.loop-place-init
loop-place-init c = rw c.new-modes.ensures.items (no_modes (soc_value c.args.soc.now) (map bus_value c.args.buses.now))

pub returns : goal.returns
returns c = all_pairs (soc_value c.args.soc.now) (map bus_value c.args.buses.now) c.loop-place.place c.loop-place.modes.items
    (omega (arith, length-map c.args.soc.now.modules.entries (λ (e : ℕ × Module). module_value e.1), c.len-place-end.ensures.len, c.loop-place-test.false)) c.loop-place.invariant

pub push_mode-requires-clause-place : goal.push_mode-requires-clause-place
push_mode-requires-clause-place c = omega (arith, length-map c.args.soc.now.modules.entries (λ (e : ℕ × Module). module_value e.1), c.len-place-end.ensures.len, c.loop-place-test.true)

pub push_mode-requires-in-loop-place-clause-place : goal.push_mode-requires-in-loop-place-clause-place
push_mode-requires-in-loop-place-clause-place c = omega (arith, length-map c.args.soc.now.modules.entries (λ (e : ℕ × Module). module_value e.1), c.len-place-end.ensures.len, c.loop-place-test.true)
