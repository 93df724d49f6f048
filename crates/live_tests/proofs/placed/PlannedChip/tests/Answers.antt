use Rattle.std.proofs.Common.{◌+◌, ◌<◌, ◌∙◌, get_or, length, sym, map, refl, arith}
use Rattle.std.proofs.lemmas.Option.{slice_get-get_or}
use Rattle.soc_model.specs.Chips.{soc_value, module_value, live_tests}
use Rattle.live_tests.proofs.FoundPlaced.{no_wrappers}
use Rattle.live_tests.proofs.Placing.{placed_live, placed_are, module_more, modules_all}
use Rattle.live_tests.proofs.placed.PlannedChip.tests.Goals as goal

pub push_module-requires-clause-wrappers : goal.push_module-requires-clause-wrappers
push_module-requires-clause-wrappers c =
    let within : c.loop-place.place < length c.args.wrappers.now = omega (arith, c.loop-place-test.true, c.module_count-place-end.ensures, c.requires.walked.long) in
    c.requires.walked.are c.loop-place.place (module_value c.module_at-module.result.now) (get_or c.args.wrappers.now c.loop-place.place no_wrappers) c.module_at-module.ensures (slice_get-get_or c.args.wrappers.now c.loop-place.place no_wrappers within)

pub loop-place-preserved : goal.loop-place-preserved
loop-place-preserved c =
    module_more c.args.self.now.index.now c.loop-place.tests.items c.push_module.new.tests.items (map (placed_live c.args.self.now.index.now) (live_tests (soc_value c.args.self.now.soc.now)))
    c.loop-place.place (c.loop-place.place + 1) (soc_value c.args.self.now.soc.now).modules (module_value c.module_at-module.result.now) refl c.module_at-module.ensures c.in_ok-push_module.ensures c.loop-place.invariant

pub returns : goal.returns
returns c =
    modules_all c.args.self.now.index.now c.loop-place.tests.items (map (placed_live c.args.self.now.index.now) (live_tests (soc_value c.args.self.now.soc.now)))
    c.loop-place.place (soc_value c.args.self.now.soc.now).modules (omega (arith, c.loop-place-test.false, c.module_count-place-end.ensures)) c.loop-place.invariant
    ∙ sym (placed_are (soc_value c.args.self.now.soc.now) c.args.self.now.index.now)
