use Rattle.std.proofs.Common.{◌≡◌, ◌<◌, ◌∙◌, Some, length, arith, refl, sym, slice_get}
use Rattle.std.proofs.lemmas.Option.{slice_get_read}
use Rattle.soc_model.specs.Chips.{soc_value, module_value}
use Rattle.bound_rules.proofs.SoundWork.{live_work-le}
use Rattle.row_runner.proofs.plans.lower_time_of.Goals as goal

pub lower_time-requires-clause-work : goal.lower_time-requires-clause-work
lower_time-requires-clause-work c =
    let m = module_value c.module_at-module.result.now in
    let t = c.index-test.result.now in
    let within : c.args.at < length m.tests = omega (arith, c.if-at-len.false, c.len.ensures) in
    let there : slice_get m.tests c.args.at ≡ Some t = slice_get_read m.tests (length m.tests) c.args.at t refl within c.index-test.ensures in
    live_work-le (soc_value c.args.soc.now) c.requires c.in_ok-place.place c.args.at m t c.module_at-module.ensures there (sym c.live.ensures ∙ c.if-not-live.false)
