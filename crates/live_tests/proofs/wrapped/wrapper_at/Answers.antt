use Rattle.std.proofs.Common.{sym, ◌∙◌}
use Rattle.soc_model.specs.Chips.{soc_value, module_value}
use Rattle.plan_model.proofs.SoundChips.{module_size-le}
use Rattle.live_tests.proofs.FoundWrappers.{wrapper_found, wrapper_proper, mode_wrapper}
use Rattle.live_tests.proofs.wrapped.wrapper_at.Goals as goal

pub walked-requires-clause-proper : goal.walked-requires-clause-proper
walked-requires-clause-proper c =
    let found = wrapper_found (module_value c.args.«module».now) c.args.scan c.args.wrappers.now c.in-Some.at c.index-wrappers-at.result (sym c.requires.found ∙ c.in-Some.is) c.index-wrappers-at.is in
    wrapper_proper (soc_value c.args.soc.now) c.args.place (module_value c.args.«module».now) c.requires.there c.args.scan c.args.wrappers.now c.in-Some.at c.index-wrappers-at.result c.requires.proper found

pub walked-requires-clause-small : goal.walked-requires-clause-small
walked-requires-clause-small c = module_size-le (soc_value c.args.soc.now) c.requires.sound c.args.place (module_value c.args.«module».now) c.requires.there

pub returns-in-Some : goal.returns-in-Some
returns-in-Some c = λ plan are.
    let found = wrapper_found (module_value c.args.«module».now) c.args.scan c.args.wrappers.now c.in-Some.at c.index-wrappers-at.result (sym c.requires.found ∙ c.in-Some.is) c.index-wrappers-at.is in
    let proper = wrapper_proper (soc_value c.args.soc.now) c.args.place (module_value c.args.«module».now) c.requires.there c.args.scan c.args.wrappers.now c.in-Some.at c.index-wrappers-at.result c.requires.proper found in
    mode_wrapper plan (module_value c.args.«module».now) c.args.scan c.args.wrappers.now c.in-Some.at c.index-wrappers-at.result c.walked.result (sym are) found proper c.walked.ensures.place c.walked.ensures.si c.walked.ensures.so c.walked.ensures.short
