use Rattle.std.proofs.Common.{◌≡◌, length, take, sym, ap, ◌∙◌, arith, filter, sum_by}
use Rattle.std.proofs.lemmas.List.{take_all}
use Rattle.soc_model.specs.Chips.{ModuleValue, soc_value, module_value, is_live}
use Rattle.plan_checker.proofs.RoomSizes.{live_more}
use Rattle.plan_checker.proofs.Loads.{live_tests_are}
use Rattle.plan_checker.proofs.space.live_count.Goals as goal

pub returns : goal.returns
returns c =
    let modules = (soc_value c.args.soc.now).modules in
    let all : take c.loop-place.place modules ≡ modules = take_all c.loop-place.place modules (omega arith) in
    c.loop-place.invariant ∙ ap (sum_by (λ (m : ModuleValue). length (filter is_live m.tests))) all ∙ sym (live_tests_are 0 modules)

pub loop-place-preserved : goal.loop-place-preserved
loop-place-preserved c = live_more (soc_value c.args.soc.now).modules c.loop-place.place (module_value c.module_at.result.now) c.loop-place.count c.live_in.result c.in_ok-count.count c.module_at.ensures c.loop-place.invariant (c.live_in.ensures ∙ ap (λ ts. length (filter is_live ts)) c.deref.ensures.value) c.in_ok-count.ensures.1
