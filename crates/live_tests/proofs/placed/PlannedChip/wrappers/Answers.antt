use Rattle.std.proofs.Common.{◌∙◌, ◌+◌, ◌∷◌, [], List, ap, length, subst, sym, arith}
use Rattle.std.proofs.lemmas.List.{length-append}
use Rattle.soc_model.specs.Chips.{soc_value, module_value}
use Rattle.live_tests.specs.declared.wrapped.ModeWrappers.{ModeWrappers}
use Rattle.live_tests.proofs.FoundPlaced.{AreWalkedSoFar, walked_more}
use Rattle.live_tests.proofs.placed.PlannedChip.wrappers.Goals as goal

pub loop-place-preserved : goal.loop-place-preserved
loop-place-preserved c = (
  ap (λ (l : List ModeWrappers). length l) c.in_ok-push.ensures.ok ∙ length-append c.loop-place.wrappers.items (c.new.result ∷ []) ∙ ap (λ n. n + 1) c.loop-place.invariant.0,
  subst (AreWalkedSoFar (soc_value c.args.self.now.soc.now) c.args.self.now.index.now) (sym c.in_ok-push.ensures.ok)
      (walked_more (soc_value c.args.self.now.soc.now) c.args.self.now.index.now c.loop-place.wrappers.items c.loop-place.place (module_value c.module_at-module.result.now) c.new.result c.loop-place.invariant.0 c.module_at-module.ensures c.new.ensures c.loop-place.invariant.1),
)

pub returns : goal.returns
returns c = record { long = omega (arith, c.loop-place-test.false, c.loop-place.invariant.0, c.module_count-count.ensures); are = c.loop-place.invariant.1 }
