use Rattle.std.proofs.Common.{◌≡◌, ℕ, Bool, ◌-◌, ◌∙◌, ap, drop, map, arith}
use Rattle.std.specs.List.{position_from}
use Rattle.std.specs.Map.{lookup}
use Rattle.plan_model.specs.Plans.{wraps}
use Rattle.plan_model.specs.Views.{wrapper_value}
use Rattle.live_tests.specs.Index.{is_pair}
use Rattle.live_tests.proofs.Indexed.{wrappers_more, wrappers_all}
use Rattle.live_tests.proofs.index.wrappers_by_mode.Goals as goal

pub loop-place-preserved : goal.loop-place-preserved
loop-place-preserved c =
    wrappers_more c.args.wrappers.now (c.loop-place.place - 1) c.loop-place.place c.index-wrappers-place.result (λ (m : ℕ) (scan : Bool). lookup (is_pair m scan) c.loop-place.named.entries) (λ (m : ℕ) (scan : Bool). lookup (is_pair m scan) c.insert.new.self.entries)
    (omega (arith, c.loop-place-test.true)) (omega (arith, c.loop-place-test.true, c.loop-place.auto.place)) c.index-wrappers-place.is c.loop-place.invariant (λ m scan. c.in_ok-insert.ensures.updates.0 (m, scan))

pub returns : goal.returns
returns c = λ m scan.
    let zero : c.loop-place.place ≡ 0 = omega (arith, c.loop-place-test.false) in
    c.loop-place.invariant m scan ∙ ap (λ n. position_from (wraps m scan) n (drop n (map wrapper_value c.args.wrappers.now))) zero ∙ wrappers_all (map wrapper_value c.args.wrappers.now) m scan
