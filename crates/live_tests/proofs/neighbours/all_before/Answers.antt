use Rattle.std.proofs.Common.{ℕ, ◌<◌, refl, rules}
use Rattle.std.proofs.lemmas.List.Elements.{All-get_or}
use Rattle.live_tests.proofs.Sides.{sides_more}
use Rattle.live_tests.proofs.neighbours.all_before.Goals as goal

pub loop-first-preserved : goal.loop-first-preserved
loop-first-preserved c =
    sides_more (λ (e : ℕ × ℕ). e.1) (λ (e : ℕ × ℕ). e.0) c.args.count c.loop-first.lists.items c.args.pairs.now c.loop-first.first-index _ c.index_mut.result.now (record { tests = c.push.new.to }) c.loop-first.invariant.0 c.loop-first.invariant.1 c.loop-first-test.true
    refl (All-get_or (λ (e : ℕ × ℕ). (e.0 < c.args.count) × (e.1 < c.args.count)) c.args.pairs.now c.loop-first.first-index (0, 0) c.loop-first-test.true c.requires).1 c.index_mut.ensures.value (search rules)
