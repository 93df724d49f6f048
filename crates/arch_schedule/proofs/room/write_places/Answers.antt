use Rattle.std.proofs.Common.{◌<◌, length, rules, arith}
use Rattle.arch_schedule.proofs.Written.{set_more}
use Rattle.arch_schedule.proofs.room.write_places.Goals as goal
use Rattle.common_lemmas.proofs.Lists.{all_whole}

pub loop-place-preserved : goal.loop-place-preserved
loop-place-preserved c =
    let within : c.loop-place.place < length c.loop-place.order = omega (arith, c.loop-place-test.true, c.loop-place.invariant.long, c.requires) in
    record {
      long = search rules;
      done = λ n all. set_more (λ place. place < n) c.loop-place.order c.loop-place.place _ within (all c.loop-place.place _ (omega (arith, within, c.loop-place.invariant.long))) (c.loop-place.invariant.done n all);
    }

pub returns-clause-places : goal.returns-clause-places
returns-clause-places c = λ n all. all_whole (λ place. place < n) c.loop-place.order c.loop-place.place (omega (arith, c.loop-place-test.false)) (c.loop-place.invariant.done n all)
