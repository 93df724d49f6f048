use Rattle.std.proofs.Common.{◌<◌, length, rules, arith}
use Rattle.arch_schedule.specs.declared.sorting.Keyed.{Keyed}
use Rattle.arch_schedule.proofs.Written.{set_more}
use Rattle.arch_schedule.proofs.room.key_by_chains.Goals as goal
use Rattle.common_lemmas.proofs.Lists.{all_whole}

pub loop-place-preserved : goal.loop-place-preserved
loop-place-preserved c =
    let within : c.loop-place.place < length c.loop-place.keys = omega (arith, c.loop-place-test.true, c.loop-place.invariant.long, c.requires) in
    record {
      long = search rules;
      done = set_more (λ (k : Keyed). k.place < length c.args.chains.now) c.loop-place.keys c.loop-place.place _ within (omega (arith, within, c.loop-place.invariant.long)) c.loop-place.invariant.done;
    }

pub returns-clause-places : goal.returns-clause-places
returns-clause-places c = all_whole (λ (k : Keyed). k.place < length c.args.chains.now) c.loop-place.keys c.loop-place.place (omega (arith, c.loop-place-test.false)) c.loop-place.invariant.done
