use Rattle.std.proofs.Common.{◌∙◌, ◌≤◌, ℕ, get_or, arith, length-set}
use Rattle.std.proofs.lemmas.List.Elements.{All-set}
use Rattle.plan_model.specs.declared.TheConstants.{START_MOST}
use Rattle.arch_schedule.proofs.scheduling.place_all.Goals as goal

pub loop-place-preserved : goal.loop-place-preserved
loop-place-preserved g c =
    let test : ℕ = get_or c.args.order.now c.loop-place.place 0 in
    let starts = c.loop-place.room.starts.items in
    record {
      job = c.place_next.ensures.job ∙ c.loop-place.invariant.job;
      list = c.place_next.ensures.list;
      sound = c.place_next.ensures.sound;
      cycles = c.loop-place.invariant.cycles;
      room =
          (let has = c.loop-place.invariant.room in
          record {
            slots = has.slots;
            cycles = has.cycles;
            chains = has.chains;
            starts = length-set starts test c.in-Some.start ∙ has.starts;
            keys = has.keys;
            second = has.second;
            in_slots = has.in_slots;
            small_starts = All-set (λ s. s ≤ START_MOST) starts test c.in-Some.start (omega (arith, c.in-Some.ensures.ends)) has.small_starts;
            in_second = has.in_second;
          });
    }
