use Rattle.std.proofs.Common.{◌≡◌, ◌+◌, ◌≤◌, ◌^◌, ℕ, false, sym, subst}
use Rattle.resource_table.specs.Jobs.{cycles_of}
use Rattle.resource_table.specs.Schedules.{TableValue, is_placed, IsListSchedule}
use Rattle.arch_schedule.proofs.scheduling.place_next.Goals as goal

pub place_at-requires : goal.place_at-requires
place_at-requires g c =
    let new : is_placed c.args.table.now.placed c.args.test ≡ false = c.is_next.ensures.new c.if-not-is_next.false in
    record {
      in_job = c.requires.in_job;
      new = new;
      ready = c.is_next.ensures.ready c.if-not-is_next.false;
      fits = c.earliest-start.ensures.earliest.fits;
      ends = c.list_schedules_are_short.ensures.fits c.args.table.now c.args.test c.earliest-start.result c.earliest-start.ensures.sound c.requires.list c.requires.in_job new c.earliest-start.ensures.earliest;
    }

ends : (start cycles own : ℕ) → cycles ≡ own → start + own ≤ 10 ^ 18 → start + cycles ≤ 10 ^ 18
ends start cycles own is small = rw is small

pub returns-clause-ends : goal.returns-clause-ends
returns-clause-ends g c =
    ends c.earliest-start.result c.args.cycles (cycles_of c.args.table.now.job c.args.test) c.requires.cycles
    (c.list_schedules_are_short.ensures.fits c.args.table.now c.args.test c.earliest-start.result c.earliest-start.ensures.sound c.requires.list c.requires.in_job (c.is_next.ensures.new c.if-not-is_next.false) c.earliest-start.ensures.earliest)

pub returns-clause-list : goal.returns-clause-list
returns-clause-list g c =
    subst (λ (t : TableValue). IsListSchedule t.job t.placed) (sym c.place_at.ensures.table)
    (c.list_schedules_are_short.ensures.next c.args.table.now.job c.args.table.now.placed c.args.test c.earliest-start.result c.requires.list c.earliest-start.ensures.earliest)
