use Rattle.schedule_search.proofs.placing.place_next.Goals as goal

pub place-requires : goal.place-requires
place-requires g c = record {
  in_job = c.requires.in_job;
  new = c.requires.new;
  ready = c.requires.ready;
  fits = c.earliest-start.ensures.earliest.fits;
  ends = c.list_schedules_are_short.ensures.fits c.args.table.now c.args.test c.earliest-start.result c.earliest-start.ensures.sound c.requires.list c.requires.in_job c.requires.new c.earliest-start.ensures.earliest;
}

pub returns-clause-ends : goal.returns-clause-ends
returns-clause-ends g c = c.list_schedules_are_short.ensures.fits c.args.table.now c.args.test c.earliest-start.result c.earliest-start.ensures.sound c.requires.list c.requires.in_job c.requires.new c.earliest-start.ensures.earliest
