use Rattle.std.proofs.Common.{◌∙◌, ap, length}
use Rattle.std.proofs.lemmas.List.{length-map}
use Rattle.resource_table.specs.Jobs.{test_value}
use Rattle.arch_schedule.proofs.Refilled.{with_chains}
use Rattle.arch_search.proofs.weighing.could_end.Goals as goal

pub returns-then-longest-most-clause-room : goal.returns-then-longest-most-clause-room
returns-then-longest-most-clause-room c = with_chains (length c.args.setting.now.problem.now.tests.items) c.args.room.now c.set_chains-longest.new.chains c.requires.room

pub draw_too_much-requires : goal.draw_too_much-requires
draw_too_much-requires c = ap length c.deref-in-Some.ensures.value ∙ c.requires.room.cycles ∙ c.requires.setting.problem.tests ∙ length-map c.args.setting.now.job.now.tests.items test_value

pub returns-in-Some-clause-room : goal.returns-in-Some-clause-room
returns-in-Some-clause-room c = with_chains (length c.args.setting.now.problem.now.tests.items) c.args.room.now c.set_chains-longest.new.chains c.requires.room

pub returns-in-None-clause-room : goal.returns-in-None-clause-room
returns-in-None-clause-room c = with_chains (length c.args.setting.now.problem.now.tests.items) c.args.room.now c.set_chains-longest.new.chains c.requires.room
