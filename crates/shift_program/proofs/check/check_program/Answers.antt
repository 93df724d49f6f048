use Rattle.soc_model.specs.Chips.{module_value}
use Rattle.plan_model.specs.Views.{wrapper_value}
use Rattle.shift_program.proofs.Exact.{counted_by, checked_right, checked_exact, checked_least, IsCounted}
use Rattle.shift_program.proofs.check.check_program.Goals as goal

abbrev counted : (c : goal.After-count_operations) → IsCounted (module_value c.args.«module».now) c.args.test.now (wrapper_value c.args.wrapper.now) c.args.program.now.entries.items c.count_operations.result
counted c =
    counted_by (module_value c.args.«module».now) c.args.test.now (wrapper_value c.args.wrapper.now) c.lengths-si.result.0 c.lengths-si.result.1 c.args.program.now.entries.items c.deref.result.now c.count_operations.result
    c.lengths-si.ensures.si c.lengths-si.ensures.so c.deref.ensures.value c.count_operations.ensures.operations c.count_operations.ensures.faultless c.count_operations.ensures.fault

pub returns-clause-right : goal.returns-clause-right
returns-clause-right c =
    checked_right c.faultless_programs_are_right.ensures.right (module_value c.args.«module».now) c.args.test.now (wrapper_value c.args.wrapper.now) c.args.program.now.entries.items c.count_operations.result c.requires.live (counted c)

pub returns-clause-exact : goal.returns-clause-exact
returns-clause-exact c =
    checked_exact c.faultless_programs_are_right.ensures.faultless (module_value c.args.«module».now) c.args.test.now (wrapper_value c.args.wrapper.now) c.args.program.now.entries.items c.count_operations.result c.requires.lasting (counted c)

pub returns-clause-least : goal.returns-clause-least
returns-clause-least c =
    checked_least c.faultless_programs_are_right.ensures.right c.faultless_programs_are_right.ensures.long (module_value c.args.«module».now) c.args.test.now (wrapper_value c.args.wrapper.now) c.args.program.now.entries.items c.count_operations.result c.requires.live c.requires.lasting (counted c)
