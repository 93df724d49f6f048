use Rattle.std.proofs.Common.{inl, inr, refl, arith}
use Rattle.soc_model.specs.Chips.{soc_value}
use Rattle.split_plan.proofs.ChipOfParts.{size_kept, tests_passed, work_passed}
use Rattle.split_plan.proofs.numbers.check_numbers.Goals as goal

pub returns-then-tests-from-clause-refused : goal.returns-then-tests-from-clause-refused
returns-then-tests-from-clause-refused c = λ limits bounds.
    (tests_passed (soc_value c.args.soc.now) limits c.args.most c.count_all-tests.result c.requires.sound c.count_all-tests.ensures (omega arith), inl refl)

pub returns-then-work-from-clause-refused : goal.returns-then-work-from-clause-refused
returns-then-work-from-clause-refused c = λ limits bounds.
    let tests = c.count_all-tests.ensures in
    (work_passed (soc_value c.args.soc.now) limits c.args.most c.total_work-work.result c.requires.sound bounds c.requires.some (omega arith) c.total_work-work.ensures (omega arith), inr refl)

pub returns-clause-fits : goal.returns-clause-fits
returns-clause-fits c = λ limits bounds.
    let tests = c.count_all-tests.ensures in
    let work = c.total_work-work.ensures in
    size_kept (soc_value c.args.soc.now) limits c.args.most c.requires.sound bounds c.requires.some (omega arith) (omega arith)
