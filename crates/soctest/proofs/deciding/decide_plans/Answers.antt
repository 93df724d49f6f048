use Rattle.std.specs.FinMap.{empty}
use Rattle.std.proofs.Common.{Some}
use Rattle.commands.proofs.LoadStages.{at_end, reads_nothing}
use Rattle.plan_commands.specs.Procedures.{sample_procedure, sample_refusal, done_with_sample}
use Rattle.soctest.specs.Commands.{procedure_of}
use Rattle.soctest.proofs.SameCommand.{decides_as, loads_as}
use Rattle.soctest.proofs.deciding.decide_plans.Goals as goal

pub returns-in-Print-clause-decides : goal.returns-in-Print-clause-decides
unfolding procedure_of
returns-in-Print-clause-decides g c = decides_as _ _ _ _ c.in-Print.is c.decide_print.ensures.follows

pub returns-in-Print-clause-by_loads : goal.returns-in-Print-clause-by_loads
unfolding procedure_of
returns-in-Print-clause-by_loads g c = loads_as _ _ _ _ c.in-Print.is c.decide_print.ensures.by_loads

pub returns-in-Widths-clause-decides : goal.returns-in-Widths-clause-decides
unfolding procedure_of
returns-in-Widths-clause-decides g c = decides_as _ _ _ _ c.in-Widths.is c.decide_widths.ensures.follows

pub returns-in-Widths-clause-by_loads : goal.returns-in-Widths-clause-by_loads
unfolding procedure_of
returns-in-Widths-clause-by_loads g c = loads_as _ _ _ _ c.in-Widths.is c.decide_widths.ensures.by_loads

pub returns-in-Plan-clause-decides : goal.returns-in-Plan-clause-decides
unfolding procedure_of
returns-in-Plan-clause-decides g c = decides_as _ _ _ _ c.in-Plan.is c.decide_plan.ensures.follows

pub returns-in-Plan-clause-by_loads : goal.returns-in-Plan-clause-by_loads
unfolding procedure_of
returns-in-Plan-clause-by_loads g c = loads_as _ _ _ _ c.in-Plan.is c.decide_plan.ensures.by_loads

pub returns-in-Check-clause-decides : goal.returns-in-Check-clause-decides
unfolding procedure_of
returns-in-Check-clause-decides g c = decides_as _ _ _ _ c.in-Check.is c.decide_check.ensures.follows

pub returns-in-Check-clause-by_loads : goal.returns-in-Check-clause-by_loads
unfolding procedure_of
returns-in-Check-clause-by_loads g c = loads_as _ _ _ _ c.in-Check.is c.decide_check.ensures.by_loads

pub returns-in-Chart-clause-decides : goal.returns-in-Chart-clause-decides
unfolding procedure_of
returns-in-Chart-clause-decides g c = decides_as _ _ _ _ c.in-Chart.is c.decide_chart.ensures.follows

pub returns-in-Chart-clause-by_loads : goal.returns-in-Chart-clause-by_loads
unfolding procedure_of
returns-in-Chart-clause-by_loads g c = loads_as _ _ _ _ c.in-Chart.is c.decide_chart.ensures.by_loads

pub returns-in-Report-clause-decides : goal.returns-in-Report-clause-decides
unfolding procedure_of
returns-in-Report-clause-decides g c = decides_as _ _ _ _ c.in-Report.is c.decide_report.ensures.follows

pub returns-in-Report-clause-by_loads : goal.returns-in-Report-clause-by_loads
unfolding procedure_of
returns-in-Report-clause-by_loads g c = loads_as _ _ _ _ c.in-Report.is c.decide_report.ensures.by_loads

pub returns-in-Sample-clause-decides : goal.returns-in-Sample-clause-decides
unfolding procedure_of
returns-in-Sample-clause-decides g c = decides_as _ _ _ _ c.in-Sample.is (c.decide_sample.ensures (g.H.Shelf.held c.args.shelf.now) (g.H.Shelf.faults c.args.shelf.now) (g.H.Shelf.faults c.args.shelf.now))

pub returns-in-Sample-clause-by_loads : goal.returns-in-Sample-clause-by_loads
unfolding procedure_of
returns-in-Sample-clause-by_loads g c =
    loads_as _ _ _ _ c.in-Sample.is (at_end g.H.Shelf.is_load (sample_procedure c.in-Sample.n c.in-Sample.seed) empty 0 0 c.decide_sample.result c.args.shelf.now
    (reads_nothing (sample_refusal c.in-Sample.n) (done_with_sample c.in-Sample.n c.in-Sample.seed) tt) (c.decide_sample.ensures (Some empty) 0 0))

pub returns-in-Locate-clause-decides : goal.returns-in-Locate-clause-decides
unfolding procedure_of
returns-in-Locate-clause-decides g c = decides_as _ _ _ _ c.in-Locate.is c.decide_locate.ensures.follows

pub returns-in-Locate-clause-by_loads : goal.returns-in-Locate-clause-by_loads
unfolding procedure_of
returns-in-Locate-clause-by_loads g c = loads_as _ _ _ _ c.in-Locate.is c.decide_locate.ensures.by_loads

pub returns-in-Split-clause-decides : goal.returns-in-Split-clause-decides
unfolding procedure_of
returns-in-Split-clause-decides g c = decides_as _ _ _ _ c.in-Split.is c.decide_split.ensures.follows

pub returns-in-Split-clause-by_loads : goal.returns-in-Split-clause-by_loads
unfolding procedure_of
returns-in-Split-clause-by_loads g c = loads_as _ _ _ _ c.in-Split.is c.decide_split.ensures.by_loads

pub returns-in-Shift-clause-decides : goal.returns-in-Shift-clause-decides
unfolding procedure_of
returns-in-Shift-clause-decides g c = decides_as _ _ _ _ c.in-Shift.is c.decide_shift.ensures.follows

pub returns-in-Shift-clause-by_loads : goal.returns-in-Shift-clause-by_loads
unfolding procedure_of
returns-in-Shift-clause-by_loads g c = loads_as _ _ _ _ c.in-Shift.is c.decide_shift.ensures.by_loads
