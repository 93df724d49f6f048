use Rattle.std.proofs.Common.{refl}
use Rattle.soctest.specs.Commands.{procedure_of}
use Rattle.soctest.proofs.SameCommand.{closes_as, loads_ending_as}
use Rattle.soctest.proofs.deciding.decide_testers.Goals as goal

pub returns-in-Vectors-clause-closes : goal.returns-in-Vectors-clause-closes
unfolding procedure_of
returns-in-Vectors-clause-closes g c = closes_as _ _ _ _ _ c.in-Vectors.is refl c.decide_vectors.ensures.closes

pub returns-in-Vectors-clause-by_loads : goal.returns-in-Vectors-clause-by_loads
unfolding procedure_of
returns-in-Vectors-clause-by_loads g c = loads_ending_as _ _ _ _ _ c.in-Vectors.is refl c.decide_vectors.ensures.by_loads

pub returns-in-Simulate-clause-closes : goal.returns-in-Simulate-clause-closes
unfolding procedure_of
returns-in-Simulate-clause-closes g c = closes_as _ _ _ _ _ c.in-Simulate.is c.decided.ensures c.decide_simulate.ensures.follows

pub returns-in-Simulate-clause-by_loads : goal.returns-in-Simulate-clause-by_loads
unfolding procedure_of
returns-in-Simulate-clause-by_loads g c = loads_ending_as _ _ _ _ _ c.in-Simulate.is c.decided.ensures c.decide_simulate.ensures.by_loads

pub returns-in-Data-clause-closes : goal.returns-in-Data-clause-closes
unfolding procedure_of
returns-in-Data-clause-closes g c = closes_as _ _ _ _ _ c.in-Data.is refl c.decide_data.ensures.closes

pub returns-in-Data-clause-by_loads : goal.returns-in-Data-clause-by_loads
unfolding procedure_of
returns-in-Data-clause-by_loads g c = loads_ending_as _ _ _ _ _ c.in-Data.is refl c.decide_data.ensures.by_loads

pub returns-in-Retarget-clause-closes : goal.returns-in-Retarget-clause-closes
unfolding procedure_of
returns-in-Retarget-clause-closes g c = closes_as _ _ _ _ _ c.in-Retarget.is refl c.decide_run.ensures.closes

pub returns-in-Retarget-clause-by_loads : goal.returns-in-Retarget-clause-by_loads
unfolding procedure_of
returns-in-Retarget-clause-by_loads g c = loads_ending_as _ _ _ _ _ c.in-Retarget.is refl c.decide_run.ensures.by_loads

pub returns-in-Stil-clause-closes : goal.returns-in-Stil-clause-closes
unfolding procedure_of
returns-in-Stil-clause-closes g c = closes_as _ _ _ _ _ c.in-Stil.is refl c.decide_run-in-Stil.ensures.closes

pub returns-in-Stil-clause-by_loads : goal.returns-in-Stil-clause-by_loads
unfolding procedure_of
returns-in-Stil-clause-by_loads g c = loads_ending_as _ _ _ _ _ c.in-Stil.is refl c.decide_run-in-Stil.ensures.by_loads

pub returns-in-Vcd-clause-closes : goal.returns-in-Vcd-clause-closes
unfolding procedure_of
returns-in-Vcd-clause-closes g c = closes_as _ _ _ _ _ c.in-Vcd.is refl c.decide_run-in-Vcd.ensures.closes

pub returns-in-Vcd-clause-by_loads : goal.returns-in-Vcd-clause-by_loads
unfolding procedure_of
returns-in-Vcd-clause-by_loads g c = loads_ending_as _ _ _ _ _ c.in-Vcd.is refl c.decide_run-in-Vcd.ensures.by_loads

pub returns-in-Verilog-clause-closes : goal.returns-in-Verilog-clause-closes
unfolding procedure_of
returns-in-Verilog-clause-closes g c = closes_as _ _ _ _ _ c.in-Verilog.is refl c.decide_run-in-Verilog.ensures.closes

pub returns-in-Verilog-clause-by_loads : goal.returns-in-Verilog-clause-by_loads
unfolding procedure_of
returns-in-Verilog-clause-by_loads g c = loads_ending_as _ _ _ _ _ c.in-Verilog.is refl c.decide_run-in-Verilog.ensures.by_loads
