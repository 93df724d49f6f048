use Rattle.std.proofs.Common.{ap, arith, slice_index, sum_by}
use Rattle.vector_lines.proofs.Numbering.{long_loads}
use Rattle.vector_lines.proofs.building.loads_of.Goals as goal

pub new-requires-clause-long : goal.new-requires-clause-long
new-requires-clause-long c =
    let long = long_loads c.push_numbers.new.runs.items c.push_scans.new.runs.items c.args.ins_from c.args.layout.now.lengths.items c.deref.result.now c.new-loads.ensures.items c.args.chain.now.ins c.args.inputs c.in_ok-push_numbers.ensures.numbers c.in_ok-push_scans.ensures.numbers in
    omega (arith, long, c.requires.long, ap (sum_by (slice_index c.args.layout.now.lengths.items)) c.deref.ensures.value)
