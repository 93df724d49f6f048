use Rattle.std.proofs.Common.{ap, arith, slice_index, sum_by}
use Rattle.vector_lines.proofs.Numbering.{long_answers}
use Rattle.vector_lines.proofs.building.answers_of.Goals as goal

pub new-requires-clause-long : goal.new-requires-clause-long
new-requires-clause-long c =
    let long = long_answers c.push_scans.new.runs.items c.push_numbers.new.runs.items c.args.outs_from c.args.layout.now.lengths.items c.deref.result.now c.new-answers.ensures.items c.args.chain.now.outs c.in_ok-push_scans.ensures.numbers c.in_ok-push_numbers.ensures.numbers in
    omega (arith, long, c.requires.long, ap (sum_by (slice_index c.args.layout.now.lengths.items)) c.deref.ensures.value)
