use Rattle.std.proofs.Common.{◌+◌, ◌∙◌, ap, length, arith}
use Rattle.vector_lines.proofs.Numbering.{new_path, length-loads}
use Rattle.vector_lines.proofs.building.path_of.Goals as goal

pub returns : goal.returns
returns c = λ o start.
    new_path c.args.layout.now.lengths.items c.args.inputs c.args.ins_from o c.args.chain.now.ins c.args.chain.now.outs c.args.chain.now.scans.items
    (record { cells = c.len.result + c.args.chain.now.outs; loads = c.in_ok-loads.loads; answers = c.in_ok-answers.answers }) c.in_ok-loads.ensures c.in_ok-answers.ensures start (omega (arith, c.len.ensures))

pub overflow_add-cells : goal.overflow_add-cells
overflow_add-cells c =
    let long = ap length c.in_ok-loads.ensures ∙ length-loads c.args.inputs c.args.layout.now.lengths.items c.args.ins_from c.args.chain.now.ins c.args.chain.now.scans.items in
    omega (arith, c.len.ensures, long, c.requires.long)
