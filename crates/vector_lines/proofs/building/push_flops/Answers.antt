use Rattle.std.proofs.Common.{arith}
use Rattle.vector_lines.proofs.Numbering.{start_fits}
use Rattle.vector_lines.proofs.building.push_flops.Goals as goal

pub overflow_add-from : goal.overflow_add-from
overflow_add-from c =
    let f = start_fits c.args.scan c.requires.layout.starts c.requires.scan c.index.ensures in
    omega (arith, f.1, c.requires.fits)
