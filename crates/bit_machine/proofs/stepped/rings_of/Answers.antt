use Rattle.std.proofs.Common.{◌∙◌, ap, replicate, false}
use Rattle.std.proofs.lemmas.List.{take_all}
use Rattle.bit_machine.specs.Lanes.{resting_bits}
use Rattle.vector_lines.specs.declared.path.Path.{Path}
use Rattle.vector_lines.proofs.Layouts.{mapped_more}
use Rattle.bit_machine.proofs.stepped.rings_of.Goals as goal

pub loop-path-preserved : goal.loop-path-preserved
loop-path-preserved c =
    mapped_more (λ (p : Path). replicate p.cells false) c.args.paths.now c.loop-path.path-index c.loop-path-test.true c.path-item.is c.loop-path.invariant c.in_ok-zeros.ensures c.in_ok-push.ensures.ok

pub returns : goal.returns
returns c = c.loop-path.invariant ∙ ap resting_bits (take_all c.loop-path.path-index c.args.paths.now c.loop-path-test.false)
