use Rattle.std.proofs.Common.{refl, ap, ◌∙◌}
use Rattle.leaf_bounds.specs.Cases.{spare, tightened, tightened_by}
use Rattle.leaf_bounds.proofs.Trails.{tight_length}
use Rattle.leaf_bounds.proofs.Bits.{bits_same}
use Rattle.leaf_bounds.proofs.case.CaseRoom.tighten.Goals as goal

pub returns-clause-case : goal.returns-clause-case
returns-clause-case c = λ e is. record {
  intervals = c.tighten_ranks.ensures.intervals ∙ ap (λ js. tightened_by (spare c.args.self.now.widths.wires js) js) is.intervals;
  bits = bits_same e (tightened c.args.self.now.widths.wires e)
      (tight_length (spare c.args.self.now.widths.wires e.intervals) e.intervals) refl refl is.bits;
}
