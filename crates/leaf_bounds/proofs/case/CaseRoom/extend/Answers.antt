use Rattle.std.proofs.Common.{[], ◌∷◌, ◌++◌, ap, ◌∙◌}
use Rattle.leaf_bounds.specs.Cases.{interval}
use Rattle.leaf_bounds.proofs.Bits.{extended_bits}
use Rattle.leaf_bounds.proofs.case.CaseRoom.extend.Goals as goal

pub returns-clause-case : goal.returns-clause-case
returns-clause-case c = λ e is. record {
  intervals = c.add_rank.ensures.intervals ∙ ap (λ js. js ++ interval 0 c.args.self.now.widths.wires ∷ []) is.intervals;
  bits = extended_bits c.args.self.now.widths.wires c.copy_rest.ensures.may is.bits;
}
