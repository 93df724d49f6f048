use Rattle.std.proofs.Common.{rules}
use Rattle.plan_model.specs.Proofs.{weights_value}
use Rattle.proof_text.proofs.PrintedProofs.{weights_written_if}
use Rattle.proof_text.proofs.printing.push_weights.Goals as goal

pub returns : goal.returns
returns c =
    weights_written_if (weights_value c.args.weights.now) c.args.to.now.items c.push_spaced.new.to.items c.push_numbers.new.to.items c.push_uses.new.to.items c.push_uses.result
    (search rules) (search rules) (search rules)
