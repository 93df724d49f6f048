use Rattle.std.proofs.Common.{rules}
use Rattle.plan_model.specs.Proofs.{pricing_value}
use Rattle.proof_text.proofs.PrintedProofs.{prices_written_if}
use Rattle.proof_text.proofs.printing.push_pricing.Goals as goal

pub returns : goal.returns
returns c =
    prices_written_if (pricing_value c.args.pricing.now) c.args.to.now.items c.push_spaced.new.to.items c.push_prices.new.to.items c.push_uses.new.to.items c.push_uses.result
    (search rules) (search rules) (search rules)
