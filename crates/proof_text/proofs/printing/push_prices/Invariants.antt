use Rattle.std.proofs.Common.{◌≡◌, ◌++◌, drop, flat_map}
use Rattle.keyword_text.specs.Lines.{spaced_numbers}
use Rattle.proof_text.specs.ProofLines.{price_numbers}
use Rattle.proof_text.proofs.printing.push_prices.Given as goal

abbrev pub invariant-loop-price : goal.invariant-loop-price
invariant-loop-price l = l.to.items ++ spaced_numbers (flat_map price_numbers (drop l.price-index l.prices)) ≡ l.fn.to.items ++ spaced_numbers (flat_map price_numbers l.prices)
