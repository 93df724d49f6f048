use Rattle.std.proofs.Common.{◌≡◌, map, drop, reverse}
use Rattle.soc_model.specs.Chips.{soc_value}
use Rattle.soc_reader.specs.Views.{total_item}
use Rattle.soc_reader.specs.Meaning.{first_wrong}
use Rattle.soc_reader.proofs.TotalFacts.{first_of}
use Rattle.soc_reader.proofs.totals.first_wrong.Given as goal

abbrev pub invariant-loop-total : goal.invariant-loop-total
invariant-loop-total l = first_wrong (soc_value l.soc) (reverse (map total_item l.totals)) ≡ first_of (soc_value l.soc) (map total_item (drop l.total-index l.totals))
