use Rattle.std.proofs.Common.{map}
use Rattle.soc_model.specs.Chips.{soc_value}
use Rattle.soc_reader.specs.Views.{total_item}
use Rattle.soc_reader.proofs.TotalFacts.{first_in_order}
use Rattle.soc_reader.proofs.totals.first_wrong.Goals as goal

pub loop-total-init : goal.loop-total-init
loop-total-init c = first_in_order (soc_value c.args.soc.now) (map total_item c.args.totals.now)
