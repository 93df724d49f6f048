use Rattle.limits_text.specs.Items.{gives_amount}
use Rattle.limits_text.proofs.WordFacts.{some_done}
use Rattle.limits_text.proofs.collect.has_amount.Goals as goal

pub returns : goal.returns
returns c = some_done (gives_amount c.args.amount) c.args.items.now.list.items c.as_slice.result.now c.some_gives.result c.as_slice.ensures.value c.some_gives.ensures
