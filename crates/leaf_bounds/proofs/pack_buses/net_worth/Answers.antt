use Rattle.std.proofs.Common.{length, ap, ◌∙◌}
use Rattle.leaf_bounds.specs.PackLeaves.{list_weights}
use Rattle.leaf_bounds.proofs.PackSteps.{net_is}
use Rattle.leaf_bounds.proofs.pack_buses.net_worth.Goals as goal

pub returns-clause-net : goal.returns-clause-net
returns-clause-net c = λ k pricing of ready.
    net_is c.args.basis.now k pricing c.args.item.place c.args.item.price c.args.bus.rank c.args.bus.width c.known_ranks.result c.module_cost-uses.result c.beyond.result c.bus_rank-rank.result
    c.beyond.ensures.net (c.module_cost-uses.ensures.cost (list_weights pricing) ready) c.bus_rank-rank.ensures (c.known_ranks.ensures ∙ ap length of.intervals)
