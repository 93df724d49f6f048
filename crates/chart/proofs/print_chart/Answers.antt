use Rattle.chart.proofs.print_chart.Goals as goal

pub returns : goal.returns
returns c = rw (c.new-placed.ensures.chip, c.new-placed.ensures.plan) at c.in_ok-text.ensures
