use Rattle.live_tests.proofs.placed_plan.PlacedPlan.new.Goals as goal

pub invariant_of-result : goal.invariant_of-result
invariant_of-result c = record { sound = c.requires.sound; good = c.requires.good; names = c.requires.names; places = c.requires.placed }
