use Rattle.plan_model.proofs.ByDivision.{setup_moment}
use Rattle.plan_model.proofs.moments.Phases.at.Goals as goal

pub returns-then-cycle-self : goal.returns-then-cycle-self
returns-then-cycle-self c = setup_moment c.args.self.now c.args.cycle c.if-cycle-self.true
