use Rattle.std.proofs.Common.{◌+◌, refl}
use Rattle.plan_model.proofs.ByDivision.{first_moment}
use Rattle.plan_model.proofs.moments.Phases.before_all.Goals as goal

pub returns : goal.returns
returns c = first_moment c.args.self.now (c.args.self.now.setup + c.args.shifted) c.args.shifted c.requires.phases.some c.requires.active refl
