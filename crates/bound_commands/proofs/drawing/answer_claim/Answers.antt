use Rattle.bound_commands.specs.Pictures.{claim_picture}
use Rattle.bound_commands.proofs.drawing.answer_claim.Goals as goal

pub returns-in-Err : goal.returns-in-Err
returns-in-Err c =
    let refused = c.in-Err.ensures.refused (claim_picture c.args.all.now.soc c.args.all.now.limits c.args.all.now.plan) in
    rw (c.problem.ensures.chip, c.problem.ensures.limits) at refused
