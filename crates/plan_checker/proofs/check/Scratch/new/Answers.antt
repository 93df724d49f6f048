use Rattle.soc_model.specs.Chips.{soc_value}
use Rattle.plan_checker.proofs.RoomSizes.{has_room}
use Rattle.plan_checker.proofs.check.Scratch.new.Goals as goal

pub returns : goal.returns
returns c = has_room c.sized.result (soc_value c.args.soc.now) c.in-Some.sizes c.sized.ensures c.in-Some.ensures
