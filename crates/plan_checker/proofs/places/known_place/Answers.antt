use Rattle.std.proofs.Common.{refl}
use Rattle.soc_model.specs.Chips.{soc_value, numbers}
use Rattle.common_lemmas.proofs.Lists.{contains_at}
use Rattle.plan_checker.proofs.places.known_place.Goals as goal

pub unreachable-requires : goal.unreachable-requires
unreachable-requires c = let k = contains_at (numbers (soc_value c.args.soc.now)) c.args.number c.requires.known in c.in-None.ensures.none k.0 c.args.number k.1 refl
