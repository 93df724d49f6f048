use Rattle.std.proofs.Common.{◌∙◌, arith, sym}
use Rattle.soc_model.specs.Chips.{soc_value}
use Rattle.soc_model.proofs.Parents.{IsParent-from_place}
use Rattle.bound_certificate.proofs.candidates.has_live_family.Goals as goal

pub has_live_test-requires-in-Some : goal.has_live_test-requires-in-Some
has_live_test-requires-in-Some c = omega (arith, (IsParent-from_place (soc_value c.args.soc.now).modules c.in-Some.above c.args.place (sym c.requires.parent ∙ c.in-Some.is)).earlier, c.requires.place)
