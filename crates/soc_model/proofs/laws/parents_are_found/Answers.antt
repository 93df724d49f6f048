use Rattle.soc_model.proofs.Parents.{IsParent-from_place, place-from_IsParent}
use Rattle.soc_model.proofs.laws.parents_are_found.Goals as goal

pub returns : goal.returns
returns c = λ modules parent place. (IsParent-from_place modules parent place, place-from_IsParent modules parent place)
