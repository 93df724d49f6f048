-- Items of a list by their places.
use Rattle.std.proofs.Common.{◌≡◌, ℕ, zero, suc, ◌<◌, List, [], ◌∷◌, length, get_or, refl, arith, Contains}
use Rattle.common_lemmas.proofs.Lists.{any_default}

pub at_place : (xs : List ℕ) (k d : ℕ) → k < length xs → Contains xs (get_or xs k d)
at_place xs k d less = (k, less, any_default xs k (get_or xs k d) d less)
