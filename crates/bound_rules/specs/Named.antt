-- Live tests by their numbers.
use Rattle.std.specs.Prelude.{ℕ, Bool, ◌&&◌, nat_eq}
use Rattle.soc_model.specs.declared.Test.{Test}
use Rattle.soc_model.specs.Chips.{is_live}

-- live, and of this number
abbrev pub is_named : ℕ → Test → Bool
is_named number t = is_live t && nat_eq t.number number
