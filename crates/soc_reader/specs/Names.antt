-- The names of modules that a text gives, found by the modules' numbers.
use Rattle.std.specs.Prelude.{ℕ, List, Bool, false, not, nat_eq, option_map, Option, None, Some}
use Rattle.std.specs.Cmp.Lexicographic.{pointwise}
use Rattle.indexmap.specs.IndexMap.{IndexMap, get}
use denote.Bor.{Bor}

-- the name that a module was given
abbrev pub name_in : {S : Type 0} → IndexMap ℕ (Bor (List ℕ)) S → ℕ → Option (List ℕ)
name_in names m = option_map (λ (v : Bor (List ℕ)). v.now) (get nat_eq names m)

-- a name was given, and it is another than this
abbrev pub is_other_name : Option (List ℕ) → List ℕ → Bool
is_other_name None w = false
is_other_name (Some v) w = not (pointwise nat_eq w v)
