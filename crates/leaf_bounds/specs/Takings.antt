-- What is taken from the ranks that modules may be on, and how it is given back.
use Rattle.std.specs.Prelude.{◌≡◌, ℕ, ◌+◌, ◌≤◌, Bool, true, false, List, [], ◌∷◌, ◌++◌, length, take, slice_set, slice_index_or, vec_capacity}
use Rattle.std.specs.List.{count_by}
use Rattle.leaf_bounds.specs.declared.ranks.Ranks.{Ranks}

-- whether what stands at a place is left
abbrev pub bit_at : List Bool → ℕ → Bool
bit_at bits at = slice_index_or bits at false

-- what was left before some places were taken away, from what is left after the last of them
abbrev pub given_back : List Bool → List ℕ → List Bool
given_back bits [] = bits
given_back bits (at ∷ more) = slice_set (given_back bits more) at true

-- the one is the other after some places were taken away, which are noted, and after some ranks more
pub record IsAfter (before after : Ranks) : Type 0 where
  pub taken : List ℕ
  pub trail : after.trail.items ≡ before.trail.items ++ taken
  pub longer : length before.may.items ≤ length after.may.items
  pub front : take (length before.may.items) (given_back after.may.items taken) ≡ before.may.items
  pub most : after.most ≡ before.most
  pub room : vec_capacity after.may ≡ vec_capacity before.may
  pub trail_room : vec_capacity after.trail ≡ vec_capacity before.trail

-- there is room for each place, and to note each that is left
pub record HasSpace (r : Ranks) : Type 0 where
  pub known : length r.may.items ≤ r.most
  pub noted : length r.trail.items + count_by (λ b. b) r.may.items ≤ length r.may.items
  pub room : r.most ≤ vec_capacity r.may
  pub trail_room : r.most ≤ vec_capacity r.trail

-- what was taken from the one is given back in the other
pub record IsRestored (before after : Ranks) : Type 0 where
  pub may : after.may.items ≡ before.may.items
  pub trail : after.trail.items ≡ before.trail.items
  pub space : HasSpace after
  pub after_it : IsAfter before after

-- all that is noted behind what the one notes is given back in the other
pub record IsGivenBack (before after : Ranks) : Type 0 where
  pub after_it : IsAfter before after
  pub long : length after.trail.items ≡ length before.trail.items
