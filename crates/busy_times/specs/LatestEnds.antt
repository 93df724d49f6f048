-- Until when the children of each module run at the latest, with one end more or less.
use Rattle.std.specs.Prelude.{◌≡◌, ℕ, max, Option, None, Some, List, [], ◌∷◌, ◌++◌, slice_index_or, slice_set, vec_capacity}
use Rattle.busy_times.specs.declared.latest_ends.LatestEnds.{LatestEnds}

-- what stands at a place, where there is one
abbrev pub end_at : Option ℕ → List ℕ → ℕ
end_at None ends = 0
end_at (Some k) ends = slice_index_or ends k 0

-- another end at a place, where there is one
abbrev pub with_end : Option ℕ → ℕ → List ℕ → List ℕ
with_end None end ends = ends
with_end (Some k) end ends = slice_set ends k end

-- at a place the end is as late as another one or later, and what stood there is kept
pub record IsLater (place : Option ℕ) (end : ℕ) (old new : LatestEnds) : Type 0 where
  pub ends : new.ends.items ≡ with_end place (max (end_at place old.ends.items) end) old.ends.items
  pub before : new.before.items ≡ old.before.items ++ end_at place old.ends.items ∷ []
  pub room : vec_capacity new.before ≡ vec_capacity old.before

-- what was kept last stands at a place again
pub record IsBack (place : Option ℕ) (old new : LatestEnds) : Type 0 where
  pub was : ℕ
  pub before : old.before.items ≡ new.before.items ++ was ∷ []
  pub ends : new.ends.items ≡ with_end place was old.ends.items
  pub room : vec_capacity new.before ≡ vec_capacity old.before
