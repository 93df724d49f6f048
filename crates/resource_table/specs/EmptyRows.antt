-- The rows of a table in which nothing is placed, with room for all tests and their steps.
use Rattle.std.specs.Prelude.{◌≡◌, ℕ, ◌+◌, ◌≤◌, None, [], replicate, vec_capacity}
use Rattle.resource_table.specs.declared.table.Rows.{Rows}
use Rattle.resource_table.specs.Histories.{no_note, IsHistory}

pub record AreEmptyRows (tests steps : ℕ) (rows : Rows) : Type 0 where
  pub trail : rows.trail.items ≡ []
  pub trail_room : tests ≤ rows.trail.capacity
  pub ends : rows.ends.items ≡ replicate tests None
  pub lasts : rows.lasts.items ≡ []
  pub lasts_room : tests ≤ vec_capacity rows.lasts
  pub draws : rows.draws.items ≡ []
  pub draws_room : steps ≤ vec_capacity rows.draws
  pub points : rows.points.items ≡ []
  pub points_room : tests + steps ≤ vec_capacity rows.points
  pub notes : rows.bounds.values.items ≡ replicate tests no_note
  pub marks : rows.bounds.marks.items ≡ []
  pub history : IsHistory rows.bounds
  pub marks_room : tests ≤ vec_capacity rows.bounds.marks
