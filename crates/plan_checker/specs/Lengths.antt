-- What a check leaves of the lengths of its rooms.
use Rattle.std.specs.Prelude.{◌≡◌, length}
use Rattle.plan_checker.specs.declared.space.PlacedRooms.{PlacedRooms}

-- the lists are as long as before
pub record AreAsLong (old new : PlacedRooms) : Type 0 where
  pub parents : length new.parents.items ≡ length old.parents.items
  pub wrappers : length new.wrappers.items ≡ length old.wrappers.items
  pub tests : length new.tests.items ≡ length old.tests.items
  pub begins : length new.begins.items ≡ length old.begins.items
  pub ends : length new.ends.items ≡ length old.ends.items
  pub profiles : length new.profiles.items ≡ length old.profiles.items
