-- The room of a case: what case it has, and how it is gone back to an earlier one.
use Rattle.std.specs.Prelude.{◌≡◌, ◌+◌, ◌*◌, ◌^◌, ◌<◌, length}
use Rattle.leaf_bounds.specs.declared.case.CaseRoom.{CaseRoom}
use Rattle.leaf_bounds.specs.declared.case.Mark.{Mark}
use Rattle.leaf_bounds.specs.Cases.{Case}
use Rattle.leaf_bounds.specs.Trails.{IsRoomy, IsLater, IsBack}
use Rattle.leaf_bounds.specs.Takings.{HasSpace, IsAfter, IsRestored}
use Rattle.leaf_bounds.specs.Bits.{HasBits}

-- there is room for each rank that may still come, and to note each change
pub record HasCase (room : CaseRoom) : Type 0 where
  pub roomy : IsRoomy room.widths
  pub space : HasSpace room.ranks
  pub modules : room.modules < 2 ^ 40
  pub most : room.ranks.most ≡ (room.widths.most + 1) * room.modules

-- the room has this case, as far as modules of the chip and known ranks go
pub record IsCaseOf (room : CaseRoom) (c : Case) : Type 0 where
  pub intervals : room.widths.intervals.items ≡ c.intervals
  pub bits : HasBits room.modules room.ranks.may.items c

-- the one is the other after some changes, all of which are noted
pub record IsFurther (before after : CaseRoom) : Type 0 where
  pub widths : IsLater before.widths after.widths
  pub ranks : IsAfter before.ranks after.ranks
  pub modules : after.modules ≡ before.modules

-- the mark says how much is noted in a room
pub record IsMark (mark : Mark) (room : CaseRoom) : Type 0 where
  pub changes : length room.widths.trail.items ≡ mark.changes
  pub takings : length room.ranks.trail.items ≡ mark.takings
  pub places : length room.ranks.may.items ≡ mark.places

-- all changes since are undone
pub record IsSame (before after : CaseRoom) : Type 0 where
  pub widths : IsBack before.widths after.widths
  pub ranks : IsRestored before.ranks after.ranks
  pub modules : after.modules ≡ before.modules
