-- What a frame holds and lends, and what a table of one's own lends.
use Rattle.std.specs.Prelude.{ℕ, []}
use Rattle.std.specs.Borrow.{Lends, MutBor, Fml, RattleType}
use mir.Syntax.{named}
use base.Fml.{GName}
use Rattle.resource_table.specs.Schedules.{TableValue}
use Rattle.resource_table.specs.declared.frame.FrameOf.{FrameOf}
use Rattle.resource_table.specs.contracts.frame.FrameOf as frame
use Rattle.resource_table.specs.contracts.own.OwnTable as own
use Rattle.resource_table.specs.contracts.table.TableOf as table

-- the table of a frame
abbrev pub table_of : {J : Type 0} → FrameOf J → TableValue
table_of f = f.table.now

-- the name of the reference that a frame holds
abbrev pub name_of : {J : Type 0} → FrameOf J → GName
name_of f = f.table.ghost_name

-- how many tests were placed before
abbrev pub before_of : {J : Type 0} → FrameOf J → ℕ
before_of f = f.before

-- a frame with another table behind its reference
abbrev pub with_table : {J : Type 0} → FrameOf J → TableValue → FrameOf J
with_table f t = record f { table = record f.table { now = t } }

-- the frame ends with the last table behind r
abbrev pub LendsTable : (J : RattleType) → MutBor (FrameOf J.Denot) → MutBor TableValue → Fml
LendsTable J f r = Lends (frame.the_row (record { mir = named 0; lft = [] }) J) (table.the_row J) f r (with_table f.now)

-- a table of one's own ends as the last table behind r
abbrev pub LendsOwn : (J : RattleType) → MutBor TableValue → MutBor TableValue → Fml
LendsOwn J t r = Lends (own.the_row J) (table.the_row J) t r (λ last. last)
