-- What a search holds.
use Rattle.std.specs.Prelude.{◌≡◌, []}
use Rattle.std.specs.Borrow.{MutBor, Fml, RattleType}
use Rattle.std.specs.Io.BufRead.{Rests}
use mir.Syntax.{named}
use Rattle.schedule_search.specs.SearchValues.{SearchValue}
use Rattle.schedule_search.specs.contracts.search.Search as search

-- a search is left as it was
abbrev pub Keeps : (F : RattleType) → MutBor (SearchValue F.Denot) → Fml
Keeps F s = Rests (search.the_row (record { mir = named 0; lft = [] }) F) s (λ new. new ≡ s.now)
