-- What is reported of a search, line by line, and when nothing is.
use Rattle.std.specs.Prelude.{ℕ, ◌<◌, List, Option, codes}
use Rattle.commands.specs.Progress.{MayAdd, MayReport as MayReportAny, reported_line}
use Rattle.plan_improver.specs.declared.progress.TheConstants.{REPORTED_FROM}

-- a line may be added with the number of tries and the best cycles so far
abbrev pub MayPass : (tries : ℕ) → (old new : Option (List ℕ)) → Type 0
MayPass tries old new = (cycles : ℕ) × MayAdd (reported_line (codes "tries ") tries (codes " cycles ") cycles) old new

-- each tenth of the tries may be reported, or nothing
abbrev pub MayReport : (tries : ℕ) → (old new : Option (List ℕ)) → Type 0
MayReport tries old new = MayReportAny MayPass tries old new

-- nothing is reported of few tries
abbrev pub IsQuiet : (tries : ℕ) → Type 0
IsQuiet tries = tries < REPORTED_FROM
