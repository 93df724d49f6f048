-- What is reported while a command is decided.
use Rattle.std.specs.Prelude.{◌≡◌, ℕ, List, Option, None, Some}
use Rattle.commands.specs.Commands.{CommandValue, Improve, Prove}
use Rattle.plan_improver.specs.Reports.{IsQuiet as IsQuietImprove, MayReport as MayReportImprove}
use Rattle.bound_prover.specs.Reports.{IsQuiet as IsQuietProve, MayReport as MayReportProve}

-- nothing is reported of a command: of `improve` and `prove` where their search is short, and never of another one
abbrev pub IsQuietOf : CommandValue → Type 0
IsQuietOf (Improve soc limits plan tries seed) = IsQuietImprove tries
IsQuietOf (Prove soc limits plan nodes) = IsQuietProve nodes
IsQuietOf other = Unit {0}

unfoldable pub IsQuiet : Option CommandValue → Type 0
IsQuiet None = Unit {0}
IsQuiet (Some command) = IsQuietOf command

-- what may be reported of a command
abbrev pub MayReportOf : CommandValue → (old new : Option (List ℕ)) → Type 0
MayReportOf (Improve soc limits plan tries seed) old new = MayReportImprove tries old new
MayReportOf (Prove soc limits plan nodes) old new = MayReportProve nodes old new
MayReportOf other old new = new ≡ old

unfoldable pub MayReport : Option CommandValue → (old new : Option (List ℕ)) → Type 0
MayReport None old new = new ≡ old
MayReport (Some command) old new = MayReportOf command old new
