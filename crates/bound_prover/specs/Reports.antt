-- What is reported of a search, line by line, and when nothing is.
use Rattle.std.specs.Prelude.{◌≡◌, ℕ, ◌<◌, ◌≤◌, ◌⊎◌, List, Option, codes}
use Rattle.commands.specs.Progress.{MayAdd, MayReport as MayReportAny, reported_line}
use Rattle.bound_prover.specs.declared.progress.TheConstants.{REPORTED_FROM}

-- nothing is added, or the line of the nodes that were made, at least `reached`, and of the claim so far
abbrev pub MayPass : (reached : ℕ) → (old new : Option (List ℕ)) → Type 0
MayPass reached old new =
    (new ≡ old) ⊎ ((made claim : ℕ) × (reached ≤ made) × MayAdd (reported_line (codes "nodes ") made (codes " bound ") claim) old new)

-- each tenth of the nodes may be reported, or nothing
abbrev pub MayReport : (nodes : ℕ) → (old new : Option (List ℕ)) → Type 0
MayReport nodes old new = MayReportAny MayPass nodes old new

-- nothing is reported of few nodes
abbrev pub IsQuiet : (nodes : ℕ) → Type 0
IsQuiet nodes = nodes < REPORTED_FROM
