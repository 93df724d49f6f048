-- The lines that are written of plans and logs.
use Rattle.std.specs.Prelude.{ℕ, ◌++◌, List, codes, decimal}
use Rattle.plan_model.specs.Plans.{PlanValue}
use Rattle.commands.specs.Texts.{two_numbers}

-- a plan that is accepted: its cycles, and the cycles of its lower bound
abbrev pub accepted_line : PlanValue → List ℕ
accepted_line plan = codes "accepted " ++ two_numbers plan.cycles plan.bound.cycles ++ codes "\n"

-- a log that is refused at a line of its text
abbrev pub log_line : ℕ → List ℕ
log_line line = codes "refused log line " ++ decimal line ++ codes "\n"
