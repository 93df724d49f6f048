-- Where little is drawn for good.
use Rattle.std.specs.Prelude.{ℕ, ◌-◌, ◌≤◌, List, IfSome}
use Rattle.resource_table.specs.declared.Placement.{Placement}
use Rattle.resource_table.specs.Jobs.{JobValue}
use Rattle.resource_table.specs.Schedules.{power_at}

-- from the cycle `calm` on the placed tests leave a power of `most` free within the limit, or all of the limit where it is less
abbrev pub IsCalm : JobValue → List Placement → (most calm : ℕ) → Type 0
IsCalm job placed most calm = (c : ℕ) → calm ≤ c → IfSome job.power (λ limit. power_at job placed c ≤ limit - most)
