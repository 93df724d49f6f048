-- Modules that are dealt again.
use Rattle.std.specs.Prelude.{ℕ, ◌<◌}
use Rattle.arch_schedule.specs.declared.dealing.DealtModule.{DealtModule}

-- one of `modules` modules, and one of `wires` slots
pub record IsTaken (wires modules : ℕ) (t : DealtModule) : Type 0 where
  pub is_module : t.«module» < modules
  pub is_slot : t.from < wires
