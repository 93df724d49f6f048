use Rattle.resource_table.proofs.Schedules.{fits_fewer, fits_at_last}
use Rattle.resource_table.proofs.laws.starts_only_rise.Goals as goal

pub returns-clause-fewer : goal.returns-clause-fewer
returns-clause-fewer c = fits_fewer

pub returns-clause-at_last : goal.returns-clause-at_last
returns-clause-at_last c = fits_at_last
