use Rattle.report.proofs.Held.{held_is, lines_whole}
use Rattle.report.proofs.Shared.{buses_shared, peaks_are}
use Rattle.report.proofs.laws.good_plans_report_right.Goals as goal

pub returns-clause-peak : goal.returns-clause-peak
returns-clause-peak c = peaks_are

pub returns-clause-shared : goal.returns-clause-shared
returns-clause-shared c = buses_shared

pub returns-clause-held : goal.returns-clause-held
returns-clause-held c = held_is

pub returns-clause-whole : goal.returns-clause-whole
returns-clause-whole c = lines_whole
