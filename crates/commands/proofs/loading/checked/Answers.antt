use Rattle.plan_checker.specs.FaultValues.{fault_value}
use Rattle.commands.proofs.Refusals.{faulty}
use Rattle.commands.proofs.loading.checked.Goals as goal

pub returns-in-Ok-Err : goal.returns-in-Ok-Err
returns-in-Ok-Err c = faulty _ _ _ (fault_value c.in-Ok-Err.fault) _ _ (rw c.in-Ok-Err.field-0-is at c.in-Ok-Err.ensures.fault) c.fault_line.ensures.text c.fault_line.ensures.line c.refused_with.ensures
