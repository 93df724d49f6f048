use Rattle.std.proofs.Common.{◌≡◌, ◌++◌, map, take, drop}
use Rattle.plan_model.specs.Runs.{last_bit}
use Rattle.bit_machine.specs.Sessions.{each_with, entered}
use Rattle.bit_machine.proofs.session.shift_all.Given as goal

abbrev pub invariant-loop-place : goal.invariant-loop-place
invariant-loop-place l =
    (l.chains ≡ each_with entered (take l.place l.drive) l.initial.chains)
    × (l.read ≡ map last_bit (take l.place l.initial.chains) ++ drop l.place l.initial.read)
