use Rattle.std.proofs.Common.{◌-◌, ◌%◌, ◌<◌}
use Rattle.bit_machine.specs.Packed.{IsLineWord}
use Rattle.bit_machine.proofs.PathBits.{CaptureDone}
use Rattle.bit_machine.proofs.stepping.capture_ring.Given as goal

abbrev pub invariant-loop-place : goal.invariant-loop-place
invariant-loop-place l = record {
  done : CaptureDone l.base l.pattern l.from l.place l.path.answers l.initial.ring l.ring;
  word : 0 < l.place % 64 → IsLineWord l.line l.path.answers (l.place - l.place % 64) l.word;
}
