use Rattle.std.proofs.Common.{◌≡◌, ◌++◌, drop}
use Rattle.picture.specs.Marks.{bus_texts}
use Rattle.picture.specs.Rectangles.{between}
use Rattle.picture.proofs.marks.push_buses.Given as goal

abbrev pub invariant-loop-place : goal.invariant-loop-place
invariant-loop-place l = l.text.items ++ bus_texts l.panel l.place (drop l.place (between l.firsts)) ≡ l.initial.text.items ++ bus_texts l.panel 0 (between l.firsts)
