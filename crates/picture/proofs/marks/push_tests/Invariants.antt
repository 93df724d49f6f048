use Rattle.std.proofs.Common.{◌≡◌, ◌++◌, take, flat_map}
use Rattle.soc_model.specs.Chips.{soc_value}
use Rattle.picture.specs.Marks.{test_text}
use Rattle.picture.proofs.marks.push_tests.Given as goal

abbrev pub invariant-loop-one : goal.invariant-loop-one
invariant-loop-one l = l.text.items ≡ l.initial.text.items ++ flat_map (test_text (soc_value l.soc) l.panel l.drawn) (take l.one-index l.drawn)
