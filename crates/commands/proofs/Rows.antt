-- Words and the commands that they are, computed.
use Rattle.std.proofs.Common.{◌≡◌, [], ◌∷◌, None, Some, refl, codes}
use Rattle.commands.specs.Commands.{Widths, Sample, command_of, with_one, with_two}

widths_row : command_of (codes "widths" ∷ codes "a.soc" ∷ codes "004" ∷ []) ≡ Some (Widths (codes "a.soc") 4)
unfolding command_of with_two
widths_row = refl

too_many_wires_row : command_of (codes "widths" ∷ codes "a.soc" ∷ codes "257" ∷ []) ≡ None
unfolding command_of with_two
too_many_wires_row = refl

no_wire_row : command_of (codes "widths" ∷ codes "a.soc" ∷ codes "0" ∷ []) ≡ None
unfolding command_of with_two
no_wire_row = refl

case_row : command_of (codes "Print" ∷ codes "a.soc" ∷ []) ≡ None
unfolding command_of with_one
case_row = refl

sample_row : command_of (codes "sample" ∷ codes "200" ∷ codes "007" ∷ []) ≡ Some (Sample 200 7)
unfolding command_of with_two
sample_row = refl
