use Rattle.tester_forms.specs.Forms.{AreCodes}
use Rattle.tester_forms.proofs.vcd_form.codes_of.Given as goal

abbrev pub invariant-loop-number : goal.invariant-loop-number
invariant-loop-number l = AreCodes l.number l.codes.items
