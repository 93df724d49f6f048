use Rattle.std.proofs.Common.{◌+◌, subst, sym}
use Rattle.tester_forms.specs.Forms.{AreCodes}
use Rattle.tester_forms.proofs.Digits.{no_codes, codes_more}
use Rattle.tester_forms.proofs.vcd_form.codes_of.Goals as goal

pub loop-number-init : goal.loop-number-init
loop-number-init c = subst (AreCodes 0) (sym c.new-codes.ensures.items) no_codes

pub loop-number-preserved : goal.loop-number-preserved
loop-number-preserved c = subst (AreCodes (c.loop-number.number + 1)) (sym c.in_ok-push.ensures.ok) (codes_more c.loop-number.number c.loop-number.codes.items c.code_of.result c.loop-number.invariant c.code_of.ensures)
