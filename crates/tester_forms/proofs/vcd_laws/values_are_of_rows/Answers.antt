use Rattle.std.proofs.Common.{◌≡◌, suc, ◌+◌, Some, subst, arith}
use Rattle.tester_forms.specs.Dumps.{value_of}
use Rattle.tester_forms.specs.Shown.{changes_before, last_written}
use Rattle.tester_forms.proofs.Written.{last_is}
use Rattle.tester_forms.proofs.vcd_laws.values_are_of_rows.Goals as goal

pub returns : goal.returns
returns c = λ rows sources cycle number source at.
    let e : suc cycle ≡ cycle + 1 = omega arith in
    subst (λ n. last_written number (changes_before rows sources n) ≡ Some (value_of (rows cycle) source)) e (last_is rows sources cycle number source at)
