use Rattle.std.proofs.Common.{◌≤◌, length, arith}
use Rattle.tester_forms.proofs.Digits.{four_digits}
use Rattle.tester_forms.proofs.vcd_lines.code_of.Goals as goal

pub put_bytes-number_end-requires : goal.put_bytes-number_end-requires
put_bytes-number_end-requires c =
    let few : length c.as_bytes.result.now ≤ 4 = four_digits c.args.number c.as_bytes.result.now c.format.result.now c.requires c.as_bytes.ensures.value c.format.ensures.text in
    omega (arith, few, c.put_bytes-sign_end.ensures.ends, c.put_bytes-sign_end.ensures.long)

pub put_bytes-length-requires : goal.put_bytes-length-requires
put_bytes-length-requires c =
    let few : length c.as_bytes.result.now ≤ 4 = four_digits c.args.number c.as_bytes.result.now c.format.result.now c.requires c.as_bytes.ensures.value c.format.ensures.text in
    omega (arith, few, c.put_bytes-sign_end.ensures.ends, c.put_bytes-sign_end.ensures.long, c.put_bytes-number_end.ensures.ends, c.put_bytes-number_end.ensures.long)
