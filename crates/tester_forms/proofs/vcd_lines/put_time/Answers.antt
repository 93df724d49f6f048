use Rattle.std.proofs.Common.{◌≤◌, length, arith}
use Rattle.tester_forms.proofs.Digits.{eleven_digits}
use Rattle.tester_forms.proofs.vcd_lines.put_time.Goals as goal

pub put_bytes-number_end-requires : goal.put_bytes-number_end-requires
put_bytes-number_end-requires c =
    let few : length c.as_bytes.result.now ≤ 11 = eleven_digits c.args.cycle c.as_bytes.result.now c.format.result.now c.requires.cycle c.as_bytes.ensures.value c.format.ensures.text in
    omega (arith, few, c.put_bytes-sign_end.ensures.ends, c.put_bytes-sign_end.ensures.long, c.requires.room)

pub put_bytes-requires : goal.put_bytes-requires
put_bytes-requires c =
    let few : length c.as_bytes.result.now ≤ 11 = eleven_digits c.args.cycle c.as_bytes.result.now c.format.result.now c.requires.cycle c.as_bytes.ensures.value c.format.ensures.text in
    omega (arith, few, c.put_bytes-sign_end.ensures.ends, c.put_bytes-sign_end.ensures.long, c.put_bytes-number_end.ensures.ends, c.put_bytes-number_end.ensures.long, c.requires.room)

pub returns-clause-within : goal.returns-clause-within
returns-clause-within c =
    let few : length c.as_bytes.result.now ≤ 11 = eleven_digits c.args.cycle c.as_bytes.result.now c.format.result.now c.requires.cycle c.as_bytes.ensures.value c.format.ensures.text in
    omega (arith, few, c.put_bytes-sign_end.ensures.ends, c.put_bytes-number_end.ensures.ends, c.put_bytes.ensures.ends)
