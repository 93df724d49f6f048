use Rattle.std.proofs.Common.{◌≡◌, ◌+◌, ◌-◌, ◌++◌, codes, decimal, length, take, drop, refl, ap, ◌∙◌, arith, rules, length-drop}
use Rattle.std.proofs.lemmas.List.{length-take-le}
use Rattle.tester_forms.proofs.Parts.{value_put}
use Rattle.tester_forms.proofs.vcd_lines.put_value.Goals as goal

pub returns-clause-put : goal.returns-clause-put
returns-clause-put c = λ number is.
    let at = c.args.at in
    let text = c.args.text.now in
    let k : at + 8 - at ≡ 8 = omega arith in
    let room : length (take (at + 8 - at) (drop at text)) ≡ 8 = length-take-le (at + 8 - at) (drop at text) (omega (arith, length-drop at text, c.requires)) ∙ k in
    let eight : length c.copy_from_slice.new.self ≡ 8 = c.copy_from_slice.ensures.len ∙ room in
    value_put at (at + 8 - at) c.args.code.now.length c.args.value c.copy_from_slice.new.self (codes "s" ++ (decimal number ++ codes "\n")) text _ k c.requires eight c.args.code.now.short (ap (take c.args.code.now.length) c.copy_from_slice.ensures.after ∙ is.line) (search rules) refl
