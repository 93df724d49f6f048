use Rattle.std.proofs.Common.{◌≡◌, ℕ, List, ◌++◌, ◌∙◌, ap, arith, length}
use Rattle.tester_forms.specs.VerilogText.{size_mark}
use Rattle.tester_forms.proofs.Marks.{mark_short}
use Rattle.tester_forms.proofs.verilog_form.size_mark.Goals as goal

pub returns-clause-short : goal.returns-clause-short
returns-clause-short c =
    let whole : length c.push_size.new.text.items ≡ length (size_mark c.args.count) =
    ap length (c.in_ok-push_size.ensures ∙ ap (λ (t : List ℕ). t ++ size_mark c.args.count) c.new-mark.ensures.items) in
    omega (arith, whole, mark_short c.args.count (omega (arith, c.requires)))
