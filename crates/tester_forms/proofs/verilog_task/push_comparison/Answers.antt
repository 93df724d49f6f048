use Rattle.std.proofs.Common.{ℕ, List, ◌++◌, ◌∙◌, ap, sym, codes, replicate}
use Rattle.std.proofs.lemmas.Result.{on_ok_weaker}
use Rattle.tester_forms.proofs.Texts.{where_some-some}
use Rattle.tester_forms.specs.VerilogText.{comparison, failure, number}
use Rattle.common_lemmas.proofs.Lists.{joined_before}
use Rattle.tester_forms.proofs.verilog_task.push_comparison.Goals as goal

pub returns : goal.returns
returns c =
    let t0 = c.args.text.now.items in
    let t1 = c.extend.new.to.items in
    let t2 = c.push_zero.new.text.items in
    let t3 = c.extend-2.new.to.items in
    let t4 = c.extend-3.new.to.items in
    let p1 : List ℕ = codes "      if (((wo ^ want) & care) !== " in
    let p2 : List ℕ = number (replicate c.args.wires 48) in
    let p3 : List ℕ = codes ") begin\n        failed = failed + 1;\n" in
    let p4 : List ℕ = failure in
    on_ok_weaker c.extend-3.result (λ pushed. joined_before t4 t1 t0 p1 (p2 ++ (p3 ++ p4)) (joined_before t4 t2 t1 p2 (p3 ++ p4) (joined_before t4 t3 t2 p3 p4 pushed c.in_ok-extend-2.ensures.ok) c.in_ok-push_zero.ensures) c.in_ok-extend.ensures.ok ∙ ap (λ t. t0 ++ t) (sym (where_some-some c.args.wires (comparison c.args.wires) c.if-wires-eq0.false))) c.extend-3.ensures.ok
