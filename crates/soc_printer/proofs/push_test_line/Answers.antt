use Rattle.std.proofs.Common.{codes, decimal, [], ◌∷◌, ◌++◌, ◌∙◌, sym, ap, append_assoc}
use Rattle.soc_printer.specs.SocText.{spaced, flag_word}
use Rattle.soc_printer.proofs.Pieces.{spaced-six-then}
use Rattle.soc_printer.proofs.push_test_line.Goals as goal
use Rattle.common_lemmas.proofs.Lists.{joined_after}
use Rattle.common_lemmas.proofs.Options.{on_ok}

pub returns : goal.returns
returns c =
    let t = c.args.test.now in
    let number = decimal c.args.number ∷ [] in
    let test = codes "Test" ∷ decimal t.number ∷ [] in
    let scan = codes "ScanUse" ∷ flag_word t.scan ∷ [] in
    let tam = codes "TamUse" ∷ flag_word t.tam ∷ [] in
    let patterns = codes "Patterns" ∷ decimal t.patterns ∷ [] in
    let power = codes "Power" ∷ decimal t.power ∷ [] in
    let t0 = c.args.text.now.items in
    let t1 = c.extend.new.to.items in
    let t2 = c.push_count.new.text.items in
    let t3 = c.push_entry.new.text.items in
    let t5 = c.push_uses.new.text.items in
    let t6 = c.push_entry-2.new.text.items in
    let t7 = c.push_entry-3.new.text.items in
    let t8 = c.push.new.to.items in
    let s7 = spaced power ++ 10 ∷ [] in
    let s6 = spaced patterns ++ s7 in
    let s5 = spaced tam ++ s6 in
    let s4 = spaced scan ++ s5 in
    let s3 = spaced test ++ s4 in
    on_ok c.push.result
    (λ e.
    joined_after t0 t1 t8 (codes "Module") (spaced number ++ s3) c.in_ok-extend.ensures.ok
    (joined_after t1 t2 t8 (spaced number) s3 c.in_ok-push_count.ensures
    (joined_after t2 t3 t8 (spaced test) s4 c.in_ok-push_entry.ensures
    (joined_after t3 t5 t8 (spaced scan ++ spaced tam) s6 c.in_ok-push_uses.ensures
    (joined_after t5 t6 t8 (spaced patterns) s7 c.in_ok-push_entry-2.ensures
    (joined_after t6 t7 t8 (spaced power) (10 ∷ []) c.in_ok-push_entry-3.ensures e))
    ∙ ap (λ s. t3 ++ s) (append_assoc (spaced scan) (spaced tam) s6))))
    ∙ ap (λ s. t0 ++ (codes "Module" ++ s)) (sym (spaced-six-then number test scan tam patterns power (10 ∷ []))))
    c.push.ensures.ok
