use Rattle.std.proofs.Common.{◌++◌, codes, decimal}
use Rattle.std.proofs.lemmas.Result.{on_ok_weaker}
use Rattle.picture.specs.Marks.{spaced_name, title_text}
use Rattle.common_lemmas.proofs.Lists.{joined_before}
use Rattle.picture.proofs.marks.push_title.Goals as goal

pub returns : goal.returns
unfolding title_text
returns c =
    let t0 = c.args.text.now.items in
    let t1 = c.push_entry.new.text.items in
    let t2 = c.push_spaced_name.new.text.items in
    let t3 = c.push_entry-2.new.text.items in
    let t4 = c.push_entry-3.new.text.items in
    let t5 = c.push_entry-4.new.text.items in
    let t6 = c.extend.new.to.items in
    let t = c.args.test.now in
    on_ok_weaker c.extend.result (λ pushed. (joined_before t6 t1 t0 (codes "<title>module " ++ decimal t.id.module) (spaced_name c.args.name.now ++ (codes ", test " ++ decimal t.id.test ++ (codes ": start " ++ decimal t.start ++ (codes ", end " ++ decimal t.end ++ (codes "</title></rect>\n"))))) (joined_before t6 t2 t1 (spaced_name c.args.name.now) (codes ", test " ++ decimal t.id.test ++ (codes ": start " ++ decimal t.start ++ (codes ", end " ++ decimal t.end ++ (codes "</title></rect>\n")))) (joined_before t6 t3 t2 (codes ", test " ++ decimal t.id.test) (codes ": start " ++ decimal t.start ++ (codes ", end " ++ decimal t.end ++ (codes "</title></rect>\n"))) (joined_before t6 t4 t3 (codes ": start " ++ decimal t.start) (codes ", end " ++ decimal t.end ++ (codes "</title></rect>\n")) (joined_before t6 t5 t4 (codes ", end " ++ decimal t.end) (codes "</title></rect>\n") pushed c.in_ok-push_entry-4.ensures) c.in_ok-push_entry-3.ensures) c.in_ok-push_entry-2.ensures) c.in_ok-push_spaced_name.ensures) c.in_ok-push_entry.ensures)) c.extend.ensures.ok
