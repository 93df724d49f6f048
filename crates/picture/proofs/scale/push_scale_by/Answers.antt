use Rattle.std.proofs.Common.{◌++◌, codes, flat_map}
use Rattle.std.proofs.lemmas.Result.{on_ok_weaker}
use Rattle.picture.specs.Marks.{label_at}
use Rattle.picture.specs.Scale.{mark_line, mark_number, marks_by, scale_by}
use Rattle.common_lemmas.proofs.Lists.{joined_before}
use Rattle.picture.proofs.scale.push_scale_by.Goals as goal

pub returns : goal.returns
unfolding scale_by
returns c =
    let t0 = c.args.text.now.items in
    let t1 = c.extend.new.to.items in
    let t2 = c.push_marks.new.text.items in
    let t3 = c.extend-2.new.to.items in
    let t4 = c.push_label.new.text.items in
    let t5 = c.extend-3.new.to.items in
    let t6 = c.push_mark_numbers.new.text.items in
    let marks = marks_by c.args.step c.args.cycles in
    on_ok_weaker c.push_mark_numbers.result (λ pushed. (rw (← c.from.ensures) (joined_before t6 t1 t0 (codes "<path class='g' d='") (flat_map (mark_line c.args.cycles c.args.bottom) marks ++ (codes "'/>\n" ++ (label_at (codes "e") 114 c.from.result ++ (codes "cycles</text>\n" ++ (flat_map (mark_number c.args.cycles c.args.bottom) marks))))) (joined_before t6 t2 t1 (flat_map (mark_line c.args.cycles c.args.bottom) marks) (codes "'/>\n" ++ (label_at (codes "e") 114 c.from.result ++ (codes "cycles</text>\n" ++ (flat_map (mark_number c.args.cycles c.args.bottom) marks)))) (joined_before t6 t3 t2 (codes "'/>\n") (label_at (codes "e") 114 c.from.result ++ (codes "cycles</text>\n" ++ (flat_map (mark_number c.args.cycles c.args.bottom) marks))) (joined_before t6 t4 t3 (label_at (codes "e") 114 c.from.result) (codes "cycles</text>\n" ++ (flat_map (mark_number c.args.cycles c.args.bottom) marks)) (joined_before t6 t5 t4 (codes "cycles</text>\n") (flat_map (mark_number c.args.cycles c.args.bottom) marks) pushed c.in_ok-extend-3.ensures.ok) c.in_ok-push_label.ensures) c.in_ok-extend-2.ensures.ok) c.in_ok-push_marks.ensures) c.in_ok-extend.ensures.ok))) c.push_mark_numbers.ensures
