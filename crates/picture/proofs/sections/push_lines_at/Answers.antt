use Rattle.std.proofs.Common.{◌++◌, codes, decimal}
use Rattle.std.proofs.lemmas.Result.{on_ok_weaker}
use Rattle.picture.specs.PictureText.{bound_text, lines_at}
use Rattle.picture.specs.Marks.{label_at, label_end}
use Rattle.common_lemmas.proofs.Lists.{joined_before}
use Rattle.picture.proofs.sections.push_lines_at.Goals as goal

pub returns : goal.returns
unfolding lines_at
returns c =
    let t0 = c.args.text.now.items in
    let t1 = c.push_entry.new.text.items in
    let t2 = c.push_entry-2.new.text.items in
    let t3 = c.push_entry-3.new.text.items in
    let t4 = c.extend.new.to.items in
    let t5 = c.push_label.new.text.items in
    let t6 = c.push_entry-4.new.text.items in
    let t7 = c.end_label.new.text.items in
    let t8 = c.push_bound.new.text.items in
    on_ok_weaker c.push_bound.result (λ pushed. joined_before t8 t1 t0 (codes "<path class='l' d='M1120 16V" ++ decimal c.args.bottom) (codes "M" ++ decimal c.args.x ++ (codes " 32V" ++ decimal c.args.bottom ++ (codes "'/>\n" ++ (label_at (codes "e") 1116 16 ++ (codes "cycles " ++ decimal c.args.cycles ++ (label_end ++ (bound_text c.args.x c.args.mark))))))) (joined_before t8 t2 t1 (codes "M" ++ decimal c.args.x) (codes " 32V" ++ decimal c.args.bottom ++ (codes "'/>\n" ++ (label_at (codes "e") 1116 16 ++ (codes "cycles " ++ decimal c.args.cycles ++ (label_end ++ (bound_text c.args.x c.args.mark)))))) (joined_before t8 t3 t2 (codes " 32V" ++ decimal c.args.bottom) (codes "'/>\n" ++ (label_at (codes "e") 1116 16 ++ (codes "cycles " ++ decimal c.args.cycles ++ (label_end ++ (bound_text c.args.x c.args.mark))))) (joined_before t8 t4 t3 (codes "'/>\n") (label_at (codes "e") 1116 16 ++ (codes "cycles " ++ decimal c.args.cycles ++ (label_end ++ (bound_text c.args.x c.args.mark)))) (joined_before t8 t5 t4 (label_at (codes "e") 1116 16) (codes "cycles " ++ decimal c.args.cycles ++ (label_end ++ (bound_text c.args.x c.args.mark))) (joined_before t8 t6 t5 (codes "cycles " ++ decimal c.args.cycles) (label_end ++ (bound_text c.args.x c.args.mark)) (joined_before t8 t7 t6 (label_end) (bound_text c.args.x c.args.mark) (pushed) c.in_ok-end_label.ensures) c.in_ok-push_entry-4.ensures) c.in_ok-push_label.ensures) c.in_ok-extend.ensures.ok) c.in_ok-push_entry-3.ensures) c.in_ok-push_entry-2.ensures) c.in_ok-push_entry.ensures) c.push_bound.ensures
