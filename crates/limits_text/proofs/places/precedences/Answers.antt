use Rattle.std.proofs.Common.{◌+◌, ◌∙◌, ap, drop, map, subst, Ok, Err}
use Rattle.limits_text.specs.Meaning.{first_line}
use Rattle.limits_text.specs.Places.{Notes}
use Rattle.limits_text.specs.Views.{item_of}
use Rattle.limits_text.proofs.Noting.{items_step, note_goes, note_stops, pairs_more}
use Rattle.limits_text.proofs.places.precedences.Goals as goal

pub loop-item-preserved : goal.loop-item-preserved
loop-item-preserved c =
    let soc = c.args.tests.now in
    let list = c.args.list.now in
    let x = c.item-item.result in
    let noted : Notes soc (item_of x) c.loop-item.pairs.items c.note_item.new.pairs.items (Ok c.in-Ok.field-0) = subst (λ r. Notes soc (item_of x) c.loop-item.pairs.items c.note_item.new.pairs.items r) c.in-Ok.is c.note_item.ensures in
    let step = items_step list c.loop-item.item-index x c.loop-item-test.true c.item-item.is in (
      note_goes soc (map item_of list) (map item_of (drop (c.loop-item.item-index + 1) list)) (item_of x) (c.loop-item.invariant.0 ∙ ap (first_line soc) step) noted.0,
      pairs_more soc list c.loop-item.item-index x x c.loop-item.pairs.items c.note_item.new.pairs.items c.loop-item.invariant.1 c.loop-item-test.true c.item-item.is noted.1,
    )

pub returns-in-Err : goal.returns-in-Err
returns-in-Err c =
    let soc = c.args.tests.now in
    let list = c.args.list.now in
    let x = c.item-item.result in
    let noted : Notes soc (item_of x) c.loop-item.pairs.items c.note_item.new.pairs.items (Err c.in-Err.fault) = subst (λ r. Notes soc (item_of x) c.loop-item.pairs.items c.note_item.new.pairs.items r) c.in-Err.is c.note_item.ensures in
    let step = items_step list c.loop-item.item-index x c.loop-item-test.true c.item-item.is in
    note_stops soc (map item_of list) (map item_of (drop (c.loop-item.item-index + 1) list)) (item_of x) c.loop-item.pairs.items c.note_item.new.pairs.items c.in-Err.fault (c.loop-item.invariant.0 ∙ ap (first_line soc) step) noted
