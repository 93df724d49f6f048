use Rattle.std.proofs.Common.{◌≡◌, ◌≤◌, ◌∙◌, ap, length, map, take, rules}
use Rattle.soc_model.specs.Chips.{soc_value}
use Rattle.live_tests.specs.Parents.{below}
use Rattle.live_tests.proofs.WrittenParents.{parents_are, written_over}
use Rattle.live_tests.proofs.parent_places.parents.Goals as goal

pub returns : goal.returns
returns c =
    let long : length c.fill_parents.new.parents ≡ length (soc_value c.args.soc.now).modules = search rules in
    let all : length c.fill_parents.new.parents ≤ c.loop-place.place-index = search rules in
    let over : c.deref-place-items.result.now ≡ c.fill_parents.new.parents = c.deref-place-items.ensures.value ∙ written_over c.in_ok-places.places.len c.fill_parents.new.parents c.in_ok-places.places.items (search rules) (search rules) in
    parents_are (soc_value c.args.soc.now) c.module_count-count.result c.loop-place.place-index c.fill_parents.new.parents c.loop-place.parents.items c.module_count-count.ensures long all c.fill_parents.ensures (c.loop-place.invariant ∙ ap (λ l. map (below c.module_count-count.result) (take c.loop-place.place-index l)) over)
