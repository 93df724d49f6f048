use Rattle.std.proofs.Common.{◌≡◌, ◌∷◌, ◌++◌, [], ◌∙◌, ap, sym, map, rules, ℕ}
use Rattle.std.proofs.lemmas.List.{map-append}
use Rattle.std.proofs.lemmas.Option.{slice_get_within, get_or_from_slice_get}
use Rattle.soc_model.specs.declared.Module.{Module}
use Rattle.limits_text.specs.Places.{entries_in, row_of}
use Rattle.limits_text.proofs.Noting.{map_more}
use Rattle.limits_text.proofs.places.rows_of.Goals as goal

pub loop-place-preserved : goal.loop-place-preserved
loop-place-preserved c =
    let entries = c.args.soc.now.modules.entries in
    let entry : ℕ × Module = (c.in-Some.number.now, c.in-Some.«module».now) in
    let at = sym c.in-Some.ensures.entry in
    let pushed : c.push.new.to.items ≡ c.loop-place.rows.items ++ c.in_ok-row_in-in-Some.field-0 ∷ [] = search rules in
    ap (map entries_in) pushed ∙ map-append entries_in c.loop-place.rows.items (c.in_ok-row_in-in-Some.field-0 ∷ []) ∙ ap (λ l. map entries_in c.loop-place.rows.items ++ l ∷ []) c.in_ok-row_in-in-Some.ensures
    ∙ map_more (row_of c.args.live.now) entries c.loop-place.place entry entry (map entries_in c.loop-place.rows.items) c.loop-place.invariant (slice_get_within entries c.loop-place.place entry at) (sym (get_or_from_slice_get entries c.loop-place.place entry entry at))
