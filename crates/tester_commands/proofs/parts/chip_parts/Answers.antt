use Rattle.std.proofs.Common.{◌+◌, ◌++◌, ◌∙◌, ap, sym, map, drop, ℕ, append_assoc}
use Rattle.soc_model.specs.declared.Module.{Module}
use Rattle.soc_model.specs.Chips.{module_value, soc_value}
use Rattle.tester_commands.specs.DataParts.{part_value, parts_in, parts_from}
use Rattle.tester_commands.proofs.ChipParts.{parts_next}
use Rattle.tester_commands.proofs.parts.chip_parts.Goals as goal

pub loop-place-preserved : goal.loop-place-preserved
loop-place-preserved c =
    let ms = (soc_value c.args.soc.now).modules in
    let place = c.loop-place.place in
    let m = c.in-Some.«module».now in
    let entry : ℕ × Module = (c.in-Some.field-0-0.now, m) in
    let rest = parts_from c.args.seed (place + 1) (drop (place + 1) ms) in
    ap (λ x. x ++ rest) c.in_ok-push_parts-in-Some.ensures ∙ append_assoc (map part_value c.loop-place.parts.items) (parts_in c.args.seed place (module_value m) 0 m.tests.items) rest
    ∙ ap (λ x. map part_value c.loop-place.parts.items ++ x) (sym (parts_next c.args.seed place c.args.soc.now entry (sym c.in-Some.ensures.entry))) ∙ c.loop-place.invariant
