use Rattle.std.proofs.Common.{◌≡◌, ◌∙◌, ℕ, List, length, sum, sym, ap, subst, slice_index}
use Rattle.std.specs.Vec.{with_items}
use Rattle.std.proofs.lemmas.List.{with_items_is}
use Rattle.width_tree.specs.declared.intervals.Interval.{Interval}
use Rattle.width_tree.specs.declared.areas.Widths.{Widths}
use Rattle.width_tree.specs.Cases.{Case, interval_at}
use Rattle.width_tree.specs.Tables.{chip_of}
use Rattle.width_tree.specs.Findings.{AreIntervals, AreAreas, AreWidths, area_by}
use Rattle.width_tree.proofs.CaseFacts.{root_intervals}
use Rattle.width_tree.proofs.check.fill_widths.Goals as goal

-- what is written over widths that are as long
written : (w n : ℕ) (times : List ℕ) (old : Widths) (intervals : List Interval) (areas : List ℕ) (total : ℕ) → length old.intervals.items ≡ n → length old.areas.items ≡ n → AreIntervals w n intervals → AreAreas n times intervals areas → total ≡ sum areas →
    AreWidths w n times (record { intervals = with_items old.intervals intervals; areas = with_items old.areas areas; total = total })
written w n times old intervals areas total long_intervals long_areas are each total_is =
    let new_intervals = with_items_is old.intervals intervals (are.long ∙ sym long_intervals ∙ sym old.intervals.ok.0) in
    let new_areas = with_items_is old.areas areas (each.long ∙ sym long_areas ∙ sym old.areas.ok.0) in
    record {
      intervals = subst (AreIntervals w n) (sym new_intervals) are;
      long = ap length new_areas ∙ each.long;
      areas = (λ place lt.
          ap (λ (v : List ℕ). slice_index v place) new_areas ∙ each.each place lt ∙ ap (λ (v : Case). area_by times (interval_at v place) place) (sym new_intervals));
      total = total_is ∙ ap sum (sym new_areas);
    }

pub returns-clause-widths : goal.returns-clause-widths
returns-clause-widths c =
    let table = c.args.table.now in
    let n = length (chip_of table).modules in
    let filled = c.fill_slices-widths in
    written table.wires n table.times.now c.args.widths.now filled.new.intervals filled.new.areas filled.result c.requires.intervals c.requires.areas
    (subst (AreIntervals table.wires n) (sym filled.ensures.root) (root_intervals (chip_of table) table.wires c.requires.table.some_wire)) filled.ensures.areas filled.ensures.total
