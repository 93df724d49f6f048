use Rattle.std.proofs.Common.{ℕ, arith}
use Rattle.std.proofs.lemmas.List.{length-map}
use Rattle.soc_model.specs.declared.Module.{Module}
use Rattle.soc_model.specs.Chips.{soc_value, module_value}
use Rattle.width_tree.proofs.WidthFacts.{rows_more}
use Rattle.width_tree.proofs.tables.fill_times.Goals as goal

pub loop-place-preserved : goal.loop-place-preserved
loop-place-preserved c = rows_more (soc_value c.args.soc.now) c.args.wires c.loop-place.place c.loop-place.times c.fill_row.new.times c.requires.wires c.fill_row.ensures.earlier c.loop-place.invariant c.fill_row.ensures.row

pub returns : goal.returns
returns c = λ place less.
    let long = length-map c.args.soc.now.modules.entries (λ (e : ℕ × Module). module_value e.1) in
    c.loop-place.invariant place (omega arith)
