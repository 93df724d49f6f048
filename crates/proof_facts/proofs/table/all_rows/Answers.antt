use Rattle.std.proofs.Common.{[], ◌∷◌, sym, subst}
use Rattle.std.specs.List.{All}
use Rattle.std.proofs.lemmas.List.Elements.{All-nil, All-cons, All-append}
use Rattle.soc_model.specs.Chips.{soc_value, module_value}
use Rattle.proof_facts.specs.Tables.{HasChanges}
use Rattle.proof_facts.proofs.ModuleRows.{works-le, flops-fit, rows_more}
use Rattle.proof_facts.proofs.table.all_rows.Goals as goal

pub module_times-requires-clause-work : goal.module_times-requires-clause-work
module_times-requires-clause-work c = works-le (soc_value c.args.soc.now) c.requires.sound c.loop-place.place (module_value c.module_at-module.result.now) c.module_at-module.ensures

pub module_times-requires-clause-flops : goal.module_times-requires-clause-flops
module_times-requires-clause-flops c = flops-fit (soc_value c.args.soc.now) c.requires.sound c.loop-place.place (module_value c.module_at-module.result.now) c.module_at-module.ensures

pub loop-place-preserved : goal.loop-place-preserved
loop-place-preserved c = record {
  rows = rows_more c.args.wires (soc_value c.args.soc.now).modules c.loop-place.place (module_value c.module_at-module.result.now) c.in_ok-row.row c.loop-place.rows.items c.push.new.to.items c.module_at-module.ensures c.in_ok-row.ensures.row c.in_ok-push.ensures.ok c.loop-place.invariant.rows;
  changes = subst (All HasChanges) (sym c.in_ok-push.ensures.ok) (All-append HasChanges c.loop-place.rows.items (c.in_ok-row.row ∷ []) c.loop-place.invariant.changes
      (All-cons HasChanges c.in_ok-row.row [] c.in_ok-row.ensures.changes (All-nil HasChanges)));
}
