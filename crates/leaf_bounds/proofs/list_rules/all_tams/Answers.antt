use Rattle.std.proofs.Common.{ℕ, arith}
use Rattle.std.proofs.lemmas.List.{length-map}
use Rattle.soc_model.specs.declared.Module.{Module}
use Rattle.soc_model.specs.Chips.{module_value, soc_value}
use Rattle.leaf_bounds.proofs.TestTables.{tams_done, tams_more}
use Rattle.leaf_bounds.proofs.list_rules.all_tams.Goals as goal

pub loop-place-preserved : goal.loop-place-preserved
loop-place-preserved c =
    tams_more (soc_value c.args.soc.now).modules c.loop-place.tams.items
    c.loop-place.place c.module_at.ensures c.in_ok-push_tams.ensures c.loop-place.invariant

pub returns : goal.returns
returns c =
    let long = length-map c.args.soc.now.modules.entries (λ (e : ℕ × Module). module_value e.1) in
    tams_done (soc_value c.args.soc.now).modules c.loop-place.tams.items
    c.loop-place.place (omega (arith, long, c.len-place-end.ensures.len, c.loop-place-test.false)) c.loop-place.invariant
