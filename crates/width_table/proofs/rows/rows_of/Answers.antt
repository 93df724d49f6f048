use Rattle.std.proofs.Common.{◌≤◌, ◌∙◌, ℕ, ap, arith, length}
use Rattle.std.specs.List.{sum_by}
use Rattle.std.proofs.lemmas.List.{length-map, length_push}
use Rattle.soc_model.specs.declared.Module.{Module}
use Rattle.soc_model.specs.Chips.{SocValue}
use Rattle.soc_model.specs.Chips.{module_value, soc_value}
use Rattle.plan_model.proofs.Sums.{item-le-sum_by}
use Rattle.soc_model.proofs.Sums.{work_in, work-modules}
use Rattle.soc_model.proofs.Limits.{work-le}
use Rattle.plan_model.proofs.SoundChips.{module_size-le}
use Rattle.width_table.proofs.LeastWidths.{push_row}
use Rattle.width_table.proofs.rows.rows_of.Goals as goal

pub row_of-requires-clause-small : goal.row_of-requires-clause-small
row_of-requires-clause-small c = module_size-le (soc_value c.args.soc.now) c.requires.sound c.loop-place.place (module_value c.module_at.result.now) c.module_at.ensures

pub row_of-requires-clause-work : goal.row_of-requires-clause-work
row_of-requires-clause-work c =
    let soc : SocValue = soc_value c.args.soc.now in
    let part : work_in (module_value c.module_at.result.now) ≤ sum_by work_in soc.modules = item-le-sum_by work_in soc.modules c.loop-place.place (module_value c.module_at.result.now) c.module_at.ensures in
    omega (arith, part, work-modules soc, work-le soc c.requires.sound.size)

pub loop-place-preserved : goal.loop-place-preserved
loop-place-preserved c =
    let i = c.loop-place.invariant in
    record {
      as_many = ap length c.in_ok-push.ensures.items ∙ length_push _ _ ∙ omega (arith, i.as_many);
      rows = rw c.in_ok-push.ensures.items (push_row (soc_value c.args.soc.now).modules c.args.wires c.loop-place.place c.loop-place.rows.items (module_value c.module_at.result.now) c.in_ok-row.row i.as_many c.module_at.ensures i.rows (record { times = c.in_ok-row.ensures.times; scan = c.in_ok-row.ensures.scan; terminals = c.in_ok-row.ensures.terminals }));
    }

pub module_at-requires : goal.module_at-requires
module_at-requires c = omega (arith, c.loop-place-test.true, c.len-modules.ensures.len, length-map c.args.soc.now.modules.entries (λ (e : ℕ × Module). module_value e.1))

pub returns-clause-as_many : goal.returns-clause-as_many
returns-clause-as_many c = omega (arith, c.loop-place.invariant.as_many, c.loop-place.auto.place-end, c.loop-place-test.false, c.len-modules.ensures.len, length-map c.args.soc.now.modules.entries (λ (e : ℕ × Module). module_value e.1))
