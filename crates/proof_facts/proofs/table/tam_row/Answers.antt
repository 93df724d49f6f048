use Rattle.std.proofs.Common.{◌∙◌, ap, arith, length, get_or}
use Rattle.soc_model.specs.Chips.{module_value}
use Rattle.proof_facts.specs.Packed.{packed}
use Rattle.proof_facts.specs.Times.{tam_times_of}
use Rattle.proof_facts.proofs.ModuleRows.{in_row}
use Rattle.proof_facts.proofs.Rows.{row_more}
use Rattle.proof_facts.proofs.table.tam_row.Goals as goal

pub tam_time-requires-clause-packing : goal.tam_time-requires-clause-packing
tam_time-requires-clause-packing c = record {
  some_wire = omega arith;
  packed_is = ap (λ l. get_or l c.loop-place.place 0) c.requires.lengths ∙ in_row (packed c.args.module.now.chains.items) (length c.args.lengths.now) c.loop-place.place 0 c.loop-place-test.true;
  flops_are = c.requires.flops;
}

pub loop-place-preserved : goal.loop-place-preserved
loop-place-preserved c =
    row_more (λ w. tam_times_of (module_value c.args.module.now) w c.args.module.now.tests.items) c.loop-place.place c.tam_time.result c.loop-place.row.items c.push.new.to.items c.loop-place.invariant c.tam_time.ensures.time c.in_ok-push.ensures.ok
