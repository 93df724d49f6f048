use Rattle.std.proofs.Common.{ℕ, arith}
use Rattle.std.proofs.lemmas.List.{length-map}
use Rattle.soc_model.specs.declared.Module.{Module}
use Rattle.soc_model.specs.Chips.{module_value, soc_value}
use Rattle.plan_model.proofs.SoundChips.{module_size-le}
use Rattle.packed_wrappers.proofs.rows.rows_of.Goals as goal

pub row_of-requires-clause-small : goal.row_of-requires-clause-small
row_of-requires-clause-small c = module_size-le (soc_value c.args.soc.now) c.requires.sound c.loop-place.place (module_value c.module_at.result.now) c.module_at.ensures

pub module_at-requires : goal.module_at-requires
module_at-requires c = omega (arith, c.loop-place-test.true, c.len-modules.ensures.len, length-map c.args.soc.now.modules.entries (λ (e : ℕ × Module). module_value e.1))
