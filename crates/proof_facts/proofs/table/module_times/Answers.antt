use Rattle.std.proofs.Common.{◌∙◌, ap, map}
use Rattle.std.specs.List.{sum, range_with_len}
use Rattle.soc_model.specs.Chips.{module_value}
use Rattle.proof_facts.specs.Packed.{packed}
use Rattle.proof_facts.specs.Times.{tam_times_of}
use Rattle.proof_facts.proofs.ModuleRows.{own_length, by_own_length, row_made}
use Rattle.proof_facts.proofs.table.module_times.Goals as goal

pub tam_row-requires-clause-lengths : goal.tam_row-requires-clause-lengths
tam_row-requires-clause-lengths c =
    by_own_length (packed c.args.module.now.chains.items) c.args.wires c.deref-3.result.now (c.deref-3.ensures.value ∙ c.in_ok-packed.ensures ∙ ap (λ l. map (packed l) (range_with_len 1 c.args.wires)) c.deref-2.ensures.value)

pub returns-clause-row : goal.returns-clause-row
returns-clause-row c =
    row_made c.args.wires (module_value c.args.module.now) c.in_ok-packed.packed.items c.in_ok-tam.tam.items c.flops_of-flops.result c.self_time-own.result
    (c.in_ok-packed.ensures ∙ ap (λ l. map (packed l) (range_with_len 1 c.args.wires)) c.deref-2.ensures.value)
    (c.in_ok-tam.ensures ∙ ap (λ n. map (λ w. tam_times_of (module_value c.args.module.now) w c.args.module.now.tests.items) (range_with_len 1 n))
    (own_length (packed c.args.module.now.chains.items) c.args.wires c.deref-3.result.now (c.deref-3.ensures.value ∙ c.in_ok-packed.ensures ∙ ap (λ l. map (packed l) (range_with_len 1 c.args.wires)) c.deref-2.ensures.value)))
    (c.flops_of-flops.ensures ∙ ap sum c.deref.ensures.value) c.self_time-own.ensures.time
