use Rattle.std.proofs.Common.{arith, ◌∙◌, ap, refl, set}
use Rattle.bus_model.specs.Buses.{arch_value, bus_at}
use Rattle.bus_model.specs.Start.{with_place}
use Rattle.bus_model.proofs.Views.{value_length, value_with_place}
use Rattle.bus_model.proofs.start.put_on_quickest.Goals as goal

pub returns-clause-value : goal.returns-clause-value
returns-clause-value c =
    let A = arch_value c.args.arch.now in
    let n = value_length c.args.arch.now.buses.items in
    let w = c.quickest-at.ensures.within in
    value_with_place c.args.arch.now.buses.items c.quickest-at.result c.args.place c.index_mut.result.now
    (record { width = c.index_mut.result.now.width; places = c.push.new.to })
    (omega arith) c.index_mut.ensures.value refl c.in_ok-push.ensures.ok
    ∙ ap (λ at. set A at (with_place (bus_at A at) c.args.place)) c.quickest-at.ensures.value
