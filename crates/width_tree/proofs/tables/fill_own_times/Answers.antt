use Rattle.std.proofs.Common.{ℕ, arith}
use Rattle.std.proofs.lemmas.List.{length-map}
use Rattle.soc_model.specs.declared.Module.{Module}
use Rattle.soc_model.specs.Chips.{soc_value, module_value}
use Rattle.width_tree.proofs.WidthFacts.{own_begins, own_more}
use Rattle.width_tree.proofs.tables.fill_own_times.Goals as goal

pub loop-place-init : goal.loop-place-init
loop-place-init c = own_begins (soc_value c.args.soc.now) c.args.own.now

pub loop-place-preserved : goal.loop-place-preserved
loop-place-preserved c =
    let long = length-map c.args.soc.now.modules.entries (λ (e : ℕ × Module). module_value e.1) in
    own_more (soc_value c.args.soc.now) c.loop-place.place c.loop-place.own c.own_time.result c.loop-place.invariant
    (omega (arith, long)) c.own_time.ensures.time c.own_time.ensures.small

pub returns : goal.returns
returns c =
    let long = length-map c.args.soc.now.modules.entries (λ (e : ℕ × Module). module_value e.1) in
    record {
      time = λ p less. c.loop-place.invariant.time p (omega (arith, long, less));
      small = λ p less. c.loop-place.invariant.small p (omega (arith, long, less));
    }
