use Rattle.std.proofs.Common.{arith, ◌∙◌, sym, refl}
use Rattle.bus_model.proofs.Keys.{keys_none, keys_take, keys_skip, keys_all}
use Rattle.bus_model.proofs.start.start_keys.Goals as goal
use Rattle.bus_model.proofs.start.start_keys.Goals.{then-has_tam_test+in_ok-push, else-has_tam_test}

pub loop-place-init : goal.loop-place-init
loop-place-init c = rw c.new-keys.ensures.items (keys_none c.args.table.now)

pub loop-place-preserved : goal.loop-place-preserved
loop-place-preserved c = elim c.if-has_tam_test.branch [
  | then-has_tam_test+in_ok-push w ↦ rw (w.keys-is, w.in_ok-push.ensures.ok)
      (keys_take c.args.table.now c.loop-place.place c.loop-place.keys.items (record { 0 = w.time.result }, c.loop-place.place) c.loop-place.invariant refl w.time.ensures.time (sym c.has_tam_test.ensures.tam ∙ w.if-has_tam_test.true))
  | else-has_tam_test w ↦ rw w.keys-is (keys_skip c.args.table.now c.loop-place.place c.loop-place.keys.items c.loop-place.invariant (sym c.has_tam_test.ensures.tam ∙ w.if-has_tam_test.false))
]

pub returns-clause-once : goal.returns-clause-once
returns-clause-once c = keys_all c.args.table.now c.loop-place.place c.loop-place.keys.items c.wires-wires.ensures.table c.loop-place.invariant (omega arith)
