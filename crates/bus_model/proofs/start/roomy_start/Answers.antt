use Rattle.std.proofs.Common.{arith, ℕ, Bool, true, false, ◌≡◌, ◌<◌, ◌-◌, ◌∙◌, sym, ap, length, map, nat_eq}
use Rattle.std.proofs.lemmas.List.{length-map}
use Rattle.bus_model.specs.Buses.{arch_value, spread_of}
use Rattle.bus_model.specs.Sound.{wires_used}
use Rattle.bus_model.specs.Start.{one_wire}
use Rattle.bus_model.proofs.Starts.{holds_one_wire, holds_sound, used_one_wire, spread_of-none, start_of-roomy, none_of_no_length}
use Rattle.bus_model.proofs.start.roomy_start.Goals as goal
use Rattle.bus_model.proofs.start.roomy_start.Goals.{then-not-is_empty, else-not-is_empty}

pub spread-requires-clause-sound : goal.spread-requires-clause-sound
spread-requires-clause-sound c =
    let e : arch_value c.in_ok-arch.arch ≡ map one_wire c.args.order.now = c.in_ok-arch.ensures in
    rw e (holds_sound c.args.table.now c.args.order.now (map one_wire c.args.order.now) c.requires.order.once
    (let n = length-map c.args.order.now one_wire in let r = c.requires.room in omega arith) (holds_one_wire c.args.order.now))

pub spread-requires-clause-free : goal.spread-requires-clause-free
spread-requires-clause-free c =
    let e : arch_value c.in_ok-arch.arch ≡ map one_wire c.args.order.now = c.in_ok-arch.ensures in
    let u = used_one_wire c.args.order.now (map one_wire c.args.order.now) (holds_one_wire c.args.order.now) in
    let same = ap wires_used e in
    let n = length-map c.args.order.now one_wire in
    let r = c.requires.room in
    let w = c.wires.ensures.value in
    omega arith

pub returns-clause-value : goal.returns-clause-value
returns-clause-value c =
    let e : arch_value c.in_ok-arch.arch ≡ map one_wire c.args.order.now = c.in_ok-arch.ensures in
    let start = start_of-roomy c.args.table.now c.args.order.now c.requires.room in
    elim c.if-not-is_empty.branch [
      | then-not-is_empty w ↦ rw (w.arch-is, w.spread.ensures.value) (ap (λ n. spread_of c.args.table.now (n - length c.args.order.now) (arch_value c.in_ok-arch.arch)) w.wires.ensures.value ∙ (ap (spread_of c.args.table.now (c.args.table.now.wires - length c.args.order.now)) e ∙ sym start))
      | else-not-is_empty w ↦ rw w.arch-is
          (let none = none_of_no_length c.args.order.now (no_length (length c.args.order.now) c.is_empty.result c.is_empty.ensures w.if-not-is_empty.false) in
          e ∙ (ap (map one_wire) none ∙ (sym (spread_of-none c.args.table.now (c.args.table.now.wires - length c.args.order.now))
          ∙ (ap (λ xs. spread_of c.args.table.now (c.args.table.now.wires - length c.args.order.now) (map one_wire xs)) (sym none) ∙ sym start))))
    ]
  where
    no_length : (n : ℕ) (b : Bool) → b ≡ nat_eq n 0 → b ≡ true → n ≡ 0
    no_length n b e h = grind arith

pub spread-requires-clause-bus : goal.spread-requires-clause-bus
spread-requires-clause-bus c =
    λ _. omega (arith, ap length c.in_ok-arch.ensures, length-map c.args.order.now one_wire, some_length (length c.args.order.now) c.is_empty.result c.is_empty.ensures c.if-not-is_empty.true)
  where
    some_length : (n : ℕ) (b : Bool) → b ≡ nat_eq n 0 → b ≡ false → 0 < n
    some_length n b e h = grind arith
