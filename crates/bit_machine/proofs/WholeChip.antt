-- A chip under test, by the machine of its tests.
use Rattle.std.proofs.Common.{◌≡◌, ℕ, ◌+◌, ◌-◌, ◌^◌, ◌≤◌, ◌<◌, Bool, true, false, cond, Option, Some, None, List, [], ◌∷◌, length, get_or, refl, ap, sym, subst, ◌∙◌, arith, slice_get}
use Rattle.std.proofs.lemmas.List.Sums.{sum_by-cons}
use Rattle.std.proofs.lemmas.Option.{slice_get-get_or, get_or_from_slice_get, slice_get_within}
use Rattle.soc_model.specs.Chips.{SocValue}
use Rattle.plan_model.specs.Operations.{Operation, Setup, Shift, Capture, SelfTest}
use Rattle.plan_model.specs.Plans.{PlanValue, PlannedTest, planned}
use Rattle.plan_model.specs.Runs.{Content, carried, shown, operation_at}
use Rattle.plan_model.proofs.LoadsAndReads.{begun_at}
use Rattle.plan_model.proofs.TestsInGoodPlans.{uses_is}
use Rattle.bit_machine.specs.Chips.{ChipValue, carried_bits, shown_bits, chip_content, chip_tests, is_capture, captures_at, right_loads_at}
use Rattle.vector_lines.specs.Made.{made_content}
use Rattle.vector_lines.specs.Wires.{wires_of, IsCompared}
use Rattle.bit_machine.specs.Machines.{lanes_state, IsMachine, IsMark}
use Rattle.bit_machine.specs.WholeChips.{to_come, IsChip}
use Rattle.bit_machine.specs.declared.machine.Machine.{Machine}
use Rattle.bit_machine.proofs.Filling.{filled}

-- the value of a chip under test
abbrev pub chip_view : SocValue → PlanValue → ℕ → Machine → ℕ → ℕ → ChipValue
chip_view s p seed m a r = record { soc = s; plan = p; seed = seed; cycle = m.cycle; state = lanes_state m.lanes.items; captures = a; right_loads = r }

module _ {v : ChipValue} {s : SocValue} {p : PlanValue} {seed : ℕ} {m : Machine} {a r : ℕ} (is : chip_view s p seed m a r ≡ v)
    (chip : IsChip s p seed m a r) where
  -- a slice of one entry a wire fits the machine
  pub wide : {n : ℕ} → n ≡ wires_of v.plan → n ≡ length m.users.items
  wide long = long ∙ ap (λ (v : ChipValue). wires_of v.plan) (sym is) ∙ sym chip.wires

  -- ---- rows of bits

  pub carried_row : (xs : List Bool) → length xs ≡ wires_of v.plan →
      ((content : Content) (tests : List PlannedTest) → IsMachine content tests m → (w : ℕ) → w < length xs → get_or xs w false ≡ carried content tests m.cycle w) →
      xs ≡ carried_bits v
  carried_row xs long each =
      subst (λ (v : ChipValue). length xs ≡ wires_of v.plan → xs ≡ carried_bits v) is (λ long. filled (carried (made_content s seed) (planned s p) m.cycle) xs long (each (made_content s seed) (planned s p) chip.machine)) long

  pub shown_row : (xs : List Bool) → length xs ≡ wires_of v.plan →
      ((content : Content) (tests : List PlannedTest) → IsMachine content tests m → (w : ℕ) → w < length xs → get_or xs w false ≡ shown tests (lanes_state m.lanes.items) m.cycle w) →
      xs ≡ shown_bits v
  shown_row xs long each =
      subst (λ (v : ChipValue). length xs ≡ wires_of v.plan → xs ≡ shown_bits v) is (λ long. filled (shown (planned s p) (lanes_state m.lanes.items) m.cycle) xs long (each (made_content s seed) (planned s p) chip.machine)) long

-- what is read is on a wire of the plan
on_wires : {s : SocValue} {p : PlanValue} {seed : ℕ} {m : Machine} {a r w : ℕ} → IsChip s p seed m a r → IsCompared (planned s p) m.cycle w →
    w < wires_of p
on_wires {m} {w} chip x =
    let u = uses_is m.cycle w x.test (chip.machine.wires.reads x.place x.pattern m.cycle w x.test x.cell x.at x.read) in
    let within = chip.machine.wires.within x.place x.test x.at u.tam in
    omega arith

bit_at : (xs : List Bool) (w : ℕ) {b : Bool} → slice_get xs w ≡ Some b → get_or xs w false ≡ b
bit_at xs w {b} at = get_or_from_slice_get xs w b false at

module _ {v : ChipValue} {s : SocValue} {p : PlanValue} {seed : ℕ} {m : Machine} {a r : ℕ} (xs : List Bool) (is : chip_view s p seed m a r ≡ v)
    (chip : IsChip s p seed m a r) where
  pub compared_read : length xs ≡ wires_of v.plan →
      ((content : Content) (tests : List PlannedTest) → IsMachine content tests m → (w : ℕ) → w < length xs → IsMark tests m.cycle w (get_or xs w false)) →
      (w : ℕ) → IsCompared (chip_tests v) v.cycle w → slice_get xs w ≡ Some true
  compared_read long each w =
      subst (λ (v : ChipValue). length xs ≡ wires_of v.plan → IsCompared (chip_tests v) v.cycle w → slice_get xs w ≡ Some true) is
      (λ long x.
      let within : w < length xs = subst (λ n. w < n) (sym long) (on_wires chip x) in
      slice_get-get_or xs w false within ∙ ap Some ((each (made_content s seed) (planned s p) chip.machine w within).read x)) long

  pub compared_only : ((content : Content) (tests : List PlannedTest) → IsMachine content tests m → (w : ℕ) → w < length xs → IsMark tests m.cycle w (get_or xs w false)) →
      (w : ℕ) → slice_get xs w ≡ Some true → IsCompared (chip_tests v) v.cycle w
  compared_only each w at =
      subst (λ (v : ChipValue). IsCompared (chip_tests v) v.cycle w) is
      ((each (made_content s seed) (planned s p) chip.machine w (slice_get_within xs w true at)).only (bit_at xs w at))

-- ---- the captures that are to come

-- a capture is one of the cycles that its test still takes
one_cycle : (t : PlannedTest) (c : ℕ) → cond (is_capture (operation_at t c)) 1 0 + (length t.operations - (c + 1 - t.start)) ≤ length t.operations - (c - t.start)
one_cycle t c = go (operation_at t c) refl where
  at_rest : length t.operations - (c + 1 - t.start) ≤ length t.operations - (c - t.start)
  at_rest = omega arith

  go : (o : Option Operation) → operation_at t c ≡ o → cond (is_capture o) 1 0 + (length t.operations - (c + 1 - t.start)) ≤ length t.operations - (c - t.start)
  go None e = omega (arith, at_rest)
  go (Some Setup) e = omega (arith, at_rest)
  go (Some Shift) e = omega (arith, at_rest)
  go (Some SelfTest) e = omega (arith, at_rest)
  go (Some (Capture k)) e =
      let b = begun_at t c (Capture k) e in
      let within = slice_get_within t.operations (c - t.start) (Capture k) b.1 in
      omega arith

pub captures_room : (tests : List PlannedTest) (c : ℕ) → captures_at tests c + to_come tests (c + 1) ≤ to_come tests c
captures_room [] c = omega arith
captures_room (t ∷ tests) c =
    let rest = captures_room tests c in
    let here = one_cycle t c in
    let a = sum_by-cons (λ (t : PlannedTest). cond (is_capture (operation_at t c)) 1 0) t tests in
    let b = sum_by-cons (λ (t : PlannedTest). length t.operations - (c + 1 - t.start)) t tests in
    let d = sum_by-cons (λ (t : PlannedTest). length t.operations - (c - t.start)) t tests in
    omega arith

module _ {s : SocValue} {p : PlanValue} {seed : ℕ} {m : Machine} {a r n : ℕ} (k : ℕ) (chip : IsChip s p seed m a r)
    (counted : n ≡ captures_at (planned s p) m.cycle) (few : k ≤ n) where
  -- the next cycle of a chip
  pub next_chip : {m' : Machine} → m'.cycle ≡ m.cycle + 1 → length m'.users.items ≡ length m.users.items →
      IsMachine (made_content s seed) (planned s p) m' → IsChip s p seed m' (a + n) (r + k)
  next_chip next long machine = record {
    sound = chip.sound;
    good = chip.good;
    machine = machine;
    wires = long ∙ chip.wires;
    few = let f = chip.few in omega arith;
    room =
        let more = captures_room (planned s p) m.cycle in
        rw (next, counted) (omega arith);
  }

  -- the sums stay small
  pub sums_fit : (a + n ≤ 10 ^ 18) × (r + k ≤ 10 ^ 18)
  sums_fit =
      let more = captures_room (planned s p) m.cycle in
      (omega arith, omega arith)

-- what is counted, of the chip's value
pub counted : (v : ChipValue) (s : SocValue) (p : PlanValue) (seed : ℕ) (m : Machine) (a r n : ℕ) → chip_view s p seed m a r ≡ v → n ≡ captures_at (planned s p) m.cycle → a + n ≡ v.captures + captures_at (chip_tests v) v.cycle
counted v s p seed m a r n is e = subst (λ (v : ChipValue). a + n ≡ v.captures + captures_at (chip_tests v) v.cycle) is (ap (λ n. a + n) e)

module _ {v : ChipValue} (s : SocValue) (p : PlanValue) (seed : ℕ) (m : Machine) (a r : ℕ) (is : chip_view s p seed m a r ≡ v) where
  pub counted_right : {k : ℕ} → k ≡ right_loads_at (made_content s seed) (planned s p) m.cycle (lanes_state m.lanes.items) →
      r + k ≡ v.right_loads + right_loads_at (chip_content v) (chip_tests v) v.cycle v.state
  counted_right {k} e = subst (λ (v : ChipValue). r + k ≡ v.right_loads + right_loads_at (chip_content v) (chip_tests v) v.cycle v.state) is (ap (λ k. r + k) e)

  -- a cycle of the plan is below its cycles
  pub advance_fits : {c : ℕ} → v.cycle < v.plan.cycles → c ≡ m.cycle → p.cycles < 2 ^ 64 → c + 1 < 2 ^ 64
  advance_fits left same small =
      let left' : m.cycle < p.cycles = subst (λ (v : ChipValue). v.cycle < v.plan.cycles → m.cycle < p.cycles) is (λ h. h) left in
      omega arith
