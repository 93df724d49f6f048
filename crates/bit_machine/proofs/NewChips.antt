-- A chip before its first cycle.
use Rattle.std.proofs.Common.{◌≡◌, ℕ, zero, suc, ◌-◌, ◌^◌, ◌≤◌, ◌<◌, true, Some, List, [], ◌∷◌, length, get_or, map, refl, ap, sym, subst, ◌∙◌, arith, inl, inr, slice_get, sum_by}
use Rattle.std.proofs.lemmas.List.{length-map, get_or-map}
use Rattle.std.proofs.lemmas.List.Sums.{sum_by-cons}
use Rattle.std.proofs.lemmas.Bool.{cases_Bool}
use Rattle.std.proofs.lemmas.Option.{slice_get_within, get_or_from_slice_get}
use Rattle.soc_model.specs.Chips.{SocValue, LiveTest, live_tests}
use Rattle.soc_model.specs.Sizes.{test_work}
use Rattle.soc_model.specs.SoundChips.{IsSoundChip}
use Rattle.soc_model.proofs.Limits.{work-le}
use Rattle.plan_model.specs.Plans.{PlanValue, LimitsValue, PlannedTest, planned, planned_test, chains_of, operations_of}
use Rattle.plan_model.specs.Runs.{Content, chain_at, bits_at, first_state}
use Rattle.plan_model.specs.Rules.{IsGood, IsGoodAlone, Wrappers, Proper, bare_limits}
use Rattle.plan_model.proofs.ShortTests.{short_test, planned_operations}
use Rattle.vector_lines.specs.Made.{made_content}
use Rattle.vector_lines.specs.Wires.{wires_of, AreOnWires}
use Rattle.bit_machine.specs.Chips.{at_first}
use Rattle.bit_machine.specs.Lanes.{lane_bits, AreAtRest, IsAtRest, IsLane}
use Rattle.vector_lines.specs.Lanes.{AreLanes}
use Rattle.bit_machine.specs.Machines.{lanes_state, AreSomeStepped, AreStepped, IsMachine}
use Rattle.bit_machine.specs.WholeChips.{to_come, IsChip}
use Rattle.vector_lines.specs.declared.lane.Lane.{Lane}
use Rattle.bit_machine.specs.declared.machine.Machine.{Machine}
use Rattle.vector_lines.specs.declared.path.Path.{Path}
use Rattle.bit_machine.specs.declared.stepped.SteppedLane.{SteppedLane}
use Rattle.vector_lines.proofs.GoodWires.{good_wires}
use Rattle.bit_machine.proofs.LaneSteps.{rest_bits, rest_steppable}
use Rattle.bit_machine.proofs.Layouts.{zeros}
use Rattle.bit_machine.proofs.WireSteps.{state_is, lanes_width}
use Rattle.bit_machine.proofs.WholeChip.{chip_view}
use Rattle.common_lemmas.proofs.Lists.{some_item}

-- ---- the operations of all tests together are within the work

room_of : (plan : PlanValue) (ls : List LiveTest) → ((i : ℕ) (l : LiveTest) → slice_get ls i ≡ Some l → length (operations_of l.core l.test (chains_of plan l.core l.test)) ≤ test_work l.core l.test) →
    to_come (map (λ (l : LiveTest). planned_test plan l.place l.core l.test) ls) 0 ≤ sum_by (λ (l : LiveTest). test_work l.core l.test) ls
room_of plan [] short = omega arith
room_of plan (l ∷ ls) short =
    let rest = room_of plan ls (λ i k at. short (suc i) k at) in
    let here = short 0 l refl in
    let same : length (planned_test plan l.place l.core l.test).operations ≡ length (operations_of l.core l.test (chains_of plan l.core l.test)) = ap length (planned_operations plan l) in
    let a = sum_by-cons (λ (t : PlannedTest). length t.operations - (0 - t.start)) (planned_test plan l.place l.core l.test) (map (λ (l : LiveTest). planned_test plan l.place l.core l.test) ls) in
    let b = sum_by-cons (λ (l : LiveTest). test_work l.core l.test) l ls in
    omega arith

room_at_first : {soc : SocValue} (limits : LimitsValue) (plan : PlanValue) → IsSoundChip soc → IsGood soc limits plan →
    to_come (planned soc plan) 0 ≤ 10 ^ 18
unfolding planned
room_at_first {soc} limits plan sound good =
    let part = room_of plan (live_tests soc) (λ i l at. short_test soc plan i l (good Wrappers).1 (good Proper) at) in
    let all = work-le soc sound.size in
    omega arith

-- ---- a new chip

-- the lanes of tests, before any cycle
rest_stepped : {content : Content} {tests : List PlannedTest} {lanes : List Lane} {stepped : List SteppedLane} →
    AreLanes (IsLane content) tests lanes → AreAtRest lanes stepped → AreStepped content tests stepped
rest_stepped {content} {tests} {lanes} {stepped} are rest = record {
  long = rest.long ∙ are.long;
  lane = λ i t s at there.
      let l = some_item lanes i (omega (arith, rest.long, slice_get_within stepped i s there)) in
      subst (IsLane content t) (sym (rest.each i l.0 s l.1 there).same) (are.lane i t l.0 at l.1);
  steppable = λ i s there.
      let within = slice_get_within stepped i s there in
      let l = some_item lanes i (omega (arith, rest.long)) in
      let t = some_item tests i (omega (arith, rest.long, are.long)) in
      rest_steppable (rest.each i l.0 s l.1 there) (are.lane i t.0 l.0 t.1 l.1).ready;
}

module _ (soc : SocValue) (plan : PlanValue) (seed : ℕ) {n : ℕ} {lanes : List Lane} {stepped : List SteppedLane} (good : IsGoodAlone soc plan)
    (wide : n ≡ wires_of plan) (are : AreLanes (IsLane (made_content soc seed)) (planned soc plan) lanes) (rest : AreAtRest lanes stepped) where
  pub new_some : AreSomeStepped stepped n
  new_some = record {
    content = made_content soc seed;
    tests = planned soc plan;
    are = rest_stepped are rest;
    on = subst (AreOnWires (planned soc plan)) (sym wide) (good_wires soc (bare_limits plan) plan good (made_content soc seed));
  }

  pub new_chip : (m : Machine) → IsSoundChip soc → m.cycle ≡ 0 → length m.users.items ≡ n →
      ((content : Content) (tests : List PlannedTest) → AreStepped content tests stepped → AreOnWires tests n → IsMachine content tests m) →
      IsChip soc plan seed m 0 0
  new_chip m sound start users machine = record {
    sound = sound;
    good = good;
    machine = machine (made_content soc seed) (planned soc plan) (rest_stepped are rest) (subst (AreOnWires (planned soc plan)) (sym wide) (good_wires soc (bare_limits plan) plan good (made_content soc seed)));
    wires = users ∙ wide;
    few = omega arith;
    room = let first = room_at_first (bare_limits plan) plan sound good in rw start (omega arith);
  }

some_stepped : (ls : List SteppedLane) (i : ℕ) → i < length ls → (l : SteppedLane) × (slice_get ls i ≡ Some l)
some_stepped [] i h = absurd (omega arith)
some_stepped (l ∷ ls) zero h = (l, refl)
some_stepped (l ∷ ls) (suc i) h = some_stepped ls i (omega arith)

some_path : (ps : List Path) (j : ℕ) → j < length ps → (p : Path) × (slice_get ps j ≡ Some p)
some_path [] j h = absurd (omega arith)
some_path (p ∷ ps) zero h = (p, refl)
some_path (p ∷ ps) (suc j) h = some_path ps j (omega arith)

module _ {t : PlannedTest} {l : Lane} (j : ℕ) (h : j < length t.chains) where
  -- only tests over the wires have chains
  over_wires : {content : Content} → IsLane content t l → t.tam ≡ true
  over_wires is = elim (cases_Bool t.tam) [
    | inl yes' ↦ yes'
    | inr none ↦ absurd (omega (arith, (is.alone none).1))
  ]

  -- the bits of a chain before any cycle
  rest_chain : (soc : SocValue) (seed : ℕ) {s : SteppedLane} → IsLane (made_content soc seed) t l → IsAtRest l s →
      get_or (lane_bits s) j [] ≡ map ((made_content soc seed).initial t.id) (chain_at t j)
  unfolding made_content
  rest_chain soc seed is rest =
      let w = is.wired (over_wires is) in
      let p = some_path l.paths.items j (omega (arith, w.chains)) in
      rest_bits rest j p.1 ∙ sym (zeros (chain_at t j) (p.0).cells (sym (w.path j p.0 p.1).long))

pub new_state : (soc : SocValue) (seed : ℕ) {tests : List PlannedTest} {lanes : List Lane} {stepped : List SteppedLane} {m : Machine} →
    IsMachine (made_content soc seed) tests m → lanes_state m.lanes.items ≡ lanes_state stepped →
    AreLanes (IsLane (made_content soc seed)) tests lanes → AreAtRest lanes stepped →
    lanes_state m.lanes.items ≡ first_state (made_content soc seed) tests
unfolding first_state
new_state soc seed {tests} {lanes} {stepped} {m} is same are rest =
    let content = made_content soc seed in
    state_is (λ i t j. map (content.initial t.id) (chain_at t j)) 0 tests (lanes_state m.lanes.items) (length-map m.lanes.items lane_bits ∙ is.lanes.long) (lanes_width is) (λ i j t at h.
    let within = slice_get_within tests i t at in
    let l = some_item lanes i (omega (arith, are.long)) in
    let s = some_stepped stepped i (omega (arith, rest.long, are.long)) in
    ap (λ state. bits_at state i j) same ∙ ap (λ bits. get_or bits j []) (get_or-map lane_bits stepped i s.0 [] (slice_get_within stepped i s.0 s.1) ∙ ap lane_bits (get_or_from_slice_get stepped i s.0 s.0 s.1))
    ∙ rest_chain j h soc seed (are.lane i t l.0 at l.1) (rest.each i l.0 s.0 l.1 s.1))

pub first_value : (s : SocValue) (p : PlanValue) (seed : ℕ) (m : Machine) → m.cycle ≡ 0 → lanes_state m.lanes.items ≡ first_state (made_content s seed) (planned s p) → chip_view s p seed m 0 0 ≡ at_first s p seed
first_value s p seed m start f = rw (start, f) refl
