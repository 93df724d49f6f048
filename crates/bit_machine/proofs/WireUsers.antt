-- The user of a wire, and what it carries, shows and answers.
use Rattle.std.proofs.Common.{◌≡◌, ℕ, ◌-◌, ◌≤◌, ◌<◌, Bool, true, false, Some, None, List, [], length, get_or, drop, refl, ap, sym, ◌∙◌, arith, zero-add, slice_get}
use Rattle.std.proofs.lemmas.List.{get_or-map}
use Rattle.std.proofs.lemmas.Option.{get_or_from_slice_get, slice_get_within, same_Some}
use Rattle.std.proofs.lemmas.Bool.{lt-ltb}
use Rattle.plan_model.specs.Cells.{Cell, out_length}
use Rattle.plan_model.specs.Operations.{Capture}
use Rattle.plan_model.specs.Plans.{PlannedTest, uses, IsActive}
use Rattle.plan_model.specs.Runs.{Content, wanted, last_bit, chain_at, bits_at, at_first_user, carried, shown}
use Rattle.plan_model.specs.OneTest.{from_end}
use Rattle.plan_model.specs.Right.{IsAt, IsReadAt}
use Rattle.plan_model.proofs.ChainsInTheRun.{at_first_user_is}
use Rattle.plan_model.proofs.LoadsAndReads.{begun_at, chain_is}
use Rattle.plan_model.proofs.TestsInGoodPlans.{uses_is}
use Rattle.vector_lines.specs.Wires.{IsCompared}
use Rattle.vector_lines.specs.Paths.{is_answered}
use Rattle.plan_model.specs.Moments.{phase_ops, moment_behind}
use Rattle.bit_machine.specs.Lanes.{lane_bits, IsBusy, IsWired, IsLane, IsNow}
use Rattle.bit_machine.specs.Machines.{lanes_state, IsMachine, IsSomeMachine, IsUser, HasWire, HasNoUser}
use Rattle.bit_machine.proofs.Assigning.{from_uses}
use Rattle.vector_lines.specs.declared.lane.Lane.{Lane}
use Rattle.bit_machine.specs.declared.stepped.SteppedLane.{SteppedLane}
use Rattle.bit_machine.specs.declared.machine.Machine.{Machine}
use Rattle.common_lemmas.proofs.Options.{none_some}
use Rattle.vector_lines.proofs.WireReads.{nobody, from_answered, read_there}

pub user_place : {content : Content} {tests : List PlannedTest} {m : Machine} (is : IsMachine content tests m) (w : ℕ) {i : ℕ} →
    slice_get m.users.items w ≡ Some (Some i) → i < length m.lanes.items
user_place {tests} is w {i} there =
    let u = is.users.user w i there in
    let within = slice_get_within tests i u.0 u.1 in
    omega arith

pub busy_of : {content : Content} {t : PlannedTest} {l : Lane} (c : ℕ) → IsWired content t l → l.start ≡ t.start → IsActive t c → IsBusy l c
busy_of {t} {l} c w start active =
    let begun = active.0 in
    let going = active.1 in
    let long : length t.operations ≡ length (phase_ops l.phases) = ap length w.operations in
    record { begun = omega arith; going = omega arith }

module _ {m : Machine} (w : ℕ) {i : ℕ} {l : SteppedLane} (there : slice_get m.users.items w ≡ Some (Some i)) (at : slice_get m.lanes.items i ≡ Some l) where
  pub user_lane : {content : Content} {tests : List PlannedTest} (is : IsMachine content tests m) → IsUser content tests m w i l
  user_lane is =
      let u = is.users.user w i there in
      let x = uses_is m.cycle w u.0 u.2 in
      let lane = is.lanes.lane i u.0 l u.1 at in
      let wired = lane.wired x.tam in
      record { t = u.0; at = u.1; lane_at = at; tam = x.tam; used = u.2; lane = lane; steppable = is.lanes.steppable i l at; first = wired.first_wire; begun = x.active.0; now = is.now i l at (from_uses m.cycle w lane u.2).on }

  pub has_wire : (s : IsSomeMachine m) → HasWire m w l
  has_wire s =
      let u = user_lane s.is in
      let x = uses_is m.cycle w u.t u.used in
      let low = x.low in
      record {
        steppable = u.steppable;
        low = omega arith;
        user = λ content tests is. (i, user_lane is);
      }

module _ {content : Content} {tests : List PlannedTest} {m : Machine} (is : IsMachine content tests m) {w : ℕ} {l : SteppedLane} where
  -- what a wire with a user carries and shows
  first_user : (f : ℕ → PlannedTest → ℕ → Bool) {i : ℕ} (u : IsUser content tests m w i l) →
      at_first_user f m.cycle w 0 tests ≡ f i u.t (w - l.lane.first_wire)
  first_user f {i} u =
      at_first_user_is f m.cycle w 0 tests i u.t u.at u.used (λ i' t' at' used'. is.wires.alone m.cycle w i i' u.t t' u.at at' u.used used') ∙ rw (zero-add i, u.first) refl

  pub carried_by : {i : ℕ} (u : IsUser content tests m w i l) {b : Bool} →
      b ≡ wanted (content.stimulus u.t.id) (chain_at u.t (w - l.lane.first_wire)) (drop (m.cycle - u.t.start) u.t.operations) →
      b ≡ carried content tests m.cycle w
  unfolding carried
  carried_by {i} u bit =
      bit ∙ sym (first_user (λ i t j. wanted (content.stimulus t.id) (chain_at t j) (drop (m.cycle - t.start) t.operations)) u)

bits_in : (lanes : List SteppedLane) (i j : ℕ) {l : SteppedLane} → slice_get lanes i ≡ Some l →
    bits_at (lanes_state lanes) i j ≡ get_or (lane_bits l) j []
bits_in lanes i j {l} at =
    ap (λ bits. get_or bits j []) (get_or-map lane_bits lanes i l [] (slice_get_within lanes i l at) ∙ ap lane_bits (get_or_from_slice_get lanes i l l at))

module _ {content : Content} {tests : List PlannedTest} {m : Machine} (is : IsMachine content tests m) (w : ℕ) where
  pub shown_by : {i : ℕ} {l : SteppedLane} (u : IsUser content tests m w i l) {b : Bool} →
      b ≡ last_bit (get_or (lane_bits l) (w - l.lane.first_wire) []) → b ≡ shown tests (lanes_state m.lanes.items) m.cycle w
  unfolding shown
  shown_by {i} {l} u bit =
      bit ∙ rw (← bits_in m.lanes.items i (w - l.lane.first_wire) u.lane_at) (sym (first_user is (λ i t j. last_bit (bits_at (lanes_state m.lanes.items) i j)) u))

  -- a wire without a user carries and shows 0
  pub no_user : w < length m.users.items → slice_get m.users.items w ≡ Some None → (i : ℕ) (t : PlannedTest) → IsAt tests i t →
      uses m.cycle w t ≡ true → ⊥
  no_user h none i t at used = none_some (same_Some _ _ (sym none ∙ is.users.every w i t h at used))

  pub carried_none : HasNoUser m w → false ≡ carried content tests m.cycle w
  unfolding carried
  carried_none none =
      sym (nobody (λ i t j. wanted (content.stimulus t.id) (chain_at t j) (drop (m.cycle - t.start) t.operations)) m.cycle w 0 tests (none content tests is))

  pub shown_none : HasNoUser m w → false ≡ shown tests (lanes_state m.lanes.items) m.cycle w
  unfolding shown
  shown_none none = sym (nobody (λ i t j. last_bit (bits_at (lanes_state m.lanes.items) i j)) m.cycle w 0 tests (none content tests is))

  -- ---- the response bit that is read

  -- what is read is on a wire that the test uses, some Shifts behind its capture
  pub answer_read : {i : ℕ} {l : SteppedLane} (u : IsUser content tests m w i l) (b : Bool) →
      ((content : Content) (t : PlannedTest) → t.tam ≡ true → IsLane content t l.lane → b ≡ is_answered (chain_at t (w - l.lane.first_wire)) (moment_behind l.moment)) →
      (r : IsCompared tests m.cycle w) → b ≡ true
  answer_read {i} {l} u b answers r =
      let used = is.wires.reads r.place r.pattern m.cycle w r.test r.cell r.at r.read in
      let place = is.wires.alone m.cycle w i r.place u.t r.test u.at r.at u.used used in
      let same = same_Some _ _ (sym u.at ∙ rw place at r.at) in
      let lane : IsLane content r.test l.lane = rw same at u.lane in
      let x = uses_is m.cycle w r.test used in
      let first : l.lane.first_wire ≡ r.test.first_wire = u.first ∙ ap (λ (t : PlannedTest). t.first_wire) same in
      reading content r.test l m.cycle w b x.tam lane u.now first (answers content r.test x.tam lane) r.pattern r.cell r.read
    where
      reading : (content : Content) (t : PlannedTest) (l : SteppedLane) (c w : ℕ) (b : Bool) → t.tam ≡ true → IsLane content t l.lane → IsNow l c → l.lane.first_wire ≡ t.first_wire →
          b ≡ is_answered (chain_at t (w - l.lane.first_wire)) (moment_behind l.moment) →
          (k : ℕ) (x : Cell) → IsReadAt t k x c w → b ≡ true
      reading content t l c w b tam lane now first a k x read =
          let wired = lane.wired tam in
          let begun = begun_at t read.capture (Capture k) read.captures in
          let chain : w - l.lane.first_wire ≡ read.chain = omega arith in
          let cells = chain_is t read.chain read.cells read.there in
          let out = wired.out_fits read.chain in
          let within : read.shifts < out_length (chain_at t read.chain) = rw cells read.within in
          let behind = now.is.every read.shifts k (read.capture - t.start) (rw (← wired.operations) begun.1) (omega arith) (omega arith) in
          a ∙ rw (chain, behind) (lt-ltb read.shifts (out_length (chain_at t read.chain)) within)

-- and what is found there is read
pub answer_compared : {content : Content} {tests : List PlannedTest} {m : Machine} {w i : ℕ} {l : SteppedLane} (u : IsUser content tests m w i l)
    {b : Bool} → l.lane.first_wire ≤ w →
    ((content : Content) (t : PlannedTest) → t.tam ≡ true → IsLane content t l.lane → b ≡ is_answered (chain_at t (w - l.lane.first_wire)) (moment_behind l.moment)) →
    b ≡ true → IsCompared tests m.cycle w
answer_compared {content} {m} {w} {i} {l} u low answers some =
    let f = from_answered (chain_at u.t (w - l.lane.first_wire)) (moment_behind l.moment) (sym (answers content u.t u.tam u.lane) ∙ some) in
    let wired = u.lane.wired u.tam in
    let start = u.lane.start in
    let begun = u.begun in
    record {
      place = i;
      test = u.t;
      pattern = f.1;
      cell = from_end (chain_at u.t (w - l.lane.first_wire)) f.0;
      at = u.at;
      read = read_there u.t l.lane m.cycle w (w - l.lane.first_wire) f.0 f.1 wired.operations begun (ap (λ n. m.cycle - n) (sym start)) (omega arith) u.now.is f.2 f.3;
    }
