-- One cycle of the chains, wire by wire.
use Rattle.std.proofs.Common.{◌≡◌, ◌≢◌, ℕ, zero, suc, ◌+◌, ◌-◌, ◌≤◌, ◌<◌, ◌⊎◌, Bool, true, false, true≢false, Some, None, List, [], ◌∷◌, length, get_or, map, set, refl, ap, sym, subst, ◌∙◌, arith, inl, inr, zero-add, slice_get}
use Rattle.std.specs.List.{range_with_len}
use Rattle.std.specs.Vec.{with_item}
use Rattle.std.proofs.lemmas.List.{get_or-map, get_or-set_same, get_or-set_other, map-set, length-map, length-set, same_lists}
use Rattle.std.proofs.lemmas.List.FromFn.{get_or-map-range_with_len, length-range_with_len}
use Rattle.std.proofs.lemmas.Option.{get_or_from_slice_get, slice_get_within, slice_get_past, same_Some}
use Rattle.std.proofs.lemmas.Bool.{cases_lt, cases_Bool, cases_eq}
use Rattle.plan_model.specs.Plans.{PlannedTest, uses}
use Rattle.plan_model.specs.Runs.{Content, State, chain_at, bits_at, next_bits, operation_at, each_chain, step}
use Rattle.plan_model.specs.Right.{IsAt}
use Rattle.plan_model.proofs.ChainsInTheRun.{idle_before, at_operation, uses_wire}
use Rattle.bit_machine.specs.Lanes.{lane_bits, AreRings, IsLane, IsNow, IsSteppable}
use Rattle.bit_machine.specs.Machines.{lanes_state, IsMachine, IsUser, IsWireStep, AreWireSteps}
use Rattle.bit_machine.specs.declared.stepped.SteppedLane.{SteppedLane}
use Rattle.bit_machine.specs.declared.machine.Machine.{Machine}
use Rattle.bit_machine.proofs.LaneSteps.{from_set}
use Rattle.common_lemmas.proofs.Lists.{any_default}

-- a test that does not use the wire of one of its chains does nothing
idle : (t : PlannedTest) (c j : ℕ) → t.tam ≡ true → j < t.width → uses c (t.first_wire + j) t ≡ false → operation_at t c ≡ None
idle t c j tam wide unused = go (cases_lt c t.start) where
  later : t.start ≤ c → (c - t.start < length t.operations) ⊎ (length t.operations ≤ c - t.start) → operation_at t c ≡ None
  later begun (inl going) = absurd (true≢false (sym (uses_wire t c j tam begun going wide) ∙ unused))
  later begun (inr over) = at_operation t c begun ∙ slice_get_past t.operations (c - t.start) over

  go : (c < t.start) ⊎ (t.start ≤ c) → operation_at t c ≡ None
  go (inl early) = idle_before t c early
  go (inr begun) = later begun (cases_lt (c - t.start) (length t.operations))

some_lane : (ls : List SteppedLane) (i : ℕ) → i < length ls → (l : SteppedLane) × (slice_get ls i ≡ Some l)
some_lane [] i h = absurd (omega arith)
some_lane (l ∷ ls) zero h = (l, refl)
some_lane (l ∷ ls) (suc i) h = some_lane ls i (omega arith)

-- only tests over the wires have chains
chains_tam : {content : Content} {tests : List PlannedTest} {m : Machine} (is : IsMachine content tests m) (i j : ℕ) {t : PlannedTest} →
    IsAt tests i t → j < length t.chains → t.tam ≡ true
chains_tam {tests} {m} is i j {t} at h = go (cases_Bool t.tam) where
  lane_there : (l : SteppedLane) → slice_get m.lanes.items i ≡ Some l → t.tam ≡ false → t.tam ≡ true
  lane_there l there none = let e = (is.lanes.lane i t l at there).alone none in absurd (omega (arith, e.1))

  go : (t.tam ≡ true) ⊎ (t.tam ≡ false) → t.tam ≡ true
  go (inl yes') = yes'
  go (inr none) =
      let within = slice_get_within tests i t at in
      let some = some_lane m.lanes.items i (omega arith) in
      lane_there some.0 some.1 none

-- ---- bits in a changed state

module _ (s : State) (p j : ℕ) (b : List (List Bool)) where
  other_test : (i : ℕ) → i ≢ p → bits_at (set s p b) i j ≡ bits_at s i j
  other_test i h = ap (λ bits. get_or bits j []) (get_or-set_other s p i b [] h)

  same_test : p < length s → bits_at (set s p b) p j ≡ get_or b j []
  same_test h = ap (λ bits. get_or bits j []) (get_or-set_same s p b [] h)

-- ---- a wire with a user

-- the lane of the user after a step of its chain on the wire
abbrev pub StepsLane : Content → PlannedTest → ℕ → ℕ → Bool → SteppedLane → SteppedLane → Type 0
StepsLane content t c j drive l l' = lane_bits l' ≡ set (lane_bits l) j (next_bits (content.response t.id) (chain_at t j) (slice_get t.operations (c - t.start)) drive (get_or (lane_bits l) j []))

module _ {content : Content} {tests : List PlannedTest} {m : Machine} (is : IsMachine content tests m) {w p : ℕ} {l : SteppedLane} (l' : SteppedLane)
    (drive : Bool) (u : IsUser content tests m w p l) (low : l.lane.first_wire ≤ w)
    (steps : StepsLane content u.t m.cycle (w - l.lane.first_wire) drive l l') where
  user_stepped : IsWireStep content tests m.cycle w drive (lanes_state m.lanes.items) (set (lanes_state m.lanes.items) p (lane_bits l'))
  user_stepped = record {
    here = λ i j t at h wire. elim (cases_eq i p) [
      | inl same ↦
          let t_is = same_Some _ _ (sym u.at ∙ rw same at at) in
          subst (λ i. bits_at (set (lanes_state m.lanes.items) p (lane_bits l')) i j ≡ next_bits (content.response t.id) (chain_at t j) (operation_at t m.cycle) drive (bits_at (lanes_state m.lanes.items) i j)) (sym same)
          (subst (λ t. j < length t.chains → t.first_wire + j ≡ w → bits_at (set (lanes_state m.lanes.items) p (lane_bits l')) p j ≡ next_bits (content.response t.id) (chain_at t j) (operation_at t m.cycle) drive
          (bits_at (lanes_state m.lanes.items) p j)) t_is (user_here j) h wire)
      | inr apart ↦ other_test (lanes_state m.lanes.items) p j (lane_bits l') i apart ∙ rw (idle_here i j t at h wire apart) refl
    ];
    others = λ i j t at h wire. elim (cases_eq i p) [
      | inl same ↦
          let t_is = same_Some _ _ (sym u.at ∙ rw same at at) in
          subst (λ i. bits_at (set (lanes_state m.lanes.items) p (lane_bits l')) i j ≡ bits_at (lanes_state m.lanes.items) i j) (sym same)
          (user_others j (rw (← t_is) at h) (λ e. wire (rw t_is at e)))
      | inr apart ↦ other_test (lanes_state m.lanes.items) p j (lane_bits l') i apart
    ];
  }
    where
      first : l.lane.first_wire ≡ u.t.first_wire
      first = u.first

      chains : length (lane_bits l) ≡ length u.t.chains
      chains = u.steppable.rings.many ∙ (u.lane.wired u.tam).chains

      place : p < length (lanes_state m.lanes.items)
      place = let a = slice_get_within m.lanes.items p l u.lane_at in let b = length-map m.lanes.items lane_bits in omega arith

      old : (j : ℕ) → bits_at (lanes_state m.lanes.items) p j ≡ get_or (lane_bits l) j []
      old j = ap (λ bits. get_or bits j []) (get_or-map lane_bits m.lanes.items p l [] (slice_get_within m.lanes.items p l u.lane_at) ∙ ap lane_bits (get_or_from_slice_get m.lanes.items p l l u.lane_at))

      begun : u.t.start ≤ m.cycle
      begun = u.begun

      user_here : (j : ℕ) → j < length u.t.chains → u.t.first_wire + j ≡ w →
          bits_at (set (lanes_state m.lanes.items) p (lane_bits l')) p j ≡ next_bits (content.response u.t.id) (chain_at u.t j) (operation_at u.t m.cycle) drive (bits_at (lanes_state m.lanes.items) p j)
      user_here j h wire =
          let chain : w - l.lane.first_wire ≡ j = omega (arith, first) in
          let steps' = rw chain at steps in
          same_test (lanes_state m.lanes.items) p j (lane_bits l') place ∙ ap (λ bits. get_or bits j []) steps'
          ∙ get_or-set_same (lane_bits l) j _ [] (omega (arith, chains)) ∙ rw (old j, at_operation u.t m.cycle begun) refl

      user_others : (j : ℕ) → j < length u.t.chains → u.t.first_wire + j ≢ w → bits_at (set (lanes_state m.lanes.items) p (lane_bits l')) p j ≡ bits_at (lanes_state m.lanes.items) p j
      user_others j h wire =
          let apart : j ≢ w - l.lane.first_wire = λ e. wire (omega (arith, first)) in
          same_test (lanes_state m.lanes.items) p j (lane_bits l') place ∙ ap (λ bits. get_or bits j []) steps ∙ get_or-set_other (lane_bits l) (w - l.lane.first_wire) j _ [] apart ∙ sym (old j)

      idle_here : (i j : ℕ) (t : PlannedTest) → IsAt tests i t → j < length t.chains → t.first_wire + j ≡ w → i ≢ p → operation_at t m.cycle ≡ None
      idle_here i j t at h wire apart =
          let fit = is.wires.fit i t at in
          idle t m.cycle j (chains_tam is i j at h) (omega arith) (unused (cases_Bool (uses m.cycle (t.first_wire + j) t)))
        where
          unused : (uses m.cycle (t.first_wire + j) t ≡ true) ⊎ (uses m.cycle (t.first_wire + j) t ≡ false) → uses m.cycle (t.first_wire + j) t ≡ false
          unused (inl yes') = absurd (apart (is.wires.alone m.cycle w p i u.t t u.at at u.used (rw wire at yes')))
          unused (inr no') = no'

  pub user_step : IsWireStep content tests m.cycle w drive (lanes_state m.lanes.items) (lanes_state (set m.lanes.items p l'))
  user_step =
      subst (IsWireStep content tests m.cycle w drive (lanes_state m.lanes.items)) (sym (map-set lane_bits m.lanes.items p l')) user_stepped

module _ {content : Content} {tests : List PlannedTest} {m : Machine} (is : IsMachine content tests m) (w : ℕ) where
  pub unused_step : (drive : Bool) → ((i : ℕ) (t : PlannedTest) → IsAt tests i t → uses m.cycle w t ≡ true → ⊥) →
      IsWireStep content tests m.cycle w drive (lanes_state m.lanes.items) (lanes_state m.lanes.items)
  unused_step drive none = record {
    here = λ i j t at h wire. rw (idle_at i j t at h wire) refl;
    others = λ i j t at h wire. refl;
  }
    where
      idle_at : (i j : ℕ) (t : PlannedTest) → IsAt tests i t → j < length t.chains → t.first_wire + j ≡ w → operation_at t m.cycle ≡ None
      idle_at i j t at h wire =
          let fit = is.wires.fit i t at in
          idle t m.cycle j (chains_tam is i j at h) (omega arith) (unused (cases_Bool (uses m.cycle (t.first_wire + j) t)))
        where
          unused : (uses m.cycle (t.first_wire + j) t ≡ true) ⊎ (uses m.cycle (t.first_wire + j) t ≡ false) → uses m.cycle (t.first_wire + j) t ≡ false
          unused (inl yes') = absurd (none i t at (rw wire at yes'))
          unused (inr no') = no'

  -- the machine with one lane stepped
  pub with_lane : {p : ℕ} {l l' : SteppedLane} (u : IsUser content tests m w p l) → l'.lane ≡ l.lane → IsSteppable l' → IsNow l' m.cycle →
      IsMachine content tests (record { lanes = with_item m.lanes p l'; users = m.users; cycle = m.cycle; change = m.change })
  with_lane {p} {l'} u same can now = record {
    lanes = record {
      long = length-set m.lanes.items p l' ∙ is.lanes.long;
      lane = λ i t k at there. elim (from_set m.lanes.items p i l' there) [
        | inl here ↦
            let t_is = same_Some _ _ (sym u.at ∙ rw here.0 at at) in
            let own : IsLane content t l'.lane = subst (λ t. IsLane content t l'.lane) t_is (subst (IsLane content u.t) (sym same) u.lane) in
            rw (← here.1) at own
        | inr other ↦ is.lanes.lane i t k at other
      ];
      steppable = λ i k there. elim (from_set m.lanes.items p i l' there) [
        | inl here ↦ subst IsSteppable (sym here.1) can
        | inr other ↦ is.lanes.steppable i k other
      ];
    };
    wires = is.wires;
    users = is.users;
    change = is.change;
    now = λ i k there on. elim (from_set m.lanes.items p i l' there) [
      | inl here ↦ rw (← here.1) at now
      | inr other ↦ is.now i k other on
    ];
  }

-- ---- all wires

pub no_wires : (content : Content) (tests : List PlannedTest) (c : ℕ) (drive : ℕ → Bool) (s : State) → AreWireSteps content tests c 0 drive s s
no_wires content tests c drive s = record {
  done = λ i j t at h less. absurd (omega arith);
  rest = λ i j t at h past. refl;
}

module _ {content : Content} {tests : List PlannedTest} {c w : ℕ} {bit : Bool} {old new : State} where
  pub same_cycle : {c' : ℕ} → c ≡ c' → IsWireStep content tests c w bit old new → IsWireStep content tests c' w bit old new
  same_cycle e step = rw (← e) step

  pub wire_more : {drive : ℕ → Bool} {mid : State} → bit ≡ drive w → AreWireSteps content tests c w drive old mid →
      IsWireStep content tests c w bit mid new → AreWireSteps content tests c (w + 1) drive old new
  wire_more {drive} is before step = record {
    done = λ i j t at h less. done i j t at h less (cases_eq (t.first_wire + j) w);
    rest = λ i j t at h past. step.others i j t at h (λ e. omega arith) ∙ before.rest i j t at h (omega arith);
  }
    where
      done : (i j : ℕ) (t : PlannedTest) → IsAt tests i t → j < length t.chains → t.first_wire + j < w + 1 → (t.first_wire + j ≡ w) ⊎ (t.first_wire + j ≢ w) →
          bits_at new i j ≡ next_bits (content.response t.id) (chain_at t j) (operation_at t c) (drive (t.first_wire + j)) (bits_at old i j)
      done i j t at h less (inl same) = step.here i j t at h same ∙ rw (is, ← same, before.rest i j t at h (omega arith)) refl
      done i j t at h less (inr other) = step.others i j t at h other ∙ before.done i j t at h (below (t.first_wire + j) less other)
        where
          below : (x : ℕ) → x < w + 1 → x ≢ w → x < w
          below x a b = omega arith

-- a state by its chains
pub state_is : (f : ℕ → PlannedTest → ℕ → List Bool) (n : ℕ) (tests : List PlannedTest) (s : State) → length s ≡ length tests → ((i : ℕ) (t : PlannedTest) → IsAt tests i t → length (get_or s i []) ≡ length t.chains) →
    ((i j : ℕ) (t : PlannedTest) → IsAt tests i t → j < length t.chains → bits_at s i j ≡ f (n + i) t j) → s ≡ each_chain f n tests
state_is f n [] [] long wide each = refl
state_is f n [] (b ∷ s) long wide each = absurd (omega arith)
state_is f n (t ∷ tests) [] long wide each = absurd (omega arith)
state_is f n (t ∷ tests) (b ∷ s) long wide each = pair here (state_is f (n + 1) tests s (omega arith) (λ i u at. wide (suc i) u at) (λ i j u at h. let e : n + 1 + i ≡ n + suc i = omega arith in rw e (each (suc i) j u at h)))
  where
    pair : {X : Type 0} {x y : X} {xs ys : List X} → x ≡ y → xs ≡ ys → x ∷ xs ≡ y ∷ ys
    pair e h = rw (e, h) refl

    width : length b ≡ length t.chains
    width = wide 0 t refl

    long' : length (map (f n t) (range_with_len 0 (length t.chains))) ≡ length t.chains
    long' = length-map (range_with_len 0 (length t.chains)) (f n t) ∙ length-range_with_len 0 (length t.chains)

    here : b ≡ map (f n t) (range_with_len 0 (length t.chains))
    here =
        same_lists b (map (f n t) (range_with_len 0 (length t.chains))) (width ∙ sym long') (λ j d h.
        let less : j < length t.chains = omega (arith, width) in
        let zero' : n + 0 ≡ n = omega arith in
        any_default b j d [] h ∙ each 0 j t refl less ∙ rw zero' (sym (get_or-map-range_with_len (f n t) 0 (length t.chains) j j d less (zero-add j))))

lane_width : {content : Content} {t : PlannedTest} {l : SteppedLane} → IsLane content t l.lane → AreRings l → length (lane_bits l) ≡ length t.chains
lane_width {t} {l} is rings = rings.many ∙ go (cases_Bool t.tam) where
  go : (t.tam ≡ true) ⊎ (t.tam ≡ false) → length l.lane.paths.items ≡ length t.chains
  go (inl yes') = (is.wired yes').chains
  go (inr no') = let e = is.alone no' in omega (arith, e.0, e.1)

module _ {content : Content} {tests : List PlannedTest} {m : Machine} (is : IsMachine content tests m) where
  pub lanes_width : (i : ℕ) (t : PlannedTest) → IsAt tests i t → length (get_or (lanes_state m.lanes.items) i []) ≡ length t.chains
  lanes_width i t at =
      let within = slice_get_within tests i t at in
      let some = some_lane m.lanes.items i (omega arith) in
      ap length (get_or-map lane_bits m.lanes.items i some.0 [] (omega arith) ∙ ap lane_bits (get_or_from_slice_get m.lanes.items i some.0 some.0 some.1)) ∙ lane_width (is.lanes.lane i t some.0 at some.1) (is.lanes.steppable i some.0 some.1).rings

  pub whole_step : (old : Machine) {c w : ℕ} {drive : ℕ → Bool} → length m.users.items ≤ w →
      AreWireSteps content tests c w drive (lanes_state old.lanes.items) (lanes_state m.lanes.items) →
      lanes_state m.lanes.items ≡ step content tests drive c (lanes_state old.lanes.items)
  unfolding step
  whole_step old {c} {drive} all steps =
      state_is (λ i t j. next_bits (content.response t.id) (chain_at t j) (operation_at t c) (drive (t.first_wire + j)) (bits_at (lanes_state old.lanes.items) i j)) 0 tests (lanes_state m.lanes.items)
      (length-map m.lanes.items lane_bits ∙ is.lanes.long) lanes_width (λ i j t at h.
      let fit = is.wires.fit i t at in
      let within = is.wires.within i t at (chains_tam is i j at h) in
      steps.done i j t at h (omega arith) ∙ rw (zero-add i) refl)
