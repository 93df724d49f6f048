-- Captures are counted wire by wire: that of a test at the first wire of its bus.
use Rattle.std.proofs.Common.{◌≡◌, ◌≢◌, ℕ, zero, suc, ◌+◌, ◌-◌, ◌≤◌, ◌<◌, ◌⊎◌, Bool, true, false, true≢false, cond, Option, Some, None, List, [], ◌∷◌, length, get_or, refl, ap, sym, subst, ◌∙◌, arith, inl, inr, slice_get, nat_lt, ◌&&◌, zip, count_by}
use Rattle.std.proofs.lemmas.List.Sums.{sum_by-cons}
use Rattle.std.proofs.lemmas.List.{get_or-map, length-map}
use Rattle.std.proofs.lemmas.Option.{slice_get_within, slice_get-get_or, get_or_from_slice_get, same_Some}
use Rattle.std.proofs.lemmas.Bool.{cases_lt, cases_Bool, cases_eq, lt-ltb, le-ltb}
use Rattle.plan_model.specs.Cells.{Cell}
use Rattle.plan_model.specs.Operations.{Operation, Setup, Shift, Capture, SelfTest}
use Rattle.plan_model.specs.Plans.{PlannedTest, uses}
use Rattle.plan_model.specs.Runs.{Content, State, operation_at}
use Rattle.plan_model.specs.Right.{IsAt}
use Rattle.plan_model.proofs.ChainsInTheRun.{uses_wire, at_operation}
use Rattle.plan_model.proofs.LoadsAndReads.{begun_at}
use Rattle.bit_machine.specs.Chips.{is_capture, loads_right, captures_at, right_loads_at}
use Rattle.bit_machine.specs.Lanes.{lane_bits, capture_answer}
use Rattle.bit_machine.specs.Machines.{lanes_state, IsMachine, IsUser, HasNoUser, IsWireCapture, one_capture, one_right}
use Rattle.vector_lines.specs.Wires.{AreOnWires}
use Rattle.bit_machine.specs.declared.stepped.SteppedLane.{SteppedLane}
use Rattle.bit_machine.specs.declared.machine.Machine.{Machine}
use Rattle.common_lemmas.proofs.Options.{none_some}

-- ---- counting by a number of the items

abbrev pub below : {X : Type 0} → (X → Bool) → (X → ℕ) → ℕ → List X → ℕ
below P f w xs = count_by (λ x. P x && nat_lt (f x) w) xs

module _ (p : Bool) (n w : ℕ) where
  one_more : n ≢ w → (p && nat_lt n (w + 1)) ≡ (p && nat_lt n w)
  one_more other = elim (cases_lt n w) [
    | inl less ↦ rw (lt-ltb n (w + 1) (omega arith), lt-ltb n w less) refl
    | inr past ↦ rw (le-ltb n (w + 1) (omega arith), le-ltb n w past) refl
  ]

  none_more : p ≡ false → (p && nat_lt n (w + 1)) ≡ (p && nat_lt n w)
  none_more e = rw e refl

module _ {X : Type 0} (P : X → Bool) (f : X → ℕ) where
  pub below_none : (w : ℕ) (xs : List X) → ((i : ℕ) (x : X) → slice_get xs i ≡ Some x → f x ≡ w → P x ≡ true → ⊥) →
      below P f (w + 1) xs ≡ below P f w xs
  below_none w [] none = refl
  below_none w (x ∷ xs) none =
      sum_by-cons (λ x. cond (P x && nat_lt (f x) (w + 1)) 1 0) x xs
      ∙ rw (same (cases_eq (f x) w) (cases_Bool (P x)), below_none w xs (λ i y at. none (suc i) y at)) (sym (sum_by-cons (λ x. cond (P x && nat_lt (f x) w) 1 0) x xs))
    where
      same : (f x ≡ w) ⊎ (f x ≢ w) → (P x ≡ true) ⊎ (P x ≡ false) → (P x && nat_lt (f x) (w + 1)) ≡ (P x && nat_lt (f x) w)
      same (inr other) _ = one_more (P x) (f x) w other
      same (inl e) (inl passes) = absurd (none 0 x refl e passes)
      same (inl e) (inr fails) = none_more (P x) (f x) w fails

  pub below_one : {w : ℕ} (xs : List X) (k : ℕ) {z : X} → slice_get xs k ≡ Some z → f z ≡ w → P z ≡ true →
      ((i : ℕ) (x : X) → slice_get xs i ≡ Some x → f x ≡ w → P x ≡ true → i ≡ k) → below P f (w + 1) xs ≡ below P f w xs + 1
  below_one [] k at e passes only = absurd cc
  below_one {w} (x ∷ xs) zero {z} at e passes only =
      let same : x ≡ z = cc in
      let rest = below_none w xs (λ i y at' e' p'. omega (arith, only (suc i) y at' e' p')) in
      let here : (P x && nat_lt (f x) (w + 1)) ≡ true = rw (same, passes, lt-ltb (f z) (w + 1) (omega arith)) refl in
      let before : (P x && nat_lt (f x) w) ≡ false = rw (same, passes, le-ltb (f z) w (omega arith)) refl in
      sum_by-cons (λ x. cond (P x && nat_lt (f x) (w + 1)) 1 0) x xs ∙ rw (here, rest) (sum_one (below P f w xs) ∙ ap (λ n. n + 1) (sym (sum_by-cons (λ x. cond (P x && nat_lt (f x) w) 1 0) x xs ∙ rw before (zero_more (below P f w xs)))))
    where
      sum_one : (n : ℕ) → 1 + n ≡ n + 1
      sum_one n = omega arith

      zero_more : (n : ℕ) → 0 + n ≡ n
      zero_more n = omega arith
  below_one {w} (x ∷ xs) (suc k) at e passes only =
      let rest : below P f (w + 1) xs ≡ below P f w xs + 1 = below_one xs k at e passes (λ i y at' e' p'. let n : suc i ≡ suc k = only (suc i) y at' e' p' in omega arith) in
      sum_by-cons (λ x. cond (P x && nat_lt (f x) (w + 1)) 1 0) x xs
      ∙ rw (same (cases_eq (f x) w) (cases_Bool (P x)), rest) (shift (cond (P x && nat_lt (f x) w) 1 0) (below P f w xs) ∙ ap (λ n. n + 1) (sym (sum_by-cons (λ x. cond (P x && nat_lt (f x) w) 1 0) x xs)))
    where
      shift : (a b : ℕ) → a + (b + 1) ≡ a + b + 1
      shift a b = omega arith

      same : (f x ≡ w) ⊎ (f x ≢ w) → (P x ≡ true) ⊎ (P x ≡ false) → (P x && nat_lt (f x) (w + 1)) ≡ (P x && nat_lt (f x) w)
      same (inr other) _ = one_more (P x) (f x) w other
      same (inl e') (inl p') = absurd (omega (arith, only 0 x refl e' p'))
      same (inl e') (inr fails) = none_more (P x) (f x) w fails

  pub below_zero : (xs : List X) → below P f 0 xs ≡ 0
  below_zero [] = refl
  below_zero (x ∷ xs) = sum_by-cons (λ x. cond (P x && nat_lt (f x) 0) 1 0) x xs ∙ rw (none (P x), below_zero xs) refl where
    none : (p : Bool) → (p && nat_lt (f x) 0) ≡ false
    none true = le-ltb (f x) 0 (omega arith)
    none false = refl

  pub below_all : (w : ℕ) (xs : List X) → ((i : ℕ) (x : X) → slice_get xs i ≡ Some x → P x ≡ true → f x < w) → below P f w xs ≡ count_by P xs
  below_all w [] all = refl
  below_all w (x ∷ xs) all =
      sum_by-cons (λ x. cond (P x && nat_lt (f x) w) 1 0) x xs ∙ rw (same (cases_Bool (P x)), below_all w xs (λ i y at. all (suc i) y at)) (sym (sum_by-cons (λ x. cond (P x) 1 0) x xs))
    where
      same : (P x ≡ true) ⊎ (P x ≡ false) → (P x && nat_lt (f x) w) ≡ P x
      same (inl passes) = rw (passes, lt-ltb (f x) w (all 0 x refl passes)) refl
      same (inr fails) = rw fails refl

-- ---- two lists side by side

pub from_zip : {X Y : Type 0} (xs : List X) (ys : List Y) (i : ℕ) {p : X × Y} → slice_get (zip xs ys) i ≡ Some p →
    (slice_get xs i ≡ Some p.0) × (slice_get ys i ≡ Some p.1)
from_zip [] ys i e = absurd cc
from_zip (x ∷ xs) [] i e = absurd cc
from_zip {X = X} {Y = Y} (x ∷ xs) (y ∷ ys) zero {p} e = let same = same_Some _ _ e in (ap (λ (p : X × Y). Some p.0) same, ap (λ (p : X × Y). Some p.1) same)
from_zip (x ∷ xs) (y ∷ ys) (suc i) e = from_zip xs ys i e

pub at_zip : {X Y : Type 0} (xs : List X) (ys : List Y) (i : ℕ) {x : X} {y : Y} → slice_get xs i ≡ Some x → slice_get ys i ≡ Some y →
    slice_get (zip xs ys) i ≡ Some (x, y)
at_zip [] ys i e h = absurd cc
at_zip (z ∷ xs) [] i e h = absurd cc
at_zip (z ∷ xs) (v ∷ ys) zero {x} {y} e h = let a : z ≡ x = same_Some _ _ e in let b : v ≡ y = same_Some _ _ h in rw (a, b) refl
at_zip (z ∷ xs) (v ∷ ys) (suc i) e h = at_zip xs ys i e h

-- ---- what captures

capture_number : (o : Option Operation) → is_capture o ≡ true → (k : ℕ) × (o ≡ Some (Capture k))
capture_number None e = absurd cc
capture_number (Some Setup) e = absurd cc
capture_number (Some Shift) e = absurd cc
capture_number (Some (Capture k)) e = (k, refl)
capture_number (Some SelfTest) e = absurd cc

module _ (f : ℕ → Cell → Bool) (chains : List (List Cell)) (bits : List (List Bool)) where
  right_captures : (o : Option Operation) → loads_right f o chains bits ≡ true → is_capture o ≡ true
  right_captures None e = absurd cc
  right_captures (Some Setup) e = absurd cc
  right_captures (Some Shift) e = absurd cc
  right_captures (Some (Capture k)) e = refl
  right_captures (Some SelfTest) e = absurd cc

  from_capture : (o : Option Operation) (b : Bool) → capture_answer f o chains bits ≡ Some b → (is_capture o ≡ true) × (loads_right f o chains bits ≡ b)
  from_capture None b e = absurd cc
  from_capture (Some Setup) b e = absurd cc
  from_capture (Some Shift) b e = absurd cc
  from_capture (Some (Capture k)) b e = (refl, same_Some _ _ e)
  from_capture (Some SelfTest) b e = absurd cc

  no_capture : (o : Option Operation) → capture_answer f o chains bits ≡ None → is_capture o ≡ true → ⊥
  no_capture None e h = cc
  no_capture (Some Setup) e h = cc
  no_capture (Some Shift) e h = cc
  no_capture (Some (Capture k)) e h = none_some (sym e)
  no_capture (Some SelfTest) e h = cc

module _ {tests : List PlannedTest} {n : ℕ} (on : AreOnWires tests n) (c i : ℕ) {t : PlannedTest} (at : IsAt tests i t)
    (captures : is_capture (operation_at t c) ≡ true) where
  -- a test that captures uses the first wire of its bus
  capture_uses : uses c t.first_wire t ≡ true
  capture_uses =
      let k = capture_number (operation_at t c) captures in
      let b = begun_at t c (Capture k.0) k.1 in
      let tam = on.captures i c k.0 t at k.1 in
      let same : t.first_wire + 0 ≡ t.first_wire = omega arith in
      let wide = on.some i t at tam in
      subst (λ x. uses c x t ≡ true) same (uses_wire t c 0 tam b.0 (slice_get_within t.operations (c - t.start) (Capture k.0) b.1) (omega arith))

  on_wire : {w : ℕ} → t.first_wire ≡ w → uses c w t ≡ true
  on_wire e = subst (λ x. uses c x t ≡ true) e capture_uses

-- ---- the capture at a wire

module _ {content : Content} {tests : List PlannedTest} {m : Machine} {w p : ℕ} {l : SteppedLane} (u : IsUser content tests m w p l) where
  bits_of_user : get_or (lanes_state m.lanes.items) p [] ≡ lane_bits l
  bits_of_user =
      get_or-map lane_bits m.lanes.items p l [] (slice_get_within m.lanes.items p l u.lane_at) ∙ ap lane_bits (get_or_from_slice_get m.lanes.items p l l u.lane_at)

  same_user : (is : IsMachine content tests m) (i : ℕ) {t : PlannedTest} → IsAt tests i t → uses m.cycle w t ≡ true → u.t ≡ t
  same_user is i {t} at used =
      let place = is.wires.alone m.cycle w p i u.t t u.at at u.used used in
      same_Some _ _ (sym u.at ∙ rw place at at)

  pub capture_here : (is : IsMachine content tests m) {r : Option Bool} → l.lane.first_wire ≡ w →
      r ≡ capture_answer (content.stimulus u.t.id) (slice_get u.t.operations (m.cycle - u.t.start)) u.t.chains (lane_bits l) →
      IsWireCapture content tests m.cycle w (lanes_state m.lanes.items) r
  capture_here is first answer = record {
    some = λ b e.
        let f = from_capture (content.stimulus u.t.id) u.t.chains (lane_bits l) (operation_at u.t m.cycle) b (rw op (sym answer ∙ e)) in
        (p, u.t, u.at, sym u.first ∙ first, f.0, rw bits_of_user f.1);
    none = λ e i t at wire captures.
        let same = same_user is i at (on_wire is.wires m.cycle i at captures wire) in
        no_capture (content.stimulus u.t.id) u.t.chains (lane_bits l) (operation_at u.t m.cycle) (rw op (sym answer ∙ e)) (rw (← same) at captures);
  }
    where
      op : operation_at u.t m.cycle ≡ slice_get u.t.operations (m.cycle - u.t.start)
      op = at_operation u.t m.cycle u.begun

  pub capture_apart : (is : IsMachine content tests m) → l.lane.first_wire ≢ w → IsWireCapture content tests m.cycle w (lanes_state m.lanes.items) None
  capture_apart is other = record {
    some = λ b e. absurd (none_some e);
    none = λ e i t at wire captures.
        let same = same_user is i at (on_wire is.wires m.cycle i at captures wire) in
        other (u.first ∙ ap (λ (t : PlannedTest). t.first_wire) same ∙ wire);
  }

pub capture_nowhere : {content : Content} {tests : List PlannedTest} {m : Machine} (is : IsMachine content tests m) (w : ℕ) → HasNoUser m w →
    IsWireCapture content tests m.cycle w (lanes_state m.lanes.items) None
capture_nowhere {content} {tests} {m} is w none = record {
  some = λ b e. absurd (none_some e);
  none = λ e i t at wire captures. none content tests is i t at (on_wire is.wires m.cycle i at captures wire);
}

-- ---- one wire more

-- the captures of the tests whose buses begin below a wire, and those that find their stimulus
unfoldable pub captures_below : List PlannedTest → (c w : ℕ) → ℕ
captures_below tests c w = below (λ (t : PlannedTest). is_capture (operation_at t c)) (λ (t : PlannedTest). t.first_wire) w tests

unfoldable pub rights_below : Content → List PlannedTest → State → (c w : ℕ) → ℕ
rights_below content tests state c w =
    below (λ (p : PlannedTest × List (List Bool)). loads_right (content.stimulus p.0.id) (operation_at p.0 c) p.0.chains p.1) (λ (p : PlannedTest × List (List Bool)). p.0.first_wire) w (zip tests state)

pub nothing_below : (content : Content) (tests : List PlannedTest) (state : State) (c : ℕ) → (0 ≡ captures_below tests c 0) × (0 ≡ rights_below content tests state c 0)
unfolding captures_below rights_below
nothing_below content tests state c = (
  sym (below_zero (λ (t : PlannedTest). is_capture (operation_at t c)) (λ (t : PlannedTest). t.first_wire) tests),
  sym (below_zero (λ (p : PlannedTest × List (List Bool)). loads_right (content.stimulus p.0.id) (operation_at p.0 c) p.0.chains p.1) (λ (p : PlannedTest × List (List Bool)). p.0.first_wire) (zip tests state)),
)

module _ {content : Content} {tests : List PlannedTest} {m : Machine} (is : IsMachine content tests m) where
  pub capture_more : {w : ℕ} (r : Option Bool) → IsWireCapture content tests m.cycle w (lanes_state m.lanes.items) r →
      captures_below tests m.cycle (w + 1) ≡ captures_below tests m.cycle w + one_capture r
  unfolding captures_below
  capture_more {w} None here =
      below_none (λ (t : PlannedTest). is_capture (operation_at t m.cycle)) (λ (t : PlannedTest). t.first_wire) w tests (here.none refl) ∙ omega arith
  capture_more {w} (Some b) here =
      let f = here.some b refl in
      below_one (λ (t : PlannedTest). is_capture (operation_at t m.cycle)) (λ (t : PlannedTest). t.first_wire) tests f.0 f.2 f.3 f.4
      (λ i t at wire captures. is.wires.alone m.cycle w f.0 i f.1 t f.2 at (on_wire is.wires m.cycle f.0 f.2 f.4 f.3) (on_wire is.wires m.cycle i at captures wire))

  state_at_place : (i : ℕ) {t : PlannedTest} → IsAt tests i t → slice_get (lanes_state m.lanes.items) i ≡ Some (get_or (lanes_state m.lanes.items) i [])
  state_at_place i {t} at =
      let within = slice_get_within tests i t at in
      slice_get-get_or (lanes_state m.lanes.items) i [] (omega (arith, length-map m.lanes.items lane_bits))

  pub right_more : {w : ℕ} {r : Option Bool} → IsWireCapture content tests m.cycle w (lanes_state m.lanes.items) r →
      rights_below content tests (lanes_state m.lanes.items) m.cycle (w + 1) ≡ rights_below content tests (lanes_state m.lanes.items) m.cycle w + one_right r
  unfolding rights_below
  right_more {w} {r} here = go r refl where
    state : State
    state = lanes_state m.lanes.items

    P : PlannedTest × List (List Bool) → Bool
    P p = loads_right (content.stimulus p.0.id) (operation_at p.0 m.cycle) p.0.chains p.1

    f : PlannedTest × List (List Bool) → ℕ
    f p = p.0.first_wire

    captures : (p : PlannedTest × List (List Bool)) → P p ≡ true → is_capture (operation_at p.0 m.cycle) ≡ true
    captures p e = right_captures (content.stimulus p.0.id) p.0.chains p.1 (operation_at p.0 m.cycle) e

    go : (q : Option Bool) → r ≡ q → below P f (w + 1) (zip tests state) ≡ below P f w (zip tests state) + one_right q
    go None e = below_none P f w (zip tests state) (λ i p at wire passes. here.none e i p.0 (from_zip tests state i at).0 wire (captures p passes)) ∙ omega arith
    go (Some true) e =
        let g = here.some true e in
        below_one P f (zip tests state) g.0 (at_zip tests state g.0 g.2 (state_at_place g.0 g.2)) g.3 g.5
        (λ i p at wire passes. is.wires.alone m.cycle w g.0 i g.1 p.0 g.2 (from_zip tests state i at).0 (on_wire is.wires m.cycle g.0 g.2 g.4 g.3) (on_wire is.wires m.cycle i (from_zip tests state i at).0 (captures p passes) wire))
    go (Some false) e =
        let g = here.some false e in
        below_none P f w (zip tests state) (λ i p at wire passes. wrong g i p (from_zip tests state i at) wire passes) ∙ omega arith
      where
        wrong : (g : (i : ℕ) × (t : PlannedTest) × IsAt tests i t × (t.first_wire ≡ w) × (is_capture (operation_at t m.cycle) ≡ true) × (loads_right (content.stimulus t.id) (operation_at t m.cycle) t.chains (get_or state i []) ≡ false))
            (i : ℕ) (p : PlannedTest × List (List Bool)) → (slice_get tests i ≡ Some p.0) × (slice_get state i ≡ Some p.1) → f p ≡ w → P p ≡ true → ⊥
        wrong g i p at wire passes =
            let place = is.wires.alone m.cycle w g.0 i g.1 p.0 g.2 at.0 (on_wire is.wires m.cycle g.0 g.2 g.4 g.3) (on_wire is.wires m.cycle i at.0 (captures p passes) wire) in
            let t_is = same_Some _ _ (sym g.2 ∙ rw place at at.0) in
            let b_is = get_or_from_slice_get state g.0 p.1 [] (rw place at at.1) in
            let there : loads_right (content.stimulus p.0.id) (operation_at p.0 m.cycle) p.0.chains (get_or state g.0 []) ≡ false = rw t_is at g.5 in
            true≢false (sym passes ∙ subst (λ (b : List (List Bool)). loads_right (content.stimulus p.0.id) (operation_at p.0 m.cycle) p.0.chains b ≡ false) b_is there)

-- all wires
first_below : {tests : List PlannedTest} {n : ℕ} (on : AreOnWires tests n) (c i w : ℕ) {t : PlannedTest} → IsAt tests i t →
    is_capture (operation_at t c) ≡ true → n ≤ w → t.first_wire < w
first_below on c i w {t} at captures all =
    let k = capture_number (operation_at t c) captures in
    let tam = on.captures i c k.0 t at k.1 in
    let within = on.within i t at tam in
    let some = on.some i t at tam in
    omega arith

module _ {content : Content} {tests : List PlannedTest} {m : Machine} (is : IsMachine content tests m) (w : ℕ) (all : length m.users.items ≤ w) where
  pub all_captures : captures_below tests m.cycle w ≡ captures_at tests m.cycle
  unfolding captures_below
  all_captures =
      below_all (λ (t : PlannedTest). is_capture (operation_at t m.cycle)) (λ (t : PlannedTest). t.first_wire) w tests (λ i t at captures. first_below is.wires m.cycle i w at captures all)

  pub all_rights : rights_below content tests (lanes_state m.lanes.items) m.cycle w ≡ right_loads_at content tests m.cycle (lanes_state m.lanes.items)
  unfolding rights_below
  all_rights =
      below_all (λ (p : PlannedTest × List (List Bool)). loads_right (content.stimulus p.0.id) (operation_at p.0 m.cycle) p.0.chains p.1) (λ (p : PlannedTest × List (List Bool)). p.0.first_wire) w
      (zip tests (lanes_state m.lanes.items)) (λ i p at passes. first_below is.wires m.cycle i w (from_zip tests (lanes_state m.lanes.items) i at).0 (right_captures (content.stimulus p.0.id) p.0.chains p.1 (operation_at p.0 m.cycle) passes) all)
