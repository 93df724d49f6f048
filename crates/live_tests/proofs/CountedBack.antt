-- What is read of a planned test is found by counting back to the last Capture.
use Rattle.std.proofs.Common.{◌≡◌, ℕ, zero, suc, ◌+◌, ◌-◌, ◌≤◌, ◌<◌, ◌⊎◌, true, ltb, Option, Some, None, List, [], ◌∷◌, ◌++◌, length, get_or, take, reverse, option_map, refl, ap, ◌∙◌, sym, arith, inl, inr}
use Rattle.std.specs.Prelude.{slice_get, Bool}
use Rattle.std.proofs.Math.Seq.{take-suc}
use Rattle.std.proofs.lemmas.List.{reverse-append, get_or_past}
use Rattle.std.proofs.lemmas.Option.{slice_get_within, slice_get-get_or, get_or_from_slice_get, same_Some}
use Rattle.std.proofs.lemmas.Bool.{lt-ltb, ltb-true, cases_Bool, cases_lt}
use Rattle.plan_model.specs.Cells.{Cell, out_length}
use Rattle.plan_model.specs.Operations.{Operation, Setup, Shift, Capture, SelfTest, ahead}
use Rattle.plan_model.specs.Plans.{PlannedTest, uses, of_first}
use Rattle.plan_model.specs.Right.{IsAt, IsReadAt}
use Rattle.plan_model.specs.Runs.{chain_at, operation_at}
use Rattle.plan_model.proofs.ChainsInTheRun.{AreApart, uses_wire}
use Rattle.plan_model.proofs.LoadsAndReads.{at_start_plus, begun_at, chain_is}
use Rattle.plan_model.proofs.PlannedTests.{of_first_is}
use Rattle.plan_model.proofs.TestsInGoodPlans.{Uses}
use Rattle.live_tests.specs.Reads.{since_capture, bit_shown, read_of}

-- ---- counting back

-- the items up to the next one, last first
reverse_more : {X : Type 0} (xs : List X) (n : ℕ) (x : X) → slice_get xs n ≡ Some x → reverse (take (suc n) xs) ≡ x ∷ reverse (take n xs)
reverse_more xs n x at =
    ap reverse (take-suc xs n x (slice_get_within xs n x at) ∙ ap (λ y. take n xs ++ y ∷ []) (get_or_from_slice_get xs n x x at))
    ∙ reverse-append (take n xs) (x ∷ [])

-- a Capture and then only Shifts
since_is : (ops : List Operation) (a k r n : ℕ) → n ≡ suc (a + r) → slice_get ops a ≡ Some (Capture k) → ((s : ℕ) → 1 ≤ s → s ≤ r → slice_get ops (a + s) ≡ Some Shift) → ahead (reverse (take n ops)) ≡ Some (r, k)
since_is ops a k zero n e captures shifts =
    let same : n ≡ suc a = omega arith in
    rw (same, reverse_more ops a (Capture k) captures) refl
since_is ops a k (suc r) n e captures shifts =
    let before : ahead (reverse (take (a + suc r) ops)) ≡ Some (r, k) = since_is ops a k r (a + suc r) (omega arith) captures (λ s first last. shifts s first (omega arith)) in
    rw (e, reverse_more ops (a + suc r) Shift (shifts (suc r) (omega arith) (omega arith)), before) refl

-- and back again: the Capture that was found
pub record LastCapture (ops : List Operation) (n r k : ℕ) : Type 0 where
  pub at : ℕ
  pub before : n ≡ suc (at + r)
  pub is : slice_get ops at ≡ Some (Capture k)

same_pair : {X : Type 0} (a b : ℕ × X) → Some a ≡ Some b → (a.0 ≡ b.0) × (a.1 ≡ b.1)
same_pair {X} a b e =
    let same : a ≡ b = same_Some a b e in
    (ap (λ (p : ℕ × X). p.0) same, ap (λ (p : ℕ × X). p.1) same)

shifted_from : (ops : List Operation) (o : Option (ℕ × ℕ)) (r k : ℕ) → ahead ops ≡ o → ahead (Shift ∷ ops) ≡ Some (r, k) → (r' : ℕ) × (r ≡ suc r') × (ahead ops ≡ Some (r', k))
shifted_from ops None r k is e = let e' = rw is at e in absurd cc
shifted_from ops (Some a) r k is e =
    let e' : Some (suc a.0, a.1) ≡ Some (r, k) = rw is at e in
    let same = same_pair (suc a.0, a.1) (r, k) e' in
    (a.0, sym same.0, is ∙ ap (λ (k : ℕ). Some (a.0, k)) same.1)

since_from : (ops : List Operation) (n r k : ℕ) → n ≤ length ops → ahead (reverse (take n ops)) ≡ Some (r, k) → LastCapture ops n r k
since_from ops zero r k h e = absurd cc
since_from ops (suc n) r k h e =
    let at : slice_get ops n ≡ Some (get_or_op n) = slice_get-get_or ops n Setup (omega arith) in
    let e' = rw (reverse_more ops n (get_or_op n) at) at e in
    by_item (get_or_op n) at e' (λ r' before. since_from ops n r' k (omega arith) before)
  where
    get_or_op : ℕ → Operation
    get_or_op n = get_or ops n Setup

    by_item : (op : Operation) → slice_get ops n ≡ Some op → ahead (op ∷ reverse (take n ops)) ≡ Some (r, k) → ((r' : ℕ) → ahead (reverse (take n ops)) ≡ Some (r', k) → LastCapture ops n r' k) → LastCapture ops (suc n) r k
    by_item Setup at e later = absurd cc
    by_item SelfTest at e later = absurd cc
    by_item (Capture k') at e later =
        let same = same_pair (0, k') (r, k) e in
        record { at = n; before = omega (arith, same.0); is = rw same.1 at at }
    by_item Shift at e later =
        let s = shifted_from (reverse (take n ops)) (ahead (reverse (take n ops))) r k refl e in
        let l : LastCapture ops n s.0 k = later s.0 s.2 in
        record { at = l.at; before = omega (arith, l.before, s.1); is = l.is }

-- ---- a bit that is read

-- what a read says of the test's operations and its wire
pub record Reading (t : PlannedTest) (k : ℕ) (x : Cell) (c w : ℕ) : Type 0 where
  pub uses : uses c w t ≡ true
  pub found : read_of c w t ≡ Some (k, x)

found_is : (t : PlannedTest) (k : ℕ) (x : Cell) (c w : ℕ) → (r : IsReadAt t k x c w) → since_capture t c ≡ Some (r.shifts, k) → read_of c w t ≡ Some (k, x)
found_is t k x c w r since =
    let wire : w ≡ t.first_wire + r.chain = r.wire in
    let number : w - t.first_wire ≡ r.chain = omega arith in
    rw (number, chain_is t r.chain r.cells r.there, since, lt-ltb r.shifts (out_length r.cells) r.within, r.cell) refl

since_read : (t : PlannedTest) (k : ℕ) (x : Cell) (c w : ℕ) → (r : IsReadAt t k x c w) → ((s : ℕ) → s ≤ r.shifts → operation_at t (c - s) ≡ Some Shift) → since_capture t c ≡ Some (r.shifts, k)
since_read t k x c w r shifts =
    let b = begun_at t r.capture (Capture k) r.captures in
    let begun : t.start ≤ r.capture = b.0 in
    let cycle : c ≡ r.capture + 1 + r.shifts = r.cycle in
    since_is t.operations (r.capture - t.start) k r.shifts (c - t.start) (omega arith) b.1
    (λ s first last.
    let number : c - (r.shifts + 1 - s) - t.start ≡ r.capture - t.start + s = omega arith in
    rw number at ((begun_at t (c - (r.shifts + 1 - s)) Shift (shifts (r.shifts + 1 - s) (omega arith))).1))

pub reading : (tests : List PlannedTest) (stand : AreApart tests) (i : ℕ) (t : PlannedTest) (k : ℕ) (x : Cell) (c w : ℕ) → IsAt tests i t → (r : IsReadAt t k x c w) → ((s : ℕ) → s ≤ r.shifts → operation_at t (c - s) ≡ Some Shift) → Reading t k x c w
reading tests stand i t k x c w at r shifts =
    let now : c - 0 ≡ c = omega arith in
    let b = begun_at t c Shift (rw now at (shifts 0 (omega arith))) in
    let chain : r.chain < length t.chains = slice_get_within t.chains r.chain r.cells r.there in
    let fit : length t.chains ≤ t.width = stand.fit i t at in
    record {
      uses = rw r.wire (uses_wire t c r.chain (stand.tam i r.chain t at chain) b.0 (slice_get_within t.operations (c - t.start) Shift b.1) (omega arith));
      found = found_is t k x c w r (since_read t k x c w r shifts);
    }

-- the first one of some tests that uses the wire is the one that is read
pub of_read : {X : Type 0} (f : PlannedTest → X) (d : X) (tests : List PlannedTest) (stand : AreApart tests) (i : ℕ) (t : PlannedTest) (k : ℕ) (x : Cell) (c w : ℕ) → IsAt tests i t → Reading t k x c w → of_first (uses c w) f d tests ≡ f t
of_read f d tests stand i t k x c w at r =
    let o = of_first_is (uses c w) f d tests i t at r.uses in
    let place : o.0 ≡ i = stand.alone c w i o.0 t o.1 at o.2 r.uses o.3 in
    let at' : slice_get tests i ≡ Some o.1 = ap (slice_get tests) (sym place) ∙ o.2 in
    let same : o.1 ≡ t = same_Some o.1 t (sym at' ∙ at) in
    o.4 ∙ ap f same

-- ---- where counting back finds a bit, it is read

-- what is said of the first of some items that pass a test comes from one of them, or none passes
pub of_first_cases : {X Y : Type 0} (p : X → Bool) (f : X → Y) (d : Y) (xs : List X) → (of_first p f d xs ≡ d) ⊎ ((i : ℕ) × (x : X) × (slice_get xs i ≡ Some x) × (p x ≡ true) × (of_first p f d xs ≡ f x))
of_first_cases p f d [] = inl refl
of_first_cases p f d (x ∷ xs) = elim (cases_Bool (p x)) [
  | inl yes' ↦ inr (0, x, refl, yes', rw yes' refl)
  | inr no' ↦ elim (of_first_cases p f d xs) [
    | inl none ↦ inl (rw no' none)
    | inr r ↦ inr (suc r.0, r.1, r.2, r.3, rw no' r.4)
  ]
]

-- a read of some cell
pub record SomeRead (t : PlannedTest) (c w : ℕ) : Type 0 where
  pub pattern : ℕ
  pub cell : Cell
  pub read : IsReadAt t pattern cell c w

read_at : (t : PlannedTest) (c w r k : ℕ) (x : Cell) → Uses c w t → since_capture t c ≡ Some (r, k) → r < out_length (chain_at t (w - t.first_wire)) → slice_get (reverse (chain_at t (w - t.first_wire))) r ≡ Some x → IsReadAt t k x c w
read_at t c w r k x u since within cell =
    let active : t.start ≤ c = u.active.0 in
    let going : c < t.start + length t.operations = u.active.1 in
    let l : LastCapture t.operations (c - t.start) r k = since_from t.operations (c - t.start) r k (omega arith) since in
    let before : c - t.start ≡ suc (l.at + r) = l.before in
    let low : t.first_wire ≤ w = u.low in
    record {
      chain = w - t.first_wire;
      cells = chain_at t (w - t.first_wire);
      there = slice_get-get_or t.chains (w - t.first_wire) [] (listed (cases_lt (w - t.first_wire) (length t.chains)));
      shifts = r;
      within = within;
      cell = cell;
      capture = t.start + l.at;
      captures = at_start_plus t l.at (Capture k) l.is;
      cycle = omega arith;
      wire = omega arith;
    }
  where
    listed : (w - t.first_wire < length t.chains) ⊎ (length t.chains ≤ w - t.first_wire) → w - t.first_wire < length t.chains
    listed (inl is) = is
    listed (inr past) =
        let none : chain_at t (w - t.first_wire) ≡ [] = get_or_past t.chains (w - t.first_wire) [] past in
        let within' = rw none at within in
        absurd (omega (arith, within'))

-- nothing is found of a test, or something of it is read
pub unread : (t : PlannedTest) (c w : ℕ) → Uses c w t → (read_of c w t ≡ None) ⊎ SomeRead t c w
unread t c w u = by_since (since_capture t c) refl where
  by_cell : (r k : ℕ) (o : Option Cell) → since_capture t c ≡ Some (r, k) → r < out_length (chain_at t (w - t.first_wire)) → slice_get (reverse (chain_at t (w - t.first_wire))) r ≡ o → (option_map {U = ℕ × Cell} (λ x. (k, x)) o ≡ None) ⊎ SomeRead t c w
  by_cell r k None since within is = inl refl
  by_cell r k (Some x) since within is = inr (record { pattern = k; cell = x; read = read_at t c w r k x u since within is })

  by_since : (o : Option (ℕ × ℕ)) → since_capture t c ≡ o → (bit_shown (chain_at t (w - t.first_wire)) o ≡ None) ⊎ SomeRead t c w
  by_since None since = inl refl
  by_since (Some s) since = elim (cases_Bool (ltb s.0 (out_length (chain_at t (w - t.first_wire))))) [
    | inl yes' ↦ rw yes' (by_cell s.0 s.1 (slice_get (reverse (chain_at t (w - t.first_wire))) s.0) since (ltb-true s.0 (out_length (chain_at t (w - t.first_wire))) yes') refl)
    | inr no' ↦ inl (rw no' refl)
  ]
