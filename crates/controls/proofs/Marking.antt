-- Ones that are put into columns of rows.
use Rattle.std.proofs.Common.{◌≡◌, ℕ, ◌+◌, ◌-◌, ◌*◌, ◌≤◌, ◌<◌, ◌⊎◌, max, min, Bool, true, false, cond, ◌&&◌, ◌||◌, None, List, length, get_or, set, eqb, leb, ltb, refl, ap, sym, ◌∙◌, arith, inl, inr, slice_get}
use Rattle.std.proofs.lemmas.Bool.{and_from, and_left, and_right, cases_eq, cases_lt, cond-false, cond-true, le-leb, le-ltb, lt-leb, lt-ltb}
use Rattle.std.proofs.lemmas.Bool.Decides.{nat_tests}
use Rattle.std.proofs.lemmas.List.{length-set, get_or-set_same, get_or-set_other}
use Rattle.std.proofs.lemmas.Option.{slice_get_past}
use Rattle.plan_model.specs.Moments.{phase_ops}
use Rattle.controls.specs.Controls.{is_capture}
use Rattle.controls.specs.declared.columns.ModuleColumns.{ModuleColumns}
use Rattle.controls.specs.declared.placing.ControlledTest.{ControlledTest}
use Rattle.controls.specs.declared.spells.Spell.{Spell}
use Rattle.controls.specs.Columns.{AreOnes, ArePut, byte_at, does, is_told, operation_of}
use Rattle.controls.specs.Spells.{GoesOn, shifts}
use Rattle.controls.specs.Tests.{IsFit}
use Rattle.common_lemmas.proofs.Numbers.{block_fits, same_block}

-- ---- places in rows

pub place-lt : (r count w x n : ℕ) → r < count → x < w → count * w ≤ n → r * w + x < n
place-lt r count w x n h within room =
    let next = block_fits (r + 1) count w n (omega arith) room in
    omega arith

-- ---- ones in one column

module _ (x column row r k : ℕ) where
  row_more : (x ≡ column → r ≡ row + k → ⊥) → (eqb x column && (leb row r && ltb r (row + k))) ≡ (eqb x column && (leb row r && ltb r (row + (k + 1))))
  row_more other = grind (arith, nat_tests)

  row_here : x ≡ column → r ≡ row + k → (eqb x column && (leb row r && ltb r (row + (k + 1)))) ≡ true
  row_here e f = grind (arith, nat_tests)

-- one row more
pub ones_more : {columns row : ℕ} (column : ℕ) {k : ℕ} {old now : List ℕ} → column < columns → (row + k) * columns + column < length now →
    AreOnes (λ x. eqb x column) columns row k old now →
    AreOnes (λ x. eqb x column) columns row (k + 1) old (set now ((row + k) * columns + column) 49)
ones_more {columns} {row} column {k} {old} {now} within there are = record {
  long = length-set now ((row + k) * columns + column) 49 ∙ are.long;
  bytes = λ r x h. go r x h (cases_eq (r * columns + x) ((row + k) * columns + column));
}
  where
    go : (r x : ℕ) → x < columns → (r * columns + x ≡ (row + k) * columns + column) ⊎ (r * columns + x ≡ (row + k) * columns + column → ⊥) →
        byte_at (set now ((row + k) * columns + column) 49) columns r x ≡ cond (eqb x column && (leb row r && ltb r (row + (k + 1)))) 49 (byte_at old columns r x)
    go r x h (inl same) =
        let p = same_block columns r x (row + k) column h within same in
        ap (λ i. get_or (set now ((row + k) * columns + column) 49) i 0) same ∙ get_or-set_same now ((row + k) * columns + column) 49 0 there
        ∙ sym (cond-true (eqb x column && (leb row r && ltb r (row + (k + 1)))) 49 (byte_at old columns r x) (row_here x column row r k p.1 p.0))
    go r x h (inr other) =
        get_or-set_other now ((row + k) * columns + column) (r * columns + x) 49 0 other ∙ are.bytes r x h
        ∙ ap (λ b. cond b 49 (byte_at old columns r x)) (row_more x column row r k (λ e f. other (same_index e f)))
      where
        same_index : {x r : ℕ} → x ≡ column → r ≡ row + k → r * columns + x ≡ (row + k) * columns + column
        same_index e f = rw (e, f) refl

-- ---- the control of a test

-- ---- what is done in a spell

never : (p q : Bool) → ((p && false) || (q && false)) ≡ false
never true true = refl
never true false = refl
never false true = refl
never false false = refl

-- ---- spell by spell

-- the rows of the cycles before one are put; the test has begun by then
pub record IsPutTo (own : ModuleColumns) (t : ControlledTest) (columns from count cycle : ℕ) (old now : List ℕ) : Type 0 where
  pub long : length now ≡ length old
  pub begun : t.start ≤ cycle
  pub on : from ≤ cycle
  pub bytes : (r x : ℕ) → r < count → x < columns → byte_at now columns r x ≡ cond (ltb (from + r) cycle && is_told own t (from + r) x) 49 (byte_at old columns r x)

-- before its start and from its end on a test does nothing
none_before : (t : ControlledTest) (c : ℕ) → c < t.start → operation_of t c ≡ None
none_before t c early = cond-false (leb t.start c) (slice_get (phase_ops t.phases) (c - t.start)) None (lt-leb t.start c early)

none_after : {t : ControlledTest} (c : ℕ) → IsFit t → t.start ≤ c → t.end ≤ c → operation_of t c ≡ None
none_after {t} c fit begun over =
    cond-true (leb t.start c) (slice_get (phase_ops t.phases) (c - t.start)) None (le-leb t.start c begun)
    ∙ slice_get_past (phase_ops t.phases) (c - t.start) (let ends = fit.ends in omega arith)

module _ (own : ModuleColumns) (t : ControlledTest) where
  not_told : (c x : ℕ) → operation_of t c ≡ None → is_told own t c x ≡ false
  not_told c x none = rw none (never (eqb x own.shift) (eqb x own.capture))

  pub put_to_start : (columns from count : ℕ) {cycle : ℕ} (text : List ℕ) → cycle ≡ max t.start from → IsPutTo own t columns from count cycle text text
  put_to_start columns from count {cycle} text first = record {
    long = refl;
    begun = omega arith;
    on = omega arith;
    bytes = λ r x h within. sym (cond-false (ltb (from + r) cycle && is_told own t (from + r) x) 49 (byte_at text columns r x) (go r x (cases_lt (from + r) cycle)));
  }
    where
      go : (r x : ℕ) → ((from + r < cycle) ⊎ (cycle ≤ from + r)) → (ltb (from + r) cycle && is_told own t (from + r) x) ≡ false
      go r x (inl early) = and_right (ltb (from + r) cycle) (is_told own t (from + r) x) (not_told (from + r) x (none_before t (from + r) (omega arith)))
      go r x (inr late) = and_left (ltb (from + r) cycle) (is_told own t (from + r) x) (le-ltb (from + r) cycle late)

  -- what the operations of a spell tell
  told_in : (cycle going c x : ℕ) {spell : Spell} → IsFit t → t.start ≤ cycle → cycle ≤ c → c < cycle + going → going ≤ spell.cycles →
      cycle + going ≤ t.end → GoesOn t.phases (cycle - t.start) spell → is_told own t c x ≡ does own spell.action x
  told_in cycle going c x {spell} fit begun from before short within goes =
      let ends = fit.ends in
      let place : (cycle - t.start) + (c - cycle) ≡ c - t.start = omega arith in
      let is = goes (c - cycle) (omega arith) (omega arith) in
      let op : operation_of t c ≡ slice_get (phase_ops t.phases) ((cycle - t.start) + (c - cycle)) =
      cond-true (leb t.start c) (slice_get (phase_ops t.phases) (c - t.start)) None (le-leb t.start c (omega arith)) ∙ ap (slice_get (phase_ops t.phases)) (sym place) in
      rw op (ap (λ b. (eqb x own.shift && b) || (eqb x own.capture && is_capture (slice_get (phase_ops t.phases) ((cycle - t.start) + (c - cycle))))) is.shift
      ∙ ap (λ b. (eqb x own.shift && shifts spell.action) || (eqb x own.capture && b)) is.capture)

module _ {own : ModuleColumns} {t : ControlledTest} {columns from count cycle : ℕ} {old now : List ℕ} (fit : IsFit t)
    (are : IsPutTo own t columns from count cycle old now) where
  -- one spell more
  pub spell_more : {going end : ℕ} {spell : Spell} {new : List ℕ} → end ≡ min t.end (from + count) → cycle + going ≤ end → going ≤ spell.cycles →
      GoesOn t.phases (cycle - t.start) spell → AreOnes (does own spell.action) columns (cycle - from) going now new →
      IsPutTo own t columns from count (cycle + going) old new
  spell_more {going} {spell} last within short goes ones = record {
    long = ones.long ∙ are.long;
    begun = let begun = are.begun in omega arith;
    on = let on = are.on in omega arith;
    bytes = λ r x h inside. ones.bytes r x inside ∙ go r x h inside (cases_lt (from + r) cycle) (cases_lt (from + r) (cycle + going));
  }
    where
      on : from ≤ cycle
      on = are.on

      begun : t.start ≤ cycle
      begun = are.begun

      outside : (r x : ℕ) → (leb (cycle - from) r && ltb r ((cycle - from) + going)) ≡ false → cond (does own spell.action x && (leb (cycle - from) r && ltb r ((cycle - from) + going))) 49 (byte_at now columns r x) ≡ byte_at now columns r x
      outside r x none = cond-false (does own spell.action x && (leb (cycle - from) r && ltb r ((cycle - from) + going))) 49 (byte_at now columns r x) (and_right (does own spell.action x) (leb (cycle - from) r && ltb r ((cycle - from) + going)) none)

      again : (r x : ℕ) → r < count → x < columns → ltb (from + r) cycle ≡ ltb (from + r) (cycle + going) → byte_at now columns r x ≡ cond (ltb (from + r) (cycle + going) && is_told own t (from + r) x) 49 (byte_at old columns r x)
      again r x h inside same = are.bytes r x h inside ∙ ap (λ b. cond (b && is_told own t (from + r) x) 49 (byte_at old columns r x)) same

      go : (r x : ℕ) → r < count → x < columns → ((from + r < cycle) ⊎ (cycle ≤ from + r)) → ((from + r < cycle + going) ⊎ (cycle + going ≤ from + r)) →
          cond (does own spell.action x && (leb (cycle - from) r && ltb r ((cycle - from) + going))) 49 (byte_at now columns r x) ≡ cond (ltb (from + r) (cycle + going) && is_told own t (from + r) x) 49 (byte_at old columns r x)
      go r x h inside (inl early) late =
          let none = lt-leb (cycle - from) r (omega arith) in
          outside r x (and_left (leb (cycle - from) r) (ltb r ((cycle - from) + going)) none)
          ∙ again r x h inside (lt-ltb (from + r) cycle early ∙ sym (lt-ltb (from + r) (cycle + going) (omega arith)))
      go r x h inside (inr begins) (inr over) =
          let none = le-ltb r ((cycle - from) + going) (omega arith) in
          outside r x (and_right (leb (cycle - from) r) (ltb r ((cycle - from) + going)) none)
          ∙ again r x h inside (le-ltb (from + r) cycle begins ∙ sym (le-ltb (from + r) (cycle + going) over))
      go r x h inside (inr begins) (inl going') =
          let a = le-leb (cycle - from) r (omega arith) in
          let b = lt-ltb r ((cycle - from) + going) (omega arith) in
          let c = lt-ltb (from + r) (cycle + going) going' in
          let d = le-ltb (from + r) cycle begins in
          let before : byte_at now columns r x ≡ byte_at old columns r x = are.bytes r x h inside ∙ ap (λ b. cond (b && is_told own t (from + r) x) 49 (byte_at old columns r x)) d in
          let told = told_in own t cycle going (from + r) x fit begun begins going' short (omega arith) goes in
          ap (λ v. cond (does own spell.action x && v) 49 (byte_at now columns r x)) (and_from (leb (cycle - from) r) (ltb r ((cycle - from) + going)) a b)
          ∙ ap (λ v. cond (does own spell.action x && true) 49 v) before
          ∙ ap (λ v. cond v 49 (byte_at old columns r x)) (turned (does own spell.action x))
          ∙ ap (λ v. cond (true && v) 49 (byte_at old columns r x)) (sym told)
          ∙ ap (λ v. cond (v && is_told own t (from + r) x) 49 (byte_at old columns r x)) (sym c)
        where
          turned : (p : Bool) → (p && true) ≡ (true && p)
          turned true = refl
          turned false = refl

  -- when the test has ended, or the rows have
  pub put_to_end : min t.end (from + count) ≤ cycle → ArePut (is_told own t) columns from count old now
  put_to_end past = record {
    long = are.long;
    bytes = λ r x h within. are.bytes r x h within ∙ ap (λ b. cond b 49 (byte_at old columns r x)) (go r x h (cases_lt (from + r) cycle));
  }
    where
      begun : t.start ≤ cycle
      begun = are.begun

      go : (r x : ℕ) → r < count → ((from + r < cycle) ⊎ (cycle ≤ from + r)) → (ltb (from + r) cycle && is_told own t (from + r) x) ≡ is_told own t (from + r) x
      go r x h (inl early) = rw (lt-ltb (from + r) cycle early) refl
      go r x h (inr late) =
          let none = not_told own t (from + r) x (none_after (from + r) fit (omega arith) (omega arith)) in
          and_right (ltb (from + r) cycle) (is_told own t (from + r) x) none ∙ sym none

-- ---- all that a test tells
