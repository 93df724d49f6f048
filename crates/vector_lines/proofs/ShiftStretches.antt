-- Stretches of Shifts: what lies ahead of each of them and behind it, and what their chains drive and show.
use Rattle.std.proofs.Common.{◌≡◌, ◌≢◌, ℕ, zero, suc, ◌+◌, ◌-◌, ◌*◌, ◌≤◌, ◌<◌, ◌⊎◌, Bool, true, false, true≢false, cond, max, min, ltb, Option, Some, None, List, [], ◌∷◌, length, get_or, drop, replicate, refl, ap, sym, subst, ◌∙◌, arith, inl, inr, slice_get, slice_index, option_map, nat_eq}
use Rattle.std.proofs.lemmas.List.{drop_more}
use Rattle.std.proofs.lemmas.List.Folds.{sum_by-replicate}
use Rattle.std.proofs.lemmas.Option.{slice_get_within, get_or_from_slice_get, same_Some}
use Rattle.std.proofs.lemmas.Bool.{cases_lt, cases_eq, lt-ltb, le-ltb, eq-eqb, eqb-true}
use Rattle.plan_model.specs.Cells.{Cell, In, is_loaded, in_length, out_length}
use Rattle.plan_model.specs.OneTest.{from_end}
use Rattle.plan_model.specs.Operations.{Operation, Setup, Shift, Capture, SelfTest, ahead}
use Rattle.plan_model.specs.Runs.{wanted}
use Rattle.plan_model.specs.Moments.{near_capture, wanted_by, phase_ops, IsMoment}
use Rattle.plan_model.specs.declared.moments.Phases.{Phases}
use Rattle.plan_model.specs.declared.moments.NearCapture.{NearCapture}
use Rattle.plan_model.proofs.ByDivision.{shift_moment}
use Rattle.plan_model.proofs.ChainShifts.{at_head}
use Rattle.plan_model.proofs.OperationBlocks.{capture_found, capture_place}
use Rattle.vector_lines.specs.Paths.{is_answered, numbered_marks, numbered_stimulus, IsPath}
use Rattle.vector_lines.specs.Vectors.{digit, byte_at, earlier, later, AreShifts, ArePutDown, IsDriven, IsElsewhere, IsKeptElsewhere, IsRead, IsApart, AreChainsPut}
use Rattle.vector_lines.specs.declared.path.Path.{Path}
use Rattle.common_lemmas.proofs.Options.{none_some}
use Rattle.plan_model.specs.declared.moments.Moment.TheVariants as moment

-- ---- what lies ahead, from what is wanted

long_enough : (n : ℕ) → in_length (replicate n (In 0)) ≡ n
long_enough n = sum_by-replicate (λ (x : Cell). cond (is_loaded x) 1 0) n (In 0) ∙ omega arith

wanted_there : (f : ℕ → Cell → Bool) (a : ℕ × ℕ) (n : ℕ) → a.0 < n → wanted_by f (replicate n (In 0)) (Some a) ≡ f a.1 (get_or (replicate n (In 0)) a.0 (In 0))
wanted_there f a n h = rw (long_enough n, lt-ltb a.0 n h) refl

-- a capture ahead is seen by the pattern's own stimulus in a chain that is just long enough
seen : (a o : ℕ × ℕ) → ((f : ℕ → Cell → Bool) (cells : List Cell) → wanted_by f cells (Some a) ≡ wanted_by f cells (Some o)) → (o.0 ≤ a.0) × (o.1 ≡ a.1)
seen a o same = go (cases_lt o.0 (suc a.0)) where
  own : ℕ → Cell → Bool
  own k x = nat_eq k a.1

  here : wanted_by own (replicate (suc a.0) (In 0)) (Some a) ≡ true
  here = wanted_there own a (suc a.0) (omega arith) ∙ eq-eqb a.1 a.1 refl

  go : (o.0 < suc a.0) ⊎ (suc a.0 ≤ o.0) → (o.0 ≤ a.0) × (o.1 ≡ a.1)
  go (inl less) = (omega arith, eqb-true o.1 a.1 (sym (wanted_there own o (suc a.0) less) ∙ sym (same own (replicate (suc a.0) (In 0))) ∙ here))
  go (inr past) =
      let none : wanted_by own (replicate (suc a.0) (In 0)) (Some o) ≡ false = rw (long_enough (suc a.0), le-ltb o.0 (suc a.0) past) refl in
      absurd (true≢false (sym here ∙ same own (replicate (suc a.0) (In 0)) ∙ none))

seen_none : (a : ℕ × ℕ) → ((f : ℕ → Cell → Bool) (cells : List Cell) → wanted_by f cells (Some a) ≡ wanted_by f cells None) → ⊥
seen_none a same =
    true≢false (sym (wanted_there (λ k x. true) a (suc a.0) (omega arith)) ∙ same (λ k x. true) (replicate (suc a.0) (In 0)))

same_ahead : (a o : Option (ℕ × ℕ)) → ((f : ℕ → Cell → Bool) (cells : List Cell) → wanted_by f cells a ≡ wanted_by f cells o) → a ≡ o
same_ahead None None same = refl
same_ahead None (Some o) same = absurd (seen_none o (λ f cells. sym (same f cells)))
same_ahead (Some a) None same = absurd (seen_none a same)
same_ahead (Some a) (Some o) same =
    let left = seen a o same in
    let right = seen o a (λ f cells. sym (same f cells)) in
    pair a o (omega (arith, left.0, right.0)) right.1
  where
    pair : (a o : ℕ × ℕ) → a.0 ≡ o.0 → a.1 ≡ o.1 → Some a ≡ Some o
    pair a o e f = ap (λ (n : ℕ). Some (n, a.1)) e ∙ ap (λ (k : ℕ). Some (o.0, k)) f

wanted_shift : (f : ℕ → Cell → Bool) (cells : List Cell) (rest : List Operation) → wanted f cells (Shift ∷ rest) ≡ wanted_by f cells (ahead rest)
wanted_shift f cells rest = go (ahead rest) refl where
  go : (o : Option (ℕ × ℕ)) → ahead rest ≡ o → wanted f cells (Shift ∷ rest) ≡ wanted_by f cells (ahead rest)
  go None e = rw e refl
  go (Some a) e = rw e refl

module _ (ops : List Operation) (n : ℕ) (at : slice_get ops n ≡ Some Shift) where
  drop_shift : drop n ops ≡ Shift ∷ drop (suc n) ops
  drop_shift =
      let next : n + 1 ≡ suc n = omega arith in
      drop_more ops n Shift (slice_get_within ops n Shift at) ∙ rw (next, get_or_from_slice_get ops n Shift Shift at) refl

  next_ahead : (o : Option (ℕ × ℕ)) → ((f : ℕ → Cell → Bool) (cells : List Cell) → wanted f cells (drop n ops) ≡ wanted_by f cells o) →
      ahead (drop (suc n) ops) ≡ o
  next_ahead o wants =
      same_ahead (ahead (drop (suc n) ops)) o (λ f cells. sym (wanted_shift f cells (drop (suc n) ops)) ∙ ap (wanted f cells) (sym drop_shift) ∙ wants f cells)

-- ---- Shifts before a capture

same_pair : {a b : ℕ × ℕ} → Some a ≡ Some b → (a.0 ≡ b.0) × (a.1 ≡ b.1)
same_pair {a} {b} e =
    let same = same_Some a b e in
    (ap (λ (p : ℕ × ℕ). p.0) same, ap (λ (p : ℕ × ℕ). p.1) same)

module _ (m k : ℕ) where
  same_option : (x : ℕ) {y : ℕ} → x ≡ m → y ≡ k → ◌≡◌ {A = Option (ℕ × ℕ)} (Some (x, y)) (Some (m, k))
  same_option x e f = rw (e, f) refl

  shift_first : (l : List Operation) → ahead l ≡ Some (suc m, k) → (xs : List Operation) × (l ≡ Shift ∷ xs) × (ahead xs ≡ Some (m, k))
  shift_first [] e = absurd cc
  shift_first (Setup ∷ xs) e = absurd cc
  shift_first (SelfTest ∷ xs) e = absurd cc
  shift_first (Capture c ∷ xs) e = let same = same_pair e in absurd (omega (arith, same.0))
  shift_first (Shift ∷ xs) e = (xs, refl, go (ahead xs) refl) where
    go : (o : Option (ℕ × ℕ)) → ahead xs ≡ o → ahead xs ≡ Some (m, k)
    go None is = let e' = rw is at e in absurd cc
    go (Some a) is =
        let e' : ◌≡◌ {A = Option (ℕ × ℕ)} (Some (suc a.0, a.1)) (Some (suc m, k)) = rw is at e in
        let same = same_pair e' in
        is ∙ same_option a.0 (omega (arith, same.0)) same.1

shifts_ahead : (ops : List Operation) (n s k i : ℕ) → slice_get ops n ≡ Some Shift → ahead (drop (suc n) ops) ≡ Some (s, k) → i ≤ s → (slice_get ops (n + i) ≡ Some Shift) × (ahead (drop (suc (n + i)) ops) ≡ Some (s - i, k))
shifts_ahead ops n s k zero at e h =
    let place : n + 0 ≡ n = omega arith in
    let left : s - 0 ≡ s = omega arith in
    rw (place, left) (at, e)
shifts_ahead ops n s k (suc i) at e h =
    let before = shifts_ahead ops n s k i at e (omega arith) in
    let some : s - i ≡ suc (s - suc i) = omega arith in
    let first = shift_first (s - suc i) k (drop (suc (n + i)) ops) (before.1 ∙ ap (λ (m : ℕ). Some (m, k)) some) in
    let head = at_head ops (suc (n + i)) Shift first.0 first.1 in
    let place : n + suc i ≡ suc (n + i) = omega arith in
    rw place (head.0, ap ahead head.1 ∙ first.2)

-- ---- the moments of a stretch

module _ (i s k : ℕ) where
  moved_on : (b : Option NearCapture) → option_map near_capture (later i b) ≡ Some (s, k) → i ≤ s → option_map near_capture b ≡ Some (s - i, k)
  moved_on None e h = absurd cc
  moved_on (Some t) e h =
      let same = same_pair e in
      same_option (s - i) k t.shifts (omega (arith, same.0)) same.1

  moved_back : (b : Option NearCapture) → option_map near_capture b ≡ Some (s, k) → option_map near_capture (later i b) ≡ Some (s + i, k)
  moved_back None e = absurd cc
  moved_back (Some t) e =
      let same = same_pair e in
      same_option (s + i) k (t.shifts + i) (omega (arith, same.0)) same.1

  on_least : (b : Option NearCapture) → option_map near_capture (later i b) ≡ Some (s, k) → i ≤ s
  on_least None e = absurd cc
  on_least (Some t) e = let same = same_pair e in omega (arith, same.0)

module _ {p : Phases} {n : ℕ} where
  -- `i` Shifts later the capture ahead is `i` Shifts nearer, and the one behind `i` Shifts farther
  moment_before : (i : ℕ) (a : NearCapture) (b : Option NearCapture) → IsMoment p n (moment.Shift (Some a) b) → i ≤ a.shifts →
      IsMoment p (n + i) (moment.Shift (earlier i (Some a)) (later i b))
  moment_before i a b is h =
      let next = next_ahead (phase_ops p) n is.operation (Some (a.shifts, a.pattern)) is.wants in
      let there = shifts_ahead (phase_ops p) n a.shifts a.pattern i is.operation next h in
      record {
        operation = there.0;
        wants = λ f cells. ap (wanted f cells) (drop_shift (phase_ops p) (n + i) there.0) ∙ wanted_shift f cells (drop (suc (n + i)) (phase_ops p)) ∙ ap (wanted_by f cells) there.1;
        behind = λ s k e.
            let least = on_least i s k b e in
            let q = is.behind (s - i) k (moved_on i s k b e least) in
            (q.0, q.1, omega (arith, q.2));
        every = λ s k q capture at within. every s k q capture at within (cases_lt q n);
      }
    where
      every : (s k q : ℕ) → slice_get (phase_ops p) q ≡ Some (Capture k) → n + i ≡ q + 1 + s → s < p.so → (q < n) ⊎ (n ≤ q) → option_map near_capture (later i b) ≡ Some (s, k)
      every s k q capture at within (inl before) =
          let known = is.every (s - i) k q capture (omega arith) (omega arith) in
          let left : s - i + i ≡ s = omega arith in
          moved_back i (s - i) k b known ∙ ap (λ (m : ℕ). Some (m, k)) left
      every s k q capture at within (inr after) =
          let next = next_ahead (phase_ops p) n is.operation (Some (a.shifts, a.pattern)) is.wants in
          let there = (shifts_ahead (phase_ops p) n a.shifts a.pattern (q - n) is.operation next (omega arith)).0 in
          let place : n + (q - n) ≡ q = omega arith in
          let shift : slice_get (phase_ops p) q ≡ Some Shift = rw place at there in
          let wrong : Some Shift ≡ Some (Capture k) = sym shift ∙ capture in
          absurd cc

  -- behind the last capture there are Shifts up to the end
  moment_after : (i : ℕ) (b : NearCapture) → IsMoment p n (moment.Shift None (Some b)) → b.shifts + i < p.so →
      IsMoment p (n + i) (moment.Shift None (later i (Some b)))
  moment_after i b is h =
      let q = is.behind b.shifts b.pattern refl in
      let f = capture_found p.setup p.si p.so p.patterns q.0 b.pattern q.1 in
      go (b.pattern - 1) q.0 (omega (arith, f.first)) f.last f.place q.2 (cases_lt b.pattern p.patterns)
    where
      go : (d q : ℕ) → b.pattern ≡ suc d → b.pattern ≤ p.patterns → q ≡ capture_place p.setup p.si p.so b.pattern → n ≡ q + 1 + b.shifts → (b.pattern < p.patterns) ⊎ (p.patterns ≤ b.pattern) → IsMoment p (n + i) (moment.Shift None (later i (Some b)))
      go d q number last place at (inl more) =
          let d' : b.pattern - 1 ≡ d = omega arith in
          let place' : q ≡ p.setup + p.si + d * (1 + max p.si p.so) = rw d' at place in
          let before = lt-ltb (suc d) p.patterns (omega arith) in
          let within : b.shifts < cond (ltb (suc d) p.patterns) (max p.si p.so) p.so = rw before (omega arith) in
          let next : NearCapture = record { shifts = max p.si p.so - suc b.shifts; pattern = suc (suc d) } in
          let other : IsMoment p n (moment.Shift (Some (record { shifts = max p.si p.so - suc b.shifts; pattern = suc (suc d) })) (Some (record { shifts = b.shifts; pattern = suc d }))) =
          shift_moment p n d b.shifts (Some (record { shifts = max p.si p.so - suc b.shifts; pattern = suc (suc d) })) (omega arith) (omega arith) within (rw before refl) in
          let some = next_ahead (phase_ops p) n is.operation (Some (max p.si p.so - suc b.shifts, suc (suc d))) other.wants in
          let none = next_ahead (phase_ops p) n is.operation None is.wants in
          absurd (none_some (sym none ∙ some))
      go d q number last place at (inr end) =
          let d' : b.pattern - 1 ≡ d = omega arith in
          let place' : q ≡ p.setup + p.si + d * (1 + max p.si p.so) = rw d' at place in
          let past = le-ltb (suc d) p.patterns (omega arith) in
          let within : b.shifts + i < cond (ltb (suc d) p.patterns) (max p.si p.so) p.so = rw past h in
          rw number (shift_moment p (n + i) d (b.shifts + i) None (omega arith) (omega arith) within (rw past refl))

  -- how many Shifts there are
  pub shifts_before : (count : ℕ) {ahead : Option NearCapture} (behind : Option NearCapture) {a : NearCapture} → ahead ≡ Some a → count ≤ a.shifts + 1 →
      IsMoment p n (moment.Shift ahead behind) → AreShifts p n ahead behind count
  shifts_before count behind {a} is few m i h =
      subst (λ (o : Option NearCapture). IsMoment p n (moment.Shift o behind) → IsMoment p (n + i) (moment.Shift (earlier i o) (later i behind))) (sym is) (λ m. moment_before i a behind m (omega arith)) m

  pub shifts_after : (count : ℕ) {behind : Option NearCapture} {b : NearCapture} → behind ≡ Some b → count ≡ p.so - b.shifts →
      IsMoment p n (moment.Shift None behind) → AreShifts p n None behind count
  shifts_after count {b} is many m i h =
      subst (λ (o : Option NearCapture). IsMoment p n (moment.Shift None o) → IsMoment p (n + i) (moment.Shift None (later i o))) (sym is) (λ m. moment_after i b m (omega arith)) m

  pub none_ahead : (count : ℕ) {ahead : Option NearCapture} (behind : Option NearCapture) → ahead ≡ None →
      ((n : ℕ) → IsMoment p n (moment.Shift None behind) → AreShifts p n None behind count) → IsMoment p n (moment.Shift ahead behind) →
      AreShifts p n ahead behind count
  none_ahead count behind is shifts m =
      subst (λ (o : Option NearCapture). IsMoment p n (moment.Shift o behind) → AreShifts p n o behind count) (sym is) (shifts n) m

-- ---- the bits of a chain

module _ (k : ℕ) {inputs : ℕ} {lengths : List ℕ} {cells : List Cell} {p : Path} (s : ℕ) (is : IsPath inputs lengths cells p) where
  -- a bit that is loaded, by its number
  load_bit : (bits : ℕ → ℕ → Bool) → s < length p.loads →
      bits k (slice_index p.loads s) ≡ wanted_by (numbered_stimulus bits inputs lengths) cells (Some (s, k))
  load_bit bits less =
      let less' : s < in_length cells = omega (arith, less) in
      rw (lt-ltb s (in_length cells) less') (ap (bits k) (is.load s less'))

  -- no bit is loaded past the last one
  no_bit : (bits : ℕ → ℕ → Bool) → length p.loads ≤ s → wanted_by (numbered_stimulus bits inputs lengths) cells (Some (s, k)) ≡ false
  no_bit bits past =
      rw (le-ltb s (in_length cells) (omega (arith, past))) refl

  -- the mark of what is read, by its number
  answer_mark : (marks : ℕ → ℕ → ℕ) (q : ℕ) → q + s + 1 ≡ length p.answers →
      marks k (slice_index p.answers q) ≡ numbered_marks marks lengths k (from_end cells s)
  answer_mark marks q at =
      ap (marks k) (is.answer (length cells - 1 - s) q (omega arith) (omega arith))

module _ (byte : ℕ → ℕ) {wires : ℕ} (row count : ℕ) {column : ℕ} (p : Path) {t : NearCapture} (last : ℕ) {old new : List ℕ} (narrow : column < 2 * wires + 2) where
  -- what was put down for a chain; `idle` Shifts carry nothing of it
  pub load_put : (bits : ℕ → ℕ → Bool) (idle : ℕ) {ahead : Option NearCapture} → ahead ≡ Some t → last ≡ t.shifts →
      ((n : ℕ) → byte n ≡ digit (bits t.pattern n)) → idle ≤ count → count ≤ last + 1 → ((i : ℕ) → i < idle → length p.loads + i ≤ last) →
      (idle < count → last < length p.loads + idle) →
      ArePutDown wires (row + idle) (count - idle) column (λ i. byte (slice_index p.loads (last - idle - i))) old new →
      IsDriven bits p wires row count column ahead old new
  load_put bits idle is at made few back empty rest down inputs lengths cells path i h blank =
      go (cases_lt i idle) ∙ ap (λ o. Some (digit (wanted_by (numbered_stimulus bits inputs lengths) cells (option_map near_capture (earlier i o))))) (sym is)
    where
      go : (i < idle) ⊎ (idle ≤ i) → byte_at new wires (row + i) column ≡ Some (digit (wanted_by (numbered_stimulus bits inputs lengths) cells (Some (t.shifts - i, t.pattern))))
      go (inl early) =
          let past = empty i early in
          down.others (row + i) column narrow (inr (inl (omega arith))) ∙ blank ∙ ap (λ b. Some (digit b)) (sym (no_bit t.pattern (t.shifts - i) path bits (omega (arith, past))))
      go (inr later') =
          let place : row + idle + (i - idle) ≡ row + i = omega arith in
          let number : last - idle - (i - idle) ≡ t.shifts - i = omega arith in
          let within = rest (omega arith) in
          let put = down.put (i - idle) (omega arith) in
          let put' : byte_at new wires (row + i) column ≡ Some (byte (slice_index p.loads (t.shifts - i))) = subst (λ (r : ℕ). byte_at new wires r column ≡ Some (byte (slice_index p.loads (t.shifts - i)))) place (rw number at put) in
          put' ∙ ap Some (made (slice_index p.loads (t.shifts - i))) ∙ ap (λ b. Some (digit b)) (load_bit t.pattern (t.shifts - i) path bits (omega arith))

  pub answer_put : (marks : ℕ → ℕ → ℕ) {m : ℕ} (left : ℕ) {behind : Option NearCapture} → behind ≡ Some t → t.shifts + left ≡ length p.answers → 1 ≤ left →
      last ≡ left - 1 → m ≡ min count left → ((n : ℕ) → byte n ≡ marks t.pattern n) →
      ArePutDown wires row m column (λ i. byte (slice_index p.answers (last - i))) old new → IsRead marks p wires row count column behind old new
  answer_put marks {m} left is all some at few made down =
      subst (λ (o : Option NearCapture). IsRead marks p wires row count column o old new) (sym is) (record {
        read = λ inputs lengths cells path i s k h e within.
            let same = same_pair e in
            let long = path.answers_long in
            let k' = same.1 in
            let less : i < m = omega (arith, same.0) in
            down.put i less ∙ ap Some (made (slice_index p.answers (last - i)) ∙ answer_mark t.pattern s path marks (last - i) (omega (arith, same.0, less)) ∙ ap (λ k. numbered_marks marks lengths k (from_end cells s)) k');
        unread = λ inputs lengths cells path i h none. down.others (row + i) column narrow (past inputs lengths cells path i h none (cases_lt i m));
      })
    where
      past : (inputs : ℕ) (lengths : List ℕ) (cells : List Cell) → IsPath inputs lengths cells p → (i : ℕ) → i < count → is_answered cells (Some (t.shifts + i, t.pattern)) ≡ false → (i < m) ⊎ (m ≤ i) → IsElsewhere row m column (row + i) column
      past inputs lengths cells path i h none (inl less) =
          let long = path.answers_long in
          let yes' = lt-ltb (t.shifts + i) (out_length cells) (omega arith) in
          absurd (true≢false (sym yes' ∙ none))
      past inputs lengths cells path i h none (inr under) = inr (inr (omega arith))

-- one capture alone stands in an option
pub same_turn : {o : Option NearCapture} {t u : NearCapture} → o ≡ Some t → o ≡ Some u → t.shifts ≡ u.shifts
same_turn {t} {u} e f = ap (λ (t : NearCapture). t.shifts) (same_Some t u (sym e ∙ f))

module _ (wires row count : ℕ) (old : List ℕ) where
  -- a chain that shows nothing more
  pub no_answer : (marks : ℕ → ℕ → ℕ) (column : ℕ) (p : Path) (behind : Option NearCapture) → ((t : NearCapture) → behind ≡ Some t → length p.answers ≤ t.shifts) →
      IsRead marks p wires row count column behind old old
  no_answer marks column p behind past = record {
    read = λ inputs lengths cells path i s k h e within. absurd (none inputs lengths cells path i s k behind past e within);
    unread = λ inputs lengths cells path i h none. refl;
  }
    where
      none : (inputs : ℕ) (lengths : List ℕ) (cells : List Cell) → IsPath inputs lengths cells p → (i s k : ℕ) (b : Option NearCapture) → ((t : NearCapture) → b ≡ Some t → length p.answers ≤ t.shifts) →
          option_map near_capture (later i b) ≡ Some (s, k) → s < out_length cells → ⊥
      none inputs lengths cells path i s k None past e within = cc
      none inputs lengths cells path i s k (Some t) past e within =
          let same = same_pair e in
          omega (arith, past t refl, same.0)

  -- fewer rows were changed
  pub fewer_rows : (m column : ℕ) (new : List ℕ) → m ≤ count → IsKeptElsewhere wires row m column old new →
      IsKeptElsewhere wires row count column old new
  fewer_rows m column new few kept r c h e = kept r c h (go e) where
    go : IsElsewhere row count column r c → IsElsewhere row m column r c
    go (inl other) = inl other
    go (inr (inl above)) = inr (inl above)
    go (inr (inr under)) = inr (inr (omega arith))

  -- ---- chain by chain

  pub no_chains : (bits : ℕ → ℕ → Bool) (marks : ℕ → ℕ → ℕ) (paths : List Path) (first : ℕ) (ahead behind : Option NearCapture) →
      AreChainsPut bits marks paths 0 wires row count first ahead behind old old
  no_chains bits marks paths first ahead behind = record {
    long = refl;
    driven = λ j p h at. absurd (omega arith);
    read = λ j p h at. absurd (omega arith);
    others = λ r c h apart. refl;
  }

module _ (p : Path) (wires row count column : ℕ) (old now mid new : List ℕ)
    (before : ((r : ℕ) → byte_at now wires r column ≡ byte_at old wires r column))
    (after : ((r : ℕ) → byte_at new wires r column ≡ byte_at mid wires r column)) where
  -- what was driven into a column from a text that has the same there, and stays
  driven_kept : (bits : ℕ → ℕ → Bool) (ahead : Option NearCapture) → IsDriven bits p wires row count column ahead now mid →
      IsDriven bits p wires row count column ahead old new
  driven_kept bits ahead is inputs lengths cells path i h blank = after (row + i) ∙ is inputs lengths cells path i h (before (row + i) ∙ blank)

  read_kept : {marks : ℕ → ℕ → ℕ} {behind : Option NearCapture} → IsRead marks p wires row count column behind now mid →
      IsRead marks p wires row count column behind old new
  read_kept is = record {
    read = λ inputs lengths cells path i s k h e within. after (row + i) ∙ is.read inputs lengths cells path i s k h e within;
    unread = λ inputs lengths cells path i h none. after (row + i) ∙ is.unread inputs lengths cells path i h none ∙ before (row + i);
  }

pub chain_more : {bits : ℕ → ℕ → Bool} {marks : ℕ → ℕ → ℕ} {paths : List Path} {n wires row count first : ℕ} {ahead behind : Option NearCapture} {p : Path}
    {old now mid new : List ℕ} → slice_get paths n ≡ Some p → first + n < wires →
    AreChainsPut bits marks paths n wires row count first ahead behind old now → length mid ≡ length now →
    IsDriven bits p wires row count (first + n) ahead now mid → IsKeptElsewhere wires row count (first + n) now mid → length new ≡ length mid →
    IsRead marks p wires row count (wires + 1 + (first + n)) behind mid new → IsKeptElsewhere wires row count (wires + 1 + (first + n)) mid new →
    AreChainsPut bits marks paths (n + 1) wires row count first ahead behind old new
chain_more {bits} {marks} {paths} {n} {wires} {row} {count} {first} {ahead} {behind} {p} {old} {now} {mid} {new} at narrow before long driven kept long' read kept' = record {
  long = long' ∙ long ∙ before.long;
  driven = λ j q h at'. elim (cases_eq j n) [
    | inl same ↦
        let q' = same_Some p q (sym at ∙ rw same at at') in
        subst (λ j. IsDriven bits q wires row count (first + j) ahead old new) (sym same)
        (subst (λ (q : Path). IsDriven bits q wires row count (first + n) ahead old new) q'
        (driven_kept p wires row count (first + n) old now mid new (λ r. before.others r (first + n) (omega arith) (inl (inr (omega arith), inl (omega arith)))) (λ r. kept' r (first + n) (omega arith) (inl (λ e. omega arith))) bits ahead driven))
    | inr other ↦
        driven_kept q wires row count (first + j) old old now new (λ r. refl) (λ r. kept' r (first + j) (omega arith) (inl (λ e. omega arith))
        ∙ kept r (first + j) (omega arith) (inl (λ e. other (omega arith)))) bits ahead (before.driven j q (omega arith) at')
  ];
  read = λ j q h at'. elim (cases_eq j n) [
    | inl same ↦
        let q' = same_Some p q (sym at ∙ rw same at at') in
        subst (λ j. IsRead marks q wires row count (wires + 1 + (first + j)) behind old new) (sym same)
        (subst (λ (q : Path). IsRead marks q wires row count (wires + 1 + (first + n)) behind old new) q'
        (read_kept p wires row count (wires + 1 + (first + n)) old mid new new (λ r. kept r (wires + 1 + (first + n)) (omega arith) (inl (λ e. omega arith))
        ∙ before.others r (wires + 1 + (first + n)) (omega arith) (inl (inr (omega arith), inr (omega arith)))) (λ r. refl) read))
    | inr other ↦
        read_kept q wires row count (wires + 1 + (first + j)) old old now new (λ r. refl) (λ r. kept' r (wires + 1 + (first + j)) (omega arith) (inl (λ e. other (omega arith)))
        ∙ kept r (wires + 1 + (first + j)) (omega arith) (inl (λ e. omega arith))) (before.read j q (omega arith) at')
  ];
  others = λ r c h apart. kept' r c h (second r c apart) ∙ kept r c h (first' r c apart) ∙ before.others r c h (fewer r c apart);
}
  where
    fewer : (r c : ℕ) → IsApart wires row count first (n + 1) r c → IsApart wires row count first n r c
    fewer r c (inr rows) = inr rows
    fewer r c (inl columns) = inl (less columns.0, more columns.1) where
      less : (c < first) ⊎ (first + (n + 1) ≤ c) → (c < first) ⊎ (first + n ≤ c)
      less (inl a) = inl a
      less (inr b) = inr (omega arith)

      more : (c < wires + 1 + first) ⊎ (wires + 1 + (first + (n + 1)) ≤ c) → (c < wires + 1 + first) ⊎ (wires + 1 + (first + n) ≤ c)
      more (inl a) = inl a
      more (inr b) = inr (omega arith)

    first' : (r c : ℕ) → IsApart wires row count first (n + 1) r c → IsElsewhere row count (first + n) r c
    first' r c (inr rows) = inr rows
    first' r c (inl columns) = inl (differ columns.0) where
      differ : (c < first) ⊎ (first + (n + 1) ≤ c) → c ≢ first + n
      differ (inl a) e = omega arith
      differ (inr b) e = omega arith

    second : (r c : ℕ) → IsApart wires row count first (n + 1) r c → IsElsewhere row count (wires + 1 + (first + n)) r c
    second r c (inr rows) = inr rows
    second r c (inl columns) = inl (differ columns.1) where
      differ : (c < wires + 1 + first) ⊎ (wires + 1 + (first + (n + 1)) ≤ c) → c ≢ wires + 1 + (first + n)
      differ (inl a) e = omega arith
      differ (inr b) e = omega arith
