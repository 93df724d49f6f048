-- The Shifts between captures, as the operations are gone through: how many since the last capture, and how many up to the
-- next one or to the end.
use Rattle.std.proofs.Common.{◌≡◌, ℕ, zero, suc, ◌+◌, ◌≤◌, ◌<◌, Bool, true, false, cond, Some, List, [], ◌∷◌, take, drop, refl, ap, ◌∙◌, sym, subst, arith, slice_get, count_by}
use Rattle.plan_model.specs.Operations.{Operation, Setup, Shift, Capture, SelfTest}
use Rattle.shift_program.specs.RightPrograms.{is_shift, is_capture}
use Rattle.shift_program.specs.Faults.{shifts_since}
use Rattle.common_lemmas.proofs.Lists.{count_cons}

-- ---- counting

-- the Shifts up to the next capture or to the end
abbrev pub block : List Operation → ℕ
block [] = 0
block (Shift ∷ ops) = suc (block ops)
block (Capture k ∷ ops) = 0
block (Setup ∷ ops) = block ops
block (SelfTest ∷ ops) = block ops

-- whether there is a capture, or was one before
abbrev pub has_capture : Bool → List Operation → Bool
has_capture b [] = b
has_capture b (Shift ∷ ops) = has_capture b ops
has_capture b (Capture k ∷ ops) = has_capture true ops
has_capture b (Setup ∷ ops) = has_capture b ops
has_capture b (SelfTest ∷ ops) = has_capture b ops

-- ---- operations that are spaced: enough Shifts before each capture, and behind each

module _ (si so : ℕ) where
  -- With `n` Shifts since the capture before, if there was one: enough Shifts before each capture, and after one was made
  -- enough before the next and before the end.
  pub record AreSpaced (captured : Bool) (n : ℕ) (ops : List Operation) : Type 0 where
    pub loads : (i k : ℕ) → slice_get ops i ≡ Some (Capture k) → si ≤ shifts_since n (take i ops)
    pub unloads : (i k : ℕ) → slice_get ops i ≡ Some (Capture k) → has_capture captured (take i ops) ≡ true → so ≤ shifts_since n (take i ops)
    pub end : has_capture captured ops ≡ true → so ≤ shifts_since n ops

  module _ (b : Bool) (n : ℕ) where
    pub spaced_capture : (k : ℕ) (ops : List Operation) → AreSpaced b n (Capture k ∷ ops) → AreSpaced true 0 ops
    spaced_capture k ops s = record {
      loads = λ i k e. s.loads (suc i) k e;
      unloads = λ i k e c. s.unloads (suc i) k e c;
      end = λ c. s.end c;
    }

    module _ (ops : List Operation) where
      pub spaced_shift : AreSpaced b n (Shift ∷ ops) → AreSpaced b (suc n) ops
      spaced_shift s = record {
        loads = λ i k e. s.loads (suc i) k e;
        unloads = λ i k e c. s.unloads (suc i) k e c;
        end = λ c. s.end c;
      }

      pub spaced_setup : AreSpaced b n (Setup ∷ ops) → AreSpaced b n ops
      spaced_setup s = record {
        loads = λ i k e. s.loads (suc i) k e;
        unloads = λ i k e c. s.unloads (suc i) k e c;
        end = λ c. s.end c;
      }

      pub spaced_self : AreSpaced b n (SelfTest ∷ ops) → AreSpaced b n ops
      spaced_self s = record {
        loads = λ i k e. s.loads (suc i) k e;
        unloads = λ i k e c. s.unloads (suc i) k e c;
        end = λ c. s.end c;
      }

  -- behind a capture enough Shifts come
  pub block_enough : (n : ℕ) (ops : List Operation) → AreSpaced true n ops → so ≤ n + block ops
  block_enough n [] s = let here = s.end refl in omega arith
  block_enough n (Shift ∷ ops) s = let ih = block_enough (suc n) ops (spaced_shift true n ops s) in omega arith
  block_enough n (Capture k ∷ ops) s = let here = s.unloads 0 k refl refl in omega arith
  block_enough n (Setup ∷ ops) s = block_enough n ops (spaced_setup true n ops s)
  block_enough n (SelfTest ∷ ops) s = block_enough n ops (spaced_self true n ops s)

  -- at each place
  pub enough_behind : (b : Bool) (n : ℕ) (ops : List Operation) → AreSpaced b n ops → (i k : ℕ) → slice_get ops i ≡ Some (Capture k) → so ≤ block (drop (suc i) ops)
  enough_behind b n [] s i k e = absurd cc
  enough_behind b n (Shift ∷ ops) s zero k e = absurd cc
  enough_behind b n (Shift ∷ ops) s (suc i) k e = enough_behind b (suc n) ops (spaced_shift b n ops s) i k e
  enough_behind b n (Capture k' ∷ ops) s zero k e = let here = block_enough 0 ops (spaced_capture b n k' ops s) in omega arith
  enough_behind b n (Capture k' ∷ ops) s (suc i) k e = enough_behind true 0 ops (spaced_capture b n k' ops s) i k e
  enough_behind b n (Setup ∷ ops) s zero k e = absurd cc
  enough_behind b n (Setup ∷ ops) s (suc i) k e = enough_behind b n ops (spaced_setup b n ops s) i k e
  enough_behind b n (SelfTest ∷ ops) s zero k e = absurd cc
  enough_behind b n (SelfTest ∷ ops) s (suc i) k e = enough_behind b n ops (spaced_self b n ops s) i k e

-- ---- and the other way

module _ (so : ℕ) where
  -- enough Shifts up to the next capture or the end, behind the one before, if there was one, and behind each of these
  pub record AreUnloaded (captured : Bool) (n : ℕ) (ops : List Operation) : Type 0 where
    pub first : captured ≡ true → so ≤ n + block ops
    pub each : (i k : ℕ) → slice_get ops i ≡ Some (Capture k) → so ≤ block (drop (suc i) ops)

  module _ (b : Bool) (n : ℕ) where
    pub unloaded_capture : (k : ℕ) (ops : List Operation) → AreUnloaded b n (Capture k ∷ ops) → AreUnloaded true 0 ops
    unloaded_capture k ops u = record { first = λ c. let here = u.each 0 k refl in omega arith; each = λ i k e. u.each (suc i) k e }

    module _ (ops : List Operation) where
      pub unloaded_shift : AreUnloaded b n (Shift ∷ ops) → AreUnloaded b (suc n) ops
      unloaded_shift u = record { first = λ c. let here = u.first c in omega arith; each = λ i k e. u.each (suc i) k e }

      pub unloaded_setup : AreUnloaded b n (Setup ∷ ops) → AreUnloaded b n ops
      unloaded_setup u = record { first = u.first; each = λ i k e. u.each (suc i) k e }

      pub unloaded_self : AreUnloaded b n (SelfTest ∷ ops) → AreUnloaded b n ops
      unloaded_self u = record { first = u.first; each = λ i k e. u.each (suc i) k e }

  pub since_enough : (b : Bool) (n : ℕ) (ops : List Operation) → AreUnloaded b n ops → has_capture b ops ≡ true → so ≤ shifts_since n ops
  since_enough b n [] u c = let here = u.first c in omega arith
  since_enough b n (Shift ∷ ops) u c = since_enough b (suc n) ops (unloaded_shift b n ops u) c
  since_enough b n (Capture k ∷ ops) u c = since_enough true 0 ops (unloaded_capture b n k ops u) c
  since_enough b n (Setup ∷ ops) u c = since_enough b n ops (unloaded_setup b n ops u) c
  since_enough b n (SelfTest ∷ ops) u c = since_enough b n ops (unloaded_self b n ops u) c

  pub since_enough_at : (b : Bool) (n : ℕ) (ops : List Operation) → AreUnloaded b n ops → (i k : ℕ) → slice_get ops i ≡ Some (Capture k) →
      has_capture b (take i ops) ≡ true → so ≤ shifts_since n (take i ops)
  since_enough_at b n [] u i k e c = absurd cc
  since_enough_at b n (Shift ∷ ops) u zero k e c = absurd cc
  since_enough_at b n (Shift ∷ ops) u (suc i) k e c = since_enough_at b (suc n) ops (unloaded_shift b n ops u) i k e c
  since_enough_at b n (Capture k' ∷ ops) u zero k e c = let here = u.first c in omega arith
  since_enough_at b n (Capture k' ∷ ops) u (suc i) k e c = since_enough_at true 0 ops (unloaded_capture b n k' ops u) i k e c
  since_enough_at b n (Setup ∷ ops) u zero k e c = absurd cc
  since_enough_at b n (Setup ∷ ops) u (suc i) k e c = since_enough_at b n ops (unloaded_setup b n ops u) i k e c
  since_enough_at b n (SelfTest ∷ ops) u zero k e c = absurd cc
  since_enough_at b n (SelfTest ∷ ops) u (suc i) k e c = since_enough_at b n ops (unloaded_self b n ops u) i k e c

-- ---- Shifts of a block by their number

pub record ShiftAt (ops : List Operation) (i q : ℕ) : Type 0 where
  pub shifts : slice_get ops q ≡ Some Shift
  pub number : count_by is_shift (take q ops) ≡ i
  pub no_capture : count_by is_capture (take q ops) ≡ 0

-- one operation more in front
later : (o : Operation) (ops : List Operation) (i q : ℕ) → is_capture o ≡ false → ShiftAt ops i q → ShiftAt (o ∷ ops) (cond (is_shift o) 1 0 + i) (suc q)
later o ops i q no' s = record {
  shifts = s.shifts;
  number = count_cons is_shift o (take q ops) ∙ ap (λ v. cond (is_shift o) 1 0 + v) s.number;
  no_capture = count_cons is_capture o (take q ops) ∙ rw (no', s.no_capture) refl;
}

pub find_shift : (ops : List Operation) (i : ℕ) → i < block ops → (q : ℕ) × ShiftAt ops i q
find_shift [] i h = absurd (omega arith)
find_shift (Shift ∷ ops) zero h = (0, record { shifts = refl; number = refl; no_capture = refl })
find_shift (Shift ∷ ops) (suc i) h =
    let r = find_shift ops i (omega arith) in
    let one : 1 + i ≡ suc i = omega arith in
    (suc r.0, subst (λ v. ShiftAt (Shift ∷ ops) v (suc r.0)) one (later Shift ops i r.0 refl r.1))
find_shift (Capture k ∷ ops) i h = absurd (omega arith)
find_shift (Setup ∷ ops) i h =
    let r = find_shift ops i h in
    let none : 0 + i ≡ i = omega arith in
    (suc r.0, subst (λ v. ShiftAt (Setup ∷ ops) v (suc r.0)) none (later Setup ops i r.0 refl r.1))
find_shift (SelfTest ∷ ops) i h =
    let r = find_shift ops i h in
    let none : 0 + i ≡ i = omega arith in
    (suc r.0, subst (λ v. ShiftAt (SelfTest ∷ ops) v (suc r.0)) none (later SelfTest ops i r.0 refl r.1))

-- without the first operation
pub rest_of : (o : Operation) (ops : List Operation) (i q : ℕ) → ShiftAt (o ∷ ops) i (suc q) →
    (is_capture o ≡ false) × (cond (is_shift o) 1 0 + count_by is_shift (take q ops) ≡ i) × (count_by is_capture (take q ops) ≡ 0)
rest_of o ops i q s =
    let shifts = s.number in
    let none = sym (count_cons is_capture o (take q ops)) ∙ s.no_capture in
    (no_one (is_capture o) (count_by is_capture (take q ops)) none, sym (count_cons is_shift o (take q ops)) ∙ shifts, nothing (is_capture o) (count_by is_capture (take q ops)) none)
  where
    no_one : (b : Bool) (n : ℕ) → cond b 1 0 + n ≡ 0 → b ≡ false
    no_one true n e = absurd (omega arith)
    no_one false n e = refl

    nothing : (b : Bool) (n : ℕ) → cond b 1 0 + n ≡ 0 → n ≡ 0
    nothing true n e = absurd (omega arith)
    nothing false n e = omega arith

pub within_block : (ops : List Operation) (i q : ℕ) → ShiftAt ops i q → i < block ops
within_block [] i q s = absurd cc
within_block (Shift ∷ ops) i zero s = omega arith
within_block (Shift ∷ ops) i (suc q) s =
    let r = rest_of Shift ops i q s in
    let ih = within_block ops (count_by is_shift (take q ops)) q (record { shifts = s.shifts; number = refl; no_capture = r.2 }) in
    omega arith
within_block (Capture k ∷ ops) i zero s = absurd cc
within_block (Capture k ∷ ops) i (suc q) s = let r = rest_of (Capture k) ops i q s in absurd cc
within_block (Setup ∷ ops) i zero s = absurd cc
within_block (Setup ∷ ops) i (suc q) s =
    let r = rest_of Setup ops i q s in
    let ih = within_block ops (count_by is_shift (take q ops)) q (record { shifts = s.shifts; number = refl; no_capture = r.2 }) in
    omega arith
within_block (SelfTest ∷ ops) i zero s = absurd cc
within_block (SelfTest ∷ ops) i (suc q) s =
    let r = rest_of SelfTest ops i q s in
    let ih = within_block ops (count_by is_shift (take q ops)) q (record { shifts = s.shifts; number = refl; no_capture = r.2 }) in
    omega arith

-- ---- one operation more

pub since_more : (n : ℕ) (ops : List Operation) (i : ℕ) (o : Operation) (rest : List Operation) → drop i ops ≡ o ∷ rest →
    shifts_since n (take (suc i) ops) ≡ shifts_since (shifts_since n (take i ops)) (o ∷ [])
since_more n [] zero o rest e = absurd cc
since_more n [] (suc i) o rest e = absurd cc
since_more n (x ∷ ops) zero o rest e = let same : x ≡ o = cc in ap (λ v. shifts_since n (v ∷ [])) same
since_more n (Shift ∷ ops) (suc i) o rest e = since_more (suc n) ops i o rest e
since_more n (Capture k ∷ ops) (suc i) o rest e = since_more 0 ops i o rest e
since_more n (Setup ∷ ops) (suc i) o rest e = since_more n ops i o rest e
since_more n (SelfTest ∷ ops) (suc i) o rest e = since_more n ops i o rest e

-- behind the end nothing more comes
pub past_end : {X : Type 0} (xs : List X) (i : ℕ) → drop i xs ≡ [] → (slice_get xs i ≡ slice_get [] i) × (drop (suc i) xs ≡ []) × (take (suc i) xs ≡ take i xs)
past_end [] zero e = (refl, refl, refl)
past_end [] (suc i) e = (refl, refl, refl)
past_end (x ∷ xs) zero e = absurd cc
past_end {X = X} (x ∷ xs) (suc i) e = let r = past_end xs i e in (r.0 ∙ nothing_there i, r.1, ap (λ v. x ∷ v) r.2)
  where
    nothing_there : (i : ℕ) → slice_get {X = X} [] i ≡ slice_get [] (suc i)
    nothing_there zero = refl
    nothing_there (suc i) = refl
