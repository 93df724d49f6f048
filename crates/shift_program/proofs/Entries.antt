-- Where the operations of an entry stand, and what the entries before it did.
use Rattle.std.proofs.Common.{◌≡◌, ◌⊎◌, inl, inr, ℕ, zero, suc, ◌+◌, ◌<◌, Bool, true, false, Some, List, [], ◌∷◌, ◌++◌, length, replicate, take, drop, refl, ap, ◌∙◌, sym, arith, slice_get}
use Rattle.std.proofs.lemmas.List.{length-append}
use Rattle.std.proofs.lemmas.List.Concat.{flat_map-append}
use Rattle.plan_model.specs.Operations.{Operation, Setup, Shift, Capture, SelfTest}
use Rattle.plan_model.proofs.Lists.{from_append}
use Rattle.shift_program.specs.declared.Entry.{Entry}
use Rattle.shift_program.specs.Programs.{entry_operations, operations}
use Rattle.shift_program.proofs.Blocks.{has_capture}
use Rattle.common_lemmas.proofs.Lists.{in_take, from_take, take_front}
use Rattle.shift_program.specs.declared.Entry.TheVariants as entry

-- ---- lists

-- an item, between what stands before it and behind it
pub parted : {X : Type 0} (xs : List X) (i : ℕ) (x : X) → slice_get xs i ≡ Some x → xs ≡ take i xs ++ x ∷ drop (suc i) xs
parted [] i x e = absurd cc
parted (y ∷ xs) zero x e = let same : y ≡ x = cc in ap (λ v. v ∷ xs) same
parted (y ∷ xs) (suc i) x e = ap (λ v. y ∷ v) (parted xs i x e)

pub at_seam : {X : Type 0} (a : List X) (x : X) (b : List X) → slice_get (a ++ x ∷ b) (length a) ≡ Some x
at_seam [] x b = refl
at_seam (y ∷ a) x b = at_seam a x b

nothing_at : {X : Type 0} (m n : ℕ) → slice_get {X = X} [] m ≡ slice_get [] n
nothing_at zero zero = refl
nothing_at zero (suc n) = refl
nothing_at (suc m) zero = refl
nothing_at (suc m) (suc n) = refl

pub at_drop : {X : Type 0} (xs : List X) (a q : ℕ) → slice_get (drop a xs) q ≡ slice_get xs (a + q)
at_drop xs zero q = let same : 0 + q ≡ q = omega arith in rw same refl
at_drop [] (suc a) q = nothing_at q (suc a + q)
at_drop (x ∷ xs) (suc a) q = let same : suc a + q ≡ suc (a + q) = omega arith in rw same (at_drop xs a q)

pub only_item : {X : Type 0} (n i : ℕ) (x y : X) → slice_get (replicate n x) i ≡ Some y → x ≡ y
only_item zero i x y e = absurd cc
only_item (suc n) zero x y e = cc
only_item (suc n) (suc i) x y e = only_item n i x y e

-- ---- operations of entries

pub operations_append : (a b : List Entry) → operations (a ++ b) ≡ operations a ++ operations b
operations_append a b = flat_map-append entry_operations a b

module _ (es : List Entry) (i : ℕ) where
  abbrev front : List Entry
  front = take i es

  -- the operations, at an entry
  pub parted_at : (e : Entry) → slice_get es i ≡ Some e → operations es ≡ operations front ++ (entry_operations e ++ operations (drop (suc i) es))
  parted_at e at = ap operations (parted es i e at) ∙ operations_append front (e ∷ drop (suc i) es)

  pub record CaptureAt (k : ℕ) : Type 0 where
    pub captures : slice_get (operations es) (length (operations front)) ≡ Some (Capture k)
    pub before : take (length (operations front)) (operations es) ≡ operations front

  -- the operation of a Capture entry
  pub capture_at : (k : ℕ) → slice_get es i ≡ Some (entry.Capture k) → CaptureAt k
  capture_at k at =
      let whole = parted_at (entry.Capture k) at in
      record {
        captures = ap (λ v. slice_get v (length (operations front))) whole ∙ at_seam (operations front) (Capture k) (operations (drop (suc i) es));
        before = ap (take (length (operations front))) whole ∙ take_front (operations front) (Capture k ∷ operations (drop (suc i) es));
      }

-- the entry of a Capture
pub record EntryOf (es : List Entry) (n k : ℕ) : Type 0 where
  pub place : ℕ
  pub there : slice_get es place ≡ Some (entry.Capture k)
  pub at : n ≡ length (operations (take place es))

in_entry : (e : Entry) (es : List Entry) (n k : ℕ) → slice_get (entry_operations e) n ≡ Some (Capture k) → EntryOf (e ∷ es) n k
in_entry (entry.Rest c) es n k at = let other = only_item c n Setup (Capture k) at in absurd cc
in_entry (entry.Shift c) es n k at = let other = only_item c n Shift (Capture k) at in absurd cc
in_entry (entry.Capture c) es zero k at = let same : c ≡ k = cc in record { place = 0; there = ap (λ v. Some (entry.Capture v)) same; at = refl }
in_entry (entry.Capture c) es (suc n) k at = absurd cc

pub entry_of : (es : List Entry) (n k : ℕ) → slice_get (operations es) n ≡ Some (Capture k) → EntryOf es n k
entry_of [] n k at = absurd cc
entry_of (e ∷ es) n k at = by (from_append (entry_operations e) (operations es) n (Capture k) at) (λ m there. entry_of es m k there)
  where
    by : (slice_get (entry_operations e) n ≡ Some (Capture k)) ⊎ ((j : ℕ) × (n ≡ length (entry_operations e) + j) × (slice_get (operations es) j ≡ Some (Capture k)))
        → ((m : ℕ) → slice_get (operations es) m ≡ Some (Capture k) → EntryOf es m k) → EntryOf (e ∷ es) n k
    by (inl here) later = in_entry e es n k here
    by (inr r) later =
        let f = later r.0 r.2 in
        record { place = suc f.place; there = f.there; at = r.1 ∙ ap (λ v. length (entry_operations e) + v) f.at ∙ sym (length-append (entry_operations e) (operations (take f.place es))) }

-- an earlier Capture entry has an earlier Capture
pub earlier_capture : (es : List Entry) (q i k : ℕ) → q < i → slice_get es q ≡ Some (entry.Capture k) → length (operations (take q es)) < length (operations (take i es))
earlier_capture [] q i k less at = absurd cc
earlier_capture (e ∷ es) q zero k less at = absurd (omega arith)
earlier_capture (e ∷ es) zero (suc i) k less at =
    let same : e ≡ entry.Capture k = cc in
    rw same (omega arith)
earlier_capture (e ∷ es) (suc q) (suc i) k less at =
    let ih = earlier_capture es q i k (omega arith) at in
    omega (arith, length-append (entry_operations e) (operations (take q es)), length-append (entry_operations e) (operations (take i es)))

-- ---- captures

has_once : (ops : List Operation) → has_capture true ops ≡ true
has_once [] = refl
has_once (Shift ∷ ops) = has_once ops
has_once (Capture k ∷ ops) = has_once ops
has_once (Setup ∷ ops) = has_once ops
has_once (SelfTest ∷ ops) = has_once ops

pub has_here : (b : Bool) (ops : List Operation) (n k : ℕ) → slice_get ops n ≡ Some (Capture k) → has_capture b ops ≡ true
has_here b [] n k e = absurd cc
has_here b (Shift ∷ ops) zero k e = absurd cc
has_here b (Shift ∷ ops) (suc n) k e = has_here b ops n k e
has_here b (Capture c ∷ ops) n k e = has_once ops
has_here b (Setup ∷ ops) zero k e = absurd cc
has_here b (Setup ∷ ops) (suc n) k e = has_here b ops n k e
has_here b (SelfTest ∷ ops) zero k e = absurd cc
has_here b (SelfTest ∷ ops) (suc n) k e = has_here b ops n k e

pub has_where : (ops : List Operation) → has_capture false ops ≡ true → (n : ℕ) × (k : ℕ) × (slice_get ops n ≡ Some (Capture k))
has_where [] e = absurd cc
has_where (Shift ∷ ops) e = let r = has_where ops e in (suc r.0, r.1, r.2)
has_where (Capture k ∷ ops) e = (0, k, refl)
has_where (Setup ∷ ops) e = let r = has_where ops e in (suc r.0, r.1, r.2)
has_where (SelfTest ∷ ops) e = let r = has_where ops e in (suc r.0, r.1, r.2)

module _ (es : List Entry) (i : ℕ) where
  abbrev earlier_ones : List Entry
  earlier_ones = take i es

  -- a capture before an entry
  abbrev pub CaptureBefore : Type 0
  CaptureBefore = (q : ℕ) × (k : ℕ) × (q < i) × (slice_get es q ≡ Some (entry.Capture k))

  pub captured_before : has_capture false (operations earlier_ones) ≡ true → CaptureBefore
  captured_before e =
      let n = has_where (operations earlier_ones) e in
      let f = entry_of earlier_ones n.0 n.1 n.2 in
      let r = from_take es i f.place (entry.Capture n.1) f.there in
      (f.place, n.1, r.0, r.1)

  pub before_captured : CaptureBefore → has_capture false (operations earlier_ones) ≡ true
  before_captured c =
      let there = in_take es i c.0 (entry.Capture c.1) c.2 c.3 in
      let a = capture_at earlier_ones c.0 c.1 there in
      has_here false (operations earlier_ones) (length (operations (take c.0 earlier_ones))) c.1 a.captures
