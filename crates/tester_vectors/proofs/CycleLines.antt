-- A line in which each byte stands that a cycle wants is the line of the cycle, and a block of such lines is the text.
use Rattle.std.proofs.Common.{◌≡◌, ℕ, zero, suc, ◌+◌, ◌-◌, ◌*◌, ◌≤◌, ◌<◌, ◌⊎◌, Some, List, [], ◌∷◌, ◌++◌, length, take, drop, refl, ap, sym, subst, append-nil, ◌∙◌, arith, inl, inr, append_assoc, length-drop, slice_get, flat_map}
use Rattle.std.specs.List.{range_with_len}
use Rattle.std.proofs.Math.Nat.{mul-le-mul_right}
use Rattle.std.proofs.Math.Seq.{take-add}
use Rattle.std.proofs.lemmas.List.{length-take-le}
use Rattle.std.proofs.lemmas.Option.{same_Some}
use Rattle.std.proofs.lemmas.Bool.{cases_eq, cases_lt}
use Rattle.soc_model.specs.Chips.{SocValue}
use Rattle.plan_model.specs.Plans.{PlanValue, planned}
use Rattle.plan_model.specs.Runs.{Content}
use Rattle.vector_lines.specs.Wires.{wires_of, IsCompared}
use Rattle.vector_lines.specs.Vectors.{byte_at, IsLineOf}
use Rattle.tester_vectors.specs.Marks.{mark, Marks, MarksStand}
use Rattle.tester_vectors.specs.VectorText.{cycle_line}
use Rattle.tester_vectors.proofs.ReadBits.{compared_or_not}
use Rattle.tester_vectors.proofs.TextPlaces.{line_long, line_driven, line_compared, line_space, line_feed}

-- ---- lists by their items

same_items : (xs ys : List ℕ) → length xs ≡ length ys → ((i : ℕ) → i < length ys → slice_get xs i ≡ slice_get ys i) → xs ≡ ys
same_items [] [] long each = refl
same_items [] (y ∷ ys) long each = absurd (omega arith)
same_items (x ∷ xs) [] long each = absurd (omega arith)
same_items (x ∷ xs) (y ∷ ys) long each =
    ap (λ (v : ℕ). v ∷ xs) (same_Some x y (each 0 (omega arith))) ∙ ap (λ (v : List ℕ). y ∷ v) (same_items xs ys (omega arith) (λ i h. each (suc i) (omega arith)))

at_take : (xs : List ℕ) (n j : ℕ) → j < n → slice_get (take n xs) j ≡ slice_get xs j
at_take xs zero j h = absurd (omega arith)
at_take [] (suc n) j h = refl
at_take (x ∷ xs) (suc n) zero h = refl
at_take (x ∷ xs) (suc n) (suc j) h = at_take xs n j (omega arith)

at_drop : (xs : List ℕ) (a j : ℕ) → slice_get (drop a xs) j ≡ slice_get xs (a + j)
at_drop xs zero j = let e : 0 + j ≡ j = omega arith in rw e refl
at_drop [] (suc a) j = refl
at_drop (x ∷ xs) (suc a) j = let e : suc a + j ≡ suc (a + j) = omega arith in rw e (at_drop xs a j)

-- ---- a line

module _ (soc : SocValue) (plan : PlanValue) {content : Content} {marks : Marks} (stand : ((marks : Marks) → MarksStand soc plan marks)) {c row : ℕ}
    {text : List ℕ} (is : IsLineOf content marks (planned soc plan) (wires_of plan) c row text) where
  -- a mark as it was put
  mark_here : (w : ℕ) → w < wires_of plan → byte_at text (wires_of plan) row (wires_of plan + 1 + w) ≡ Some (mark marks (planned soc plan) c w)
  mark_here w h = elim (compared_or_not (stand (λ id k x. 48)) c w) [
    | inl r ↦ is.reads r.place r.pattern w r.test r.cell r.at r.read ∙ ap Some (sym ((stand marks).bits r.place r.test r.pattern r.cell c w r.at r.read))
    | inr none ↦ is.rest w h none ∙ ap Some (sym (unread none ((stand marks).only c w)))
  ]
    where
      unread : (IsCompared (planned soc plan) c w → ⊥) → (mark marks (planned soc plan) c w ≡ 45) ⊎ IsCompared (planned soc plan) c w → mark marks (planned soc plan) c w ≡ 45
      unread none (inl dash) = dash
      unread none (inr r) = absurd (none r)

  line_here : row * (2 * wires_of plan + 2) + (2 * wires_of plan + 2) ≤ length text →
      take (2 * wires_of plan + 2) (drop (row * (2 * wires_of plan + 2)) text) ≡ cycle_line content marks (planned soc plan) (wires_of plan) c
  line_here fits =
      same_items (take (2 * wires_of plan + 2) (drop (row * (2 * wires_of plan + 2)) text)) (cycle_line content marks (planned soc plan) (wires_of plan) c) long (λ j h. let less : j < 2 * wires_of plan + 2 = omega (arith, line) in
      at_take (drop (row * (2 * wires_of plan + 2)) text) (2 * wires_of plan + 2) j less ∙ at_drop text (row * (2 * wires_of plan + 2)) j
      ∙ by j less (cases_lt j (wires_of plan)) (cases_eq j (wires_of plan)) (cases_lt j (wires_of plan + 1 + wires_of plan)))
    where
      line : length (cycle_line content marks (planned soc plan) (wires_of plan) c) ≡ wires_of plan + (wires_of plan + 2)
      line = line_long (planned soc plan) (wires_of plan) content marks c

      long : length (take (2 * wires_of plan + 2) (drop (row * (2 * wires_of plan + 2)) text)) ≡ length (cycle_line content marks (planned soc plan) (wires_of plan) c)
      long =
          let left = length-drop (row * (2 * wires_of plan + 2)) text in
          length-take-le (2 * wires_of plan + 2) (drop (row * (2 * wires_of plan + 2)) text) (omega arith) ∙ omega (arith, line)

      by : (j : ℕ) → j < 2 * wires_of plan + 2 → (j < wires_of plan) ⊎ (wires_of plan ≤ j) → (j ≡ wires_of plan) ⊎ (j ≡ wires_of plan → ⊥) → (j < wires_of plan + 1 + wires_of plan) ⊎ (wires_of plan + 1 + wires_of plan ≤ j) →
          byte_at text (wires_of plan) row j ≡ slice_get (cycle_line content marks (planned soc plan) (wires_of plan) c) j
      by j less (inl first) b d = is.driven j first ∙ sym (line_driven content marks (planned soc plan) (wires_of plan) c j first)
      by j less (inr past) (inl here) d = rw here (is.space ∙ sym (line_space content marks (planned soc plan) (wires_of plan) c))
      by j less (inr past) (inr other) (inl within) =
          let place : wires_of plan + 1 + (j - (wires_of plan + 1)) ≡ j = omega arith in
          let w : j - (wires_of plan + 1) < wires_of plan = omega arith in
          let byte = mark_here (j - (wires_of plan + 1)) w ∙ sym (line_compared content marks (planned soc plan) (wires_of plan) c (j - (wires_of plan + 1)) w) in
          subst (λ j. byte_at text (wires_of plan) row j ≡ slice_get (cycle_line content marks (planned soc plan) (wires_of plan) c) j) place byte
      by j less (inr past) (inr other) (inr last) =
          let end : j ≡ wires_of plan + 1 + wires_of plan = omega arith in
          rw end (is.feed ∙ sym (line_feed content marks (planned soc plan) (wires_of plan) c))

-- ---- a block

pub flat_more : (f : ℕ → List ℕ) (a n m : ℕ) → a + n ≡ m → flat_map f (range_with_len a (suc n)) ≡ flat_map f (range_with_len a n) ++ f m
flat_more f a zero m e = let same : a ≡ m = omega arith in rw same (append-nil (f m))
flat_more f a (suc n) m e =
    ap (λ (t : List ℕ). f a ++ t) (flat_more f (a + 1) n m (omega arith))
    ∙ sym (append_assoc (f a) (flat_map f (range_with_len (a + 1) n)) (f m))

pub block_is : (soc : SocValue) (plan : PlanValue) (content : Content) (marks : Marks) → ((marks : Marks) → MarksStand soc plan marks) → (from count n : ℕ) (text : List ℕ) → n ≤ count → count * (2 * wires_of plan + 2) ≤ length text →
    ((r : ℕ) → r < count → IsLineOf content marks (planned soc plan) (wires_of plan) (from + r) r text) → take (n * (2 * wires_of plan + 2)) text ≡ flat_map (cycle_line content marks (planned soc plan) (wires_of plan)) (range_with_len from n)
block_is soc plan content marks stand from count zero text few fits lines = let none : 0 * (2 * wires_of plan + 2) ≡ 0 = omega arith in rw none refl
block_is soc plan content marks stand from count (suc n) text few fits lines =
    let size : suc n * (2 * wires_of plan + 2) ≡ n * (2 * wires_of plan + 2) + (2 * wires_of plan + 2) = omega arith in
    let more = mul-le-mul_right (2 * wires_of plan + 2) few in
    let before = block_is soc plan content marks stand from count n text (omega arith) fits lines in
    let line = line_here soc plan stand (lines n (omega arith)) (omega arith) in
    ap (λ m. take m text) size ∙ take-add (n * (2 * wires_of plan + 2)) (2 * wires_of plan + 2) text
    ∙ ap (λ (t : List ℕ). t ++ take (2 * wires_of plan + 2) (drop (n * (2 * wires_of plan + 2)) text)) before
    ∙ ap (λ (t : List ℕ). flat_map (cycle_line content marks (planned soc plan) (wires_of plan)) (range_with_len from n) ++ t) line
    ∙ sym (flat_more (cycle_line content marks (planned soc plan) (wires_of plan)) from n (from + n) refl)
