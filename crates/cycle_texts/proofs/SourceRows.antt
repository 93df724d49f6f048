-- The rows that a source puts are those of the plan's cycles.
use Rattle.std.proofs.Common.{◌≡◌, ℕ, suc, ◌+◌, ◌*◌, ◌<◌, ◌≤◌, List, ◌++◌, length, take, drop, refl, ap, sym, subst, ◌∙◌, arith, slice_range, flat_map}
use Rattle.std.specs.List.{range_with_len}
use Rattle.std.proofs.Math.Seq.{take-add}
use Rattle.std.proofs.lemmas.List.{append_cancel_left, drop-drop, take-append-drop}
use Rattle.std.proofs.lemmas.List.FromFn.{length-map-range_with_len}
use Rattle.soc_model.specs.Chips.{SocValue}
use Rattle.plan_model.specs.Plans.{PlanValue, PlannedTest, planned}
use Rattle.plan_model.specs.Rules.{IsGoodAlone, bare_limits}
use Rattle.plan_model.specs.Runs.{Content, carried}
use Rattle.vector_lines.specs.Wires.{wires_of}
use Rattle.vector_lines.specs.Marks.{digit, Marks}
use Rattle.vector_lines.specs.Vectors.{IsLineOf}
use Rattle.tester_vectors.specs.Marks.{mark}
use Rattle.tester_vectors.specs.VectorText.{driven_text, compared_text, cycle_line}
use Rattle.tester_vectors.proofs.CycleLines.{block_is, flat_more}
use Rattle.tester_vectors.proofs.ReadBits.{marks_stand_in}
use Rattle.cycle_texts.specs.Rows.{CycleRow}
use Rattle.controls.specs.Controls.{control_row, controls}
use Rattle.cycle_texts.specs.ProgramText.{row_at}
use Rattle.cycle_texts.specs.RowBlocks.{row_in}
use Rattle.cycle_texts.proofs.LineCuts.{driven_cut, compared_cut, range_cut}

-- ---- a line of a block

-- the lines of some cycles, of one plan
module _ (soc : SocValue) (plan : PlanValue) (content : Content) (marks : Marks) (good : IsGoodAlone soc plan) (from count : ℕ) (text : List ℕ)
    (fits : count * (2 * wires_of plan + 2) ≤ length text)
    (lines : (r : ℕ) → r < count → IsLineOf content marks (planned soc plan) (wires_of plan) (from + r) r text) where
  block_front : (n : ℕ) → n ≤ count → take (n * (2 * wires_of plan + 2)) text ≡ flat_map (cycle_line content marks (planned soc plan) (wires_of plan)) (range_with_len from n)
  block_front n few = block_is soc plan content marks (λ marks. marks_stand_in soc (bare_limits plan) plan marks good) from count n text few fits lines

  line_at : (r : ℕ) → r < count → take (2 * wires_of plan + 2) (drop (r * (2 * wires_of plan + 2)) text) ≡ cycle_line content marks (planned soc plan) (wires_of plan) (from + r)
  line_at r h =
      let size : suc r * (2 * wires_of plan + 2) ≡ r * (2 * wires_of plan + 2) + (2 * wires_of plan + 2) = omega arith in
      let before = block_front r (omega arith) in
      append_cancel_left (flat_map (cycle_line content marks (planned soc plan) (wires_of plan)) (range_with_len from r))
      (take (2 * wires_of plan + 2) (drop (r * (2 * wires_of plan + 2)) text)) (cycle_line content marks (planned soc plan) (wires_of plan) (from + r))
      (ap (λ (t : List ℕ). t ++ take (2 * wires_of plan + 2) (drop (r * (2 * wires_of plan + 2)) text)) (sym before)
      ∙ sym (take-add (r * (2 * wires_of plan + 2)) (2 * wires_of plan + 2) text)
      ∙ ap (λ n. take n text) (sym size) ∙ block_front (suc r) h
      ∙ flat_more (cycle_line content marks (planned soc plan) (wires_of plan)) from r (from + r) refl)

driven_long : (content : Content) (tests : List PlannedTest) (wires c : ℕ) → length (driven_text content tests wires c) ≡ wires
driven_long content tests wires c = length-map-range_with_len (λ w. digit (carried content tests c w)) 0 wires

compared_long : (marks : Marks) (tests : List PlannedTest) (wires c : ℕ) → length (compared_text marks tests wires c) ≡ wires
compared_long marks tests wires c = length-map-range_with_len (mark marks tests c) 0 wires

-- the line and what is behind it
line_first : (content : Content) (marks : Marks) (tests : List PlannedTest) (wires c : ℕ) (x : List ℕ) → take (2 * wires + 2) x ≡ cycle_line content marks tests wires c →
    (take wires x ≡ driven_text content tests wires c) × (take wires (drop (wires + 1) x) ≡ compared_text marks tests wires c)
unfolding cycle_line
line_first content marks tests wires c x is =
    let whole : x ≡ cycle_line content marks tests wires c ++ drop (2 * wires + 2) x =
    sym (take-append-drop (2 * wires + 2) x) ∙ ap (λ (t : List ℕ). t ++ drop (2 * wires + 2) x) is in (
      driven_cut (driven_text content tests wires c) (compared_text marks tests wires c) (drop (2 * wires + 2) x) x wires (driven_long content tests wires c) whole,
      compared_cut (driven_text content tests wires c) (compared_text marks tests wires c) (drop (2 * wires + 2) x) x wires (driven_long content tests wires c) (compared_long marks tests wires c) whole,
    )

-- ---- a row

same_row : (a b c d e f : List ℕ) → a ≡ b → c ≡ d → e ≡ f → ◌≡◌ {A = CycleRow} (record { driven = a; compared = c; controls = e }) (record { driven = b; compared = d; controls = f })
same_row a b c d e f p q r = rw (p, q, r) refl

row_of_line : (soc : SocValue) (plan : PlanValue) (content : Content) (marks : Marks) (c r : ℕ) (lines digits : List ℕ) →
    take (2 * wires_of plan + 2) (drop (r * (2 * wires_of plan + 2)) lines) ≡ cycle_line content marks (planned soc plan) (wires_of plan) c →
    slice_range digits (r * length (controls soc)) (r * length (controls soc) + length (controls soc)) ≡ control_row soc plan c →
    row_in (wires_of plan) (length (controls soc)) lines digits r ≡ row_at soc plan content marks c
unfolding row_at
row_of_line soc plan content marks c r lines digits line row =
    let cut = line_first content marks (planned soc plan) (wires_of plan) c (drop (r * (2 * wires_of plan + 2)) lines) line in
    same_row (take (wires_of plan) (drop (r * (2 * wires_of plan + 2)) lines)) (driven_text content (planned soc plan) (wires_of plan) c)
    (take (wires_of plan) (drop (r * (2 * wires_of plan + 2) + (wires_of plan + 1)) lines)) (compared_text marks (planned soc plan) (wires_of plan) c)
    (take (length (controls soc)) (drop (r * length (controls soc)) digits)) (control_row soc plan c)
    cut.0
    (ap (take (wires_of plan)) (sym (drop-drop (wires_of plan + 1) (r * (2 * wires_of plan + 2)) lines)) ∙ cut.1)
    (sym (range_cut digits (r * length (controls soc)) (length (controls soc))) ∙ row)

-- each row of a block that was put
pub row_is : (soc : SocValue) (plan : PlanValue) (content : Content) (marks : Marks) (from count r wires width : ℕ) (lines digits : List ℕ) → IsGoodAlone soc plan → wires ≡ wires_of plan → width ≡ length (controls soc) →
    count * (2 * wires + 2) ≤ length lines → ((r : ℕ) → r < count → IsLineOf content marks (planned soc plan) (wires_of plan) (from + r) r lines) →
    ((r : ℕ) → r < count → slice_range digits (r * length (controls soc)) (r * length (controls soc) + length (controls soc)) ≡ control_row soc plan (from + r)) → r < count →
    row_in wires width lines digits r ≡ row_at soc plan content marks (from + r)
row_is soc plan content marks from count r wires width lines digits good e f fits are rows h =
    let fits' : count * (2 * wires_of plan + 2) ≤ length lines = subst (λ (w : ℕ). count * (2 * w + 2) ≤ length lines) e fits in
    ap (λ w. row_in w width lines digits r) e ∙ ap (λ n. row_in (wires_of plan) n lines digits r) f
    ∙ row_of_line soc plan content marks (from + r) r lines digits (line_at soc plan content marks good from count lines fits' are r h) (rows r h)
