-- What a session holds after one cycle.
use Rattle.std.proofs.Common.{◌≡◌, ℕ, Bool, false, List, [], ◌∷◌, length, get_or, map, refl, ap, ◌∙◌, sym, arith, subst}
use Rattle.std.proofs.lemmas.List.{length-take-le}
use Rattle.plan_model.specs.Cells.{Cell}
use Rattle.plan_model.specs.Operations.{Shift, Capture}
use Rattle.plan_model.specs.Runs.{captured}
use Rattle.vector_lines.specs.declared.layout.Layout.{Layout}
use Rattle.bit_machine.specs.Sessions.{SessionValue, after, entered, each_with, response_bit, IsLong}
use Rattle.vector_lines.specs.Layouts.{layout_cells}
use Rattle.bit_machine.proofs.Captures.{length-captured}
use Rattle.bit_machine.proofs.EachWith.{each_with-map, each_with-lengths}
use Rattle.bit_machine.proofs.Layouts.{length-bits, length-layout}

-- what clauses see of a session
abbrev pub view_of : Layout → List (List Bool) → SessionValue
view_of l bits = record { lengths = l.lengths.items; cells = layout_cells l; bits = bits }

-- ---- there is still a bit for each cell

pub entered-long : (drive : Bool) (bits : List Bool) → length (entered drive bits) ≡ length bits
entered-long drive bits = length-take-le (length bits) (drive ∷ bits) (omega arith)

module _ (l : Layout) (before : List (List Bool)) (long : IsLong l before) where
  pub shifted_long : (drive : List Bool) {next : List (List Bool)} → next ≡ each_with entered drive before → IsLong l next
  shifted_long drive is = ap (map (λ (b : List Bool). length b)) is ∙ each_with-lengths entered entered-long drive before ∙ long

  pub captured_long : (f : Cell → Bool) {next : List (List Bool)} → next ≡ each_with (captured f) (layout_cells l) before → IsLong l next
  captured_long f is = ap (map (λ (b : List Bool). length b)) is ∙ each_with-lengths (captured f) (length-captured f) (layout_cells l) before ∙ long

  -- ---- and each chain has made the step of its test

  long_cells : length (layout_cells l) ≡ length before
  long_cells = length-layout l.lengths.items 0 0 l.chains.items ∙ sym (length-bits l before long)

  pub shifted_bits : {next : List (List Bool)} (drive : List Bool) {s : SessionValue} (response : ℕ → Cell → Bool) → view_of l before ≡ s →
      length drive ≡ length s.cells → next ≡ each_with entered drive before → next ≡ after response Shift (λ j. get_or drive j false) s
  shifted_bits {next} drive {s} response same driven is =
      let wide : length drive ≡ length (layout_cells l) = driven ∙ ap (λ (s : SessionValue). length s.cells) (sym same) in
      subst (λ (s : SessionValue). next ≡ after response Shift (λ j. get_or drive j false) s) same
      (is ∙ each_with-map entered drive before false [] (wide ∙ long_cells) ∙ rw wide refl)

  pub captured_bits : {next : List (List Bool)} (answer : List Bool) {s : SessionValue} (k : ℕ) (drive : ℕ → Bool) → view_of l before ≡ s →
      next ≡ each_with (captured (response_bit l.lengths.items answer)) (layout_cells l) before →
      next ≡ after (λ k. response_bit s.lengths answer) (Capture k) drive s
  captured_bits {next} answer {s} k drive same is =
      subst (λ (s : SessionValue). next ≡ after (λ k. response_bit s.lengths answer) (Capture k) drive s) same
      (is ∙ each_with-map (captured (response_bit l.lengths.items answer)) (layout_cells l) before [] [] long_cells)
