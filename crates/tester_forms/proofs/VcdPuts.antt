-- The part of a cycle.
use Rattle.std.proofs.Common.{◌≡◌, ℕ, ◌+◌, ◌*◌, ◌≤◌, List, [], ◌∷◌, ◌++◌, length, take, Bool, true, refl, sym, ap, subst, ◌∙◌, arith, append-nil, None, flat_map}
use Rattle.std.proofs.lemmas.List.{length-append, length-take-le, take_at, take-take}
use Rattle.cycle_texts.specs.Rows.{CycleRow, IsPutAt}
use Rattle.tester_forms.specs.Dumps.{Change, change_line, part_text, time_line, timed}
use Rattle.tester_forms.specs.Forms.{wire_sources, control_sources, form_sources}
use Rattle.tester_forms.specs.Variables.{Source}
use Rattle.tester_forms.proofs.Parts.{lines_of, lines-append, put_then, wire_sources-length}

-- the lines of wires, and then those of controls
pub both_put : (p : Source → Bool) (row : CycleRow) (w at middle end : ℕ) (places old between new : List ℕ) → IsPutAt at (lines_of p row 0 (wire_sources w)) middle old between → IsPutAt middle (lines_of p row (2 * w) (control_sources places)) end between new →
    IsPutAt at (lines_of p row 0 (form_sources w places)) end old new
both_put p row w at middle end places old between new one two =
    let number : 0 + length (wire_sources w) ≡ 2 * w = omega (arith, wire_sources-length w) in
    let e : lines_of p row 0 (form_sources w places) ≡ lines_of p row 0 (wire_sources w) ++ lines_of p row (2 * w) (control_sources places) =
    lines-append p row 0 (wire_sources w) (control_sources places) ∙ ap (λ k. lines_of p row 0 (wire_sources w) ++ lines_of p row k (control_sources places)) number in
    subst (λ part. IsPutAt at part end old new) (sym e) (put_then at middle end (lines_of p row 0 (wire_sources w)) (lines_of p row (2 * w) (control_sources places)) old between new one two)

pub all_put : (row : CycleRow) (cycle w at begun middle end : ℕ) (places old timed between new : List ℕ) → IsPutAt at (time_line cycle) begun old timed → IsPutAt begun (lines_of (λ s. true) row 0 (wire_sources w)) middle timed between →
    IsPutAt middle (lines_of (λ s. true) row (2 * w) (control_sources places)) end between new → IsPutAt at (part_text (form_sources w places) cycle None row) end old new
all_put row cycle w at begun middle end places old timed between new time one two =
    put_then at begun end (time_line cycle) (lines_of (λ s. true) row 0 (form_sources w places)) old timed new time (both_put (λ s. true) row w begun middle end places timed between new one two)

-- no line is written where nothing changes
no_lines : (xs : List Change) → length (flat_map change_line xs) ≡ 0 → xs ≡ []
no_lines [] none = refl
no_lines (x ∷ xs) none = absurd (omega (arith, none, some x (flat_map change_line xs)))
  where
    some : (x : Change) (rest : List ℕ) → 1 ≤ length (change_line x ++ rest)
    some x rest = omega (arith, length-append (change_line x) rest)

nothing_put : (at begun : ℕ) (time old between new : List ℕ) → at ≤ length old → IsPutAt at time begun old between → IsPutAt begun [] begun between new → IsPutAt at [] at old new
nothing_put at begun time old between new room one two = record {
  ends = omega arith;
  long = two.long ∙ one.long;
  stands =
      let later : at ≤ begun = omega (arith, one.ends) in
      let front : length (take at old) ≡ at = length-take-le at old room in
      sym (take-take at begun new later)
      ∙ ap (take at) (two.stands ∙ append-nil (take begun between) ∙ one.stands)
      ∙ take_at (take at old) time at front
      ∙ sym (append-nil (take at old));
}

-- the part behind another one, where something changes and where nothing does
pub change_put : (cycle at begun end : ℕ) (xs : List Change) (old between new : List ℕ) → IsPutAt at (time_line cycle) begun old between → IsPutAt begun (flat_map change_line xs) end between new → (end ≡ begun → ⊥) → IsPutAt at (timed cycle xs) end old new
change_put cycle at begun end [] old between new time lines more = absurd (more (omega (arith, lines.ends)))
change_put cycle at begun end (x ∷ xs) old between new time lines more = put_then at begun end (time_line cycle) (flat_map change_line (x ∷ xs)) old between new time lines

pub no_change_put : (cycle at begun end : ℕ) (xs : List Change) (old between new : List ℕ) → at ≤ length old → IsPutAt at (time_line cycle) begun old between → IsPutAt begun (flat_map change_line xs) end between new → end ≡ begun → IsPutAt at (timed cycle xs) at old new
no_change_put cycle at begun end xs old between new room time lines same =
    let none : xs ≡ [] = no_lines xs (omega (arith, lines.ends, same)) in
    let moved : IsPutAt begun (flat_map change_line xs) begun between new = subst (λ k. IsPutAt begun (flat_map change_line xs) k between new) same lines in
    let empty : IsPutAt begun [] begun between new = subst (λ ys. IsPutAt begun (flat_map change_line ys) begun between new) none moved in
    subst (λ ys. IsPutAt at (timed cycle ys) at old new) (sym none) (nothing_put at begun (time_line cycle) old between new room time empty)
