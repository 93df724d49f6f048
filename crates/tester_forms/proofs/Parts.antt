-- Parts of a text that are put one behind the other, and the lines of values.
use Rattle.std.proofs.Common.{◌≡◌, ℕ, zero, suc, ◌+◌, ◌*◌, ◌≤◌, ◌<◌, Bool, true, false, not, nat_eq, List, [], ◌∷◌, ◌++◌, length, take, set, get_or, cond, refl, sym, ap, subst, ◌∙◌, arith, append_assoc, append-nil, Result, Ok, Err, OnOk}
use Rattle.std.specs.List.{flat_map, range_with_len}
use Rattle.std.proofs.lemmas.List.{length-append, length-map, map-append, take-append-le, length-take-le, set_at, take_more}
use Rattle.std.proofs.lemmas.Bool.{eq-eqb}
use Rattle.std.proofs.lemmas.List.Concat.{flat_map-append}
use Rattle.std.proofs.Math.Seq.{take-append-add}
use borrow.Rule.Slice.PartMut.{put_mid, post_of}
use Rattle.cycle_texts.specs.Rows.{CycleRow, IsPutAt}
use Rattle.tester_forms.specs.Dumps.{Change, change_line, changes, has_changed, value_of}
use Rattle.tester_forms.specs.Forms.{sources_of_wire, wire_sources, control_sources}
use Rattle.tester_forms.specs.Variables.{Source, OfControl}
use Rattle.common_lemmas.proofs.Ranges.{range_more}

-- ---- parts

-- nothing is put
pub put_none : (at : ℕ) (old : List ℕ) → IsPutAt at [] at old old
put_none at old = record { ends = omega arith; long = refl; stands = sym (append-nil (take at old)) }

-- a part, and then another behind it
pub put_then : (at middle end : ℕ) (first second old between new : List ℕ) → IsPutAt at first middle old between → IsPutAt middle second end between new → IsPutAt at (first ++ second) end old new
put_then at middle end first second old between new one two = record {
  ends = omega (arith, one.ends, two.ends, length-append first second);
  long = two.long ∙ one.long;
  stands = two.stands ∙ ap (λ v. v ++ second) one.stands ∙ append_assoc (take at old) first second;
}

-- the line of a value is put: eight bytes, and then the value in place of the first one
pub value_put : (at k long value : ℕ) (bytes rest old new : List ℕ) → k ≡ 8 → at + 8 ≤ length old → length bytes ≡ 8 → long ≤ 8 → take long bytes ≡ 48 ∷ rest → length new ≡ length old → new ≡ set (put_mid at k old bytes) at value →
    IsPutAt at (value ∷ rest) (at + long) old new
value_put at k zero value bytes rest old new eight' room eight short line same is = absurd (no_line bytes rest line)
  where
    no_line : (bytes rest : List ℕ) → take 0 bytes ≡ 48 ∷ rest → ⊥
    no_line bytes rest e = cc
value_put at k (suc long) value [] rest old new eight' room eight short line same is = absurd (omega (arith, eight))
value_put at k (suc long) value (b ∷ bytes) rest old new eight' room eight short line same is =
    let tail : take long bytes ≡ rest = cc in
    let front : length (take at old) ≡ at = length-take-le at old (omega arith) in
    let written : new ≡ take at old ++ value ∷ (bytes ++ post_of at k old) = is ∙ set_at (take at old) b (bytes ++ post_of at k old) value at front in
    let seven : length bytes ≡ 7 = omega (arith, eight) in
    let cut : take long (bytes ++ post_of at k old) ≡ rest = take-append-le long bytes (post_of at k old) (omega (arith, seven)) ∙ tail in
    record {
      ends =
          let size : length (take long bytes) ≡ long = length-take-le long bytes (omega (arith, seven)) in
          omega (arith, size, ap length tail);
      long = same;
      stands =
          ap (take (at + suc long)) written
          ∙ ap (λ n. take (n + suc long) (take at old ++ value ∷ (bytes ++ post_of at k old))) (sym front)
          ∙ take-append-add (take at old) (value ∷ (bytes ++ post_of at k old)) (suc long)
          ∙ ap (λ v. take at old ++ value ∷ v) cut;
    }

-- ---- lines of values

-- the line of a variable that passes
abbrev pub line_if : (p : Source → Bool) → CycleRow → ℕ → Source → List ℕ
line_if p row n s = cond (p s) (change_line (record { number = n; value = value_of row s })) []

-- those of variables
abbrev pub lines_of : (p : Source → Bool) → CycleRow → ℕ → List Source → List ℕ
lines_of p row n sources = flat_map change_line (changes p row n sources)

lines_first : (p : Bool) (x : Change) → flat_map change_line (cond p (x ∷ []) []) ≡ cond p (change_line x) []
lines_first true x = append-nil (change_line x)
lines_first false x = refl

pub lines-cons : (p : Source → Bool) (row : CycleRow) (n : ℕ) (s : Source) (ss : List Source) → lines_of p row n (s ∷ ss) ≡ line_if p row n s ++ lines_of p row (n + 1) ss
lines-cons p row n s ss =
    let x : Change = record { number = n; value = value_of row s } in
    flat_map-append change_line (cond (p s) (x ∷ []) []) (changes p row (n + 1) ss) ∙ ap (λ t. t ++ lines_of p row (n + 1) ss) (lines_first (p s) x)

pub lines-append : (p : Source → Bool) (row : CycleRow) (n : ℕ) (xs ys : List Source) → lines_of p row n (xs ++ ys) ≡ lines_of p row n xs ++ lines_of p row (n + length xs) ys
lines-append p row n [] ys =
    let e : n + 0 ≡ n = omega arith in
    ap (λ k. lines_of p row k ys) (sym e)
lines-append p row n (x ∷ xs) ys =
    let e : n + 1 + length xs ≡ n + suc (length xs) = omega arith in
    lines-cons p row n x (xs ++ ys)
    ∙ ap (λ t. line_if p row n x ++ t) (lines-append p row (n + 1) xs ys)
    ∙ sym (append_assoc (line_if p row n x) (lines_of p row (n + 1) xs) (lines_of p row (n + 1 + length xs) ys))
    ∙ ap (λ t. t ++ lines_of p row (n + 1 + length xs) ys) (sym (lines-cons p row n x xs))
    ∙ ap (λ k. lines_of p row n (x ∷ xs) ++ lines_of p row k ys) e

pub lines-one : (p : Source → Bool) (row : CycleRow) (n : ℕ) (s : Source) → lines_of p row n (s ∷ []) ≡ line_if p row n s
lines-one p row n s = lines-cons p row n s [] ∙ append-nil (line_if p row n s)

-- ---- of wires

wires-more : (w : ℕ) → wire_sources (w + 1) ≡ wire_sources w ++ sources_of_wire w
wires-more w =
    let e : 0 + w ≡ w = omega arith in
    ap (flat_map sources_of_wire) (range_more 0 w ∙ ap (λ k. range_with_len 0 w ++ k ∷ []) e) ∙ flat_map-append sources_of_wire (range_with_len 0 w) (w ∷ [])

wires-length-from : (a n : ℕ) → length (flat_map sources_of_wire (range_with_len a n)) ≡ 2 * n
wires-length-from a zero = refl
wires-length-from a (suc n) =
    let rest : length (flat_map sources_of_wire (range_with_len (a + 1) n)) ≡ 2 * n = wires-length-from (a + 1) n in
    omega (arith, rest)

pub wire_sources-length : (n : ℕ) → length (wire_sources n) ≡ 2 * n
wire_sources-length n = wires-length-from 0 n

-- ---- loops over them

-- those of one wire more
pub wire_put : (p : Source → Bool) (row : CycleRow) (w at middle end : ℕ) (old between new : List ℕ) → IsPutAt at (lines_of p row 0 (wire_sources w)) middle old between → IsPutAt middle (lines_of p row (2 * w) (sources_of_wire w)) end between new →
    IsPutAt at (lines_of p row 0 (wire_sources (w + 1))) end old new
wire_put p row w at middle end old between new one two =
    let number : 0 + length (wire_sources w) ≡ 2 * w = omega (arith, wire_sources-length w) in
    let e : lines_of p row 0 (wire_sources (w + 1)) ≡ lines_of p row 0 (wire_sources w) ++ lines_of p row (2 * w) (sources_of_wire w) =
    ap (lines_of p row 0) (wires-more w) ∙ lines-append p row 0 (wire_sources w) (sources_of_wire w) ∙ ap (λ k. lines_of p row 0 (wire_sources w) ++ lines_of p row k (sources_of_wire w)) number in
    subst (λ part. IsPutAt at part end old new) (sym e) (put_then at middle end (lines_of p row 0 (wire_sources w)) (lines_of p row (2 * w) (sources_of_wire w)) old between new one two)

-- that of one control more
pub control_put : (p : Source → Bool) (row : CycleRow) (first i at middle end : ℕ) (places old between new : List ℕ) → i < length places → IsPutAt at (lines_of p row first (control_sources (take i places))) middle old between →
    IsPutAt middle (line_if p row (first + i) (OfControl (get_or places i 0))) end between new → IsPutAt at (lines_of p row first (control_sources (take (i + 1) places))) end old new
control_put p row first i at middle end places old between new more one two =
    let s = OfControl (get_or places i 0) in
    let number : first + length (control_sources (take i places)) ≡ first + i = omega (arith, length-map (take i places) OfControl, length-take-le i places (omega (arith, more))) in
    let e : lines_of p row first (control_sources (take (i + 1) places)) ≡ lines_of p row first (control_sources (take i places)) ++ line_if p row (first + i) s =
    ap (λ v. lines_of p row first (control_sources v)) (take_more places i 0 more)
    ∙ ap (lines_of p row first) (map-append OfControl (take i places) (get_or places i 0 ∷ []))
    ∙ lines-append p row first (control_sources (take i places)) (s ∷ [])
    ∙ ap (λ k. lines_of p row first (control_sources (take i places)) ++ lines_of p row k (s ∷ [])) number
    ∙ ap (λ v. lines_of p row first (control_sources (take i places)) ++ v) (lines-one p row (first + i) s) in
    subst (λ part. IsPutAt at part end old new) (sym e) (put_then at middle end (lines_of p row first (control_sources (take i places))) (line_if p row (first + i) s) old between new one two)

-- no line is written for controls that are as before
pub no_control_lines : (before row : CycleRow) (n : ℕ) (places : List ℕ) → before.controls ≡ row.controls → lines_of (has_changed before row) row n (control_sources places) ≡ []
no_control_lines before row n [] same = refl
no_control_lines before row n (p ∷ ps) same =
    let kept : has_changed before row (OfControl p) ≡ false = ap (λ (bits : List ℕ). not (nat_eq (get_or bits p 0) (get_or row.controls p 0))) same ∙ ap not (eq-eqb (get_or row.controls p 0) (get_or row.controls p 0) refl) in
    lines-cons (has_changed before row) row n (OfControl p) (control_sources ps)
    ∙ ap (λ b. cond b (change_line (record { number = n; value = value_of row (OfControl p) })) [] ++ lines_of (has_changed before row) row (n + 1) (control_sources ps)) kept
    ∙ no_control_lines before row (n + 1) ps same

pub controls_kept : (before row : CycleRow) (n at : ℕ) (places text : List ℕ) → before.controls ≡ row.controls → IsPutAt at (lines_of (has_changed before row) row n (control_sources places)) at text text
controls_kept before row n at places text same = subst (λ part. IsPutAt at part at text text) (sym (no_control_lines before row n places same)) (put_none at text)
