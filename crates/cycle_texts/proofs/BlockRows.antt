-- The rows of a block, and the parts that are made from them.
use Rattle.std.proofs.Common.{◌≡◌, ℕ, zero, suc, ◌+◌, ◌-◌, ◌*◌, ◌<◌, ◌≤◌, List, [], ◌++◌, Option, Some, length, take, drop, refl, ap, sym, subst, ◌∙◌, arith, append-nil, append_assoc, length-drop}
use Rattle.std.proofs.Math.Nat.{mul-le-mul_right}
use Rattle.std.proofs.lemmas.List.{length-take-le}
use Rattle.outside.specs.Held.{Appended}
use Rattle.cycle_texts.specs.Rows.{CycleRow, HasSizes, HaveSizes}
use Rattle.cycle_texts.specs.declared.blocks.RowBlock.{RowBlock}
use Rattle.cycle_texts.specs.ProgramText.{PartOf, row_before, part_at, parts_of}
use Rattle.cycle_texts.specs.RowBlocks.{block_row, block_before, IsBlock, HasRows}
use Rattle.cycle_texts.specs.UnderWay.{IsUnderWay}

-- ---- sizes

-- so many bytes from a place on
piece_long : (xs : List ℕ) (a n : ℕ) → a + n ≤ length xs → length (take n (drop a xs)) ≡ n
piece_long xs a n h = length-take-le n (drop a xs) (omega (arith, length-drop a xs))

row_sizes : (b : RowBlock) (r : ℕ) → IsBlock b → r < b.rows → HasSizes b.wires b.width (block_row b r)
row_sizes b r block h =
    let line : suc r * (2 * b.wires + 2) ≤ b.rows * (2 * b.wires + 2) = mul-le-mul_right (2 * b.wires + 2) h in
    let more : suc r * (2 * b.wires + 2) ≡ r * (2 * b.wires + 2) + (2 * b.wires + 2) = omega arith in
    let digits : suc r * b.width ≤ b.rows * b.width = mul-le-mul_right b.width h in
    let next : suc r * b.width ≡ r * b.width + b.width = omega arith in
    record {
      driven = piece_long b.lines.now (r * (2 * b.wires + 2)) b.wires (omega (arith, line, more, block.lines));
      compared = piece_long b.lines.now (r * (2 * b.wires + 2) + (b.wires + 1)) b.wires (omega (arith, line, more, block.lines));
      controls = piece_long b.digits.now (r * b.width) b.width (omega (arith, digits, next, block.digits));
    }

before_sizes : (b : RowBlock) (r : ℕ) → IsBlock b → r < b.rows → HaveSizes b.wires b.width (block_before b r)
before_sizes b zero block h = tt
before_sizes b (suc r) block h = row_sizes b r block (omega arith)

-- a row is of as many wires and controls as are wanted
pub row_fits : (b : RowBlock) (r wires width : ℕ) (row : CycleRow) → IsBlock b → r < b.rows → b.wires ≡ wires → b.width ≡ width → row ≡ block_row b r → HasSizes wires width row
row_fits b r wires width row block h e f is =
    subst (λ (n : ℕ). HasSizes n width row) e (subst (λ (n : ℕ). HasSizes b.wires n row) f (subst (λ (v : CycleRow). HasSizes b.wires b.width v) (sym is) (row_sizes b r block h)))

pub before_fits : (b : RowBlock) (r wires width : ℕ) (before : Option CycleRow) → IsBlock b → r < b.rows → b.wires ≡ wires → b.width ≡ width → before ≡ block_before b r → HaveSizes wires width before
before_fits b r wires width before block h e f is =
    subst (λ (n : ℕ). HaveSizes n width before) e (subst (λ (n : ℕ). HaveSizes b.wires n before) f (subst (λ (v : Option CycleRow). HaveSizes b.wires b.width v) (sym is) (before_sizes b r block h)))

-- ---- the part of a row

before_is : (row : ℕ → CycleRow) (b : RowBlock) (skipped r : ℕ) → HasRows row b → skipped ≤ r → r < b.rows → (skipped ≡ 0 → b.first ≡ 0) → block_before b r ≡ row_before row (b.first + r)
before_is row b skipped zero has passed h begins =
    let none : b.first + 0 ≡ 0 = omega (arith, begins (omega arith)) in
    rw none refl
before_is row b skipped (suc r) has passed h begins =
    let next : b.first + suc r ≡ suc (b.first + r) = omega arith in
    rw next (ap Some (has r (omega arith)))

pub part_is : (part : PartOf) (row : ℕ → CycleRow) (b : RowBlock) (skipped r : ℕ) → HasRows row b → skipped ≤ r → r < b.rows → (skipped ≡ 0 → b.first ≡ 0) →
    part (b.first + r) (block_before b r) (block_row b r) ≡ part_at part row (b.first + r)
part_is part row b skipped r has passed h begins =
    ap (λ (v : Option CycleRow). part (b.first + r) v (block_row b r)) (before_is row b skipped r has passed h begins)
    ∙ ap (λ (v : CycleRow). part (b.first + r) (row_before row (b.first + r)) v) (has r h)

-- ---- parts one after another

pub parts_more : (part : PartOf) (row : ℕ → CycleRow) (from n m : ℕ) → from + n ≡ m → parts_of part row from (suc n) ≡ parts_of part row from n ++ part_at part row m
parts_more part row from zero m e = let same : from ≡ m = omega arith in rw same (append-nil (part_at part row m))
parts_more part row from (suc n) m e =
    ap (λ (t : List ℕ). part_at part row from ++ t) (parts_more part row (from + 1) n m (omega arith))
    ∙ sym (append_assoc (part_at part row from) (parts_of part row (from + 1) n) (part_at part row m))

pub parts_split : (part : PartOf) (row : ℕ → CycleRow) (from n m : ℕ) → parts_of part row from (n + m) ≡ parts_of part row from n ++ parts_of part row (from + n) m
parts_split part row from zero m =
    let e : 0 + m ≡ m = omega arith in
    let f : from + 0 ≡ from = omega arith in
    rw (e, f) refl
parts_split part row from (suc n) m =
    let e : suc n + m ≡ suc (n + m) = omega arith in
    let f : from + 1 + n ≡ from + suc n = omega arith in
    rw e
    (ap (λ (t : List ℕ). part_at part row from ++ t) (parts_split part row (from + 1) n m ∙ ap (λ k. parts_of part row (from + 1) n ++ parts_of part row k m) f)
    ∙ sym (append_assoc (part_at part row from) (parts_of part row (from + 1) n) (parts_of part row (from + suc n) m)))

-- the parts up to one, and the others
pub parts_rest : (part : PartOf) (row : ℕ → CycleRow) (from n all : ℕ) → n ≤ all → parts_of part row from all ≡ parts_of part row from n ++ parts_of part row (from + n) (all - n)
parts_rest part row from n all h =
    let e : all ≡ n + (all - n) = omega arith in
    ap (parts_of part row from) e ∙ parts_split part row from n (all - n)

-- one more, where the next part of the block stands behind the others
pub next_part : (part : PartOf) (row : ℕ → CycleRow) (b : RowBlock) (skipped r : ℕ) → HasRows row b → skipped ≤ r → r < b.rows → (skipped ≡ 0 → b.first ≡ 0) →
    parts_of part row (b.first + skipped) (r - skipped) ++ part (b.first + r) (block_before b r) (block_row b r) ≡ parts_of part row (b.first + skipped) (r + 1 - skipped)
next_part part row b skipped r has passed h begins =
    let e : r + 1 - skipped ≡ suc (r - skipped) = omega arith in
    rw e
    (ap (λ (t : List ℕ). parts_of part row (b.first + skipped) (r - skipped) ++ t) (part_is part row b skipped r has passed h begins)
    ∙ sym (parts_more part row (b.first + skipped) (r - skipped) (b.first + r) (omega arith)))

-- no part yet, at the place where a block begins
pub no_parts : (part : PartOf) (row : ℕ → CycleRow) (old : Option (List ℕ)) (from skipped : ℕ) → IsUnderWay old [] [] old → IsUnderWay old [] (parts_of part row from (skipped - skipped)) old
no_parts part row old from skipped u =
    let e : skipped - skipped ≡ 0 = omega arith in
    rw e u

-- the parts of a block up to a place, and the others
pub parts_rest_of : (part : PartOf) (row : ℕ → CycleRow) (from skipped place rows : ℕ) → skipped ≤ place → place ≤ rows →
    parts_of part row from (rows - skipped) ≡ parts_of part row from (place - skipped) ++ parts_of part row (from + (place - skipped)) (rows - place)
parts_rest_of part row from skipped place rows passed within =
    let e : rows - skipped - (place - skipped) ≡ rows - place = omega (arith, passed, within) in
    parts_rest part row from (place - skipped) (rows - skipped) (omega (arith, passed, within))
    ∙ ap (λ n. parts_of part row from (place - skipped) ++ parts_of part row (from + (place - skipped)) n) e

-- at the last place all are there
pub all_parts : (part : PartOf) (row : ℕ → CycleRow) (old new : Option (List ℕ)) (from skipped place rows : ℕ) → place ≤ rows → rows ≤ place → Appended old (parts_of part row from (place - skipped)) new → Appended old (parts_of part row from (rows - skipped)) new
all_parts part row old new from skipped place rows within ends written =
    let e : place ≡ rows = omega (arith, within, ends) in
    subst (λ (n : ℕ). Appended old (parts_of part row from (n - skipped)) new) e written
