-- Blocks of parts one after another.
use Rattle.std.proofs.Common.{◌≡◌, ℕ, ◌+◌, ◌-◌, ◌≤◌, List, ◌++◌, Option, ap, sym, subst, ◌∙◌, arith}
use Rattle.outside.specs.Held.{Appended, AppendedFront}
use Rattle.outside.proofs.PieceLemmas.{Appended-then}
use Rattle.tester_vectors.proofs.Blocks.{front_after}
use Rattle.cycle_texts.specs.Rows.{CycleRow}
use Rattle.cycle_texts.specs.ProgramText.{PartOf, parts_of}
use Rattle.cycle_texts.proofs.BlockRows.{parts_split, parts_rest}

-- the parts of a block, as they are counted in it: the row of the cycle before its first one is in it, where there is one
same_block : (part : PartOf) (row : ℕ → CycleRow) (done earlier first rows count : ℕ) → first + earlier ≡ done → rows ≡ earlier + count → parts_of part row (first + earlier) (rows - earlier) ≡ parts_of part row done count
same_block part row done earlier first rows count e f =
    let n : rows - earlier ≡ count = omega (arith, f) in
    ap (λ a. parts_of part row a (rows - earlier)) e ∙ ap (parts_of part row done) n

-- the parts of the cycles so far, and those of the next block
pub block_behind : (part : PartOf) (row : ℕ → CycleRow) (a b c : Option (List ℕ)) (done earlier first rows count : ℕ) → first + earlier ≡ done → rows ≡ earlier + count →
    Appended a (parts_of part row 0 done) b → Appended b (parts_of part row (first + earlier) (rows - earlier)) c → Appended a (parts_of part row 0 (done + count)) c
block_behind part row a b c done earlier first rows count e f before block =
    let start : 0 + done ≡ done = omega arith in
    subst (λ (t : List ℕ). Appended a t c)
    (ap (λ (t : List ℕ). parts_of part row 0 done ++ t) (same_block part row done earlier first rows count e f ∙ ap (λ n. parts_of part row n count) (sym start)) ∙ sym (parts_split part row 0 done count))
    (Appended-then a b c (parts_of part row 0 done) (parts_of part row (first + earlier) (rows - earlier)) before block)

-- a front of the next block, where more would come
pub block_stopped : (part : PartOf) (row : ℕ → CycleRow) (a b c : Option (List ℕ)) (done earlier first rows count cycles : ℕ) → first + earlier ≡ done → rows ≡ earlier + count → done + count ≤ cycles →
    Appended a (parts_of part row 0 done) b → AppendedFront b (parts_of part row (first + earlier) (rows - earlier)) c → AppendedFront a (parts_of part row 0 cycles) c
block_stopped part row a b c done earlier first rows count cycles e f within before block =
    let start : 0 + done ≡ done = omega arith in
    front_after a b c (parts_of part row 0 done) (parts_of part row (first + earlier) (rows - earlier)) (parts_of part row (done + count) (cycles - done - count)) (parts_of part row 0 cycles)
    (parts_rest part row 0 done cycles (omega (arith, within))
    ∙ ap (λ (t : List ℕ). parts_of part row 0 done ++ t)
    (ap (λ n. parts_of part row n (cycles - done)) start ∙ parts_rest part row done count (cycles - done) (omega (arith, within))
    ∙ ap (λ (t : List ℕ). t ++ parts_of part row (done + count) (cycles - done - count)) (sym (same_block part row done earlier first rows count e f))))
    before block
