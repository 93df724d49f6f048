-- The law of one test.
use Rattle.std.proofs.Common.{◌≡◌, ℕ, ◌+◌, ◌≤◌, ◌<◌, false, Some, List, ◌∷◌, ◌++◌, length, replicate, drop, reverse, get_or, ap, ◌∙◌, sym, subst, arith}
use Rattle.std.specs.Prelude.{slice_get}
use Rattle.std.proofs.lemmas.List.{drop_at, drop-drop, length-replicate, get_or-reverse, length-reverse}
use Rattle.std.proofs.lemmas.Option.{slice_get_within, slice_get-get_or, get_or_from_slice_get}
use Rattle.std.proofs.lemmas.List.Sums.{count_by-le-length}
use Rattle.plan_model.specs.Cells.{Cell, In, is_loaded, in_length, out_length}
use Rattle.plan_model.specs.Operations.{Operation, Shift, Capture, ops_of}
use Rattle.plan_model.specs.Runs.{last_bit}
use Rattle.plan_model.specs.OneTest.{ChainTest, bits_after, from_end, ReadsEnd, LawOfOneTest}
use Rattle.plan_model.proofs.ChainShifts.{loads, reads, length-bits_after}
use Rattle.plan_model.proofs.OperationBlocks.{Block, capture_found}

behind : (ops : List Operation) (si so n k : ℕ) (b : Block ops si so n k) → drop n ops ≡ Capture k ∷ (replicate b.shifts_out Shift ++ b.rest)
behind ops si so n k b =
    ap (λ v. drop v ops) (sym b.at) ∙ sym (drop-drop b.shifts_in b.from ops) ∙ ap (drop b.shifts_in) b.is
    ∙ drop_at (replicate b.shifts_in Shift) (Capture k ∷ (replicate b.shifts_out Shift ++ b.rest)) b.shifts_in (length-replicate b.shifts_in Shift)

block_of : (t : ChainTest) (setup si so p n k : ℕ) → t.operations ≡ ops_of setup si so p → slice_get t.operations n ≡ Some (Capture k) → Block t.operations si so n k
block_of t setup si so p n k ops e = subst (λ v. Block v si so n k) (sym ops) ((capture_found setup si so p n k (rw ops at e)).block)

loads_of : (t : ChainTest) (si so n k r : ℕ) → in_length t.cells ≤ si → length t.initial ≡ length t.cells → Block t.operations si so n k → r < in_length t.cells → get_or (bits_after t n) r false ≡ t.stimulus k (get_or t.cells r (In 0))
loads_of t si so n k r enough long b h =
    let few : in_length t.cells ≤ length t.cells = count_by-le-length is_loaded t.cells in
    subst (λ v. get_or (bits_after t v) r false ≡ t.stimulus k (get_or t.cells r (In 0))) b.at
    (loads t k b.shifts_in b.from (replicate b.shifts_out Shift ++ b.rest) (omega arith) (omega (arith, b.enough_in)) b.is r h)

reads_of : (t : ChainTest) (si so n k r : ℕ) → out_length t.cells ≤ so → length t.initial ≡ length t.cells → ReadsEnd t.cells → Block t.operations si so n k → r < out_length t.cells →
    (slice_get t.operations (n + 1 + r) ≡ Some Shift) × (last_bit (bits_after t (n + 1 + r)) ≡ t.response k (from_end t.cells r))
reads_of t si so n k r enough long ends b h =
    reads t k b.shifts_out n b.rest long ends (omega (arith, b.enough_out)) (behind t.operations si so n k b) r (n + 1 + r) h (omega arith)

-- the law by places of the chain
pub record RunsRightByPlace (t : ChainTest) : Type 0 where
  pub loads : (n k r : ℕ) → slice_get t.operations n ≡ Some (Capture k) → r < in_length t.cells → get_or (bits_after t n) r false ≡ t.stimulus k (get_or t.cells r (In 0))
  pub reads : (n k r : ℕ) → slice_get t.operations n ≡ Some (Capture k) → r < out_length t.cells →
      (slice_get t.operations (n + 1 + r) ≡ Some Shift) × (last_bit (bits_after t (n + 1 + r)) ≡ t.response k (from_end t.cells r))

pub law_by_place : (t : ChainTest) (setup si so p : ℕ) → t.operations ≡ ops_of setup si so p → length t.initial ≡ length t.cells → in_length t.cells ≤ si → out_length t.cells ≤ so → ReadsEnd t.cells → RunsRightByPlace t
law_by_place t setup si so p ops long enough_in enough_out ends = record {
  loads = λ n k r e h. loads_of t si so n k r enough_in long (block_of t setup si so p n k ops e) h;
  reads = λ n k r e h. reads_of t si so n k r enough_out long ends (block_of t setup si so p n k ops e) h;
}

-- the cell `r` places from the end
pub reverse_is : (cells : List Cell) (r : ℕ) (x : Cell) → slice_get (reverse cells) r ≡ Some x → from_end cells r ≡ x
reverse_is cells r x at =
    let within : r < length (reverse cells) = slice_get_within (reverse cells) r x at in
    let long : length (reverse cells) ≡ length cells = length-reverse cells in
    sym (get_or-reverse cells r (In 0) (omega arith)) ∙ get_or_from_slice_get (reverse cells) r x (In 0) at

pub law_of_one_test : LawOfOneTest
law_of_one_test t setup si so p ops long enough_in enough_out ends =
    let law : RunsRightByPlace t = law_by_place t setup si so p ops long enough_in enough_out ends in
    record {
      loads = λ n k r x e h at.
          let within : r < length t.cells = slice_get_within t.cells r x at in
          let same : length (bits_after t n) ≡ length t.initial = length-bits_after t n in
          slice_get-get_or (bits_after t n) r false (omega arith) ∙ ap Some (law.loads n k r e h ∙ ap (t.stimulus k) (get_or_from_slice_get t.cells r x (In 0) at));
      reads = λ n k r x e h at. ((law.reads n k r e h).0, (law.reads n k r e h).1 ∙ ap (t.response k) (reverse_is t.cells r x at));
    }
