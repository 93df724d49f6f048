-- Each pattern is loaded and read in the run of the whole chip.
use Rattle.std.proofs.Common.{◌≡◌, ℕ, ◌+◌, ◌-◌, ◌≤◌, ◌<◌, false, Some, None, List, [], length, map, ap, ◌∙◌, sym, arith, inl, inr, ◌⊎◌}
use Rattle.std.specs.Prelude.{slice_get}
use Rattle.std.proofs.lemmas.List.{length-map}
use Rattle.std.proofs.lemmas.Option.{slice_get_within, slice_get-get_or, get_or_from_slice_get}
use Rattle.std.proofs.lemmas.Bool.{cases_lt}
use Rattle.plan_model.specs.Cells.{Cell, In, in_length, out_length}
use Rattle.plan_model.specs.Operations.{Operation, Shift, Capture, ops_of}
use Rattle.plan_model.specs.Plans.{PlannedTest}
use Rattle.plan_model.specs.Runs.{Content, last_bit, chain_at, operation_at, shown, state_at}
use Rattle.plan_model.specs.OneTest.{bits_after, ReadsEnd, from_end}
use Rattle.plan_model.specs.Right.{IsAt, HoldsStimulus, Loads, IsReadAt}
use Rattle.plan_model.proofs.LawOfOneTest.{RunsRightByPlace, law_by_place, reverse_is}
use Rattle.plan_model.proofs.ChainShifts.{length-bits_after}
use Rattle.plan_model.proofs.CellOrder.{LoadsFront, ReadsBack}
use Rattle.plan_model.proofs.OperationBlocks.{IsCaptured, capture_place, capture_found, capture_at}
use Rattle.plan_model.proofs.ChainsInTheRun.{chain_test, AreApart, projection, shown_is, at_operation, idle_before}

-- a TAM test does the operations of its patterns over chains that fit them
pub record IsTamTest (t : PlannedTest) : Type 0 where
  pub setup : ℕ
  pub si : ℕ
  pub so : ℕ
  pub operations : t.operations ≡ ops_of setup si so t.patterns
  pub in_fits : (j : ℕ) → in_length (chain_at t j) ≤ si
  pub out_fits : (j : ℕ) → out_length (chain_at t j) ≤ so
  pub ends : (j : ℕ) → ReadsEnd (chain_at t j)
  pub front : (j : ℕ) → LoadsFront (chain_at t j)
  pub back : (j : ℕ) → ReadsBack (chain_at t j)

-- an operation is done at its cycle
pub at_start_plus : (t : PlannedTest) (n : ℕ) (op : Operation) → slice_get t.operations n ≡ Some op → operation_at t (t.start + n) ≡ Some op
at_start_plus t n op e =
    let number : t.start + n - t.start ≡ n = omega arith in
    at_operation t (t.start + n) (omega arith) ∙ rw number e

-- and only there
pub begun_at : (t : PlannedTest) (c : ℕ) (op : Operation) → operation_at t c ≡ Some op → (t.start ≤ c) × (slice_get t.operations (c - t.start) ≡ Some op)
begun_at t c op e = go (cases_lt c t.start) where
  go : (c < t.start) ⊎ (t.start ≤ c) → (t.start ≤ c) × (slice_get t.operations (c - t.start) ≡ Some op)
  go (inl early) = let idle : operation_at t c ≡ None = idle_before t c early in absurd cc
  go (inr begun) = (begun, sym (at_operation t c begun) ∙ e)

law_of : (content : Content) (t : PlannedTest) (is : IsTamTest t) (j : ℕ) → RunsRightByPlace (chain_test content t j)
law_of content t is j = law_by_place (chain_test content t j) is.setup is.si is.so t.patterns is.operations (length-map (chain_at t j) (content.initial t.id)) (is.in_fits j) (is.out_fits j) (is.ends j)

-- chain `j` of a test
pub chain_is : (t : PlannedTest) (j : ℕ) (cells : List Cell) → slice_get t.chains j ≡ Some cells → chain_at t j ≡ cells
chain_is t j cells there = get_or_from_slice_get t.chains j cells [] there

pub loaded_bit : (content : Content) (tests : List PlannedTest) (apart : AreApart tests) (i : ℕ) (t : PlannedTest) (at : IsAt tests i t) (is : IsTamTest t) (k n : ℕ) → slice_get t.operations n ≡ Some (Capture k) → HoldsStimulus content (state_at content tests (t.start + n)) i t k
loaded_bit content tests apart i t at is k n op j r cells x there place loaded =
    let same : chain_at t j ≡ cells = chain_is t j cells there in
    let here : slice_get (chain_at t j) r ≡ Some x = rw same place in
    let number : t.start + n - t.start ≡ n = omega arith in
    let enough : r < in_length (chain_at t j) = is.front j r x here loaded in
    let within : r < length (chain_at t j) = slice_get_within (chain_at t j) r x here in
    let long : length (bits_after (chain_test content t j) n) ≡ length (map (content.initial t.id) (chain_at t j)) = length-bits_after (chain_test content t j) n in
    let long' : length (map (content.initial t.id) (chain_at t j)) ≡ length (chain_at t j) = length-map (chain_at t j) (content.initial t.id) in
    rw (projection content tests apart (t.start + n) i j t at (slice_get_within t.chains j cells there), number)
    (slice_get-get_or (bits_after (chain_test content t j) n) r false (omega arith) ∙ ap Some ((law_of content t is j).loads n k r op enough ∙ ap (content.stimulus t.id k) (get_or_from_slice_get (chain_at t j) r x (In 0) here)))

-- a pattern is captured at one cycle
captured_at : (t : PlannedTest) (is : IsTamTest t) (k c : ℕ) → operation_at t c ≡ Some (Capture k) → c ≡ t.start + capture_place is.setup is.si is.so k
captured_at t is k c e =
    let b = begun_at t c (Capture k) e in
    let f : IsCaptured is.setup is.si is.so t.patterns (c - t.start) k = capture_found is.setup is.si is.so t.patterns (c - t.start) k (rw is.operations at b.1) in
    let begun : t.start ≤ c = b.0 in
    let place : c - t.start ≡ capture_place is.setup is.si is.so k = f.place in
    omega arith

pub one_cycle : (t : PlannedTest) (is : IsTamTest t) (k c d : ℕ) → operation_at t c ≡ Some (Capture k) → operation_at t d ≡ Some (Capture k) → c ≡ d
one_cycle t is k c d e h = captured_at t is k c e ∙ sym (captured_at t is k d h)

pub loads_all : (content : Content) (tests : List PlannedTest) (apart : AreApart tests) (i : ℕ) (t : PlannedTest) (at : IsAt tests i t) (is : IsTamTest t) (k : ℕ) → 1 ≤ k → k ≤ t.patterns → Loads content tests i t k
loads_all content tests apart i t at is k first last = record {
  cycle = t.start + capture_place is.setup is.si is.so k;
  captures = at_start_plus t (capture_place is.setup is.si is.so k) (Capture k) (rw is.operations (capture_at is.setup is.si is.so t.patterns k first last));
  once = λ c e. captured_at t is k c e;
  holds = loaded_bit content tests apart i t at is k (capture_place is.setup is.si is.so k) (rw is.operations (capture_at is.setup is.si is.so t.patterns k first last));
}

-- The wire of chain `j` shows at cycle `c` the response bit of pattern `k` for the `r`-th cell from its end.
pub record IsShownAt (t : PlannedTest) (k j r c x : ℕ) : Type 0 where
  pub chain : j < length t.chains
  pub within : r < out_length (chain_at t j)
  pub capture : ℕ
  pub captures : operation_at t capture ≡ Some (Capture k)
  pub cycle : c ≡ capture + 1 + r
  pub wire : x ≡ t.first_wire + j

-- a read by the cell is one by its place
pub shown_of : (t : PlannedTest) (k : ℕ) (x : Cell) (c w : ℕ) (read : IsReadAt t k x c w) → IsShownAt t k read.chain read.shifts c w
shown_of t k x c w read = record {
  chain = slice_get_within t.chains read.chain read.cells read.there;
  within = rw (chain_is t read.chain read.cells read.there) read.within;
  capture = read.capture;
  captures = read.captures;
  cycle = read.cycle;
  wire = read.wire;
}

pub cell_of : (t : PlannedTest) (k : ℕ) (x : Cell) (c w : ℕ) (read : IsReadAt t k x c w) → from_end (chain_at t read.chain) read.shifts ≡ x
cell_of t k x c w read = rw (chain_is t read.chain read.cells read.there) (reverse_is read.cells read.shifts x read.cell)

-- the Shift at which a bit is read, and the bit that is last in the chain then
pub shown_at : (content : Content) (t : PlannedTest) (is : IsTamTest t) (k j r c x : ℕ) (read : IsShownAt t k j r c x) →
    (t.start ≤ read.capture) × (slice_get t.operations (c - t.start) ≡ Some Shift) × (last_bit (bits_after (chain_test content t j) (c - t.start)) ≡ content.response t.id k (from_end (chain_at t j) r))
shown_at content t is k j r c x read =
    let b = begun_at t read.capture (Capture k) read.captures in
    let begun : t.start ≤ read.capture = b.0 in
    let cycle : c ≡ read.capture + 1 + r = read.cycle in
    let number : c - t.start ≡ read.capture - t.start + 1 + r = omega arith in
    let law = (law_of content t is j).reads (read.capture - t.start) k r b.1 read.within in
    (begun, rw number law.0, rw number law.1)

pub shows_all : (content : Content) (tests : List PlannedTest) (apart : AreApart tests) (i : ℕ) (t : PlannedTest) (at : IsAt tests i t) (is : IsTamTest t) (k j r c x : ℕ) → IsShownAt t k j r c x →
    shown tests (state_at content tests c) c x ≡ content.response t.id k (from_end (chain_at t j) r)
shows_all content tests apart i t at is k j r c x read =
    let s = shown_at content t is k j r c x read in
    let begun : t.start ≤ read.capture = s.0 in
    let cycle : c ≡ read.capture + 1 + r = read.cycle in
    rw (read.wire, shown_is tests apart (state_at content tests c) c i j t at read.chain (omega arith) (slice_get_within t.operations (c - t.start) Shift s.1), projection content tests apart c i j t at read.chain) s.2

pub shifts_all : (content : Content) (t : PlannedTest) (is : IsTamTest t) (k j r c x : ℕ) → IsShownAt t k j r c x → (s : ℕ) → s ≤ r → operation_at t (c - s) ≡ Some Shift
shifts_all content t is k j r c x read s h =
    let b = begun_at t read.capture (Capture k) read.captures in
    let begun : t.start ≤ read.capture = b.0 in
    let cycle : c ≡ read.capture + 1 + r = read.cycle in
    let within : r < out_length (chain_at t j) = read.within in
    let number : c - s - t.start ≡ read.capture - t.start + 1 + (r - s) = omega arith in
    at_operation t (c - s) (omega arith) ∙ rw number ((law_of content t is j).reads (read.capture - t.start) k (r - s) b.1 (omega arith)).0
