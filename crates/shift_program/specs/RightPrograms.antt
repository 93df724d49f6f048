-- When a program is right for a test: said of its run, bit by bit, for every content and every list of driven bits.
use Rattle.std.specs.Prelude.{◌≡◌, ℕ, zero, suc, ◌-◌, ◌<◌, ◌≤◌, Bool, true, false, Some, List, map, reverse, take, drop, slice_get}
use Rattle.std.specs.List.{count_by}
use Rattle.plan_model.specs.Cells.{Cell, is_loaded, out_length}
use Rattle.plan_model.specs.Operations.{Operation, Setup, Shift, Capture, SelfTest}
use Rattle.plan_model.specs.Runs.{next_bits, last_bit}
use Rattle.shift_program.specs.Programs.{WrappedTest}

-- What one test loads and answers: a bit for each cell as it starts, and for each pattern and cell.
pub record TestContent : Type 0 where
  pub initial : Cell → Bool
  pub stimulus : ℕ → Cell → Bool
  pub response : ℕ → Cell → Bool

-- The bits of a chain as operation `n` begins. The bit `drive n` is driven into it at operation `n`; only a Shift takes it.
unfoldable pub bits_before : TestContent → List Cell → List Operation → (drive : ℕ → Bool) → ℕ → List Bool
bits_before content cells ops drive zero = map content.initial cells
bits_before content cells ops drive (suc n) =
    next_bits content.response cells (slice_get ops n) (drive n) (bits_before content cells ops drive n)

-- the bits that are driven: into which chain, at which operation
abbrev pub Drive : Type 0
Drive = ℕ → ℕ → Bool

-- each Capture finds its stimulus in the cells that are loaded
abbrev pub Loads : List (List Cell) → List Operation → TestContent → Drive → Type 0
Loads chains ops content drive =
    (n k j r : ℕ) (cells : List Cell) (x : Cell) → slice_get ops n ≡ Some (Capture k) → slice_get chains j ≡ Some cells →
    slice_get cells r ≡ Some x → is_loaded x ≡ true →
    slice_get (bits_before content cells ops (drive j) n) r ≡ Some (content.stimulus k x)

abbrev pub is_shift : Operation → Bool
is_shift Setup = false
is_shift Shift = true
is_shift (Capture k) = false
is_shift SelfTest = false

abbrev pub is_capture : Operation → Bool
is_capture Setup = false
is_capture Shift = false
is_capture (Capture k) = true
is_capture SelfTest = false

-- the operations behind place `n` and before place `m`
abbrev pub between : List Operation → (n m : ℕ) → List Operation
between ops n m = take (m - suc n) (drop (suc n) ops)

-- Operation `m` is the `i`-th Shift behind operation `n`, counted from 0, with no Capture between them.
pub record IsShiftBehind (ops : List Operation) (n i m : ℕ) : Type 0 where
  pub behind : n < m
  pub shifts : slice_get ops m ≡ Some Shift
  pub number : count_by is_shift (between ops n m) ≡ i
  pub no_capture : count_by is_capture (between ops n m) ≡ 0

-- The Shifts behind each Capture, up to the next one or to the end, show its response, the last cell of each chain first.
abbrev pub Reads : List (List Cell) → List Operation → TestContent → Drive → Type 0
Reads chains ops content drive =
    (n k j i : ℕ) (cells : List Cell) (x : Cell) → slice_get ops n ≡ Some (Capture k) → slice_get chains j ≡ Some cells →
    i < out_length cells → slice_get (reverse cells) i ≡ Some x →
    (m : ℕ) × IsShiftBehind ops n i m × (last_bit (bits_before content cells ops (drive j) m) ≡ content.response k x)

-- Capture `k` stands at exactly one place.
pub record IsCapturedOnce (ops : List Operation) (k : ℕ) : Type 0 where
  pub place : ℕ
  pub captures : slice_get ops place ≡ Some (Capture k)
  pub once : (n : ℕ) → slice_get ops n ≡ Some (Capture k) → n ≡ place

-- The operations are right for a test: at first the module's setup passes, each pattern is captured once and nothing else
-- is; for every content some bits can be driven that load each stimulus; and every response is read, whatever is driven.
pub record AreRight (t : WrappedTest) (ops : List Operation) : Type 0 where
  pub rests : (n : ℕ) → n < t.setup → slice_get ops n ≡ Some Setup
  pub captures : (k : ℕ) → 1 ≤ k → k ≤ t.patterns → IsCapturedOnce ops k
  pub no_other : (n k : ℕ) → slice_get ops n ≡ Some (Capture k) → (1 ≤ k) × (k ≤ t.patterns)
  pub loads : (content : TestContent) → (drive : Drive) × Loads t.chains ops content drive
  pub reads : (content : TestContent) (drive : Drive) → Reads t.chains ops content drive
