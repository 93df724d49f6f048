-- The cells of a wrapped module, and the chains that they stand in.
use Rattle.std.specs.Prelude.{◌≡◌, ℕ, ◌+◌, Some, slice_get, Bool, true, false, List, [], ◌∷◌, ◌++◌, map, length, slice_index}
use Rattle.std.specs.List.{flat_map, range_with_len, count_by, filter}
use Rattle.std.specs.List.Sorted.{IsPermutation}
use Rattle.soc_model.specs.Chips.{ModuleValue}
pub use Rattle.soc_model.specs.Modes.{scan_lengths}

-- a cell: of an input terminal, a place in a scan chain (0 is nearest to the scan input), of an output terminal
pub data Cell : Type 0 where
  In : (number : ℕ) → Cell
  Flop : (chain place : ℕ) → Cell
  Out : (number : ℕ) → Cell

-- a pattern's stimulus has a bit for it
abbrev pub is_loaded : Cell → Bool
is_loaded (In k) = true
is_loaded (Flop c i) = true
is_loaded (Out k) = false

-- a pattern's response has a bit for it
abbrev pub is_read : Cell → Bool
is_read (In k) = false
is_read (Flop c i) = true
is_read (Out k) = true

-- one chain of a wrapper: `ins` input cells, the scan chains `scans`, and `outs` output cells
pub record ChainValue : Type 0 where
  pub ins : ℕ
  pub scans : List ℕ
  pub outs : ℕ

-- the cells of a scan chain, from its scan input on
abbrev pub flops : (lengths : List ℕ) (chain : ℕ) → List Cell
flops lengths c = map (λ i. Flop c i) (range_with_len 0 (slice_index lengths c))

-- `count` cells of input terminals, numbered from `from` on, and the same of output terminals
abbrev pub in_cells : (from count : ℕ) → List Cell
in_cells from count = map (λ k. In k) (range_with_len from count)

abbrev pub out_cells : (from count : ℕ) → List Cell
out_cells from count = map (λ k. Out k) (range_with_len from count)

-- all cells of a mode of a module
abbrev pub cells_of : ModuleValue → Bool → List Cell
cells_of m scan =
    let lengths = scan_lengths m scan in
    in_cells 0 (m.inputs + m.bidirs) ++ flat_map (flops lengths) (range_with_len 0 (length lengths)) ++ out_cells 0 (m.outputs + m.bidirs)

-- The cells of each chain from wire in to wire out. Input cells are dealt in order from `i` on, output cells from `o` on.
abbrev pub dealt : (lengths : List ℕ) (i o : ℕ) → List ChainValue → List (List Cell)
dealt lengths i o [] = []
dealt lengths i o (c ∷ cs) =
    (in_cells i c.ins ++ flat_map (flops lengths) c.scans ++ out_cells o c.outs) ∷ dealt lengths (i + c.ins) (o + c.outs) cs

-- the cells of each chain of a wrapper of the module in a mode
abbrev pub chain_cells : ModuleValue → Bool → List ChainValue → List (List Cell)
chain_cells m scan chains = dealt (scan_lengths m scan) 0 0 chains

-- Each cell of the mode stands exactly once in the chains, and nothing else does; so does each scan chain.
pub record IsProper (m : ModuleValue) (scan : Bool) (chains : List ChainValue) : Type 0 where
  pub cells : IsPermutation (cells_of m scan) (flat_map (λ cells. cells) (chain_cells m scan chains))
  pub scans : IsPermutation (range_with_len 0 (length (scan_lengths m scan))) (flat_map (λ c. c.scans) chains)

-- The bits of a stimulus are those of the input cells and then the flops, the bits of a response those of the flops and
-- then the output cells, each by number.
abbrev pub stimulus_cells : ModuleValue → Bool → List Cell
stimulus_cells m scan = filter is_loaded (cells_of m scan)

abbrev pub response_cells : ModuleValue → Bool → List Cell
response_cells m scan = filter is_read (cells_of m scan)

-- the bit of a stimulus that is a cell's, and of a response
abbrev pub IsStimulusBit : ModuleValue → Bool → Cell → ℕ → Type 0
IsStimulusBit m scan x n = slice_get (stimulus_cells m scan) n ≡ Some x

abbrev pub IsResponseBit : ModuleValue → Bool → Cell → ℕ → Type 0
IsResponseBit m scan x n = slice_get (response_cells m scan) n ≡ Some x

-- how many cells of a chain are loaded
abbrev pub in_length : List Cell → ℕ
in_length cells = count_by is_loaded cells

-- how many cells of a chain are read
abbrev pub out_length : List Cell → ℕ
out_length cells = count_by is_read cells
