-- What shows that a program isn't right, entry by entry.
use Rattle.std.specs.Prelude.{◌≡◌, ◌⊎◌, ℕ, suc, ◌<◌, Bool, true, false, Some, List, [], ◌∷◌, take, length, slice_get}
use Rattle.std.specs.List.{flat_map, All}
use Rattle.plan_model.specs.Operations.{Operation, Setup, Shift, Capture, SelfTest}
use Rattle.plan_model.specs.Plans.{si_of, so_of}
use Rattle.shift_program.specs.declared.Entry.{Entry}
use Rattle.shift_program.specs.declared.Entry.TheVariants as entry
use Rattle.shift_program.specs.declared.ProgramFault.{ProgramFault}
use Rattle.shift_program.specs.declared.ProgramFault.TheVariants as fault
use Rattle.shift_program.specs.Programs.{operations, WrappedTest}

-- the numbers that a program has to meet: the cycles of setup, the cells of the longest path in and out, the patterns
pub record Needed : Type 0 where
  pub setup : ℕ
  pub si : ℕ
  pub so : ℕ
  pub patterns : ℕ

abbrev pub needed_for : WrappedTest → Needed
needed_for t = record { setup = t.setup; si = si_of t.chains; so = so_of t.chains; patterns = t.patterns }

-- The Shifts behind the last Capture of these operations; where there is none, all their Shifts and `n` from before.
abbrev pub shifts_since : ℕ → List Operation → ℕ
shifts_since n [] = n
shifts_since n (Shift ∷ ops) = shifts_since (suc n) ops
shifts_since n (Capture k ∷ ops) = shifts_since 0 ops
shifts_since n (Setup ∷ ops) = shifts_since n ops
shifts_since n (SelfTest ∷ ops) = shifts_since n ops

-- the Shifts before the entry at place `i`, since the last Capture before it or the beginning
abbrev pub shifts_before : List Entry → ℕ → ℕ
shifts_before entries i = shifts_since 0 (operations (take i entries))

-- the pattern that an entry captures
abbrev pub patterns_of : Entry → List ℕ
patterns_of (entry.Rest cycles) = []
patterns_of (entry.Shift cycles) = []
patterns_of (entry.Capture pattern) = pattern ∷ []

-- the patterns that entries capture, in their order
abbrev pub captured : List Entry → List ℕ
captured entries = flat_map patterns_of entries

abbrev pub is_rest : Entry → Bool
is_rest (entry.Rest cycles) = true
is_rest (entry.Shift cycles) = false
is_rest (entry.Capture pattern) = false

abbrev pub Rests : Entry → Type 0
Rests e = is_rest e ≡ true

-- The entry at place `i` is the first that isn't a Rest, and fewer operations than the setup are before it.
pub record StartsEarly (needed : Needed) (entries : List Entry) (i : ℕ) : Type 0 where
  pub entry : Entry
  pub there : slice_get entries i ≡ Some entry
  pub acts : is_rest entry ≡ false
  pub first : All Rests (take i entries)
  pub few : length (operations (take i entries)) < needed.setup

-- The entry at place `i` captures no pattern of the test, or one that an entry before it captures.
pub record CapturesWrong (needed : Needed) (entries : List Entry) (i : ℕ) : Type 0 where
  pub pattern : ℕ
  pub there : slice_get entries i ≡ Some (entry.Capture pattern)
  pub wrong : (pattern ≡ 0) ⊎ (needed.patterns < pattern) ⊎ ((q : ℕ) × (q < i) × (slice_get entries q ≡ Some (entry.Capture pattern)))

-- Before the capture at place `i` fewer Shifts than the longest path in has cells stand since the capture before it, or the beginning.
pub record LoadsFew (needed : Needed) (entries : List Entry) (i : ℕ) : Type 0 where
  pub pattern : ℕ
  pub there : slice_get entries i ≡ Some (entry.Capture pattern)
  pub few : shifts_before entries i < needed.si

-- a capture stands at place `i`, or the entries end there
abbrev pub EndsBlock : List Entry → ℕ → Type 0
EndsBlock entries i = ((pattern : ℕ) × (slice_get entries i ≡ Some (entry.Capture pattern))) ⊎ (i ≡ length entries)

-- Between a capture and the next one, or the end, at place `i`, stand fewer Shifts than the longest path out has cells.
pub record UnloadsFew (needed : Needed) (entries : List Entry) (i : ℕ) : Type 0 where
  pub ends : EndsBlock entries i
  pub capture : (q : ℕ) × (pattern : ℕ) × (q < i) × (slice_get entries q ≡ Some (entry.Capture pattern))
  pub few : shifts_before entries i < needed.so

-- At the end, at place `i`, fewer captures were made than there are patterns.
pub record MissesPatterns (needed : Needed) (entries : List Entry) (i : ℕ) : Type 0 where
  pub end : i ≡ length entries
  pub few : length (captured entries) < needed.patterns

-- the program has this fault
abbrev pub Has : Needed → List Entry → ProgramFault → Type 0
Has needed entries (fault.Setup i) = StartsEarly needed entries i
Has needed entries (fault.Pattern i) = CapturesWrong needed entries i
Has needed entries (fault.Load i) = LoadsFew needed entries i
Has needed entries (fault.Unload i) = UnloadsFew needed entries i
Has needed entries (fault.Missing i) = MissesPatterns needed entries i

abbrev pub place_of : ProgramFault → ℕ
place_of (fault.Setup i) = i
place_of (fault.Pattern i) = i
place_of (fault.Load i) = i
place_of (fault.Unload i) = i
place_of (fault.Missing i) = i

-- the order of faults at one place
abbrev pub rank : ProgramFault → ℕ
rank (fault.Setup i) = 0
rank (fault.Pattern i) = 1
rank (fault.Load i) = 2
rank (fault.Missing i) = 3
rank (fault.Unload i) = 4

-- one fault shows before another
abbrev pub Before : ProgramFault → ProgramFault → Type 0
Before f g = (place_of f < place_of g) ⊎ ((place_of f ≡ place_of g) × (rank f < rank g))

-- the fault that shows first
pub record IsFault (needed : Needed) (entries : List Entry) (f : ProgramFault) : Type 0 where
  pub has : Has needed entries f
  pub first : (g : ProgramFault) → Has needed entries g → Before g f → ⊥

abbrev pub IsFaultless : Needed → List Entry → Type 0
IsFaultless needed entries = (f : ProgramFault) → Has needed entries f → ⊥
