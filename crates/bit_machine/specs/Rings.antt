-- A chain of cells as a ring.
use Rattle.std.specs.Prelude.{◌≡◌, ℕ, ◌<◌, ◌⊎◌, Bool, List, length}

-- the head is a place of the ring
abbrev pub IsHead : ℕ → List Bool → Type 0
IsHead head bits = (head < length bits) ⊎ ((head ≡ 0) × (length bits ≡ 0))
