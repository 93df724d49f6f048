-- What is reported of a search, a line at a time.
use Rattle.std.specs.Prelude.{◌≡◌, ℕ, ◌-◌, ◌⊎◌, ◌++◌, List, Option, codes, decimal, min}
use Rattle.std.specs.Int.{div_ceil}
use Rattle.outside.specs.Held.{AppendedFront}

-- how much is done and the best so far, each behind its words
abbrev pub reported_line : (first : List ℕ) (done : ℕ) (second : List ℕ) (best : ℕ) → List ℕ
reported_line first done second best = first ++ decimal done ++ second ++ decimal best ++ codes "\n"

-- a front of a line is added, or nothing where there is no room for the line
abbrev pub MayAdd : List ℕ → (old new : Option (List ℕ)) → Type 0
MayAdd line old new = (new ≡ old) ⊎ AppendedFront old line new

-- For each part of the whole something may be added, and behind the last of them, until a given number is left. `May d` says what
-- may be added where `d` is done.
pub data ReportsDownTo (May : ℕ → (old new : Option (List ℕ)) → Type 0) (whole part : ℕ) (first : Option (List ℕ)) :
    ℕ → Option (List ℕ) → Type 0 where
  begins : ReportsDownTo May whole part first whole first
  reports : (left : ℕ) (before now : Option (List ℕ)) → ReportsDownTo May whole part first left before →
      May (whole - (left - min part left)) before now → ReportsDownTo May whole part first (left - min part left) now

-- each tenth of the whole may be reported, or nothing
abbrev pub MayReport : (May : ℕ → (old new : Option (List ℕ)) → Type 0) → (whole : ℕ) → (old new : Option (List ℕ)) → Type 0
MayReport May whole old new = (new ≡ old) ⊎ ReportsDownTo May whole (div_ceil whole 10) old 0 new
