-- The line of the power: the greatest that the tests draw together, and its first cycle.
use Rattle.std.specs.Prelude.{ℕ, zero, suc, Option, None, Some, List, [], ◌∷◌, ◌++◌, nat_lt, codes, decimal, if◌then◌else◌}
use Rattle.report.specs.declared.peak.Peak.{Peak}

-- no power
abbrev pub no_power : Peak
no_power = record { power = 0; cycle = 0 }

-- a peak, or the power at a later cycle where that is more
abbrev pub higher : Peak → (cycle power : ℕ) → Peak
higher p cycle power = if nat_lt p.power power then record { power = power; cycle = cycle } else p

-- the greatest load of the cycles from 0 up to the one before `n`, and the first cycle that has it
unfoldable pub peak : (ℕ → ℕ) → ℕ → Peak
peak load zero = no_power
peak load (suc n) = higher (peak load n) n (load n)

-- the peak of the steps of a load, each a cycle with the load from there on, after a peak that was found before
abbrev pub peak_after : Peak → List (ℕ × ℕ) → Peak
peak_after p [] = p
peak_after p (s ∷ steps) = peak_after (higher p s.0 s.1) steps

-- the limit, or `-` where there is none
abbrev pub limit_text : Option ℕ → List ℕ
limit_text None = codes "-"
limit_text (Some most) = decimal most

abbrev pub peak_text : Peak → Option ℕ → List ℕ
peak_text p limit =
    codes "power " ++ (decimal p.power ++ (codes " at " ++ (decimal p.cycle ++ (codes " of " ++ (limit_text limit ++ codes "\n")))))
