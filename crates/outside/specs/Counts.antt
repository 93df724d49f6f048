-- Counts of calls and of faults, and the calls that are to fail.
use Rattle.std.specs.Prelude.{◌≡◌, ℕ, ◌+◌, ◌-◌, ◌^◌, List, Bool, min, nat_eq}
use Rattle.std.specs.List.{list_any}
use Rattle.outside.specs.declared.shelf.Loaded.{Loaded}
use Rattle.outside.specs.declared.shelf.Loaded.TheVariants as loaded
use Rattle.outside.specs.declared.sink.Put.{Put}
use Rattle.outside.specs.declared.sink.Put.TheVariants.{Taken, Failed}

-- one more, up to the last value of a `u64`
abbrev pub next_count : ℕ → ℕ
next_count n = min (n + 1) (2 ^ 64 - 1)

-- whether the call of this number is one of those that are to fail
abbrev pub is_listed : List ℕ → ℕ → Bool
is_listed failing call = list_any (λ c. nat_eq c call) failing

-- a put that failed is one fault more, and any other none
abbrev pub IsCounted : ℕ → Put → ℕ → Type 0
IsCounted before Failed after = after ≡ next_count before
IsCounted before (Taken n) after = after ≡ before

-- and so with loads
abbrev pub IsCountedLoad : ℕ → Loaded → ℕ → Type 0
IsCountedLoad before loaded.Failed after = after ≡ next_count before
IsCountedLoad before loaded.Whole after = after ≡ before
IsCountedLoad before loaded.TooLong after = after ≡ before
IsCountedLoad before loaded.NoMemory after = after ≡ before
