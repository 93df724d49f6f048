-- Certificates over live tests and places, as the proofs of the bounds see them.
use Rattle.std.proofs.Common.{◌≡◌, ◌≢◌, ℕ, ◌+◌, ◌<◌, List, [], ◌∷◌, Some}
use Rattle.std.specs.Prelude.{slice_get, nat_eq, ◌&&◌}
use Rattle.std.specs.List.{sum_by, list_any, Contains}
use Rattle.soc_model.specs.Chips.{SocValue, LiveTest, live_tests, id_of}
use Rattle.plan_model.specs.Plans.{LimitsValue}
use Rattle.plan_model.specs.Bounds.{lower, sum_where, need}

-- each is a live test of the chip
abbrev pub AllLive : SocValue → List LiveTest → Type 0
AllLive soc [] = Unit {0}
AllLive soc (l ∷ ls) = Contains (live_tests soc) l × AllLive soc ls

-- a list of live tests, each but the first behind its forerunner in a precedence
abbrev pub IsChain : LimitsValue → List LiveTest → Type 0
IsChain limits [] = Unit {0}
IsChain limits (l ∷ []) = Unit {0}
IsChain limits (l ∷ next ∷ ls) = Contains limits.before (id_of l, id_of next) × IsChain limits (next ∷ ls)

-- the lower times of live tests, together
abbrev pub chain_bound : ℕ → List LiveTest → ℕ
chain_bound w ls = sum_by (lower w) ls

-- the lower times of the tests over the wires of all modules at these places, together
abbrev pub forced_bound : SocValue → ℕ → List ℕ → ℕ
forced_bound soc w places = sum_where (λ l. l.test.tam && list_any (nat_eq l.place) places) (lower w) soc

-- no two of the list fit beside each other in a plan of less than `b` cycles
abbrev pub AreForced : SocValue → ℕ → ℕ → List ℕ → Type 0
AreForced soc w b places = (i j x y : ℕ) → slice_get places i ≡ Some x → slice_get places j ≡ Some y → i < j → (x ≢ y) × (w < need soc w b x + need soc w b y)
