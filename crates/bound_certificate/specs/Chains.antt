-- The tests before a test of greatest sum, and the chain that goes back over them.
use Rattle.std.specs.Prelude.{◌≡◌, ℕ, ◌<◌, ◌≤◌, ◌⊎◌, ◌&&◌, ◌||◌, Option, Some, None, MatchOption, List, ◌∷◌, ◌++◌, length, nat_eq, nat_lt, slice_get, slice_index, if◌then◌else◌}
use Rattle.std.specs.List.{Contains}
use Rattle.soc_model.specs.declared.TestId.{TestId}
use Rattle.soc_model.specs.Chips.{SocValue}
use Rattle.plan_model.specs.Plans.{LimitsValue}
use Rattle.bound_certificate.specs.Best.{GoesBack}
use Rattle.bound_certificate.specs.Nodes.{NodeValue}

-- ---- the first of greatest sum; tests go by their places

-- the sum is less than that of the best, or equal and not earlier
abbrev pub IsNoBetter : List ℕ → (best place : ℕ) → Type 0
IsNoBetter sums best place =
    (slice_index sums place < slice_index sums best) ⊎ ((slice_index sums place ≡ slice_index sums best) × (best ≤ place))

-- of the tests with a property the first of greatest sum; there is none exactly where no test has it
abbrev pub IsBest : List ℕ → (ℕ → Type 0) → Option ℕ → Type 0
IsBest sums P best = MatchOption best ((p : ℕ) → P p → ⊥) (λ b. P b × ((p : ℕ) → P p → IsNoBetter sums b p))

-- the best after one more test
abbrev pub better_place : List ℕ → Option ℕ → ℕ → Option ℕ
better_place sums None place = Some place
better_place sums (Some best) place =
    if nat_lt (slice_index sums best) (slice_index sums place)
    || (nat_eq (slice_index sums place) (slice_index sums best) && nat_lt place best) then Some place else Some best

-- a test precedes this one
pub record HasEarlier (nodes : List NodeValue) (place : ℕ) : Type 0 where
  pub n : NodeValue
  pub at : slice_get nodes place ≡ Some n
  pub some : 1 ≤ length n.before

-- a test below a place that has one before it
pub record HasEarlierBelow (nodes : List NodeValue) (below place : ℕ) : Type 0 where
  pub less : place < below
  pub has : HasEarlier nodes place

-- ---- the way back

-- the sums fall along each way back
abbrev pub SumsFall : List NodeValue → List ℕ → Type 0
SumsFall nodes sums = (i j : ℕ) (n : NodeValue) → slice_get nodes j ≡ Some n → Contains n.before i →
    (i < length nodes) × (slice_index sums i < slice_index sums j)

-- `way` leads from the test at `last` back to the one at `test`: what goes back from there goes back from `last` behind it
abbrev pub LeadsBack : SocValue → LimitsValue → List NodeValue → (last : ℕ) → List TestId → (test : ℕ) → Type 0
LeadsBack soc limits nodes last way test =
    (end n : NodeValue) (back : List TestId) → slice_get nodes last ≡ Some end → slice_get nodes test ≡ Some n →
    GoesBack soc limits n.id back → (whole : List TestId) × (way ++ back ≡ end.id ∷ whole) × GoesBack soc limits end.id whole
