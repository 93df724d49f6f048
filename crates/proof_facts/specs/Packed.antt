-- Packed times: what a live test takes at least where no wrapper chain can have a part of a scan chain.
use Rattle.std.specs.Prelude.{ℕ, ◌+◌, ◌-◌, ◌*◌, ◌&&◌, List, [], ◌∷◌, not, max, min, map, length, take, drop, nat_lt, nat_le, slice_index, if◌then◌else◌}
use Rattle.std.specs.List.{sum, range_with_len}
use Rattle.soc_model.specs.declared.Test.{Test}
use Rattle.soc_model.specs.Chips.{ModuleValue, SocValue}
use Rattle.plan_model.specs.Cells.{scan_lengths}
use Rattle.plan_model.specs.Operations.{ops_of}
use Rattle.plan_model.specs.Plans.{greatest}
use Rattle.plan_model.specs.Bounds.{quotient_up, least_from_one, sum_where, is_of}

-- a rising list with one number more
abbrev pub insert : ℕ → List ℕ → List ℕ
insert x [] = x ∷ []
insert x (y ∷ ys) = if nat_le x y then x ∷ y ∷ ys else y ∷ insert x ys

-- the numbers in order, the least first
abbrev pub rising : List ℕ → List ℕ
rising [] = []
rising (x ∷ xs) = insert x (rising xs)

-- Of the k * w + 1 longest lengths the k + 1 shortest, together. From the longest on these stand at the places k * w - k to k * w.
abbrev pub crowd : List ℕ → (w k : ℕ) → ℕ
crowd lengths w k = sum (take (k + 1) (drop (length lengths - (k * w + 1)) (rising lengths)))

-- that sum, or 0 where there are no more than k * w lengths
abbrev pub crowd_within : List ℕ → (w k : ℕ) → ℕ
crowd_within lengths w k = if nat_lt (k * w) (length lengths) then crowd lengths w k else 0

-- Counting: of w chains that hold scan chains of these lengths one has k + 1 of the k * w + 1 longest.
unfoldable pub counting : List ℕ → ℕ → ℕ
counting lengths w = greatest (map (crowd_within lengths w) (range_with_len 0 (length lengths)))

-- how many scan chains there are beside k on each of w chains
abbrev pub excess : List ℕ → (w k : ℕ) → ℕ
excess lengths w k = length lengths - k * w

-- Where q chains have more than k scan chains each and the others at most k, these q hold k * q and the excess, at least. So the longest
-- of them is at least as long as the even share of so many of the shortest scan chains.
abbrev pub share : List ℕ → (w k q : ℕ) → ℕ
share lengths w k q = quotient_up (sum (take (k * q + excess lengths w k) (rising lengths))) q

-- The least over how many these may be: at least one, and at most all. More of them than the excess needn't be tried: as many of them
-- as the excess is hold no less in the mean, since they have k + 1 each.
abbrev pub least_share : List ℕ → (w k : ℕ) → ℕ
least_share lengths w k = least_from_one (share lengths w k) (min w (excess lengths w k))

-- that least share, or 0 where there are no more than k * w lengths
abbrev pub share_within : List ℕ → (w k : ℕ) → ℕ
share_within lengths w k = if nat_lt (k * w) (length lengths) then least_share lengths w k else 0

-- Averaging: for each k the longest of w chains is at least as long as those with more than k scan chains are in the mean.
unfoldable pub averaging : List ℕ → ℕ → ℕ
averaging lengths w = greatest (map (share_within lengths w) (range_with_len 0 (length lengths)))

abbrev pub shortest : List ℕ → ℕ
shortest lengths = slice_index (rising lengths) 0

abbrev pub longest : List ℕ → ℕ
longest lengths = slice_index (rising lengths) (length lengths - 1)

abbrev pub without_longest : List ℕ → List ℕ
without_longest lengths = take (length lengths - 1) (rising lengths)

-- Beside: the chain of the longest scan chain has another one, or all others are on one chain less. 0 where there is no other one, or
-- no other chain.
unfoldable pub beside : List ℕ → ℕ → ℕ
beside lengths w =
    if nat_le 2 (length lengths) && nat_le 2 w
    then min (longest lengths + shortest lengths) (max (longest lengths) (counting (without_longest lengths) (w - 1)))
    else 0

-- of w chains that hold scan chains of these lengths one is at least this long
unfoldable pub packed : List ℕ → ℕ → ℕ
packed lengths w = max (counting lengths w) (max (averaging lengths w) (beside lengths w))

-- no proper wrapper of at most `w` chains has a smaller in-length or out-length
abbrev pub packed_length : ModuleValue → Test → (ends w : ℕ) → ℕ
packed_length m t ends w =
    let lengths = scan_lengths m t.scan in
    max (packed lengths w) (quotient_up (ends + sum lengths) w)

-- the cycles that a test takes at least in a wrapper of at most `w` chains; a self test takes its patterns
unfoldable pub packed_time : ModuleValue → Test → ℕ → ℕ
packed_time m t w =
    if t.tam then length (ops_of m.setup (packed_length m t (m.inputs + m.bidirs) w)
    (packed_length m t (m.outputs + m.bidirs) w) t.patterns) else t.patterns

-- ---- of all live tests of the module at a place, together

-- the packed times of those over the wires
abbrev pub packed_tam_time : SocValue → (place w : ℕ) → ℕ
packed_tam_time soc place w = sum_where (λ l. l.test.tam && is_of place l) (λ l. packed_time l.core l.test w) soc

-- the patterns of the self tests
abbrev pub self_test_time : SocValue → (place : ℕ) → ℕ
self_test_time soc place = sum_where (λ l. not l.test.tam && is_of place l) (λ l. l.test.patterns) soc
