-- In which order the entries of a walk stand, and how many there are.
use Rattle.std.specs.Prelude.{◌≡◌, ℕ, zero, suc, ◌+◌, ◌*◌, ◌⊎◌, true, List, ◌∷◌, ◌++◌}
use Rattle.resource_table.specs.Jobs.{JobValue}
use Rattle.schedule_search.specs.Walks.{stands_before}

-- the first of two entries is a beginning of the second, and shorter, or it stands before it in the comparison of orders
abbrev pub ComesBefore : JobValue → List ℕ → List ℕ → Type 0
ComesBefore job a b = ((test : ℕ) × (rest : List ℕ) × (b ≡ a ++ test ∷ rest)) ⊎ (stands_before job a b ≡ true)

-- n!
abbrev pub factorial : ℕ → ℕ
factorial zero = 1
factorial (suc n) = suc n * factorial n

-- how many lists of `count` different things there are, taken from n: n * (n - 1) * .., which is n! / (n - count)!
abbrev pub lists_of : (n count : ℕ) → ℕ
lists_of n zero = 1
lists_of zero (suc count) = 0
lists_of (suc n) (suc count) = suc n * lists_of n count

-- and of at most `count`
abbrev pub lists_upto : (n count : ℕ) → ℕ
lists_upto n zero = lists_of n zero
lists_upto n (suc count) = lists_upto n count + lists_of n (suc count)

-- the sum of n! / (n - k)! for k from 0 to n: how many prefixes the orders of n tests without precedences have
abbrev pub prefixes : ℕ → ℕ
prefixes n = lists_upto n n
