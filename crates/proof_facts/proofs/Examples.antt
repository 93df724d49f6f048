-- Packed scan chains, by computing; the values were found by hand.
use Rattle.std.proofs.Common.{◌≡◌, [], ◌∷◌, refl}
use Rattle.proof_facts.specs.Packed.{counting, averaging, beside, packed}

-- three chains on two wires: two of them share one
two_of_three : packed (4 ∷ 6 ∷ 5 ∷ []) 2 ≡ 9
unfolding packed counting averaging beside
two_of_three = refl

-- on three wires none has to share
each_alone : packed (4 ∷ 6 ∷ 5 ∷ []) 3 ≡ 6
unfolding packed counting averaging beside
each_alone = refl

-- Five on two wires: of the three longest one wire has two, at least 3 and 2. One wire or both have more than one scan chain; both hold
-- all, 12, and one alone the four shortest, 7: so one has 6 at least.
counted : counting (1 ∷ 5 ∷ 2 ∷ 3 ∷ 1 ∷ []) 2 ≡ 5
unfolding counting
counted = refl

averaged : averaging (1 ∷ 5 ∷ 2 ∷ 3 ∷ 1 ∷ []) 2 ≡ 6
unfolding averaging
averaged = refl

-- Five on three wires: two wires have two, or one has three, at least. So one has 5, the half of 2, 2, 2 and 3 rounded up; counting has
-- two of the four longest together, 2 and 2.
rounded_up : (counting (3 ∷ 2 ∷ 3 ∷ 2 ∷ 2 ∷ []) 3 ∷ averaging (3 ∷ 2 ∷ 3 ∷ 2 ∷ 2 ∷ []) 3 ∷ []) ≡ 4 ∷ 5 ∷ []
unfolding counting averaging
rounded_up = refl

-- Four on two wires: beside the longest, 4, there is another one, or the three others, 6, are on one wire.
beside_longest : (counting (2 ∷ 4 ∷ 2 ∷ 2 ∷ []) 2 ∷ averaging (2 ∷ 4 ∷ 2 ∷ 2 ∷ []) 2 ∷ beside (2 ∷ 4 ∷ 2 ∷ 2 ∷ []) 2 ∷ packed (2 ∷ 4 ∷ 2 ∷ 2 ∷ []) 2 ∷ []) ≡ 4 ∷ 5 ∷ 6 ∷ 6 ∷ []
unfolding packed counting averaging beside
beside_longest = refl

-- with one other chain alone the longest shares a wire with no other
alone : (beside (4 ∷ 2 ∷ []) 2 ∷ beside (4 ∷ 2 ∷ []) 1 ∷ beside (4 ∷ []) 2 ∷ []) ≡ 4 ∷ 0 ∷ 0 ∷ []
unfolding beside counting
alone = refl
