-- Paths that are found, by computing.
use Rattle.std.proofs.Common.{◌≡◌, true, false, [], ◌∷◌, refl}
use Rattle.proof_facts.specs.Exclusions.{leads}

over_one : leads ((0, 2) ∷ (2, 1) ∷ []) 3 0 1 ≡ true
unfolding leads
over_one = refl

not_back : leads ((0, 2) ∷ (2, 1) ∷ []) 3 1 0 ≡ false
unfolding leads
not_back = refl
