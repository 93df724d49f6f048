-- Lists that are written item by item.
use Rattle.std.proofs.Common.{ℕ, ◌+◌, ◌<◌, List, [], ◌∷◌, length, take, set, All}
use Rattle.std.proofs.lemmas.List.{take_more_set}
use Rattle.std.proofs.lemmas.List.Elements.{All-nil, All-cons, All-append}

-- one item more is written
pub set_more : {X : Type 0} (P : X → Type 0) (xs : List X) (i : ℕ) (x : X) → i < length xs → P x → All P (take i xs) → All P (take (i + 1) (set xs i x))
set_more P xs i x within one all = rw (take_more_set xs i x within) (All-append P (take i xs) (x ∷ []) all (All-cons P x [] one (All-nil P)))
