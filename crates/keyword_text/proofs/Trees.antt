-- Texts of a tree whose nodes stand one after the other: lists of nodes that trees of some number go on to one tree.
use Rattle.std.proofs.Common.{◌≡◌, ℕ, ◌+◌, ◌≤◌, List, [], ◌∷◌, ◌++◌, length, refl, sym, ap, ◌∙◌, arith, append_assoc, append-nil}
use Rattle.std.specs.List.{flat_map}

-- these nodes and those of any `n` trees behind them make one tree
abbrev pub Fills : {T N : Type 0} → (T → List N) → List N → ℕ → Type 0
Fills {T} nodes_of nodes n = (us : List T) → length us ≡ n → (t : T) × (nodes_of t ≡ nodes ++ flat_map nodes_of us)

pub fills_none : {T N : Type 0} (nodes_of : T → List N) → Fills nodes_of [] 1
fills_none nodes_of [] long = absurd (omega arith)
fills_none nodes_of (u ∷ []) long = (u, sym (append-nil (nodes_of u)))
fills_none nodes_of (u ∷ v ∷ us) long = absurd (omega arith)

-- a node that is a tree of its own
pub fills_leaf : {T N : Type 0} (nodes_of : T → List N) (tree : T) (nodes : List N) (leaf : N) → nodes_of tree ≡ leaf ∷ [] → (m n : ℕ) → m ≡ n + 1 → Fills nodes_of nodes m → Fills nodes_of (nodes ++ leaf ∷ []) n
fills_leaf nodes_of tree nodes leaf alone m n is fills us long =
    let r = fills (tree ∷ us) (omega arith) in
    (r.0, r.1 ∙ ap (λ l. nodes ++ (l ++ flat_map nodes_of us)) alone ∙ sym (append_assoc nodes (leaf ∷ []) (flat_map nodes_of us)))

-- a node that makes one tree of two
pub fills_split : {T N : Type 0} (nodes_of : T → List N) (join : T → T → T) (nodes : List N) (split : N) → ((a b : T) → nodes_of (join a b) ≡ split ∷ (nodes_of a ++ nodes_of b)) →
    (m n : ℕ) → m + 1 ≡ n → 1 ≤ m → Fills nodes_of nodes m → Fills nodes_of (nodes ++ split ∷ []) n
fills_split nodes_of join nodes split joins m n is some fills [] long = absurd (omega arith)
fills_split nodes_of join nodes split joins m n is some fills (a ∷ []) long = absurd (omega arith)
fills_split nodes_of join nodes split joins m n is some fills (a ∷ b ∷ us) long =
    let rest = flat_map nodes_of us in
    let r = fills (join a b ∷ us) (omega arith) in
    let inner : (nodes_of a ++ nodes_of b) ++ rest ≡ nodes_of a ++ (nodes_of b ++ rest) = append_assoc (nodes_of a) (nodes_of b) rest in
    (r.0, r.1 ∙ ap (λ l. nodes ++ (l ++ rest)) (joins a b) ∙ ap (λ l. nodes ++ split ∷ l) inner ∙ sym (append_assoc nodes (split ∷ []) (nodes_of a ++ (nodes_of b ++ rest))))

pub fills_whole : {T N : Type 0} (nodes_of : T → List N) (nodes : List N) → Fills nodes_of nodes 0 → (t : T) × (nodes_of t ≡ nodes)
fills_whole nodes_of nodes fills =
    let r = fills [] refl in
    (r.0, r.1 ∙ append-nil nodes)

pub fills_as : {T N : Type 0} (nodes_of : T → List N) (nodes : List N) (m n : ℕ) → m ≡ n → Fills nodes_of nodes m → Fills nodes_of nodes n
fills_as nodes_of nodes m n same fills us long = fills us (omega arith)
