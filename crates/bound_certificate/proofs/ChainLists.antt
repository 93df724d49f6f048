-- Lists that keep the rule of precedence chains, from their ends.
use Rattle.std.proofs.Common.{◌≡◌, ◌⊎◌, inl, inr, ℕ, zero, suc, ◌+◌, ◌-◌, Some, List, [], ◌∷◌, ◌++◌, length, get_or, take, refl, sym, ap, ◌∙◌, subst, arith, length-append, slice_get, Contains}
use Rattle.std.proofs.lemmas.List.{take_more, take_all, take-append-le}
use Rattle.std.proofs.Math.Seq.{take-append_seam}
use Rattle.std.proofs.lemmas.Option.{slice_get-get_or, slice_get_within, get_or_from_slice_get}
use Rattle.soc_model.specs.declared.TestId.{TestId}
use Rattle.soc_model.specs.Chips.{SocValue}
use Rattle.plan_model.specs.Plans.{LimitsValue}
use Rattle.plan_model.specs.Rules.{Each, live_ids}
use Rattle.plan_model.specs.Certificates.{Follows, IsChainItem}
use Rattle.plan_model.proofs.Lists.{from_append}
use Rattle.bound_certificate.specs.Best.{EndsIn}
use Rattle.common_lemmas.proofs.Lists.{at_last, at_left}

-- ---- the last item

pub last_pushed : {X : Type 0} (xs : List X) (x : X) → slice_get (xs ++ x ∷ []) (length (xs ++ x ∷ []) - 1) ≡ Some x
last_pushed xs x =
    let long : length (xs ++ x ∷ []) - 1 ≡ length xs = omega (arith, length-append xs (x ∷ [])) in
    rw long (at_last xs x)

-- what stands before the last item
pub front_of : {X : Type 0} (xs : List X) (x : X) → slice_get xs (length xs - 1) ≡ Some x → (front : List X) × (xs ≡ front ++ x ∷ [])
front_of xs x at =
    let within = slice_get_within xs (length xs - 1) x at in
    let whole : take (length xs - 1 + 1) xs ≡ xs = take_all (length xs - 1 + 1) xs (omega arith) in
    (take (length xs - 1) xs, sym whole ∙ take_more xs (length xs - 1) x within ∙ ap (λ y. take (length xs - 1) xs ++ y ∷ []) (get_or_from_slice_get xs (length xs - 1) x x at))

one_at : {X : Type 0} (x y : X) (j : ℕ) → slice_get (x ∷ []) j ≡ Some y → (j ≡ 0) × (x ≡ y)
one_at x y zero at = (refl, cc)
one_at x y (suc j) at = cc

-- ---- a rule of each item

pub each_none : {X : Type 0} (P : List X → X → Type 0) → Each P []
each_none P n x at = absurd cc

pub each_push : {X : Type 0} (P : List X → X → Type 0) (xs : List X) (x : X) → Each P xs → P xs x → Each P (xs ++ x ∷ [])
each_push {X} P xs x each last n y at = by (from_append xs (x ∷ []) n y at)
  where
    by : (slice_get xs n ≡ Some y) ⊎ ((j : ℕ) × (n ≡ length xs + j) × (slice_get (x ∷ []) j ≡ Some y)) → P (take n (xs ++ x ∷ [])) y
    by (inl a) =
        let within = slice_get_within xs n y a in
        subst (λ (l : List X). P l y) (sym (take-append-le n xs (x ∷ []) (omega (arith, within)))) (each n y a)
    by (inr a) =
        let one = one_at x y a.0 a.2 in
        let here : n ≡ length xs = omega (arith, a.1, one.0) in
        subst (λ (l : List X). P l y) (sym (ap (λ k. take k (xs ++ x ∷ [])) here ∙ take-append_seam xs (x ∷ []))) (subst (P xs) one.1 last)

pub each_front : {X : Type 0} (P : List X → X → Type 0) (xs : List X) (x : X) → Each P (xs ++ x ∷ []) → Each P xs × P xs x
each_front {X} P xs x each = (
  (λ n y at. (let within = slice_get_within xs n y at in subst (λ (l : List X). P l y) (take-append-le n xs (x ∷ []) (omega (arith, within))) (each n y (at_left xs (x ∷ []) n y at)))),
  subst (λ (l : List X). P l x) (take-append_seam xs (x ∷ [])) (each (length xs) x (at_last xs x)),
)

-- ---- precedence chains

-- a chain goes on with a test that its last test precedes
pub chain_push : (soc : SocValue) (limits : LimitsValue) (ids : List TestId) (a id : TestId) → EndsIn soc limits a ids → Contains (live_ids soc) id → Contains limits.before (a, id) → EndsIn soc limits id (ids ++ id ∷ [])
chain_push soc limits ids a id ends live before = (each_push (IsChainItem soc limits) ids id ends.0 (live, λ last at. follows last at), last_pushed ids id)
  where
    follows : Follows limits ids id
    follows last at =
        let there = ends.1 in
        let same : a ≡ last = cc in
        rw (← same) before

-- a test alone
pub chain_one : (soc : SocValue) (limits : LimitsValue) (id : TestId) → Contains (live_ids soc) id → EndsIn soc limits id (id ∷ [])
chain_one soc limits id live = (each_push (IsChainItem soc limits) [] id (each_none (IsChainItem soc limits)) (live, λ last at. absurd cc), refl)

-- what stands before the last test of a chain: nothing, or a chain that ends in a test before it
pub record ComesFrom (soc : SocValue) (limits : LimitsValue) (id : TestId) (front : List TestId) : Type 0 where
  pub a : TestId
  pub ends : EndsIn soc limits a front
  pub live : Contains (live_ids soc) a
  pub before : Contains limits.before (a, id)

pub record IsSplit (soc : SocValue) (limits : LimitsValue) (id : TestId) (ids : List TestId) : Type 0 where
  pub front : List TestId
  pub is : ids ≡ front ++ id ∷ []
  pub live : Contains (live_ids soc) id
  pub from : (front ≡ []) ⊎ ComesFrom soc limits id front

pub split_chain : (soc : SocValue) (limits : LimitsValue) (id : TestId) (ids : List TestId) → EndsIn soc limits id ids → IsSplit soc limits id ids
split_chain soc limits id ids ends =
    let f = front_of ids id ends.1 in
    let each = subst (λ (l : List TestId). Each (IsChainItem soc limits) l) f.1 ends.0 in
    let parts = each_front (IsChainItem soc limits) f.0 id each in
    record { front = f.0; is = f.1; live = parts.1.0; from = from f.0 parts.0 parts.1.1 }
  where
    from : (front : List TestId) → Each (IsChainItem soc limits) front → Follows limits front id → (front ≡ []) ⊎ ComesFrom soc limits id front
    from [] each follows = inl refl
    from (x ∷ xs) each follows =
        let last : slice_get (x ∷ xs) (length (x ∷ xs) - 1) ≡ Some (get_or (x ∷ xs) (length (x ∷ xs) - 1) x) = slice_get-get_or (x ∷ xs) (length (x ∷ xs) - 1) x (omega arith) in
        inr (record { a = get_or (x ∷ xs) (length (x ∷ xs) - 1) x; ends = (each, last); live = (each (length (x ∷ xs) - 1) (get_or (x ∷ xs) (length (x ∷ xs) - 1) x) last).0; before = follows (get_or (x ∷ xs) (length (x ∷ xs) - 1) x) last })
