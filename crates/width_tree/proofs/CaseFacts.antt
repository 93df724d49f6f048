-- Intervals of cases, and the nodes of trees with their cases.
use Rattle.std.proofs.Common.{◌≡◌, ◌≢◌, ℕ, zero, suc, ◌+◌, ◌≤◌, ◌<◌, min, Some, List, ◌∷◌, ◌++◌, length, map, replicate, get_or, refl, sym, ap, ◌∙◌, subst, arith, inl, inr, ◌⊎◌, slice_get, slice_set}
use Rattle.std.proofs.lemmas.Bool.{cases_lt, cases_eq}
use Rattle.std.proofs.lemmas.Option.{slice_get-get_or, get_or_from_slice_get}
use Rattle.std.proofs.lemmas.List.{length-set, length-replicate, get_or-replicate, get_or-set_same, get_or-set_other, map-append}
use Rattle.soc_model.specs.Chips.{SocValue}
use Rattle.width_tree.specs.declared.intervals.Interval.{Interval}
use Rattle.width_tree.specs.Trees.{NodeValue, OfSplit, WidthTree, Leaf, Branches, nodes_of}
use Rattle.width_tree.specs.Cases.{Case, interval, interval_at, root_case, narrow_at, wide_at, narrow_case, wide_case, NodeCase, cases_of, least_over}
use Rattle.width_tree.specs.Findings.{IsInterval, AreIntervals}

-- ---- another interval for one module

module _ (c : Case) (p : ℕ) where
  pub set_same : (i : Interval) → p < length c → interval_at (slice_set c p i) p ≡ i
  set_same i within = get_or-set_same c p i (interval 0 0) within

  pub set_other : (q : ℕ) (i : Interval) → q ≢ p → interval_at (slice_set c p i) q ≡ interval_at c q
  set_other q i other = get_or-set_other c p q i (interval 0 0) other

module _ (soc : SocValue) (w : ℕ) where
  pub root_at : (p : ℕ) → p < length soc.modules → interval_at (root_case soc w) p ≡ interval 1 w
  root_at p less = get_or-replicate (length soc.modules) p (interval 1 w) (interval 0 0) less

  pub root_intervals : 1 ≤ w → AreIntervals w (length soc.modules) (root_case soc w)
  root_intervals some = record {
    long = length-replicate (length soc.modules) (interval 1 w);
    each = λ p less. rw (root_at p less) (record { some = omega arith; order = some; few = omega arith });
  }

module _ (w n : ℕ) (c : Case) where
  pub set_intervals : (p : ℕ) (i : Interval) → AreIntervals w n c → IsInterval w i → AreIntervals w n (slice_set c p i)
  set_intervals p i are is = record {
    long = length-set c p i ∙ are.long;
    each = λ q less. at q less (cases_eq q p);
  }
    where
      at : (q : ℕ) → q < n → (q ≡ p) ⊎ (q ≢ p) → IsInterval w (interval_at (slice_set c p i) q)
      at q less (inl same) =
          rw (ap (interval_at (slice_set c p i)) same ∙ set_same c p i (omega arith)) is
      at q less (inr other) = rw (set_other c p q i other) (are.each q less)

  module _ (width p : ℕ) (are : AreIntervals w n c) (within : p < n) where
    pub narrow_intervals : (interval_at c p).low ≤ width → width < (interval_at c p).high → AreIntervals w n (narrow_at c width p)
    narrow_intervals some below =
        let i = are.each p within in
        set_intervals p (interval (interval_at c p).low width) are (record { some = i.some; order = some; few = omega arith })

    pub wide_intervals : width < (interval_at c p).high → AreIntervals w n (wide_at c width p)
    wide_intervals below =
        let i = are.each p within in
        set_intervals p (interval (width + 1) (interval_at c p).high) are (record { some = omega arith; order = omega arith; few = i.few })

-- ---- the nodes of a tree with their cases

pub cases_leaf : (soc : SocValue) (c : Case) (t : WidthTree) → map (λ (n : NodeCase). n.node) (cases_of soc c t) ≡ nodes_of t
unfolding cases_of
cases_leaf soc c (Leaf leaf) = refl
cases_leaf soc c (Branches m width a b) =
    ap (λ l. OfSplit m width ∷ l)
    (map-append (λ (n : NodeCase). n.node) (cases_of soc (narrow_case soc c m width) a) (cases_of soc (wide_case soc c m width) b)
    ∙ ap (λ l. l ++ map (λ (n : NodeCase). n.node) (cases_of soc (wide_case soc c m width) b)) (cases_leaf soc (narrow_case soc c m width) a)
    ∙ ap (λ l. nodes_of a ++ l) (cases_leaf soc (wide_case soc c m width) b))

-- ---- the least of some values

module _ (f : ℕ → ℕ) where
  pub least_over-same : (g : ℕ → ℕ) (low n : ℕ) → ((v : ℕ) → low ≤ v → v ≤ low + n → f v ≡ g v) → least_over f low n ≡ least_over g low n
  least_over-same g low zero same = same low (omega arith) (omega arith)
  least_over-same g low (suc n) same =
      let ih = least_over-same g low n (λ v a b. same v a (omega arith)) in
      rw (ih, same (low + suc n) (omega arith) (omega arith)) refl

  module _ (low : ℕ) where
    pub least_over-le : (n v : ℕ) → low ≤ v → v ≤ low + n → least_over f low n ≤ f v
    least_over-le zero v a b = let same : low ≡ v = omega arith in rw same (omega arith)
    least_over-le (suc n) v a b = elim (cases_lt v (low + suc n)) [
      | inl less ↦
          let ih = least_over-le n v a (omega arith) in
          omega arith
      | inr all ↦ let same : low + suc n ≡ v = omega arith in rw same (omega arith)
    ]

    module _ (n : ℕ) where
      pub least_over-next : (m : ℕ) → m ≡ n + 1 → least_over f low m ≡ min (least_over f low n) (f (low + m))
      least_over-next m is = let same : m ≡ suc n = omega arith in rw same refl

      pub least_over-begins : n ≡ 0 → f low ≡ least_over f low n
      least_over-begins none = rw none refl

      -- one more value
      pub least_over-goes : (m v least value : ℕ) → m ≡ n + 1 → low + m ≡ v → least ≡ least_over f low n → value ≡ f v → min least value ≡ least_over f low m
      least_over-goes m v least value is at least_is value_is =
          let next = least_over-next m is in
          let last = ap f at ∙ sym value_is in
          omega arith

-- an item that stands within a list doesn't depend on what stands behind its end
pub item_is : {X : Type 0} (xs : List X) (i : ℕ) (x d : X) → i < length xs → x ≡ get_or xs i x → x ≡ get_or xs i d
item_is xs i x d within is =
    is ∙ get_or_from_slice_get xs i (get_or xs i d) x (slice_get-get_or xs i d within)

pub set_low : (c : Case) (p width : ℕ) (old : Interval) → old ≡ interval_at c p → slice_set c p (interval old.low width) ≡ narrow_at c width p
set_low c p width old is = ap (λ (i : Interval). slice_set c p (interval i.low width)) is

pub root_is : (soc : SocValue) (w n : ℕ) → n ≡ length soc.modules → replicate n (interval 1 w) ≡ root_case soc w
root_is soc w n same = ap (λ k. replicate k (interval 1 w)) same
