-- Chains that are taken over, and the cells of a layout, chain by chain.
use Rattle.std.proofs.Common.{◌≡◌, ℕ, zero, suc, ◌+◌, ◌≤◌, ◌<◌, List, [], ◌∷◌, ◌++◌, length, get_or, map, take, refl, ap, ◌∙◌, sym, subst, arith, inl, inr, slice_index, All, sum, sum_by}
use Rattle.std.proofs.lemmas.List.{length-append, get_or_append_left, get_or_push, take_more}
use Rattle.std.proofs.lemmas.Bool.{cases_lt}
use Rattle.std.proofs.lemmas.List.Sums.{sum_by-cons, sum_by_more, sum_by_more_le}
use Rattle.plan_model.specs.declared.ChainPlan.{ChainPlan}
use Rattle.plan_model.specs.Cells.{dealt}
use Rattle.plan_model.specs.Views.{chain_value}
use Rattle.vector_lines.specs.Layouts.{chain_of, IsListed}
use Rattle.common_lemmas.proofs.Lists.{map_append}

-- ---- item by item

-- one item more
pub mapped_more : {X Y : Type 0} (f : X → Y) (xs : List X) (k : ℕ) {x : X} {now new : List Y} {y : Y} → k < length xs → x ≡ get_or xs k x →
    now ≡ map f (take k xs) → y ≡ f x → new ≡ now ++ y ∷ [] → new ≡ map f (take (k + 1) xs)
mapped_more f xs k {x} within at before made pushed =
    pushed ∙ rw (before, made) (sym (ap (map f) (take_more xs k x within) ∙ map_append f (take k xs) (get_or xs k x ∷ []) ∙ ap (λ v. map f (take k xs) ++ f v ∷ []) (sym at)))

-- ---- where the scan chains start

-- one scan chain more
pub starts_more : (lengths starts : List ℕ) {new : List ℕ} {i start : ℕ} → i < length lengths → start ≡ sum (take i lengths) → length starts ≡ i →
    ((c : ℕ) → c < i → slice_index starts c ≡ sum (take c lengths)) → new ≡ starts ++ start ∷ [] →
    (start + get_or lengths i 0 ≡ sum (take (i + 1) lengths)) × (length new ≡ i + 1) × ((c : ℕ) → c < i + 1 → slice_index new c ≡ sum (take c lengths))
starts_more lengths starts {new} {i} {start} within here long each pushed =
    let more = sum_by_more (λ x. x) lengths i 0 within in
    let longer : length new ≡ i + 1 = ap length pushed ∙ length-append starts (start ∷ []) ∙ omega arith in
    (omega arith, longer, each_new)
  where
    each_new : (c : ℕ) → c < i + 1 → slice_index new c ≡ sum (take c lengths)
    each_new c h = elim (cases_lt c i) [
      | inl before ↦ ap (λ (l : List ℕ). get_or l c 0) pushed ∙ get_or_append_left starts (start ∷ []) 0 c (omega arith) ∙ each c before
      | inr past ↦ (let last : i ≡ c = omega arith in ap (λ (l : List ℕ). get_or l c 0) pushed ∙ get_or_push starts start 0 c (long ∙ last) ∙ here ∙ ap (λ n. sum (take n lengths)) last)
    ]

-- ---- one chain of a layout

module _ {chains read : List ChainPlan} (i : ℕ) {c : ChainPlan} (is : read ≡ chains) (within : i < length read) (at : c ≡ get_or read i c) where
  -- what it keeps, where it is read from a list
  pub chain_listed : (lengths : List ℕ) → All (IsListed lengths) chains → IsListed lengths c
  chain_listed lengths all = subst (IsListed lengths) (sym at) (subst (λ (cs : List ChainPlan). All (IsListed lengths) cs) (sym is) all i c within)

  -- what those before it and it have together is no more than what all have
  pub chain_within : (f : ChainPlan → ℕ) → sum_by f (take i chains) + f c ≤ sum_by f chains
  chain_within f =
      let here : get_or chains i c ≡ c = sym (rw is at at) in
      subst (λ (d : ChainPlan). sum_by f (take i chains) + f d ≤ sum_by f chains) here (sum_by_more_le f chains i c (rw is at within))

-- its cells, after the input and output cells of those before it
pub dealt-at : (lengths : List ℕ) (i o : ℕ) (cs : List ChainPlan) (j : ℕ) {c : ChainPlan} → j < length cs → get_or cs j c ≡ c →
    get_or (dealt lengths i o (map chain_value cs)) j [] ≡ chain_of lengths (i + sum_by (λ (c : ChainPlan). c.ins) (take j cs)) (o + sum_by (λ (c : ChainPlan). c.outs) (take j cs)) (chain_value c)
dealt-at lengths i o [] j h at = absurd (omega arith)
dealt-at lengths i o (d ∷ cs) zero h at =
    let ins : i + 0 ≡ i = omega arith in
    let outs : o + 0 ≡ o = omega arith in
    rw (at, ins, outs) refl
dealt-at lengths i o (d ∷ cs) (suc j) {c} h at =
    let ins : i + d.ins + sum_by (λ (c : ChainPlan). c.ins) (take j cs) ≡ i + sum_by (λ (c : ChainPlan). c.ins) (d ∷ take j cs) = omega (arith, sum_by-cons (λ (c : ChainPlan). c.ins) d (take j cs)) in
    let outs : o + d.outs + sum_by (λ (c : ChainPlan). c.outs) (take j cs) ≡ o + sum_by (λ (c : ChainPlan). c.outs) (d ∷ take j cs) = omega (arith, sum_by-cons (λ (c : ChainPlan). c.outs) d (take j cs)) in
    rw (← ins, ← outs) (dealt-at lengths (i + d.ins) (o + d.outs) cs j (omega arith) at)
