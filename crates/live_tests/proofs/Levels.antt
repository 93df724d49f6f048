-- The look for a module's parent, through the parents of the modules before it.
use Rattle.std.proofs.Common.{◌≡◌, ℕ, suc, ◌≤◌, ◌<◌, cond, Option, Some, None, List, length, refl, sym, subst, ◌∙◌, arith, inl, inr}
use Rattle.std.specs.Prelude.{slice_get, nat_lt}
use Rattle.std.proofs.lemmas.Bool.{cases_lt, cases_eq, lt-ltb, le-ltb}
use Rattle.soc_model.specs.Chips.{ModuleValue, SocValue, IsParent, level_at, parent_place}
use Rattle.soc_model.proofs.Parents.{IsParent-from_place, levels-from_none}
use Rattle.live_tests.specs.Parents.{HasParentAt}

-- all modules behind the one at hand and before a place are of no smaller level than the one there; at the number of modules none is at hand
pub record IsLook (modules : List ModuleValue) (place at : ℕ) : Type 0 where
  pub within : at ≤ length modules
  pub earlier : at < length modules → at < place
  pub higher : (k : ℕ) → k < place → (at < length modules → at < k) → level_at modules place ≤ level_at modules k

-- where a module has no parent, none before it is of a smaller level
no_parent : (soc : SocValue) (parents : List ℕ) (p : ℕ) (h : HasParentAt soc parents p) → p < length soc.modules → length soc.modules ≤ h.q → (k : ℕ) → k < p → level_at soc.modules p ≤ level_at soc.modules k
no_parent soc parents p h there past k less = go (parent_place soc.modules p) refl
  where
    go : (o : Option ℕ) → parent_place soc.modules p ≡ o → level_at soc.modules p ≤ level_at soc.modules k
    go None e = levels-from_none soc.modules p e k less
    go (Some r) e =
        let is : IsParent soc.modules r p = IsParent-from_place soc.modules r p e in
        absurd (omega (arith, h.only r is, is.earlier, there, past))

-- the module at hand is of no smaller level: on to its parent
pub look_on : (soc : SocValue) (parents : List ℕ) (place at next : ℕ) → IsLook soc.modules place at → place < length soc.modules → at < length soc.modules → ((p : ℕ) → p < place → HasParentAt soc parents p) → level_at soc.modules place ≤ level_at soc.modules at → slice_get parents at ≡ Some next → IsLook soc.modules place next
look_on soc parents place at next look there here earlier high read =
    let before : at < place = look.earlier here in
    let h : HasParentAt soc parents at = earlier at before in
    let same : h.q ≡ next = one (sym h.at ∙ read) in
    subst (IsLook soc.modules place) same (record {
      within = h.within;
      earlier = λ less. (let is = h.is less in omega (arith, is.earlier, before));
      higher = λ k less after. elim (cases_lt at k) [
        | inl past ↦ look.higher k less (λ l. past)
        | inr upto ↦ elim (cases_eq k at) [
          | inl equal ↦ subst (λ i. level_at soc.modules place ≤ level_at soc.modules i) (sym equal) high
          | inr other ↦
              let lower : level_at soc.modules at ≤ level_at soc.modules k = behind h k (omega (arith, upto, other)) after in
              omega (arith, high, lower)
        ]
      ];
    })
  where
    one : {X : Type 0} {x y : X} → Some x ≡ Some y → x ≡ y
    one e = cc

    behind : (h : HasParentAt soc parents at) (k : ℕ) → k < at → (h.q < length soc.modules → h.q < k) → level_at soc.modules at ≤ level_at soc.modules k
    behind h k less after = elim (cases_lt h.q (length soc.modules)) [
      | inl some ↦ (h.is some).nearest k (after some) less
      | inr none ↦ no_parent soc parents at h here none k less
    ]

-- each step goes back
abbrev pub left_at : (count at : ℕ) → ℕ
left_at count at = cond (nat_lt at count) (suc at) 0

pub look_shrinks : (soc : SocValue) (parents : List ℕ) (place at next : ℕ) → IsLook soc.modules place at → at < length soc.modules → ((p : ℕ) → p < place → HasParentAt soc parents p) → slice_get parents at ≡ Some next → left_at (length soc.modules) next < left_at (length soc.modules) at
look_shrinks soc parents place at next look here earlier read =
    let h : HasParentAt soc parents at = earlier at (look.earlier here) in
    let same : h.q ≡ next = one (sym h.at ∙ read) in
    rw (lt-ltb at (length soc.modules) here) (elim (cases_lt next (length soc.modules)) [
      | inl some ↦
          let is : IsParent soc.modules h.q at = h.is (omega (arith, same, some)) in
          rw (lt-ltb next (length soc.modules) some) (omega (arith, is.earlier, same))
      | inr none ↦ rw (le-ltb next (length soc.modules) none) (omega arith)
    ])
  where
    one : {X : Type 0} {x y : X} → Some x ≡ Some y → x ≡ y
    one e = cc
