-- The marks of one more test, put in from the last one on, or taken away from the first one on.
use Rattle.std.proofs.Common.{◌≡◌, ℕ, ◌+◌, ◌-◌, ◌<◌, ◌≤◌, inl, inr, Some, List, ◌∷◌, ◌++◌, length, get_or, drop, arith, sym, ap, ◌∙◌, subst, length-append, slice_get, nat_eq, if◌then◌else◌, sum_by}
use Rattle.std.specs.List.{AllWithin, Sorted.IsNonDecreasingBy, Sorted.IsPartitionPoint}
use Rattle.std.proofs.lemmas.{Bool.cases_eq, Bool.cases_lt, Option.slice_get_within, Option.get_or_from_slice_get}
use Rattle.std.proofs.lemmas.List.{drop_more, length-map, length-drop, Sums.sum_by-cons, Sums.sum_by-append}
use Rattle.busy_times.specs.{declared.power.Draw.Draw, declared.points.Point.Point}
use Rattle.busy_times.specs.Draws.{load_of, marks_from}
use Rattle.busy_times.specs.Profiles.{no_point, load_before, uses_at, all_uses, counted, ArePoints, AreMarked}
use Rattle.busy_times.proofs.Profiles.{drawn_profile, load_there, self_counts, some_used}
use Rattle.common_lemmas.proofs.Lists.{any_default}

pub length-marks : (start from : ℕ) (draws : List Draw) → from ≤ length draws → length (marks_from start (drop from draws)) ≡ length draws - from + 1
length-marks start from draws le = omega (arith, length-map (drop from draws) (λ (d : Draw). d.to), length-drop from draws)

-- a mark before those that are left
pub marks_split : (marks cycles : List ℕ) (n c : ℕ) → n < length marks → c ≡ get_or marks n 0 → c ∷ (drop (n + 1) marks ++ cycles) ≡ drop n marks ++ cycles
marks_split marks cycles n c lt is = ap (λ v. v ++ cycles) (ap (λ x. x ∷ drop (n + 1) marks) is ∙ sym (drop_more marks n 0 lt))

-- the draws begin and end at marks, also where there are more of these
pub marked_more : (draws : List Draw) (more cycles : List ℕ) → AreMarked draws cycles → AreMarked draws (more ++ cycles)
marked_more draws more cycles marked = record {
  each = (λ i d at. elim (marked.each i d at) [
    | inl empty ↦ inl empty
    | inr both ↦ inr (
      (let some = both.0 in omega (arith, some, sum_by-append (λ y. if nat_eq y d.from then 1 else 0) more cycles)),
      (let some = both.1 in omega (arith, some, sum_by-append (λ y. if nat_eq y d.to then 1 else 0) more cycles)),
    )
  ]);
}

-- where no point stands at a cycle, the load there is that of the point before
pub load_between : (held : List Draw) (cycles : List ℕ) (points : List Point) (place c : ℕ) → AreMarked held cycles → ArePoints held cycles points → place ≤ length points →
    IsPartitionPoint (λ (p : Point). p.cycle < c) (λ (p : Point). c ≤ p.cycle) points place → (place < length points → (get_or points place no_point).cycle ≡ c → ⊥) → load_before points place ≡ load_of held c
load_between held cycles points place c marked are le parts none =
    sym (load_there (load_of held) points (drawn_profile held cycles points marked are) place c le (
      (λ k d low high. (let early = parts.0 k d low high in omega (arith, early))),
      (λ k d low high. later k d low high),
    ))
  where
    first : place < length points → c < (get_or points place no_point).cycle
    first lt = elim (cases_eq (get_or points place no_point).cycle c) [
      | inl same ↦ absurd (none lt same)
      | inr apart ↦ (let at = parts.1 place no_point (omega arith) lt in omega (arith, at, apart))
    ]

    later : (k : ℕ) (d : Point) → place ≤ k → k < length points → c < (get_or points k d).cycle
    later k d low high =
        let order = are.ordered place k no_point low high in
        subst (λ (p : Point). c < p.cycle) (any_default points k no_point d high) (omega (arith, first (omega (arith, low, high)), order))

module _ (held : List Draw) (marks cycles : List ℕ) (points : List Point) (n : ℕ) where
  -- a mark stands among those of its cycle
  pub mark_there : (c : ℕ) → n < length marks → c ≡ get_or marks n 0 → ArePoints held (drop n marks ++ cycles) points → 1 ≤ sum_by (uses_at c) points
  mark_there c lt is are =
      let split = ap (counted c) (sym (marks_split marks cycles n c lt is)) in
      omega (arith, are.marks c, split, self_counts c, sum_by-cons (λ y. if nat_eq y c then 1 else 0) c (drop (n + 1) marks ++ cycles))

  -- the marks in the profile, and those that are left
  pub marks_and_left : n ≤ length marks → ArePoints held (drop n marks ++ cycles) points → all_uses points + n ≡ length marks + length cycles
  marks_and_left le are = (let all = are.count in omega (arith, le, all, length-append (drop n marks) cycles, length-drop n marks))

-- ---- the point of a mark

module _ (c place : ℕ) (points : List Point) where
  pub mark_from : IsPartitionPoint (λ (p : Point). p.cycle < c) (λ (p : Point). c ≤ p.cycle) points place → 1 ≤ sum_by (uses_at c) points →
      (at : ℕ) × (p : Point) × (place ≤ at) × (slice_get points at ≡ Some p) × (p.cycle ≡ c) × (1 ≤ p.uses)
  mark_from parts some =
      let r = some_used c points some in
      let e = get_or_from_slice_get points r.0 r.1 r.1 r.2 in (
        r.0,
        r.1,
        elim (cases_lt r.0 place) [
          | inl before ↦ absurd (let early = rw e at (parts.0 r.0 r.1 (omega arith) before) in let is = r.3 in omega arith)
          | inr behind ↦ behind
        ],
        r.2,
        r.3,
        r.4,
      )

  pub mark_behind : (q : Point) → (there : (at : ℕ) × (p : Point) × (place ≤ at) × (slice_get points at ≡ Some p) × (p.cycle ≡ c) × (1 ≤ p.uses)) → q ≡ get_or points place q →
      q.uses ≡ 0 → (at : ℕ) × (p : Point) × (place + 1 ≤ at) × (slice_get points at ≡ Some p) × (p.cycle ≡ c) × (1 ≤ p.uses)
  mark_behind q there is none = elim (cases_eq place there.0) [
    | inl same ↦ absurd (
        let uses = ap (λ (p : Point). p.uses) (is ∙ ap (λ n. get_or points n q) same ∙ get_or_from_slice_get points there.0 there.1 q there.3) in
        let some = there.5 in
        omega arith)
    | inr apart ↦ (there.0, there.1, (let le = there.2 in omega (arith, le, apart)), there.3, there.4, there.5)
  ]

  pub mark_cycle : IsNonDecreasingBy (λ (p : Point). p.cycle) points → AllWithin (λ (p : Point). c ≤ p.cycle) points place (length points) →
      ((at : ℕ) × (p : Point) × (place ≤ at) × (slice_get points at ≡ Some p) × (p.cycle ≡ c) × (1 ≤ p.uses)) →
      (place < length points) × ((get_or points place no_point).cycle ≡ c)
  mark_cycle ordered late there =
      let within : there.0 < length points = slice_get_within points there.0 there.1 there.3 in
      let le = there.2 in
      let lt : place < length points = omega (arith, le, within) in
      let from : c ≤ (get_or points place no_point).cycle = late place no_point (omega arith) lt in
      let e : get_or points there.0 no_point ≡ there.1 = get_or_from_slice_get points there.0 there.1 no_point there.3 in
      let last : (get_or points there.0 no_point).cycle ≡ c = ap (λ (p : Point). p.cycle) e ∙ there.4 in
      let order : (get_or points place no_point).cycle ≤ (get_or points there.0 no_point).cycle = elim (cases_eq place there.0) [
        | inl same ↦ subst (λ (n : ℕ). (get_or points place no_point).cycle ≤ (get_or points n no_point).cycle) same (omega arith)
        | inr apart ↦ ordered place there.0 no_point (omega (arith, le, apart)) within
      ] in
      (lt, omega (arith, from, last, order))

pub mark_used : (place : ℕ) (points : List Point) (q : Point) → place < length points → q ≡ get_or points place q → (q.uses ≡ 0 → ⊥) → 1 ≤ (get_or points place no_point).uses
mark_used place points q lt is some =
    let uses = ap (λ (p : Point). p.uses) (is ∙ any_default points place q no_point lt) in
    elim (cases_eq q.uses 0) [
      | inl none ↦ absurd (some none)
      | inr more ↦ omega (arith, uses, more)
    ]
