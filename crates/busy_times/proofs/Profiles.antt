-- Profiles of the power that is drawn.
use Rattle.std.proofs.Common.{◌≡◌, ◌⊎◌, ℕ, zero, suc, ◌+◌, ◌-◌, ◌<◌, ◌≤◌, ◌^◌, inl, inr, Some, List, [], ◌∷◌, ◌++◌, length, get_or, set, take, drop, map, arith, refl, sym, ap, ◌∙◌, subst, slice_get, nat_eq, if◌then◌else◌, All, sum_by, filter, insert}
use Rattle.std.specs.List.{Sorted.IsNonDecreasingBy, Sorted.IsPartitionPoint}
use Rattle.std.proofs.lemmas.Bool.{cases_Bool, cases_lt, cases_eq, eqb-true, eqb-false, eq-eqb}
use Rattle.std.proofs.lemmas.List.{take_more, same_lists, length-map, length-set, get_or-map, get_or-set_same, get_or-set_other, Kept.IsNonDecreasingBy-filter, Sorted.IsNonDecreasingBy-insert, Sorted.IsNonDecreasingBy-take}
use Rattle.std.proofs.lemmas.List.Elements.{All-append, All-cons, All-take, All-drop, All-map, All-filter}
use Rattle.std.proofs.lemmas.List.Sums.{sum_by-cons, sum_by_push, sum_by-insert, sum_by-set, sum_by_more_le, sum_by-take-drop, sum_by-drop_more}
use Rattle.plan_model.proofs.Sums.{sum_by-le_at, sum_by-filter}
use Rattle.busy_times.specs.{declared.power.Draw.Draw, declared.points.Point.Point}
use Rattle.busy_times.specs.Draws.{taken_by, load_of}
use Rattle.busy_times.specs.Profiles.{no_point, load_before, IsProfile, uses_at, all_uses, is_used, counted, ArePoints, AreMarked, raised_by}
use Rattle.common_lemmas.proofs.Lists.{all_at, any_default, sum_map}

-- ---- what a draw takes

module _ (d : Draw) where
  pub none_taken : (c : ℕ) → (c < d.from) ⊎ (d.to ≤ c) → taken_by c d ≡ 0
  none_taken c (inl early) = grind (arith, early)
  none_taken c (inr late) = grind (arith, late)

  pub all_taken : (c : ℕ) → d.from ≤ c → c < d.to → taken_by c d ≡ d.power
  all_taken c from to = grind (arith, from, to)

  taken_same : (a c : ℕ) → a ≤ c → (d.from ≤ a) ⊎ (c < d.from) → (d.to ≤ a) ⊎ (c < d.to) → taken_by c d ≡ taken_by a d
  taken_same a c le (inl f) (inl t) = none_taken c (inr (omega arith)) ∙ sym (none_taken a (inr t))
  taken_same a c le (inl f) (inr t) = all_taken c (omega arith) t ∙ sym (all_taken a f (omega arith))
  taken_same a c le (inr f) t = none_taken c (inl f) ∙ sym (none_taken a (inl (omega arith)))

  never_taken : (c : ℕ) → d.to ≤ d.from → taken_by c d ≡ 0
  never_taken c empty = elim (cases_lt c d.from) [
    | inl early ↦ none_taken c (inl early)
    | inr late ↦ none_taken c (inr (omega arith))
  ]

-- ---- points of draws

-- where a mark stands there is a point with one
pub some_used : (c : ℕ) (points : List Point) → 1 ≤ sum_by (uses_at c) points → (j : ℕ) × (p : Point) × (slice_get points j ≡ Some p) × (p.cycle ≡ c) × (1 ≤ p.uses)
some_used c [] some = absurd (omega (arith, some))
some_used c (p ∷ points) some = elim (cases_Bool (nat_eq p.cycle c)) [
  | inl same ↦ elim (cases_lt 0 p.uses) [
    | inl used ↦ (0, p, refl, eqb-true p.cycle c same, used)
    | inr unused ↦
        (let none : uses_at c p ≡ p.uses = rw same refl in
        let r = some_used c points (omega (arith, none, unused, some, sum_by-cons (uses_at c) p points)) in
        (suc r.0, r.1, r.2, r.3, r.4))
  ]
  | inr apart ↦
      (let none : uses_at c p ≡ 0 = rw apart refl in
      let r = some_used c points (omega (arith, none, some, sum_by-cons (uses_at c) p points)) in
      (suc r.0, r.1, r.2, r.3, r.4))
]

-- at each of the cycles there is a point
pub point_of : (draws : List Draw) (cycles : List ℕ) (points : List Point) → ArePoints draws cycles points → (c : ℕ) → 1 ≤ counted c cycles → (j : ℕ) × (p : Point) × (slice_get points j ≡ Some p) × (p.cycle ≡ c)
point_of draws cycles points are c some =
    let marks = are.marks c in
    let r = some_used c points (omega arith) in
    (r.0, r.1, r.2, r.3)

pub sum_of_none : {X : Type 0} (f : X → ℕ) (xs : List X) → ((i : ℕ) (x : X) → slice_get xs i ≡ Some x → f x ≡ 0) → sum_by f xs ≡ 0
sum_of_none f [] none = refl
sum_of_none f (x ∷ xs) none = omega (arith, sum_by-cons f x xs, none 0 x refl, sum_of_none f xs (λ i y at. none (suc i) y at))

-- the points of draws tell their load
pub drawn_profile : (draws : List Draw) (cycles : List ℕ) (points : List Point) → AreMarked draws cycles → ArePoints draws cycles points → IsProfile (load_of draws) points
drawn_profile draws cycles points marked are = record {
  ordered = are.ordered;
  here = are.loads;
  none_before = (λ c all. sum_of_none (taken_by c) draws (λ i d at. elim (marked.each i d at) [
    | inl empty ↦ never_taken d c empty
    | inr both ↦
        (let r = point_of draws cycles points are d.from both.0 in
        let late = all_at (λ (p : Point). c < p.cycle) points r.0 r.1 all r.2 in
        none_taken d c (inl (let e = r.3 in omega arith)))
  ]));
  between = (λ a c le all.
      let same : (i : ℕ) (d : Draw) → slice_get draws i ≡ Some d → taken_by c d ≡ taken_by a d = λ i d at. elim (marked.each i d at) [
        | inl empty ↦ never_taken d c empty ∙ sym (never_taken d a empty)
        | inr both ↦
            (let r = point_of draws cycles points are d.from both.0 in
            let s = point_of draws cycles points are d.to both.1 in
            taken_same d a c le
            (rw r.3 at (all_at (λ (p : Point). (p.cycle ≤ a) ⊎ (c < p.cycle)) points r.0 r.1 all r.2))
            (rw s.3 at (all_at (λ (p : Point). (p.cycle ≤ a) ⊎ (c < p.cycle)) points s.0 s.1 all s.2)))
      ] in
      let most = sum_by-le_at (taken_by c) (taken_by a) draws (λ i d at. let e = same i d at in omega arith) in
      let least = sum_by-le_at (taken_by a) (taken_by c) draws (λ i d at. let e = same i d at in omega arith) in
      omega arith);
}

-- ---- the load at a cycle

-- the load from the last of the points up to a cycle on
pub load_there : (load : ℕ → ℕ) (points : List Point) → IsProfile load points → (place c : ℕ) → place ≤ length points →
    IsPartitionPoint (λ (p : Point). p.cycle ≤ c) (λ (p : Point). c < p.cycle) points place → load c ≡ load_before points place
load_there load points is zero c le parts = is.none_before c (λ k d lt. parts.1 k d (omega arith) lt)
load_there load points is (suc n) c le parts =
    let lt : n < length points = omega (arith, le) in
    let stays = is.between (get_or points n no_point).cycle c (parts.0 n no_point (omega arith) (omega arith)) (λ k d inside. elim (cases_lt n k) [
      | inl late ↦ inr (parts.1 k d (omega arith) inside)
      | inr before ↦ inl (rw (any_default points n d no_point lt) at (is.ordered k n d before lt))
    ]) in
    stays ∙ sym (is.here n no_point lt)

-- ---- a point more, a point less

pub point_added : (draws : List Draw) (cycles : List ℕ) (points : List Point) (place load c : ℕ) → ArePoints draws cycles points → place ≤ length points →
    ((k : ℕ) (d : Point) → k < place → (get_or points k d).cycle ≤ c) → ((k : ℕ) (d : Point) → place ≤ k → k < length points → c ≤ (get_or points k d).cycle) → load ≡ load_of draws c → ArePoints draws (c ∷ cycles) (insert points place (record { cycle = c; load = load; uses = 1 }))
point_added draws cycles points place load c are le low high is = record {
  ordered = IsNonDecreasingBy-insert (λ (p : Point). p.cycle) points place new are.ordered le low high;
  loads = All-append P (take place points) (new ∷ drop place points) (All-take P place points are.loads) (All-cons P new (drop place points) is (All-drop P place points are.loads));
  marks = (λ x. let old = are.marks x in omega (arith, old, sum_by-insert (uses_at x) points place new, sum_by-cons (λ y. if nat_eq y x then 1 else 0) c cycles));
  count = (let old = are.count in omega (arith, old, sum_by-insert (λ (p : Point). p.uses) points place new));
}
  where
    P : Point → Type 0
    P p = p.load ≡ load_of draws p.cycle

    new : Point
    new = record { cycle = c; load = load; uses = 1 }

pub self_counts : (c : ℕ) → (let n : ℕ = if nat_eq c c then 1 else 0 in n) ≡ 1
self_counts c = rw (eq-eqb c c refl) refl

-- ---- a mark more, a mark less

-- a point with other marks
abbrev with_uses : Point → ℕ → Point
with_uses p n = record { cycle = p.cycle; load = p.load; uses = n }

uses_more : (p : Point) (x : ℕ) → uses_at x (with_uses p (p.uses + 1)) ≡ uses_at x p + (let n : ℕ = if nat_eq p.cycle x then 1 else 0 in n)
uses_more p x = elim (cases_Bool (nat_eq p.cycle x)) [
  | inl same ↦ rw same refl
  | inr apart ↦ rw apart refl
]

uses_less : (p : Point) (x : ℕ) → 1 ≤ p.uses → uses_at x (with_uses p (p.uses - 1)) + (let n : ℕ = if nat_eq p.cycle x then 1 else 0 in n) ≡ uses_at x p
uses_less p x some = elim (cases_Bool (nat_eq p.cycle x)) [
  | inl same ↦ rw same (omega (arith, some))
  | inr apart ↦ rw apart refl
]

module _ (draws : List Draw) (points : List Point) (place n : ℕ) (lt : place < length points) where
  abbrev here : Point
  here = get_or points place no_point

  abbrev changed : List Point
  changed = set points place (with_uses here n)

  -- what its marks don't tell stays
  stays : (f : Point → ℕ) → f (with_uses here n) ≡ f here → (k : ℕ) (d : Point) → f (get_or changed k d) ≡ f (get_or points k d)
  stays f same k d = elim (cases_eq k place) [
    | inl at ↦ rw at (ap f (get_or-set_same points place (with_uses here n) d lt) ∙ same ∙ ap f (any_default points place no_point d lt))
    | inr apart ↦ ap f (get_or-set_other points place k (with_uses here n) d apart)
  ]

  order_stays : IsNonDecreasingBy (λ (p : Point). p.cycle) points → IsNonDecreasingBy (λ (p : Point). p.cycle) changed
  order_stays ordered i j d le inside = (let old = ordered i j d le (omega (arith, inside, length-set points place (with_uses here n))) in omega (arith, old, stays (λ p. p.cycle) refl i d, stays (λ p. p.cycle) refl j d))

  loads_stay : All (λ (p : Point). p.load ≡ load_of draws p.cycle) points → All (λ (p : Point). p.load ≡ load_of draws p.cycle) changed
  loads_stay loads k d inside = stays (λ p. p.load) refl k d ∙ loads k d (omega (arith, inside, length-set points place (with_uses here n))) ∙ ap (load_of draws) (sym (stays (λ p. p.cycle) refl k d))

module _ (draws : List Draw) (cycles : List ℕ) (points : List Point) (place c : ℕ) where
  pub mark_added : ArePoints draws cycles points → place < length points → (get_or points place no_point).cycle ≡ c →
      ArePoints draws (c ∷ cycles) (set points place (record { cycle = (get_or points place no_point).cycle; load = (get_or points place no_point).load; uses = (get_or points place no_point).uses + 1 }))
  mark_added are lt is =
      let p = get_or points place no_point in
      let n = p.uses + 1 in
      record {
        ordered = order_stays draws points place n lt are.ordered;
        loads = loads_stay draws points place n lt are.loads;
        marks = (λ x.
            let old = are.marks x in
            let one = ap (λ v. let n : ℕ = if nat_eq v x then 1 else 0 in n) is in
            omega (arith, old, one, uses_more p x, sum_by-set (uses_at x) points place (with_uses p n) no_point lt, sum_by-cons (λ y. if nat_eq y x then 1 else 0) c cycles));
        count = (let old = are.count in omega (arith, old, sum_by-set (λ (p : Point). p.uses) points place (with_uses p n) no_point lt));
      }

  pub mark_removed : ArePoints draws (c ∷ cycles) points → place < length points → (get_or points place no_point).cycle ≡ c → 1 ≤ (get_or points place no_point).uses →
      ArePoints draws cycles (set points place (record { cycle = (get_or points place no_point).cycle; load = (get_or points place no_point).load; uses = (get_or points place no_point).uses - 1 }))
  mark_removed are lt is some =
      let p = get_or points place no_point in
      let n = p.uses - 1 in
      record {
        ordered = order_stays draws points place n lt are.ordered;
        loads = loads_stay draws points place n lt are.loads;
        marks = (λ x.
            let old = are.marks x in
            let one = ap (λ v. let n : ℕ = if nat_eq v x then 1 else 0 in n) is in
            omega (arith, old, one, uses_less p x some, sum_by-set (uses_at x) points place (with_uses p n) no_point lt, sum_by-cons (λ y. if nat_eq y x then 1 else 0) c cycles));
        count = (let old = are.count in omega (arith, old, some, sum_by-set (λ (p : Point). p.uses) points place (with_uses p n) no_point lt));
      }

-- ---- points without a mark

used_part : (f : Point → ℕ) (p : Point) → f p ≤ p.uses → (let n : ℕ = if is_used p then f p else 0 in n) ≡ f p
used_part f p le = elim (cases_Bool (nat_eq p.uses 0)) [
  | inl none ↦ (let zero' = eqb-true p.uses 0 none in rw none (omega (arith, zero', le)))
  | inr some ↦ rw some refl
]

used_sum : (f : Point → ℕ) (points : List Point) → ((p : Point) → f p ≤ p.uses) → sum_by (λ p. if is_used p then f p else 0) points ≡ sum_by f points
used_sum f [] le = refl
used_sum f (p ∷ points) le = omega (arith, used_part f p (le p), sum_by-cons (λ p. if is_used p then f p else 0) p points, sum_by-cons f p points, used_sum f points le)

uses_at-le : (c : ℕ) (p : Point) → uses_at c p ≤ p.uses
uses_at-le c p = elim (cases_Bool (nat_eq p.cycle c)) [
  | inl same ↦ rw same (omega arith)
  | inr apart ↦ rw apart (omega arith)
]

module _ (draws : List Draw) (cycles : List ℕ) (points : List Point) where
  pub unused_dropped : ArePoints draws cycles points → ArePoints draws cycles (filter is_used points)
  unused_dropped are = record {
    ordered = IsNonDecreasingBy-filter (λ (p : Point). p.cycle) is_used points are.ordered;
    loads = All-filter is_used (λ (p : Point). p.load ≡ load_of draws p.cycle) points are.loads;
    marks = (λ c. sum_by-filter is_used (uses_at c) points ∙ used_sum (uses_at c) points (uses_at-le c) ∙ are.marks c);
    count = sum_by-filter is_used (λ (p : Point). p.uses) points ∙ used_sum (λ (p : Point). p.uses) points (λ p. omega arith) ∙ are.count;
  }

  -- the points at the end, from a place on, have no mark
  pub last_dropped : (n : ℕ) → all_uses (drop n points) ≡ 0 → ArePoints draws cycles points → ArePoints draws cycles (take n points)
  last_dropped n unused are = record {
    ordered = IsNonDecreasingBy-take (λ (p : Point). p.cycle) n points are.ordered;
    loads = All-take (λ (p : Point). p.load ≡ load_of draws p.cycle) n points are.loads;
    marks = (λ c.
        let none = sum_by-le_at (uses_at c) (λ (p : Point). p.uses) (drop n points) (λ i p at. uses_at-le c p) in
        omega (arith, are.marks c, none, unused, sum_by-take-drop (uses_at c) points n));
    count = (let old = are.count in omega (arith, old, unused, sum_by-take-drop (λ (p : Point). p.uses) points n));
  }

-- one more before them
pub unused_more : (points : List Point) (n : ℕ) → 0 < n → n ≤ length points → (get_or points (n - 1) no_point).uses ≡ 0 → all_uses (drop n points) ≡ 0 → all_uses (drop (n - 1) points) ≡ 0
unused_more points n some le none unused =
    let back : n - 1 + 1 ≡ n = omega (arith, some) in
    let rest = rw (← back) at unused in
    omega (arith, none, rest, sum_by-drop_more (λ (p : Point). p.uses) points (n - 1) no_point (omega (arith, some, le)))

pub few_used : (points : List Point) → length (filter is_used points) ≤ all_uses points
few_used [] = omega arith
few_used (p ∷ points) = elim (cases_Bool (nat_eq p.uses 0)) [
  | inl none ↦ rw none (omega (arith, few_used points, sum_by-cons (λ (p : Point). p.uses) p points))
  | inr some ↦ (let more = eqb-false p.uses 0 some in rw some (omega (arith, more, few_used points, sum_by-cons (λ (p : Point). p.uses) p points)))
]

-- ---- a draw more, a draw less

raised_none : (d : Draw) (p : Point) → taken_by p.cycle d ≡ 0 → raised_by d p ≡ p
raised_none d p none = ap (λ n. (let q : Point = record { cycle = p.cycle; load = n; uses = p.uses } in q)) (let e : p.load + taken_by p.cycle d ≡ p.load = omega (arith, none) in e)

-- a draw that is over as it begins is taken at no point
pub raised_nowhere : (d : Draw) (points : List Point) → d.to ≤ d.from → points ≡ map (raised_by d) points
raised_nowhere d [] over = refl
raised_nowhere d (p ∷ points) over =
    ap (λ q. q ∷ points) (sym (raised_none d p (never_taken d p.cycle over))) ∙ ap (λ qs. raised_by d p ∷ qs) (raised_nowhere d points over)

-- the points up to a place have a draw more than those of another list, and those from there on are the same
pub record AreRaised (d : Draw) (low high : List Point) (place : ℕ) : Type 0 where
  pub long : length low ≡ length high
  pub done : (k : ℕ) (e : Point) → k < place → k < length low → get_or high k e ≡ raised_by d (get_or low k e)
  pub rest : (k : ℕ) (e : Point) → place ≤ k → get_or high k e ≡ get_or low k e

module _ (d : Draw) (low high : List Point) (place : ℕ) (are : AreRaised d low high place) where
  pub raised_all : ((k : ℕ) (e : Point) → place ≤ k → k < length low → d.to ≤ (get_or low k e).cycle) → high ≡ map (raised_by d) low
  raised_all over = same_lists high (map (raised_by d) low) (sym are.long ∙ sym (length-map low (raised_by d))) each
    where
      each : (k : ℕ) (e : Point) → k < length high → get_or high k e ≡ get_or (map (raised_by d) low) k e
      each k e lt =
          let long = are.long in
          let inside : k < length low = omega arith in
          let there = get_or-map (raised_by d) low k e e inside in
          elim (cases_lt k place) [
            | inl before ↦ are.done k e before inside ∙ sym there
            | inr after ↦ are.rest k e after ∙ sym (raised_none d (get_or low k e) (none_taken d (get_or low k e).cycle (inr (over k e after inside)))) ∙ sym there
          ]

  pub lowered_more : place < length low → d.from ≤ (get_or high place no_point).cycle → (get_or high place no_point).cycle < d.to →
      taken_by (get_or high place no_point).cycle d ≤ (get_or high place no_point).load →
      AreRaised d (set low place (record { cycle = (get_or low place no_point).cycle; load = (get_or low place no_point).load - d.power; uses = (get_or low place no_point).uses })) high (place + 1)
  lowered_more lt from to covers = record {
    long = length-set low place new ∙ are.long;
    done = (λ k e before inside. elim (cases_eq k place) [
      | inl same ↦
          (let old = are.rest place no_point (omega arith) in
          rw same (any_default high place e no_point (let long = are.long in omega arith) ∙ here (get_or low place no_point) (get_or high place no_point) old from to covers ∙ ap (raised_by d) (sym (get_or-set_same low place new e lt))))
      | inr apart ↦ are.done k e (omega (arith, before, apart)) (omega (arith, inside, length-set low place new)) ∙ ap (raised_by d) (sym (get_or-set_other low place k new e apart))
    ]);
    rest = (λ k e after. are.rest k e (omega arith) ∙ sym (get_or-set_other low place k new e (λ same. omega (arith, after, same))));
  }
    where
      new : Point
      new = record { cycle = (get_or low place no_point).cycle; load = (get_or low place no_point).load - d.power; uses = (get_or low place no_point).uses }

      here : (l h : Point) → h ≡ l → d.from ≤ h.cycle → h.cycle < d.to → taken_by h.cycle d ≤ h.load → h ≡ raised_by d (let q : Point = record { cycle = l.cycle; load = l.load - d.power; uses = l.uses } in q)
      here l h same f t c =
          let load : h.load ≡ h.load - d.power + taken_by h.cycle d = omega (arith, all_taken d h.cycle f t, c) in
          ap (λ n. (let q : Point = record { cycle = h.cycle; load = n; uses = h.uses } in q)) load ∙ ap (λ (p : Point). raised_by d (let q : Point = record { cycle = p.cycle; load = p.load - d.power; uses = p.uses } in q)) same

-- where the points from a place on stand after a draw
pub over_from : (points : List Point) (place to : ℕ) → IsNonDecreasingBy (λ (p : Point). p.cycle) points → (place < length points → to ≤ (get_or points place no_point).cycle) → (k : ℕ) (e : Point) → place ≤ k → k < length points → to ≤ (get_or points k e).cycle
over_from points place to ordered over k e le lt =
    let first = over (omega arith) in
    let later = ordered place k no_point le lt in
    subst (λ (v : Point). to ≤ v.cycle) (any_default points k no_point e lt) (omega arith)

-- points behind a place that was read are none too early
pub over_read : (points now : List Point) (place to : ℕ) (r : Point) → IsNonDecreasingBy (λ (p : Point). p.cycle) points → ((k : ℕ) (e : Point) → place ≤ k → get_or now k e ≡ get_or points k e) → r ≡ get_or now place r → to ≤ r.cycle →
    (k : ℕ) (e : Point) → place ≤ k → k < length points → to ≤ (get_or points k e).cycle
over_read points now place to r ordered rest is late = over_from points place to ordered (λ lt.
    rw (is ∙ rest place r (omega arith) ∙ any_default points place r no_point lt) at late)

pub over_low : (d : Draw) (low high : List Point) (place : ℕ) → AreRaised d low high place → ((k : ℕ) (e : Point) → place ≤ k → k < length high → d.to ≤ (get_or high k e).cycle) → (k : ℕ) (e : Point) → place ≤ k → k < length low → d.to ≤ (get_or low k e).cycle
over_low d low high place are over k e le lt = rw (are.rest k e le) at (over k e le (let long = are.long in omega arith))

-- ---- whole draws

raised_cycle : (d : Draw) (points : List Point) (k : ℕ) (e : Point) → k < length points → (get_or (map (raised_by d) points) k e).cycle ≡ (get_or points k e).cycle
raised_cycle d points k e lt = ap (λ (p : Point). p.cycle) (get_or-map (raised_by d) points k e e lt)

module _ (draws : List Draw) (cycles : List ℕ) (d : Draw) (low high : List Point) where
  pub draw_added : ArePoints draws cycles low → high ≡ map (raised_by d) low → ArePoints (draws ++ d ∷ []) cycles high
  draw_added are is = subst (ArePoints (draws ++ d ∷ []) cycles) (sym is) (record {
    ordered = (λ i j e le lt.
        let inside : j < length low = omega (arith, lt, length-map low (raised_by d)) in
        omega (arith, raised_cycle d low i e (omega (arith, le, inside)), raised_cycle d low j e inside, are.ordered i j e le inside));
    loads = All-map (λ (p : Point). p.load ≡ load_of (draws ++ d ∷ []) p.cycle) (raised_by d) low (λ k e lt.
        omega (arith, are.loads k e lt, sum_by_push (taken_by (get_or low k e).cycle) draws d));
    marks = (λ c. let old = are.marks c in omega (arith, old, sum_map (uses_at c) (raised_by d) low));
    count = (let old = are.count in omega (arith, old, sum_map (λ (p : Point). p.uses) (raised_by d) low));
  })

  pub draw_taken : ArePoints (draws ++ d ∷ []) cycles high → high ≡ map (raised_by d) low → ArePoints draws cycles low
  draw_taken are' is = go (rw is at are')
    where
      go : ArePoints (draws ++ d ∷ []) cycles (map (raised_by d) low) → ArePoints draws cycles low
      go are = record {
        ordered = (λ i j e le lt.
            omega (arith, raised_cycle d low i e (omega (arith, le, lt)), raised_cycle d low j e lt, are.ordered i j e le (omega (arith, lt, length-map low (raised_by d)))));
        loads = (λ k e lt.
            let inside : k < length (map (raised_by d) low) = omega (arith, lt, length-map low (raised_by d)) in
            let old = rw (get_or-map (raised_by d) low k e e lt) at (are.loads k e inside) in
            omega (arith, old, sum_by_push (taken_by (get_or low k e).cycle) draws d));
        marks = (λ c. let old = are.marks c in omega (arith, old, sum_map (uses_at c) (raised_by d) low));
        count = (let old = are.count in omega (arith, old, sum_map (λ (p : Point). p.uses) (raised_by d) low));
      }

module _ (draws : List Draw) (cycles : List ℕ) where
  -- the loads have room for the next draw, and cover the last one
  pub loads_fit : (at limit : ℕ) (e : Draw) (points : List Point) → at < length draws → ArePoints (take at draws) cycles points → ((c : ℕ) → load_of draws c ≤ limit) →
      limit < 2 ^ 64 → All (λ (p : Point). p.load + taken_by p.cycle (get_or draws at e) < 2 ^ 64) points
  loads_fit at limit e points lt are within small = λ k d inside.
      let c = (get_or points k d).cycle in
      let part = sum_by_more_le (taken_by c) draws at e lt in
      omega (arith, are.loads k d inside, part, within c, small)

  pub loads_cover : (d : Draw) (points : List Point) → ArePoints (draws ++ d ∷ []) cycles points → All (λ (p : Point). taken_by p.cycle d ≤ p.load) points
  loads_cover d points are = λ k e lt. let is = are.loads k e lt in omega (arith, is, sum_by_push (taken_by (get_or points k e).cycle) draws d)

  -- with one of the draws that are listed
  pub next_added : (at : ℕ) (d : Draw) (low high : List Point) → at < length draws → ArePoints (take at draws) cycles low → high ≡ map (raised_by (get_or draws at d)) low →
      ArePoints (take (at + 1) draws) cycles high
  next_added at d low high lt are is = rw (take_more draws at d lt) (draw_added (take at draws) cycles (get_or draws at d) low high are is)

  pub last_split : (at : ℕ) (d : Draw) (points : List Point) → at < length draws → ArePoints (take (at + 1) draws) cycles points →
      ArePoints (take at draws ++ get_or draws at d ∷ []) cycles points
  last_split at d points lt are = rw (take_more draws at d lt) at are
