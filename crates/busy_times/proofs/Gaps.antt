-- Spare points, and a point that is put over one of them.
use Rattle.std.proofs.Common.{◌≡◌, ℕ, zero, suc, ◌+◌, ◌-◌, ◌<◌, ◌≤◌, inl, inr, List, [], ◌∷◌, ◌++◌, length, get_or, set, take, drop, replicate, arith, refl, sym, ap, ◌∙◌, subst}
use Rattle.std.specs.List.{insert, remove, Sorted.IsPartitionPoint}
use Rattle.std.proofs.lemmas.{Bool.cases_eq, Bool.cases_lt, List.Sorted.IsNonDecreasingBy-insert, List.Sums.sum_by-insert, List.Sums.sum_by-remove}
use Rattle.std.proofs.lemmas.List.{take-append-drop, take_at, drop_at, take-take, drop-drop, drop-take, drop_more, get_or-take, get_or_append_left, set-append_right, length-append, length-take-le, length-drop, drop-append-le, take-append-le}
use Rattle.std.proofs.lemmas.List.Elements.{All-append, All-cons, All-take, All-drop}
use Rattle.std.proofs.lemmas.List.Edits.{length-remove, get_or-remove_below, get_or-remove_above}
use Rattle.busy_times.specs.{declared.power.Draw.Draw, declared.points.Point.Point, Draws.load_of}
use Rattle.busy_times.specs.Profiles.{no_point, load_before, uses_at, ArePoints, AreMarked}
use Rattle.busy_times.proofs.{Profiles.point_added, Marked.load_between, Ordered.ordered_remove}
use Rattle.common_lemmas.proofs.Lists.{any_default}

-- ---- a point without a mark

-- no mark stands at it, whatever its cycle
none_at : (c : ℕ) (p : Point) → p.uses ≡ 0 → uses_at c p ≡ 0
none_at c p none = grind (arith, none)

-- a spare point as the point is, right behind it
abbrev spare_of : Point → Point
spare_of p = record { cycle = p.cycle; load = p.load; uses = 0 }

spare_added : (draws : List Draw) (cycles : List ℕ) (points : List Point) (place : ℕ) → ArePoints draws cycles points → place < length points →
    ArePoints draws cycles (insert points (place + 1) (spare_of (get_or points place no_point)))
spare_added draws cycles points place are lt = record {
  ordered = IsNonDecreasingBy-insert (λ (p : Point). p.cycle) points (place + 1) new are.ordered (omega (arith, lt))
      (λ k d low. elim (cases_eq k place) [
        | inl same ↦ subst (λ n. (get_or points n d).cycle ≤ new.cycle) (sym same) (let here = ap (λ (p : Point). p.cycle) (any_default points place d no_point lt) in omega (arith, here))
        | inr apart ↦ (let order = are.ordered k place d (omega (arith, low, apart)) lt in let here = ap (λ (p : Point). p.cycle) (any_default points place d no_point lt) in omega (arith, order, here))
      ])
      (λ k d low high. (let order = are.ordered place k d (omega (arith, low)) high in let here = ap (λ (p : Point). p.cycle) (any_default points place d no_point lt) in omega (arith, order, here)));
  loads = All-append P (take (place + 1) points) (new ∷ drop (place + 1) points) (All-take P (place + 1) points are.loads) (All-cons P new (drop (place + 1) points) (are.loads place no_point lt) (All-drop P (place + 1) points are.loads));
  marks = (λ x. let old = are.marks x in omega (arith, old, none_at x new refl, sum_by-insert (uses_at x) points (place + 1) new));
  count = (let old = are.count in omega (arith, old, sum_by-insert (λ (p : Point). p.uses) points (place + 1) new));
}
  where
    P : Point → Type 0
    P p = p.load ≡ load_of draws p.cycle

    new : Point
    new = spare_of (get_or points place no_point)

-- several of them
abbrev spread : (place more : ℕ) → List Point → Point → List Point
spread place more points p = take (place + 1) points ++ (replicate more p ++ drop (place + 1) points)

one_more : (points : List Point) (place more : ℕ) (p : Point) → place < length points → insert (spread place more points p) (place + 1) p ≡ spread place (suc more) points p
one_more points place more p lt =
    let long = length-take-le (place + 1) points (omega (arith, lt)) in
    let front = take_at (take (place + 1) points) (replicate more p ++ drop (place + 1) points) (place + 1) long in
    let back = drop_at (take (place + 1) points) (replicate more p ++ drop (place + 1) points) (place + 1) long in
    ap (λ xs. xs ++ p ∷ drop (place + 1) (spread place more points p)) front ∙ ap (λ xs. take (place + 1) points ++ p ∷ xs) back

module _ (draws : List Draw) (cycles : List ℕ) (points : List Point) where
  pub spares_put : (place more : ℕ) → ArePoints draws cycles points → place < length points →
      ArePoints draws cycles (take (place + 1) points ++ (replicate more (spare_of (get_or points place no_point)) ++ drop (place + 1) points))
  spares_put place zero are lt = rw (take-append-drop (place + 1) points) are
  spares_put place (suc more) are lt =
      rw (one_more points place more spare lt) at (rw here at (spare_added draws cycles before place (spares_put place more are lt) inside))
    where
      spare : Point
      spare = spare_of (get_or points place no_point)

      before : List Point
      before = spread place more points spare

      long : length (take (place + 1) points) ≡ place + 1
      long = length-take-le (place + 1) points (omega (arith, lt))

      inside : place < length before
      inside = omega (arith, long, length-append (take (place + 1) points) (replicate more spare ++ drop (place + 1) points))

      here : get_or before place no_point ≡ get_or points place no_point
      here = get_or_append_left (take (place + 1) points) (replicate more spare ++ drop (place + 1) points) no_point place (omega (arith, long)) ∙ get_or-take (place + 1) points place no_point (omega arith)

  unused_removed : (spare : ℕ) → ArePoints draws cycles points → spare < length points → (get_or points spare no_point).uses ≡ 0 → ArePoints draws cycles (remove points spare)
  unused_removed spare are lt none = record {
    ordered = ordered_remove (λ (p : Point). p.cycle) points spare are.ordered lt;
    loads = All-append P (take spare points) (drop (suc spare) points) (All-take P spare points are.loads) (All-drop P (suc spare) points are.loads);
    marks = (λ x. let old = are.marks x in omega (arith, old, none_at x (get_or points spare no_point) none, sum_by-remove (uses_at x) points spare no_point lt));
    count = (let old = are.count in omega (arith, old, none, sum_by-remove (λ (p : Point). p.uses) points spare no_point lt));
  }
    where
      P : Point → Type 0
      P p = p.load ≡ load_of draws p.cycle

-- ---- a mark over a spare point

pub spare_taken : (held : List Draw) (cycles : List ℕ) (points : List Point) (place spare load c : ℕ) → AreMarked held cycles → ArePoints held cycles points →
    place ≤ spare → spare < length points → (get_or points spare no_point).uses ≡ 0 →
    IsPartitionPoint (λ (p : Point). p.cycle < c) (λ (p : Point). c ≤ p.cycle) points place → (place < length points → (get_or points place no_point).cycle ≡ c → ⊥) → load ≡ load_before points place →
    ArePoints held (c ∷ cycles) (insert (remove points spare) place (record { cycle = c; load = load; uses = 1 }))
spare_taken held cycles points place spare load c marked are le lt none parts missing is =
    point_added held cycles (remove points spare) place load c (unused_removed held cycles points spare are lt none) (omega (arith, le, lt, long)) low high
    (is ∙ load_between held cycles points place c marked are (omega (arith, le, lt)) parts missing)
  where
    long : length (remove points spare) + 1 ≡ length points
    long = length-remove points spare lt

    low : (k : ℕ) (d : Point) → k < place → (get_or (remove points spare) k d).cycle ≤ c
    low k d before =
        omega (arith, ap (λ (p : Point). p.cycle) (get_or-remove_below points spare d k (omega (arith, before, le)) lt), parts.0 k d (omega arith) before)

    high : (k : ℕ) (d : Point) → place ≤ k → k < length (remove points spare) → c ≤ (get_or (remove points spare) k d).cycle
    high k d from inside = elim (cases_lt k spare) [
      | inl before ↦
          (let same = ap (λ (p : Point). p.cycle) (get_or-remove_below points spare d k before lt) in
          omega (arith, same, parts.1 k d from (omega (arith, inside, long))))
      | inr behind ↦
          (let same = ap (λ (p : Point). p.cycle) (get_or-remove_above points spare d k behind lt) in
          omega (arith, same, parts.1 (k + 1) d (omega (arith, from)) (omega (arith, inside, long))))
    ]

-- ---- the lists behind the moves

-- a part from a place on, after its last item was put first and an item was put over it
put_over_last : {X : Type 0} (xs ys : List X) (place n : ℕ) (y : X) → place + n < length xs → ys ≡ drop n (take (n + 1) (drop place xs)) ++ take n (take (n + 1) (drop place xs)) →
    set (take place xs ++ (ys ++ drop (n + 1) (drop place xs))) place y ≡ insert (remove xs (place + n)) place y
put_over_last {X} xs ys place n y lt is = left ∙ sym right
  where
    d : List X
    d = drop place xs

    long : length (take place xs) ≡ place
    long = length-take-le place xs (omega (arith, lt))

    last : drop n (take (n + 1) d) ≡ get_or d n y ∷ []
    last = drop-take n 1 d ∙ ap (take 1) (drop_more d n y (omega (arith, lt, length-drop place xs)))

    part : ys ++ drop (n + 1) d ≡ get_or d n y ∷ (take n d ++ drop (n + 1) d)
    part = ap (λ v. v ++ drop (n + 1) d) (is ∙ ap (λ v. v ++ take n (take (n + 1) d)) last ∙ ap (λ v. get_or d n y ∷ v) (take-take n (n + 1) d (omega arith)))

    zero' : place - place ≡ 0
    zero' = omega arith

    left : set (take place xs ++ (ys ++ drop (n + 1) d)) place y ≡ take place xs ++ y ∷ (take n d ++ drop (n + 1) d)
    left = set-append_right (take place xs) (ys ++ drop (n + 1) d) place place y long (omega arith) ∙ ap (λ k. take place xs ++ set (ys ++ drop (n + 1) d) k y) zero' ∙ ap (λ v. take place xs ++ set v 0 y) part

    inside : place ≤ length (take (place + n) xs)
    inside = omega (arith, length-take-le (place + n) xs (omega (arith, lt)))

    front : take place (remove xs (place + n)) ≡ take place xs
    front = take-append-le place (take (place + n) xs) (drop (suc (place + n)) xs) inside ∙ take-take place (place + n) xs (omega arith)

    count : place + (n + 1) ≡ suc (place + n)
    count = omega arith

    back : drop place (remove xs (place + n)) ≡ take n d ++ drop (n + 1) d
    back = drop-append-le place (take (place + n) xs) (drop (suc (place + n)) xs) inside ∙ ap (λ v. v ++ drop (suc (place + n)) xs) (drop-take place n xs) ∙ ap (λ v. take n d ++ v) (sym (drop-drop (n + 1) place xs ∙ ap (λ k. drop k xs) count))

    right : insert (remove xs (place + n)) place y ≡ take place xs ++ y ∷ (take n d ++ drop (n + 1) d)
    right = ap (λ v. v ++ y ∷ drop place (remove xs (place + n))) front ∙ ap (λ v. take place xs ++ y ∷ v) back

-- a span that is put into the part that was lent is put into the list
pub put_over_part : {X : Type 0} (items lent ys : List X) (place spare len : ℕ) (y : X) → lent ≡ items → len ≡ length items → place ≤ spare → spare < length items →
    ys ≡ drop (length (take (spare + 1 - place) (drop place lent)) - 1) (take (spare + 1 - place) (drop place lent)) ++ take (length (take (spare + 1 - place) (drop place lent)) - 1) (take (spare + 1 - place) (drop place lent)) →
    set (take len ((take place lent ++ (ys ++ drop (spare + 1 - place) (drop place lent))) ++ drop (length (take place lent ++ (ys ++ drop (spare + 1 - place) (drop place lent)))) items)) place y ≡ insert (remove items spare) place y
put_over_part {X} items lent ys place spare len y same count le lt is =
    ap (λ v. set v place y) (take_at whole (drop (length whole) items) len long ∙ whole_is) ∙ put_over_last items ys place n y inside ys_is ∙ ap (λ k. insert (remove items k) place y) end
  where
    n : ℕ
    n = spare - place

    whole : List X
    whole = take place lent ++ (ys ++ drop (spare + 1 - place) (drop place lent))

    width : spare + 1 - place ≡ n + 1
    width = omega (arith, le)

    end : place + n ≡ spare
    end = omega (arith, le)

    inside : place + n < length items
    inside = omega (arith, le, lt)

    rest : drop place lent ≡ drop place items
    rest = ap (drop place) same

    rotated : ℕ → List X → List X
    rotated k v = drop k v ++ take k v

    part_is : take (spare + 1 - place) (drop place lent) ≡ take (n + 1) (drop place items)
    part_is = ap (λ k. take k (drop place lent)) width ∙ ap (take (n + 1)) rest

    part_long : length (take (n + 1) (drop place items)) ≡ n + 1
    part_long = length-take-le (n + 1) (drop place items) (omega (arith, inside, length-drop place items))

    short : length (take (spare + 1 - place) (drop place lent)) - 1 ≡ n
    short = omega (arith, ap length part_is, part_long)

    ys_is : ys ≡ drop n (take (n + 1) (drop place items)) ++ take n (take (n + 1) (drop place items))
    ys_is = is ∙ ap (λ k. rotated k (take (spare + 1 - place) (drop place lent))) short ∙ ap (rotated n) part_is

    whole_is : whole ≡ take place items ++ (ys ++ drop (n + 1) (drop place items))
    whole_is = ap (λ v. take place v ++ (ys ++ drop (spare + 1 - place) (drop place v))) same ∙ ap (λ k. take place items ++ (ys ++ drop k (drop place items))) width

    ys_long : length ys ≡ n + 1
    ys_long = ap length ys_is ∙ (omega (arith, part_long, length-append (drop n (take (n + 1) (drop place items))) (take n (take (n + 1) (drop place items))), length-drop n (take (n + 1) (drop place items)), length-take-le n (take (n + 1) (drop place items)) (omega (arith, part_long))))

    long : length whole ≡ len
    long = ap length whole_is ∙ omega (arith, count, inside, ys_long, length-append (take place items) (ys ++ drop (n + 1) (drop place items)), length-append ys (drop (n + 1) (drop place items)), length-take-le place items (omega (arith, le, lt)), length-drop (n + 1) (drop place items), length-drop place items)
