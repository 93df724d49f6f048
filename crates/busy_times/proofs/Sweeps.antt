-- Where a profile of power leaves enough free, swept from point to point.
use Rattle.std.proofs.Common.{◌≡◌, ℕ, ◌+◌, ◌<◌, ◌≤◌, ◌⊎◌, zero, suc, inl, inr, Bool, true, false, List, length, get_or, arith, max, refl, sym, ◌∙◌, subst}
use Rattle.std.specs.{Prelude.nat_lt, List.Sorted.IsPartitionPoint}
use Rattle.std.proofs.lemmas.Bool.{cases_lt, cases_Bool, lt-ltb, le-ltb}
use Rattle.busy_times.specs.declared.points.Point.{Point}
use Rattle.busy_times.proofs.Profiles.{load_there}
use Rattle.busy_times.specs.Profiles.{no_point, load_before, IsProfile, IsEndedProfile, IsFreeFor}
use Rattle.common_lemmas.proofs.Lists.{any_default}

-- the load from a point on up to the next
pub load_from : (load : ℕ → ℕ) (points : List Point) → IsProfile load points → (k c : ℕ) → k < length points → (get_or points k no_point).cycle ≤ c → (k + 1 < length points → c < (get_or points (k + 1) no_point).cycle) → load c ≡ (get_or points k no_point).load
load_from load points is k c lt from next =
    let stays = is.between (get_or points k no_point).cycle c from (λ i d inside. elim (cases_lt k i) [
      | inr before ↦ inl (rw (any_default points k d no_point lt) at (is.ordered i k d before lt))
      | inl after ↦
          (let first = next (omega arith) in
          let later = is.ordered (k + 1) i no_point (omega arith) inside in
          inr (subst (λ (v : Point). c < v.cycle) (any_default points i no_point d inside) (omega arith)))
    ]) in
    stays ∙ sym (is.here k no_point lt)

-- the points up to a cycle are those before the next
pub parts_to : (points : List Point) (c place : ℕ) → IsPartitionPoint (λ (p : Point). p.cycle < c + 1) (λ (p : Point). c + 1 ≤ p.cycle) points place → IsPartitionPoint (λ (p : Point). p.cycle ≤ c) (λ (p : Point). c < p.cycle) points place
parts_to points c place parts = ((λ k d low high. (let e = parts.0 k d low high in omega (arith, e))), (λ k d low high. (let e = parts.1 k d low high in omega (arith, e))))

module _ (load : ℕ → ℕ) (points : List Point) (free width : ℕ) where
  -- nothing is drawn from the last cycle on
  free_at_last : (last from : ℕ) → IsEndedProfile load points last → IsFreeFor load free width (max from last)
  free_at_last last from ended c low high = (let none = ended.over c (omega (arith, low)) in omega (arith, none))

  -- where too much is drawn from a point on, what is free begins at the next point or behind it
  crowd_goes_on : (place other : ℕ) → IsProfile load points → 1 ≤ width → place < length points → free < (get_or points place no_point).load →
      (get_or points place no_point).cycle < other + width → IsFreeFor load free width other → (place + 1 < length points) × ((get_or points (place + 1) no_point).cycle ≤ other)
  crowd_goes_on place other is some lt crowded early good = next
    where
      here : (get_or points place no_point).load ≡ load (get_or points place no_point).cycle
      here = is.here place no_point lt

      passed : (get_or points place no_point).cycle ≤ other
      passed = elim (cases_lt other (get_or points place no_point).cycle) [
        | inr done ↦ done
        | inl before ↦ absurd (let small = good (get_or points place no_point).cycle (omega (arith, before)) early in omega (arith, small, here, crowded))
      ]

      next : (place + 1 < length points) × ((get_or points (place + 1) no_point).cycle ≤ other)
      next = elim (cases_lt (place + 1) (length points)) [
        | inl more ↦ elim (cases_lt other (get_or points (place + 1) no_point).cycle) [
          | inr late ↦ (more, late)
          | inl before ↦ absurd (let e = load_from load points is place other lt passed (λ _. before) in let small = good other (omega arith) (omega (arith, some)) in omega (arith, e, small, crowded))
        ]
        | inr end ↦ absurd (let e = load_from load points is place other lt passed (λ more. absurd (omega (arith, end, more))) in let small = good other (omega arith) (omega (arith, some)) in omega (arith, e, small, crowded))
      ]

-- a sweep that has come to a place: whether a crowd stands before it, and else from which start on enough is free
pub record IsSwept (points : List Point) (free from width last place start : ℕ) (crowded : Bool) : Type 0 where
  pub from' : from ≤ start
  pub most : (start ≡ from) ⊎ (start ≤ last)
  pub clear : crowded ≡ false → (load : ℕ → ℕ) → IsEndedProfile load points last → (c : ℕ) → start ≤ c → (place < length points → c < (get_or points place no_point).cycle) → load c ≤ free
  pub low : crowded ≡ false → (load : ℕ → ℕ) → IsEndedProfile load points last → (other : ℕ) → from ≤ other → IsFreeFor load free width other → start ≤ other
  pub high : crowded ≡ true → (load : ℕ → ℕ) → IsEndedProfile load points last → (other : ℕ) → from ≤ other → IsFreeFor load free width other → (place < length points) × ((get_or points place no_point).cycle ≤ other)

-- the load at a cycle behind which a place stands
load_up_to : (load : ℕ → ℕ) (points : List Point) (place from c : ℕ) → IsProfile load points → place ≤ length points → IsPartitionPoint (λ (p : Point). p.cycle ≤ from) (λ (p : Point). from < p.cycle) points place →
    from ≤ c → (place < length points → c < (get_or points place no_point).cycle) → load c ≡ load_before points place
load_up_to load points place from c is le parts low next = load_there load points is place c le (
  (λ k d i j. (let early = parts.0 k d i j in omega (arith, early, low))),
  (λ k d i j.
      subst (λ (p : Point). c < p.cycle) (any_default points k no_point d j) (omega (arith, next (omega (arith, i, j)), is.ordered place k no_point i j))),
)

pub swept_first : (points : List Point) (free from width last place : ℕ) → 1 ≤ width → place ≤ length points → IsPartitionPoint (λ (p : Point). p.cycle ≤ from) (λ (p : Point). from < p.cycle) points place →
    IsSwept points free from width last place from (nat_lt free (load_before points place))
swept_first points free from width last place some le parts = elim (cases_lt free (load_before points place)) [
  | inl more ↦ rw (lt-ltb free (load_before points place) more) (record {
    from' = omega arith;
    most = inl refl;
    clear = λ no'. absurd cc;
    low = λ no'. absurd cc;
    high = λ _ load ended other later good. elim (cases_lt place (length points)) [
      | inl inside ↦ elim (cases_lt other (get_or points place no_point).cycle) [
        | inr late ↦ (inside, late)
        | inl before ↦ absurd (let e = load_up_to load points place from other ended.profile le parts later (λ _. before) in let small = good other (omega arith) (omega (arith, some)) in omega (arith, e, small, more))
      ]
      | inr end ↦ absurd (let e = load_up_to load points place from other ended.profile le parts later (λ inside. absurd (omega (arith, end, inside))) in let small = good other (omega arith) (omega (arith, some)) in omega (arith, e, small, more))
    ];
  })
  | inr less ↦ rw (le-ltb free (load_before points place) less) (record {
    from' = omega arith;
    most = inl refl;
    clear = λ _ load ended c low next. (let e = load_up_to load points place from c ended.profile le parts low next in omega (arith, e, less));
    low = λ _ load ended other later good. later;
    high = λ no'. absurd cc;
  })
]

module _ (points : List Point) (free from width last place start : ℕ) (witness : (load : ℕ → ℕ) × IsEndedProfile load points last) (some : 1 ≤ width) (lt : place < length points) (behind : from < (get_or points place no_point).cycle) where
  abbrev point : Point
  point = get_or points place no_point

  -- too much is drawn from the point on
  pub more_crowded : (crowded : Bool) → IsSwept points free from width last place start crowded → (crowded ≡ false → point.cycle < start + width) → free < point.load → IsSwept points free from width last (place + 1) start true
  more_crowded crowded swept going more = record {
    from' = swept.from';
    most = swept.most;
    clear = λ no'. absurd cc;
    low = λ no'. absurd cc;
    high = λ _ load ended other later good. crowd_goes_on load points free width place other ended.profile some lt more (elim (cases_Bool crowded) [
      | inl yes' ↦ (let here = (swept.high yes' load ended other later good).1 in omega (arith, here, some))
      | inr no' ↦ (let here = going no' in let least = swept.low no' load ended other later good in omega (arith, here, least))
    ]) good;
  }

  -- a crowd ends at the point
  pub crowd_ends : IsSwept points free from width last place start true → point.load ≤ free → IsSwept points free from width last (place + 1) point.cycle false
  crowd_ends swept less = record {
    from' = omega (arith, behind);
    most = inr (let h = (swept.high refl witness.0 witness.1 (max from last) (omega arith) (free_at_last witness.0 points free width last from witness.1)).1 in omega (arith, h, behind));
    clear = λ _ load ended c low next. (let e = load_from load points ended.profile place c lt low next in omega (arith, e, less));
    low = λ _ load ended other later good. (swept.high refl load ended other later good).1;
    high = λ no'. absurd cc;
  }

  -- enough stays free
  pub stays_free : IsSwept points free from width last place start false → point.load ≤ free → IsSwept points free from width last (place + 1) start false
  stays_free swept less = record {
    from' = swept.from';
    most = swept.most;
    clear = λ _ load ended c low next. elim (cases_lt c point.cycle) [
      | inl early ↦ swept.clear refl load ended c low (λ _. early)
      | inr late ↦ (let e = load_from load points ended.profile place c lt late next in omega (arith, e, less))
    ];
    low = λ _ load ended other later good. swept.low refl load ended other later good;
    high = λ no'. absurd cc;
  }

module _ (points : List Point) (free from width last start : ℕ) where
  -- a crowd goes on up to a place
  pub swept_crowd : (n place r : ℕ) → (load : ℕ → ℕ) × IsEndedProfile load points last → 1 ≤ width → place + n ≡ r → r ≤ length points →
      ((k : ℕ) → place ≤ k → k < length points → from < (get_or points k no_point).cycle) → ((k : ℕ) → place ≤ k → k < r → free < (get_or points k no_point).load) →
      IsSwept points free from width last place start true → IsSwept points free from width last r start true
  swept_crowd zero place r witness some ends le behind crowded swept = subst (λ k. IsSwept points free from width last k start true) (omega (arith, ends)) swept
  swept_crowd (suc n) place r witness some ends le behind crowded swept =
      swept_crowd n (place + 1) r witness some (omega (arith, ends)) le (λ k low inside. behind k (omega (arith, low)) inside) (λ k low less. crowded k (omega (arith, low)) less)
      (more_crowded points free from width last place start witness some (omega (arith, ends, le)) (behind place (omega arith) (omega (arith, ends, le))) true swept (λ no'. absurd cc) (crowded place (omega arith) (omega (arith, ends))))

  -- and what is free
  pub swept_free : (n place r : ℕ) → (load : ℕ → ℕ) × IsEndedProfile load points last → 1 ≤ width → place + n ≡ r → r ≤ length points →
      ((k : ℕ) → place ≤ k → k < length points → from < (get_or points k no_point).cycle) → ((k : ℕ) → place ≤ k → k < r → (get_or points k no_point).load ≤ free) →
      IsSwept points free from width last place start false → IsSwept points free from width last r start false
  swept_free zero place r witness some ends le behind low' swept = subst (λ k. IsSwept points free from width last k start false) (omega (arith, ends)) swept
  swept_free (suc n) place r witness some ends le behind low' swept =
      swept_free n (place + 1) r witness some (omega (arith, ends)) le (λ k low inside. behind k (omega (arith, low)) inside) (λ k low less. low' k (omega (arith, low)) less)
      (stays_free points free from width last place start witness some (omega (arith, ends, le)) (behind place (omega arith) (omega (arith, ends, le))) swept (low' place (omega arith) (omega (arith, ends))))

module _ (points : List Point) (free from width last place start : ℕ) where
  -- where nothing crowded is left before the cycles are over, enough is free from the start on
  pub swept_through : IsSwept points free from width last place start false → (place < length points → start + width ≤ (get_or points place no_point).cycle) →
      ((load : ℕ → ℕ) → IsEndedProfile load points last → IsFreeFor load free width start) × ((load : ℕ → ℕ) → IsEndedProfile load points last → (other : ℕ) → from ≤ other → IsFreeFor load free width other → start ≤ other)
  swept_through swept late =
      ((λ load ended c low high. swept.clear refl load ended c low (λ inside. (let over = late inside in omega (arith, over, high)))), swept.low refl)

  -- a crowd that each of the starts that are left meets, wherever it stands behind the place
  pub crowd_met : (crowd : ℕ) → 1 ≤ width → IsSwept points free from width last place start false → crowd < length points →
      (get_or points crowd no_point).cycle < start + width → free < (get_or points crowd no_point).load → IsSwept points free from width last (crowd + 1) start true
  crowd_met crowd some swept lt early more = record {
    from' = swept.from';
    most = swept.most;
    clear = λ no'. absurd cc;
    low = λ no'. absurd cc;
    high = λ _ load ended other later good. (let least = swept.low refl load ended other later good in crowd_goes_on load points free width crowd other ended.profile some lt more (omega (arith, early, least)) good);
  }

-- no crowd is left then
pub none_crowded : {P : Type 0} (points : List Point) (free from width last place start : ℕ) → (load : ℕ → ℕ) × IsEndedProfile load points last → length points ≤ place → IsSwept points free from width last place start true → P
none_crowded points free from width last place start witness over swept =
    absurd (let inside = (swept.high refl witness.0 witness.1 (max from last) (omega arith) (free_at_last witness.0 points free width last from witness.1)).0 in omega (arith, inside, over))

-- what is free from a point on, and calm from the next one on, is calm from that point on
pub calm_more : (load : ℕ → ℕ) (points : List Point) (free last place calm : ℕ) → IsEndedProfile load points last → place < length points → (get_or points place no_point).load ≤ free →
    (place + 1 < length points → calm ≤ (get_or points (place + 1) no_point).cycle) → ((c : ℕ) → calm ≤ c → load c ≤ free) → (c : ℕ) → (get_or points place no_point).cycle ≤ c → load c ≤ free
calm_more load points free last place calm ended lt low ahead stays c from = elim (cases_lt c calm) [
  | inr late ↦ stays c late
  | inl early ↦ (let e = load_from load points ended.profile place c lt from (λ more. (let next = ahead more in omega (arith, next, early))) in omega (arith, e, low))
]
