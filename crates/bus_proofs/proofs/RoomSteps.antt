-- How the room of a case stays that of its chip and wires, step by step, and where it is gone back.
use Rattle.std.proofs.Common.{◌≡◌, ℕ, ◌+◌, ◌≤◌, ◌<◌, min, List, [], ◌∷◌, ◌++◌, length, map, take, drop, refl, sym, ap, ◌∙◌, subst, arith, ◌*◌, Bool, true, false, nat_eq, if◌then◌else◌, All}
use Rattle.std.proofs.lemmas.Bool.{eq-eqb}
use Rattle.std.proofs.lemmas.List.{length-append}
use Rattle.leaf_bounds.specs.declared.widths.Interval.{Interval}
use Rattle.leaf_bounds.specs.Cases.{Case, interval, interval_of, at_most, at_least, tightened_below, tightened_by, extended, known_ranks, narrow, spare, tightened, wide}
use Rattle.bus_proofs.specs.Cases.{IsWide, with_rank}
use Rattle.leaf_bounds.proofs.Trails.{tight_length, later_none, later_then}
use Rattle.std.proofs.lemmas.List.Elements.{All-append, All-cons, All-drop, All-head, All-tail, All-take}
use Rattle.leaf_bounds.specs.declared.basis.Basis.{Basis}
use Rattle.leaf_bounds.specs.declared.case.CaseRoom.{CaseRoom}
use Rattle.leaf_bounds.specs.CaseRooms.{HasCase, IsCaseOf, IsFurther, IsSame}
use Rattle.leaf_bounds.specs.Bits.{HasBits}
use Rattle.leaf_bounds.specs.Bases.{limits_of}
use Rattle.bus_proofs.specs.Walks.{IsRoomFor, IsWideNow}
use Rattle.leaf_bounds.proofs.Takings.{after_none, after_then}

-- ---- changes one after another

pub further_none : (a : CaseRoom) → IsFurther a a
further_none a = record { widths = later_none a.widths; ranks = after_none a.ranks; modules = refl }

pub further_then : {a b c : CaseRoom} → IsFurther a b → IsFurther b c → IsFurther a c
further_then x y = record {
  widths = later_then x.widths y.widths;
  ranks = after_then x.ranks y.ranks;
  modules = y.modules ∙ x.modules;
}

pub same_case : {a b : CaseRoom} {c : Case} → IsSame a b → IsCaseOf a c → IsCaseOf b c
same_case {a} {b} {c} s is = record {
  intervals = s.widths.intervals ∙ is.intervals;
  bits = subst (λ n. HasBits n b.ranks.may.items c) (sym s.modules) (subst (λ l. HasBits a.modules l c) (sym s.ranks.may) is.bits);
}

-- no interval goes beyond the wires
abbrev pub AreWithin : (w : ℕ) → List Interval → Type 0
AreWithin w is = All (λ (i : Interval). i.high ≤ w) is

module _ {g : Basis} {a b : CaseRoom} where
  pub same_room : IsSame a b → IsRoomFor g a → IsRoomFor g b
  same_room s x = record {
    has = record {
      roomy = s.widths.roomy;
      space = s.ranks.space;
      modules = omega (arith, s.modules, x.has.modules);
      most = s.ranks.after_it.most ∙ x.has.most ∙ ap (λ k. (k + 1) * a.modules) (sym s.widths.later.most) ∙ ap (λ n. (b.widths.most + 1) * n) (sym s.modules);
    };
    of = record {
      modules = s.modules ∙ x.of.modules;
      wires = s.widths.later.wires ∙ x.of.wires;
      within = subst (AreWithin (limits_of g).wires) (sym s.widths.intervals) x.of.within;
    };
    most = s.widths.later.most ∙ x.most;
  }

  -- a room after a change has another case
  pub room_next : {c d : Case} → IsRoomFor g a → HasCase b → IsFurther a b → IsCaseOf a c → IsCaseOf b d →
      (AreWithin (limits_of g).wires c.intervals → AreWithin (limits_of g).wires d.intervals) → IsRoomFor g b
  room_next x has further is next goes = record {
    has = has;
    of = record {
      modules = further.modules ∙ x.of.modules;
      wires = further.widths.wires ∙ x.of.wires;
      within = subst (AreWithin (limits_of g).wires) (sym next.intervals) (goes (subst (AreWithin (limits_of g).wires) is.intervals x.of.within));
    };
    most = further.widths.most ∙ x.most;
  }

-- ---- intervals stay within the wires

module _ (w more : ℕ) where
  tight_below_within : (above : ℕ) (is : List Interval) → AreWithin w is → AreWithin w (tightened_below more above is)
  tight_below_within above [] all = all
  tight_below_within above (i ∷ is) all =
      let first = All-head (λ (i : Interval). i.high ≤ w) i is all in
      All-cons (λ (i : Interval). i.high ≤ w) (interval i.low (min (min i.high (i.low + more)) above)) (tightened_below more (min (min i.high (i.low + more)) above) is)
      (omega (arith, first)) (tight_below_within (min (min i.high (i.low + more)) above) is (All-tail (λ (i : Interval). i.high ≤ w) i is all))

  pub tight_within : (is : List Interval) → AreWithin w is → AreWithin w (tightened_by more is)
  tight_within [] all = all
  tight_within (i ∷ is) all = tight_below_within i.high (i ∷ is) all

map_within : (w : ℕ) (f : Interval → Interval) → ((i : Interval) → (f i).high ≤ i.high) → (is : List Interval) → AreWithin w is → AreWithin w (map f is)
map_within w f less [] all = all
map_within w f less (i ∷ is) all =
    let first = All-head (λ (i : Interval). i.high ≤ w) i is all in
    All-cons (λ (i : Interval). i.high ≤ w) (f i) (map f is) (omega (arith, first, less i)) (map_within w f less is (All-tail (λ (i : Interval). i.high ≤ w) i is all))

module _ (width : ℕ) (i : Interval) where
  most_less : (at_most width i).high ≤ i.high
  most_less = omega arith

  least_less : (at_least width i).high ≤ i.high
  least_less = omega arith

module _ (w rank width : ℕ) (c : Case) (all : AreWithin w c.intervals) where
  pub narrow_within : AreWithin w (narrow c rank width).intervals
  narrow_within =
      All-append (λ (i : Interval). i.high ≤ w) (take rank c.intervals) (map (at_most width) (drop rank c.intervals)) (All-take (λ (i : Interval). i.high ≤ w) rank c.intervals all)
      (map_within w (at_most width) (most_less width) (drop rank c.intervals) (All-drop (λ (i : Interval). i.high ≤ w) rank c.intervals all))

  pub wide_within : AreWithin w (wide c rank width).intervals
  wide_within =
      All-append (λ (i : Interval). i.high ≤ w) (map (at_least (width + 1)) (take (rank + 1) c.intervals)) (drop (rank + 1) c.intervals)
      (map_within w (at_least (width + 1)) (least_less (width + 1)) (take (rank + 1) c.intervals) (All-take (λ (i : Interval). i.high ≤ w) (rank + 1) c.intervals all))
      (All-drop (λ (i : Interval). i.high ≤ w) (rank + 1) c.intervals all)

extended_within : (w : ℕ) (c : Case) → AreWithin w c.intervals → AreWithin w (extended w c).intervals
extended_within w c all =
    All-append (λ (i : Interval). i.high ≤ w) c.intervals (interval 0 w ∷ []) all
    (All-cons (λ (i : Interval). i.high ≤ w) (interval 0 w) [] (omega arith) (λ k d less. absurd (omega (arith, less))))

pub tightened_within : (w v : ℕ) (c : Case) → AreWithin w c.intervals → AreWithin w (tightened v c).intervals
tightened_within w v c all = tight_within w (spare v c.intervals) c.intervals all

pub with_rank_within : (w : ℕ) (c : Case) (rank : ℕ) → AreWithin w c.intervals → AreWithin w (with_rank w c rank).intervals
with_rank_within w c rank all = by (nat_eq rank (known_ranks c))
  where
    by : (b : Bool) → AreWithin w (let d : Case = if b then tightened w (extended w c) else c in d.intervals)
    by true = tightened_within w w (extended w c) (extended_within w c all)
    by false = all

-- ---- the case that has a rank

-- the next one
pub known_next : {a b d : CaseRoom} {c : Case} (rank : ℕ) → IsCaseOf a c → length a.widths.intervals.items ≤ rank → rank ≤ length a.widths.intervals.items →
    IsFurther a b → IsCaseOf d (tightened b.widths.wires (extended a.widths.wires c)) → IsCaseOf d (with_rank a.widths.wires c rank)
known_next {a} {d} {c} rank is least most further next =
    let same : rank ≡ known_ranks c = omega (arith, ap length is.intervals, least, most) in
    rw (eq-eqb rank (known_ranks c) same) (subst (λ w. IsCaseOf d (tightened w (extended a.widths.wires c))) further.widths.wires next)

-- it is known then
pub next_below : {a d : CaseRoom} {c : Case} (v w rank : ℕ) → IsCaseOf a c → rank ≤ length a.widths.intervals.items → IsCaseOf d (tightened v (extended w c)) →
    rank < length d.widths.intervals.items
next_below {a} {d} {c} v w rank is most next =
    let kept = tight_length (spare v (c.intervals ++ interval 0 w ∷ [])) (c.intervals ++ interval 0 w ∷ []) in
    omega (arith, ap length is.intervals, length-append c.intervals (interval 0 w ∷ []), kept, ap length next.intervals, most)

-- ---- the rule of a width

interval_is : {room : CaseRoom} {d : Case} (rank : ℕ) {i : Interval} → IsCaseOf room d → i ≡ interval_of room.widths.intervals.items rank →
    i ≡ interval_of d.intervals rank
interval_is rank is at = at ∙ ap (λ l. interval_of l rank) is.intervals

pub wide_now : {a room : CaseRoom} {c : Case} (w rank width : ℕ) {i : Interval} → IsCaseOf a c → rank ≤ length a.widths.intervals.items → rank < 256 →
    IsCaseOf room (with_rank w c rank) → rank < length room.widths.intervals.items → i ≡ interval_of room.widths.intervals.items rank →
    (i.low ≤ width) × (width < i.high) → IsWideNow room w c rank width
wide_now {a} {c} w rank width {i} is most few now within at inside =
    let here = interval_is rank now at in
    record {
      rule = record {
        known = omega (arith, ap length is.intervals, most);
        few = few;
        some = subst (λ (j : Interval). j.low ≤ width) here inside.0;
        below = subst (λ (j : Interval). width < j.high) here inside.1;
      };
      case = now;
      within = within;
    }

pub not_wide : {room : CaseRoom} (c : Case) (w rank width : ℕ) {i : Interval} → IsCaseOf room (with_rank w c rank) → i ≡ interval_of room.widths.intervals.items rank →
    (i.low ≤ width → i.high ≤ width) → IsWide w c rank width → ⊥
not_wide c w rank width {i} now at outside rule =
    let here = interval_is rank now at in
    let some = subst (λ (j : Interval). j.low ≤ width) (sym here) rule.some in
    omega (arith, outside some, subst (λ (j : Interval). width < j.high) (sym here) rule.below)
