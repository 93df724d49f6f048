-- Bus by bus the greatest worth of a sharing is found.
use Rattle.std.proofs.Common.{◌≡◌, ℕ, zero, suc, ◌+◌, ◌-◌, ◌<◌, ◌≤◌, sym, ap, ◌∙◌, subst, arith, inl, inr}
use Rattle.std.proofs.lemmas.Bool.{cases_eq}
use Rattle.plan_model.specs.Bounds.{sum_below}
use Rattle.pack_leaves.specs.Sharings.{Sharing, IsSharing, sharing_worth, IsMostShared, IsWidth, IsWithRank, IsWithRest}
use Rattle.pack_leaves.proofs.Sums.{sum_next, sum_none, put_at, put_same, put_other, put_behind}

-- ---- buses of the rest

-- some buses of the rest within x wires
record IsRest (high x buses : ℕ) (widths : ℕ → ℕ) : Type 0 where
  low : (bus : ℕ) → bus < buses → widths bus ≤ high
  fits : sum_below widths buses ≤ x

record MostRest (rest : ℕ → ℕ) (high x n : ℕ) : Type 0 where
  buses : ℕ
  widths : ℕ → ℕ
  is : IsRest high x buses widths
  reached : sum_below (λ bus. rest (widths bus)) buses ≡ n

-- no buses of the rest are worth more
rest-le : (rest row : ℕ → ℕ) (high end : ℕ) → rest 0 ≡ 0 → ((x : ℕ) → x < end → IsWithRest rest row high x (row x)) → (buses : ℕ) (widths : ℕ → ℕ) (x : ℕ) → x < end → IsRest high x buses widths → sum_below (λ bus. rest (widths bus)) buses ≤ row x
rest-le rest row high end none filled zero widths x within is = omega (arith, sum_none (λ bus. rest (widths bus)))
rest-le rest row high end none filled (suc n) widths x within is = elim (cases_eq (widths n) 0) [
  | inl empty ↦
      let zero_worth : rest (widths n) ≡ 0 = ap rest empty ∙ none in
      let ih : sum_below (λ bus. rest (widths bus)) n ≤ row x = rest-le rest row high end none filled n widths x within (record { low = λ bus less. is.low bus (omega (arith, less)); fits = omega (arith, is.fits, sum_next widths n) }) in
      omega (arith, zero_worth, ih, sum_next (λ bus. rest (widths bus)) n)
  | inr some ↦
      let sums = sum_next widths n in
      let width : IsWidth 1 high x (widths n) = record { from = omega (arith, some); to = is.low n (omega arith); within = omega (arith, is.fits, sums) } in
      let ih : sum_below (λ bus. rest (widths bus)) n ≤ row (x - widths n) = rest-le rest row high end none filled n widths (x - widths n) (omega (arith, within)) (record { low = λ bus less. is.low bus (omega (arith, less)); fits = omega (arith, is.fits, sums) }) in
      let most : rest (widths n) + row (x - widths n) ≤ row x = (filled x within).most (widths n) width in
      omega (arith, ih, most, sum_next (λ bus. rest (widths bus)) n)
]

-- one bus more
one_more : (rest : ℕ → ℕ) (high x width n : ℕ) → IsWidth 1 high x width → MostRest rest high (x - width) n → MostRest rest high x (rest width + n)
one_more rest high x width n is m = record {
  buses = suc m.buses;
  widths = put_at m.widths m.buses width;
  is = record {
    low = λ bus less. low bus less;
    fits = (let last = put_same m.widths m.buses width in let before = put_behind m.widths (λ i w. w) m.buses m.buses width (omega arith) in
        omega (arith, last, before, m.is.fits, is.within, sum_next (put_at m.widths m.buses width) m.buses));
  };
  reached = (let last : rest (put_at m.widths m.buses width m.buses) ≡ rest width = ap rest (put_same m.widths m.buses width) in let before = put_behind m.widths (λ i w. rest w) m.buses m.buses width (omega arith) in
      let r = m.reached in omega (arith, last, before, r, sum_next (λ bus. rest (put_at m.widths m.buses width bus)) m.buses));
}
  where
    low : (bus : ℕ) → bus < suc m.buses → put_at m.widths m.buses width bus ≤ high
    low bus less = elim (cases_eq bus m.buses) [
      | inl last ↦ let e : put_at m.widths m.buses width bus ≡ width = ap (put_at m.widths m.buses width) last ∙ put_same m.widths m.buses width in omega (arith, e, is.to)
      | inr other ↦ omega (arith, put_other m.widths m.buses bus width other, m.is.low bus (omega (arith, less, other)))
    ]

-- what the row says is reached
rest_reached : (rest row : ℕ → ℕ) (high end : ℕ) → ((x : ℕ) → x < end → IsWithRest rest row high x (row x)) → (fuel x : ℕ) → x < fuel → x < end → MostRest rest high x (row x)
rest_reached rest row high end filled zero x less within = absurd (omega (arith, less))
rest_reached rest row high end filled (suc fuel) x less within = elim (cases_eq (row x) 0) [
  | inl nothing ↦ record { buses = 0; widths = λ bus. 0; is = record { low = λ bus l. absurd (omega (arith, l)); fits = omega (arith, sum_none (λ bus. 0)) }; reached = (let s = sum_none (λ bus. rest 0) in omega (arith, s, nothing)) }
  | inr some ↦
      let r = (filled x within).reached some in
      let w = r.1 in
      let fewer : MostRest rest high (x - r.0) (row (x - r.0)) = rest_reached rest row high end filled fuel (x - r.0) (omega (arith, less, w.from, w.within)) (omega (arith, within)) in
      subst (MostRest rest high x) r.2 (one_more rest high x r.0 (row (x - r.0)) r.1 fewer)
]

-- a row of the rest says the most of sharings without a known rank
pub rest_most : (rest row : ℕ → ℕ) (ranks : ℕ → ℕ → ℕ) (spans : ℕ → ℕ) (high end : ℕ) → rest 0 ≡ 0 → ((x : ℕ) → x < end → IsWithRest rest row high x (row x)) → (x : ℕ) → x < end → IsMostShared rest ranks spans high 0 x (row x)
rest_most rest row ranks spans high end none filled x within =
    let m = rest_reached rest row high end filled (suc x) x (omega arith) within in
    record {
      best = record { buses = m.buses; rest = m.widths; ranks = λ rank. 0 };
      is = record { rest = m.is.low; ranks = λ rank less. absurd (omega (arith, less)); fits = omega (arith, m.is.fits, sum_none (λ rank. 0)) };
      reached = (let r = m.reached in let s = sum_none (λ rank. ranks rank 0) in omega (arith, r, s));
      most = λ s is. (let fits = is.fits in let le = rest-le rest row high end none filled s.buses s.rest x within (record { low = is.rest; fits = omega (arith, fits, sum_none s.ranks) }) in omega (arith, le, sum_none (λ rank. ranks rank (s.ranks rank))));
    }

-- ---- one rank more

abbrev with_rank : Sharing → (known width : ℕ) → Sharing
with_rank s known width = record { buses = s.buses; rest = s.rest; ranks = put_at s.ranks known width }

pub rank_most : (rest row : ℕ → ℕ) (ranks : ℕ → ℕ → ℕ) (spans : ℕ → ℕ) (high known end : ℕ) → ((x : ℕ) → x < end → IsMostShared rest ranks spans high known x (row x)) →
    (x n : ℕ) → x < end → IsWithRank (ranks known) row (spans known) x n → IsMostShared rest ranks spans high (suc known) x n
rank_most rest row ranks spans high known end filled x n within g =
    let width : ℕ = g.best in
    let w = g.is in
    let f : IsMostShared rest ranks spans high known (x - g.best) (row (x - g.best)) = filled (x - g.best) (omega (arith, within)) in
    let last : put_at f.best.ranks known g.best known ≡ g.best = put_same f.best.ranks known g.best in
    record {
      best = with_rank f.best known g.best;
      is = record {
        rest = f.is.rest;
        ranks = λ rank less. low f.best.ranks g.best f.is.ranks w.to rank less;
        fits = (let before = put_behind f.best.ranks (λ i d. d) known known g.best (omega arith) in
            omega (arith, last, before, f.is.fits, w.within, sum_next (put_at f.best.ranks known g.best) known));
      };
      reached = (let before = put_behind f.best.ranks (λ i d. ranks i d) known known g.best (omega arith) in let r = f.reached in let t = g.reached in let e : ranks known (put_at f.best.ranks known g.best known) ≡ ranks known g.best = ap (ranks known) last in
          omega (arith, before, r, t, e, sum_next (λ rank. ranks rank (put_at f.best.ranks known g.best rank)) known));
      most = most;
    }
  where
    low : (before : ℕ → ℕ) (width : ℕ) → ((rank : ℕ) → rank < known → before rank ≤ spans rank) → width ≤ spans known → (rank : ℕ) → rank < suc known → put_at before known width rank ≤ spans rank
    low before width each to rank less = elim (cases_eq rank known) [
      | inl last ↦ subst (λ r. put_at before known width r ≤ spans r) (sym last) (let e = put_same before known width in omega (arith, e, to))
      | inr other ↦ omega (arith, put_other before known rank width other, each rank (omega (arith, less, other)))
    ]

    most : (s : Sharing) → IsSharing spans high (suc known) x s → sharing_worth rest ranks (suc known) s ≤ n
    most s is =
        let sums = sum_next s.ranks known in
        let fits = is.fits in
        let width : IsWidth 0 (spans known) x (s.ranks known) = record { from = omega arith; to = is.ranks known (omega arith); within = omega (arith, fits, sums) } in
        let before : sharing_worth rest ranks known s ≤ row (x - s.ranks known) =
        (filled (x - s.ranks known) (omega (arith, within))).most s (record { rest = is.rest; ranks = λ rank less. is.ranks rank (omega (arith, less)); fits = omega (arith, fits, sums) }) in
        let this : ranks known (s.ranks known) + row (x - s.ranks known) ≤ n = g.most (s.ranks known) width in
        omega (arith, before, this, sum_next (λ rank. ranks rank (s.ranks rank)) known)
