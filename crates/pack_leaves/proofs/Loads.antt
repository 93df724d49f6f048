-- Item by item the greatest worth of a load is found.
use Rattle.std.proofs.Common.{◌≡◌, ℕ, zero, suc, ◌+◌, ◌-◌, ◌<◌, ◌≤◌, Bool, true, false, max, refl, sym, ap, ◌∙◌, subst, arith, inl, inr, if◌then◌else◌}
use Rattle.std.proofs.lemmas.Bool.{cases_lt, cases_eq, le-leb, lt-leb}
use Rattle.plan_model.specs.Bounds.{sum_below}
use Rattle.pack_leaves.specs.Greatest.{IsGreatest}
use Rattle.pack_leaves.specs.Knapsacks.{IsLoad, load_worth, with_item, most_worth, LoadsAreMost}
use Rattle.pack_leaves.proofs.Sums.{sum_next, sum_none, put_at, put_same, put_other, put_behind}

pub worth_next : (may : ℕ → Bool) (time net : ℕ → ℕ) (i cells : ℕ) → most_worth may time net (suc i) cells ≡ with_item (may i) (time i) (net i) (most_worth may time net i) cells
unfolding most_worth
worth_next may time net i cells = refl

pub worth_none : (may : ℕ → Bool) (time net : ℕ → ℕ) (cells : ℕ) → most_worth may time net 0 cells ≡ 0
unfolding most_worth
worth_none may time net cells = refl

-- ---- one item more

-- the item that fits, or not
with-fits : (time net : ℕ) (row : ℕ → ℕ) (cells : ℕ) → time ≤ cells → with_item true time net row cells ≡ max (row cells) (net + row (cells - time))
with-fits time net row cells fits = rw (le-leb time cells fits) refl

with-none : (time net : ℕ) (row : ℕ → ℕ) (cells : ℕ) → cells < time → with_item true time net row cells ≡ row cells
with-none time net row cells less = rw (lt-leb time cells less) refl

-- what is taken with the last item, or without it
abbrev sum_taken : (ℕ → ℕ) → (ℕ → Bool) → ℕ → ℕ
sum_taken f taken n = sum_below (λ i. if taken i then f i else 0) n

put_sum : (f : ℕ → ℕ) (taken : ℕ → Bool) (i : ℕ) (b : Bool) → sum_taken f (put_at taken i b) (suc i) ≡ sum_taken f taken i + (if b then f i else 0)
put_sum f taken i b =
    let last : (if put_at taken i b i then f i else 0) ≡ (if b then f i else 0) = ap (λ x. if x then f i else 0) (put_same taken i b) in
    let rest : sum_taken f (put_at taken i b) i ≡ sum_taken f taken i = put_behind taken (λ j x. if x then f j else 0) i i b (omega arith) in
    omega (arith, last, rest, sum_next (λ j. if put_at taken i b j then f j else 0) i)

-- a load of the items before it, with or without it
put_load : (cells less i : ℕ) (may : ℕ → Bool) (time : ℕ → ℕ) (taken : ℕ → Bool) (b : Bool) → IsLoad less i may time taken → (b ≡ true → may i ≡ true) → less + (if b then time i else 0) ≤ cells → IsLoad cells (suc i) may time (put_at taken i b)
put_load cells less i may time taken b load allowed fits = record {
  allowed = λ j within is. one j within is;
  fits = omega (arith, put_sum time taken i b, load.fits, fits);
}
  where
    one : (j : ℕ) → j < suc i → put_at taken i b j ≡ true → may j ≡ true
    one j within is = elim (cases_eq j i) [
      | inl last ↦
          let b_is : b ≡ true = sym (put_same taken i b) ∙ ap (put_at taken i b) (sym last) ∙ is in
          ap may last ∙ allowed b_is
      | inr other ↦ load.allowed j (omega (arith, within, other)) (sym (put_other taken i j b other) ∙ is)
    ]

abbrev IsMost : (may : ℕ → Bool) (time net : ℕ → ℕ) (count cells n : ℕ) → Type 0
IsMost may time net count cells n = IsGreatest (IsLoad cells count may time) (load_worth count net) n

-- a load of one more, by whether it takes the last
front_load : (cells less i : ℕ) (may : ℕ → Bool) (time : ℕ → ℕ) (taken : ℕ → Bool) (b : Bool) → taken i ≡ b → IsLoad cells (suc i) may time taken → cells ≡ less + (if b then time i else 0) → IsLoad less i may time taken
front_load cells less i may time taken b is load same =
    let last : (if taken i then time i else 0) ≡ (if b then time i else 0) = ap (λ x. if x then time i else 0) is in
    record {
      allowed = λ j within at. load.allowed j (omega (arith, within)) at;
      fits = omega (arith, load.fits, last, same, sum_next (λ j. if taken j then time j else 0) i);
    }

max_first : (m n : ℕ) → n ≤ m → max m n ≡ m
max_first m n h = omega (arith, h)

max_second : (m n : ℕ) → m ≤ n → max m n ≡ n
max_second m n h = omega (arith, h)

-- without the last item
skipped : (may : ℕ → Bool) (time net : ℕ → ℕ) (i cells n : ℕ) → IsMost may time net i cells n → ((taken : ℕ → Bool) → IsLoad cells (suc i) may time taken → taken i ≡ true → load_worth (suc i) net taken ≤ n) → IsMost may time net (suc i) cells n
skipped may time net i cells n g with_it = record {
  best = put_at g.best i false;
  is = put_load cells cells i may time g.best false g.is (λ e. absurd cc) (omega arith);
  reached = (let s = put_sum net g.best i false in let r = g.reached in omega (arith, s, r));
  most = λ taken load. by taken load (taken i) refl;
}
  where
    by : (taken : ℕ → Bool) → IsLoad cells (suc i) may time taken → (b : Bool) → taken i ≡ b → load_worth (suc i) net taken ≤ n
    by taken load true is = with_it taken load is
    by taken load false is =
        let last : (if taken i then net i else 0) ≡ 0 = ap (λ x. if x then net i else 0) is in
        omega (arith, last, g.most taken (front_load cells cells i may time taken false is load (omega arith)), sum_next (λ j. if taken j then net j else 0) i)

-- with it, where that is worth no less
taken_in : (may : ℕ → Bool) (time net : ℕ → ℕ) (i cells m n : ℕ) → may i ≡ true → time i ≤ cells → IsMost may time net i cells m → IsMost may time net i (cells - time i) n → m ≤ net i + n → IsMost may time net (suc i) cells (net i + n)
taken_in may time net i cells m n is fits without within more = record {
  best = put_at within.best i true;
  is = put_load cells (cells - time i) i may time within.best true within.is (λ e. is) (omega (arith, fits));
  reached = (let s = put_sum net within.best i true in let r = within.reached in omega (arith, s, r));
  most = λ taken load. by taken load (taken i) refl;
}
  where
    by : (taken : ℕ → Bool) → IsLoad cells (suc i) may time taken → (b : Bool) → taken i ≡ b → load_worth (suc i) net taken ≤ net i + n
    by taken load true at =
        let last : (if taken i then net i else 0) ≡ net i = ap (λ x. if x then net i else 0) at in
        omega (arith, last, within.most taken (front_load cells (cells - time i) i may time taken true at load (omega (arith, fits))), sum_next (λ j. if taken j then net j else 0) i)
    by taken load false at =
        let last : (if taken i then net i else 0) ≡ 0 = ap (λ x. if x then net i else 0) at in
        omega (arith, last, more, without.most taken (front_load cells cells i may time taken false at load (omega arith)), sum_next (λ j. if taken j then net j else 0) i)

-- the last item in a load takes its time
last-fits : (may : ℕ → Bool) (time : ℕ → ℕ) (i cells : ℕ) (taken : ℕ → Bool) → IsLoad cells (suc i) may time taken → taken i ≡ true → time i + sum_taken time taken i ≤ cells
last-fits may time i cells taken load at =
    let last : (if taken i then time i else 0) ≡ time i = ap (λ x. if x then time i else 0) at in
    omega (arith, last, load.fits, sum_next (λ j. if taken j then time j else 0) i)

next_most : (may : ℕ → Bool) (time net : ℕ → ℕ) (i cells : ℕ) (row : ℕ → ℕ) → ((x : ℕ) → IsMost may time net i x (row x)) → (b : Bool) → may i ≡ b → IsMost may time net (suc i) cells (with_item b (time i) (net i) row cells)
next_most may time net i cells row each false out =
    skipped may time net i cells (row cells) (each cells) (λ taken load at. let also : may i ≡ true = load.allowed i (omega arith) at in absurd cc)
next_most may time net i cells row each true into = elim (cases_lt cells (time i)) [
  | inl many ↦ subst (IsMost may time net (suc i) cells) (sym (with-none (time i) (net i) row cells (omega (arith, many))))
      (skipped may time net i cells (row cells) (each cells) (λ taken load at. let f = last-fits may time i cells taken load at in absurd (omega (arith, f, many))))
  | inr fits ↦ elim (cases_lt (row cells) (net i + row (cells - time i))) [
    | inr less ↦ subst (IsMost may time net (suc i) cells) (sym (with-fits (time i) (net i) row cells fits ∙ max_first (row cells) (net i + row (cells - time i)) less))
        (skipped may time net i cells (row cells) (each cells) (λ taken load at.
        let last : (if taken i then net i else 0) ≡ net i = ap (λ x. if x then net i else 0) at in
        let rest : load_worth i net taken ≤ row (cells - time i) = (each (cells - time i)).most taken (front_load cells (cells - time i) i may time taken true at load (omega (arith, fits))) in
        omega (arith, last, rest, less, sum_next (λ j. if taken j then net j else 0) i)))
    | inl more ↦ subst (IsMost may time net (suc i) cells) (sym (with-fits (time i) (net i) row cells fits ∙ max_second (row cells) (net i + row (cells - time i)) (omega (arith, more))))
        (taken_in may time net i cells (row cells) (row (cells - time i)) into fits (each cells) (each (cells - time i)) (omega (arith, more)))
  ]
]

pub loads_are_most : LoadsAreMost
loads_are_most may time net zero cells = subst (IsMost may time net 0 cells) (sym (worth_none may time net cells)) (record {
  best = λ i. false;
  is = record { allowed = λ i less is. absurd (omega (arith, less)); fits = omega (arith, sum_none (λ i. 0)) };
  reached = sum_none (λ i. 0);
  most = λ taken load. omega (arith, sum_none (λ i. if taken i then net i else 0));
})
loads_are_most may time net (suc i) cells = subst (IsMost may time net (suc i) cells) (sym (worth_next may time net i cells))
    (next_most may time net i cells (most_worth may time net i) (λ x. loads_are_most may time net i x) (may i) refl)

with_item-le : (b : Bool) (time net : ℕ) (row : ℕ → ℕ) (m : ℕ) → ((x : ℕ) → row x ≤ m) → (cells : ℕ) → with_item b time net row cells ≤ m + net
with_item-le false time net row m each cells = omega (arith, each cells)
with_item-le true time net row m each cells = elim (cases_lt cells time) [
  | inl many ↦ omega (arith, with-none time net row cells many, each cells)
  | inr fits ↦ omega (arith, with-fits time net row cells fits, each cells, each (cells - time))
]

-- no load is worth more than all items
pub worth-le : (may : ℕ → Bool) (time net : ℕ → ℕ) (count cells : ℕ) → most_worth may time net count cells ≤ sum_below net count
worth-le may time net zero cells = omega (arith, worth_none may time net cells, sum_none net)
worth-le may time net (suc i) cells =
    omega (arith, worth_next may time net i cells, with_item-le (may i) (time i) (net i) (most_worth may time net i) (sum_below net i) (λ x. worth-le may time net i x) cells, sum_next net i)
