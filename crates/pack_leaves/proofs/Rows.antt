-- Rows of numbers that are filled one by one.
use Rattle.std.proofs.Common.{◌≡◌, ◌⊎◌, ℕ, suc, ◌+◌, ◌-◌, ◌*◌, ◌^◌, ◌<◌, ◌≤◌, max, List, length, refl, sym, ap, ◌∙◌, subst, arith, inl, inr, true, slice_index, slice_set}
use Rattle.std.proofs.lemmas.Bool.{cases_lt, cases_eq, le-leb, lt-leb}
use Rattle.std.proofs.lemmas.List.{get_or-set_same, get_or-set_other, length-set}
use Rattle.pack_leaves.specs.Knapsacks.{with_item}
use Rattle.pack_leaves.specs.Sharings.{IsWidth, with_bus, IsWithRank, IsWithRest}

pub set_at : (xs : List ℕ) (i v : ℕ) → i < length xs → slice_index (slice_set xs i v) i ≡ v
set_at xs i v within = get_or-set_same xs i v 0 within

pub set_off : (xs : List ℕ) (i j v : ℕ) → (j ≡ i → ⊥) → slice_index (slice_set xs i v) j ≡ slice_index xs j
set_off xs i j v other = get_or-set_other xs i j v 0 other

-- ---- items

pub item_same : (cells net x : ℕ) (f g : ℕ → ℕ) → ((y : ℕ) → y ≤ x → f y ≡ g y) → with_item true cells net f x ≡ with_item true cells net g x
item_same cells net x f g same = elim (cases_lt x cells) [
  | inl few ↦ rw (lt-leb cells x few) (same x (omega arith))
  | inr fits ↦
      let one : f x ≡ g x = same x (omega arith) in
      let two : f (x - cells) ≡ g (x - cells) = same (x - cells) (omega arith) in
      rw (le-leb cells x fits) (ap (λ a. max a (net + f (x - cells))) one ∙ ap (λ b. max (g x) (net + b)) two)
]

-- where all from `x` on are done and those before are as they were
pub record IsDone (F : (ℕ → ℕ) → ℕ → ℕ → Type 0) (end x : ℕ) (before now : List ℕ) : Type 0 where
  pub long : length now ≡ length before
  pub room : end ≤ length before
  pub within : x ≤ end
  pub done : (y : ℕ) → x ≤ y → y < end → F (slice_index before) y (slice_index now y)
  pub left : (y : ℕ) → y < x → slice_index now y ≡ slice_index before y

pub done_none : (F : (ℕ → ℕ) → ℕ → ℕ → Type 0) (end : ℕ) (row : List ℕ) → end ≤ length row → IsDone F end end row row
done_none F end row within = record { long = refl; room = within; within = omega arith; done = λ y from less. absurd (omega (arith, from, less)); left = λ y less. refl }

pub done_next : (F : (ℕ → ℕ) → ℕ → ℕ → Type 0) (end x next v : ℕ) (before now after : List ℕ) → IsDone F end x before now → x ≡ suc next → after ≡ slice_set now next v → F (slice_index before) next v → IsDone F end next before after
done_next F end x next v before now after d is set this = subst (IsDone F end next before) (sym set) (record {
  long = length-set now next v ∙ d.long;
  room = d.room;
  within = omega (arith, d.within, is);
  done = λ y from less. elim (cases_eq y next) [
    | inl here ↦ subst (λ k. F (slice_index before) k (slice_index (slice_set now next v) k)) (sym here) (subst (F (slice_index before) next) (sym (set_at now next v (omega (arith, d.long, d.room, d.within, is)))) this)
    | inr other ↦ subst (F (slice_index before) y) (sym (set_off now next y v other)) (d.done y (omega (arith, from, other, is)) less)
  ];
  left = λ y less. set_off now next y v (λ e. omega (arith, e, less)) ∙ d.left y (omega (arith, less, is));
})

abbrev pub IsItem : (cells net : ℕ) → (ℕ → ℕ) → ℕ → ℕ → Type 0
IsItem cells net row x n = n ≡ with_item true cells net row x

-- the places before the item's cells stay
pub items_all : (cells net end x y : ℕ) (before now : List ℕ) → IsDone (IsItem cells net) end x before now → x ≤ cells ⊎ (x ≡ 0) → y < end → slice_index now y ≡ with_item true cells net (slice_index before) y
items_all cells net end x y before now d few within = elim (cases_lt y x) [
  | inr from ↦ d.done y from within
  | inl less ↦ d.left y less ∙ sym (rw (lt-leb cells y (short few less)) refl)
]
  where
    short : x ≤ cells ⊎ (x ≡ 0) → y < x → y < cells
    short (inl f) l = omega (arith, f, l)
    short (inr z) l = absurd (omega (arith, z, l))

-- ---- buses

pub rank_same : (worth f g : ℕ → ℕ) (span x n : ℕ) → ((y : ℕ) → y ≤ x → f y ≡ g y) → IsWithRank worth f span x n → IsWithRank worth g span x n
rank_same worth f g span x n same h = record {
  best = h.best;
  is = h.is;
  reached = (let e = same (x - h.best) (omega arith) in let r = h.reached in omega (arith, e, r));
  most = λ w is. (let e = same (x - w) (omega arith) in let m = h.most w is in omega (arith, e, m));
}

pub rest_same : (worth f g : ℕ → ℕ) (high x n : ℕ) → ((y : ℕ) → y < x → f y ≡ g y) → IsWithRest worth f high x n → IsWithRest worth g high x n
rest_same worth f g high x n same h = record {
  reached = λ some. (let r = h.reached some in let w = r.1 in let e = same (x - r.0) (omega (arith, w.from, w.within)) in let t = r.2 in (r.0, r.1, omega (arith, e, t)));
  most = λ width is. (let e = same (x - width) (omega (arith, is.from, is.within)) in let m = h.most width is in omega (arith, e, m));
}

-- what is found over the widths of a bus below `end`
pub record IsFoundTo (worth row : ℕ → ℕ) (first high x end n : ℕ) : Type 0 where
  pub most : (width : ℕ) → width < end → IsWidth first high x width → with_bus worth row x width ≤ n
  pub reached : (n ≡ 0 → ⊥) → (width : ℕ) × IsWidth first high x width × (with_bus worth row x width ≡ n)

pub found_next : (worth row : ℕ → ℕ) (first high x end n next : ℕ) → IsFoundTo worth row first high x end n → IsWidth first high x end → next ≡ max n (with_bus worth row x end) → IsFoundTo worth row first high x (end + 1) next
found_next worth row first high x end n next f is next_is = record {
  most = λ width less at. elim (cases_eq width end) [
    | inl here ↦ (let e : with_bus worth row x width ≡ with_bus worth row x end = ap (with_bus worth row x) here in omega (arith, e, next_is))
    | inr other ↦ (let m = f.most width (omega (arith, less, other)) at in omega (arith, m, next_is))
  ];
  reached = λ some. elim (cases_lt n (with_bus worth row x end)) [
    | inl more ↦ (end, is, omega (arith, more, next_is))
    | inr less ↦ (let same : next ≡ n = omega (arith, less, next_is) in let r = f.reached (λ e. some (same ∙ e)) in let t = r.2 in (r.0, r.1, t ∙ sym same))
  ];
}

-- what is found over all widths of a bus
pub record IsMostWith (worth row : ℕ → ℕ) (first high x n : ℕ) : Type 0 where
  pub most : (width : ℕ) → IsWidth first high x width → with_bus worth row x width ≤ n
  pub reached : (n ≡ 0 → ⊥) → (width : ℕ) × IsWidth first high x width × (with_bus worth row x width ≡ n)

-- with no wire for it there is a width always
pub most_rank : (worth row : ℕ → ℕ) (span x n : ℕ) → IsMostWith worth row 0 span x n → IsWithRank worth row span x n
most_rank worth row span x n m = elim (cases_eq n 0) [
  | inl nothing ↦ (let one : IsWidth 0 span x 0 = record { from = omega arith; to = omega arith; within = omega arith } in let le = m.most 0 one in
      record { best = 0; is = one; reached = omega (arith, le, nothing); most = m.most })
  | inr some ↦ (let r = m.reached some in record { best = r.0; is = r.1; reached = r.2; most = m.most })
]

-- a row of the rest, up to a number of wires
pub record IsFilled (worth : ℕ → ℕ) (high x : ℕ) (row : List ℕ) : Type 0 where
  pub filled : (y : ℕ) → y < x → IsWithRest worth (slice_index row) high y (slice_index row y)
  pub small : (y : ℕ) → y < x → slice_index row y ≤ y * 10 ^ 18

pub filled_next : (worth : ℕ → ℕ) (high x v : ℕ) (row : List ℕ) → ((w : ℕ) → w ≤ high → worth w ≤ 10 ^ 18) → x < length row → IsFilled worth high x row → IsMostWith worth (slice_index row) 1 high x v → IsFilled worth high (suc x) (slice_set row x v)
filled_next worth high x v row few within f m = record { filled = filled; small = small }
  where
    same : (y : ℕ) → y < x → slice_index row y ≡ slice_index (slice_set row x v) y
    same y less = sym (set_off row x y v (λ e. omega (arith, e, less)))

    this : IsWithRest worth (slice_index (slice_set row x v)) high x v
    this = rest_same worth (slice_index row) (slice_index (slice_set row x v)) high x v same (record { reached = m.reached; most = m.most })

    filled : (y : ℕ) → y < suc x → IsWithRest worth (slice_index (slice_set row x v)) high y (slice_index (slice_set row x v) y)
    filled y less = elim (cases_eq y x) [
      | inl here ↦ subst (λ k. IsWithRest worth (slice_index (slice_set row x v)) high k (slice_index (slice_set row x v) k)) (sym here) (subst (IsWithRest worth (slice_index (slice_set row x v)) high x) (sym (set_at row x v within)) this)
      | inr other ↦
          let before : y < x = omega (arith, less, other) in
          rest_same worth (slice_index row) (slice_index (slice_set row x v)) high y (slice_index (slice_set row x v) y) (λ k l. same k (omega (arith, l, before))) (subst (IsWithRest worth (slice_index row) high y) (same y before) (f.filled y before))
    ]

    v-le : v ≤ x * 10 ^ 18
    v-le = elim (cases_eq v 0) [
      | inl nothing ↦ omega (arith, nothing)
      | inr some ↦
          let r = m.reached some in
          let w = r.1 in
          let e = r.2 in
          let rest : slice_index row (x - r.0) ≤ (x - r.0) * 10 ^ 18 = f.small (x - r.0) (omega (arith, w.from, w.within)) in
          let own : worth r.0 ≤ 10 ^ 18 = few r.0 w.to in
          omega (arith, e, rest, own, w.from, w.within)
    ]

    small : (y : ℕ) → y < suc x → slice_index (slice_set row x v) y ≤ y * 10 ^ 18
    small y less = elim (cases_eq y x) [
      | inl here ↦ subst (λ k. slice_index (slice_set row x v) k ≤ k * 10 ^ 18) (sym here) (let e = set_at row x v within in omega (arith, e, v-le))
      | inr other ↦ (let e = same y (omega (arith, less, other)) in let s = f.small y (omega (arith, less, other)) in omega (arith, e, s))
    ]
