-- Ranks that are taken from modules, bit by bit, and the cases that this gives.
use Rattle.std.proofs.Common.{◌≡◌, ◌≢◌, ◌⊎◌, inl, inr, ℕ, ◌+◌, ◌*◌, ◌/◌, ◌%◌, ◌≤◌, ◌<◌, Bool, true, false, not, List, ◌∷◌, length, take, get_or, set, refl, sym, ap, ◌∙◌, subst, arith, mul-le-mul_right, mul_comm, ◌-◌, [], ◌++◌, add-mul, nat_eq, ◌&&◌, if◌then◌else◌}
use Rattle.std.specs.List.{list_any}
use Rattle.std.proofs.lemmas.Bool.{cases_eq, cases_Bool, eq-eqb, eqb-true, ne_eqb, or_cases, or_left, or_right}
use Rattle.std.proofs.lemmas.List.{length-set, get_or-set_same, get_or-set_other, length-append, length-take-le, get_or_append_left, get_or-append_right, get_or-take}
use Rattle.std.proofs.lemmas.List.Folds.{list_any_more}
use Rattle.std.proofs.lemmas.Nat.{mul-add-lt, div-mul-add, mod-mul-add}
use Rattle.leaf_bounds.specs.declared.places.Placing.{Placing}
use Rattle.leaf_bounds.specs.Cases.{Case, known_ranks, placed_on, placed_off, interval, extended}
use Rattle.leaf_bounds.specs.Takings.{bit_at}
use Rattle.leaf_bounds.specs.Bits.{bit_place, HasBits, HasPlace, IsWithout, IsNamed}

-- ==== ranks that are taken from one module, bit by bit, and the cases that this gives

-- ---- where bits stand

module _ {bits : List Bool} {at : Placing} where
  pub bit_within : (rank : ℕ) → HasPlace bits at → rank < at.known → bit_place at.modules at.place rank < length bits
  bit_within rank has less =
      let inside : bit_place at.modules at.place rank < at.modules * (at.known + 1) = mul-add-lt (rank + 1) at.modules at.place (at.known + 1) (omega arith) has.place in
      omega (arith, inside, mul_comm at.modules (at.known + 1), has.long)

  pub rest_within : HasPlace bits at → at.place < length bits
  rest_within has =
      let some : 1 * at.modules ≤ (at.known + 1) * at.modules = mul-le-mul_right at.modules (omega arith) in
      omega (arith, some, has.long, has.place)

-- as long as there are as many bits
pub place_still : {a : List Bool} (b : List Bool) {at : Placing} → HasPlace a at → length b ≡ length a → HasPlace b at
place_still b has long = record { place = has.place; modules = has.modules; known = has.known; long = long ∙ has.long }

module _ (n p q o r : ℕ) (p_less : p < n) (o_less : o < n) (e : bit_place n p q ≡ bit_place n o r) where
  same_rank : q ≡ r
  same_rank =
      omega (arith, sym (div-mul-add (q + 1) n p p_less) ∙ ap (λ i. i / n) e ∙ div-mul-add (r + 1) n o o_less)

  same_place : p ≡ o
  same_place =
      sym (mod-mul-add (q + 1) n p p_less) ∙ ap (λ i. i % n) e ∙ mod-mul-add (r + 1) n o o_less

on_rest : (n p o r : ℕ) → p < n → p ≢ bit_place n o r
on_rest n p o r less e =
    let some : 1 * n ≤ (r + 1) * n = mul-le-mul_right n (omega arith) in
    omega (arith, some, e, less)

-- ---- one rank more is taken

pub without_more : {n place : ℕ} (r : ℕ) (Taken More : ℕ → Type 0) {a b d : List Bool} → place < n → bit_place n place r < length b → IsWithout n place Taken a b →
    d ≡ set b (bit_place n place r) false → ((q : ℕ) → More q → Taken q ⊎ (q ≡ r)) → ((q : ℕ) → Taken q → More q) → More r → IsWithout n place More a d
without_more {n} {place} r Taken More {b} {d} less within x is from to this = record {
  long = ap length is ∙ length-set b (bit_place n place r) false ∙ x.long;
  taken = λ q more. at q (from q more) (cases_eq q r);
  kept = λ i other. ap (λ l. bit_at l i) is ∙ get_or-set_other b (bit_place n place r) i false false (other r this) ∙ x.kept i (λ q t. other q (to q t));
}
  where
    at : (q : ℕ) → Taken q ⊎ (q ≡ r) → (q ≡ r) ⊎ (q ≢ r) → bit_at d (bit_place n place q) ≡ false
    at q t (inl same) =
        ap (λ l. bit_at l (bit_place n place q)) is ∙ ap (λ k. get_or (set b (bit_place n place r) false) (bit_place n place k) false) same
        ∙ get_or-set_same b (bit_place n place r) false false within
    at q (inl t) (inr other) =
        ap (λ l. bit_at l (bit_place n place q)) is
        ∙ get_or-set_other b (bit_place n place r) (bit_place n place q) false false (λ e. other (same_rank n place q place r less less e)) ∙ x.taken q t
    at q (inr same) (inr other) = absurd (other same)

pub without_as : {n place : ℕ} (Taken More : ℕ → Type 0) {a b : List Bool} → IsWithout n place Taken a b → ((q : ℕ) → More q → Taken q) → ((q : ℕ) → Taken q → More q) →
    IsWithout n place More a b
without_as Taken More x from to = record {
  long = x.long;
  taken = λ q more. x.taken q (from q more);
  kept = λ i other. x.kept i (λ q t. other q (to q t));
}

other_than : {other rank : ℕ} (q : ℕ) → other ≡ rank → q ≢ rank → q ≢ other
other_than q same differs e = differs (e ∙ same)

-- all ranks below one more are taken, but for one
pub others_more : {n place : ℕ} (rank other : ℕ) {a b : List Bool} (d : List Bool) → place < n → bit_place n place other < length b →
    IsWithout n place (λ q. (q < other) × (q ≢ rank)) a b → (other ≢ rank → d ≡ set b (bit_place n place other) false) → (other ≡ rank → d ≡ b) →
    IsWithout n place (λ q. (q < other + 1) × (q ≢ rank)) a d
others_more {n} {place} rank other {a} d less within x changed kept = by (cases_eq other rank)
  where
    below : (q : ℕ) → (q < other + 1) × (q ≢ rank) → (q ≡ other) ⊎ (q ≢ other) → ((q < other) × (q ≢ rank)) ⊎ (q ≡ other)
    below q t (inl same) = inr same
    below q t (inr apart) = inl (omega (arith, t.0, apart), t.1)

    by : (other ≡ rank) ⊎ (other ≢ rank) → IsWithout n place (λ q. (q < other + 1) × (q ≢ rank)) a d
    by (inr apart) =
        without_more other (λ q. (q < other) × (q ≢ rank)) (λ q. (q < other + 1) × (q ≢ rank)) less within x (changed apart)
        (λ q t. below q t (cases_eq q other)) (λ q t. (omega (arith, t.0), t.1)) (omega arith, apart)
    by (inl same) =
        subst (IsWithout n place (λ q. (q < other + 1) × (q ≢ rank)) a) (sym (kept same))
        (without_as (λ q. (q < other) × (q ≢ rank)) (λ q. (q < other + 1) × (q ≢ rank)) x
        (λ q t. (omega (arith, t.0, other_than q same t.1), t.1)) (λ q t. (omega (arith, t.0), t.1)))

-- ---- the cases

and_true : (b : Bool) → b && true ≡ b
and_true true = refl
and_true false = refl

and_false : (b : Bool) → b && false ≡ false
and_false true = refl
and_false false = refl

-- the module is on one rank alone
pub placed_on_bits : {n known place : ℕ} (rank : ℕ) {a b d : List Bool} {c : Case} → place < n → place < length a → known_ranks c ≡ known → b ≡ set a place false →
    IsWithout n place (λ q. (q < known) × (q ≢ rank)) b d → HasBits n a c → HasBits n d (placed_on c rank place)
placed_on_bits {n} {place} rank {a} {b} {d} {c} less within known_is is x has = record {
  long = x.long ∙ ap length is ∙ length-set a place false ∙ has.long;
  rest = λ p p_less. rest p p_less (cases_eq p place);
  may = λ p q p_less q_less. may p q p_less q_less (cases_eq p place) (cases_eq q rank);
}
  where
    kept_rest : (p : ℕ) → p < n → bit_at d p ≡ bit_at (set a place false) p
    kept_rest p p_less = x.kept p (λ q t. on_rest n p place q p_less) ∙ ap (λ l. bit_at l p) is

    rest : (p : ℕ) → p < n → (p ≡ place) ⊎ (p ≢ place) → bit_at d p ≡ (if nat_eq p place then false else c.may_rest p)
    rest p p_less (inl same) = rw (eq-eqb p place same) (kept_rest p p_less ∙ ap (bit_at (set a place false)) same ∙ get_or-set_same a place false false within)
    rest p p_less (inr other) = rw (ne_eqb p place other) (kept_rest p p_less ∙ get_or-set_other a place p false false other ∙ has.rest p p_less)

    before : (p q : ℕ) → bit_at b (bit_place n p q) ≡ bit_at a (bit_place n p q)
    before p q = ap (λ l. bit_at l (bit_place n p q)) is ∙ get_or-set_other a place (bit_place n p q) false false (λ e. on_rest n place p q less (sym e))

    may : (p q : ℕ) → p < n → q < known_ranks c → (p ≡ place) ⊎ (p ≢ place) → (q ≡ rank) ⊎ (q ≢ rank) →
        bit_at d (bit_place n p q) ≡ (if nat_eq p place then c.may p q && nat_eq q rank else c.may p q)
    may p q p_less q_less (inl same) (inl here) =
        let kept : bit_at d (bit_place n p q) ≡ bit_at b (bit_place n p q) = x.kept (bit_place n p q) (λ r t e. t.1 (sym (same_rank n p q place r p_less less e) ∙ here)) in
        rw (eq-eqb p place same, eq-eqb q rank here) (kept ∙ before p q ∙ has.may p q p_less q_less ∙ sym (and_true (c.may p q)))
    may p q p_less q_less (inl same) (inr other) =
        let gone = x.taken q (omega (arith, q_less, known_is), other) in
        rw (eq-eqb p place same, ne_eqb q rank other) (ap (λ o. bit_at d (bit_place n o q)) same ∙ gone ∙ sym (and_false (c.may p q)))
    may p q p_less q_less (inr apart) _ =
        let kept = x.kept (bit_place n p q) (λ r t e. apart (same_place n p q place r p_less less e)) in
        rw (ne_eqb p place apart) (kept ∙ before p q ∙ has.may p q p_less q_less)

-- ---- ranks of a list

module _ (off : List ℕ) (i r : ℕ) where
  pub named_from : (q : ℕ) → i < length off → r ≡ get_or off i 0 → IsNamed (take (i + 1) off) q → IsNamed (take i off) q ⊎ (q ≡ r)
  named_from q less is named =
      by (or_cases (list_any (nat_eq q) (take i off)) (nat_eq q (get_or off i 0)) (sym (list_any_more (nat_eq q) off i 0 less) ∙ named))
    where
      by : (list_any (nat_eq q) (take i off) ≡ true) ⊎ (nat_eq q (get_or off i 0) ≡ true) → IsNamed (take i off) q ⊎ (q ≡ r)
      by (inl before) = inl before
      by (inr here) = inr (eqb-true q (get_or off i 0) here ∙ sym is)

  pub named_this : i < length off → r ≡ get_or off i 0 → IsNamed (take (i + 1) off) r
  named_this less is = list_any_more (nat_eq r) off i 0 less ∙ or_right (list_any (nat_eq r) (take i off)) (nat_eq r (get_or off i 0)) (eq-eqb r (get_or off i 0) is)

not_both : (ranks : List ℕ) {q r : ℕ} → IsNamed ranks r → list_any (nat_eq q) ranks ≡ false → q ≡ r → ⊥
not_both ranks named none e = clash (sym none ∙ ap (λ k. list_any (nat_eq k) ranks) e ∙ named)
  where
    clash : false ≡ true → ⊥
    clash h = cc

-- the module is on none of them
pub placed_off_bits : {n known place : ℕ} (rank : ℕ) (twins : List ℕ) {a d : List Bool} {c : Case} → place < n → known_ranks c ≡ known →
    IsWithout n place (IsNamed (rank ∷ twins)) a d → HasBits n a c → HasBits n d (placed_off c (rank ∷ twins) place)
placed_off_bits {n} {place} rank twins {a} {d} {c} less known_is x has = record {
  long = x.long ∙ has.long;
  rest = λ p p_less. x.kept p (λ q t. on_rest n p place q p_less) ∙ has.rest p p_less;
  may = λ p q p_less q_less. may p q p_less q_less (cases_eq p place) (cases_Bool (list_any (nat_eq q) (rank ∷ twins)));
}
  where
    may : (p q : ℕ) → p < n → q < known_ranks c → (p ≡ place) ⊎ (p ≢ place) → (list_any (nat_eq q) (rank ∷ twins) ≡ true) ⊎ (list_any (nat_eq q) (rank ∷ twins) ≡ false) →
        bit_at d (bit_place n p q) ≡ (if nat_eq p place then c.may p q && not (list_any (nat_eq q) (rank ∷ twins)) else c.may p q)
    may p q p_less q_less (inl same) (inl named) =
        rw (eq-eqb p place same, named) (ap (λ o. bit_at d (bit_place n o q)) same ∙ x.taken q named ∙ sym (and_false (c.may p q)))
    may p q p_less q_less (inl same) (inr other) =
        let kept = x.kept (bit_place n p q) (λ r t e. not_both (rank ∷ twins) t other (same_rank n p q place r p_less less e)) in
        rw (eq-eqb p place same, other) (kept ∙ has.may p q p_less q_less ∙ sym (and_true (c.may p q)))
    may p q p_less q_less (inr apart) _ =
        rw (ne_eqb p place apart) (x.kept (bit_place n p q) (λ r t e. apart (same_place n p q place r p_less less e)) ∙ has.may p q p_less q_less)

pub without_first : {n place : ℕ} (rank known : ℕ) (twins : List ℕ) {a b d : List Bool} → place < n → bit_place n place rank < length b →
    IsWithout n place (IsNamed twins) a b → d ≡ set b (bit_place n place rank) false → IsWithout n place (IsNamed (rank ∷ twins)) a d
without_first rank known twins less within x is =
    without_more rank (IsNamed twins) (IsNamed (rank ∷ twins)) less within x is
    (λ q named. by q (or_cases (nat_eq q rank) (list_any (nat_eq q) twins) named))
    (λ q named. or_right (nat_eq q rank) (list_any (nat_eq q) twins) named)
    (or_left (nat_eq rank rank) (list_any (nat_eq rank) twins) (eq-eqb rank rank refl))
  where
    by : (q : ℕ) → (nat_eq q rank ≡ true) ⊎ (list_any (nat_eq q) twins ≡ true) → IsNamed twins q ⊎ (q ≡ rank)
    by q (inl here) = inr (eqb-true q rank here)
    by q (inr before) = inl before

-- ==== what a change of the bits or of the intervals makes of the case of a room

-- what is said of modules stays where only intervals change
pub bits_same : {n : ℕ} {bits : List Bool} (c d : Case) → known_ranks d ≡ known_ranks c → d.may ≡ c.may → d.may_rest ≡ c.may_rest → HasBits n bits c → HasBits n bits d
bits_same {n} c d known may rest has = record {
  long = has.long ∙ ap (λ k. (k + 1) * n) (sym known);
  rest = λ p less. has.rest p less ∙ ap (λ f. f p) (sym rest);
  may = λ p q less q_less. has.may p q less (omega (arith, q_less, known)) ∙ ap (λ f. f p q) (sym may);
}

-- the rest is copied for one rank more
pub extended_bits : {n : ℕ} (w : ℕ) {a b : List Bool} {c : Case} → b ≡ a ++ take n a → HasBits n a c → HasBits n b (extended w c)
extended_bits {n} w {a} {b} {c} is has = record {
  long = long;
  rest = λ p less. ap (λ l. bit_at l p) is ∙ get_or_append_left a (take n a) false p (omega (arith, less, all)) ∙ has.rest p less;
  may = λ p q less q_less. may p q less (omega (arith, q_less, more)) (cases_eq q (known_ranks c));
}
  where
    more : length (c.intervals ++ interval 0 w ∷ []) ≡ known_ranks c + 1
    more = length-append c.intervals (interval 0 w ∷ [])

    all : n ≤ length a
    all =
        let some : 1 * n ≤ (known_ranks c + 1) * n = mul-le-mul_right n (omega arith) in
        omega (arith, some, has.long)

    long : length b ≡ (length (c.intervals ++ interval 0 w ∷ []) + 1) * n
    long =
        let sum = ap length is ∙ length-append a (take n a) ∙ ap (λ k. length a + k) (length-take-le n a all) in
        let whole : length b ≡ (known_ranks c + 1 + 1) * n = omega (arith, add-mul (known_ranks c + 1) 1 n, sum, has.long) in
        whole ∙ ap (λ k. (k + 1) * n) (sym more)

    within : (p q : ℕ) → p < n → q < known_ranks c → bit_place n p q < length a
    within p q less q_less =
        let inside : bit_place n p q < n * (known_ranks c + 1) = mul-add-lt (q + 1) n p (known_ranks c + 1) (omega arith) less in
        omega (arith, inside, mul_comm n (known_ranks c + 1), has.long)

    may : (p q : ℕ) → p < n → q < known_ranks c + 1 → (q ≡ known_ranks c) ⊎ (q ≢ known_ranks c) →
        bit_at b (bit_place n p q) ≡ (if nat_eq q (length c.intervals) then c.may_rest p else c.may p q)
    may p q less q_less (inl last) =
        let at : bit_place n p (known_ranks c) ≡ length a + p = omega (arith, has.long) in
        let back : length a + p - length a ≡ p = omega arith in
        rw (eq-eqb q (length c.intervals) last)
        (ap (λ k. bit_at b (bit_place n p k)) last ∙ ap (λ k. bit_at b k) at ∙ ap (λ l. bit_at l (length a + p)) is
        ∙ get_or-append_right a (take n a) (length a) (length a + p) false refl (omega arith) ∙ ap (λ k. bit_at (take n a) k) back ∙ get_or-take n a p false less ∙ has.rest p less)
    may p q less q_less (inr other) =
        rw (ne_eqb q (length c.intervals) other)
        (ap (λ l. bit_at l (bit_place n p q)) is ∙ get_or_append_left a (take n a) false (bit_place n p q) (within p q less (omega (arith, q_less, other)))
        ∙ has.may p q less (omega (arith, q_less, other)))
