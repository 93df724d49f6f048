-- Bytes in the columns of lines.
use Rattle.std.proofs.Common.{◌≡◌, ◌≢◌, ℕ, zero, suc, ◌+◌, ◌-◌, ◌*◌, ◌≤◌, ◌<◌, ◌⊎◌, Some, List, length, set, refl, ap, sym, subst, ◌∙◌, arith, inl, inr, slice_get, [], ◌∷◌}
use Rattle.std.proofs.Math.Nat.{mul-le-mul_right}
use Rattle.std.proofs.lemmas.List.{length-set}
use Rattle.std.proofs.lemmas.Bool.{cases_eq, cases_lt}
use Rattle.vector_lines.specs.Vectors.{byte_at, ArePutAcross, ArePutDown, AreOtherRowsKept, IsBlank, IsElsewhere}
use Rattle.common_lemmas.proofs.Numbers.{same_block}
use Rattle.common_lemmas.proofs.Lists.{set_here}

-- ---- an entry that is written

pub set_elsewhere : {X : Type 0} (xs : List X) (i j : ℕ) (y : X) → j ≢ i → slice_get (set xs i y) j ≡ slice_get xs j
set_elsewhere [] i j y h = refl
set_elsewhere (x ∷ xs) zero zero y h = absurd (h refl)
set_elsewhere (x ∷ xs) zero (suc j) y h = refl
set_elsewhere (x ∷ xs) (suc i) zero y h = refl
set_elsewhere (x ∷ xs) (suc i) (suc j) y h = set_elsewhere xs i j y (λ e. h (ap suc e))

-- ---- places

pub place_within : (w r c size : ℕ) → c < w → (r + 1) * w ≤ size → r * w + c < size
place_within w r c size h fits = let e : (r + 1) * w ≡ r * w + w = omega arith in omega arith

pub rows_fit : (w m n size : ℕ) → m ≤ n → n * w ≤ size → m * w ≤ size
rows_fit w m n size few fits = let less = mul-le-mul_right w few in omega arith

module _ (text : List ℕ) (w r c b : ℕ) {p : ℕ} (h : c < w) (at : p ≡ r * w + c) where
  -- a byte that is set
  set_byte : (r + 1) * w ≤ length text → slice_get (set text p b) (r * w + c) ≡ Some b
  set_byte fits = rw at (set_here text (r * w + c) b (place_within w r c (length text) h fits))

  other_byte : (r' c' : ℕ) → c' < w → (c' ≢ c) ⊎ (r' ≢ r) → slice_get (set text p b) (r' * w + c') ≡ slice_get text (r' * w + c')
  other_byte r' c' h' apart = set_elsewhere text p (r' * w + c') b (λ e. differ apart (same_block w r' c' r c h' h (e ∙ at))) where
    differ : (c' ≢ c) ⊎ (r' ≢ r) → (r' ≡ r) × (c' ≡ c) → ⊥
    differ (inl column) same = column same.1
    differ (inr row) same = row same.0

-- ---- below one another

pub one_put : (text : List ℕ) (wires row below column b p : ℕ) → column < 2 * wires + 2 → (row + (below + 1)) * (2 * wires + 2) ≤ length text → p ≡ (row + below) * (2 * wires + 2) + column →
    ArePutDown wires (row + below) 1 column (λ i. b) text (set text p b)
one_put text wires row below column b p h fits at =
    let fits' : (row + below + 1) * (2 * wires + 2) ≤ length text = subst (λ n. n * (2 * wires + 2) ≤ length text) (omega arith) fits in
    record {
      long = length-set text p b;
      put = λ i less. let same : row + below + i ≡ row + below = omega arith in rw same (set_byte text (2 * wires + 2) (row + below) column b h at fits');
      others = λ r c h' elsewhere. other_byte text (2 * wires + 2) (row + below) column b h at r c h' (apart r c elsewhere);
    }
  where
    apart : (r c : ℕ) → IsElsewhere (row + below) 1 column r c → (c ≢ column) ⊎ (r ≢ row + below)
    apart r c (inl other) = inl other
    apart r c (inr (inl above)) = inr (λ e. omega arith)
    apart r c (inr (inr under)) = inr (λ e. omega arith)

module _ {wires : ℕ} (n : ℕ) {column : ℕ} {f : ℕ → ℕ} (g : ℕ → ℕ) {old new : List ℕ} where
  -- one line more above those that were put
  pub up_more : {row b : ℕ} {now : List ℕ} → column < 2 * wires + 2 → b ≡ g 0 → ((i : ℕ) → i < n → f i ≡ g (i + 1)) →
      ArePutDown wires (row + 1) n column f old now → ArePutDown wires row 1 column (λ i. b) now new → ArePutDown wires row (n + 1) column g old new
  up_more {row} {now} h is same before one = record {
    long = one.long ∙ before.long;
    put = here;
    others = λ r c h' elsewhere. one.others r c h' (first r c elsewhere) ∙ before.others r c h' (rest r c elsewhere);
  }
    where
      here : (i : ℕ) → i < n + 1 → byte_at new wires (row + i) column ≡ Some (g i)
      here zero less = one.put zero (omega arith) ∙ ap Some is
      here (suc i) less =
          let place : row + suc i ≡ row + 1 + i = omega arith in
          let next : i + 1 ≡ suc i = omega arith in
          let kept = one.others (row + suc i) column h (inr (inr (omega arith))) in
          let there : byte_at now wires (row + suc i) column ≡ Some (f i) = rw place (before.put i (omega arith)) in
          kept ∙ there ∙ ap Some (same i (omega arith) ∙ ap g next)

      first : (r c : ℕ) → IsElsewhere row (n + 1) column r c → IsElsewhere row 1 column r c
      first r c (inl other) = inl other
      first r c (inr (inl above)) = inr (inl above)
      first r c (inr (inr under)) = inr (inr (omega arith))

      rest : (r c : ℕ) → IsElsewhere row (n + 1) column r c → IsElsewhere (row + 1) n column r c
      rest r c (inl other) = inl other
      rest r c (inr (inl above)) = inr (inl (omega arith))
      rest r c (inr (inr under)) = inr (inr (omega arith))

  pub same_down : {r : ℕ} (s : ℕ) {m : ℕ} → r ≡ s → m ≡ n → ((i : ℕ) → f i ≡ g i) → ArePutDown wires r m column f old new →
      ArePutDown wires s n column g old new
  same_down {r} s {m} rows counts bytes is =
      let own : ArePutDown wires r m column g old new = record { long = is.long; put = λ i h. is.put i h ∙ ap Some (bytes i); others = is.others } in
      subst (λ x. ArePutDown wires x n column g old new) rows (rw counts at own)

  -- more lines above those that were put
  pub up_block : {row m : ℕ} (h : ℕ → ℕ) {now : List ℕ} → column < 2 * wires + 2 → ((i : ℕ) → i < m → f i ≡ h i) → ((i : ℕ) → i < n → g i ≡ h (m + i)) →
      ArePutDown wires (row + m) n column g old now → ArePutDown wires row m column f now new → ArePutDown wires row (m + n) column h old new
  up_block {row} {m} h {now} within upper lower before more = record {
    long = more.long ∙ before.long;
    put = λ i less. elim (cases_lt i m) [
      | inl above ↦ more.put i above ∙ ap Some (upper i above)
      | inr under ↦
          let place : row + i ≡ row + m + (i - m) = omega arith in
          let own : m + (i - m) ≡ i = omega arith in
          let low : i - m < n = omega arith in
          let kept = more.others (row + i) column within (inr (inr (omega arith))) in
          let there : byte_at now wires (row + i) column ≡ Some (g (i - m)) = subst (λ r. byte_at now wires r column ≡ Some (g (i - m))) (sym place) (before.put (i - m) low) in
          kept ∙ there ∙ ap Some (lower (i - m) low ∙ ap h own)
    ];
    others = λ r c h' elsewhere. more.others r c h' (first r c elsewhere) ∙ before.others r c h' (rest r c elsewhere);
  }
    where
      first : (r c : ℕ) → IsElsewhere row (m + n) column r c → IsElsewhere row m column r c
      first r c (inl other) = inl other
      first r c (inr (inl above)) = inr (inl above)
      first r c (inr (inr under)) = inr (inr (omega arith))

      rest : (r c : ℕ) → IsElsewhere row (m + n) column r c → IsElsewhere (row + m) n column r c
      rest r c (inl other) = inl other
      rest r c (inr (inl above)) = inr (inl (omega arith))
      rest r c (inr (inr under)) = inr (inr (omega arith))

-- ---- beside one another

module _ (wires row : ℕ) where
  pub none_across : (column byte : ℕ) (text : List ℕ) → ArePutAcross wires row column 0 byte text text
  none_across column byte text = record { long = refl; put = λ c a b. absurd (omega arith); others = λ r c h e. refl }

  pub across_more : {column n byte : ℕ} (p : ℕ) {old now : List ℕ} → column + n < 2 * wires + 2 → (row + 1) * (2 * wires + 2) ≤ length now →
      p ≡ row * (2 * wires + 2) + column + n → ArePutAcross wires row column n byte old now →
      ArePutAcross wires row column (n + 1) byte old (set now p byte)
  across_more {column} {n} {byte} p {now} h fits at before = record {
    long = length-set now p byte ∙ before.long;
    put = λ c a b. elim (cases_eq c (column + n)) [
      | inl same ↦ rw same (set_byte now (2 * wires + 2) row (column + n) byte h at' fits)
      | inr other ↦
          let less : c < column + n = omega arith in
          other_byte now (2 * wires + 2) row (column + n) byte h at' row c (omega arith) (inl other) ∙ before.put c a less
    ];
    others = λ r c h' e. other_byte now (2 * wires + 2) row (column + n) byte h at' r c h' (apart r c e) ∙ before.others r c h' (sooner r c e);
  }
    where
      at' : p ≡ row * (2 * wires + 2) + (column + n)
      at' = at ∙ omega arith

      apart : (r c : ℕ) → (r ≢ row) ⊎ ((c < column) ⊎ (column + (n + 1) ≤ c)) → (c ≢ column + n) ⊎ (r ≢ row)
      apart r c (inl other) = inr other
      apart r c (inr (inl less)) = inl (λ e. omega arith)
      apart r c (inr (inr past)) = inl (λ e. omega arith)

      sooner : (r c : ℕ) → (r ≢ row) ⊎ ((c < column) ⊎ (column + (n + 1) ≤ c)) → (r ≢ row) ⊎ ((c < column) ⊎ (column + n ≤ c))
      sooner r c (inl other) = inl other
      sooner r c (inr (inl less)) = inr (inl less)
      sooner r c (inr (inr past)) = inr (inr (omega arith))

  -- ---- blank lines

  -- digits, a space, marks and a line feed
  pub blank_line : {t0 t1 t2 t3 t4 : List ℕ} → ArePutAcross wires row 0 wires 48 t0 t1 → ArePutAcross wires row wires 1 32 t1 t2 →
      ArePutAcross wires row (wires + 1) wires 45 t2 t3 → ArePutAcross wires row (wires + 1 + wires) 1 10 t3 t4 →
      (length t4 ≡ length t0) × (IsBlank wires row t4 × AreOtherRowsKept wires row t0 t4)
  blank_line {t4} a b d e = (e.long ∙ d.long ∙ b.long ∙ a.long, (blank, λ r c h other. e.others r c h (inl other) ∙ d.others r c h (inl other) ∙ b.others r c h (inl other) ∙ a.others r c h (inl other))) where
    blank : IsBlank wires row t4
    blank = record {
      driven = λ w h. e.others row w (omega arith) (inr (inl (omega arith))) ∙ d.others row w (omega arith) (inr (inl (omega arith))) ∙ b.others row w (omega arith) (inr (inl (omega arith))) ∙ a.put w (omega arith) (omega arith);
      space = e.others row wires (omega arith) (inr (inl (omega arith))) ∙ d.others row wires (omega arith) (inr (inl (omega arith))) ∙ b.put wires (omega arith) (omega arith);
      marks = λ w h. e.others row (wires + 1 + w) (omega arith) (inr (inl (omega arith))) ∙ d.put (wires + 1 + w) (omega arith) (omega arith);
      feed = e.put (wires + 1 + wires) (omega arith) (omega arith);
    }

  -- a line that stays blank
  pub blank_kept : {r : ℕ} {old : List ℕ} (new : List ℕ) → AreOtherRowsKept wires row old new → r ≢ row → IsBlank wires r old → IsBlank wires r new
  blank_kept {r} new kept other is = record {
    driven = λ w h. kept r w (omega arith) other ∙ is.driven w h;
    space = kept r wires (omega arith) other ∙ is.space;
    marks = λ w h. kept r (wires + 1 + w) (omega arith) other ∙ is.marks w h;
    feed = kept r (wires + 1 + wires) (omega arith) other ∙ is.feed;
  }

pub blanks_more : {wires n : ℕ} (old : List ℕ) {new : List ℕ} → ((r : ℕ) → r < n → IsBlank wires r old) → IsBlank wires n new →
    AreOtherRowsKept wires n old new → (r : ℕ) → r < n + 1 → IsBlank wires r new
blanks_more {wires} {n} old {new} before here kept r h = elim (cases_eq r n) [
  | inl same ↦ rw same here
  | inr other ↦ blank_kept wires n new kept other (before r (omega arith))
]
