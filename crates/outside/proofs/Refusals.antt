-- A list of words is refused at one line at most, at none where it is a list of the grammar, and at one otherwise.
use Rattle.std.proofs.Common.{◌≡◌, ◌⊎◌, inl, inr, ℕ, ◌≤◌, List, [], ◌∷◌, ◌++◌, length, refl, sym, ◌∙◌, ap, subst, arith, append_assoc, append-nil, length-append}
use Rattle.outside.specs.Words.{Word}
use Rattle.outside.specs.Grammars.{Viable, StopsAt, RefusedAt}

-- a front of what is viable is viable
pub front_viable : (whole : List Word → Type 0) (a b : List Word) → Viable whole (a ++ b) → Viable whole a
front_viable whole a b v = (b ++ v.0, subst whole (append_assoc a b v.0) v.1)

-- a list of the grammar is viable
pub whole_viable : (whole : List Word → Type 0) (ws : List Word) → whole ws → Viable whole ws
whole_viable whole ws is = ([], subst whole (sym (append-nil ws)) is)

-- words that stop begin no list of the set
stopped : (whole : List Word → Type 0) (ws : List Word) (line : ℕ) → StopsAt whole ws line → Viable whole ws → ⊥
stopped whole ws line s v =
    let parted : ws ≡ (s.front ++ s.stop ∷ []) ++ s.rest = s.words ∙ sym (append_assoc s.front (s.stop ∷ []) s.rest) in
    s.refused (front_viable whole (s.front ++ s.stop ∷ []) s.rest (subst (Viable whole) parted v))

-- a list of the grammar is refused at no line
pub not_refused : (whole : List Word → Type 0) (ws : List Word) (end line : ℕ) → whole ws → RefusedAt whole ws end line → ⊥
not_refused whole ws end line is (inl s) = stopped whole ws line s (whole_viable whole ws is)
not_refused whole ws end line is (inr e) = e.0.refused is

-- Of two fronts of a list, each with one more word: they end in the same word, or one with its word begins the other.
data Fronts (a b : List Word) (v w : Word) : Type 0 where
  alike : v ≡ w → Fronts a b v w
  before : (more : List Word) → b ≡ (a ++ v ∷ []) ++ more → Fronts a b v w
  behind : (more : List Word) → a ≡ (b ++ w ∷ []) ++ more → Fronts a b v w

fronts : (a b : List Word) (v w : Word) (r s : List Word) → a ++ v ∷ r ≡ b ++ w ∷ s → Fronts a b v w
fronts [] [] v w r s e = alike cc
fronts [] (x ∷ b) v w r s e = before b (let first : x ≡ v = cc in ap (λ y. y ∷ b) first)
fronts (x ∷ a) [] v w r s e = behind a (let first : x ≡ w = cc in ap (λ y. y ∷ a) first)
fronts (x ∷ a) (y ∷ b) v w r s e = longer (fronts a b v w r s rest)
  where
    rest : a ++ v ∷ r ≡ b ++ w ∷ s
    rest = cc

    first : x ≡ y
    first = cc

    longer : Fronts a b v w → Fronts (x ∷ a) (y ∷ b) v w
    longer (alike e) = alike e
    longer (before more e) = before more (ap (λ z. z ∷ b) (sym first) ∙ ap (λ l. x ∷ l) e)
    longer (behind more e) = behind more (ap (λ z. z ∷ a) first ∙ ap (λ l. y ∷ l) e)

one_stop : (whole : List Word → Type 0) (ws : List Word) (m n : ℕ) → StopsAt whole ws m → StopsAt whole ws n → m ≡ n
one_stop whole ws m n s t = by (fronts s.front t.front s.stop t.stop s.rest t.rest (sym s.words ∙ t.words))
  where
    by : Fronts s.front t.front s.stop t.stop → m ≡ n
    by (alike e) = s.here ∙ ap (λ (w : Word). w.1) e ∙ sym t.here
    by (before more e) = absurd (s.refused (front_viable whole (s.front ++ s.stop ∷ []) more (subst (Viable whole) e t.before)))
    by (behind more e) = absurd (t.refused (front_viable whole (t.front ++ t.stop ∷ []) more (subst (Viable whole) e s.before)))

-- a list is refused at no more than one line
pub refused_once : (whole : List Word → Type 0) (ws : List Word) (end m n : ℕ) → RefusedAt whole ws end m → RefusedAt whole ws end n → m ≡ n
refused_once whole ws end m n (inl s) (inl t) = one_stop whole ws m n s t
refused_once whole ws end m n (inl s) (inr e) = absurd (stopped whole ws m s e.0.viable)
refused_once whole ws end m n (inr d) (inl t) = absurd (stopped whole ws n t d.0.viable)
refused_once whole ws end m n (inr d) (inr e) = d.1 ∙ sym e.1

-- ---- what reads words one by one

-- States, of which each has read some words, and which decide of each next word, and of the end.
pub record Decides (whole : List Word → Type 0) (most : ℕ) (S : Type 0) (HasRead : S → List Word → Type 0) : Type 0 where
  pub viable : (s : S) (front : List Word) → length front ≤ most → HasRead s front → Viable whole front
  pub step : (s : S) (front : List Word) (w : Word) → HasRead s front → ((next : S) × HasRead next (front ++ w ∷ [])) ⊎ (Viable whole (front ++ w ∷ []) → ⊥)
  pub end : (s : S) (ws : List Word) → HasRead s ws → whole ws ⊎ (whole ws → ⊥)

abbrev pub WholeOrRefused : (List Word → Type 0) → List Word → ℕ → Type 0
WholeOrRefused whole ws end = whole ws ⊎ ((line : ℕ) × RefusedAt whole ws end line)

-- words of which a front was read
goes_on : (whole : List Word → Type 0) (most : ℕ) (S : Type 0) (HasRead : S → List Word → Type 0) → Decides whole most S HasRead → (end : ℕ) (s : S) (front left : List Word) → HasRead s front → length (front ++ left) ≤ most → WholeOrRefused whole (front ++ left) end
goes_on whole most S HasRead d end s front [] read few = subst (λ ws. WholeOrRefused whole ws end) (sym (append-nil front)) (by (d.end s front read))
  where
    by : whole front ⊎ (whole front → ⊥) → WholeOrRefused whole front end
    by (inl is) = inl is
    by (inr never) = inr (end, inr (record { viable = d.viable s front (omega (arith, few, length-append front [])) read; refused = never }, refl))
goes_on whole most S HasRead d end s front (w ∷ left) read few = by (d.step s front w read) (λ next more. goes_on whole most S HasRead d end next (front ++ w ∷ []) left more)
  where
    same : (front ++ w ∷ []) ++ left ≡ front ++ w ∷ left
    same = append_assoc front (w ∷ []) left

    by : ((next : S) × HasRead next (front ++ w ∷ [])) ⊎ (Viable whole (front ++ w ∷ []) → ⊥)
        → ((next : S) → HasRead next (front ++ w ∷ []) → length ((front ++ w ∷ []) ++ left) ≤ most → WholeOrRefused whole ((front ++ w ∷ []) ++ left) end)
        → WholeOrRefused whole (front ++ w ∷ left) end
    by (inl next) again = subst (λ ws. WholeOrRefused whole ws end) same (again next.0 next.1 (subst (λ ws. length ws ≤ most) (sym same) few))
    by (inr never) again =
        inr (w.1, inl (record { front = front; stop = w; rest = left; words = refl; before = d.viable s front (omega (arith, few, length-append front (w ∷ left))) read; refused = never; here = refl }))

-- words of which each is decided are a list of the grammar, or refused at a line
pub whole_or_refused : (whole : List Word → Type 0) (most : ℕ) (S : Type 0) (HasRead : S → List Word → Type 0) → Decides whole most S HasRead → (end : ℕ) (s : S) (ws : List Word) → HasRead s [] → length ws ≤ most → WholeOrRefused whole ws end
whole_or_refused whole most S HasRead d end s ws read few = goes_on whole most S HasRead d end s [] ws read few
