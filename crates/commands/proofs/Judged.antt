-- A text that says one value, which is right or refused in one line: it says one right value, and is refused in one line.
use Rattle.std.proofs.Common.{◌≡◌, ◌⊎◌, inl, inr, ℕ, List, sym, ◌∙◌, ap, subst}
use Rattle.commands.specs.Settled.{SaysOne, RefusesOne}

-- What is shown of the texts and their values: a text says one value, or is refused at one line; a value is refused in one line,
-- and not where it is right.
pub record JudgedLaws {V : Type 0} (Says : List ℕ → V → Type 0) (RefusedAt : List ℕ → ℕ → Type 0) (IsRight : V → Type 0) (RefusedFor : V → List ℕ → Type 0) : Type 0 where
  pub one : SaysOne Says
  pub not_refused : (bytes : List ℕ) (line : ℕ) (v : V) → Says bytes v → RefusedAt bytes line → ⊥
  pub refused_once : (bytes : List ℕ) (m n : ℕ) → RefusedAt bytes m → RefusedAt bytes n → m ≡ n
  pub one_line : (v : V) (t t' : List ℕ) → RefusedFor v t → RefusedFor v t' → t ≡ t'
  pub not_both : (bytes : List ℕ) (v : V) (t : List ℕ) → Says bytes v → IsRight v → RefusedFor v t → ⊥

-- the text says the value, which is right
abbrev pub SaysJudged : {V : Type 0} → (List ℕ → V → Type 0) → (V → Type 0) → List ℕ → V → Type 0
SaysJudged Says IsRight bytes v = Says bytes v × IsRight v

-- the text is refused at a line, or says a value that is refused
abbrev pub RefusesJudged : {V : Type 0} → (List ℕ → V → Type 0) → (List ℕ → ℕ → Type 0) → (V → List ℕ → Type 0) → (line_text : ℕ → List ℕ) → List ℕ → List ℕ → Type 0
RefusesJudged {V} Says RefusedAt RefusedFor line_text bytes text =
    ((line : ℕ) × RefusedAt bytes line × (text ≡ line_text line)) ⊎ ((v : V) × Says bytes v × RefusedFor v text)

pub judged_one : {V : Type 0} (Says : List ℕ → V → Type 0) (RefusedAt : List ℕ → ℕ → Type 0) (IsRight : V → Type 0) (RefusedFor : V → List ℕ → Type 0) → JudgedLaws Says RefusedAt IsRight RefusedFor → SaysOne (SaysJudged Says IsRight)
judged_one Says RefusedAt IsRight RefusedFor laws bytes v w a b = laws.one bytes v w a.0 b.0

pub judged_refused_one : {V : Type 0} (Says : List ℕ → V → Type 0) (RefusedAt : List ℕ → ℕ → Type 0) (IsRight : V → Type 0) (RefusedFor : V → List ℕ → Type 0) (line_text : ℕ → List ℕ) →
    JudgedLaws Says RefusedAt IsRight RefusedFor → RefusesOne (SaysJudged Says IsRight) (RefusesJudged Says RefusedAt RefusedFor line_text)
judged_refused_one {V} Says RefusedAt IsRight RefusedFor line_text laws = record { one = lines; none = none_right } where
  lines : (bytes t t' : List ℕ) → RefusesJudged Says RefusedAt RefusedFor line_text bytes t → RefusesJudged Says RefusedAt RefusedFor line_text bytes t' → t ≡ t'
  lines bytes t t' (inl a) (inl b) = a.2 ∙ ap line_text (laws.refused_once bytes a.0 b.0 a.1 b.1) ∙ sym b.2
  lines bytes t t' (inl a) (inr b) = absurd (laws.not_refused bytes a.0 b.0 b.1 a.1)
  lines bytes t t' (inr a) (inl b) = absurd (laws.not_refused bytes b.0 a.0 a.1 b.1)
  lines bytes t t' (inr a) (inr b) = laws.one_line b.0 t t' (subst (λ v. RefusedFor v t) (laws.one bytes a.0 b.0 a.1 b.1) a.2) b.2

  none_right : (bytes t : List ℕ) (v : V) → RefusesJudged Says RefusedAt RefusedFor line_text bytes t → SaysJudged Says IsRight bytes v → ⊥
  none_right bytes t v (inl a) says = laws.not_refused bytes a.0 v says.0 a.1
  none_right bytes t v (inr a) says = laws.not_both bytes v t says.0 says.1 (subst (λ w. RefusedFor w t) (laws.one bytes a.0 v a.1 says.0) a.2)
