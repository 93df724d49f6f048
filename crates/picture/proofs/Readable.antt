-- What can be read of a picture: names can't be taken for tags and aren't long, and a scale has five to ten marks.
use Rattle.std.proofs.Common.{◌≡◌, ℕ, zero, suc, ◌+◌, ◌-◌, ◌*◌, ◌/◌, ◌%◌, ◌^◌, ◌≤◌, ◌<◌, true, List, [], ◌∷◌, ◌++◌, length, refl, sym, ◌∙◌, subst, arith, inl, inr, codes, decimal, min, nat_eq, take, flat_map}
use Rattle.std.specs.List.{list_all}
use Rattle.std.proofs.Math.Nat.{div-lt_iff_lt-mul, le-div_iff_mul-le, pow-suc}
use Rattle.std.proofs.lemmas.Bool.{cases_Bool, cases_lt, le-leb, lt-leb, ne_eqb}
use Rattle.std.proofs.lemmas.Fmt.{decimal_by_steps}
use Rattle.std.proofs.lemmas.List.{length-append, length-take-le}
use Rattle.std.proofs.lemmas.List.Folds.{list_all-append}
use Rattle.std.proofs.lemmas.List.FromFn.{length-map-range_with_len}
use Rattle.picture.specs.Laws.{HasFewMarks, is_plain}
use Rattle.picture.specs.Marks.{escaped, shown, spaced_name}
use Rattle.picture.specs.Scale.{leading_power, mark_step, step_within}

-- ---- names

escaped_plain : (b : ℕ) → list_all is_plain (escaped b) ≡ true
escaped_plain b = elim (cases_Bool (nat_eq b 38)) [
  | inl amp ↦ rw amp refl
  | inr not_amp ↦ elim (cases_Bool (nat_eq b 60)) [
    | inl less ↦ rw (not_amp, less) refl
    | inr not_less ↦ elim (cases_Bool (nat_eq b 62)) [
      | inl more ↦ rw (not_amp, not_less, more) refl
      | inr not_more ↦ rw (not_amp, not_less, not_more, not_less, not_more) refl
    ]
  ]
]

all_plain : (name : List ℕ) → list_all is_plain (flat_map escaped name) ≡ true
all_plain [] = refl
all_plain (b ∷ bs) = list_all-append is_plain (escaped b) (flat_map escaped bs) ∙ rw (escaped_plain b, all_plain bs) refl

pub names_plain : (name : List ℕ) → list_all is_plain (spaced_name name) ≡ true
unfolding spaced_name
names_plain [] = refl
names_plain (b ∷ bs) = rw (ne_eqb (suc (length bs)) 0 (λ e. omega (arith, e))) (all_plain (shown (b ∷ bs)))

-- how many characters of a name are shown
pub shown_size : (name : List ℕ) → length (shown name) ≡ min (length name) 64
unfolding shown
shown_size name = elim (cases_lt 64 (length name)) [
  | inl long ↦
      let front : length (take 61 name) ≡ 61 = length-take-le 61 name (omega (arith, long)) in
      rw (lt-leb (length name) 64 long) (length-append (take 61 name) (codes "...") ∙ omega (arith, front, long))
  | inr few ↦ rw (le-leb (length name) 64 few) (omega (arith, few))
]

pub names_short : (name : List ℕ) → length (shown name) ≤ 64
names_short name = omega (arith, shown_size name)

-- ---- the scale

-- the power of ten that the first of some digits counts
record Leads (n : ℕ) (ds : List ℕ) : Type 0 where
  zeros : ℕ
  size : length ds ≡ zeros + 1
  low : 1 ≤ n → 10 ^ zeros ≤ n
  high : n < 10 * 10 ^ zeros

one_digit : (n : ℕ) → n < 10 → Leads n ((48 + n) ∷ [])
one_digit n small = record { zeros = 0; size = refl; low = λ some. some; high = small }

more_digits : (n : ℕ) (ds : List ℕ) → 10 ≤ n → Leads (n / 10) ds → Leads n (ds ++ (48 + n % 10) ∷ [])
more_digits n ds ten l =
    let next : 10 ^ suc l.zeros ≡ 10 ^ l.zeros * 10 = pow-suc 10 l.zeros in
    let low : 10 ^ l.zeros ≤ n / 10 = l.low (omega (arith, ten)) in
    record {
      zeros = suc l.zeros;
      size = length-append ds ((48 + n % 10) ∷ []) ∙ omega (arith, l.size);
      low = λ some. omega (arith, next, low);
      high = omega (arith, next, l.high);
    }

leads : (n : ℕ) → n < 2 ^ 64 → Leads n (decimal n)
leads n small = decimal_by_steps Leads one_digit more_digits n small

-- a quotient between two numbers
between : (n step low high : ℕ) → 0 < step → low * step ≤ n → n < high * step → (low ≤ n / step) × (n / step < high)
between n step low high some from to = ((le-div_iff_mul-le some).1 from, (div-lt_iff_lt-mul some).1 to)

-- of a power of ten from 10 on, which is ten times some number
tens_between : (q n : ℕ) → 1 ≤ q → 10 * q ≤ n → n < 100 * q → (4 ≤ n / step_within (10 * q) n) × (n / step_within (10 * q) n < 10)
tens_between q n some low high = elim (cases_lt n (5 * (10 * q))) [
  | inr five ↦
      let is : step_within (10 * q) n ≡ 10 * q = rw (le-leb (5 * (10 * q)) n five) (omega (arith, some)) in
      subst (λ s. (4 ≤ n / s) × (n / s < 10)) (sym is) (between n (10 * q) 4 10 (omega (arith, some)) (omega (arith, five)) (omega (arith, high)))
  | inl less ↦ elim (cases_lt n (2 * (10 * q))) [
    | inr two ↦
        let is : step_within (10 * q) n ≡ 5 * q = rw (lt-leb (5 * (10 * q)) n less, le-leb (2 * (10 * q)) n two) (omega (arith, some)) in
        subst (λ s. (4 ≤ n / s) × (n / s < 10)) (sym is) (between n (5 * q) 4 10 (omega (arith, some)) (omega (arith, two)) (omega (arith, less)))
    | inl one ↦
        let is : step_within (10 * q) n ≡ 2 * q = rw (lt-leb (5 * (10 * q)) n less, lt-leb (2 * (10 * q)) n one) (omega (arith, some)) in
        subst (λ s. (4 ≤ n / s) × (n / s < 10)) (sym is) (between n (2 * q) 4 10 (omega (arith, some)) (omega (arith, low)) (omega (arith, one)))
  ]
]

-- of one digit
ones_between : (n : ℕ) → 4 ≤ n → n < 10 → (4 ≤ n / step_within 1 n) × (n / step_within 1 n < 10)
ones_between n four ten =
    let is : step_within 1 n ≡ 1 = elim (cases_lt n 5) [
      | inr five ↦ rw (le-leb 5 n five) refl
      | inl less ↦ rw (lt-leb 5 n less, le-leb 2 n (omega (arith, four))) refl
    ] in
    subst (λ s. (4 ≤ n / s) × (n / s < 10)) (sym is) (between n 1 4 10 (omega arith) (omega (arith, four)) (omega (arith, ten)))

steps_between : (zeros n : ℕ) → 4 ≤ n → 10 ^ zeros ≤ n → n < 10 * 10 ^ zeros → (4 ≤ n / step_within (10 ^ zeros) n) × (n / step_within (10 ^ zeros) n < 10)
steps_between zero n four low high = ones_between n four high
steps_between (suc zeros) n four low high =
    let q = 10 ^ zeros in
    let is : 10 ^ suc zeros ≡ 10 * q = pow-suc 10 zeros ∙ omega arith in
    subst (λ p. (4 ≤ n / step_within p n) × (n / step_within p n < 10)) (sym is) (tens_between q n (omega (arith, is, high, four)) (omega (arith, is, low)) (omega (arith, is, high)))

marks_between : (n : ℕ) → 4 ≤ n → n < 2 ^ 64 → (4 ≤ n / mark_step n) × (n / mark_step n < 10)
unfolding mark_step leading_power
marks_between n four small =
    let l : Leads n (decimal n) = leads n small in
    let power : length (decimal n) - 1 ≡ l.zeros = omega (arith, l.size) in
    subst (λ z. (4 ≤ n / step_within (10 ^ z) n) × (n / step_within (10 ^ z) n < 10)) (sym power) (steps_between l.zeros n four (l.low (omega (arith, four))) l.high)

pub few_marks : (cycles : ℕ) → 4 ≤ cycles → cycles < 2 ^ 64 → HasFewMarks cycles
few_marks cycles four small =
    let step = mark_step cycles in
    let b = marks_between cycles four small in
    let size = length-map-range_with_len (λ n. n * step) 0 (cycles / step + 1) in
    record { five = omega (arith, b.0, size); ten = omega (arith, b.1, size) }
