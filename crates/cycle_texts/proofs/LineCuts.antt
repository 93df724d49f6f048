-- The bits that are driven and those that are compared, cut out of a line.
use Rattle.std.proofs.Common.{◌≡◌, ℕ, ◌+◌, ◌-◌, List, ◌++◌, length, take, drop, ap, sym, ◌∙◌, arith, append_assoc, codes, slice_range}
use Rattle.std.proofs.lemmas.List.{length-append, take_at, drop_at}

-- a line, and whatever is behind it
abbrev pub cut_line : (d c rest : List ℕ) → List ℕ
cut_line d c rest = (d ++ (codes " " ++ (c ++ codes "\n"))) ++ rest

pub driven_cut : (d c rest x : List ℕ) (w : ℕ) → length d ≡ w → x ≡ cut_line d c rest → take w x ≡ d
driven_cut d c rest x w long is =
    ap (take w) (is ∙ append_assoc d (codes " " ++ (c ++ codes "\n")) rest) ∙ take_at d ((codes " " ++ (c ++ codes "\n")) ++ rest) w long

pub compared_cut : (d c rest x : List ℕ) (w : ℕ) → length d ≡ w → length c ≡ w → x ≡ cut_line d c rest → take w (drop (w + 1) x) ≡ c
compared_cut d c rest x w long long' is =
    let behind : List ℕ = c ++ (codes "\n" ++ rest) in
    let joined : cut_line d c rest ≡ (d ++ codes " ") ++ behind =
    append_assoc d (codes " " ++ (c ++ codes "\n")) rest
    ∙ ap (λ (t : List ℕ). d ++ t) (append_assoc (codes " ") (c ++ codes "\n") rest ∙ ap (λ (t : List ℕ). codes " " ++ t) (append_assoc c (codes "\n") rest))
    ∙ sym (append_assoc d (codes " ") behind) in
    let front : length (d ++ codes " ") ≡ w + 1 = omega (arith, length-append d (codes " "), long) in
    ap (λ (t : List ℕ). take w (drop (w + 1) t)) (is ∙ joined)
    ∙ ap (take w) (drop_at (d ++ codes " ") behind (w + 1) front)
    ∙ take_at c (codes "\n" ++ rest) w long'

-- `n` bytes from a place on, as a range
pub range_cut : (xs : List ℕ) (a n : ℕ) → slice_range xs a (a + n) ≡ take n (drop a xs)
range_cut xs a n =
    let e : a + n - a ≡ n = omega arith in
    ap (λ m. take m (drop a xs)) e
