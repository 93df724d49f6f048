-- How far a text was read.
use Rattle.std.proofs.Common.{◌≡◌, inl, inr, ℕ, ◌≤◌, List, [], ◌∷◌, ◌++◌, length, refl, sym, ◌∙◌, ap, subst, arith, append_assoc, append-nil, length-append}
use Rattle.outside.specs.Words.{Word}
use Rattle.outside.specs.Grammars.{EndsEarly, Stops, RefusedAt}

-- words up to here were read, and these are left
pub record Progress (HasRead : List Word → Type 0) (all left : List Word) : Type 0 where
  pub front : List Word
  pub words : all ≡ front ++ left
  pub read : HasRead front

pub goes_on : (Before After : List Word → Type 0) (all before left : List Word) (w : Word) → (p : Progress Before all before) → before ≡ w ∷ left → After (p.front ++ w ∷ []) → Progress After all left
goes_on Before After all before left w p is read =
    record { front = p.front ++ w ∷ []; words = p.words ∙ ap (λ l. p.front ++ l) is ∙ sym (append_assoc p.front (w ∷ []) left); read = read }

-- a front is no longer than the whole
pub front_fits : (HasRead : List Word → Type 0) (most : ℕ) (all left : List Word) → length all ≤ most → (p : Progress HasRead all left) → length p.front ≤ most
front_fits HasRead most all left few p = omega (arith, few, ap length p.words, length-append p.front left)

pub refused_here : (whole HasRead : List Word → Type 0) (all before left : List Word) (w : Word) (end : ℕ) → (p : Progress HasRead all before) → before ≡ w ∷ left → Stops whole p.front w → RefusedAt whole all end w.1
refused_here whole HasRead all before left w end p is stops =
    inl (record { front = p.front; stop = w; rest = left; words = p.words ∙ ap (λ l. p.front ++ l) is; before = stops.before; refused = stops.refused; here = refl })

pub all_read : (HasRead : List Word → Type 0) (all left : List Word) → Progress HasRead all left → left ≡ [] → HasRead all
all_read HasRead all left p is = subst HasRead (sym (p.words ∙ ap (λ l. p.front ++ l) is ∙ append-nil p.front)) p.read

pub refused_early : (whole : List Word → Type 0) (all : List Word) (end : ℕ) → EndsEarly whole all → RefusedAt whole all end end
refused_early whole all end early = inr (early, refl)
