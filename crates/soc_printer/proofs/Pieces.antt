-- Pieces of a text, one behind the other.
use Rattle.std.proofs.Common.{◌≡◌, ℕ, List, [], ◌∷◌, ◌++◌, refl, sym, ◌∙◌, ap, append_assoc, Result, Ok, Err, OnOk}
use Rattle.soc_printer.specs.SocText.{spaced}

pub spaced-append : (ws more : List (List ℕ)) → spaced (ws ++ more) ≡ spaced ws ++ spaced more
spaced-append [] more = refl
spaced-append (w ∷ ws) more = ap (λ t. (32 ∷ w) ++ t) (spaced-append ws more) ∙ sym (append_assoc (32 ∷ w) (spaced ws) (spaced more))

-- six lists of words, each behind the one before
pub spaced-six : (a b c d e f : List (List ℕ)) → spaced (a ++ (b ++ (c ++ (d ++ (e ++ f))))) ≡ spaced a ++ (spaced b ++ (spaced c ++ (spaced d ++ (spaced e ++ spaced f))))
spaced-six a b c d e f =
    spaced-append a (b ++ (c ++ (d ++ (e ++ f))))
    ∙ ap (λ t. spaced a ++ t) (spaced-append b (c ++ (d ++ (e ++ f)))
    ∙ ap (λ t. spaced b ++ t) (spaced-append c (d ++ (e ++ f))
    ∙ ap (λ t. spaced c ++ t) (spaced-append d (e ++ f)
    ∙ ap (λ t. spaced d ++ t) (spaced-append e f))))

-- and a text behind them
pub spaced-six-then : (a b c d e f : List (List ℕ)) (end : List ℕ) → spaced (a ++ (b ++ (c ++ (d ++ (e ++ f))))) ++ end ≡ spaced a ++ (spaced b ++ (spaced c ++ (spaced d ++ (spaced e ++ (spaced f ++ end)))))
spaced-six-then a b c d e f end =
    ap (λ t. t ++ end) (spaced-six a b c d e f)
    ∙ append_assoc (spaced a) (spaced b ++ (spaced c ++ (spaced d ++ (spaced e ++ spaced f)))) end
    ∙ ap (λ t. spaced a ++ t) (append_assoc (spaced b) (spaced c ++ (spaced d ++ (spaced e ++ spaced f))) end
    ∙ ap (λ t. spaced b ++ t) (append_assoc (spaced c) (spaced d ++ (spaced e ++ spaced f)) end
    ∙ ap (λ t. spaced c ++ t) (append_assoc (spaced d) (spaced e ++ spaced f) end
    ∙ ap (λ t. spaced d ++ t) (append_assoc (spaced e) (spaced f) end))))
