-- Texts that are appended one joined_before the other.
use Rattle.std.proofs.Common.{◌≡◌, ℕ, ◌+◌, ◌*◌, List, [], ◌∷◌, ◌++◌, map, ap, sym, ◌∙◌, append_assoc, arith}
use Rattle.std.specs.List.{flat_map, range_with_len}
use Rattle.std.proofs.lemmas.List.{append-nil}
use Rattle.std.proofs.lemmas.List.Concat.{flat_map-append}
use Rattle.std.proofs.lemmas.List.FromFn.{map-range_with_len_more}

-- one multiple of a step more, of each of which a text is added
pub mark_more : (f : ℕ → List ℕ) (step n : ℕ) (start old new : List ℕ) → old ≡ start ++ flat_map f (map (λ k. k * step) (range_with_len 0 n)) → new ≡ old ++ f (n * step) → new ≡ start ++ flat_map f (map (λ k. k * step) (range_with_len 0 (n + 1)))
mark_more f step n start old new so_far added =
    let times = λ (k : ℕ). k * step in
    let before = map times (range_with_len 0 n) in
    added ∙ ap (λ l. l ++ f (n * step)) so_far ∙ append_assoc start (flat_map f before) (f (n * step))
    ∙ ap (λ l. start ++ (flat_map f before ++ l)) (sym (append-nil (f (n * step))))
    ∙ ap (λ l. start ++ l) (sym (flat_map-append f before (n * step ∷ [])))
    ∙ ap (λ l. start ++ flat_map f l) (sym (map-range_with_len_more times 0 n n (omega arith)))
