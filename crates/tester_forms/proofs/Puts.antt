-- Pieces that are put one behind the other.
use Rattle.std.proofs.Common.{◌≡◌, ℕ, ◌+◌, ◌<◌, List, [], ◌∷◌, ◌++◌, ◌∙◌, get_or, length, map, set, take, refl, sym, ap, arith, append_assoc, length-append}
use Rattle.std.proofs.lemmas.List.{append-nil, length-map, length-set, length-take, map-append, take_more, take_more_set}
use Rattle.cycle_texts.specs.Rows.{IsPutAt}

pub put_then : {at middle end : ℕ} {p q : List ℕ} {old now new : List ℕ} → IsPutAt at p middle old now → IsPutAt middle q end now new →
    IsPutAt at (p ++ q) end old new
put_then {at} {middle} {end} {p} {q} {old} {now} {new} first second = record {
  ends = omega (arith, length-append p q, first.ends, second.ends);
  long = second.long ∙ first.long;
  stands = second.stands ∙ ap (λ t. t ++ q) first.stands ∙ append_assoc (take at old) p q;
}

-- what is put of a list, one item after the other
pub put_more : (f : ℕ → ℕ) (xs : List ℕ) (at done : ℕ) (old now new : List ℕ) (byte : ℕ) → done < length xs → at + done < length now →
    byte ≡ f (get_or xs done 0) → new ≡ set now (at + done) byte → IsPutAt at (map f (take done xs)) (at + done) old now →
    IsPutAt at (map f (take (done + 1) xs)) (at + (done + 1)) old new
put_more f xs at done old now new byte inside room is stored so_far = record {
  ends = omega (arith, length-map (take (done + 1) xs) f, length-take (done + 1) xs);
  long = ap length stored ∙ length-set now (at + done) byte ∙ so_far.long;
  stands =
      let place : at + (done + 1) ≡ at + done + 1 = omega arith in
      ap (λ k. take k new) place ∙ ap (take (at + done + 1)) stored ∙ take_more_set now (at + done) byte room
      ∙ ap (λ t. t ++ byte ∷ []) so_far.stands ∙ append_assoc (take at old) (map f (take done xs)) (byte ∷ [])
      ∙ ap (λ t. take at old ++ t) (ap (λ b. map f (take done xs) ++ b ∷ []) is ∙ sym (map-append f (take done xs) (get_or xs done 0 ∷ [])) ∙ ap (map f) (sym (take_more xs done 0 inside)));
}
