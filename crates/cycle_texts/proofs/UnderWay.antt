-- A text that is written by and by.
use Rattle.std.proofs.Common.{◌≡◌, ℕ, List, [], ◌++◌, Option, take, refl, ap, sym, subst, ◌∙◌, append_assoc}
use Rattle.outside.specs.Held.{Appended, AppendedFront}
use Rattle.outside.proofs.PieceLemmas.{Appended-nil, Appended-then}
use Rattle.cycle_texts.specs.Rows.{IsPutAt}
use Rattle.tester_vectors.proofs.Blocks.{front_after}
use Rattle.cycle_texts.specs.UnderWay.{IsUnderWay}

-- nothing was written, and nothing waits
pub under_way_begins : (old : Option (List ℕ)) → IsUnderWay old [] [] old
under_way_begins old = record { front = []; written = Appended-nil old; all = refl }

-- a part of what waits is written
moved : (a b c : Option (List ℕ)) (waits left whole : List ℕ) → IsUnderWay a waits whole b → IsUnderWay b left waits c → IsUnderWay a left whole c
moved a b c waits left whole u m = record {
  front = u.front ++ m.front;
  written = Appended-then a b c u.front m.front u.written m.written;
  all = append_assoc u.front m.front left ∙ ap (λ (t : List ℕ). u.front ++ t) m.all ∙ u.all;
}

-- and a part is put behind what is left
pub put_behind : (a b c : Option (List ℕ)) (waits whole part more : List ℕ) (at end : ℕ) (old new : List ℕ) → IsUnderWay a waits whole b → IsUnderWay b (take at old) waits c → IsPutAt at part end old new → whole ++ part ≡ more → IsUnderWay a (take end new) more c
put_behind a b c waits whole part more at end old new u m put is =
    let n : IsUnderWay a (take at old) whole c = moved a b c waits (take at old) whole u m in
    record {
      front = n.front;
      written = n.written;
      all = ap (λ (t : List ℕ). n.front ++ t) put.stands ∙ sym (append_assoc n.front (take at old) part) ∙ ap (λ (t : List ℕ). t ++ part) n.all ∙ is;
    }

-- all that waits is written
pub finished : (a b c : Option (List ℕ)) (waits whole : List ℕ) → IsUnderWay a waits whole b → Appended b waits c → Appended a whole c
finished a b c waits whole u w = subst (λ (t : List ℕ). Appended a t c) u.all (Appended-then a b c u.front waits u.written w)

-- a front of what waits is written, where more would come
pub stopped : (a b c : Option (List ℕ)) (waits part rest whole : List ℕ) → IsUnderWay a waits part b → AppendedFront b waits c → whole ≡ part ++ rest → AppendedFront a whole c
stopped a b c waits part rest whole u w is =
    front_after a b c u.front waits rest whole (is ∙ ap (λ (t : List ℕ). t ++ rest) (sym u.all) ∙ append_assoc u.front waits rest) u.written w
