-- What is found first in a list.
use Rattle.std.proofs.Common.{◌≡◌, inl, inr, ℕ, zero, suc, ◌<◌, Bool, true, false, cond, Some, None, List, [], ◌∷◌, length, get_or, map, position, nat_lt, refl, sym, ap, ◌∙◌, subst, arith}
use Rattle.std.specs.Prelude.{slice_get}
use Rattle.std.specs.List.{filter, position_or_len}
use Rattle.std.proofs.lemmas.Bool.{cases_Bool}
use Rattle.std.proofs.lemmas.Bool.Decides.{nat_tests}
use Rattle.std.proofs.lemmas.List.Quantifiers.{position-Some}
use Rattle.std.proofs.lemmas.List.Sums.{fails_before_first}
use Rattle.std.proofs.lemmas.Option.{slice_get_within, get_or_from_slice_get}
use Rattle.plan_model.specs.Plans.{of_first}
use Rattle.common_lemmas.proofs.Options.{cond_none}

-- the first that passes, by its place in a list that is seen elsewise
of_first_mapped : {X Y Z : Type 0} (v : X → Y) (p : Y → Bool) (f : Y → Z) (d : Z) (xs : List X) (k : ℕ) (e : X) → k < length xs → p (v (get_or xs k e)) ≡ true → ((j : ℕ) → j < k → p (v (get_or xs j e)) ≡ false) → of_first p f d (map v xs) ≡ f (v (get_or xs k e))
of_first_mapped v p f d [] k e within passes before = absurd (omega (arith, within))
of_first_mapped v p f d (y ∷ xs) zero e within passes before = rw passes refl
of_first_mapped v p f d (y ∷ xs) (suc k) e within passes before =
    let fails : p (v y) ≡ false = before 0 (omega arith) in
    rw fails (of_first_mapped v p f d xs k e (omega (arith, within)) passes (λ j less. before (suc j) (omega (arith, less))))

pub of_first_found : {X Y Z : Type 0} (v : X → Y) (p : Y → Bool) (f : Y → Z) (d : Z) (xs : List X) (k : ℕ) (e x : X) → position (λ x. p (v x)) xs ≡ Some k → x ≡ get_or xs k e → of_first p f d (map v xs) ≡ f (v x)
of_first_found v p f d xs k e x found is =
    let r = position-Some (λ x. p (v x)) xs k e found in
    of_first_mapped v p f d xs k e r.0 r.1 r.2 ∙ ap (λ z. f (v z)) (sym is)

pub none_passes : {X : Type 0} (p : X → Bool) (xs : List X) → position p xs ≡ None → (i : ℕ) (x : X) → slice_get xs i ≡ Some x → p x ≡ false
none_passes p xs none i x at =
    let past = cond_none (nat_lt (position_or_len p xs) (length xs)) (position_or_len p xs) none in
    let within = slice_get_within xs i x at in
    let before : i < position_or_len p xs = grind (arith, nat_tests) in
    subst (λ x. p x ≡ false) (get_or_from_slice_get xs i x x at) (fails_before_first p xs i x before)

of_first_fails : {X Y Z : Type 0} (v : X → Y) (p : Y → Bool) (f : Y → Z) (d : Z) (xs : List X) → ((i : ℕ) (x : X) → slice_get xs i ≡ Some x → p (v x) ≡ false) → of_first p f d (map v xs) ≡ d
of_first_fails v p f d [] fail = refl
of_first_fails v p f d (x ∷ xs) fail =
    let here : p (v x) ≡ false = fail 0 x refl in
    rw here (of_first_fails v p f d xs (λ i y at. fail (suc i) y at))

pub of_first_missing : {X Y Z : Type 0} (v : X → Y) (p : Y → Bool) (f : Y → Z) (d : Z) (xs : List X) → position (λ x. p (v x)) xs ≡ None → of_first p f d (map v xs) ≡ d
of_first_missing v p f d xs none = of_first_fails v p f d xs (λ i x at. none_passes (λ x. p (v x)) xs none i x at)
