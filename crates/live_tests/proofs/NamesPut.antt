-- Names that are put into a set one by one, where no two are the same.
use Rattle.std.proofs.Common.{◌≡◌, ℕ, zero, suc, ◌+◌, ◌<◌, Bool, true, false, cond, Some, List, [], ◌∷◌, ◌++◌, length, get_or, take, refl, sym, ap, ◌∙◌, arith}
use Rattle.std.specs.Prelude.{slice_get}
use Rattle.std.specs.List.{list_any}
use Rattle.std.proofs.lemmas.List.{take_more, length-take}
use Rattle.std.proofs.lemmas.Option.{slice_get-get_or, slice_get_within}
use Rattle.indexmap.specs.IndexSet.{insert_key}
use Rattle.soc_model.specs.declared.TestId.{TestId}
use Rattle.soc_model.specs.Chips.{same_test}
use Rattle.plan_model.proofs.CertificatesAreBounds.{same_test_is}
use Rattle.live_tests.specs.Names.{AllDiffer}
use Rattle.common_lemmas.proofs.Lists.{any_at}

slice_get-take : {X : Type 0} (xs : List X) (k p : ℕ) → p < k → slice_get (take k xs) p ≡ slice_get xs p
slice_get-take [] zero p less = refl
slice_get-take [] (suc k) p less = refl
slice_get-take (x ∷ xs) zero p less = absurd (omega (arith, less))
slice_get-take (x ∷ xs) (suc k) zero less = refl
slice_get-take (x ∷ xs) (suc k) (suc p) less = slice_get-take xs k p (omega (arith, less))

new_name : (ids : List TestId) (k : ℕ) (id : TestId) → AllDiffer ids → slice_get ids k ≡ Some id → list_any (same_test id) (take k ids) ≡ false
new_name ids k id differ at = go (list_any (same_test id) (take k ids)) refl
  where
    go : (b : Bool) → list_any (same_test id) (take k ids) ≡ b → b ≡ false
    go false e = refl
    go true e =
        let a = any_at (same_test id) (take k ids) e in
        let less : a.0 < k = omega (arith, slice_get_within (take k ids) a.0 a.1 a.2, length-take k ids) in
        let there : slice_get ids a.0 ≡ Some a.1 = sym (slice_get-take ids k a.0 less) ∙ a.2 in
        let same : a.0 ≡ k = differ a.0 k id (there ∙ ap Some (sym (same_test_is id a.1 a.3))) at in
        absurd (omega (arith, less, same))

-- one name more
pub names_more : (names keys new : List TestId) (k : ℕ) (d : TestId) → AllDiffer names → keys ≡ take k names → k < length names → new ≡ insert_key same_test keys (get_or names k d) → new ≡ take (k + 1) names
names_more names keys new k d differ old within inserted =
    let here : TestId = get_or names k d in
    let at : slice_get names k ≡ Some (get_or names k d) = slice_get-get_or names k d within in
    let fresh : list_any (same_test (get_or names k d)) keys ≡ false = ap (list_any (same_test (get_or names k d))) old ∙ new_name names k (get_or names k d) differ at in
    inserted ∙ ap (λ (b : Bool). cond b keys (keys ++ get_or names k d ∷ [])) fresh ∙ ap (λ (l : List TestId). l ++ get_or names k d ∷ []) old ∙ sym (take_more names k d within)
