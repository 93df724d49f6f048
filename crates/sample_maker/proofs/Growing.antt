-- A made chip with one module more.
use Rattle.std.proofs.Common.{◌≡◌, ◌∙◌, ℕ, zero, suc, ◌+◌, ◌<◌, false, [], ◌∷◌, ◌++◌, map, get_or, nat_eq, refl, sym, ap, subst, arith}
use Rattle.std.specs.List.{range_with_len}
use Rattle.std.proofs.lemmas.Bool.Decides.{nat_tests}
use Rattle.std.proofs.lemmas.List.Folds.{list_any_none}
use Rattle.std.proofs.lemmas.List.FromFn.{length-range_with_len, get_or-range_with_len, map-range_with_len_more}
use Rattle.soc_model.specs.Chips.{ModuleValue, SocValue}
use Rattle.soc_model.specs.Lookups.{has_module_number}
use Rattle.sample_maker.specs.Samples.{made_module, made_chip}
use Rattle.common_lemmas.proofs.Ranges.{range_more}

not_it : (a b : ℕ) → b < a → nat_eq a b ≡ false
not_it a b lt = grind (arith, nat_tests)

pub has_no_later : (soc : SocValue) (done seed number : ℕ) → soc ≡ made_chip done seed → number ≡ done + 1 → has_module_number soc number ≡ false
has_no_later soc done seed number is later =
    subst (λ (s : SocValue). has_module_number s number ≡ false) (sym is)
    (list_any_none (nat_eq number) (range_with_len 0 (suc done))
    (λ k d lt.
    let within : k < suc done = subst (λ m. k < m) (length-range_with_len 0 (suc done)) lt in
    let at = get_or-range_with_len 0 (suc done) k d within in
    not_it number (get_or (range_with_len 0 (suc done)) k d) (omega arith)))

grown : (done seed number : ℕ) (core : ModuleValue) → number ≡ done + 1 → core ≡ made_module seed number → record (made_chip done seed) { keys = (made_chip done seed).keys ++ core.number ∷ []; modules = (made_chip done seed).modules ++ core ∷ [] } ≡ made_chip (done + 1) seed
grown done seed number core is made =
    let keys : range_with_len 1 done ++ number ∷ [] ≡ range_with_len 1 (done + 1) = ap (λ x. range_with_len 1 done ++ x ∷ []) (omega arith) ∙ sym (range_more 1 done) in
    let modules : map (made_module seed) (range_with_len 1 done) ++ made_module seed number ∷ [] ≡ map (made_module seed) (range_with_len 1 (done + 1)) = sym (map-range_with_len_more (made_module seed) 1 done number (omega arith)) in
    rw made (rw (keys, modules) refl)

pub one_more : (old new : SocValue) (core : ModuleValue) (done seed : ℕ) → old ≡ made_chip done seed → core ≡ made_module seed (done + 1) → new ≡ record old { keys = old.keys ++ core.number ∷ []; modules = old.modules ++ core ∷ [] } → new ≡ made_chip (done + 1) seed
one_more old new core done seed is made put =
    put ∙ ap (λ (s : SocValue). record s { keys = s.keys ++ core.number ∷ []; modules = s.modules ++ core ∷ [] }) is ∙ grown done seed (done + 1) core refl made
