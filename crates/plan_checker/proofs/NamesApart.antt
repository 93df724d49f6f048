-- The names of placed tests: no two have one, and each is found at its place.
use Rattle.std.proofs.Common.{◌≡◌, ℕ, Some, None, Option, List, ap, ◌∙◌, sym, true≢false, slice_get, IfSome, IfNone, position}
use Rattle.soc_model.specs.declared.TestId.{TestId}
use Rattle.soc_model.specs.Chips.{same_test}
use Rattle.live_tests.specs.Names.{AllDiffer}
use Rattle.live_tests.specs.declared.placed.PlacedTest.{PlacedTest}
use Rattle.plan_checker.specs.Named.{names_of}
use Rattle.plan_checker.proofs.Finding.{position_finds, position_fails, some_same}
use Rattle.plan_checker.proofs.Rooms.{same_test_is, same_test_itself}
use Rattle.common_lemmas.proofs.Lists.{map_at}

pub name_found : (id : TestId) (names : List TestId) (r : Option ℕ) → r ≡ position (same_test id) names → IfSome r (λ p. slice_get names p ≡ Some id)
name_found id names None e = tt
name_found id names (Some p) e =
    let f = position_finds (same_test id) names (Some p) e in
    f.1 ∙ ap Some (sym (same_test_is id f.0 f.2))

pub name_missing : (id : TestId) (names : List TestId) (r : Option ℕ) → r ≡ position (same_test id) names → IfNone r ((p : ℕ) → slice_get names p ≡ Some id → ⊥)
name_missing id names (Some p) e = tt
name_missing id names None e = λ p at. true≢false (sym (same_test_itself id) ∙ position_fails (same_test id) names None e p id at)

-- two placed tests of one name are one
pub one_placed : (placed : List PlacedTest) (p q : ℕ) (a b : PlacedTest) → AllDiffer (names_of placed) → slice_get placed p ≡ Some a → slice_get placed q ≡ Some b → a.id ≡ b.id → a ≡ b
one_placed placed p q a b apart at there same =
    let one : p ≡ q = apart p q b.id (map_at (λ (j : PlacedTest). j.id) placed p a at ∙ ap Some same) (map_at (λ (j : PlacedTest). j.id) placed q b there) in
    some_same (sym at ∙ ap (slice_get placed) one ∙ there)
