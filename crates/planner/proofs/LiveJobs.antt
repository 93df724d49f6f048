-- The live tests are added module by module.
use Rattle.std.proofs.Common.{◌≡◌, ℕ, ◌+◌, ◌<◌, true, false, cond, Some, List, [], ◌∷◌, ◌++◌, length, get_or, map, take, drop, refl, ap, ◌∙◌, append_assoc, append-nil, add-one, slice_get, filter}
use Rattle.std.proofs.lemmas.List.{map-append}
use Rattle.std.proofs.lemmas.List.Elements.{filter_more}
use Rattle.std.proofs.lemmas.Option.{slice_get_within, get_or_from_slice_get}
use Rattle.std.proofs.Math.Seq.{drop-cons}
use Rattle.soc_model.specs.declared.Test.{Test}
use Rattle.soc_model.specs.Chips.{ModuleValue, LiveTest, is_live, live_from}
use Rattle.resource_table.specs.declared.JobTest.{JobTest}
use Rattle.resource_table.specs.Jobs.{TestValue, test_value}
use Rattle.common_lemmas.proofs.Lists.{map_twice}

-- one module more
pub tests_more : (f : LiveTest → TestValue) (old new whole : List TestValue) (place : ℕ) (ms : List ModuleValue) (m : ModuleValue) → new ≡ old ++ map (λ (t : Test). f (record { place = place; core = m; test = t })) (filter is_live m.tests) → slice_get ms place ≡ Some m
    → old ++ map f (live_from place (drop place ms)) ≡ whole → new ++ map f (live_from (place + 1) (drop (place + 1) ms)) ≡ whole
unfolding live_from
tests_more f old new whole place ms m added at before =
    let here : drop place ms ≡ m ∷ drop (place + 1) ms = drop-cons ms place m (slice_get_within ms place m at) ∙ rw (get_or_from_slice_get ms place m m at, add-one) refl in
    let all = rw (here, map-append, map_twice, ← append_assoc, ← added) at before in
    all

-- one test more of a module
module _ (f : Test → TestValue) (old : List TestValue) (tests : List Test) (i : ℕ) (d : Test) (inside : i < length tests) (now new : List JobTest) where
  next : map f (filter is_live (take (i + 1) tests)) ≡ map f (filter is_live (take i tests)) ++ map f (cond (is_live (get_or tests i d)) (get_or tests i d ∷ []) [])
  next = ap (map f) (filter_more is_live tests i d inside) ∙ map-append f (filter is_live (take i tests)) (cond (is_live (get_or tests i d)) (get_or tests i d ∷ []) [])

  -- one that is live
  pub test_added : (entry : JobTest) → is_live (get_or tests i d) ≡ true → test_value entry ≡ f (get_or tests i d) → new ≡ now ++ entry ∷ []
      → map test_value now ≡ old ++ map f (filter is_live (take i tests)) → map test_value new ≡ old ++ map f (filter is_live (take (i + 1) tests))
  test_added entry live made pushed before =
      rw (next, live, pushed, map-append test_value now (entry ∷ []), before, made) (append_assoc old (map f (filter is_live (take i tests))) (f (get_or tests i d) ∷ []))

  -- one that isn't
  pub test_left : is_live (get_or tests i d) ≡ false → new ≡ now → map test_value now ≡ old ++ map f (filter is_live (take i tests)) → map test_value new ≡ old ++ map f (filter is_live (take (i + 1) tests))
  test_left idle same before = rw (next, idle, same, append-nil) before
