-- What is read of a chip's map is read of its plain lists.
use Rattle.std.proofs.Common.{◌≡◌, ℕ, Bool, true, false, List, [], ◌∷◌, ◌++◌, map, nat_eq, Option, None, Some, is_some, cond, ◌||◌, length, slice_get, slice_index, zero, suc, arith, refl, ap, sym, ◌∙◌}
use Rattle.std.proofs.lemmas.Grind.{common_steps}
use Rattle.std.proofs.lemmas.List.{map-append, length-map}
use Rattle.std.proofs.lemmas.List.Concat.{length-flat_map}
use Rattle.std.proofs.lemmas.List.Folds.{flat_map-map}
use Rattle.std.specs.List.{list_any, flat_map, sum_by}
use Rattle.std.specs.Map.{lookup}
use Rattle.indexmap.specs.IndexMap.{insert_entry, get}
use Rattle.indexmap.proofs.CallerLemmas.{insert_entry-new}
use Rattle.soc_model.specs.declared.Module.{Module}
use Rattle.soc_model.specs.declared.Soc.{Soc}
use Rattle.soc_model.specs.Chips.{ModuleValue, module_value, soc_value}
use Rattle.soc_model.specs.Sizes.{all_tests}
use Rattle.common_lemmas.proofs.Options.{none_from}

abbrev pub key_of : ℕ × Module → ℕ
key_of e = e.0

abbrev pub value_of : ℕ × Module → ModuleValue
value_of e = module_value e.1

-- a number is there where a look-up finds it
pub found-has : (test : ℕ → Bool) (es : List (ℕ × Module)) → is_some (lookup test es) ≡ list_any test (map key_of es)
found-has test [] = refl
found-has test (e ∷ es) = elim (test e.0) as (λ b. is_some (cond b (Some e.1) (lookup test es)) ≡ (b || list_any test (map key_of es))) [
  | true ↦ refl
  | false ↦ found-has test es
]

-- the module at a place
pub module-at : (es : List (ℕ × Module)) (i : ℕ) (e : ℕ × Module) → slice_get es i ≡ Some e → slice_get (map value_of es) i ≡ Some (module_value e.1)
module-at [] i e at = grind (arith, common_steps)
module-at (x ∷ es) zero e at = grind (arith, common_steps)
module-at (x ∷ es) (suc i) e at = module-at es i e at

-- its level
pub level-at : (ms : List ModuleValue) (i : ℕ) (m : ModuleValue) → slice_get ms i ≡ Some m → m.level ≡ slice_index (map (λ (x : ModuleValue). x.level) ms) i
level-at [] i m at = grind (arith, common_steps)
level-at (x ∷ ms) zero m at = grind (arith, common_steps)
level-at (x ∷ ms) (suc i) m at = level-at ms i m at

-- the entries after a new module
pub pushed : (s : Soc) (n : ℕ) (m : Module) (b : Bool) → b ≡ is_some (get nat_eq s.modules n) → b ≡ false → insert_entry nat_eq s.modules.entries n m ≡ s.modules.entries ++ (n, m) ∷ []
pushed s n m b is absent = insert_entry-new nat_eq s.modules n m (none_from _ b is absent)

-- what is computed of each module is computed of its plain form
pub each_plain : {X : Type 0} (g : ModuleValue → X) (es : List (ℕ × Module)) → map g (map value_of es) ≡ map (λ (m : Module). g (module_value m)) (map {A = ℕ × Module} (λ e. e.1) es)
each_plain g [] = refl
each_plain g (e ∷ es) = ap (λ l. g (module_value e.1) ∷ l) (each_plain g es)

pub all_plain : (es : List (ℕ × Module)) → map value_of es ≡ map module_value (map {A = ℕ × Module} (λ e. e.1) es)
all_plain [] = refl
all_plain (e ∷ es) = ap (λ l. module_value e.1 ∷ l) (all_plain es)

-- the plain lists after a new module
pub keys-push : (es : List (ℕ × Module)) (n : ℕ) (m : Module) → map key_of (es ++ (n, m) ∷ []) ≡ map key_of es ++ n ∷ []
keys-push es n m = map-append key_of es ((n, m) ∷ [])

pub values-push : (es : List (ℕ × Module)) (n : ℕ) (m : Module) → map value_of (es ++ (n, m) ∷ []) ≡ map value_of es ++ module_value m ∷ []
values-push es n m = map-append value_of es ((n, m) ∷ [])

-- ---- loops over the modules: the iterator at the start

module _ (s : Soc) (it : List Module) (starts : it ≡ map {A = ℕ × Module} (λ e. e.1) s.modules.entries) where
  pub modules-at_start : (soc_value s).modules ≡ map module_value it
  modules-at_start = all_plain s.modules.entries ∙ ap (map module_value) (sym starts)

  pub chains-at_start : map (λ (m : ModuleValue). length m.chains) (soc_value s).modules ≡ map (λ (m : Module). length m.chains.items) it
  chains-at_start = each_plain (λ (m : ModuleValue). length m.chains) s.modules.entries ∙ ap (map (λ (m : Module). length m.chains.items)) (sym starts)

  pub tests-at_start : all_tests (soc_value s) ≡ flat_map (λ (m : Module). m.tests.items) it
  tests-at_start = ap (flat_map (λ (m : ModuleValue). m.tests)) modules-at_start ∙ flat_map-map (λ (m : ModuleValue). m.tests) module_value it

  pub counts-at_start : sum_by (λ (m : Module). length m.tests.items) it ≡ length (all_tests (soc_value s))
  counts-at_start = sym (ap length tests-at_start ∙ length-flat_map (λ (m : Module). m.tests.items) it)

  pub length-at_start : length it ≡ length (soc_value s).modules
  length-at_start = sym (ap length modules-at_start ∙ length-map it module_value)
