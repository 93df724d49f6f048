-- Modules and tests by the place that their number is found at.
use Rattle.std.proofs.Common.{◌≡◌, ℕ, zero, suc, ◌+◌, ◌<◌, List, [], ◌∷◌, ◌++◌, map, length, get_or, Bool, true, false, cond, not, ◌||◌, nat_eq, position, slice_get, Option, None, Some, refl, sym, ◌∙◌, ap, arith, slice_set, Result, Ok, Err, OnOk}
use Rattle.std.specs.List.{list_any, prefix_len}
use Rattle.std.proofs.lemmas.Option.{same_Some}
use Rattle.std.proofs.lemmas.List.{length-map}
use Rattle.std.proofs.lemmas.List.Quantifiers.{position-Some}
use Rattle.indexmap.specs.IndexMap.{set_value_at}
use Rattle.soc_model.specs.declared.Module.{Module}
use Rattle.soc_model.specs.declared.Test.{Test}
use Rattle.soc_model.specs.declared.Soc.{Soc}
use Rattle.soc_model.specs.Chips.{ModuleValue, module_value, SocValue, soc_value}
use Rattle.soc_model.specs.Lookups.{module_place}
use Rattle.soc_model.proofs.Entries.{key_of, value_of}
use Rattle.soc_reader.specs.declared.build.TestNumbers.{TestNumbers}
use Rattle.soc_reader.specs.Meaning.{change_at, change_found, with_test, new_test, at_module}
use Rattle.soc_reader.specs.Drafts.{test_numbers, keys_of_set}

-- ---- a write at a place

-- an element that is changed where it stands
pub set-change : {A : Type 0} (f : A → A) (xs : List A) (place : ℕ) (old new : A) → place < length xs → old ≡ get_or xs place old → new ≡ f old → slice_set xs place new ≡ change_at place f xs
set-change f [] place old new within at changes = absurd (omega arith)
set-change f (x ∷ xs) zero old new within at changes = ap (λ y. y ∷ xs) (changes ∙ ap f at)
set-change f (x ∷ xs) (suc place) old new within at changes = ap (λ ys. x ∷ ys) (set-change f xs place old new (omega arith) at changes)

-- a module that is changed in the chip's map
pub module-change : (change : ModuleValue → ModuleValue) (es : List (ℕ × Module)) (place : ℕ) (old new : Module) → slice_get (map {A = ℕ × Module} (λ e. e.1) es) place ≡ Some old → module_value new ≡ change (module_value old) → map value_of (set_value_at es place new) ≡ change_at place change (map value_of es)
module-change change [] place old new at changes = refl
module-change change (e ∷ es) zero old new at changes = ap (λ m. m ∷ map value_of es) (changes ∙ ap (λ m. change (module_value m)) (sym (same_Some e.1 old at)))
module-change change (e ∷ es) (suc place) old new at changes = ap (λ ms. value_of e ∷ ms) (module-change change es place old new at changes)

-- the numbers that modules are found by stay
pub keys-set : (es : List (ℕ × Module)) (place : ℕ) (new : Module) → map key_of (set_value_at es place new) ≡ map key_of es
keys-set [] place new = refl
keys-set (e ∷ es) zero new = refl
keys-set (e ∷ es) (suc place) new = ap (λ ks. key_of e ∷ ks) (keys-set es place new)

-- ---- the numbers of tests

-- of each module
abbrev pub numbers_in : List ModuleValue → List (List ℕ)
numbers_in ms = map (λ (m : ModuleValue). test_numbers m.tests) ms

-- after a write in both lists
pub indexed-set : (ns : List TestNumbers) (es : List (ℕ × Module)) (place : ℕ) (n : TestNumbers) (m : Module) → map keys_of_set ns ≡ numbers_in (map value_of es) → n.set.keys ≡ test_numbers m.tests.items → map keys_of_set (slice_set ns place n) ≡ numbers_in (map value_of (set_value_at es place m))
indexed-set [] [] place n m same new = refl
indexed-set [] (e ∷ es) place n m same new = cc
indexed-set (k ∷ ns) [] place n m same new = cc
indexed-set (k ∷ ns) (e ∷ es) zero n m same new =
    let rest : map keys_of_set ns ≡ numbers_in (map value_of es) = cc in
    ap (λ l. l ∷ map keys_of_set ns) new ∙ ap (λ l. test_numbers m.tests.items ∷ l) rest
indexed-set (k ∷ ns) (e ∷ es) (suc place) n m same new =
    let first : keys_of_set k ≡ test_numbers e.1.tests.items = cc in
    let rest : map keys_of_set ns ≡ numbers_in (map value_of es) = cc in
    ap (λ l. l ∷ map keys_of_set (slice_set ns place n)) first ∙ ap (λ l. test_numbers e.1.tests.items ∷ l) (indexed-set ns es place n m rest new)

-- after a write that leaves the numbers of the tests
pub numbers-kept : (es : List (ℕ × Module)) (place : ℕ) (old new : Module) → slice_get (map {A = ℕ × Module} (λ e. e.1) es) place ≡ Some old → test_numbers new.tests.items ≡ test_numbers old.tests.items → numbers_in (map value_of (set_value_at es place new)) ≡ numbers_in (map value_of es)
numbers-kept [] place old new at same = refl
numbers-kept (e ∷ es) zero old new at same = ap (λ l. l ∷ numbers_in (map value_of es)) (same ∙ ap (λ (m : Module). test_numbers m.tests.items) (sym (same_Some e.1 old at)))
numbers-kept (e ∷ es) (suc place) old new at same = ap (λ l. test_numbers e.1.tests.items ∷ l) (numbers-kept es place old new at same)

-- at one place
pub indexed-at : (ns : List TestNumbers) (es : List (ℕ × Module)) (place : ℕ) (n : TestNumbers) (m : Module) → map keys_of_set ns ≡ numbers_in (map value_of es) → place < length ns → n ≡ get_or ns place n → slice_get (map {A = ℕ × Module} (λ e. e.1) es) place ≡ Some m → n.set.keys ≡ test_numbers m.tests.items
indexed-at [] es place n m same within at there = absurd (omega arith)
indexed-at (k ∷ ns) [] place n m same within at there = cc
indexed-at (k ∷ ns) (e ∷ es) zero n m same within at there =
    let first : keys_of_set k ≡ test_numbers e.1.tests.items = cc in
    ap keys_of_set at ∙ first ∙ ap (λ (m : Module). test_numbers m.tests.items) (same_Some e.1 m there)
indexed-at (k ∷ ns) (e ∷ es) (suc place) n m same within at there =
    let rest : map keys_of_set ns ≡ numbers_in (map value_of es) = cc in
    indexed-at ns es place n m rest (omega arith) at there

-- a module's place has the numbers of its tests
pub index-within : (ns : List TestNumbers) (es : List (ℕ × Module)) (n place : ℕ) → map keys_of_set ns ≡ numbers_in (map value_of es) → position (nat_eq n) (map key_of es) ≡ Some place → place < length ns
index-within ns es n place same found =
    let within : place < length (map key_of es) = (position-Some (nat_eq n) (map key_of es) place 0 found).0 in
    let index : length (map keys_of_set ns) ≡ length (numbers_in (map value_of es)) = ap length same in
    omega (arith, length-map ns keys_of_set, length-map es key_of, length-map es value_of, length-map (map value_of es) (λ (m : ModuleValue). test_numbers m.tests))

-- a number is found at the place of its test
pub prefix-numbers : (n : ℕ) (ts : List Test) → prefix_len (λ k. not (nat_eq n k)) (test_numbers ts) ≡ prefix_len (λ (x : Test). not (nat_eq n x.number)) ts
prefix-numbers n [] = refl
prefix-numbers n (t ∷ ts) = ap (λ l. cond (not (nat_eq n t.number)) (1 + l) 0) (prefix-numbers n ts)

pub length-numbers : (ts : List Test) → length (test_numbers ts) ≡ length ts
length-numbers [] = refl
length-numbers (t ∷ ts) = ap suc (length-numbers ts)

pub position-numbers : (n : ℕ) (ts : List Test) → position (nat_eq n) (test_numbers ts) ≡ position (λ (x : Test). nat_eq n x.number) ts
position-numbers n ts = rw (prefix-numbers n ts, length-numbers ts) refl

pub any-numbers : (n : ℕ) (ts : List Test) → list_any (nat_eq n) (test_numbers ts) ≡ list_any (λ (x : Test). nat_eq n x.number) ts
any-numbers n [] = refl
any-numbers n (t ∷ ts) = ap (λ b. nat_eq n t.number || b) (any-numbers n ts)

pub numbers-push : (ts : List Test) (t : Test) → test_numbers (ts ++ t ∷ []) ≡ test_numbers ts ++ t.number ∷ []
numbers-push [] t = refl
numbers-push (x ∷ ts) t = ap (λ ns. x.number ∷ ns) (numbers-push ts t)

-- what a look-up of a number finds
pub test-found : (n : ℕ) (ns : List ℕ) (ts : List Test) (o : Option ℕ) → ns ≡ test_numbers ts → o ≡ position (nat_eq n) ns → position (λ (x : Test). nat_eq n x.number) ts ≡ o
test-found n ns ts o same is = sym (position-numbers n ts) ∙ ap (position (nat_eq n)) (sym same) ∙ sym is

pub test-changed : (n place : ℕ) (f : Test → Test) (ns : List ℕ) (ts : List Test) (o : Option ℕ) (old new : Test) → ns ≡ test_numbers ts → o ≡ position (nat_eq n) ns → o ≡ Some place → old ≡ get_or ts place old → new ≡ f old → slice_set ts place new ≡ change_found (position (λ (x : Test). nat_eq n x.number) ts) f ts
test-changed n place f ns ts o old new same is found at changes =
    let within : place < length ns = (position-Some (nat_eq n) ns place 0 (sym is ∙ found)).0 in
    set-change f ts place old new (omega (arith, ap length same, length-numbers ts)) at changes ∙ ap (λ p. change_found p f ts) (sym (test-found n ns ts o same is ∙ found))

pub test-missing : (n : ℕ) (f : Test → Test) (ns : List ℕ) (ts : List Test) (o : Option ℕ) → ns ≡ test_numbers ts → o ≡ position (nat_eq n) ns → o ≡ None → ts ≡ change_found (position (λ (x : Test). nat_eq n x.number) ts) f ts
test-missing n f ns ts o same is missing = ap (λ p. change_found p f ts) (sym (test-found n ns ts o same is ∙ missing))

test-listed : (n : ℕ) (ns : List ℕ) (ts : List Test) (b : Bool) → ns ≡ test_numbers ts → b ≡ list_any (nat_eq n) ns → list_any (λ (x : Test). nat_eq n x.number) ts ≡ b
test-listed n ns ts b same is = sym (any-numbers n ts) ∙ ap (list_any (nat_eq n)) (sym same) ∙ sym is

pub test-there : (n : ℕ) (ns : List ℕ) (ts : List Test) (b : Bool) → ns ≡ test_numbers ts → b ≡ list_any (nat_eq n) ns → b ≡ true → ts ≡ with_test n ts
test-there n ns ts b same is there = rw (test-listed n ns ts b same is ∙ there) refl

pub test-new : (n : ℕ) (ns : List ℕ) (ts : List Test) (t : Test) (b : Bool) → ns ≡ test_numbers ts → b ≡ list_any (nat_eq n) ns → b ≡ false → t ≡ new_test n → ts ++ t ∷ [] ≡ with_test n ts
test-new n ns ts t b same is absent made = rw (test-listed n ns ts b same is ∙ absent) (ap (λ x. ts ++ x ∷ []) made)

-- a change of tests leaves their numbers
pub numbers-change : (place : ℕ) (f : Test → Test) (ts : List Test) → ((t : Test) → (f t).number ≡ t.number) → test_numbers (change_at place f ts) ≡ test_numbers ts
numbers-change place f [] keeps = refl
numbers-change zero f (t ∷ ts) keeps = ap (λ n. n ∷ test_numbers ts) (keeps t)
numbers-change (suc place) f (t ∷ ts) keeps = ap (λ ns. t.number ∷ ns) (numbers-change place f ts keeps)

pub numbers-found : (o : Option ℕ) (f : Test → Test) (ts : List Test) → ((t : Test) → (f t).number ≡ t.number) → test_numbers (change_found o f ts) ≡ test_numbers ts
numbers-found None f ts keeps = refl
numbers-found (Some place) f ts keeps = numbers-change place f ts keeps

-- ---- chips

abbrev pub with_lists : Soc → List ℕ → List ModuleValue → SocValue
with_lists soc ks ms = record (soc_value soc) { keys = ks; modules = ms }

pub soc-changed : (soc : Soc) (n : ℕ) (change : ModuleValue → ModuleValue) (place : ℕ) (old new : Module) (o : Option ℕ) → o ≡ module_place (soc_value soc) n → o ≡ Some place → slice_get (map {A = ℕ × Module} (λ e. e.1) soc.modules.entries) place ≡ Some old → module_value new ≡ change (module_value old)
    → with_lists soc (map key_of (set_value_at soc.modules.entries place new)) (map value_of (set_value_at soc.modules.entries place new)) ≡ at_module n change (soc_value soc)
soc-changed soc n change place old new o is some at changes =
    ap (λ ks. with_lists soc ks (map value_of (set_value_at soc.modules.entries place new))) (keys-set soc.modules.entries place new)
    ∙ ap (with_lists soc (soc_value soc).keys) (module-change change soc.modules.entries place old new at changes)
    ∙ ap (λ p. with_lists soc (soc_value soc).keys (change_found p change (soc_value soc).modules)) (sym (sym is ∙ some))
