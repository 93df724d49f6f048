-- Keywords that say nothing of the chip.
use Rattle.std.proofs.Common.{◌≡◌, ℕ, zero, suc, List, [], ◌∷◌, Option, None, Some, nat_eq, position, refl, ap}
use Rattle.soc_model.specs.declared.Test.{Test}
use Rattle.soc_model.specs.Chips.{ModuleValue, SocValue}
use Rattle.soc_model.specs.Lookups.{module_place}
use Rattle.soc_reader.specs.declared.keys.Key.{Key}
use Rattle.soc_reader.specs.declared.keys.Key.TheVariants.{SocName, PowerFlag, XyFlag, Module, Level, Inputs, Outputs, Bidirs, Setup, ScanChains, Test as TestKey, ScanUse, TamUse, Patterns, Power}
use Rattle.soc_reader.specs.declared.keys.Subject.{Subject}
use Rattle.soc_reader.specs.declared.keys.Subject.TheVariants.{Chip, OfModule, OfTest}
use Rattle.soc_reader.specs.Table.{Value, nothing, lengths, entry}
use Rattle.soc_reader.specs.Meaning.{change_at, change_found, at_module, test_says, module_says, chip_says, tells, says}

change_at-same : {A : Type 0} (place : ℕ) (f : A → A) (xs : List A) → ((x : A) → f x ≡ x) → change_at place f xs ≡ xs
change_at-same place f [] same = refl
change_at-same zero f (x ∷ xs) same = ap (λ y. y ∷ xs) (same x)
change_at-same (suc place) f (x ∷ xs) same = ap (λ ys. x ∷ ys) (change_at-same place f xs same)

change_found-same : {A : Type 0} (o : Option ℕ) (f : A → A) (xs : List A) → ((x : A) → f x ≡ x) → change_found o f xs ≡ xs
change_found-same None f xs same = refl
change_found-same (Some place) f xs same = change_at-same place f xs same

-- what leaves each module leaves the chip
module-same : (m : ℕ) (f : ModuleValue → ModuleValue) (c : SocValue) → ((x : ModuleValue) → f x ≡ x) → at_module m f c ≡ c
module-same m f c same = ap (λ (ms : List ModuleValue). record c { modules = ms }) (change_found-same (module_place c m) f c.modules same)

-- what leaves each test leaves the module
tests-same : (n t : ℕ) (k : Key) (v : Value) (x : ModuleValue) → ((y : Test) → test_says k v y ≡ y) → tells (entry (OfTest n t) k v) x ≡ x
tests-same n t k v x same =
    ap (λ (ts : List Test). record x { tests = ts }) (change_found-same (position (λ (y : Test). nat_eq t y.number) x.tests) (test_says k v) x.tests same)

chip-nothing : (k : Key) (c : SocValue) → chip_says k nothing c ≡ c
chip-nothing SocName c = refl
chip-nothing PowerFlag c = refl
chip-nothing XyFlag c = refl
chip-nothing Module c = refl
chip-nothing k c = refl

module-nothing : (k : Key) (x : ModuleValue) → module_says k nothing x ≡ x
module-nothing Level x = refl
module-nothing Inputs x = refl
module-nothing Outputs x = refl
module-nothing Bidirs x = refl
module-nothing Setup x = refl
module-nothing ScanChains x = refl
module-nothing TestKey x = refl
module-nothing k x = refl

test-nothing : (k : Key) (y : Test) → test_says k nothing y ≡ y
test-nothing ScanUse y = refl
test-nothing TamUse y = refl
test-nothing Patterns y = refl
test-nothing Power y = refl
test-nothing k y = refl

-- a keyword by itself
pub says-nothing : (s : Subject) (k : Key) (c : SocValue) → says (entry s k nothing) c ≡ c
says-nothing Chip k c = chip-nothing k c
says-nothing (OfModule m) k c = module-same m (tells (entry (OfModule m) k nothing)) c (module-nothing k)
says-nothing (OfTest m t) k c = module-same m (tells (entry (OfTest m t) k nothing)) c (λ x. tests-same m t k nothing x (test-nothing k))

-- a list that isn't of a module
pub list-of_chip : (k : Key) (ns : List ℕ) (c : SocValue) → says (entry Chip k (lengths ns)) c ≡ c
list-of_chip SocName ns c = refl
list-of_chip PowerFlag ns c = refl
list-of_chip XyFlag ns c = refl
list-of_chip Module ns c = refl
list-of_chip k ns c = refl

test-list : (k : Key) (ns : List ℕ) (y : Test) → test_says k (lengths ns) y ≡ y
test-list ScanUse ns y = refl
test-list TamUse ns y = refl
test-list Patterns ns y = refl
test-list Power ns y = refl
test-list k ns y = refl

pub list-of_test : (m t : ℕ) (k : Key) (ns : List ℕ) (c : SocValue) → says (entry (OfTest m t) k (lengths ns)) c ≡ c
list-of_test m t k ns c = module-same m (tells (entry (OfTest m t) k (lengths ns))) c (λ x. tests-same m t k (lengths ns) x (test-list k ns))
