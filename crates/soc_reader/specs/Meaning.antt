-- What the items of a text say of a chip.
use Rattle.std.specs.Prelude.{ℕ, zero, suc, ◌+◌, ◌||◌, ◌&&◌, ◌++◌, List, [], ◌∷◌, Bool, true, false, length, nat_eq, position, slice_get, Option, None, Some, if◌then◌else◌}
use Rattle.std.specs.List.{list_any}
use Rattle.soc_model.specs.declared.Test.{Test}
use Rattle.soc_model.specs.Chips.{ModuleValue, SocValue}
use Rattle.soc_model.specs.Lookups.{module_place, has_module_number}
use Rattle.soc_reader.specs.declared.keys.Key.{Key}
use Rattle.soc_reader.specs.declared.keys.Key.TheVariants.{SocName, TotalModules, PowerFlag, XyFlag, Module, Level, Inputs, Outputs, Bidirs, Setup, ScanChains, TotalTests, Test as TestKey, ScanUse, TamUse, Patterns, Power}
use Rattle.soc_reader.specs.declared.keys.Subject.TheVariants.{Chip, OfModule, OfTest}
use Rattle.soc_reader.specs.Table.{Value, word, count, flag, lengths, Item, entry, name, place_data, coordinate}

-- a module of which nothing was said
abbrev pub new_module : ℕ → ModuleValue
new_module m = record {
  number = m;
  name = [];
  level = (if nat_eq m 0 then 0 else 1);
  inputs = 0;
  outputs = 0;
  bidirs = 0;
  setup = 0;
  chains = [];
  tests = [];
}

-- a test of which nothing was said
abbrev pub new_test : ℕ → Test
new_test t = record { number = t; scan = true; tam = true; patterns = 0; power = 0 }

abbrev pub empty_chip : SocValue
empty_chip = record { name = []; power_flag = false; xy_flag = false; keys = []; modules = [] }

-- modules and tests stand in the order of their first mention
abbrev pub with_module : ℕ → SocValue → SocValue
with_module m c = (if has_module_number c m then c else record c { keys = c.keys ++ m ∷ []; modules = c.modules ++ new_module m ∷ [] })

abbrev pub with_test : ℕ → List Test → List Test
with_test t ts = (if list_any (λ (x : Test). nat_eq t x.number) ts then ts else ts ++ new_test t ∷ [])

-- a change of the element at a place
abbrev pub change_at : {A : Type 0} → ℕ → (A → A) → List A → List A
change_at place change [] = []
change_at zero change (x ∷ xs) = change x ∷ xs
change_at (suc place) change (x ∷ xs) = x ∷ change_at place change xs

abbrev pub change_found : {A : Type 0} → Option ℕ → (A → A) → List A → List A
change_found None change xs = xs
change_found (Some place) change xs = change_at place change xs

-- a change of the module that is found by a number
abbrev pub at_module : ℕ → (ModuleValue → ModuleValue) → SocValue → SocValue
at_module m change c = record c { modules = change_found (module_place c m) change c.modules }

-- a change of the first test of a number
abbrev pub at_test : ℕ → (Test → Test) → List Test → List Test
at_test t change ts = change_found (position (λ (x : Test). nat_eq t x.number) ts) change ts

abbrev pub test_says : Key → Value → Test → Test
test_says ScanUse (flag b) x = record x { scan = b }
test_says TamUse (flag b) x = record x { tam = b }
test_says Patterns (count n line) x = record x { patterns = n }
test_says Power (count n line) x = record x { power = n }
test_says k v x = x

abbrev pub module_says : Key → Value → ModuleValue → ModuleValue
module_says Level (count n line) x = record x { level = n }
module_says Inputs (count n line) x = record x { inputs = n }
module_says Outputs (count n line) x = record x { outputs = n }
module_says Bidirs (count n line) x = record x { bidirs = n }
module_says Setup (count n line) x = record x { setup = n }
module_says ScanChains (lengths ns) x = record x { chains = ns }
module_says TestKey (count t line) x = record x { tests = with_test t x.tests }
module_says k v x = x

abbrev pub chip_says : Key → Value → SocValue → SocValue
chip_says SocName (word w) c = record c { name = w }
chip_says PowerFlag (flag b) c = record c { power_flag = b }
chip_says XyFlag (flag b) c = record c { xy_flag = b }
chip_says Module (count m line) c = with_module m c
chip_says k v c = c

-- what an item says of its module
abbrev pub tells : Item → ModuleValue → ModuleValue
tells (entry Chip k v) x = x
tells (entry (OfModule m) k v) x = module_says k v x
tells (entry (OfTest m t) k v) x = record x { tests = at_test t (test_says k v) x.tests }
tells (name m w) x = record x { name = w }
tells place_data x = x
tells coordinate x = x

abbrev pub says : Item → SocValue → SocValue
says (entry Chip k v) c = chip_says k v c
says (entry (OfModule m) k v) c = at_module m (tells (entry (OfModule m) k v)) c
says (entry (OfTest m t) k v) c = at_module m (tells (entry (OfTest m t) k v)) c
says (name m w) c = at_module m (tells (name m w)) c
says place_data c = c
says coordinate c = c

-- the chip of these items, the latest first
abbrev pub chip_of : List Item → SocValue
chip_of [] = empty_chip
chip_of (x ∷ earlier) = says x (chip_of earlier)

-- Totals: the number of modules, which may leave module 0 out; the number of a module's tests.
abbrev pub module_count : SocValue → ℕ → Bool
module_count c n = nat_eq n (length c.modules) || (has_module_number c 0 && nat_eq (n + 1) (length c.modules))

abbrev pub counts_tests : Option ModuleValue → ℕ → Bool
counts_tests None n = false
counts_tests (Some x) n = nat_eq n (length x.tests)

abbrev pub counts_at : List ModuleValue → Option ℕ → ℕ → Bool
counts_at ms None n = false
counts_at ms (Some place) n = counts_tests (slice_get ms place) n

abbrev pub test_count : SocValue → ℕ → ℕ → Bool
test_count c m n = counts_at c.modules (module_place c m) n

-- the line of a total that does not agree with the chip
abbrev pub wrong_total : SocValue → Item → Option ℕ
wrong_total c (entry Chip TotalModules (count n line)) = (if module_count c n then None else Some line)
wrong_total c (entry (OfModule m) TotalTests (count n line)) = (if test_count c m n then None else Some line)
wrong_total c x = None

abbrev pub or_else : Option ℕ → Option ℕ → Option ℕ
or_else None o = o
or_else (Some line) o = Some line

-- the line of the first total, in the text, that does not agree
abbrev pub first_wrong : SocValue → List Item → Option ℕ
first_wrong c [] = None
first_wrong c (x ∷ earlier) = or_else (first_wrong c earlier) (wrong_total c x)
