-- Sound chips: what every chip that is read keeps.
use Rattle.std.specs.Prelude.{◌≡◌, ℕ, Bool, false, List, [], ◌∷◌, Some, ◌&&◌, ◌||◌, not, map, nat_eq, nat_le, slice_get, IsTrue, codes}
use Rattle.std.specs.List.{All, list_any}
use Rattle.std.specs.Char.{to_ascii_lowercase}
use Rattle.std.specs.Cmp.Lexicographic.{pointwise}
use Rattle.soc_model.specs.declared.Test.{Test}
use Rattle.soc_model.specs.Chips.{ModuleValue, SocValue, numbers}
use Rattle.soc_model.specs.Sizes.{HasSmallNumbers, IsWithinSize}

-- the keywords of the .soc form
unfoldable pub keywords : List (List ℕ)
keywords =
    codes "SocName" ∷ codes "TotalModules" ∷ codes "Options" ∷ codes "Module" ∷ codes "Level" ∷ codes "Inputs" ∷ codes "Outputs"
    ∷ codes "Bidirs" ∷ codes "Setup" ∷ codes "ScanChains" ∷ codes "TotalScanChains" ∷ codes "ScanChainLengths"
    ∷ codes "TotalTests" ∷ codes "Tests" ∷ codes "Test" ∷ codes "ScanUse" ∷ codes "TamUse" ∷ codes "Patterns" ∷ codes "Power"
    ∷ codes "XY" ∷ []

-- two words differ in the case of ASCII letters alone, or not at all
abbrev pub same_but_for_case : List ℕ → List ℕ → Bool
same_but_for_case a b = pointwise nat_eq (map to_ascii_lowercase a) (map to_ascii_lowercase b)

abbrev pub is_keyword : List ℕ → Bool
is_keyword word = list_any (same_but_for_case word) keywords

-- printable, and neither a separator (`:`, `,` or `;`) nor `#`
abbrev pub is_name_byte : ℕ → Bool
is_name_byte b = (nat_le 33 b && nat_le b 126) && not (nat_eq b 58 || nat_eq b 44 || nat_eq b 59 || nat_eq b 35)

-- empty, or bytes that make one word
abbrev pub IsName : List ℕ → Type 0
IsName name = All (λ b. IsTrue (is_name_byte b)) name

-- no number stands at two places
abbrev pub AllDiffer : List ℕ → Type 0
AllDiffer ns = (p q n : ℕ) → slice_get ns p ≡ Some n → slice_get ns q ≡ Some n → p ≡ q

pub record IsSoundModule (m : ModuleValue) : Type 0 where
  pub name : IsName m.name
  pub no_keyword : is_keyword m.name ≡ false
  pub tests_differ : AllDiffer (map (λ (t : Test). t.number) m.tests)

pub record IsSoundChip (soc : SocValue) : Type 0 where
  -- each module stands under its own number
  pub keyed : soc.keys ≡ numbers soc
  pub modules_differ : AllDiffer (numbers soc)
  pub name : IsName soc.name
  pub modules : All IsSoundModule soc.modules
  pub small : HasSmallNumbers soc
  pub size : IsWithinSize soc
