-- The words of the limits format, and its items: for each keyword what follows it.
use Rattle.std.specs.Prelude.{◌≡◌, ℕ, ◌≤◌, ◌&&◌, List, [], ◌∷◌, Bool, true, false, codes, nat_le, length, Option, None, Some, if◌then◌else◌}
use Rattle.std.specs.List.{All, list_any}
use Rattle.outside.specs.Words.{Word, same_letters}
use Rattle.outside.specs.Decimal.{number_of}
use Rattle.soc_model.specs.declared.TestId.{TestId}
use Rattle.soc_model.specs.declared.TheConstants.{NUMBER_WORD_MOST, POWER_MOST}
use Rattle.soc_model.specs.Chips.{same_test}
use Rattle.plan_model.specs.declared.TheConstants.{WIRES_MOST, BUDGET_MOST, STEPS_MOST}
use Rattle.plan_model.specs.SoundLimits.{Grow}
use Rattle.limits_text.specs.declared.items.Amount.{Amount}
use Rattle.limits_text.specs.declared.items.Amount.TheVariants.{Wires, Power, Budget}
use Rattle.limits_text.specs.declared.items.Key.{Key}
use Rattle.limits_text.specs.declared.items.Key.TheVariants.{One, Before, Profile}

-- numbers are below 10 ^ 12
unfoldable pub number : List ℕ → Option ℕ
number w = number_of w NUMBER_WORD_MOST

-- the word that begins a text
unfoldable pub is_title : List ℕ → Bool
is_title w = same_letters w (codes "Limits")

-- the keyword that a word is, in any case of its letters
unfoldable pub key_of : List ℕ → Option Key
key_of w =
    if same_letters w (codes "Wires") then Some (One Wires)
    else (if same_letters w (codes "Power") then Some (One Power)
    else (if same_letters w (codes "Budget") then Some (One Budget)
    else (if same_letters w (codes "Before") then Some Before
    else (if same_letters w (codes "Profile") then Some Profile else None))))

-- An item: a number, a precedence of two tests, or the profile of a test; the last two with the line of their keyword.
pub data Item : Type 0 where
  amount_item : Amount → ℕ → Item
  before_item : ℕ → TestId → TestId → Item
  profile_item : ℕ → TestId → List (ℕ × ℕ) → Item

abbrev pub same_amount : Amount → Amount → Bool
same_amount Wires Wires = true
same_amount Power Power = true
same_amount Budget Budget = true
same_amount a b = false

-- wires are 1 to 256, a power is at most 10 ^ 9, a budget at most 1,000,000
abbrev pub is_in_range : Amount → ℕ → Bool
is_in_range Wires n = nat_le 1 n && nat_le n WIRES_MOST
is_in_range Power n = nat_le n POWER_MOST
is_in_range Budget n = nat_le n BUDGET_MOST

abbrev pub gives_amount : Amount → Item → Bool
gives_amount a (amount_item b n) = same_amount a b
gives_amount a (before_item line x y) = false
gives_amount a (profile_item line x steps) = false

abbrev pub gives_profile : TestId → Item → Bool
gives_profile id (amount_item b n) = false
gives_profile id (before_item line x y) = false
gives_profile id (profile_item line x steps) = same_test id x

abbrev pub has_amount : Amount → List Item → Bool
has_amount a items = list_any (gives_amount a) items

abbrev pub has_profile : TestId → List Item → Bool
has_profile id items = list_any (gives_profile id) items

-- the two numbers by which a test goes
abbrev pub NamesTest : TestId → Word → Word → Type 0
NamesTest id m t = (number m.0 ≡ Some id.«module») × (number t.0 ≡ Some id.test)

-- the words are these pairs of numbers
abbrev pub ArePairs : List Word → List (ℕ × ℕ) → Type 0
ArePairs ws [] = ws ≡ []
ArePairs ws (s ∷ steps) =
    (first : Word) × (second : Word) × (rest : List Word)
    × (ws ≡ first ∷ second ∷ rest) × (number first.0 ≡ Some s.0) × (number second.0 ≡ Some s.1) × ArePairs rest steps

-- steps of a profile: 1 to 16, the first from 0, the others from growing numbers, with powers of at most 10 ^ 9
pub record AreSteps (steps : List (ℕ × ℕ)) : Type 0 where
  pub begins : (power : ℕ) × (rest : List (ℕ × ℕ)) × (steps ≡ (0, power) ∷ rest)
  pub few : length steps ≤ STEPS_MOST
  pub grows : Grow 0 steps
  pub small : All (λ (s : ℕ × ℕ). s.1 ≤ POWER_MOST) steps
