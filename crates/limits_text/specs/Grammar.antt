-- The limits grammar: a text is `Limits`, the number of its form, and items that may stand in any order.
use Rattle.std.specs.Prelude.{◌≡◌, ℕ, ◌++◌, List, [], ◌∷◌, Bool, true, false, Some}
use Rattle.soc_model.specs.declared.TestId.{TestId}
use Rattle.limits_text.specs.declared.items.Amount.{Amount}
use Rattle.limits_text.specs.declared.items.Amount.TheVariants.{Wires}
use Rattle.limits_text.specs.declared.items.Key.TheVariants.{One, Before, Profile}
use Rattle.outside.specs.Words.{Word}
use Rattle.limits_text.specs.Items.{number, is_title, key_of, Item, amount_item, before_item, profile_item, is_in_range, has_amount, has_profile, NamesTest, ArePairs, AreSteps}

-- Lists of earlier items have the latest item first.

-- `Wires`, `Power` or `Budget` with a number in its range, which was not given before
pub record AmountComes (earlier : List Item) (a : Amount) (n : ℕ) (ws : List Word) : Type 0 where
  pub first : Word
  pub second : Word
  pub words : ws ≡ first ∷ second ∷ []
  pub keyword : key_of first.0 ≡ Some (One a)
  pub value : number second.0 ≡ Some n
  pub range : is_in_range a n ≡ true
  pub once : has_amount a earlier ≡ false

-- `Before` and two tests
pub record BeforeComes (line : ℕ) (a b : TestId) (ws : List Word) : Type 0 where
  pub first : Word
  pub module_a : Word
  pub test_a : Word
  pub module_b : Word
  pub test_b : Word
  pub words : ws ≡ first ∷ module_a ∷ test_a ∷ module_b ∷ test_b ∷ []
  pub keyword : key_of first.0 ≡ Some Before
  pub here : line ≡ first.1
  pub names_a : NamesTest a module_a test_a
  pub names_b : NamesTest b module_b test_b

-- `Profile`, in a text of the second form, and a test that had none before, with its steps
pub record ProfileComes (form : Bool) (earlier : List Item) (line : ℕ) (id : TestId) (steps : List (ℕ × ℕ)) (ws : List Word) : Type 0 where
  pub first : Word
  pub module_word : Word
  pub test_word : Word
  pub pairs : List Word
  pub words : ws ≡ first ∷ module_word ∷ test_word ∷ pairs
  pub keyword : key_of first.0 ≡ Some Profile
  pub here : line ≡ first.1
  pub has_form : form ≡ true
  pub names : NamesTest id module_word test_word
  pub once : has_profile id earlier ≡ false
  pub are : ArePairs pairs steps
  pub steps_are : AreSteps steps

-- the words of this item may come after the earlier items
abbrev pub Comes : Bool → List Item → Item → List Word → Type 0
Comes form earlier (amount_item a n) ws = AmountComes earlier a n ws
Comes form earlier (before_item line a b) ws = BeforeComes line a b ws
Comes form earlier (profile_item line id steps) ws = ProfileComes form earlier line id steps ws

-- the words are these items, the latest first
abbrev pub AreItems : Bool → List Item → List Word → Type 0
AreItems form [] ws = ws ≡ []
AreItems form (x ∷ earlier) ws =
    (front : List Word) × (own : List Word) × (ws ≡ front ++ own) × AreItems form earlier front × Comes form earlier x own

-- the number of the form: 2 where there may be profiles, and otherwise 1
abbrev pub form_number : Bool → ℕ
form_number true = 2
form_number false = 1

-- the words are a whole text of these items; wires are given
pub record IsText (form : Bool) (items : List Item) (ws : List Word) : Type 0 where
  pub title : Word
  pub version : Word
  pub rest : List Word
  pub words : ws ≡ title ∷ version ∷ rest
  pub title_is : is_title title.0 ≡ true
  pub version_is : number version.0 ≡ Some (form_number form)
  pub are : AreItems form items rest
  pub wires : has_amount Wires items ≡ true

-- the set of whole lists of words
abbrev pub InGrammar : List Word → Type 0
InGrammar ws = (form : Bool) × (items : List Item) × IsText form items ws
