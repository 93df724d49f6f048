-- What is listed while definitions are written.
use Rattle.std.specs.Prelude.{◌≡◌, ℕ, ◌+◌, List, ◌++◌, length}
use Rattle.tester_forms.specs.declared.vcd_definitions.Listing.{Listing}
use Rattle.tester_forms.specs.Dumps.{variable_lines, scope_lines}
use Rattle.tester_forms.specs.Forms.{control_sources}
use Rattle.tester_forms.specs.Variables.{Variable, Scope, sources_in, sources_of}

-- the number of the next variable
abbrev pub number_of : Listing → ℕ
number_of l = l.first + length l.places.items

-- variables of controls were added
pub record IsListed (old new : Listing) (variables : List Variable) : Type 0 where
  pub text : new.text.items ≡ old.text.items ++ variable_lines (number_of old) variables
  pub sources : control_sources new.places.items ≡ control_sources old.places.items ++ sources_in variables
  pub first : new.first ≡ old.first

-- scopes with such variables were added
pub record AreListed (old new : Listing) (scopes : List Scope) : Type 0 where
  pub text : new.text.items ≡ old.text.items ++ scope_lines (number_of old) scopes
  pub sources : control_sources new.places.items ≡ control_sources old.places.items ++ sources_of scopes
  pub first : new.first ≡ old.first

-- with these variables added it is a listing that these were added to at first
pub record GoesOn (old now : Listing) (rest all : List Variable) : Type 0 where
  pub text : now.text.items ++ variable_lines (number_of now) rest ≡ old.text.items ++ variable_lines (number_of old) all
  pub sources : control_sources now.places.items ++ sources_in rest ≡ control_sources old.places.items ++ sources_in all
  pub first : now.first ≡ old.first

-- with these scopes added it is a listing that these were added to at first
pub record ScopesGoOn (old now : Listing) (rest all : List Scope) : Type 0 where
  pub text : now.text.items ++ scope_lines (number_of now) rest ≡ old.text.items ++ scope_lines (number_of old) all
  pub sources : control_sources now.places.items ++ sources_of rest ≡ control_sources old.places.items ++ sources_of all
  pub first : now.first ≡ old.first
