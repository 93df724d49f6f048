-- The lines that refuse test data.
use Rattle.std.specs.Prelude.{ℕ, ◌++◌, List, codes, decimal}
use Rattle.soc_model.specs.declared.TestId.{TestId}
use Rattle.test_data.specs.declared.Misfit.{Misfit}
use Rattle.test_data.specs.declared.Misfit.TheVariants as misfit
use Rattle.commands.specs.Texts.{test_text}

-- at a line of its text
abbrev pub data_line : ℕ → List ℕ
data_line line = codes "refused data line " ++ decimal line ++ codes "\n"

-- a word of a pattern with another number of bits than is wanted
abbrev pub bits_line : TestId → (pattern : ℕ) → (side : List ℕ) → (wanted : ℕ) → List ℕ
bits_line id k side wanted =
    codes "refused data bits " ++ test_text id ++ codes " " ++ decimal k ++ side ++ decimal wanted ++ codes "\n"

-- what shows first that it doesn't suit the chip
abbrev pub misfit_line : Misfit → List ℕ
misfit_line (misfit.Test id) = codes "refused data test " ++ test_text id ++ codes "\n"
misfit_line (misfit.Patterns id wanted) =
    codes "refused data patterns " ++ test_text id ++ codes " " ++ decimal wanted ++ codes "\n"
misfit_line (misfit.Load id k wanted) = bits_line id k (codes " load ") wanted
misfit_line (misfit.Unload id k wanted) = bits_line id k (codes " unload ") wanted
