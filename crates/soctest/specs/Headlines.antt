-- What the commands promise of what they print or accept.
use Rattle.std.specs.Prelude.{◌≡◌, ℕ, List, Option, Some}
use Rattle.outside.specs.Held.{Files}
use Rattle.commands.specs.declared.Status.{Status}
use Rattle.commands.specs.declared.Status.TheVariants.{Done}
use Rattle.commands.specs.Commands.{CommandValue, Print, Widths, Plan, Check, Chart, Vectors, Sample, Locate, Tree, Split, Shift, Improve, Picture, Simulate, Bound, Prove, Data, Retarget, Stil, Vcd, Verilog, Report, PictureWithProof}
use Rattle.plan_commands.specs.Promises.{IsPlanPrinted, IsChecked, IsCharted, IsSummedUp, IsLocated, IsProgramRight, IsReported, IsTrustworthySplit}
use Rattle.tester_commands.specs.declared.ending.RunForm.TheVariants as form
use Rattle.tester_commands.specs.Promises.{AreVectors, IsSimulated, IsMadeData, IsRetargeted, IsProgrammed}
use Rattle.bound_commands.specs.TreeBounds.{IsShownBound}
use Rattle.bound_commands.specs.ProofBounds.{IsProvedBound}
use Rattle.bound_commands.specs.Pictures.{IsPictured, ShowsPlan, ShowsClaim}
use Rattle.plan_improver.specs.Promises.{Improves}
use Rattle.bound_prover.specs.Promises.{IsProvedFor}

-- what each command promises where its answer is written, over the files that it names
abbrev pub Trusts : CommandValue → Files → (old new : Option (List ℕ)) → Type 0
Trusts (Print soc) files old new = Unit {0}
Trusts (Widths soc wires) files old new = Unit {0}
Trusts (Plan soc limits) files old new = IsPlanPrinted files soc limits old new
Trusts (Check soc limits plan) files old new = IsChecked files soc limits plan old new
Trusts (Chart soc limits plan) files old new = IsCharted files soc limits plan old new
Trusts (Vectors soc limits plan seed) files old new = AreVectors files soc limits plan seed old new
Trusts (Sample n seed) files old new = IsSummedUp n seed old new
Trusts (Locate soc limits plan log) files old new = IsLocated files soc limits plan log old new
Trusts (Tree soc limits tree) files old new = IsShownBound files soc limits tree old new
Trusts (Split soc limits most) files old new = IsTrustworthySplit files soc limits most old new
Trusts (Shift soc limits plan program) files old new = IsProgramRight files soc limits plan program old new
Trusts (Improve soc limits plan tries seed) files old new = Improves soc limits plan tries files old new
Trusts (Picture soc limits plan) files old new = IsPictured files soc limits plan ShowsPlan old new
Trusts (Simulate soc limits plan seed) files old new = IsSimulated files soc limits plan old new
Trusts (Bound soc limits proof) files old new = IsProvedBound files soc limits proof old new
Trusts (Prove soc limits plan nodes) files old new = IsProvedFor soc limits plan nodes files old new
Trusts (Data soc seed) files old new = IsMadeData files soc seed old new
Trusts (Retarget soc limits plan «data») files old new = IsRetargeted files soc limits plan «data» old new
Trusts (Stil soc limits plan «data») files old new = IsProgrammed form.Stil files soc limits plan «data» old new
Trusts (Vcd soc limits plan «data») files old new = IsProgrammed form.Vcd files soc limits plan «data» old new
Trusts (Verilog soc limits plan «data») files old new = IsProgrammed form.Verilog files soc limits plan «data» old new
Trusts (Report soc limits plan) files old new = IsReported files soc limits plan old new
Trusts (PictureWithProof soc limits plan proof) files old new = IsPictured files soc limits plan (ShowsClaim files proof) old new

-- The headline, for each command that ends with Done: where the shelf tells what it holds, what the command promises over these files;
-- and for `sample`, which reads no file, also where the shelf tells nothing.
pub record Headline (command : Option CommandValue) (held : Option Files) (old : Option (List ℕ)) (end : Status)
    (new : Option (List ℕ)) : Type 0 where
  pub trusted : (files : Files) (given : CommandValue) → held ≡ Some files → command ≡ Some given → end ≡ Done →
      Trusts given files old new
  pub sampled : (n seed : ℕ) → command ≡ Some (Sample n seed) → end ≡ Done → IsSummedUp n seed old new
