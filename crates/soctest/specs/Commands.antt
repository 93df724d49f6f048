-- What each command does: it takes its files one after another, and then answers.
use Rattle.std.specs.Prelude.{◌≡◌, ◌≢◌, ◌⊎◌, Bool, true, false, Option, None, Some}
use Rattle.commands.specs.Commands.{CommandValue, Print, Widths, Plan, Check, Chart, Vectors, Sample, Locate, Tree, Split, Shift, Improve, Picture, Simulate, Bound, Prove, Data, Retarget, Stil, Vcd, Verilog, Report, PictureWithProof}
use Rattle.commands.specs.Procedures.{Procedure, asked}
use Rattle.commands.specs.declared.Status.{Status}
use Rattle.commands.specs.declared.Status.TheVariants.{BadWords, WriteFault, NoMemory}
use Rattle.plan_commands.specs.Procedures.{print_procedure, widths_procedure, plan_procedure, check_procedure, chart_procedure, sample_procedure, locate_procedure, split_procedure, shift_procedure, report_procedure}
use Rattle.tester_commands.specs.declared.ending.RunForm.TheVariants as form
use Rattle.tester_commands.specs.Procedures.{vectors_procedure, simulate_procedure, data_procedure, run_procedure}
use Rattle.bound_commands.specs.Procedures.{tree_procedure, bound_procedure, picture_procedure, picture_with_proof_procedure}
use Rattle.plan_improver.specs.Procedures.{improve_procedure}
use Rattle.bound_prover.specs.Procedures.{prove_procedure}
use Rattle.soctest.specs.declared.deciding.Part.{Part}
use Rattle.soctest.specs.declared.deciding.Part.TheVariants as part

-- each by the part of the program that answers it
unfoldable pub procedure_of : CommandValue → Procedure
procedure_of (Print soc) = print_procedure soc
procedure_of (Widths soc wires) = widths_procedure soc wires
procedure_of (Plan soc limits) = plan_procedure soc limits
procedure_of (Check soc limits plan) = check_procedure soc limits plan
procedure_of (Chart soc limits plan) = chart_procedure soc limits plan
procedure_of (Vectors soc limits plan seed) = vectors_procedure soc limits plan seed
procedure_of (Sample n seed) = sample_procedure n seed
procedure_of (Locate soc limits plan log) = locate_procedure soc limits plan log
procedure_of (Tree soc limits tree) = tree_procedure soc limits tree
procedure_of (Split soc limits most) = split_procedure soc limits most
procedure_of (Shift soc limits plan program) = shift_procedure soc limits plan program
procedure_of (Improve soc limits plan tries seed) = improve_procedure soc limits plan tries seed
procedure_of (Picture soc limits plan) = picture_procedure soc limits plan
procedure_of (Simulate soc limits plan seed) = simulate_procedure soc limits plan seed
procedure_of (Bound soc limits proof) = bound_procedure soc limits proof
procedure_of (Prove soc limits plan nodes) = prove_procedure soc limits plan nodes
procedure_of (Data soc seed) = data_procedure soc seed
procedure_of (Retarget soc limits plan «data») = run_procedure form.Vectors soc limits plan «data»
procedure_of (Stil soc limits plan «data») = run_procedure form.Stil soc limits plan «data»
procedure_of (Vcd soc limits plan «data») = run_procedure form.Vcd soc limits plan «data»
procedure_of (Verilog soc limits plan «data») = run_procedure form.Verilog soc limits plan «data»
procedure_of (Report soc limits plan) = report_procedure soc limits plan
procedure_of (PictureWithProof soc limits plan proof) = picture_with_proof_procedure soc limits plan proof

-- which part that is
abbrev pub part_of : CommandValue → Part
part_of (Print soc) = part.Plans
part_of (Widths soc wires) = part.Plans
part_of (Plan soc limits) = part.Plans
part_of (Check soc limits plan) = part.Plans
part_of (Chart soc limits plan) = part.Plans
part_of (Vectors soc limits plan seed) = part.Testers
part_of (Sample n seed) = part.Plans
part_of (Locate soc limits plan log) = part.Plans
part_of (Tree soc limits tree) = part.Bounds
part_of (Split soc limits most) = part.Plans
part_of (Shift soc limits plan program) = part.Plans
part_of (Improve soc limits plan tries seed) = part.Searches
part_of (Picture soc limits plan) = part.Bounds
part_of (Simulate soc limits plan seed) = part.Testers
part_of (Bound soc limits proof) = part.Bounds
part_of (Prove soc limits plan nodes) = part.Searches
part_of (Data soc seed) = part.Testers
part_of (Retarget soc limits plan «data») = part.Testers
part_of (Stil soc limits plan «data») = part.Testers
part_of (Vcd soc limits plan «data») = part.Testers
part_of (Verilog soc limits plan «data») = part.Testers
part_of (Report soc limits plan) = part.Plans
part_of (PictureWithProof soc limits plan proof) = part.Bounds

-- what words ask for
unfoldable pub requested : Option CommandValue → Procedure
requested command = asked procedure_of command

-- the files fix the text of an answer; what a planner or a search finds is any of several
abbrev pub is_fixed : CommandValue → Bool
is_fixed (Plan soc limits) = false
is_fixed (Sample n seed) = false
is_fixed (Split soc limits most) = false
is_fixed (Improve soc limits plan tries seed) = false
is_fixed (Prove soc limits plan nodes) = false
is_fixed other = true

-- and so of the words that are no command
unfoldable pub fixes_text : Option CommandValue → Bool
fixes_text None = true
fixes_text (Some command) = is_fixed command

-- BadWords comes exactly where the words are no command, unless memory runs out or the output fails
unfoldable pub EndsByCommand : Option CommandValue → Type 0 → Status → Type 0
EndsByCommand None sink_failed end =
    (end ≡ BadWords) ⊎ (end ≡ NoMemory) ⊎ ((end ≡ WriteFault) × sink_failed)
EndsByCommand (Some command) sink_failed end = end ≢ BadWords
