-- What is decided of a command is decided of whatever is equal to it.
use Rattle.std.proofs.Common.{◌≡◌, ℕ, Option, subst, sym}
use Rattle.outside.specs.Held.{Files}
use Rattle.commands.specs.declared.Command.{Command}
use Rattle.commands.specs.declared.Verdict.{Verdict}
use Rattle.commands.specs.Commands.{command_value}
use Rattle.commands.specs.Decides.{Decides}
use Rattle.commands.specs.Endings.{EndingValue, Closes, LoadsEnding}
use Rattle.commands.specs.Loads.{LoadsOf, LoadsGive}
use Rattle.soctest.specs.Commands.{procedure_of}

pub decides_as : (held : Option Files) (before after : ℕ) (verdict : Verdict) {one other : Command} → one ≡ other →
    Decides (procedure_of (command_value other)) held before after verdict → Decides (procedure_of (command_value one)) held before after verdict
decides_as held before after verdict same decides =
    subst (λ (c : Command). Decides (procedure_of (command_value c)) held before after verdict) (sym same) decides

pub loads_as : {S : Type 0} (is_load : LoadsOf S) (first : S) (verdict : Verdict) (last : S) {one other : Command} → one ≡ other →
    LoadsGive is_load (procedure_of (command_value other)) first verdict last → LoadsGive is_load (procedure_of (command_value one)) first verdict last
loads_as is_load first verdict last same loads =
    subst (λ (c : Command). LoadsGive is_load (procedure_of (command_value c)) first verdict last) (sym same) loads

pub closes_as : (held : Option Files) (before after : ℕ) (end found : EndingValue) {one other : Command} → one ≡ other → end ≡ found →
    Closes (procedure_of (command_value other)) held before after found → Closes (procedure_of (command_value one)) held before after end
closes_as held before after end found {one} {other} same ends closes =
    subst (λ (c : Command). Closes (procedure_of (command_value c)) held before after end) (sym same)
    (subst (λ (e : EndingValue). Closes (procedure_of (command_value other)) held before after e) (sym ends) closes)

pub loads_ending_as : {S : Type 0} (is_load : LoadsOf S) (first : S) (end found : EndingValue) (last : S) {one other : Command} → one ≡ other → end ≡ found →
    LoadsEnding is_load (procedure_of (command_value other)) first found last → LoadsEnding is_load (procedure_of (command_value one)) first end last
loads_ending_as is_load first end found last {one} {other} same ends loads =
    subst (λ (c : Command). LoadsEnding is_load (procedure_of (command_value c)) first end last) (sym same)
    (subst (λ (e : EndingValue). LoadsEnding is_load (procedure_of (command_value other)) first e last) (sym ends) loads)
