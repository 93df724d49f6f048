-- What a refused module hands back.
use Rattle.std.specs.Prelude.{Bool, true, false, Result, Ok, Err}
use Rattle.soc_model.specs.declared.Module.{Module}
use Rattle.soc_model.specs.declared.PutFault.{PutFault}
use Rattle.soc_model.specs.declared.PutFault.TheVariants.{Known, NoMemory}

abbrev pub handed_back : PutFault → Module
handed_back (Known m) = m
handed_back (NoMemory m) = m

-- the answer is the refusal of a number that is there
abbrev pub is_known : {A : Type 0} → Result A PutFault → Bool
is_known (Ok _) = false
is_known (Err (Known m)) = true
is_known (Err (NoMemory m)) = false
