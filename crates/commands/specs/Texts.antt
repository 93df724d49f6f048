-- The lines that programs over files have in common.
use Rattle.std.specs.Prelude.{ℕ, Option, option_map, ◌++◌, List, [], ◌∷◌, Bool, false, not, ◌&&◌, nat_eq, codes, decimal, if◌then◌else◌}
use Rattle.std.specs.List.{list_all, flat_map}
use Rattle.outside.specs.Decimal.{dotted_numbers}
use Rattle.soc_model.specs.declared.TestId.{TestId}
use Rattle.soc_model.specs.declared.SocLimit.{SocLimit}
use Rattle.soc_model.specs.declared.Which.{Which}
use Rattle.soc_model.specs.declared.Which.TheVariants.{Modules, Tests, Chains, Power, Work}
use Rattle.plan_model.specs.Certificates.{CertificateFault, BadListFault, LessFault}
use Rattle.plan_model.specs.Faults.{FaultValue, WidthFault, UnknownModuleFault, ModulePlaceFault, WrapperListFault, CellsFault, TestsFault, WireFault, BusyFault, ParentFault, BeforeFault, PowerFault, CyclesFault, BoundFault}
use Rattle.commands.specs.declared.FileKind.{FileKind}
use Rattle.commands.specs.declared.FileKind.TheVariants.{Soc, Limits, Plan, Tree, Program, Log, Proof, Data}

-- one line feed, at the end
abbrev pub is_line : List ℕ → Bool
is_line [] = false
is_line (b ∷ []) = nat_eq b 10
is_line (b ∷ c ∷ bs) = not (nat_eq b 10) && is_line (c ∷ bs)

-- no line feed
abbrev pub no_feed : List ℕ → Bool
no_feed bytes = list_all (λ b. not (nat_eq b 10)) bytes

abbrev pub file_name : FileKind → List ℕ
file_name Soc = codes "SOC"
file_name Limits = codes "LIMITS"
file_name Plan = codes "PLAN"
file_name Tree = codes "TREE"
file_name Program = codes "PROGRAM"
file_name Log = codes "LOG"
file_name Proof = codes "PROOF"
file_name Data = codes "DATA"

abbrev pub unread_line : FileKind → List ℕ
unread_line file = codes "cannot read " ++ file_name file ++ codes "\n"

abbrev pub too_long_line : FileKind → List ℕ
too_long_line file = codes "too long " ++ file_name file ++ codes "\n"

-- a chip's text that is refused at a line, and a chip that is too large
abbrev pub chip_line : ℕ → List ℕ
chip_line line = codes "refused soc line " ++ decimal line ++ codes "\n"

abbrev pub limit_name : Which → List ℕ
limit_name Modules = codes "modules "
limit_name Tests = codes "tests "
limit_name Chains = codes "chains "
limit_name Power = codes "power "
limit_name Work = codes "work "

abbrev pub chip_limit_line : SocLimit → List ℕ
chip_limit_line limit = codes "refused soc limit " ++ limit_name limit.which ++ decimal limit.value ++ codes "\n"

abbrev pub bad_words_line : List ℕ
bad_words_line = codes "bad words\n"

-- two numbers, with a space between them
abbrev pub two_numbers : (a b : ℕ) → List ℕ
two_numbers a b = decimal a ++ codes " " ++ decimal b

-- a test, as its module's number and its own
abbrev pub test_text : TestId → List ℕ
test_text id = dotted_numbers id.module id.test

-- ---- limits that are refused

-- at a line of their text; at the line of an item that names a test which the chip hasn't
abbrev pub limits_line : ℕ → List ℕ
limits_line line = codes "refused limits line " ++ decimal line ++ codes "\n"

abbrev pub unknown_test_line : ℕ → List ℕ
unknown_test_line line = codes "refused limits unknown test line " ++ decimal line ++ codes "\n"

abbrev pub spaced_test : TestId → List ℕ
spaced_test id = codes " " ++ test_text id

-- tests, each behind a space
abbrev pub tests_text : List TestId → List ℕ
tests_text ids = flat_map spaced_test ids

-- a loop of precedences
abbrev pub loop_line : List TestId → List ℕ
loop_line tests = codes "refused limits cycle" ++ tests_text tests ++ codes "\n"

-- a test with a power that passes the limit
abbrev pub test_power_line : TestId → ℕ → List ℕ
test_power_line id power = codes "refused limits power " ++ test_text id ++ codes " " ++ decimal power ++ codes "\n"

-- ---- plans that are refused

-- at a line of their text
abbrev pub plan_line : ℕ → List ℕ
plan_line line = codes "refused plan line " ++ decimal line ++ codes "\n"

abbrev pub wrapper_text : ℕ → Bool → List ℕ
wrapper_text m scan = decimal m ++ (if scan then codes " scan" else codes " terminals")

-- two tests, with a space between them
abbrev pub pair_text : TestId → TestId → List ℕ
pair_text a b = test_text a ++ codes " " ++ test_text b

abbrev pub clash_text : TestId → TestId → ℕ → List ℕ
clash_text a b cycle = pair_text a b ++ codes " " ++ decimal cycle

abbrev pub certificate_text : CertificateFault → List ℕ
certificate_text (BadListFault place) = codes "list " ++ decimal place
certificate_text (LessFault claimed shown) = codes "less " ++ two_numbers claimed shown

abbrev pub fault_keyword : FaultValue → List ℕ
fault_keyword (WidthFault bus) = codes "F1 "
fault_keyword (UnknownModuleFault m) = codes "F2 "
fault_keyword (ModulePlaceFault m) = codes "F3 "
fault_keyword (WrapperListFault m scan) = codes "F4 "
fault_keyword (CellsFault m scan) = codes "F5 "
fault_keyword (TestsFault id) = codes "F6 "
fault_keyword (WireFault a b cycle) = codes "F7 "
fault_keyword (BusyFault a b cycle) = codes "F8 "
fault_keyword (ParentFault a b cycle) = codes "F9 "
fault_keyword (BeforeFault a b) = codes "F10 "
fault_keyword (PowerFault cycle sum) = codes "F11 "
fault_keyword (CyclesFault right) = codes "F12 "
fault_keyword (BoundFault fault) = codes "F13 "

-- what a fault carries
abbrev pub carried_text : FaultValue → List ℕ
carried_text (WidthFault bus) = decimal bus
carried_text (UnknownModuleFault m) = decimal m
carried_text (ModulePlaceFault m) = decimal m
carried_text (WrapperListFault m scan) = wrapper_text m scan
carried_text (CellsFault m scan) = wrapper_text m scan
carried_text (TestsFault id) = test_text id
carried_text (WireFault a b cycle) = clash_text a b cycle
carried_text (BusyFault a b cycle) = clash_text a b cycle
carried_text (ParentFault a b cycle) = clash_text a b cycle
carried_text (BeforeFault a b) = pair_text a b
carried_text (PowerFault cycle sum) = two_numbers cycle sum
carried_text (CyclesFault right) = decimal right
carried_text (BoundFault fault) = certificate_text fault

abbrev pub fault_line : FaultValue → List ℕ
fault_line fault = codes "refused plan " ++ fault_keyword fault ++ carried_text fault ++ codes "\n"

-- ---- runs that are refused

-- the line that refuses a run of `cells` wire cycles, which is too long
abbrev pub run_line : ℕ → List ℕ
run_line cells = codes "refused run " ++ decimal cells ++ codes "\n"

-- the line that refuses a run, where it is too long; `cells` is then the number of its wire cycles
abbrev pub run_refusal : Option ℕ → Option (List ℕ)
run_refusal cells = option_map run_line cells
