-- The faults that are answered, as the definitions of plans see them.
use Rattle.plan_model.specs.Faults.{FaultValue, WidthFault, UnknownModuleFault, ModulePlaceFault, WrapperListFault, CellsFault, TestsFault, WireFault, BusyFault, ParentFault, BeforeFault, PowerFault, CyclesFault, BoundFault}
use Rattle.bound_certificate.specs.Checks.{certificate_fault}
use Rattle.plan_checker.specs.declared.PlanFault.{PlanFault}
use Rattle.plan_checker.specs.declared.PlanFault.TheVariants as fault

abbrev pub fault_value : PlanFault → FaultValue
fault_value (fault.Width bus) = WidthFault bus
fault_value (fault.UnknownModule m) = UnknownModuleFault m
fault_value (fault.ModulePlace m) = ModulePlaceFault m
fault_value (fault.WrapperList m scan) = WrapperListFault m scan
fault_value (fault.Cells m scan) = CellsFault m scan
fault_value (fault.Tests id) = TestsFault id
fault_value (fault.Wire a b c) = WireFault a b c
fault_value (fault.Busy a b c) = BusyFault a b c
fault_value (fault.Parent a b c) = ParentFault a b c
fault_value (fault.Before a b) = BeforeFault a b
fault_value (fault.Power c sum) = PowerFault c sum
fault_value (fault.Cycles right) = CyclesFault right
fault_value (fault.Bound f) = BoundFault (certificate_fault f)
