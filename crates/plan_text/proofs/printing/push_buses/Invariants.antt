use Rattle.std.proofs.Common.{◌≡◌, ◌++◌, map, drop}
use Rattle.plan_model.specs.Views.{bus_value}
use Rattle.keyword_text.specs.Lines.{text_of}
use Rattle.plan_text.specs.Tokens.{spelling}
use Rattle.plan_text.specs.PlanLines.{bus_line}
use Rattle.plan_text.proofs.printing.push_buses.Given as goal

abbrev pub invariant-loop-bus : goal.invariant-loop-bus
invariant-loop-bus l = l.to.items ++ text_of spelling (map bus_line (map bus_value (drop l.bus-index l.buses))) ≡ l.fn.to.items ++ text_of spelling (map bus_line (map bus_value l.buses))
