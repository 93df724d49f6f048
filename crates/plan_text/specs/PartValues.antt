-- What the reader's values stand for.
use Rattle.std.specs.Prelude.{◌≡◌, map, Option, None, Some, Result, Ok, Err}
use Rattle.plan_model.specs.Views.{bus_value, chain_value, wrapper_value, bound_value}
use Rattle.plan_text.specs.declared.parts.Draft.{Draft}
use Rattle.plan_text.specs.declared.parts.Part.{Part}
use Rattle.plan_text.specs.declared.parts.Part.TheVariants as read
use Rattle.outside.specs.declared.reading.Stop.{Stop}
use Rattle.outside.specs.declared.reading.Stop.TheVariants.{Refused, NoMemory}
use Rattle.plan_text.specs.Steps.{DraftValue, PartValue, wants_plan, wants_form, wants_cycles_word, wants_cycles, after_cycles, wants_width, in_bus, wants_module, wants_mode, in_wrapper, wants_ins, wants_outs, in_chain, wants_test_module, wants_test, wants_start, after_start, wants_bound, wants_reason, wants_bound_module, wants_pair_module, in_tests, wants_test_of, in_forced, whole, State, at}

abbrev pub draft_value : Draft → DraftValue
draft_value d = record {
  cycles = d.cycles;
  buses = map bus_value d.buses.items;
  wrappers = map wrapper_value d.wrappers.items;
  starts = d.starts.items;
}

abbrev pub part_value : Part → PartValue
part_value read.WantsPlan = wants_plan
part_value read.WantsForm = wants_form
part_value read.WantsCyclesWord = wants_cycles_word
part_value read.WantsCycles = wants_cycles
part_value read.AfterCycles = after_cycles
part_value read.WantsWidth = wants_width
part_value (read.InBus b) = in_bus (bus_value b)
part_value read.WantsModule = wants_module
part_value (read.WantsMode m) = wants_mode m
part_value (read.InWrapper w) = in_wrapper (wrapper_value w)
part_value (read.WantsIns w) = wants_ins (wrapper_value w)
part_value (read.WantsOuts w i) = wants_outs (wrapper_value w) i
part_value (read.InChain w c) = in_chain (wrapper_value w) (chain_value c)
part_value read.WantsTestModule = wants_test_module
part_value (read.WantsTest m) = wants_test m
part_value (read.WantsStart test) = wants_start test
part_value read.AfterStart = after_start
part_value read.WantsBound = wants_bound
part_value (read.WantsReason b) = wants_reason b
part_value (read.WantsBoundModule b) = wants_bound_module b
part_value (read.WantsPairModule b) = wants_pair_module b
part_value (read.InTests b tests) = in_tests b tests.items
part_value (read.WantsTestOf b tests m) = wants_test_of b tests.items m
part_value (read.InForced b ms) = in_forced b ms.items
part_value (read.Whole b) = whole (bound_value b)

-- The next part is this one; or there is none.
abbrev pub Begins : Option PartValue → Result (Unit {0}) Stop → Part → Type 0
Begins next (Ok _) part = next ≡ Some (part_value part)
Begins next (Err Refused) part = next ≡ None
Begins next (Err NoMemory) part = Unit {0}

-- The next state is this draft and this part; or there is none.
abbrev pub Steps : Option State → Result (Unit {0}) Stop → Part → Draft → Type 0
Steps next (Ok _) part draft = next ≡ Some (at (draft_value draft) (part_value part))
Steps next (Err Refused) part draft = next ≡ None
Steps next (Err NoMemory) part draft = Unit {0}
