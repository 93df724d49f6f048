-- Reading word by word: the parts that were read whole, and what was read of the next. Only the reader's own contracts
-- speak of it.
use Rattle.std.specs.Prelude.{ℕ, ◌++◌, List, [], ◌∷◌, Bool, true, false, nat_eq, nat_le, Option, None, Some, option_map}
use Rattle.soc_model.specs.declared.TestId.{TestId}
use Rattle.plan_model.specs.declared.TheConstants.{START_MOST}
use Rattle.plan_model.specs.Cells.{ChainValue}
use Rattle.plan_model.specs.Plans.{BusValue, WrapperValue, OfModule, OfPair, OfChain, OfArea, OfPower, OfForced, BoundValue, PlanValue}
use Rattle.keyword_text.specs.declared.tokens.Token.{Token}
use Rattle.keyword_text.specs.declared.tokens.Token.TheVariants.{Key, Number}
use Rattle.keyword_text.specs.Machines.{Machine}
use Rattle.plan_text.specs.declared.tokens.Keyword.{Keyword}
use Rattle.plan_text.specs.declared.tokens.Keyword.TheVariants as key
use Rattle.plan_text.specs.declared.parts.Section.{Section}
use Rattle.plan_text.specs.declared.parts.Section.TheVariants.{Buses, Wrappers, Starts}

-- the parts that were read whole
pub record DraftValue : Type 0 where
  pub cycles : ℕ
  pub buses : List BusValue
  pub wrappers : List WrapperValue
  pub starts : List (TestId × ℕ)

-- what was read of the part that comes next
pub data PartValue : Type 0 where
  wants_plan : PartValue
  wants_form : PartValue
  wants_cycles_word : PartValue
  wants_cycles : PartValue
  after_cycles : PartValue
  wants_width : PartValue
  in_bus : BusValue → PartValue
  wants_module : PartValue
  wants_mode : ℕ → PartValue
  in_wrapper : WrapperValue → PartValue
  wants_ins : WrapperValue → PartValue
  wants_outs : WrapperValue → ℕ → PartValue
  in_chain : WrapperValue → ChainValue → PartValue
  wants_test_module : PartValue
  wants_test : ℕ → PartValue
  wants_start : TestId → PartValue
  after_start : PartValue
  wants_bound : PartValue
  wants_reason : ℕ → PartValue
  wants_bound_module : ℕ → PartValue
  wants_pair_module : ℕ → PartValue
  in_tests : ℕ → List TestId → PartValue
  wants_test_of : ℕ → List TestId → ℕ → PartValue
  in_forced : ℕ → List ℕ → PartValue
  whole : BoundValue → PartValue

pub record State : Type 0 where
  pub draft : DraftValue
  pub part : PartValue

abbrev pub at : DraftValue → PartValue → State
at draft part = record { draft = draft; part = part }

abbrev pub start : State
start = at (record { cycles = 0; buses = []; wrappers = []; starts = [] }) wants_plan

-- ---- more whole parts

abbrev pub with_bus : DraftValue → BusValue → DraftValue
with_bus d b = record d { buses = d.buses ++ b ∷ [] }

abbrev pub with_wrapper : DraftValue → WrapperValue → DraftValue
with_wrapper d w = record d { wrappers = d.wrappers ++ w ∷ [] }

abbrev pub with_start : DraftValue → TestId → ℕ → DraftValue
with_start d test n = record d { starts = d.starts ++ (test, n) ∷ [] }

abbrev pub with_chain : WrapperValue → ChainValue → WrapperValue
with_chain w c = record w { chains = w.chains ++ c ∷ [] }

abbrev pub with_module : BusValue → ℕ → BusValue
with_module b n = record b { modules = b.modules ++ n ∷ [] }

abbrev pub with_scan : ChainValue → ℕ → ChainValue
with_scan c n = record c { scans = c.scans ++ n ∷ [] }

-- ---- steps

abbrev pub next_if : Bool → State → Option State
next_if true s = Some s
next_if false s = None

abbrev pub step_number : DraftValue → PartValue → ℕ → Option State
step_number d wants_form n = next_if (nat_eq n 1) (at d wants_cycles_word)
step_number d wants_cycles n = Some (at (record d { cycles = n }) after_cycles)
step_number d wants_width n = Some (at d (in_bus (record { width = n; modules = [] })))
step_number d (in_bus b) n = Some (at d (in_bus (with_module b n)))
step_number d wants_module n = Some (at d (wants_mode n))
step_number d (wants_ins w) n = Some (at d (wants_outs w n))
step_number d (wants_outs w i) n = Some (at d (in_chain w (record { ins = i; scans = []; outs = n })))
step_number d (in_chain w c) n = Some (at d (in_chain w (with_scan c n)))
step_number d wants_test_module n = Some (at d (wants_test n))
step_number d (wants_test m) n = Some (at d (wants_start (record { «module» = m; test = n })))
step_number d (wants_start test) n = next_if (nat_le n START_MOST) (at (with_start d test n) after_start)
step_number d wants_bound n = Some (at d (wants_reason n))
step_number d (wants_bound_module b) n = Some (at d (whole (record { cycles = b; why = OfModule n })))
step_number d (wants_pair_module b) n = Some (at d (whole (record { cycles = b; why = OfPair n })))
step_number d (in_tests b tests) n = Some (at d (wants_test_of b tests n))
step_number d (wants_test_of b tests m) n = Some (at d (in_tests b (tests ++ record { «module» = m; test = n } ∷ [])))
step_number d (in_forced b ms) n = Some (at d (in_forced b (ms ++ n ∷ [])))
step_number d wants_plan n = None
step_number d wants_cycles_word n = None
step_number d after_cycles n = None
step_number d (wants_mode m) n = None
step_number d (in_wrapper w) n = None
step_number d after_start n = None
step_number d (wants_reason b) n = None
step_number d (whole b) n = None

abbrev pub begin_bus : Section → Option PartValue
begin_bus Buses = Some wants_width
begin_bus Wrappers = None
begin_bus Starts = None

abbrev pub begin_wrapper : Section → Option PartValue
begin_wrapper Buses = Some wants_module
begin_wrapper Wrappers = Some wants_module
begin_wrapper Starts = None

-- what a keyword begins, where a section is not over
abbrev pub begin : Keyword → Section → Option PartValue
begin key.Bus section = begin_bus section
begin key.Wrapper section = begin_wrapper section
begin key.Start section = Some wants_test_module
begin key.Bound section = Some wants_bound
begin k section = None

abbrev pub begun : DraftValue → Option PartValue → Option State
begun d None = None
begun d (Some part) = Some (at d part)

abbrev pub begin_mode : Keyword → ℕ → Option PartValue
begin_mode key.Scan m = Some (in_wrapper (record { «module» = m; scan = true; chains = [] }))
begin_mode key.Terminals m = Some (in_wrapper (record { «module» = m; scan = false; chains = [] }))
begin_mode k m = None

abbrev pub begin_reason : Keyword → ℕ → Option PartValue
begin_reason key.Module b = Some (wants_bound_module b)
begin_reason key.Pair b = Some (wants_pair_module b)
begin_reason key.Chain b = Some (in_tests b [])
begin_reason key.Area b = Some (whole (record { cycles = b; why = OfArea }))
begin_reason key.Power b = Some (whole (record { cycles = b; why = OfPower }))
begin_reason key.Forced b = Some (in_forced b [])
begin_reason k b = None

abbrev pub is_chain : Keyword → Bool
is_chain key.Chain = true
is_chain k = false

abbrev pub step_wrapper : DraftValue → WrapperValue → Keyword → Bool → Option State
step_wrapper d w k true = Some (at d (wants_ins w))
step_wrapper d w k false = begun (with_wrapper d w) (begin k Wrappers)

abbrev pub begin_plan : Keyword → Option PartValue
begin_plan key.Plan = Some wants_form
begin_plan k = None

abbrev pub begin_cycles : Keyword → Option PartValue
begin_cycles key.Cycles = Some wants_cycles
begin_cycles k = None

abbrev pub step_key : DraftValue → PartValue → Keyword → Option State
step_key d wants_plan k = begun d (begin_plan k)
step_key d wants_cycles_word k = begun d (begin_cycles k)
step_key d after_cycles k = begun d (begin k Buses)
step_key d (in_bus b) k = begun (with_bus d b) (begin k Buses)
step_key d (wants_mode m) k = begun d (begin_mode k m)
step_key d (in_wrapper w) k = step_wrapper d w k (is_chain k)
step_key d (in_chain w c) k = step_wrapper d (with_chain w c) k (is_chain k)
step_key d after_start k = begun d (begin k Starts)
step_key d (wants_reason b) k = begun d (begin_reason k b)
step_key d wants_form k = None
step_key d wants_cycles k = None
step_key d wants_width k = None
step_key d wants_module k = None
step_key d (wants_ins w) k = None
step_key d (wants_outs w i) k = None
step_key d wants_test_module k = None
step_key d (wants_test m) k = None
step_key d (wants_start test) k = None
step_key d wants_bound k = None
step_key d (wants_bound_module b) k = None
step_key d (wants_pair_module b) k = None
step_key d (in_tests b tests) k = None
step_key d (wants_test_of b tests m) k = None
step_key d (in_forced b ms) k = None
step_key d (whole b) k = None

abbrev pub step : State → Token Keyword → Option State
step s (Number n) = step_number s.draft s.part n
step s (Key k) = step_key s.draft s.part k

-- ---- the end of a text

abbrev pub plan_with : DraftValue → BoundValue → PlanValue
plan_with d b = record { buses = d.buses; wrappers = d.wrappers; starts = d.starts; cycles = d.cycles; bound = b }

-- the bound, where the words end here
abbrev pub bound_at : PartValue → Option BoundValue
bound_at (whole b) = Some b
bound_at (in_tests b tests) = Some (record { cycles = b; why = OfChain tests })
bound_at (in_forced b ms) = Some (record { cycles = b; why = OfForced ms })
bound_at part = None

-- the plan, where the words end here
abbrev pub ended : State → Option PlanValue
ended s = option_map (plan_with s.draft) (bound_at s.part)

abbrev pub plan_machine : Machine Keyword State PlanValue
plan_machine = record { start = start; step = step; end = ended }
