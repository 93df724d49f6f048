-- How often chains list a scan chain, and the size of a module.
use Rattle.std.specs.Prelude.{ℕ, ◌+◌, ◌*◌, Bool, false, List, nat_eq, if◌then◌else◌, slice_index_or}
use Rattle.std.specs.List.{sum, sum_by, count_by}
use Rattle.plan_model.specs.declared.ChainPlan.{ChainPlan}
use Rattle.soc_model.specs.Chips.{ModuleValue}

-- how often a number is listed
abbrev pub times : ℕ → List ℕ → ℕ
times c xs = count_by (λ x. nat_eq x c) xs

-- how often the chains list a scan chain
abbrev pub listed_times : ℕ → List ChainPlan → ℕ
listed_times c chains = sum_by (λ (chain : ChainPlan). times c chain.scans.items) chains

-- 1 where the place is marked
abbrev pub mark_at : List Bool → ℕ → ℕ
mark_at seen k = if slice_index_or seen k false then 1 else 0

-- One, and the input, output and twice the scan cells of a module. Over the wires no pattern of it takes more cycles.
abbrev pub module_size : ModuleValue → ℕ
module_size m = 1 + (m.inputs + m.bidirs) + (m.outputs + m.bidirs) + 2 * sum m.chains
