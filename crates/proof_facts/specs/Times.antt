-- The packed times of one module's tests, and what they are made of.
use Rattle.std.specs.Prelude.{◌≡◌, ℕ, ◌+◌, ◌≤◌, ◌&&◌, Bool, List, not, max, if◌then◌else◌}
use Rattle.std.specs.List.{sum, sum_by}
use Rattle.soc_model.specs.declared.Test.{Test}
use Rattle.soc_model.specs.Chips.{ModuleValue, is_live}
use Rattle.soc_model.specs.Modes.{is_tam}
use Rattle.soc_model.specs.Sizes.{test_work}
use Rattle.plan_model.specs.Bounds.{quotient_up}
use Rattle.proof_facts.specs.Packed.{packed, packed_time}
use Rattle.proof_facts.specs.declared.times.Packing.{Packing}

-- the least length of the longest chain, where all chains together have `ends` input or output cells
abbrev pub longest_chain : Packing → Bool → (ends : ℕ) → ℕ
longest_chain p scan ends = if scan then max (quotient_up (ends + p.flops) p.width) p.packed else quotient_up ends p.width

-- what the packed times of a module's tests are made of, on some wires
pub record IsPackingOf (m : ModuleValue) (p : Packing) : Type 0 where
  pub some_wire : 1 ≤ p.width
  pub packed_is : p.packed ≡ packed m.chains p.width
  pub flops_are : p.flops ≡ sum m.chains

-- a live self test
abbrev pub is_self : Test → Bool
is_self t = is_live t && not t.tam

-- of a list of tests of the module: the packed times of the live ones over the wires, together
abbrev pub tam_times_of : ModuleValue → ℕ → List Test → ℕ
tam_times_of m w ts = sum_by (λ t. if is_tam t then packed_time m t w else 0) ts

-- the patterns of the live self tests, together
abbrev pub self_times_of : List Test → ℕ
self_times_of ts = sum_by (λ t. if is_self t then t.patterns else 0) ts

-- the work of the live ones
abbrev pub works_of : ModuleValue → List Test → ℕ
works_of m ts = sum_by (λ t. if is_live t then test_work m t else 0) ts
