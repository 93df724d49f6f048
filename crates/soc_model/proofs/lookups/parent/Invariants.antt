use Rattle.std.proofs.Common.{◌≡◌, ℕ, ◌<◌, ◌≤◌}
use Rattle.soc_model.specs.Chips.{soc_value, level_at, smaller_below, parent_place}
use Rattle.soc_model.proofs.lookups.parent.Given as goal

abbrev pub invariant-loop-at : goal.invariant-loop-at
invariant-loop-at l =
    let modules = (soc_value l.soc).modules in
    ((k : ℕ) → l.at ≤ k → k < l.place → level_at modules l.place ≤ level_at modules k)
    × (smaller_below modules l.level l.at ≡ parent_place modules l.place)
