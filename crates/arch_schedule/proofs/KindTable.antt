-- The table of the kinds of change.
use Rattle.std.proofs.Common.{[], ◌∷◌, arith, refl}
use Rattle.arch_schedule.specs.declared.kinds.ChangeKind.{ChangeKind}
use Rattle.arch_schedule.specs.declared.kinds.ChangeKind.TheVariants.{Move, Merge, Split, DealModules, DealBuses}
use Rattle.arch_schedule.specs.declared.kinds.Weighted.{Weighted}
use Rattle.arch_schedule.specs.Kinds.{HasEachKind}

abbrev one : ChangeKind → Weighted
one kind = record { kind = kind; weight = 1 }

pub each_kind : HasEachKind (one Move ∷ one Merge ∷ one Split ∷ one DealModules ∷ one DealBuses ∷ [])
each_kind Move = (1, omega arith, (0, omega arith, refl))
each_kind Merge = (1, omega arith, (1, omega arith, refl))
each_kind Split = (1, omega arith, (2, omega arith, refl))
each_kind DealModules = (1, omega arith, (3, omega arith, refl))
each_kind DealBuses = (1, omega arith, (4, omega arith, refl))
