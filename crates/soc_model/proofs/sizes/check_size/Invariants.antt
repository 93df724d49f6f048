use Rattle.std.proofs.Common.{◌≡◌, ◌<◌, None}
use Rattle.soc_model.specs.declared.Which.{Which}
use Rattle.soc_model.specs.Chips.{soc_value}
use Rattle.soc_model.specs.Sizes.{passed, rank_of}
use Rattle.soc_model.proofs.sizes.check_size.Given as goal

abbrev pub invariant-loop-which : goal.invariant-loop-which
invariant-loop-which l = (w : Which) → rank_of w < l.which-index → passed (soc_value l.soc) w ≡ None
