use Rattle.std.proofs.Common.{◌≡◌, ◌||◌, option_map, take}
use Rattle.indexmap.specs.IndexMap.{index_map_len, spare}
use Rattle.soc_model.specs.declared.TestId.{TestId}
use Rattle.bound_certificate.specs.Pairs.{noted, is_among}
use Rattle.bound_certificate.proofs.precedence_lists.note_stated.Given as goal

abbrev pub invariant-loop-first : goal.invariant-loop-first
invariant-loop-first l = record {
  stated : (q : TestId × TestId) → noted l.pairs q ≡ option_map (λ b. b || is_among (take l.first-index l.before) q) (noted l.fn.pairs q);
  count : index_map_len l.pairs ≡ index_map_len l.fn.pairs;
  room : spare l.pairs ≡ spare l.fn.pairs;
}
