use Rattle.std.proofs.Common.{◌+◌, ◌≤◌}
use Rattle.indexmap.specs.IndexMap.{index_map_len, spare}
use Rattle.soc_model.specs.declared.TheConstants.{TESTS_MOST}
use Rattle.bound_certificate.specs.Pairs.{noted}
use Rattle.bound_certificate.proofs.Neighbours.{AreListed}
use Rattle.bound_certificate.proofs.precedence_lists.list_pairs.Given as goal

abbrev pub invariant-loop-place : goal.invariant-loop-place
invariant-loop-place l = record {
  listed : AreListed (noted l.pairs) l.tests l.place;
  few : index_map_len l.pairs ≤ l.place;
  room : TESTS_MOST ≤ index_map_len l.pairs + spare l.pairs;
}
