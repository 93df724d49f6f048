-- What the reader's values stand for.
use Rattle.std.specs.Prelude.{◌≡◌, map, Option, None, Some, Result, Ok, Err}
use Rattle.outside.specs.declared.reading.Stop.{Stop}
use Rattle.outside.specs.declared.reading.Stop.TheVariants.{Refused, NoMemory}
use Rattle.proof_text.specs.declared.parts.Draft.{Draft}
use Rattle.proof_text.specs.declared.parts.Leaf.{Leaf}
use Rattle.proof_text.specs.declared.parts.Leaf.TheVariants.{Sum, Pack}
use Rattle.proof_text.specs.declared.parts.Part.{Part}
use Rattle.proof_text.specs.declared.parts.Part.TheVariants as read
use Rattle.plan_model.specs.Proofs.{list_value, weights_value, pricing_value, LeafValue, OfSum, OfPack, node_value}
use Rattle.proof_text.specs.Words.{DraftValue, PartValue, wants_proof, wants_form, wants_bound, wants_claim, between, wants_list_rank, wants_most, wants_near, in_tests, wants_test, wants_wide_rank, wants_width, wants_module, wants_place_rank, in_place, wants_wire, in_ranks, wants_grain, in_prices, wants_price, wants_list, wants_list_weight, in_lists, State, at}

abbrev pub draft_value : Draft → DraftValue
draft_value d = record {
  claimed = d.claimed;
  lists = map list_value d.lists.items;
  nodes = map node_value d.nodes.items;
  wanted = d.wanted;
}

abbrev pub leaf_value : Leaf → LeafValue
leaf_value (Sum weights) = OfSum (weights_value weights)
leaf_value (Pack pricing) = OfPack (pricing_value pricing)

abbrev pub part_value : Part → PartValue
part_value read.WantsProof = wants_proof
part_value read.WantsForm = wants_form
part_value read.WantsBound = wants_bound
part_value read.WantsClaim = wants_claim
part_value read.Between = between
part_value read.WantsListRank = wants_list_rank
part_value read.WantsMost = wants_most
part_value read.WantsNear = wants_near
part_value (read.InTests kind tests) = in_tests kind tests.items
part_value (read.WantsTest kind tests m) = wants_test kind tests.items m
part_value read.WantsWideRank = wants_wide_rank
part_value (read.WantsWidth rank) = wants_width rank
part_value read.WantsModule = wants_module
part_value (read.WantsPlaceRank m) = wants_place_rank m
part_value (read.InPlace m rank twins) = in_place m rank twins.items
part_value read.WantsWire = wants_wire
part_value (read.InRanks w) = in_ranks (weights_value w)
part_value read.WantsGrain = wants_grain
part_value (read.InPrices p) = in_prices (pricing_value p)
part_value (read.WantsPrice p m) = wants_price (pricing_value p) m
part_value (read.WantsList leaf) = wants_list (leaf_value leaf)
part_value (read.WantsListWeight leaf list) = wants_list_weight (leaf_value leaf) list
part_value (read.InLists leaf) = in_lists (leaf_value leaf)

-- The next part is this one; or there is none.
abbrev pub Begins : Option PartValue → Result (Unit {0}) Stop → Part → Type 0
Begins next (Ok _) part = next ≡ Some (part_value part)
Begins next (Err Refused) part = next ≡ None
Begins next (Err NoMemory) part = Unit {0}

-- The next state is this draft and this part; or there is none.
abbrev pub Steps : Option State → Result (Unit {0}) Stop → Part → Draft → Type 0
Steps next (Ok _) part draft = next ≡ Some (at (draft_value draft) (part_value part))
Steps next (Err Refused) part draft = next ≡ None
Steps next (Err NoMemory) part draft = Unit {0}
