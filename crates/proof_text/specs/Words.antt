-- Reading word by word: the lists and the nodes that were read whole, how many more nodes are wanted, and what was read of the
-- next part. Only the reader's own contracts speak of it.
use Rattle.std.specs.Prelude.{ℕ, zero, suc, ◌+◌, ◌++◌, List, [], ◌∷◌, Bool, true, false, length, nat_eq, nat_le, nat_lt, Option, None, Some}
use Rattle.soc_model.specs.declared.TestId.{TestId}
use Rattle.keyword_text.specs.declared.tokens.Token.{Token}
use Rattle.keyword_text.specs.declared.tokens.Token.TheVariants.{Key, Number}
use Rattle.keyword_text.specs.Machines.{Machine}
use Rattle.plan_model.specs.declared.proof.TheConstants.{LISTS_MOST, WEIGHT_MOST, PRICE_MOST}
use Rattle.proof_text.specs.declared.tokens.Keyword.{Keyword}
use Rattle.proof_text.specs.declared.tokens.Keyword.TheVariants as key
use Rattle.proof_text.specs.declared.parts.ListKind.{ListKind}
use Rattle.proof_text.specs.declared.parts.ListKind.TheVariants as kind
use Rattle.plan_model.specs.Proofs.{ListValue, OfTurns, OfTurnsOn, OfCrowd, OfPower, WeightsValue, PricingValue, LeafValue, OfSum, OfPack, OfWide, OfPlace, NodeValue, OfSplit, OfLeaf, ProofValue}

-- the claim, the lists and the nodes that were read whole, and how many nodes are still to begin
pub record DraftValue : Type 0 where
  pub claimed : ℕ
  pub lists : List ListValue
  pub nodes : List NodeValue
  pub wanted : ℕ

-- what was read of the part that comes next
pub data PartValue : Type 0 where
  wants_proof : PartValue
  wants_form : PartValue
  wants_bound : PartValue
  wants_claim : PartValue
  between : PartValue
  wants_list_rank : PartValue
  wants_most : PartValue
  wants_near : PartValue
  in_tests : ListKind → List TestId → PartValue
  wants_test : ListKind → List TestId → ℕ → PartValue
  wants_wide_rank : PartValue
  wants_width : ℕ → PartValue
  wants_module : PartValue
  wants_place_rank : ℕ → PartValue
  in_place : ℕ → ℕ → List ℕ → PartValue
  wants_wire : PartValue
  in_ranks : WeightsValue → PartValue
  wants_grain : PartValue
  in_prices : PricingValue → PartValue
  wants_price : PricingValue → ℕ → PartValue
  wants_list : LeafValue → PartValue
  wants_list_weight : LeafValue → ℕ → PartValue
  in_lists : LeafValue → PartValue

pub record State : Type 0 where
  pub draft : DraftValue
  pub part : PartValue

abbrev pub at : DraftValue → PartValue → State
at draft part = record { draft = draft; part = part }

abbrev pub start : State
start = at (record { claimed = 0; lists = []; nodes = []; wanted = 1 }) wants_proof

-- ---- more parts

abbrev pub with_list : DraftValue → ListValue → DraftValue
with_list d l = record d { lists = d.lists ++ l ∷ [] }

abbrev pub with_node : DraftValue → NodeValue → DraftValue
with_node d n = record d { nodes = d.nodes ++ n ∷ [] }

-- a node with branches wants a node for each
abbrev pub with_branches : DraftValue → NodeValue → DraftValue
with_branches d n = record d { nodes = d.nodes ++ n ∷ []; wanted = d.wanted + 2 }

abbrev pub with_rank : WeightsValue → ℕ → WeightsValue
with_rank w n = record w { ranks = w.ranks ++ n ∷ [] }

abbrev pub with_price : PricingValue → (number price : ℕ) → PricingValue
with_price p number price = record p { prices = p.prices ++ (number, price) ∷ [] }

abbrev pub with_use : LeafValue → (list weight : ℕ) → LeafValue
with_use (OfSum w) list weight = OfSum (record w { lists = w.lists ++ (list, weight) ∷ [] })
with_use (OfPack p) list weight = OfPack (record p { lists = p.lists ++ (list, weight) ∷ [] })

abbrev pub list_of : ListKind → List TestId → ListValue
list_of kind.Turns tests = OfTurns tests
list_of (kind.TurnsOn rank) tests = OfTurnsOn rank tests
list_of (kind.Crowd most) tests = OfCrowd most tests

abbrev pub wire_of : ℕ → WeightsValue
wire_of n = record { wire = n; ranks = []; lists = [] }

abbrev pub grain_of : ℕ → PricingValue
grain_of n = record { grain = n; prices = []; lists = [] }

-- ---- numbers

abbrev pub next_if : Bool → State → Option State
next_if true s = Some s
next_if false s = None

abbrev pub if_both : Bool → Bool → State → Option State
if_both true few s = next_if few s
if_both false few s = None

abbrev pub step_number : DraftValue → PartValue → ℕ → Option State
step_number d wants_proof n = None
step_number d wants_form n = next_if (nat_eq n 1) (at d wants_bound)
step_number d wants_bound n = None
step_number d wants_claim n = Some (at (record d { claimed = n }) between)
step_number d between n = None
step_number d wants_list_rank n = Some (at d (in_tests (kind.TurnsOn n) []))
step_number d wants_most n = Some (at d (in_tests (kind.Crowd n) []))
step_number d wants_near n = Some (at (with_list d (OfPower n)) between)
step_number d (in_tests which tests) n = Some (at d (wants_test which tests n))
step_number d (wants_test which tests m) n = Some (at d (in_tests which (tests ++ record { «module» = m; test = n } ∷ [])))
step_number d wants_wide_rank n = Some (at d (wants_width n))
step_number d (wants_width rank) n = Some (at (with_branches d (OfSplit (OfWide rank n))) between)
step_number d wants_module n = Some (at d (wants_place_rank n))
step_number d (wants_place_rank m) n = Some (at d (in_place m n []))
step_number d (in_place m rank twins) n = Some (at d (in_place m rank (twins ++ n ∷ [])))
step_number d wants_wire n = next_if (nat_le n WEIGHT_MOST) (at d (in_ranks (wire_of n)))
step_number d (in_ranks w) n = next_if (nat_le n WEIGHT_MOST) (at d (in_ranks (with_rank w n)))
step_number d wants_grain n = next_if (nat_le 1 n) (at d (in_prices (grain_of n)))
step_number d (in_prices p) n = Some (at d (wants_price p n))
step_number d (wants_price p m) n = next_if (nat_le n PRICE_MOST) (at d (in_prices (with_price p m n)))
step_number d (wants_list leaf) n = Some (at d (wants_list_weight leaf n))
step_number d (wants_list_weight leaf list) n = next_if (nat_le n WEIGHT_MOST) (at d (in_lists (with_use leaf list n)))
step_number d (in_lists leaf) n = None

-- ---- keywords

-- a list begins only where no node has begun, and fewer lists than there may be
abbrev pub begin_list : DraftValue → PartValue → Option State
begin_list d p = if_both (nat_eq (length d.nodes) 0) (nat_lt (length d.lists) LISTS_MOST) (at d p)

-- a node begins only where one is wanted
abbrev pub begin_wanted : ℕ → DraftValue → PartValue → Option State
begin_wanted zero d p = None
begin_wanted (suc n) d p = Some (at (record d { wanted = n }) p)

abbrev pub begin_node : DraftValue → PartValue → Option State
begin_node d p = begin_wanted d.wanted d p

-- what a keyword begins
abbrev pub begin : DraftValue → Keyword → Option State
begin d key.Turns = begin_list d (in_tests kind.Turns [])
begin d key.TurnsOn = begin_list d wants_list_rank
begin d key.Crowd = begin_list d wants_most
begin d key.Power = begin_list d wants_near
begin d key.Wide = begin_node d wants_wide_rank
begin d key.Place = begin_node d wants_module
begin d key.Sum = begin_node d wants_wire
begin d key.Pack = begin_node d wants_grain
begin d key.Proof = None
begin d key.Bound = None
begin d key.Of = None

-- a list of tests ends once it has one
abbrev pub end_tests : DraftValue → ListKind → List TestId → Keyword → Option State
end_tests d which [] k = None
end_tests d which (test ∷ tests) k = begin (with_list d (list_of which (test ∷ tests))) k

abbrev pub is_use : Keyword → Bool
is_use key.Of = true
is_use k = false

-- a leaf goes on with the weights of lists
abbrev pub step_leaf : DraftValue → LeafValue → Keyword → Bool → Option State
step_leaf d leaf k true = Some (at d (wants_list leaf))
step_leaf d leaf k false = begin (with_node d (OfLeaf leaf)) k

abbrev pub begin_proof : Keyword → Option PartValue
begin_proof key.Proof = Some wants_form
begin_proof k = None

abbrev pub begin_bound : Keyword → Option PartValue
begin_bound key.Bound = Some wants_claim
begin_bound k = None

abbrev pub begun : DraftValue → Option PartValue → Option State
begun d None = None
begun d (Some part) = Some (at d part)

abbrev pub step_key : DraftValue → PartValue → Keyword → Option State
step_key d wants_proof k = begun d (begin_proof k)
step_key d wants_form k = None
step_key d wants_bound k = begun d (begin_bound k)
step_key d wants_claim k = None
step_key d between k = begin d k
step_key d wants_list_rank k = None
step_key d wants_most k = None
step_key d wants_near k = None
step_key d (in_tests which tests) k = end_tests d which tests k
step_key d (wants_test which tests m) k = None
step_key d wants_wide_rank k = None
step_key d (wants_width rank) k = None
step_key d wants_module k = None
step_key d (wants_place_rank m) k = None
step_key d (in_place m rank twins) k = begin (with_branches d (OfSplit (OfPlace m rank twins))) k
step_key d wants_wire k = None
step_key d (in_ranks w) k = step_leaf d (OfSum w) k (is_use k)
step_key d wants_grain k = None
step_key d (in_prices p) k = step_leaf d (OfPack p) k (is_use k)
step_key d (wants_price p m) k = None
step_key d (wants_list leaf) k = None
step_key d (wants_list_weight leaf list) k = None
step_key d (in_lists leaf) k = step_leaf d leaf k (is_use k)

abbrev pub step : State → Token Keyword → Option State
step s (Number n) = step_number s.draft s.part n
step s (Key k) = step_key s.draft s.part k

-- ---- the end of a text

abbrev pub whole_at : ℕ → DraftValue → Option ProofValue
whole_at zero d = Some (record { claimed = d.claimed; lists = d.lists; nodes = d.nodes })
whole_at (suc n) d = None

-- the proof, where the words end here: its last node is a leaf
abbrev pub ended_by : DraftValue → PartValue → Option ProofValue
ended_by d (in_ranks w) = whole_at d.wanted (with_node d (OfLeaf (OfSum w)))
ended_by d (in_prices p) = whole_at d.wanted (with_node d (OfLeaf (OfPack p)))
ended_by d (in_lists leaf) = whole_at d.wanted (with_node d (OfLeaf leaf))
ended_by d part = None

abbrev pub ended : State → Option ProofValue
ended s = ended_by s.draft s.part

abbrev pub proof_machine : Machine Keyword State ProofValue
proof_machine = record { start = start; step = step; end = ended }
