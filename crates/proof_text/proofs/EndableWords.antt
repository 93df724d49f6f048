-- Each state that words come to may still be ended.
use Rattle.std.proofs.Common.{◌≡◌, ◌≤◌, ℕ, zero, suc, ◌+◌, List, [], ◌∷◌, ◌++◌, refl, ◌∙◌, ap, arith}
use Rattle.soc_model.specs.declared.TestId.{TestId}
use Rattle.plan_model.specs.declared.TheConstants.{PLAN_NUMBER_MOST}
use Rattle.keyword_text.specs.declared.tokens.Token.{Token}
use Rattle.keyword_text.specs.Machines.{MayEnd}
use Rattle.keyword_text.proofs.Endings.{ends_by_key, ends_by_number, ends_by_zero}
use Rattle.proof_text.specs.declared.tokens.Keyword.{Keyword}
use Rattle.proof_text.specs.declared.tokens.Keyword.TheVariants as key
use Rattle.proof_text.specs.declared.parts.ListKind.{ListKind}
use Rattle.proof_text.specs.declared.parts.ListKind.TheVariants as kind
use Rattle.plan_model.specs.Proofs.{OfPower, WeightsValue, PricingValue, LeafValue, OfSum, OfPack, OfWide, OfPlace, NodeValue, OfSplit, OfLeaf}
use Rattle.proof_text.specs.Words.{DraftValue, PartValue, wants_proof, wants_form, wants_bound, wants_claim, between, wants_list_rank, wants_most, wants_near, in_tests, wants_test, wants_wide_rank, wants_width, wants_module, wants_place_rank, in_place, wants_wire, in_ranks, wants_grain, in_prices, wants_price, wants_list, wants_list_weight, in_lists, State, at, with_list, with_node, with_branches, with_price, with_use, list_of, wire_of, grain_of, step_leaf, whole_at, proof_machine}
use Rattle.proof_text.proofs.SoundWords.{Holds, wanted_some}
use Rattle.proof_text.proofs.CompleteWords.{MayBegin, MayGo, node_begun}

-- words that make a state end in a whole proof
abbrev Ends : State → Type 0
Ends s = MayEnd proof_machine PLAN_NUMBER_MOST s

-- ---- a leaf for each node that is wanted

ranks_go : (d : DraftValue) (w : WeightsValue) → MayGo (at d (in_ranks w)) (with_node d (OfLeaf (OfSum w)))
ranks_go d w = record { begins = λ k other. ap (step_leaf d (OfSum w) k) other; ends = refl }

prices_go : (d : DraftValue) (p : PricingValue) → MayGo (at d (in_prices p)) (with_node d (OfLeaf (OfPack p)))
prices_go d p = record { begins = λ k other. ap (step_leaf d (OfPack p) k) other; ends = refl }

lists_go : (d : DraftValue) (leaf : LeafValue) → MayGo (at d (in_lists leaf)) (with_node d (OfLeaf leaf))
lists_go d leaf = record { begins = λ k other. ap (step_leaf d leaf k) other; ends = refl }

-- the draft with a leaf in place of a node that was wanted
abbrev with_leaf : DraftValue → ℕ → DraftValue
with_leaf d n = with_node (record d { wanted = n }) (OfLeaf (OfSum (wire_of 0)))

finish_leaf : (s : State) (d : DraftValue) (n : ℕ) → MayBegin s d → d.wanted ≡ suc n → Ends (at (record d { wanted = n }) (in_ranks (wire_of 0))) → Ends s
finish_leaf s d n may some rest =
    ends_by_key s (at (record d { wanted = n }) wants_wire) key.Sum (node_begun s d n key.Sum wants_wire may refl refl some)
    (ends_by_zero (at (record d { wanted = n }) wants_wire) (at (record d { wanted = n }) (in_ranks (wire_of 0))) refl rest)

finish_wanted : (n : ℕ) (s : State) (d : DraftValue) → MayGo s d → d.wanted ≡ n → Ends s
finish_wanted zero s d may none =
    record { more = []; small = tt; end = s; value = record { claimed = d.claimed; lists = d.lists; nodes = d.nodes }; runs = refl; ends = may.ends ∙ ap (λ m. whole_at m d) none }
finish_wanted (suc n) s d may some =
    finish_leaf s d n may.begins some (finish_wanted n (at (record d { wanted = n }) (in_ranks (wire_of 0))) (with_leaf d n) (ranks_go (record d { wanted = n }) (wire_of 0)) refl)

-- where one is wanted, and the text may not end
finish_some : (n : ℕ) (s : State) (d : DraftValue) → MayBegin s d → d.wanted ≡ suc n → Ends s
finish_some n s d may some =
    finish_leaf s d n may some (finish_wanted n (at (record d { wanted = n }) (in_ranks (wire_of 0))) (with_leaf d n) (ranks_go (record d { wanted = n }) (wire_of 0)) refl)

-- where at least one is wanted
finish_more : (n : ℕ) (s : State) (d : DraftValue) → MayBegin s d → d.wanted ≡ n → 1 ≤ n → Ends s
finish_more zero s d may is some = absurd (omega (arith, some))
finish_more (suc n) s d may is some = finish_some n s d may is

-- ---- the state of each part

-- a list of some tests
finish_some_tests : (which : ListKind) (test : TestId) (tests : List TestId) (d : DraftValue) → 1 ≤ d.wanted → Ends (at d (in_tests which (test ∷ tests)))
finish_some_tests which test tests d some =
    finish_more d.wanted (at d (in_tests which (test ∷ tests))) (with_list d (list_of which (test ∷ tests))) (λ k other. refl) refl some

finish_pushed : (which : ListKind) (tests : List TestId) (test : TestId) (d : DraftValue) → 1 ≤ d.wanted → Ends (at d (in_tests which (tests ++ test ∷ [])))
finish_pushed which [] test d some = finish_some_tests which test [] d some
finish_pushed which (t ∷ tests) test d some = finish_some_tests which t (tests ++ test ∷ []) d some

finish_test : (which : ListKind) (tests : List TestId) (m : ℕ) (d : DraftValue) → 1 ≤ d.wanted → Ends (at d (wants_test which tests m))
finish_test which tests m d some =
    ends_by_zero _ (at d (in_tests which (tests ++ record { «module» = m; test = 0 } ∷ []))) refl
    (finish_pushed which tests (record { «module» = m; test = 0 }) d some)

finish_tests : (which : ListKind) (tests : List TestId) (d : DraftValue) → 1 ≤ d.wanted → Ends (at d (in_tests which tests))
finish_tests which [] d some = ends_by_zero _ (at d (wants_test which [] 0)) refl (finish_test which [] 0 d some)
finish_tests which (t ∷ tests) d some = finish_some_tests which t tests d some

finish_between : (d : DraftValue) → 1 ≤ d.wanted → Ends (at d between)
finish_between d some = finish_more d.wanted (at d between) d (λ k other. refl) refl some

-- a node with branches
finish_split : (s : State) (d : DraftValue) (n : NodeValue) → MayBegin s (with_branches d n) → Ends s
finish_split s d n may = finish_more (d.wanted + 2) s (with_branches d n) may refl (omega arith)

finish_width : (d : DraftValue) (rank : ℕ) → Ends (at d (wants_width rank))
finish_width d rank =
    let n : NodeValue = OfSplit (OfWide rank 0) in
    ends_by_zero _ (at (with_branches d n) between) refl (finish_split (at (with_branches d n) between) d n (λ k other. refl))

finish_place : (d : DraftValue) (m rank : ℕ) (twins : List ℕ) → Ends (at d (in_place m rank twins))
finish_place d m rank twins = finish_split (at d (in_place m rank twins)) d (OfSplit (OfPlace m rank twins)) (λ k other. refl)

finish_place_rank : (d : DraftValue) (m : ℕ) → Ends (at d (wants_place_rank m))
finish_place_rank d m = ends_by_zero _ (at d (in_place m 0 [])) refl (finish_place d m 0 [])

-- a leaf
finish_ranks : (d : DraftValue) (w : WeightsValue) → Ends (at d (in_ranks w))
finish_ranks d w = finish_wanted d.wanted (at d (in_ranks w)) (with_node d (OfLeaf (OfSum w))) (ranks_go d w) refl

finish_prices : (d : DraftValue) (p : PricingValue) → Ends (at d (in_prices p))
finish_prices d p = finish_wanted d.wanted (at d (in_prices p)) (with_node d (OfLeaf (OfPack p))) (prices_go d p) refl

finish_grain : (d : DraftValue) → Ends (at d wants_grain)
finish_grain d = ends_by_number _ (at d (in_prices (grain_of 1))) 1 (omega arith) refl (finish_prices d (grain_of 1))

finish_price : (d : DraftValue) (p : PricingValue) (m : ℕ) → Ends (at d (wants_price p m))
finish_price d p m = ends_by_zero _ (at d (in_prices (with_price p m 0))) refl (finish_prices d (with_price p m 0))

finish_uses : (d : DraftValue) (leaf : LeafValue) → Ends (at d (in_lists leaf))
finish_uses d leaf = finish_wanted d.wanted (at d (in_lists leaf)) (with_node d (OfLeaf leaf)) (lists_go d leaf) refl

finish_list_weight : (d : DraftValue) (leaf : LeafValue) (list : ℕ) → Ends (at d (wants_list_weight leaf list))
finish_list_weight d leaf list = ends_by_zero _ (at d (in_lists (with_use leaf list 0))) refl (finish_uses d (with_use leaf list 0))

-- the head
finish_claim : (d : DraftValue) → 1 ≤ d.wanted → Ends (at d wants_claim)
finish_claim d some = ends_by_zero _ (at (record d { claimed = 0 }) between) refl (finish_between (record d { claimed = 0 }) some)

finish_bound : (d : DraftValue) → 1 ≤ d.wanted → Ends (at d wants_bound)
finish_bound d some = ends_by_key _ (at d wants_claim) key.Bound refl (finish_claim d some)

finish_form : (d : DraftValue) → 1 ≤ d.wanted → Ends (at d wants_form)
finish_form d some = ends_by_number _ (at d wants_bound) 1 (omega arith) refl (finish_bound d some)

finish : (p : PartValue) (d : DraftValue) (ts : List (Token Keyword)) → Holds d p ts → Ends (at d p)
finish wants_proof d ts h = ends_by_key _ (at d wants_form) key.Proof refl (finish_form d (wanted_some d h.ordered.1 h.fills))
finish wants_form d ts h = finish_form d (wanted_some d h.ordered.1 h.fills)
finish wants_bound d ts h = finish_bound d (wanted_some d h.ordered.1 h.fills)
finish wants_claim d ts h = finish_claim d (wanted_some d h.ordered.1 h.fills)
finish between d ts h = finish_between d h.ordered
finish wants_list_rank d ts h = ends_by_zero _ (at d (in_tests (kind.TurnsOn 0) [])) refl (finish_tests (kind.TurnsOn 0) [] d (wanted_some d h.ordered.0 h.fills))
finish wants_most d ts h = ends_by_zero _ (at d (in_tests (kind.Crowd 0) [])) refl (finish_tests (kind.Crowd 0) [] d (wanted_some d h.ordered.0 h.fills))
finish wants_near d ts h = ends_by_zero _ (at (with_list d (OfPower 0)) between) refl (finish_between (with_list d (OfPower 0)) (wanted_some d h.ordered.0 h.fills))
finish (in_tests which tests) d ts h = finish_tests which tests d (wanted_some d h.ordered.0 h.fills)
finish (wants_test which tests m) d ts h = finish_test which tests m d (wanted_some d h.ordered.0 h.fills)
finish wants_wide_rank d ts h = ends_by_zero _ (at d (wants_width 0)) refl (finish_width d 0)
finish (wants_width rank) d ts h = finish_width d rank
finish wants_module d ts h = ends_by_zero _ (at d (wants_place_rank 0)) refl (finish_place_rank d 0)
finish (wants_place_rank m) d ts h = finish_place_rank d m
finish (in_place m rank twins) d ts h = finish_place d m rank twins
finish wants_wire d ts h = ends_by_zero _ (at d (in_ranks (wire_of 0))) refl (finish_ranks d (wire_of 0))
finish (in_ranks w) d ts h = finish_ranks d w
finish wants_grain d ts h = finish_grain d
finish (in_prices p) d ts h = finish_prices d p
finish (wants_price p m) d ts h = finish_price d p m
finish (wants_list leaf) d ts h = ends_by_zero _ (at d (wants_list_weight leaf 0)) refl (finish_list_weight d leaf 0)
finish (wants_list_weight leaf list) d ts h = finish_list_weight d leaf list
finish (in_lists leaf) d ts h = finish_uses d leaf

-- each state that words come to may still be ended
pub may_end : (ts : List (Token Keyword)) (s : State) → Holds s.draft s.part ts → Ends s
may_end ts s h = finish s.part s.draft ts h
