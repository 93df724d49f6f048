-- What was read so far is the words of the state: of the lists and the nodes that are whole, and of the part that comes next.
use Rattle.std.proofs.Common.{◌≡◌, ◌<◌, ◌≤◌, ℕ, zero, suc, ◌+◌, List, [], ◌∷◌, ◌++◌, length, map, Bool, true, false, nat_eq, Option, Some, refl, sym, ◌∙◌, ap, subst, arith, append_assoc, append-nil, nat_le, nat_lt, All, flat_map}
use Rattle.std.proofs.lemmas.Bool.{eqb-true, leb-true, ltb-true}
use Rattle.std.proofs.lemmas.List.{map-append, length-append}
use Rattle.std.proofs.lemmas.List.Concat.{flat_map-append}
use Rattle.std.proofs.lemmas.List.Elements.{All-nil, All-push}
use Rattle.soc_model.specs.declared.TestId.{TestId}
use Rattle.keyword_text.specs.declared.tokens.Token.{Token}
use Rattle.keyword_text.specs.declared.tokens.Token.TheVariants.{Key, Number}
use Rattle.keyword_text.specs.Lines.{Line, line_tokens, tokens_of}
use Rattle.keyword_text.specs.Machines.{IsRun, IsSaid}
use Rattle.keyword_text.proofs.Kept.{kept_by_words, kept_holds}
use Rattle.keyword_text.proofs.Listed.{tokens_push, numbers_push, word_pushed}
use Rattle.keyword_text.proofs.Trees.{Fills, fills_none, fills_leaf, fills_split, fills_whole, fills_as}
use Rattle.plan_model.specs.declared.proof.TheConstants.{LISTS_MOST, WEIGHT_MOST, PRICE_MOST}
use Rattle.proof_text.specs.declared.tokens.Keyword.{Keyword}
use Rattle.proof_text.specs.declared.parts.ListKind.{ListKind}
use Rattle.plan_model.specs.Proofs.{ListValue, OfPower, WeightsValue, PricingValue, LeafValue, OfSum, OfPack, OfWide, OfPlace, NodeValue, OfSplit, OfLeaf, Leaf, Branches, nodes_of, ProofValue}
use Rattle.proof_text.specs.ProofLines.{list_line, test_numbers, use_tokens, weight_tokens, price_numbers, price_tokens, node_line, head_lines, proof_tokens}
use Rattle.plan_model.specs.Sayable.{NamesTests, IsWeight, IsUse, IsPrice, AreWeights, ArePrices, LeafHasWeights, HasWeights}
use Rattle.proof_text.specs.Grammar.{proof_grammar}
use Rattle.proof_text.specs.Words.{DraftValue, PartValue, wants_proof, wants_form, wants_bound, wants_claim, between, wants_list_rank, wants_most, wants_near, in_tests, wants_test, wants_wide_rank, wants_width, wants_module, wants_place_rank, in_place, wants_wire, in_ranks, wants_grain, in_prices, wants_price, wants_list, wants_list_weight, in_lists, State, at, with_list, with_node, with_branches, with_rank, with_price, with_use, list_of, wire_of, grain_of, next_if, if_both, step_number, begin_list, begin_wanted, begin, end_tests, is_use, step_leaf, begin_proof, begin_bound, begun, step_key, whole_at, ended_by, ended, proof_machine}
use Rattle.proof_text.proofs.Fills.{some_wanted}
use Rattle.keyword_text.proofs.Kept as kept
use Rattle.proof_text.specs.declared.tokens.Keyword.TheVariants as key
use Rattle.proof_text.specs.declared.parts.ListKind.TheVariants as kind

-- how far a text has come
pub data Stage : Type 0 where
  at_head : Stage
  at_lists : Stage
  at_between : Stage
  at_nodes : Stage

abbrev pub stage : PartValue → Stage
stage wants_proof = at_head
stage wants_form = at_head
stage wants_bound = at_head
stage wants_claim = at_head
stage between = at_between
stage wants_list_rank = at_lists
stage wants_most = at_lists
stage wants_near = at_lists
stage (in_tests which tests) = at_lists
stage (wants_test which tests m) = at_lists
stage p = at_nodes

-- what comes later was not read; a list that has begun is not one too many; between parts a node is wanted
abbrev pub Ordered : Stage → DraftValue → Type 0
Ordered at_head d = (d.lists ≡ []) × (d.nodes ≡ [])
Ordered at_lists d = (d.nodes ≡ []) × (length d.lists < LISTS_MOST)
Ordered at_between d = 1 ≤ d.wanted
Ordered at_nodes d = Unit {0}

-- nodes that have begun and are not whole
abbrev pub open_nodes : PartValue → ℕ
open_nodes wants_wide_rank = 1
open_nodes (wants_width rank) = 1
open_nodes wants_module = 1
open_nodes (wants_place_rank m) = 1
open_nodes (in_place m rank twins) = 1
open_nodes wants_wire = 1
open_nodes (in_ranks w) = 1
open_nodes wants_grain = 1
open_nodes (in_prices p) = 1
open_nodes (wants_price p m) = 1
open_nodes (wants_list leaf) = 1
open_nodes (wants_list_weight leaf list) = 1
open_nodes (in_lists leaf) = 1
open_nodes p = 0

-- the lines of the whole parts
abbrev pub body : DraftValue → List (Line Keyword)
body d = head_lines d.claimed ++ (map list_line d.lists ++ map node_line d.nodes)

abbrev pub front : Stage → DraftValue → List (Line Keyword)
front at_head d = []
front at_lists d = body d
front at_between d = body d
front at_nodes d = body d

-- the words of the weights that were read
abbrev pub sum_words : WeightsValue → List (Token Keyword)
sum_words w = Key key.Sum ∷ weight_tokens w

abbrev pub pack_words : PricingValue → List (Token Keyword)
pack_words p = Key key.Pack ∷ price_tokens p

abbrev pub leaf_words : LeafValue → List (Token Keyword)
leaf_words (OfSum w) = sum_words w
leaf_words (OfPack p) = pack_words p

-- the words of the part that comes next
abbrev pub part_tokens : PartValue → List (Token Keyword)
part_tokens wants_proof = []
part_tokens wants_form = Key key.Proof ∷ []
part_tokens wants_bound = Key key.Proof ∷ Number 1 ∷ []
part_tokens wants_claim = Key key.Proof ∷ Number 1 ∷ Key key.Bound ∷ []
part_tokens between = []
part_tokens wants_list_rank = Key key.TurnsOn ∷ []
part_tokens wants_most = Key key.Crowd ∷ []
part_tokens wants_near = Key key.Power ∷ []
part_tokens (in_tests which tests) = line_tokens (list_line (list_of which tests))
part_tokens (wants_test which tests m) = line_tokens (list_line (list_of which tests)) ++ Number m ∷ []
part_tokens wants_wide_rank = Key key.Wide ∷ []
part_tokens (wants_width rank) = Key key.Wide ∷ Number rank ∷ []
part_tokens wants_module = Key key.Place ∷ []
part_tokens (wants_place_rank m) = Key key.Place ∷ Number m ∷ []
part_tokens (in_place m rank twins) = Key key.Place ∷ Number m ∷ Number rank ∷ map Number twins
part_tokens wants_wire = Key key.Sum ∷ []
part_tokens (in_ranks w) = sum_words w
part_tokens wants_grain = Key key.Pack ∷ []
part_tokens (in_prices p) = pack_words p
part_tokens (wants_price p m) = pack_words p ++ Number m ∷ []
part_tokens (wants_list leaf) = leaf_words leaf ++ Key key.Of ∷ []
part_tokens (wants_list_weight leaf list) = leaf_words leaf ++ (Key key.Of ∷ Number list ∷ [])
part_tokens (in_lists leaf) = leaf_words leaf

-- weights and prices that may be, and none of lists while those of ranks or of modules may come
abbrev pub Weighed : PartValue → Type 0
Weighed (in_ranks w) = AreWeights w × (w.lists ≡ [])
Weighed (in_prices p) = ArePrices p × (p.lists ≡ [])
Weighed (wants_price p m) = ArePrices p × (p.lists ≡ [])
Weighed (wants_list leaf) = LeafHasWeights leaf
Weighed (wants_list_weight leaf list) = LeafHasWeights leaf
Weighed (in_lists leaf) = LeafHasWeights leaf
Weighed p = Unit {0}

-- the whole parts may be said
pub record AreProper (d : DraftValue) : Type 0 where
  pub few : length d.lists ≤ LISTS_MOST
  pub lists : All NamesTests d.lists
  pub nodes : All HasWeights d.nodes

-- the words that were read are those of this draft and this part
pub record Holds (d : DraftValue) (p : PartValue) (ts : List (Token Keyword)) : Type 0 where
  pub ordered : Ordered (stage p) d
  pub read : ts ≡ tokens_of (front (stage p) d) ++ part_tokens p
  pub fills : Fills nodes_of d.nodes (open_nodes p + d.wanted)
  pub weighed : Weighed p
  pub proper : AreProper d

abbrev IsRead : List (Token Keyword) → State → Type 0
IsRead ts s = Holds s.draft s.part ts

abbrev HoldsNext : Option State → List (Token Keyword) → Type 0
HoldsNext o ts = kept.HoldsNext IsRead o ts

-- ---- tests into facts

none_of : {X : Type 0} (xs : List X) → nat_eq (length xs) 0 ≡ true → xs ≡ []
none_of [] e = refl
none_of (x ∷ xs) e = let no : length (x ∷ xs) ≡ 0 = eqb-true (length (x ∷ xs)) 0 e in absurd (omega (arith, no))

-- ---- lists of lines

node_pushed : (d : DraftValue) (n : NodeValue) → tokens_of (body d) ++ line_tokens (node_line n) ≡ tokens_of (body (with_node d n))
node_pushed d n =
    sym (tokens_push (body d) (node_line n))
    ∙ ap (λ ls. tokens_of (head_lines d.claimed ++ ls))
    (append_assoc (map list_line d.lists) (map node_line d.nodes) (node_line n ∷ [])
    ∙ ap (λ ls. map list_line d.lists ++ ls) (sym (map-append node_line d.nodes (n ∷ []))))

-- the lines, where no node has begun
no_nodes : (d : DraftValue) → d.nodes ≡ [] → body d ≡ head_lines d.claimed ++ map list_line d.lists
no_nodes d none = ap (λ ns. head_lines d.claimed ++ (map list_line d.lists ++ map node_line ns)) none ∙ ap (λ ls. head_lines d.claimed ++ ls) (append-nil (map list_line d.lists))

list_pushed : (d : DraftValue) (l : ListValue) → d.nodes ≡ [] → tokens_of (body d) ++ line_tokens (list_line l) ≡ tokens_of (body (with_list d l))
list_pushed d l none =
    sym (tokens_push (body d) (list_line l))
    ∙ ap (λ ls. tokens_of (ls ++ list_line l ∷ [])) (no_nodes d none)
    ∙ ap (λ ls. tokens_of (head_lines d.claimed ++ ls)) (sym (map-append list_line d.lists (l ∷ [])))
    ∙ ap tokens_of (sym (no_nodes (with_list d l) none))

-- ---- one more word

whole : (ts : List (Token Keyword)) (d : DraftValue) → ts ≡ tokens_of (body d) → ts ≡ tokens_of (body d) ++ []
whole ts d read = read ∙ sym (append-nil (tokens_of (body d)))

-- the words of lists and nodes, with what follows their keyword
leaf_line : (leaf : LeafValue) → line_tokens (node_line (OfLeaf leaf)) ≡ leaf_words leaf
leaf_line (OfSum w) = ap (λ l. Key key.Sum ∷ l) (append-nil (weight_tokens w))
leaf_line (OfPack p) = ap (λ l. Key key.Pack ∷ l) (append-nil (price_tokens p))

test_pushed : (which : ListKind) (tests : List TestId) (m n : ℕ) →
    line_tokens (list_line (list_of which (tests ++ record { «module» = m; test = n } ∷ []))) ≡ (line_tokens (list_line (list_of which tests)) ++ Number m ∷ []) ++ Number n ∷ []
test_pushed which tests m n = by which
  where
    numbers : List (Token Keyword)
    numbers = map Number (flat_map test_numbers tests)

    pushed : map {B = Token Keyword} Number (flat_map test_numbers (tests ++ record { «module» = m; test = n } ∷ [])) ≡ (numbers ++ Number m ∷ []) ++ Number n ∷ []
    pushed =
        ap (map Number) (flat_map-append test_numbers tests (record { «module» = m; test = n } ∷ []))
        ∙ map-append Number (flat_map test_numbers tests) (m ∷ n ∷ [])
        ∙ sym (append_assoc numbers (Number m ∷ []) (Number n ∷ []))

    by : (which : ListKind) → line_tokens (list_line (list_of which (tests ++ record { «module» = m; test = n } ∷ []))) ≡ (line_tokens (list_line (list_of which tests)) ++ Number m ∷ []) ++ Number n ∷ []
    by kind.Turns = ap (λ l. Key key.Turns ∷ l) pushed
    by (kind.TurnsOn rank) = ap (λ l. Key key.TurnsOn ∷ Number rank ∷ l) pushed
    by (kind.Crowd most) = ap (λ l. Key key.Crowd ∷ Number most ∷ l) pushed

rank_pushed : (w : WeightsValue) (n : ℕ) → w.lists ≡ [] → sum_words (with_rank w n) ≡ sum_words w ++ Number n ∷ []
rank_pushed w n none = ap (λ l. Key key.Sum ∷ Number w.wire ∷ l) (plain (w.ranks ++ n ∷ []) ∙ numbers_push w.ranks n ∙ ap (λ l. l ++ Number n ∷ []) (sym (plain w.ranks)))
  where
    plain : (ns : List ℕ) → map Number ns ++ flat_map use_tokens w.lists ≡ map Number ns
    plain ns = ap (λ o. map Number ns ++ flat_map use_tokens o) none ∙ append-nil (map Number ns)

price_pushed : (p : PricingValue) (m n : ℕ) → p.lists ≡ [] → pack_words (with_price p m n) ≡ (pack_words p ++ Number m ∷ []) ++ Number n ∷ []
price_pushed p m n none =
    ap (λ l. Key key.Pack ∷ Number p.grain ∷ l)
    (plain (p.prices ++ (m, n) ∷ []) ∙ ap (map Number) (flat_map-append price_numbers p.prices ((m, n) ∷ []))
    ∙ map-append Number (flat_map price_numbers p.prices) (m ∷ n ∷ []) ∙ ap (λ l. l ++ (Number m ∷ Number n ∷ [])) (sym (plain p.prices)))
    ∙ sym (append_assoc (pack_words p) (Number m ∷ []) (Number n ∷ []))
  where
    numbers : List (ℕ × ℕ) → List (Token Keyword)
    numbers ps = map Number (flat_map price_numbers ps)

    plain : (ps : List (ℕ × ℕ)) → numbers ps ++ flat_map use_tokens p.lists ≡ numbers ps
    plain ps = ap (λ o. numbers ps ++ flat_map use_tokens o) none ∙ append-nil (numbers ps)

-- one more use behind some first words
use_behind : (first ts : List (Token Keyword)) (lists : List (ℕ × ℕ)) (list n : ℕ) → first ++ (ts ++ flat_map use_tokens (lists ++ (list, n) ∷ [])) ≡ ((first ++ (ts ++ flat_map use_tokens lists)) ++ (Key key.Of ∷ Number list ∷ [])) ++ Number n ∷ []
use_behind first ts lists list n =
    ap (λ l. first ++ (ts ++ l)) (flat_map-append use_tokens lists ((list, n) ∷ []))
    ∙ ap (λ l. first ++ l) (sym (append_assoc ts (flat_map use_tokens lists) (use_tokens (list, n) ++ [])))
    ∙ sym (append_assoc first (ts ++ flat_map use_tokens lists) (use_tokens (list, n) ++ []))
    ∙ sym (append_assoc (first ++ (ts ++ flat_map use_tokens lists)) (Key key.Of ∷ Number list ∷ []) (Number n ∷ []))

use_pushed : (leaf : LeafValue) (list n : ℕ) → leaf_words (with_use leaf list n) ≡ (leaf_words leaf ++ (Key key.Of ∷ Number list ∷ [])) ++ Number n ∷ []
use_pushed (OfSum w) list n = use_behind (Key key.Sum ∷ Number w.wire ∷ []) (map Number w.ranks) w.lists list n
use_pushed (OfPack p) list n = use_behind (Key key.Pack ∷ Number p.grain ∷ []) (map Number (flat_map price_numbers p.prices)) p.lists list n

-- ---- keywords

-- whole parts only, which may be followed by more
record IsWhole (d : DraftValue) (ts : List (Token Keyword)) : Type 0 where
  read : ts ≡ tokens_of (body d)
  fills : Fills nodes_of d.nodes d.wanted
  proper : AreProper d

-- a list begins
list_begins : (p : PartValue) (k : Keyword) (d : DraftValue) (ts : List (Token Keyword)) → IsWhole d ts → (d.nodes ≡ [] → length d.lists < LISTS_MOST → Holds d p (ts ++ Key k ∷ [])) → HoldsNext (begin_list d p) (ts ++ Key k ∷ [])
list_begins p k d ts h holds = by (nat_eq (length d.nodes) 0) (nat_lt (length d.lists) LISTS_MOST) refl refl
  where
    by : (a b : Bool) → nat_eq (length d.nodes) 0 ≡ a → nat_lt (length d.lists) LISTS_MOST ≡ b → HoldsNext (if_both a b (at d p)) (ts ++ Key k ∷ [])
    by true true none few = holds (none_of d.nodes none) (ltb-true (length d.lists) LISTS_MOST few)
    by true false none few = tt
    by false b none few = tt

-- a node begins
node_begins : (n : ℕ) (p : PartValue) (k : Keyword) (d : DraftValue) (ts : List (Token Keyword)) → IsWhole d ts → d.wanted ≡ n → ((m : ℕ) → Fills nodes_of d.nodes (1 + m) → Holds (record d { wanted = m }) p (ts ++ Key k ∷ [])) → HoldsNext (begin_wanted n d p) (ts ++ Key k ∷ [])
node_begins zero p k d ts h is holds = tt
node_begins (suc n) p k d ts h is holds = holds n (fills_as nodes_of d.nodes d.wanted (1 + n) (omega (arith, is)) h.fills)

proper_as : (d : DraftValue) (m : ℕ) → AreProper d → AreProper (record d { wanted = m })
proper_as d m p = record { few = p.few; lists = p.lists; nodes = p.nodes }

begins : (k : Keyword) (d : DraftValue) (ts : List (Token Keyword)) → IsWhole d ts → HoldsNext (begin d k) (ts ++ Key k ∷ [])
begins key.Turns d ts h = list_begins (in_tests kind.Turns []) key.Turns d ts h (λ none few. record { ordered = (none, few); read = ap (λ l. l ++ Key key.Turns ∷ []) h.read; fills = fills_as nodes_of d.nodes d.wanted (0 + d.wanted) (omega arith) h.fills; weighed = tt; proper = h.proper })
begins key.TurnsOn d ts h = list_begins wants_list_rank key.TurnsOn d ts h (λ none few. record { ordered = (none, few); read = ap (λ l. l ++ Key key.TurnsOn ∷ []) h.read; fills = fills_as nodes_of d.nodes d.wanted (0 + d.wanted) (omega arith) h.fills; weighed = tt; proper = h.proper })
begins key.Crowd d ts h = list_begins wants_most key.Crowd d ts h (λ none few. record { ordered = (none, few); read = ap (λ l. l ++ Key key.Crowd ∷ []) h.read; fills = fills_as nodes_of d.nodes d.wanted (0 + d.wanted) (omega arith) h.fills; weighed = tt; proper = h.proper })
begins key.Power d ts h = list_begins wants_near key.Power d ts h (λ none few. record { ordered = (none, few); read = ap (λ l. l ++ Key key.Power ∷ []) h.read; fills = fills_as nodes_of d.nodes d.wanted (0 + d.wanted) (omega arith) h.fills; weighed = tt; proper = h.proper })
begins key.Wide d ts h = node_begins d.wanted wants_wide_rank key.Wide d ts h refl (λ m fills. record { ordered = tt; read = ap (λ l. l ++ Key key.Wide ∷ []) h.read; fills = fills; weighed = tt; proper = proper_as d m h.proper })
begins key.Place d ts h = node_begins d.wanted wants_module key.Place d ts h refl (λ m fills. record { ordered = tt; read = ap (λ l. l ++ Key key.Place ∷ []) h.read; fills = fills; weighed = tt; proper = proper_as d m h.proper })
begins key.Sum d ts h = node_begins d.wanted wants_wire key.Sum d ts h refl (λ m fills. record { ordered = tt; read = ap (λ l. l ++ Key key.Sum ∷ []) h.read; fills = fills; weighed = tt; proper = proper_as d m h.proper })
begins key.Pack d ts h = node_begins d.wanted wants_grain key.Pack d ts h refl (λ m fills. record { ordered = tt; read = ap (λ l. l ++ Key key.Pack ∷ []) h.read; fills = fills; weighed = tt; proper = proper_as d m h.proper })
begins key.Proof d ts h = tt
begins key.Bound d ts h = tt
begins key.Of d ts h = tt

-- ---- parts that end

-- one more list
list_whole : (d : DraftValue) (l : ListValue) (ts : List (Token Keyword)) → Ordered at_lists d → Fills nodes_of d.nodes (0 + d.wanted) → AreProper d → NamesTests l → ts ≡ tokens_of (body d) ++ line_tokens (list_line l) → IsWhole (with_list d l) ts
list_whole d l ts ordered fills proper names read =
    let few : length d.lists < LISTS_MOST = ordered.1 in
    record {
      read = read ∙ list_pushed d l ordered.0;
      fills = fills_as nodes_of d.nodes (0 + d.wanted) d.wanted (omega arith) fills;
      proper = record { few = omega (arith, few, length-append d.lists (l ∷ [])); lists = All-push NamesTests d.lists l proper.lists names; nodes = proper.nodes };
    }

-- one more node with branches
split_whole : (d : DraftValue) (n : NodeValue) (ts : List (Token Keyword)) → Fills nodes_of (d.nodes ++ n ∷ []) (d.wanted + 2) → HasWeights n → AreProper d → ts ≡ tokens_of (body d) ++ line_tokens (node_line n) → IsWhole (with_branches d n) ts
split_whole d n ts fills has proper read =
    record { read = read ∙ node_pushed d n; fills = fills; proper = record { few = proper.few; lists = proper.lists; nodes = All-push HasWeights d.nodes n proper.nodes has } }

-- one more leaf
leaf_whole : (d : DraftValue) (leaf : LeafValue) (ts : List (Token Keyword)) → Fills nodes_of d.nodes (1 + d.wanted) → LeafHasWeights leaf → AreProper d → ts ≡ tokens_of (body d) ++ leaf_words leaf → IsWhole (with_node d (OfLeaf leaf)) ts
leaf_whole d leaf ts fills are proper read =
    record {
      read = read ∙ ap (λ l. tokens_of (body d) ++ l) (sym (leaf_line leaf)) ∙ node_pushed d (OfLeaf leaf);
      fills = fills_leaf nodes_of (Leaf leaf) d.nodes (OfLeaf leaf) refl (1 + d.wanted) d.wanted (omega arith) fills;
      proper = record { few = proper.few; lists = proper.lists; nodes = All-push HasWeights d.nodes (OfLeaf leaf) proper.nodes are };
    }

-- such a part goes on where more may follow
whole_holds : (d : DraftValue) (ts : List (Token Keyword)) → IsWhole d ts → 1 ≤ d.wanted → Holds d between ts
whole_holds d ts h some = record { ordered = some; read = whole ts d h.read; fills = fills_as nodes_of d.nodes d.wanted (0 + d.wanted) (omega arith) h.fills; weighed = tt; proper = h.proper }

-- ---- keywords

names_some : (which : ListKind) (test : TestId) (tests : List TestId) → NamesTests (list_of which (test ∷ tests))
names_some kind.Turns test tests = omega arith
names_some (kind.TurnsOn rank) test tests = omega arith
names_some (kind.Crowd most) test tests = omega arith

tests_end : (which : ListKind) (tests : List TestId) (d : DraftValue) (k : Keyword) (ts : List (Token Keyword)) → Holds d (in_tests which tests) ts → HoldsNext (end_tests d which tests k) (ts ++ Key k ∷ [])
tests_end which [] d k ts h = tt
tests_end which (test ∷ tests) d k ts h =
    begins k (with_list d (list_of which (test ∷ tests))) ts (list_whole d (list_of which (test ∷ tests)) ts h.ordered h.fills h.proper (names_some which test tests) h.read)

leaf_goes : (k : Keyword) (d : DraftValue) (leaf : LeafValue) (ts : List (Token Keyword)) → ts ≡ tokens_of (body d) ++ leaf_words leaf → Fills nodes_of d.nodes (1 + d.wanted) → LeafHasWeights leaf → AreProper d → HoldsNext (step_leaf d leaf k (is_use k)) (ts ++ Key k ∷ [])
leaf_goes key.Of d leaf ts read fills are proper = record { ordered = tt; read = word_pushed ts _ _ (tokens_of (body d)) (Key key.Of) read refl; fills = fills; weighed = are; proper = proper }
leaf_goes k d leaf ts read fills are proper = begins k (with_node d (OfLeaf leaf)) ts (leaf_whole d leaf ts fills are proper read)

proof_begins : (k : Keyword) (d : DraftValue) (ts : List (Token Keyword)) → Holds d wants_proof ts → HoldsNext (begun d (begin_proof k)) (ts ++ Key k ∷ [])
proof_begins key.Proof d ts h = record { ordered = h.ordered; read = word_pushed ts _ _ [] (Key key.Proof) h.read refl; fills = h.fills; weighed = tt; proper = h.proper }
proof_begins k d ts h = tt

bound_begins : (k : Keyword) (d : DraftValue) (ts : List (Token Keyword)) → Holds d wants_bound ts → HoldsNext (begun d (begin_bound k)) (ts ++ Key k ∷ [])
bound_begins key.Bound d ts h = record { ordered = h.ordered; read = word_pushed ts _ _ [] (Key key.Bound) h.read refl; fills = h.fills; weighed = tt; proper = h.proper }
bound_begins k d ts h = tt

key_holds : (p : PartValue) (d : DraftValue) (k : Keyword) (ts : List (Token Keyword)) → Holds d p ts → HoldsNext (step_key d p k) (ts ++ Key k ∷ [])
key_holds wants_proof d k ts h = proof_begins k d ts h
key_holds wants_bound d k ts h = bound_begins k d ts h
key_holds between d k ts h =
    begins k d ts (record { read = h.read ∙ append-nil (tokens_of (body d)); fills = fills_as nodes_of d.nodes (0 + d.wanted) d.wanted (omega arith) h.fills; proper = h.proper })
key_holds (in_tests which tests) d k ts h = tests_end which tests d k ts h
key_holds (in_place m rank twins) d k ts h =
    begins k (with_branches d (OfSplit (OfPlace m rank twins))) ts
    (split_whole d (OfSplit (OfPlace m rank twins)) ts (fills_split nodes_of (Branches (OfPlace m rank twins)) d.nodes (OfSplit (OfPlace m rank twins)) (λ a b. refl) (1 + d.wanted) (d.wanted + 2) (omega arith) (omega arith) h.fills) tt h.proper h.read)
key_holds (in_ranks w) d k ts h = leaf_goes k d (OfSum w) ts h.read h.fills h.weighed.0 h.proper
key_holds (in_prices p) d k ts h = leaf_goes k d (OfPack p) ts h.read h.fills h.weighed.0 h.proper
key_holds (in_lists leaf) d k ts h = leaf_goes k d leaf ts h.read h.fills h.weighed h.proper
key_holds p d k ts h = tt

-- ---- numbers

-- where no node has begun, one is wanted
pub wanted_some : (d : DraftValue) → d.nodes ≡ [] → Fills nodes_of d.nodes (0 + d.wanted) → 1 ≤ d.wanted
wanted_some d none fills = some_wanted d.nodes d.wanted none (fills_as nodes_of d.nodes (0 + d.wanted) d.wanted (omega arith) fills)

-- a number that isn't too great
small_holds : (d : DraftValue) (p : PartValue) (n most : ℕ) (ts : List (Token Keyword)) → (n ≤ most → Holds d p ts) → HoldsNext (next_if (nat_le n most) (at d p)) ts
small_holds d p n most ts holds = by (nat_le n most) refl
  where
    by : (b : Bool) → nat_le n most ≡ b → HoldsNext (next_if b (at d p)) ts
    by true e = holds (leb-true n most e)
    by false e = tt

-- a weight that isn't
weight_holds : (d : DraftValue) (p : PartValue) (n : ℕ) (ts : List (Token Keyword)) → (IsWeight n → Holds d p ts) → HoldsNext (next_if (nat_le n WEIGHT_MOST) (at d p)) ts
weight_holds d p n ts holds = small_holds d p n WEIGHT_MOST ts holds

-- one more list of a leaf, whose weight may be
use_weighed : (leaf : LeafValue) (list n : ℕ) → LeafHasWeights leaf → IsWeight n → LeafHasWeights (with_use leaf list n)
use_weighed (OfSum w) list n are is = record { wire = are.wire; ranks = are.ranks; lists = All-push IsUse w.lists (list, n) are.lists is }
use_weighed (OfPack p) list n are is = record { grain = are.grain; prices = are.prices; lists = All-push IsUse p.lists (list, n) are.lists is }

number_holds : (p : PartValue) (d : DraftValue) (n : ℕ) (ts : List (Token Keyword)) → Holds d p ts → HoldsNext (step_number d p n) (ts ++ Number n ∷ [])
number_holds wants_form d n ts h = by (nat_eq n 1) refl
  where
    by : (b : Bool) → nat_eq n 1 ≡ b → HoldsNext (next_if b (at d wants_bound)) (ts ++ Number n ∷ [])
    by true e = record { ordered = h.ordered; read = word_pushed ts _ _ [] (Number n) h.read (ap (λ m. Key key.Proof ∷ Number m ∷ []) (sym (eqb-true n 1 e))); fills = h.fills; weighed = tt; proper = h.proper }
    by false e = tt
number_holds wants_claim d n ts h =
    record {
      ordered = wanted_some d h.ordered.1 h.fills;
      read = ap (λ l. l ++ Number n ∷ []) h.read ∙ ap (λ ls. tokens_of (head_lines n ++ (map list_line ls ++ [])) ++ []) (sym h.ordered.0) ∙ ap (λ ns. tokens_of (head_lines n ++ (map list_line d.lists ++ map node_line ns)) ++ []) (sym h.ordered.1);
      fills = h.fills;
      weighed = tt;
      proper = record { few = h.proper.few; lists = h.proper.lists; nodes = h.proper.nodes };
    }
number_holds wants_list_rank d n ts h = record { ordered = h.ordered; read = word_pushed ts _ _ (tokens_of (body d)) (Number n) h.read refl; fills = h.fills; weighed = tt; proper = h.proper }
number_holds wants_most d n ts h = record { ordered = h.ordered; read = word_pushed ts _ _ (tokens_of (body d)) (Number n) h.read refl; fills = h.fills; weighed = tt; proper = h.proper }
number_holds wants_near d n ts h =
    whole_holds (with_list d (OfPower n)) (ts ++ Number n ∷ [])
    (list_whole d (OfPower n) (ts ++ Number n ∷ []) h.ordered h.fills h.proper tt (word_pushed ts _ (line_tokens (list_line (OfPower n))) (tokens_of (body d)) (Number n) h.read refl))
    (wanted_some d h.ordered.0 h.fills)
number_holds (in_tests which tests) d n ts h = record { ordered = h.ordered; read = word_pushed ts _ _ (tokens_of (body d)) (Number n) h.read refl; fills = h.fills; weighed = tt; proper = h.proper }
number_holds (wants_test which tests m) d n ts h =
    record { ordered = h.ordered; read = word_pushed ts _ _ (tokens_of (body d)) (Number n) h.read (test_pushed which tests m n); fills = h.fills; weighed = tt; proper = h.proper }
number_holds wants_wide_rank d n ts h = record { ordered = tt; read = word_pushed ts _ _ (tokens_of (body d)) (Number n) h.read refl; fills = h.fills; weighed = tt; proper = h.proper }
number_holds (wants_width rank) d n ts h =
    whole_holds (with_branches d (OfSplit (OfWide rank n))) (ts ++ Number n ∷ [])
    (split_whole d (OfSplit (OfWide rank n)) (ts ++ Number n ∷ []) (fills_split nodes_of (Branches (OfWide rank n)) d.nodes (OfSplit (OfWide rank n)) (λ a b. refl) (1 + d.wanted) (d.wanted + 2) (omega arith) (omega arith) h.fills) tt h.proper
    (word_pushed ts _ (line_tokens (node_line (OfSplit (OfWide rank n)))) (tokens_of (body d)) (Number n) h.read refl))
    (omega arith)
number_holds wants_module d n ts h = record { ordered = tt; read = word_pushed ts _ _ (tokens_of (body d)) (Number n) h.read refl; fills = h.fills; weighed = tt; proper = h.proper }
number_holds (wants_place_rank m) d n ts h = record { ordered = tt; read = word_pushed ts _ _ (tokens_of (body d)) (Number n) h.read refl; fills = h.fills; weighed = tt; proper = h.proper }
number_holds (in_place m rank twins) d n ts h =
    record { ordered = tt; read = word_pushed ts _ _ (tokens_of (body d)) (Number n) h.read (ap (λ l. Key key.Place ∷ Number m ∷ Number rank ∷ l) (numbers_push twins n)); fills = h.fills; weighed = tt; proper = h.proper }
number_holds wants_wire d n ts h =
    weight_holds d (in_ranks (wire_of n)) n (ts ++ Number n ∷ [])
    (λ is. record { ordered = tt; read = word_pushed ts _ _ (tokens_of (body d)) (Number n) h.read refl; fills = h.fills; weighed = (record { wire = is; ranks = All-nil IsWeight; lists = All-nil IsUse }, refl); proper = h.proper })
number_holds (in_ranks w) d n ts h =
    weight_holds d (in_ranks (with_rank w n)) n (ts ++ Number n ∷ [])
    (λ is. record {
      ordered = tt;
      read = word_pushed ts _ _ (tokens_of (body d)) (Number n) h.read (rank_pushed w n h.weighed.1);
      fills = h.fills;
      weighed = (record { wire = h.weighed.0.wire; ranks = All-push IsWeight w.ranks n h.weighed.0.ranks is; lists = h.weighed.0.lists }, h.weighed.1);
      proper = h.proper;
    })
number_holds wants_grain d n ts h =
    small_holds d (in_prices (grain_of n)) 1 n (ts ++ Number n ∷ [])
    (λ is. record { ordered = tt; read = word_pushed ts _ _ (tokens_of (body d)) (Number n) h.read refl; fills = h.fills; weighed = (record { grain = is; prices = All-nil IsPrice; lists = All-nil IsUse }, refl); proper = h.proper })
number_holds (in_prices p) d n ts h = record { ordered = tt; read = word_pushed ts _ _ (tokens_of (body d)) (Number n) h.read refl; fills = h.fills; weighed = h.weighed; proper = h.proper }
number_holds (wants_price p m) d n ts h =
    small_holds d (in_prices (with_price p m n)) n PRICE_MOST (ts ++ Number n ∷ [])
    (λ is. record {
      ordered = tt;
      read = word_pushed ts _ _ (tokens_of (body d)) (Number n) h.read (price_pushed p m n h.weighed.1);
      fills = h.fills;
      weighed = (record { grain = h.weighed.0.grain; prices = All-push IsPrice p.prices (m, n) h.weighed.0.prices is; lists = h.weighed.0.lists }, h.weighed.1);
      proper = h.proper;
    })
number_holds (wants_list leaf) d n ts h =
    record { ordered = tt; read = word_pushed ts _ _ (tokens_of (body d)) (Number n) h.read (sym (append_assoc (leaf_words leaf) (Key key.Of ∷ []) (Number n ∷ []))); fills = h.fills; weighed = h.weighed; proper = h.proper }
number_holds (wants_list_weight leaf list) d n ts h =
    weight_holds d (in_lists (with_use leaf list n)) n (ts ++ Number n ∷ [])
    (λ is. record {
      ordered = tt;
      read = word_pushed ts _ _ (tokens_of (body d)) (Number n) h.read (use_pushed leaf list n);
      fills = h.fills;
      weighed = use_weighed leaf list n h.weighed is;
      proper = h.proper;
    })
number_holds p d n ts h = tt

-- words that were read to a state are its words
pub read_holds : (ts : List (Token Keyword)) (s : State) → IsRun proof_machine ts s → Holds s.draft s.part ts
read_holds ts s runs =
    kept_holds proof_machine IsRead (record { ordered = (refl, refl); read = refl; fills = fills_none nodes_of; weighed = tt; proper = record { few = omega arith; lists = All-nil NamesTests; nodes = All-nil HasWeights } })
    (kept_by_words proof_machine IsRead (λ ts s n h. number_holds s.part s.draft n ts h) (λ ts s k h. key_holds s.part s.draft k ts h)) ts s runs

-- ---- where the words end

all_words : (d : DraftValue) → tokens_of (body d) ≡ proof_tokens (record { claimed = d.claimed; lists = d.lists; nodes = d.nodes })
unfolding proof_tokens
all_words d = refl

whole_said : (n : ℕ) (d : DraftValue) (ts : List (Token Keyword)) (p : ProofValue) → IsWhole d ts → d.wanted ≡ n → whole_at n d ≡ Some p → IsSaid proof_grammar ts p
whole_said zero d ts p h none e =
    let same : record { claimed = d.claimed; lists = d.lists; nodes = d.nodes } ≡ p = cc in
    subst (IsSaid proof_grammar ts) same
    (record {
      words = h.read ∙ all_words d;
      allowed = record { few = h.proper.few; lists = h.proper.lists; one = fills_whole nodes_of d.nodes (fills_as nodes_of d.nodes d.wanted 0 none h.fills); weights = h.proper.nodes };
    })
whole_said (suc n) d ts p h some e = absurd cc

part_said : (p : PartValue) (d : DraftValue) (ts : List (Token Keyword)) (v : ProofValue) → Holds d p ts → ended_by d p ≡ Some v → IsSaid proof_grammar ts v
part_said (in_ranks w) d ts v h e = whole_said d.wanted (with_node d (OfLeaf (OfSum w))) ts v (leaf_whole d (OfSum w) ts h.fills h.weighed.0 h.proper h.read) refl e
part_said (in_prices p) d ts v h e = whole_said d.wanted (with_node d (OfLeaf (OfPack p))) ts v (leaf_whole d (OfPack p) ts h.fills h.weighed.0 h.proper h.read) refl e
part_said (in_lists leaf) d ts v h e = whole_said d.wanted (with_node d (OfLeaf leaf)) ts v (leaf_whole d leaf ts h.fills h.weighed h.proper h.read) refl e
part_said p d ts v h e = absurd cc

-- words that may end are those of their proof
pub proof_said : (ts : List (Token Keyword)) (s : State) (p : ProofValue) → IsRun proof_machine ts s → ended s ≡ Some p → IsSaid proof_grammar ts p
proof_said ts s p runs ends = part_said s.part s.draft ts p (read_holds ts s runs) ends
