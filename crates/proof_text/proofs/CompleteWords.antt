-- The words of a proof are read whole.
use Rattle.std.proofs.Common.{◌≡◌, ◌<◌, ◌≤◌, ℕ, suc, ◌+◌, List, [], ◌∷◌, ◌++◌, length, map, Bool, false, nat_eq, Option, Some, refl, sym, ◌∙◌, ap, subst, arith, append_assoc, append-nil, nat_le, nat_lt, All, flat_map}
use Rattle.std.proofs.lemmas.List.{length-append}
use Rattle.std.proofs.lemmas.List.Elements.{All-nil, All-cons, All-head, All-tail}
use Rattle.std.proofs.lemmas.Bool.{le-leb, lt-ltb}
use Rattle.outside.specs.Runs.{run_by}
use Rattle.soc_model.specs.declared.TestId.{TestId}
use Rattle.keyword_text.specs.declared.tokens.Token.{Token}
use Rattle.keyword_text.specs.declared.tokens.Token.TheVariants.{Key, Number}
use Rattle.keyword_text.specs.Lines.{line_tokens, tokens_of}
use Rattle.keyword_text.specs.Machines.{IsReadWhole}
use Rattle.keyword_text.proofs.Kept.{run_both}
use Rattle.keyword_text.proofs.Listed.{tokens_append}
use Rattle.plan_model.specs.declared.proof.TheConstants.{LISTS_MOST, WEIGHT_MOST, PRICE_MOST}
use Rattle.proof_text.specs.declared.tokens.Keyword.{Keyword}
use Rattle.proof_text.specs.declared.parts.ListKind.{ListKind}
use Rattle.plan_model.specs.Proofs.{ListValue, OfTurns, OfTurnsOn, OfCrowd, OfPower, WeightsValue, PricingValue, LeafValue, OfSum, OfPack, SplitValue, OfWide, OfPlace, NodeValue, OfSplit, OfLeaf, CaseTree, Leaf, Branches, nodes_of, ProofValue}
use Rattle.proof_text.specs.ProofLines.{list_line, test_numbers, use_tokens, weight_tokens, price_numbers, price_tokens, node_line, proof_tokens}
use Rattle.plan_model.specs.Sayable.{NamesTests, IsWeight, IsUse, IsPrice, AreWeights, ArePrices, LeafHasWeights, HasWeights, MayBeSaid}
use Rattle.proof_text.specs.Words.{DraftValue, PartValue, between, wants_list_rank, wants_most, wants_near, in_tests, wants_wide_rank, wants_module, in_place, wants_wire, in_ranks, wants_grain, in_prices, in_lists, State, at, with_list, with_node, with_branches, with_rank, with_price, with_use, list_of, wire_of, grain_of, next_if, if_both, begin_list, begin_wanted, begin, step_leaf, is_use, step, whole_at, ended, proof_machine}
use Rattle.proof_text.specs.declared.tokens.Keyword.TheVariants as key
use Rattle.proof_text.specs.declared.parts.ListKind.TheVariants as kind

-- the state after these words
abbrev pub run : Option State → List (Token Keyword) → Option State
run s ts = run_by step s ts

-- what may begin in a state, after these whole parts
abbrev pub MayBegin : State → DraftValue → Type 0
MayBegin s d = (k : Keyword) → is_use k ≡ false → step s (Key k) ≡ begin d k

-- and the text may end where no node is wanted
pub record MayGo (s : State) (d : DraftValue) : Type 0 where
  pub begins : MayBegin s d
  pub ends : ended s ≡ whole_at d.wanted d

-- a list that may begin begins
list_begun : (s : State) (d : DraftValue) (k : Keyword) (p : PartValue) → MayBegin s d → is_use k ≡ false → begin d k ≡ begin_list d p → d.nodes ≡ [] → length d.lists < LISTS_MOST → step s (Key k) ≡ Some (at d p)
list_begun s d k p may other is none few =
    may k other ∙ is
    ∙ ap (λ (ns : List NodeValue). if_both (nat_eq (length ns) 0) (nat_lt (length d.lists) LISTS_MOST) (at d p)) none
    ∙ ap (λ (b : Bool). next_if b (at d p)) (lt-ltb (length d.lists) LISTS_MOST few)

-- a node that is wanted begins
pub node_begun : (s : State) (d : DraftValue) (n : ℕ) (k : Keyword) (p : PartValue) → MayBegin s d → is_use k ≡ false → begin d k ≡ begin_wanted d.wanted d p → d.wanted ≡ suc n → step s (Key k) ≡ Some (at (record d { wanted = n }) p)
node_begun s d n k p may other is some = may k other ∙ is ∙ ap (λ m. begin_wanted m d p) some

-- ---- lists

tests_read : (us : List TestId) (d : DraftValue) (which : ListKind) (tests : List TestId) → run (Some (at d (in_tests which tests))) (map Number (flat_map test_numbers us)) ≡ Some (at d (in_tests which (tests ++ us)))
tests_read [] d which tests = ap (λ l. Some (at d (in_tests which l))) (sym (append-nil tests))
tests_read (u ∷ us) d which tests = tests_read us d which (tests ++ u ∷ []) ∙ ap (λ l. Some (at d (in_tests which l))) (append_assoc tests (u ∷ []) us)

-- words that go on to a state where the draft is this one
record BeginsAt (s : State) (ts : List (Token Keyword)) (d : DraftValue) : Type 0 where
  end : State
  read : run (Some s) ts ≡ Some end
  may : MayBegin end d

-- a list of tests, from its first test on
listed_read : (which : ListKind) (tests : List TestId) (s : State) (d : DraftValue) (front : List (Token Keyword)) → 1 ≤ length tests → run (Some s) front ≡ Some (at d (in_tests which [])) → BeginsAt s (front ++ map Number (flat_map test_numbers tests)) (with_list d (list_of which tests))
listed_read which [] s d front some read = absurd (omega (arith, some))
listed_read which (test ∷ tests) s d front some read =
    record {
      end = at d (in_tests which (test ∷ tests));
      read = run_both proof_machine s (at d (in_tests which [])) (at d (in_tests which (test ∷ tests))) front (map Number (flat_map test_numbers (test ∷ tests))) read (tests_read (test ∷ tests) d which []);
      may = λ k other. refl;
    }

list_read : (l : ListValue) (s : State) (d : DraftValue) → MayBegin s d → d.nodes ≡ [] → length d.lists < LISTS_MOST → NamesTests l → BeginsAt s (line_tokens (list_line l)) (with_list d l)
list_read (OfTurns tests) s d may none few names =
    listed_read kind.Turns tests s d (Key key.Turns ∷ []) names (list_begun s d key.Turns (in_tests kind.Turns []) may refl refl none few)
list_read (OfTurnsOn rank tests) s d may none few names =
    listed_read (kind.TurnsOn rank) tests s d (Key key.TurnsOn ∷ Number rank ∷ []) names (ap (λ o. run o (Number rank ∷ [])) (list_begun s d key.TurnsOn wants_list_rank may refl refl none few))
list_read (OfCrowd most tests) s d may none few names =
    listed_read (kind.Crowd most) tests s d (Key key.Crowd ∷ Number most ∷ []) names (ap (λ o. run o (Number most ∷ [])) (list_begun s d key.Crowd wants_most may refl refl none few))
list_read (OfPower near) s d may none few names =
    record {
      end = at (with_list d (OfPower near)) between;
      read = ap (λ o. run o (Number near ∷ [])) (list_begun s d key.Power wants_near may refl refl none few);
      may = λ k other. refl;
    }

abbrev with_lists : DraftValue → List ListValue → DraftValue
with_lists d ls = record d { lists = d.lists ++ ls }

lists_read : (ls : List ListValue) (s : State) (d : DraftValue) → MayBegin s d → d.nodes ≡ [] → length d.lists + length ls ≤ LISTS_MOST → All NamesTests ls → BeginsAt s (tokens_of (map list_line ls)) (with_lists d ls)
lists_read [] s d may none few names = record { end = s; read = refl; may = subst (λ ls. MayBegin s (record d { lists = ls })) (sym (append-nil d.lists)) may }
lists_read (l ∷ ls) s d may none few names =
    let one : BeginsAt s (line_tokens (list_line l)) (with_list d l) = list_read l s d may none (omega (arith, few)) (All-head NamesTests l ls names) in
    let rest : BeginsAt one.end (tokens_of (map list_line ls)) (with_lists (with_list d l) ls) =
    lists_read ls one.end (with_list d l) one.may none (omega (arith, few, length-append d.lists (l ∷ []))) (All-tail NamesTests l ls names) in
    record {
      end = rest.end;
      read = run_both proof_machine s one.end rest.end (line_tokens (list_line l)) (tokens_of (map list_line ls)) one.read rest.read;
      may = subst (λ x. MayBegin rest.end (record d { lists = x })) (append_assoc d.lists (l ∷ []) ls) rest.may;
    }

-- ---- weights

small_if : (n most : ℕ) (s : State) → n ≤ most → next_if (nat_le n most) s ≡ Some s
small_if n most s is = ap (λ b. next_if b s) (le-leb n most is)

weight_if : (n : ℕ) (s : State) → IsWeight n → next_if (nat_le n WEIGHT_MOST) s ≡ Some s
weight_if n s is = small_if n WEIGHT_MOST s is

ranks_read : (ns : List ℕ) (d : DraftValue) (w : WeightsValue) → All IsWeight ns → run (Some (at d (in_ranks w))) (map Number ns) ≡ Some (at d (in_ranks (record w { ranks = w.ranks ++ ns })))
ranks_read [] d w are = ap (λ l. Some (at d (in_ranks (record w { ranks = l })))) (sym (append-nil w.ranks))
ranks_read (n ∷ ns) d w are =
    ap (λ o. run o (map Number ns)) (weight_if n (at d (in_ranks (with_rank w n))) (All-head IsWeight n ns are))
    ∙ ranks_read ns d (with_rank w n) (All-tail IsWeight n ns are)
    ∙ ap (λ l. Some (at d (in_ranks (record w { ranks = l })))) (append_assoc w.ranks (n ∷ []) ns)

prices_read : (ps : List (ℕ × ℕ)) (d : DraftValue) (p : PricingValue) → All IsPrice ps → run (Some (at d (in_prices p))) (map Number (flat_map price_numbers ps)) ≡ Some (at d (in_prices (record p { prices = p.prices ++ ps })))
prices_read [] d p are = ap (λ l. Some (at d (in_prices (record p { prices = l })))) (sym (append-nil p.prices))
prices_read (x ∷ xs) d p are =
    ap (λ o. run o (map Number (flat_map price_numbers xs))) (small_if x.1 PRICE_MOST (at d (in_prices (with_price p x.0 x.1))) (All-head IsPrice x xs are))
    ∙ prices_read xs d (with_price p x.0 x.1) (All-tail IsPrice x xs are)
    ∙ ap (λ l. Some (at d (in_prices (record p { prices = l })))) (append_assoc p.prices (x ∷ []) xs)

-- a leaf that may go on with the weights of lists, or end
record MayUse (s : State) (d : DraftValue) (leaf : LeafValue) : Type 0 where
  goes : (k : Keyword) → step s (Key k) ≡ step_leaf d leaf k (is_use k)
  ends : ended s ≡ whole_at d.wanted (with_node d (OfLeaf leaf))

-- the leaf with these lists more
abbrev with_uses : LeafValue → List (ℕ × ℕ) → LeafValue
with_uses (OfSum w) os = OfSum (record w { lists = w.lists ++ os })
with_uses (OfPack p) os = OfPack (record p { lists = p.lists ++ os })

no_uses : (leaf : LeafValue) → with_uses leaf [] ≡ leaf
no_uses (OfSum w) = ap (λ l. OfSum (record w { lists = l })) (append-nil w.lists)
no_uses (OfPack p) = ap (λ l. OfPack (record p { lists = l })) (append-nil p.lists)

more_uses : (leaf : LeafValue) (o : ℕ × ℕ) (os : List (ℕ × ℕ)) → with_uses (with_use leaf o.0 o.1) os ≡ with_uses leaf (o ∷ os)
more_uses (OfSum w) o os = ap (λ l. OfSum (record w { lists = l })) (append_assoc w.lists (o ∷ []) os)
more_uses (OfPack p) o os = ap (λ l. OfPack (record p { lists = l })) (append_assoc p.lists (o ∷ []) os)

abbrev UsesRead : State → DraftValue → LeafValue → List (ℕ × ℕ) → Type 0
UsesRead s d leaf os = (e : State) × (run (Some s) (flat_map use_tokens os) ≡ Some e) × MayUse e d (with_uses leaf os)

uses_read : (os : List (ℕ × ℕ)) (s : State) (d : DraftValue) (leaf : LeafValue) → MayUse s d leaf → All IsUse os → UsesRead s d leaf os
uses_read [] s d leaf may are = (s, refl, subst (MayUse s d) (sym (no_uses leaf)) may)
uses_read (o ∷ os) s d leaf may are =
    let m : State = at d (in_lists (with_use leaf o.0 o.1)) in
    let one : run (Some s) (use_tokens o) ≡ Some (at d (in_lists (with_use leaf o.0 o.1))) =
    ap (λ x. run x (Number o.0 ∷ Number o.1 ∷ [])) (may.goes key.Of) ∙ weight_if o.1 (at d (in_lists (with_use leaf o.0 o.1))) (All-head IsUse o os are) in
    let rest = uses_read os (at d (in_lists (with_use leaf o.0 o.1))) d (with_use leaf o.0 o.1) (record { goes = λ k. refl; ends = refl }) (All-tail IsUse o os are) in (
      rest.0,
      run_both proof_machine s (at d (in_lists (with_use leaf o.0 o.1))) rest.0 (use_tokens o) (flat_map use_tokens os) one rest.1,
      subst (MayUse rest.0 d) (more_uses leaf o os) rest.2,
    )

weights_read : (w : WeightsValue) (d : DraftValue) → AreWeights w → (e : State) × (run (Some (at d wants_wire)) (weight_tokens w) ≡ Some e) × MayUse e d (OfSum w)
weights_read w d are =
    let ranked : WeightsValue = record { wire = w.wire; ranks = w.ranks; lists = [] } in
    let m : State = at d (in_ranks ranked) in
    let uses = uses_read w.lists m d (OfSum ranked) (record { goes = λ k. refl; ends = refl }) are.lists in
    let ranks : run (Some (at d (in_ranks (wire_of w.wire)))) (map Number w.ranks) ≡ Some m = ranks_read w.ranks d (wire_of w.wire) are.ranks in (
      uses.0,
      ap (λ o. run o (map Number w.ranks ++ flat_map use_tokens w.lists)) (weight_if w.wire (at d (in_ranks (wire_of w.wire))) are.wire)
          ∙ run_both proof_machine (at d (in_ranks (wire_of w.wire))) m uses.0 (map Number w.ranks) (flat_map use_tokens w.lists) ranks uses.1,
      uses.2,
    )

pricing_read : (p : PricingValue) (d : DraftValue) → ArePrices p → (e : State) × (run (Some (at d wants_grain)) (price_tokens p) ≡ Some e) × MayUse e d (OfPack p)
pricing_read p d are =
    let priced : PricingValue = record { grain = p.grain; prices = p.prices; lists = [] } in
    let m : State = at d (in_prices priced) in
    let uses = uses_read p.lists m d (OfPack priced) (record { goes = λ k. refl; ends = refl }) are.lists in
    let numbers : List (Token Keyword) = map Number (flat_map price_numbers p.prices) in
    let prices : run (Some (at d (in_prices (grain_of p.grain)))) numbers ≡ Some m = prices_read p.prices d (grain_of p.grain) are.prices in (
      uses.0,
      ap (λ o. run o (numbers ++ flat_map use_tokens p.lists)) (small_if 1 p.grain (at d (in_prices (grain_of p.grain))) are.grain)
          ∙ run_both proof_machine (at d (in_prices (grain_of p.grain))) m uses.0 numbers (flat_map use_tokens p.lists) prices uses.1,
      uses.2,
    )

-- ---- nodes

-- words that go on to a state where the draft is this one, and the text may end
pub record GoesTo (s : State) (ts : List (Token Keyword)) (d : DraftValue) : Type 0 where
  pub end : State
  pub read : run (Some s) ts ≡ Some end
  pub may : MayGo end d

-- a leaf makes a state where more may begin
used_goes : (e : State) (d : DraftValue) (leaf : LeafValue) → MayUse e d leaf → MayGo e (with_node d (OfLeaf leaf))
used_goes e d leaf may = record { begins = λ k other. may.goes k ∙ ap (step_leaf d leaf k) other; ends = may.ends }

leaf_read : (leaf : LeafValue) (s : State) (d : DraftValue) (n : ℕ) → MayBegin s d → d.wanted ≡ suc n → LeafHasWeights leaf → GoesTo s (line_tokens (node_line (OfLeaf leaf))) (with_node (record d { wanted = n }) (OfLeaf leaf))
leaf_read (OfSum w) s d n may some are =
    let m : State = at (record d { wanted = n }) wants_wire in
    let begun : step s (Key key.Sum) ≡ Some m = node_begun s d n key.Sum wants_wire may refl refl some in
    let rest = weights_read w (record d { wanted = n }) are in
    record {
      end = rest.0;
      read = ap (λ l. run (Some s) (Key key.Sum ∷ l)) (append-nil (weight_tokens w)) ∙ run_both proof_machine s m rest.0 (Key key.Sum ∷ []) (weight_tokens w) begun rest.1;
      may = used_goes rest.0 (record d { wanted = n }) (OfSum w) rest.2;
    }
leaf_read (OfPack p) s d n may some are =
    let m : State = at (record d { wanted = n }) wants_grain in
    let begun : step s (Key key.Pack) ≡ Some m = node_begun s d n key.Pack wants_grain may refl refl some in
    let rest = pricing_read p (record d { wanted = n }) are in
    record {
      end = rest.0;
      read = ap (λ l. run (Some s) (Key key.Pack ∷ l)) (append-nil (price_tokens p)) ∙ run_both proof_machine s m rest.0 (Key key.Pack ∷ []) (price_tokens p) begun rest.1;
      may = used_goes rest.0 (record d { wanted = n }) (OfPack p) rest.2;
    }

twins_read : (ns : List ℕ) (d : DraftValue) (m rank : ℕ) (twins : List ℕ) → run (Some (at d (in_place m rank twins))) (map Number ns) ≡ Some (at d (in_place m rank (twins ++ ns)))
twins_read [] d m rank twins = ap (λ l. Some (at d (in_place m rank l))) (sym (append-nil twins))
twins_read (n ∷ ns) d m rank twins = twins_read ns d m rank (twins ++ n ∷ []) ∙ ap (λ l. Some (at d (in_place m rank l))) (append_assoc twins (n ∷ []) ns)

split_read : (x : SplitValue) (s : State) (d : DraftValue) (n : ℕ) → MayBegin s d → d.wanted ≡ suc n → BeginsAt s (line_tokens (node_line (OfSplit x))) (with_branches (record d { wanted = n }) (OfSplit x))
split_read (OfWide rank width) s d n may some =
    record {
      end = at (with_branches (record d { wanted = n }) (OfSplit (OfWide rank width))) between;
      read = ap (λ o. run o (Number rank ∷ Number width ∷ [])) (node_begun s d n key.Wide wants_wide_rank may refl refl some);
      may = λ k other. refl;
    }
split_read (OfPlace m rank twins) s d n may some =
    record {
      end = at (record d { wanted = n }) (in_place m rank twins);
      read = ap (λ o. run o (Number m ∷ Number rank ∷ map Number twins)) (node_begun s d n key.Place wants_module may refl refl some) ∙ twins_read twins (record d { wanted = n }) m rank [];
      may = λ k other. refl;
    }

-- the words of nodes
abbrev node_words : List NodeValue → List (Token Keyword)
node_words ns = tokens_of (map node_line ns)

node_words_append : (a b : List NodeValue) → node_words (a ++ b) ≡ node_words a ++ node_words b
node_words_append [] b = refl
node_words_append (n ∷ a) b =
    ap (λ l. line_tokens (node_line n) ++ l) (node_words_append a b) ∙ sym (append_assoc (line_tokens (node_line n)) (node_words a) (node_words b))

-- the draft with these nodes more, and `n` nodes still to begin
abbrev with_nodes : DraftValue → List NodeValue → ℕ → DraftValue
with_nodes d nodes n = record d { nodes = d.nodes ++ nodes; wanted = n }

front_all : {X : Type 0} (P : X → Type 0) (a b : List X) → All P (a ++ b) → All P a × All P b
front_all P [] b all = (All-nil P, all)
front_all P (x ∷ a) b all =
    let rest = front_all P a b (All-tail P x (a ++ b) all) in
    (All-cons P x a (All-head P x (a ++ b) all) rest.0, rest.1)

pub tree_goes : (t : CaseTree) (s : State) (d : DraftValue) (n : ℕ) → MayBegin s d → d.wanted ≡ suc n → All HasWeights (nodes_of t) → GoesTo s (node_words (nodes_of t)) (with_nodes d (nodes_of t) n)
tree_goes (Leaf leaf) s d n may some are =
    let g = leaf_read leaf s d n may some (All-head HasWeights (OfLeaf leaf) [] are) in
    record { end = g.end; read = ap (run (Some s)) (append-nil (line_tokens (node_line (OfLeaf leaf)))) ∙ g.read; may = g.may }
tree_goes (Branches x a b) s d n may some are =
    let d1 : DraftValue = with_branches (record d { wanted = n }) (OfSplit x) in
    let parts = front_all HasWeights (nodes_of a) (nodes_of b) (All-tail HasWeights (OfSplit x) (nodes_of a ++ nodes_of b) are) in
    let split = split_read x s d n may some in
    let first : GoesTo split.end (node_words (nodes_of a)) (with_nodes d1 (nodes_of a) (n + 1)) = tree_goes a split.end d1 (n + 1) split.may (omega arith) parts.0 in
    let second : GoesTo first.end (node_words (nodes_of b)) (with_nodes (with_nodes d1 (nodes_of a) (n + 1)) (nodes_of b) n) =
    tree_goes b first.end (with_nodes d1 (nodes_of a) (n + 1)) n first.may.begins (omega arith) parts.1 in
    let both : run (Some split.end) (node_words (nodes_of a ++ nodes_of b)) ≡ Some second.end =
    ap (run (Some split.end)) (node_words_append (nodes_of a) (nodes_of b))
    ∙ run_both proof_machine split.end first.end second.end (node_words (nodes_of a)) (node_words (nodes_of b)) first.read second.read in
    let joined : ((d.nodes ++ OfSplit x ∷ []) ++ nodes_of a) ++ nodes_of b ≡ d.nodes ++ (OfSplit x ∷ (nodes_of a ++ nodes_of b)) =
    append_assoc (d.nodes ++ OfSplit x ∷ []) (nodes_of a) (nodes_of b) ∙ append_assoc d.nodes (OfSplit x ∷ []) (nodes_of a ++ nodes_of b) in
    record {
      end = second.end;
      read = run_both proof_machine s split.end second.end (line_tokens (node_line (OfSplit x))) (node_words (nodes_of a ++ nodes_of b)) split.read both;
      may = subst (λ (l : List NodeValue). MayGo second.end (record d { nodes = l; wanted = n })) joined second.may;
    }

-- ---- the whole proof

abbrev empty_draft : ℕ → DraftValue
empty_draft claimed = record { claimed = claimed; lists = []; nodes = []; wanted = 1 }

abbrev first_state : ℕ → State
first_state claimed = at (empty_draft claimed) between

words_parted : (ls : List ListValue) (ns : List NodeValue) → tokens_of (map list_line ls ++ map node_line ns) ≡ tokens_of (map list_line ls) ++ node_words ns
words_parted ls ns = tokens_append (map list_line ls) (map node_line ns)

pub proof_read : (p : ProofValue) → MayBeSaid p → IsReadWhole proof_machine (proof_tokens p) p
unfolding proof_tokens
proof_read p may =
    let few : length p.lists ≤ LISTS_MOST = may.few in
    let lists = lists_read p.lists (first_state p.claimed) (empty_draft p.claimed) (λ k other. refl) refl (omega (arith, few)) may.lists in
    let listed : DraftValue = record { claimed = p.claimed; lists = p.lists; nodes = []; wanted = 1 } in
    let tree = may.one.0 in
    let are : All HasWeights (nodes_of tree) = subst (All HasWeights) (sym may.one.1) may.weights in
    let nodes = tree_goes tree lists.end listed 0 lists.may refl are in
    let read : run (Some lists.end) (node_words p.nodes) ≡ Some nodes.end = ap (λ ns. run (Some lists.end) (node_words ns)) (sym may.one.1) ∙ nodes.read in
    record {
      end = nodes.end;
      runs = ap (run (Some (first_state p.claimed))) (words_parted p.lists p.nodes)
          ∙ run_both proof_machine (first_state p.claimed) lists.end nodes.end (tokens_of (map list_line p.lists)) (node_words p.nodes) lists.read read;
      ends = nodes.may.ends ∙ ap (λ ns. whole_at 0 (record { claimed = p.claimed; lists = p.lists; nodes = ns; wanted = 0 })) may.one.1;
    }
