-- What was read so far is the words of the state: of the nodes that are whole, and of the part that comes next.
use Rattle.std.proofs.Common.{◌≡◌, ℕ, zero, suc, ◌+◌, List, [], ◌∷◌, ◌++◌, map, Bool, true, false, nat_eq, Option, Some, refl, sym, ◌∙◌, ap, subst, arith, append_assoc, append-nil}
use Rattle.std.proofs.lemmas.List.Concat.{flat_map-append}
use Rattle.std.proofs.lemmas.Bool.{eqb-true}
use Rattle.keyword_text.specs.declared.tokens.Token.{Token}
use Rattle.keyword_text.specs.declared.tokens.Token.TheVariants.{Key, Number}
use Rattle.keyword_text.specs.Machines.{IsRun, IsSaid, IsReadWhole, MayEnd, ReadsGrammar}
use Rattle.keyword_text.proofs.Kept.{kept_by_words, kept_holds, run_both}
use Rattle.keyword_text.proofs.Listed.{numbers_push, word_pushed}
use Rattle.keyword_text.proofs.Trees.{Fills, fills_none, fills_leaf, fills_split, fills_whole, fills_as}
use Rattle.width_tree.specs.declared.tokens.Keyword.{Keyword}
use Rattle.width_tree.specs.Trees.{OfTime, OfArea, OfBus, OfApart, NodeValue, OfSplit, OfLeaf, Leaf, Branches, nodes_of, TreeValue, LeafValue, WidthTree, IsOneTree}
use Rattle.width_tree.specs.TreeText.{node_tokens, head_tokens, nodes_tokens, tree_grammar, leaf_tokens, tree_tokens}
use Rattle.width_tree.specs.Steps.{DraftValue, PartValue, wants_tree, wants_form, wants_bound, wants_claim, between, wants_split_module, wants_split_width, wants_time_module, in_bus, wants_first, wants_second, State, at, with_node, next_if, step_number, begin_node, begin_wanted, begin_tree, begin_bound, step_key, whole_at, tree_at, ended, tree_machine, start, with_split, begin, step}
use Rattle.outside.specs.Runs.{run_by}
use Rattle.plan_model.specs.declared.TheConstants.{PLAN_NUMBER_MOST}
use Rattle.keyword_text.proofs.Endings.{ends_by_key, ends_by_number, ends_by_zero}
use Rattle.keyword_text.specs.Tokens.{token_of}
use Rattle.width_tree.specs.Tokens.{spelling, tree_lexicon}
use Rattle.keyword_text.proofs.Kept as kept
use Rattle.width_tree.specs.declared.tokens.Keyword.TheVariants as key

-- before the first node
abbrev in_head : PartValue → Bool
in_head wants_tree = true
in_head wants_form = true
in_head wants_bound = true
in_head wants_claim = true
in_head p = false

-- nodes that have begun and are not whole
abbrev begun : PartValue → ℕ
begun wants_tree = 0
begun wants_form = 0
begun wants_bound = 0
begun wants_claim = 0
begun between = 0
begun p = 1

-- the words of the head and of the whole nodes
abbrev body : ℕ → List NodeValue → List (Token Keyword)
body claimed nodes = head_tokens claimed ++ nodes_tokens nodes

abbrev front : Bool → DraftValue → List (Token Keyword)
front true d = []
front false d = body d.claimed d.nodes

-- the words of the part that comes next
abbrev part_tokens : PartValue → List (Token Keyword)
part_tokens wants_tree = []
part_tokens wants_form = Key key.Tree ∷ []
part_tokens wants_bound = Key key.Tree ∷ Number 1 ∷ []
part_tokens wants_claim = Key key.Tree ∷ Number 1 ∷ Key key.Bound ∷ []
part_tokens between = []
part_tokens wants_split_module = Key key.Split ∷ []
part_tokens (wants_split_width m) = Key key.Split ∷ Number m ∷ []
part_tokens wants_time_module = Key key.Time ∷ []
part_tokens (in_bus ms) = Key key.Bus ∷ map Number ms
part_tokens wants_first = Key key.Apart ∷ []
part_tokens (wants_second a) = Key key.Apart ∷ Number a ∷ []

abbrev NoNodes : Bool → DraftValue → Type 0
NoNodes true d = d.nodes ≡ []
NoNodes false d = Unit {0}

-- the words that were read are those of this draft and this part
record Holds (d : DraftValue) (p : PartValue) (ts : List (Token Keyword)) : Type 0 where
  fresh : NoNodes (in_head p) d
  read : ts ≡ front (in_head p) d ++ part_tokens p
  fills : Fills nodes_of d.nodes (begun p + d.wanted)

abbrev IsRead : List (Token Keyword) → State → Type 0
IsRead ts s = Holds s.draft s.part ts

abbrev HoldsNext : Option State → List (Token Keyword) → Type 0
HoldsNext o ts = kept.HoldsNext IsRead o ts

-- ---- one more word

-- one more node
node_pushed : (claimed : ℕ) (nodes : List NodeValue) (n : NodeValue) → body claimed nodes ++ node_tokens n ≡ body claimed (nodes ++ n ∷ [])
node_pushed claimed nodes n =
    append_assoc (head_tokens claimed) (nodes_tokens nodes) (node_tokens n)
    ∙ ap (λ l. head_tokens claimed ++ l) (ap (λ l. nodes_tokens nodes ++ l) (sym (append-nil (node_tokens n))) ∙ sym (flat_map-append node_tokens nodes (n ∷ [])))

-- the last word of a node
node_ended : (ts own : List (Token Keyword)) (claimed : ℕ) (nodes : List NodeValue) (n : NodeValue) (t : Token Keyword) →
    ts ≡ body claimed nodes ++ own → node_tokens n ≡ own ++ t ∷ [] → ts ++ t ∷ [] ≡ body claimed (nodes ++ n ∷ []) ++ []
node_ended ts own claimed nodes n t read is = word_pushed ts own (node_tokens n) (body claimed nodes) t read is ∙ node_pushed claimed nodes n ∙ sym (append-nil (body claimed (nodes ++ n ∷ [])))

-- a keyword where a node may begin
node_begins : (k : Keyword) (d : DraftValue) (ts : List (Token Keyword)) → ts ≡ body d.claimed d.nodes → Fills nodes_of d.nodes (1 + d.wanted) →
    HoldsNext (begin_node d k) (ts ++ Key k ∷ [])
node_begins key.Tree d ts read fills = tt
node_begins key.Bound d ts read fills = tt
node_begins key.Split d ts read fills = record { fresh = tt; read = ap (λ l. l ++ Key key.Split ∷ []) read; fills = fills }
node_begins key.Time d ts read fills = record { fresh = tt; read = ap (λ l. l ++ Key key.Time ∷ []) read; fills = fills }
node_begins key.Area d ts read fills = record {
  fresh = tt;
  read = node_ended ts [] d.claimed d.nodes (OfLeaf OfArea) (Key key.Area) (read ∙ sym (append-nil (body d.claimed d.nodes))) refl;
  fills = fills_leaf nodes_of (Leaf OfArea) d.nodes (OfLeaf OfArea) refl (1 + d.wanted) (0 + d.wanted) (omega arith) fills;
}
node_begins key.Bus d ts read fills = record { fresh = tt; read = ap (λ l. l ++ Key key.Bus ∷ []) read; fills = fills }
node_begins key.Apart d ts read fills = record { fresh = tt; read = ap (λ l. l ++ Key key.Apart ∷ []) read; fills = fills }

begins : (n : ℕ) (k : Keyword) (d : DraftValue) (ts : List (Token Keyword)) → ts ≡ body d.claimed d.nodes → Fills nodes_of d.nodes n →
    HoldsNext (begin_wanted n d k) (ts ++ Key k ∷ [])
begins zero k d ts read fills = tt
begins (suc n) k d ts read fills = node_begins k (record d { wanted = n }) ts read (fills_as nodes_of d.nodes (suc n) (1 + n) (omega arith) fills)

tree_begins : (k : Keyword) (d : DraftValue) (ts : List (Token Keyword)) → Holds d wants_tree ts → HoldsNext (begin_tree d k) (ts ++ Key k ∷ [])
tree_begins key.Tree d ts h = record { fresh = h.fresh; read = word_pushed ts _ _ [] (Key key.Tree) h.read refl; fills = h.fills }
tree_begins k d ts h = tt

bound_begins : (k : Keyword) (d : DraftValue) (ts : List (Token Keyword)) → Holds d wants_bound ts → HoldsNext (begin_bound d k) (ts ++ Key k ∷ [])
bound_begins key.Bound d ts h = record { fresh = h.fresh; read = word_pushed ts _ _ [] (Key key.Bound) h.read refl; fills = h.fills }
bound_begins k d ts h = tt

key_holds : (p : PartValue) (d : DraftValue) (k : Keyword) (ts : List (Token Keyword)) → Holds d p ts → HoldsNext (step_key d p k) (ts ++ Key k ∷ [])
key_holds wants_tree d k ts h = tree_begins k d ts h
key_holds wants_bound d k ts h = bound_begins k d ts h
key_holds between d k ts h = begins d.wanted k d ts (h.read ∙ append-nil (body d.claimed d.nodes)) (fills_as nodes_of d.nodes (0 + d.wanted) d.wanted (omega arith) h.fills)
key_holds (in_bus ms) d k ts h =
    begins d.wanted k (with_node d (OfLeaf (OfBus ms))) ts (h.read ∙ node_pushed d.claimed d.nodes (OfLeaf (OfBus ms))) (fills_leaf nodes_of (Leaf (OfBus ms)) d.nodes (OfLeaf (OfBus ms)) refl (1 + d.wanted) d.wanted (omega arith) h.fills)
key_holds p d k ts h = tt

number_holds : (p : PartValue) (d : DraftValue) (n : ℕ) (ts : List (Token Keyword)) → Holds d p ts → HoldsNext (step_number d p n) (ts ++ Number n ∷ [])
number_holds wants_form d n ts h = by_test (nat_eq n 1) refl
  where
    by_test : (b : Bool) → nat_eq n 1 ≡ b → HoldsNext (next_if b (at d wants_bound)) (ts ++ Number n ∷ [])
    by_test true e = record { fresh = h.fresh; read = word_pushed ts _ _ [] (Number n) h.read (ap (λ m. Key key.Tree ∷ Number m ∷ []) (sym (eqb-true n 1 e))); fills = h.fills }
    by_test false e = tt
number_holds wants_claim d n ts h = record {
  fresh = tt;
  read = ap (λ l. l ++ Number n ∷ []) h.read ∙ ap (λ ns. body n ns ++ []) (sym h.fresh);
  fills = h.fills;
}
number_holds wants_split_module d n ts h = record { fresh = tt; read = word_pushed ts _ _ (body d.claimed d.nodes) (Number n) h.read refl; fills = h.fills }
number_holds (wants_split_width m) d n ts h = record {
  fresh = tt;
  read = node_ended ts (Key key.Split ∷ Number m ∷ []) d.claimed d.nodes (OfSplit m n) (Number n) h.read refl;
  fills = fills_split nodes_of (Branches m n) d.nodes (OfSplit m n) (λ a b. refl) (1 + d.wanted) (0 + (d.wanted + 2)) (omega arith) (omega arith) h.fills;
}
number_holds wants_time_module d n ts h = record {
  fresh = tt;
  read = node_ended ts (Key key.Time ∷ []) d.claimed d.nodes (OfLeaf (OfTime n)) (Number n) h.read refl;
  fills = fills_leaf nodes_of (Leaf (OfTime n)) d.nodes (OfLeaf (OfTime n)) refl (1 + d.wanted) (0 + d.wanted) (omega arith) h.fills;
}
number_holds (in_bus ms) d n ts h = record { fresh = tt; read = word_pushed ts _ _ (body d.claimed d.nodes) (Number n) h.read (ap (λ l. Key key.Bus ∷ l) (numbers_push ms n)); fills = h.fills }
number_holds wants_first d n ts h = record { fresh = tt; read = word_pushed ts _ _ (body d.claimed d.nodes) (Number n) h.read refl; fills = h.fills }
number_holds (wants_second a) d n ts h = record {
  fresh = tt;
  read = node_ended ts (Key key.Apart ∷ Number a ∷ []) d.claimed d.nodes (OfLeaf (OfApart a n)) (Number n) h.read refl;
  fills = fills_leaf nodes_of (Leaf (OfApart a n)) d.nodes (OfLeaf (OfApart a n)) refl (1 + d.wanted) (0 + d.wanted) (omega arith) h.fills;
}
number_holds p d n ts h = tt

-- words that were read to a state are its words
read_holds : (ts : List (Token Keyword)) (s : State) → IsRun tree_machine ts s → Holds s.draft s.part ts
read_holds ts s runs = kept_holds tree_machine IsRead (record { fresh = refl; read = refl; fills = fills_none nodes_of })
    (kept_by_words tree_machine IsRead (λ ts s n h. number_holds s.part s.draft n ts h) (λ ts s k h. key_holds s.part s.draft k ts h)) ts s runs

-- ---- where the words end

whole_says : (n : ℕ) (d : DraftValue) (ts : List (Token Keyword)) (t : TreeValue) → ts ≡ body d.claimed d.nodes → Fills nodes_of d.nodes n →
    whole_at n d ≡ Some t → IsSaid tree_grammar ts t
whole_says zero d ts t read fills e =
    let same : record { claimed = d.claimed; nodes = d.nodes } ≡ t = cc in
    rw (← same) (record { words = read; allowed = fills_whole nodes_of d.nodes fills })
whole_says (suc n) d ts t read fills e = cc

part_says : (p : PartValue) (d : DraftValue) (ts : List (Token Keyword)) (t : TreeValue) → Holds d p ts → tree_at d p ≡ Some t → IsSaid tree_grammar ts t
part_says between d ts t h e = whole_says d.wanted d ts t (h.read ∙ append-nil (body d.claimed d.nodes)) (fills_as nodes_of d.nodes (0 + d.wanted) d.wanted (omega arith) h.fills) e
part_says (in_bus ms) d ts t h e =
    whole_says d.wanted (with_node d (OfLeaf (OfBus ms))) ts t (h.read ∙ node_pushed d.claimed d.nodes (OfLeaf (OfBus ms))) (fills_leaf nodes_of (Leaf (OfBus ms)) d.nodes (OfLeaf (OfBus ms)) refl (1 + d.wanted) d.wanted (omega arith) h.fills) e
part_says p d ts t h e = cc

-- words that end in a state that is whole are the words of its tree
pub tree_said : (ts : List (Token Keyword)) (s : State) (t : TreeValue) → IsRun tree_machine ts s → ended s ≡ Some t → IsSaid tree_grammar ts t
tree_said ts s t runs ends = part_says s.part s.draft ts t (read_holds ts s runs) ends

-- ---- the words of a tree are read whole

-- the state after these words
abbrev run : Option State → List (Token Keyword) → Option State
run s ts = run_by step s ts

-- in the state a node may begin after those of the draft, and the text may end where none is wanted
pub record MayGo (s : State) (d : DraftValue) : Type 0 where
  pub key : (k : Keyword) → step s (Key k) ≡ begin d k
  pub ends : tree_at s.draft s.part ≡ whole_at d.wanted d

pub between_goes : (d : DraftValue) → MayGo (at d between) d
between_goes d = record { key = λ k. refl; ends = refl }

pub bus_goes : (d : DraftValue) (ms : List ℕ) → MayGo (at d (in_bus ms)) (with_node d (OfLeaf (OfBus ms)))
bus_goes d ms = record { key = λ k. refl; ends = refl }

-- a node that is wanted begins
pub began : (s : State) (d : DraftValue) (n : ℕ) (k : Keyword) → MayGo s d → d.wanted ≡ suc n → step s (Key k) ≡ begin_node (record d { wanted = n }) k
began s d n k may some = may.key k ∙ ap (λ m. begin_wanted m d k) some

modules_read : (ns : List ℕ) (d : DraftValue) (ms : List ℕ) → run (Some (at d (in_bus ms))) (map Number ns) ≡ Some (at d (in_bus (ms ++ ns)))
modules_read [] d ms = ap (λ l. Some (at d (in_bus l))) (sym (append-nil ms))
modules_read (n ∷ ns) d ms = modules_read ns d (ms ++ n ∷ []) ∙ ap (λ l. Some (at d (in_bus l))) (append_assoc ms (n ∷ []) ns)

-- words that go on to a state where the draft is this one
pub record GoesTo (s : State) (ts : List (Token Keyword)) (d : DraftValue) : Type 0 where
  pub end : State
  pub read : run (Some s) ts ≡ Some end
  pub may : MayGo end d

leaf_read : (leaf : LeafValue) (s : State) (d : DraftValue) (n : ℕ) → MayGo s d → d.wanted ≡ suc n →
    GoesTo s (leaf_tokens leaf) (with_node (record d { wanted = n }) (OfLeaf leaf))
leaf_read (OfTime m) s d n may some = record {
  end = at (with_node (record d { wanted = n }) (OfLeaf (OfTime m))) between;
  read = ap (λ o. run o (Number m ∷ [])) (began s d n key.Time may some);
  may = between_goes (with_node (record d { wanted = n }) (OfLeaf (OfTime m)));
}
leaf_read OfArea s d n may some = record {
  end = at (with_node (record d { wanted = n }) (OfLeaf OfArea)) between;
  read = began s d n key.Area may some;
  may = between_goes (with_node (record d { wanted = n }) (OfLeaf OfArea));
}
leaf_read (OfBus ms) s d n may some = record {
  end = at (record d { wanted = n }) (in_bus ms);
  read = ap (λ o. run o (map Number ms)) (began s d n key.Bus may some) ∙ modules_read ms (record d { wanted = n }) [];
  may = bus_goes (record d { wanted = n }) ms;
}
leaf_read (OfApart a b) s d n may some = record {
  end = at (with_node (record d { wanted = n }) (OfLeaf (OfApart a b))) between;
  read = ap (λ o. run o (Number a ∷ Number b ∷ [])) (began s d n key.Apart may some);
  may = between_goes (with_node (record d { wanted = n }) (OfLeaf (OfApart a b)));
}

-- the draft with these nodes more, and `n` nodes still to come
abbrev with_nodes : DraftValue → List NodeValue → ℕ → DraftValue
with_nodes d nodes n = record d { nodes = d.nodes ++ nodes; wanted = n }

pub tree_goes : (t : WidthTree) (s : State) (d : DraftValue) (n : ℕ) → MayGo s d → d.wanted ≡ suc n → GoesTo s (nodes_tokens (nodes_of t)) (with_nodes d (nodes_of t) n)
tree_goes (Leaf leaf) s d n may some =
    let g = leaf_read leaf s d n may some in
    record { end = g.end; read = ap (run (Some s)) (append-nil (leaf_tokens leaf)) ∙ g.read; may = g.may }
tree_goes (Branches m width a b) s d n may some =
    let split = ap (λ o. run o (Number m ∷ Number width ∷ [])) (began s d n key.Split may some) in
    let first =
    tree_goes a (at (with_split (record d { wanted = n }) m width) between) (with_split (record d { wanted = n }) m width) (n + 1) (between_goes (with_split (record d { wanted = n }) m width)) (omega arith) in
    let second = tree_goes b first.end (with_nodes (with_split (record d { wanted = n }) m width) (nodes_of a) (n + 1)) n first.may (omega arith) in
    let both =
    ap (run (Some (at (with_split (record d { wanted = n }) m width) between))) (flat_map-append node_tokens (nodes_of a) (nodes_of b))
    ∙ run_both tree_machine (at (with_split (record d { wanted = n }) m width) between) first.end second.end (nodes_tokens (nodes_of a)) (nodes_tokens (nodes_of b)) first.read second.read in
    let joined =
    append_assoc (d.nodes ++ OfSplit m width ∷ []) (nodes_of a) (nodes_of b) ∙ append_assoc d.nodes (OfSplit m width ∷ []) (nodes_of a ++ nodes_of b) in
    record {
      end = second.end;
      read = run_both tree_machine s (at (with_split (record d { wanted = n }) m width) between) second.end (Key key.Split ∷ Number m ∷ Number width ∷ []) (nodes_tokens (nodes_of a ++ nodes_of b)) split both;
      may = rw (← joined) second.may;
    }

abbrev empty : ℕ → DraftValue
empty claimed = record { claimed = claimed; nodes = []; wanted = 1 }

pub tree_is_read : (t : TreeValue) → IsOneTree t.nodes → IsReadWhole tree_machine (tree_tokens t) t
tree_is_read t one =
    let g = tree_goes one.0 (at (empty t.claimed) between) (empty t.claimed) 0 (between_goes (empty t.claimed)) refl in
    let words = ap (λ ns. head_tokens t.claimed ++ nodes_tokens ns) (sym one.1) in
    record {
      end = g.end;
      runs = ap (run (Some start)) words ∙ run_both tree_machine start (at (empty t.claimed) between) g.end (head_tokens t.claimed) (nodes_tokens (nodes_of one.0)) refl g.read;
      ends = g.may.ends ∙ ap (λ ns. whole_at 0 (record { claimed = t.claimed; nodes = ns; wanted = 0 })) one.1;
    }

-- ---- each state that words come to may still be ended

-- words that make a state end in a whole tree
abbrev Ends : State → Type 0
Ends s = MayEnd tree_machine PLAN_NUMBER_MOST s

-- a leaf for each node that is wanted
finish_wanted : (n : ℕ) (s : State) (d : DraftValue) → MayGo s d → d.wanted ≡ n → Ends s
finish_wanted zero s d may none =
    record { more = []; small = tt; end = s; value = record { claimed = d.claimed; nodes = d.nodes }; runs = refl; ends = may.ends ∙ ap (λ m. whole_at m d) none }
finish_wanted (suc n) s d may some =
    ends_by_key s (at (with_node (record d { wanted = n }) (OfLeaf OfArea)) between) key.Area (began s d n key.Area may some)
    (finish_wanted n (at (with_node (record d { wanted = n }) (OfLeaf OfArea)) between) (with_node (record d { wanted = n }) (OfLeaf OfArea)) (between_goes (with_node (record d { wanted = n }) (OfLeaf OfArea))) refl)

finish_between : (d : DraftValue) → Ends (at d between)
finish_between d = finish_wanted d.wanted (at d between) d (between_goes d) refl

module _ (d : DraftValue) where
  finish_claim : Ends (at d wants_claim)
  finish_claim = ends_by_zero _ (at (record d { claimed = 0 }) between) refl (finish_between (record d { claimed = 0 }))

  finish_bound : Ends (at d wants_bound)
  finish_bound = ends_by_key _ (at d wants_claim) key.Bound refl finish_claim

  finish_form : Ends (at d wants_form)
  finish_form = ends_by_number _ (at d wants_bound) 1 (omega arith) refl finish_bound

  finish_width : (m : ℕ) → Ends (at d (wants_split_width m))
  finish_width m = ends_by_zero _ (at (with_split d m 0) between) refl (finish_between (with_split d m 0))

  finish_second : (a : ℕ) → Ends (at d (wants_second a))
  finish_second a = ends_by_zero _ (at (with_node d (OfLeaf (OfApart a 0))) between) refl (finish_between (with_node d (OfLeaf (OfApart a 0))))

pub finish : (p : PartValue) (d : DraftValue) → Ends (at d p)
finish wants_tree d = ends_by_key _ (at d wants_form) key.Tree refl (finish_form d)
finish wants_form d = finish_form d
finish wants_bound d = finish_bound d
finish wants_claim d = finish_claim d
finish between d = finish_between d
finish wants_split_module d = ends_by_zero _ (at d (wants_split_width 0)) refl (finish_width d 0)
finish (wants_split_width m) d = finish_width d m
finish wants_time_module d = ends_by_zero _ (at (with_node d (OfLeaf (OfTime 0))) between) refl (finish_between (with_node d (OfLeaf (OfTime 0))))
finish (in_bus ms) d = finish_wanted d.wanted (at d (in_bus ms)) (with_node d (OfLeaf (OfBus ms))) (bus_goes d ms) refl
finish wants_first d = ends_by_zero _ (at d (wants_second 0)) refl (finish_second d 0)
finish (wants_second a) d = finish_second d a

-- ---- what reads trees reads their grammar

key_back : (k : Keyword) → token_of tree_lexicon (spelling k) ≡ Some (Key k)
unfolding token_of
key_back key.Tree = refl
key_back key.Bound = refl
key_back key.Split = refl
key_back key.Time = refl
key_back key.Area = refl
key_back key.Bus = refl
key_back key.Apart = refl

pub reads_trees : ReadsGrammar tree_grammar tree_machine
reads_trees = record {
  sound = λ ts s t small runs ends. tree_said ts s t runs ends;
  complete = tree_is_read;
  endable = λ ts s runs. finish s.part s.draft;
  spelled = λ k. record { word = spelling k; is = key_back k };
  fits = omega arith;
}
