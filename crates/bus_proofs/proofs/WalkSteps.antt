-- How the splits that are under way change, node by node.
use Rattle.std.proofs.Common.{◌≡◌, ◌⊎◌, ℕ, zero, suc, ◌+◌, ◌<◌, Bool, true, false, Some, List, [], ◌∷◌, ◌++◌, length, map, drop, take, get_or, refl, sym, ap, ◌∙◌, subst, arith, inl, inr, append_assoc, append-nil, option_map, slice_get, slice_set, MatchBool, Ok, Err}
use Rattle.std.proofs.lemmas.Bool.{cases_lt}
use Rattle.std.proofs.lemmas.List.Sums.{sum_by_push}
use Rattle.std.proofs.lemmas.List.{get_or-set_same, get_or-set_other, length-map, map-append, take_more}
use Rattle.std.proofs.lemmas.Option.{slice_get-get_or, slice_get-map, slice_get_within, get_or_from_slice_get}
use Rattle.std.proofs.Math.Seq.{drop-cons}
use Rattle.soc_model.specs.Chips.{SocValue}
use Rattle.bus_proofs.specs.declared.ProofFault.{ProofFault}
use Rattle.bus_proofs.specs.declared.ProofFault.TheVariants.{BadList, BadNode, Less}
use Rattle.leaf_bounds.specs.declared.basis.Basis.{Basis}
use Rattle.leaf_bounds.specs.declared.case.CaseRoom.{CaseRoom}
use Rattle.leaf_bounds.specs.declared.case.Mark.{Mark}
use Rattle.bus_proofs.specs.declared.walk.OpenSplit.{OpenSplit}
use Rattle.plan_model.specs.Proofs.{LeafValue, SplitValue, OfWide, OfPlace, NodeValue, OfSplit, OfLeaf, CaseTree, Leaf, Branches, nodes_of}
use Rattle.leaf_bounds.specs.Cases.{Case, interval_of, known_ranks, narrow, placed_on, tightened, root_case}
use Rattle.bus_proofs.specs.Cases.{with_rank, case_by, first_case, second_case, NodeCase, in_case, cases_of, KeepsSplit}
use Rattle.bus_proofs.specs.Bounds.{HasFault, KeepsNode, NodeHolds, all_cases, work_of_all}
use Rattle.leaf_bounds.specs.CaseRooms.{HasCase, IsCaseOf, IsFurther, IsMark}
use Rattle.leaf_bounds.specs.Trails.{IsFew}
use Rattle.leaf_bounds.specs.Bases.{chip_of, limits_of, lists_of, claim_of, proof_of}
use Rattle.bus_proofs.specs.Walks.{no_split, split_at, split_case, branch_later, IsRoomFor, IsNodeAt, IsWideNow, IsPlaceAt, IsForked, IsOpenSplit, IsLaterThen, IsWithin, Awaits, Begins, GoesOn, IsHere, IsFork, Follows, IsAt, IsBegun, IsSecond, IsJudged, IsEnoughFor, node_work}
use Rattle.leaf_bounds.proofs.Trails.{few_at}
use Rattle.bus_proofs.proofs.RoomSteps.{further_none, further_then, room_next, with_rank_within}

-- ---- what awaits behind the splits that are under way

behind_same : (g : Basis) (opened : OpenSplit) (c : Case) (split : SplitValue) (P Q : List NodeCase → Type 0) → ((l : List NodeCase) → P l → Q l) → (left : List NodeCase) →
    MatchBool opened.second (P left) (IsLaterThen g c split P left) → MatchBool opened.second (Q left) (IsLaterThen g c split Q left)
behind_same g opened c split P Q goes left h = go opened.second h
  where
    go : (second : Bool) → MatchBool second (P left) (IsLaterThen g c split P left) → MatchBool second (Q left) (IsLaterThen g c split Q left)
    go true h = goes left h
    go false h = record { tree = h.tree; rest = h.rest; left_is = h.left_is; then = goes h.rest h.then }

turn_further : {g : Basis} {root a b : CaseRoom} {opened : OpenSplit} {before : CaseRoom} {c : Case} {split : SplitValue} → IsFurther a b →
    IsOpenSplit g root a opened before c split → IsOpenSplit g root b opened before c split
turn_further more t = record {
  mark = t.mark;
  room = t.room;
  case = t.case;
  forked = t.forked;
  node = t.node;
  behind_root = t.behind_root;
  further = further_then t.further more;
}

within_same : {g : Basis} {root : CaseRoom} {opened : OpenSplit} (P Q : CaseRoom → List NodeCase → Type 0) {a b : CaseRoom} {left : List NodeCase} → IsFurther a b →
    ((r : CaseRoom) (l : List NodeCase) → P r l → Q r l) → IsWithin g root opened P a left → IsWithin g root opened Q b left
within_same {g} {opened} P Q {left} more goes h = record {
  before = h.before;
  c = h.c;
  split = h.split;
  opened_is = turn_further more h.opened_is;
  behind = behind_same g opened h.c h.split (P h.before) (Q h.before) (goes h.before) left h.behind;
}

module _ (g : Basis) (root : CaseRoom) (stack : List OpenSplit) where
  pub awaits_further : (depth : ℕ) {a b : CaseRoom} (left : List NodeCase) → IsFurther a b → Awaits g root stack depth a left → Awaits g root stack depth b left
  unfolding Awaits
  awaits_further zero left more h = h
  awaits_further (suc d) left more h = within_same (Awaits g root stack d) (Awaits g root stack d) more (λ r l x. x) h

  -- the splits below the depth alone matter
  awaits_same : (stack' : List OpenSplit) (depth : ℕ) (room : CaseRoom) (left : List NodeCase) → ((k : ℕ) → k < depth → split_at stack' k ≡ split_at stack k) →
      Awaits g root stack depth room left → Awaits g root stack' depth room left
  unfolding Awaits
  awaits_same stack' zero room left same h = h
  awaits_same stack' (suc d) room left same h =
      subst (λ t. IsWithin g root t (Awaits g root stack' d) room left) (sym (same d (omega arith)))
      (within_same (Awaits g root stack d) (Awaits g root stack' d) (further_none room)
      (λ r l x. awaits_same stack' d r l (λ k less. same k (omega (arith, less))) x) h)

  pub awaits_none : (depth : ℕ) (room : CaseRoom) (left : List NodeCase) → depth ≡ 0 → Awaits g root stack depth room left → left ≡ []
  unfolding Awaits
  awaits_none depth room left none h = (rw none at h)

  pub awaits_start : (room : CaseRoom) → Awaits g root stack 0 room []
  unfolding Awaits
  awaits_start room = refl

  pub awaits_open : (depth last : ℕ) (room : CaseRoom) (left : List NodeCase) → depth ≡ suc last → Awaits g root stack depth room left →
      IsWithin g root (split_at stack last) (Awaits g root stack last) room left
  unfolding Awaits
  awaits_open depth last room left is h = (rw is at h)

  awaits_shut : (last : ℕ) {room : CaseRoom} {left : List NodeCase} → IsWithin g root (split_at stack last) (Awaits g root stack last) room left →
      Awaits g root stack (suc last) room left
  unfolding Awaits
  awaits_shut last h = h

  awaits_close : (depth last : ℕ) (room : CaseRoom) {opened : OpenSplit} (left : List NodeCase) → suc last ≡ depth → split_at stack last ≡ opened →
      IsWithin g root opened (Awaits g root stack last) room left → Awaits g root stack depth room left
  awaits_close depth last room left is same h =
      subst (λ n. Awaits g root stack n room left) is
      (awaits_shut last (subst (λ t. IsWithin g root t (Awaits g root stack last) room left) (sym same) h))

turn_same : (stack : List OpenSplit) (n : ℕ) (opened : OpenSplit) → n < length stack → split_at (slice_set stack n opened) n ≡ opened
turn_same stack n opened within = get_or-set_same stack n opened no_split within

turn_other : (stack : List OpenSplit) (n k : ℕ) (opened : OpenSplit) → k < n → split_at (slice_set stack n opened) k ≡ split_at stack k
turn_other stack n k opened less = get_or-set_other stack n k opened no_split (λ e. omega (arith, less, e))

-- ---- a first branch begins

second_is : (soc : SocValue) (w : ℕ) (c : Case) (split : SplitValue) → second_case soc w c split ≡ branch_later soc (split_case w c split) split
second_is soc w c (OfWide rank width) = refl
second_is soc w c (OfPlace m rank twins) = refl

-- the open split whose first branch begins
abbrev first_turn : Mark → (node : ℕ) → OpenSplit
first_turn mark node = record { mark = mark; node = node; second = false }

-- the room before the branches is `b`, and the one of the first branch `d`
first_awaits : {g : Basis} {root : CaseRoom} (stack : List OpenSplit) {stack' : List OpenSplit} (depth node : ℕ) {a b d : CaseRoom} (c : Case) (split : SplitValue) {mark : Mark} →
    IsFurther root a → depth < length stack → stack' ≡ slice_set stack depth (first_turn mark node) → IsMark mark b → IsRoomFor g b →
    IsCaseOf b (split_case (limits_of g).wires c split) → IsForked (chip_of g) (split_case (limits_of g).wires c split) split → IsNodeAt g node (OfSplit split) →
    IsFurther a b → IsFurther b d → (tree : CaseTree) (rest : List NodeCase) → Awaits g root stack depth a rest →
    Awaits g root stack' (depth + 1) d (cases_of (chip_of g) (limits_of g).wires (second_case (chip_of g) (limits_of g).wires c split) tree ++ rest)
first_awaits {g} {root} stack {stack'} depth node {b} {d} c split {mark} from room is marked for case forked at more next tree rest h =
    awaits_close g root stack' (depth + 1) depth d
    (cases_of (chip_of g) (limits_of g).wires (second_case (chip_of g) (limits_of g).wires c split) tree ++ rest) (omega arith)
    (ap (λ l. split_at l depth) is ∙ turn_same stack depth (first_turn mark node) room)
    (record {
      before = b;
      c = split_case (limits_of g).wires c split;
      split = split;
      opened_is = record {
        mark = marked;
        room = for;
        case = case;
        forked = forked;
        node = at;
        behind_root = further_then from more;
        further = next;
      };
      behind = record {
        tree = tree;
        rest = rest;
        left_is = ap (λ e. cases_of (chip_of g) (limits_of g).wires e tree ++ rest) (second_is (chip_of g) (limits_of g).wires c split);
        then = awaits_same g root stack stack' depth b rest
            (λ k less. ap (λ l. split_at l k) is ∙ turn_other stack depth k (first_turn mark node) less)
            (awaits_further g root stack depth rest more h);
      };
    })

wide_forked : {b : CaseRoom} {w : ℕ} {c : Case} {rank width : ℕ} → HasCase b → IsWideNow b w c rank width → (rank < known_ranks (with_rank w c rank)) × (width < 256)
wide_forked {b} {w} {c} {rank} has now =
    let few = few_at b.widths.intervals.items rank has.roomy.few now.within in
    let same = ap (λ l. interval_of l rank) now.case.intervals in
    (omega (arith, now.within, ap length now.case.intervals), omega (arith, now.rule.below, (subst IsFew same few).high))

module _ {g : Basis} {a b : CaseRoom} {c : Case} {rank width : ℕ} (for : IsRoomFor g a) where
  wide_now_for : IsWideNow b a.widths.wires c rank width → IsWideNow b (limits_of g).wires c rank width
  wide_now_for now = subst (λ w. IsWideNow b w c rank width) for.of.wires now

  pub wide_room : HasCase b → IsFurther a b → IsCaseOf a c → IsWideNow b a.widths.wires c rank width → IsRoomFor g b
  wide_room has more is now =
      room_next for has more is (wide_now_for now).case (with_rank_within (limits_of g).wires c rank)

module _ {g : Basis} {root : CaseRoom} (stack : List OpenSplit) {stack' : List OpenSplit} (depth node : ℕ) {a : CaseRoom} where
  pub wide_begun : {b d : CaseRoom} {c : Case} {rank width : ℕ} {mark : Mark} → IsFurther root a → IsCaseOf a c → IsRoomFor g a → depth < length stack →
      stack' ≡ slice_set stack depth (first_turn mark node) → IsMark mark b → HasCase b → IsFurther a b → IsWideNow b a.widths.wires c rank width →
      IsNodeAt g node (OfSplit (OfWide rank width)) → IsFurther b d → ((e : Case) → IsCaseOf b e → IsCaseOf d (narrow e rank width)) →
      IsBegun g root stack stack' depth a d c (OfWide rank width)
  wide_begun {b} {c} {rank} {width} from is for room turns_is marked has more now at next goes =
      let now' = wide_now_for for now in
      record {
        rule = now'.rule;
        first = goes (with_rank (limits_of g).wires c rank) now'.case;
        awaits = first_awaits stack depth node c (OfWide rank width) from room turns_is marked (wide_room for has more is now) now'.case
            (wide_forked has now') at more next;
      }

  pub place_begun : {d : CaseRoom} {c : Case} {m rank : ℕ} {twins : List ℕ} {place : ℕ} {mark : Mark} → IsFurther root a → IsCaseOf a c → IsRoomFor g a →
      depth < length stack → stack' ≡ slice_set stack depth (first_turn mark node) → IsMark mark a → IsPlaceAt (chip_of g) c m rank twins place →
      IsNodeAt g node (OfSplit (OfPlace m rank twins)) → IsFurther a d → ((e : Case) → IsCaseOf a e → IsCaseOf d (placed_on e rank place)) →
      IsBegun g root stack stack' depth a d c (OfPlace m rank twins)
  place_begun {d} {c} {m} {rank} {twins} from is for room turns_is marked placed at next goes = record {
    rule = placed.rule;
    first = subst (λ o. IsCaseOf d (case_by c (placed_on c rank) o)) (sym placed.wired.there) (goes c is);
    awaits = first_awaits stack depth node c (OfPlace m rank twins) from room turns_is marked for is (placed.rule.tam, placed.rule.known) at (further_none a) next;
  }

-- ---- a second branch begins

-- a node of the proof has one value
one_node : (g : Basis) (place : ℕ) (m n : NodeValue) → IsNodeAt g place m → IsNodeAt g place n → m ≡ n
one_node g place m n a b = cc

module _ (g : Basis) (opened : OpenSplit) (c : Case) (split : SplitValue) (P : List NodeCase → Type 0) (left : List NodeCase) where
  -- the second branch, and what comes behind it
  behind_first : opened.second ≡ false → MatchBool opened.second (P left) (IsLaterThen g c split P left) → IsLaterThen g c split P left
  behind_first first h = (rw first at h)

  behind_second : opened.second ≡ true → MatchBool opened.second (P left) (IsLaterThen g c split P left) → P left
  behind_second second h = (rw second at h)

module _ (g : Basis) (root : CaseRoom) (stack : List OpenSplit) where
  -- a split of which both branches are over is left
  pub awaits_second : (depth last : ℕ) (room : CaseRoom) (left : List NodeCase) → depth ≡ suc last → (split_at stack last).second ≡ true →
      Awaits g root stack depth room left → Awaits g root stack last room left
  awaits_second depth last room left is second h =
      let x = awaits_open g root stack depth last room left is h in
      awaits_further g root stack last left x.opened_is.further
      (behind_second g (split_at stack last) x.c x.split (Awaits g root stack last x.before) left second x.behind)

  -- the second branch of the last split
  pub second_goes : {stack' : List OpenSplit} (depth last : ℕ) (room new : CaseRoom) (left : List NodeCase) → depth ≡ suc last → last < length stack →
      (split_at stack last).second ≡ false → stack' ≡ slice_set stack last (record (split_at stack last) { second = true }) →
      ((before : CaseRoom) (c : Case) (split : SplitValue) → IsOpenSplit g root room (split_at stack last) before c split → IsSecond g before new c split) →
      Awaits g root stack depth room left → Begins g root stack' depth new left
  second_goes {stack'} depth last room new left is within first turns_is goes h =
      let x = awaits_open g root stack depth last room left is h in
      let s = goes x.before x.c x.split x.opened_is in
      let l = behind_first g (split_at stack last) x.c x.split (Awaits g root stack last x.before) left first x.behind in
      let t = x.opened_is in
      record {
        c = branch_later (chip_of g) x.c x.split;
        case = s.case;
        tree = l.tree;
        rest = l.rest;
        left_is = l.left_is;
        awaits = awaits_close g root stack' depth last new l.rest (sym is)
            (ap (λ k. split_at k last) turns_is ∙ turn_same stack last (record (split_at stack last) { second = true }) within)
            (record {
              before = x.before;
              c = x.c;
              split = x.split;
              opened_is = record {
                mark = t.mark;
                room = t.room;
                case = t.case;
                forked = t.forked;
                node = t.node;
                behind_root = t.behind_root;
                further = s.further;
              };
              behind = awaits_same g root stack stack' last x.before l.rest
                  (λ k less. ap (λ m. split_at m k) turns_is ∙ turn_other stack last k (record (split_at stack last) { second = true }) less) l.then;
            });
      }

  pub second_further : (depth last : ℕ) (room new : CaseRoom) (left : List NodeCase) → depth ≡ suc last →
      ((before : CaseRoom) (c : Case) (split : SplitValue) → IsOpenSplit g root room (split_at stack last) before c split → IsSecond g before new c split) →
      Awaits g root stack depth room left → IsFurther root new
  second_further depth last room new left is goes h =
      let x = awaits_open g root stack depth last room left is h in
      further_then x.opened_is.behind_root (goes x.before x.c x.split x.opened_is).further

  -- ---- the node that comes

  -- a node, and what follows it, where the nodes of a tree come
  record IsFront (depth : ℕ) (room : CaseRoom) (c : Case) (x : NodeCase) (left : List NodeCase) : Type 0 where
    within : x.within ≡ c
    follows : Follows g root stack depth room c x.node left

  front_from : (depth : ℕ) (room : CaseRoom) (c : Case) (x : NodeCase) (left rest : List NodeCase) (tree : CaseTree) →
      x ∷ left ≡ cases_of (chip_of g) (limits_of g).wires c tree ++ rest → Awaits g root stack depth room rest → IsFront depth room (tightened (limits_of g).wires c) x left
  unfolding cases_of
  front_from depth room c x left rest (Leaf leaf) e h =
      let same : x ≡ in_case (tightened (limits_of g).wires c) (OfLeaf leaf) = cc in
      let tails : left ≡ rest = cc in
      record {
        within = ap (λ (n : NodeCase). n.within) same;
        follows = subst (λ (n : NodeCase). Follows g root stack depth room (tightened (limits_of g).wires c) n.node left) (sym same)
            (subst (λ l. Awaits g root stack depth room l) (sym tails) h);
      }
  front_from depth room c x left rest (Branches split a b) e h =
      let same : x ≡ in_case (tightened (limits_of g).wires c) (OfSplit split) = cc in
      let tails : left ≡ (cases_of (chip_of g) (limits_of g).wires (first_case (chip_of g) (limits_of g).wires (tightened (limits_of g).wires c) split) a
      ++ cases_of (chip_of g) (limits_of g).wires (second_case (chip_of g) (limits_of g).wires (tightened (limits_of g).wires c) split) b) ++ rest = cc in
      let fork : IsFork g root stack depth room (tightened (limits_of g).wires c) split left = record {
        first = a;
        second = b;
        rest = rest;
        left_is = tails ∙ append_assoc (cases_of (chip_of g) (limits_of g).wires (first_case (chip_of g) (limits_of g).wires (tightened (limits_of g).wires c) split) a)
            (cases_of (chip_of g) (limits_of g).wires (second_case (chip_of g) (limits_of g).wires (tightened (limits_of g).wires c) split) b) rest;
        awaits = h;
      } in
      record {
        within = ap (λ (n : NodeCase). n.within) same;
        follows = subst (λ (n : NodeCase). Follows g root stack depth room (tightened (limits_of g).wires c) n.node left) (sym same) fork;
      }

module _ {g : Basis} {root : CaseRoom} {stack : List OpenSplit} where
  -- its case is tightened
  pub at_here : {depth : ℕ} {a b : CaseRoom} {place : ℕ} {x : NodeCase} {left : List NodeCase} → IsRoomFor g a → IsFurther a b →
      ((c : Case) → IsCaseOf a c → IsCaseOf b (tightened a.widths.wires c)) → IsHere g root stack depth a place x left → IsAt g root stack depth b place x left
  at_here {depth} {b} {x} {left} for more goes here =
      let begins = here.begins in
      let case = subst (λ w. IsCaseOf b (tightened w begins.c)) for.of.wires (goes begins.c begins.case) in
      let front =
      front_from g root stack depth b begins.c x left begins.rest begins.tree begins.left_is (awaits_further g root stack depth begins.rest more begins.awaits) in
      record {
        node = here.node;
        case = subst (IsCaseOf b) (sym front.within) case;
        further = further_then here.further more;
        follows = subst (λ c. Follows g root stack depth b c x.node left) (sym front.within) front.follows;
      }

  pub split_goes : {stack' : List OpenSplit} (depth next : ℕ) {a d : CaseRoom} {place : ℕ} {x : NodeCase} {left : List NodeCase} {split : SplitValue} →
      IsNodeAt g place (OfSplit split) → next ≡ depth + 1 → IsAt g root stack depth a place x left → IsBegun g root stack stack' depth a d x.within split →
      GoesOn g root stack' next d left
  split_goes {stack'} depth next {a} {d} {place} {x} {left} {split} node is at begun =
      let fork = subst (λ n. Follows g root stack depth a x.within n left) (one_node g place x.node (OfSplit split) at.node node) at.follows in
      inr (record {
        c = first_case (chip_of g) (limits_of g).wires x.within split;
        case = begun.first;
        tree = fork.first;
        rest = cases_of (chip_of g) (limits_of g).wires (second_case (chip_of g) (limits_of g).wires x.within split) fork.second ++ fork.rest;
        left_is = fork.left_is;
        awaits = subst (λ n. Awaits g root stack' n d (cases_of (chip_of g) (limits_of g).wires (second_case (chip_of g) (limits_of g).wires x.within split) fork.second ++ fork.rest))
            (sym is) (begun.awaits fork.second fork.rest fork.awaits);
      })

  pub leaf_awaits : {depth : ℕ} {a : CaseRoom} {place : ℕ} {x : NodeCase} {left : List NodeCase} (leaf : LeafValue) → IsNodeAt g place (OfLeaf leaf) →
      IsAt g root stack depth a place x left → Awaits g root stack depth a left
  leaf_awaits {depth} {a} {place} {x} {left} leaf node at =
      subst (λ n. Follows g root stack depth a x.within n left) (one_node g place x.node (OfLeaf leaf) at.node node) at.follows

-- ---- what is answered of it

node_is : (x : NodeCase) {n : NodeValue} → x.node ≡ n → in_case x.within n ≡ x
node_is x e = ap (in_case x.within) (sym e)

module _ {g : Basis} {root : CaseRoom} {stack : List OpenSplit} {depth : ℕ} where
  pub split_judged : (next done : ℕ) {a : CaseRoom} {place : ℕ} {x : NodeCase} {left : List NodeCase} (split : SplitValue) → IsNodeAt g place (OfSplit split) →
      IsAt g root stack depth a place x left → KeepsSplit (chip_of g) (limits_of g).wires x.within split → IsJudged {X = ℕ} g done place x (Ok next)
  split_judged next done {place} {x} split node at rule =
      let enough : IsEnoughFor g done (in_case x.within (OfSplit split)) = record { rule = rule; holds = tt } in
      subst (IsEnoughFor g done) (node_is x (one_node g place x.node (OfSplit split) at.node node)) enough

  -- a split has no work
  pub split_work : (done : ℕ) {a : CaseRoom} {place : ℕ} {x : NodeCase} {left : List NodeCase} (split : SplitValue) → IsNodeAt g place (OfSplit split) →
      IsAt g root stack depth a place x left → done ≡ done + node_work g x
  split_work done {place} {x} split node at =
      subst (λ n. done ≡ done + node_work g n) (node_is x (one_node g place x.node (OfSplit split) at.node node)) (omega arith)

  pub leaf_enough : (next done : ℕ) {a : CaseRoom} {place : ℕ} {x : NodeCase} {left : List NodeCase} (leaf : LeafValue) → IsNodeAt g place (OfLeaf leaf) →
      IsAt g root stack depth a place x left → IsJudged {X = Unit {0}} g done place (in_case x.within (OfLeaf leaf)) (Ok tt) → IsJudged {X = ℕ} g done place x (Ok next)
  leaf_enough next done {place} {x} leaf node at judged =
      subst (IsEnoughFor g done) (node_is x (one_node g place x.node (OfLeaf leaf) at.node node)) judged

  pub leaf_work : (done : ℕ) {next : ℕ} {a : CaseRoom} {place : ℕ} {x : NodeCase} {left : List NodeCase} (leaf : LeafValue) → IsNodeAt g place (OfLeaf leaf) →
      IsAt g root stack depth a place x left → next ≡ done + node_work g (in_case x.within (OfLeaf leaf)) → next ≡ done + node_work g x
  leaf_work done {next} {place} {x} leaf node at work =
      subst (λ n. next ≡ done + node_work g n) (node_is x (one_node g place x.node (OfLeaf leaf) at.node node)) work

-- ---- all nodes

cases_nodes : (soc : SocValue) (w : ℕ) (c : Case) (t : CaseTree) → map (λ (n : NodeCase). n.node) (cases_of soc w c t) ≡ nodes_of t
unfolding cases_of
cases_nodes soc w c (Leaf leaf) = refl
cases_nodes soc w c (Branches split a b) =
    ap (λ l. OfSplit split ∷ l)
    (map-append (λ (n : NodeCase). n.node) (cases_of soc w (first_case soc w (tightened w c) split) a) (cases_of soc w (second_case soc w (tightened w c) split) b)
    ∙ ap (λ l. l ++ map (λ (n : NodeCase). n.node) (cases_of soc w (second_case soc w (tightened w c) split) b)) (cases_nodes soc w (first_case soc w (tightened w c) split) a)
    ∙ ap (λ l. nodes_of a ++ l) (cases_nodes soc w (second_case soc w (tightened w c) split) b))

module _ (g : Basis) where
  pub cases_long : (t : CaseTree) → nodes_of t ≡ (proof_of g).nodes → length (all_cases (chip_of g) (limits_of g) t) ≡ length (proof_of g).nodes
  cases_long t same = sym (length-map (all_cases (chip_of g) (limits_of g) t) (λ (n : NodeCase). n.node)) ∙ ap length (cases_nodes (chip_of g) (limits_of g).wires root_case t ∙ same)

  pub starts : (stack : List OpenSplit) {room : CaseRoom} (t : CaseTree) → IsCaseOf room root_case → GoesOn g room stack 0 room (all_cases (chip_of g) (limits_of g) t)
  starts stack {room} t is = inr (record {
    c = root_case;
    case = is;
    tree = t;
    rest = [];
    left_is = sym (append-nil (all_cases (chip_of g) (limits_of g) t));
    awaits = awaits_start g room stack room;
  })

  -- the node at a place, where the nodes from it on are left
  pub record IsNext (root : CaseRoom) (stack : List OpenSplit) (depth : ℕ) (room : CaseRoom) (place : ℕ) (cases : List NodeCase) : Type 0 where
    pub x : NodeCase
    pub there : slice_get cases place ≡ Some x
    pub here : IsHere g root stack depth room place x (drop (suc place) cases)

  pub next_is : {root : CaseRoom} {stack : List OpenSplit} {depth : ℕ} {room : CaseRoom} (place : ℕ) (t : CaseTree) → nodes_of t ≡ (proof_of g).nodes →
      place < length (proof_of g).nodes → IsFurther root room → GoesOn g root stack depth room (drop place (all_cases (chip_of g) (limits_of g) t)) →
      IsNext root stack depth room place (all_cases (chip_of g) (limits_of g) t)
  next_is {root} {stack} {depth} {room} place t same within further goes =
      go (all_cases (chip_of g) (limits_of g) t) (cases_nodes (chip_of g) (limits_of g).wires root_case t ∙ same) (omega (arith, within, cases_long t same)) goes
    where
      by : (cases : List NodeCase) (x : NodeCase) → slice_get cases place ≡ Some x → IsNodeAt g place x.node → (x ∷ drop (suc place) cases ≡ []) ⊎ Begins g root stack depth room (x ∷ drop (suc place) cases) →
          IsNext root stack depth room place cases
      by cases x there node (inl none) = absurd cc
      by cases x there node (inr begins) = record { x = x; there = there; here = record { node = node; further = further; begins = begins } }

      go : (cases : List NodeCase) → map (λ (n : NodeCase). n.node) cases ≡ (proof_of g).nodes → place < length cases → GoesOn g root stack depth room (drop place cases) →
          IsNext root stack depth room place cases
      go cases nodes less at =
          let there = slice_get-get_or cases place (in_case root_case (OfSplit (OfWide 0 0))) less in
          let split = drop-cons cases place (in_case root_case (OfSplit (OfWide 0 0))) less in
          let node =
          ap (λ l. slice_get l place) (sym nodes) ∙ slice_get-map (λ (n : NodeCase). n.node) cases place ∙ ap (option_map (λ (n : NodeCase). n.node)) there in
          by cases (get_or cases place (in_case root_case (OfSplit (OfWide 0 0)))) there node (subst (GoesOn g root stack depth room) split at)

module _ (g : Basis) (cases : List NodeCase) where
  -- the work of the nodes before a place
  abbrev pub work_before : (place : ℕ) → ℕ
  work_before place = work_of_all (limits_of g).wires (claim_of g) (take place cases)

  pub work_more : (place : ℕ) {n : NodeCase} → slice_get cases place ≡ Some n → work_before (place + 1) ≡ work_before place + node_work g n
  work_more place {n} there =
      let within = slice_get_within cases place n there in
      let is = get_or_from_slice_get cases place n n there in
      ap (work_of_all (limits_of g).wires (claim_of g)) (take_more cases place n within ∙ ap (λ m. take place cases ++ m ∷ []) is)
      ∙ sum_by_push (λ (m : NodeCase). node_work g m) (take place cases) n

  -- the nodes before a place are as they should be
  abbrev pub AreEnoughBefore : (place : ℕ) → Type 0
  AreEnoughBefore place = (q : ℕ) (m : NodeCase) → q < place → slice_get cases q ≡ Some m → IsEnoughFor g (work_before q) m

  -- the fault of the first node that has one
  pub faulty : (place : ℕ) {n : NodeCase} (fault : ProofFault) → slice_get cases place ≡ Some n → AreEnoughBefore place →
      IsJudged {X = ℕ} g (work_before place) place n (Err fault) → HasFault (chip_of g) (limits_of g) (lists_of g) (claim_of g) cases fault
  faulty place (BadList p) there earlier h = h
  faulty place {n} (BadNode p) there earlier h =
      subst (λ k. HasFault (chip_of g) (limits_of g) (lists_of g) (claim_of g) cases (BadNode k)) (sym h.0)
      (record { n = n; first = record { there = there; breaks = λ e. h.1 e.rule; earlier = λ q m less at. earlier q m less at }; broken = h.1 })
  faulty place {n} (Less p c s) there earlier h =
      let short = h.2.2 in
      subst (λ k. HasFault (chip_of g) (limits_of g) (lists_of g) (claim_of g) cases (Less k c s)) (sym h.0)
      (record {
        n = n;
        first = record {
          there = there;
          breaks = λ e. short.less (subst (NodeHolds (chip_of g) (limits_of g) (lists_of g) (claim_of g) n.within) h.2.1 e.holds);
          earlier = λ q m less at. earlier q m less at;
        };
        rule = subst (KeepsNode (chip_of g) (limits_of g) (lists_of g) (claim_of g) (work_before place) n.within) (sym h.2.1) short.rule;
        leaf = h.2.0;
        leaf_is = h.2.1;
        claimed_is = h.1;
        shown_is = short.shown_is;
      })

  pub enough_more : (place : ℕ) {n : NodeCase} → slice_get cases place ≡ Some n → AreEnoughBefore place → IsEnoughFor g (work_before place) n → AreEnoughBefore (place + 1)
  enough_more place {n} there earlier here q m less at = elim (cases_lt q place) [
    | inl before ↦ earlier q m before at
    | inr last ↦ this (let same : place ≡ q = omega (arith, less, last) in same)
  ]
    where
      this : place ≡ q → IsEnoughFor g (work_before q) m
      this same =
          let at' : slice_get cases q ≡ Some n = rw same at there in
          let one : n ≡ m = cc in
          subst (λ k. IsEnoughFor g (work_before k) m) same (subst (IsEnoughFor g (work_before place)) one here)
