-- How the splits that are under way change, node by node.
use Rattle.std.proofs.Common.{◌≡◌, ℕ, zero, suc, ◌+◌, ◌≤◌, ◌<◌, Bool, true, false, Some, List, [], ◌∷◌, ◌++◌, length, map, drop, get_or, refl, sym, ap, ◌∙◌, subst, arith, inl, inr, append_assoc, append-nil, slice_get, slice_set, MatchBool, Err}
use Rattle.std.proofs.lemmas.Bool.{cases_lt}
use Rattle.std.proofs.lemmas.List.{length-set, set-set, set-get_or, get_or-set_same, get_or-set_other, get_or-map, length-map}
use Rattle.std.proofs.lemmas.Option.{slice_get-get_or}
use Rattle.std.proofs.Math.Seq.{drop-cons}
use Rattle.soc_model.specs.Chips.{SocValue}
use Rattle.soc_model.specs.Lookups.{module_place}
use Rattle.width_tree.specs.declared.Node.{Node}
use Rattle.width_tree.specs.declared.TreeFault.{TreeFault}
use Rattle.width_tree.specs.declared.TreeFault.TheVariants.{BadNode, Less}
use Rattle.width_tree.specs.declared.intervals.Interval.{Interval}
use Rattle.width_tree.specs.declared.walk.OpenSplit.{OpenSplit}
use Rattle.width_tree.specs.Trees.{LeafValue, OfTime, OfArea, OfBus, OfApart, NodeValue, OfSplit, OfLeaf, WidthTree, Leaf, Branches, nodes_of, node_value}
use Rattle.width_tree.specs.Cases.{Case, interval, interval_at, narrow_at, wide_at, case_at, narrow_case, wide_case, NodeCase, in_case, cases_of}
use Rattle.width_tree.specs.Bounds.{IsEnough, HasFault}
use Rattle.width_tree.specs.Findings.{area_by, IsInterval, AreIntervals}
use Rattle.width_tree.specs.declared.Node.TheVariants.{Split, Time, Area, Bus, Apart}
use Rattle.width_tree.specs.Walks.{no_split, split_at, case_before, case_later, IsOpenSplit, Behind, Awaits, Begins, GoesOn, IsJudged}
use Rattle.width_tree.proofs.CaseFacts.{cases_leaf}

-- ---- what is known of the last split

module _ (c : Case) (opened : OpenSplit) (x : Interval) where
  pub later_of_narrow : case_later (slice_set c opened.place x) opened ≡ slice_set c opened.place (interval (opened.at + 1) opened.old.high)
  later_of_narrow = set-set c opened.place x (interval (opened.at + 1) opened.old.high)

  pub before_of_set : case_before (slice_set c opened.place x) opened ≡ case_before c opened
  before_of_set = set-set c opened.place x opened.old

module _ (stack : List OpenSplit) (n : ℕ) where
  turn_same : (opened : OpenSplit) → n < length stack → split_at (slice_set stack n opened) n ≡ opened
  turn_same opened within = get_or-set_same stack n opened no_split within

  turn_other : (k : ℕ) (opened : OpenSplit) → k < n → split_at (slice_set stack n opened) k ≡ split_at stack k
  turn_other k opened less = get_or-set_other stack n k opened no_split (λ e. omega arith)

same_split : (a b x y : ℕ) → OfSplit a b ≡ OfSplit x y → (a ≡ x) × (b ≡ y)
same_split a b x y e = (cc, cc)

-- a node that is no split is a leaf
pub is_leaf : (n : Node) → ((m width : ℕ) → n ≡ Split m width → ⊥) → (leaf : LeafValue) × (node_value n ≡ OfLeaf leaf)
is_leaf (Split m width) no' = absurd (no' m width refl)
is_leaf (Time m) no' = (OfTime m, refl)
is_leaf Area no' = (OfArea, refl)
is_leaf (Bus ms) no' = (OfBus ms.items, refl)
is_leaf (Apart a b) no' = (OfApart a b, refl)

module _ (soc : SocValue) where
  behind_same : (c : Case) (opened : OpenSplit) (P Q : List NodeCase → Type 0) → ((l : List NodeCase) → P l → Q l) → (left : List NodeCase) →
      Behind soc c opened P left → Behind soc c opened Q left
  behind_same c opened P Q goes left h = go opened.second h
    where
      go : (second : Bool) → MatchBool second (P left) ((tree : WidthTree) × (rest : List NodeCase) × (left ≡ cases_of soc (case_later c opened) tree ++ rest) × P rest) → MatchBool second (Q left) ((tree : WidthTree) × (rest : List NodeCase) × (left ≡ cases_of soc (case_later c opened) tree ++ rest) × Q rest)
      go true h = goes left h
      go false h = (h.0, h.1, h.2, goes h.1 h.3)

  module _ (c : Case) (opened : OpenSplit) (P : List NodeCase → Type 0) (left : List NodeCase) where
    behind_second : opened.second ≡ true → Behind soc c opened P left → P left
    behind_second second h = (rw second at h)

    -- the second branch, and what comes behind it
    record Later : Type 0 where
      tree : WidthTree
      rest : List NodeCase
      left_is : left ≡ cases_of soc (case_later c opened) tree ++ rest
      then : P rest

    to_second : opened.second ≡ true → P left → Behind soc c opened P left
    to_second second h = rw second h

    module _ (first : opened.second ≡ false) where
      behind_first : Behind soc c opened P left → Later
      behind_first h = let h' = rw first at h in record { tree = h'.0; rest = h'.1; left_is = h'.2; then = h'.3 }

      to_first : Later → Behind soc c opened P left
      to_first h = rw first (h.tree, h.rest, h.left_is, h.then)

  -- a node begins the nodes of a tree
  head_is : (c : Case) (tree : WidthTree) → (n : NodeValue) × (more : List NodeCase) × (cases_of soc c tree ≡ in_case c n ∷ more)
  unfolding cases_of
  head_is c (Leaf leaf) = (OfLeaf leaf, [], refl)
  head_is c (Branches m width a b) = (OfSplit m width, cases_of soc (narrow_case soc c m width) a ++ cases_of soc (wide_case soc c m width) b, refl)

  module _ (w : ℕ) (times : List ℕ) where
    module _ (stack : List OpenSplit) where
      -- the splits below the depth alone matter
      awaits_same : (stack' : List OpenSplit) (depth : ℕ) (c : Case) (left : List NodeCase) →
          ((k : ℕ) → k < depth → split_at stack' k ≡ split_at stack k) → Awaits soc w times stack depth c left → Awaits soc w times stack' depth c left
      unfolding Awaits
      awaits_same stack' zero c left same h = h
      awaits_same stack' (suc d) c left same h =
          let P : OpenSplit → Type 0 = λ (t : OpenSplit). IsOpenSplit w times c t × Behind soc c t (Awaits soc w times stack' d (case_before c t)) left in
          let here = same d (omega arith) in
          let inner = behind_same c (split_at stack d) (Awaits soc w times stack d (case_before c (split_at stack d))) (Awaits soc w times stack' d (case_before c (split_at stack d)))
          (λ l a. awaits_same stack' d (case_before c (split_at stack d)) l (λ k less. same k (omega arith)) a) left h.1 in
          rw here (h.0, inner)

      pub awaits_none : (depth : ℕ) (c : Case) (left : List NodeCase) → depth ≡ 0 → Awaits soc w times stack depth c left → left ≡ []
      unfolding Awaits
      awaits_none depth c left none h = (rw none at h)

      pub awaits_start : (c : Case) → Awaits soc w times stack 0 c []
      unfolding Awaits
      awaits_start c = refl

      -- what comes behind a tree within a split, by whether its second branch is begun
      record Within (last : ℕ) (c : Case) (opened : OpenSplit) (left : List NodeCase) : Type 0 where
        opened_is : IsOpenSplit w times c opened
        behind : Behind soc c opened (Awaits soc w times stack last (case_before c opened)) left

      awaits_open : (depth last : ℕ) (c : Case) (left : List NodeCase) → depth ≡ suc last → Awaits soc w times stack depth c left →
          Within last c (split_at stack last) left
      unfolding Awaits
      awaits_open depth last c left is h =
          let h' = rw is at h in
          record { opened_is = h'.0; behind = h'.1 }

      awaits_shut : (last : ℕ) (c : Case) (left : List NodeCase) → Within last c (split_at stack last) left → Awaits soc w times stack (suc last) c left
      unfolding Awaits
      awaits_shut last c left h = (h.opened_is, h.behind)

      awaits_close : (depth last : ℕ) (c : Case) (opened : OpenSplit) (left : List NodeCase) → suc last ≡ depth → split_at stack last ≡ opened →
          Within last c opened left → Awaits soc w times stack depth c left
      awaits_close depth last c opened left is same h =
          rw (← is) (awaits_shut last c left (rw same h))

      pub awaits_turn : (depth last : ℕ) (c : Case) (left : List NodeCase) → depth ≡ suc last → Awaits soc w times stack depth c left →
          IsOpenSplit w times c (split_at stack last)
      awaits_turn depth last c left is h = (awaits_open depth last c left is h).opened_is

      pub awaits_second : (depth last : ℕ) (c : Case) (left : List NodeCase) → depth ≡ suc last → (split_at stack last).second ≡ true →
          Awaits soc w times stack depth c left → Awaits soc w times stack last (case_before c (split_at stack last)) left
      awaits_second depth last c left is second h =
          behind_second c (split_at stack last) (Awaits soc w times stack last (case_before c (split_at stack last))) left second (awaits_open depth last c left is h).behind

    -- ---- the same case by two ways

    -- ---- a split begins

    module _ (stack : List OpenSplit) where
      -- the first branch of a split that is put behind the others
      pub first_begins : (stack' : List OpenSplit) (depth : ℕ) (c c' : Case) (opened : OpenSplit) (x : Interval) (wide : WidthTree) (rest : List NodeCase) →
          stack' ≡ slice_set stack depth opened → depth < length stack → opened.second ≡ false → opened.old ≡ interval_at c opened.place →
          c' ≡ slice_set c opened.place x → IsOpenSplit w times c' opened →
          Awaits soc w times stack depth c rest → Awaits soc w times stack' (depth + 1) c' (cases_of soc (wide_at c opened.at opened.place) wide ++ rest)
      first_begins stack' depth c c' opened x wide rest turns_is room first old case_is is h =
          awaits_close stack' (depth + 1) depth c' opened (cases_of soc (wide_at c opened.at opened.place) wide ++ rest) (omega arith) here
          (record {
            opened_is = is;
            behind = to_first c' opened (Awaits soc w times stack' depth (case_before c' opened)) (cases_of soc (wide_at c opened.at opened.place) wide ++ rest) first
                (record { tree = wide; rest = rest; left_is = ap (λ d. cases_of soc d wide ++ rest) (sym later); then = inner });
          })
        where
          here : split_at stack' depth ≡ opened
          here = ap (λ l. split_at l depth) turns_is ∙ turn_same stack depth opened room

          back : case_before c' opened ≡ c
          back = ap (λ d. case_before d opened) case_is ∙ before_of_set c opened x ∙ ap (slice_set c opened.place) old ∙ set-get_or c opened.place (interval 0 0)

          later : case_later c' opened ≡ wide_at c opened.at opened.place
          later = ap (λ d. case_later d opened) case_is ∙ later_of_narrow c opened x ∙ ap (λ (i : Interval). slice_set c opened.place (interval (opened.at + 1) i.high)) old

          inner : Awaits soc w times stack' depth (case_before c' opened) rest
          inner = rw back (awaits_same stack stack' depth c rest (λ k less. ap (λ l. split_at l k) turns_is ∙ turn_other stack depth k opened less) h)

      -- the second branch of the last split
      pub second_begins : (stack' : List OpenSplit) (depth last : ℕ) (c c' : Case) (opened now : OpenSplit) (left : List NodeCase) →
          depth ≡ suc last → last < length stack → split_at stack last ≡ opened → opened.second ≡ false → now ≡ record opened { second = true } →
          stack' ≡ slice_set stack last now → c' ≡ case_later c opened →
          Awaits soc w times stack depth c left → Begins soc w times stack' depth c' left
      second_begins stack' depth last c c' opened now left is room at first now_is turns_is case_is h =
          record {
            tree = later.tree;
            rest = later.rest;
            left_is = later.left_is ∙ ap (λ d. cases_of soc d later.tree ++ later.rest) (sym case_is);
            awaits = awaits_close stack' depth last c' now later.rest (sym is) here
                (record {
                  opened_is = opened_is;
                  behind = to_second c' now (Awaits soc w times stack' last (case_before c' now)) later.rest (ap (λ (t : OpenSplit). t.second) now_is) inner;
                });
          }
        where
          open_at : Within stack last c opened left
          open_at = rw (← at) (awaits_open stack depth last c left is h)

          later : Later c opened (Awaits soc w times stack last (case_before c opened)) left
          later = behind_first c opened (Awaits soc w times stack last (case_before c opened)) left first open_at.behind

          here : split_at stack' last ≡ now
          here = ap (λ l. split_at l last) turns_is ∙ turn_same stack last now room

          opened_is : IsOpenSplit w times c' now
          opened_is =
              let i = open_at.opened_is in
              let long = ap length case_is ∙ length-set c opened.place (interval (opened.at + 1) opened.old.high) in
              let within = i.within in
              rw now_is (record { within = omega arith; old = i.old; some = i.some; below = i.below; area = i.area })

          back : case_before c' now ≡ case_before c opened
          back = ap (λ d. case_before d now) case_is ∙ ap (λ t. case_before (case_later c opened) t) now_is ∙ before_of_set c opened (interval (opened.at + 1) opened.old.high)

          inner : Awaits soc w times stack' last (case_before c' now) later.rest
          inner = rw back (awaits_same stack stack' last (case_before c opened) later.rest (λ k less. ap (λ l. split_at l k) turns_is ∙ turn_other stack last k now less) later.then)

      -- ---- the node that comes

      -- it stands in the case that the widths are in
      pub head_case : (depth : ℕ) (c : Case) (x : NodeCase) (left : List NodeCase) → Begins soc w times stack depth c (x ∷ left) → x.widths ≡ c
      head_case depth c x left b =
          let h = head_is c b.tree in
          let front = b.left_is ∙ ap (λ l. l ++ b.rest) h.2 in
          let same : x ≡ in_case c h.0 = cc in
          ap (λ (n : NodeCase). n.widths) same

      -- a split with its two branches
      pub record SplitBegins (depth : ℕ) (c : Case) (m width : ℕ) (left : List NodeCase) : Type 0 where
        pub narrow : WidthTree
        pub wide : WidthTree
        pub rest : List NodeCase
        pub left_is : left ≡ cases_of soc (narrow_case soc c m width) narrow ++ (cases_of soc (wide_case soc c m width) wide ++ rest)
        pub awaits : Awaits soc w times stack depth c rest

      split_from : (depth : ℕ) (c : Case) (m width : ℕ) (left rest : List NodeCase) (tree : WidthTree) →
          in_case c (OfSplit m width) ∷ left ≡ cases_of soc c tree ++ rest → Awaits soc w times stack depth c rest → SplitBegins depth c m width left
      unfolding cases_of
      split_from depth c m width left rest (Leaf leaf) e h =
          let same : in_case c (OfSplit m width) ≡ in_case c (OfLeaf leaf) = cc in
          let node = ap (λ (n : NodeCase). n.node) same in
          absurd cc
      split_from depth c m width left rest (Branches k v a b) e h =
          let same : in_case c (OfSplit m width) ≡ in_case c (OfSplit k v) = cc in
          let node = same_split m width k v (ap (λ (n : NodeCase). n.node) same) in
          let tails : left ≡ (cases_of soc (narrow_case soc c k v) a ++ cases_of soc (wide_case soc c k v) b) ++ rest = cc in
          let joined = tails ∙ append_assoc (cases_of soc (narrow_case soc c k v) a) (cases_of soc (wide_case soc c k v) b) rest in
          record {
            narrow = a;
            wide = b;
            rest = rest;
            left_is = joined ∙ ap (λ x. cases_of soc (narrow_case soc c x v) a ++ (cases_of soc (wide_case soc c x v) b ++ rest)) (sym node.0)
                ∙ ap (λ x. cases_of soc (narrow_case soc c m x) a ++ (cases_of soc (wide_case soc c m x) b ++ rest)) (sym node.1);
            awaits = h;
          }

      pub split_begins : (depth : ℕ) (c : Case) (m width : ℕ) (left : List NodeCase) →
          Begins soc w times stack depth c (in_case c (OfSplit m width) ∷ left) → SplitBegins depth c m width left
      split_begins depth c m width left b = split_from depth c m width left b.rest b.tree b.left_is b.awaits

      -- a leaf with what comes behind it
      leaf_from : (depth : ℕ) (c : Case) (leaf : LeafValue) (left rest : List NodeCase) (tree : WidthTree) →
          in_case c (OfLeaf leaf) ∷ left ≡ cases_of soc c tree ++ rest → Awaits soc w times stack depth c rest → Awaits soc w times stack depth c left
      unfolding cases_of
      leaf_from depth c leaf left rest (Leaf other) e h =
          let tails : left ≡ rest = cc in
          rw tails h
      leaf_from depth c leaf left rest (Branches k v a b) e h =
          let same : in_case c (OfLeaf leaf) ≡ in_case c (OfSplit k v) = cc in
          let node = ap (λ (n : NodeCase). n.node) same in
          absurd cc

      pub leaf_awaits : (depth : ℕ) (c : Case) (leaf : LeafValue) (left : List NodeCase) →
          Begins soc w times stack depth c (in_case c (OfLeaf leaf) ∷ left) → Awaits soc w times stack depth c left
      leaf_awaits depth c leaf left b = leaf_from depth c leaf left b.rest b.tree b.left_is b.awaits

  -- ---- what the check's steps make of it

  module _ (w : ℕ) where
    -- a split that begins
    pub split_begun : (n : ℕ) (times : List ℕ) (stack stack' : List OpenSplit) (depth : ℕ) (c c' : Case) (p width : ℕ) (old : Interval) (area : ℕ) (wide : WidthTree) (rest : List NodeCase) →
        AreIntervals w n c → p < n → old ≡ interval_at c p → area ≡ area_by times (interval_at c p) p → (interval_at c p).low ≤ width →
        width < (interval_at c p).high → depth < length stack →
        stack' ≡ slice_set stack depth (record { place = p; at = width; old = old; area = area; second = false }) → c' ≡ narrow_at c width p →
        Awaits soc w times stack depth c rest → Awaits soc w times stack' (depth + 1) c' (cases_of soc (wide_at c width p) wide ++ rest)
    split_begun n times stack stack' depth c c' p width old area wide rest are within old_is area_is some below room turns_is case_is h =
        first_begins w times stack stack' depth c c' (record { place = p; at = width; old = old; area = area; second = false }) (interval (interval_at c p).low width) wide rest turns_is room refl old_is case_is
        (record {
          within = omega (arith, ap length case_is, length-set c p (interval (interval_at c p).low width));
          old = rw old_is (are.each p within);
          some = rw old_is some;
          below = rw old_is below;
          area = area_is ∙ ap (λ i. area_by times i p) (sym old_is);
        })
        h

    module _ (times : List ℕ) (stack : List OpenSplit) where
      -- behind a split that began
      pub split_goes : (stack' : List OpenSplit) (depth next : ℕ) (c c' : Case) (m width p : ℕ) (n : NodeValue) (left : List NodeCase) →
          n ≡ OfSplit m width → module_place soc m ≡ Some p → c' ≡ narrow_at c width p → next ≡ depth + 1 →
          ((wide : WidthTree) (rest : List NodeCase) → Awaits soc w times stack depth c rest → Awaits soc w times stack' (depth + 1) c' (cases_of soc (wide_at c width p) wide ++ rest)) →
          Begins soc w times stack depth c (in_case c n ∷ left) → GoesOn soc w times stack' next c' left
      split_goes stack' depth next c c' m width p n left node here case_is next_is goes b =
          let b' : Begins soc w times stack depth c (in_case c (OfSplit m width) ∷ left) = rw (← node) b in
          let s = split_begins w times stack depth c m width left b' in
          let one = ap (case_at c (narrow_at c width)) here ∙ sym case_is in
          let two = ap (case_at c (wide_at c width)) here in
          inr (record {
            tree = s.narrow;
            rest = cases_of soc (wide_at c width p) s.wide ++ s.rest;
            left_is = s.left_is ∙ ap (λ d. cases_of soc d s.narrow ++ (cases_of soc (wide_case soc c m width) s.wide ++ s.rest)) one ∙ ap (λ d. cases_of soc c' s.narrow ++ (cases_of soc d s.wide ++ s.rest)) two;
            awaits = rw next_is (goes s.wide s.rest s.awaits);
          })

      pub awaits_behind : (depth : ℕ) (c : Case) (n : Node) (left : List NodeCase) → ((m width : ℕ) → n ≡ Split m width → ⊥) →
          Begins soc w times stack depth c (in_case c (node_value n) ∷ left) → Awaits soc w times stack depth c left
      awaits_behind depth c n left no' b =
          let l = is_leaf n no' in
          leaf_awaits w times stack depth c l.0 left (rw (← l.1) b)

-- ---- all nodes

module _ (soc : SocValue) (w : ℕ) (times : List ℕ) (stack : List OpenSplit) where
  pub starts : (c : Case) (t : WidthTree) → GoesOn soc w times stack 0 c (cases_of soc c t)
  starts c t = inr (record { tree = t; rest = []; left_is = sym (append-nil (cases_of soc c t)); awaits = awaits_start soc w times stack c })

  module _ (depth : ℕ) (c : Case) where
    -- the node at a place, where the nodes from it on are left
    pub record Comes (cases : List NodeCase) (place : ℕ) (node : NodeValue) : Type 0 where
      pub there : slice_get cases place ≡ Some (in_case c node)
      pub begins : Begins soc w times stack depth c (in_case c node ∷ drop (suc place) cases)

    pub comes : (r : Case) (t : WidthTree) (place : ℕ) (node : Node) (items : List Node) → nodes_of t ≡ map node_value items → place < length items →
        node ≡ get_or items place node →
        GoesOn soc w times stack depth c (drop place (cases_of soc r t)) → Comes (cases_of soc r t) place (node_value node)
    comes r t place node items nodes within is goes = go (cases_of soc r t) (cases_leaf soc r t ∙ nodes) goes
      where
        go : (cases : List NodeCase) → map (λ (n : NodeCase). n.node) cases ≡ map node_value items → GoesOn soc w times stack depth c (drop place cases) → Comes cases place (node_value node)
        go cases same at =
            let long = sym (length-map cases (λ (n : NodeCase). n.node)) ∙ ap length same ∙ length-map items node_value in
            let d = in_case c (node_value node) in
            let there = slice_get-get_or cases place (in_case c (node_value node)) (omega arith) in
            let split = drop-cons cases place (in_case c (node_value node)) (omega arith) in
            let node_is =
            sym (get_or-map (λ (n : NodeCase). n.node) cases place (in_case c (node_value node)) (node_value node) (omega arith)) ∙ ap (λ l. get_or l place (node_value node)) same ∙ get_or-map node_value items place node (node_value node) within ∙ ap node_value (sym is) in
            by (get_or cases place (in_case c (node_value node))) there node_is (rw (← split) at)
          where
            by : (x : NodeCase) → slice_get cases place ≡ Some x → x.node ≡ node_value node → GoesOn soc w times stack depth c (x ∷ drop (suc place) cases) → Comes cases place (node_value node)
            by x there node_is (inl none) = absurd cc
            by x there node_is (inr b) =
                let same = both x node_is (head_case soc w times stack depth c x (drop (suc place) cases) b) in
                record { there = there ∙ ap Some same; begins = rw (← same) b }
              where
                both : (x : NodeCase) → x.node ≡ node_value node → x.widths ≡ c → x ≡ in_case c (node_value node)
                both x a b = ap (λ m. in_case x.widths m) a ∙ ap (λ d. in_case d (node_value node)) b

module _ (X : Type 0) where
  pub judged_any : (Y : Type 0) (soc : SocValue) (w claim place : ℕ) (n : NodeCase) (fault : TreeFault) →
      IsJudged {X = X} soc w claim place n (Err fault) → IsJudged {X = Y} soc w claim place n (Err fault)
  judged_any Y soc w claim place n (BadNode p) h = h
  judged_any Y soc w claim place n (Less p c s) h = h

  -- the fault of the first node that has one
  pub faulty : (soc : SocValue) (w claim : ℕ) (cases : List NodeCase) (place : ℕ) (n : NodeCase) (fault : TreeFault) →
      slice_get cases place ≡ Some n → ((q : ℕ) (m : NodeCase) → q < place → slice_get cases q ≡ Some m → IsEnough soc w claim m) →
      IsJudged {X = X} soc w claim place n (Err fault) → HasFault soc w claim cases fault
  faulty soc w claim cases place n (BadNode p) there earlier h =
      rw h.0 (record { n = n; first = record { there = there; breaks = λ e. h.1 e.rule; earlier = λ q m less at. earlier q m less at }; broken = h.1 })
  faulty soc w claim cases place n (Less p c s) there earlier h =
      rw h.0
      (record { n = n; first = record { there = there; breaks = λ e. low (rw h.3 at e.shows) h.4; earlier = λ q m less at. earlier q m less at }; rule = h.2; shows = h.3; claimed_is = h.1; less = h.4 })
    where
      low : claim ≤ s → s < claim → ⊥
      low a b = omega arith

pub enough_more : (soc : SocValue) (w claim : ℕ) (cases : List NodeCase) (place : ℕ) (n : NodeCase) → slice_get cases place ≡ Some n →
    ((q : ℕ) (m : NodeCase) → q < place → slice_get cases q ≡ Some m → IsEnough soc w claim m) → IsEnough soc w claim n → (q : ℕ) (m : NodeCase) →
    q < place + 1 → slice_get cases q ≡ Some m → IsEnough soc w claim m
enough_more soc w claim cases place n there earlier here q m less at = elim (cases_lt q place) [
  | inl before ↦ earlier q m before at
  | inr last ↦ this (let same : place ≡ q = omega arith in same)
]
  where
    this : place ≡ q → IsEnough soc w claim m
    this same =
        let at' : slice_get cases q ≡ Some n = rw same at there in
        let one : n ≡ m = cc in
        rw (← one) here

pub cases_long : (soc : SocValue) (c : Case) (t : WidthTree) (items : List Node) → nodes_of t ≡ map node_value items → length (cases_of soc c t) ≡ length items
cases_long soc c t items same = sym (length-map (cases_of soc c t) (λ (n : NodeCase). n.node)) ∙ ap length (cases_leaf soc c t ∙ same) ∙ length-map items node_value
