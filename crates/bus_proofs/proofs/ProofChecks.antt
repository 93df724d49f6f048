-- What a whole check tells, and that its room serves again.
use Rattle.std.proofs.Common.{◌≡◌, ℕ, ◌+◌, ◌^◌, ◌≤◌, ◌<◌, Some, List, length, map, get_or, refl, sym, ap, ◌∙◌, subst, arith, inl, inr, option_map, slice_get, Result, Ok, Err, IfErr, OnOk}
use Rattle.std.proofs.lemmas.Bool.{cases_lt}
use Rattle.std.proofs.lemmas.Option.{slice_get-map, slice_get_read, slice_get_within}
use Rattle.soc_model.specs.Chips.{SocValue}
use Rattle.plan_model.specs.Plans.{LimitsValue}
use Rattle.plan_model.specs.Rules.{IsBound}
use Rattle.plan_model.specs.declared.proof.Node.{Node}
use Rattle.bus_proofs.specs.declared.ProofFault.{ProofFault}
use Rattle.bus_proofs.specs.declared.ProofFault.TheVariants.{BadList, BadNode, Less}
use Rattle.leaf_bounds.specs.declared.basis.Basis.{Basis}
use Rattle.leaf_bounds.specs.declared.case.CaseRoom.{CaseRoom}
use Rattle.leaf_bounds.specs.declared.leaf.LeafRoom.{LeafRoom}
use Rattle.bus_proofs.specs.declared.walk.OpenSplit.{OpenSplit}
use Rattle.plan_model.specs.Proofs.{ListValue, LeafValue, OfLeaf, CaseTree, nodes_of, node_value, ProofValue}
use Rattle.leaf_bounds.specs.Cases.{root_case}
use Rattle.plan_model.specs.Sayable.{MayBeSaid}
use Rattle.leaf_bounds.specs.Lists.{AreKept}
use Rattle.bus_proofs.specs.Bounds.{IsAccepted, IsProofFault, all_cases}
use Rattle.leaf_bounds.specs.ListTables.{KeepFirst}
use Rattle.leaf_bounds.specs.CaseRooms.{HasCase, IsCaseOf, IsSame}
use Rattle.leaf_bounds.specs.Bases.{IsBasis, chip_of, limits_of, lists_of, proof_of}
use Rattle.leaf_bounds.specs.LeafAnswers.{HasLeafSpace}
use Rattle.bus_proofs.specs.Walks.{FitsLeaves, IsChecked, named_in}
use Rattle.bus_proofs.specs.ProofRooms.{IsProofRoom, RoomValue}
use Rattle.bus_proofs.specs.Laws.{AcceptedProofsAreBounds}
use Rattle.bus_proofs.proofs.RoomSteps.{AreWithin, same_case, same_room}

-- ---- the lists

module _ (soc : SocValue) (limits : LimitsValue) where
  pub bad_list : (p : ProofValue) (kept : ℕ) → KeepFirst soc limits p.lists kept → kept < length p.lists → IsProofFault soc limits p (BadList kept)
  bad_list p kept (inl all) less = absurd (omega (arith, all.0, less))
  bad_list p kept (inr bad) less = bad

  pub all_kept : (lists : List ListValue) (kept : ℕ) → KeepFirst soc limits lists kept → length lists ≤ kept → (kept ≡ length lists) × AreKept soc limits lists
  all_kept lists kept (inl all) most = all
  all_kept lists kept (inr bad) most = absurd (omega (arith, slice_get_within lists kept bad.0 bad.1.there, most))

-- ---- the nodes

module _ (g : Basis) where
  pub checked_accepted : (r : Result (Unit {0}) ProofFault) → AreKept (chip_of g) (limits_of g) (lists_of g) → MayBeSaid (proof_of g) →
      ((t : CaseTree) → nodes_of t ≡ (proof_of g).nodes → IsChecked g (all_cases (chip_of g) (limits_of g) t) r) →
      OnOk r (IsAccepted (chip_of g) (limits_of g) (proof_of g))
  checked_accepted (Ok u) kept said h = record { lists = kept; tree = said.one.0; nodes = said.one.1; enough = h said.one.0 said.one.1 }
  checked_accepted (Err f) kept said h = tt

  pub checked_faulty : (r : Result (Unit {0}) ProofFault) → AreKept (chip_of g) (limits_of g) (lists_of g) → MayBeSaid (proof_of g) →
      ((t : CaseTree) → nodes_of t ≡ (proof_of g).nodes → IsChecked g (all_cases (chip_of g) (limits_of g) t) r) →
      IfErr r (IsProofFault (chip_of g) (limits_of g) (proof_of g))
  checked_faulty (Ok u) kept said h = tt
  checked_faulty (Err (BadList p)) kept said h = absurd (h said.one.0 said.one.1)
  checked_faulty (Err (BadNode p)) kept said h = record { lists = kept; tree = said.one.0; nodes = said.one.1; has = h said.one.0 said.one.1 }
  checked_faulty (Err (Less p c s)) kept said h = record { lists = kept; tree = said.one.0; nodes = said.one.1; has = h said.one.0 said.one.1 }

  -- ---- the room

  -- in the case of the root again
  pub room_back : {a b : CaseRoom} {leaf : LeafRoom} (leaf' : LeafRoom) {stack : List OpenSplit} (stack' : List OpenSplit) → IsProofRoom g a leaf stack → IsSame a b →
      FitsLeaves g leaf' → length stack' ≡ length stack → IsProofRoom g b leaf' stack'
  room_back leaf' stack' room same fits long = record {
    basis_is = room.basis_is;
    said = room.said;
    room = same_room same room.room;
    root = same_case same room.root;
    leaves = fits;
    stack_fits = omega (arith, long, room.stack_fits);
  }

-- ---- the room of leaves

-- a room after a leaf, where it has as many places
pub fits_after : {g : Basis} (old : LeafRoom) {new : LeafRoom} → FitsLeaves g old → HasLeafSpace g new →
    length new.pack.bus.places.items ≡ length old.pack.bus.places.items → FitsLeaves g new
fits_after old fits space long place leaf at = record {
  few = (fits place leaf at).few;
  places = (let p = (fits place leaf at).places in omega (arith, p, long));
  space = space;
}

-- a room where no work is noted
pub fits_begun : (g : Basis) (room : LeafRoom) → FitsLeaves g room → FitsLeaves g (record room { pack = record room.pack { work = 0 } })
fits_begun g room fits place leaf at =
    let f = fits place leaf at in
    let s = f.space in
    let p = s.pack in
    record {
      few = f.few;
      places = f.places;
      space = record { weighed = s.weighed; nothing = s.nothing; pack = record { cells = p.cells; wires = p.wires; worth = p.worth; kept = p.kept; little = omega arith } };
    }

-- ---- how many lists or modules a leaf names

pub uses_more : (nodes : List Node) (place most next : ℕ) {node : Node} →
    ((q : ℕ) (w : LeafValue) → q < place → slice_get (map node_value nodes) q ≡ Some (OfLeaf w) → named_in w ≤ most) → place < length nodes →
    node ≡ get_or nodes place node → ((w : LeafValue) → node_value node ≡ OfLeaf w → named_in w ≤ next) → most ≤ next → (q : ℕ) (w : LeafValue) → q < place + 1 →
    slice_get (map node_value nodes) q ≡ Some (OfLeaf w) → named_in w ≤ next
uses_more nodes place most next {node} before within is here less q w q_less at = elim (cases_lt q place) [
  | inl earlier ↦ (omega (arith, before q w earlier at, less))
  | inr last ↦ this (let same : q ≡ place = omega (arith, q_less, last) in same)
]
  where
    value : Some (node_value node) ≡ Some (OfLeaf w) → node_value node ≡ OfLeaf w
    value e = cc

    this : q ≡ place → named_in w ≤ next
    this same =
        let there : slice_get (map node_value nodes) place ≡ Some (node_value node) = slice_get-map node_value nodes place ∙ ap (option_map node_value) (slice_get_read nodes (length nodes) place node refl within is) in
        here w (value (sym there ∙ ap (slice_get (map node_value nodes)) (sym same) ∙ at))

-- ---- a room is made

pub new_room : (g : Basis) (soc : SocValue) (limits : LimitsValue) (p : ProofValue) (room : CaseRoom) (leaf : LeafRoom) (stack : List OpenSplit) (uses : ℕ) → IsBasis g →
    chip_of g ≡ soc → limits_of g ≡ limits → proof_of g ≡ p → MayBeSaid p → HasCase room → IsCaseOf room root_case → room.modules ≡ length soc.modules → room.widths.wires ≡ limits.wires →
    room.widths.most ≡ 256 → HasLeafSpace g leaf → length leaf.pack.bus.places.items ≡ uses → uses ≤ 2 ^ 24 →
    ((place : ℕ) (w : LeafValue) → slice_get p.nodes place ≡ Some (OfLeaf w) → named_in w ≤ uses) → length p.nodes ≤ length stack → IsProofRoom g room leaf stack
new_room g soc limits p room leaf stack uses basis chip_is limits_is proof_is said has root modules wires most space places few each fit = record {
  basis_is = basis;
  said = subst MayBeSaid (sym proof_is) said;
  room = record {
    has = has;
    of = record {
      modules = modules ∙ ap (λ (s : SocValue). length s.modules) (sym chip_is);
      wires = wires ∙ ap (λ (l : LimitsValue). l.wires) (sym limits_is);
      within = subst (AreWithin (limits_of g).wires) (sym root.intervals) (λ k d less. absurd (omega (arith, less)));
    };
    most = most;
  };
  root = root;
  leaves = λ place w at.
      let lists = each place w (ap (λ (q : ProofValue). slice_get q.nodes place) (sym proof_is) ∙ at) in
      record { few = omega (arith, lists, few); places = omega (arith, lists, places); space = space };
  stack_fits = omega (arith, fit, ap (λ (q : ProofValue). length q.nodes) proof_is);
}

-- ---- the bound

-- what a room is for
abbrev pub room_value : Basis → RoomValue
room_value g = record { chip = chip_of g; limits = limits_of g; proof = proof_of g }

pub room_bound : {g : Basis} {room : RoomValue} (r : Result (Unit {0}) ProofFault) → room_value g ≡ room → AcceptedProofsAreBounds → IsBasis g →
    OnOk r (IsAccepted (chip_of g) (limits_of g) (proof_of g)) → OnOk r (IsBound room.chip room.limits room.proof.claimed)
room_bound {g} r view law basis accepted = subst (λ (v : RoomValue). OnOk r (IsBound v.chip v.limits v.proof.claimed)) view (go r accepted)
  where
    go : (r : Result (Unit {0}) ProofFault) → OnOk r (IsAccepted (chip_of g) (limits_of g) (proof_of g)) → OnOk r (IsBound (chip_of g) (limits_of g) (proof_of g).claimed)
    go (Ok u) a = law (chip_of g) (limits_of g) (proof_of g) basis.sound basis.limits a
    go (Err f) a = tt
