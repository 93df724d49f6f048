-- The proof that claims nothing is accepted for every chip under sound limits.
use Rattle.std.proofs.Common.{ℕ, zero, suc, ◌≤◌, [], inr, refl, subst, arith, MatchOption, slice_get}
use Rattle.std.proofs.lemmas.List.Elements.{All-nil}
use Rattle.soc_model.specs.Chips.{SocValue}
use Rattle.plan_model.specs.Plans.{LimitsValue}
use Rattle.plan_model.specs.SoundLimits.{IsSoundLimits}
use Rattle.plan_model.specs.Proofs.{WeightsValue, Leaf, OfSum, OfLeaf}
use Rattle.leaf_bounds.specs.Cases.{root_case, tightened}
use Rattle.leaf_bounds.specs.Leaves.{IsKnownList, worth_of_cycle, LeafHolds}
use Rattle.bus_proofs.specs.Cases.{NodeCase, in_case, cases_of}
use Rattle.bus_proofs.specs.Bounds.{IsEnough, AreEnough, IsAccepted, all_cases}
use Rattle.bound_prover.specs.Proved.{IsProved, no_claim}

-- the weights of its leaf
abbrev pub one_wire : WeightsValue
one_wire = record { wire = 1; ranks = []; lists = [] }

-- a cycle on some wires is worth something
worth_some : (w : ℕ) → 1 ≤ w → 1 ≤ worth_of_cycle w [] (tightened w root_case) one_wire
unfolding worth_of_cycle
worth_some w some = omega arith

-- so the leaf holds
holds : (soc : SocValue) (limits : LimitsValue) → 1 ≤ limits.wires → LeafHolds soc limits [] 0 (tightened limits.wires root_case) one_wire
holds soc limits some =
    let worth = worth_some limits.wires some in
    inr (inr (omega (arith, worth)))

-- and is as it should be
leaf_enough : (soc : SocValue) (limits : LimitsValue) → 1 ≤ limits.wires →
    IsEnough soc limits [] 0 0 (in_case (tightened limits.wires root_case) (OfLeaf (OfSum one_wire)))
leaf_enough soc limits some = record { rule = record { few = omega arith; named = All-nil (λ (o : ℕ × ℕ). MatchOption (slice_get [] o.0) ⊥ (IsKnownList 0)) }; holds = holds soc limits some }

-- it is the only node
enough : (soc : SocValue) (limits : LimitsValue) → 1 ≤ limits.wires → AreEnough soc limits [] 0 (all_cases soc limits (Leaf (OfSum one_wire)))
unfolding cases_of
enough soc limits some zero n is = subst (λ (m : NodeCase). IsEnough soc limits [] 0 0 m) (cc) (leaf_enough soc limits some)
enough soc limits some (suc place) n is = absurd cc

pub nothing_accepted : (soc : SocValue) (limits : LimitsValue) → IsSoundLimits soc limits → IsAccepted soc limits no_claim
nothing_accepted soc limits sound = record {
  lists = λ place list is. absurd cc;
  tree = Leaf (OfSum one_wire);
  nodes = refl;
  enough = enough soc limits sound.some_wire;
}

pub nothing_proved : (soc : SocValue) (limits : LimitsValue) (cycles nodes : ℕ) → IsSoundLimits soc limits → 1 ≤ nodes → IsProved soc limits cycles nodes no_claim
nothing_proved soc limits cycles nodes sound some = record {
  accepted = nothing_accepted soc limits sound;
  at_most = omega arith;
  few = some;
  nothing = λ none. refl;
}
