-- Vectors that are made, and their lines.
use Rattle.std.proofs.Common.{◌≡◌, ℕ, ◌+◌, ◌<◌, Bool, List, length, get_or, map, ap, sym, subst, ◌∙◌}
use Rattle.std.proofs.lemmas.List.{length-map}
use Rattle.soc_model.specs.Chips.{SocValue}
use Rattle.plan_model.specs.Plans.{BusValue, PlanValue, PlannedTest, planned, widths}
use Rattle.plan_model.specs.Runs.{Content}
use Rattle.plan_model.specs.Rules.{IsGoodAlone, bare_limits}
use Rattle.plan_model.specs.Views.{bus_value}
use Rattle.plan_model.specs.declared.Bus.{Bus}
use Rattle.live_tests.specs.Wires.{AreFirstWires}
use Rattle.live_tests.proofs.FirstWires.{all_at}
use Rattle.vector_lines.specs.Made.{made_content}
use Rattle.vector_lines.specs.Wires.{wires_of, AreOnWires}
use Rattle.vector_lines.specs.Lanes.{IsFilled, AreLanes, AreSomeLanes}
use Rattle.vector_lines.specs.Marks.{Keys, Marks}
use Rattle.vector_lines.specs.Placed.{IsPlacedLane, StandFor}
use Rattle.vector_lines.specs.Vectors.{AreVectors, IsLineOf}
use Rattle.vector_lines.specs.declared.vectors.Vectors.{Vectors}
use Rattle.vector_lines.proofs.GoodWires.{good_wires}
use Rattle.vector_lines.proofs.PlacedLanes.{filled_lane, keyed_lane}

-- the entry behind the first wires of all buses
pub wires_are : (buses : List Bus) (plan : PlanValue) {firsts : List ℕ} (count : ℕ) {wires : ℕ} → plan.buses ≡ map bus_value buses →
    AreFirstWires (widths plan) firsts → count ≡ length buses → wires ≡ get_or firsts count wires → wires ≡ wires_of plan
wires_are buses plan {firsts} count {wires} is are all at =
    all_at (widths plan) firsts count wires are (all ∙ sym (length-map buses bus_value) ∙ ap length (sym is) ∙ sym (length-map plan.buses (λ (b : BusValue). b.width))) at

module _ {keys : Keys} {soc : SocValue} {plan : PlanValue} (v : Vectors) where
  -- what is kept of the vectors of a plan
  pub new_vectors : IsGoodAlone soc plan → v.wires ≡ wires_of plan → AreLanes (IsPlacedLane keys soc plan) (planned soc plan) v.lanes.items →
      AreVectors keys soc plan v
  new_vectors good wide are = record {
    are = are;
    on = subst (AreOnWires (planned soc plan)) (sym wide) (good_wires soc (bare_limits plan) plan good (made_content soc 0));
    all = wide;
  }

  pub vectors_some : AreVectors keys soc plan v → AreSomeLanes keys v.lanes.items v.wires
  vectors_some is = record {
    tests = planned soc plan;
    are = record { long = is.are.long; lane = λ i t l at there. keyed_lane (is.are.lane i t l at there) };
    on = is.on;
  }

  pub vectors_lines : {drive : ℕ → ℕ → ℕ → Bool} {mark : ℕ → ℕ → ℕ → ℕ} {content : Content} {marks : Marks} (from count : ℕ) (text : List ℕ) →
      AreVectors keys soc plan v → StandFor keys drive mark soc content marks →
      ((content : Content) (marks : Marks) (tests : List PlannedTest) → AreLanes (IsFilled drive mark content marks) tests v.lanes.items → AreOnWires tests v.wires → (r : ℕ) → r < count → IsLineOf content marks tests v.wires (from + r) r text) →
      (r : ℕ) → r < count → IsLineOf content marks (planned soc plan) (wires_of plan) (from + r) r text
  vectors_lines {content} {marks} from count text is stand lines r h =
      subst (λ n. IsLineOf content marks (planned soc plan) n (from + r) r text) is.all
      (lines content marks (planned soc plan) (record { long = is.are.long; lane = λ i t l at there. filled_lane (is.are.lane i t l at there) stand }) is.on r h)
