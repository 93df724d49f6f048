-- The lanes of a chip under test have the made contents of its seed.
use Rattle.std.proofs.Common.{◌≡◌, ℕ, ◌+◌, ◌*◌, ◌<◌, true, List, arith, inl, inr}
use Rattle.std.proofs.Math.Path.{fun_ext}
use Rattle.std.proofs.lemmas.Bool.{cases_Bool}
use Rattle.std.proofs.lemmas.Nat.{mod_below}
use Rattle.std.proofs.lemmas.Option.{slice_get_within}
use Rattle.soc_model.specs.Chips.{SocValue}
use Rattle.soc_model.specs.SoundChips.{IsSoundChip}
use Rattle.plan_model.specs.Plans.{PlanValue, PlannedTest}
use Rattle.vector_lines.specs.Made.{made_content, made_keys}
use Rattle.bit_machine.specs.Lanes.{IsLane, IsWired}
use Rattle.vector_lines.specs.Lanes.{AreLanes}
use Rattle.vector_lines.specs.Placed.{lengths_of, inputs_of, IsPlacedLane}
use Rattle.vector_lines.specs.declared.lane.Lane.{Lane}
use Rattle.bit_machine.proofs.LaneSteps.{sound_path}
use Rattle.vector_lines.proofs.PlacedLanes.{placed_id}
use Rattle.vector_lines.proofs.MadeStand.{made_stimulus_is, made_response_is}

module _ (seed : ℕ) {soc : SocValue} {plan : PlanValue} {t : PlannedTest} {l : Lane} (is : IsPlacedLane (made_keys seed) soc plan t l) where
  small_key : l.key < 997
  small_key = elim (cases_Bool t.tam) [
    | inl tam ↦ rw (is.key tam) (mod_below (seed + 31 * is.live.place + 17 * _) 997 (omega arith))
    | inr none ↦ rw (is.none none) (omega arith)
  ]

  -- the made contents of a lane
  made_lane : IsSoundChip soc → IsLane (made_content soc seed) t l
  made_lane sound = record {
    ready = record {
      base = small_key;
      phases = is.fitted.phases;
      paths = λ j p at. elim (cases_Bool t.tam) [
        | inl tam ↦ sound_path ((is.fitted.wired tam).path j p at)
        | inr none ↦ absurd (let within = slice_get_within l.paths.items j p at in let no' = (is.fitted.alone none).0 in omega arith)
      ];
    };
    tam = is.fitted.tam;
    start = is.fitted.start;
    ends = is.fitted.ends;
    wired = wired;
    alone = is.fitted.alone;
  }
    where
      wired : t.tam ≡ true → IsWired (made_content soc seed) t l
      wired tam =
          let w = is.fitted.wired tam in
          record {
            operations = w.operations;
            out_fits = w.out_fits;
            first_wire = w.first_wire;
            width = w.width;
            chains = w.chains;
            inputs = inputs_of is.live;
            lengths = lengths_of is.live;
            stimulus = rw (placed_id is, is.key tam) (fun_ext (λ k. fun_ext (λ x. made_stimulus_is sound seed is.place is.there k x)));
            response = rw (placed_id is, is.key tam) (fun_ext (λ k. fun_ext (λ x. made_response_is sound seed is.place is.there k x)));
            path = w.path;
          }

pub made_lanes : {soc : SocValue} → IsSoundChip soc → (seed : ℕ) {plan : PlanValue} {tests : List PlannedTest} {lanes : List Lane} →
    AreLanes (IsPlacedLane (made_keys seed) soc plan) tests lanes → AreLanes (IsLane (made_content soc seed)) tests lanes
made_lanes sound seed are = record { long = are.long; lane = λ i t l at there. made_lane seed (are.lane i t l at there) sound }
