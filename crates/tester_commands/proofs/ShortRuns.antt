-- A run that isn't too long has few cycles.
use Rattle.std.proofs.Common.{◌≡◌, ◌⊎◌, inl, inr, ◌*◌, ◌≤◌, true, false, None, max, arith, nat_lt}
use Rattle.std.proofs.Math.Nat.{mul-le-mul_left}
use Rattle.std.proofs.lemmas.Bool.{cases_Bool, ltb-false}
use Rattle.plan_model.specs.Plans.{PlanValue}
use Rattle.vector_lines.specs.Wires.{wires_of}
use Rattle.cycle_texts.specs.declared.forms.TheConstants.{CYCLE_MOST}
use Rattle.tester_vectors.specs.VectorText.{wire_cycles, more_than}
use Rattle.tester_commands.specs.declared.TheConstants.{LONG_RUN_MOST}

pub few_cycles : (plan : PlanValue) → more_than LONG_RUN_MOST plan ≡ None → plan.cycles ≤ CYCLE_MOST
few_cycles plan none = by (cases_Bool (nat_lt LONG_RUN_MOST (wire_cycles plan)))
  where
    by : (nat_lt LONG_RUN_MOST (wire_cycles plan) ≡ true) ⊎ (nat_lt LONG_RUN_MOST (wire_cycles plan) ≡ false) → plan.cycles ≤ CYCLE_MOST
    by (inl long) = absurd (let e = rw long at none in cc)
    by (inr short) =
        let cells : wire_cycles plan ≤ LONG_RUN_MOST = ltb-false LONG_RUN_MOST (wire_cycles plan) short in
        let more : plan.cycles * 1 ≤ plan.cycles * max 1 (wires_of plan) = mul-le-mul_left plan.cycles (omega arith) in
        omega (arith, cells, more)
