-- The buses that a search begins with.
use Rattle.std.proofs.Common.{◌≡◌, ◌∙◌, ◌<◌, ◌≤◌, ℕ, List, length, replicate, arith, sym, ap, subst, All}
use Rattle.std.proofs.lemmas.List.{length-replicate}
use Rattle.std.proofs.lemmas.List.Elements.{All-replicate}
use Rattle.std.proofs.lemmas.List.Folds.{sum_by-replicate}
use Rattle.arch_schedule.specs.declared.buses.Buses.{Buses}
use Rattle.arch_schedule.specs.declared.problem.TimedTests.{TimedTests}
use Rattle.arch_search.specs.States.{AreFirstBuses}

pub first_are : (p : TimedTests) (b : Buses) (n : ℕ) → 1 ≤ p.wires → b.widths.items ≡ replicate p.wires 0 → b.slots.items ≡ replicate n 0 → b.loads.items ≡ replicate p.wires 0 → n ≡ length p.modules.items → AreFirstBuses p b p.wires
first_are p b n some widths slots loads modules =
    let long : length b.widths.items ≡ p.wires = ap length widths ∙ length-replicate p.wires 0 in
    record {
      within = subst (λ (l : List ℕ). All (λ k. k < length b.widths.items) l) (sym slots) (All-replicate (λ k. k < length b.widths.items) n 0 (omega (arith, long, some)));
      all_wires = rw widths (omega (arith, sum_by-replicate (λ (w : ℕ). w) p.wires 0, length-replicate {A = ℕ} p.wires 0));
      as_many_slots = long;
      as_many_modules = ap length slots ∙ length-replicate n 0 ∙ modules;
      as_many_loads = ap length loads ∙ length-replicate p.wires 0 ∙ sym long;
    }
