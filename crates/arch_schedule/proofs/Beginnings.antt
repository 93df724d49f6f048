-- What room begins with.
use Rattle.std.proofs.Common.{◌≡◌, ◌∙◌, ◌<◌, ◌≤◌, ℕ, Option, None, List, length, replicate, arith, sym, ap, subst, All}
use Rattle.std.proofs.lemmas.List.{length-replicate}
use Rattle.std.proofs.lemmas.List.Elements.{All-replicate}
use Rattle.plan_model.specs.declared.TheConstants.{START_MOST}
use Rattle.arch_schedule.specs.declared.room.ScheduleRoom.{ScheduleRoom}
use Rattle.arch_schedule.specs.Rooms.{IsSlot, HasRoom}

pub empty_room : (tests n m : ℕ) (r : ScheduleRoom) → r.slots.items ≡ replicate tests None → r.cycles.items ≡ replicate tests 0 → r.chains.items ≡ replicate tests 0 → r.starts.items ≡ replicate tests 0 →
    length r.keys.items ≡ n → length r.second.items ≡ m → All (λ test. test < m) r.second.items → n ≡ tests → m ≡ tests → HasRoom tests r
empty_room tests n m r slots cycles chains starts keys second in_second n_is m_is = record {
  slots = ap length slots ∙ length-replicate tests None;
  cycles = ap length cycles ∙ length-replicate tests 0;
  chains = ap length chains ∙ length-replicate tests 0;
  starts = ap length starts ∙ length-replicate tests 0;
  keys = keys ∙ n_is;
  second = second ∙ m_is;
  in_second = subst (λ (k : ℕ). All (λ test. test < k) r.second.items) m_is in_second;
  in_slots = subst (λ (l : List (Option ℕ)). All IsSlot l) (sym slots) (All-replicate IsSlot tests None tt);
  small_starts = subst (λ (l : List ℕ). All (λ s. s ≤ START_MOST) l) (sym starts) (All-replicate (λ s. s ≤ START_MOST) tests 0 (omega arith));
}

pub long_zeros : (n : ℕ) (now items : List ℕ) → items ≡ replicate n 0 → now ≡ items → length now ≡ n
long_zeros n now items are is = ap length (is ∙ are) ∙ length-replicate n 0
