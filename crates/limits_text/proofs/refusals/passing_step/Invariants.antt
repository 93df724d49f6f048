use Rattle.std.proofs.Common.{◌≡◌, ℕ, map, drop, nat_lt, find}
use Rattle.limits_text.proofs.refusals.passing_step.Given as goal

abbrev pub invariant-loop-power : goal.invariant-loop-power
invariant-loop-power l = find (nat_lt l.most) (map {A = ℕ × ℕ} (λ s. s.1) l.steps) ≡ find (nat_lt l.most) (map {A = ℕ × ℕ} (λ s. s.1) (drop l.power-index l.steps))
