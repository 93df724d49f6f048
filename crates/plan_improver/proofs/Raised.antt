-- A plan with the greater bound is an improved one.
use Rattle.std.proofs.Common.{◌≡◌, ℕ, ◌<◌, arith, sym, ap, subst}
use Rattle.soc_model.specs.Chips.{SocValue}
use Rattle.plan_model.specs.Plans.{LimitsValue, BoundValue, PlanValue}
use Rattle.plan_model.specs.Faults.{IsFaultless}
use Rattle.plan_text.specs.Grammar.{AreSmallStarts, IsInRange}
use Rattle.plan_improver.specs.Improved.{IsGreaterBound, IsRaised, IsImproved}

-- plans without a fault are in range where their starts are
abbrev pub AreInRange : SocValue → LimitsValue → Type 0
AreInRange soc limits = (plan : PlanValue) → IsFaultless soc limits plan → AreSmallStarts plan.starts → IsInRange plan

pub better : (soc : SocValue) (limits : LimitsValue) → AreInRange soc limits → (tries : ℕ) (given plan new : PlanValue) → IsRaised soc limits plan given.bound new → plan.cycles < given.cycles → AreSmallStarts plan.starts → (tries ≡ 0 → ⊥) → IsImproved soc limits tries given new
better soc limits ranges tries given plan new raised fewer small tried =
    let cycles : new.cycles ≡ plan.cycles = ap (λ (p : PlanValue). p.cycles) raised.plan_is in
    let starts : new.starts ≡ plan.starts = ap (λ (p : PlanValue). p.starts) raised.plan_is in
    record {
      good = raised.good;
      accepted = raised.accepted;
      bound = subst (λ (n : ℕ). IsGreaterBound soc limits n given.bound new.bound) (sym cycles) raised.greater;
      at_least = raised.at_least;
      at_most = omega (arith, cycles, fewer);
      same = λ equal. absurd (omega (arith, cycles, fewer, equal));
      untried = λ none. absurd (tried none);
      in_range = λ given_small. ranges new (raised.good, raised.accepted) (subst AreSmallStarts (sym starts) small);
    }

-- the given plan itself, whatever its bound was replaced by before
pub kept : (soc : SocValue) (limits : LimitsValue) → AreInRange soc limits → (tries : ℕ) (given new : PlanValue) (bound : BoundValue) → IsRaised soc limits (record given { bound = bound }) given.bound new → IsImproved soc limits tries given new
kept soc limits ranges tries given new bound raised =
    let cycles : new.cycles ≡ given.cycles = ap (λ (p : PlanValue). p.cycles) raised.plan_is in
    let starts : new.starts ≡ given.starts = ap (λ (p : PlanValue). p.starts) raised.plan_is in
    record {
      good = raised.good;
      accepted = raised.accepted;
      bound = subst (λ (n : ℕ). IsGreaterBound soc limits n given.bound new.bound) (sym cycles) raised.greater;
      at_least = raised.at_least;
      at_most = omega (arith, cycles);
      same = λ equal. raised.plan_is;
      untried = λ none. raised.plan_is;
      in_range = λ small. ranges new (raised.good, raised.accepted) (subst AreSmallStarts (sym starts) small);
    }
