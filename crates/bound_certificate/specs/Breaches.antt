-- Where a list breaks the rule of its items.
use Rattle.std.specs.Prelude.{ℕ, Option, MatchOption, List}
use Rattle.plan_model.specs.Rules.{Each, IsFirstBreach}

-- no item breaks the rule, or the first that does stands at that place
abbrev pub IsBreachPlace : {X : Type 0} → (List X → X → Type 0) → List X → Option ℕ → Type 0
IsBreachPlace {X} P xs place = MatchOption place (Each P xs) (λ n. (x : X) × IsFirstBreach P xs n x)
