-- What is reported of a search.
use Rattle.std.proofs.Common.{◌≡◌, ℕ, ◌-◌, List, Option, length, min, sym, subst, arith}
use Rattle.std.proofs.Math.Seq.{take-length}
use Rattle.outside.specs.Held.{Appended, AppendedFront}
use Rattle.commands.specs.Progress.{ReportsDownTo}
use Rattle.commands.specs.Progress.ReportsDownTo.{begins, reports}

-- all of a text is a front of it
pub all_is_front : (old new : Option (List ℕ)) (text : List ℕ) → Appended old text new → AppendedFront old text new
all_is_front old new text all = (length text, omega arith, subst (λ (front : List ℕ). Appended old front new) (sym (take-length text)) all)

-- at first the whole is left
pub begun : (May : ℕ → (old new : Option (List ℕ)) → Type 0) (whole part : ℕ) (first : Option (List ℕ)) → ReportsDownTo May whole part first whole first
begun May whole part first = begins

-- a part more
pub reported_more : (May : ℕ → (old new : Option (List ℕ)) → Type 0) (whole part left now_left done : ℕ) (first before now : Option (List ℕ)) →
    ReportsDownTo May whole part first left before → now_left ≡ left - min part left → done ≡ whole - now_left → May done before now →
    ReportsDownTo May whole part first now_left now
reported_more May whole part left now_left done first before now so_far is done_is may =
    rw is (reports left before now so_far (subst (λ (n : ℕ). May (whole - n) before now) is (subst (λ (n : ℕ). May n before now) done_is may)))
