-- A state may be ended where one that a word leads to may.
use Rattle.std.proofs.Common.{◌≡◌, ◌≤◌, ℕ, ◌∷◌, Option, Some, ◌∙◌, ap, arith}
use Rattle.outside.specs.Runs.{run_by}
use Rattle.keyword_text.specs.declared.tokens.Token.{Token}
use Rattle.keyword_text.specs.declared.tokens.Token.TheVariants.{Key, Number}
use Rattle.keyword_text.specs.Texts.{IsSmall}
use Rattle.keyword_text.specs.Machines.{Machine, MayEnd}

ends_by : {K S V : Type 0} {m : Machine K S V} {most : ℕ} (s next : S) (t : Token K) → IsSmall most t → m.step s t ≡ Some next → MayEnd m most next → MayEnd m most s
ends_by {S = S} {m = m} s next t small goes ends =
    record {
      more = t ∷ ends.more;
      small = (small, ends.small);
      end = ends.end;
      value = ends.value;
      runs = ap (λ (o : Option S). run_by m.step o ends.more) goes ∙ ends.runs;
      ends = ends.ends;
    }

-- by a keyword
pub ends_by_key : {K S V : Type 0} {m : Machine K S V} {most : ℕ} (s next : S) (k : K) → m.step s (Key k) ≡ Some next → MayEnd m most next → MayEnd m most s
ends_by_key s next k goes ends = ends_by s next (Key k) tt goes ends

-- by a number of the range
pub ends_by_number : {K S V : Type 0} {m : Machine K S V} {most : ℕ} (s next : S) (n : ℕ) → n ≤ most → m.step s (Number n) ≡ Some next → MayEnd m most next → MayEnd m most s
ends_by_number s next n small goes ends = ends_by s next (Number n) small goes ends

-- by a 0, which is in each range
pub ends_by_zero : {K S V : Type 0} {m : Machine K S V} {most : ℕ} (s next : S) → m.step s (Number 0) ≡ Some next → MayEnd m most next → MayEnd m most s
ends_by_zero s next goes ends = ends_by_number s next 0 (omega arith) goes ends
