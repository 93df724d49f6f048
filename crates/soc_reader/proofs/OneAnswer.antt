-- A text says one chip, or is refused at one line, or says a chip that is too large: only one of these, and in one way.
use Rattle.std.proofs.Common.{◌≡◌, inl, inr, ℕ, ◌<◌, ◌⊎◌, List, Option, None, Some, refl, sym, ◌∙◌, ap, subst, arith, Bool, true, false, nat_lt}
use Rattle.std.proofs.lemmas.Bool.Decides.{nat_tests}
use Rattle.std.proofs.lemmas.Option.{same_Some}
use Rattle.outside.specs.Words.{words_of}
use Rattle.soc_model.specs.declared.Which.{Which}
use Rattle.soc_model.specs.declared.Which.TheVariants.{Modules, Tests, Chains, Power, Work}
use Rattle.soc_model.specs.declared.SocLimit.{SocLimit}
use Rattle.soc_model.specs.Chips.{SocValue}
use Rattle.soc_model.specs.Sizes.{passed, rank_of, IsFirstPassed}
use Rattle.outside.specs.Grammars.{last_line}
use Rattle.outside.proofs.Refusals.{not_refused, refused_once}
use Rattle.soc_reader.specs.Grammar.{InGrammar}
use Rattle.soc_reader.specs.Meaning.{chip_of, first_wrong}
use Rattle.soc_reader.specs.ChipForm.{SaysModules, SaysChip}
use Rattle.soc_reader.specs.Refusals.{HasWrongTotal, IsRefusedLine, IsTooLarge}
use Rattle.soc_reader.proofs.Viable.{one_text}
use Rattle.soc_reader.proofs.ChipsSaid.{one_of_modules}

-- ---- totals

one_total : (bytes : List ℕ) (m n : ℕ) → HasWrongTotal bytes m → HasWrongTotal bytes n → m ≡ n
one_total bytes m n a b =
    let items : a.items ≡ b.items = one_text (words_of bytes) a.items b.items a.text b.text in
    same_Some m n (sym a.first ∙ ap (λ l. first_wrong (chip_of l) l) items ∙ b.first)

none_some : (o : Option ℕ) (n : ℕ) → o ≡ None → o ≡ Some n → ⊥
none_some o n e f = cc

total-no_chip : (bytes : List ℕ) (line : ℕ) (soc : SocValue) → HasWrongTotal bytes line → SaysModules bytes soc → ⊥
total-no_chip bytes line soc wrong says =
    let items : says.items ≡ wrong.items = one_text (words_of bytes) says.items wrong.items says.text wrong.text in
    none_some (first_wrong (chip_of says.items) says.items) line
    (ap (λ c. first_wrong c says.items) (sym says.chip) ∙ says.totals)
    (ap (λ l. first_wrong (chip_of l) l) items ∙ wrong.first)

-- ---- limits

same_rank : (a b : Which) → rank_of a ≡ rank_of b → a ≡ b
same_rank Modules Modules e = refl
same_rank Modules Tests e = absurd (omega arith)
same_rank Modules Chains e = absurd (omega arith)
same_rank Modules Power e = absurd (omega arith)
same_rank Modules Work e = absurd (omega arith)
same_rank Tests Modules e = absurd (omega arith)
same_rank Tests Tests e = refl
same_rank Tests Chains e = absurd (omega arith)
same_rank Tests Power e = absurd (omega arith)
same_rank Tests Work e = absurd (omega arith)
same_rank Chains Modules e = absurd (omega arith)
same_rank Chains Tests e = absurd (omega arith)
same_rank Chains Chains e = refl
same_rank Chains Power e = absurd (omega arith)
same_rank Chains Work e = absurd (omega arith)
same_rank Power Modules e = absurd (omega arith)
same_rank Power Tests e = absurd (omega arith)
same_rank Power Chains e = absurd (omega arith)
same_rank Power Power e = refl
same_rank Power Work e = absurd (omega arith)
same_rank Work Modules e = absurd (omega arith)
same_rank Work Tests e = absurd (omega arith)
same_rank Work Chains e = absurd (omega arith)
same_rank Work Power e = absurd (omega arith)
same_rank Work Work e = refl

one_passed : (soc : SocValue) (a b : SocLimit) → IsFirstPassed soc a → IsFirstPassed soc b → a ≡ b
one_passed soc a b first second = by (order (rank_of a.which) (rank_of b.which))
  where
    order : (m n : ℕ) → (m ≡ n) ⊎ ((m < n) ⊎ (n < m))
    order m n = by_tests (nat_lt m n) (nat_lt n m) refl refl
      where
        by_tests : (p q : Bool) → nat_lt m n ≡ p → nat_lt n m ≡ q → (m ≡ n) ⊎ ((m < n) ⊎ (n < m))
        by_tests true q less more = inr (inl (grind (arith, nat_tests)))
        by_tests false true less more = inr (inr (grind (arith, nat_tests)))
        by_tests false false less more = inl (grind (arith, nat_tests))

    limit : Which → ℕ → SocLimit
    limit which value = record { which = which; value = value }

    by : (rank_of a.which ≡ rank_of b.which) ⊎ ((rank_of a.which < rank_of b.which) ⊎ (rank_of b.which < rank_of a.which)) → a ≡ b
    by (inl same) =
        let which = same_rank a.which b.which same in
        let value : a.value ≡ b.value = same_Some a.value b.value (sym first.passes ∙ ap (passed soc) which ∙ second.passes) in
        ap (λ w. limit w a.value) which ∙ ap (limit b.which) value
    by (inr (inl less)) = absurd (none_some (passed soc a.which) a.value (second.earlier a.which less) first.passes)
    by (inr (inr more)) = absurd (none_some (passed soc b.which) b.value (first.earlier b.which more) second.passes)

-- ---- what crates above cite

-- at most one line of a text is refused
pub one_line : (bytes : List ℕ) (m n : ℕ) → IsRefusedLine bytes m → IsRefusedLine bytes n → m ≡ n
one_line bytes m n (inl a) (inl b) = refused_once InGrammar (words_of bytes) (last_line bytes) m n a b
one_line bytes m n (inl a) (inr b) = absurd (not_refused InGrammar (words_of bytes) (last_line bytes) m (b.items, b.text) a)
one_line bytes m n (inr a) (inl b) = absurd (not_refused InGrammar (words_of bytes) (last_line bytes) n (a.items, a.text) b)
one_line bytes m n (inr a) (inr b) = one_total bytes m n a b

-- a text passes at most one limit first, by one number
pub one_limit : (bytes : List ℕ) (a b : SocLimit) → IsTooLarge bytes a → IsTooLarge bytes b → a ≡ b
one_limit bytes a b this that =
    one_passed that.soc a b (subst (λ soc. IsFirstPassed soc a) (one_of_modules bytes this.soc that.soc this.modules that.modules) this.passed) that.passed

-- a text that says a chip, of whatever size, is refused at no line
pub no_line-from_modules : (bytes : List ℕ) (soc : SocValue) (line : ℕ) → SaysModules bytes soc → IsRefusedLine bytes line → ⊥
no_line-from_modules bytes soc line says (inl refused) = not_refused InGrammar (words_of bytes) (last_line bytes) line (says.items, says.text) refused
no_line-from_modules bytes soc line says (inr wrong) = total-no_chip bytes line soc wrong says

pub no_line-from_chip : (bytes : List ℕ) (soc : SocValue) (line : ℕ) → SaysChip bytes soc → IsRefusedLine bytes line → ⊥
no_line-from_chip bytes soc line says refused = no_line-from_modules bytes soc line says.modules refused

pub no_line-from_limit : (bytes : List ℕ) (limit : SocLimit) (line : ℕ) → IsTooLarge bytes limit → IsRefusedLine bytes line → ⊥
no_line-from_limit bytes limit line large refused = no_line-from_modules bytes large.soc line large.modules refused

-- a text that says a chip passes no limit
pub no_limit-from_chip : (bytes : List ℕ) (soc : SocValue) (limit : SocLimit) → SaysChip bytes soc → IsTooLarge bytes limit → ⊥
no_limit-from_chip bytes soc limit says large =
    let size : passed soc limit.which ≡ None = says.size limit.which in
    none_some (passed large.soc limit.which) limit.value (ap (λ c. passed c limit.which) (one_of_modules bytes large.soc soc large.modules says.modules) ∙ size) large.passed.passes
