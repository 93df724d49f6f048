-- A text has one answer for a chip.
use Rattle.std.proofs.Common.{◌≡◌, ℕ, List, reverse, Bool, None, Some, refl, sym, ◌∙◌, ap, subst, inl, inr, Option, Ok, Err, ◌⊎◌, arith}
use Rattle.std.proofs.lemmas.List.{reverse-reverse}
use Rattle.std.proofs.lemmas.Option.{same_Some}
use Rattle.outside.specs.Words.{words_of}
use Rattle.soc_model.specs.Chips.{SocValue}
use Rattle.plan_model.specs.Plans.{LimitsValue}
use Rattle.plan_model.specs.SoundLimits.{IsAcyclic, IsSoundLimits}
use Rattle.limits_text.specs.Items.{Item}
use Rattle.limits_text.specs.Grammar.{IsText, InGrammar}
use Rattle.limits_text.specs.Meaning.{limits_of, first_line, first_unknown, NonePasses, IsFirstPassing}
use Rattle.limits_text.specs.Answers.{SaysLimits, SaysKnown, AreReadLimits, NamesUnknown, HasLoop, PassesPower, read_as, refused_line, unknown_line, shown_loop, passing_power, Reading, IsReading}
use Rattle.limits_text.proofs.SoundText.{text_sound}
use Rattle.limits_text.proofs.Viable.{one_text, read_viable, read_text, stuck, no_text}
use Rattle.soc_model.specs.declared.TestId.{TestId}
use Rattle.plan_model.specs.Views.{limits_value}
use Rattle.outside.specs.Grammars.{IsRefused, last_line}
use Rattle.limits_text.specs.Loops.{IsLoopOf}
use Rattle.limits_text.specs.Laws.{TextsHaveOneAnswer, TextsAreAnswered, EachTextHasAnAnswer}
use Rattle.limits_text.proofs.FirstPassing.{none_passes, none_or_first, one_passing, passes_or_not}
use Rattle.outside.proofs.Refusals.{refused_once, not_refused, WholeOrRefused, whole_or_refused}
use Rattle.limits_text.proofs.FirstLoops.{ranked}
use Rattle.limits_text.proofs.OneLoop.{one_loop_of, no_ranked_loop}
use Rattle.common_lemmas.proofs.Options.{never_both}
use Rattle.soc_model.specs.declared.TheConstants.{NUMBER_WORD_MOST}
use Rattle.outside.proofs.Runs.{Fits, run_decides}
use Rattle.outside.proofs.WordCounts.{words-length}
use Rattle.limits_text.specs.Steps.{State, start, step, closed}
use Rattle.limits_text.proofs.RanksOrLoops.{ranks_or_loop}
use Rattle.limits_text.specs.declared.LimFault.TheVariants as fault

-- ---- what is answered of a text, once its items are read

module _ (bytes : List ℕ) (soc : SocValue) (form : Bool) (items : List Item) where
  pub said : (limits : LimitsValue) → IsText form (reverse items) (words_of bytes) → limits ≡ limits_of (reverse items) → first_line soc items ≡ None → SaysKnown bytes soc limits
  said limits text is known =
      record { says = record { form = form; items = reverse items; text = text; limits_are = is }; known = ap (first_line soc) (reverse-reverse items) ∙ known }

  pub unknown_said : (line : ℕ) → IsText form (reverse items) (words_of bytes) → first_line soc items ≡ Some line → NamesUnknown bytes soc line
  unknown_said line text first =
      record { limits = limits_of (reverse items); says = record { form = form; items = reverse items; text = text; limits_are = refl }; first = ap (first_line soc) (reverse-reverse items) ∙ first }

module _ (bytes : List ℕ) where
  pub sound_said : (soc : SocValue) (limits : LimitsValue) → SaysKnown bytes soc limits → IsAcyclic soc limits → NonePasses soc limits → AreReadLimits bytes soc limits
  sound_said soc limits k acyclic power =
      let is = k.says.limits_are in
      record {
        said = k;
        sound = subst (IsSoundLimits soc) (sym is) (text_sound soc k.says.form k.says.items (words_of bytes) k.says.text k.known (subst (IsAcyclic soc) is acyclic) (subst (NonePasses soc) is power));
      }

  -- ---- at most one answer

  -- a text says at most one value of limits
  pub one_limits : (a b : LimitsValue) → SaysLimits bytes a → SaysLimits bytes b → a ≡ b
  one_limits a b x y =
      x.limits_are ∙ ap limits_of (one_text (words_of bytes) x.form y.form x.items y.items x.text y.text).1 ∙ sym y.limits_are

  -- a text that says limits first names at most one line's test that the chip hasn't, and then it says no known ones
  pub one_unknown : (soc : SocValue) (a b : ℕ) → NamesUnknown bytes soc a → NamesUnknown bytes soc b → a ≡ b
  one_unknown soc a b x y =
      same_Some a b (sym x.first ∙ ap (first_unknown soc) (one_text (words_of bytes) x.says.form y.says.form x.says.items y.says.items x.says.text y.says.text).1 ∙ y.first)

-- ---- for a chip a text is at most one: limits, or one refusal with what it shows

-- ---- of limits that are known

module _ (bytes : List ℕ) (soc : SocValue) where
  one_known : (a b : LimitsValue) → SaysKnown bytes soc a → SaysKnown bytes soc b → a ≡ b
  one_known a b x y = one_limits bytes a b x.says y.says

  known_or_not : (limits : LimitsValue) (line : ℕ) → SaysKnown bytes soc limits → NamesUnknown bytes soc line → ⊥
  known_or_not limits line known names =
      let same : known.says.items ≡ names.says.items = (one_text (words_of bytes) known.says.form names.says.form known.says.items names.says.items known.says.text names.says.text).1 in
      never_both (first_unknown soc known.says.items) line known.known (ap (first_unknown soc) same ∙ names.first)

-- precedences with a loop have no ranks
pub loop_or_ranks : (soc : SocValue) (limits : LimitsValue) (tests : List TestId) → IsLoopOf soc limits tests → IsAcyclic soc limits → ⊥
loop_or_ranks soc limits tests circle acyclic = no_ranked_loop _ _ circle.0 circle.1 (ranked soc limits acyclic)

module _ (bytes : List ℕ) (soc : SocValue) where
  limits_or_loop : (limits : LimitsValue) (tests : List TestId) → AreReadLimits bytes soc limits → HasLoop bytes soc tests → ⊥
  limits_or_loop limits tests are has =
      loop_or_ranks soc has.limits tests has.circle (subst (IsAcyclic soc) (one_known bytes soc limits has.limits are.said has.said) are.sound.acyclic)

  limits_or_power : (limits : LimitsValue) (test : TestId) (power : ℕ) → AreReadLimits bytes soc limits → PassesPower bytes soc test power → ⊥
  limits_or_power limits test power are passes =
      let same : limits ≡ passes.limits = one_known bytes soc limits passes.limits are.said passes.said in
      none_or_first soc limits test power (none_passes soc limits are.sound) (subst (λ l. IsFirstPassing soc l test power) (sym same) passes.passes)

  loop_or_power : (tests : List TestId) (test : TestId) (power : ℕ) → HasLoop bytes soc tests → PassesPower bytes soc test power → ⊥
  loop_or_power tests test power has passes =
      loop_or_ranks soc has.limits tests has.circle (subst (IsAcyclic soc) (one_known bytes soc passes.limits has.limits passes.said has.said) passes.acyclic)

  one_shown : (a b : List TestId) → HasLoop bytes soc a → HasLoop bytes soc b → a ≡ b
  one_shown a b x y =
      one_loop_of soc y.limits a b (subst (λ l. IsLoopOf soc l a) (one_known bytes soc x.limits y.limits x.said y.said) x.circle) y.circle

  one_power : (s t : TestId) (m n : ℕ) → PassesPower bytes soc s m → PassesPower bytes soc t n → passing_power s m ≡ passing_power t n
  one_power s t m n x y =
      let same = one_passing soc y.limits s t m n (subst (λ l. IsFirstPassing soc l s m) (one_known bytes soc x.limits y.limits x.said y.said) x.passes) y.passes in
      ap (λ (a : TestId). passing_power a m) same.0 ∙ ap (passing_power t) same.1

-- ---- of any text

-- a text that says limits is refused at no line
said_or_line : (bytes : List ℕ) (limits : LimitsValue) (line : ℕ) → SaysLimits bytes limits → IsRefused InGrammar bytes line → ⊥
said_or_line bytes limits line says refused = not_refused InGrammar (words_of bytes) (last_line bytes) line (says.form, says.items, says.text) refused

pub one_reading : TextsHaveOneAnswer
one_reading bytes soc (read_as a) (read_as b) x y = ap read_as (one_known bytes soc a b x.said y.said)
one_reading bytes soc (read_as a) (refused_line n) x y = absurd (said_or_line bytes a n x.said.says y)
one_reading bytes soc (read_as a) (unknown_line n) x y = absurd (known_or_not bytes soc a n x.said y)
one_reading bytes soc (read_as a) (shown_loop tests) x y = absurd (limits_or_loop bytes soc a tests x y)
one_reading bytes soc (read_as a) (passing_power t n) x y = absurd (limits_or_power bytes soc a t n x y)
one_reading bytes soc (refused_line m) (read_as b) x y = absurd (said_or_line bytes b m y.said.says x)
one_reading bytes soc (refused_line m) (refused_line n) x y = ap refused_line (refused_once InGrammar (words_of bytes) (last_line bytes) m n x y)
one_reading bytes soc (refused_line m) (unknown_line n) x y = absurd (said_or_line bytes y.limits m y.says x)
one_reading bytes soc (refused_line m) (shown_loop tests) x y = absurd (said_or_line bytes y.limits m y.said.says x)
one_reading bytes soc (refused_line m) (passing_power t n) x y = absurd (said_or_line bytes y.limits m y.said.says x)
one_reading bytes soc (unknown_line m) (read_as b) x y = absurd (known_or_not bytes soc b m y.said x)
one_reading bytes soc (unknown_line m) (refused_line n) x y = absurd (said_or_line bytes x.limits n x.says y)
one_reading bytes soc (unknown_line m) (unknown_line n) x y = ap unknown_line (one_unknown bytes soc m n x y)
one_reading bytes soc (unknown_line m) (shown_loop tests) x y = absurd (known_or_not bytes soc y.limits m y.said x)
one_reading bytes soc (unknown_line m) (passing_power t n) x y = absurd (known_or_not bytes soc y.limits m y.said x)
one_reading bytes soc (shown_loop tests) (read_as b) x y = absurd (limits_or_loop bytes soc b tests y x)
one_reading bytes soc (shown_loop tests) (refused_line n) x y = absurd (said_or_line bytes x.limits n x.said.says y)
one_reading bytes soc (shown_loop tests) (unknown_line n) x y = absurd (known_or_not bytes soc x.limits n x.said y)
one_reading bytes soc (shown_loop a) (shown_loop b) x y = ap shown_loop (one_shown bytes soc a b x y)
one_reading bytes soc (shown_loop tests) (passing_power t n) x y = absurd (loop_or_power bytes soc tests t n x y)
one_reading bytes soc (passing_power t m) (read_as b) x y = absurd (limits_or_power bytes soc b t m y x)
one_reading bytes soc (passing_power t m) (refused_line n) x y = absurd (said_or_line bytes x.limits n x.said.says y)
one_reading bytes soc (passing_power t m) (unknown_line n) x y = absurd (known_or_not bytes soc x.limits n x.said y)
one_reading bytes soc (passing_power t m) (shown_loop tests) x y = absurd (loop_or_power bytes soc tests t m y x)
one_reading bytes soc (passing_power s m) (passing_power t n) x y = one_power bytes soc s t m n x y

-- ---- of what is answered

pub answered : TextsAreAnswered
answered bytes soc (Ok limits) r is reading = inl (ap Some (one_reading bytes soc (read_as (limits_value limits)) r is reading))
answered bytes soc (Err (fault.Text line)) r is reading = inl (ap Some (one_reading bytes soc (refused_line line) r is reading))
answered bytes soc (Err (fault.UnknownTest line)) r is reading = inl (ap Some (one_reading bytes soc (unknown_line line) r is reading))
answered bytes soc (Err (fault.Cycle tests)) r is reading = inl (ap Some (one_reading bytes soc (shown_loop tests.items) r is reading))
answered bytes soc (Err (fault.TestPower test power)) r is reading = inl (ap Some (one_reading bytes soc (passing_power test power) r is reading))
answered bytes soc (Err fault.NoMemory) r is reading = inr refl

-- ---- each text says limits, or is refused: for a chip it is something

-- ---- the grammar

-- the states of the reader, beside the grammar
fits : Fits InGrammar NUMBER_WORD_MOST State (List Item) step closed start
fits = record {
  viable = λ s ws few read. read_viable ws s few read;
  stuck = stuck;
  whole_read = λ s items ws read whole. (s.form, items, read_text ws s items read whole);
  early = λ s ws read open_end. no_text ws s read open_end;
}

-- ---- the chip

abbrev IsSome : List ℕ → SocValue → Type 0
IsSome bytes soc = (reading : Reading) × IsReading bytes soc reading

module _ (bytes : List ℕ) (soc : SocValue) (limits : LimitsValue) where
  known_is : SaysKnown bytes soc limits → IsSome bytes soc
  known_is known = elim (ranks_or_loop soc limits) [
    | inl acyclic ↦ powers acyclic (passes_or_not soc limits)
    | inr c ↦ (shown_loop c.0, record { limits = limits; said = known; circle = c.1 })
  ]
    where
      powers : IsAcyclic soc limits → NonePasses soc limits ⊎ ((test : TestId) × (power : ℕ) × IsFirstPassing soc limits test power) → IsSome bytes soc
      powers acyclic (inl none) = (read_as limits, sound_said bytes soc limits known acyclic none)
      powers acyclic (inr t) = (passing_power t.0 t.1, record { limits = limits; said = known; acyclic = acyclic; passes = t.2 })

  said_is : SaysLimits bytes limits → IsSome bytes soc
  said_is says = by (first_unknown soc says.items) refl
    where
      by : (o : Option ℕ) → first_unknown soc says.items ≡ o → IsSome bytes soc
      by None known = known_is (record { says = says; known = known })
      by (Some line) first = (unknown_line line, record { limits = limits; says = says; first = first })

pub each_text : EachTextHasAnAnswer
each_text bytes soc few = by (whole_or_refused InGrammar NUMBER_WORD_MOST State _ (run_decides InGrammar NUMBER_WORD_MOST State (List Item) step closed start fits) (last_line bytes) start (words_of bytes) refl (omega (arith, few, words-length bytes)))
  where
    by : WholeOrRefused InGrammar (words_of bytes) (last_line bytes) → IsSome bytes soc
    by (inl g) = said_is bytes soc (limits_of g.1) (record { form = g.0; items = g.1; text = g.2; limits_are = refl })
    by (inr r) = (refused_line r.0, r.1)
