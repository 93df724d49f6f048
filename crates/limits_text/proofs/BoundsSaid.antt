-- What is answered of a text, once its items are read and name tests of the chip alone.
use Rattle.std.proofs.Common.{◌≡◌, ℕ, List, reverse, Bool, None, sym, subst, refl, Result, Ok, Err, IfOk, IfErr}
use Rattle.outside.specs.Words.{words_of}
use Rattle.soc_model.specs.Chips.{SocValue}
use Rattle.plan_model.specs.Views.{limits_value}
use Rattle.plan_model.specs.SoundLimits.{IsAcyclic}
use Rattle.limits_text.specs.declared.LimFault.{LimFault}
use Rattle.limits_text.specs.declared.LimFault.TheVariants as fault
use Rattle.limits_text.specs.declared.read.Bounds.{Bounds}
use Rattle.limits_text.specs.Answers.{LimitsRead}
use Rattle.limits_text.specs.Bounds.{AnswersLimits}
use Rattle.limits_text.specs.Grammar.{IsText}
use Rattle.limits_text.specs.Items.{Item}
use Rattle.limits_text.specs.Meaning.{limits_of, first_line, NonePasses}
use Rattle.limits_text.proofs.OneAnswer.{said, sound_said}

module _ (bytes : List ℕ) (soc : SocValue) (form : Bool) (items : List Item) (text : IsText form (reverse items) (words_of bytes)) (known : first_line soc items ≡ None) where
  pub read_said : (r : Result Bounds LimFault) → AnswersLimits soc (limits_of (reverse items)) r → IfOk r (λ (bounds : Bounds). LimitsRead bytes soc (Ok bounds.limits))
  read_said (Ok bounds) are =
      let limits = limits_value bounds.limits in
      sound_said bytes soc limits (said bytes soc form items limits text are.limits_are known) (subst (IsAcyclic soc) (sym are.limits_are) are.acyclic) (subst (NonePasses soc) (sym are.limits_are) are.under)
  read_said (Err f) are = tt

  pub refused_said : (r : Result Bounds LimFault) → AnswersLimits soc (limits_of (reverse items)) r → IfErr r (λ (f : LimFault). LimitsRead bytes soc (Err f))
  refused_said (Ok bounds) are = tt
  refused_said (Err (fault.Text line)) are = absurd are
  refused_said (Err (fault.UnknownTest line)) are = absurd are
  refused_said (Err (fault.Cycle tests)) are = record { limits = limits_of (reverse items); said = said bytes soc form items (limits_of (reverse items)) text refl known; circle = are }
  refused_said (Err (fault.TestPower test power)) are =
      record { limits = limits_of (reverse items); said = said bytes soc form items (limits_of (reverse items)) text refl known; acyclic = are.0; passes = are.1 }
  refused_said (Err fault.NoMemory) are = tt
