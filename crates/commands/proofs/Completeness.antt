-- The files give at most one answer. So a call that ends otherwise had a fault, or no memory.
use Rattle.std.proofs.Common.{◌≡◌, ℕ, ◌⊎◌, inl, inr, Bool, List, Option, IfSome, refl, subst}
use Rattle.outside.specs.Held.{Files, Rose, Appended}
use Rattle.soc_model.specs.Chips.{SocValue}
use Rattle.plan_model.specs.Plans.{LimitsValue, PlanValue}
use Rattle.commands.specs.declared.Status.{Status}
use Rattle.commands.specs.declared.Status.TheVariants.{Done, Refused, BadWords, ReadFault, TooLong, WriteFault, NoMemory}
use Rattle.commands.specs.Procedures.{Procedure, with_chip, with_both, with_accepted, with_all}
use Rattle.commands.specs.Answers.{Answers}
use Rattle.commands.specs.Decides.{IsUnread}
use Rattle.commands.specs.Ends.{MayAnswer, Ends, EndsAsWanted, Complete, Finishes}
use Rattle.commands.specs.Settled.{AreOne, IsSettled, FilesSayOneThing}
use Rattle.commands.proofs.Settled.{one_answer, no_answer, only_done, none_unread}

-- ---- procedures over a chip, limits and a plan

-- what comes after a chip
pub settled_chip : FilesSayOneThing → (fixed : Bool) (next : SocValue → Procedure) → ((chip : SocValue) → IsSettled fixed (next chip)) → (soc : List ℕ) → IsSettled fixed (with_chip soc next)
settled_chip laws fixed next last soc = (laws.chips, laws.refused_chips, last)

-- after a chip and limits
pub settled_both : FilesSayOneThing → (fixed : Bool) (soc limits : List ℕ) (next : SocValue → LimitsValue → Procedure) → ((chip : SocValue) (bounds : LimitsValue) → IsSettled fixed (next chip bounds)) → IsSettled fixed (with_both soc limits next)
settled_both laws fixed soc limits next last = (laws.chips, laws.refused_chips, λ chip. (laws.limits chip, laws.refused_limits chip, λ bounds. last chip bounds))

-- and after an accepted plan for both
pub settled_all : FilesSayOneThing → (fixed : Bool) (soc limits plan : List ℕ) (next : SocValue → LimitsValue → PlanValue → Procedure) → ((chip : SocValue) (bounds : LimitsValue) (value : PlanValue) → IsSettled fixed (next chip bounds value)) → IsSettled fixed (with_all soc limits plan next)
settled_all laws fixed soc limits plan next last =
    settled_both laws fixed soc limits (λ chip bounds. with_accepted chip bounds plan (next chip bounds))
    (λ chip bounds. (laws.plans chip bounds, laws.refused_plans chip bounds, λ value. last chip bounds value))

-- ---- completeness

-- a text that was appended for a status is the one that is wanted
told : (fixed : Bool) (steps : Procedure) → IsSettled fixed steps → (files : Files) (status wanted : Status) (given text : List ℕ) (old new : Option (List ℕ)) → Answers steps files status given → Answers steps files wanted text → Appended old given new → EndsAsWanted fixed wanted text old status new
told fixed steps settled files status wanted given text old new is answer put =
    let same : AreOne fixed status given wanted text = one_answer fixed steps settled files status given wanted text is answer in
    inl (same.0, λ one. subst (λ t. Appended old t new) (same.1 one) put)

-- a call that ended so is complete
pub complete : (fixed : Bool) (steps : Procedure) → IsSettled fixed steps → (held : Option Files) (sb sa kb ka : ℕ) (old new : Option (List ℕ)) (end : Status) → Ends (MayAnswer steps held sb sa) kb ka old end new → Complete fixed steps held (Rose sb sa) (Rose kb ka) old end new
complete fixed steps settled held sb sa kb ka old new NoMemory ends files wanted text is fine_shelf fine_sink answer = inr refl
complete fixed steps settled held sb sa kb ka old new WriteFault ends files wanted text is fine_shelf fine_sink answer = absurd (fine_sink ends.0)
complete fixed steps settled held sb sa kb ka old new ReadFault ends files wanted text is fine_shelf fine_sink answer =
    absurd (no_answer fixed steps settled files ends.1.0 sb sa wanted text fine_shelf (subst (λ h. IsUnread steps h sb sa ends.1.0) is ends.1.2) answer)
complete fixed steps settled held sb sa kb ka old new Done ends files wanted text is fine_shelf fine_sink answer = told fixed steps settled files Done wanted ends.0 text old new (rw is at ends.1) answer ends.2
complete fixed steps settled held sb sa kb ka old new Refused ends files wanted text is fine_shelf fine_sink answer = told fixed steps settled files Refused wanted ends.0 text old new (rw is at ends.1) answer ends.2
complete fixed steps settled held sb sa kb ka old new BadWords ends files wanted text is fine_shelf fine_sink answer = told fixed steps settled files BadWords wanted ends.0 text old new (rw is at ends.1) answer ends.2
complete fixed steps settled held sb sa kb ka old new TooLong ends files wanted text is fine_shelf fine_sink answer = told fixed steps settled files TooLong wanted ends.0 text old new (rw is at ends.1) answer ends.2

-- ---- where every file is taken

-- a call that ended so finishes
pub finishes : (fixed : Bool) (steps : Procedure) → IsSettled fixed steps → (held : Option Files) (sb sa kb ka : ℕ) (old new : Option (List ℕ)) (end : Status) → Ends (MayAnswer steps held sb sa) kb ka old end new → Finishes steps held (Rose sb sa) (Rose kb ka) end
finishes fixed steps settled held sb sa kb ka old new end ends files is fine_shelf fine_sink taken = go end ends where
  answered : (status : Status) (text : List ℕ) → IfSome held (λ files. Answers steps files status text) → (status ≡ Done) ⊎ (status ≡ NoMemory)
  answered status text answer = inl (only_done fixed steps settled files status text taken (rw is at answer))

  go : (end : Status) → Ends (MayAnswer steps held sb sa) kb ka old end new → (end ≡ Done) ⊎ (end ≡ NoMemory)
  go NoMemory ends = inr refl
  go Done ends = inl refl
  go WriteFault ends = absurd (fine_sink ends.0)
  go ReadFault ends = absurd (none_unread fixed steps settled files ends.1.0 sb sa fine_shelf taken (subst (λ h. IsUnread steps h sb sa ends.1.0) is ends.1.2))
  go Refused ends = answered Refused ends.0 ends.1
  go BadWords ends = answered BadWords ends.0 ends.1
  go TooLong ends = answered TooLong ends.0 ends.1
