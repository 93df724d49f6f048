-- What the loads of a call decide is what it writes, in puts of which none comes after one that failed.
use Rattle.std.proofs.Common.{◌≡◌, ℕ, inl, inr, List, [], Option, None, Some, Result, Ok, Err, sym, subst, ◌∙◌}
use Rattle.std.specs.Global.{Vec}
use Rattle.outside.specs.declared.NoMemory.{NoMemory as MemoryFault}
use Rattle.outside.specs.Held.{Files, Appended}
use Rattle.outside.specs.declared.sink.Put.{Put}
use Rattle.outside.proofs.PieceLemmas.{Appended-nil}
use Rattle.commands.specs.declared.Status.{Status}
use Rattle.commands.specs.declared.Status.TheVariants.{Done, Refused, BadWords, ReadFault, TooLong, WriteFault, NoMemory}
use Rattle.commands.specs.declared.Verdict.{Verdict}
use Rattle.commands.specs.declared.Verdict.TheVariants.{Answered, CannotRead, NoMemory as OutOfMemory}
use Rattle.commands.specs.Texts.{unread_line}
use Rattle.commands.specs.Procedures.{Procedure, Read, Unless, Answer, NoCommand}
use Rattle.commands.specs.Decides.{Suits, GivesText, Decides}
use Rattle.commands.specs.Ends.{Writes, WritesUnless, PutsFor, PutsVerdict, MakesPuts}
use Rattle.commands.specs.Loads.{LoadsOf, LoadsGive, LoadsUnless, EndsByLoads}

-- ---- what is written

-- nothing is written where memory runs out
pub written_nothing : (old new : Option (List ℕ)) → new ≡ old → Appended old [] new
written_nothing old new same = subst (λ o. Appended old [] o) (sym same) (Appended-nil old)

pub ends_by_loads : {S : Type 0} (is_load : LoadsOf S) (steps : Procedure) (first last : S) (kb ka : ℕ) (old new : Option (List ℕ)) (end : Status) (verdict : Verdict) → LoadsGive is_load steps first verdict last → Writes verdict kb ka old end new → EndsByLoads is_load steps first last kb ka old end new
ends_by_loads is_load steps first last kb ka old new end (Answered status text) d w = (status, text.items, d, w)
ends_by_loads is_load steps first last kb ka old new end (CannotRead file) d w = (ReadFault, unread_line file, d, w)
ends_by_loads is_load steps first last kb ka old new end OutOfMemory d w = (NoMemory, [], d, inl (w.0, written_nothing old new w.1))

-- a text that is written unless a line refuses it
pub unless_by_loads : {S : Type 0} (is_load : LoadsOf S) (steps : Procedure) (first last : S) (kb ka : ℕ) (old new : Option (List ℕ)) (end : Status) (refusal : Option (List ℕ)) (text : List ℕ) → LoadsUnless is_load steps first refusal text last → WritesUnless refusal text kb ka old end new → EndsByLoads is_load steps first last kb ka old end new
unless_by_loads is_load steps first last kb ka old new end None text d (inl none) = (NoMemory, [], d.1, inl (none.0, written_nothing old new none.1))
unless_by_loads is_load steps first last kb ka old new end None text d (inr put) = (Done, text, d.0, put)
unless_by_loads is_load steps first last kb ka old new end (Some line) text d (inl none) = (NoMemory, [], d.1, inl (none.0, written_nothing old new none.1))
unless_by_loads is_load steps first last kb ka old new end (Some line) text d (inr put) = (Refused, line, d.0, put.1)

-- ---- the puts

-- those of a status that is decided before anything is written
pub puts_suited : {S : Type 0} (is_put : S → List ℕ → Put → S → Type 0) (first last : S) (status : Status) (text : List ℕ) (end : Status) → Suits status text → PutsFor is_put first status end last → MakesPuts is_put first end last
puts_suited is_put first last Done text end suits (inl p) = subst (λ s. MakesPuts is_put first s last) (sym p.0) p.1
puts_suited is_put first last Refused text end suits (inl p) = subst (λ s. MakesPuts is_put first s last) (sym p.0) p.1
puts_suited is_put first last TooLong text end suits (inl p) = subst (λ s. MakesPuts is_put first s last) (sym p.0) p.1
puts_suited is_put first last BadWords text end suits (inl p) = absurd suits
puts_suited is_put first last ReadFault text end suits (inl p) = absurd suits
puts_suited is_put first last WriteFault text end suits (inl p) = absurd suits
puts_suited is_put first last NoMemory text end suits (inl p) = absurd suits
puts_suited is_put first last status text end suits (inr p) = subst (λ s. MakesPuts is_put first s last) (sym p.0) p.1

-- those of the line for bad words, and of a file that can't be read
puts_bad : {S : Type 0} (is_put : S → List ℕ → Put → S → Type 0) (first last : S) (status end : Status) → status ≡ BadWords → PutsFor is_put first status end last → MakesPuts is_put first end last
puts_bad is_put first last status end is (inl p) = subst (λ s. MakesPuts is_put first s last) (sym (p.0 ∙ is)) p.1
puts_bad is_put first last status end is (inr p) = subst (λ s. MakesPuts is_put first s last) (sym p.0) p.1

puts_unread : {S : Type 0} (is_put : S → List ℕ → Put → S → Type 0) (first last : S) (end : Status) → PutsFor is_put first ReadFault end last → MakesPuts is_put first end last
puts_unread is_put first last end (inl p) = subst (λ s. MakesPuts is_put first s last) (sym p.0) p.1
puts_unread is_put first last end (inr p) = subst (λ s. MakesPuts is_put first s last) (sym p.0) p.1

pub makes_puts : {S : Type 0} (is_put : S → List ℕ → Put → S → Type 0) (first last : S) (steps : Procedure) (held : Option Files) (sb sa : ℕ) (end : Status) (verdict : Verdict) → Decides steps held sb sa verdict → PutsVerdict is_put verdict first end last → MakesPuts is_put first end last
makes_puts is_put first last NoCommand held sb sa end (Answered status text) d p = puts_bad is_put first last status end d.0 p
makes_puts is_put first last (Answer May) held sb sa end (Answered status text) d p = puts_suited is_put first last status text.items end d.0 p
makes_puts is_put first last (Unless refusal next) held sb sa end (Answered status text) d p = puts_suited is_put first last status text.items end d.0 p
makes_puts is_put first last (Read file Says Refuses name next) held sb sa end (Answered status text) d p = puts_suited is_put first last status text.items end d.0 p
makes_puts is_put first last steps held sb sa end (CannotRead file) d p = puts_unread is_put first last end p
makes_puts is_put first last steps held sb sa end OutOfMemory d p = subst (λ s. MakesPuts is_put first s last) (sym p.0) p.1

-- those of a line that refuses
pub puts_refused : {S : Type 0} (is_put : S → List ℕ → Put → S → Type 0) (first last : S) (line : Result (Vec ℕ) MemoryFault) (end : Status) (verdict : Verdict) → GivesText Refused line verdict → PutsVerdict is_put verdict first end last → MakesPuts is_put first end last
puts_refused is_put first last (Ok line) end (Answered status text) d (inl p) = subst (λ s. MakesPuts is_put first s last) (sym (p.0 ∙ d.0)) p.1
puts_refused is_put first last (Ok line) end (Answered status text) d (inr p) = subst (λ s. MakesPuts is_put first s last) (sym p.0) p.1
puts_refused is_put first last (Ok line) end (CannotRead file) d p = absurd d
puts_refused is_put first last (Ok line) end OutOfMemory d p = subst (λ s. MakesPuts is_put first s last) (sym p.0) p.1
puts_refused is_put first last (Err fault) end verdict d p = let none : PutsVerdict is_put OutOfMemory first end last = subst (λ v. PutsVerdict is_put v first end last) d p in subst (λ s. MakesPuts is_put first s last) (sym none.0) none.1
