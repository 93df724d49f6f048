-- From the verdict on what comes after a file to the verdict from that file on.
use Rattle.std.proofs.Common.{◌≡◌, ◌⊎◌, ℕ, ◌≤◌, inl, inr, List, Option, None, Some, IfSome, Result, Ok, Err, IfOk, Bool, true, false, length, refl, sym, ◌∙◌, subst, arith, IsTrue, nat_lt, MatchBool}
use Rattle.std.specs.FinMap.{get}
use Rattle.std.specs.Global.{Vec}
use Rattle.std.proofs.lemmas.Bool.{le-ltb}
use Rattle.outside.specs.declared.NoMemory.{NoMemory as MemoryFault}
use Rattle.outside.specs.Held.{Files, WhereTold}
use Rattle.commands.specs.declared.FileKind.{FileKind}
use Rattle.commands.specs.declared.Status.{Status}
use Rattle.commands.specs.declared.Status.TheVariants.{Done, Refused, TooLong}
use Rattle.commands.specs.declared.Verdict.{Verdict}
use Rattle.commands.specs.declared.Verdict.TheVariants.{Answered, CannotRead, NoMemory as OutOfMemory}
use Rattle.commands.specs.Texts.{is_line, too_long_line}
use Rattle.commands.specs.Readings.{most_of, IsRead}
use Rattle.commands.specs.Procedures.{Procedure, Read, Unless, Answer, NoCommand, nothing, with_bytes, done_with, done_with_any}
use Rattle.commands.specs.Answers.{Stage, Answers}
use Rattle.commands.specs.Decides.{MayFail, IsUnread, Follows, Gives, GivesAny, GivesText, Refuses}

within_case : (A B : Type 0) (b : Bool) → b ≡ false → B → MatchBool b A B
within_case A B true e x = absurd cc
within_case A B false e x = x

-- a file that is held within its limit and read: the answer is that of what comes next
pub go_on : {V : Type 0} (file : FileKind) (Says : List ℕ → V → Type 0) (Refused' : List ℕ → List ℕ → Type 0) (Next : V → Status → List ℕ → Type 0) (held : Option (List ℕ)) (value : V) (status : Status) (text : List ℕ) →
    IsRead file Says held value → Next value status text → Stage file Says Refused' Next held status text
go_on file Says Refused' Next held value status text read next =
    rw read.held_is (within_case _ _ (nat_lt (most_of file) (length read.bytes)) (le-ltb (most_of file) (length read.bytes) read.within) (inl (value, read.says, next)))

-- ---- counts of faults that rise more

may_more : (held : Option Files) (before mid after : ℕ) (name : List ℕ) → before ≤ mid → MayFail held mid after name → MayFail held before after name
may_more held before mid after name order (inl (inl rose)) = inl (inl (omega arith))
may_more held before mid after name order (inl (inr last)) = inl (inr last)
may_more held before mid after name order (inr missing) = inr missing

unread_more : (steps : Procedure) (held : Option Files) (before mid after : ℕ) (missed : FileKind) → before ≤ mid → IsUnread steps held mid after missed → IsUnread steps held before after missed
unread_more NoCommand held before mid after missed order un = un
unread_more (Answer May) held before mid after missed order un = un
unread_more (Unless None next) held before mid after missed order un = unread_more next held before mid after missed order un
unread_more (Unless (Some line) next) held before mid after missed order un = un
unread_more (Read file Says Refused' name next) held before mid after missed order (inl here) = inl (here.0, may_more held before mid after name order here.1)
unread_more (Read file Says Refused' name next) held before mid after missed order (inr later) = inr (later.0, later.1, unread_more (next later.0) held before mid after missed order later.2)

-- ---- a file that is read

-- The verdict on what comes after a file that was read is one from that file on.
pub after_file : {V : Type 0} (file : FileKind) (Says : List ℕ → V → Type 0) (Refused' : List ℕ → List ℕ → Type 0) (name : List ℕ) (next : V → Procedure) (held : Option Files) (before mid after : ℕ) (value : V) (verdict : Verdict) → before ≤ mid →
    IfSome held (λ files. IsRead file Says (get files name) value) → Follows (next value) held mid after verdict → Follows (Read file Says Refused' name next) held before after verdict
after_file file Says Refused' name next None before mid after value (Answered status text) order read d = (d.0, tt)
after_file file Says Refused' name next (Some files) before mid after value (Answered status text) order read d =
    (d.0, go_on file Says Refused' (λ v. Answers (next v) files) (get files name) value status text.items read d.1)
after_file file Says Refused' name next held before mid after value (CannotRead missed) order read d = inr (value, read, unread_more (next value) held before mid after missed order d)
after_file file Says Refused' name next held before mid after value OutOfMemory order read d = tt

-- where the shelf tells, the value was read from what it holds
pub read_from : {V : Type 0} (file : FileKind) (Says : List ℕ → V → Type 0) (held : Option Files) (name bytes : List ℕ) (value : V) → WhereTold held name (λ o. o ≡ Some bytes) → length bytes ≤ most_of file → Says bytes value →
    IfSome held (λ files. IsRead file Says (get files name) value)
read_from file Says None name bytes value told within says = tt
read_from file Says (Some files) name bytes value told within says = record { bytes = bytes; held_is = told; within = within; says = says }

-- a text that is the answer, or out of memory for it
pub done : (answer : List ℕ) (held : Option Files) (before after : ℕ) (verdict : Verdict) → Gives Done answer verdict → Follows (done_with answer) held before after verdict
done answer None before after (Answered status text) d = (rw d.0 tt, tt)
done answer (Some files) before after (Answered status text) d = (rw d.0 tt, d)
done answer held before after (CannotRead missed) d = absurd d
done answer held before after OutOfMemory d = tt

-- the answer is a text that a call made
pub done_of : (answer : List ℕ) (made : Result (Vec ℕ) MemoryFault) (held : Option Files) (before after : ℕ) (verdict : Verdict) → IfOk made (λ text. text.items ≡ answer) → GivesText Done made verdict → Follows (done_with answer) held before after verdict
done_of answer (Ok text) held before after verdict is d = done answer held before after verdict (rw is at d)
done_of answer (Err fault) held before after verdict is d = rw d tt

-- a line that a call made refuses
pub line_refuses : (line : List ℕ) (made : Result (Vec ℕ) MemoryFault) (verdict : Verdict) → IfOk made (λ text. text.items ≡ line) → IfOk made (λ text. IsTrue (is_line text.items)) → GivesText Refused made verdict → Refuses line verdict
line_refuses line (Err fault) verdict is one d = rw d tt
line_refuses line (Ok text) (Answered status bytes) is one d = (d.0, rw d.1 is, rw d.1 one)
line_refuses line (Ok text) (CannotRead missed) is one d = absurd d
line_refuses line (Ok text) OutOfMemory is one d = tt

-- a line that refuses, whatever comes next
pub unless_line : (refusal : Option (List ℕ)) (line : List ℕ) (next : Procedure) (held : Option Files) (before after : ℕ) (verdict : Verdict) → refusal ≡ Some line → Refuses line verdict → Follows (Unless refusal next) held before after verdict
unless_line refusal line next held before after verdict is d = subst (λ r. Follows (Unless r next) held before after verdict) (sym is) (go held verdict d) where
  go : (held : Option Files) (verdict : Verdict) → Refuses line verdict → Follows (Unless (Some line) next) held before after verdict
  go None (Answered status text) d = (rw d.0 d.2, tt)
  go (Some files) (Answered status text) d = (rw d.0 d.2, (d.0, d.1))
  go held (CannotRead missed) d = absurd d
  go held OutOfMemory d = tt

-- an answer of any text that is allowed with Done, or out of memory for it
pub may_be_done : (May : Status → List ℕ → Type 0) (made : Result (Vec ℕ) MemoryFault) (held : Option Files) (before after : ℕ) (verdict : Verdict) → IfOk made (λ text. May Done text.items) → GivesText Done made verdict → Follows (Answer May) held before after verdict
may_be_done May (Err fault) held before after verdict may d = rw d tt
may_be_done May (Ok text) held before after (CannotRead missed) may d = absurd d
may_be_done May (Ok text) held before after OutOfMemory may d = tt
may_be_done May (Ok text) None before after (Answered status bytes) may d = (rw d.0 tt, tt)
may_be_done May (Ok text) (Some files) before after (Answered status bytes) may d = (rw d.0 tt, rw (d.0, d.1) may)

-- a text that is allowed where nothing refuses it, or out of memory for it
pub gives_text : (refusal : Option (List ℕ)) (May : List ℕ → Type 0) (made : Result (Vec ℕ) MemoryFault) (verdict : Verdict) → refusal ≡ None → IfOk made (λ text. May text.items) → GivesText Done made verdict → GivesAny refusal May verdict
gives_text refusal May made verdict none may d = subst (λ (r : Option (List ℕ)). GivesAny r May verdict) (sym none) (go made verdict may d)
  where
    go : (made : Result (Vec ℕ) MemoryFault) (verdict : Verdict) → IfOk made (λ text. May text.items) → GivesText Done made verdict → GivesAny None May verdict
    go (Err fault) verdict may d = rw d tt
    go (Ok text) (CannotRead missed) may d = absurd d
    go (Ok text) OutOfMemory may d = tt
    go (Ok text) (Answered status bytes) may d = (d.0, rw d.1 may)

-- the line that refuses, or out of memory for it
pub gives_line : (refusal : Option (List ℕ)) (line : List ℕ) (May : List ℕ → Type 0) (made : Result (Vec ℕ) MemoryFault) (verdict : Verdict) → refusal ≡ Some line → IfOk made (λ text. text.items ≡ line) → IfOk made (λ text. IsTrue (is_line text.items)) → GivesText Refused made verdict → GivesAny refusal May verdict
gives_line refusal line May made verdict some is ends d = subst (λ (r : Option (List ℕ)). GivesAny r May verdict) (sym some) (go made verdict is ends d)
  where
    go : (made : Result (Vec ℕ) MemoryFault) (verdict : Verdict) → IfOk made (λ text. text.items ≡ line) → IfOk made (λ text. IsTrue (is_line text.items)) → GivesText Refused made verdict → Refuses line verdict
    go (Err fault) verdict is ends d = rw d tt
    go (Ok text) (CannotRead missed) is ends d = absurd d
    go (Ok text) OutOfMemory is ends d = tt
    go (Ok text) (Answered status bytes) is ends d = (d.0, d.1 ∙ is, rw d.1 ends)

-- what is given follows
pub unless_any : (refusal : Option (List ℕ)) (May : List ℕ → Type 0) (held : Option Files) (before after : ℕ) (verdict : Verdict) → GivesAny refusal May verdict → Follows (Unless refusal (done_with_any May)) held before after verdict
unless_any None May None before after (Answered status text) d = (rw d.0 tt, tt)
unless_any None May (Some files) before after (Answered status text) d = (rw d.0 tt, d)
unless_any None May held before after (CannotRead missed) d = absurd d
unless_any None May held before after OutOfMemory d = tt
unless_any (Some line) May None before after (Answered status text) d = (rw d.0 d.2, tt)
unless_any (Some line) May (Some files) before after (Answered status text) d = (rw d.0 d.2, (d.0, d.1))
unless_any (Some line) May held before after (CannotRead missed) d = absurd d
unless_any (Some line) May held before after OutOfMemory d = tt

-- ---- a file that isn't read

-- a text that is refused, whatever is to be done with its value
pub refused : {V : Type 0} (file : FileKind) (Says : List ℕ → V → Type 0) (Refused' : List ℕ → List ℕ → Type 0) (name : List ℕ) (next : V → Procedure) (held : Option Files) (before after : ℕ) (bytes line : List ℕ) (verdict : Verdict) →
    WhereTold held name (λ o. o ≡ Some bytes) → length bytes ≤ most_of file → Refused' bytes line → Refuses line verdict → Follows (Read file Says Refused' name next) held before after verdict
refused file Says Refused' name next held before after bytes line (CannotRead missed) told within why d = absurd d
refused file Says Refused' name next held before after bytes line OutOfMemory told within why d = tt
refused file Says Refused' name next held before after bytes line (Answered status text) told within why d = (rw d.0 d.2, go held told) where
  go : (held : Option Files) → WhereTold held name (λ o. o ≡ Some bytes) → IfSome held (λ files. Answers (Read file Says Refused' name next) files status text.items)
  go None told = tt
  go (Some files) told =
      rw (told, d.0, d.1) (within_case _ _ (nat_lt (most_of file) (length bytes)) (le-ltb (most_of file) (length bytes) within) (inr (refl, why)))

-- a file whose bytes aren't there, whatever they are to say
pub without_bytes : {V : Type 0} (file : FileKind) (Says : List ℕ → V → Type 0) (Refused' : List ℕ → List ℕ → Type 0) (name : List ℕ) (held : Option Files) (before after : ℕ) (verdict : Verdict) →
    Follows (with_bytes file name) held before after verdict → Follows (Read file Says Refused' name (λ v. nothing)) held before after verdict
without_bytes file Says Refused' name None before after (Answered status text) d = (d.0, tt)
without_bytes {V} file Says Refused' name (Some files) before after (Answered status text) d = (d.0, stage (get files name) d.1) where
  stage : (held : Option (List ℕ)) → Stage file (λ (bytes value : List ℕ). bytes ≡ value) (λ bytes line. ⊥) (λ value. Answers nothing files) held status text.items → Stage file Says Refused' (λ v. Answers nothing files) held status text.items
  stage None a = a
  stage (Some bytes) a = go (nat_lt (most_of file) (length bytes)) a where
    go : (long : Bool) → MatchBool long ((status ≡ TooLong) × (text.items ≡ too_long_line file)) (((v : List ℕ) × (bytes ≡ v) × ⊥) ⊎ ((status ≡ Refused) × ⊥)) →
        MatchBool long ((status ≡ TooLong) × (text.items ≡ too_long_line file)) (((v : V) × Says bytes v × ⊥) ⊎ ((status ≡ Refused) × Refused' bytes text.items))
    go true a = a
    go false (inl a) = absurd a.2
    go false (inr a) = absurd a.1
without_bytes file Says Refused' name held before after (CannotRead missed) (inl here) = inl here
without_bytes file Says Refused' name held before after (CannotRead missed) (inr later) = absurd later.2
without_bytes file Says Refused' name held before after OutOfMemory d = tt

-- ---- what comes next where there is no value

-- what follows the first procedure follows the second
abbrev pub Covers : Procedure → Procedure → Type 0
Covers less more =
    ((files : Files) (status : Status) (text : List ℕ) → Answers less files status text → Answers more files status text)
    × ((held : Option Files) (before after : ℕ) (missed : FileKind) → IsUnread less held before after missed → IsUnread more held before after missed)

pub covers_nothing : (more : Procedure) → Covers nothing more
covers_nothing more = (λ files status text none. absurd none, λ held before after missed none. absurd none)

pub covers_read : {V : Type 0} (file : FileKind) (Says : List ℕ → V → Type 0) (Refused' : List ℕ → List ℕ → Type 0) (name : List ℕ) (less more : V → Procedure) → ((value : V) → Covers (less value) (more value)) → Covers (Read file Says Refused' name less) (Read file Says Refused' name more)
covers_read {V} file Says Refused' name less more each = (answers, unread) where
  stage : (files : Files) (held : Option (List ℕ)) (status : Status) (text : List ℕ) → Stage file Says Refused' (λ v. Answers (less v) files) held status text → Stage file Says Refused' (λ v. Answers (more v) files) held status text
  stage files None status text a = a
  stage files (Some bytes) status text a = go (nat_lt (most_of file) (length bytes)) a where
    go : (long : Bool) → MatchBool long ((status ≡ TooLong) × (text ≡ too_long_line file)) (((v : V) × Says bytes v × Answers (less v) files status text) ⊎ ((status ≡ Refused) × Refused' bytes text)) →
        MatchBool long ((status ≡ TooLong) × (text ≡ too_long_line file)) (((v : V) × Says bytes v × Answers (more v) files status text) ⊎ ((status ≡ Refused) × Refused' bytes text))
    go true a = a
    go false (inl a) = inl (a.0, a.1, (each a.0).0 files status text a.2)
    go false (inr a) = inr a

  answers : (files : Files) (status : Status) (text : List ℕ) → Answers (Read file Says Refused' name less) files status text → Answers (Read file Says Refused' name more) files status text
  answers files status text a = stage files (get files name) status text a

  unread : (held : Option Files) (before after : ℕ) (missed : FileKind) → IsUnread (Read file Says Refused' name less) held before after missed → IsUnread (Read file Says Refused' name more) held before after missed
  unread held before after missed (inl here) = inl here
  unread held before after missed (inr later) = inr (later.0, later.1, (each later.0).1 held before after missed later.2)

pub covered : (less more : Procedure) (held : Option Files) (before after : ℕ) (verdict : Verdict) → Covers less more → Follows less held before after verdict → Follows more held before after verdict
covered less more None before after (Answered status text) covers d = (d.0, tt)
covered less more (Some files) before after (Answered status text) covers d = (d.0, covers.0 files status text.items d.1)
covered less more held before after (CannotRead missed) covers d = covers.1 held before after missed d
covered less more held before after OutOfMemory covers d = tt

-- a verdict without a value is one whatever is to be done with it
pub no_value : {V : Type 0} (file : FileKind) (Says : List ℕ → V → Type 0) (Refused' : List ℕ → List ℕ → Type 0) (name : List ℕ) (next : V → Procedure) (held : Option Files) (before after : ℕ) (verdict : Verdict) →
    Follows (Read file Says Refused' name (λ v. nothing)) held before after verdict → Follows (Read file Says Refused' name next) held before after verdict
no_value file Says Refused' name next held before after verdict d =
    covered (Read file Says Refused' name (λ v. nothing)) (Read file Says Refused' name next) held before after verdict (covers_read file Says Refused' name (λ v. nothing) next (λ v. covers_nothing (next v))) d
