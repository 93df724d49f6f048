-- The files give at most one answer to a procedure, and an unread file gives none.
use Rattle.std.proofs.Common.{◌≡◌, ℕ, ◌⊎◌, inl, inr, List, Option, None, Some, Bool, true, false, length, sym, ◌∙◌, subst, nat_lt, MatchBool}
use Rattle.std.specs.FinMap.{get}
use Rattle.std.proofs.lemmas.Bool.{le-ltb}
use Rattle.outside.specs.Held.{Files, Rose}
use Rattle.commands.specs.declared.FileKind.{FileKind}
use Rattle.commands.specs.declared.Status.{Status}
use Rattle.commands.specs.declared.Status.TheVariants.{Done, Refused, TooLong}
use Rattle.commands.specs.Texts.{too_long_line}
use Rattle.commands.specs.Readings.{most_of, IsRead}
use Rattle.commands.specs.Procedures.{Procedure, Read, Unless, Answer, NoCommand, asked, done_with, done_with_any}
use Rattle.commands.specs.Answers.{Stage, Answers}
use Rattle.commands.specs.Decides.{IsUnread}
use Rattle.commands.specs.Ends.{AreTaken}
use Rattle.commands.specs.Settled.{AreOne, AllowsOne, SaysOne, RefusesOne, IsSettled}

stage_one : {V : Type 0} (fixed : Bool) (file : FileKind) (Says : List ℕ → V → Type 0) (Refuses : List ℕ → List ℕ → Type 0) (Next : V → Status → List ℕ → Type 0) → SaysOne Says → RefusesOne Says Refuses → ((v : V) → AllowsOne fixed (Next v)) → (held : Option (List ℕ)) → AllowsOne fixed (Stage file Says Refuses Next held)
stage_one fixed file Says Refuses Next says refuses next None s t s' t' a b = absurd a
stage_one {V} fixed file Says Refuses Next says refuses next (Some bytes) s t s' t' a b = go (nat_lt (most_of file) (length bytes)) a b where
  second : (((v : V) × Says bytes v × Next v s t) ⊎ ((s ≡ Refused) × Refuses bytes t)) → (((v : V) × Says bytes v × Next v s' t') ⊎ ((s' ≡ Refused) × Refuses bytes t')) → AreOne fixed s t s' t'
  second (inl a) (inl b) = next b.0 s t s' t' (subst (λ v. Next v s t) (says bytes a.0 b.0 a.1 b.1) a.2) b.2
  second (inl a) (inr b) = absurd (refuses.none bytes t' a.0 b.1 a.1)
  second (inr a) (inl b) = absurd (refuses.none bytes t b.0 a.1 b.1)
  second (inr a) (inr b) = (a.0 ∙ sym b.0, λ one. refuses.one bytes t t' a.1 b.1)

  go : (long : Bool) → MatchBool long ((s ≡ TooLong) × (t ≡ too_long_line file)) (((v : V) × Says bytes v × Next v s t) ⊎ ((s ≡ Refused) × Refuses bytes t)) →
      MatchBool long ((s' ≡ TooLong) × (t' ≡ too_long_line file)) (((v : V) × Says bytes v × Next v s' t') ⊎ ((s' ≡ Refused) × Refuses bytes t')) → AreOne fixed s t s' t'
  go true a b = (a.0 ∙ sym b.0, λ one. a.1 ∙ sym b.1)
  go false a b = second a b

pub one_answer : (fixed : Bool) (steps : Procedure) → IsSettled fixed steps → (files : Files) → AllowsOne fixed (Answers steps files)
one_answer fixed NoCommand settled files = λ s t s' t' a b. (a.0 ∙ sym b.0, λ one. a.1 ∙ sym b.1)
one_answer fixed (Answer May) settled files = settled.0
one_answer fixed (Unless None next) settled files = one_answer fixed next settled files
one_answer fixed (Unless (Some line) next) settled files = λ s t s' t' a b. (a.0 ∙ sym b.0, λ one. a.1 ∙ sym b.1)
one_answer fixed (Read file Says Refuses name next) settled files = stage_one fixed file Says Refuses (λ v. Answers (next v) files) settled.0 settled.1 (λ v. one_answer fixed (next v) (settled.2 v) files) (get files name)

-- ---- an unread file allows no answer

-- a file that is read goes on to what comes next
stage_read : {V : Type 0} (file : FileKind) (Says : List ℕ → V → Type 0) (Refuses : List ℕ → List ℕ → Type 0) (Next : V → Status → List ℕ → Type 0) → SaysOne Says → RefusesOne Says Refuses → (held : Option (List ℕ)) (v : V) (s : Status) (t : List ℕ) → IsRead file Says held v → Stage file Says Refuses Next held s t → Next v s t
stage_read {V} file Says Refuses Next one refuses held v s t read stage = go (nat_lt (most_of file) (length read.bytes)) (le-ltb (most_of file) (length read.bytes) read.within) (rw read.held_is at stage) where
  go : (long : Bool) → long ≡ false → MatchBool long ((s ≡ TooLong) × (t ≡ too_long_line file)) (((v : V) × Says read.bytes v × Next v s t) ⊎ ((s ≡ Refused) × Refuses read.bytes t)) → Next v s t
  go true e stage = absurd cc
  go false e (inl a) = subst (λ w. Next w s t) (one read.bytes a.0 v a.1 read.says) a.2
  go false e (inr a) = absurd (refuses.none read.bytes t v a.1 read.says)

missing : {V : Type 0} (file : FileKind) (Says : List ℕ → V → Type 0) (Refuses : List ℕ → List ℕ → Type 0) (Next : V → Status → List ℕ → Type 0) (held : Option (List ℕ)) (s : Status) (t : List ℕ) → held ≡ None → Stage file Says Refuses Next held s t → ⊥
missing file Says Refuses Next held s t is stage = rw is at stage

pub no_answer : (fixed : Bool) (steps : Procedure) → IsSettled fixed steps → (files : Files) (missed : FileKind) (before after : ℕ) (s : Status) (t : List ℕ) → ¬ Rose before after → IsUnread steps (Some files) before after missed → Answers steps files s t → ⊥
no_answer fixed NoCommand settled files missed before after s t fine un answer = un
no_answer fixed (Answer May) settled files missed before after s t fine un answer = un
no_answer fixed (Unless None next) settled files missed before after s t fine un answer = no_answer fixed next settled files missed before after s t fine un answer
no_answer fixed (Unless (Some line) next) settled files missed before after s t fine un answer = un
no_answer fixed (Read file Says Refuses name next) settled files missed before after s t fine (inl (at, inl rose)) answer = fine rose
no_answer fixed (Read file Says Refuses name next) settled files missed before after s t fine (inl (at, inr none)) answer = missing file Says Refuses (λ v. Answers (next v) files) (get files name) s t none answer
no_answer fixed (Read file Says Refuses name next) settled files missed before after s t fine (inr (v, read, un)) answer =
    no_answer fixed (next v) (settled.2 v) files missed before after s t fine un (stage_read file Says Refuses (λ v. Answers (next v) files) settled.0 settled.1 (get files name) v s t read answer)

-- ---- where every file is taken

-- two values that a file says are one
same_read : {V : Type 0} (file : FileKind) (Says : List ℕ → V → Type 0) → SaysOne Says → (held : Option (List ℕ)) (v w : V) → IsRead file Says held v → IsRead file Says held w → v ≡ w
same_read file Says one held v w a b =
    let both : Some a.bytes ≡ Some b.bytes = sym a.held_is ∙ b.held_is in
    let bytes : a.bytes ≡ b.bytes = cc in
    one b.bytes v w (subst (λ x. Says x v) bytes a.says) b.says

-- the answer is Done
pub only_done : (fixed : Bool) (steps : Procedure) → IsSettled fixed steps → (files : Files) (s : Status) (t : List ℕ) → AreTaken steps files → Answers steps files s t → s ≡ Done
only_done fixed NoCommand settled files s t taken answer = absurd taken
only_done fixed (Answer May) settled files s t taken answer = settled.1 s t answer
only_done fixed (Unless None next) settled files s t taken answer = only_done fixed next settled files s t taken answer
only_done fixed (Unless (Some line) next) settled files s t taken answer = absurd taken
only_done fixed (Read file Says Refuses name next) settled files s t taken answer =
    only_done fixed (next taken.0) (settled.2 taken.0) files s t taken.2 (stage_read file Says Refuses (λ v. Answers (next v) files) settled.0 settled.1 (get files name) taken.0 s t taken.1 answer)

-- no file is unread
pub none_unread : (fixed : Bool) (steps : Procedure) → IsSettled fixed steps → (files : Files) (missed : FileKind) (before after : ℕ) → ¬ Rose before after → AreTaken steps files → IsUnread steps (Some files) before after missed → ⊥
none_unread fixed NoCommand settled files missed before after fine taken un = un
none_unread fixed (Answer May) settled files missed before after fine taken un = un
none_unread fixed (Unless None next) settled files missed before after fine taken un = none_unread fixed next settled files missed before after fine taken un
none_unread fixed (Unless (Some line) next) settled files missed before after fine taken un = un
none_unread fixed (Read file Says Refuses name next) settled files missed before after fine taken (inl (at, inl rose)) = fine rose
none_unread fixed (Read file Says Refuses name next) settled files missed before after fine taken (inl (at, inr none)) =
    let both : Some taken.1.bytes ≡ None = sym taken.1.held_is ∙ none in
    absurd cc
none_unread fixed (Read {V} file Says Refuses name next) settled files missed before after fine taken (inr (v, read, un)) =
    let same : v ≡ taken.0 = same_read file Says settled.0 (get files name) v taken.0 read taken.1 in
    none_unread fixed (next taken.0) (settled.2 taken.0) files missed before after fine taken.2 (subst (λ w. IsUnread (next w) (Some files) before after missed) same un)

-- ---- answers

-- a text that is all of the answer is the only one
pub done_once : (fixed : Bool) (text : List ℕ) → IsSettled fixed (done_with text)
done_once fixed text = (λ s t s' t' a b. (a.0 ∙ sym b.0, λ one. a.1 ∙ sym b.1), λ s t a. a.0)

-- where the text isn't fixed
pub left_open : (MayBe : List ℕ → Type 0) → IsSettled false (done_with_any MayBe)
left_open MayBe = (λ s t s' t' a b. (a.0 ∙ sym b.0, λ one. let wrong : false ≡ true = one in absurd cc), λ s t a. a.0)

-- ---- what words ask for

-- it is settled where each command is, since words that are no command ask for nothing
pub settled_asked : {C : Type 0} (fixed : Option C → Bool) (procedure_of : C → Procedure) → ((command : C) → IsSettled (fixed (Some command)) (procedure_of command)) → (command : Option C) → IsSettled (fixed command) (asked procedure_of command)
settled_asked fixed procedure_of settled None = tt
settled_asked fixed procedure_of settled (Some command) = settled command
