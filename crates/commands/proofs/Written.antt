-- What is written of a verdict is an answer to what was asked for, each status where its cause is.
use Rattle.std.proofs.Common.{◌≡◌, ◌≢◌, ℕ, inl, inr, List, Option, None, Some, refl, sym, ◌∙◌, subst, IsTrue}
use Rattle.std.specs.Global.{Vec}
use Rattle.outside.specs.Held.{Files, Rose, Appended}
use Rattle.commands.specs.declared.FileKind.{FileKind}
use Rattle.commands.specs.declared.FileKind.TheVariants.{Soc, Limits, Plan, Tree, Program, Log, Proof, Data}
use Rattle.commands.specs.declared.Status.{Status}
use Rattle.commands.specs.declared.Status.TheVariants.{Done, Refused, BadWords, ReadFault, TooLong, WriteFault, NoMemory}
use Rattle.commands.specs.declared.Verdict.{Verdict}
use Rattle.commands.specs.declared.Verdict.TheVariants.{Answered, CannotRead, NoMemory as OutOfMemory}
use Rattle.commands.specs.Texts.{is_line, unread_line, bad_words_line}
use Rattle.commands.specs.Procedures.{Procedure, Read, Unless, Answer, NoCommand}
use Rattle.commands.specs.Decides.{Suits, IsUnread, Follows, Decides}
use Rattle.commands.specs.Ends.{IsWritten, Writes, MayAnswer, Ends, OneLine, EndsByWords, SaysBadWords}

-- ---- what is decided may be answered

unread_of : (steps : Procedure) (held : Option Files) (sb sa : ℕ) (file : FileKind) → Decides steps held sb sa (CannotRead file) → IsUnread steps held sb sa file
unread_of NoCommand held sb sa file d = absurd d
unread_of (Answer May) held sb sa file d = d
unread_of (Unless refusal next) held sb sa file d = d
unread_of (Read file' Says Refuses name next) held sb sa file d = d

-- a status and a text that a command is decided to end with
followed : (steps : Procedure) (held : Option Files) (sb sa : ℕ) (status : Status) (text : Vec ℕ) → Follows steps held sb sa (Answered status text) → MayAnswer steps held sb sa status text.items
followed steps held sb sa Done text d = d.1
followed steps held sb sa Refused text d = d.1
followed steps held sb sa BadWords text d = absurd d.0
followed steps held sb sa ReadFault text d = absurd d.0
followed steps held sb sa TooLong text d = d.1
followed steps held sb sa WriteFault text d = absurd d.0
followed steps held sb sa NoMemory text d = absurd d.0

-- and those of words that are no command
bad_answer : (held : Option Files) (sb sa : ℕ) (status : Status) (text : List ℕ) → status ≡ BadWords → text ≡ bad_words_line → MayAnswer NoCommand held sb sa status text
bad_answer held sb sa status text is is' = subst (λ s. MayAnswer NoCommand held sb sa s text) (sym is) (told held) where
  told : (held : Option Files) → MayAnswer NoCommand held sb sa BadWords text
  told None = tt
  told (Some files) = (refl, is')

answer_of : (steps : Procedure) (held : Option Files) (sb sa : ℕ) (status : Status) (text : Vec ℕ) → Decides steps held sb sa (Answered status text) → MayAnswer steps held sb sa status text.items
answer_of NoCommand held sb sa status text d = bad_answer held sb sa status text.items d.0 d.1
answer_of (Answer May) held sb sa status text d = followed (Answer May) held sb sa status text d
answer_of (Unless refusal next) held sb sa status text d = followed (Unless refusal next) held sb sa status text d
answer_of (Read file Says Refuses name next) held sb sa status text d = followed (Read file Says Refuses name next) held sb sa status text d

-- ---- how a call ends

-- a text that was written whole
ends_whole : (steps : Procedure) (held : Option Files) (sb sa kb ka : ℕ) (old new : Option (List ℕ)) (status : Status) (text : List ℕ) → MayAnswer steps held sb sa status text → Appended old text new → Ends (MayAnswer steps held sb sa) kb ka old status new
ends_whole steps held sb sa kb ka old new Done text may put = (text, may, put)
ends_whole steps held sb sa kb ka old new Refused text may put = (text, may, put)
ends_whole steps held sb sa kb ka old new BadWords text may put = (text, may, put)
ends_whole steps held sb sa kb ka old new ReadFault text may put = (text, may, put)
ends_whole steps held sb sa kb ka old new TooLong text may put = (text, may, put)
ends_whole steps held sb sa kb ka old new WriteFault text may put = absurd may
ends_whole steps held sb sa kb ka old new NoMemory text may put = absurd may

-- a text that may be answered was written, or a front of it
pub ends_text : (steps : Procedure) (held : Option Files) (sb sa kb ka : ℕ) (old new : Option (List ℕ)) (end status : Status) (text : List ℕ) → MayAnswer steps held sb sa status text → IsWritten status text kb ka old end new → Ends (MayAnswer steps held sb sa) kb ka old end new
ends_text steps held sb sa kb ka old new end status text may (inl w) = subst (λ s. Ends (MayAnswer steps held sb sa) kb ka old s new) (sym w.0) (ends_whole steps held sb sa kb ka old new status text may w.1)
ends_text steps held sb sa kb ka old new end status text may (inr w) = subst (λ s. Ends (MayAnswer steps held sb sa) kb ka old s new) (sym w.0) (w.1, (status, text, may, w.2))

pub ends : (steps : Procedure) (held : Option Files) (sb sa kb ka : ℕ) (old new : Option (List ℕ)) (end : Status) (verdict : Verdict) → Decides steps held sb sa verdict → Writes verdict kb ka old end new → Ends (MayAnswer steps held sb sa) kb ka old end new
ends steps held sb sa kb ka old new end (Answered status text) d w = ends_text steps held sb sa kb ka old new end status text.items (answer_of steps held sb sa status text d) w
ends steps held sb sa kb ka old new end (CannotRead file) d w = ends_text steps held sb sa kb ka old new end ReadFault (unread_line file) (file, refl, unread_of steps held sb sa file d) w
ends steps held sb sa kb ka old new end OutOfMemory d w = subst (λ s. Ends (MayAnswer steps held sb sa) kb ka old s new) (sym w.0) w.1

-- ---- one line

unread_is_line : (file : FileKind) → IsTrue (is_line (unread_line file))
unread_is_line Soc = refl
unread_is_line Limits = refl
unread_is_line Plan = refl
unread_is_line Tree = refl
unread_is_line Program = refl
unread_is_line Log = refl
unread_is_line Proof = refl
unread_is_line Data = refl

-- a text that suits its status
suited : (status : Status) (text : List ℕ) (old new : Option (List ℕ)) → Suits status text → Appended old text new → OneLine old status new
suited Done text old new suits put = tt
suited Refused text old new suits put = (text, suits, put)
suited BadWords text old new suits put = absurd suits
suited ReadFault text old new suits put = absurd suits
suited TooLong text old new suits put = (text, suits, put)
suited WriteFault text old new suits put = absurd suits
suited NoMemory text old new suits put = absurd suits

-- an answer but Done is one line
line_of : (steps : Procedure) (held : Option Files) (sb sa : ℕ) (status : Status) (text : Vec ℕ) (old new : Option (List ℕ)) → Decides steps held sb sa (Answered status text) → Appended old text.items new → OneLine old status new
line_of NoCommand held sb sa status text old new d put = subst (λ s. OneLine old s new) (sym d.0) (text.items, rw d.1 refl, put)
line_of (Answer May) held sb sa status text old new d put = suited status text.items old new d.0 put
line_of (Unless refusal next) held sb sa status text old new d put = suited status text.items old new d.0 put
line_of (Read file Says Refuses name next) held sb sa status text old new d put = suited status text.items old new d.0 put

pub one_line : (steps : Procedure) (held : Option Files) (sb sa kb ka : ℕ) (old new : Option (List ℕ)) (end : Status) (verdict : Verdict) → Decides steps held sb sa verdict → Writes verdict kb ka old end new → OneLine old end new
one_line steps held sb sa kb ka old new end (Answered status text) d (inl w) = subst (λ s. OneLine old s new) (sym w.0) (line_of steps held sb sa status text old new d w.1)
one_line steps held sb sa kb ka old new end (Answered status text) d (inr w) = subst (λ s. OneLine old s new) (sym w.0) tt
one_line steps held sb sa kb ka old new end (CannotRead file) d (inl w) = subst (λ s. OneLine old s new) (sym w.0) (unread_line file, unread_is_line file, w.1)
one_line steps held sb sa kb ka old new end (CannotRead file) d (inr w) = subst (λ s. OneLine old s new) (sym w.0) tt
one_line steps held sb sa kb ka old new end OutOfMemory d w = subst (λ s. OneLine old s new) (sym w.0) w.1

-- ---- words

-- what a command is decided to end with isn't BadWords
never_bad : (steps : Procedure) (held : Option Files) (sb sa kb ka : ℕ) (old new : Option (List ℕ)) (end : Status) (verdict : Verdict) → Follows steps held sb sa verdict → Writes verdict kb ka old end new → end ≢ BadWords
never_bad steps held sb sa kb ka old new end (Answered status text) d (inl w) bad = let suits : Suits BadWords text.items = subst (λ s. Suits s text.items) (sym w.0 ∙ bad) d.0 in absurd suits
never_bad steps held sb sa kb ka old new end (Answered status text) d (inr w) bad = let wrong : WriteFault ≡ BadWords = sym w.0 ∙ bad in absurd cc
never_bad steps held sb sa kb ka old new end (CannotRead file) d (inl w) bad = let wrong : ReadFault ≡ BadWords = sym w.0 ∙ bad in absurd cc
never_bad steps held sb sa kb ka old new end (CannotRead file) d (inr w) bad = let wrong : WriteFault ≡ BadWords = sym w.0 ∙ bad in absurd cc
never_bad steps held sb sa kb ka old new end OutOfMemory d w bad = let wrong : NoMemory ≡ BadWords = sym w.0 ∙ bad in absurd cc

pub by_words : (steps : Procedure) (held : Option Files) (sb sa kb ka : ℕ) (old new : Option (List ℕ)) (end : Status) (verdict : Verdict) → Decides steps held sb sa verdict → Writes verdict kb ka old end new → EndsByWords steps (Rose kb ka) end
by_words NoCommand held sb sa kb ka old new end (Answered status text) d (inl w) = inl (w.0 ∙ d.0)
by_words NoCommand held sb sa kb ka old new end (Answered status text) d (inr w) = inr (inr (w.0, w.1))
by_words NoCommand held sb sa kb ka old new end (CannotRead file) d w = absurd d
by_words NoCommand held sb sa kb ka old new end OutOfMemory d w = inr (inl w.0)
by_words (Answer May) held sb sa kb ka old new end verdict d w = never_bad (Answer May) held sb sa kb ka old new end verdict d w
by_words (Unless refusal next) held sb sa kb ka old new end verdict d w = never_bad (Unless refusal next) held sb sa kb ka old new end verdict d w
by_words (Read file Says Refuses name next) held sb sa kb ka old new end verdict d w = never_bad (Read file Says Refuses name next) held sb sa kb ka old new end verdict d w

pub says_bad_words : (steps : Procedure) (held : Option Files) (sb sa kb ka : ℕ) (old new : Option (List ℕ)) (end : Status) (verdict : Verdict) → Decides steps held sb sa verdict → Writes verdict kb ka old end new → SaysBadWords old end new
says_bad_words NoCommand held sb sa kb ka old new end (Answered status text) d (inl w) bad = subst (λ t. Appended old t new) d.1 w.1
says_bad_words NoCommand held sb sa kb ka old new end (Answered status text) d (inr w) bad = let wrong : WriteFault ≡ BadWords = sym w.0 ∙ bad in absurd cc
says_bad_words NoCommand held sb sa kb ka old new end (CannotRead file) d w bad = absurd d
says_bad_words NoCommand held sb sa kb ka old new end OutOfMemory d w bad = let wrong : NoMemory ≡ BadWords = sym w.0 ∙ bad in absurd cc
says_bad_words (Answer May) held sb sa kb ka old new end verdict d w bad = absurd (never_bad (Answer May) held sb sa kb ka old new end verdict d w bad)
says_bad_words (Unless refusal next) held sb sa kb ka old new end verdict d w bad = absurd (never_bad (Unless refusal next) held sb sa kb ka old new end verdict d w bad)
says_bad_words (Read file Says Refuses name next) held sb sa kb ka old new end verdict d w bad = absurd (never_bad (Read file Says Refuses name next) held sb sa kb ka old new end verdict d w bad)
