-- Texts that are sent one after another.
use Rattle.std.proofs.Common.{◌≡◌, ℕ, ◌+◌, ◌≤◌, inl, inr, true, false, List, [], ◌++◌, Option, length, take, sym, ◌∙◌, ap, subst, arith, append_assoc}
use Rattle.std.proofs.Math.Seq.{take-append-add}
use Rattle.std.proofs.lemmas.List.{append-nil, take-append-le, length-append}
use Rattle.outside.specs.Held.{Rose, Appended, AppendedFront}
use Rattle.outside.specs.Puts.{Puts}
use Rattle.outside.specs.declared.sink.Put.{Put}
use Rattle.outside.proofs.PieceLemmas.{Appended-nil, Appended-then, puts_then}
use Rattle.tester_commands.specs.Sending.{HasSent, HasFailed}

pub nothing_sent : {S : Type 0} (is_put : S → List ℕ → Put → S → Type 0) (written : S → Option (List ℕ)) (first : S) (before : List ℕ) → HasSent is_put written first first before [] before
nothing_sent is_put written first before = record { sent = []; goes = Appended-nil (written first); all = append-nil before; puts = Puts.begins }

pub sent_then : {S : Type 0} (is_put : S → List ℕ → Put → S → Type 0) (written : S → Option (List ℕ)) (first mid last : S) (before x between y after : List ℕ) →
    HasSent is_put written first mid before x between → HasSent is_put written mid last between y after → HasSent is_put written first last before (x ++ y) after
sent_then is_put written first mid last before x between y after a b = record {
  sent = a.sent ++ b.sent;
  goes = Appended-then (written first) (written mid) (written last) a.sent b.sent a.goes b.goes;
  all = sym (append_assoc before x y) ∙ ap (λ t. t ++ y) a.all ∙ append_assoc a.sent between y ∙ ap (λ t. a.sent ++ t) b.all ∙ sym (append_assoc a.sent b.sent after);
  puts = puts_then is_put first mid last false a.puts b.puts;
}

-- a front of what comes behind something that was written
front_after : (a b c : Option (List ℕ)) (x y whole : List ℕ) → whole ≡ x ++ y → Appended a x b → AppendedFront b y c → AppendedFront a whole c
front_after a b c x y whole is first front =
    let cut : take (length x + front.0) whole ≡ x ++ take front.0 y = ap (take (length x + front.0)) is ∙ take-append-add x y front.0 in
    let long : length whole ≡ length x + length y = ap length is ∙ length-append x y in
    (length x + front.0, omega (arith, long, front.1), rw cut (Appended-then a b c x (take front.0 y) first front.2))

front_longer : (a c : Option (List ℕ)) (y rest : List ℕ) → AppendedFront a y c → AppendedFront a (y ++ rest) c
front_longer a c y rest front =
    let cut : take front.0 (y ++ rest) ≡ take front.0 y = take-append-le front.0 y rest front.1 in
    (front.0, omega (arith, front.1, length-append y rest), rw cut front.2)

rose_later : (a b c : ℕ) → a ≤ b → Rose b c → Rose a c
rose_later a b c less (inl rose) = inl (omega arith)
rose_later a b c less (inr full) = inr full

pub failed_later : {S : Type 0} (is_put : S → List ℕ → Put → S → Type 0) (written : S → Option (List ℕ)) (faults : S → ℕ) (first mid last : S) (before x between y : List ℕ) → faults first ≤ faults mid →
    HasSent is_put written first mid before x between → HasFailed is_put written faults mid last (between ++ y) → HasFailed is_put written faults first last (before ++ (x ++ y))
failed_later is_put written faults first mid last before x between y less a b = record {
  front = front_after (written first) (written mid) (written last) a.sent (between ++ y) (before ++ (x ++ y)) (sym (append_assoc before x y) ∙ ap (λ t. t ++ y) a.all ∙ append_assoc a.sent between y) a.goes b.front;
  fault = rose_later (faults first) (faults mid) (faults last) less b.fault;
  puts = puts_then is_put first mid last true a.puts b.puts;
}

pub failed_longer : {S : Type 0} (is_put : S → List ℕ → Put → S → Type 0) (written : S → Option (List ℕ)) (faults : S → ℕ) (first last : S) (text more : List ℕ) → HasFailed is_put written faults first last text → HasFailed is_put written faults first last (text ++ more)
failed_longer is_put written faults first last text more f = record { front = front_longer (written first) (written last) text more f.front; fault = f.fault; puts = f.puts }

-- what failed within a first text failed within both
pub failed_first : {S : Type 0} (is_put : S → List ℕ → Put → S → Type 0) (written : S → Option (List ℕ)) (faults : S → ℕ) (first last : S) (before x y : List ℕ) → HasFailed is_put written faults first last (before ++ x) →
    HasFailed is_put written faults first last (before ++ (x ++ y))
failed_first is_put written faults first last before x y f =
    subst (λ (text : List ℕ). HasFailed is_put written faults first last text) (append_assoc before x y) (failed_longer is_put written faults first last (before ++ x) y f)

-- ---- in a loop

pub sent_more : {S : Type 0} (is_put : S → List ℕ → Put → S → Type 0) (written : S → Option (List ℕ)) (first mid last : S) (before done between piece after more : List ℕ) →
    HasSent is_put written first mid before done between → HasSent is_put written mid last between piece after → done ++ piece ≡ more → HasSent is_put written first last before more after
sent_more is_put written first mid last before done between piece after more a b same =
    subst (λ (text : List ℕ). HasSent is_put written first last before text after) same (sent_then is_put written first mid last before done between piece after a b)

pub failed_within : {S : Type 0} (is_put : S → List ℕ → Put → S → Type 0) (written : S → Option (List ℕ)) (faults : S → ℕ) (first mid last : S) (before done between piece rest whole : List ℕ) → faults first ≤ faults mid →
    HasSent is_put written first mid before done between → HasFailed is_put written faults mid last (between ++ piece) → done ++ (piece ++ rest) ≡ whole → HasFailed is_put written faults first last (before ++ whole)
failed_within is_put written faults first mid last before done between piece rest whole less a b same =
    let longer = failed_longer is_put written faults mid last (between ++ piece) rest b in
    subst (λ (text : List ℕ). HasFailed is_put written faults first last (before ++ text)) same
    (failed_later is_put written faults first mid last before done between (piece ++ rest) less a (subst (λ (text : List ℕ). HasFailed is_put written faults mid last text) (append_assoc between piece rest) longer))

-- what was put into the block, and then settled
pub put_then : {S : Type 0} (is_put : S → List ℕ → Put → S → Type 0) (written : S → Option (List ℕ)) (first last : S) (before piece between after : List ℕ) → between ≡ before ++ piece →
    HasSent is_put written first last between [] after → HasSent is_put written first last before piece after
put_then is_put written first last before piece between after put a =
    record { sent = a.sent; goes = a.goes; all = sym put ∙ sym (append-nil between) ∙ a.all; puts = a.puts }

pub failed_put : {S : Type 0} (is_put : S → List ℕ → Put → S → Type 0) (written : S → Option (List ℕ)) (faults : S → ℕ) (first last : S) (text same : List ℕ) → text ≡ same → HasFailed is_put written faults first last text → HasFailed is_put written faults first last same
failed_put is_put written faults first last text same is f = subst (λ (t : List ℕ). HasFailed is_put written faults first last t) is f

pub sent_same : {S : Type 0} (is_put : S → List ℕ → Put → S → Type 0) (written : S → Option (List ℕ)) (first last : S) (before text same after : List ℕ) → text ≡ same → HasSent is_put written first last before text after → HasSent is_put written first last before same after
sent_same is_put written first last before text same after is a = subst (λ (t : List ℕ). HasSent is_put written first last before t after) is a

pub failed_same : {S : Type 0} (is_put : S → List ℕ → Put → S → Type 0) (written : S → Option (List ℕ)) (faults : S → ℕ) (first last : S) (before text same : List ℕ) → text ≡ same → HasFailed is_put written faults first last (before ++ text) → HasFailed is_put written faults first last (before ++ same)
failed_same is_put written faults first last before text same is f = subst (λ (t : List ℕ). HasFailed is_put written faults first last (before ++ t)) is f
