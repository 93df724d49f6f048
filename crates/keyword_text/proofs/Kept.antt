-- What each step keeps holds of all that is read.
use Rattle.std.proofs.Common.{◌≡◌, ℕ, List, [], ◌∷◌, ◌++◌, Option, None, Some, refl, sym, ◌∙◌, ap, subst, append_assoc, append-nil}
use Rattle.outside.specs.Runs.{run_by}
use Rattle.outside.proofs.Runs.{run-none, run-append}
use Rattle.keyword_text.specs.declared.tokens.Token.{Token}
use Rattle.keyword_text.specs.declared.tokens.Token.TheVariants.{Key, Number}
use Rattle.keyword_text.specs.Machines.{Machine, IsRun}
use Rattle.common_lemmas.proofs.Options.{never_both}

-- a relation of the words that were read and the state after them, which each step keeps
abbrev pub IsKept : {K S V : Type 0} → Machine K S V → (List (Token K) → S → Type 0) → Type 0
IsKept {K} {S} m Holds = (ts : List (Token K)) (s next : S) (t : Token K) → Holds ts s → m.step s t ≡ Some next → Holds (ts ++ t ∷ []) next

-- the relation holds of the state that a step comes to, where it comes to one
abbrev pub HoldsNext : {K S : Type 0} → (List (Token K) → S → Type 0) → Option S → List (Token K) → Type 0
HoldsNext Holds None ts = Unit {0}
HoldsNext Holds (Some s) ts = Holds ts s

-- a relation that each number and each keyword keeps
pub kept_by_words : {K S V : Type 0} (m : Machine K S V) (Holds : List (Token K) → S → Type 0) →
    ((ts : List (Token K)) (s : S) (n : ℕ) → Holds ts s → HoldsNext Holds (m.step s (Number n)) (ts ++ Number n ∷ [])) →
    ((ts : List (Token K)) (s : S) (k : K) → Holds ts s → HoldsNext Holds (m.step s (Key k)) (ts ++ Key k ∷ [])) → IsKept m Holds
kept_by_words m Holds numbers keys ts s next (Number n) holds goes = subst (λ o. HoldsNext Holds o (ts ++ Number n ∷ [])) goes (numbers ts s n holds)
kept_by_words m Holds numbers keys ts s next (Key k) holds goes = subst (λ o. HoldsNext Holds o (ts ++ Key k ∷ [])) goes (keys ts s k holds)

from_here : {K S V : Type 0} (m : Machine K S V) (Holds : List (Token K) → S → Type 0) → IsKept m Holds → (before ts : List (Token K)) (s e : S) → Holds before s → run_by m.step (Some s) ts ≡ Some e → Holds (before ++ ts) e
from_here {K} {S} m Holds kept before [] s e holds runs =
    let same : s ≡ e = cc in
    subst (λ l. Holds l e) (sym (append-nil before)) (subst (Holds before) same holds)
from_here {K} {S} m Holds kept before (t ∷ ts) s e holds runs = by (m.step s t) refl (λ next into rest. from_here m Holds kept (before ++ t ∷ []) ts next e (kept before s next t holds into) rest)
  where
    by : (o : Option S) → m.step s t ≡ o → ((next : S) → m.step s t ≡ Some next → run_by m.step (Some next) ts ≡ Some e → Holds ((before ++ t ∷ []) ++ ts) e) → Holds (before ++ t ∷ ts) e
    by None none go = absurd (never_both (run_by m.step (m.step s t) ts) e (ap (λ (o : Option S). run_by m.step o ts) none ∙ run-none m.step ts) runs)
    by (Some next) into go = subst (λ l. Holds l e) (append_assoc before (t ∷ []) ts) (go next into (sym (ap (λ (o : Option S). run_by m.step o ts) into) ∙ runs))

-- it holds of all that is read
pub kept_holds : {K S V : Type 0} (m : Machine K S V) (Holds : List (Token K) → S → Type 0) → Holds [] m.start → IsKept m Holds → (ts : List (Token K)) (s : S) → IsRun m ts s → Holds ts s
kept_holds m Holds first kept ts s runs = from_here m Holds kept [] ts m.start s first runs

-- words that are read one part after the other
pub run_both : {K S V : Type 0} (m : Machine K S V) (s middle end : S) (a b : List (Token K)) → run_by m.step (Some s) a ≡ Some middle → run_by m.step (Some middle) b ≡ Some end → run_by m.step (Some s) (a ++ b) ≡ Some end
run_both {K} {S} m s middle end a b first rest = run-append m.step (Some s) a b ∙ ap (λ (o : Option S). run_by m.step o b) first ∙ rest
