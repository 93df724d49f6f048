-- Options and results.
use Rattle.std.proofs.Common.{◌≡◌, Some, None, Bool, false, Option, refl, true, cond, ℕ, ◌≤◌, arith, Result, Ok, Err, OnOk}
use Rattle.std.specs.Prelude.{is_some, IfSome}

pub some_same : {X : Type 0} (x y : X) → Some x ≡ Some y → x ≡ y
some_same x y e = cc

pub none_some : {X : Type 0} {x : X} → None ≡ Some x → ⊥
none_some e = cc

pub none_from : {X : Type 0} (o : Option X) (t : Bool) → t ≡ is_some o → t ≡ false → o ≡ None
none_from None t is e = refl
none_from (Some x) t is e = absurd cc

pub never_both : {T : Type 0} (o : Option T) (x : T) → o ≡ None → o ≡ Some x → ⊥
never_both o x e f = cc

-- a choice that gives nothing
pub cond_none : {X : Type 0} (b : Bool) (x : X) → cond b (Some x) None ≡ None → b ≡ false
cond_none true x e = cc
cond_none false x e = refl

-- a limit on more is one on fewer
pub if_fewer : (limit : Option ℕ) (a b : ℕ) → a ≤ b → IfSome limit (λ most. b ≤ most) → IfSome limit (λ most. a ≤ most)
if_fewer None a b less h = tt
if_fewer (Some most) a b less h = omega (arith, less, h)

pub if_some : {X : Type 0} (o : Option X) (P : X → Type 0) → ((x : X) → o ≡ Some x → P x) → IfSome o P
if_some None P h = tt
if_some (Some x) P h = h x refl

-- what follows from what was promised
pub on_ok : {A E P Q : Type 0} (r : Result A E) → (P → Q) → OnOk r P → OnOk r Q
on_ok (Ok x) f p = f p
on_ok (Err e) f p = p
