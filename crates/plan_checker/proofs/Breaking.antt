-- The first item that breaks a rule, over lists of lists.
use Rattle.std.proofs.Common.{◌≡◌, ℕ, zero, suc, ◌+◌, ◌≤◌, ◌<◌, false, Option, Some, None, is_some, true≢false, List, [], ◌∷◌, ◌++◌, length, get_or, take, drop, refl, ap, ◌∙◌, sym, subst, arith, inl, inr, append_assoc, slice_get, IfSome, IfNone, flat_map}
use Rattle.std.proofs.lemmas.List.{take_more, take_all, append-nil}
use Rattle.std.proofs.lemmas.List.Concat.{flat_map-append}
use Rattle.std.proofs.lemmas.Option.{slice_get_within, get_or_from_slice_get}
use Rattle.plan_model.specs.Rules.{IsFirstBreach}
use Rattle.plan_model.proofs.Lists.{from_append}
use Rattle.plan_checker.specs.Broken.{EachOf, Breaks}

pub of_none : {X : Type 0} (Q : X → Type 0) → EachOf Q []
of_none Q n x e = absurd cc

pub of_one : {X : Type 0} (Q : X → Type 0) (x : X) → Q x → EachOf Q (x ∷ [])
of_one Q x q zero y e = let same : x ≡ y = cc in subst Q same q
of_one Q x q (suc n) y e = absurd cc

pub of_append : {X : Type 0} (Q : X → Type 0) (xs ys : List X) → EachOf Q xs → EachOf Q ys → EachOf Q (xs ++ ys)
of_append Q xs ys a b n x e = elim (from_append xs ys n x e) [ inl l ↦ a n x l | inr r ↦ b r.0 x r.2 ]

get_middle : {X : Type 0} (xs : List X) (x : X) (ys : List X) → slice_get (xs ++ x ∷ ys) (length xs) ≡ Some x
get_middle [] x ys = refl
get_middle (y ∷ xs) x ys = get_middle xs x ys

get_before : {X : Type 0} (xs ys : List X) (m : ℕ) (y : X) → m < length xs → slice_get (xs ++ ys) m ≡ Some y → slice_get xs m ≡ Some y
get_before [] ys m y h e = absurd (omega arith)
get_before (x ∷ xs) ys zero y h e = e
get_before (x ∷ xs) ys (suc m) y h e = get_before xs ys m y (omega arith) e

pub breaks_first : {X : Type 0} (Q : X → Type 0) (xs : List X) (x : X) → Breaks Q xs x → (n : ℕ) × IsFirstBreach (λ earlier y. Q y) xs n x
breaks_first Q xs x b = (
  length b.before,
  record {
    there = rw b.is (get_middle b.before x b.behind);
    breaks = b.broken;
    earlier = λ m y less at. b.kept m y (get_before b.before (x ∷ b.behind) m y less (rw b.is at at));
  },
)

pub breaks_one : {X : Type 0} (Q : X → Type 0) (x : X) → (Q x → ⊥) → Breaks Q (x ∷ []) x
breaks_one Q x no' = record { before = []; behind = []; is = refl; kept = of_none Q; broken = no' }

pub breaks_front : {X : Type 0} (Q : X → Type 0) (xs ys : List X) (x : X) → Breaks Q xs x → Breaks Q (xs ++ ys) x
breaks_front Q xs ys x b = record { before = b.before; behind = b.behind ++ ys; is = rw b.is (append_assoc b.before (x ∷ b.behind) ys); kept = b.kept; broken = b.broken }

pub breaks_behind : {X : Type 0} (Q : X → Type 0) (xs ys : List X) (x : X) → EachOf Q xs → Breaks Q ys x → Breaks Q (xs ++ ys) x
breaks_behind Q xs ys x a b = record { before = xs ++ b.before; behind = b.behind; is = rw b.is (sym (append_assoc xs b.before (x ∷ b.behind))); kept = of_append Q xs b.before a b.kept; broken = b.broken }

-- ---- lists of lists, one after another

flat_one : {X Y : Type 0} (f : X → List Y) (x : X) → flat_map f (x ∷ []) ≡ f x
flat_one f x = append-nil (f x)

pub flat_more : {X Y : Type 0} (f : X → List Y) (xs : List X) (i : ℕ) (x : X) → i < length xs → get_or xs i x ≡ x → flat_map f (take (i + 1) xs) ≡ flat_map f (take i xs) ++ f x
flat_more f xs i x h e = ap (flat_map f) (take_more xs i x h) ∙ flat_map-append f (take i xs) (get_or xs i x ∷ []) ∙ ap (λ v. flat_map f (take i xs) ++ flat_map f (v ∷ [])) e ∙ ap (λ v. flat_map f (take i xs) ++ v) (flat_one f x)

pub flat_split : {X Y : Type 0} (f : X → List Y) (xs : List X) (i : ℕ) (x : X) → i < length xs → get_or xs i x ≡ x → flat_map f xs ≡ flat_map f (take i xs) ++ (f x ++ flat_map f (drop (suc i) xs))
flat_split f [] i x h e = absurd (omega arith)
flat_split f (y ∷ xs) zero x h e = rw e refl
flat_split f (y ∷ xs) (suc i) x h e = rw (flat_split f xs i x (omega arith) e) (sym (append_assoc (f y) (flat_map f (take i xs)) (f x ++ flat_map f (drop (suc i) xs))))

pub flat_kept : {X Y : Type 0} (Q : Y → Type 0) (f : X → List Y) (xs : List X) (i : ℕ) (x : X) → i < length xs → get_or xs i x ≡ x → EachOf Q (flat_map f (take i xs)) → EachOf Q (f x) → EachOf Q (flat_map f (take (i + 1) xs))
flat_kept Q f xs i x h e a b = rw (flat_more f xs i x h e) (of_append Q (flat_map f (take i xs)) (f x) a b)

pub flat_breaks : {X Y : Type 0} (Q : Y → Type 0) (f : X → List Y) (xs : List X) (i : ℕ) (x : X) (y : Y) → i < length xs → get_or xs i x ≡ x → EachOf Q (flat_map f (take i xs)) → Breaks Q (f x) y → Breaks Q (flat_map f xs) y
flat_breaks Q f xs i x y h e a b = rw (flat_split f xs i x h e) (breaks_behind Q (flat_map f (take i xs)) (f x ++ flat_map f (drop (suc i) xs)) y a (breaks_front Q (f x) (flat_map f (drop (suc i) xs)) y b))

-- ---- by place

pub flat_kept_at : {X Y : Type 0} (Q : Y → Type 0) (f : X → List Y) (xs : List X) (i : ℕ) (x : X) → slice_get xs i ≡ Some x → EachOf Q (flat_map f (take i xs)) → EachOf Q (f x) → EachOf Q (flat_map f (take (i + 1) xs))
flat_kept_at Q f xs i x at a b = flat_kept Q f xs i x (slice_get_within xs i x at) (get_or_from_slice_get xs i x x at) a b

pub flat_breaks_at : {X Y : Type 0} (Q : Y → Type 0) (f : X → List Y) (xs : List X) (i : ℕ) (x : X) (y : Y) → slice_get xs i ≡ Some x → EachOf Q (flat_map f (take i xs)) → Breaks Q (f x) y → Breaks Q (flat_map f xs) y
flat_breaks_at Q f xs i x y at a b = flat_breaks Q f xs i x y (slice_get_within xs i x at) (get_or_from_slice_get xs i x x at) a b

pub flat_all : {X Y : Type 0} (Q : Y → Type 0) (f : X → List Y) (xs : List X) (i : ℕ) → length xs ≤ i → EachOf Q (flat_map f (take i xs)) → EachOf Q (flat_map f xs)
flat_all Q f xs i h a = rw (take_all i xs h) at a

pub if_broken : {X Y : Type 0} (Q : Y → Type 0) (f : X → List Y) (xs : List X) (i : ℕ) (x : X) (r : Option Y) → slice_get xs i ≡ Some x → EachOf Q (flat_map f (take i xs)) → IfSome r (λ y. Breaks Q (f x) y) → IfSome r (λ y. Breaks Q (flat_map f xs) y)
if_broken Q f xs i x None at a b = tt
if_broken Q f xs i x (Some y) at a b = flat_breaks_at Q f xs i x y at a b

pub if_none : {X : Type 0} (r : Option X) (P : Type 0) → is_some r ≡ false → IfNone r P → P
if_none None P e p = p
if_none (Some x) P e p = absurd (true≢false e)

pub flat_more_at : {X Y : Type 0} (f : X → List Y) (xs : List X) (i : ℕ) (x : X) → slice_get xs i ≡ Some x → flat_map f (take (i + 1) xs) ≡ flat_map f (take i xs) ++ f x
flat_more_at f xs i x at = flat_more f xs i x (slice_get_within xs i x at) (get_or_from_slice_get xs i x x at)

-- ---- an item at a time

split_item : {X : Type 0} (xs : List X) (i : ℕ) (x : X) → slice_get xs i ≡ Some x → xs ≡ take i xs ++ (x ∷ drop (suc i) xs)
split_item [] i x e = absurd cc
split_item (y ∷ xs) zero x e = let same : y ≡ x = cc in rw same refl
split_item (y ∷ xs) (suc i) x e = ap (λ v. y ∷ v) (split_item xs i x e)

pub kept_more : {X : Type 0} (Q : X → Type 0) (xs : List X) (i : ℕ) (x : X) → slice_get xs i ≡ Some x → EachOf Q (take i xs) → Q x → EachOf Q (take (i + 1) xs)
kept_more Q xs i x at a q = rw (take_more xs i x (slice_get_within xs i x at), get_or_from_slice_get xs i x x at) (of_append Q (take i xs) (x ∷ []) a (of_one Q x q))

pub breaks_at : {X : Type 0} (Q : X → Type 0) (xs : List X) (i : ℕ) (x : X) → slice_get xs i ≡ Some x → EachOf Q (take i xs) → (Q x → ⊥) → Breaks Q xs x
breaks_at Q xs i x at a no' = record { before = take i xs; behind = drop (suc i) xs; is = split_item xs i x at; kept = a; broken = no' }

pub kept_all : {X : Type 0} (Q : X → Type 0) (xs : List X) (i : ℕ) → length xs ≤ i → EachOf Q (take i xs) → EachOf Q xs
kept_all Q xs i h a = rw (take_all i xs h) at a
