use Rattle.std.proofs.Common.{length, length-take, get_or, take, ap, arith, ◌∙◌, ◌++◌, ◌∷◌, [], ℕ, Bool, List, vec_capacity, ◌≡◌, ◌+◌, ◌<◌, true, false, cond, sym, nat_eq, filter}
use Rattle.schedule_search.proofs.Outside.{filter_few}
use Rattle.std.specs.Global.{Vec}
use Rattle.std.proofs.lemmas.Bool.{eq-eqb, ne_eqb}
use Rattle.schedule_search.proofs.prefix.fill_free.Goals.{then-missing-test-eq0, else-missing-test-eq0}
use Rattle.std.proofs.lemmas.List.Elements.{filter_more}
use Rattle.std.proofs.lemmas.List.{append-nil}
use Rattle.schedule_search.proofs.prefix.fill_free.Goals as goal

-- one more item of a list, where it passes a test and where it doesn't
filter_takes : (p : ℕ → Bool) (xs : List ℕ) (i : ℕ) → i < length xs → p (get_or xs i 0) ≡ true → filter p (take i xs) ++ get_or xs i 0 ∷ [] ≡ filter p (take (i + 1) xs)
filter_takes p xs i within yes' = sym (filter_more p xs i 0 within ∙ ap (λ b. filter p (take i xs) ++ cond b (get_or xs i 0 ∷ []) []) yes')

filter_leaves : (p : ℕ → Bool) (xs : List ℕ) (i : ℕ) → i < length xs → p (get_or xs i 0) ≡ false → filter p (take i xs) ≡ filter p (take (i + 1) xs)
filter_leaves p xs i within no' = sym (filter_more p xs i 0 within ∙ ap (λ b. filter p (take i xs) ++ cond b (get_or xs i 0 ∷ []) []) no' ∙ append-nil (filter p (take i xs)))

pub push_reserved-requires : goal.push_reserved-requires
push_reserved-requires c =
    let few = filter_few (λ test. nat_eq (get_or c.args.missing.now test 0) 0) (take c.loop-test.test-index c.args.tests.now) in
    omega (arith, c.loop-test.free.ok.0, ap length c.loop-test.invariant.items, few, length-take c.loop-test.test-index c.args.tests.now, c.loop-test-test.true, c.requires.room, c.loop-test.invariant.room, c.clear.ensures.capacity)

pub loop-test-preserved : goal.loop-test-preserved
loop-test-preserved c =
    let i : ℕ = c.loop-test.test-index in
    let tests : List ℕ = c.args.tests.now in
    let test : ℕ = get_or tests i 0 in
    let free : ℕ → Bool = λ (t : ℕ). nat_eq (get_or c.args.missing.now t 0) 0 in
    let inv = c.loop-test.invariant in
    let within = c.loop-test-test.true in
    elim c.if-missing-test-eq0.branch [
      | then-missing-test-eq0 w ↦ record {
        items = ap (λ (v : Vec ℕ). v.items) w.free-is ∙ w.push_reserved.ensures.items ∙ ap (λ (l : List ℕ). l ++ test ∷ []) inv.items ∙ filter_takes free tests i within (eq-eqb (get_or c.args.missing.now test 0) 0 w.if-missing-test-eq0.true);
        room = ap (λ (v : Vec ℕ). vec_capacity v) w.free-is ∙ w.push_reserved.ensures.capacity ∙ inv.room;
      }
      | else-missing-test-eq0 w ↦ record {
        items = ap (λ (v : Vec ℕ). v.items) w.free-is ∙ inv.items ∙ filter_leaves free tests i within (ne_eqb (get_or c.args.missing.now test 0) 0 w.if-missing-test-eq0.false);
        room = ap (λ (v : Vec ℕ). vec_capacity v) w.free-is ∙ inv.room;
      }
    ]
