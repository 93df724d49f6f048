use Rattle.std.proofs.Common.{◌≡◌, ℕ, ◌+◌, ◌-◌, ◌∙◌, ap, subst, arith}
use Rattle.vector_lines.specs.Vectors.{ArePutDown}
use Rattle.vector_lines.proofs.Columns.{up_more}
use Rattle.vector_lines.proofs.numbers.put_run.Goals as goal

pub loop-place-preserved : goal.loop-place-preserved
loop-place-preserved g c =
    let values : ℕ → ℕ = g.B.PatternBits.value_of c.args.pattern.now in
    let byte : ℕ → ℕ = g.B.PatternBits.byte_of c.args.pattern.now in
    let place : ℕ = c.loop-place.place in
    let below : ℕ = c.args.count - (place + 1) in
    let above : c.args.at.row + (c.args.count - place) ≡ c.args.at.row + below + 1 = omega (arith, c.loop-place-test.true) in
    let row : c.args.at.row + (c.args.count - 1 - place) ≡ c.args.at.row + below = omega arith in
    record {
      long = c.put_byte.ensures.long ∙ c.loop-place.invariant.long;
      value = λ n e f.
          let on : n + place + 1 ≡ n + (place + 1) = omega arith in
          c.next-value.ensures (n + place) (c.loop-place.invariant.value n e f) (omega (arith, f, c.loop-place-test.true)) ∙ ap values on;
      text = λ n e f.
          let own : n + place ≡ n + (place + 1 - 1 - 0) = omega arith in
          up_more place (λ (i : ℕ). byte (n + (place + 1 - 1 - i))) c.requires.column (c.byte.ensures (n + place) (c.loop-place.invariant.value n e f)
          ∙ ap byte own) (λ i less. let same : n + (place - 1 - i) ≡ n + (place + 1 - 1 - (i + 1)) = omega arith in ap byte same)
          (subst (λ (r : ℕ). ArePutDown c.args.at.wires r place c.args.at.column (λ (i : ℕ). byte (n + (place - 1 - i))) c.args.text.now c.loop-place.text) above (c.loop-place.invariant.text n e f))
          (subst (λ (r : ℕ). ArePutDown c.args.at.wires r 1 c.args.at.column (λ (i : ℕ). c.byte.result) c.loop-place.text c.put_byte.new.text) row c.put_byte.ensures);
    }

pub returns-clause-put : goal.returns-clause-put
returns-clause-put g c = λ n e f.
    let byte : ℕ → ℕ = g.B.PatternBits.byte_of c.args.pattern.now in
    let done : c.loop-place.place ≡ c.args.count = omega (arith, c.loop-place-test.false, c.loop-place.auto.place-end) in
    let top : c.args.at.row + (c.args.count - c.args.count) ≡ c.args.at.row = omega arith in
    subst (λ (r : ℕ). ArePutDown c.args.at.wires r c.args.count c.args.at.column (λ (i : ℕ). byte (n + (c.args.count - 1 - i))) c.args.text.now c.loop-place.text) top
    (subst (λ (p : ℕ). ArePutDown c.args.at.wires (c.args.at.row + (c.args.count - p)) p c.args.at.column (λ (i : ℕ). byte (n + (p - 1 - i))) c.args.text.now c.loop-place.text) done (c.loop-place.invariant.text n e f))
