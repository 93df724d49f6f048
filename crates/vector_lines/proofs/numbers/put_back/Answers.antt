use Rattle.std.proofs.Common.{◌≡◌, ℕ, ◌+◌, ◌-◌, ◌^◌, ◌<◌, ◌≤◌, ◌∙◌, refl, ap, sym, subst, List, length, drop, arith, slice_index}
use Rattle.std.proofs.lemmas.List.{drop-drop}
use Rattle.vector_lines.specs.Numbers.{all_numbers, IsWalk}
use Rattle.vector_lines.specs.Vectors.{ArePutDown}
use Rattle.vector_lines.specs.declared.numbers.Walk.{Walk}
use Rattle.vector_lines.proofs.Columns.{same_down, up_block}
use Rattle.vector_lines.proofs.Walks.{has_next, walk_first, walk_number, walk_on}
use Rattle.vector_lines.proofs.numbers.put_back.Goals as goal

pub refilled-here-requires-clause-next : goal.refilled-here-requires-clause-next
refilled-here-requires-clause-next g c =
    has_next (c.args.last + 1 - c.loop-above.above) (omega (arith, c.loop-above-test.true, c.requires.within)) c.loop-above.invariant.walk

pub put_run-value-requires-clause-value : goal.put_run-value-requires-clause-value
put_run-value-requires-clause-value g c =
    let few : c.min-some.result ≤ c.refilled-here.result.left = omega (arith, c.min-some.ensures) in
    walk_first c.min-some.result few (c.refilled-here.ensures.walk _ c.loop-above.invariant.walk)

pub loop-above-preserved : goal.loop-above-preserved
loop-above-preserved g c =
    let values : ℕ → ℕ = g.B.PatternBits.value_of c.args.bits.now in
    let byte : ℕ → ℕ = g.B.PatternBits.byte_of c.args.bits.now in
    let numbers : List ℕ = all_numbers c.args.runs.now in
    let here : Walk = c.refilled-here.result in
    let some : ℕ = c.min-some.result in
    let above : ℕ = c.loop-above.above in
    let place : ℕ = c.args.last + 1 - above in
    let few : some ≤ here.left = omega (arith, c.min-some.ensures) in
    let fewer : some ≤ above = omega (arith, c.min-some.ensures) in
    let most : above ≤ c.args.count = c.loop-above.invariant.few in
    let is : IsWalk c.args.runs.now values here (drop place numbers) = c.refilled-here.ensures.walk _ c.loop-above.invariant.walk in
    let fits : is.number + some < 2 ^ 64 = let fits = is.fits in omega (arith, fits, few) in
    let on : place + some ≡ c.args.last + 1 - (above - some) = omega (arith, fewer, most, c.requires.back) in
    let under : c.args.at.row + above ≡ c.args.at.row + (above - some) + some = omega (arith, fewer) in
    let total : some + (c.args.count - above) ≡ c.args.count - (above - some) = omega (arith, fewer, most) in
    record {
      few = omega (arith, most);
      walk = subst (λ n. IsWalk c.args.runs.now values (record { run = here.run; left = here.left - some; value = c.put_run-value.result }) (drop n numbers)) on
          (subst (IsWalk c.args.runs.now values (record { run = here.run; left = here.left - some; value = c.put_run-value.result })) (drop-drop some place numbers)
          (walk_on some few is c.put_run-value.result c.put_run-value.ensures.after));
      text = same_down (c.args.count - (above - some)) (λ (i : ℕ). byte (slice_index numbers (c.args.last - (above - some + i)))) (c.args.at.row + (above - some)) refl total (λ i. refl)
          (up_block (c.args.count - above) (λ (i : ℕ). byte (slice_index numbers (c.args.last - (above + i)))) (λ (i : ℕ). byte (slice_index numbers (c.args.last - (above - some + i)))) c.requires.column (λ i less.
          let there : place + (some - 1 - i) ≡ c.args.last - (above - some + i) = omega (arith, less, fewer, most, c.requires.back) in
          let within : place + (some - 1 - i) < length numbers = omega (arith, less, fewer, most, c.requires.back, c.requires.within) in
          ap byte (sym (walk_number place numbers (some - 1 - i) within (omega (arith, less, few)) is))
          ∙ ap (λ n. byte (slice_index numbers n)) there) (λ i less. let same : c.args.last - (above + i) ≡ c.args.last - (above - some + (some + i)) = omega (arith, fewer) in ap (λ n. byte (slice_index numbers n)) same)
          (subst (λ (r : ℕ). ArePutDown c.args.at.wires r (c.args.count - above) c.args.at.column
          (λ (i : ℕ). byte (slice_index numbers (c.args.last - (above + i)))) c.args.text.now c.loop-above.text) under c.loop-above.invariant.text) (c.put_run-value.ensures.put is.number is.value fits));
    }

pub returns : goal.returns
returns g c =
    let byte : ℕ → ℕ = g.B.PatternBits.byte_of c.args.bits.now in
    let numbers : List ℕ = all_numbers c.args.runs.now in
    let above : ℕ = c.loop-above.above in
    let none : above ≡ 0 = omega (arith, c.loop-above-test.false) in
    same_down c.args.count (λ (i : ℕ). byte (slice_index numbers (c.args.last - i))) c.args.at.row (omega (arith, none)) (omega (arith, none))
    (λ i. let same : c.args.last - (above + i) ≡ c.args.last - i = omega (arith, none) in ap (λ n. byte (slice_index numbers n)) same) c.loop-above.invariant.text
