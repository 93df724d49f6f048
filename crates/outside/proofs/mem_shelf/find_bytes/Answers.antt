use Rattle.std.proofs.Common.{◌≡◌, ℕ, List, map, Bool, true, false, Some, sym, ◌∙◌, ap, nat_eq}
use Rattle.std.specs.Ordering.{nat_cmp}
use Rattle.std.specs.Cmp.Lexicographic.{slice_cmp, pointwise, nat_list_cmp_total}
use Rattle.std.specs.FinMap.{get, find, get-from_entries}
use Rattle.outside.proofs.EntryLemmas.{find_here, pair_of}
use Rattle.outside.proofs.mem_shelf.find_bytes.Goals as goal

pub loop-entry-init : goal.loop-entry-init
loop-entry-init c =
    get-from_entries nat_list_cmp_total _ _
    ∙ ap (λ es. find (slice_cmp nat_cmp) c.args.name.now (map pair_of es)) (sym c.into_iter-entry-iterator.ensures.into_iter_gives.0)

-- what the scan says of this entry, for either answer of the test
step : (name : List ℕ) (found : Bool) (at_test : List ℕ) (e : List ℕ) → at_test ≡ e → found ≡ pointwise nat_eq name at_test → (b : Bool) → found ≡ b → pointwise nat_eq name e ≡ b
step name found at_test e same is b was = ap (pointwise nat_eq name) (sym same) ∙ sym is ∙ was

pub returns-then-eq : goal.returns-then-eq
returns-then-eq c =
    let is_name = step c.args.name.now c.eq.result c.as_slice.result.now _ c.as_slice.ensures.value c.eq.ensures true c.if-eq.true in
    let all : get _ c.args.name.now ≡ Some c.in-Some.entry.now.bytes.items = c.loop-entry.invariant
    ∙ ap (λ es. find (slice_cmp nat_cmp) c.args.name.now (map pair_of es)) c.in-Some.ensures.steps
    ∙ find_here c.args.name.now c.in-Some.entry.now _ true is_name in
    ap Some c.as_slice-then-eq.ensures.value ∙ sym all

pub loop-entry-preserved : goal.loop-entry-preserved
loop-entry-preserved c =
    let is_name = step c.args.name.now c.eq.result c.as_slice.result.now _ c.as_slice.ensures.value c.eq.ensures false c.if-eq.false in
    c.loop-entry.invariant ∙ ap (λ es. find (slice_cmp nat_cmp) c.args.name.now (map pair_of es)) c.in-Some.ensures.steps
    ∙ find_here c.args.name.now c.in-Some.entry.now _ false is_name
