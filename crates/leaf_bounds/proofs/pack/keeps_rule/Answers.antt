use Rattle.std.proofs.Common.{◌+◌, refl, ap, subst, ◌∙◌, arith, length, All}
use Rattle.plan_model.specs.Proofs.{pricing_value}
use Rattle.leaf_bounds.specs.Bases.{chip_of, lists_of, claim_of}
use Rattle.leaf_bounds.specs.LeafSlots.{IsNamed}
use Rattle.leaf_bounds.specs.PackLeaves.{ArePricedOnce, pack_work}
use Rattle.leaf_bounds.proofs.pack.keeps_rule.Goals as goal

pub returns-then-cells-gt-PACK_CELLS_MOST-clause-no : goal.returns-then-cells-gt-PACK_CELLS_MOST-clause-no
returns-then-cells-gt-PACK_CELLS_MOST-clause-no c = λ e k of rule.
    omega (arith, c.cells_of-cells.ensures (pricing_value c.args.pricing.now) refl, rule.few, c.if-cells-gt-PACK_CELLS_MOST.true)

pub returns-clause-work : goal.returns-clause-work
returns-clause-work c = λ e k of.
    let cells = c.cells_of-cells.ensures (pricing_value c.args.pricing.now) refl in
    let work = c.pack_work.ensures.work k (claim_of c.args.basis.now) of cells ∙ ap (λ w. pack_work w (claim_of c.args.basis.now) k (pricing_value c.args.pricing.now)) c.requires.of.wires in
    (c.note_work.ensures.yes e).1 ∙ ap (λ n. c.args.room.now.work + n) work

pub returns-clause-yes : goal.returns-clause-yes
returns-clause-yes c = λ e k of.
    let cells = c.cells_of-cells.ensures (pricing_value c.args.pricing.now) refl in
    let work = c.pack_work.ensures.work k (claim_of c.args.basis.now) of cells ∙ ap (λ w. pack_work w (claim_of c.args.basis.now) k (pricing_value c.args.pricing.now)) c.requires.of.wires in
    let noted = c.note_work.ensures.yes e in
    let little = noted.0 in
    let named = rw (c.known_ranks-known.ensures, c.deref-2.ensures.value, c.deref-3.ensures.value) at (c.if-not-are_named.ensures.yes refl) in
    record {
      some = c.requires.prices.grain;
      modules = subst (ArePricedOnce (chip_of c.args.basis.now)) c.deref.ensures.value (c.if-not-are_priced_once.ensures.yes refl);
      named = subst (λ n. All (IsNamed (lists_of c.args.basis.now) n) c.args.pricing.now.lists.items) (ap length of.intervals) named;
      few = omega (arith, cells, c.if-cells-gt-PACK_CELLS_MOST.false);
      little = omega (arith, little, work);
    }

pub returns-clause-no : goal.returns-clause-no
returns-clause-no c = λ e k of rule.
    let cells = c.cells_of-cells.ensures (pricing_value c.args.pricing.now) refl in
    let work = c.pack_work.ensures.work k (claim_of c.args.basis.now) of cells ∙ ap (λ w. pack_work w (claim_of c.args.basis.now) k (pricing_value c.args.pricing.now)) c.requires.of.wires in
    (c.note_work.ensures.no e).0 (omega (arith, rule.little, work))
