use Rattle.std.proofs.Common.{◌≡◌, Bool, true, false, refl, sym, ◌∙◌, not}
use Rattle.std.proofs.Math.Bool.{beq}
use Rattle.std.proofs.lemmas.Bool.{eqb-true}
use Rattle.leaf_bounds.proofs.pack_buses.is_worth_same.Goals as goal

same_bits : (a b : Bool) → not (beq a b) ≡ false → a ≡ b
same_bits true true e = refl
same_bits true false e = absurd cc
same_bits false true e = absurd cc
same_bits false false e = refl

pub returns : goal.returns
returns c = λ e k pricing of same ready. record {
  slot = sym (c.has_slot-has.ensures k of) ∙ same_bits c.has_slot-has.result c.has_slot-had.result c.if-has-had.false ∙ c.has_slot-had.ensures k of;
  cells = λ h. sym (c.cells_taken-cells.ensures pricing same) ∙ c.if-cells-were.false ∙ c.cells_taken-were.ensures pricing same;
  net = λ h. sym (c.net_worth-net.ensures.net k pricing of ready) ∙ eqb-true c.net_worth-net.result c.net_worth-was.result e ∙ c.net_worth-was.ensures.net k pricing of ready;
}
