use Rattle.std.proofs.Common.{◌≡◌, ◌<◌, ◌/◌, ◌%◌, ◌∙◌, sym, ap, length, get_or, false, arith}
use Rattle.bit_machine.specs.Packed.{is_set}
use Rattle.bit_machine.proofs.PackedBits.{packed_long, packed_at}
use Rattle.bit_machine.proofs.bits.Bits.bit.Goals as goal
use Rattle.common_lemmas.proofs.Lists.{any_default}

pub index-requires : goal.index-requires
index-requires c =
    let long : length c.args.self.now ≡ c.self.inside.count = ap length (sym c.self.view_is) ∙ packed_long c.self.inside.words.items c.self.inside.count in
    omega (arith, long, c.requires, c.self.invariant, c.self.inside.words.ok.0)

pub returns : goal.returns
returns c =
    let long : length c.args.self.now ≡ c.self.inside.count = ap length (sym c.self.view_is) ∙ packed_long c.self.inside.words.items c.self.inside.count in
    let less : c.args.place < c.self.inside.count = omega (arith, long, c.requires) in
    c.is_set.ensures ∙ ap (λ w. is_set w (c.args.place % 64)) (c.index.ensures ∙ any_default c.self.inside.words.items (c.args.place / 64) c.index.result.now 0 (omega (arith, less, c.self.invariant)))
    ∙ sym (packed_at c.self.inside.words.items c.self.inside.count c.args.place less) ∙ ap (λ bits. get_or bits c.args.place false) c.self.view_is
