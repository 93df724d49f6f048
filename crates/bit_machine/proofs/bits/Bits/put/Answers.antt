use Rattle.std.proofs.Common.{◌≡◌, ◌<◌, ◌/◌, ◌∙◌, sym, ap, length, set, arith}
use Rattle.bit_machine.specs.Packed.{is_set}
use Rattle.bit_machine.proofs.PackedBits.{packed_long, packed_put}
use Rattle.bit_machine.proofs.bits.Bits.put.Goals as goal
use Rattle.common_lemmas.proofs.Lists.{any_default}

pub index-word-requires : goal.index-word-requires
index-word-requires c =
    let long : length c.args.self.now ≡ c.self.inside.count = ap length (sym c.self.view_is) ∙ packed_long c.self.inside.words.items c.self.inside.count in
    omega (arith, long, c.requires, c.self.invariant, c.self.inside.words.ok.0)

pub index_mut-requires : goal.index_mut-requires
index_mut-requires c =
    let long : length c.args.self.now ≡ c.self.inside.count = ap length (sym c.self.view_is) ∙ packed_long c.self.inside.words.items c.self.inside.count in
    omega (arith, long, c.requires, c.self.invariant, c.self.inside.words.ok.0)

pub returns : goal.returns
returns c =
    let long : length c.args.self.now ≡ c.self.inside.count = ap length (sym c.self.view_is) ∙ packed_long c.self.inside.words.items c.self.inside.count in
    let less : c.args.place < c.self.inside.count = omega (arith, long, c.requires) in
    packed_put c.self.inside.words.items c.self.inside.count c.args.place c.with_bit.result c.self.invariant less c.with_bit.ensures.here (λ j l other. c.with_bit.ensures.others j l other
    ∙ ap (λ w. is_set w j) (c.index-word.ensures ∙ any_default c.self.inside.words.items (c.args.place / 64) c.index-word.result.now 0 (omega (arith, less, c.self.invariant)))) ∙ ap (λ bits. set bits c.args.place c.args.bit) c.self.view_is
