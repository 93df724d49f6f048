use Rattle.std.proofs.Common.{◌+◌, ◌∙◌, List, ap, length, map, subst, sym, arith, All, sum_by}
use Rattle.soc_model.specs.Chips.{soc_value}
use Rattle.tester_commands.specs.declared.parts.Part.{Part}
use Rattle.tester_commands.specs.DataParts.{IsSmallPart, part_length, part_value}
use Rattle.tester_commands.proofs.SmallParts.{all_small, few_parts, text_made, length_made}
use Rattle.tester_commands.proofs.made_text.MadeData.new.Goals as goal

pub parts_length-length-requires-clause-small : goal.parts_length-length-requires-clause-small
parts_length-length-requires-clause-small c =
    subst (λ (ps : List Part). All (λ (p : Part). IsSmallPart (part_value p)) ps) (sym c.deref.ensures.value) (all_small (soc_value c.args.soc.now) c.requires c.args.seed c.in_ok-parts.parts.items c.in_ok-parts.ensures)

pub parts_length-length-requires-clause-few : goal.parts_length-length-requires-clause-few
parts_length-length-requires-clause-few c =
    let same = ap (λ (ps : List Part). length ps) c.deref.ensures.value in
    omega (arith, same, few_parts (soc_value c.args.soc.now) c.requires c.args.seed c.in_ok-parts.parts.items c.in_ok-parts.ensures)

pub returns : goal.returns
returns c = record {
  text_is = text_made (soc_value c.args.soc.now) c.requires c.args.seed c.in_ok-parts.parts.items c.in_ok-parts.ensures;
  length_is = ap (λ n. 7 + n) (c.parts_length-length.ensures.is ∙ ap (λ (ps : List Part). sum_by part_length (map part_value ps)) c.deref.ensures.value)
      ∙ length_made (soc_value c.args.soc.now) c.requires c.args.seed c.in_ok-parts.parts.items c.in_ok-parts.ensures;
  small = all_small (soc_value c.args.soc.now) c.requires c.args.seed c.in_ok-parts.parts.items c.in_ok-parts.ensures;
  room = c.in_ok-block.ensures.room;
  empty = c.in_ok-block.ensures.empty;
}
