use Rattle.std.proofs.Common.{◌∙◌, ap, subst, map, sum}
use Rattle.plan_model.specs.Views.{chain_value}
use Rattle.vector_lines.specs.Layouts.{IsStarts}
use Rattle.vector_lines.proofs.LayoutsMade.{layout_from}
use Rattle.vector_lines.proofs.layout.Layout.new.Goals as goal

pub returns-clause-layout : goal.returns-clause-layout
returns-clause-layout c =
    let same = c.deref.ensures.value ∙ c.in_ok-lengths.ensures in
    layout_from (record { lengths = c.in_ok-lengths.lengths; starts = c.in_ok-starts.starts; flops = c.in_ok-starts.flops; chains = c.in_ok-copy_of.field-0 }) c.requires.proper c.requires.small c.in_ok-lengths.ensures
    (subst (λ ns. IsStarts ns c.in_ok-starts.starts.items) same c.in_ok-starts.ensures.starts) (c.in_ok-starts.ensures.flops ∙ ap sum same) (c.in_ok-copy_of.ensures ∙ ap (map chain_value) c.deref-2.ensures.value)
