use Rattle.std.proofs.Common.{◌∙◌, ap, sym, subst, ◌+◌, ◌≤◌}
use Rattle.std.specs.List.{sum}
use Rattle.wrapper_design.specs.Design.{Mode, design, longest_part}
use Rattle.wrapper_design.specs.Balance.{in_length_of, out_length_of}
use Rattle.wrapper_design.proofs.Limits.{in_path, out_path}
use Rattle.wrapper_design.proofs.path_lengths.PathLengths.at.Goals as goal

pub returns-clause-si : goal.returns-clause-si
returns-clause-si c =
    let m : Mode = record { lengths = c.self.inside.lengths.now; ins = c.self.inside.ins; outs = c.self.inside.outs } in
    let same = c.self.view_is ∙ c.longest.ensures.kept in
    let longest = c.in_ok-longest.ensures.longest ∙ ap (λ (v : Mode). longest_part v.lengths c.args.width) (sym same) in
    let path = in_path m c.args.width c.in_ok-longest.longest c.self.inside.flops c.level-si.result c.requires.some_wire longest c.self.invariant.flops_are c.level-si.ensures in
    path.0 ∙ ap (λ (v : Mode). in_length_of v (design v c.args.width)) same

pub returns-clause-si_bounded : goal.returns-clause-si_bounded
returns-clause-si_bounded c =
    let m : Mode = record { lengths = c.self.inside.lengths.now; ins = c.self.inside.ins; outs = c.self.inside.outs } in
    let same = c.self.view_is ∙ c.longest.ensures.kept in
    let longest = c.in_ok-longest.ensures.longest ∙ ap (λ (v : Mode). longest_part v.lengths c.args.width) (sym same) in
    let path = in_path m c.args.width c.in_ok-longest.longest c.self.inside.flops c.level-si.result c.requires.some_wire longest c.self.invariant.flops_are c.level-si.ensures in
    subst (λ (v : Mode). c.level-si.result ≤ v.ins + sum v.lengths) same path.1

pub returns-clause-so : goal.returns-clause-so
returns-clause-so c =
    let m : Mode = record { lengths = c.self.inside.lengths.now; ins = c.self.inside.ins; outs = c.self.inside.outs } in
    let same = c.self.view_is ∙ c.longest.ensures.kept in
    let longest = c.in_ok-longest.ensures.longest ∙ ap (λ (v : Mode). longest_part v.lengths c.args.width) (sym same) in
    let path = out_path m c.args.width c.in_ok-longest.longest c.self.inside.flops c.level-so.result c.requires.some_wire longest c.self.invariant.flops_are c.level-so.ensures in
    path.0 ∙ ap (λ (v : Mode). out_length_of v (design v c.args.width)) same

pub returns-clause-so_bounded : goal.returns-clause-so_bounded
returns-clause-so_bounded c =
    let m : Mode = record { lengths = c.self.inside.lengths.now; ins = c.self.inside.ins; outs = c.self.inside.outs } in
    let same = c.self.view_is ∙ c.longest.ensures.kept in
    let longest = c.in_ok-longest.ensures.longest ∙ ap (λ (v : Mode). longest_part v.lengths c.args.width) (sym same) in
    let path = out_path m c.args.width c.in_ok-longest.longest c.self.inside.flops c.level-so.result c.requires.some_wire longest c.self.invariant.flops_are c.level-so.ensures in
    subst (λ (v : Mode). c.level-so.result ≤ v.outs + sum v.lengths) same path.1
