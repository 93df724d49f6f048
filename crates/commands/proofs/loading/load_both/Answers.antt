use Rattle.std.proofs.Common.{rules, ◌≡◌, ◌∙◌, ap, Err}
use Rattle.std.proofs.lemmas.Result.{err_from_is_err_and}
use Rattle.commands.proofs.AllFiles.{without_chip, without_limits}
use Rattle.commands.proofs.LoadedFiles.{two_without_chip, two_without_limits}
use Rattle.commands.proofs.loading.load_both.Goals as goal

pub returns-in_err-bounds-clause-loads : goal.returns-in_err-bounds-clause-loads
returns-in_err-bounds-clause-loads g c =
    let gives = err_from_is_err_and c.from_residual-in_err-bounds.result c.from_residual-in_err-bounds.ensures.1 in
    let is : c.from_residual-in_err-bounds.result ≡ Err c.in_err-bounds.field-0.0 = gives.1 ∙ ap Err gives.2 in
    let none = rw c.load_chip.ensures.held_stays at c.in_err-bounds.ensures.loads in
    without_limits _ _ _ _ (g.H.Shelf.faults c.load_chip.new.shelf) _ _ c.in_err-bounds.field-0.0 _ c.load_chip.ensures.faults_never_fall c.in_ok-soc.ensures.loads none is

pub returns-in_err-soc-clause-loads : goal.returns-in_err-soc-clause-loads
returns-in_err-soc-clause-loads g c =
    let is : c.from_residual.result ≡ Err c.in_err-soc.field-0.0 = search rules in
    without_chip _ _ _ _ _ c.in_err-soc.field-0.0 _ c.in_err-soc.ensures.loads is

pub returns-in_err-bounds-clause-by_loads : goal.returns-in_err-bounds-clause-by_loads
returns-in_err-bounds-clause-by_loads g c =
    let gives = err_from_is_err_and c.from_residual-in_err-bounds.result c.from_residual-in_err-bounds.ensures.1 in
    let is : c.from_residual-in_err-bounds.result ≡ Err c.in_err-bounds.field-0.0 = gives.1 ∙ ap Err gives.2 in
    two_without_limits g.H.Shelf.is_load _ _ _ _ c.load_chip.new.shelf _ c.in_err-bounds.field-0.0 _ c.in_ok-soc.ensures.by_loads c.in_err-bounds.ensures.by_loads is

pub returns-in_err-soc-clause-by_loads : goal.returns-in_err-soc-clause-by_loads
returns-in_err-soc-clause-by_loads g c =
    let is : c.from_residual.result ≡ Err c.in_err-soc.field-0.0 = search rules in
    two_without_chip g.H.Shelf.is_load _ _ _ _ c.in_err-soc.field-0.0 _ c.in_err-soc.ensures.by_loads is

pub returns-clause-by_loads : goal.returns-clause-by_loads
returns-clause-by_loads g c = record { mid = c.load_chip.new.shelf; chip_is = c.in_ok-soc.ensures.by_loads; limits_are = c.in_ok-bounds.ensures.by_loads }
