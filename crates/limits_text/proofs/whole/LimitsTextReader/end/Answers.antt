use Rattle.limits_text.proofs.Progress.{ends}
use Rattle.limits_text.proofs.whole.LimitsTextReader.end.Goals as goal

pub returns : goal.returns
returns c = λ words few has. ends words c.args.self c.into_inner-items.result c.end_text.result c.into_inner-items.ensures few has c.end_text.ensures.items c.end_text.ensures.form
