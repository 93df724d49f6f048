use Rattle.soc_reader.proofs.Progress.{whole_read, ends}
use Rattle.soc_reader.proofs.whole.ChipTextReader.end.Goals as goal

pub returns-in-Ok : goal.returns-in-Ok
returns-in-Ok c = λ words few has. whole_read words c.args.self c.into_inner-kept.result c.close_text.new.kept c.chip_kept.result c.in-Ok.field-0 c.into_inner-kept.ensures has c.in-Ok.ensures c.chip_kept.ensures.soc c.chip_kept.ensures.totals

pub returns-in-Err : goal.returns-in-Err
returns-in-Err c = λ words few has. ends (Unit {0}) words c.args.self c.into_inner-kept.result c.close_text.new.kept c.in-Err.stop c.into_inner-kept.ensures has c.in-Err.ensures
