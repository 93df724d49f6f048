use Rattle.soc_model.specs.Chips.{soc_value, numbers}
use Rattle.plan_checker.proofs.Finding.{place_found, place_missing}
use Rattle.plan_checker.proofs.lookups.find_module.Goals as goal

pub returns-clause-found : goal.returns-clause-found
returns-clause-found c = place_found (numbers (soc_value c.args.soc.now)) ((soc_value c.args.soc.now).keys) c.args.number c.place_of.result c.place_of.ensures c.requires.keyed

pub returns-clause-none : goal.returns-clause-none
returns-clause-none c = place_missing (numbers (soc_value c.args.soc.now)) ((soc_value c.args.soc.now).keys) c.args.number c.place_of.result c.place_of.ensures c.requires.keyed
