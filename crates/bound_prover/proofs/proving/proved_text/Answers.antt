use Rattle.bound_prover.proofs.proving.proved_text.Goals as goal

pub returns-then-cycles-eq0-clause-text : goal.returns-then-cycles-eq0-clause-text
returns-then-cycles-eq0-clause-text g c = c.nothing_for.ensures c.args.cycles c.args.nodes c.requires.some

pub returns-in-None-clause-text : goal.returns-in-None-clause-text
returns-in-None-clause-text g c = c.nothing_for-in-None.ensures c.args.cycles c.args.nodes c.requires.some
