use Rattle.std.proofs.Common.{refl}
use Rattle.std.proofs.lemmas.Result.{on_ok_weaker}
use Rattle.soc_reader.specs.Table.{entry, lengths, nothing}
use Rattle.soc_reader.proofs.Adding.{went-added, went-indexed, list-went}
use Rattle.soc_reader.proofs.collect.add_list.Goals as goal

pub returns-clause-added : goal.returns-clause-added
returns-clause-added c =
    on_ok_weaker c.go_on.result
    (λ went. went-added (entry c.args.subject c.args.key (lengths c.args.list.items)) c.args.kept.now _ c.go_on.new.kept (list-went c.args.subject c.args.key c.args.list.items _ c.go_on.new.kept went) refl refl refl refl refl (λ m w. refl) c.tell_chains.ensures.said)
    c.go_on.ensures.went_on

pub returns-clause-indexed : goal.returns-clause-indexed
returns-clause-indexed c =
    on_ok_weaker c.go_on.result (λ went. went-indexed (entry c.args.subject c.args.key nothing) _ c.go_on.new.kept went c.tell_chains.ensures.indexed) c.go_on.ensures.went_on
