use Rattle.schedule_search.proofs.search.Search.new.Goals as goal

pub invariant_of-result : goal.invariant_of-result
invariant_of-result g c = c.in_ok-table.ensures.kept
