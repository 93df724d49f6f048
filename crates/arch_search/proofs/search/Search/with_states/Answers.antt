use Rattle.std.proofs.Common.{◌∙◌, ℕ, Ok, ap, length, sym, subst}
use Rattle.std.proofs.lemmas.List.{length-replicate}
use Rattle.resource_table.specs.Schedules.{TableValue}
use Rattle.arch_search.specs.declared.state.State.{State}
use Rattle.arch_schedule.specs.Problems.{IsProblem}
use Rattle.arch_search.specs.States.{IsStateOf}
use Rattle.arch_schedule.specs.Rooms.{HasRoom}
use Rattle.arch_search.proofs.Searching.{at_ok, is_search}
use Rattle.arch_search.proofs.search.Search.with_states.Goals as goal

pub invariant_of-search : goal.invariant_of-search
invariant_of-search c =
    let all = at_ok c.both-all.result _ _ c.both-all.ensures.made c.in_ok-setting.ensures.made.0 in
    let base = at_ok c.both-base.result _ _ c.both-base.ensures.made all.0 in
    let parts = at_ok c.both-parts.result _ _ c.both-parts.ensures.made all.1 in
    let lists = at_ok c.both-lists.result _ _ c.both-lists.ensures.made parts.1 in
    let states = at_ok (Ok (c.args.best, (c.args.current, c.args.next))) _ (λ (s : State × (State × State)). IsStateOf c.args.problem.now s.0 × (IsStateOf c.args.problem.now s.1.0 × IsStateOf c.args.problem.now s.1.1)) (c.requires.best, (c.requires.current, c.requires.next)) c.in_ok-setting.ensures.made.1 in
    is_search c.in_ok-setting.setting c.args.problem.now _ c.in_ok-setting.room c.in_ok-setting.taken.items c.in_ok-setting.less.items c.in_ok-setting.best c.in_ok-setting.current c.in_ok-setting.next
    (at_ok c.new-2.result c.in_ok-setting.setting _ c.new-2.ensures.problem base.0)
    (at_ok c.new-2.result c.in_ok-setting.setting _ c.new-2.ensures.setting base.0)
    (subst (λ (t : TableValue). IsProblem t.job c.args.problem.now) (sym (at_ok c.new-3.result c.in_ok-setting.table _ c.new-3.ensures.empty base.1)) c.requires.problem)
    (at_ok c.new-3.result c.in_ok-setting.table _ c.new-3.ensures.sound base.1)
    (subst (λ (n : ℕ). HasRoom n c.in_ok-setting.room) (c.len.ensures ∙ c.args.problem.now.tests.ok.0) (at_ok c.new.result c.in_ok-setting.room _ c.new.ensures parts.0))
    (at_ok c.no_modules.result c.in_ok-setting.taken _ c.no_modules.ensures lists.0)
    (ap length (at_ok c.zeros.result c.in_ok-setting.less _ c.zeros.ensures lists.1) ∙ length-replicate c.args.problem.now.wires 0)
    states.0 states.1.0 states.1.1
