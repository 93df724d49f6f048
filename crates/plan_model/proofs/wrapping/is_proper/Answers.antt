use Rattle.std.proofs.Common.{refl, sym, ◌∙◌, inl, inr}
use Rattle.std.proofs.lemmas.Bool.{cases_Bool}
use Rattle.soc_model.specs.Chips.{module_value}
use Rattle.plan_model.proofs.ProperByCounts.{counted_is_proper, proper_is_counted}
use Rattle.plan_model.proofs.wrapping.is_proper.Goals as goal

pub returns-then-not-takes_terminals-clause-only : goal.returns-then-not-takes_terminals-clause-only
returns-then-not-takes_terminals-clause-only c = λ proper.
    let is = proper_is_counted (module_value c.args.«module».now) c.args.wrapper.now.scan c.args.wrapper.now.chains.items proper in
    c.if-not-takes_terminals.ensures.only (rw c.deref.ensures.value is.ins) (rw c.deref.ensures.value is.outs)

pub returns-then-not-all_below-clause-only : goal.returns-then-not-all_below-clause-only
returns-then-not-all_below-clause-only c = λ proper.
    let is = proper_is_counted (module_value c.args.«module».now) c.args.wrapper.now.scan c.args.wrapper.now.chains.items proper in
    c.if-not-all_below.ensures ∙ rw (c.deref-2.ensures.value, c.mode_chains-lengths.ensures) is.below

pub returns-clause-proper : goal.returns-clause-proper
returns-clause-proper c = λ yes'.
    let ins = rw c.deref.ensures.value at (c.if-not-takes_terminals.ensures.ins refl) in
    let outs = rw c.deref.ensures.value at (c.if-not-takes_terminals.ensures.outs refl) in
    let below = rw (c.deref-2.ensures.value, c.mode_chains-lengths.ensures) at c.if-not-all_below.ensures in
    let once = rw (c.deref-3.ensures.value, c.mode_chains-lengths.ensures) at (c.lists_once.ensures.once yes') in
    counted_is_proper (module_value c.args.«module».now) c.args.wrapper.now.scan c.args.wrapper.now.chains.items (record { ins = ins; outs = outs; below = sym below; once = once })

pub returns-clause-only : goal.returns-clause-only
returns-clause-only c = λ proper.
    let is = proper_is_counted (module_value c.args.«module».now) c.args.wrapper.now.scan c.args.wrapper.now.chains.items proper in
    elim (cases_Bool c.lists_once.result) [
      | inl yes' ↦ yes'
      | inr no' ↦
          let w = rw (c.deref-3.ensures.value, c.mode_chains-lengths.ensures) at (c.lists_once.ensures.other no') in
          absurd (w.2 (is.once w.0 w.1))
    ]
