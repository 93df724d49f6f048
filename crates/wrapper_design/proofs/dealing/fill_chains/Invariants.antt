use Rattle.std.proofs.Common.{◌≡◌, ℕ, ◌++◌, List, map, take, drop}
use Rattle.plan_model.specs.declared.ChainPlan.{ChainPlan}
use Rattle.plan_model.specs.Views.{chain_value}
use Rattle.wrapper_design.specs.Design.{scan_length, filled}
use Rattle.wrapper_design.proofs.Chains.{scans_of}
use Rattle.wrapper_design.proofs.dealing.fill_chains.Given as goal

abbrev pub invariant-loop-place : goal.invariant-loop-place
invariant-loop-place l = record {
  done : (lengths : List ℕ) → l.loads ≡ map (λ (c : ChainPlan). scan_length lengths c.scans.items) l.fn.chains →
      map chain_value (take l.place l.chains) ++ filled lengths l.si l.ins l.so l.outs (map scans_of (drop l.place l.chains)) ≡ filled lengths l.si l.fn.ins l.so l.fn.outs (map scans_of l.fn.chains);
  rest : drop l.place l.chains ≡ drop l.place l.fn.chains;
}
