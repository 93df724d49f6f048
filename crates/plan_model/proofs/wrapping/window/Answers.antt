use Rattle.std.proofs.Common.{◌≡◌, ◌≤◌, ◌+◌, ◌<◌, length, take, replicate, false, arith}
use Rattle.plan_model.specs.Listing.{listed_times, mark_at}
use Rattle.plan_model.proofs.ScanMarks.{clear, clear_length}
use Rattle.plan_model.proofs.wrapping.window.Goals as goal

pub returns-then-mark_chains-clause-once : goal.returns-then-mark_chains-clause-once
returns-then-mark_chains-clause-once c = λ yes' k h.
    let long : length (take c.args.count (replicate 1024 false)) ≡ c.args.count = clear_length c.args.count 1024 c.requires in
    let none : mark_at (take c.args.count (replicate 1024 false)) k ≡ 0 = clear c.args.count 1024 k in
    let marked : mark_at c.mark_chains.new.seen k ≡ mark_at (take c.args.count (replicate 1024 false)) k + listed_times (c.args.base + k) c.args.chains.now =
    c.mark_chains.ensures.marked c.if-mark_chains.true k (omega arith) in
    let all : mark_at c.mark_chains.new.seen k ≡ 1 = c.all_marked.ensures.all yes' k (omega arith) in
    omega arith

pub returns-then-mark_chains-clause-other : goal.returns-then-mark_chains-clause-other
returns-then-mark_chains-clause-other c = λ no'.
    let long : length (take c.args.count (replicate 1024 false)) ≡ c.args.count = clear_length c.args.count 1024 c.requires in
    let w = c.all_marked.ensures.not_all no' in
    let within : w.0 < c.args.count = omega (arith, w.1) in
    let none : mark_at (take c.args.count (replicate 1024 false)) w.0 ≡ 0 = clear c.args.count 1024 w.0 in
    let marked : mark_at c.mark_chains.new.seen w.0 ≡ mark_at (take c.args.count (replicate 1024 false)) w.0 + listed_times (c.args.base + w.0) c.args.chains.now =
    c.mark_chains.ensures.marked c.if-mark_chains.true w.0 (omega arith) in
    (w.0, within, λ one. omega (arith, w.2))

pub returns-else-mark_chains-clause-other : goal.returns-else-mark_chains-clause-other
returns-else-mark_chains-clause-other c = λ e.
    let w = c.mark_chains.ensures.twice e in
    let long : length (take c.args.count (replicate 1024 false)) ≡ c.args.count = clear_length c.args.count 1024 c.requires in
    let less : w.0 < length (take c.args.count (replicate 1024 false)) = w.1 in
    let none : mark_at (take c.args.count (replicate 1024 false)) w.0 ≡ 0 = clear c.args.count 1024 w.0 in
    let two : 2 ≤ mark_at (take c.args.count (replicate 1024 false)) w.0 + listed_times (c.args.base + w.0) c.args.chains.now = w.2 in
    (w.0, omega arith, λ one. omega arith)
