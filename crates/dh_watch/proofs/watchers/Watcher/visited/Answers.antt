use Rattle.std.specs.Prelude.{◌≡◌, ◌<◌, ◌≤◌, ℕ, List, length, map, reverse, Some, Result, Ok, Err, IfOk}
use Rattle.std.proofs.Common.{subst, arith}
use Rattle.dh_syntax.specs.declared.locations.Key.{Key}
use Rattle.dh_syntax.specs.Limits.{most_keys}
use Rattle.dh_imports.specs.Outcomes.{Outcome}
use Rattle.dh_record.specs.Entering.{keys_in}
use Rattle.dh_record.specs.Rows.{key_named}
use Rattle.dh_watch_laws.specs.Kept.{IsSound, Kept, known}
use Rattle.dh_watch_laws.specs.VisitCounts.{ClosesLoop, Counts}
use Rattle.dh_watch_rows.specs.KeptRows.{kept_of}
use Rattle.dh_watch_runs.specs.Asks.{ComesTo}
use Rattle.dh_watch_runs.specs.Endings.{LeavesChain}
use Rattle.dh_watch.specs.Watchers.{MeetsFew}
use Rattle.dh_watch.proofs.Watching.{chain-named, few-counted, few-known, few-on-loop, numbers-named}
use Rattle.dh_watch.proofs.SourceSteps.{key-count}
use Rattle.dh_watch.proofs.watchers.Watcher.visited.Goals as goal

ok-few : {E : Type 0} (s : Kept) (root : Key) (r : Result ℕ E) → IsSound s → IfOk r (Counts s root) → IfOk r (λ n. n ≤ most_keys → MeetsFew s root)
ok-few s root (Ok v) h c = λ l. few-counted s root v h c l
ok-few s root (Err e) h c = tt

ok-many : {E : Type 0} (s : Kept) (root : Key) (r : Result ℕ E) → IfOk r (Counts s root) → IfOk r (λ n. most_keys < n → Counts s root n)
ok-many s root (Ok v) c = λ l. c
ok-many s root (Err e) c = tt

ok-loop : {E : Type 0} (s : Kept) (root : Key) (xs : List Key) (least : Key) (r : Result ℕ E) → ClosesLoop s root xs least
    → IfOk r (λ n. (k : Key) → ClosesLoop s k xs least → Counts s k n) → IfOk r (Counts s root)
ok-loop s root xs least (Ok v) l c = c root l
ok-loop s root xs least (Err e) l c = tt

pub returns-then-known-le-MOST_KEYS-clause-few : goal.returns-then-known-le-MOST_KEYS-clause-few
returns-then-known-le-MOST_KEYS-clause-few g c l =
    let rows = c.args.self.now.source.rows in
    let root = key_named rows.keys c.args.root in
    let e : (o : Outcome) × (known (kept_of rows).outcomes root ≡ Some o) = subst (ComesTo root (keys_in rows.keys) (kept_of rows)) c.in-Decided.is c.requires.ended in
    few-known (kept_of rows) root e.0 c.requires.sound e.1 (omega (arith, l, c.outcome_count-known.ensures))

pub count_visited-requires-clause-decided : goal.count_visited-requires-clause-decided
count_visited-requires-clause-decided g c =
    let rows = c.args.self.now.source.rows in
    subst (ComesTo (key_named rows.keys c.args.root) (keys_in rows.keys) (kept_of rows)) c.in-Decided.is c.requires.ended

pub returns-then-chain-known-clause-few : goal.returns-then-chain-known-clause-few
returns-then-chain-known-clause-few g c l =
    let rows = c.args.self.now.source.rows in
    let root = key_named rows.keys c.args.root in
    let trail = c.args.self.now.trail in
    let e = subst (LeavesChain root (keys_in rows.keys) (kept_of rows) trail) c.in-Loop.is c.requires.chain in
    few-on-loop (keys_in rows.keys) (kept_of rows) root trail c.in-Loop.least c.requires.sound e.1 (omega (arith, l, c.outcome_count-known.ensures, c.len-chain.ensures))

pub count_on_loop-requires-clause-inside : goal.count_on_loop-requires-clause-inside
count_on_loop-requires-clause-inside g c =
    let rows = c.args.self.now.source.rows in
    let e = subst (ComesTo (key_named rows.keys c.args.root) (keys_in rows.keys) (kept_of rows)) c.in-Loop.is c.requires.ended in
    let many = key-count rows.keys in
    let low : c.in-Loop.least < length (keys_in rows.keys) = e.0 in
    omega (arith, low, many)

pub count_on_loop-requires-clause-chain_inside : goal.count_on_loop-requires-clause-chain_inside
count_on_loop-requires-clause-chain_inside g c =
    let rows = c.args.self.now.source.rows in
    let trail = c.args.self.now.trail in
    let e = subst (LeavesChain (key_named rows.keys c.args.root) (keys_in rows.keys) (kept_of rows) trail) c.in-Loop.is c.requires.chain in
    numbers-named rows.keys c.numbers.result.now trail c.numbers.ensures e.0

pub returns-else-known-le-MOST_KEYS-clause-few : goal.returns-else-known-le-MOST_KEYS-clause-few
returns-else-known-le-MOST_KEYS-clause-few g c =
    let rows = c.args.self.now.source.rows in
    ok-few (kept_of rows) (key_named rows.keys c.args.root) c.count_visited.result c.requires.sound c.count_visited.ensures

pub returns-else-known-le-MOST_KEYS-2-clause-few : goal.returns-else-known-le-MOST_KEYS-2-clause-few
returns-else-known-le-MOST_KEYS-2-clause-few g c =
    let rows = c.args.self.now.source.rows in
    let root = key_named rows.keys c.args.root in
    let trail = c.args.self.now.trail in
    let e = subst (LeavesChain root (keys_in rows.keys) (kept_of rows) trail) c.in-Loop.is c.requires.chain in
    ok-few (kept_of rows) root c.count_on_loop.result c.requires.sound
    (ok-loop (kept_of rows) root (reverse (map (key_named rows.keys) c.numbers.result.now)) (key_named rows.keys c.in-Loop.least) c.count_on_loop.result
    (chain-named rows.keys (kept_of rows) root c.numbers.result.now trail c.in-Loop.least c.numbers.ensures e.1) c.count_on_loop.ensures)

pub returns-else-known-le-MOST_KEYS-2-clause-many : goal.returns-else-known-le-MOST_KEYS-2-clause-many
returns-else-known-le-MOST_KEYS-2-clause-many g c =
    let rows = c.args.self.now.source.rows in
    let root = key_named rows.keys c.args.root in
    let trail = c.args.self.now.trail in
    let e = subst (LeavesChain root (keys_in rows.keys) (kept_of rows) trail) c.in-Loop.is c.requires.chain in
    ok-many (kept_of rows) root c.count_on_loop.result
    (ok-loop (kept_of rows) root (reverse (map (key_named rows.keys) c.numbers.result.now)) (key_named rows.keys c.in-Loop.least) c.count_on_loop.result
    (chain-named rows.keys (kept_of rows) root c.numbers.result.now trail c.in-Loop.least c.numbers.ensures e.1) c.count_on_loop.ensures)
