use Rattle.std.proofs.Common.{List, ℕ, arith}
use Rattle.std.specs.List.{prefix_len}
use Rattle.dh_tokens.specs.Inside.Classes.{has}
use Rattle.dh_tokens.proofs.Runs.{ascii_fewer, ascii_run, class_is_ascii}
use Rattle.dh_tokens.proofs.classes.run_len.Goals as goal

pub returns-after-loop-b-clause-ascii : goal.returns-after-loop-b-clause-ascii
returns-after-loop-b-clause-ascii c =
    let bs : List ℕ = c.args.rest.now in
    let p = has c.args.class in
    ascii_fewer bs c.loop-b.n (prefix_len p bs) (omega (arith, c.loop-b.invariant.1)) (ascii_run p (class_is_ascii c.args.class) bs)

pub returns-then-not-has-clause-ascii : goal.returns-then-not-has-clause-ascii
returns-then-not-has-clause-ascii c =
    let bs : List ℕ = c.args.rest.now in
    let p = has c.args.class in
    ascii_fewer bs c.loop-b.n (prefix_len p bs) (omega (arith, c.loop-b.invariant.1)) (ascii_run p (class_is_ascii c.args.class) bs)
