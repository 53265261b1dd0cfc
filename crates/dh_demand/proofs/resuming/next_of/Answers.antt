use Rattle.std.specs.Prelude.{◌≡◌, ◌<◌, ◌≤◌, ◌+◌, length, suc}
use Rattle.std.specs.Option.{option_copied}
use Rattle.std.proofs.Common.{arith, subst}
use Rattle.dh_demand.specs.declared.ends.Next.TheVariants as next
use Rattle.dh_demand.specs.Headways.{ArePassed}
use Rattle.dh_demand.specs.Results.{ask_of}
use Rattle.dh_demand.specs.Scans.{text_key}
use Rattle.dh_demand.proofs.Straight.{edge-at, key-there, passed-all, passed-more, passed-stops}
use Rattle.dh_demand.proofs.resuming.next_of.Goals as goal

pub imports-preserved : goal.imports-preserved
imports-preserved g c ks b len h =
    let parent = option_copied c.args.parent in
    let rows = g.R.Results.rows c.args.results.now in
    let l : c.imports.passed < length ks = omega arith in
    let k = key-there parent rows c.imports.passed ks l in
    let one : suc c.imports.passed ≡ c.imports.passed + 1 = omega arith in
    let edge = edge-at parent rows c.imports.passed ks c.args.edges.now k.0 _ l k.1 b in
    subst (λ n. ArePassed (text_key parent) (ask_of rows) n ks) one
    (passed-more parent rows c.imports.passed ks k.0 l k.1 (c.imports.invariant ks b len h) (c.in-Ready.ensures.next k.0 edge))

pub returns-in-Need-clause-next : goal.returns-in-Need-clause-next
returns-in-Need-clause-next g c ks b len h =
    let parent = option_copied c.args.parent in
    let rows = g.R.Results.rows c.args.results.now in
    let l : c.imports.passed < length ks = omega arith in
    let k = key-there parent rows c.imports.passed ks l in
    let edge = edge-at parent rows c.imports.passed ks c.args.edges.now k.0 _ l k.1 b in
    passed-stops parent rows c.imports.passed ks k.0 (next.Need c.in-Need.key) l k.1 (c.imports.invariant ks b len h) (c.in-Need.ensures.next k.0 edge) (λ e. let f : ⊥ = cc in f)

pub returns-in-Fault-clause-next : goal.returns-in-Fault-clause-next
returns-in-Fault-clause-next g c ks b len h =
    let parent = option_copied c.args.parent in
    let rows = g.R.Results.rows c.args.results.now in
    let l : c.imports.passed < length ks = omega arith in
    let k = key-there parent rows c.imports.passed ks l in
    let edge = edge-at parent rows c.imports.passed ks c.args.edges.now k.0 _ l k.1 b in
    passed-stops parent rows c.imports.passed ks k.0 (next.Fault c.in-Fault.edge) l k.1 (c.imports.invariant ks b len h) (c.in-Fault.ensures.next k.0 edge) (λ e. let f : ⊥ = cc in f)

pub returns-clause-next : goal.returns-clause-next
returns-clause-next g c ks b len h =
    let l : length ks ≤ c.imports.passed = omega arith in
    passed-all (option_copied c.args.parent) (g.R.Results.rows c.args.results.now) c.imports.passed ks l (c.imports.invariant ks b len h)
