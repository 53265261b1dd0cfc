use Rattle.dh_record.specs.declared.kinds.Kind.TheVariants as kinds
use Rattle.dh_record.specs.Rows.{digest_or_none}
use Rattle.dh_record.proofs.Reading.{key_at_names}
use Rattle.dh_table.proofs.Tasks.{same_fetch, same_look, same_finish, same_by}
use Rattle.dh_table.proofs.steps.in_flight.is_same_task.Goals as goal

pub returns-in-Fetch-Fetch : goal.returns-in-Fetch-Fetch
returns-in-Fetch-Fetch c =
    same_by c.args.keys.now c.args.a c.args.b kinds.Fetch c.key-left.result.now c.key-right.result.now c.is_same_loc.result (key_at_names c.args.keys.now c.args.a.key c.key-left.result.now c.key-left.ensures)
    (key_at_names c.args.keys.now c.args.b.key c.key-right.result.now c.key-right.ensures) c.in-Fetch-Fetch.is-0 c.in-Fetch-Fetch.is-1
    (rw c.is_same_loc.ensures (same_fetch c.key-left.result.now.loc c.key-right.result.now.loc))

pub returns-in-Look-Look : goal.returns-in-Look-Look
returns-in-Look-Look c =
    same_by c.args.keys.now c.args.a c.args.b kinds.Look c.key-left.result.now c.key-right.result.now c.is_same_digest.result (key_at_names c.args.keys.now c.args.a.key c.key-left.result.now c.key-left.ensures)
    (key_at_names c.args.keys.now c.args.b.key c.key-right.result.now c.key-right.ensures) c.in-Look-Look.is-0 c.in-Look-Look.is-1
    (rw c.is_same_digest.ensures (same_look (digest_or_none c.key-left.result.now.digest) (digest_or_none c.key-right.result.now.digest)))

pub returns-in-Finish-Finish : goal.returns-in-Finish-Finish
returns-in-Finish-Finish c =
    same_by c.args.keys.now c.args.a c.args.b kinds.Finish c.key-left.result.now c.key-right.result.now c.is_same_key.result (key_at_names c.args.keys.now c.args.a.key c.key-left.result.now c.key-left.ensures)
    (key_at_names c.args.keys.now c.args.b.key c.key-right.result.now c.key-right.ensures) c.in-Finish-Finish.is-0 c.in-Finish-Finish.is-1
    (rw c.is_same_key.ensures (same_finish c.key-left.result.now c.key-right.result.now))
