use Rattle.dh_record.specs.declared.kinds.Kind.TheVariants as kinds
use Rattle.dh_table.specs.declared.steps.flights.Name.TheVariants as names
use Rattle.dh_record.specs.Rows.{digest_or_none}
use Rattle.dh_record.proofs.Reading.{key_at_names}
use Rattle.dh_table.proofs.Tasks.{same_fetch, same_look, same_finish, same_named}
use Rattle.dh_table.proofs.steps.flights.is_task.Goals as goal

pub returns-in-Fetch-Fetch : goal.returns-in-Fetch-Fetch
returns-in-Fetch-Fetch c =
    same_named c.args.keys.now c.args.job kinds.Fetch c.key-key.result.now c.args.name (names.Fetch c.in-Fetch-Fetch.loc) c.is_same_loc.result
    (key_at_names c.args.keys.now c.args.job.key c.key-key.result.now c.key-key.ensures) c.in-Fetch-Fetch.is-0 c.in-Fetch-Fetch.is-1
    (rw c.is_same_loc.ensures (same_fetch c.key-key.result.now.loc c.in-Fetch-Fetch.loc.now))

pub returns-in-Look-Look : goal.returns-in-Look-Look
returns-in-Look-Look c =
    same_named c.args.keys.now c.args.job kinds.Look c.key-key.result.now c.args.name (names.Look c.in-Look-Look.digest) c.is_same_digest.result
    (key_at_names c.args.keys.now c.args.job.key c.key-key.result.now c.key-key.ensures) c.in-Look-Look.is-0 c.in-Look-Look.is-1
    (rw c.is_same_digest.ensures (same_look (digest_or_none c.key-key.result.now.digest) c.in-Look-Look.digest.now))

pub returns-in-Finish-Finish : goal.returns-in-Finish-Finish
returns-in-Finish-Finish c =
    same_named c.args.keys.now c.args.job kinds.Finish c.key-key.result.now c.args.name (names.Finish c.in-Finish-Finish.other) c.is_same_key.result
    (key_at_names c.args.keys.now c.args.job.key c.key-key.result.now c.key-key.ensures) c.in-Finish-Finish.is-0 c.in-Finish-Finish.is-1
    (rw c.is_same_key.ensures (same_finish c.key-key.result.now c.in-Finish-Finish.other.now))
