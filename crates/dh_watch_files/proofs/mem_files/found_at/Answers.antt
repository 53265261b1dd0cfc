use Rattle.std.specs.Prelude.{take, Some, None}
use Rattle.std.proofs.Common.{ap, sym, ◌∙◌}
use Rattle.dh_ports.specs.declared.worlds.Got.TheVariants as gots
use Rattle.dh_watch_laws.specs.Contents.{most_fetched}
use Rattle.dh_watch_files.specs.Contents.{got_of}
use Rattle.dh_watch_files.proofs.Contents.{told_at}
use Rattle.dh_watch_files.proofs.mem_files.found_at.Goals as goal

pub returns-in-None : goal.returns-in-None
returns-in-None c = sym (ap got_of (told_at c.in_ok-key.key c.args.files.now c.args.loc.now None c.in_ok-key.ensures c.in-None.ensures.value))

pub returns : goal.returns
returns c =
    ap (λ b. gots.Found (record { bytes = b; allow = None })) (c.in_ok-first_bytes-in-Some.ensures ∙ ap (λ b. take most_fetched b) c.as_slice.ensures)
    ∙ sym (ap got_of (told_at c.in_ok-key.key c.args.files.now c.args.loc.now (Some c.in-Some.bytes.now) c.in_ok-key.ensures c.in-Some.ensures.value))
