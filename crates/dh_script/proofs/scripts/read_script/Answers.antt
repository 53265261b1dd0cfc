use Rattle.std.proofs.lemmas.Str.{is_utf8-from_IsUtf8}
use Rattle.dh_script.proofs.Lining.{if_ok}
use Rattle.dh_script.proofs.scripts.read_script.Goals as goal

pub returns-in-Ok-clause-script : goal.returns-in-Ok-clause-script
returns-in-Ok-clause-script c =
    let text = c.args.bytes.now in
    if_ok c.read_lines.result (λ orders are. record { small = c.if-bytes-gt-MOST_BYTES.false; utf8 = is_utf8-from_IsUtf8 text c.in-Ok.ensures.cases.1; lines = are })
    c.read_lines.ensures.orders
