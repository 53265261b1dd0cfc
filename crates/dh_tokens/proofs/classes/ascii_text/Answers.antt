use Rattle.std.proofs.lemmas.Str.{IsUtf8-from_ascii}
use Rattle.dh_tokens.proofs.Runs.{ok_where}
use Rattle.dh_tokens.proofs.classes.ascii_text.Goals as goal

pub unwrap-requires : goal.unwrap-requires
unwrap-requires c = ok_where c.from_utf8.result _ _ c.from_utf8.ensures.cases (IsUtf8-from_ascii c.args.bytes.now c.requires)
