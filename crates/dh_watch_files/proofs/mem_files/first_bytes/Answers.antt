use Rattle.std.specs.Prelude.{take}
use Rattle.std.proofs.Common.{ap, ◌∙◌}
use Rattle.std.proofs.lemmas.List.{take_min}
use Rattle.dh_watch_laws.specs.Contents.{most_fetched}
use Rattle.dh_watch_files.proofs.mem_files.first_bytes.Goals as goal

pub returns : goal.returns
returns c = c.of.ensures ∙ c.in_ok-first.ensures.items ∙ ap (λ n. take n c.args.bytes.now) c.min-len.ensures ∙ take_min most_fetched c.args.bytes.now
