use Rattle.std.proofs.Common.{◌∙◌, Err, ap, refl}
use Rattle.dh_command.specs.Responses.{unread, without_memory}
use Rattle.dh_watching.specs.Runs as runs
use Rattle.dh_watching.proofs.Texts.{follows_slice}
use Rattle.dh_watching.proofs.runs.run_script.Goals as goal

pub returns-in-Ok-clause-runs : goal.returns-in-Ok-clause-runs
returns-in-Ok-clause-runs g c = λ words none.
    follows_slice words none _ _ _ _ _ _ _ _ _ c.in-Ok.text.items c.as_slice.result.now c.as_slice.ensures.value c.in-Ok.ensures.taken c.in-Ok.ensures.all c.in-Ok.ensures.quiet
    c.follow_text.ensures.follows

pub returns-in-Err-Failed-clause-runs : goal.returns-in-Err-Failed-clause-runs
returns-in-Err-Failed-clause-runs g c = λ words none.
    runs.refuses unread (runs.cannot_read none (c.read_input.ensures.failed (c.in-Err-Failed.is ∙ ap Err c.in-Err-Failed.field-0-is)) refl) refl c.deliver.ensures

pub returns-in-Err-Memory-clause-runs : goal.returns-in-Err-Memory-clause-runs
returns-in-Err-Memory-clause-runs g c = λ words none. runs.refuses without_memory (runs.lacks_memory none refl) refl c.lack_memory.ensures
