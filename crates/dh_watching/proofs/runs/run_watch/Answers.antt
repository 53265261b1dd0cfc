use Rattle.std.proofs.Common.{◌∙◌, ap, codes, refl, sym}
use Rattle.std.specs.Option.{option_copied}
use Rattle.std.specs.String.{string_bytes}
use Rattle.dh_command.specs.declared.statuses.Status.TheVariants as status
use Rattle.dh_command.specs.Responses.{fault}
use Rattle.dh_watching.specs.Runs as runs
use Rattle.dh_watching.proofs.Texts.{left_alone, no_words, some_words}
use Rattle.dh_watching.proofs.runs.run_watch.Goals as goal

pub returns-in-Some-clause-runs : goal.returns-in-Some-clause-runs
returns-in-Some-clause-runs g c =
    let word = sym (ap option_copied c.in-Some.is) ∙ c.first.ensures.value in
    runs.refuses (fault (codes "usage: word 1") status.Usage) (runs.has_words (some_words string_bytes c.args.words.now _ word) (left_alone _ _) refl) refl c.deliver.ensures

pub returns-in-None-clause-runs : goal.returns-in-None-clause-runs
returns-in-None-clause-runs g c =
    let none = sym (ap option_copied c.in-None.is) ∙ c.first.ensures.value in c.run_script.ensures.runs _ (no_words string_bytes c.args.words.now none)
