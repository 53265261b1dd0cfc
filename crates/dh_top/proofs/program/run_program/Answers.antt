use Rattle.std.specs.Prelude.{◌≡◌, ℕ, IfErr, IsErr, Result, Ok, Err}
use Rattle.dh_top.specs.Ends.{words_told}
use Rattle.dh_top.proofs.Endings.{if_err}
use Rattle.dh_top.proofs.program.run_program.Goals as goal

pub returns-clause-ends : goal.returns-clause-ends
returns-clause-ends g c = record { status = c.run_words-status.result; runs = c.run_words-status.ensures.runs _ c.told_words-words.ensures.words; exits = c.exit_code.ensures }

pub returns-clause-lacks : goal.returns-clause-lacks
returns-clause-lacks g c =
    if_err c.args.args (λ e lacks no_memory. record { status = c.run_words-status.result; delivers = c.run_words-status.ensures.lacks (lacks no_memory); exits = c.exit_code.ensures }) c.told_words-words.ensures.lacks

pub returns-clause-desks : goal.returns-clause-desks
returns-clause-desks g c = c.run_words-status.ensures.desks _ c.told_words-words.ensures.words
