use Rattle.std.proofs.Common.{◌∙◌, ◌∷◌, ◌++◌, ◌+◌, take, sym, ap}
use Rattle.dh_watch_laws.specs.ScriptLines.{has_blank}
use Rattle.dh_script.proofs.Splitting.{blank-at, blank-nowhere, to_end}
use Rattle.dh_script.proofs.pieces.at_last_blank.Goals as goal

pub returns-in-Some : goal.returns-in-Some
returns-in-Some c =
    let text = c.args.text.now in
    let k = c.in-Some.at in
    let parts = blank-at text k c.in-Some.ensures.0 c.in-Some.ensures.1 in
    let rest = to_end text (k + 1) in
    (parts.0 ∙ ap (λ t. take k text ++ 32 ∷ t) (sym rest), ap has_blank rest ∙ parts.1)

pub returns-in-None : goal.returns-in-None
returns-in-None c = blank-nowhere c.args.text.now c.in-None.ensures
