use Rattle.std.proofs.Common.{◌∙◌, ap, sym, ◌-◌}
use Rattle.dh_grammar.proofs.TokenNumbers.{back-minus}
use Rattle.dh_making.specs.Words.{keys_of}
use Rattle.dh_syntax.specs.Text.Noting.{keys_len}
use Rattle.dh_places.proofs.entries.before_keys.Goals as goal

pub returns : goal.returns
returns c =
    c.saturating_sub.ensures ∙ ap (λ n. c.args.at - n) c.token_count.ensures ∙ sym (back-minus (keys_len (keys_of c.args.keys.now)) c.args.at)
