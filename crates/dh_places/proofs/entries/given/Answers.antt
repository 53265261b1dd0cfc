use Rattle.std.proofs.Common.{◌∙◌, ap, length}
use Rattle.dh_syntax.specs.Text.Noting.{keys_len}
use Rattle.dh_grammar.specs.Placing.{back}
use Rattle.dh_making.specs.Words.{keys_of}
use Rattle.dh_places.specs.Parts.{placed_of}
use Rattle.dh_places.proofs.LaterKeys.{given_entry}
use Rattle.dh_places.proofs.entries.given.Goals as goal

pub returns : goal.returns
returns g c =
    let n = g.N.Notes in
    let ks = keys_of c.args.keys in
    given_entry n.noting c.into_parts-key.result.0 c.into_parts-key.result.1.items ks (placed_of n.noting n.view c.args.value) c.in_ok-label.label (length c.as_slice-later.result.now)
    c.before_keys-from.result (n.view c.in_ok-value.value) c.into_parts-key.ensures c.in_ok-label.ensures (ap length c.as_slice-later.ensures.value)
    (c.before_keys-from.ensures ∙ ap (back (keys_len ks)) c.back.ensures) c.in_ok-value.ensures
