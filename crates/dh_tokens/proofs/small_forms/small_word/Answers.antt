use Rattle.std.proofs.Common.{◌==◌, ap, sym, ◌∙◌}
use Rattle.std.proofs.lemmas.Bool.{ne_eqb}
use Rattle.dh_syntax.specs.Text.LexForms.{Is}
use Rattle.dh_tokens.specs.Inside.SmallForms.{small_kind}
use Rattle.dh_tokens.proofs.SmallWords.{small_word-is}
use Rattle.dh_tokens.proofs.small_forms.small_word.Goals as goal

pub returns-clause-value : goal.returns-clause-value
returns-clause-value c =
    let no_colon = sym (ap (λ k. k == 58) c.byte_at.ensures) ∙ ne_eqb c.byte_at.result 58 c.if-byte_at-eq58.false in
    small_word-is c.args.rest.now c.run-name.result.now (Is (small_kind c.in_ok-small.small)) c.requires c.run-name.ensures no_colon c.in_ok-small.ensures
