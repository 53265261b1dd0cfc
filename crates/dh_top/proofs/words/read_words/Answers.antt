use Rattle.std.proofs.Common.{◌≡◌, ◌∙◌, ap, sym, map, string_bytes, None, Some}
use Rattle.dh_command.specs.Words.{verb_of}
use Rattle.dh_top.proofs.Commands.{named_word, unnamed_word}
use Rattle.dh_top.proofs.words.read_words.Goals as goal

pub returns-in_default-verb_named : goal.returns-in_default-verb_named
returns-in_default-verb_named c =
    unnamed_word (map string_bytes c.args.words.now) _ _ c.verb_named.result (ap (map string_bytes) c.in-Some.ensures.cases.0) (c.verb_named.ensures ∙ ap verb_of c.as_str.ensures.value)
    c.in_default-verb_named.is

pub returns : goal.returns
returns c =
    named_word (map string_bytes c.args.words.now) _ _ c.verb_named.result c.in-Some-verb_named.verb c.read_options.result (ap (map string_bytes) c.in-Some.ensures.cases.0)
    (c.verb_named.ensures ∙ ap verb_of c.as_str.ensures.value) c.in-Some-verb_named.is c.read_options.ensures
