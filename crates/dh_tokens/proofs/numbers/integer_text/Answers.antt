use Rattle.std.proofs.Common.{◌∙◌, sym, ap}
use Rattle.std.proofs.lemmas.List.{length-take-le}
use Rattle.dh_syntax.specs.Text.Numerals.{is_integer}
use Rattle.dh_tokens.proofs.NumberLaws.{integer_is_ascii, integer_len-within, is_integer-take}
use Rattle.dh_tokens.proofs.numbers.integer_text.Goals as goal

pub slice_bounds-ascii_text-end : goal.slice_bounds-ascii_text-end
slice_bounds-ascii_text-end c = sym (length-take-le c.args.len c.args.rest.now (integer_len-within c.args.rest.now c.args.len c.requires.some c.requires.len))

pub ascii_text-requires : goal.ascii_text-requires
ascii_text-requires c = integer_is_ascii c.args.rest.now c.args.len c.requires.some c.requires.len

pub returns-clause-integer : goal.returns-clause-integer
returns-clause-integer c = ap is_integer c.ascii_text.ensures ∙ is_integer-take c.args.rest.now c.args.len c.requires.some c.requires.len
