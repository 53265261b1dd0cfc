use Rattle.std.proofs.Common.{◌∙◌, List, ℕ, take, sym, ap, subst, arith}
use Rattle.std.specs.Str.{IsAscii}
use Rattle.std.proofs.lemmas.List.{length-take-le}
use Rattle.dh_syntax.specs.Text.Numerals.{is_natural}
use Rattle.dh_tokens.proofs.NumberLaws.{natural_is_ascii, natural_len-within, is_natural-take}
use Rattle.dh_tokens.proofs.numbers.natural_text.Goals as goal

pub slice_bounds-ascii_text-end : goal.slice_bounds-ascii_text-end
slice_bounds-ascii_text-end c = sym (length-take-le c.args.len c.args.rest.now (omega (arith, c.requires.len, natural_len-within c.args.rest.now)))

pub ascii_text-requires : goal.ascii_text-requires
ascii_text-requires c = let bs : List ℕ = c.args.rest.now in subst (λ (n : ℕ). IsAscii (take n bs)) (sym c.requires.len) (natural_is_ascii bs)

pub returns-clause-natural : goal.returns-clause-natural
returns-clause-natural c = ap is_natural c.ascii_text.ensures ∙ is_natural-take c.args.rest.now c.args.len c.requires.some c.requires.len
