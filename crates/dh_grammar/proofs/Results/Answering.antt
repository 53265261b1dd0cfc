-- The reading of a text answers one thing.
use Rattle.std.proofs.Common.{subst}
use Rattle.dh_grammar.specs.Laws.Texts.{Parses, ParsesOnce, SpellsInRange}
use Rattle.dh_syntax.specs.Expressions.Values.{IsInRange}
use Rattle.dh_grammar.proofs.Lexed.LexedTokens.{lexed_fair, means_spellable}
use Rattle.dh_grammar.proofs.Results.Parsing as parsing

pub parses : Parses
parses bytes = parsing.parses_where bytes (λ ts i e. means_spellable bytes ts e)

pub parses_once : ParsesOnce
parses_once bytes q r h k = parsing.parses_once bytes q r h k

pub spells_in_range : SpellsInRange
spells_in_range bytes e s = subst IsInRange s.means (lexed_fair bytes s.tokens s.tree s.lexed s.derives).valued
