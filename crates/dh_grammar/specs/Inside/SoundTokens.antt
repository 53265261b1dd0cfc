-- What holds of the tokens of a text.
use Rattle.std.specs.Prelude.{Bool, true, false, ◌&&◌, not, List, [], ◌∷◌}
use Rattle.dh_syntax.specs.declared.tokens.TokenKind.{TokenKind}
use Rattle.dh_syntax.specs.declared.tokens.TokenKind.TheVariants as kinds
use Rattle.dh_syntax.specs.Expressions.Arity.{loc_fits}
use Rattle.dh_syntax.specs.Text.Lexing.{Before, is_wide_index, before_after}
use Rattle.dh_syntax.specs.Limits.{natural_fits, integer_fits}
use Rattle.dh_syntax.specs.Expressions.Spellable.{is_label, is_environment, location_spellable}
use Rattle.dh_syntax.specs.Text.Yield.{Written}
use Rattle.dh_syntax.specs.Expressions.Values.{digest_fits}

-- a token before the end, as `lex` gives it
abbrev pub good_kind : TokenKind → Bool
good_kind (kinds.Name x) = is_label x
good_kind (kinds.Quoted x) = is_label x
good_kind (kinds.Natural n) = natural_fits n
good_kind (kinds.Integer z) = integer_fits z
good_kind (kinds.Path l) = loc_fits l && location_spellable l
good_kind (kinds.Url l) = loc_fits l && location_spellable l
good_kind (kinds.Environment x) = is_environment x
good_kind (kinds.Digest d) = digest_fits d
good_kind kinds.End = false
good_kind _ = true

-- such tokens, and no index behind a name and `@` is too wide, where this stands before them
abbrev pub sound : Before → List TokenKind → Bool
sound b [] = true
sound b (k ∷ ks) = good_kind k && (not (is_wide_index b k) && sound (before_after k b) ks)

-- the kinds of tokens that were written
abbrev pub written_kinds : List Written → List TokenKind
written_kinds [] = []
written_kinds (w ∷ ws) = w.kind ∷ written_kinds ws
