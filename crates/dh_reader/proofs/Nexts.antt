-- The tests of a token, one after the other, do what the machine does.
use Rattle.std.proofs.Common.{◌≡◌, Bool, true, false, if◌then◌else◌, Some, None, refl}
use Rattle.std.specs.Prelude.{codes}
use Rattle.dh_syntax.specs.declared.locations.Mode.{Mode}
use Rattle.dh_syntax.specs.declared.locations.Mode.TheVariants as modes
use Rattle.dh_syntax.specs.declared.operators.Builtin.TheVariants as builtins
use Rattle.dh_syntax.specs.declared.tokens.Mark.TheVariants.{ParenOpen, BraceOpen, BraceClose, AngleClose, Comma, Dot, Colon, Bar, Arrow}
use Rattle.dh_syntax.specs.declared.tokens.TokenKind.{TokenKind}
use Rattle.dh_syntax.specs.declared.tokens.TokenKind.TheVariants as kinds
use Rattle.dh_syntax.specs.Expressions.Numbers.{bytes_eq}
use Rattle.dh_syntax.specs.Text.Derivation.{one_key, more_keys}
use Rattle.dh_grammar.specs.Machine.{Stack, State, have, ready, stopped, Wait, quantifier, quantity, domained, asserting, lettered, with_keys, indexed, moded, dotted, projecting, projected, projected_comma, empty, union_start, alternative, alternative_bar, record_start, record_equals, field_comma, field_key, entry_comma, entry_keys, waited}
use Rattle.dh_grammar.specs.Making.{Sorts, Making}
use Rattle.dh_reader.specs.Inside.Nexts.{next, with_mode}

asked : {K : Sorts} (f : Mode → State K) (b : Bool) → with_mode f (if b then Some modes.Location else None) ≡ (if b then f modes.Location else stopped)
asked f true = refl
asked f false = refl

module _ {K : Sorts} (m : Making K) where
  pub next_is : (w : Wait K) (k : TokenKind) (st : Stack K) → next m w k st ≡ waited m w k st
  next_is (quantifier b) (kinds.Mark ParenOpen) st = refl
  next_is (quantifier b) k st = refl
  next_is (quantity b w) (kinds.Mark Colon) st = refl
  next_is (quantity b w) k st = refl
  next_is (domained b w a) (kinds.Mark Arrow) st = refl
  next_is (domained b w a) k st = refl
  next_is asserting (kinds.Mark Colon) st = refl
  next_is asserting k st = refl
  next_is (lettered ls w) (kinds.Mark Colon) st = refl
  next_is (lettered ls w) k st = refl
  next_is (with_keys x ks) (kinds.Mark Dot) st = refl
  next_is (with_keys x ks) k st = refl
  next_is (indexed w) (kinds.Natural n) st = refl
  next_is (indexed w) k st = refl
  next_is (moded i d) (kinds.Builtin builtins.Text) st = refl
  next_is (moded i d) (kinds.Name x) st = asked (λ mode. have st (ready (m.import i d mode))) (bytes_eq x (codes "Location"))
  next_is (moded i d) k st = refl
  next_is (dotted x) (kinds.Mark BraceOpen) st = refl
  next_is (dotted x) k st = refl
  next_is (projecting x false) (kinds.Mark Comma) st = refl
  next_is (projecting x false) k st = refl
  next_is (projecting x true) (kinds.Mark Comma) st = refl
  next_is (projecting x true) k st = refl
  next_is (projected x c ks) (kinds.Mark Comma) st = refl
  next_is (projected x c ks) k st = refl
  next_is (projected_comma x c ks) (kinds.Mark BraceClose) st = refl
  next_is (projected_comma x c ks) k st = refl
  next_is (empty c) (kinds.Mark Colon) st = refl
  next_is (empty c) k st = refl
  next_is (union_start false) (kinds.Mark Bar) st = refl
  next_is (union_start false) k st = refl
  next_is (union_start true) (kinds.Mark Bar) st = refl
  next_is (union_start true) k st = refl
  next_is (alternative c as' j) (kinds.Mark Colon) st = refl
  next_is (alternative c as' j) k st = refl
  next_is (alternative_bar c as') (kinds.Mark AngleClose) st = refl
  next_is (alternative_bar c as') k st = refl
  next_is (record_start false) (kinds.Mark Comma) st = refl
  next_is (record_start false) k st = refl
  next_is (record_start true) (kinds.Mark Comma) st = refl
  next_is (record_start true) k st = refl
  next_is (record_equals c false) (kinds.Mark Comma) st = refl
  next_is (record_equals c false) k st = refl
  next_is (record_equals c true) (kinds.Mark Comma) st = refl
  next_is (record_equals c true) k st = refl
  next_is (field_comma c fs) (kinds.Mark BraceClose) st = refl
  next_is (field_comma c fs) k st = refl
  next_is (field_key c fs j) (kinds.Mark Colon) st = refl
  next_is (field_key c fs j) k st = refl
  next_is (entry_comma c es) (kinds.Mark BraceClose) st = refl
  next_is (entry_comma c es) k st = refl
  next_is (entry_keys c None (one_key j)) (kinds.Mark Colon) st = refl
  next_is (entry_keys c None (one_key j)) k st = refl
  next_is (entry_keys c None (more_keys js j)) (kinds.Mark Colon) st = refl
  next_is (entry_keys c None (more_keys js j)) k st = refl
  next_is (entry_keys c (Some es) (one_key j)) (kinds.Mark Colon) st = refl
  next_is (entry_keys c (Some es) (one_key j)) k st = refl
  next_is (entry_keys c (Some es) (more_keys js j)) (kinds.Mark Colon) st = refl
  next_is (entry_keys c (Some es) (more_keys js j)) k st = refl
  next_is w k st = refl
