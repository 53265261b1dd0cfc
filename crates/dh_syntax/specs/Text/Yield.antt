-- The tokens of a derivation tree, in the order of the text.
use Rattle.std.specs.Prelude.{ℕ, suc, Bool, true, false, List, [], ◌∷◌, ◌++◌, Option, Some, None, codes}
use Rattle.dh_syntax.specs.declared.locations.Digest.{Digest}
use Rattle.dh_syntax.specs.declared.locations.Mode.{Mode}
use Rattle.dh_syntax.specs.declared.locations.Mode.TheVariants as modes
use Rattle.dh_syntax.specs.declared.operators.BinOp.{BinOp}
use Rattle.dh_syntax.specs.declared.operators.BinOp.TheVariants as binary
use Rattle.dh_syntax.specs.declared.operators.Builtin.TheVariants as builtins
use Rattle.dh_syntax.specs.declared.tokens.Keyword.{Keyword}
use Rattle.dh_syntax.specs.declared.tokens.Keyword.TheVariants as keywords
use Rattle.dh_syntax.specs.declared.tokens.Mark.{Mark}
use Rattle.dh_syntax.specs.declared.tokens.Mark.TheVariants.{ParenOpen, ParenClose, BracketOpen, BracketClose, BraceOpen, BraceClose, AngleOpen, AngleClose, Comma, Dot, Colon, Equals, At, Bar, Arrow, Lambda, Forall, Operator}
use Rattle.dh_syntax.specs.declared.tokens.TokenKind.{TokenKind}
use Rattle.dh_syntax.specs.declared.tokens.TokenKind.TheVariants as kinds
use Rattle.dh_syntax.specs.Text.Derivation.{NameToken, plain, quoted, Key, name_key, truth_key, builtin_key, some_key, Keys, one_key, more_keys, ImportType, path, url, environment, missing, Derivation, lambda, pi, arrow, choice, lets, updates, merge_as, to_map_as, empty_list, assertion, annotation, operation, application, merging, some_of, to_map, import, field, project_none, project, project_by, natural, integer, truth, builtin, variable, text, brackets, list, union_none, union, record_type_none, record_type, record_none, record_of, Note, untyped, typed, Lets, one_let, more_lets, Updates, one_update, more_updates, Chunks, start, more_chunks, Items, one_item, more_items, Alternatives, one_alternative, more_alternatives, Fields, one_field, more_fields, Entry, alone, given, Entries, one_entry, more_entries}

-- a token of a tree
pub record Written : Type 0 where
  pub kind : TokenKind
  -- whether white space must stand before it (`whsp1`)
  pub gap : Bool
  -- how many productions `expr` stand open at it
  pub depth : ℕ

-- white space must stand before a token, or may
abbrev pub apart : Bool
apart = true

-- white space may stand before a token, but need not
abbrev pub free : Bool
free = false

-- a token where so many productions `expr` stand open
abbrev pub token : ℕ → Bool → TokenKind → Written
token n g k = record { kind = k; gap = g; depth = n }

-- a token that is a mark
abbrev pub mark : ℕ → Bool → Mark → Written
mark n g m = token n g (kinds.Mark m)

-- a token that is a keyword
abbrev pub keyword : ℕ → Bool → Keyword → Written
keyword n g w = token n g (kinds.Keyword w)

-- the kind of token that a name is, plain or between backticks
abbrev pub name_kind : NameToken → TokenKind
name_kind (plain x) = kinds.Name x
name_kind (quoted x) = kinds.Quoted x

-- the kind of token that a key is
abbrev pub key_kind : Key → TokenKind
key_kind (name_key w) = name_kind w
key_kind (truth_key b) = kinds.Bool b
key_kind (builtin_key b) = kinds.Builtin b
key_kind some_key = kinds.Keyword keywords.Some

-- a token that is a name
abbrev pub name : ℕ → Bool → NameToken → Written
name n g w = token n g (name_kind w)

-- a token that is a key
abbrev pub key : ℕ → Bool → Key → Written
key n g k = token n g (key_kind k)

-- the kind of token that the location of an import is
abbrev pub import_type_kind : ImportType → TokenKind
import_type_kind (path l) = kinds.Path l
import_type_kind (url l) = kinds.Url l
import_type_kind (environment x) = kinds.Environment x
import_type_kind missing = kinds.Keyword keywords.Missing

-- a separator, where it stands
abbrev pub separator : ℕ → Bool → Mark → List Written
separator n true m = mark n free m ∷ []
separator n false m = []

-- labels with a mark between each two
abbrev pub keys_yield : ℕ → Bool → Mark → Keys → List Written
keys_yield n g m (one_key k) = key n g k ∷ []
keys_yield n g m (more_keys ks k) = keys_yield n g m ks ++ mark n free m ∷ key n free k ∷ []

-- the tokens of a variable's index, if it has one: `@` and a number
abbrev pub index_yield : ℕ → Option ℕ → List Written
index_yield n None = []
index_yield n (Some i) = mark n free At ∷ token n free (kinds.Natural i) ∷ []

-- the token of a piece of text, if it is there
abbrev pub piece_yield : ℕ → Option (List ℕ) → List Written
piece_yield n None = []
piece_yield n (Some p) = token n free (kinds.TextPiece p) ∷ []

-- the token of an import's digest, if it has one, with white space before it
abbrev pub digest_yield : ℕ → Option Digest → List Written
digest_yield n None = []
digest_yield n (Some d) = token n apart (kinds.Digest d) ∷ []

-- the tokens of an import's mode, none for code
abbrev pub mode_yield : ℕ → Mode → List Written
mode_yield n modes.Code = []
mode_yield n modes.Text = keyword n free keywords.As ∷ token n apart (kinds.Builtin builtins.Text) ∷ []
mode_yield n modes.Location = keyword n free keywords.As ∷ token n apart (kinds.Name (codes "Location")) ∷ []

-- whether white space must stand behind an operator
abbrev pub gap_after : BinOp → Bool
gap_after binary.Plus = apart
gap_after binary.Fallback = apart
gap_after _ = free

-- the tokens of a derivation tree, and of each kind of its pieces
abbrev mutual
  -- the tokens of a tree at which n productions `expr` stand open, it counted where it is one; `g` tells whether white
  -- space must stand before the first token
  pub yield : ℕ → Bool → Derivation → List Written
  yield n g (lambda w a b) =
      mark n g Lambda ∷ mark n free ParenOpen ∷ name n free w ∷ mark n free Colon ∷ yield (suc n) apart a
      ++ mark n free ParenClose ∷ mark n free Arrow ∷ yield (suc n) free b
  yield n g (pi w a b) =
      mark n g Forall ∷ mark n free ParenOpen ∷ name n free w ∷ mark n free Colon ∷ yield (suc n) apart a
      ++ mark n free ParenClose ∷ mark n free Arrow ∷ yield (suc n) free b
  yield n g (arrow a b) = yield n g a ++ mark n free Arrow ∷ yield (suc n) free b
  yield n g (choice p t e) =
      keyword n g keywords.If ∷ yield (suc n) apart p
      ++ keyword n free keywords.Then ∷ yield (suc n) apart t
      ++ keyword n free keywords.Else ∷ yield (suc n) apart e
  yield n g (lets ls b) = lets_yield n g ls ++ keyword n apart keywords.In ∷ yield (suc n) apart b
  yield n g (updates us) = updates_yield n g us
  yield n g (merge_as t u a) = keyword n g keywords.Merge ∷ yield n apart t ++ yield n apart u ++ mark n free Colon ∷ yield (suc n) apart a
  yield n g (to_map_as t a) = keyword n g keywords.ToMap ∷ yield n apart t ++ mark n free Colon ∷ yield (suc n) apart a
  yield n g (empty_list c a) =
      mark n g BracketOpen ∷ separator n c Comma ++ mark n free BracketClose ∷ mark n free Colon ∷ yield (suc n) apart a
  yield n g (assertion a) = keyword n g keywords.Assert ∷ mark n free Colon ∷ yield (suc n) apart a
  yield n g (annotation t a) = yield n g t ++ mark n free Colon ∷ yield (suc n) apart a
  yield n g (operation o l r) = yield n g l ++ mark n free (Operator o) ∷ yield n (gap_after o) r
  yield n g (application f x) = yield n g f ++ yield n apart x
  yield n g (merging t u) = keyword n g keywords.Merge ∷ yield n apart t ++ yield n apart u
  yield n g (some_of t) = keyword n g keywords.Some ∷ yield n apart t
  yield n g (to_map t) = keyword n g keywords.ToMap ∷ yield n apart t
  yield n g (import i d m) = token n g (import_type_kind i) ∷ digest_yield n d ++ mode_yield n m
  yield n g (field t k) = yield n g t ++ mark n free Dot ∷ key n free k ∷ []
  yield n g (project_none t c) = yield n g t ++ mark n free Dot ∷ mark n free BraceOpen ∷ separator n c Comma ++ mark n free BraceClose ∷ []
  yield n g (project t c ks d) =
      yield n g t ++ mark n free Dot ∷ mark n free BraceOpen ∷ separator n c Comma ++ keys_yield n free Comma ks
      ++ separator n d Comma ++ mark n free BraceClose ∷ []
  yield n g (project_by t a) = yield n g t ++ mark n free Dot ∷ mark n free ParenOpen ∷ yield (suc n) free a ++ mark n free ParenClose ∷ []
  yield n g (natural i) = token n g (kinds.Natural i) ∷ []
  yield n g (integer z) = token n g (kinds.Integer z) ∷ []
  yield n g (truth b) = token n g (kinds.Bool b) ∷ []
  yield n g (builtin b) = token n g (kinds.Builtin b) ∷ []
  yield n g (variable w i) = name n g w ∷ index_yield n i
  yield n g (text f cs) = token n g (kinds.TextOpen f) ∷ chunks_yield n cs ++ token n free kinds.TextClose ∷ []
  yield n g (brackets e) = mark n g ParenOpen ∷ yield (suc n) free e ++ mark n free ParenClose ∷ []
  yield n g (list c is d) =
      mark n g BracketOpen ∷ separator n c Comma ++ items_yield n is ++ separator n d Comma ++ mark n free BracketClose ∷ []
  yield n g (union_none c) = mark n g AngleOpen ∷ separator n c Bar ++ mark n free AngleClose ∷ []
  yield n g (union c as' d) =
      mark n g AngleOpen ∷ separator n c Bar ++ alternatives_yield n as' ++ separator n d Bar ++ mark n free AngleClose ∷ []
  yield n g (record_type_none c) = mark n g BraceOpen ∷ separator n c Comma ++ mark n free BraceClose ∷ []
  yield n g (record_type c fs d) =
      mark n g BraceOpen ∷ separator n c Comma ++ fields_yield n fs ++ separator n d Comma ++ mark n free BraceClose ∷ []
  yield n g (record_none c d) =
      mark n g BraceOpen ∷ separator n c Comma ++ mark n free Equals ∷ separator n d Comma ++ mark n free BraceClose ∷ []
  yield n g (record_of c es d) =
      mark n g BraceOpen ∷ separator n c Comma ++ entries_yield n es ++ separator n d Comma ++ mark n free BraceClose ∷ []

  pub note_yield : ℕ → Note → List Written
  note_yield n untyped = []
  note_yield n (typed a) = mark n free Colon ∷ yield (suc n) apart a

  pub lets_yield : ℕ → Bool → Lets → List Written
  lets_yield n g (one_let w a v) =
      keyword n g keywords.Let ∷ name n apart w ∷ note_yield n a ++ mark n free Equals ∷ yield (suc n) free v
  lets_yield n g (more_lets ls w a v) =
      lets_yield n g ls ++ keyword n apart keywords.Let ∷ name n apart w ∷ note_yield n a ++ mark n free Equals ∷ yield (suc n) free v

  pub updates_yield : ℕ → Bool → Updates → List Written
  updates_yield n g (one_update t ks v) =
      yield n g t ++ keyword n apart keywords.With ∷ keys_yield n apart Dot ks ++ mark n free Equals ∷ yield n free v
  updates_yield n g (more_updates us ks v) =
      updates_yield n g us ++ keyword n apart keywords.With ∷ keys_yield n apart Dot ks ++ mark n free Equals ∷ yield n free v

  pub chunks_yield : ℕ → Chunks → List Written
  chunks_yield n (start p) = piece_yield n p
  chunks_yield n (more_chunks cs e p) =
      chunks_yield n cs ++ token n free kinds.InterpolationOpen ∷ yield (suc n) free e ++ token n free kinds.InterpolationClose ∷ piece_yield n p

  pub items_yield : ℕ → Items → List Written
  items_yield n (one_item e) = yield (suc n) free e
  items_yield n (more_items is e) = items_yield n is ++ mark n free Comma ∷ yield (suc n) free e

  pub alternatives_yield : ℕ → Alternatives → List Written
  alternatives_yield n (one_alternative k a) = key n free k ∷ note_yield n a
  alternatives_yield n (more_alternatives as' k a) = alternatives_yield n as' ++ mark n free Bar ∷ key n free k ∷ note_yield n a

  pub fields_yield : ℕ → Fields → List Written
  fields_yield n (one_field k a) = key n free k ∷ mark n free Colon ∷ yield (suc n) apart a
  fields_yield n (more_fields fs k a) = fields_yield n fs ++ mark n free Comma ∷ key n free k ∷ mark n free Colon ∷ yield (suc n) apart a

  pub entry_yield : ℕ → Entry → List Written
  entry_yield n (alone k) = key n free k ∷ []
  entry_yield n (given ks v) = keys_yield n free Dot ks ++ mark n free Equals ∷ yield (suc n) free v

  pub entries_yield : ℕ → Entries → List Written
  entries_yield n (one_entry e) = entry_yield n e
  entries_yield n (more_entries es e) = entries_yield n es ++ mark n free Comma ∷ entry_yield n e

-- the tokens of a whole text: expr END (`complete-expression`)
abbrev pub text_yield : Derivation → List Written
text_yield d = yield 1 free d ++ token 0 free kinds.End ∷ []
