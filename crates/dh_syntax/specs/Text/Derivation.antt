-- The grammar's derivation trees (`dhall.abnf`, from "import-type" to "complete-expression"): one constructor for each
-- alternative of a production, with the values of the tokens that have one.
--
-- Beside each constructor stands its alternative. There `~` says that the next token needs white space before it, `[ ]`
-- that a piece may be absent, and `*` that it may be repeated. A production that only passes on the next one has no
-- constructor: the levels of `Derived` say which trees may stand for `expr`, `op`, `app`, `imp`, `sel` and `prim`. What is
-- repeated grows to the right, as it is read.
use Rattle.std.specs.Prelude.{ℕ, ℤ, Bool, true, false, List, [], ◌∷◌, ◌++◌, Option, codes}
use Rattle.dh_syntax.specs.Expressions.Operators.{builtin_name}
use Rattle.dh_syntax.specs.declared.locations.Digest.{Digest}
use Rattle.dh_syntax.specs.declared.locations.Loc.{Loc}
use Rattle.dh_syntax.specs.declared.locations.Mode.{Mode}
use Rattle.dh_syntax.specs.declared.operators.BinOp.{BinOp}
use Rattle.dh_syntax.specs.declared.operators.Builtin.{Builtin}
use Rattle.dh_syntax.specs.declared.tokens.TextForm.{TextForm}
use Rattle.dh_syntax.specs.Expressions.Tree.{Name}

-- name: a name that is no keyword and no built-in name, or any between backticks (`nonreserved-label`)
pub data NameToken : Type 0 where
  plain : Name → NameToken
  quoted : Name → NameToken

-- key: a name, or a built-in name or `Some`, taken as a label (`any-label-or-some`)
pub data Key : Type 0 where
  name_key : NameToken → Key
  truth_key : Bool → Key
  builtin_key : Builtin → Key
  some_key : Key

-- key (',' key)*, and key ('.' key)*
pub data Keys : Type 0 where
  one_key : Key → Keys
  more_keys : Keys → Key → Keys

-- the label that is written so
abbrev pub name_label : NameToken → Name
name_label (plain x) = x
name_label (quoted x) = x

-- the label that a key says: a name, or a built-in name or `Some` taken as one
abbrev pub key_label : Key → Name
key_label (name_key w) = name_label w
key_label (truth_key true) = codes "True"
key_label (truth_key false) = codes "False"
key_label (builtin_key b) = builtin_name b
key_label some_key = codes "Some"

-- the labels of these keys, in the order in which they are written
abbrev pub labels : Keys → List Name
labels (one_key k) = key_label k ∷ []
labels (more_keys ks k) = labels ks ++ key_label k ∷ []

-- path | URL | environment | missing (`import-type`)
pub data ImportType : Type 0 where
  path : Loc → ImportType
  url : Loc → ImportType
  environment : List ℕ → ImportType
  missing : ImportType

mutual
  pub data Derivation : Type 0 where
    -- expr, at level 0
    -- 'λ' '(' name ':' ~ expr ')' '→' expr
    lambda : NameToken → Derivation → Derivation → Derivation
    -- '∀' '(' name ':' ~ expr ')' '→' expr
    pi : NameToken → Derivation → Derivation → Derivation
    -- op '→' expr
    arrow : Derivation → Derivation → Derivation
    -- if ~ expr then ~ expr else ~ expr
    choice : Derivation → Derivation → Derivation → Derivation
    -- lets in ~ expr
    lets : Lets → Derivation → Derivation
    updates : Updates → Derivation
    -- merge ~ imp ~ imp ':' ~ expr
    merge_as : Derivation → Derivation → Derivation → Derivation
    -- toMap ~ imp ':' ~ expr
    to_map_as : Derivation → Derivation → Derivation
    -- '[' [','] ']' ':' ~ expr; here and below, a truth value says whether a separator stands
    empty_list : Bool → Derivation → Derivation
    -- assert ':' ~ expr
    assertion : Derivation → Derivation
    -- op ':' ~ expr
    annotation : Derivation → Derivation → Derivation
    -- op, at levels 1 to 13, and `::`, at level 15: the left part, the mark and the right part; after + and ? there is a gap
    operation : BinOp → Derivation → Derivation → Derivation
    -- app, at level 14
    -- app ~ imp
    application : Derivation → Derivation → Derivation
    -- merge ~ imp ~ imp
    merging : Derivation → Derivation → Derivation
    -- Some ~ imp
    some_of : Derivation → Derivation
    -- toMap ~ imp
    to_map : Derivation → Derivation
    -- imp, at level 15
    -- import type [~ digest] [as ~ (Text | Location)]
    import : ImportType → Option Digest → Mode → Derivation
    -- sel, at level 16
    -- sel '.' key
    field : Derivation → Key → Derivation
    -- sel '.' '{' [','] '}'
    project_none : Derivation → Bool → Derivation
    -- sel '.' '{' [','] key (',' key)* [','] '}'
    project : Derivation → Bool → Keys → Bool → Derivation
    -- sel '.' '(' expr ')'
    project_by : Derivation → Derivation → Derivation
    -- prim, at level 17
    natural : ℕ → Derivation
    integer : ℤ → Derivation
    truth : Bool → Derivation
    builtin : Builtin → Derivation
    -- name ['@' natural]
    variable : NameToken → Option ℕ → Derivation
    -- opening chunks closing
    text : TextForm → Chunks → Derivation
    -- '(' expr ')'
    brackets : Derivation → Derivation
    -- '[' [','] items [','] ']'
    list : Bool → Items → Bool → Derivation
    -- '<' ['|'] '>'
    union_none : Bool → Derivation
    -- '<' ['|'] alternatives ['|'] '>'
    union : Bool → Alternatives → Bool → Derivation
    -- '{' [','] '}'
    record_type_none : Bool → Derivation
    -- '{' [','] fields [','] '}'
    record_type : Bool → Fields → Bool → Derivation
    -- '{' [','] '=' [','] '}'
    record_none : Bool → Bool → Derivation
    -- '{' [','] entries [','] '}'
    record_of : Bool → Entries → Bool → Derivation

  -- [':' ~ expr]
  pub data Note : Type 0 where
    untyped : Note
    typed : Derivation → Note

  -- let ~ name note '=' expr ~, once or more
  pub data Lets : Type 0 where
    one_let : NameToken → Note → Derivation → Lets
    more_lets : Lets → NameToken → Note → Derivation → Lets

  -- imp ~ with ~ key ('.' key)* '=' op, and then ~ with ~ key ('.' key)* '=' op, any number of times
  pub data Updates : Type 0 where
    one_update : Derivation → Keys → Derivation → Updates
    more_updates : Updates → Keys → Derivation → Updates

  -- [piece] ('${' expr '}' [piece])*
  pub data Chunks : Type 0 where
    start : Option (List ℕ) → Chunks
    more_chunks : Chunks → Derivation → Option (List ℕ) → Chunks

  -- expr (',' expr)*
  pub data Items : Type 0 where
    one_item : Derivation → Items
    more_items : Items → Derivation → Items

  -- key note ('|' key note)*
  pub data Alternatives : Type 0 where
    one_alternative : Key → Note → Alternatives
    more_alternatives : Alternatives → Key → Note → Alternatives

  -- key ':' ~ expr (',' key ':' ~ expr)*
  pub data Fields : Type 0 where
    one_field : Key → Derivation → Fields
    more_fields : Fields → Key → Derivation → Fields

  -- key | key ('.' key)* '=' expr
  pub data Entry : Type 0 where
    alone : Key → Entry
    given : Keys → Derivation → Entry

  -- entry (',' entry)*
  pub data Entries : Type 0 where
    one_entry : Entry → Entries
    more_entries : Entries → Entry → Entries
