-- The last step of a key: from what was found for it to its outcome (the standard's "Import resolution").
use Rattle.std.specs.Prelude.{ℕ, nat_lt, if◌then◌else◌, true, false, List, [], ◌∷◌, length, Option, Some, None, codes}
use Rattle.std.specs.Str.{is_utf8}
use Rattle.std.specs.Str.Lossy.{utf8_valid_len}
use Rattle.dh_syntax.specs.declared.expressions.Alt.{Alt}
use Rattle.dh_syntax.specs.declared.faults.ParseFault.TheVariants as parse
use Rattle.dh_syntax.specs.declared.faults.TypeFault.TheVariants as type
use Rattle.dh_syntax.specs.declared.locations.Digest.{Digest}
use Rattle.dh_syntax.specs.declared.locations.Key.{Key}
use Rattle.dh_syntax.specs.declared.locations.Loc.{Loc}
use Rattle.dh_syntax.specs.declared.locations.Loc.TheVariants as locs
use Rattle.dh_syntax.specs.declared.operators.Builtin.TheVariants as builtins
use Rattle.dh_syntax.specs.Names.Alpha.{alpha}
use Rattle.dh_syntax.specs.Bytes.Digests.{digest_of}
use Rattle.dh_syntax.specs.Expressions.Forms as form
use Rattle.dh_syntax.specs.Normalising.Heads.{Whole, Answer, Found, run}
use Rattle.dh_syntax.specs.Typing.Inference.{Judgment, Has, Ill}
use Rattle.dh_syntax.specs.Imports.Locations.{loc_text}
use Rattle.dh_syntax.specs.Normalising.Named.{names}
use Rattle.dh_syntax.specs.Typing.NamedTyping.{infer}
use Rattle.dh_syntax.specs.Normalising.Normal.{endless}
use Rattle.dh_syntax.specs.Expressions.SameTree.{digest_eq}
use Rattle.dh_syntax.specs.Limits.{most_bytes}
use Rattle.dh_syntax.specs.Expressions.Tree.{Name, Term}
use Rattle.dh_syntax.specs.Typing.TypeRules.{rule_number}
use Rattle.sha2.specs.Sha256.{sha256}
use Rattle.dh_imports.specs.declared.outcomes.Blame.{Blame}
use Rattle.dh_imports.specs.declared.outcomes.Origin.{Origin}
use Rattle.dh_imports.specs.declared.outcomes.Origin.TheVariants.{Fetched, Cached, Made}
use Rattle.dh_imports.specs.declared.outcomes.Why.{Why}
use Rattle.dh_imports.specs.declared.outcomes.Why.TheVariants.{Parse, Typing, Differs}
use Rattle.dh_imports.specs.Outcomes.{Outcome, Good, Bad}

-- what was found for a key
pub data Item : Type 0 where
  -- its code, with a value for each import, and the allowed origin of its text
  Code : Term → Option (List ℕ) → Item
  -- its text, with its allowed origin
  Text : List ℕ → Option (List ℕ) → Item
  Location : Loc → Item
  -- the value of the key without digest, with its origin
  Compare : Term → Origin → Item
  -- the expression of a good entry
  Entry : Term → Item
  -- the fault of its walk or of what is recorded for it
  Fault : Blame → Item

-- the outcome of a key that is at fault itself for this reason
abbrev pub own : Key → Why → Outcome
own k w = Bad (record { at = Some k; why = w })

-- ---- locations

-- an alternative of the location type that holds a text
abbrev pub texts_alternative : Name → Alt
texts_alternative x = record { label = x; typed = true }

-- the type `Text`
abbrev pub text_type : Term
text_type = form.builtin builtins.Text

-- `< Environment : Text | Local : Text | Missing | Remote : Text >`
abbrev pub location_type : Term
location_type =
    form.union
    (texts_alternative (codes "Environment") ∷ texts_alternative (codes "Local") ∷ record { label = codes "Missing"; typed = false } ∷ texts_alternative (codes "Remote") ∷ [])
    (text_type ∷ text_type ∷ text_type ∷ [])

-- the value of an alternative of the location type with this text
abbrev pub located : Name → List ℕ → Term
located x t = form.app (form.field location_type x) (form.plain_text t)

-- a location as a value; an environment variable has its bare name
abbrev pub location_value : Loc → Term
location_value (locs.Http u) = located (codes "Remote") (loc_text (locs.Http u))
location_value (locs.Https u) = located (codes "Remote") (loc_text (locs.Https u))
location_value (locs.Env x) = located (codes "Environment") x
location_value locs.Missing = form.field location_type (codes "Missing")
location_value l = located (codes "Local") (loc_text l)

-- ---- the step

-- the outcome of an import as text: the text, if it is UTF-8 and not too large
abbrev pub text_outcome : Key → List ℕ → Option (List ℕ) → Outcome
text_outcome k bytes allow =
    if nat_lt most_bytes (length bytes) then own k (Parse parse.TooLarge)
    else if is_utf8 bytes then Good (form.plain_text bytes) (Fetched allow)
    else own k (Parse (parse.NotUtf8 (utf8_valid_len bytes)))

-- the outcome of a key whose value must have this digest, if it names one
abbrev pub compared : Key → Option Digest → Term → Origin → Outcome
compared k None v o = Good v o
compared k (Some d) v o = if digest_eq d (digest_of v) then Good v o else own k (Differs d (digest_of v))

-- With so many units, heights and depth, and such a purse aside: none where they do not suffice, or where there is no type or normal form and no
-- place at fault either.
abbrev pub by_normal : Option (List ℕ) → Answer Term → Option Outcome
by_normal allow (Found f left) = Some (Good f (Fetched allow))
by_normal allow _ = None

-- the outcome of code by its type: its normal form, or the typing fault
abbrev pub by_type : ℕ → Key → Term → Option (List ℕ) → Judgment Term → Option Outcome
by_type n k e allow (Has t left) = by_normal allow (run (endless names) n Whole n e)
by_type n k e allow (Ill path rule) = Some (own k (Typing (type.Ill (record { path = path; rule = rule_number rule }))))
by_type n k e allow _ = None

-- code is typed, and its value is its normal form
abbrev pub code_outcome : Key → Term → Option (List ℕ) → ℕ → Option Outcome
code_outcome k e allow n = by_type n k e allow (infer n n n [] n e)

-- The outcome of a key by its item, with so much to spend on typing and normalising.
unfoldable pub last_step : ℕ → Key → Item → Option Outcome
last_step n k (Code e allow) = code_outcome k e allow n
last_step n k (Text bytes allow) = Some (text_outcome k bytes allow)
last_step n k (Location l) = Some (Good (location_value l) Made)
last_step n k (Compare v o) = Some (compared k k.digest v o)
last_step n k (Entry e) = Some (Good e Cached)
last_step n k (Fault b) = Some (Bad b)
