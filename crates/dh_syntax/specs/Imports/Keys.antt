-- What one run resolves once: a canonical location, how it is read, and the digest that its value must have.
use Rattle.std.specs.Prelude.{ℕ, Bool, true, false, not, ◌&&◌, ◌||◌, List, [], ◌∷◌, Option, Some, None}
use Rattle.dh_syntax.specs.declared.locations.Digest.{Digest}
use Rattle.dh_syntax.specs.declared.locations.Import.{Import}
use Rattle.dh_syntax.specs.declared.locations.Key.{Key}
use Rattle.dh_syntax.specs.declared.locations.Loc.{Loc}
use Rattle.dh_syntax.specs.declared.locations.Loc.TheVariants as locs
use Rattle.dh_syntax.specs.Bytes.Binary.{mode_code}
use Rattle.dh_syntax.specs.Imports.Locations.{chain, loc_text}
use Rattle.dh_syntax.specs.Expressions.Numbers.{bytes_eq}
use Rattle.dh_syntax.specs.Expressions.Order.{before}
use Rattle.dh_syntax.specs.Expressions.SameTree.{option_eq, digest_eq, mode_eq, loc_eq}

-- the key of an import in a text at this location; with none, the text is the input
abbrev pub chained : Option Loc → Import → Key
chained at i = record { loc = chain at i.loc; mode = i.mode; digest = i.digest }

-- the same key without a digest
abbrev pub bare : Key → Key
bare k = record { loc = k.loc; mode = k.mode; digest = None }

-- whether two keys have the same location, mode and digest
abbrev pub key_eq : Key → Key → Bool
key_eq j k = loc_eq j.loc k.loc && mode_eq j.mode k.mode && option_eq digest_eq j.digest k.digest

-- ---- the order of keys

-- whether the first list of texts comes before the second: by their first texts that differ
abbrev pub texts_before : List (List ℕ) → List (List ℕ) → Bool
texts_before [] [] = false
texts_before [] (y ∷ ys) = true
texts_before (x ∷ xs) [] = false
texts_before (x ∷ xs) (y ∷ ys) = before x y || (bytes_eq x y && texts_before xs ys)

-- no digest comes before a digest
abbrev pub digest_rank : Option Digest → List ℕ
digest_rank None = []
digest_rank (Some d) = 0 ∷ d.0

-- no query comes before a query
abbrev pub query_rank : Option (List ℕ) → List ℕ
query_rank None = []
query_rank (Some q) = 0 ∷ q

-- A location by its parts: it decides where two locations have one text, so that the order is total on every key.
abbrev pub loc_rank : Loc → List (List ℕ)
loc_rank (locs.Abs cs) = (0 ∷ []) ∷ cs
loc_rank (locs.Here cs) = (1 ∷ []) ∷ cs
loc_rank (locs.Parent cs) = (2 ∷ []) ∷ cs
loc_rank (locs.Home cs) = (3 ∷ []) ∷ cs
loc_rank (locs.Http u) = (4 ∷ []) ∷ u.host ∷ query_rank u.query ∷ u.comps
loc_rank (locs.Https u) = (5 ∷ []) ∷ u.host ∷ query_rank u.query ∷ u.comps
loc_rank (locs.Env x) = (6 ∷ []) ∷ x ∷ []
loc_rank locs.Missing = (7 ∷ []) ∷ []

-- what keys are ordered by: the text of the location, the mode, the digest
abbrev pub key_rank : Key → List (List ℕ)
key_rank k = loc_text k.loc ∷ (mode_code k.mode ∷ []) ∷ digest_rank k.digest ∷ loc_rank k.loc

-- whether j comes before k or is k
abbrev pub key_le : Key → Key → Bool
key_le j k = not (texts_before (key_rank k) (key_rank j))
