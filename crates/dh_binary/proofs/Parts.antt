-- The same reading over the parts of the definition.
use Rattle.std.specs.Prelude.{ℕ, ◌^◌, Bool, if◌then◌else◌, List, [], ◌∷◌, length, Option, Some, None}
use Rattle.dh_syntax.specs.Bytes.BinaryItems.{Item}
use Rattle.dh_syntax.specs.Bytes.BinaryLeaves as leaf
use Rattle.dh_syntax.specs.Bytes.BinaryLeaves.{◌>>=◌, is_null, octets_of, unsigned_of, label_of, labels_of, named_label, mode_by, query_of, digest_of, path_of, bignum, tagged_integer}
use Rattle.dh_syntax.specs.Bytes.BinaryRead as old
use Rattle.dh_syntax.specs.Bytes.BinaryRead.{Part, operator, part, parts, expression, array_term, only_term}
use Rattle.dh_syntax.specs.Expressions.Numbers.{eq}
use Rattle.dh_syntax.specs.Expressions.Tree.{Term}
use Rattle.dh_binary.specs.Machine.{Value, nothing, holds, called, counted, indexed, signed, coded, by, hashed, taken, queried, names, entries, Want, term, whole, nullable, opening, spelled, null, index, operator_code, digest, mode, scheme, query, natural, integer, big_natural, big_integer, path, boxed, rows, none, Place, is_some, when, row_at, scheme_fits, fill, result, want, Entry}
use Rattle.dh_binary.specs.Inside.Terms.{terms}

abbrev pub hold : Option Term → Option (Value Term)
hold o = o >>= λ t. Some (holds t)

abbrev pub null_or : Value Term → Item → Option (Value Term) → Option (Value Term)
null_or v i o = if is_null i then Some v else o

abbrev pub call : Option (List ℕ) → Option (Value Term)
call o = o >>= λ x. Some (called x)

abbrev pub open_by : ℕ → Item → Option ℕ → Option (Value Term)
open_by k i (Some n) = when (is_some (row_at {T = Term} n k)) (coded n k)
open_by k i None = if eq k 1 then call (named_label i) else None

abbrev pub box_by : Item → Option Term → Option (Value Term)
box_by i (Some t) = Some (holds t)
box_by i None = call (label_of i)

-- the entries of a map, where null is a value if it may be
abbrev pub kept_value : Bool → old.Value → Option (Option Term)
kept_value nulls old.nothing = if nulls then Some None else None
kept_value nulls (old.holds t) = Some (Some t)

abbrev pub kept : Bool → old.Entry → Option (Entry Term)
kept nulls e = kept_value nulls e.value >>= λ v. Some (record { name = e.name; value = v })

abbrev pub all_kept : Bool → List old.Entry → Option (List (Entry Term))
all_kept nulls [] = Some []
all_kept nulls (e ∷ es) = kept nulls e >>= λ f. all_kept nulls es >>= λ fs. Some (f ∷ fs)

module _ (b : Bool) where
  abbrev pub read_part : Want → Part → Option (Value Term)
  read_part term p = hold p.term
  read_part whole p = hold (expression b p.item)
  read_part nullable p = null_or nothing p.item (hold p.term)
  read_part (opening k) p = open_by k p.item (unsigned_of p.item)
  read_part (spelled test) p = call (leaf.spelled test p.item)
  read_part null p = null_or nothing p.item None
  read_part index p = leaf.index_of b p.item >>= λ n. Some (indexed n)
  read_part operator_code p = unsigned_of p.item >>= λ n. operator n >>= λ o. Some (by o)
  read_part digest p = digest_of p.item >>= λ d. Some (hashed d)
  read_part mode p = leaf.mode_of p.item >>= λ how. Some (taken how)
  read_part (scheme k) p = unsigned_of p.item >>= λ n. when (scheme_fits n k) (counted n)
  read_part query p = query_of p.item >>= λ q. Some (queried q)
  read_part natural p = leaf.natural_of b p.item >>= λ n. Some (counted n)
  read_part integer p = leaf.integer_of b p.item >>= λ z. Some (signed z)
  read_part big_natural p = octets_of p.item >>= λ bs. bignum b (2 ^ 128) bs >>= λ n. Some (counted n)
  read_part (big_integer t) p = octets_of p.item >>= λ bs. tagged_integer b t bs >>= λ z. Some (signed z)
  read_part path p = path_of p.item >>= λ ks. Some (names ks)
  read_part boxed p = box_by p.item p.boxed
  read_part (rows nulls) p = p.entries >>= λ es. all_kept nulls es >>= λ fs. Some (entries fs)
  read_part none p = None

  abbrev pub reads_parts : Place Term → List Part → Option (Value Term)
  reads_parts p [] = result terms p
  reads_parts p (q ∷ ps) = read_part (want p (length ps)) q >>= λ v. reads_parts (fill terms p v) ps
