-- The parts that the case of a node names are there.
use Rattle.std.specs.Prelude.{◌≡◌, ◌<◌, ◌&&◌, ℕ, zero, suc, Bool, true, false, if◌then◌else◌, List, [], ◌∷◌, length, Option, Some, None, IsTrue, refl}
use Rattle.std.proofs.Common.{sym, ap, subst, get_or, arith}
use Rattle.std.proofs.lemmas.Bool.{false≢true}
use Rattle.serde_json.specs.Data.{Data}
use Rattle.dh_syntax.specs.declared.expressions.Alt.{Alt}
use Rattle.dh_syntax.specs.declared.expressions.Kid.{Kid}
use Rattle.dh_syntax.specs.declared.expressions.Op.{Op}
use Rattle.dh_syntax.specs.declared.expressions.Op.TheVariants as ops
use Rattle.dh_syntax.specs.Expressions.Arity.{AreWellFormed, IsWellFormed, fits, plain}
use Rattle.dh_syntax.specs.Expressions.Bridge.{term, row_of}
use Rattle.dh_syntax.specs.Expressions.Nesting.{nesting, parts_nesting}
use Rattle.dh_syntax.specs.Expressions.Order.{ascending}
use Rattle.dh_syntax.specs.Expressions.Rows.{row_length}
use Rattle.dh_syntax.specs.Expressions.Tree.{Row, Node, Var, Name, Term, kid, end}
use Rattle.dh_syntax.specs.Expressions.Views.{as_alternative, as_union, first_part, is_none}
use Rattle.dh_syntax.proofs.Bridge.{row_of-cons}
use Rattle.dh_json.specs.Inside.{HasParts}
use Rattle.dh_json.specs.JsonValue.{Case, alternative, application_in, applied, case_of, empty_alternative, integer, natural, selection, selection_in, text_case, typed_alternative, whole}

plain-length : (n : ℕ) (r : Row Var Name) → IsTrue (plain n r) → row_length r ≡ n
plain-length zero end h = refl
plain-length (suc n) (kid None e r) h = ap suc (plain-length n r h)
plain-length zero (kid b e r) h = absurd (false≢true h)
plain-length (suc n) end h = absurd (false≢true h)
plain-length (suc n) (kid (Some x) e r) h = absurd (false≢true h)

first : (a b : Bool) → IsTrue (a && b) → IsTrue a
first true b h = refl
first false b h = absurd (false≢true h)

second : (a b : Bool) → IsTrue (a && b) → IsTrue b
second true b h = h
second false b h = absurd (false≢true h)

whole_parts : (o : Option Data) (r : Row Var Name) → HasParts (whole o) r
whole_parts None r = tt
whole_parts (Some d) r = tt

text_parts : (ps : List (List ℕ)) (r : Row Var Name) → HasParts (text_case ps) r
text_parts [] r = tt
text_parts (p ∷ []) r = tt
text_parts (p ∷ q ∷ ps) r = tt

empty_parts : (x : Name) (o : Option Bool) (r : Row Var Name) → HasParts (empty_alternative x o) r
empty_parts x None r = tt
empty_parts x (Some true) r = tt
empty_parts x (Some false) r = tt

selection_parts : (x : Name) (o : Option (List Alt)) (r : Row Var Name) → HasParts (selection x o) r
selection_parts x None r = tt
selection_parts x (Some alts) r = empty_parts x (alternative x alts) r

selection_in_parts : (x : Name) (o : Option Term) (r : Row Var Name) → HasParts (selection_in x o) r
selection_in_parts x None r = tt
selection_in_parts x (Some u) r = selection_parts x (as_union u) r

typed_parts : (o : Option Bool) (r : Row Var Name) → 1 < row_length r → HasParts (typed_alternative o) r
typed_parts None r h = tt
typed_parts (Some true) r h = h
typed_parts (Some false) r h = tt

applied_parts : (o : Option (Name × List Alt)) (r : Row Var Name) → 1 < row_length r → HasParts (applied o) r
applied_parts None r h = tt
applied_parts (Some a) r h = typed_parts (alternative a.0 a.1) r h

by_test : (b : Bool) (c d : Case) (r : Row Var Name) → HasParts c r → HasParts d r → HasParts (if b then c else d) r
by_test true c d r h k = h
by_test false c d r h k = k

application_parts : (o : Option Term) (r : Row Var Name) → 1 < row_length r → HasParts (application_in o) r
application_parts None r h = tt
application_parts (Some f) r h = by_test (is_none f) _ _ r tt (applied_parts (as_alternative f) r h)

pub has_parts : (op : Op) (r : Row Var Name) → IsTrue (fits op r) → HasParts (case_of op r) r
has_parts (ops.Builtin b) r h = tt
has_parts (ops.Bool b) r h = tt
has_parts (ops.Nat n) r h = whole_parts (natural n) r
has_parts (ops.Int z) r h = whole_parts (integer z) r
has_parts (ops.Text ps) r h = text_parts ps r
has_parts (ops.Import i) r h = tt
has_parts ops.Lam r h = tt
has_parts ops.Pi r h = tt
has_parts (ops.Let b) r h = tt
has_parts ops.App r h = application_parts (first_part r) r (let e = plain-length 2 r h in omega (arith, e))
has_parts ops.If r h = tt
has_parts (ops.Bin o) r h = tt
has_parts ops.EmptyList r h = tt
has_parts ops.List r h = tt
has_parts ops.Some r h = (let e = plain-length 1 r h in omega (arith, e))
has_parts (ops.Merge b) r h = tt
has_parts (ops.RecordType xs) r h = tt
has_parts (ops.Record xs) r h = (plain-length (length xs) r (second (ascending xs) _ h), first (ascending xs) _ h)
has_parts (ops.Field x) r h = selection_in_parts x (first_part r) r
has_parts (ops.Project xs) r h = tt
has_parts ops.ProjectType r h = tt
has_parts (ops.Union alts) r h = tt
has_parts ops.Assert r h = tt
has_parts ops.Annot r h = tt
has_parts (ops.ToMap b) r h = tt
has_parts (ops.With xs) r h = tt

-- ---- how deep a part nests

pub part_nesting : (ks : List Kid) (i : ℕ) (k : Kid) → i < length ks → k ≡ get_or ks i k → nesting (term k.body) < parts_nesting (row_of ks)
part_nesting [] i k h e = absurd (omega arith)
part_nesting (j ∷ ks) zero k h e = subst (λ n. nesting (term k.body) < n) (ap parts_nesting (sym (row_of-cons j ks))) (let a : nesting (term k.body) ≡ nesting (term j.body) = ap (λ x. nesting (term x.body)) e in omega (arith, a))
part_nesting (j ∷ ks) (suc i) k h e = subst (λ n. nesting (term k.body) < n) (ap parts_nesting (sym (row_of-cons j ks))) (let a = part_nesting ks i k (omega arith) e in omega (arith, a))

-- ---- a node

pub record IsNode (op : Op) (r : Row Var Name) (e : Term) : Type 0 where
  pub fit : IsTrue (fits op r)
  pub formed : AreWellFormed r
  pub same : parts_nesting r ≡ nesting e

pub of_node : (op : Op) (r : Row Var Name) (e : Term) → e ≡ Node op r → IsWellFormed e → IsNode op r e
of_node op r e h c = let d : IsWellFormed (Node op r) = subst IsWellFormed h c in subst (IsNode op r) (sym h) (record { fit = d.0; formed = d.1; same = refl })

pub kid_there : (ks : List Kid) (i : ℕ) → i < length ks → (k : Kid) × (k ≡ get_or ks i k)
kid_there [] i h = absurd (omega arith)
kid_there (k ∷ ks) zero h = (k, refl)
kid_there (j ∷ ks) (suc i) h = let r = kid_there ks i (omega arith) in (r.0, r.1)

pub label_there : (xs : List Name) (i : ℕ) → i < length xs → (x : Name) × (x ≡ get_or xs i x)
label_there [] i h = absurd (omega arith)
label_there (x ∷ xs) zero h = (x, refl)
label_there (y ∷ xs) (suc i) h = let r = label_there xs i (omega arith) in (r.0, r.1)
