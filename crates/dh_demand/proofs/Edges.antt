-- The edges of an expression and of its parts.
use Rattle.std.specs.Prelude.{◌≡◌, ◌<◌, ℕ, ◌+◌, ◌++◌, List, [], ◌∷◌, length, drop, Option, refl}
use Rattle.std.proofs.Common.{ap, sym, ◌∙◌, subst, get_or, length-append}
use Rattle.std.proofs.lemmas.List.Elements.{All-drop}
use Rattle.dh_syntax.specs.declared.expressions.Kid.{Kid}
use Rattle.dh_syntax.specs.declared.locations.Key.{Key}
use Rattle.dh_syntax.specs.declared.locations.Loc.{Loc}
use Rattle.dh_syntax.specs.Expressions.Bridge.{term, row_of}
use Rattle.dh_syntax.specs.Expressions.Tree.{Row as Parts, Leaf, Node, end, kid, Name, Var, Term}
use Rattle.dh_imports.specs.Walk.{Form, importing, choosing, other, form_of, keys_of_form, keys_of, keys_of_row}
use Rattle.dh_syntax.proofs.Rows.{row_of-drop_item}
use Rattle.dh_demand.specs.declared.scans.Edge.{Edge}
use Rattle.dh_demand.specs.Results.{Row}
use Rattle.dh_demand.specs.Scans.{IsEdge, Begins, AreInside, own_imports, imports, imports_of_parts}

-- there are as many keys as imports
own-count : (at : Option Loc) (f : Form) → length (keys_of_form at f) ≡ own_imports f
own-count at (importing i) = refl
own-count at choosing = refl
own-count at other = refl

mutual
  pub count-keys : (at : Option Loc) (e : Term) → length (keys_of at e) ≡ imports e
  count-keys at (Leaf v) = refl
  count-keys at (Node op r) =
      length-append (keys_of_form at (form_of op)) (keys_of_row at r) ∙ ap (λ n. n + length (keys_of_row at r)) (own-count at (form_of op))
      ∙ ap (λ n. own_imports (form_of op) + n) (count-keys_row at r)

  pub count-keys_row : (at : Option Loc) (r : Parts Var Name) → length (keys_of_row at r) ≡ imports_of_parts r
  count-keys_row at end = refl
  count-keys_row at (kid b e r) =
      length-append (keys_of at e) (keys_of_row at r) ∙ ap (λ n. n + length (keys_of_row at r)) (count-keys at e) ∙ ap (λ n. imports e + n) (count-keys_row at r)

-- edges of two lists of keys, one after the other
pub begins-front : (parent : Option Loc) (rows : List Row) (ks ls : List Key) (es : List Edge) → Begins parent rows (ks ++ ls) es → Begins parent rows ks es
begins-front parent rows [] ls es h = tt
begins-front parent rows (k ∷ ks) ls [] h = h
begins-front parent rows (k ∷ ks) ls (e ∷ es) h = (h.0, begins-front parent rows ks ls es h.1)

pub begins-back : (parent : Option Loc) (rows : List Row) (ks ls : List Key) (es : List Edge) → Begins parent rows (ks ++ ls) es → Begins parent rows ls (drop (length ks) es)
begins-back parent rows [] ls es h = h
begins-back parent rows (k ∷ ks) ls [] h = absurd h
begins-back parent rows (k ∷ ks) ls (e ∷ es) h = begins-back parent rows ks ls es h.1

pub begins-first : (parent : Option Loc) (rows : List Row) (k : Key) (ks : List Key) (e : Edge) (es : List Edge) → Begins parent rows (k ∷ ks) (e ∷ es) → IsEdge parent rows k e
begins-first parent rows k ks e es h = h.0

-- the edges of the kid at a place, and those after it
pub begins_at_item : (parent : Option Loc) (rows : List Row) (ks : List Kid) (i : ℕ) (k : Kid) (es : List Edge) → i < length ks → k ≡ get_or ks i k
    → Begins parent rows (keys_of_row parent (row_of (drop i ks))) es → Begins parent rows (keys_of parent (term k.body)) es
begins_at_item parent rows ks i k es h e b =
    begins-front parent rows (keys_of parent (term k.body)) (keys_of_row parent (row_of (drop (i + 1) ks))) es
    (subst (λ r. Begins parent rows (keys_of_row parent r) es) (row_of-drop_item ks i k h e) b)

pub begins_after_item : (parent : Option Loc) (rows : List Row) (ks : List Kid) (i : ℕ) (k : Kid) (es rest : List Edge) → i < length ks → k ≡ get_or ks i k
    → rest ≡ drop (imports (term k.body)) es
    → Begins parent rows (keys_of_row parent (row_of (drop i ks))) es → Begins parent rows (keys_of_row parent (row_of (drop (i + 1) ks))) rest
begins_after_item parent rows ks i k es rest h e p b =
    subst (Begins parent rows (keys_of_row parent (row_of (drop (i + 1) ks)))) (ap (λ n. drop n es) (count-keys parent (term k.body)) ∙ sym p)
    (begins-back parent rows (keys_of parent (term k.body)) (keys_of_row parent (row_of (drop (i + 1) ks))) es
    (subst (λ r. Begins parent rows (keys_of_row parent r) es) (row_of-drop_item ks i k h e) b))

pub inside-drop : (rows : List Row) (n : ℕ) (es rest : List Edge) → rest ≡ drop n es → AreInside rows es → AreInside rows rest
inside-drop rows n es rest p h = subst (AreInside rows) (sym p) (All-drop (λ (e : Edge). e.key < length rows) n es h)
