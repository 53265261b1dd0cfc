-- What comes next in a node.
use Rattle.std.specs.Prelude.{◌≡◌, ◌+◌, ◌++◌, List, [], ◌∷◌, length, drop, Option, refl}
use Rattle.std.proofs.Common.{ap, sym, ◌∙◌, subst, arith, get_or, zero-add, add-zero}
use Rattle.std.proofs.lemmas.List.{drop-drop}
use Rattle.dh_syntax.specs.declared.expressions.Expr.{Expr}
use Rattle.dh_syntax.specs.declared.expressions.Expr.TheVariants as expr
use Rattle.dh_syntax.specs.declared.expressions.Kid.{Kid}
use Rattle.dh_syntax.specs.declared.expressions.Op.{Op}
use Rattle.dh_syntax.specs.declared.locations.Import.{Import}
use Rattle.dh_syntax.specs.declared.locations.Key.{Key}
use Rattle.dh_syntax.specs.declared.locations.Loc.{Loc}
use Rattle.dh_syntax.specs.Expressions.Bridge.{term, row_of}
use Rattle.dh_syntax.specs.Expressions.Tree.{Node, end, kid, Term}
use Rattle.dh_syntax.specs.Normalising.Trees.{replace_row}
use Rattle.dh_syntax.specs.Imports.Keys.{chained}
use Rattle.dh_imports.specs.Walk.{Ask, Form, importing, choosing, other, form_of, Walked, Ready, Fails, Turns, Needs, and_then, or_else, in_order, walk_node, walk, walks, keys_of_form, keys_of, keys_of_row}
use Rattle.dh_syntax.proofs.Bridge.{at_term-Node}
use Rattle.dh_demand.specs.declared.scans.Edge.{Edge}
use Rattle.dh_demand.specs.declared.ends.Next.{Next}
use Rattle.dh_demand.specs.declared.ends.Next.TheVariants as next
use Rattle.dh_demand.specs.declared.parts.Part.TheVariants as part
use Rattle.dh_demand.specs.Results.{Row, ask_of}
use Rattle.dh_demand.specs.Scans.{text_key, Begins, own_imports, imports, imports_of_parts}
use Rattle.dh_demand.specs.Nexts.{IsNext}
use Rattle.dh_demand.specs.Inside.Parts.{by_form, part_of}
use Rattle.dh_demand.specs.Inside.Walking.{after, choice}
use Rattle.dh_demand.proofs.Edges.{begins_at_item, begins_after_item}
use Rattle.dh_demand.proofs.Skipping.{skip_node}
use Rattle.dh_demand.proofs.Visiting.{place_of_text, comes}

module _ {X Y : Type 0} (parent : Option Loc) (rows : List Row) where
  -- what is made of a value changes nothing
  pub rebuilt : (v : Walked X) (f : X → Y) (n : Next) → IsNext parent rows v n → IsNext parent rows (and_then v (λ x. Ready (f x))) n
  rebuilt (Ready x) f n h = h
  rebuilt (Fails b) f n h = h
  rebuilt (Turns j) f n h = h
  rebuilt (Needs k) f n h = h

  pub unbuilt : (v : Walked X) (f : X → Y) (n : Next) → IsNext parent rows (and_then v (λ x. Ready (f x))) n → IsNext parent rows v n
  unbuilt (Ready x) f n h = h
  unbuilt (Fails b) f n h = h
  unbuilt (Turns j) f n h = h
  unbuilt (Needs k) f n h = h

  -- a walk that ended stays so
  pub stays : (w : Walked X) (v : Walked Y) (n : Next) → IsNext parent rows w n → (n ≡ next.Ready → ⊥) → IsNext parent rows (after w v) n
  stays (Ready x) v next.Ready h no_more = absurd (no_more refl)
  stays (Ready x) v (next.Need m) h no_more = absurd h
  stays (Ready x) v (next.Fault e) h no_more = absurd h
  stays (Fails b) v n h no_more = h
  stays (Turns j) v n h no_more = h
  stays (Needs k) v n h no_more = h

  -- after a walk that is ready the next one counts
  pub goes : (w : Walked X) (v : Walked Y) (before n : Next) → IsNext parent rows w before → before ≡ next.Ready → IsNext parent rows v n → IsNext parent rows (after w v) n
  goes (Ready x) v before n h is k = rebuilt_after v n k
    where
      rebuilt_after : (v : Walked Y) (n : Next) → IsNext parent rows v n → IsNext parent rows (and_then v (λ (y : Y). Ready (tt {0}))) n
      rebuilt_after (Ready x) n h = h
      rebuilt_after (Fails b) n h = h
      rebuilt_after (Turns j) n h = h
      rebuilt_after (Needs k) n h = h
  goes (Fails b) v before n h is k = absurd (subst (λ m. IsNext {X = X} parent rows (Fails b) m) is h)
  goes (Turns j) v before n h is k = absurd (subst (λ m. IsNext {X = X} parent rows (Turns j) m) is h)
  goes (Needs y) v before n h is k = absurd (subst (λ m. IsNext {X = X} parent rows (Needs y) m) is h)

-- ---- the forms of nodes

-- what a node with this operator is, where it is an import
pub imported : (f : Form) → part.Import ≡ by_form f → (i : Import) × (f ≡ importing i)
imported (importing i) h = (i, refl)
imported choosing h = let e : ⊥ = cc in absurd e
imported other h = let e : ⊥ = cc in absurd e

pub chosen : (f : Form) → part.Choice ≡ by_form f → f ≡ choosing
chosen (importing i) h = let e : ⊥ = cc in absurd e
chosen choosing h = refl
chosen other h = let e : ⊥ = cc in absurd e

pub others : (f : Form) → part.Other ≡ by_form f → f ≡ other
others (importing i) h = let e : ⊥ = cc in absurd e
others choosing h = let e : ⊥ = cc in absurd e
others other h = refl

-- an import by its key
pub record Imports (parent : Option Loc) (rows : List Row) (e : Expr) (ks : List Kid) : Type 0 where
  pub key : Key
  pub keys_are : keys_of parent (term e) ≡ key ∷ keys_of_row parent (row_of ks)
  pub walk_is : walk (text_key parent) (ask_of rows) (term e) ≡ comes parent rows key

pub import_node : (parent : Option Loc) (rows : List Row) (e : Expr) (op : Op) (ks : List Kid) → e ≡ expr.Node op ks → part.Import ≡ part_of op → Imports parent rows e ks
import_node parent rows e op ks is h =
    let i = imported (form_of op) h in
    record {
      key = chained parent i.0;
      keys_are =
          at_term-Node (keys_of parent) e op ks is ∙ ap (λ f. keys_of_form parent f ++ keys_of_row parent (row_of ks)) i.1;
      walk_is =
          at_term-Node (walk (text_key parent) (ask_of rows)) e op ks is
          ∙ ap (λ f. walk_node (text_key parent) (ask_of rows) op (row_of ks) f (walks (text_key parent) (ask_of rows) (row_of ks))) i.1
          ∙ ap (λ l. comes parent rows (chained l i.0)) (place_of_text parent);
    }

pub other_keys : (parent : Option Loc) (e : Expr) (op : Op) (ks : List Kid) → e ≡ expr.Node op ks → part.Other ≡ part_of op → keys_of parent (term e) ≡ keys_of_row parent (row_of ks)
other_keys parent e op ks is h =
    at_term-Node (keys_of parent) e op ks is ∙ ap (λ f. keys_of_form parent f ++ keys_of_row parent (row_of ks)) (others (form_of op) h)

pub choice_keys : (parent : Option Loc) (e : Expr) (op : Op) (ks : List Kid) → e ≡ expr.Node op ks → part.Choice ≡ part_of op → keys_of parent (term e) ≡ keys_of_row parent (row_of ks)
choice_keys parent e op ks is h =
    at_term-Node (keys_of parent) e op ks is ∙ ap (λ f. keys_of_form parent f ++ keys_of_row parent (row_of ks)) (chosen (form_of op) h)

pub other_imports : (e : Expr) (op : Op) (ks : List Kid) (f : Form) → e ≡ expr.Node op ks → form_of op ≡ f → own_imports f ≡ 0 → imports (term e) ≡ imports_of_parts (row_of ks)
other_imports e op ks f is p z = at_term-Node imports e op ks is ∙ ap (λ n. n + imports_of_parts (row_of ks)) (ap own_imports p ∙ z) ∙ zero-add (imports_of_parts (row_of ks))

-- ---- what comes next in a node, by what comes next in its parts

module _ (parent : Option Loc) (rows : List Row) (ask : Ask) where
  pub other_next : (e : Expr) (op : Op) (ks : List Kid) (n : Next) → e ≡ expr.Node op ks → part.Other ≡ part_of op
      → IsNext parent rows (in_order (walks (text_key parent) ask (row_of ks))) n → IsNext parent rows (walk (text_key parent) ask (term e)) n
  other_next e op ks n is h k =
      let ws = walks (text_key parent) ask (row_of ks) in
      let whole = at_term-Node (walk (text_key parent) ask) e op ks is ∙ ap (λ f. walk_node (text_key parent) ask op (row_of ks) f ws) (others (form_of op) h) in
      let P : Walked Term → Type 0 = λ w. IsNext parent rows w n in
      subst P (sym whole) (rebuilt parent rows (in_order ws) (λ es. Node op (replace_row (row_of ks) es)) n k)

  chosen_next : (op : Op) (ks : List Kid) (n : Next) (ws : List (Walked Term))
      → IsNext parent rows (choice ws) n → IsNext parent rows (walk_node (text_key parent) ask op (row_of ks) choosing ws) n
  chosen_next op ks n [] h = rebuilt parent rows (in_order []) (λ es. Node op (replace_row (row_of ks) es)) n (unbuilt parent rows (in_order []) (λ es. tt {0}) n h)
  chosen_next op ks n (v ∷ []) h =
      rebuilt parent rows (in_order (v ∷ [])) (λ es. Node op (replace_row (row_of ks) es)) n (unbuilt parent rows (in_order (v ∷ [])) (λ es. tt {0}) n h)
  chosen_next op ks n (v ∷ w ∷ []) h = unbuilt parent rows (or_else v w) (λ e. tt {0}) n h
  chosen_next op ks n (v ∷ w ∷ u ∷ us) h =
      rebuilt parent rows (in_order (v ∷ w ∷ u ∷ us)) (λ es. Node op (replace_row (row_of ks) es)) n (unbuilt parent rows (in_order (v ∷ w ∷ u ∷ us)) (λ es. tt {0}) n h)

  pub choice_next : (e : Expr) (op : Op) (ks : List Kid) (n : Next) → e ≡ expr.Node op ks → part.Choice ≡ part_of op
      → IsNext parent rows (choice (walks (text_key parent) ask (row_of ks))) n → IsNext parent rows (walk (text_key parent) ask (term e)) n
  choice_next e op ks n is h k =
      let ws = walks (text_key parent) ask (row_of ks) in
      let whole = at_term-Node (walk (text_key parent) ask) e op ks is ∙ ap (λ f. walk_node (text_key parent) ask op (row_of ks) f ws) (chosen (form_of op) h) in
      let P : Walked Term → Type 0 = λ w. IsNext parent rows w n in
      subst P (sym whole) (chosen_next op ks n ws k)

  -- with other than two parts there is no choice
  pub no_choice : (ks : List Kid) (n : Next) → (length ks ≡ 2 → ⊥)
      → IsNext parent rows (in_order (walks (text_key parent) ask (row_of ks))) n → IsNext parent rows (choice (walks (text_key parent) ask (row_of ks))) n
  unfolding row_of
  no_choice [] n h k = rebuilt parent rows (in_order []) (λ es. tt {0}) n k
  no_choice (a ∷ []) n h k = rebuilt parent rows (in_order (walks (text_key parent) ask (row_of (a ∷ [])))) (λ es. tt {0}) n k
  no_choice (a ∷ b ∷ []) n h k = absurd (h refl)
  no_choice (a ∷ b ∷ d ∷ ks) n h k = rebuilt parent rows (in_order (walks (text_key parent) ask (row_of (a ∷ b ∷ d ∷ ks)))) (λ es. tt {0}) n k

-- ---- the two sides of a choice

pub two_kids : (ks : List Kid) (k j : Kid) → length ks ≡ 2 → k ≡ get_or ks 0 k → j ≡ get_or ks 1 j → row_of ks ≡ kid k.binder (term k.body) (kid j.binder (term j.body) end)
unfolding row_of
two_kids [] k j h p q = let e : ⊥ = omega arith in absurd e
two_kids (a ∷ []) k j h p q = let e : ⊥ = omega arith in absurd e
two_kids (a ∷ b ∷ []) k j h p q = ap (λ (x : Kid). kid x.binder (term x.body) (kid b.binder (term b.body) end)) (sym p) ∙ ap (λ (x : Kid). kid k.binder (term k.body) (kid x.binder (term x.body) end)) (sym q)
two_kids (a ∷ b ∷ d ∷ ks) k j h p q = let e : ⊥ = omega arith in absurd e

pub two_imports : (ks : List Kid) (k j : Kid) (es middle rest : List Edge) → length ks ≡ 2 → k ≡ get_or ks 0 k → j ≡ get_or ks 1 j
    → middle ≡ drop (imports (term k.body)) es → rest ≡ drop (imports (term j.body)) middle → rest ≡ drop (imports_of_parts (row_of ks)) es
two_imports ks k j es middle rest h p q m r =
    r ∙ ap (drop (imports (term j.body))) m ∙ drop-drop (imports (term j.body)) (imports (term k.body)) es
    ∙ ap (λ n. drop n es) (ap (λ n. imports (term k.body) + n) (sym (add-zero (imports (term j.body)))) ∙ sym (ap imports_of_parts (two_kids ks k j h p q)))

pub two_begin : (parent : Option Loc) (rows : List Row) (ks : List Kid) (k j : Kid) (es middle : List Edge) → length ks ≡ 2 → k ≡ get_or ks 0 k → j ≡ get_or ks 1 j
    → middle ≡ drop (imports (term k.body)) es → Begins parent rows (keys_of_row parent (row_of ks)) es
    → Begins parent rows (keys_of parent (term k.body)) es × Begins parent rows (keys_of parent (term j.body)) middle
two_begin parent rows ks k j es middle h p q m b =
    let first = begins_at_item parent rows ks 0 k es (omega arith) p b in
    let rest = begins_after_item parent rows ks 0 k es middle (omega arith) p m b in
    (first, begins_at_item parent rows ks 1 j middle (omega arith) q rest)

-- ---- the edges after a node

pub import_rest : (e : Expr) (op : Op) (ks : List Kid) (es own rest : List Edge) → e ≡ expr.Node op ks → part.Import ≡ part_of op
    → own ≡ drop 1 es → rest ≡ drop (imports_of_parts (row_of ks)) own → rest ≡ drop (imports (term e)) es
import_rest e op ks es own rest is h p q =
    skip_node e op ks es own rest is (p ∙ ap (λ n. drop n es) (sym (ap own_imports (imported (form_of op) h).1))) q

pub choice_rest : (e : Expr) (op : Op) (ks : List Kid) (es rest : List Edge) → e ≡ expr.Node op ks → part.Choice ≡ part_of op → rest ≡ drop (imports_of_parts (row_of ks)) es → rest ≡ drop (imports (term e)) es
choice_rest e op ks es rest is h p = p ∙ ap (λ n. drop n es) (sym (other_imports e op ks choosing is (chosen (form_of op) h) refl))

pub other_rest : (e : Expr) (op : Op) (ks : List Kid) (es rest : List Edge) → e ≡ expr.Node op ks → part.Other ≡ part_of op → rest ≡ drop (imports_of_parts (row_of ks)) es → rest ≡ drop (imports (term e)) es
other_rest e op ks es rest is h p = p ∙ ap (λ n. drop n es) (sym (other_imports e op ks other is (others (form_of op) h) refl))

pub as_begins : (parent : Option Loc) (rows : List Row) (ls ls' : List Key) (es : List Edge) → ls ≡ ls' → Begins parent rows ls es → Begins parent rows ls' es
as_begins parent rows ls ls' es p b = subst (λ ks. Begins parent rows ks es) p b
