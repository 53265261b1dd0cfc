-- The way into a text of a path in the text with its values.
use Rattle.std.specs.Prelude.{◌≡◌, ◌<◌, ◌≤◌, ℕ, suc, ◌+◌, ◌++◌, List, [], ◌∷◌, length, drop, Option, Result, Ok, Err, OnOk, refl}
use Rattle.std.proofs.Common.{ap, sym, ◌∙◌, subst, get_or, append-nil}
use Rattle.std.proofs.lemmas.List.{append_assoc}
use Rattle.dh_syntax.specs.declared.expressions.Expr.{Expr}
use Rattle.dh_syntax.specs.declared.expressions.Expr.TheVariants as expr
use Rattle.dh_syntax.specs.declared.expressions.Kid.{Kid}
use Rattle.dh_syntax.specs.declared.expressions.Op.{Op}
use Rattle.dh_syntax.specs.declared.locations.Loc.{Loc}
use Rattle.dh_syntax.specs.Expressions.Bridge.{term, row_of}
use Rattle.dh_syntax.specs.Expressions.Tree.{Name, Term}
use Rattle.dh_imports.specs.TextPaths.{Way, to_side, way_at, way_on, way_into, text_path, text_paths}
use Rattle.dh_imports.specs.Walk.{choosing, form_of, keys_of_row, Walked, Ready, Fails, Turns, Needs, walk, walks}
use Rattle.dh_syntax.proofs.Bridge.{at_term-Var, at_term-Node}
use Rattle.dh_syntax.proofs.Rows.{row_of-drop_item, row_of-drop_all}
use Rattle.dh_demand.specs.declared.ends.Next.{Next}
use Rattle.dh_demand.specs.declared.ends.Next.TheVariants as next
use Rattle.dh_demand.specs.declared.parts.Part.TheVariants as part
use Rattle.dh_demand.specs.declared.scans.Edge.{Edge}
use Rattle.dh_demand.specs.Results.{Row, ask_of}
use Rattle.dh_demand.specs.Scans.{text_key, Begins, imports}
use Rattle.dh_demand.specs.Nexts.{IsNext}
use Rattle.dh_demand.specs.Inside.Parts.{part_of}
use Rattle.dh_demand.proofs.Edges.{begins_after_item}
use Rattle.dh_demand.proofs.Nexting.{imported, chosen, others, two_kids}

pub on_ok : {A E P Q : Type 0} (r : Result A E) → (P → Q) → OnOk r P → OnOk r Q
on_ok (Ok a) f h = f h
on_ok (Err e) f h = h

pub no_more : (way more : List ℕ) → more ≡ [] → way ≡ way ++ more
no_more way more h = sym (append-nil way) ∙ ap (λ m. way ++ m) (sym h)

module _ (parent : Option Loc) (rows : List Row) where
  pub variable_way : (e : Expr) (x : Name) (n : ℕ) (path : List ℕ) → e ≡ expr.Var x n → text_path (text_key parent) (ask_of rows) (term e) path ≡ []
  variable_way e x n path h = at_term-Var (λ t. text_path (text_key parent) (ask_of rows) t path) e x n h

  node_way : (e : Expr) (op : Op) (ks : List Kid) (path : List ℕ) → e ≡ expr.Node op ks
      → text_path (text_key parent) (ask_of rows) (term e) path
      ≡ way_into (form_of op) (walks (text_key parent) (ask_of rows) (row_of ks)) (text_paths (text_key parent) (ask_of rows) (row_of ks)) path
  node_way e op ks path h = at_term-Node (λ t. text_path (text_key parent) (ask_of rows) t path) e op ks h

  pub import_way : (e : Expr) (op : Op) (ks : List Kid) (path : List ℕ) → e ≡ expr.Node op ks → part.Import ≡ part_of op → text_path (text_key parent) (ask_of rows) (term e) path ≡ []
  import_way e op ks path h p =
      node_way e op ks path h
      ∙ ap (λ f. way_into f (walks (text_key parent) (ask_of rows) (row_of ks)) (text_paths (text_key parent) (ask_of rows) (row_of ks)) path) (imported (form_of op) p).1

  pub other_way : (e : Expr) (op : Op) (ks : List Kid) (path : List ℕ) → e ≡ expr.Node op ks → part.Other ≡ part_of op
      → text_path (text_key parent) (ask_of rows) (term e) path ≡ way_on (text_paths (text_key parent) (ask_of rows) (row_of ks)) path
  other_way e op ks path h p =
      node_way e op ks path h
      ∙ ap (λ f. way_into f (walks (text_key parent) (ask_of rows) (row_of ks)) (text_paths (text_key parent) (ask_of rows) (row_of ks)) path) (others (form_of op) p)

  pub choice_way : (e : Expr) (op : Op) (ks : List Kid) (path : List ℕ) → e ≡ expr.Node op ks → part.Choice ≡ part_of op
      → text_path (text_key parent) (ask_of rows) (term e) path
      ≡ way_into choosing (walks (text_key parent) (ask_of rows) (row_of ks)) (text_paths (text_key parent) (ask_of rows) (row_of ks)) path
  choice_way e op ks path h p =
      node_way e op ks path h
      ∙ ap (λ f. way_into f (walks (text_key parent) (ask_of rows) (row_of ks)) (text_paths (text_key parent) (ask_of rows) (row_of ks)) path) (chosen (form_of op) p)

  -- with other than two parts there is no choice
  pub no_choice_way : (ks : List Kid) (path : List ℕ) → (length ks ≡ 2 → ⊥)
      → way_into choosing (walks (text_key parent) (ask_of rows) (row_of ks)) (text_paths (text_key parent) (ask_of rows) (row_of ks)) path ≡ way_on (text_paths (text_key parent) (ask_of rows) (row_of ks)) path
  unfolding row_of
  no_choice_way [] path h = refl
  no_choice_way (a ∷ []) path h = refl
  no_choice_way (a ∷ b ∷ []) path h = absurd (h refl)
  no_choice_way (a ∷ b ∷ d ∷ ks) path h = refl

  left_side : (w : Walked Term) (n : Next) (left right : List ℕ) → IsNext parent rows w n → n ≡ next.Ready → to_side w left right ≡ 0 ∷ left
  left_side (Ready x) n left right h is = refl
  left_side (Fails b) n left right h is = absurd (subst (λ m. IsNext {X = Term} parent rows (Fails b) m) is h)
  left_side (Turns j) n left right h is = absurd (subst (λ m. IsNext {X = Term} parent rows (Turns j) m) is h)
  left_side (Needs k) n left right h is = absurd (subst (λ m. IsNext {X = Term} parent rows (Needs k) m) is h)

  right_side : (w : Walked Term) (n : Next) (left right : List ℕ) → IsNext parent rows w n → (n ≡ next.Ready → ⊥) → to_side w left right ≡ 1 ∷ right
  right_side (Ready x) next.Ready left right h no_more = absurd (no_more refl)
  right_side (Ready x) (next.Need m) left right h no_more = absurd h
  right_side (Ready x) (next.Fault e) left right h no_more = absurd h
  right_side (Fails b) n left right h no_more = refl
  right_side (Turns j) n left right h no_more = refl
  right_side (Needs k) n left right h no_more = refl

  -- the way into `l ? r`
  side_way : (ks : List Kid) (k j : Kid) (path : List ℕ) → length ks ≡ 2 → k ≡ get_or ks 0 k → j ≡ get_or ks 1 j
      → way_into choosing (walks (text_key parent) (ask_of rows) (row_of ks)) (text_paths (text_key parent) (ask_of rows) (row_of ks)) path
      ≡ to_side (walk (text_key parent) (ask_of rows) (term k.body)) (text_path (text_key parent) (ask_of rows) (term k.body) path) (text_path (text_key parent) (ask_of rows) (term j.body) path)
  side_way ks k j path two first second =
      ap (λ r. way_into choosing (walks (text_key parent) (ask_of rows) r) (text_paths (text_key parent) (ask_of rows) r) path) (two_kids ks k j two first second)

  pub left_way : (ks : List Kid) (k j : Kid) (n : Next) (path : List ℕ) → length ks ≡ 2 → k ≡ get_or ks 0 k → j ≡ get_or ks 1 j
      → IsNext parent rows (walk (text_key parent) (ask_of rows) (term k.body)) n → n ≡ next.Ready
      → way_into choosing (walks (text_key parent) (ask_of rows) (row_of ks)) (text_paths (text_key parent) (ask_of rows) (row_of ks)) path ≡ 0 ∷ text_path (text_key parent) (ask_of rows) (term k.body) path
  left_way ks k j n path two first second h is = side_way ks k j path two first second ∙ left_side (walk (text_key parent) (ask_of rows) (term k.body)) n _ _ h is

  pub right_way : (ks : List Kid) (k j : Kid) (n : Next) (path : List ℕ) → length ks ≡ 2 → k ≡ get_or ks 0 k → j ≡ get_or ks 1 j
      → IsNext parent rows (walk (text_key parent) (ask_of rows) (term k.body)) n → (n ≡ next.Ready → ⊥)
      → way_into choosing (walks (text_key parent) (ask_of rows) (row_of ks)) (text_paths (text_key parent) (ask_of rows) (row_of ks)) path ≡ 1 ∷ text_path (text_key parent) (ask_of rows) (term j.body) path
  right_way ks k j n path two first second h is = side_way ks k j path two first second ∙ right_side (walk (text_key parent) (ask_of rows) (term k.body)) n _ _ h is

  -- ---- the way into the part of a number

  -- what is left of it behind so many parts
  pub record OnTheWay (ks : List Kid) (number i left : ℕ) (path : List ℕ) (edges rest : List Edge) : Type 0 where
    pub begins : Begins parent rows (keys_of_row parent (row_of ks)) edges → Begins parent rows (keys_of_row parent (row_of (drop i ks))) rest
    pub way_is : way_at left (text_paths (text_key parent) (ask_of rows) (row_of (drop i ks))) path ≡ way_at number (text_paths (text_key parent) (ask_of rows) (row_of ks)) path

  pub on_the_way-start : (ks : List Kid) (number : ℕ) (path : List ℕ) (edges : List Edge) → OnTheWay ks number 0 number path edges edges
  on_the_way-start ks number path edges = record { begins = λ b. b; way_is = refl }

  here_way : (ks : List Kid) (i left : ℕ) (k : Kid) (path : List ℕ) → i < length ks → k ≡ get_or ks i k
      → way_at left (text_paths (text_key parent) (ask_of rows) (row_of (drop i ks))) path
      ≡ way_at left ((λ (p : List ℕ). text_path (text_key parent) (ask_of rows) (term k.body) p) ∷ text_paths (text_key parent) (ask_of rows) (row_of (drop (i + 1) ks))) path
  here_way ks i left k path h e = ap (λ r. way_at left (text_paths (text_key parent) (ask_of rows) r) path) (row_of-drop_item ks i k h e)

  pub on_the_way-item : (ks : List Kid) (number i left less : ℕ) (k : Kid) (path : List ℕ) (edges rest next : List Edge) → i < length ks → k ≡ get_or ks i k → left ≡ suc less
      → next ≡ drop (imports (term k.body)) rest → OnTheWay ks number i left path edges rest → OnTheWay ks number (i + 1) less path edges next
  on_the_way-item ks number i left less k path edges rest next h e p q s = record {
    begins = λ b. begins_after_item parent rows ks i k rest next h e q (s.begins b);
    way_is = sym (here_way ks i left k path h e ∙ ap (λ n. way_at n ((λ (p : List ℕ). text_path (text_key parent) (ask_of rows) (term k.body) p) ∷ text_paths (text_key parent) (ask_of rows) (row_of (drop (i + 1) ks))) path) p) ∙ s.way_is;
  }

  pub at_the_part : (ks : List Kid) (number i left : ℕ) (k : Kid) (path : List ℕ) (edges rest : List Edge) → i < length ks → k ≡ get_or ks i k → left ≡ 0
      → OnTheWay ks number i left path edges rest → way_at number (text_paths (text_key parent) (ask_of rows) (row_of ks)) path ≡ text_path (text_key parent) (ask_of rows) (term k.body) path
  at_the_part ks number i left k path edges rest h e p s =
      sym s.way_is ∙ here_way ks i left k path h e
      ∙ ap (λ n. way_at n ((λ (p : List ℕ). text_path (text_key parent) (ask_of rows) (term k.body) p) ∷ text_paths (text_key parent) (ask_of rows) (row_of (drop (i + 1) ks))) path) p

  pub no_such_part : (ks : List Kid) (number i left : ℕ) (path : List ℕ) (edges rest : List Edge) → length ks ≤ i → OnTheWay ks number i left path edges rest
      → way_at number (text_paths (text_key parent) (ask_of rows) (row_of ks)) path ≡ []
  no_such_part ks number i left path edges rest h s =
      sym s.way_is ∙ ap (λ r. way_at left (text_paths (text_key parent) (ask_of rows) r) path) (row_of-drop_all ks i h) ∙ none_left left
    where
      none_left : (n : ℕ) → way_at n [] path ≡ []
      none_left n = refl

pub on_part : (way more : List ℕ) (number : ℕ) (rest path : List ℕ) (ways : List Way) → path ≡ number ∷ rest → way_at number ways rest ≡ more → (way ++ number ∷ []) ++ more ≡ way ++ way_on ways path
on_part way more number rest path ways p h =
    append_assoc way (number ∷ []) more ∙ ap (λ m. way ++ number ∷ m) (sym h) ∙ ap (λ q. way ++ way_on ways q) (sym p)

pub no_part : (way : List ℕ) (path : List ℕ) (ways : List Way) → path ≡ [] → way ≡ way ++ way_on ways path
no_part way path ways p = no_more way (way_on ways path) (ap (λ q. way_on ways q) p)
