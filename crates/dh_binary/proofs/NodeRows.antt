-- The rows of the table but those of imports, records and unions.
use Rattle.std.specs.Prelude.{◌≡◌, ℕ, suc, ◌==◌, Bool, true, false, ◌&&◌, if◌then◌else◌, List, [], ◌∷◌, ◌++◌, length, map, Option, Some, None, codes, refl}
use Rattle.std.proofs.Common.{sym, ◌∙◌, ap}
use Rattle.std.proofs.lemmas.List.{append_assoc, append-nil}
use Rattle.std.specs.Str.{is_utf8}
use Rattle.dh_syntax.specs.declared.expressions.Op.{Op}
use Rattle.dh_syntax.specs.declared.expressions.Op.TheVariants as ops
use Rattle.dh_syntax.specs.declared.operators.BinOp.{BinOp}
use Rattle.dh_syntax.specs.Bytes.BinaryItems.{Item}
use Rattle.dh_syntax.specs.Bytes.BinaryLeaves as leaf
use Rattle.dh_syntax.specs.Bytes.BinaryLeaves.{◌>>=◌, check, characters_of, inserted, is_null, unsigned_of, label_of, named_label}
use Rattle.dh_syntax.specs.Bytes.BinaryRead as old
use Rattle.dh_syntax.specs.Bytes.BinaryRead.{Part, operator, plain_row}
use Rattle.dh_syntax.specs.Expressions.Numbers.{eq, le}
use Rattle.dh_syntax.specs.Expressions.Spellable.{is_label}
use Rattle.dh_syntax.specs.Expressions.Tree.{Node, end, kid, Name, Term}
use Rattle.dh_syntax.proofs.NativeTests.{eq-native}
use Rattle.dh_binary.specs.Machine.{Value, nothing, holds, called, counted, signed, by, Place, applying, operands, binder, quantify, operating, emptied, skipping, selecting, selected, projecting, projected, labelled, numeral, signed_numeral, piece, between, Binding, let_name, let_type, let_value, updating, update_path, update_value, lets_made, let_made, or_same, names, is_some, is_odd, lets_fit, when, fill, result}
use Rattle.dh_binary.specs.Inside.Terms.{terms}
use Rattle.dh_binary.proofs.Parts.{hold, call, null_or, box_by, reads_parts}
use Rattle.dh_binary.proofs.Rows.{none, bind_assoc, bind_same, bind_none, step, node_read}
use Rattle.dh_binary.proofs.Inserting.{all_put, put, put_first}

-- a place that is there
unfoldable pub from : Bool → Option (Place Term) → List Part → Option (Value Term)
from b (Some p) ps = reads_parts b p ps
from b None ps = None

-- null, and what comes behind it
pub null_step : (i : Item) (g : Value Term → Option (Value Term)) (k : Option Term) → g nothing ≡ hold k → (null_or nothing i None >>= g) ≡ hold (if is_null i then k else None)
null_step i g k h = by (is_null i)
  where
    by : (c : Bool) → ((if c then Some nothing else None) >>= g) ≡ hold (if c then k else None)
    by true = h
    by false = refl

pub hold_bind : {A : Type 0} (o : Option A) (k : A → Option Term) → (o >>= λ a. hold (k a)) ≡ hold (o >>= k)
hold_bind (Some a) k = refl
hold_bind None k = refl

module _ (b : Bool) where
  -- ---- [0, f, a, ..]

  applying_read : (g : Term) (ps : List Part) → reads_parts b (applying (Some g)) ps ≡ hold (old.terms ps >>= λ es. Some (old.applied g es))
  applying_read g [] = refl
  applying_read g (p ∷ ps) =
      step p.term holds (λ v. reads_parts b (fill terms (applying (Some g)) v) ps) (λ e. old.terms ps >>= λ es. Some (old.applied g (e ∷ es))) (λ e. applying_read (Node ops.App (kid None g (kid None e end))) ps)
      ∙ ap hold (bind_same p.term (λ e. old.terms ps >>= λ es. Some (old.applied g (e ∷ es))) (λ e. old.terms ps >>= (λ es. Some (e ∷ es)) >>= λ es. Some (old.applied g es)) (λ e. sym (bind_assoc (old.terms ps) (λ es. Some (e ∷ es)) (λ es. Some (old.applied g es))))
      ∙ sym (bind_assoc p.term (λ e. old.terms ps >>= λ es. Some (e ∷ es)) (λ es. Some (old.applied g es))))

  pub application_row : (ps : List Part) → from b (when (le 2 (length ps)) (applying None)) ps ≡ hold (old.application ps)
  unfolding from
  application_row [] = refl
  application_row (f ∷ []) = refl
  application_row (f ∷ a ∷ ps) = step f.term holds (λ v. reads_parts b (fill terms (applying None) v) (a ∷ ps)) (λ g. old.terms (a ∷ ps) >>= λ es. Some (old.applied g es)) (λ g. applying_read g (a ∷ ps))

  -- ---- [1, A, b], [1, "x", A, b]

  quantified_read : (op : Op) (x : Name) (type body : Part) → reads_parts b (quantify op x None) (type ∷ body ∷ []) ≡ hold (old.quantified op x type body)
  quantified_read op x type body =
      step type.term holds (λ v. reads_parts b (fill terms (quantify op x None) v) (body ∷ [])) (λ a. body.term >>= λ c. Some (Node op (kid None a (kid (Some x) c end))))
      (λ a. step body.term holds (λ v. reads_parts b (fill terms (quantify op x (Some a)) v) []) (λ c. Some (Node op (kid None a (kid (Some x) c end)))) (λ c. refl))

  pub quantifier_row : (op : Op) (ps : List Part) → from b (if eq (length ps) 2 then Some (quantify op (codes "_") None) else when (eq (length ps) 3) (binder op)) ps ≡ hold (old.quantifier op ps)
  unfolding from
  quantifier_row op [] = refl
  quantifier_row op (p ∷ []) = refl
  quantifier_row op (type ∷ body ∷ []) = quantified_read op (codes "_") type body
  quantifier_row op (x ∷ type ∷ body ∷ []) = step (named_label x.item) called (λ v. reads_parts b (fill terms (binder op) v) (type ∷ body ∷ [])) (λ y. old.quantified op y type body) (λ y. quantified_read op y type body)
  quantifier_row op (x ∷ type ∷ body ∷ p ∷ ps) = refl

  -- ---- nodes of so many expressions

  pub node_row : (op : Op) (n : ℕ) (ps : List Part) → from b (when (length ps == n) (operands op [])) ps ≡ hold (old.node_of op n ps)
  unfolding from
  node_row op n ps = by (length ps == n)
    where
      by : (c : Bool) → from b (when c (operands op [])) ps ≡ hold (if c then old.node op ps else None)
      by true = node_read b op ps
      by false = refl

  pub annotation_row : (op : Bool → Op) (n k : ℕ) (ps : List Part) → k ≡ suc n → from b (if length ps == n then Some (operands (op false) []) else when (length ps == k) (operands (op true) [])) ps ≡ hold (if length ps == n then old.node (op false) ps else old.node_of (op true) k ps)
  unfolding from
  annotation_row op n k ps e = by (length ps == n)
    where
      by : (c : Bool) → from b (if c then Some (operands (op false) []) else when (length ps == k) (operands (op true) [])) ps ≡ hold (if c then old.node (op false) ps else old.node_of (op true) k ps)
      by true = node_read b (op false) ps
      by false = node_row (op true) k ps

  -- ---- [3, code, l, r]

  operation_two : (o : BinOp) (p q : Part) → reads_parts b (operands (ops.Bin o) []) (p ∷ q ∷ []) ≡ hold (old.node (ops.Bin o) (p ∷ q ∷ []))
  operation_two o p q = node_read b (ops.Bin o) (p ∷ q ∷ [])

  pub operation_row : (ps : List Part) → from b (when (eq (length ps) 3) operating) ps ≡ hold (old.operation ps)
  unfolding from
  operation_row [] = refl
  operation_row (c ∷ []) = sym (ap hold (bind_same (unsigned_of c.item) (λ n. operator n >>= λ o. old.node_of (ops.Bin o) 2 []) none (λ n. bind_none (operator n)) ∙ bind_none (unsigned_of c.item)))
  operation_row (c ∷ p ∷ []) = sym (ap hold (bind_same (unsigned_of c.item) (λ n. operator n >>= λ o. old.node_of (ops.Bin o) 2 (p ∷ [])) none (λ n. bind_none (operator n)) ∙ bind_none (unsigned_of c.item)))
  operation_row (c ∷ p ∷ q ∷ []) =
      ap (λ o. o >>= λ v. reads_parts b (fill terms operating v) (p ∷ q ∷ [])) (sym (bind_assoc (unsigned_of c.item) operator (λ o. Some (by o))))
      ∙ step (unsigned_of c.item >>= operator) by (λ v. reads_parts b (fill terms operating v) (p ∷ q ∷ [])) (λ o. old.node (ops.Bin o) (p ∷ q ∷ [])) (λ o. operation_two o p q)
      ∙ ap hold (bind_assoc (unsigned_of c.item) operator (λ o. old.node (ops.Bin o) (p ∷ q ∷ [])))
  operation_row (c ∷ p ∷ q ∷ r ∷ ps) = sym (ap hold (bind_same (unsigned_of c.item) (λ n. operator n >>= λ o. old.node_of (ops.Bin o) 2 (p ∷ q ∷ r ∷ ps)) none (λ n. bind_same (operator n) (λ o. old.node_of (ops.Bin o) 2 (p ∷ q ∷ r ∷ ps)) none (λ o. ap (λ c. if c then old.node (ops.Bin o) (p ∷ q ∷ r ∷ ps) else None) (sym (eq-native (suc (suc (suc (length ps)))) 2))) ∙ bind_none (operator n)) ∙ bind_none (unsigned_of c.item)))

  -- ---- [4, T], [4, null, a, ..], [5, null, t]

  pub list_row : (ps : List Part) → from b (if eq (length ps) 1 then Some emptied else when (le 2 (length ps)) (skipping ops.List)) ps ≡ hold (old.list ps)
  unfolding from
  list_row [] = refl
  list_row (t ∷ []) = step t.term holds (λ v. reads_parts b (fill terms emptied v) []) (λ x. Some _) (λ x. refl)
  list_row (n ∷ a ∷ ps) = null_step n.item (λ v. reads_parts b (fill terms (skipping ops.List) v) (a ∷ ps)) (old.node ops.List (a ∷ ps)) (node_read b ops.List (a ∷ ps))

  pub some_row : (ps : List Part) → from b (when (eq (length ps) 2) (skipping ops.Some)) ps ≡ hold (old.some ps)
  unfolding from
  some_row [] = refl
  some_row (n ∷ []) = refl
  some_row (n ∷ t ∷ []) = null_step n.item (λ v. reads_parts b (fill terms (skipping ops.Some) v) (t ∷ [])) (old.node ops.Some (t ∷ [])) (node_read b ops.Some (t ∷ []))
  some_row (n ∷ t ∷ u ∷ ps) = refl

  -- ---- [9, t, "x"]

  field_by : (o : Option Term) (p : Option Name) → (o >>= λ e. p >>= λ y. Some (Node (ops.Field y) (kid None e end))) ≡ (p >>= λ y. (o >>= λ e. Some (e ∷ [])) >>= λ es. Some (Node (ops.Field y) (plain_row es)))
  field_by None None = refl
  field_by None (Some y) = refl
  field_by (Some e) None = refl
  field_by (Some e) (Some y) = refl

  pub field_row : (ps : List Part) → from b (when (eq (length ps) 2) selecting) ps ≡ hold (old.field ps)
  unfolding from
  field_row [] = refl
  field_row (t ∷ []) = refl
  field_row (t ∷ x ∷ []) =
      step t.term holds (λ v. reads_parts b (fill terms selecting v) (x ∷ [])) (λ e. label_of x.item >>= λ y. Some (Node (ops.Field y) (kid None e end)))
      (λ e. step (label_of x.item) called (λ v. reads_parts b (fill terms (selected e) v) []) (λ y. Some (Node (ops.Field y) (kid None e end))) (λ y. refl))
      ∙ ap hold (field_by t.term (label_of x.item))
  field_row (t ∷ x ∷ y ∷ ps) = refl

  -- ---- [15, n], [16, n], [x, n]

  pub natural_row : (ps : List Part) → from b (when (eq (length ps) 1) numeral) ps ≡ hold (old.natural b ps)
  unfolding from
  natural_row [] = refl
  natural_row (n ∷ []) = step (leaf.natural_of b n.item) counted (λ v. reads_parts b (fill terms numeral v) []) (λ m. Some (Node (ops.Nat m) end)) (λ m. refl)
  natural_row (n ∷ m ∷ ps) = refl

  pub integer_row : (ps : List Part) → from b (when (eq (length ps) 1) signed_numeral) ps ≡ hold (old.integer b ps)
  unfolding from
  integer_row [] = refl
  integer_row (n ∷ []) = step (leaf.integer_of b n.item) signed (λ v. reads_parts b (fill terms signed_numeral v) []) (λ z. Some (Node (ops.Int z) end)) (λ m. refl)
  integer_row (n ∷ m ∷ ps) = refl

  -- ---- [18, piece, e, piece, ..]

  abbrev text_made : List (List ℕ) → List Term → old.Pieces → Option Term
  text_made qs es r = Some (Node (ops.Text (qs ++ r.pieces)) (plain_row (es ++ r.between)))

  assoc3 : {A B C D E : Type 0} (o : Option A) (p : Option B) (q : Option C) (h : A → B → C → D) (g : D → Option E) → ((o >>= λ t. p >>= λ f. q >>= λ r. Some (h t f r)) >>= g) ≡ (o >>= λ t. p >>= λ f. q >>= λ r. g (h t f r))
  assoc3 None p q h g = refl
  assoc3 (Some t) None q h g = refl
  assoc3 (Some t) (Some f) None h g = refl
  assoc3 (Some t) (Some f) (Some r) h g = refl

  pub assoc2 : {A B C D : Type 0} (o : Option A) (p : Option B) (h : A → B → C) (g : C → Option D) → ((o >>= λ t. p >>= λ f. Some (h t f)) >>= g) ≡ (o >>= λ t. p >>= λ f. g (h t f))
  assoc2 None p h g = refl
  assoc2 (Some t) None h g = refl
  assoc2 (Some t) (Some f) h g = refl

  text_read : (qs : List (List ℕ)) (es : List Term) (ps : List Part) → reads_parts b (piece qs es) ps ≡ hold (old.pieces_of ps >>= text_made qs es)
  text_read qs es [] = refl
  text_read qs es (p ∷ []) =
      step (leaf.spelled is_utf8 p.item) called (λ v. reads_parts b (fill terms (piece qs es) v) []) (λ t. text_made qs es (record { pieces = t ∷ []; between = [] })) (λ t. ap (λ xs. Some (holds (Node (ops.Text (qs ++ t ∷ [])) (plain_row xs)))) (sym (append-nil es)))
      ∙ ap hold (sym (bind_assoc (leaf.spelled is_utf8 p.item) (λ t. Some (record { pieces = t ∷ []; between = [] })) (text_made qs es)))
  text_read qs es (p ∷ e ∷ ps) =
      step (leaf.spelled is_utf8 p.item) called (λ v. reads_parts b (fill terms (piece qs es) v) (e ∷ ps)) (λ t. e.term >>= λ f. old.pieces_of ps >>= λ r. text_made qs es (record { pieces = t ∷ r.pieces; between = f ∷ r.between }))
      (λ t. step e.term holds (λ v. reads_parts b (fill terms (between (qs ++ t ∷ []) es) v) ps) (λ f. old.pieces_of ps >>= λ r. text_made qs es (record { pieces = t ∷ r.pieces; between = f ∷ r.between }))
      (λ f. text_read (qs ++ t ∷ []) (es ++ f ∷ []) ps ∙ ap hold (bind_same (old.pieces_of ps) (text_made (qs ++ t ∷ []) (es ++ f ∷ [])) (λ r. text_made qs es (record { pieces = t ∷ r.pieces; between = f ∷ r.between }))
      (λ r. ap (λ xs. Some (Node (ops.Text xs) (plain_row ((es ++ f ∷ []) ++ r.between)))) (append_assoc qs (t ∷ []) r.pieces) ∙ ap (λ xs. Some (Node (ops.Text (qs ++ t ∷ r.pieces)) (plain_row xs))) (append_assoc es (f ∷ []) r.between)))))
      ∙ ap hold (sym (assoc3 (leaf.spelled is_utf8 p.item) e.term (old.pieces_of ps) (λ t f r. record { pieces = t ∷ r.pieces; between = f ∷ r.between }) (text_made qs es)))

  even_none : (ps : List Part) → is_odd (length ps) ≡ false → old.pieces_of ps ≡ None
  even_none [] h = refl
  even_none (p ∷ []) h = cc
  even_none (p ∷ e ∷ ps) h =
      bind_same (leaf.spelled is_utf8 p.item) (λ t. e.term >>= λ f. old.pieces_of ps >>= λ r. Some (record { pieces = t ∷ r.pieces; between = f ∷ r.between })) none
      (λ t. bind_same e.term (λ f. old.pieces_of ps >>= λ r. Some (record { pieces = t ∷ r.pieces; between = f ∷ r.between })) none (λ f. ap (λ o. o >>= λ r. Some (record { pieces = t ∷ r.pieces; between = f ∷ r.between })) (even_none ps h)) ∙ bind_none e.term)
      ∙ bind_none (leaf.spelled is_utf8 p.item)

  pub text_row : (ps : List Part) → from b (when (is_odd (length ps)) (piece [] [])) ps ≡ hold (old.text ps)
  unfolding from
  text_row ps = by (is_odd (length ps)) refl
    where
      by : (c : Bool) → is_odd (length ps) ≡ c → from b (when c (piece [] [])) ps ≡ hold (old.text ps)
      by true h = text_read [] [] ps
      by false h = ap (λ o. hold (o >>= text_made [] [])) (sym (even_none ps h))

  -- ---- [25, "x", A or null, a, .., b]

  abbrev tail : List Part → Option Term
  tail [] = None
  tail (e ∷ []) = e.term
  tail (x ∷ t ∷ []) = None
  tail (x ∷ t ∷ a ∷ ps) = old.bound x t a (tail ps)

  lets_append : (bs : List (Binding Term)) (c : Binding Term) (e : Term) → lets_made terms (bs ++ c ∷ []) e ≡ lets_made terms bs (let_made terms c e)
  lets_append [] c e = refl
  lets_append (d ∷ bs) c e = ap (let_made terms d) (lets_append bs c e)

  abbrev bind_let : List (Binding Term) → Name → Option Term → Term → Term → Option Term
  bind_let bs y t a e = Some (lets_made terms bs (let_made terms (record { name = y; type = t; value = a }) e))

  value_read : (bs : List (Binding Term)) (y : Name) (u : Option Term) (a : Part) (ps : List Part) (e : Option Term) → ((v : Term) → reads_parts b (let_name (bs ++ record { name = y; type = u; value = v } ∷ [])) ps ≡ hold (e >>= bind_let bs y u v))
      → reads_parts b (let_value bs y u) (a ∷ ps) ≡ hold (a.term >>= λ v. e >>= bind_let bs y u v)
  value_read bs y u a ps e h = step a.term holds (λ k. reads_parts b (fill terms (let_value bs y u) k) ps) (λ v. e >>= bind_let bs y u v) h

  type_read : (bs : List (Binding Term)) (y : Name) (t a : Part) (ps : List Part) (e : Option Term) → ((u : Option Term) (v : Term) → reads_parts b (let_name (bs ++ record { name = y; type = u; value = v } ∷ [])) ps ≡ hold (e >>= bind_let bs y u v))
      → reads_parts b (let_type bs y) (t ∷ a ∷ ps) ≡ hold (a.term >>= λ v. e >>= λ d. old.let_node y (is_null t.item) t.term v d >>= λ d. Some (lets_made terms bs d))
  type_read bs y t a ps e h = by (is_null t.item) t.term
    where
      by : (c : Bool) (o : Option Term) → ((if c then Some nothing else hold o) >>= λ j. reads_parts b (fill terms (let_type bs y) j) (a ∷ ps)) ≡ hold (a.term >>= λ v. e >>= λ d. old.let_node y c o v d >>= λ d. Some (lets_made terms bs d))
      by true o = value_read bs y None a ps e (h None)
      by false None = sym (ap hold (bind_same a.term (λ v. e >>= none) none (λ v. bind_none e) ∙ bind_none a.term))
      by false (Some u) = value_read bs y (Some u) a ps e (h (Some u))

  assoc_last : {A B C D E : Type 0} (o : Option A) (p : Option B) (q : Option C) (h : A → B → C → Option D) (g : D → Option E) → ((o >>= λ t. p >>= λ f. q >>= λ r. h t f r) >>= g) ≡ (o >>= λ t. p >>= λ f. q >>= λ r. h t f r >>= g)
  assoc_last None p q h g = refl
  assoc_last (Some t) None q h g = refl
  assoc_last (Some t) (Some f) None h g = refl
  assoc_last (Some t) (Some f) (Some r) h g = refl

  name_read : (bs : List (Binding Term)) (x t a : Part) (ps : List Part) (e : Option Term) → ((y : Name) (u : Option Term) (v : Term) → reads_parts b (let_name (bs ++ record { name = y; type = u; value = v } ∷ [])) ps ≡ hold (e >>= bind_let bs y u v))
      → reads_parts b (let_name bs) (x ∷ t ∷ a ∷ ps) ≡ hold (old.bound x t a e >>= λ d. Some (lets_made terms bs d))
  name_read bs x t a ps e h =
      step (label_of x.item) called (λ i. reads_parts b (fill terms (let_name bs) i) (t ∷ a ∷ ps)) (λ y. a.term >>= λ v. e >>= λ d. old.let_node y (is_null t.item) t.term v d >>= λ d. Some (lets_made terms bs d)) (λ y. type_read bs y t a ps e (h y))
      ∙ ap hold (sym (assoc_last (label_of x.item) a.term e (λ y v d. old.let_node y (is_null t.item) t.term v d) (λ d. Some (lets_made terms bs d))))

  short_let : (bs : List (Binding Term)) (y : Name) (c : Bool) (o : Option Term) → ((if c then Some nothing else hold o) >>= λ j. result terms (fill terms (let_type bs y) j)) ≡ None
  short_let bs y true o = refl
  short_let bs y false None = refl
  short_let bs y false (Some u) = refl

  lets_read : (bs : List (Binding Term)) (ps : List Part) → reads_parts b (let_name bs) ps ≡ hold (tail ps >>= λ e. Some (lets_made terms bs e))
  lets_read bs [] = refl
  lets_read bs (e ∷ []) = step e.term holds (λ v. reads_parts b (fill terms (let_name bs) v) []) (λ e. Some (lets_made terms bs e)) (λ e. refl)
  lets_read bs (x ∷ t ∷ []) =
      step (label_of x.item) called (λ i. reads_parts b (fill terms (let_name bs) i) (t ∷ [])) none (λ y. short_let bs y (is_null t.item) t.term)
      ∙ ap hold (bind_none (label_of x.item))
  lets_read bs (x ∷ t ∷ a ∷ ps) =
      name_read bs x t a ps (tail ps)
      (λ z u v. lets_read (bs ++ record { name = z; type = u; value = v } ∷ []) ps ∙ ap hold (bind_same (tail ps) (λ e. Some (lets_made terms (bs ++ record { name = z; type = u; value = v } ∷ []) e)) (bind_let bs z u v) (λ e. ap (λ d. Some d) (lets_append bs (record { name = z; type = u; value = v }) e))))

  lets_same : (ps : List Part) → lets_fit (length ps) ≡ true → old.lets ps ≡ tail ps
  lets_same [] h = cc
  lets_same (x ∷ []) h = cc
  lets_same (x ∷ t ∷ []) h = cc
  lets_same (x ∷ t ∷ a ∷ []) h = cc
  lets_same (x ∷ t ∷ a ∷ y ∷ []) h = refl
  lets_same (x ∷ t ∷ a ∷ y ∷ u ∷ ps) h = ap (old.bound x t a) (lets_same (y ∷ u ∷ ps) h)

  bound_none : (x t a : Part) → old.bound x t a None ≡ None
  bound_none x t a = bind_same (label_of x.item) (λ y. a.term >>= λ v. None) none (λ y. bind_none a.term) ∙ bind_none (label_of x.item)

  lets_none : (ps : List Part) → lets_fit (length ps) ≡ false → old.lets ps ≡ None
  lets_none [] h = refl
  lets_none (x ∷ []) h = refl
  lets_none (x ∷ t ∷ []) h = refl
  lets_none (x ∷ t ∷ a ∷ []) h = refl
  lets_none (x ∷ t ∷ a ∷ y ∷ []) h = cc
  lets_none (x ∷ t ∷ a ∷ y ∷ u ∷ ps) h = ap (old.bound x t a) (lets_none (y ∷ u ∷ ps) h) ∙ bound_none x t a

  bind_some : {A : Type 0} (o : Option A) → (o >>= λ a. Some a) ≡ o
  bind_some (Some a) = refl
  bind_some None = refl

  pub lets_row : (ps : List Part) → from b (when (lets_fit (length ps)) (let_name [])) ps ≡ hold (old.lets ps)
  unfolding from
  lets_row ps = by (lets_fit (length ps)) refl
    where
      by : (c : Bool) → lets_fit (length ps) ≡ c → from b (when c (let_name [])) ps ≡ hold (old.lets ps)
      by true h = lets_read [] ps ∙ ap hold (bind_some (tail ps) ∙ sym (lets_same ps h))
      by false h = ap hold (sym (lets_none ps h))

  -- ---- [29, e, ["k", ..], v]

  update_by : (e : Option Term) (p : Option (List Name)) (v : Option Term) → (e >>= λ f. p >>= λ ks. v >>= λ g. Some (Node (ops.With ks) (kid None f (kid None g end)))) ≡ (p >>= λ ks. (e >>= λ f. (v >>= λ g. Some (g ∷ [])) >>= λ gs. Some (f ∷ gs)) >>= λ es. Some (Node (ops.With ks) (plain_row es)))
  update_by None None v = refl
  update_by None (Some ks) v = refl
  update_by (Some e) None v = refl
  update_by (Some e) (Some ks) None = refl
  update_by (Some e) (Some ks) (Some v) = refl

  pub update_row : (ps : List Part) → from b (when (eq (length ps) 3) updating) ps ≡ hold (old.update ps)
  unfolding from
  update_row [] = refl
  update_row (e ∷ []) = refl
  update_row (e ∷ p ∷ []) = refl
  update_row (e ∷ p ∷ v ∷ []) =
      step e.term holds (λ i. reads_parts b (fill terms updating i) (p ∷ v ∷ [])) (λ f. leaf.path_of p.item >>= λ ks. v.term >>= λ g. Some (Node (ops.With ks) (kid None f (kid None g end))))
      (λ f. step (leaf.path_of p.item) names (λ i. reads_parts b (fill terms (update_path f) i) (v ∷ [])) (λ ks. v.term >>= λ g. Some (Node (ops.With ks) (kid None f (kid None g end))))
      (λ ks. step v.term holds (λ i. reads_parts b (fill terms (update_value f ks) i) []) (λ g. Some (Node (ops.With ks) (kid None f (kid None g end)))) (λ g. refl)))
      ∙ ap hold (update_by e.term (leaf.path_of p.item) v.term)
  update_row (e ∷ p ∷ v ∷ q ∷ ps) = refl

  -- ---- [10, t, "x", ..], [10, t, [T]]

  fresh_step : {A : Type 0} (test : List ℕ → Bool) (ins : List ℕ → Option A) (i : Item) (g : Value Term → Option (Value Term)) (k : A → Option (Value Term)) → ((x : List ℕ) (a : A) → ins x ≡ Some a → g (called x) ≡ k a)
      → (call (leaf.spelled (λ x. test x && is_some (ins x)) i) >>= g) ≡ ((leaf.spelled test i >>= ins) >>= k)
  fresh_step test ins i g k h = by (characters_of i)
    where
      inner : (x : List ℕ) (o : Option _) → ins x ≡ o → (call (if is_some o then Some x else None) >>= g) ≡ (o >>= k)
      inner x (Some a) e = h x a e
      inner x None e = refl

      tested : (x : List ℕ) (c : Bool) → (call (if c && is_some (ins x) then Some x else None) >>= g) ≡ (((if c then Some x else None) >>= ins) >>= k)
      tested x true = inner x (ins x) refl
      tested x false = refl

      by : (o : Option (List ℕ)) → (call (o >>= check (λ x. test x && is_some (ins x))) >>= g) ≡ (((o >>= check test) >>= ins) >>= k)
      by None = refl
      by (Some x) = tested x (test x)

  abbrev labels_in : List Part → List (Option Name)
  labels_in ps = map (λ p. label_of p.item) ps

  abbrev projection_made : Term → List Name → Option Term
  projection_made e ys = Some (Node (ops.Project ys) (kid None e end))

  labelled_read : (e : Term) (xs : List Name) (ps : List Part) → reads_parts b (labelled e xs) ps ≡ hold (all_put (λ y. y) xs (labels_in ps) >>= projection_made e)
  labelled_read e xs [] = refl
  labelled_read e xs (p ∷ ps) =
      fresh_step is_label (λ x. inserted (λ y. y) x xs) p.item (λ v. reads_parts b (fill terms (labelled e xs) v) ps) (λ ys. reads_parts b (labelled e ys) ps)
      (λ x ys h. ap (λ o. reads_parts b (labelled e (or_same terms o xs)) ps) h)
      ∙ bind_same (put (λ y. y) (label_of p.item) xs) (λ ys. reads_parts b (labelled e ys) ps) (λ ys. hold (all_put (λ y. y) ys (labels_in ps) >>= projection_made e)) (λ ys. labelled_read e ys ps)
      ∙ hold_bind (put (λ y. y) (label_of p.item) xs) (λ ys. all_put (λ y. y) ys (labels_in ps) >>= projection_made e)
      ∙ ap hold (sym (bind_assoc (put (λ y. y) (label_of p.item) xs) (λ ys. all_put (λ y. y) ys (labels_in ps)) (projection_made e)) ∙ ap (λ o. o >>= projection_made e) (sym (put_first (λ y. y) xs (label_of p.item) (labels_in ps))))

  sorted_same : (ps : List Part) → old.sorted_labels ps ≡ all_put (λ y. y) [] (labels_in ps)
  sorted_same [] = refl
  sorted_same (p ∷ ps) = by (label_of p.item) ∙ ap (λ o. o >>= put (λ y. y) (label_of p.item)) (sorted_same ps)
    where
      by : (o : Option Name) → (o >>= λ x. old.sorted_labels ps >>= λ xs. inserted (λ y. y) x xs) ≡ (old.sorted_labels ps >>= put (λ y. y) o)
      by (Some x) = refl
      by None = sym (bind_none (old.sorted_labels ps))

  projected_more : (e : Term) (q r : Part) (ps : List Part) → reads_parts b (projected e) (q ∷ r ∷ ps) ≡ hold (old.projected e (q ∷ r ∷ ps))
  projected_more e q r ps =
      step (label_of q.item) called (λ v. reads_parts b (fill terms (projected e) v) (r ∷ ps)) (λ x. all_put (λ y. y) (x ∷ []) (labels_in (r ∷ ps)) >>= projection_made e) (λ x. labelled_read e (x ∷ []) (r ∷ ps))
      ∙ ap hold (sym (first_put (label_of q.item)) ∙ ap (λ o. o >>= projection_made e) (sym (put_first (λ y. y) [] (label_of q.item) (labels_in (r ∷ ps))) ∙ sym (sorted_same (q ∷ r ∷ ps))))
    where
      first_put : (o : Option Name) → ((put (λ y. y) o [] >>= λ ws. all_put (λ y. y) ws (labels_in (r ∷ ps))) >>= projection_made e) ≡ (o >>= λ x. all_put (λ y. y) (x ∷ []) (labels_in (r ∷ ps)) >>= projection_made e)
      first_put (Some x) = refl
      first_put None = refl

  projected_one : (e : Term) (q : Part) → reads_parts b (projected e) (q ∷ []) ≡ hold (old.projected_by e q.boxed (q ∷ []))
  projected_one e q = by q.boxed
    where
      labelled_one : (x : Option Name) → (call x >>= λ v. result terms (fill terms (projected e) v)) ≡ hold ((x >>= λ y. inserted (λ z. z) y []) >>= projection_made e)
      labelled_one (Some y) = refl
      labelled_one None = refl

      by : (o : Option Term) → (box_by q.item o >>= λ v. result terms (fill terms (projected e) v)) ≡ hold (old.projected_by e o (q ∷ []))
      by (Some t) = refl
      by None = labelled_one (label_of q.item)

  pub projection_row : (ps : List Part) → from b (when (le 1 (length ps)) projecting) ps ≡ hold (old.projection ps)
  unfolding from
  projection_row [] = refl
  projection_row (p ∷ []) = step p.term holds (λ v. reads_parts b (fill terms projecting v) []) (λ e. old.projected e []) (λ e. refl)
  projection_row (p ∷ q ∷ []) = step p.term holds (λ v. reads_parts b (fill terms projecting v) (q ∷ [])) (λ e. old.projected_by e q.boxed (q ∷ [])) (λ e. projected_one e q)
  projection_row (p ∷ q ∷ r ∷ ps) = step p.term holds (λ v. reads_parts b (fill terms projecting v) (q ∷ r ∷ ps)) (λ e. old.projected e (q ∷ r ∷ ps)) (λ e. projected_more e q r ps)
