-- The machine over expressions makes the meanings of what the one over derivation trees makes.
use Rattle.std.proofs.Common.{◌≡◌, Bool, true, false, List, [], ◌∷◌, ◌++◌, refl, sym, ◌∙◌, ap}
use Rattle.std.specs.Prelude.{◌||◌, ◌==◌, Option, Some, None, cond}
use Rattle.dh_syntax.specs.declared.operators.BinOp.{BinOp}
use Rattle.dh_syntax.specs.declared.operators.BinOp.TheVariants as binary
use Rattle.dh_syntax.specs.declared.tokens.TokenKind.{TokenKind}
use Rattle.dh_syntax.specs.Text.Derivation.{key_label, NameToken, Key, Keys, Derivation, updates, merging, to_map, operation, Note, Lets, one_let, more_lets, Items, Alternatives, one_alternative, more_alternatives, Fields, one_field, more_fields, Entry, Entries}
use Rattle.dh_syntax.specs.Text.Derived.{among, alternative_labels, field_labels}
use Rattle.dh_syntax.specs.Text.Meaning.{items, meaning, note, alternatives, fields, entry, entries, names, put, lets_around}
use Rattle.dh_syntax.specs.Expressions.Levels.{level_of}
use Rattle.dh_syntax.specs.Expressions.Numbers.{bytes_eq}
use Rattle.dh_syntax.specs.Expressions.Order.{before}
use Rattle.dh_syntax.proofs.Numbers.{bytes_eq-true}
use Rattle.dh_syntax.specs.Expressions.Tree.{Term, Name}
use Rattle.dh_grammar.specs.Inside.Forget.{ftree, let_list, forgetting, forget}
use Rattle.dh_grammar.specs.Machine as machine
use Rattle.dh_grammar.specs.Inside.Mapping.{Carries}
use Rattle.dh_grammar.specs.Making.{option_map}
use Rattle.dh_grammar.specs.Inside.Terms.{Operand, Binding, Texts, term_sorts, terms, around}
use Rattle.dh_grammar.specs.Inside.Terms as code
use Rattle.dh_grammar.specs.Trees.{State, trees, quantify, updating, noting, add_let, add_item, add_alternative, add_field, add_entry, after, gap_at, depth_at}
use Rattle.dh_grammar.proofs.Maps.Carrying.{carry_after, map_gap, map_depth}

let_around : (bs : List Binding) (b : Binding) (e : Term) → around (bs ++ b ∷ []) e ≡ around bs (around (b ∷ []) e)
let_around [] b e = refl
let_around (c ∷ bs) b e = ap (code.let_of c) (let_around bs b e)

lets_same : (ls : Lets) (e : Term) → lets_around ls e ≡ around (let_list ls) e
lets_same (one_let w a v) e = refl
lets_same (more_lets ls w a v) e = lets_same ls _ ∙ sym (let_around (let_list ls) _ e)

level_14 : (o : BinOp) → (level_of o == 14) ≡ false
level_14 binary.Equivalent = refl
level_14 _ = refl

noting_same : (t a : Derivation) → ftree (noting t a) ≡ terms.noting (ftree t) (ftree a)
noting_same (merging t u) a = refl
noting_same (to_map t) a = refl
noting_same (operation o l r) a = ap (λ b. code.at 0 (code.noted_if b (meaning (operation o l r)) (meaning a))) (sym (level_14 o))
noting_same t a = refl

updating_same : (x : Derivation) (ks : Keys) (v : Derivation) → ftree (updating x ks v) ≡ terms.updating (ftree x) ks (ftree v)
updating_same (updates us) ks v = refl
updating_same x ks v = refl

quantify_same : (b : Bool) (w : NameToken) (a x : Derivation) → ftree (quantify b w a x) ≡ terms.quantify b w (ftree a) (ftree x)
quantify_same true w a x = refl
quantify_same false w a x = refl

add_let_same : (ls : Option Lets) (w : NameToken) (a : Note) (x : Derivation) → let_list (add_let ls w a x) ≡ terms.add_let (option_map let_list ls) w (note a) (ftree x)
add_let_same None w a x = refl
add_let_same (Some ls) w a x = refl

add_item_same : (is : Option Items) (x : Derivation) → items (add_item is x) ≡ terms.add_item (option_map items is) (ftree x)
add_item_same None x = refl
add_item_same (Some is) x = refl

add_alternative_same : (as' : Option Alternatives) (k : Key) (a : Note) → alternatives (add_alternative as' k a) ≡ terms.add_alternative (option_map alternatives as') k (note a)
add_alternative_same None k a = refl
add_alternative_same (Some as') k a = refl

add_field_same : (fs : Option Fields) (k : Key) (x : Derivation) → fields (add_field fs k x) ≡ terms.add_field (option_map fields fs) k (ftree x)
add_field_same None k x = refl
add_field_same (Some fs) k x = refl

add_entry_same : (es : Option Entries) (e : Entry) → entries (add_entry es e) ≡ terms.add_entry (option_map entries es) (entry e)
add_entry_same None e = refl
add_entry_same (Some es) e = refl

-- ---- labels

or_comm3 : (a b c : Bool) → (a || (b || c)) ≡ (b || (a || c))
or_comm3 true true c = refl
or_comm3 true false c = refl
or_comm3 false true c = refl
or_comm3 false false c = refl

or_twice : (a c : Bool) → (a || c) ≡ (a || (a || c))
or_twice true c = refl
or_twice false c = refl

by_cond : {A : Type 0} (P : A → Type 0) (b : Bool) (x y : A) → (b ≡ true → P x) → (b ≡ false → P y) → P (cond b x y)
by_cond P true x y f g = f refl
by_cond P false x y f g = g refl

pub among_put : {X : Type 0} (j : X → X → X) (x : Name) (p : Name × X) (es : List (Name × X)) → among x (names (put j p es)) ≡ (bytes_eq x p.0 || among x (names es))
among_put j x p [] = refl
among_put j x p (e ∷ es) =
    by_cond (λ r. among x (names r) ≡ (bytes_eq x p.0 || (bytes_eq x e.0 || among x (names es)))) (bytes_eq p.0 e.0) ((e.0, j e.1 p.1) ∷ es) (cond (before p.0 e.0) (p ∷ e ∷ es) (e ∷ put j p es))
    (λ h. or_twice (bytes_eq x e.0) (among x (names es)) ∙ ap (λ y. bytes_eq x y || (bytes_eq x e.0 || among x (names es))) (sym (bytes_eq-true p.0 e.0 h)))
    (λ h. by_cond (λ r. among x (names r) ≡ (bytes_eq x p.0 || (bytes_eq x e.0 || among x (names es)))) (before p.0 e.0) (p ∷ e ∷ es) (e ∷ put j p es)
    (λ g. refl)
    (λ g. ap (λ b. bytes_eq x e.0 || b) (among_put j x p es) ∙ or_comm3 (bytes_eq x e.0) (bytes_eq x p.0) (among x (names es))))

pub among_last : (x y : Name) (ys : List Name) → among x (ys ++ y ∷ []) ≡ (bytes_eq x y || among x ys)
among_last x y [] = refl
among_last x y (z ∷ ys) = ap (λ b. bytes_eq x z || b) (among_last x y ys) ∙ or_comm3 (bytes_eq x z) (bytes_eq x y) (among x ys)

alternatives_among : (as' : Alternatives) (x : Name) → among x (names (alternatives as')) ≡ among x (alternative_labels as')
alternatives_among (one_alternative k a) x = refl
alternatives_among (more_alternatives as' k a) x =
    among_put (λ a b. a) x (key_label k, note a) (alternatives as') ∙ ap (λ b. bytes_eq x (key_label k) || b) (alternatives_among as' x) ∙ sym (among_last x (key_label k) (alternative_labels as'))

fields_among : (fs : Fields) (x : Name) → among x (names (fields fs)) ≡ among x (field_labels fs)
fields_among (one_field k a) x = refl
fields_among (more_fields fs k a) x =
    among_put (λ a b. a) x (key_label k, meaning a) (fields fs) ∙ ap (λ b. bytes_eq x (key_label k) || b) (fields_among fs x) ∙ sym (among_last x (key_label k) (field_labels fs))

-- ---- all of it

pub forgets : Carries trees terms forgetting
forgets = record {
  binds = λ x. refl;
  field_labels = λ x fs. fields_among fs x;
  alternative_labels = λ x as'. alternatives_among as' x;
  natural = λ i. refl;
  integer = λ z. refl;
  truth = λ b. refl;
  builtin = λ b. refl;
  variable = λ w i. refl;
  «import» = λ i d u. refl;
  operation = λ o l r. refl;
  application = λ x y. refl;
  merging = λ x y. refl;
  some_of = λ x. refl;
  to_map = λ x. refl;
  updating = updating_same;
  quantify = quantify_same;
  arrow = λ x y. refl;
  choice = λ x y z. refl;
  lets = λ ls x. ap (code.at 0) (lets_same ls (meaning x));
  noting = noting_same;
  empty_list = λ c x. refl;
  assertion = λ x. refl;
  brackets = λ x. refl;
  field = λ x k. refl;
  project_none = λ x c. refl;
  project = λ x c ks d. refl;
  project_by = λ x y. refl;
  text = λ t cs. refl;
  list = λ c is d. refl;
  union_none = λ c. refl;
  union = λ c as' d. refl;
  record_type_none = λ c. refl;
  record_type = λ c fs d. refl;
  record_none = λ c d. refl;
  record_of = λ c es d. refl;
  untyped = refl;
  typed = λ x. refl;
  add_let = add_let_same;
  start = λ p. refl;
  more_chunks = λ cs x p. refl;
  add_item = add_item_same;
  add_alternative = add_alternative_same;
  add_field = add_field_same;
  alone = λ k. refl;
  given = λ ks x. refl;
  add_entry = add_entry_same;
}

pub forget_after : (k : TokenKind) (s : State) → forget (after k s) ≡ machine.after terms k (forget s)
forget_after k s = carry_after forgets k s

pub forget_gap : (s : State) (k : TokenKind) → machine.gap_at (forget s) k ≡ gap_at s k
forget_gap s k = map_gap forgetting s k

pub forget_depth : (s : State) (k : TokenKind) → machine.depth_at (forget s) k ≡ depth_at s k
forget_depth s k = map_depth forgetting s k
