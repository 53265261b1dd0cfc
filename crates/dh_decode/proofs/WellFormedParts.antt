-- What a row of the table makes of well formed parts is well formed.
use Rattle.std.specs.Prelude.{◌≡◌, ℕ, zero, suc, ◌+◌, ◌==◌, Bool, true, false, ◌&&◌, if◌then◌else◌, List, [], ◌∷◌, length, map, Option, Some, None, ⊤, codes, refl}
use Rattle.std.proofs.Common.{sym, ◌∙◌, ap, subst}
use Rattle.std.proofs.lemmas.Bool.{eqb-true}
use Rattle.dh_syntax.specs.declared.expressions.Alt.{Alt}
use Rattle.dh_syntax.specs.declared.expressions.Op.{Op}
use Rattle.dh_syntax.specs.declared.expressions.Op.TheVariants as ops
use Rattle.dh_syntax.specs.declared.locations.Import.{Import}
use Rattle.dh_syntax.specs.declared.locations.Loc.{Loc}
use Rattle.dh_syntax.specs.declared.locations.Loc.TheVariants as locs
use Rattle.dh_syntax.specs.declared.locations.Url.{Url}
use Rattle.std.specs.Str.{is_utf8}
use Rattle.dh_syntax.specs.Bytes.BinaryItems.{Item, single, array_of, map_of, tagged, no_items, more_items}
use Rattle.dh_syntax.specs.Bytes.BinaryLeaves as leaves
use Rattle.dh_syntax.specs.Bytes.BinaryLeaves.{◌>>=◌, inserted}
use Rattle.dh_syntax.specs.Bytes.BinaryRead as read
use Rattle.dh_syntax.specs.Bytes.BinaryRead.{Value, nothing, holds, Entry, Part, terms, plain_row, row, held, types}
use Rattle.dh_syntax.specs.Expressions.Arity.{plain, some_plain, binding, fits, has_some, loc_fits, alt_labels, typed_count, IsWellFormed, AreWellFormed}
use Rattle.dh_syntax.specs.Expressions.Order.{before, ascending}
use Rattle.dh_syntax.specs.Expressions.Tree.{Row, Leaf, Node, end, kid, Name, Var, Term}
use Rattle.dh_syntax.specs.Expressions.Spellable.{is_component, is_segment, is_host}
use Rattle.dh_syntax.proofs.Numbers.{and-true_left, and-true_right}
use Rattle.dh_syntax.specs.Expressions.Numbers.{bytes_eq}
use Rattle.dh_syntax.proofs.Order.{before_irreflexive, before-total}
use Rattle.dh_syntax.proofs.Numbers.{bytes_eq-itself, bytes_eq-true}

-- ---- what is said of parts

abbrev pub Fair : Option Term → Type 0
Fair (Some e) = IsWellFormed e
Fair None = ⊤

abbrev pub FairValue : Value → Type 0
FairValue nothing = ⊤
FairValue (holds e) = IsWellFormed e

abbrev pub FairValues : List Entry → Type 0
FairValues [] = ⊤
FairValues (e ∷ es) = FairValue e.value × FairValues es

abbrev pub labels : List Entry → List Name
labels es = map (λ e. e.name) es

abbrev pub FairEntries : Option (List Entry) → Type 0
FairEntries (Some es) = (ascending (labels es) ≡ true) × FairValues es
FairEntries None = ⊤

abbrev pub FairPart : Part → Type 0
FairPart p = Fair p.term × Fair p.boxed × FairEntries p.entries

abbrev pub FairParts : List Part → Type 0
FairParts [] = ⊤
FairParts (p ∷ ps) = FairPart p × FairParts ps

-- ---- steps

pub fair_if : (c : Bool) (x y : Option Term) → Fair x → Fair y → Fair (if c then x else y)
fair_if true x y f g = f
fair_if false x y f g = g

pub fair_when : (c : Bool) (x : Option Term) → (c ≡ true → Fair x) → Fair (if c then x else None)
fair_when true x f = f refl
fair_when false x f = tt

pub fair_step : {A : Type 0} (o : Option A) (f : A → Option Term) → ((a : A) → o ≡ Some a → Fair (f a)) → Fair (o >>= f)
fair_step (Some a) f h = h a refl
fair_step None f h = tt

pub fair_value : (o : Option Term) (e : Term) → Fair o → o ≡ Some e → IsWellFormed e
fair_value o e f h = subst Fair h f

-- what a step gave
step_by : {A B : Type 0} (P : Type 0) (o : Option A) (f : A → Option B) (b : B) → ((a : A) → o ≡ Some a → f a ≡ Some b → P) → (o >>= f) ≡ Some b → P
step_by P (Some a) f b k h = k a refl h
step_by P None f b k h = cc

of_some : {A : Type 0} (x y : A) → Some x ≡ Some y → x ≡ y
of_some x y h = cc

-- ---- parts that are expressions

abbrev FairTerms : List Part → List Term → Type 0
FairTerms ps es = AreWellFormed (plain_row es) × (length es ≡ length ps)

terms_fair : (ps : List Part) (es : List Term) → FairParts ps → terms ps ≡ Some es → FairTerms ps es
terms_fair [] es f h = subst (FairTerms []) (of_some [] es h) (tt, refl)
terms_fair (p ∷ ps) es (f, g) h =
    step_by (FairTerms (p ∷ ps) es) p.term _ es
    (λ e a h. step_by (FairTerms (p ∷ ps) es) (terms ps) _ es
    (λ ds b h. let (w, n) = terms_fair ps ds g b in subst (FairTerms (p ∷ ps)) (of_some (e ∷ ds) es h) ((fair_value p.term e f.0 a, w), ap suc n)) h)
    h

plain_all : (es : List Term) → plain (length es) (plain_row es) ≡ true
plain_all [] = refl
plain_all (e ∷ es) = plain_all es

pub plain_of : (n : ℕ) (es : List Term) → length es ≡ n → plain n (plain_row es) ≡ true
plain_of n es h = subst (λ n. plain n (plain_row es) ≡ true) h (plain_all es)

some_of : (e : Term) (es : List Term) → some_plain (plain_row (e ∷ es)) ≡ true
some_of e [] = refl
some_of e (f ∷ es) = some_of f es

-- a node with these parts
node_fair : (op : Op) (ps : List Part) → ((es : List Term) → length es ≡ length ps → fits op (plain_row es) ≡ true) → FairParts ps → Fair (read.node op ps)
node_fair op ps fit f = fair_step (terms ps) (λ es. Some (Node op (plain_row es))) (λ es h. let (w, n) = terms_fair ps es f h in (fit es n, w))

node_of_fair : (op : Op) (n : ℕ) (ps : List Part) → ((es : List Term) → length es ≡ n → fits op (plain_row es) ≡ true) → FairParts ps → Fair (read.node_of op n ps)
node_of_fair op n ps fit f = fair_when (length ps == n) (read.node op ps) (λ c. node_fair op ps (λ es h. fit es (h ∙ eqb-true (length ps) n c)) f)

-- ---- the rows

applied_fair : (f : Term) (es : List Term) → IsWellFormed f → AreWellFormed (plain_row es) → IsWellFormed (read.applied f es)
applied_fair f [] w ws = w
applied_fair f (e ∷ es) w (v, ws) = applied_fair (Node ops.App (kid None f (kid None e end))) es (refl, (w, (v, tt))) ws

application_fair : (ps : List Part) → FairParts ps → Fair (read.application ps)
application_fair [] f = tt
application_fair (p ∷ []) f = tt
application_fair (p ∷ q ∷ ps) (f, g) =
    fair_step p.term _ (λ e a. fair_step (terms (q ∷ ps)) _ (λ es b. applied_fair e es (fair_value p.term e f.0 a) (terms_fair (q ∷ ps) es g b).0))

quantified_fair : (op : Op) (x : Name) (p q : Part) → ((a b : Term) → fits op (kid None a (kid (Some x) b end)) ≡ true) → FairPart p → FairPart q → Fair (read.quantified op x p q)
quantified_fair op x p q fit f g =
    fair_step p.term _ (λ a h. fair_step q.term _ (λ b k. (fit a b, (fair_value p.term a f.0 h, (fair_value q.term b g.0 k, tt)))))

quantifier_fair : (op : Op) (ps : List Part) → ((x : Name) (a b : Term) → fits op (kid None a (kid (Some x) b end)) ≡ true) → FairParts ps → Fair (read.quantifier op ps)
quantifier_fair op [] fit f = tt
quantifier_fair op (p ∷ []) fit f = tt
quantifier_fair op (p ∷ q ∷ []) fit (f, (g, h)) = quantified_fair op (codes "_") p q (fit (codes "_")) f g
quantifier_fair op (p ∷ q ∷ r ∷ []) fit (f, (g, (h, k))) = fair_step (leaves.named_label p.item) _ (λ y e. quantified_fair op y q r (fit y) g h)
quantifier_fair op (p ∷ q ∷ r ∷ s ∷ ps) fit f = tt

operation_fair : (ps : List Part) → FairParts ps → Fair (read.operation ps)
operation_fair [] f = tt
operation_fair (p ∷ ps) (f, g) =
    fair_step (leaves.unsigned_of p.item) _ (λ n e. fair_step (read.operator n) _ (λ o h. node_of_fair (ops.Bin o) 2 ps (plain_of 2) g))

list_fair : (ps : List Part) → FairParts ps → Fair (read.list ps)
list_fair [] f = tt
list_fair (p ∷ []) (f, g) = fair_step p.term _ (λ e h. (refl, ((refl, ((refl, tt), (fair_value p.term e f.0 h, tt))), tt)))
list_fair (p ∷ q ∷ ps) (f, g) = fair_when (leaves.is_null p.item) _ (λ c. node_fair ops.List (q ∷ ps) by g)
  where
    by : (es : List Term) → length es ≡ suc (length ps) → some_plain (plain_row es) ≡ true
    by [] h = cc
    by (e ∷ es) h = some_of e es

some_fair : (ps : List Part) → FairParts ps → Fair (read.some ps)
some_fair [] f = tt
some_fair (p ∷ []) f = tt
some_fair (p ∷ q ∷ []) (f, g) = fair_when (leaves.is_null p.item) _ (λ c. node_fair ops.Some (q ∷ []) (plain_of 1) g)
some_fair (p ∷ q ∷ r ∷ ps) f = tt

annotation_fair : (op : Bool → Op) (n : ℕ) (ps : List Part) → ((es : List Term) → length es ≡ n → fits (op false) (plain_row es) ≡ true) →
    ((es : List Term) → length es ≡ 1 + n → fits (op true) (plain_row es) ≡ true) → FairParts ps → Fair (read.with_annotation op n ps)
annotation_fair op n ps fit fit_more f = by (length ps == n) refl
  where
    by : (c : Bool) → (length ps == n) ≡ c → Fair (if c then read.node (op false) ps else read.node_of (op true) (1 + n) ps)
    by true e = node_fair (op false) ps (λ es h. fit es (h ∙ eqb-true (length ps) n e)) f
    by false e = node_of_fair (op true) (1 + n) ps fit_more f

both : (a b : Bool) → a ≡ true → b ≡ true → (a && b) ≡ true
both true b h k = k
both false b h k = cc

-- ---- records and unions

abbrev FairHeld : List Entry → List Term → Type 0
FairHeld es ts = AreWellFormed (plain_row ts) × (length ts ≡ length (labels es))

held_by_fair : (v : Value) (o : Option (List Term)) (n : ℕ) (ts : List Term) → FairValue v → ((us : List Term) → o ≡ Some us → AreWellFormed (plain_row us) × (length us ≡ n)) → read.held_by v o ≡ Some ts
    → AreWellFormed (plain_row ts) × (length ts ≡ suc n)
held_by_fair nothing o n ts f k h = cc
held_by_fair (holds e) (Some us) n ts f k h = let (w, l) = k us refl in subst (λ ts. AreWellFormed (plain_row ts) × (length ts ≡ suc n)) (of_some (e ∷ us) ts h) ((f, w), ap suc l)
held_by_fair (holds e) None n ts f k h = cc

held_fair : (es : List Entry) (ts : List Term) → FairValues es → held es ≡ Some ts → FairHeld es ts
held_fair [] ts f h = subst (FairHeld []) (of_some [] ts h) (tt, refl)
held_fair (e ∷ es) ts (f, g) h = held_by_fair e.value (held es) (length (labels es)) ts f (λ us k. held_fair es us g k) h

fields_fair : (op : List Name → Op) (ps : List Part) → ((xs : List Name) (ts : List Term) → ascending xs ≡ true → length ts ≡ length xs → fits (op xs) (plain_row ts) ≡ true) → FairParts ps → Fair (read.fields op ps)
fields_fair op [] fit f = tt
fields_fair op (p ∷ q ∷ ps) fit f = tt
fields_fair op (p ∷ []) fit (f, g) =
    fair_step p.entries _
    (λ es h. let k : FairEntries (Some es) = subst FairEntries h f.2 in
    fair_step (held es) _ (λ ts j. let (w, n) = held_fair es ts k.1 j in (fit (labels es) ts k.0 n, w)))

alternatives_same : (es : List Entry) → alt_labels (map read.alternative es) ≡ labels es
alternatives_same [] = refl
alternatives_same (e ∷ es) = ap (λ xs. e.name ∷ xs) (alternatives_same es)

types_fair : (es : List Entry) → FairValues es → AreWellFormed (plain_row (types es)) × (plain (typed_count (map read.alternative es)) (plain_row (types es)) ≡ true)
types_fair [] f = (tt, refl)
types_fair (e ∷ es) (f, g) = by e.value f (types_fair es g)
  where
    by : (v : Value) → FairValue v → AreWellFormed (plain_row (types es)) × (plain (typed_count (map read.alternative es)) (plain_row (types es)) ≡ true)
        → AreWellFormed (plain_row (read.types_by v (types es))) × (plain (typed_count (record { label = e.name; typed = read.is_typed v } ∷ map read.alternative es)) (plain_row (read.types_by v (types es))) ≡ true)
    by nothing f k = k
    by (holds t) f k = ((f, k.0), k.1)

union_fair : (ps : List Part) → FairParts ps → Fair (read.union ps)
union_fair [] f = tt
union_fair (p ∷ q ∷ ps) f = tt
union_fair (p ∷ []) (f, g) =
    fair_step p.entries _
    (λ es h. let k : FairEntries (Some es) = subst FairEntries h f.2 in
    let (w, n) = types_fair es k.1 in
    (both _ _ (ap ascending (alternatives_same es) ∙ k.0) n, w))

-- ---- labels in their order

ascends : (x y : Name) (ys : List Name) → before x y ≡ true → ascending (y ∷ ys) ≡ true → ascending (x ∷ y ∷ ys) ≡ true
ascends x y ys h k = both (before x y) (ascending (y ∷ ys)) h k

-- two labels: which one comes first
data Compared (x y : Name) : Type 0 where
  below : before x y ≡ true → Compared x y
  same : before x y ≡ false → bytes_eq x y ≡ true → Compared x y
  above : before x y ≡ false → before y x ≡ true → bytes_eq x y ≡ false → Compared x y

compared : (x y : Name) → Compared x y
compared x y = by (before x y) (before y x) (bytes_eq x y) refl refl refl
  where
    by : (a b c : Bool) → before x y ≡ a → before y x ≡ b → bytes_eq x y ≡ c → Compared x y
    by true b c p q r = below p
    by false b true p q r = same p r
    by false true false p q r = above p q r
    by false false false p q r =
        let e = before-total x y p q in
        let f : bytes_eq x y ≡ true = ap (λ z. bytes_eq z y) e ∙ bytes_eq-itself y in
        cc

module _ {A : Type 0} (name : A → Name) where
  goes_before : (x z : A) (zs : List A) → before (name x) (name z) ≡ true → inserted name x (z ∷ zs) ≡ Some (x ∷ z ∷ zs)
  goes_before x z zs p = rw p refl

  goes_nowhere : (x z : A) (zs : List A) → before (name x) (name z) ≡ false → bytes_eq (name x) (name z) ≡ true → inserted name x (z ∷ zs) ≡ None
  goes_nowhere x z zs p q = rw (p, q) refl

  goes_behind : (x z : A) (zs : List A) → before (name x) (name z) ≡ false → bytes_eq (name x) (name z) ≡ false → inserted name x (z ∷ zs) ≡ (inserted name x zs >>= λ ws. Some (z ∷ ws))
  goes_behind x z zs p q = rw (p, q) refl

  -- where an entry goes among others that stand behind a label
  keeps : (x : A) (ys zs : List A) (w : Name) → inserted name x ys ≡ Some zs → before w (name x) ≡ true → ascending (w ∷ map name ys) ≡ true → ascending (w ∷ map name zs) ≡ true
  keeps x [] zs w e b h = subst (λ (zs : List A). ascending (w ∷ map name zs) ≡ true) (of_some (x ∷ []) zs e) (both (before w (name x)) true b refl)
  keeps x (y ∷ ys) zs w e b h = by (λ ws f q k. keeps x ys ws (name y) f q k) (compared (name x) (name y))
    where
      by : ((ws : List A) → inserted name x ys ≡ Some ws → before (name y) (name x) ≡ true → ascending (name y ∷ map name ys) ≡ true → ascending (name y ∷ map name ws) ≡ true) → Compared (name x) (name y) → ascending (w ∷ map name zs) ≡ true
      by go (below p) =
          subst (λ (zs : List A). ascending (w ∷ map name zs) ≡ true) (of_some (x ∷ y ∷ ys) zs (sym (goes_before x y ys p) ∙ e))
          (both (before w (name x)) (ascending (name x ∷ name y ∷ map name ys)) b (both (before (name x) (name y)) (ascending (name y ∷ map name ys)) p (and-true_right (before w (name y)) (ascending (name y ∷ map name ys)) h)))
      by go (same p q) = let f = sym (goes_nowhere x y ys p q) ∙ e in cc
      by go (above p q r) =
          step_by (ascending (w ∷ map name zs) ≡ true) (inserted name x ys) (λ ws. Some (y ∷ ws)) zs
          (λ ws f g. subst (λ (zs : List A). ascending (w ∷ map name zs) ≡ true) (of_some (y ∷ ws) zs g)
          (both (before w (name y)) (ascending (name y ∷ map name ws)) (and-true_left (before w (name y)) (ascending (name y ∷ map name ys)) h)
          (go ws f q (and-true_right (before w (name y)) (ascending (name y ∷ map name ys)) h))))
          (sym (goes_behind x y ys p r) ∙ e)

  pub inserted_ascends : (x : A) (ys zs : List A) → inserted name x ys ≡ Some zs → ascending (map name ys) ≡ true → ascending (map name zs) ≡ true
  inserted_ascends x [] zs e h = subst (λ (zs : List A). ascending (map name zs) ≡ true) (of_some (x ∷ []) zs e) refl
  inserted_ascends x (y ∷ ys) zs e h = by (compared (name x) (name y))
    where
      by : Compared (name x) (name y) → ascending (map name zs) ≡ true
      by (below p) =
          subst (λ (zs : List A). ascending (map name zs) ≡ true) (of_some (x ∷ y ∷ ys) zs (sym (goes_before x y ys p) ∙ e))
          (both (before (name x) (name y)) (ascending (name y ∷ map name ys)) p h)
      by (same p q) = let f = sym (goes_nowhere x y ys p q) ∙ e in cc
      by (above p q r) =
          step_by (ascending (map name zs) ≡ true) (inserted name x ys) (λ ws. Some (y ∷ ws)) zs
          (λ ws f g. subst (λ (zs : List A). ascending (map name zs) ≡ true) (of_some (y ∷ ws) zs g) (keeps x ys ws (name y) f q h))
          (sym (goes_behind x y ys p r) ∙ e)

-- what is said of the values of entries is said of one more
pub inserted_fair : (x : Entry) (ys zs : List Entry) → FairValue x.value → FairValues ys → inserted (λ e. e.name) x ys ≡ Some zs → FairValues zs
inserted_fair x [] zs f g h = subst FairValues (of_some (x ∷ []) zs h) (f, tt)
inserted_fair x (y ∷ ys) zs f g h = by (λ ws e. inserted_fair x ys ws f g.1 e) (compared x.name y.name)
  where
    by : ((ws : List Entry) → inserted (λ e. e.name) x ys ≡ Some ws → FairValues ws) → Compared x.name y.name → FairValues zs
    by go (below p) = subst FairValues (of_some (x ∷ y ∷ ys) zs (sym (goes_before (λ e. e.name) x y ys p) ∙ h)) (f, g)
    by go (same p q) = let e = sym (goes_nowhere (λ e. e.name) x y ys p q) ∙ h in cc
    by go (above p q r) =
        step_by (FairValues zs) (inserted (λ e. e.name) x ys) (λ ws. Some (y ∷ ws)) zs
        (λ ws e k. subst FairValues (of_some (y ∷ ws) zs k) (g.0, go ws e))
        (sym (goes_behind (λ e. e.name) x y ys p r) ∙ h)

sorted_fair : (ps : List Part) (xs : List Name) → read.sorted_labels ps ≡ Some xs → ascending xs ≡ true
sorted_fair [] xs h = subst (λ xs. ascending xs ≡ true) (of_some [] xs h) refl
sorted_fair (p ∷ ps) xs h =
    step_by (ascending xs ≡ true) (leaves.label_of p.item) _ xs
    (λ x a h. step_by (ascending xs ≡ true) (read.sorted_labels ps) _ xs
    (λ ys b h. ap ascending (sym (map_itself xs)) ∙ inserted_ascends (λ y. y) x ys xs h (ap ascending (map_itself ys) ∙ sorted_fair ps ys b)) h)
    h
  where
    map_itself : (xs : List Name) → map (λ y. y) xs ≡ xs
    map_itself [] = refl
    map_itself (x ∷ xs) = ap (λ ys. x ∷ ys) (map_itself xs)

projected_fair : (e : Term) (ps : List Part) → IsWellFormed e → Fair (read.projected e ps)
projected_fair e ps w = fair_step (read.sorted_labels ps) _ (λ xs h. (both (ascending xs) true (sorted_fair ps xs h) refl, (w, tt)))

projected_by_fair : (e : Term) (o : Option Term) (ps : List Part) → IsWellFormed e → Fair o → Fair (read.projected_by e o ps)
projected_by_fair e (Some t) ps w f = (refl, (w, (f, tt)))
projected_by_fair e None ps w f = projected_fair e ps w

projection_fair : (ps : List Part) → FairParts ps → Fair (read.projection ps)
projection_fair [] f = tt
projection_fair (p ∷ []) (f, g) = fair_step p.term _ (λ e h. projected_fair e [] (fair_value p.term e f.0 h))
projection_fair (p ∷ q ∷ []) (f, (g, k)) = fair_step p.term _ (λ e h. projected_by_fair e q.boxed (q ∷ []) (fair_value p.term e f.0 h) g.1)
projection_fair (p ∷ q ∷ r ∷ ps) (f, g) = fair_step p.term _ (λ e h. projected_fair e (q ∷ r ∷ ps) (fair_value p.term e f.0 h))

field_fair : (ps : List Part) → FairParts ps → Fair (read.field ps)
field_fair [] f = tt
field_fair (p ∷ []) f = tt
field_fair (p ∷ q ∷ []) (f, g) = fair_step (leaves.label_of q.item) _ (λ y h. node_fair (ops.Field y) (p ∷ []) (plain_of 1) (f, tt))
field_fair (p ∷ q ∷ r ∷ ps) f = tt

-- ---- leaves

natural_fair : (b : Bool) (ps : List Part) → Fair (read.natural b ps)
natural_fair b [] = tt
natural_fair b (p ∷ []) = fair_step (leaves.natural_of b p.item) _ (λ n h. (refl, tt))
natural_fair b (p ∷ q ∷ ps) = tt

integer_fair : (b : Bool) (ps : List Part) → Fair (read.integer b ps)
integer_fair b [] = tt
integer_fair b (p ∷ []) = fair_step (leaves.integer_of b p.item) _ (λ n h. (refl, tt))
integer_fair b (p ∷ q ∷ ps) = tt

pub variable_fair : (b : Bool) (i : Item) (ps : List Part) → Fair (read.variable b i ps)
variable_fair b i [] = tt
variable_fair b i (p ∷ []) = fair_step (leaves.named_label i) _ (λ y h. fair_step (leaves.index_of b p.item) _ (λ n k. tt))
variable_fair b i (p ∷ q ∷ ps) = tt

-- ---- texts

abbrev FairPieces : read.Pieces → Type 0
FairPieces r = AreWellFormed (plain_row r.between) × ((t : List ℕ) (ts : List (List ℕ)) → r.pieces ≡ t ∷ ts → length r.between ≡ length ts) × (has_some r.pieces ≡ true)

pieces_fair : (ps : List Part) (r : read.Pieces) → FairParts ps → read.pieces_of ps ≡ Some r → FairPieces r
pieces_fair [] r f h = cc
pieces_fair (p ∷ []) r f h =
    step_by (FairPieces r) (leaves.spelled is_utf8 p.item) _ r
    (λ t a h. subst FairPieces (of_some (record { pieces = t ∷ []; between = [] }) r h) (tt, (λ u us k. ap (λ xs. length xs) (tails t u [] us k)), refl))
    h
  where
    tails : (t u : List ℕ) (ts us : List (List ℕ)) → t ∷ ts ≡ u ∷ us → ts ≡ us
    tails t u ts us k = cc
pieces_fair (p ∷ q ∷ ps) r (f, (g, k)) h =
    step_by (FairPieces r) (leaves.spelled is_utf8 p.item) _ r
    (λ t a h. step_by (FairPieces r) q.term _ r
    (λ e b h. step_by (FairPieces r) (read.pieces_of ps) _ r
    (λ s c h. let z = pieces_fair ps s k c in
    subst FairPieces (of_some (record { pieces = t ∷ s.pieces; between = e ∷ s.between }) r h)
    ((fair_value q.term e g.0 b, z.0), (λ u us j. more s.pieces (length s.between) z.1 z.2 ∙ ap (λ xs. length xs) (tails t u s.pieces us j)), refl)) h) h)
    h
  where
    tails : (t u : List ℕ) (ts us : List (List ℕ)) → t ∷ ts ≡ u ∷ us → ts ≡ us
    tails t u ts us k = cc

    more : (ts : List (List ℕ)) (n : ℕ) → ((u : List ℕ) (us : List (List ℕ)) → ts ≡ u ∷ us → n ≡ length us) → has_some ts ≡ true → suc n ≡ length ts
    more [] n h k = cc
    more (u ∷ us) n h k = ap suc (h u us refl)

text_fair : (ps : List Part) → FairParts ps → Fair (read.text ps)
text_fair ps f = fair_step (read.pieces_of ps) _ (λ r h. let z = pieces_fair ps r f h in (by r.pieces r.between z.1 z.2, z.0))
  where
    by : (ts : List (List ℕ)) (es : List Term) → ((u : List ℕ) (us : List (List ℕ)) → ts ≡ u ∷ us → length es ≡ length us) → has_some ts ≡ true → fits (ops.Text ts) (plain_row es) ≡ true
    by [] es h k = cc
    by (u ∷ us) es h k = plain_of (length us) es (h u us refl)

-- ---- imports

components_fair : (is : List Item) (cs : List (List ℕ)) → leaves.components_of is ≡ Some cs → has_some cs ≡ true
components_fair [] cs h = cc
components_fair (i ∷ []) cs h = step_by (has_some cs ≡ true) (leaves.spelled is_component i) _ cs (λ c a h. ap has_some (sym (of_some (c ∷ []) cs h))) h
components_fair (i ∷ j ∷ is) cs h =
    step_by (has_some cs ≡ true) (leaves.spelled is_component i) _ cs
    (λ c a h. step_by (has_some cs ≡ true) (leaves.components_of (j ∷ is)) _ cs (λ ds b h. ap has_some (sym (of_some (c ∷ ds) cs h))) h)
    h

url_from_fair : (host : List ℕ) (is : List Item) (u : Url) → leaves.url_from host is ≡ Some u → has_some u.comps ≡ true
url_from_fair host [] u h = cc
url_from_fair host (c ∷ []) u h = cc
url_from_fair host (c ∷ q ∷ []) u h =
    step_by (has_some u.comps ≡ true) (leaves.spelled is_segment c) _ u
    (λ s a h. step_by (has_some u.comps ≡ true) (leaves.query_of q) _ u (λ q b h. ap (λ (u : Url). has_some u.comps) (sym (of_some (record { host = host; comps = s ∷ []; query = q }) u h))) h)
    h
url_from_fair host (c ∷ d ∷ e ∷ is) u h =
    step_by (has_some u.comps ≡ true) (leaves.spelled is_segment c) _ u
    (λ s a h. step_by (has_some u.comps ≡ true) (leaves.url_from host (d ∷ e ∷ is)) _ u (λ v b h. ap (λ (u : Url). has_some u.comps) (sym (of_some (record v { comps = s ∷ v.comps }) u h))) h)
    h

url_fair : (is : List Item) (u : Url) → leaves.url_of is ≡ Some u → has_some u.comps ≡ true
url_fair [] u h = cc
url_fair (i ∷ []) u h = cc
url_fair (i ∷ j ∷ is) u h = by (leaves.is_null i) h
  where
    by : (c : Bool) → (if c then (leaves.spelled is_host j >>= λ h. leaves.url_from h is) else None) ≡ Some u → has_some u.comps ≡ true
    by true h = step_by (has_some u.comps ≡ true) (leaves.spelled is_host j) _ u (λ host a h. url_from_fair host is u h) h
    by false h = cc

abbrev FairLocation : Option Loc → Type 0
FairLocation (Some l) = loc_fits l ≡ true
FairLocation None = ⊤

location_step : {A : Type 0} (o : Option A) (f : A → Loc) → ((a : A) → o ≡ Some a → loc_fits (f a) ≡ true) → FairLocation (o >>= λ a. Some (f a))
location_step (Some a) f h = h a refl
location_step None f h = tt

location_if : (c : Bool) (x y : Option Loc) → FairLocation x → FairLocation y → FairLocation (if c then x else y)
location_if true x y f g = f
location_if false x y f g = g

missing_fair : (is : List Item) → FairLocation (leaves.missing_of is)
missing_fair [] = refl
missing_fair (i ∷ is) = tt

location_fair : (n : ℕ) (is : List Item) → FairLocation (leaves.location_by n is)
location_fair n is =
    location_if (n == 0) _ _ (location_step (leaves.url_of is) locs.Http (url_fair is))
    (location_if (n == 1) _ _ (location_step (leaves.url_of is) locs.Https (url_fair is))
    (location_if (n == 2) _ _ (location_step (leaves.components_of is) locs.Abs (components_fair is))
    (location_if (n == 3) _ _ (location_step (leaves.components_of is) locs.Here (components_fair is))
    (location_if (n == 4) _ _ (location_step (leaves.components_of is) locs.Parent (components_fair is))
    (location_if (n == 5) _ _ (location_step (leaves.components_of is) locs.Home (components_fair is))
    (location_if (n == 6) _ _ (location_step (leaves.variable_of is) locs.Env (λ x h. refl))
    (location_if (n == 7) _ _ (missing_fair is) tt)))))))

import_of_fair : (is : List Item) (i : Import) → leaves.import_of is ≡ Some i → loc_fits i.loc ≡ true
import_of_fair [] i h = cc
import_of_fair (d ∷ []) i h = cc
import_of_fair (d ∷ m ∷ []) i h = cc
import_of_fair (d ∷ m ∷ s ∷ is) i h =
    step_by (loc_fits i.loc ≡ true) (leaves.digest_of d) _ i
    (λ digest a h. step_by (loc_fits i.loc ≡ true) (leaves.mode_of m) _ i
    (λ how b h. step_by (loc_fits i.loc ≡ true) (leaves.unsigned_of s) _ i
    (λ scheme c h. step_by (loc_fits i.loc ≡ true) (leaves.location_by scheme is) _ i
    (λ l d h. ap (λ (i : Import). loc_fits i.loc) (sym (of_some (record { loc = l; mode = how; digest = digest }) i h)) ∙ subst FairLocation d (location_fair scheme is)) h) h) h)
    h

import_fair : (ps : List Part) → Fair (read.import_term ps)
import_fair ps = fair_step (leaves.import_of (map (λ p. p.item) ps)) _ (λ i h. (both (loc_fits i.loc) true (import_of_fair (map (λ p. p.item) ps) i h) refl, tt))

-- ---- lets and updates

let_fair : (x : Name) (untyped : Bool) (o : Option Term) (a b : Term) → Fair o → IsWellFormed a → IsWellFormed b → Fair (read.let_node x untyped o a b)
let_fair x true o a b f g h = (refl, (g, (h, tt)))
let_fair x false o a b f g h = fair_step o _ (λ t e. (refl, (fair_value o t f e, (g, (h, tt)))))

bound_fair : (x t a : Part) (o : Option Term) → FairPart t → FairPart a → Fair o → Fair (read.bound x t a o)
bound_fair x t a o f g h =
    fair_step (leaves.label_of x.item) _ (λ y e. fair_step a.term _ (λ v k. fair_step o _ (λ b j. let_fair y (leaves.is_null t.item) t.term v b f.0 (fair_value a.term v g.0 k) (fair_value o b h j))))

lets_fair : (ps : List Part) → FairParts ps → Fair (read.lets ps)
lets_fair [] f = tt
lets_fair (x ∷ []) f = tt
lets_fair (x ∷ t ∷ []) f = tt
lets_fair (x ∷ t ∷ a ∷ []) f = tt
lets_fair (x ∷ t ∷ a ∷ b ∷ []) (f, (g, (h, (k, j)))) = bound_fair x t a b.term g h k.0
lets_fair (x ∷ t ∷ a ∷ y ∷ u ∷ ps) (f, (g, (h, k))) = bound_fair x t a (read.lets (y ∷ u ∷ ps)) g h (lets_fair (y ∷ u ∷ ps) k)

path_fair : (i : Item) (ks : List Name) → leaves.path_of i ≡ Some ks → has_some ks ≡ true
path_fair (single a) ks h = cc
path_fair (array_of no_items) ks h = cc
path_fair (array_of (more_items i is)) ks h =
    step_by (has_some ks ≡ true) (leaves.label_of i) _ ks
    (λ x a h. step_by (has_some ks ≡ true) (leaves.labels_of is) _ ks (λ xs b h. ap has_some (sym (of_some (x ∷ xs) ks h))) h)
    h
path_fair (map_of ps) ks h = cc
path_fair (tagged t i) ks h = cc

update_fair : (ps : List Part) → FairParts ps → Fair (read.update ps)
update_fair [] f = tt
update_fair (e ∷ []) f = tt
update_fair (e ∷ p ∷ []) f = tt
update_fair (e ∷ p ∷ v ∷ []) (f, (g, (h, k))) =
    fair_step (leaves.path_of p.item) _ (λ ks a. node_fair (ops.With ks) (e ∷ v ∷ []) (λ es n. both (has_some ks) (plain 2 (plain_row es)) (path_fair p.item ks a) (plain_of 2 es n)) (f, (h, tt)))
update_fair (e ∷ p ∷ v ∷ w ∷ ps) f = tt

pub row_fair : (b : Bool) (n : ℕ) (ps : List Part) → FairParts ps → Fair (row b n ps)
row_fair b n ps f =
    fair_if (n == 0) _ _ (application_fair ps f)
    (fair_if (n == 1) _ _ (quantifier_fair ops.Lam ps (λ x a b. refl) f)
    (fair_if (n == 2) _ _ (quantifier_fair ops.Pi ps (λ x a b. refl) f)
    (fair_if (n == 3) _ _ (operation_fair ps f)
    (fair_if (n == 4) _ _ (list_fair ps f)
    (fair_if (n == 5) _ _ (some_fair ps f)
    (fair_if (n == 6) _ _ (annotation_fair ops.Merge 2 ps (plain_of 2) (plain_of 3) f)
    (fair_if (n == 7) _ _ (fields_fair ops.RecordType ps by f)
    (fair_if (n == 8) _ _ (fields_fair ops.Record ps by f)
    (fair_if (n == 9) _ _ (field_fair ps f)
    (fair_if (n == 10) _ _ (projection_fair ps f)
    (fair_if (n == 11) _ _ (union_fair ps f)
    (fair_if (n == 14) _ _ (node_of_fair ops.If 3 ps (plain_of 3) f)
    (fair_if (n == 15) _ _ (natural_fair b ps)
    (fair_if (n == 16) _ _ (integer_fair b ps)
    (fair_if (n == 18) _ _ (text_fair ps f)
    (fair_if (n == 19) _ _ (node_of_fair ops.Assert 1 ps (plain_of 1) f)
    (fair_if (n == 24) _ _ (import_fair ps)
    (fair_if (n == 25) _ _ (lets_fair ps f)
    (fair_if (n == 26) _ _ (node_of_fair ops.Annot 2 ps (plain_of 2) f)
    (fair_if (n == 27) _ _ (annotation_fair ops.ToMap 1 ps (plain_of 1) (plain_of 2) f)
    (fair_if (n == 28) _ _ (node_of_fair ops.EmptyList 1 ps (plain_of 1) f)
    (fair_if (n == 29) _ _ (update_fair ps f) tt))))))))))))))))))))))
  where
    by : (xs : List Name) (ts : List Term) → ascending xs ≡ true → length ts ≡ length xs → (ascending xs && plain (length xs) (plain_row ts)) ≡ true
    by xs ts h k = both (ascending xs) (plain (length xs) (plain_row ts)) h (plain_of (length xs) ts k)
