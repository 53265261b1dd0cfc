-- How many arrays and maps stand in one another in an item that is an expression: at most two for each level of the
-- expression's nesting, and two more.
use Rattle.std.specs.Prelude.{◌≡◌, ℕ, ℤ, suc, ◌+◌, ◌*◌, ◌≤◌, ◌==◌, max, Bool, true, false, cond, if◌then◌else◌, List, [], ◌∷◌, length, map, Option, Some, None, codes, refl, ⊤}
use Rattle.std.proofs.Common.{sym, ap, subst, arith}
use Rattle.std.specs.Str.{is_utf8}
use Rattle.dh_syntax.specs.declared.expressions.Op.{Op}
use Rattle.dh_syntax.specs.declared.expressions.Op.TheVariants as ops
use Rattle.dh_syntax.specs.declared.locations.Digest.{Digest}
use Rattle.dh_syntax.specs.declared.locations.Import.{Import}
use Rattle.dh_syntax.specs.declared.locations.Loc.{Loc}
use Rattle.dh_syntax.specs.declared.locations.Url.{Url}
use Rattle.dh_syntax.specs.declared.operators.Builtin.TheVariants as builtin
use Rattle.dh_syntax.specs.Bytes.BinaryItems.{Item, single, array_of, map_of, tagged, Items, no_items, more_items, Pairs, no_pairs, more_pairs}
use Rattle.dh_syntax.specs.Bytes.BinaryLeaves
use Rattle.dh_syntax.specs.Bytes.BinaryLeaves.{◌>>=◌, is_null, characters_of, octets_of, unsigned_of, spelled, label_of, named_label, labels_of, path_of, inserted, natural_of, integer_of}
use Rattle.dh_syntax.specs.Bytes.BinaryRead
use Rattle.dh_syntax.specs.Bytes.BinaryRead.{Value, nothing, holds, Entry, Part, terms, plain_row, node, node_of, applied, row}
use Rattle.dh_syntax.specs.Expressions.Nesting.{nesting, parts_nesting}
use Rattle.dh_syntax.specs.Expressions.Numbers.{bytes_eq}
use Rattle.dh_syntax.specs.Expressions.Order.{before}
use Rattle.dh_syntax.specs.Expressions.Spellable.{is_component, is_segment, is_query, is_host}
use Rattle.dh_syntax.specs.Expressions.Tree.{Node, end, kid, Name, Term}

abbrev mutual
  pub depth : Item → ℕ
  depth (single a) = 0
  depth (array_of is) = suc (depths is)
  depth (map_of ps) = suc (pairs_depth ps)
  depth (tagged t i) = depth i

  pub depths : Items → ℕ
  depths no_items = 0
  depths (more_items i is) = max (depth i) (depths is)

  pub pairs_depth : Pairs → ℕ
  pairs_depth no_pairs = 0
  pairs_depth (more_pairs k v ps) = max (depth k) (max (depth v) (pairs_depth ps))

-- ---- steps

step : {A B G : Type 0} {f : A → Option B} {b : B} (o : Option A) → (o >>= f) ≡ Some b → ((a : A) → o ≡ Some a → f a ≡ Some b → G) → G
step (Some a) h k = k a refl h
step None h k = cc

if_some : {A : Type 0} (c : Bool) (x : Option A) (a : A) → cond c x None ≡ Some a → (c ≡ true) × (x ≡ Some a)
if_some true x a h = (refl, h)
if_some false x a h = cc

-- ---- items that stand for no expression

null_flat : (i : Item) → is_null i ≡ true → depth i ≡ 0
null_flat (single a) h = refl
null_flat (array_of is) h = cc
null_flat (map_of ps) h = cc
null_flat (tagged t i) h = cc

characters_flat : (i : Item) (t : List ℕ) → characters_of i ≡ Some t → depth i ≡ 0
characters_flat (single a) t h = refl
characters_flat (array_of is) t h = cc
characters_flat (map_of ps) t h = cc
characters_flat (tagged n i) t h = cc

octets_flat : (i : Item) (t : List ℕ) → octets_of i ≡ Some t → depth i ≡ 0
octets_flat (single a) t h = refl
octets_flat (array_of is) t h = cc
octets_flat (map_of ps) t h = cc
octets_flat (tagged n i) t h = cc

unsigned_flat : (i : Item) (n : ℕ) → unsigned_of i ≡ Some n → depth i ≡ 0
unsigned_flat (single a) n h = refl
unsigned_flat (array_of is) n h = cc
unsigned_flat (map_of ps) n h = cc
unsigned_flat (tagged t i) n h = cc

spelled_flat : (test : List ℕ → Bool) (i : Item) (t : List ℕ) → spelled test i ≡ Some t → depth i ≡ 0
spelled_flat test i t h = step (characters_of i) h (λ s p q. characters_flat i s p)

-- ---- parts

abbrev value_depth : Value → ℕ
value_depth nothing = 0
value_depth (holds t) = 2 * nesting t + 2

abbrev entries_depth : List Entry → ℕ
entries_depth [] = 0
entries_depth (e ∷ es) = max (value_depth e.value) (entries_depth es)

abbrev parts_depth : List Part → ℕ
parts_depth [] = 0
parts_depth (p ∷ ps) = max (depth p.item) (parts_depth ps)

record IsShallow (p : Part) : Type 0 where
  term : (e : Term) → p.term ≡ Some e → depth p.item ≤ 2 * nesting e + 2
  boxed : (e : Term) → p.boxed ≡ Some e → depth p.item ≤ 2 * nesting e + 3
  entries : (es : List Entry) → p.entries ≡ Some es → depth p.item ≤ entries_depth es + 1

abbrev AllShallow : List Part → Type 0
AllShallow [] = ⊤
AllShallow (p ∷ ps) = IsShallow p × AllShallow ps

-- what a row promises of the items behind its number
abbrev Bounds : List Part → Option Term → Type 0
Bounds ps o = (e : Term) → o ≡ Some e → parts_depth ps ≤ 2 * nesting e + 1

terms_depth : (ps : List Part) (es : List Term) → AllShallow ps → terms ps ≡ Some es → parts_depth ps ≤ 2 * parts_nesting (plain_row es)
terms_depth [] es s h = omega arith
terms_depth (p ∷ ps) es s h =
    step p.term h (λ e a h₁. step (terms ps) h₁ (λ fs b h₂.
    let x = s.0.term e a in
    let y = terms_depth ps fs s.1 b in
    let z : es ≡ e ∷ fs = cc in
    rw z (omega arith)))

node_depth : (op : Op) (ps : List Part) → AllShallow ps → Bounds ps (node op ps)
node_depth op ps s e h = step (terms ps) h (λ es a h₁. let x = terms_depth ps es s a in let z : e ≡ Node op (plain_row es) = cc in rw z (omega arith))

field_depth : (ps : List Part) → AllShallow ps → Bounds ps (BinaryRead.field ps)
field_depth (t ∷ x ∷ []) s e h =
    step (label_of x.item) h (λ y a h₁. let p = spelled_flat _ x.item y a in let q = node_depth (ops.Field y) (t ∷ []) (s.0, tt) e h₁ in omega arith)
field_depth _ s e h = cc

node_of_depth : (op : Op) (n : ℕ) (ps : List Part) → AllShallow ps → Bounds ps (node_of op n ps)
node_of_depth op n ps s e h = let (c, h₁) = if_some (length ps == n) (node op ps) e h in node_depth op ps s e h₁

-- ---- rows

applied_nesting : (f : Term) (es : List Term) → (nesting f ≤ nesting (applied f es)) × (parts_nesting (plain_row es) ≤ nesting (applied f es))
applied_nesting f [] = (omega arith, omega arith)
applied_nesting f (a ∷ es) = let (p, q) = applied_nesting (Node ops.App (kid None f (kid None a end))) es in (omega arith, omega arith)

-- a function applied to one argument or more
applied_depth : (g b : Term) (bs : List Term) (m n : ℕ) → m ≤ 2 * nesting g + 2 → n ≤ 2 * parts_nesting (plain_row (b ∷ bs)) → max m n ≤ 2 * nesting (applied g (b ∷ bs)) + 1
applied_depth g b bs m n x y =
    let (u, v) = applied_nesting (Node ops.App (kid None g (kid None b end))) bs in
    let w = (applied_nesting g (b ∷ bs)).1 in
    omega arith

application_depth : (ps : List Part) → AllShallow ps → Bounds ps (BinaryRead.application ps)
application_depth (f ∷ a ∷ ps) s e h =
    step f.term h (λ g p h₁. step (terms (a ∷ ps)) h₁ (λ es q h₂. step a.term q (λ b q₁ q₂. step (terms ps) q₂ (λ bs q₃ q₄.
    let k : es ≡ b ∷ bs = cc in
    let l : e ≡ applied g (b ∷ bs) = cc in
    rw l (applied_depth g b bs (depth f.item) (parts_depth (a ∷ ps)) (s.0.term g p) (subst (λ xs. parts_depth (a ∷ ps) ≤ 2 * parts_nesting (plain_row xs)) k (terms_depth (a ∷ ps) es s.1 q)))))))
application_depth _ s e h = cc

quantified_depth : (op : Op) (x : Name) (type body : Part) → IsShallow type → IsShallow body → Bounds (type ∷ body ∷ []) (BinaryRead.quantified op x type body)
quantified_depth op x type body s t e h =
    step type.term h (λ a p h₁. step body.term h₁ (λ b q h₂.
    let u = s.term a p in
    let v = t.term b q in
    let z : e ≡ Node op (kid None a (kid (Some x) b end)) = cc in
    rw z (omega arith)))

quantifier_depth : (op : Op) (ps : List Part) → AllShallow ps → Bounds ps (BinaryRead.quantifier op ps)
quantifier_depth op (type ∷ body ∷ []) s e h = quantified_depth op (codes "_") type body s.0 s.1.0 e h
quantifier_depth op (x ∷ type ∷ body ∷ []) s e h =
    step (named_label x.item) h (λ y p h₁.
    let u = spelled_flat _ x.item y p in
    let v = quantified_depth op y type body s.1.0 s.1.1.0 e h₁ in
    omega arith)
quantifier_depth op _ s e h = cc

operation_depth : (ps : List Part) → AllShallow ps → Bounds ps (BinaryRead.operation ps)
operation_depth (code ∷ ps) s e h =
    step (unsigned_of code.item) h (λ n p h₁. step (BinaryRead.operator n) h₁ (λ o q h₂.
    let u = unsigned_flat code.item n p in
    let v = node_of_depth (ops.Bin o) 2 ps s.1 e h₂ in
    omega arith))
operation_depth _ s e h = cc

list_depth : (ps : List Part) → AllShallow ps → Bounds ps (BinaryRead.list ps)
list_depth (t ∷ []) s e h =
    step t.term h (λ x p h₁.
    let u = s.0.term x p in
    let z : e ≡ Node ops.EmptyList (kid None (Node ops.App (kid None (Node (ops.Builtin builtin.List) end) (kid None x end))) end) = cc in
    rw z (omega arith))
list_depth (n ∷ a ∷ ps) s e h =
    let (c, h₁) = if_some (is_null n.item) (node ops.List (a ∷ ps)) e h in
    let u = null_flat n.item c in
    let v = node_depth ops.List (a ∷ ps) s.1 e h₁ in
    omega arith
list_depth _ s e h = cc

some_depth : (ps : List Part) → AllShallow ps → Bounds ps (BinaryRead.some ps)
some_depth (n ∷ t ∷ []) s e h =
    let (c, h₁) = if_some (is_null n.item) (node ops.Some (t ∷ [])) e h in
    let u = null_flat n.item c in
    let v = node_depth ops.Some (t ∷ []) s.1 e h₁ in
    omega arith
some_depth _ s e h = cc

annotation_depth : (op : Bool → Op) (n : ℕ) (ps : List Part) → AllShallow ps → Bounds ps (BinaryRead.with_annotation op n ps)
annotation_depth op n ps s e h = by_length (length ps == n) h
  where
    by_length : (c : Bool) → cond c (node (op false) ps) (node_of (op true) (1 + n) ps) ≡ Some e → parts_depth ps ≤ 2 * nesting e + 1
    by_length true g = node_depth (op false) ps s e g
    by_length false g = node_of_depth (op true) (1 + n) ps s e g

held_by_depth : (v : Value) (es : List Entry) (ts : List Term) → ((us : List Term) → BinaryRead.held es ≡ Some us → entries_depth es ≤ 2 * parts_nesting (plain_row us))
    → BinaryRead.held_by v (BinaryRead.held es) ≡ Some ts → max (value_depth v) (entries_depth es) ≤ 2 * parts_nesting (plain_row ts)
held_by_depth nothing es ts ih h = cc
held_by_depth (holds t) es ts ih h = step (BinaryRead.held es) h (λ us p q. let u = ih us p in let z : ts ≡ t ∷ us = cc in rw z (omega arith))

held_depth : (es : List Entry) (ts : List Term) → BinaryRead.held es ≡ Some ts → entries_depth es ≤ 2 * parts_nesting (plain_row ts)
held_depth [] ts h = omega arith
held_depth (e ∷ es) ts h = held_by_depth e.value es ts (λ us p. held_depth es us p) h

fields_depth : (op : List Name → Op) (ps : List Part) → AllShallow ps → Bounds ps (BinaryRead.fields op ps)
fields_depth op (m ∷ []) s e h =
    step m.entries h (λ es p h₁. step (BinaryRead.held es) h₁ (λ ts q h₂.
    let u = s.0.entries es p in
    let v = held_depth es ts q in
    let z : e ≡ Node (op (map (λ x. x.name) es)) (plain_row ts) = cc in
    rw z (omega arith)))
fields_depth op _ s e h = cc

labels_depth : (ps : List Part) (xs : List Name) → BinaryRead.sorted_labels ps ≡ Some xs → parts_depth ps ≡ 0
labels_depth [] xs h = refl
labels_depth (p ∷ ps) xs h =
    step (label_of p.item) h (λ x a h₁. step (BinaryRead.sorted_labels ps) h₁ (λ ys b h₂.
    let u = spelled_flat _ p.item x a in
    let v = labels_depth ps ys b in
    omega arith))

projected_depth : (e : Term) (p : Part) (ps : List Part) → depth p.item ≤ 2 * nesting e + 2 → Bounds (p ∷ ps) (BinaryRead.projected e ps)
projected_depth e p ps u f h =
    step (BinaryRead.sorted_labels ps) h (λ xs a h₁.
    let v = labels_depth ps xs a in
    let z : f ≡ Node (ops.Project xs) (kid None e end) = cc in
    rw z (omega arith))

projected_by_depth : (e : Term) (p q : Part) (o : Option Term) → q.boxed ≡ o → depth p.item ≤ 2 * nesting e + 2 → IsShallow q → Bounds (p ∷ q ∷ []) (BinaryRead.projected_by e o (q ∷ []))
projected_by_depth e p q (Some t) a u s f h =
    let v = s.boxed t a in
    let z : f ≡ Node ops.ProjectType (kid None e (kid None t end)) = cc in
    rw z (omega arith)
projected_by_depth e p q None a u s f h = projected_depth e p (q ∷ []) u f h

projection_depth : (ps : List Part) → AllShallow ps → Bounds ps (BinaryRead.projection ps)
projection_depth [] s f h = cc
projection_depth (p ∷ []) s f h = step p.term h (λ e a h₁. projected_depth e p [] (s.0.term e a) f h₁)
projection_depth (p ∷ q ∷ []) s f h = step p.term h (λ e a h₁. projected_by_depth e p q q.boxed refl (s.0.term e a) s.1.0 f h₁)
projection_depth (p ∷ q ∷ r ∷ ps) s f h = step p.term h (λ e a h₁. projected_depth e p (q ∷ r ∷ ps) (s.0.term e a) f h₁)

types_by_depth : (v : Value) (n : ℕ) (ts : List Term) → n ≤ 2 * parts_nesting (plain_row ts) → max (value_depth v) n ≤ 2 * parts_nesting (plain_row (BinaryRead.types_by v ts))
types_by_depth nothing n ts h = omega arith
types_by_depth (holds t) n ts h = omega arith

types_depth : (es : List Entry) → entries_depth es ≤ 2 * parts_nesting (plain_row (BinaryRead.types es))
types_depth [] = omega arith
types_depth (e ∷ es) = types_by_depth e.value (entries_depth es) (BinaryRead.types es) (types_depth es)

union_depth : (ps : List Part) → AllShallow ps → Bounds ps (BinaryRead.union ps)
union_depth (m ∷ []) s e h =
    step m.entries h (λ es p h₁.
    let u = s.0.entries es p in
    let v = types_depth es in
    let z : e ≡ Node (ops.Union (map BinaryRead.alternative es)) (plain_row (BinaryRead.types es)) = cc in
    rw z (omega arith))
union_depth _ s e h = cc

natural_flat : (beyond : Bool) (i : Item) (n : ℕ) → natural_of beyond i ≡ Some n → depth i ≡ 0
natural_flat beyond (single a) n h = refl
natural_flat beyond (array_of is) n h = cc
natural_flat beyond (map_of ps) n h = cc
natural_flat beyond (tagged t i) n h = let (c, h₁) = if_some (t == 2) _ n h in step (octets_of i) h₁ (λ bs p h₂. octets_flat i bs p)

integer_flat : (beyond : Bool) (i : Item) (z : ℤ) → integer_of beyond i ≡ Some z → depth i ≡ 0
integer_flat beyond (single a) z h = refl
integer_flat beyond (array_of is) z h = cc
integer_flat beyond (map_of ps) z h = cc
integer_flat beyond (tagged t i) z h = step (octets_of i) h (λ bs p h₁. octets_flat i bs p)

natural_depth : (beyond : Bool) (ps : List Part) → Bounds ps (BinaryRead.natural beyond ps)
natural_depth beyond (n ∷ []) e h = step (natural_of beyond n.item) h (λ m p h₁. let u = natural_flat beyond n.item m p in omega arith)
natural_depth beyond _ e h = cc

integer_depth : (beyond : Bool) (ps : List Part) → Bounds ps (BinaryRead.integer beyond ps)
integer_depth beyond (n ∷ []) e h = step (integer_of beyond n.item) h (λ m p h₁. let u = integer_flat beyond n.item m p in omega arith)
integer_depth beyond _ e h = cc

between_in : Option BinaryRead.Pieces → List Term
between_in None = []
between_in (Some r) = r.between

pieces_depth : (ps : List Part) (r : BinaryRead.Pieces) → AllShallow ps → BinaryRead.pieces_of ps ≡ Some r → parts_depth ps ≤ 2 * parts_nesting (plain_row r.between)
unfolding between_in
pieces_depth [] r s h = cc
pieces_depth (p ∷ []) r s h = step (spelled is_utf8 p.item) h (λ t a h₁. let u = spelled_flat _ p.item t a in omega arith)
pieces_depth (p ∷ x ∷ ps) r s h =
    step (spelled is_utf8 p.item) h (λ t a h₁. step x.term h₁ (λ e b h₂. step (BinaryRead.pieces_of ps) h₂ (λ q c h₃.
    let u = spelled_flat _ p.item t a in
    let v = s.1.0.term e b in
    let w = pieces_depth ps q s.1.1 c in
    let z : r.between ≡ e ∷ q.between = sym (ap between_in h₃) in
    rw z (omega arith))))

text_depth : (ps : List Part) → AllShallow ps → Bounds ps (BinaryRead.text ps)
text_depth ps s e h =
    step (BinaryRead.pieces_of ps) h (λ r a h₁.
    let u = pieces_depth ps r s a in
    let z : e ≡ Node (ops.Text r.pieces) (plain_row r.between) = cc in
    rw z (omega arith))

-- ---- imports

abbrev items_depth : List Item → ℕ
items_depth [] = 0
items_depth (i ∷ is) = max (depth i) (items_depth is)

components_flat : (is : List Item) (cs : List (List ℕ)) → BinaryLeaves.components_of is ≡ Some cs → items_depth is ≡ 0
components_flat [] cs h = refl
components_flat (i ∷ []) cs h = step (spelled is_component i) h (λ c a h₁. let u = spelled_flat _ i c a in omega arith)
components_flat (i ∷ j ∷ is) cs h =
    step (spelled is_component i) h (λ c a h₁. step (BinaryLeaves.components_of (j ∷ is)) h₁ (λ ds b h₂.
    let u = spelled_flat _ i c a in
    let v = components_flat (j ∷ is) ds b in
    omega arith))

null_or_flat : {A : Type 0} (i : Item) (x : A) (o : Option A) (a : A) → ((b : A) → o ≡ Some b → depth i ≡ 0) → (if is_null i then Some x else o) ≡ Some a → depth i ≡ 0
null_or_flat i x o a f h = by (is_null i) refl h
  where
    by : (c : Bool) → is_null i ≡ c → cond c (Some x) o ≡ Some a → depth i ≡ 0
    by true p g = null_flat i p
    by false p g = f a g

query_flat : (i : Item) (q : Option (List ℕ)) → BinaryLeaves.query_of i ≡ Some q → depth i ≡ 0
query_flat i q h = null_or_flat i None _ q (λ p g. step (spelled is_query i) g (λ t a g₁. spelled_flat _ i t a)) h

digest_flat : (i : Item) (d : Option Digest) → BinaryLeaves.digest_of i ≡ Some d → depth i ≡ 0
digest_flat i d h = null_or_flat i None _ d (λ p g. step (octets_of i) g (λ t a g₁. octets_flat i t a)) h

url_flat : (host : List ℕ) (is : List Item) (u : Url) → BinaryLeaves.url_from host is ≡ Some u → items_depth is ≡ 0
url_flat host [] u h = refl
url_flat host (c ∷ []) u h = cc
url_flat host (c ∷ q ∷ []) u h =
    step (spelled is_segment c) h (λ t a h₁. step (BinaryLeaves.query_of q) h₁ (λ r b h₂.
    let v = spelled_flat _ c t a in
    let w = query_flat q r b in
    omega arith))
url_flat host (c ∷ d ∷ e ∷ is) u h =
    step (spelled is_segment c) h (λ t a h₁. step (BinaryLeaves.url_from host (d ∷ e ∷ is)) h₁ (λ r b h₂.
    let v = spelled_flat _ c t a in
    let w = url_flat host (d ∷ e ∷ is) r b in
    omega arith))

whole_url_flat : (is : List Item) (u : Url) → BinaryLeaves.url_of is ≡ Some u → items_depth is ≡ 0
whole_url_flat [] u h = refl
whole_url_flat (a ∷ []) u h = cc
whole_url_flat (n ∷ host ∷ is) u h =
    let (c, h₁) = if_some (is_null n) _ u h in
    step (spelled is_host host) h₁ (λ t a h₂.
    let v = null_flat n c in
    let w = spelled_flat _ host t a in
    let x = url_flat t is u h₂ in
    omega arith)

variable_flat : (is : List Item) (x : List ℕ) → BinaryLeaves.variable_of is ≡ Some x → items_depth is ≡ 0
variable_flat [] x h = refl
variable_flat (i ∷ []) x h = let u = spelled_flat _ i x h in omega arith
variable_flat (i ∷ j ∷ is) x h = cc

missing_flat : (is : List Item) (l : Loc) → BinaryLeaves.missing_of is ≡ Some l → items_depth is ≡ 0
missing_flat [] l h = refl
missing_flat (i ∷ is) l h = cc

-- one of two answers
pick : {A G : Type 0} {x y : Option A} {a : A} (c : Bool) → (x ≡ Some a → G) → (y ≡ Some a → G) → cond c x y ≡ Some a → G
pick true f g h = f h
pick false f g h = g h

location_flat : (n : ℕ) (is : List Item) (l : Loc) → BinaryLeaves.location_by n is ≡ Some l → items_depth is ≡ 0
location_flat n is l h =
    pick (n == 0) (λ g. step (BinaryLeaves.url_of is) g (λ u a g₁. whole_url_flat is u a))
    (pick (n == 1) (λ g. step (BinaryLeaves.url_of is) g (λ u a g₁. whole_url_flat is u a))
    (pick (n == 2) (λ g. step (BinaryLeaves.components_of is) g (λ u a g₁. components_flat is u a))
    (pick (n == 3) (λ g. step (BinaryLeaves.components_of is) g (λ u a g₁. components_flat is u a))
    (pick (n == 4) (λ g. step (BinaryLeaves.components_of is) g (λ u a g₁. components_flat is u a))
    (pick (n == 5) (λ g. step (BinaryLeaves.components_of is) g (λ u a g₁. components_flat is u a))
    (pick (n == 6) (λ g. step (BinaryLeaves.variable_of is) g (λ u a g₁. variable_flat is u a))
    (pick (n == 7) (λ g. missing_flat is l g) (λ g. cc)))))))) h

import_flat : (is : List Item) (i : Import) → BinaryLeaves.import_of is ≡ Some i → items_depth is ≡ 0
import_flat (d ∷ m ∷ s ∷ is) i h =
    step (BinaryLeaves.digest_of d) h (λ t a h₁. step (BinaryLeaves.mode_of m) h₁ (λ u b h₂. step (unsigned_of s) h₂ (λ n c h₃. step (BinaryLeaves.location_by n is) h₃ (λ l k h₄.
    let v = digest_flat d t a in
    let w = step (unsigned_of m) b (λ j x y. unsigned_flat m j x) in
    let x = unsigned_flat s n c in
    let y = location_flat n is l k in
    omega arith))))
import_flat _ i h = cc

parts_depth-items : (ps : List Part) → parts_depth ps ≡ items_depth (map (λ p. p.item) ps)
parts_depth-items [] = refl
parts_depth-items (p ∷ ps) = ap (max (depth p.item)) (parts_depth-items ps)

import_depth : (ps : List Part) → Bounds ps (BinaryRead.import_term ps)
import_depth ps e h = step (BinaryLeaves.import_of (map (λ p. p.item) ps)) h (λ i a h₁. let u = import_flat (map (λ p. p.item) ps) i a in let v = parts_depth-items ps in omega arith)

-- ---- lets, updates and variables

let_depth : (x : Name) (i : Item) (n : Bool) → is_null i ≡ n → (type : Option Term) (a b : Term) (m : ℕ) → ((t : Term) → type ≡ Some t → depth i ≤ 2 * nesting t + 2) → m ≤ 2 * max (suc (nesting a)) (suc (nesting b))
    → (e : Term) → BinaryRead.let_node x n type a b ≡ Some e → (max (depth i) m ≤ 2 * nesting e) × (suc (nesting b) ≤ nesting e)
let_depth x i true p type a b m f u e h =
    let v = null_flat i p in
    let z : e ≡ Node (ops.Let false) (kid None a (kid (Some x) b end)) = cc in
    rw z (omega arith, omega arith)
let_depth x i false p type a b m f u e h =
    step type h (λ t q h₁.
    let v = f t q in
    let z : e ≡ Node (ops.Let true) (kid None t (kid None a (kid (Some x) b end))) = cc in
    rw z (omega arith, omega arith))

bound_depth : (x type value : Part) (body : Option Term) (n : ℕ) → IsShallow type → IsShallow value → ((b : Term) → body ≡ Some b → n ≤ 2 * nesting b + 2)
    → (e : Term) → BinaryRead.bound x type value body ≡ Some e → max (depth x.item) (max (depth type.item) (max (depth value.item) n)) ≤ 2 * nesting e
bound_depth x type value body n s t f e h =
    step (label_of x.item) h (λ y p h₁. step value.term h₁ (λ a q h₂. step body h₂ (λ b r h₃.
    let u = spelled_flat _ x.item y p in
    let v = t.term a q in
    let w = f b r in
    let z = (let_depth y type.item (is_null type.item) refl type.term a b (max (depth value.item) n) s.term (omega arith) e h₃).0 in
    omega arith)))

lets_depth : (ps : List Part) → AllShallow ps → (e : Term) → BinaryRead.lets ps ≡ Some e → parts_depth ps ≤ 2 * nesting e
lets_depth (x ∷ t ∷ a ∷ b ∷ []) s e h = bound_depth x t a b.term (max (depth b.item) 0) s.1.0 s.1.1.0 (λ c p. let u = s.1.1.1.0.term c p in omega arith) e h
lets_depth (x ∷ t ∷ a ∷ y ∷ u ∷ ps) s e h =
    bound_depth x t a (BinaryRead.lets (y ∷ u ∷ ps)) (parts_depth (y ∷ u ∷ ps)) s.1.0 s.1.1.0 (λ c p. let v = lets_depth (y ∷ u ∷ ps) s.1.1.1 c p in omega arith) e h
lets_depth _ s e h = cc

names_flat : (is : Items) (xs : List Name) → labels_of is ≡ Some xs → depths is ≡ 0
names_flat no_items xs h = refl
names_flat (more_items i is) xs h =
    step (label_of i) h (λ x a h₁. step (labels_of is) h₁ (λ ys b h₂.
    let u = spelled_flat _ i x a in
    let v = names_flat is ys b in
    omega arith))

path_depth : (i : Item) (ks : List Name) → path_of i ≡ Some ks → depth i ≤ 1
path_depth (single a) ks h = cc
path_depth (array_of no_items) ks h = cc
path_depth (array_of (more_items i is)) ks h = let u = names_flat (more_items i is) ks h in omega arith
path_depth (map_of ps) ks h = cc
path_depth (tagged t i) ks h = cc

update_depth : (ps : List Part) → AllShallow ps → Bounds ps (BinaryRead.update ps)
update_depth (r ∷ path ∷ v ∷ []) s e h =
    step (path_of path.item) h (λ ks a h₁.
    let u = path_depth path.item ks a in
    let w = node_depth (ops.With ks) (r ∷ v ∷ []) (s.0, s.1.1) e h₁ in
    omega arith)
update_depth _ s e h = cc

variable_depth : (beyond : Bool) (x : Item) (ps : List Part) → Bounds ps (BinaryRead.variable beyond x ps)
variable_depth beyond x (n ∷ []) e h =
    step (named_label x) h (λ y a h₁. step (BinaryLeaves.index_of beyond n.item) h₁ (λ m b h₂. step (unsigned_of n.item) b (λ k c h₃.
    let u = unsigned_flat n.item k c in
    omega arith)))
variable_depth beyond x _ e h = cc

-- ---- items

row_depth : (beyond : Bool) (n : ℕ) (ps : List Part) → AllShallow ps → Bounds ps (row beyond n ps)
row_depth beyond n ps s e h =
    pick (n == 0) (application_depth ps s e)
    (pick (n == 1) (quantifier_depth ops.Lam ps s e)
    (pick (n == 2) (quantifier_depth ops.Pi ps s e)
    (pick (n == 3) (operation_depth ps s e)
    (pick (n == 4) (list_depth ps s e)
    (pick (n == 5) (some_depth ps s e)
    (pick (n == 6) (annotation_depth ops.Merge 2 ps s e)
    (pick (n == 7) (fields_depth ops.RecordType ps s e)
    (pick (n == 8) (fields_depth ops.Record ps s e)
    (pick (n == 9) (field_depth ps s e)
    (pick (n == 10) (projection_depth ps s e)
    (pick (n == 11) (union_depth ps s e)
    (pick (n == 14) (node_of_depth ops.If 3 ps s e)
    (pick (n == 15) (natural_depth beyond ps e)
    (pick (n == 16) (integer_depth beyond ps e)
    (pick (n == 18) (text_depth ps s e)
    (pick (n == 19) (node_of_depth ops.Assert 1 ps s e)
    (pick (n == 24) (import_depth ps e)
    (pick (n == 25) (λ g. let u = lets_depth ps s e g in omega arith)
    (pick (n == 26) (node_of_depth ops.Annot 2 ps s e)
    (pick (n == 27) (annotation_depth ops.ToMap 1 ps s e)
    (pick (n == 28) (node_of_depth ops.EmptyList 1 ps s e)
    (pick (n == 29) (update_depth ps s e)
    (λ g. cc))))))))))))))))))))))) h

variable_first : (beyond : Bool) (x : Item) (ps : List Part) (e : Term) → BinaryRead.variable beyond x ps ≡ Some e → depth x ≡ 0
variable_first beyond x (n ∷ []) e h = step (named_label x) h (λ y a h₁. spelled_flat _ x y a)
variable_first beyond x _ e h = cc

array_by_depth : (beyond : Bool) (p : Part) (ps : List Part) (o : Option ℕ) → unsigned_of p.item ≡ o → AllShallow ps → Bounds (p ∷ ps) (BinaryRead.array_by beyond o p.item ps)
array_by_depth beyond p ps (Some n) a s e h = let u = unsigned_flat p.item n a in let v = row_depth beyond n ps s e h in omega arith
array_by_depth beyond p ps None a s e h = let u = variable_first beyond p.item ps e h in let v = variable_depth beyond p.item ps e h in omega arith

array_depth : (beyond : Bool) (ps : List Part) → AllShallow ps → Bounds ps (BinaryRead.array_term beyond ps)
array_depth beyond [] s e h = cc
array_depth beyond (p ∷ ps) s e h = array_by_depth beyond p ps (unsigned_of p.item) refl s.1 e h

only_depth : (ps : List Part) → AllShallow ps → (e : Term) → BinaryRead.only_term ps ≡ Some e → parts_depth ps ≤ 2 * nesting e + 2
only_depth (p ∷ []) s e h = let u = s.0.term e h in omega arith
only_depth _ s e h = cc

inserted_depth : (x : Entry) (ys zs : List Entry) → inserted (λ e. e.name) x ys ≡ Some zs → max (value_depth x.value) (entries_depth ys) ≤ entries_depth zs
inserted_depth x [] zs h = let z : zs ≡ x ∷ [] = cc in rw z (omega arith)
inserted_depth x (y ∷ ys) zs h =
    pick (before x.name y.name) (λ (g : Some (x ∷ y ∷ ys) ≡ Some zs). let z : zs ≡ x ∷ y ∷ ys = cc in rw z (omega arith))
    (pick (bytes_eq x.name y.name) (λ g. cc)
    (λ g. step (inserted (λ e. e.name) x ys) g (λ ws a (g₁ : Some (y ∷ ws) ≡ Some zs). let u = inserted_depth x ys ws a in let z : zs ≡ y ∷ ws = cc in rw z (omega arith)))) h

value_of_depth : (i : Item) (o : Option Term) (v : Value) → ((e : Term) → o ≡ Some e → depth i ≤ 2 * nesting e + 2) → BinaryRead.value_of i o ≡ Some v → depth i ≤ value_depth v
value_of_depth i o v f h = by (is_null i) refl h
  where
    by : (c : Bool) → is_null i ≡ c → cond c (Some nothing) (o >>= λ t. Some (holds t)) ≡ Some v → depth i ≤ value_depth v
    by true p g = let u = null_flat i p in omega arith
    by false p g = step o g (λ t a g₁. let u = f t a in let z : v ≡ holds t = cc in rw z u)

entered_depth : (k v : Item) (o : Option Term) (others : Option (List Entry)) (n : ℕ) → ((e : Term) → o ≡ Some e → depth v ≤ 2 * nesting e + 2) → ((es : List Entry) → others ≡ Some es → n ≤ entries_depth es)
    → (zs : List Entry) → BinaryRead.entered (label_of k) (BinaryRead.value_of v o) others ≡ Some zs → max (depth k) (max (depth v) n) ≤ entries_depth zs
entered_depth k v o others n f g zs h =
    step (label_of k) h (λ x a h₁. step (BinaryRead.value_of v o) h₁ (λ w b h₂. step others h₂ (λ es c h₃.
    let p = spelled_flat _ k x a in
    let q = value_of_depth v o w f b in
    let r = g es c in
    let s = inserted_depth (record { name = x; value = w }) es zs h₃ in
    omega arith)))

item_of : (beyond : Bool) (i : Item) → (BinaryRead.part beyond i).item ≡ i
item_of beyond (single a) = refl
item_of beyond (array_of is) = refl
item_of beyond (map_of ps) = refl
item_of beyond (tagged t i) = refl

items_of : (beyond : Bool) (is : Items) → parts_depth (BinaryRead.parts beyond is) ≡ depths is
items_of beyond no_items = refl
items_of beyond (more_items i is) = let u = items_of beyond is in let v = ap depth (item_of beyond i) in omega arith

mutual
  part_shallow : (beyond : Bool) (i : Item) → IsShallow (BinaryRead.part beyond i)
  part_shallow beyond (single a) = record { term = λ e h. omega arith; boxed = λ e h. omega arith; entries = λ es h. omega arith }
  part_shallow beyond (array_of is) =
      let s = parts_shallow beyond is in
      let c = items_of beyond is in
      record {
        term = λ e h. (let u = array_depth beyond (BinaryRead.parts beyond is) s e h in omega arith);
        boxed = λ e h. (let u = only_depth (BinaryRead.parts beyond is) s e h in omega arith);
        entries = λ es h. cc;
      }
  part_shallow beyond (map_of ps) = record { term = λ e h. cc; boxed = λ e h. cc; entries = λ es h. (let u = pairs_shallow beyond ps es h in omega arith) }
  part_shallow beyond (tagged t i) = record { term = λ e h. cc; boxed = λ e h. cc; entries = λ es h. cc }

  parts_shallow : (beyond : Bool) (is : Items) → AllShallow (BinaryRead.parts beyond is)
  parts_shallow beyond no_items = tt
  parts_shallow beyond (more_items i is) = (part_shallow beyond i, parts_shallow beyond is)

  pairs_shallow : (beyond : Bool) (ps : Pairs) (es : List Entry) → BinaryRead.entries_of beyond ps ≡ Some es → pairs_depth ps ≤ entries_depth es
  pairs_shallow beyond no_pairs es h = omega arith
  pairs_shallow beyond (more_pairs k v ps) es h =
      let s = part_shallow beyond v in
      let c = item_of beyond v in
      entered_depth k v (BinaryRead.part beyond v).term (BinaryRead.entries_of beyond ps) (pairs_depth ps) (λ e a. (let u = s.term e a in let w = ap depth c in omega arith)) (λ xs a. pairs_shallow beyond ps xs a) es h

-- An item that is an expression holds at most two arrays and maps in one another for each level of nesting, and two more.
pub expression-depth : (beyond : Bool) (i : Item) (e : Term) → BinaryRead.expression beyond i ≡ Some e → depth i ≤ 2 * nesting e + 2
expression-depth beyond (single a) e h = omega arith
expression-depth beyond (array_of is) e h = (part_shallow beyond (array_of is)).term e h
expression-depth beyond (map_of ps) e h = cc
expression-depth beyond (tagged t i) e h = let (c, h₁) = if_some (t == 55799) (BinaryRead.expression beyond i) e h in expression-depth beyond i e h₁
