-- The bytes of an expression are those of the item that it is written as.
use Rattle.std.specs.Prelude.{◌≡◌, ℕ, suc, ◌^◌, ◌≤◌, nat_lt, ℤ, pos, negsuc, Bool, true, false, ◌&&◌, if◌then◌else◌, List, [], ◌∷◌, ◌++◌, length, map, Option, Some, None, ⊤, codes, refl}
use Rattle.std.specs.List.{concat}
use Rattle.std.proofs.Common.{sym, ◌∙◌, ap, arith}
use Rattle.std.proofs.lemmas.Bool.{leb-true, lt-ltb}
use Rattle.std.proofs.lemmas.List.{append_assoc, map-append}
use Rattle.dh_syntax.specs.declared.expressions.Alt.{Alt}
use Rattle.dh_syntax.specs.declared.expressions.Op.{Op}
use Rattle.dh_syntax.specs.declared.expressions.Op.TheVariants as ops
use Rattle.dh_syntax.specs.declared.locations.Digest.{Digest}
use Rattle.dh_syntax.specs.declared.locations.Import.{Import}
use Rattle.dh_syntax.specs.declared.locations.Loc.{Loc}
use Rattle.dh_syntax.specs.declared.locations.Loc.TheVariants as locs
use Rattle.dh_syntax.specs.declared.locations.Mode.{Mode}
use Rattle.dh_syntax.specs.declared.locations.Mode.TheVariants as mode
use Rattle.dh_syntax.specs.declared.locations.Url.{Url}
use Rattle.dh_syntax.specs.declared.operators.BinOp.{BinOp}
use Rattle.dh_syntax.specs.declared.operators.BinOp.TheVariants as op
use Rattle.dh_syntax.specs.Expressions.Arity.{plain, binding, typed_count, alt_labels, has_some, fits, IsWellFormed, AreWellFormed}
use Rattle.dh_syntax.specs.Bytes.Binary as bin
use Rattle.dh_syntax.specs.Bytes.Binary.{form, forms, enc, mode_code, Encoding}
use Rattle.dh_syntax.specs.Bytes.BinaryHeads.{unsigned, negative, octets}
use Rattle.dh_syntax.specs.Bytes.BinaryItems.{Item, single, array_of, map_of, tagged, no_items, more_items, Pairs, no_pairs, more_pairs, item_count, pair_count}
use Rattle.dh_syntax.specs.Bytes.Cbor as cbor
use Rattle.dh_syntax.specs.Bytes.Cbor.{head, bytes, text, array, null, fewest_bytes}
use Rattle.dh_syntax.specs.Expressions.Numbers.{bytes_eq}
use Rattle.dh_syntax.specs.Expressions.Operators.{op_code}
use Rattle.dh_syntax.specs.Expressions.Order.{ascending}
use Rattle.dh_syntax.specs.Expressions.Spellable.{is_label, names_spellable, row_spellable, op_spellable}
use Rattle.dh_syntax.specs.Limits.{most_index}
use Rattle.dh_syntax.specs.Expressions.Tree.{Row, Leaf, Node, end, kid, Name, Var, Term}
use Rattle.dh_binary.specs.ItemBytes.{item_bytes, items_bytes, pairs_bytes}
use Rattle.dh_binary.specs.Written.{Written, listed, row_of, just, label, no, natural, below_zero, integer, application, function, is_text, empty_list, interleaved, pairs, alternatives, digest_item, optional_text, url_items, loc_items, import_item, variable_item, truth, items, node, written, all_written, WritesItem}
use Rattle.dh_binary.specs.Written as item
use Rattle.dh_binary.proofs.BackMore.{left_of, right_of}
use Rattle.dh_binary.proofs.Firsts.{list_same}

-- a form is the bytes of what is written
pub record Writes (f : Encoding) (w : Written) : Type 0 where
  pub alone : f.alone ≡ item_bytes w.alone
  pub applied : f.applied ≡ map item_bytes w.applied
  pub bound : f.bound ≡ map item_bytes w.bound

just_writes : (bs : List ℕ) (i : Item) → bs ≡ item_bytes i → Writes (bin.single bs) (just i)
just_writes bs i h = record { alone = h; applied = ap (λ b. b ∷ []) h; bound = ap (λ b. b ∷ []) h }

-- ---- arrays

count_listed : (is : List Item) → length (map item_bytes is) ≡ item_count (listed is)
count_listed [] = refl
count_listed (i ∷ is) = ap suc (count_listed is)

concat_listed : (is : List Item) → concat (map item_bytes is) ≡ items_bytes (listed is)
concat_listed [] = refl
concat_listed (i ∷ is) = ap (λ bs. item_bytes i ++ bs) (concat_listed is)

array_same : (is : List Item) → array (map item_bytes is) ≡ item_bytes (array_of (listed is))
array_same is = ap (λ n. head 4 n ++ concat (map item_bytes is)) (count_listed is) ∙ ap (λ bs. head 4 (item_count (listed is)) ++ bs) (concat_listed is)

row_writes : (n : ℕ) (bs : List (List ℕ)) (is : List Item) → cbor.natural n ≡ head 0 n → bs ≡ map item_bytes is → array (cbor.natural n ∷ bs) ≡ item_bytes (row_of n is)
row_writes n bs is h e = ap (λ x. array (x ∷ bs)) h ∙ ap (λ bs. array (head 0 n ∷ bs)) e ∙ array_same (single (unsigned n) ∷ is)

-- ---- the parts of a node

abbrev AllWrite : Row Var Name → Type 0
AllWrite end = ⊤
AllWrite (kid x e r) = Writes (form e) (written e) × AllWrite r

parts_write : (r : Row Var Name) → AllWrite r → bin.items (forms r) ≡ map item_bytes (items (all_written r))
parts_write end w = refl
parts_write (kid None e r) (w, ws) = ap (λ b. b ∷ bin.items (forms r)) w.alone ∙ ap (λ bs. item_bytes (written e).alone ∷ bs) (parts_write r ws)
parts_write (kid (Some x) e r) (w, ws) = ap (λ b. b ∷ bin.items (forms r)) w.alone ∙ ap (λ bs. item_bytes (written e).alone ∷ bs) (parts_write r ws)

-- a row with all parts of a node
all_write : (n : ℕ) (r : Row Var Name) → cbor.natural n ≡ head 0 n → AllWrite r → Writes (bin.single (array (cbor.natural n ∷ bin.items (forms r)))) (just (row_of n (items (all_written r))))
all_write n r h w = just_writes _ _ (row_writes n (bin.items (forms r)) (items (all_written r)) h (parts_write r w))

-- ---- numbers

natural_writes : (n : ℕ) → cbor.natural n ≡ item_bytes (natural n)
natural_writes n = by (nat_lt n (2 ^ 64))
  where
    by : (c : Bool) → (if c then head 0 n else 194 ∷ bytes (fewest_bytes n)) ≡ item_bytes (if c then single (unsigned n) else tagged 2 (single (octets (fewest_bytes n))))
    by true = refl
    by false = refl

below_writes : (n : ℕ) → cbor.below_zero n ≡ item_bytes (below_zero n)
below_writes n = by (nat_lt n (2 ^ 64))
  where
    by : (c : Bool) → (if c then head 1 n else 195 ∷ bytes (fewest_bytes n)) ≡ item_bytes (if c then single (negative n) else tagged 3 (single (octets (fewest_bytes n))))
    by true = refl
    by false = refl

integer_writes : (z : ℤ) → bin.integer z ≡ item_bytes (integer z)
integer_writes (pos n) = natural_writes n
integer_writes (negsuc n) = below_writes n

index_small : (n : ℕ) → n ≤ most_index → cbor.natural n ≡ head 0 n
index_small n h = ap (λ c. if c then head 0 n else 194 ∷ bytes (fewest_bytes n)) (lt-ltb n (2 ^ 64) (omega arith))

code_small : (o : BinOp) → cbor.natural (op_code o) ≡ head 0 (op_code o)
code_small op.Or = refl
code_small _ = refl

variable_writes : (v : Var) → v.index ≤ most_index → bin.variable_item v ≡ item_bytes (variable_item v)
variable_writes v h = by (bytes_eq v.name (codes "_"))
  where
    by : (c : Bool) → (if c then cbor.natural v.index else array (text v.name ∷ cbor.natural v.index ∷ [])) ≡ item_bytes (if c then single (unsigned v.index) else array_of (more_items (label v.name) (more_items (single (unsigned v.index)) no_items)))
    by true = index_small v.index h
    by false = ap (λ b. array (text v.name ∷ b ∷ [])) (index_small v.index h) ∙ array_same (label v.name ∷ single (unsigned v.index) ∷ [])

-- ---- labels

labels_write : (xs : List Name) → map text xs ≡ map item_bytes (map label xs)
labels_write [] = refl
labels_write (x ∷ xs) = ap (λ bs. text x ∷ bs) (labels_write xs)

-- ---- texts, records, unions

interleaved_writes : (ps : List (List ℕ)) (es : List Item) → bin.interleaved ps (map item_bytes es) ≡ map item_bytes (interleaved ps es)
interleaved_writes [] es = refl
interleaved_writes (p ∷ ps) [] = ap (λ bs. text p ∷ bs) (interleaved_writes ps [])
interleaved_writes (p ∷ ps) (e ∷ es) = ap (λ bs. text p ∷ item_bytes e ∷ bs) (interleaved_writes ps es)

pairs_write : (xs : List Name) (es : List Item) → bin.pairs xs (map item_bytes es) ≡ pairs_bytes (pairs xs es)
pairs_write [] es = refl
pairs_write (x ∷ xs) [] = refl
pairs_write (x ∷ xs) (e ∷ es) = ap (λ bs. text x ++ item_bytes e ++ bs) (pairs_write xs es)

pairs_counted : (xs : List Name) (r : Row Var Name) → plain (length xs) r ≡ true → length xs ≡ pair_count (pairs xs (items (all_written r)))
pairs_counted [] end h = refl
pairs_counted [] (kid x e r) h = cc
pairs_counted (x ∷ xs) end h = cc
pairs_counted (x ∷ xs) (kid (Some y) e r) h = cc
pairs_counted (x ∷ xs) (kid None e r) h = ap suc (pairs_counted xs r h)

fields_write : (n : ℕ) (xs : List Name) (r : Row Var Name) → cbor.natural n ≡ head 0 n → plain (length xs) r ≡ true → AllWrite r
    → Writes (bin.single (array (cbor.natural n ∷ cbor.map_of (length xs) (bin.pairs xs (bin.items (forms r))) ∷ []))) (just (row_of n (map_of (pairs xs (items (all_written r))) ∷ [])))
fields_write n xs r h p w =
    just_writes _ _ (row_writes n _ (map_of (pairs xs (items (all_written r))) ∷ []) h
    (ap (λ b. b ∷ []) (ap (λ bs. head 5 (length xs) ++ bin.pairs xs bs) (parts_write r w) ∙ ap (λ k. head 5 k ++ bin.pairs xs (map item_bytes (items (all_written r)))) (pairs_counted xs r p)
    ∙ ap (λ bs. head 5 (pair_count (pairs xs (items (all_written r)))) ++ bs) (pairs_write xs (items (all_written r))))))

abbrev count_by : Bool → ℕ → ℕ
count_by c n = elim c [ true ↦ suc n | false ↦ n ]

abbrev alternative_bytes : Bool → List ℕ → List Alt → List (List ℕ) → List ℕ
alternative_bytes c l as' ts = text l ++ (elim c as (λ c. List ℕ) [ false ↦ null ++ bin.alternatives as' ts | true ↦ elim ts as (λ ts. List ℕ) [ [] ↦ [] | (t ∷ ts') ↦ t ++ bin.alternatives as' ts' ] ])

abbrev alternative_pairs : Bool → List ℕ → List Alt → List Item → Pairs
alternative_pairs c l as' ts = elim c as (λ c. Pairs) [ false ↦ more_pairs (label l) no (alternatives as' ts) | true ↦ elim ts as (λ ts. Pairs) [ [] ↦ no_pairs | (t ∷ ts') ↦ more_pairs (label l) t (alternatives as' ts') ] ]

-- the bytes and the count of alternatives
record Alternatives (n : ℕ) (bs : List ℕ) (ps : Pairs) : Type 0 where
  same : bs ≡ pairs_bytes ps
  count : n ≡ pair_count ps

alternative_by : (c : Bool) (l : List ℕ) (as' : List Alt) (r : Row Var Name) → plain (count_by c (typed_count as')) r ≡ true
    → ((r : Row Var Name) → plain (typed_count as') r ≡ true → Alternatives (length as') (bin.alternatives as' (map item_bytes (items (all_written r)))) (alternatives as' (items (all_written r))))
    → Alternatives (suc (length as')) (alternative_bytes c l as' (map item_bytes (items (all_written r)))) (alternative_pairs c l as' (items (all_written r)))
alternative_by false l as' r p go = let g = go r p in record { same = ap (λ bs. text l ++ (null ++ bs)) g.same ∙ sym (append_assoc (text l) null (pairs_bytes (alternatives as' (items (all_written r))))); count = ap suc g.count }
alternative_by true l as' end p go = cc
alternative_by true l as' (kid (Some x) e r) p go = cc
alternative_by true l as' (kid None e r) p go = let g = go r p in record { same = ap (λ bs. text l ++ (item_bytes (written e).alone ++ bs)) g.same ∙ sym (append_assoc (text l) (item_bytes (written e).alone) (pairs_bytes (alternatives as' (items (all_written r))))); count = ap suc g.count }

alternatives_write : (as' : List Alt) (r : Row Var Name) → plain (typed_count as') r ≡ true → Alternatives (length as') (bin.alternatives as' (map item_bytes (items (all_written r)))) (alternatives as' (items (all_written r)))
alternatives_write [] r p = record { same = refl; count = refl }
alternatives_write (a ∷ as') r p = alternative_by a.typed a.label as' r p (λ r p. alternatives_write as' r p)

union_writes : (as' : List Alt) (r : Row Var Name) → plain (typed_count as') r ≡ true → AllWrite r → Writes (bin.node (ops.Union as') (forms r)) (node (ops.Union as') (all_written r))
union_writes as' r p w =
    let g = alternatives_write as' r p in
    just_writes _ _ (row_writes 11 _ (map_of (alternatives as' (items (all_written r))) ∷ []) refl
    (ap (λ b. b ∷ []) (ap (λ bs. head 5 (length as') ++ bin.alternatives as' bs) (parts_write r w)
    ∙ ap (λ k. head 5 k ++ bin.alternatives as' (map item_bytes (items (all_written r)))) g.count
    ∙ ap (λ bs. head 5 (pair_count (alternatives as' (items (all_written r)))) ++ bs) g.same)))

-- ---- imports

digest_writes : (d : Option Digest) → bin.digest_item d ≡ item_bytes (digest_item d)
digest_writes None = refl
digest_writes (Some d) = refl

mode_writes : (m : Mode) → cbor.natural (mode_code m) ≡ item_bytes (single (unsigned (mode_code m)))
mode_writes mode.Code = refl
mode_writes mode.Text = refl
mode_writes mode.Location = refl

optional_writes : (q : Option (List ℕ)) → bin.optional_text q ≡ item_bytes (optional_text q)
optional_writes None = refl
optional_writes (Some q) = refl

url_writes : (n : ℕ) (u : Url) → cbor.natural n ≡ head 0 n → bin.url_items n u ≡ map item_bytes (url_items n u)
url_writes n u h =
    ap (λ b. b ∷ null ∷ text u.host ∷ map text u.comps ++ bin.optional_text u.query ∷ []) h
    ∙ ap (λ bs. head 0 n ∷ null ∷ text u.host ∷ bs)
    (ap (λ bs. bs ++ bin.optional_text u.query ∷ []) (labels_write u.comps) ∙ ap (λ b. map item_bytes (map label u.comps) ++ b ∷ []) (optional_writes u.query) ∙ sym (map-append item_bytes (map label u.comps) (optional_text u.query ∷ [])))

loc_writes : (l : Loc) → bin.loc_items l ≡ map item_bytes (loc_items l)
loc_writes (locs.Http u) = url_writes 0 u refl
loc_writes (locs.Https u) = url_writes 1 u refl
loc_writes (locs.Abs cs) = ap (λ bs. cbor.natural 2 ∷ bs) (labels_write cs)
loc_writes (locs.Here cs) = ap (λ bs. cbor.natural 3 ∷ bs) (labels_write cs)
loc_writes (locs.Parent cs) = ap (λ bs. cbor.natural 4 ∷ bs) (labels_write cs)
loc_writes (locs.Home cs) = ap (λ bs. cbor.natural 5 ∷ bs) (labels_write cs)
loc_writes (locs.Env x) = refl
loc_writes locs.Missing = refl

import_writes : (i : Import) → bin.import_item i ≡ item_bytes (import_item i)
import_writes i =
    row_writes 24 _ (digest_item i.digest ∷ single (unsigned (mode_code i.mode)) ∷ loc_items i.loc) refl
    (ap (λ b. b ∷ cbor.natural (mode_code i.mode) ∷ bin.loc_items i.loc) (digest_writes i.digest)
    ∙ ap (λ b. item_bytes (digest_item i.digest) ∷ b ∷ bin.loc_items i.loc) (mode_writes i.mode)
    ∙ ap (λ bs. item_bytes (digest_item i.digest) ∷ item_bytes (single (unsigned (mode_code i.mode))) ∷ bs) (loc_writes i.loc))

-- ---- nodes whose parts have places

two_bytes : (b c : List ℕ) (i j : Item) → b ≡ item_bytes i → c ≡ item_bytes j → b ∷ c ∷ [] ≡ map item_bytes (i ∷ j ∷ [])
two_bytes b c i j h k = ap (λ b. b ∷ c ∷ []) h ∙ ap (λ c. item_bytes i ∷ c ∷ []) k

function_writes : (n : ℕ) (x : Name) (a e : Term) → cbor.natural n ≡ head 0 n → Writes (form a) (written a) → Writes (form e) (written e) → Writes (bin.function n (form a).alone x (form e).alone) (function n (written a).alone x (written e).alone)
function_writes n x a e h w v = by (bytes_eq x (codes "_"))
  where
    by : (c : Bool) → Writes (bin.single (if c then array (cbor.natural n ∷ (form a).alone ∷ (form e).alone ∷ []) else array (cbor.natural n ∷ text x ∷ (form a).alone ∷ (form e).alone ∷ []))) (just (if c then row_of n ((written a).alone ∷ (written e).alone ∷ []) else row_of n (label x ∷ (written a).alone ∷ (written e).alone ∷ [])))
    by true = just_writes _ _ (row_writes n _ ((written a).alone ∷ (written e).alone ∷ []) h (two_bytes (form a).alone (form e).alone (written a).alone (written e).alone w.alone v.alone))
    by false = just_writes _ _ (row_writes n _ (label x ∷ (written a).alone ∷ (written e).alone ∷ []) h (ap (λ bs. text x ∷ bs) (two_bytes (form a).alone (form e).alone (written a).alone (written e).alone w.alone v.alone)))

binding_writes : (x : Name) (tb : List ℕ) (t : Item) (a e : Term) → tb ≡ item_bytes t → Writes (form a) (written a) → Writes (form e) (written e) → Writes (bin.binding (text x) tb (form a).alone (form e)) (item.binding (label x) t (written a).alone (written e))
binding_writes x tb t a e h w v =
    let is = label x ∷ t ∷ (written a).alone ∷ (written e).bound in
    let same : text x ∷ tb ∷ (form a).alone ∷ (form e).bound ≡ map item_bytes is =
    ap (λ b. text x ∷ b ∷ (form a).alone ∷ (form e).bound) h ∙ ap (λ b. text x ∷ item_bytes t ∷ b ∷ (form e).bound) w.alone ∙ ap (λ bs. text x ∷ item_bytes t ∷ item_bytes (written a).alone ∷ bs) v.bound in
    let k = row_writes 25 _ is refl same in
    record { alone = k; applied = ap (λ b. b ∷ []) k; bound = same }

application_writes : (f a : Term) → Writes (form f) (written f) → Writes (form a) (written a) → Writes (bin.application (form f) (form a)) (application (written f) (written a))
application_writes f a w v =
    let is = (written f).applied ++ (written a).alone ∷ [] in
    let same : (form f).applied ++ (form a).alone ∷ [] ≡ map item_bytes is =
    ap (λ bs. bs ++ (form a).alone ∷ []) w.applied ∙ ap (λ b. map item_bytes (written f).applied ++ b ∷ []) v.alone ∙ sym (map-append item_bytes (written f).applied ((written a).alone ∷ [])) in
    let k = row_writes 0 _ is refl same in
    record { alone = k; applied = same; bound = ap (λ b. b ∷ []) k }

empty_list_writes : (t : Term) → Writes (form t) (written t) → Writes (bin.single (bin.empty_list (form t))) (just (empty_list (written t)))
empty_list_writes t w = just_writes _ _ (ap (λ bs. bin.empty_list (record { alone = (form t).alone; applied = bs; bound = (form t).bound })) w.applied ∙ by (written t).applied)
  where
    whole : array (cbor.natural 28 ∷ (form t).alone ∷ []) ≡ item_bytes (row_of 28 ((written t).alone ∷ []))
    whole = row_writes 28 _ ((written t).alone ∷ []) refl (ap (λ b. b ∷ []) w.alone)

    two : (l x : Item) (c : Bool) → (if c then array (cbor.natural 4 ∷ item_bytes x ∷ []) else array (cbor.natural 28 ∷ (form t).alone ∷ [])) ≡ item_bytes (if c then row_of 4 (x ∷ []) else row_of 28 ((written t).alone ∷ []))
    two l x true = row_writes 4 _ (x ∷ []) refl refl
    two l x false = whole

    by : (is : List Item) → bin.empty_list (record { alone = (form t).alone; applied = map item_bytes is; bound = (form t).bound }) ≡ item_bytes (empty_list (record { alone = (written t).alone; applied = is; bound = (written t).bound }))
    by [] = whole
    by (l ∷ []) = whole
    by (l ∷ x ∷ []) = ap (λ c. if c then array (cbor.natural 4 ∷ item_bytes x ∷ []) else array (cbor.natural 28 ∷ (form t).alone ∷ [])) (list_same l) ∙ two l x (is_text (codes "List") l)
    by (l ∷ x ∷ y ∷ is) = whole

abbrev NodeWrites : Op → Row Var Name → Type 0
NodeWrites op r = Writes (bin.node op (forms r)) (node op (all_written r))

one_part : (op : Op) (r : Row Var Name) → plain 1 r ≡ true → AllWrite r → ((e : Term) → Writes (form e) (written e) → NodeWrites op (kid None e end)) → NodeWrites op r
one_part op (kid None e end) h (b, t) f = f e b
one_part op end h b f = cc
one_part op (kid (Some x) e r) h b f = cc
one_part op (kid None e (kid x a r)) h b f = cc

two_parts : (op : Op) (r : Row Var Name) → plain 2 r ≡ true → AllWrite r → ((e a : Term) → Writes (form e) (written e) → Writes (form a) (written a) → NodeWrites op (kid None e (kid None a end))) → NodeWrites op r
two_parts op (kid None e (kid None a end)) h (b, (c, t)) f = f e a b c
two_parts op end h b f = cc
two_parts op (kid (Some x) e r) h b f = cc
two_parts op (kid None e end) h b f = cc
two_parts op (kid None e (kid (Some x) a r)) h b f = cc
two_parts op (kid None e (kid None a (kid x d r))) h b f = cc

bound_part : (op : Op) (r : Row Var Name) → binding 1 r ≡ true → AllWrite r → ((x : Name) (a e : Term) → Writes (form a) (written a) → Writes (form e) (written e) → NodeWrites op (kid None a (kid (Some x) e end))) → NodeWrites op r
bound_part op (kid None a (kid (Some x) e end)) h (b, (c, t)) f = f x a e b c
bound_part op end h b f = cc
bound_part op (kid (Some x) e r) h b f = cc
bound_part op (kid None e end) h b f = cc
bound_part op (kid None e (kid None a r)) h b f = cc
bound_part op (kid None e (kid (Some x) a (kid y d r))) h b f = cc

typed_part : (op : Op) (r : Row Var Name) → binding 2 r ≡ true → AllWrite r
    → ((x : Name) (t a e : Term) → Writes (form t) (written t) → Writes (form a) (written a) → Writes (form e) (written e) → NodeWrites op (kid None t (kid None a (kid (Some x) e end)))) → NodeWrites op r
typed_part op (kid None t (kid None a (kid (Some x) e end))) h (b, (c, (d, u))) f = f x t a e b c d
typed_part op end h b f = cc
typed_part op (kid (Some x) e r) h b f = cc
typed_part op (kid None e end) h b f = cc
typed_part op (kid None t (kid (Some x) e r)) h b f = cc
typed_part op (kid None t (kid None a end)) h b f = cc
typed_part op (kid None t (kid None a (kid None e r))) h b f = cc
typed_part op (kid None t (kid None a (kid (Some x) e (kid y d r)))) h b f = cc

node_writes : (op : Op) (r : Row Var Name) → fits op r ≡ true → AllWrite r → NodeWrites op r
node_writes (ops.Builtin b) r h w = just_writes _ _ refl
node_writes (ops.Bool true) r h w = just_writes _ _ refl
node_writes (ops.Bool false) r h w = just_writes _ _ refl
node_writes (ops.Nat n) r h w = just_writes _ _ (row_writes 15 _ (natural n ∷ []) refl (ap (λ b. b ∷ []) (natural_writes n)))
node_writes (ops.Int z) r h w = just_writes _ _ (row_writes 16 _ (integer z ∷ []) refl (ap (λ b. b ∷ []) (integer_writes z)))
node_writes (ops.Text ps) r h w = just_writes _ _ (row_writes 18 _ (interleaved ps (items (all_written r))) refl (ap (bin.interleaved ps) (parts_write r w) ∙ interleaved_writes ps (items (all_written r))))
node_writes (ops.Import i) r h w = just_writes _ _ (import_writes i)
node_writes ops.Lam r h w = bound_part ops.Lam r h w (λ x a e b c. function_writes 1 x a e refl b c)
node_writes ops.Pi r h w = bound_part ops.Pi r h w (λ x a e b c. function_writes 2 x a e refl b c)
node_writes (ops.Let false) r h w = bound_part (ops.Let false) r h w (λ x a e b c. binding_writes x null no a e refl b c)
node_writes (ops.Let true) r h w = typed_part (ops.Let true) r h w (λ x t a e d b c. binding_writes x (form t).alone (written t).alone a e d.alone b c)
node_writes ops.App r h w = two_parts ops.App r h w (λ f a b c. application_writes f a b c)
node_writes ops.If r h w = all_write 14 r refl w
node_writes (ops.Bin o) r h w = just_writes _ _ (row_writes 3 _ (single (unsigned (op_code o)) ∷ items (all_written r)) refl (ap (λ b. b ∷ bin.items (forms r)) (code_small o) ∙ ap (λ bs. head 0 (op_code o) ∷ bs) (parts_write r w)))
node_writes ops.EmptyList r h w = one_part ops.EmptyList r h w (λ e b. empty_list_writes e b)
node_writes ops.List r h w = just_writes _ _ (row_writes 4 _ (no ∷ items (all_written r)) refl (ap (λ bs. null ∷ bs) (parts_write r w)))
node_writes ops.Some r h w = just_writes _ _ (row_writes 5 _ (no ∷ items (all_written r)) refl (ap (λ bs. null ∷ bs) (parts_write r w)))
node_writes (ops.Merge c) r h w = all_write 6 r refl w
node_writes (ops.RecordType xs) r h w = fields_write 7 xs r refl (right_of (ascending xs) _ h) w
node_writes (ops.Record xs) r h w = fields_write 8 xs r refl (right_of (ascending xs) _ h) w
node_writes (ops.Field x) r h w = just_writes _ _ (row_writes 9 _ (items (all_written r) ++ label x ∷ []) refl (ap (λ bs. bs ++ text x ∷ []) (parts_write r w) ∙ sym (map-append item_bytes (items (all_written r)) (label x ∷ []))))
node_writes (ops.Project xs) r h w =
    just_writes _ _ (row_writes 10 _ (items (all_written r) ++ map label xs) refl
    (ap (λ bs. bs ++ map text xs) (parts_write r w) ∙ ap (λ bs. map item_bytes (items (all_written r)) ++ bs) (labels_write xs) ∙ sym (map-append item_bytes (items (all_written r)) (map label xs))))
node_writes ops.ProjectType r h w =
    two_parts ops.ProjectType r h w (λ t a b c. just_writes _ _ (row_writes 10 _ ((written t).alone ∷ array_of (more_items (written a).alone no_items) ∷ []) refl
    (two_bytes (form t).alone _ (written t).alone (array_of (more_items (written a).alone no_items)) b.alone (ap (λ b. array (b ∷ [])) c.alone ∙ array_same ((written a).alone ∷ [])))))
node_writes (ops.Union as') r h w = union_writes as' r (right_of (ascending (alt_labels as')) _ h) w
node_writes ops.Assert r h w = all_write 19 r refl w
node_writes ops.Annot r h w = all_write 26 r refl w
node_writes (ops.ToMap c) r h w = all_write 27 r refl w
node_writes (ops.With ks) r h w =
    two_parts (ops.With ks) r (right_of (has_some ks) _ h) w (λ e v b c.
    let path : array (map text ks) ≡ item_bytes (array_of (listed (map label ks))) = ap array (labels_write ks) ∙ array_same (map label ks) in
    just_writes _ _ (row_writes 29 _ ((written e).alone ∷ array_of (listed (map label ks)) ∷ (written v).alone ∷ []) refl
    (ap (λ x. x ∷ array (map text ks) ∷ (form v).alone ∷ []) b.alone ∙ ap (λ bs. item_bytes (written e).alone ∷ bs) (two_bytes (array (map text ks)) (form v).alone (array_of (listed (map label ks))) (written v).alone path c.alone))))

mutual
  pub writes : (e : Term) → IsWellFormed e → names_spellable e ≡ true → Writes (form e) (written e)
  writes (Leaf v) w l = just_writes _ _ (variable_writes v (leb-true v.index most_index (right_of (is_label v.name) _ l)))
  writes (Node op r) (w, ws) l = node_writes op r w (all_writes r ws (right_of (op_spellable op) _ l))

  pub all_writes : (r : Row Var Name) → AreWellFormed r → row_spellable r ≡ true → AllWrite r
  all_writes end w l = tt
  all_writes (kid None e r) (w, ws) l = (writes e w (left_of (names_spellable e) _ l), all_writes r ws (right_of (names_spellable e) _ l))
  all_writes (kid (Some x) e r) (w, ws) l =
      let k = left_of (is_label x && names_spellable e) (row_spellable r) l in (writes e w (right_of (is_label x) (names_spellable e) k), all_writes r ws (right_of (is_label x && names_spellable e) (row_spellable r) l))
