-- More nodes that are read back: numbers, variables, functions, lets, fields, updates.
use Rattle.std.specs.Prelude.{◌≡◌, ℕ, ◌^◌, ◌<◌, ◌≤◌, pos, negsuc, nat_le, nat_lt, Bool, true, false, ◌&&◌, ◌||◌, not, if◌then◌else◌, List, [], ◌∷◌, length, map, Option, Some, None, codes, refl}
use Rattle.std.specs.List.{list_all}
use Rattle.std.proofs.Common.{sym, ◌∙◌, ap, arith}
use Rattle.std.proofs.lemmas.Bool.{le-leb, lt-ltb}
use Rattle.dh_syntax.specs.declared.expressions.Op.{Op}
use Rattle.dh_syntax.specs.declared.expressions.Op.TheVariants as ops
use Rattle.dh_syntax.specs.declared.operators.Builtin.{Builtin}
use Rattle.dh_syntax.specs.declared.operators.Builtin.TheVariants as builtin
use Rattle.dh_syntax.specs.Expressions.Arity.{has_some}
use Rattle.dh_syntax.specs.Bytes.BinaryHeads.{unsigned, negative, octets, big_endian}
use Rattle.dh_syntax.specs.Bytes.BinaryItems.{Item, single, array_of, map_of, tagged, no_items, more_items}
use Rattle.dh_syntax.specs.Bytes.BinaryLeaves.{◌>>=◌, is_null, label_of, labels_of, named_label, path_of, bignum, natural_of, integer_of}
use Rattle.dh_syntax.specs.Bytes.BinaryRead as old
use Rattle.dh_syntax.specs.Expressions.Builtins.{builtin_of}
use Rattle.dh_syntax.specs.Bytes.Cbor.{fewest_bytes}
use Rattle.dh_syntax.specs.Expressions.Numbers.{bytes_eq}
use Rattle.dh_syntax.specs.Expressions.Operators.{builtin_name}
use Rattle.dh_syntax.specs.Expressions.Spellable.{is_label}
use Rattle.dh_syntax.specs.Limits.{most_index}
use Rattle.dh_syntax.specs.Expressions.Tree.{Leaf, Node, end, kid, Name, Var, Term}
use Rattle.dh_syntax.proofs.Numbers.{bytes_eq-true}
use Rattle.dh_binary.specs.Written.{just, row_of, listed, label, no, natural, below_zero, integer, variable_item, function, binding, truth, written}
use Rattle.dh_binary.proofs.Bignums.{big_fewest, few_bytes}
use Rattle.dh_binary.proofs.Maps.{null_none}
use Rattle.dh_binary.proofs.Rows.{bind_none, bind_same, none}
use Rattle.dh_binary.proofs.Back.{Back, just_back, parts_listed, read_items, body}

-- ---- numbers

bignum_back : (bound n : ℕ) (bs : List ℕ) → big_endian bs ≡ n → n < bound → length bs ≤ 16 → bignum false bound bs ≡ Some n
bignum_back bound n bs e h l =
    ap (λ k. if nat_lt k bound then (if nat_le (length bs) 16 then Some k else None) else (if false || false then Some k else None)) e
    ∙ by (nat_lt n bound) (nat_le (length bs) 16) (lt-ltb n bound h) (le-leb (length bs) 16 l)
  where
    by : (c d : Bool) → c ≡ true → d ≡ true → (if c then (if d then Some n else None) else (if false || false then Some n else None)) ≡ Some n
    by true true p q = refl
    by true false p q = cc
    by false d p q = cc

natural_reads : (n : ℕ) → n < 2 ^ 128 → natural_of false (old.part false (natural n)).item ≡ Some n
natural_reads n h = by (nat_lt n (2 ^ 64))
  where
    by : (c : Bool) → natural_of false (old.part false (if c then single (unsigned n) else tagged 2 (single (octets (fewest_bytes n))))).item ≡ Some n
    by true = refl
    by false = bignum_back (2 ^ 128) n (fewest_bytes n) (big_fewest n h) h (few_bytes n)

pub natural_back : (n : ℕ) → n < 2 ^ 128 → Back (just (row_of 15 (natural n ∷ []))) (Node (ops.Nat n) end)
natural_back n h = just_back _ _ (ap (λ o. o >>= λ m. Some (Node (ops.Nat m) end)) (natural_reads n h))

pos_reads : (n : ℕ) → n < 2 ^ 127 → integer_of false (old.part false (natural n)).item ≡ Some (pos n)
pos_reads n h = by (nat_lt n (2 ^ 64))
  where
    by : (c : Bool) → integer_of false (old.part false (if c then single (unsigned n) else tagged 2 (single (octets (fewest_bytes n))))).item ≡ Some (pos n)
    by true = refl
    by false = ap (λ o. o >>= λ k. Some (pos k)) (bignum_back (2 ^ 127) n (fewest_bytes n) (big_fewest n (omega arith)) h (few_bytes n))

negsuc_reads : (n : ℕ) → n < 2 ^ 127 → integer_of false (old.part false (below_zero n)).item ≡ Some (negsuc n)
negsuc_reads n h = by (nat_lt n (2 ^ 64))
  where
    by : (c : Bool) → integer_of false (old.part false (if c then single (negative n) else tagged 3 (single (octets (fewest_bytes n))))).item ≡ Some (negsuc n)
    by true = refl
    by false = ap (λ o. o >>= λ k. Some (negsuc k)) (bignum_back (2 ^ 127) n (fewest_bytes n) (big_fewest n (omega arith)) h (few_bytes n))

pub pos_back : (n : ℕ) → n < 2 ^ 127 → Back (just (row_of 16 (integer (pos n) ∷ []))) (Node (ops.Int (pos n)) end)
pos_back n h = just_back _ _ (ap (λ o. o >>= λ z. Some (Node (ops.Int z) end)) (pos_reads n h))

pub negsuc_back : (n : ℕ) → n < 2 ^ 127 → Back (just (row_of 16 (integer (negsuc n) ∷ []))) (Node (ops.Int (negsuc n)) end)
negsuc_back n h = just_back _ _ (ap (λ o. o >>= λ z. Some (Node (ops.Int z) end)) (negsuc_reads n h))

pub truth_back : (c : Bool) → Back (just (truth c)) (Node (ops.Bool c) end)
truth_back true = just_back _ _ refl
truth_back false = just_back _ _ refl

builtin_named : (b : Builtin) → builtin_of (builtin_name b) ≡ Some b
builtin_named builtin.Bool = refl
builtin_named _ = refl

pub builtin_back : (b : Builtin) → Back (just (label (builtin_name b))) (Node (ops.Builtin b) end)
builtin_back b = just_back _ _ (ap (λ o. o >>= λ c. Some (Node (ops.Builtin c) end)) (builtin_named b))

-- ---- labels

pub label_reads : (x : Name) → is_label x ≡ true → label_of (label x) ≡ Some x
label_reads x h = ap (λ c. if c then Some x else None) h

named_reads : (x : Name) → is_label x ≡ true → bytes_eq x (codes "_") ≡ false → named_label (label x) ≡ Some x
named_reads x h k = ap (λ c. if c && not (bytes_eq x (codes "_")) then Some x else None) h ∙ ap (λ c. if not c then Some x else None) k

labels_read : (xs : List Name) → list_all is_label xs ≡ true → labels_of (listed (map label xs)) ≡ Some xs
labels_read [] h = refl
labels_read (x ∷ xs) h =
    let p = left_of (is_label x) (list_all is_label xs) h in
    let q = labels_read xs (right_of (is_label x) (list_all is_label xs) h) in
    ap (λ o. o >>= λ y. labels_of (listed (map label xs)) >>= λ ys. Some (y ∷ ys)) (label_reads x p) ∙ ap (λ o. o >>= λ ys. Some (x ∷ ys)) q
  where
    left_of : (a c : Bool) → (a && c) ≡ true → a ≡ true
    left_of true c h = refl
    left_of false c h = h

    right_of : (a c : Bool) → (a && c) ≡ true → c ≡ true
    right_of true c h = h
    right_of false c h = cc

-- ---- variables

pub variable_back : (v : Var) → is_label v.name ≡ true → v.index ≤ most_index → Back (just (variable_item v)) (Leaf v)
variable_back v h l = by (bytes_eq v.name (codes "_")) refl
  where
    in_range : (if nat_le v.index most_index || false then Some v.index else None) ≡ Some v.index
    in_range = ap (λ c. if c || false then Some v.index else None) (le-leb v.index most_index l)

    by : (c : Bool) → bytes_eq v.name (codes "_") ≡ c → Back (just (if c then single (unsigned v.index) else array_of (more_items (label v.name) (more_items (single (unsigned v.index)) no_items)))) (Leaf v)
    by true e = just_back _ _ (ap (λ o. o >>= λ m. Some (Leaf (record { name = codes "_"; index = m }))) in_range ∙ ap (λ x. Some (Leaf (record { name = x; index = v.index }))) (sym (bytes_eq-true v.name (codes "_") e)))
    by false e =
        just_back _ _ (ap (λ o. o >>= λ y. (if nat_le v.index most_index || false then Some v.index else None) >>= λ m. Some (Leaf (record { name = y; index = m }))) (named_reads v.name h e)
        ∙ ap (λ o. o >>= λ m. Some (Leaf (record { name = v.name; index = m }))) in_range)

-- ---- functions

quantified_back : (op : Op) (x : Name) (a e : Term) → Back (written a) a → Back (written e) e → old.quantified op x (old.part false (written a).alone) (old.part false (written e).alone) ≡ Some (Node op (kid None a (kid (Some x) e end)))
quantified_back op x a e b c =
    ap (λ o. o >>= λ t. (old.part false (written e).alone).term >>= λ d. Some (Node op (kid None t (kid (Some x) d end)))) b.alone
    ∙ ap (λ o. o >>= λ d. Some (Node op (kid None a (kid (Some x) d end)))) c.alone

function_back : (op : Op) (n : ℕ) → ((is : List Item) → (old.part false (row_of n is)).term ≡ old.quantifier op (old.parts false (listed is))) → (x : Name) (a e : Term) → is_label x ≡ true → Back (written a) a → Back (written e) e
    → Back (function n (written a).alone x (written e).alone) (Node op (kid None a (kid (Some x) e end)))
function_back op n row x a e h b c = by (bytes_eq x (codes "_")) refl
  where
    by : (d : Bool) → bytes_eq x (codes "_") ≡ d → Back (just (if d then row_of n ((written a).alone ∷ (written e).alone ∷ []) else row_of n (label x ∷ (written a).alone ∷ (written e).alone ∷ []))) (Node op (kid None a (kid (Some x) e end)))
    by true p = just_back _ _ (row ((written a).alone ∷ (written e).alone ∷ []) ∙ quantified_back op (codes "_") a e b c ∙ ap (λ y. Some (Node op (kid None a (kid (Some y) e end)))) (sym (bytes_eq-true x (codes "_") p)))
    by false p = just_back _ _ (row (label x ∷ (written a).alone ∷ (written e).alone ∷ []) ∙ ap (λ o. o >>= λ y. old.quantified op y (old.part false (written a).alone) (old.part false (written e).alone)) (named_reads x h p) ∙ quantified_back op x a e b c)

pub lambda_back : (x : Name) (a e : Term) → is_label x ≡ true → Back (written a) a → Back (written e) e → Back (function 1 (written a).alone x (written e).alone) (Node ops.Lam (kid None a (kid (Some x) e end)))
lambda_back = function_back ops.Lam 1 (λ is. refl)

pub pi_back : (x : Name) (a e : Term) → is_label x ≡ true → Back (written a) a → Back (written e) e → Back (function 2 (written a).alone x (written e).alone) (Node ops.Pi (kid None a (kid (Some x) e end)))
pi_back = function_back ops.Pi 2 (λ is. refl)

-- ---- lets

bound_none : (x t a : old.Part) → None ≡ old.bound x t a None
bound_none x t a = sym (bind_same (label_of x.item) (λ y. a.term >>= λ v. None) none (λ y. bind_none a.term) ∙ bind_none (label_of x.item))

lets_body : (x t a : old.Part) (ps : List old.Part) → old.lets (x ∷ t ∷ a ∷ ps) ≡ old.bound x t a (body ps)
lets_body x t a [] = bound_none x t a
lets_body x t a (p ∷ []) = refl
lets_body x t a (p ∷ q ∷ ps) = refl

-- an item that is an expression is not null
pub not_null : (i : Item) (e : Term) → (old.part false i).term ≡ Some e → is_null i ≡ false
not_null i e h = by (is_null i) refl
  where
    by : (c : Bool) → is_null i ≡ c → c ≡ false
    by true p = let q : None ≡ Some e = sym (null_none false i p) ∙ h in cc
    by false p = refl

let_reads : (x : Name) (t : Item) (u : Term → Term → Option Term) (a e : Term) (w : Term) → is_label x ≡ true → Back (written a) a → Back (written e) e
    → old.let_node x (is_null (old.part false t).item) (old.part false t).term a e ≡ Some w → old.lets (read_items (label x ∷ t ∷ (written a).alone ∷ (written e).bound)) ≡ Some w
let_reads x t u a e w h b c l =
    lets_body (old.part false (label x)) (old.part false t) (old.part false (written a).alone) (read_items (written e).bound)
    ∙ ap (old.bound (old.part false (label x)) (old.part false t) (old.part false (written a).alone)) c.bound
    ∙ ap (λ o. o >>= λ y. (old.part false (written a).alone).term >>= λ v. old.let_node y (is_null (old.part false t).item) (old.part false t).term v e) (label_reads x h)
    ∙ ap (λ o. o >>= λ v. old.let_node x (is_null (old.part false t).item) (old.part false t).term v e) b.alone ∙ l

binding_back : (x : Name) (t : Item) (a e w : Term) → is_label x ≡ true → Back (written a) a → Back (written e) e → old.let_node x (is_null (old.part false t).item) (old.part false t).term a e ≡ Some w
    → Back (binding (label x) t (written a).alone (written e)) w
binding_back x t a e w h b c l =
    let r = let_reads x t (λ p q. None) a e w h b c l in
    let s : (old.part false (row_of 25 (label x ∷ t ∷ (written a).alone ∷ (written e).bound))).term ≡ Some w = ap old.lets (parts_listed (label x ∷ t ∷ (written a).alone ∷ (written e).bound)) ∙ r in
    record { alone = s; head = w; arguments = []; applied = ap (λ o. o >>= λ f. Some (f ∷ [])) s; applies = refl; bound = r }

pub let_back : (x : Name) (a e : Term) → is_label x ≡ true → Back (written a) a → Back (written e) e → Back (binding (label x) no (written a).alone (written e)) (Node (ops.Let false) (kid None a (kid (Some x) e end)))
let_back x a e h b c = binding_back x no a e _ h b c refl

pub item_of : (i : Item) → (old.part false i).item ≡ i
item_of (single a) = refl
item_of (array_of is) = refl
item_of (map_of ps) = refl
item_of (tagged t i) = refl

pub typed_let_back : (x : Name) (t a e : Term) → is_label x ≡ true → Back (written t) t → Back (written a) a → Back (written e) e
    → Back (binding (label x) (written t).alone (written a).alone (written e)) (Node (ops.Let true) (kid None t (kid None a (kid (Some x) e end))))
typed_let_back x t a e h d b c =
    binding_back x (written t).alone a e _ h b c
    (ap (λ k. old.let_node x k (old.part false (written t).alone).term a e) (ap is_null (item_of (written t).alone) ∙ not_null (written t).alone t d.alone) ∙ ap (λ o. old.let_node x false o a e) d.alone)

-- ---- fields, projections by a type, updates

pub field_back : (e : Term) (x : Name) → is_label x ≡ true → Back (written e) e → Back (just (row_of 9 ((written e).alone ∷ label x ∷ []))) (Node (ops.Field x) (kid None e end))
field_back e x h b = just_back _ _ (ap (λ o. o >>= λ y. old.node (ops.Field y) (old.part false (written e).alone ∷ [])) (label_reads x h) ∙ ap (λ o. (o >>= λ f. Some (f ∷ [])) >>= λ es. Some (Node (ops.Field x) (old.plain_row es))) b.alone)

pub project_type_back : (e t : Term) → Back (written e) e → Back (written t) t → Back (just (row_of 10 ((written e).alone ∷ array_of (more_items (written t).alone no_items) ∷ []))) (Node ops.ProjectType (kid None e (kid None t end)))
project_type_back e t b c =
    let q = old.part false (array_of (more_items (written t).alone no_items)) in
    just_back _ _ (ap (λ o. o >>= λ f. old.projected_by f q.boxed (q ∷ [])) b.alone ∙ ap (λ o. old.projected_by e o (q ∷ [])) c.alone)

path_reads : (ks : List Name) → has_some ks ≡ true → list_all is_label ks ≡ true → path_of (array_of (listed (map label ks))) ≡ Some ks
path_reads [] h l = cc
path_reads (k ∷ ks) h l = labels_read (k ∷ ks) l

pub update_back : (e v : Term) (ks : List Name) → has_some ks ≡ true → list_all is_label ks ≡ true → Back (written e) e → Back (written v) v
    → Back (just (row_of 29 ((written e).alone ∷ array_of (listed (map label ks)) ∷ (written v).alone ∷ []))) (Node (ops.With ks) (kid None e (kid None v end)))
update_back e v ks h l b c =
    let p = old.part false (written e).alone in
    let q = old.part false (written v).alone in
    just_back _ _ (ap (λ o. o >>= λ xs. old.node (ops.With xs) (p ∷ q ∷ [])) (path_reads ks h l)
    ∙ ap (λ o. (o >>= λ f. (q.term >>= λ g. Some (g ∷ [])) >>= λ gs. Some (f ∷ gs)) >>= λ es. Some (Node (ops.With ks) (old.plain_row es))) b.alone
    ∙ ap (λ o. ((o >>= λ g. Some (g ∷ [])) >>= λ gs. Some (e ∷ gs)) >>= λ es. Some (Node (ops.With ks) (old.plain_row es))) c.alone)
