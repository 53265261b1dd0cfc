-- Which types are `List` applied to one argument: no other expression is written as the name `List`.
use Rattle.std.specs.Prelude.{◌≡◌, ◌≤◌, ◌+◌, ◌*◌, ◌^◌, ◌&&◌, ℕ, Bool, true, false, nat_lt, if◌then◌else◌, List, [], ◌∷◌, ◌++◌, length, map, Some, None, codes, refl}
use Rattle.std.specs.Int.{w16, w32, w64, to_be_bytes}
use Rattle.std.specs.List.{concat}
use Rattle.std.proofs.Common.{sym, ap, ◌∙◌, arith, subst as along}
use Rattle.std.proofs.lemmas.Bool.{false≢true, ltb-true}
use Rattle.dh_syntax.specs.declared.expressions.Expr.{Expr}
use Rattle.dh_syntax.specs.declared.expressions.Expr.TheVariants as expr
use Rattle.dh_syntax.specs.declared.expressions.Kid.{Kid}
use Rattle.dh_syntax.specs.declared.expressions.Op.{Op}
use Rattle.dh_syntax.specs.declared.expressions.Op.TheVariants as ops
use Rattle.dh_syntax.specs.declared.operators.Builtin.{Builtin}
use Rattle.dh_syntax.specs.declared.operators.Builtin.TheVariants as builtins
use Rattle.dh_syntax.specs.Bytes.Binary.{Part, plain as free, under, node, form, forms, enc, application, empty_list, variable_item, items, function, integer, interleaved, pairs, alternatives, digest_item, mode_code, loc_items, Encoding}
use Rattle.dh_syntax.specs.Bytes.Cbor.{head, array, map_of, natural, text, bytes, fewest_bytes, null}
use Rattle.dh_syntax.specs.Expressions.Arity.{has_some, IsWellFormed}
use Rattle.dh_syntax.specs.Expressions.Numbers.{eq, bytes_eq}
use Rattle.dh_syntax.specs.Expressions.Operators.{builtin_name, op_code}
use Rattle.dh_syntax.specs.Expressions.Tree.{Row, Leaf, Node, Var, Name, Term, end, kid}
use Rattle.dh_syntax.specs.Expressions.Bridge.{term, row_of}
use Rattle.dh_syntax.proofs.Bridge.{at_term-Var, at_term-Node}
use Rattle.dh_syntax.proofs.Numbers.{eq-true}
use Rattle.dh_encode.specs.Inside.Items.{is_list, is_list_name}
use Rattle.dh_encode.proofs.Spines.{not_applied}

-- the first byte is not that of a text of four bytes
abbrev Differs : List ℕ → Type 0
Differs [] = ⊥
Differs (b ∷ bs) = b ≡ 100 → ⊥

unequal : (a b : ℕ) → (a ≡ b → ⊥) → eq a b ≡ false
unequal a b h = by (eq a b) refl
  where
    by : (c : Bool) → eq a b ≡ c → c ≡ false
    by true e = absurd (h (eq-true a b e))
    by false e = refl

differs : (bs : List ℕ) → Differs bs → bytes_eq bs (text (codes "List")) ≡ false
differs [] h = absurd h
differs (b ∷ bs) h = ap (λ c. c && bytes_eq bs (codes "List")) (unequal b 100 h)

-- ---- first bytes

record HeadIs (major n : ℕ) : Type 0 where
  low : ℕ
  rest : List ℕ
  same : head major n ≡ (32 * major + low) ∷ rest
  small : low ≤ 27

abbrev head_by : ℕ → ℕ → Bool → Bool → Bool → Bool → List ℕ
head_by major n c d e f = if c then (32 * major + n) ∷ [] else (if d then (32 * major + 24) ∷ n ∷ [] else (if e then (32 * major + 25) ∷ to_be_bytes w16 n else (if f then (32 * major + 26) ∷ to_be_bytes w32 n else (32 * major + 27) ∷ to_be_bytes w64 n)))

head_is : (major n : ℕ) → HeadIs major n
head_is major n = by (nat_lt n 24) (nat_lt n (2 ^ 8)) (nat_lt n (2 ^ 16)) (nat_lt n (2 ^ 32)) refl refl
  where
    by : (c d e f : Bool) → nat_lt n 24 ≡ c → head major n ≡ head_by major n c d e f → HeadIs major n
    by true d e f p q = let h = ltb-true n 24 p in record { low = n; rest = []; same = q; small = omega arith }
    by false true e f p q = record { low = 24; rest = n ∷ []; same = q; small = omega arith }
    by false false true f p q = record { low = 25; rest = to_be_bytes w16 n; same = q; small = omega arith }
    by false false false true p q = record { low = 26; rest = to_be_bytes w32 n; same = q; small = omega arith }
    by false false false false p q = record { low = 27; rest = to_be_bytes w64 n; same = q; small = omega arith }

array_differs : (xs : List (List ℕ)) → Differs (array xs)
array_differs xs =
    let h = head_is 4 (length xs) in
    let low : h.low ≤ 27 = h.small in
    along (λ bs. Differs (bs ++ concat xs)) (sym h.same) (λ (e : 32 * 4 + h.low ≡ 100). omega arith)

natural_differs : (n : ℕ) → Differs (natural n)
natural_differs n = by (nat_lt n (2 ^ 64)) refl
  where
    by : (c : Bool) → nat_lt n (2 ^ 64) ≡ c → Differs (natural n)
    by true p =
        let h = head_is 0 n in
        let low : h.low ≤ 27 = h.small in
        along Differs (sym (ap (λ b. if b then head 0 n else 194 ∷ bytes (fewest_bytes n)) p ∙ h.same)) (λ (e : 32 * 0 + h.low ≡ 100). omega arith)
    by false p = along Differs (sym (ap (λ b. if b then head 0 n else 194 ∷ bytes (fewest_bytes n)) p)) (λ (e : 194 ≡ 100). omega arith)

either_differs : (c : Bool) (x y : List ℕ) → Differs x → Differs y → Differs (if c then x else y)
either_differs true x y h k = h
either_differs false x y h k = k

variable_differs : (v : Var) → Differs (variable_item v)
variable_differs v =
    either_differs (bytes_eq v.name (codes "_")) (natural v.index) (array (text v.name ∷ natural v.index ∷ [])) (natural_differs v.index) (array_differs (text v.name ∷ natural v.index ∷ []))

function_differs : (code : ℕ) (t : List ℕ) (x : Name) (b : List ℕ) → Differs (function code t x b).alone
function_differs code t x b =
    either_differs (bytes_eq x (codes "_")) (array (natural code ∷ t ∷ b ∷ [])) (array (natural code ∷ text x ∷ t ∷ b ∷ []))
    (array_differs (natural code ∷ t ∷ b ∷ [])) (array_differs (natural code ∷ text x ∷ t ∷ b ∷ []))

empty_differs : (a : List ℕ) (is bs : List (List ℕ)) → Differs (empty_list (record { alone = a; applied = is; bound = bs }))
empty_differs a [] bs = array_differs (natural 28 ∷ a ∷ [])
empty_differs a (l ∷ []) bs = array_differs (natural 28 ∷ a ∷ [])
empty_differs a (l ∷ x ∷ []) bs =
    either_differs (bytes_eq l (text (codes "List"))) (array (natural 4 ∷ x ∷ [])) (array (natural 28 ∷ a ∷ [])) (array_differs (natural 4 ∷ x ∷ [])) (array_differs (natural 28 ∷ a ∷ []))
empty_differs a (l ∷ x ∷ y ∷ is) bs = array_differs (natural 28 ∷ a ∷ [])

null_differs : Differs null
null_differs = λ e. omega arith

abbrev IsNamed : Op → Type 0
IsNamed (ops.Builtin b) = Unit {0}
IsNamed op = ⊥

node_differs : (op : Op) (ps : List Part) → (IsNamed op → ⊥) → Differs (node op ps).alone
node_differs (ops.Builtin b) ps h = absurd (h tt)
node_differs (ops.Bool false) ps h = λ e. omega arith
node_differs (ops.Bool true) ps h = λ e. omega arith
node_differs (ops.Nat n) ps h = array_differs (natural 15 ∷ natural n ∷ [])
node_differs (ops.Int z) ps h = array_differs (natural 16 ∷ integer z ∷ [])
node_differs (ops.Text pieces) ps h = array_differs (natural 18 ∷ interleaved pieces (items ps))
node_differs (ops.Import i) ps h = array_differs (natural 24 ∷ digest_item i.digest ∷ natural (mode_code i.mode) ∷ loc_items i.loc)
node_differs ops.Lam (free a ∷ under x b ∷ []) h = function_differs 1 a.alone x b.alone
node_differs ops.Pi (free a ∷ under x b ∷ []) h = function_differs 2 a.alone x b.alone
node_differs (ops.Let false) (free a ∷ under x b ∷ []) h = array_differs (natural 25 ∷ text x ∷ null ∷ a.alone ∷ b.bound)
node_differs (ops.Let true) (free t ∷ free a ∷ under x b ∷ []) h = array_differs (natural 25 ∷ text x ∷ t.alone ∷ a.alone ∷ b.bound)
node_differs ops.App (free f ∷ free a ∷ []) h = array_differs (natural 0 ∷ (f.applied ++ a.alone ∷ []))
node_differs ops.If ps h = array_differs (natural 14 ∷ items ps)
node_differs (ops.Bin o) ps h = array_differs (natural 3 ∷ natural (op_code o) ∷ items ps)
node_differs ops.EmptyList (free t ∷ []) h = empty_differs t.alone t.applied t.bound
node_differs ops.List ps h = array_differs (natural 4 ∷ null ∷ items ps)
node_differs ops.Some ps h = array_differs (natural 5 ∷ null ∷ items ps)
node_differs (ops.Merge annotated) ps h = array_differs (natural 6 ∷ items ps)
node_differs (ops.RecordType xs) ps h = array_differs (natural 7 ∷ map_of (length xs) (pairs xs (items ps)) ∷ [])
node_differs (ops.Record xs) ps h = array_differs (natural 8 ∷ map_of (length xs) (pairs xs (items ps)) ∷ [])
node_differs (ops.Field x) ps h = array_differs (natural 9 ∷ items ps ++ text x ∷ [])
node_differs (ops.Project xs) ps h = array_differs (natural 10 ∷ items ps ++ map text xs)
node_differs ops.ProjectType (free t ∷ free r ∷ []) h = array_differs (natural 10 ∷ t.alone ∷ array (r.alone ∷ []) ∷ [])
node_differs (ops.Union alts) ps h = array_differs (natural 11 ∷ map_of (length alts) (alternatives alts (items ps)) ∷ [])
node_differs ops.Assert ps h = array_differs (natural 19 ∷ items ps)
node_differs ops.Annot ps h = array_differs (natural 26 ∷ items ps)
node_differs (ops.ToMap annotated) ps h = array_differs (natural 27 ∷ items ps)
node_differs (ops.With path) (free e ∷ free v ∷ []) h = array_differs (natural 29 ∷ e.alone ∷ array (map text path) ∷ v.alone ∷ [])
node_differs op ps h = null_differs

-- ---- names

list_name : (b : Builtin) → bytes_eq (text (builtin_name b)) (text (codes "List")) ≡ is_list_name b
list_name builtins.List = refl
list_name b = refl

-- an expression other than `List`
alone_differs : (op : Op) (r : Row Var Name) → is_list (Node op r) ≡ false → bytes_eq (enc (Node op r)) (text (codes "List")) ≡ false
alone_differs (ops.Builtin b) r h = list_name b ∙ h
alone_differs op r h = differs (node op (forms r)).alone (node_differs op (forms r) (λ n. n))

-- ---- applications

two_items : (w l x : List ℕ) (is bs : List (List ℕ)) → is ≡ l ∷ x ∷ [] → bytes_eq l (text (codes "List")) ≡ false
    → empty_list (record { alone = w; applied = is; bound = bs }) ≡ array (natural 28 ∷ w ∷ [])
two_items w l x is bs e h = ap (λ i. empty_list (record { alone = w; applied = i; bound = bs })) e ∙ ap (λ b. if b then array (natural 4 ∷ x ∷ []) else array (natural 28 ∷ w ∷ [])) h

many_items : (w y z : List ℕ) (xs bs : List (List ℕ)) → has_some xs ≡ true → empty_list (record { alone = w; applied = (xs ++ y ∷ []) ++ z ∷ []; bound = bs }) ≡ array (natural 28 ∷ w ∷ [])
many_items w y z [] bs h = absurd (false≢true h)
many_items w y z (a ∷ []) bs h = refl
many_items w y z (a ∷ b ∷ []) bs h = refl
many_items w y z (a ∷ b ∷ c ∷ xs) bs h = refl

some_last : (xs : List (List ℕ)) (y : List ℕ) → has_some (xs ++ y ∷ []) ≡ true
some_last [] y = refl
some_last (x ∷ xs) y = refl

node_some : (op : Op) (ps : List Part) → has_some (node op ps).applied ≡ true
node_some ops.Lam (free a ∷ under x b ∷ []) = refl
node_some ops.Pi (free a ∷ under x b ∷ []) = refl
node_some (ops.Let false) (free a ∷ under x b ∷ []) = refl
node_some (ops.Let true) (free t ∷ free a ∷ under x b ∷ []) = refl
node_some ops.App (free f ∷ free a ∷ []) = some_last f.applied a.alone
node_some ops.EmptyList (free t ∷ []) = refl
node_some ops.ProjectType (free t ∷ free r ∷ []) = refl
node_some (ops.With path) (free e ∷ free v ∷ []) = refl
node_some op ps = refl

applied_some : (t : Term) → has_some (form t).applied ≡ true
applied_some (Leaf v) = refl
applied_some (Node op r) = node_some op (forms r)

-- the empty list of a type that is `List` applied to one argument
pub list_of : (f a : Term) → is_list f ≡ true → empty_list (application (form f) (form a)) ≡ array (natural 4 ∷ enc a ∷ [])
list_of (Leaf v) a h = absurd (false≢true h)
list_of (Node (ops.Builtin builtins.List) r) a h = refl
list_of (Node op r) a h = absurd (false≢true h)

other_node : (op : Op) (r : Row Var Name) (a : Encoding) → (op ≡ ops.App → ⊥) → is_list (Node op r) ≡ false
    → empty_list (application (form (Node op r)) a) ≡ array (natural 28 ∷ (application (form (Node op r)) a).alone ∷ [])
other_node op r a q h =
    let whole = application (form (Node op r)) a in
    two_items whole.alone (enc (Node op r)) a.alone whole.applied whole.bound (ap (λ l. l ++ a.alone ∷ []) (not_applied op (forms r) q)) (alone_differs op r h)

-- of another application
pub not_list_of : (f a : Term) → IsWellFormed f → is_list f ≡ false → empty_list (application (form f) (form a)) ≡ array (natural 28 ∷ (application (form f) (form a)).alone ∷ [])
not_list_of (Leaf v) a w h = let whole = application (form (Leaf v)) (form a) in two_items whole.alone (variable_item v) (enc a) whole.applied whole.bound refl (differs (variable_item v) (variable_differs v))
not_list_of (Node op r) a w h = by op r w h
  where
    by : (op : Op) (r : Row Var Name) → IsWellFormed (Node op r) → is_list (Node op r) ≡ false
        → empty_list (application (form (Node op r)) (form a)) ≡ array (natural 28 ∷ (application (form (Node op r)) (form a)).alone ∷ [])
    by ops.App end w h = absurd (false≢true w.0)
    by ops.App (kid (Some x) g s) w h = absurd (false≢true w.0)
    by ops.App (kid None g end) w h = absurd (false≢true w.0)
    by ops.App (kid None g (kid (Some x) b s)) w h = absurd (false≢true w.0)
    by ops.App (kid None g (kid None b (kid c d s))) w h = absurd (false≢true w.0)
    by ops.App (kid None g (kid None b end)) w h =
        let whole = application (application (form g) (form b)) (form a) in many_items whole.alone (enc b) (enc a) (form g).applied whole.bound (applied_some g)
    by op r w h = other_node op r (form a) (λ e. cc) h

-- of a type that is no application
pub not_applied_list : (t : Encoding) → t.applied ≡ t.alone ∷ [] → empty_list t ≡ array (natural 28 ∷ t.alone ∷ [])
not_applied_list t e = ap (λ i. empty_list (record { alone = t.alone; applied = i; bound = t.bound })) e

pub empty_other : (t f a : Term) (r : Row Var Name) → t ≡ Node ops.App r → r ≡ kid None f (kid None a end) → IsWellFormed t → is_list f ≡ false
    → empty_list (form t) ≡ array (natural 28 ∷ enc t ∷ [])
empty_other t f a r p q w h =
    let same = p ∙ ap (Node ops.App) q in
    let whole : IsWellFormed (Node ops.App (kid None f (kid None a end))) = along IsWellFormed same w in
    along (λ s. empty_list (form s) ≡ array (natural 28 ∷ enc s ∷ [])) (sym same) (not_list_of f a whole.1.0 h)

-- ---- expressions of the program

pub is_list-yes : (e : Expr) (op : Op) (ks : List Kid) (b : Builtin) → e ≡ expr.Node op ks → op ≡ ops.Builtin b → b ≡ builtins.List → true ≡ is_list (term e)
is_list-yes e op ks b h p q = sym (at_term-Node is_list e op ks h ∙ ap (λ o. is_list (Node o (row_of ks))) (p ∙ ap ops.Builtin q))

not_list_name : (b : Builtin) → (b ≡ builtins.List → ⊥) → is_list_name b ≡ false
not_list_name builtins.List h = absurd (h refl)
not_list_name b h = refl

pub is_list-other_name : (e : Expr) (op : Op) (ks : List Kid) (b : Builtin) → e ≡ expr.Node op ks → op ≡ ops.Builtin b → (b ≡ builtins.List → ⊥) → false ≡ is_list (term e)
is_list-other_name e op ks b h p q = sym (at_term-Node is_list e op ks h ∙ ap (λ o. is_list (Node o (row_of ks))) p ∙ not_list_name b q)

not_list_node : (op : Op) (r : Row Var Name) → ((b : Builtin) → op ≡ ops.Builtin b → ⊥) → is_list (Node op r) ≡ false
not_list_node (ops.Builtin b) r h = absurd (h b refl)
not_list_node op r h = refl

pub is_list-other_node : (e : Expr) (op : Op) (ks : List Kid) → e ≡ expr.Node op ks → ((b : Builtin) → op ≡ ops.Builtin b → ⊥) → false ≡ is_list (term e)
is_list-other_node e op ks h q = sym (at_term-Node is_list e op ks h ∙ not_list_node op (row_of ks) q)

pub is_list-variable : (e : Expr) (x : Name) (n : ℕ) → e ≡ expr.Var x n → false ≡ is_list (term e)
is_list-variable e x n h = sym (at_term-Var is_list e x n h)
