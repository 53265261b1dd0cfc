-- Applications and lets with the applications and lets inside them.
use Rattle.std.specs.Prelude.{◌≡◌, ℕ, Bool, true, false, List, [], ◌∷◌, ◌++◌, Some, None, refl, IsTrue}
use Rattle.std.proofs.Common.{sym, ap, ◌∙◌, subst as along}
use Rattle.std.proofs.lemmas.Bool.{false≢true}
use Rattle.dh_syntax.specs.declared.expressions.Op.{Op}
use Rattle.dh_syntax.specs.declared.expressions.Op.TheVariants as ops
use Rattle.dh_syntax.specs.declared.expressions.Expr.{Expr}
use Rattle.dh_syntax.specs.declared.expressions.Expr.TheVariants as expr
use Rattle.dh_syntax.specs.declared.expressions.Kid.{Kid}
use Rattle.dh_syntax.specs.Expressions.Bridge.{term, row_of}
use Rattle.dh_syntax.proofs.Bridge.{term-Var, term-Node}
use Rattle.dh_syntax.specs.Bytes.Binary.{Part, plain as free, under, node, form, forms, enc}
use Rattle.dh_syntax.specs.Bytes.Cbor.{array, natural}
use Rattle.dh_syntax.specs.Expressions.Arity.{fits, plain, binding}
use Rattle.dh_syntax.specs.Expressions.Rows.{◌+++◌}
use Rattle.dh_syntax.specs.Expressions.Tree.{Row, Node, Var, Name, Term, end, kid}
use Rattle.dh_encode.specs.Inside.Items.{row_items, let_head}

pub not_applied : (op : Op) (ps : List Part) → (op ≡ ops.App → ⊥) → (node op ps).applied ≡ (node op ps).alone ∷ []
not_applied ops.App ps h = absurd (h refl)
not_applied ops.Lam (free a ∷ under x b ∷ []) h = refl
not_applied ops.Pi (free a ∷ under x b ∷ []) h = refl
not_applied (ops.Let false) (free a ∷ under x b ∷ []) h = refl
not_applied (ops.Let true) (free t ∷ free a ∷ under x b ∷ []) h = refl
not_applied ops.EmptyList (free t ∷ []) h = refl
not_applied ops.ProjectType (free t ∷ free r ∷ []) h = refl
not_applied (ops.With path) (free e ∷ free v ∷ []) h = refl
not_applied op ps h = refl

pub not_bound : (op : Op) (ps : List Part) → ((b : Bool) → op ≡ ops.Let b → ⊥) → (node op ps).bound ≡ (node op ps).alone ∷ []
not_bound (ops.Let b) ps h = absurd (h b refl)
not_bound ops.Lam (free a ∷ under x b ∷ []) h = refl
not_bound ops.Pi (free a ∷ under x b ∷ []) h = refl
not_bound ops.App (free f ∷ free a ∷ []) h = refl
not_bound ops.EmptyList (free t ∷ []) h = refl
not_bound ops.ProjectType (free t ∷ free r ∷ []) h = refl
not_bound (ops.With path) (free e ∷ free v ∷ []) h = refl
not_bound op ps h = refl

-- the items of an application
pub applied_items : (r : Row Var Name) (f a : Term) → r ≡ kid None f (kid None a end) → (node ops.App (forms r)).applied ≡ (form f).applied ++ enc a ∷ []
applied_items r f a h = ap (λ s. (node ops.App (forms s)).applied) h

bound_plain : (r f : Row Var Name) (x : Name) (e : Term) → r ≡ f +++ kid (Some x) e end → plain 1 f ≡ true
    → (node (ops.Let false) (forms r)).bound ≡ (let_head false x ++ row_items f) ++ (form e).bound
bound_plain r end x e h p = absurd (false≢true p)
bound_plain r (kid (Some y) d f) x e h p = absurd (false≢true p)
bound_plain r (kid None d (kid c g f)) x e h p = absurd (false≢true p)
bound_plain r (kid None d end) x e h p = ap (λ s. (node (ops.Let false) (forms s)).bound) h

bound_typed : (r f : Row Var Name) (x : Name) (e : Term) → r ≡ f +++ kid (Some x) e end → plain 2 f ≡ true
    → (node (ops.Let true) (forms r)).bound ≡ (let_head true x ++ row_items f) ++ (form e).bound
bound_typed r end x e h p = absurd (false≢true p)
bound_typed r (kid (Some y) d f) x e h p = absurd (false≢true p)
bound_typed r (kid None d end) x e h p = absurd (false≢true p)
bound_typed r (kid None d (kid (Some y) g f)) x e h p = absurd (false≢true p)
bound_typed r (kid None d (kid None g (kid c i f))) x e h p = absurd (false≢true p)
bound_typed r (kid None d (kid None g end)) x e h p = ap (λ s. (node (ops.Let true) (forms s)).bound) h

-- the items of a let
pub bound_items : (typed : Bool) (r f : Row Var Name) (x : Name) (e : Term) → r ≡ f +++ kid (Some x) e end → ((n : ℕ) → binding n r ≡ true → plain n f ≡ true)
    → IsTrue (fits (ops.Let typed) r) → (node (ops.Let typed) (forms r)).bound ≡ (let_head typed x ++ row_items f) ++ (form e).bound
bound_items false r f x e h front p = bound_plain r f x e h (front 1 p)
bound_items true r f x e h front p = bound_typed r f x e h (front 2 p)

-- an application is written as the array of its items
pub application_whole : (r : Row Var Name) → plain 2 r ≡ true → enc (Node ops.App r) ≡ array (natural 0 ∷ (node ops.App (forms r)).applied)
application_whole end h = absurd (false≢true h)
application_whole (kid (Some x) f r) h = absurd (false≢true h)
application_whole (kid None f end) h = absurd (false≢true h)
application_whole (kid None f (kid (Some x) a r)) h = absurd (false≢true h)
application_whole (kid None f (kid None a (kid c d r))) h = absurd (false≢true h)
application_whole (kid None f (kid None a end)) h = refl

-- a let is written as the array of its items
pub let_whole : (typed : Bool) (r : Row Var Name) → IsTrue (fits (ops.Let typed) r) → enc (Node (ops.Let typed) r) ≡ array (natural 25 ∷ (node (ops.Let typed) (forms r)).bound)
let_whole false end h = absurd (false≢true h)
let_whole false (kid (Some x) a end) h = absurd (false≢true h)
let_whole false (kid (Some x) a (kid c d r)) h = absurd (false≢true h)
let_whole false (kid None a end) h = absurd (false≢true h)
let_whole false (kid None a (kid None e r)) h = absurd (false≢true h)
let_whole false (kid None a (kid (Some x) e (kid c d r))) h = absurd (false≢true h)
let_whole false (kid None a (kid (Some x) e end)) h = refl
let_whole true end h = absurd (false≢true h)
let_whole true (kid (Some x) a end) h = absurd (false≢true h)
let_whole true (kid (Some x) a (kid c d r)) h = absurd (false≢true h)
let_whole true (kid None t end) h = absurd (false≢true h)
let_whole true (kid None t (kid (Some x) a r)) h = absurd (false≢true h)
let_whole true (kid None t (kid None a end)) h = absurd (false≢true h)
let_whole true (kid None t (kid None a (kid None e r))) h = absurd (false≢true h)
let_whole true (kid None t (kid None a (kid (Some x) e (kid c d r)))) h = absurd (false≢true h)
let_whole true (kid None t (kid None a (kid (Some x) e end))) h = refl

-- ---- expressions of the program

pub node_term : (e : Expr) (o p : Op) (ks js : List Kid) → e ≡ expr.Node p ks → p ≡ o → js ≡ ks → term e ≡ Node o (row_of js)
node_term e o p ks js h q k = ap term h ∙ term-Node p ks ∙ ap (λ x. Node x (row_of ks)) q ∙ ap (λ l. Node o (row_of l)) (sym k)

pub applied_other : (e : Expr) (op : Op) (ks : List Kid) → e ≡ expr.Node op ks → (op ≡ ops.App → ⊥) → (form (term e)).applied ≡ enc (term e) ∷ []
applied_other e op ks h q = along (λ t. (form t).applied ≡ enc t ∷ []) (sym (ap term h ∙ term-Node op ks)) (not_applied op (forms (row_of ks)) q)

pub applied_variable : (e : Expr) (x : Name) (n : ℕ) → e ≡ expr.Var x n → (form (term e)).applied ≡ enc (term e) ∷ []
applied_variable e x n h = along (λ t. (form t).applied ≡ enc t ∷ []) (sym (ap term h ∙ term-Var x n)) refl

pub bound_other : (e : Expr) (op : Op) (ks : List Kid) → e ≡ expr.Node op ks → ((b : Bool) → op ≡ ops.Let b → ⊥) → (form (term e)).bound ≡ enc (term e) ∷ []
bound_other e op ks h q = along (λ t. (form t).bound ≡ enc t ∷ []) (sym (ap term h ∙ term-Node op ks)) (not_bound op (forms (row_of ks)) q)

pub bound_variable : (e : Expr) (x : Name) (n : ℕ) → e ≡ expr.Var x n → (form (term e)).bound ≡ enc (term e) ∷ []
bound_variable e x n h = along (λ t. (form t).bound ≡ enc t ∷ []) (sym (ap term h ∙ term-Var x n)) refl
