-- How many items applications and lets have.
use Rattle.std.specs.Prelude.{◌≡◌, ◌+◌, ℕ, Bool, true, false, [], ◌∷◌, ◌++◌, length, Some, None, IsTrue}
use Rattle.std.proofs.Common.{ap, ◌∙◌, arith, length-append}
use Rattle.dh_syntax.specs.declared.expressions.Op.TheVariants as ops
use Rattle.dh_syntax.specs.Bytes.Binary.{node, form, forms, enc}
use Rattle.dh_syntax.specs.Expressions.Arity.{fits, plain, binding}
use Rattle.dh_syntax.specs.Expressions.Rows.{◌+++◌}
use Rattle.dh_syntax.specs.Expressions.Tree.{Row, Node, Var, Name, Term, end, kid}
use Rattle.dh_encode.specs.Inside.Items.{row_items, let_head}
use Rattle.dh_encode.proofs.KidsByPlace.{plain-length}
use Rattle.dh_encode.proofs.RowItems.{row_items-length}
use Rattle.dh_encode.proofs.Spines.{applied_items, bound_items}

applied_count : (r : Row Var Name) (f a : Term) → r ≡ kid None f (kid None a end) → length (node ops.App (forms r)).applied ≡ length (form f).applied + 1
applied_count r f a h = ap length (applied_items r f a h) ∙ length-append (form f).applied (enc a ∷ [])

pub applied_more : (r s : Row Var Name) (f a : Term) (n : ℕ) → r ≡ kid None f (kid None a end) → f ≡ Node ops.App s → n ≡ length (node ops.App (forms s)).applied
    → 1 + n ≡ length (node ops.App (forms r)).applied
applied_more r s f a n h k e =
    let p = applied_count r f a h in
    let q : length (form f).applied ≡ length (node ops.App (forms s)).applied = ap (λ t. length (form t).applied) k in
    omega arith

pub applied_two : (r : Row Var Name) (f a : Term) → r ≡ kid None f (kid None a end) → (form f).applied ≡ enc f ∷ [] → 2 ≡ length (node ops.App (forms r)).applied
applied_two r f a h k =
    let p = applied_count r f a h in
    let q : length (form f).applied ≡ 1 = ap length k in
    omega arith

front_count : (n : ℕ) (f : Row Var Name) → plain n f ≡ true → length (row_items f) ≡ n
front_count n f h = row_items-length f ∙ plain-length n f h

head_and_front : (typed : Bool) (f : Row Var Name) (x : Name) (r : Row Var Name) → ((n : ℕ) → binding n r ≡ true → plain n f ≡ true) → IsTrue (fits (ops.Let typed) r)
    → length (let_head typed x ++ row_items f) ≡ 3
head_and_front false f x r front p = let q = front_count 1 f (front 1 p) in omega (arith, length-append (let_head false x) (row_items f))
head_and_front true f x r front p = let q = front_count 2 f (front 2 p) in omega (arith, length-append (let_head true x) (row_items f))

bound_count : (typed : Bool) (r f : Row Var Name) (x : Name) (e : Term) → r ≡ f +++ kid (Some x) e end → ((n : ℕ) → binding n r ≡ true → plain n f ≡ true)
    → IsTrue (fits (ops.Let typed) r) → length (node (ops.Let typed) (forms r)).bound ≡ 3 + length (form e).bound
bound_count typed r f x e h front p =
    let whole = ap length (bound_items typed r f x e h front p) in
    let parts = length-append (let_head typed x ++ row_items f) (form e).bound in
    let three = head_and_front typed f x r front p in
    omega arith

pub bound_more : (typed inner : Bool) (r f s : Row Var Name) (x : Name) (e : Term) (n : ℕ) → r ≡ f +++ kid (Some x) e end → ((n : ℕ) → binding n r ≡ true → plain n f ≡ true)
    → IsTrue (fits (ops.Let typed) r) → e ≡ Node (ops.Let inner) s → n ≡ length (node (ops.Let inner) (forms s)).bound → 3 + n ≡ length (node (ops.Let typed) (forms r)).bound
bound_more typed inner r f s x e n h front p k m =
    let whole = bound_count typed r f x e h front p in
    let q : length (form e).bound ≡ length (node (ops.Let inner) (forms s)).bound = ap (λ t. length (form t).bound) k in
    omega arith

pub bound_four : (typed : Bool) (r f : Row Var Name) (x : Name) (e : Term) → r ≡ f +++ kid (Some x) e end → ((n : ℕ) → binding n r ≡ true → plain n f ≡ true)
    → IsTrue (fits (ops.Let typed) r) → (form e).bound ≡ enc e ∷ [] → 4 ≡ length (node (ops.Let typed) (forms r)).bound
bound_four typed r f x e h front p k =
    let whole = bound_count typed r f x e h front p in
    let q : length (form e).bound ≡ 1 = ap length k in
    omega arith

-- the parts of a let end with one under a variable
pub let_binds : (typed : Bool) (r : Row Var Name) → IsTrue (fits (ops.Let typed) r) → (n : ℕ) × (binding n r ≡ true)
let_binds false r p = (1, p)
let_binds true r p = (2, p)
