-- Which parts a row looks at, and in which order.
use Rattle.std.specs.Prelude.{◌≡◌, refl, [], ◌∷◌, map, replicate}
use Rattle.dh_syntax.specs.declared.operators.BinOp.TheVariants as bins
use Rattle.dh_syntax.specs.declared.operators.Builtin.TheVariants as builtins
use Rattle.dh_syntax.specs.Expressions.Forms.{natural, text, operator, if_else, app, call, lambda, let_in, list, merge, field, projection, projection_by_type, update, to_map}
use Rattle.dh_examples.specs.Vocabulary.{a, natural_type, p, q, r, x}
use Rattle.dh_syntax.specs.Normalising.Needs.{needs, at, set, part, argument}

-- `if p then q else r`
if_needs : needs (if_else p q r) ≡ part 0 ∷ part 1 ∷ part 2 ∷ []
if_needs = refl

-- `p + q`, and `p ++ q`, which looks at nothing
sum_needs : needs (operator bins.Plus p q) ≡ part 0 ∷ part 1 ∷ []
sum_needs = refl

append_needs : needs (operator bins.TextAppend p q) ≡ []
append_needs = refl

-- the other operators that look at both sides, and those that look at none
all_sides :
    map (λ o. needs (operator o p q)) (bins.Or ∷ bins.And ∷ bins.Equal ∷ bins.NotEqual ∷ bins.Times ∷ bins.ListAppend ∷ bins.Combine ∷ bins.Prefer ∷ bins.CombineTypes ∷ [])
    ≡ replicate 9 (part 0 ∷ part 1 ∷ [])
all_sides = refl

no_sides : map (λ o. needs (operator o p q)) (bins.Fallback ∷ bins.Equivalent ∷ bins.Complete ∷ []) ≡ [] ∷ [] ∷ [] ∷ []
no_sides = refl

-- `"${p}${q}"`
text_needs : needs (text ([] ∷ [] ∷ [] ∷ []) (p ∷ q ∷ [])) ≡ part 0 ∷ part 1 ∷ []
text_needs = refl

-- `merge p q` looks at q first, `toMap p` at p
merge_needs : needs (merge p q) ≡ part 1 ∷ part 0 ∷ []
merge_needs = refl

map_needs : needs (to_map p) ≡ part 0 ∷ []
map_needs = refl

-- `p.a`, `p.{ a }`, `p.{}`, `p.(q)`, `p with a = q`
field_needs : needs (field p a) ≡ part 0 ∷ []
field_needs = refl

projection_needs : needs (projection p (a ∷ [])) ≡ part 0 ∷ []
projection_needs = refl

empty_projection_needs : needs (projection p []) ≡ []
empty_projection_needs = refl

projection_by_type_needs : needs (projection_by_type p q) ≡ part 1 ∷ []
projection_by_type_needs = refl

with_needs : needs (update p (a ∷ []) q) ≡ part 0 ∷ []
with_needs = refl

-- `p q`, and built-ins with all their arguments or with fewer
app_needs : needs (app p q) ≡ part 0 ∷ []
app_needs = refl

fold_needs : needs (call builtins.NaturalFold (natural 2 ∷ p ∷ q ∷ r ∷ [])) ≡ part 0 ∷ argument 3 ∷ []
fold_needs = refl

fold_short_needs : needs (call builtins.NaturalFold (natural 2 ∷ p ∷ q ∷ [])) ≡ part 0 ∷ []
fold_short_needs = refl

replace_needs : needs (call builtins.TextReplace (p ∷ q ∷ r ∷ [])) ≡ part 0 ∷ argument 2 ∷ argument 0 ∷ []
replace_needs = refl

-- `List/fold p q r p q` looks at q, `Natural/subtract p q` at p and then at q
list_fold_needs : needs (call builtins.ListFold (p ∷ q ∷ r ∷ p ∷ q ∷ [])) ≡ part 0 ∷ argument 3 ∷ []
list_fold_needs = refl

subtract_needs : needs (call builtins.NaturalSubtract (p ∷ q ∷ [])) ≡ part 0 ∷ argument 1 ∷ argument 0 ∷ []
subtract_needs = refl

-- the functions of one value look at it, and those of a list at the second argument
of_value :
    map (λ b. needs (call b (p ∷ []))) (
    builtins.NaturalIsZero ∷ builtins.NaturalEven ∷ builtins.NaturalOdd ∷ builtins.NaturalToInteger ∷ builtins.NaturalShow
    ∷ builtins.IntegerShow ∷ builtins.IntegerNegate ∷ builtins.IntegerClamp ∷ builtins.TextShow ∷ [])
    ≡ replicate 9 (part 0 ∷ argument 0 ∷ [])
of_value = refl

of_list :
    map (λ b. needs (call b (p ∷ q ∷ []))) (builtins.ListLength ∷ builtins.ListHead ∷ builtins.ListLast ∷ builtins.ListIndexed ∷ builtins.ListReverse ∷ [])
    ≡ replicate 5 (part 0 ∷ argument 0 ∷ [])
of_list = refl

-- `Natural/build p`, `List/build p q`, and `None p`, which has no row
of_none :
    map needs (call builtins.NaturalBuild (p ∷ []) ∷ call builtins.ListBuild (p ∷ q ∷ []) ∷ call builtins.None (p ∷ []) ∷ [])
    ≡ replicate 3 (part 0 ∷ [])
of_none = refl

-- a variable, `λ(x : Natural) → p`, `let x = p in q`, `[ p ]`
variable_needs : needs p ≡ []
variable_needs = refl

lambda_needs : needs (lambda x natural_type p) ≡ []
lambda_needs = refl

let_needs : needs (let_in x p q) ≡ []
let_needs = refl

list_needs : needs (list (p ∷ [])) ≡ []
list_needs = refl

-- the arguments of `Text/replace p q r` at their places
first_argument : at (argument 2) (call builtins.TextReplace (p ∷ q ∷ r ∷ [])) ≡ p
first_argument = refl

last_argument : at (argument 0) (call builtins.TextReplace (p ∷ q ∷ r ∷ [])) ≡ r
last_argument = refl

other_argument : set (argument 2) (natural 1) (call builtins.TextReplace (p ∷ q ∷ r ∷ [])) ≡ call builtins.TextReplace (natural 1 ∷ q ∷ r ∷ [])
other_argument = refl
