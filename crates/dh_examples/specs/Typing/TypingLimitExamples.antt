-- Where typing comes to a limit.
use Rattle.std.specs.Prelude.{◌≡◌, refl, ℕ, zero, suc, ◌-◌, ◌^◌, [], ◌∷◌, codes}
use Rattle.dh_syntax.specs.declared.operators.BinOp.TheVariants as bins
use Rattle.dh_syntax.specs.Names.Alpha.{alpha}
use Rattle.dh_syntax.specs.Expressions.Forms.{natural, operator, app, let_in, some, record_literal}
use Rattle.dh_syntax.specs.Typing.Inference.{Gives, FromNormal, Aside, Has, Ill, IsWide, IsDeep, IsOver, IsOverAside, IsShallow, judged}
use Rattle.dh_syntax.specs.Limits.{purse_aside}
use Rattle.dh_syntax.specs.Normalising.Named.{names}
use Rattle.dh_syntax.specs.Typing.NamedTyping.{infer, plain_infer}
use Rattle.dh_syntax.specs.Expressions.Nesting.{nesting}
use Rattle.dh_syntax.specs.Normalising.Normal.{plain_answer}
use Rattle.dh_syntax.specs.Typing.Scopes.{Context}
use Rattle.dh_syntax.specs.Expressions.Tree.{Name, Var, Term}
use Rattle.dh_examples.specs.Typing.Judged.{inferred}
use Rattle.dh_examples.specs.Vocabulary.{equivalent, natural_type, one, plus, true_literal, var, x, y, ◌⟶◌}
use Rattle.dh_syntax.specs.Typing.TypeRules as rule

-- ---- numbers

-- `let x = 340282366920938463463374607431768211455 + 1 in True + x`: the value is normalised before the body is typed
wide : inferred 10 (let_in x (plus (natural (2 ^ 128 - 1)) one) (plus true_literal (var x 0))) ≡ IsWide
wide = refl

-- without a `let` the sum is not normalised
not_wide : inferred 0 (plus (natural (2 ^ 128 - 1)) one) ≡ Has natural_type 0
not_wide = refl

-- a refusal that comes first stands: `let x = 1 + True in ..`
ill_first : inferred 10 (let_in x (plus one true_literal) (plus (natural (2 ^ 128 - 1)) one)) ≡ Ill (0 ∷ []) rule.RightSide
ill_first = refl

-- ---- units

-- `let x = 1 + 2 in x`: the value costs 2
over : inferred 1 (let_in x (plus one (natural 2)) (var x 0)) ≡ IsOver
over = refl

not_over : inferred 2 (let_in x (plus one (natural 2)) (var x 0)) ≡ Has natural_type 0
not_over = refl

-- ---- limits in a part, aside, and in the longer expression of a completion

-- the units of a typing aside
purse : purse_aside ≡ 2 ^ 24
purse = refl

-- `let x = e in 1`
abbrev valued : Term → Term
valued e = let_in x e one

-- a sum that is too wide for 128 bits
abbrev too_wide : Term
too_wide = plus (natural (2 ^ 128 - 1)) one

part_wide : inferred 10 (some (valued too_wide)) ≡ IsWide
part_wide = refl

part_over : inferred 0 (some (valued one)) ≡ IsOver
part_over = refl

part_deep : infer 1 1000 100 [] 10 (some (valued (plus one one))) ≡ IsDeep
part_deep = refl

part_shallow : infer 10 1000 1 [] 10 (some one) ≡ IsShallow
part_shallow = refl

-- `Some x`, where to find the universe of x's type the type is typed: `let y = e in Natural`
abbrev of_type : Term → Context Var Name
of_type e = (x, let_in y e natural_type) ∷ []

aside_wide : infer 100 1000 100 (of_type too_wide) 0 (some (var x 0)) ≡ IsWide
aside_wide = refl

aside_deep : infer 1 1000 100 (of_type (plus one one)) 0 (some (var x 0)) ≡ IsDeep
aside_deep = refl

aside_shallow : infer 10 1000 2 (of_type one) 0 (some (var x 0)) ≡ IsShallow
aside_shallow = refl

-- with a purse of its own: where that is enough, no unit is paid
aside_over : judged (plain_answer names nesting) 0 5 (Aside (FromNormal one (λ f. Gives f)) (λ t. Gives one)) ≡ IsOverAside
aside_over = refl

aside_of_aside_over : judged (plain_answer names nesting) 0 5 (Aside (Aside (FromNormal one (λ f. Gives f)) (λ t. Gives one)) (λ t. Gives one)) ≡ IsOverAside
aside_of_aside_over = refl

aside_free : judged (plain_answer names nesting) 5 0 (Aside (FromNormal one (λ f. Gives f)) (λ t. Gives one)) ≡ Has one 0
aside_free = refl

-- `{ Type = e ≡ 1, default = {=} }::{=}`: the type is normalised for the annotation of the longer expression alone
abbrev completion : Term → Term
completion e = operator bins.Complete (record_literal ((codes "Type", equivalent e one) ∷ (codes "default", record_literal []) ∷ [])) (record_literal [])

-- the kinds of the two fields cost 3, each `{=}` 1, and so does what they are joined to: 4 + 1 for the sides, 4 + 1 + 1 for `⫽`,
-- 4 for the schema once more, and the type itself a contraction and three nodes
completion_ill : inferred 19 (completion one) ≡ Ill [] rule.CompletionHasNoType
unfolding alpha
completion_ill = refl

completion_over : inferred 18 (completion one) ≡ IsOver
unfolding alpha
completion_over = refl

completion_wide : inferred 100 (completion too_wide) ≡ IsWide
unfolding alpha
completion_wide = refl

completion_deep : infer 2 1000 100 [] 100 (completion (plus one one)) ≡ IsDeep
unfolding alpha
completion_deep = refl

completion_shallow : infer 100 1000 6 [] 100 (completion one) ≡ IsShallow
unfolding alpha
completion_shallow = refl

completion_deep_enough : infer 100 1000 7 [] 100 (completion one) ≡ Ill [] rule.CompletionHasNoType
unfolding alpha
completion_deep_enough = refl

-- ---- heights and nesting

-- x is a function on Natural, and y is a Natural
abbrev context : Context Var Name
context = (x, natural_type ⟶ natural_type) ∷ (y, natural_type) ∷ []

-- `x (x .. y)` with n times x nests n deep. To type it costs n, for the range at each x, and it has 2 * n + 1 nodes.
abbrev calls : ℕ → Term
calls zero = var y 0
calls (suc n) = app (var x 0) (calls n)

nested_500 : plain_infer 1000 600 context 1501 (let_in (codes "z") (calls 500) one) ≡ Has natural_type 0
unfolding alpha
nested_500 = refl

nested_501 : plain_infer 1000 600 context 1504 (let_in (codes "z") (calls 501) one) ≡ IsDeep
unfolding alpha
nested_501 = refl

nested_501_over : plain_infer 1000 600 context 1503 (let_in (codes "z") (calls 501) one) ≡ IsOver
unfolding alpha
nested_501_over = refl

-- without an end by height and nesting there is a type
not_deep : infer 502 1000 600 context 1504 (let_in (codes "z") (calls 501) one) ≡ Has natural_type 0
unfolding alpha
not_deep = refl

-- with fewer heights than the normal form has, and with less depth than the expression has
too_few_heights : infer 501 1000 600 context 1504 (let_in (codes "z") (calls 501) one) ≡ IsDeep
unfolding alpha
too_few_heights = refl

too_shallow : infer 502 1000 502 context 1504 (let_in (codes "z") (calls 501) one) ≡ IsShallow
unfolding alpha
too_shallow = refl

deep_enough : infer 502 1000 503 context 1504 (let_in (codes "z") (calls 501) one) ≡ Has natural_type 0
unfolding alpha
deep_enough = refl
