-- Each case of `if` and of the operators on Bool, once.
use Rattle.std.specs.Prelude.{◌≡◌, refl}
use Rattle.dh_syntax.specs.declared.operators.BinOp.TheVariants as bins
use Rattle.dh_syntax.specs.Normalising.Contraction.{Nothing, Gives, IfSame}
use Rattle.dh_examples.specs.Normalising.Stages.{at}
use Rattle.dh_examples.specs.Vocabulary.{false_literal, p, q, r, true_literal}
use Rattle.dh_syntax.specs.Expressions.Forms.{if_else, operator}

-- `if True then p else q`, where the condition is not headed yet and where it is
if_unheaded : at 0 (if_else true_literal p q) ≡ Nothing
if_unheaded = refl

if_true : at 1 (if_else true_literal p q) ≡ Gives p
if_true = refl

-- `if False then p else q`
if_false : at 1 (if_else false_literal p q) ≡ Gives q
if_false = refl

-- `if p then True else False`
if_condition : at 3 (if_else p true_literal false_literal) ≡ Gives p
if_condition = refl

if_condition_early : at 2 (if_else p true_literal false_literal) ≡ Nothing
if_condition_early = refl

-- `if p then True else q`, `if p then q else False`, `if p then False else True`: one literal is not enough
if_then_true : at 3 (if_else p true_literal q) ≡ IfSame true_literal q true_literal
if_then_true = refl

if_else_false : at 3 (if_else p q false_literal) ≡ IfSame q false_literal q
if_else_false = refl

if_negated : at 3 (if_else p false_literal true_literal) ≡ IfSame false_literal true_literal false_literal
if_negated = refl

-- `if p then q else r`
if_same : at 3 (if_else p q r) ≡ IfSame q r q
if_same = refl

-- `True || p`, `False || p`, `p || False`, `p || True`, `p || q`
or_unheaded : at 0 (operator bins.Or true_literal p) ≡ Nothing
or_unheaded = refl

or_true : at 1 (operator bins.Or true_literal p) ≡ Gives true_literal
or_true = refl

or_false : at 1 (operator bins.Or false_literal p) ≡ Gives p
or_false = refl

or_right_early : at 1 (operator bins.Or p false_literal) ≡ Nothing
or_right_early = refl

or_right_false : at 2 (operator bins.Or p false_literal) ≡ Gives p
or_right_false = refl

or_right_true : at 2 (operator bins.Or p true_literal) ≡ Gives true_literal
or_right_true = refl

or_same : at 2 (operator bins.Or p q) ≡ IfSame p q p
or_same = refl

-- `False && p`, `True && p`, `p && True`, `p && False`, `p && q`
and_unheaded : at 0 (operator bins.And false_literal p) ≡ Nothing
and_unheaded = refl

and_false : at 1 (operator bins.And false_literal p) ≡ Gives false_literal
and_false = refl

and_true : at 1 (operator bins.And true_literal p) ≡ Gives p
and_true = refl

and_right_early : at 1 (operator bins.And p true_literal) ≡ Nothing
and_right_early = refl

and_right_true : at 2 (operator bins.And p true_literal) ≡ Gives p
and_right_true = refl

and_right_false : at 2 (operator bins.And p false_literal) ≡ Gives false_literal
and_right_false = refl

and_same : at 2 (operator bins.And p q) ≡ IfSame p q p
and_same = refl

-- `True == p`, `False == p`, `p == True`, `p == q`
equal_unheaded : at 0 (operator bins.Equal true_literal p) ≡ Nothing
equal_unheaded = refl

equal_true : at 1 (operator bins.Equal true_literal p) ≡ Gives p
equal_true = refl

equal_false : at 2 (operator bins.Equal false_literal p) ≡ IfSame false_literal p true_literal
equal_false = refl

equal_right_early : at 1 (operator bins.Equal p true_literal) ≡ Nothing
equal_right_early = refl

equal_right_true : at 2 (operator bins.Equal p true_literal) ≡ Gives p
equal_right_true = refl

equal_same : at 2 (operator bins.Equal p q) ≡ IfSame p q true_literal
equal_same = refl

-- `False != p`, `True != p`, `p != False`, `p != q`
unequal_unheaded : at 0 (operator bins.NotEqual false_literal p) ≡ Nothing
unequal_unheaded = refl

unequal_false : at 1 (operator bins.NotEqual false_literal p) ≡ Gives p
unequal_false = refl

unequal_true : at 2 (operator bins.NotEqual true_literal p) ≡ IfSame true_literal p false_literal
unequal_true = refl

unequal_right_early : at 1 (operator bins.NotEqual p false_literal) ≡ Nothing
unequal_right_early = refl

unequal_right_false : at 2 (operator bins.NotEqual p false_literal) ≡ Gives p
unequal_right_false = refl

unequal_same : at 2 (operator bins.NotEqual p q) ≡ IfSame p q false_literal
unequal_same = refl
