-- The equations of the plain tree of a nameless expression, and what a loop over its parts needs.
use Rattle.std.specs.Prelude.{◌≡◌, ◌<◌, ◌≤◌, ◌+◌, ◌++◌, ℕ, List, [], ◌∷◌, length, drop, refl, map}
use Rattle.std.proofs.Common.{sym, ◌∙◌, ap, get_or}
use Rattle.std.proofs.lemmas.List.{drop_more, drop_all}
use Rattle.dh_syntax.specs.declared.expressions.Op.{Op}
use Rattle.dh_syntax.specs.Expressions.Rows.{◌+++◌}
use Rattle.dh_syntax.specs.Expressions.Tree as tree
use Rattle.dh_syntax.specs.Expressions.Tree.{Row, Leaf, end, kid, Name}
use Rattle.dh_syntax.specs.Names.Nameless as form
use Rattle.dh_syntax.specs.Names.Nameless.{Ref}
use Rattle.dh_terms.specs.declared.cores.Core.{Core}
use Rattle.dh_terms.specs.declared.cores.Core.TheVariants as cores
use Rattle.dh_terms.specs.declared.cores.Core.TheOpen as level
use Rattle.dh_terms.specs.declared.cores.Core.TheFolds.{fold-Core, fold-CoreKid, fold-roll-Core, fold_out-CoreKid}
use Rattle.dh_terms.specs.declared.cores.CoreKid.{CoreKid}
use Rattle.dh_terms.specs.Cores.{Part, row, core_step, kid_step, nameless, nameless_row}

-- The parts of a node.
pub nameless_row-nil : nameless_row [] ≡ end
unfolding nameless_row
nameless_row-nil = refl

pub nameless_row-cons : (k : CoreKid) (ks : List CoreKid) → nameless_row (k ∷ ks) ≡ kid k.binder (nameless k.body) (nameless_row ks)
unfolding nameless_row
nameless_row-cons k ks = refl

row_of_parts : (kids : List CoreKid) → row (map (fold-CoreKid form.Core Part core_step kid_step) kids) ≡ nameless_row kids
unfolding nameless nameless_row
row_of_parts [] = refl
row_of_parts (k ∷ ks) = let e = fold_out-CoreKid form.Core Part core_step kid_step k in let ih = row_of_parts ks in cc

-- The plain tree of a variable and of a node.
pub nameless-Bound : (i : ℕ) → nameless (cores.Bound i) ≡ Leaf (form.Bound i)
unfolding nameless
nameless-Bound i = ap (fold-Core form.Core Part core_step kid_step) (sym (cores.rolls-Bound i)) ∙ fold-roll-Core form.Core Part core_step kid_step (level.Bound i)

pub nameless-Free : (x : Name) (n : ℕ) → nameless (cores.Free x n) ≡ Leaf (form.Free x n)
unfolding nameless
nameless-Free x n = ap (fold-Core form.Core Part core_step kid_step) (sym (cores.rolls-Free x n)) ∙ fold-roll-Core form.Core Part core_step kid_step (level.Free x n)

pub nameless-Node : (op : Op) (kids : List CoreKid) → nameless (cores.Node op kids) ≡ tree.Node op (nameless_row kids)
unfolding nameless
nameless-Node op kids =
    ap (fold-Core form.Core Part core_step kid_step) (sym (cores.rolls-Node op kids)) ∙ fold-roll-Core form.Core Part core_step kid_step (level.Node op kids) ∙ ap (tree.Node op) (row_of_parts kids)

-- One more part at the end.
pub nameless_row-append : (ks js : List CoreKid) → nameless_row (ks ++ js) ≡ nameless_row ks +++ nameless_row js
unfolding nameless_row
nameless_row-append [] js = refl
nameless_row-append (k ∷ ks) js = ap (kid k.binder (nameless k.body)) (nameless_row-append ks js)

pub nameless_row-push : (ks : List CoreKid) (k : CoreKid) → nameless_row (ks ++ k ∷ []) ≡ nameless_row ks +++ kid k.binder (nameless k.body) end
unfolding nameless_row
nameless_row-push ks k = nameless_row-append ks (k ∷ [])

-- What is left of the parts at a place, by the part that a loop over the slice reads there.
pub nameless_row-drop_item : (ks : List CoreKid) (i : ℕ) (k : CoreKid) → i < length ks → k ≡ get_or ks i k →
    nameless_row (drop i ks) ≡ kid k.binder (nameless k.body) (nameless_row (drop (i + 1) ks))
nameless_row-drop_item ks i k h e =
    ap nameless_row (drop_more ks i k h) ∙ nameless_row-cons (get_or ks i k) (drop (i + 1) ks)
    ∙ ap (λ j. kid j.binder (nameless j.body) (nameless_row (drop (i + 1) ks))) (sym e)

pub nameless_row-drop_all : (ks : List CoreKid) (i : ℕ) → length ks ≤ i → nameless_row (drop i ks) ≡ end
nameless_row-drop_all ks i h = ap nameless_row (drop_all i ks h) ∙ nameless_row-nil
