-- Nodes whose parts are gathered one at a time.
use Rattle.std.proofs.Common.{◌≡◌, ℕ, suc, ◌+◌, max, true, false, List, [], ◌∷◌, ◌++◌, Some, None, refl, ap, sym, ◌∙◌, arith}
use Rattle.dh_syntax.proofs.Bridge.{term-Node, row_of-nil}
use Rattle.dh_syntax.proofs.Rows.{row_of-push, +++_assoc, +++-end}
use Rattle.dh_syntax.specs.declared.expressions.Expr.TheVariants as expr
use Rattle.dh_syntax.specs.declared.expressions.Kid.{Kid}
use Rattle.dh_syntax.specs.declared.expressions.Op.{Op}
use Rattle.dh_syntax.specs.declared.expressions.Op.TheVariants as ops
use Rattle.dh_syntax.specs.Expressions.Bridge.{term, row_of}
use Rattle.dh_syntax.specs.Expressions.Rows.{◌+++◌}
use Rattle.dh_syntax.specs.Expressions.Tree as tree
use Rattle.dh_syntax.specs.Expressions.Tree.{Row, end, kid, Name, Term, Var}
use Rattle.dh_grammar.specs.Stubs.{Part, Parts, kept, node, row, deepest, note_on}
use Rattle.dh_grammar.specs.Stubs as stubs
use Rattle.dh_operands.specs.Inside.Nodes.{Gathered, nothing, and_part, and_parts, with_annotation}

abbrev pub gathered : Row Var Name → ℕ → Gathered
gathered r n = record { parts = r; nests = n }

pub none_gathered : (ks : List Kid) → ks ≡ [] → gathered (row_of ks) 0 ≡ nothing
none_gathered ks e = ap (λ k. gathered (row_of k) 0) e ∙ ap (λ r. gathered r 0) row_of-nil

pub no_part : (op : Op) (ks : List Kid) → ks ≡ [] → term (expr.Node op ks) ≡ tree.Node op end
no_part op ks e = term-Node op ks ∙ ap (λ k. tree.Node op (row_of k)) e ∙ ap (tree.Node op) row_of-nil

pub one_more : (old new : List Kid) (k : Kid) (m n p : ℕ) → new ≡ old ++ k ∷ [] → n ≡ max m (p + 1) →
    gathered (row_of new) n ≡ and_part (gathered (row_of old) m) k.binder (record { expression = term k.body; nests = p })
one_more old new k m n p e f =
    let deeper : n ≡ max m (suc p) = omega (arith, f) in
    ap (λ ks. gathered (row_of ks) n) e ∙ ap (λ r. gathered r n) (row_of-push old k) ∙ ap (gathered (row_of old +++ kid k.binder (term k.body) end)) deeper

all_gathered : (r : Row Var Name) (n : ℕ) (ps : Parts) → and_parts (gathered r n) ps ≡ gathered (r +++ row ps) (max n (deepest ps))
all_gathered r n [] =
    let most : n ≡ max n 0 = omega arith in
    ap (λ s. gathered s n) (sym (+++-end r)) ∙ ap (gathered (r +++ end)) most
all_gathered r n (p ∷ ps) =
    let most : max (max n (suc p.1.nests)) (deepest ps) ≡ max n (max (suc p.1.nests) (deepest ps)) = omega arith in
    all_gathered (r +++ kid p.0 p.1.expression end) (max n (suc p.1.nests)) ps
    ∙ ap (λ s. gathered s (max (max n (suc p.1.nests)) (deepest ps))) (+++_assoc r (kid p.0 p.1.expression end) (row ps))
    ∙ ap (gathered (r +++ kid p.0 p.1.expression (row ps))) most

-- the node of all parts that were gathered
pub finished : (op : Op) (ps : Parts) (g : Gathered) → g ≡ and_parts nothing ps → kept (tree.Node op g.parts) g.nests ≡ node op ps
finished op ps g e =
    let most : max 0 (deepest ps) ≡ deepest ps = omega arith in
    ap (λ h. kept (tree.Node op h.parts) h.nests) (e ∙ all_gathered end 0 ps) ∙ ap (kept (tree.Node op (row ps))) most

-- an annotation on a node
and_part_last : (r : Row Var Name) (a : Term) → stubs.and_part r a ≡ r +++ kid None a end
and_part_last end a = refl
and_part_last (kid b e r) a = ap (kid b e) (and_part_last r a)

pub noted : (op made : Op) (r : Row Var Name) (p a : Part) → Some made ≡ with_annotation op →
    kept (tree.Node made (r +++ kid None a.expression end)) (max p.nests (suc a.nests)) ≡ note_on (tree.Node op r) p a
noted (ops.Merge false) made r p a h =
    let same : made ≡ ops.Merge true = cc in
    ap (λ o. kept (tree.Node o (r +++ kid None a.expression end)) (max p.nests (suc a.nests))) same
    ∙ ap (λ s. kept (tree.Node (ops.Merge true) s) (max p.nests (suc a.nests))) (sym (and_part_last r a.expression))
noted (ops.ToMap false) made r p a h =
    let same : made ≡ ops.ToMap true = cc in
    ap (λ o. kept (tree.Node o (r +++ kid None a.expression end)) (max p.nests (suc a.nests))) same
    ∙ ap (λ s. kept (tree.Node (ops.ToMap true) s) (max p.nests (suc a.nests))) (sym (and_part_last r a.expression))
noted _ made r p a h = absurd cc

pub not_noted : (op : Op) (r : Row Var Name) (p a : Part) → None ≡ with_annotation op → node ops.Annot ((None, p) ∷ (None, a) ∷ []) ≡ note_on (tree.Node op r) p a
not_noted (ops.Merge false) r p a h = absurd cc
not_noted (ops.ToMap false) r p a h = absurd cc
not_noted _ r p a h = refl
