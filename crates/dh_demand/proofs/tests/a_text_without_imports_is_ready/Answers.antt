use Rattle.std.proofs.Common.{◌≡◌, List, [], None, sym, ap, ◌∙◌, refl, length, ◌<◌, subst as along}
use Rattle.std.proofs.lemmas.List.Elements.{All-nil}
use Rattle.dh_syntax.specs.declared.expressions.Expr.TheVariants as expr
use Rattle.dh_syntax.specs.declared.expressions.Kid.{Kid}
use Rattle.dh_syntax.specs.declared.expressions.Op.TheVariants as ops
use Rattle.dh_syntax.specs.Expressions.Bridge.{term, row_of}
use Rattle.dh_syntax.specs.Expressions.Tree.{Node, end, Term}
use Rattle.dh_imports.specs.Walk.{other, walk, walk_node, walks, keys_of, keys_of_row}
use Rattle.dh_syntax.proofs.Bridge.{row_of-nil, at_term-Node}
use Rattle.dh_demand.specs.declared.scans.Edge.{Edge}
use Rattle.dh_demand.specs.Results.{Row, ask_of}
use Rattle.dh_demand.specs.Scans.{Fits, Begins, AreInside}
use Rattle.dh_demand.specs.Values.{IsReady}
use Rattle.dh_demand.proofs.tests.a_text_without_imports_is_ready.Goals as goal

-- a literal has no imports
no_keys : (ks : List Kid) → ks ≡ [] → keys_of None (term (expr.Node (ops.Nat 3) ks)) ≡ []
no_keys ks h = at_term-Node (keys_of None) (expr.Node (ops.Nat 3) ks) (ops.Nat 3) ks refl ∙ ap (keys_of_row None) (ap row_of h ∙ row_of-nil)

literal_fits : (rows : List Row) (ks : List Kid) (es : List Edge) → ks ≡ [] → es ≡ [] → Fits None rows (term (expr.Node (ops.Nat 3) ks)) es
literal_fits rows ks es h p = record {
  inside = along (AreInside rows) (sym p) (All-nil (λ (e : Edge). e.key < length rows));
  begins = along (λ ls. Begins None rows ls es) (sym (no_keys ks h)) tt;
}

literal_ready : (rows : List Row) (ks : List Kid) (es : List Edge) → ks ≡ [] → es ≡ [] → (parent : _) × (v : Term) × IsReady parent rows (term (expr.Node (ops.Nat 3) ks)) es v
literal_ready rows ks es h p = (
  None,
  Node (ops.Nat 3) end,
  record {
    fits = literal_fits rows ks es h p;
    ready =
        at_term-Node (walk None (ask_of rows)) (expr.Node (ops.Nat 3) ks) (ops.Nat 3) ks refl
        ∙ ap (λ r. walk_node None (ask_of rows) (ops.Nat 3) r other (walks None (ask_of rows) r)) (ap row_of h ∙ row_of-nil);
  },
)

pub next-requires : goal.next-requires
next-requires g c = literal_fits _ _ _ c.new.ensures c.new-2.ensures

pub next_from-first-requires-clause-fits : goal.next_from-first-requires-clause-fits
next_from-first-requires-clause-fits g c = literal_fits _ _ _ c.new.ensures c.new-2.ensures

pub next_from-second-requires-clause-fits : goal.next_from-second-requires-clause-fits
next_from-second-requires-clause-fits g c = literal_fits _ _ _ c.new.ensures c.new-2.ensures

pub wanted-requires-clause-fits : goal.wanted-requires-clause-fits
wanted-requires-clause-fits g c = literal_fits _ _ _ c.new.ensures c.new-2.ensures

pub assemble-requires : goal.assemble-requires
assemble-requires g c = literal_ready _ _ _ c.new.ensures c.new-2.ensures

pub is_assembled-requires : goal.is_assembled-requires
is_assembled-requires g c = literal_ready _ _ _ c.new.ensures c.new-2.ensures

pub is_assembled-requires-2 : goal.is_assembled-requires-2
is_assembled-requires-2 g c = literal_ready _ _ _ c.new.ensures c.new-2.ensures

pub text_path-requires : goal.text_path-requires
text_path-requires g c = literal_fits _ _ _ c.new.ensures c.new-2.ensures

pub keys_behind-requires : goal.keys_behind-requires
keys_behind-requires g c = literal_fits _ _ _ c.new.ensures c.new-2.ensures
