use Rattle.std.proofs.Common.{◌≡◌, ap, sym, ◌∙◌, refl, Some, None, subst as along}
use Rattle.std.proofs.lemmas.Bool.{leb-true}
use Rattle.dh_syntax.specs.declared.expressions.Op.TheVariants as ops
use Rattle.dh_syntax.specs.declared.locations.Key.{Key}
use Rattle.dh_syntax.specs.declared.locations.Mode.TheVariants as modes
use Rattle.dh_imports.specs.declared.outcomes.Origin.TheVariants as origins
use Rattle.dh_syntax.specs.Expressions.Tree.{Node, end, Term}
use Rattle.dh_imports.specs.LastStep as last
use Rattle.dh_imports.specs.LastStep.{last_step}
use Rattle.dh_imports.specs.Outcomes.{Good}
use Rattle.dh_record.specs.Values.{IsValue}
use Rattle.dh_import_tests.proofs.tables.one_finished.Goals as goal

abbrev literal : Term
literal = Node (ops.Nat 1) end

-- a literal is typed, and is its own normal form
literal_comes : (k : Key) → last_step 10 k (last.Code literal None) ≡ Some (Good literal (origins.Fetched None))
unfolding last_step
literal_comes k = refl

literal_value : IsValue literal
literal_value = record { well_formed = (refl, tt); shallow = leb-true _ _ refl; closed = λ x n. refl }

pub of-requires-clause-last : goal.of-requires-clause-last
of-requires-clause-last c = (
  10,
  ap (λ (t : Term). last_step 10 (record { loc = c.in_ok-here.field-0; mode = modes.Code; digest = None }) (last.Code t None)) c.one.ensures
      ∙ literal_comes (record { loc = c.in_ok-here.field-0; mode = modes.Code; digest = None }) ∙ ap (λ (t : Term). Some (Good t (origins.Fetched None))) (sym c.one-2.ensures),
)

pub of-requires-clause-value : goal.of-requires-clause-value
of-requires-clause-value c = along IsValue (sym c.one-2.ensures) literal_value
