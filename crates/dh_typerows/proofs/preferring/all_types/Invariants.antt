use Rattle.std.proofs.Common.{◌≡◌, ◌++◌, ℕ, Some, drop, length, map}
use Rattle.dh_syntax.specs.Names.Nameless.{Core}
use Rattle.dh_store.specs.Cells.{AreBelow}
use Rattle.dh_views.specs.Parts.{fields_of}
use Rattle.dh_records.specs.Merged.{form_fields}
use Rattle.dh_records.specs.Picks.{field_of}
use Rattle.dh_typerows.specs.Fields.{on_side}
use Rattle.dh_typerows.proofs.PickedFields.{cells}
use Rattle.dh_typerows.proofs.preferring.all_types.Given as goal

abbrev pub invariant-loop-pick : goal.invariant-loop-pick
invariant-loop-pick l = record {
  fields :
      (f : ℕ → Core) →
      map (λ g. Some g) (form_fields f l.labels (cells l.types)) ++ map (field_of (on_side l.side) (fields_of f l.xs l.ls) (fields_of f l.ys l.rs)) (drop l.pick-index l.pick-items)
      ≡ map (field_of (on_side l.side) (fields_of f l.xs l.ls) (fields_of f l.ys l.rs)) l.pick-items;
  paired : length l.labels ≡ length (cells l.types);
  below : (n : ℕ) → AreBelow n l.ls → AreBelow n l.rs → AreBelow n l.types;
}
