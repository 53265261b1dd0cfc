-- The item of a key that is due, and what is known of its expressions.
use Rattle.std.specs.Prelude.{◌≡◌, ◌⊎◌, ◌≤◌, ◌^◌, ◌&&◌, ℕ, zero, suc, Bool, true, false, if◌then◌else◌, nat_le, List, [], ◌∷◌, Option, Some, None, IfSome, All, refl}
use Rattle.std.specs.Option.{option_map}
use Rattle.std.proofs.Common.{ap, sym, ◌∙◌, subst, arith, inl, inr, leb-true}
use Rattle.std.proofs.lemmas.List.Elements.{All-head, All-tail}
use Rattle.dh_syntax.specs.declared.locations.Digest.{Digest}
use Rattle.dh_syntax.specs.declared.locations.Key.{Key}
use Rattle.dh_syntax.specs.declared.locations.Loc.{Loc}
use Rattle.dh_imports.specs.declared.outcomes.Blame.{Blame}
use Rattle.dh_imports.specs.declared.outcomes.Origin.{Origin}
use Rattle.dh_imports.specs.declared.outcomes.Outcome as program
use Rattle.dh_imports.specs.declared.outcomes.Outcome.TheVariants as variants
use Rattle.dh_syntax.specs.Expressions.Bridge.{term}
use Rattle.dh_syntax.specs.Expressions.Spellable.{IsSpellable, names_spellable, row_spellable, op_spellable, binder_spellable, is_label}
use Rattle.dh_syntax.specs.Expressions.Tree.{Row, Leaf, Node, end, kid, Name, Var, Term}
use Rattle.dh_syntax.specs.Imports.Keys.{bare, key_eq}
use Rattle.dh_imports.specs.Machine.{IsDue}
use Rattle.dh_imports.specs.Outcomes.{Outcome, Good, Bad, Loop, plain, of_blame}
use Rattle.dh_imports.specs.Resolver.{of_bare, of_plan, plan_look}
use Rattle.dh_imports.specs.Walk.{Walked, Ready, Fails, Turns, Needs, walk}
use Rattle.dh_syntax.specs.Limits.{most_index}
use Rattle.dh_syntax.specs.Names.Indices.{IndicesBelow, RowIndicesBelow}
use Rattle.dh_syntax.proofs.Numbers.{and-true_left, and-true_right}
use Rattle.dh_laws.proofs.KeyOrder.{none-some, some-equal}
use Rattle.dh_demand.specs.declared.ends.Next.TheVariants as next
use Rattle.dh_demand.specs.Nexts.{IsNext}
use Rattle.dh_demand.specs.Results.{Row as KeyRow, outcome_at, ask_of}
use Rattle.dh_demand.proofs.Visiting.{Blamed, fault, looped, blamed}
use Rattle.dh_record.specs.declared.entries.Seen.{Seen}
use Rattle.dh_record.specs.declared.entries.Seen.TheVariants as seens
use Rattle.dh_record.specs.declared.items.Item.{Item}
use Rattle.dh_record.specs.declared.rows.recorded.Entrant.{Entrant}
use Rattle.dh_record.specs.Due.{IsItem, IsValued}
use Rattle.dh_record.specs.Items.{by_fault}
use Rattle.dh_record.specs.Rows.{rows_of, seen_by}
use Rattle.dh_record.specs.Values.{IsValue, IsCode, HasValue}
use Rattle.dh_record.proofs.Assembled.{AreValues, walk_fits}
use Rattle.dh_record.proofs.Blaming.{blamed_bare}

-- ---- the values that are known

value_of : (o : Option program.Outcome) (v : Term) (r : Origin) → IfSome o HasValue → option_map plain o ≡ Some (Good v r) → IsValue v
value_of None v r i h = none-some refl h
value_of (Some (variants.Good x s)) v r i h = subst IsValue (good_equal (some-equal h)) i
  where
    good_equal : Good (term x) s ≡ Good v r → term x ≡ v
    good_equal p = ap (λ (o : Outcome). elim o [ Good y q ↦ y | Bad b ↦ v | Loop j ↦ v ]) p
value_of (Some (variants.Bad b)) v r i h = go (of_blame b.at b.why) (blamed b.at b.why) h
  where
    go : (o : Outcome) → Blamed (record { at = b.at; why = b.why }) o → Some o ≡ Some (Good v r) → IsValue v
    go _ fault p = cc
    go _ (looped q) p = cc

pub values_known : (es : List Entrant) → All IsValued es → AreValues (ask_of (rows_of es))
values_known [] h k v o p = none-some refl p
values_known (e ∷ es) h k v o p = go (key_eq e.key k) p (λ q. values_known es (All-tail IsValued e es h) k v o q)
  where
    go : (b : Bool) → (if b then option_map plain e.outcome else ask_of (rows_of es) k) ≡ Some (Good v o) → (ask_of (rows_of es) k ≡ Some (Good v o) → IsValue v) → IsValue v
    go true q f = value_of e.outcome v o (All-head IsValued e es h) q
    go false q f = f q

pub valued_at : (es : List Entrant) (n : ℕ) (o : Option program.Outcome) → All IsValued es → outcome_at (rows_of es) n ≡ Some o → IfSome o HasValue
valued_at [] n o h p = none-some refl p
valued_at (e ∷ es) zero o h p = subst (λ x. IfSome x HasValue) (some-equal p) (All-head IsValued e es h)
valued_at (e ∷ es) (suc n) o h p = valued_at es n o (All-tail IsValued e es h) p

-- ---- code

mutual
  spelled_indices : (e : Term) → names_spellable e ≡ true → IndicesBelow (2 ^ 31) e
  spelled_indices (Leaf x) h = let l : x.index ≤ most_index = leb-true x.index most_index (and-true_right (is_label x.name) (nat_le x.index most_index) h) in omega arith
  spelled_indices (Node op r) h = spelled_row r (and-true_right (op_spellable op) (row_spellable r) h)

  spelled_row : (r : Row Var Name) → row_spellable r ≡ true → RowIndicesBelow (2 ^ 31) r
  spelled_row end h = tt
  spelled_row (kid b e r) h =
      let both = and-true_left (binder_spellable b && names_spellable e) (row_spellable r) h in
      (spelled_indices e (and-true_right (binder_spellable b) (names_spellable e) both), spelled_row r (and-true_right (binder_spellable b && names_spellable e) (row_spellable r) h))

pub code_fits : (parent : Option Key) (es : List Entrant) (e v : Term) → All IsValued es → IsSpellable e → walk parent (ask_of (rows_of es)) e ≡ Ready v → IsCode v
code_fits parent es e v h s w =
    let x = walk_fits parent (ask_of (rows_of es)) (values_known es h) e v w in
    record {
      well_formed = x.well_formed s.0;
      shallow = let p = x.shallow in let q = s.1 in omega arith;
      indices = x.indices (2 ^ 31) (omega arith) (spelled_indices e s.2);
    }

pub ready_value : (parent : Option Loc) (rows : List KeyRow) (w : Walked Term) → IsNext parent rows w next.Ready → (v : Term) × (w ≡ Ready v)
ready_value parent rows (Ready v) h = (v, refl)
ready_value parent rows (Fails b) h = absurd h
ready_value parent rows (Turns j) h = absurd h
ready_value parent rows (Needs k) h = absurd h
