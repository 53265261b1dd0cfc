-- The fields of a record whose entries `toMap` gives.
use Rattle.std.specs.Prelude.{◌≡◌, ◌≤◌, ◌-◌, ◌&&◌, ℕ, Bool, List, [], ◌∷◌, drop, take, length, refl}
use Rattle.std.proofs.Common.{ap, ◌∙◌, arith, get_or}
use Rattle.dh_syntax.specs.Expressions.Tree.{Name}
use Rattle.dh_syntax.specs.Names.Nameless.{Core}
use Rattle.dh_syntax.specs.Normalising.NamelessRuns.{nameless_eq}
use Rattle.dh_syntax.specs.Typing.NamelessTyping.{core_scopes}
use Rattle.dh_syntax.specs.Typing.TypeRules as rule
use Rattle.dh_syntax.specs.Typing.TypeRulesUnions.{entries}
use Rattle.dh_syntax.specs.Typing.TypeRuling.{WithUniverse, require}
use Rattle.dh_syntax.specs.Typing.TypeViews.{each}
use Rattle.dh_store.specs.declared.codes.CodeKid.{CodeKid}
use Rattle.dh_types.specs.Following.{follow, Facts}
use Rattle.dh_types.specs.Parts.{cores_of, fields_of}
use Rattle.dh_typerows.specs.Mapping.{in_universe, some_entries}
use Rattle.dh_typerows.proofs.FoundFields.{take-whole}

each-fields : (v : Core) (f : ℕ → Core) (xs : List Name) (ks : List CodeKid) → length xs ≡ length ks → each (nameless_eq v) (cores_of f ks) ≡ each (λ g. nameless_eq v g.1) (fields_of f xs ks)
each-fields v f [] [] h = refl
each-fields v f [] (k ∷ ks) h = absurd (omega arith)
each-fields v f (x ∷ xs) [] h = absurd (omega arith)
each-fields v f (x ∷ xs) (k ∷ ks) h = ap (λ b. nameless_eq v (f k.code) && b) (each-fields v f xs ks (omega arith))

module _ (f : ℕ → Core) (facts : Facts Core) (annotated : Bool) where
  pub entries-some : (xs : List Name) (ks : List CodeKid) (k : CodeKid) → 1 ≤ length ks → length xs ≡ length ks → k ≡ get_or ks 0 k
      → follow facts (some_entries core_scopes annotated (f k.code) (cores_of f (take (length ks - 1) (drop 1 ks)))) ≡ follow facts (entries core_scopes annotated (fields_of f xs ks))
  entries-some xs [] k l h e = absurd (omega arith)
  entries-some [] (j ∷ ks) k l h e = absurd (omega arith)
  entries-some (x ∷ xs) (j ∷ ks) k l h e =
      ap (λ (i : CodeKid). follow facts (some_entries core_scopes annotated (f i.code) (cores_of f (take (length (j ∷ ks) - 1) ks)))) e
      ∙ ap (λ is. follow facts (some_entries core_scopes annotated (f j.code) (cores_of f is))) (take-whole ks (length (j ∷ ks) - 1) (omega arith))
      ∙ ap (λ b. follow facts (require b rule.ToMapFieldsDiffer (WithUniverse 0 (λ u. in_universe core_scopes annotated (f j.code) u)))) (each-fields (f j.code) f xs ks (omega arith))
