-- The fields of two record types as picks of a merge.
use Rattle.std.specs.Prelude.{◌≡◌, ◌<◌, ◌≤◌, ◌+◌, ◌++◌, ℕ, suc, true, List, [], ◌∷◌, map, length, drop, Option, Some, Result, Ok, Err, IfOk, refl}
use Rattle.std.proofs.Common.{sym, ◌∙◌, ap, get_or, subst as along}
use Rattle.dh_syntax.specs.Expressions.Forms.{Fields, plain_row, record_type}
use Rattle.dh_syntax.specs.Expressions.Labels.{all_fields}
use Rattle.dh_syntax.specs.Expressions.Order.{ascending}
use Rattle.dh_syntax.specs.Expressions.Tree.{Name, Node}
use Rattle.dh_syntax.specs.declared.expressions.Op.TheVariants as ops
use Rattle.dh_syntax.specs.Expressions.Views.{as_record_type}
use Rattle.dh_syntax.specs.Typing.NamelessTyping.{core_scopes}
use Rattle.dh_syntax.specs.Typing.TypeRules as rule
use Rattle.dh_syntax.specs.Typing.TypeRulesRecords.{prefer}
use Rattle.dh_syntax.specs.Typing.TypeRuling.{given}
use Rattle.dh_syntax.specs.Names.Nameless.{Ref, Core}
use Rattle.dh_store.specs.declared.codes.CodeKid.{CodeKid}
use Rattle.dh_store.specs.Cells.{AreBelow, AreKidsBelow}
use Rattle.dh_views.specs.declared.forms.Form.{Form}
use Rattle.dh_views.specs.declared.forms.Form.TheVariants as forms_of
use Rattle.dh_views.specs.Parts as views
use Rattle.dh_views.proofs.FormTrees.{form_core-Cell}
use Rattle.dh_records.specs.declared.merging.Pick.{Pick}
use Rattle.dh_records.specs.Merged.{form_fields, label_of, value_of}
use Rattle.dh_records.specs.Picks.{field_of, AreMerged}
use Rattle.dh_records.proofs.MergedFields.{merged_ascend, merged_ends, one_more, paired_push}
use Rattle.dh_types.specs.Following.{follow, Course, Facts, Forms}
use Rattle.dh_types.specs.Parts.{fields_of}
use Rattle.dh_typerows.specs.declared.preferring.Side.{Side}
use Rattle.dh_typerows.specs.declared.preferring.Side.TheVariants as sides
use Rattle.dh_typerows.specs.Fields.{fields_with, ids, on_side}
use Rattle.dh_typerows.specs.Selections.{preferred}
use Rattle.dh_typerows.proofs.FoundFields.{record-with}

-- these codes as the forms of which merges of records speak
abbrev pub cells : List ℕ → List Form
cells cs = map (λ c. forms_of.Cell c) cs

pub cells-push : (cs : List ℕ) (c : ℕ) → cells (cs ++ c ∷ []) ≡ cells cs ++ forms_of.Cell c ∷ []
cells-push [] c = refl
cells-push (d ∷ cs) c = ap (λ es. forms_of.Cell d ∷ es) (cells-push cs c)

length-cells : (cs : List ℕ) → length (cells cs) ≡ length cs
length-cells [] = refl
length-cells (c ∷ cs) = ap suc (length-cells cs)

both-fields : (x : Name) (e f : Core) (fs gs : Fields Ref Name) → e ≡ f → fs ≡ gs → (x, e) ∷ fs ≡ (x, f) ∷ gs
both-fields x e f fs gs p q = cc

cell-fields : (f : ℕ → Core) (xs : List Name) (cs : List ℕ) → form_fields f xs (cells cs) ≡ fields_with f xs cs
cell-fields f [] cs = refl
cell-fields f (x ∷ xs) [] = refl
cell-fields f (x ∷ xs) (c ∷ cs) = both-fields x _ _ _ _ (form_core-Cell f c) (cell-fields f xs cs)

view-fields : (f : ℕ → Core) (xs : List Name) (cs : List ℕ) → views.fields_of f xs cs ≡ fields_with f xs cs
view-fields f [] cs = refl
view-fields f (x ∷ xs) [] = refl
view-fields f (x ∷ xs) (c ∷ cs) = ap (λ fs. (x, f c) ∷ fs) (view-fields f xs cs)

pub id-fields : (f : ℕ → Core) (xs : List Name) (ks : List CodeKid) → fields_with f xs (ids ks) ≡ fields_of f xs ks
id-fields f [] ks = refl
id-fields f (x ∷ xs) [] = refl
id-fields f (x ∷ xs) (k ∷ ks) = ap (λ fs. (x, f k.code) ∷ fs) (id-fields f xs ks)

pub length-ids : (ks : List CodeKid) → length (ids ks) ≡ length ks
length-ids [] = refl
length-ids (k ∷ ks) = ap suc (length-ids ks)

pub ids-below : (n : ℕ) (ks : List CodeKid) → AreKidsBelow n ks → AreBelow n (ids ks)
ids-below n [] b = tt
ids-below n (k ∷ ks) b = (b.0, ids-below n ks b.1)

module _ (side : Side) (xs ys : List Name) (ls rs : List ℕ) (left : length xs ≡ length ls) (right : length ys ≡ length rs) (ps : List Pick) (all : AreMerged xs ys ps) where
  abbrev F : (ℕ → Core) → Pick → Option (Name × Core)
  F f = field_of (on_side side) (views.fields_of f xs ls) (views.fields_of f ys rs)

  pub picked-more : (f : ℕ → Core) (i : ℕ) (d : Pick) (labels labels' : List Name) (types types' : List ℕ) (x : Name) (c : ℕ) → i < length ps → label_of xs ys (get_or ps i d) ≡ Some x → value_of (on_side side) (map f ls) (map f rs) (get_or ps i d) ≡ Some (f c)
      → length labels ≡ length (cells types) → labels' ≡ labels ++ x ∷ [] → types' ≡ types ++ c ∷ []
      → map (λ g. Some g) (form_fields f labels (cells types)) ++ map (F f) (drop i ps) ≡ map (F f) ps → map (λ g. Some g) (form_fields f labels' (cells types')) ++ map (F f) (drop (i + 1) ps) ≡ map (F f) ps
  picked-more f i d labels labels' types types' x c low label value paired a b so_far =
      one_more f (on_side side) xs ys ls rs left right ps i d labels labels' (cells types) (cells types') x (forms_of.Cell c) all low label (value ∙ ap Some (sym (form_core-Cell f c))) paired a (ap cells b ∙ cells-push types c) so_far

  module _ (i : ℕ) (labels : List Name) (types : List ℕ) (past : length ps ≤ i) (so_far : (f : ℕ → Core) → map (λ g. Some g) (form_fields f labels (cells types)) ++ map (F f) (drop i ps) ≡ map (F f) ps) where
    whole : (f : ℕ → Core) → form_fields f labels (cells types) ≡ all_fields (on_side side) (views.fields_of f xs ls) (views.fields_of f ys rs)
    whole f = merged_ends f (on_side side) xs ys ls rs ps i labels (cells types) left right all past (so_far f)

    pub picked-all : (f : ℕ → Core) → fields_with f labels types ≡ all_fields (on_side side) (fields_with f xs ls) (fields_with f ys rs)
    picked-all f =
        sym (cell-fields f labels types) ∙ whole f ∙ ap (λ fs. all_fields (on_side side) fs (views.fields_of f ys rs)) (view-fields f xs ls) ∙ ap (all_fields (on_side side) (fields_with f xs ls)) (view-fields f ys rs)

    pub picked-ascend : length labels ≡ length (cells types) → ascending xs ≡ true → ascending labels ≡ true
    picked-ascend paired up = merged_ascend (on_side side) xs ys labels ls rs (cells types) left paired up whole

pub unpaired : (labels : List Name) (types : List ℕ) → length labels ≡ length (cells types) → length labels ≡ length types
unpaired labels types h = h ∙ length-cells types

pub paired-push : (labels labels' : List Name) (types types' : List ℕ) (x : Name) (c : ℕ) → length labels ≡ length (cells types) → labels' ≡ labels ++ x ∷ [] → types' ≡ types ++ c ∷ [] → length labels' ≡ length (cells types')
paired-push labels labels' types types' x c h a b = paired_push labels labels' (cells types) (cells types') x (forms_of.Cell c) h a (ap cells b ∙ cells-push types c)

-- the record type of all fields
pub preferred-forms : (facts : Facts Core) (f : ℕ → Core) (xs ys labels : List Name) (kids others : List CodeKid) (ls ls' rs rs' types : List ℕ) → ls ≡ ids kids → ls' ≡ ls → rs ≡ ids others → rs' ≡ rs
    → fields_with f labels types ≡ all_fields (on_side sides.Second) (fields_with f xs ls') (fields_with f ys rs') → length labels ≡ length types
    → Forms (Node (ops.RecordType labels) (plain_row (map f types))) ≡ follow facts (preferred (fields_of f xs kids) (fields_of f ys others))
preferred-forms facts f xs ys labels kids others ls ls' rs rs' types a a' b b' e paired =
    ap Forms
    (sym (record-with f labels types paired) ∙ ap record_type (e ∙ ap (λ cs. all_fields (on_side sides.Second) (fields_with f xs cs) (fields_with f ys rs')) (a' ∙ a) ∙ ap (λ cs. all_fields (on_side sides.Second) (fields_with f xs (ids kids)) (fields_with f ys cs)) (b' ∙ b)
    ∙ ap (λ fs. all_fields (on_side sides.Second) fs (fields_with f ys (ids others))) (id-fields f xs kids) ∙ ap (all_fields (on_side sides.Second) (fields_of f xs kids)) (id-fields f ys others)))

pub ids-counted : (xs : List Name) (ks : List CodeKid) (cs ds : List ℕ) → cs ≡ ids ks → ds ≡ cs → length xs ≡ length ks → length xs ≡ length ds
ids-counted xs ks cs ds a b h = h ∙ sym (length-ids ks) ∙ sym (ap length (b ∙ a))

pub ids-there : (n : ℕ) (ks : List CodeKid) (cs ds : List ℕ) → cs ≡ ids ks → ds ≡ cs → AreKidsBelow n ks → AreBelow n ds
ids-there n ks cs ds a b h = along (AreBelow n) (sym (b ∙ a)) (ids-below n ks h)

-- what follows once both sides are known to be record types
pub preferred-sides : {E : Type 0} {D : Type 0} (P : D → Facts Core → Course Core) (l r : Core) (fs gs : Fields Ref Name) (o : Result D E) → Some fs ≡ as_record_type l → Some gs ≡ as_record_type r
    → IfOk o (λ d. (facts : Facts Core) → P d facts ≡ follow facts (preferred fs gs)) → IfOk o (λ d. (facts : Facts Core) → P d facts ≡ follow facts (prefer core_scopes l r))
preferred-sides P l r fs gs (Ok d) a b h = λ facts.
    h facts
    ∙ ap (λ s. follow facts (given s rule.RightNoRecord (λ hs. preferred fs hs))) b
    ∙ ap (λ s. follow facts (given s rule.LeftNoRecord (λ hs. given (as_record_type r) rule.RightNoRecord (λ ks. preferred hs ks)))) a
preferred-sides P l r fs gs (Err x) a b h = tt
