-- A type nests deeper than the limit only where one of the normalisings of its inference is licensed to be too deep.
use Rattle.std.specs.Prelude.{◌≡◌, ◌≤◌, ◌⊎◌, ℕ, zero, suc, pred, nat_lt, Bool, true, false, not, ◌&&◌, is_some, IsTrue, map, List, [], ◌∷◌, Option, Some, None, option_map, option_and_then, slice_get, if◌then◌else◌, refl}
use Rattle.std.proofs.Common.{sym, arith, inl, inr, subst as along}
use Rattle.std.proofs.Math.Dec.{lit≤}
use Rattle.std.proofs.lemmas.Bool.{ltb-false}
use Rattle.dh_syntax.specs.declared.expressions.Op.{Op}
use Rattle.dh_syntax.specs.declared.expressions.Op.TheVariants as ops
use Rattle.dh_syntax.specs.declared.operators.BinOp.{BinOp}
use Rattle.dh_syntax.specs.declared.operators.BinOp.TheVariants as bins
use Rattle.dh_syntax.specs.declared.operators.Builtin.{Builtin}
use Rattle.dh_syntax.specs.declared.operators.Builtin.TheVariants as builtins
use Rattle.dh_syntax.specs.Expressions.Forms as form
use Rattle.dh_syntax.specs.Expressions.Forms.{Fields}
use Rattle.dh_syntax.specs.Expressions.Labels.{field_at, fields_at, all_fields}
use Rattle.dh_syntax.specs.Expressions.Nesting.{nesting, parts_nesting}
use Rattle.dh_syntax.specs.Expressions.Numbers.{bytes_eq}
use Rattle.dh_syntax.specs.Expressions.SameTree.{list_eq}
use Rattle.dh_syntax.specs.Expressions.Tree.{Row, Leaf, Node, end, kid, Name}
use Rattle.dh_syntax.specs.Expressions.Views.{bodies, fields, as_record_type}
use Rattle.dh_syntax.specs.Limits.{most_nesting}
use Rattle.dh_syntax.specs.Names.Nameless.{Ref, Bound, Free, Core, to_core, ren, renaming}
use Rattle.dh_syntax.specs.Normalising.Heads.{Whole, Answer, Found, Wide, Deep, Over, run}
use Rattle.dh_syntax.specs.Normalising.NamelessRuns.{nameless_eq, cores}
use Rattle.dh_syntax.specs.Normalising.Normal.{endless, IsDeepLicensed}
use Rattle.dh_syntax.specs.Typing.BuiltinTypes.{type_of}
use Rattle.dh_syntax.specs.Typing.Inference.{Inference, Gives, Fails, Deeper, FromNormal, FromPart, Aside, Instead, Judgment, Has, Ill, IsWide, IsDeep, IsOver, IsOverAside, IsShallow, after_normal, after_part, after_aside, instead, judged_within, ComesToType, MeetsNormal}
use Rattle.dh_syntax.specs.Typing.NamelessTyping.{mentions, down, nth_type, type_in, core_scopes}
use Rattle.dh_syntax.specs.Typing.Scopes.{Context, enter}
use Rattle.dh_syntax.specs.Typing.TypeRules as rule
use Rattle.dh_syntax.specs.Typing.TypeRules.{Rule}
use Rattle.dh_syntax.specs.Typing.TypeRulesOperators as operators
use Rattle.dh_syntax.specs.Typing.TypeRulesRecords as records
use Rattle.dh_syntax.specs.Typing.TypeRulesUnions as unions
use Rattle.dh_syntax.specs.Typing.TypeRuling.{Ruling, Takes, Forms, Refuses, WithNormal, WithUniverse, require, given, prepend_type}
use Rattle.dh_syntax.specs.Typing.TypeViews.{Alternatives, first_of, each, one_of, is_constant, field_type, as_forall, as_list_type, as_equivalence, as_union_type, alternative_at, as_merged, as_map_type}
use Rattle.dh_syntax.specs.Typing.Typing as typings
use Rattle.dh_syntax.specs.Typing.Typing.{given_form, given_type, typing}
use Rattle.dh_syntax.specs.Typing.Universes.{as_universe, is_type, greater, greatest, function_check}
use Rattle.dh_syntax.proofs.Moves.{nesting-moved}

abbrev deep : Core → Type 0
deep = IsDeepLicensed cores nesting

-- ---- what nests within the limit

abbrev pub Low : Core → Type 0
Low t = nesting t ≤ most_nesting

abbrev AllLow : List Core → Type 0
AllLow [] = Unit {0}
AllLow (t ∷ ts) = Low t × AllLow ts

abbrev LowFields : Fields Ref Name → Type 0
LowFields [] = Unit {0}
LowFields ((x, e) ∷ fs) = Low e × LowFields fs

abbrev LowContext : Context Ref Name → Type 0
LowContext [] = Unit {0}
LowContext ((y, t) ∷ c) = Low t × LowContext c

abbrev Each : {X : Type 0} → (X → Type 0) → Option X → Type 0
Each P None = Unit {0}
Each P (Some x) = P x

low-builtin : (b : Builtin) → Low (form.builtin b)
low-builtin b = lit≤ tt

-- ---- views

first-low : (b : Option Name) (e : Core) (r : Row Ref Name) → parts_nesting (kid b e r) ≤ most_nesting → Low e
first-low b e r l = omega (arith, l)

rest-low : (b : Option Name) (e : Core) (r : Row Ref Name) → parts_nesting (kid b e r) ≤ most_nesting → parts_nesting r ≤ most_nesting
rest-low b e r l = omega (arith, l)

prepended-low : (x : Name) (e : Core) (o : Option (Fields Ref Name)) → Low e → Each LowFields o → Each LowFields (option_map (λ fs. (x, e) ∷ fs) o)
prepended-low x e (Some fs) l k = (l, k)
prepended-low x e None l k = tt

fields-low : (xs : List Name) (r : Row Ref Name) → parts_nesting r ≤ most_nesting → Each LowFields (fields xs r)
fields-low [] end l = tt
fields-low (x ∷ xs) (kid None e r) l = prepended-low x e (fields xs r) (first-low None e r l) (fields-low xs r (rest-low None e r l))
fields-low xs r l = tt

as_record_type-low : (t : Core) → Low t → Each LowFields (as_record_type t)
as_record_type-low (Node (ops.RecordType xs) r) l = fields-low xs r l
as_record_type-low t l = tt

either-low : (b : Bool) (e : Core) (o : Option Core) → Low e → Each Low o → Each Low (if b then Some e else o)
either-low true e o l k = l
either-low false e o l k = k

field_at-low : (x : Name) (fs : Fields Ref Name) → LowFields fs → Each Low (field_at x fs)
field_at-low x [] l = tt
field_at-low x ((y, e) ∷ fs) l = either-low (bytes_eq x y) e (field_at x fs) l.0 (field_at-low x fs l.1)

field_type-low : (x : Name) (t : Core) → Low t → Each Low (field_type x t)
field_type-low x t l = by (as_record_type t) (as_record_type-low t l)
  where
    by : (o : Option (Fields Ref Name)) → Each LowFields o → Each Low (option_and_then (field_at x) o)
    by (Some fs) k = field_at-low x fs k
    by None k = tt

abbrev LowForall : Core × Name × Core → Type 0
LowForall (d, x, b) = Low b

as_forall-low : (t : Core) → Low t → Each LowForall (as_forall t)
as_forall-low (Node ops.Pi (kid None t (kid (Some x) b r))) l = first-low (Some x) b r (rest-low None t (kid (Some x) b r) l)
as_forall-low t l = tt

down-low : (c : Core) → Low c → Each Low (down c)
down-low c l = by (mentions 0 c)
  where
    by : (b : Bool) → Each Low (if b then None else Some (ren (λ k. pred k) c))
    by true = tt
    by false = along (λ n. n ≤ most_nesting) (sym (nesting-moved renaming (λ k. pred k) c)) l

-- ---- rules

-- a rule that takes no type that nests deeper
abbrev LowRuling : Ruling Core → Type 0
LowRuling (Takes t) = Low t
LowRuling (Forms t) = Unit {0}
LowRuling (Refuses r) = Unit {0}
LowRuling (WithNormal k next) = (f : Core) → Low f → LowRuling (next f)
LowRuling (WithUniverse k next) = (o : Option Builtin) → LowRuling (next o)

record IsLow (r : Ruling Core) : Type 0 where
  pub low : LowRuling r

takes : (t : Core) → Low t → IsLow (Takes t)
takes t l = record { low = l }

takes-builtin : (b : Builtin) → IsLow (Takes (form.builtin b))
takes-builtin b = record { low = low-builtin b }

makes : (t : Core) → IsLow (Forms t)
makes t = record { low = tt }

refuses : (r : Rule) → IsLow (Refuses r)
refuses r = record { low = tt }

asks-normal : (k : ℕ) (next : Core → Ruling Core) → ((f : Core) → Low f → IsLow (next f)) → IsLow (WithNormal k next)
asks-normal k next h = record { low = λ f l. (h f l).low }

asks-universe : (k : ℕ) (next : Option Builtin → Ruling Core) → ((o : Option Builtin) → IsLow (next o)) → IsLow (WithUniverse k next)
asks-universe k next h = record { low = λ o. (h o).low }

required : (b : Bool) (r : Rule) (next : Ruling Core) → IsLow next → IsLow (require b r next)
required true r next l = l
required false r next l = refuses r

given-each : {X : Type 0} (P : X → Type 0) (o : Option X) (r : Rule) (next : X → Ruling Core) → Each P o → ((x : X) → P x → IsLow (next x)) → IsLow (given o r next)
given-each P (Some x) r next p k = k x p
given-each P None r next p k = refuses r

given-any : {X : Type 0} (o : Option X) (r : Rule) (next : X → Ruling Core) → ((x : X) → IsLow (next x)) → IsLow (given o r next)
given-any (Some x) r next k = k x
given-any None r next k = refuses r

first-each : {X : Type 0} (P : X → Type 0) (a b : Option X) → Each P a → Each P b → Each P (first_of a b)
first-each P (Some x) b p q = p
first-each P None b p q = q

operator-low : (o : BinOp) (l r : Core) → Low l → Each IsLow (operators.operator core_scopes o l r)
operator-low bins.Or l r k = required (is_constant builtins.Bool l) rule.LeftSide _ (required (is_constant builtins.Bool r) rule.RightSide _ (takes-builtin builtins.Bool))
operator-low bins.And l r k = required (is_constant builtins.Bool l) rule.LeftSide _ (required (is_constant builtins.Bool r) rule.RightSide _ (takes-builtin builtins.Bool))
operator-low bins.Equal l r k = required (is_constant builtins.Bool l) rule.LeftSide _ (required (is_constant builtins.Bool r) rule.RightSide _ (takes-builtin builtins.Bool))
operator-low bins.NotEqual l r k = required (is_constant builtins.Bool l) rule.LeftSide _ (required (is_constant builtins.Bool r) rule.RightSide _ (takes-builtin builtins.Bool))
operator-low bins.Plus l r k = required (is_constant builtins.Natural l) rule.LeftSide _ (required (is_constant builtins.Natural r) rule.RightSide _ (takes-builtin builtins.Natural))
operator-low bins.Times l r k = required (is_constant builtins.Natural l) rule.LeftSide _ (required (is_constant builtins.Natural r) rule.RightSide _ (takes-builtin builtins.Natural))
operator-low bins.TextAppend l r k = required (is_constant builtins.Text l) rule.LeftSide _ (required (is_constant builtins.Text r) rule.RightSide _ (takes-builtin builtins.Text))
operator-low bins.ListAppend l r k = given-any (as_list_type l) rule.LeftSide _ (λ t. required (nameless_eq l r) rule.RightSide _ (takes l k))
operator-low bins.Equivalent l r k = required (nameless_eq l r) rule.SidesDiffer _ (asks-universe _ _ (λ u. required (is_type u) rule.SidesNotInType _ (takes-builtin builtins.TypeConst)))
operator-low _ l r k = tt

operator_ruling-low : (op : Op) (ts : List Core) → AllLow ts → Each IsLow (operators.operator_ruling core_scopes op ts)
operator_ruling-low ops.If (p ∷ l ∷ r ∷ []) k =
    required (is_constant builtins.Bool p) rule.ConditionNoBool _ (asks-universe _ _ (λ u.
    required (is_type u) rule.BranchesNotInType _ (required (nameless_eq l r) rule.BranchesDiffer _ (takes l k.1.0))))
operator_ruling-low (ops.Bin o) (l ∷ r ∷ []) k = operator-low o l r k.0
operator_ruling-low ops.EmptyList ts k = asks-normal _ _ (λ t l. given-any (as_list_type t) rule.EmptyListAnnotation _ (λ x. takes t l))
operator_ruling-low ops.List (t ∷ ts) k =
    asks-universe _ _ (λ u. required (is_type u) rule.ElementsNotInType _ (required (each (nameless_eq t) ts) rule.ElementsDiffer _ (makes (form.list_type t))))
operator_ruling-low ops.Some (t ∷ []) k = asks-universe _ _ (λ u. required (is_type u) rule.SomeNotInType _ (makes (form.call builtins.Optional (t ∷ []))))
operator_ruling-low (ops.Text ps) ts k = required (each (is_constant builtins.Text) ts) rule.InterpolationNoText _ (takes-builtin builtins.Text)
operator_ruling-low ops.Assert (t ∷ []) k =
    required (is_constant builtins.TypeConst t) rule.AssertionNotInType _ (asks-normal _ _ (λ e l.
    given-any (as_equivalence e) rule.AssertionNoEquivalence _ (λ p. required (nameless_eq p.0 p.1) rule.AssertionFails _ (takes e l))))
operator_ruling-low ops.Annot (t ∷ ts) k = asks-normal _ _ (λ r l. required (nameless_eq t r) rule.AnnotationDiffers _ (takes r l))
operator_ruling-low op ts k = tt

taken_or-low : (o : Option Core) (other : Ruling Core) → Each Low o → IsLow other → IsLow (records.taken_or core_scopes o other)
taken_or-low (Some t) other l k = takes t l
taken_or-low None other l k = k

alternative-low : (x : Name) (u : Core) (o : Option Core) → Low u → IsLow (records.alternative core_scopes x u o)
alternative-low x u (Some t) l = makes _
alternative-low x u None l = takes u l

handled-low : (o : Option Core) (h : Core) (next : Core → Ruling Core) → Low h → ((r : Core) → Low r → IsLow (next r)) → IsLow (unions.handled core_scopes o h next)
handled-low None h next l k = k h l
handled-low (Some t) h next l k =
    given-each LowForall (as_forall h) rule.HandlerNoFunction _ (as_forall-low h l) (λ p b.
    required (nameless_eq p.0 t) rule.HandlerNoFunction _ (given-each Low (down p.2) rule.HandlerResultDepends next (down-low p.2 b) k))

agreed-low : (o : Option Core) (r : Core) (next : Core → Ruling Core) → Each Low o → Low r → ((q : Core) → Low q → IsLow (next q)) → IsLow (unions.agreed core_scopes o r next)
agreed-low None r next m l k = k r l
agreed-low (Some q) r next m l k = required (nameless_eq q r) rule.HandlerResultsDiffer (next q) (k q m)

all_handled-low : (o : Option Core) (hs : Fields Ref Name) (alts : Alternatives Ref Name) (next : Option Core → Ruling Core) → Each Low o → LowFields hs
    → ((q : Option Core) → Each Low q → IsLow (next q)) → IsLow (unions.all_handled core_scopes o hs alts next)
all_handled-low o ((x, h) ∷ hs) ((y, t) ∷ alts) next m l k =
    handled-low t h (λ r. unions.agreed core_scopes o r (λ q. unions.all_handled core_scopes (Some q) hs alts next)) l.0
    (λ r lr. agreed-low o r (λ q. unions.all_handled core_scopes (Some q) hs alts next) m lr (λ q lq. all_handled-low (Some q) hs alts next lq l.1 k))
all_handled-low o [] alts next m l k = k o m
all_handled-low o (h ∷ hs) [] next m l k = k o m

merged-low : (annotated : Bool) (o : Option Core) → Each Low o → IsLow (unions.merged core_scopes annotated o)
merged-low true (Some r) l = asks-normal _ _ (λ t k. required (nameless_eq r t) rule.MergeAnnotation _ (takes r l))
merged-low true None l = asks-normal _ _ (λ t k. takes t k)
merged-low false (Some r) l = takes r l
merged-low false None l = refuses _

mapped-low : (annotated : Bool) (v : Core) → IsLow (unions.mapped core_scopes annotated v)
mapped-low true v =
    asks-normal _ _ (λ t l. given-any (as_map_type t) rule.ToMapAnnotation _ (λ w. required (nameless_eq v w) rule.ToMapAnnotation _ (makes (unions.map_type core_scopes v))))
mapped-low false v = makes _

entries-low : (annotated : Bool) (fs : Fields Ref Name) → IsLow (unions.entries core_scopes annotated fs)
entries-low annotated ((x, v) ∷ fs) =
    required (each (λ f. nameless_eq v f.1) fs) rule.ToMapFieldsDiffer _ (asks-universe _ _ (λ u. required (is_type u) rule.ToMapFieldsDiffer _ (mapped-low annotated v)))
entries-low true [] = asks-normal _ _ (λ t l. required (is_some (as_map_type t)) rule.ToMapAnnotation _ (takes t l))
entries-low false [] = refuses _

record_operator-low : (o : BinOp) (l r : Core) → Each IsLow (unions.record_operator core_scopes o l r)
record_operator-low bins.Prefer l r =
    given-any (as_record_type l) rule.LeftNoRecord _ (λ fs. given-any (as_record_type r) rule.RightNoRecord _ (λ gs. makes (form.record_type (all_fields (λ d e. e) fs gs))))
record_operator-low bins.Combine l r =
    given-any (as_record_type l) rule.LeftNoRecord _ (λ fs. given-any (as_record_type r) rule.RightNoRecord _ (λ gs. given-any (records.joined l r) rule.FieldsCollide _ (λ t. makes t)))
record_operator-low bins.CombineTypes t u =
    asks-normal _ _ (λ l k. given-any (as_record_type l) rule.LeftNoRecordType _ (λ fs.
    asks-normal _ _ (λ r m. given-any (as_record_type r) rule.RightNoRecordType _ (λ gs.
    given-any (records.joined l r) rule.FieldTypesCollide _ (λ j.
    given-any (as_universe t) rule.LeftNoRecordType _ (λ c. given-any (as_universe u) rule.RightNoRecordType _ (λ d. takes-builtin (greater c d))))))))
record_operator-low _ l r = tt

record_ruling-low : (op : Op) (ts : List Core) → AllLow ts → Each IsLow (unions.record_ruling core_scopes op ts)
record_ruling-low (ops.RecordType xs) ts k = given-any (records.universes ts) rule.FieldTypeNoUniverse _ (λ cs. takes-builtin (greatest cs))
record_ruling-low (ops.Record xs) ts k = required (not (one_of (is_constant builtins.Sort) ts)) rule.FieldOfSort _ (makes (Node (ops.RecordType xs) (form.plain_row ts)))
record_ruling-low (ops.Union alts) ts k = given-any (records.universes ts) rule.AlternativeNoUniverse _ (λ cs. takes-builtin (greatest cs))
record_ruling-low (ops.Field x) (t ∷ []) k =
    taken_or-low (field_type x t) _ (field_type-low x t k.0) (asks-normal _ _ (λ u l.
    given-any (as_union_type u) rule.NothingToSelect _ (λ alts. given-any (alternative_at x alts) rule.NothingToSelect _ (λ a. alternative-low x u a l))))
record_ruling-low (ops.Project xs) (t ∷ []) k =
    given-any (as_record_type t) rule.ProjectionNoRecord _ (λ fs. given-any (fields_at xs fs) rule.ProjectionLacksField _ (λ gs. makes (form.record_type gs)))
record_ruling-low ops.ProjectType (t ∷ u ∷ []) k =
    given-any (as_record_type t) rule.TypedProjectionNoRecord _ (λ fs. asks-normal _ _ (λ r l.
    given-any (as_record_type r) rule.TypedProjectionNoRecordType _ (λ gs. required (records.all_there core_scopes fs gs) rule.TypedProjectionDiffers _ (takes r l))))
record_ruling-low (ops.Bin o) (l ∷ r ∷ []) k = record_operator-low o l r
record_ruling-low (ops.Merge annotated) (h ∷ u ∷ ts) k =
    given-each LowFields (as_record_type h) rule.HandlersNoRecord _ (as_record_type-low h k.0) (λ hs l.
    given-any (as_merged u) rule.MergeNoUnion _ (λ alts.
    required (list_eq bytes_eq (form.labels_of hs) (map (λ a. a.0) alts)) rule.HandlerLabels _
    (all_handled-low None hs alts (λ result. unions.merged core_scopes annotated result) tt l (merged-low annotated))))
record_ruling-low (ops.ToMap annotated) (t ∷ ts) k = given-any (as_record_type t) rule.ToMapNoRecord _ (λ fs. entries-low annotated fs)
record_ruling-low (ops.With path) (t ∷ v ∷ []) k =
    given-any (records.type_with path v t) rule.UpdateNoRecord _ (λ u. required (not (is_constant builtins.Sort v)) rule.UpdateOfSort _ (makes u))
record_ruling-low op ts k = tt

-- ---- inferences

-- the type that it comes to is within the limit, or one of its normalisings is licensed to be too deep
record Bounded (i : Inference Core) : Type 0 where
  pub bound : (t : Core) → ComesToType cores i t → MeetsNormal cores deep i ⊎ Low t

has-type : (t u : Core) (l k : ℕ) → Has t l ≡ Has u k → t ≡ u
has-type t u l k h = cc

gives-bounded : (t : Core) → Low t → Bounded (Gives t)
gives-bounded t l = record { bound = by }
  where
    by : (u : Core) → ComesToType cores (Gives t) u → MeetsNormal cores deep (Gives t) ⊎ Low u
    by u (units, left, (h, p, r)) = inr (along Low (has-type t u _ _ r) l)

fails-bounded : (r : Rule) → Bounded (Fails r)
fails-bounded r = record { bound = by }
  where
    by : (u : Core) → ComesToType cores (Fails r) u → MeetsNormal cores deep (Fails r) ⊎ Low u
    by u (units, left, (h, p, e)) = absurd cc

deeper-bounded : Bounded Deeper
deeper-bounded = record { bound = by }
  where
    by : (u : Core) → ComesToType cores Deeper u → MeetsNormal cores deep Deeper ⊎ Low u
    by u (units, left, (h, p, e)) = absurd cc

low-or : (f : Core) (b : Bool) → nat_lt most_nesting (nesting f) ≡ b → IsTrue (nat_lt most_nesting (nesting f)) ⊎ Low f
low-or f true e = inl e
low-or f false e = inr (let k = ltb-false most_nesting (nesting f) e in omega (arith, k))

normal-bound : (e : Core) (next : Core → Inference Core) → ((f : Core) → Low f → Bounded (next f)) → (u : Core) → ComesToType cores (FromNormal e next) u
    → MeetsNormal cores deep (FromNormal e next) ⊎ Low u
normal-bound e next k u (units, left, (h, p, r)) = by (run (endless cores) h Whole units e) refl r
  where
    found : (f : Core) (l : ℕ) → run (endless cores) h Whole units e ≡ Found f l → judged_within cores h p l (next f) ≡ Has u left
        → IsTrue (nat_lt most_nesting (nesting f)) ⊎ Low f → MeetsNormal cores deep (FromNormal e next) ⊎ Low u
    found f l q s (inl t) = inl (inl (inr (inr (f, (units, l, (h, q)), t))))
    found f l q s (inr t) = elim ((k f t).bound u (l, left, (h, p, s))) [
      | inl m ↦ inl (inr (f, (units, l, (h, q)), m))
      | inr m ↦ inr m
    ]

    by : (a : Answer Core) → run (endless cores) h Whole units e ≡ a → after_normal a (λ f l. judged_within cores h p l (next f)) ≡ Has u left
        → MeetsNormal cores deep (FromNormal e next) ⊎ Low u
    by (Found f l) q s = found f l q s (low-or f _ refl)
    by (Wide l) q s = absurd cc
    by (Deep l) q s = absurd cc
    by Over q s = absurd cc

normal-bounded : (e : Core) (next : Core → Inference Core) → ((f : Core) → Low f → Bounded (next f)) → Bounded (FromNormal e next)
normal-bounded e next k = record { bound = normal-bound e next k }

part-bound : (n : ℕ) (m : Inference Core) (next : Core → Inference Core) → Bounded m → ((t : Core) → Low t → Bounded (next t)) → (u : Core) → ComesToType cores (FromPart n m next) u
    → MeetsNormal cores deep (FromPart n m next) ⊎ Low u
part-bound n m next b k u (units, left, (h, p, r)) = by (judged_within cores h p units m) refl r
  where
    typed : (v : Core) (l : ℕ) → judged_within cores h p units m ≡ Has v l → judged_within cores h p l (next v) ≡ Has u left
        → MeetsNormal cores deep m ⊎ Low v → MeetsNormal cores deep (FromPart n m next) ⊎ Low u
    typed v l q s (inl d) = inl (inl d)
    typed v l q s (inr t) = elim ((k v t).bound u (l, left, (h, p, s))) [
      | inl d ↦ inl (inr (v, (units, l, (h, p, q)), d))
      | inr w ↦ inr w
    ]

    by : (j : Judgment Core) → judged_within cores h p units m ≡ j → after_part n j (λ t l. judged_within cores h p l (next t)) ≡ Has u left
        → MeetsNormal cores deep (FromPart n m next) ⊎ Low u
    by (Has v l) q s = typed v l q s (b.bound v (units, l, (h, p, q)))
    by (Ill path rule) q s = absurd cc
    by IsWide q s = absurd cc
    by IsDeep q s = absurd cc
    by IsOver q s = absurd cc
    by IsOverAside q s = absurd cc
    by IsShallow q s = absurd cc

part-bounded : (n : ℕ) (m : Inference Core) (next : Core → Inference Core) → Bounded m → ((t : Core) → Low t → Bounded (next t)) → Bounded (FromPart n m next)
part-bounded n m next b k = record { bound = part-bound n m next b k }

aside-bound : (m : Inference Core) (next : Option Core → Inference Core) → ((o : Option Core) → Bounded (next o)) → (u : Core) → ComesToType cores (Aside m next) u
    → MeetsNormal cores deep (Aside m next) ⊎ Low u
aside-bound m next k u (units, left, (h, p, r)) = by (judged_within cores h p p m) refl r
  where
    by : (j : Judgment Core) → judged_within cores h p p m ≡ j → after_aside j (λ o. judged_within cores h p units (next o)) ≡ Has u left
        → MeetsNormal cores deep (Aside m next) ⊎ Low u
    by (Has v l) q s = elim ((k (Some v)).bound u (units, left, (h, p, s))) [
      | inl d ↦ inl (inr (inr (inl (v, (p, l, (h, p, q)), d))))
      | inr w ↦ inr w
    ]
    by (Ill path rule) q s = elim ((k None).bound u (units, left, (h, p, s))) [
      | inl d ↦ inl (inr (inr (inr (path, rule, (p, (h, p, q)), d))))
      | inr w ↦ inr w
    ]
    by IsWide q s = absurd cc
    by IsDeep q s = absurd cc
    by IsOver q s = absurd cc
    by IsOverAside q s = absurd cc
    by IsShallow q s = absurd cc

aside-bounded : (m : Inference Core) (next : Option Core → Inference Core) → ((o : Option Core) → Bounded (next o)) → Bounded (Aside m next)
aside-bounded m next k = record { bound = aside-bound m next k }

instead-type : (a : Judgment Core) (r : Rule) (t : Core) (l : ℕ) → instead a r ≡ Has t l → a ≡ Has t l
instead-type (Has v j) r t l e = e
instead-type (Ill path other) r t l e = absurd cc
instead-type IsWide r t l e = absurd cc
instead-type IsDeep r t l e = absurd cc
instead-type IsOver r t l e = absurd cc
instead-type IsOverAside r t l e = absurd cc
instead-type IsShallow r t l e = absurd cc

instead-bounded : (m : Inference Core) (r : Rule) → Bounded m → Bounded (Instead m r)
instead-bounded m r b = record { bound = by }
  where
    by : (u : Core) → ComesToType cores (Instead m r) u → MeetsNormal cores deep (Instead m r) ⊎ Low u
    by u (units, left, (h, p, e)) = b.bound u (units, left, (h, p, instead-type _ r u left e))

form-each : {X : Type 0} (P : X → Type 0) (o : Option X) (r : Rule) (next : X → Inference Core) → Each P o → ((x : X) → P x → Bounded (next x)) → Bounded (given_form o r next)
form-each P (Some x) r next p k = k x p
form-each P None r next p k = fails-bounded r

form-any : {X : Type 0} (o : Option X) (r : Rule) (next : X → Inference Core) → ((x : X) → Bounded (next x)) → Bounded (given_form o r next)
form-any (Some x) r next k = k x
form-any None r next k = fails-bounded r

type-each : (o : Option Core) (r : Rule) → Each Low o → Bounded (given_type o r)
type-each (Some t) r l = gives-bounded t l
type-each None r l = fails-bounded r

either-bounded : (b : Bool) (i j : Inference Core) → Bounded i → Bounded j → Bounded (if b then i else j)
either-bounded true i j k l = k
either-bounded false i j k l = l

finds : (e : Core) → Bounded (FromNormal e (λ f. Gives f))
finds e = normal-bounded e (λ f. Gives f) gives-bounded

-- ---- the types of built-ins and of variables

type_of-low : (b : Builtin) → Each Low (option_map to_core (type_of b))
type_of-low builtins.TypeConst = lit≤ tt
type_of-low builtins.Kind = lit≤ tt
type_of-low builtins.Sort = tt
type_of-low builtins.Bool = lit≤ tt
type_of-low builtins.Natural = lit≤ tt
type_of-low builtins.Integer = lit≤ tt
type_of-low builtins.Text = lit≤ tt
type_of-low builtins.List = lit≤ tt
type_of-low builtins.Optional = lit≤ tt
type_of-low builtins.None = lit≤ tt
type_of-low builtins.NaturalFold = lit≤ tt
type_of-low builtins.NaturalBuild = lit≤ tt
type_of-low builtins.NaturalIsZero = lit≤ tt
type_of-low builtins.NaturalEven = lit≤ tt
type_of-low builtins.NaturalOdd = lit≤ tt
type_of-low builtins.NaturalToInteger = lit≤ tt
type_of-low builtins.NaturalShow = lit≤ tt
type_of-low builtins.NaturalSubtract = lit≤ tt
type_of-low builtins.IntegerShow = lit≤ tt
type_of-low builtins.IntegerNegate = lit≤ tt
type_of-low builtins.IntegerClamp = lit≤ tt
type_of-low builtins.ListBuild = lit≤ tt
type_of-low builtins.ListFold = lit≤ tt
type_of-low builtins.ListLength = lit≤ tt
type_of-low builtins.ListHead = lit≤ tt
type_of-low builtins.ListLast = lit≤ tt
type_of-low builtins.ListIndexed = lit≤ tt
type_of-low builtins.ListReverse = lit≤ tt
type_of-low builtins.TextShow = lit≤ tt
type_of-low builtins.TextReplace = lit≤ tt

nth-low : (c : Context Ref Name) (i : ℕ) → LowContext c → Each Low (nth_type c i)
nth-low [] i l = tt
nth-low ((y, t) ∷ c) zero l = l.0
nth-low ((y, t) ∷ c) (suc i) l = nth-low c i l.1

type_in-low : (c : Context Ref Name) (r : Ref) → LowContext c → Each Low (type_in c r)
type_in-low c (Bound i) l = nth-low c i l
type_in-low c (Free x n) l = tt

up-low : (c : Context Ref Name) → LowContext c → LowContext (map (λ (y, u). (y, ren (λ k. suc k) u)) c)
up-low [] l = tt
up-low ((y, t) ∷ c) l = (along (λ n. n ≤ most_nesting) (sym (nesting-moved renaming (λ k. suc k) t)) l.0, up-low c l.1)

enter-low : (x : Name) (t : Core) (c : Context Ref Name) → Low t → LowContext c → LowContext (enter core_scopes x t c)
enter-low x t c l k = up-low ((x, t) ∷ c) (l, k)

-- ---- the rules that ask for types of parts

module _ (below : Context Ref Name → Core → Inference Core) (b : (c : Context Ref Name) (e : Core) → LowContext c → Bounded (below c e)) (context : Context Ref Name) (g : LowContext context) where
  settled-bounded : (es ts : List Core) (r : Ruling Core) → LowRuling r → Bounded (typings.settled core_scopes below context es ts r)
  settled-bounded es ts (Takes t) l = gives-bounded t l
  settled-bounded es ts (Forms t) l = finds t
  settled-bounded es ts (Refuses r) l = fails-bounded r
  settled-bounded es ts (WithNormal k next) l = form-any (slice_get es k) rule.NotResolved _ (λ e. normal-bounded e _ (λ f m. settled-bounded es ts (next f) (l f m)))
  settled-bounded es ts (WithUniverse k next) l =
      form-any (slice_get ts k) rule.NotResolved _ (λ t.
      aside-bounded (below context t) _ (λ u. settled-bounded es ts (next (option_and_then as_universe u)) (l (option_and_then as_universe u))))

  unless-bounded : (untyped : Bool) (k : ℕ) (e : Core) (next : Option Core → Inference Core) → ((o : Option Core) → Each Low o → Bounded (next o))
      → Bounded (typings.unless_untyped core_scopes below context untyped k e next)
  unless-bounded true k e next n = n None tt
  unless-bounded false k e next n = part-bounded k (below context e) _ (b context e g) (λ t l. n (Some t) l)

  prepended : (o : Option Core) (ts : List Core) → Each Low o → AllLow ts → AllLow (prepend_type o ts)
  prepended (Some t) ts l k = (l, k)
  prepended None ts l k = k

  parts-bounded : (op : Op) (k : ℕ) (es : List Core) (next : List Core → Inference Core) → ((ts : List Core) → AllLow ts → Bounded (next ts))
      → Bounded (typings.from_parts core_scopes below context op k es next)
  parts-bounded op k [] next n = n [] tt
  parts-bounded op k (e ∷ es) next n =
      unless-bounded (typings.is_annotation core_scopes below context op k && is_constant builtins.Sort e) k e
      (λ t. typings.from_parts core_scopes below context op (suc k) es (λ ts. next (prepend_type t ts)))
      (λ o l. parts-bounded op (suc k) es (λ ts. next (prepend_type o ts)) (λ ts m. n (prepend_type o ts) (prepended o ts l m)))

  grouped-bounded : (op : Op) (es : List Core) → Bounded (typings.grouped core_scopes below context op es)
  grouped-bounded op es =
      parts-bounded op 0 es _ (λ ts l.
      form-each IsLow (first_of (operators.operator_ruling core_scopes op ts) (unions.record_ruling core_scopes op ts)) rule.NotResolved _
      (first-each IsLow _ _ (operator_ruling-low op ts l) (record_ruling-low op ts l)) (λ r m. settled-bounded es ts r m.low))

  let_body-bounded : (k : ℕ) (x : Name) (a e : Core) → Bounded (typings.let_body core_scopes below context k x a e)
  let_body-bounded k x a e = normal-bounded a _ (λ f l. part-bounded k (below context (core_scopes.put x f e)) _ (b context (core_scopes.put x f e) g) gives-bounded)

  generic-bounded : (op : Op) (r : Row Ref Name) → Bounded (given_form (bodies r) rule.NotResolved (λ es. typings.grouped core_scopes below context op es))
  generic-bounded op r = form-any (bodies r) rule.NotResolved _ (λ es. grouped-bounded op es)

  lambda-bounded : (x : Name) (a e : Core) → Bounded (typings.lambda core_scopes below context x a e)
  lambda-bounded x a e =
      part-bounded 0 (below context a) _ (b context a g) (λ c l. form-any (as_universe c) rule.LambdaDomain _ (λ u. normal-bounded a _ (λ f m.
      part-bounded 1 (below (enter core_scopes x f context) e) _ (b (enter core_scopes x f context) e (enter-low x f context m g)) (λ t n.
      either-bounded (is_constant builtins.Sort t) _ _ (fails-bounded rule.LambdaBody) (finds (form.forall x f t))))))

  forall-bounded : (x : Name) (a e : Core) → Bounded (typings.forall core_scopes below context x a e)
  forall-bounded x a e =
      part-bounded 0 (below context a) _ (b context a g) (λ c l. form-any (as_universe c) rule.ForallDomain _ (λ u. normal-bounded a _ (λ f m.
      part-bounded 1 (below (enter core_scopes x f context) e) _ (b (enter core_scopes x f context) e (enter-low x f context m g)) (λ t n.
      form-any (as_universe t) rule.ForallRange _ (λ v. gives-bounded (form.builtin (function_check u v)) (low-builtin (function_check u v)))))))

  let_typed-bounded : (x : Name) (t a e : Core) → Bounded (typings.let_typed core_scopes below context x t a e)
  let_typed-bounded x t a e =
      unless-bounded (typings.is_annotation core_scopes below context (ops.Let true) 0 && is_constant builtins.Sort t) 0 t
      (λ c. FromPart 1 (below context a) (λ u. FromNormal t (λ f. if nameless_eq u f then typings.let_body core_scopes below context 2 x a e else Fails rule.LetAnnotation)))
      (λ c l. part-bounded 1 (below context a) _ (b context a g) (λ u m. normal-bounded t _ (λ f n.
      either-bounded (nameless_eq u f) _ _ (let_body-bounded 2 x a e) (fails-bounded rule.LetAnnotation))))

  application-bounded : (f a : Core) → Bounded (typings.application core_scopes below context f a)
  application-bounded f a =
      part-bounded 0 (below context f) _ (b context f g) (λ t l. part-bounded 1 (below context a) _ (b context a g) (λ u m.
      form-any (as_forall t) rule.NoFunction _ (λ w. either-bounded (nameless_eq u w.0) _ _ (finds (core_scopes.put w.1 a w.2)) (fails-bounded rule.WrongArgument))))

  completion-bounded : (t r : Core) → Bounded (typings.completion core_scopes below context t r)
  completion-bounded t r =
      part-bounded 0 (below context t) _ (b context t g) (λ c l. part-bounded 1 (below context r) _ (b context r g) (λ d m.
      instead-bounded _ rule.CompletionHasNoType (b context _ g)))

  node-bounded : (op : Op) (r : Row Ref Name) → Bounded (typings.node core_scopes below context op r)
  node-bounded (ops.Builtin k) r = type-each (option_map to_core (type_of k)) rule.SortHasNoType (type_of-low k)
  node-bounded (ops.Bool k) r = gives-bounded (form.builtin builtins.Bool) (low-builtin builtins.Bool)
  node-bounded (ops.Nat n) r = gives-bounded (form.builtin builtins.Natural) (low-builtin builtins.Natural)
  node-bounded (ops.Int z) r = gives-bounded (form.builtin builtins.Integer) (low-builtin builtins.Integer)
  node-bounded ops.Lam (kid None a (kid (Some x) e end)) = lambda-bounded x a e
  node-bounded ops.Pi (kid None a (kid (Some x) e end)) = forall-bounded x a e
  node-bounded (ops.Let false) (kid None a (kid (Some x) e end)) = part-bounded 0 (below context a) _ (b context a g) (λ t l. let_body-bounded 1 x a e)
  node-bounded (ops.Let true) (kid None t (kid None a (kid (Some x) e end))) = let_typed-bounded x t a e
  node-bounded ops.App (kid None f (kid None a end)) = application-bounded f a
  node-bounded (ops.Bin bins.Complete) (kid None t (kid None r end)) = completion-bounded t r
  node-bounded op r = generic-bounded op r

-- ---- the law

typing-bounded : (depth : ℕ) (c : Context Ref Name) (e : Core) → LowContext c → Bounded (typing core_scopes depth c e)
typing-bounded zero c e g = deeper-bounded
typing-bounded (suc depth) c (Leaf r) g = type-each (type_in c r) rule.UnboundVariable (type_in-low c r g)
typing-bounded (suc depth) c (Node op r) g = node-bounded (typing core_scopes depth) (λ k f h. typing-bounded depth k f h) c g op r

pub nested-type : (depth : ℕ) (e t : Core) → ComesToType cores (typing core_scopes depth [] e) t → MeetsNormal cores deep (typing core_scopes depth [] e) ⊎ Low t
nested-type depth e t h = (typing-bounded depth [] e tt).bound t h
