-- A rule asks for the normal forms of the first three parts, and for the universes of the types of the first two.
use Rattle.std.specs.Prelude.{◌≡◌, ◌<◌, ℕ, Bool, true, false, List, [], ◌∷◌, map, Option, Some, None, option_map}
use Rattle.std.proofs.Common.{arith, rules, subst as along}
use Rattle.dh_syntax.specs.declared.expressions.Op.{Op}
use Rattle.dh_syntax.specs.declared.expressions.Op.TheVariants as ops
use Rattle.dh_syntax.specs.declared.operators.BinOp.{BinOp}
use Rattle.dh_syntax.specs.declared.operators.BinOp.TheVariants as bins
use Rattle.dh_syntax.specs.declared.operators.Builtin.{Builtin}
use Rattle.dh_syntax.specs.declared.operators.Builtin.TheVariants as builtins
use Rattle.dh_syntax.specs.Expressions.Forms.{Fields}
use Rattle.dh_syntax.specs.Expressions.Tree.{Name}
use Rattle.dh_syntax.specs.Names.Nameless.{Ref, Core}
use Rattle.dh_syntax.specs.Typing.NamelessTyping.{core_scopes}
use Rattle.dh_syntax.specs.Typing.TypeRules as rule
use Rattle.dh_syntax.specs.Typing.TypeRules.{Rule}
use Rattle.dh_syntax.specs.Typing.TypeRulesOperators as operators
use Rattle.dh_syntax.specs.Typing.TypeRulesRecords as records
use Rattle.dh_syntax.specs.Typing.TypeRulesUnions as unions
use Rattle.dh_syntax.specs.Typing.TypeRuling as ruling
use Rattle.dh_syntax.specs.Typing.TypeRuling.{Ruling, require, given}
use Rattle.dh_syntax.specs.Typing.TypeViews.{first_of, Alternatives}
use Rattle.dh_syntax.specs.Expressions.Views.{as_record_type}
use Rattle.dh_types.specs.declared.steps.Found.{Found}
use Rattle.dh_types.specs.declared.steps.Step.TheVariants as steps
use Rattle.dh_types.specs.Following as course
use Rattle.dh_types.specs.Following.{Facts, Course, known_or, follow, facts_of, course_of}
use Rattle.dh_infer.specs.Inside.Rests.{op_of, rule_of, IsStepOf}

abbrev pub IsModest : Ruling Core → Type 0
IsModest (ruling.Takes t) = Unit {0}
IsModest (ruling.Forms t) = Unit {0}
IsModest (ruling.Refuses r) = Unit {0}
IsModest (ruling.WithNormal k next) = (k < 3) × ((e : Core) → IsModest (next e))
IsModest (ruling.WithUniverse k next) = (k < 2) × ((u : Option Builtin) → IsModest (next u))

abbrev IsModestIf : Option (Ruling Core) → Type 0
IsModestIf (Some r) = IsModest r
IsModestIf None = Unit {0}

-- ---- checks

required : (b : Bool) (q : Rule) (r : Ruling Core) → IsModest r → IsModest (require b q r)
required true q r h = h
required false q r h = tt

having : {X : Type 0} (o : Option X) (q : Rule) (next : X → Ruling Core) → ((x : X) → IsModest (next x)) → IsModest (given o q next)
having (Some x) q next h = h x
having None q next h = tt

-- ---- operators, lists, texts, assertions, equivalences and annotations

modest-if : (p l r : Core) → IsModest (operators.if_then_else core_scopes p l r)
modest-if p l r = search (rules, arith, required, having)

modest-two : (b : Builtin) (l r : Core) → IsModest (operators.two_of core_scopes b l r)
modest-two b l r = search (rules, required, having)

modest-append : (l r : Core) → IsModest (operators.list_append core_scopes l r)
modest-append l r = search (rules, required, having)

modest-empty : IsModest (operators.empty_list core_scopes)
modest-empty = (omega arith, λ t. search (rules, required, having))

modest-list : (t : Core) (ts : List Core) → IsModest (operators.list core_scopes t ts)
modest-list t ts = (omega arith, λ u. search (rules, required, having))

modest-some : (t : Core) → IsModest (operators.some core_scopes t)
modest-some t = (omega arith, λ u. search (rules, required, having))

modest-text : (ts : List Core) → IsModest (operators.text core_scopes ts)
modest-text ts = search (rules, required, having)

modest-assert : (t : Core) → IsModest (operators.assert core_scopes t)
modest-assert t = search (rules, arith, required, having)

modest-equivalence : (l r : Core) → IsModest (operators.equivalence core_scopes l r)
modest-equivalence l r = search (rules, arith, required, having)

modest-annotation : (t : Core) → IsModest (operators.annotation core_scopes t)
modest-annotation t = (omega arith, λ r. search (rules, required, having))

modest-binary : (o : BinOp) (l r : Core) → IsModestIf (operators.operator core_scopes o l r)
modest-binary bins.Or l r = modest-two builtins.Bool l r
modest-binary bins.And l r = modest-two builtins.Bool l r
modest-binary bins.Equal l r = modest-two builtins.Bool l r
modest-binary bins.NotEqual l r = modest-two builtins.Bool l r
modest-binary bins.Plus l r = modest-two builtins.Natural l r
modest-binary bins.Times l r = modest-two builtins.Natural l r
modest-binary bins.TextAppend l r = modest-two builtins.Text l r
modest-binary bins.ListAppend l r = modest-append l r
modest-binary bins.Equivalent l r = modest-equivalence l r
modest-binary o l r = tt

modest-operator : (op : Op) (ts : List Core) → IsModestIf (operators.operator_ruling core_scopes op ts)
modest-operator ops.If (p ∷ l ∷ r ∷ []) = modest-if p l r
modest-operator (ops.Bin o) (l ∷ r ∷ []) = modest-binary o l r
modest-operator ops.EmptyList ts = modest-empty
modest-operator ops.List (t ∷ ts) = modest-list t ts
modest-operator ops.Some (t ∷ []) = modest-some t
modest-operator (ops.Text ps) ts = modest-text ts
modest-operator ops.Assert (t ∷ []) = modest-assert t
modest-operator ops.Annot (t ∷ ts) = modest-annotation t
modest-operator op ts = tt

-- ---- records and unions

modest-greatest : (q : Rule) (ts : List Core) → IsModest (records.greatest_of q ts)
modest-greatest q ts = search (rules, required, having)

modest-alternative : (x : Name) (u : Core) (o : Option Core) → IsModest (records.alternative core_scopes x u o)
modest-alternative x u (Some t) = tt
modest-alternative x u None = tt

modest-taken : (o : Option Core) (r : Ruling Core) → IsModest r → IsModest (records.taken_or core_scopes o r)
modest-taken (Some t) r h = tt
modest-taken None r h = h

modest-selection : (x : Name) (t : Core) → IsModest (records.selection core_scopes x t)
modest-selection x t = search (rules, arith, required, having, modest-taken, modest-alternative)

modest-projection : (xs : List Name) (t : Core) → IsModest (records.projection core_scopes xs t)
modest-projection xs t = search (rules, required, having)

modest-typed : (t : Core) → IsModest (records.typed_projection core_scopes t)
modest-typed t = search (rules, arith, required, having)

modest-literal : (xs : List Name) (ts : List Core) → IsModest (records.record_literal core_scopes xs ts)
modest-literal xs ts = search (rules, required, having)

modest-prefer : (l r : Core) → IsModest (records.prefer core_scopes l r)
modest-prefer l r = search (rules, required, having)

modest-combine : (l r : Core) → IsModest (records.combine core_scopes l r)
modest-combine l r = search (rules, required, having)

modest-combine_types : (t u : Core) → IsModest (records.combine_types core_scopes t u)
modest-combine_types t u = (
  omega arith,
  λ l.
      having (as_record_type l) rule.LeftNoRecordType _
      (λ fs. (omega arith, λ r. search (rules, required, having) depth 12)),
)

modest-update : (path : List Name) (t v : Core) → IsModest (records.update core_scopes path t v)
modest-update path t v = search (rules, required, having)

-- ---- `merge` and `toMap`

modest-handled : (o : Option Core) (h : Core) (next : Core → Ruling Core) → ((r : Core) → IsModest (next r)) → IsModest (unions.handled core_scopes o h next)
modest-handled None h next k = k h
modest-handled (Some t) h next k = search (rules, required, having, k)

modest-agreed : (o : Option Core) (r : Core) (next : Core → Ruling Core) → ((q : Core) → IsModest (next q)) → IsModest (unions.agreed core_scopes o r next)
modest-agreed None r next k = k r
modest-agreed (Some q) r next k = required (core_scopes.same q r) rule.HandlerResultsDiffer (next q) (k q)

modest-all_handled : (o : Option Core) (hs : Fields Ref Name) (alts : Alternatives Ref Name) (next : Option Core → Ruling Core) → ((p : Option Core) → IsModest (next p))
    → IsModest (unions.all_handled core_scopes o hs alts next)
modest-all_handled o [] alts next k = k o
modest-all_handled o ((x, h) ∷ hs) [] next k = k o
modest-all_handled o ((x, h) ∷ hs) ((y, t) ∷ alts) next k = modest-handled t h _ (λ r. modest-agreed o r _ (λ q. modest-all_handled (Some q) hs alts next k))

modest-merged : (b : Bool) (o : Option Core) → IsModest (unions.merged core_scopes b o)
modest-merged true (Some r) = (omega arith, λ t. search (rules, required, having))
modest-merged true None = (omega arith, λ t. tt)
modest-merged false (Some r) = tt
modest-merged false None = tt

modest-merge : (b : Bool) (h u : Core) → IsModest (unions.merge core_scopes b h u)
modest-merge b h u = search (rules, required, having, modest-all_handled, modest-merged)

modest-mapped : (b : Bool) (v : Core) → IsModest (unions.mapped core_scopes b v)
modest-mapped true v = (omega arith, λ t. search (rules, required, having))
modest-mapped false v = tt

modest-entries : (b : Bool) (fs : Fields Ref Name) → IsModest (unions.entries core_scopes b fs)
modest-entries b ((x, v) ∷ fs) = search (rules, arith, required, having, modest-mapped)
modest-entries true [] = (omega arith, λ t. search (rules, required, having))
modest-entries false [] = tt

modest-to_map : (b : Bool) (t : Core) → IsModest (unions.to_map core_scopes b t)
modest-to_map b t = having (as_record_type t) rule.ToMapNoRecord (λ fs. unions.entries core_scopes b fs) (λ fs. modest-entries b fs)

modest-record_binary : (o : BinOp) (l r : Core) → IsModestIf (unions.record_operator core_scopes o l r)
modest-record_binary bins.Prefer l r = modest-prefer l r
modest-record_binary bins.Combine l r = modest-combine l r
modest-record_binary bins.CombineTypes l r = modest-combine_types l r
modest-record_binary o l r = tt

modest-record : (op : Op) (ts : List Core) → IsModestIf (unions.record_ruling core_scopes op ts)
modest-record (ops.RecordType xs) ts = modest-greatest _ ts
modest-record (ops.Record xs) ts = modest-literal xs ts
modest-record (ops.Union alts) ts = modest-greatest _ ts
modest-record (ops.Field x) (t ∷ []) = modest-selection x t
modest-record (ops.Project xs) (t ∷ []) = modest-projection xs t
modest-record ops.ProjectType (t ∷ u ∷ []) = modest-typed t
modest-record (ops.Bin o) (l ∷ r ∷ []) = modest-record_binary o l r
modest-record (ops.Merge b) (h ∷ u ∷ ts) = modest-merge b h u
modest-record (ops.ToMap b) (t ∷ ts) = modest-to_map b t
modest-record (ops.With path) (t ∷ v ∷ []) = modest-update path t v
modest-record op ts = tt

-- ---- all rules

modest-first : (o p : Option (Ruling Core)) → IsModestIf o → IsModestIf p → IsModestIf (first_of o p)
modest-first (Some r) p h k = h
modest-first None p h k = k

modest-rule : (op : Op) (us : List Core) → IsModestIf (rule_of op us)
modest-rule op us = modest-first _ _ (modest-operator op us) (modest-record op us)

-- ---- what is asked for

by-known : {X : Type 0} (here wanted : Course Core) (o : Option X) (next : X → Course Core) (P : Type 0) → (here ≡ wanted → P) → ((x : X) → next x ≡ wanted → P) → known_or here o next ≡ wanted → P
by-known here wanted (Some x) next P f h e = h x e
by-known here wanted None next P f h e = f e

abbrev wants_normal : ℕ → Course Core
wants_normal k = course.WantsNormal k

abbrev wants_universe : ℕ → Course Core
wants_universe k = course.WantsUniverse k

same-normal : (i j : ℕ) → wants_normal i ≡ wants_normal j → i ≡ j
same-normal i j e = cc

same-universe : (i j : ℕ) → wants_universe i ≡ wants_universe j → i ≡ j
same-universe i j e = cc

follows-normal : (facts : Facts Core) (j : ℕ) (r : Ruling Core) → IsModest r → follow facts r ≡ wants_normal j → j < 3
follows-normal facts j (ruling.Takes t) h e = absurd cc
follows-normal facts j (ruling.Forms t) h e = absurd cc
follows-normal facts j (ruling.Refuses q) h e = absurd cc
follows-normal facts j (ruling.WithNormal k next) h e =
    by-known (course.WantsNormal k) (wants_normal j) (facts.normal k) (λ e. follow facts (next e)) (j < 3)
    (λ q. along (λ i. i < 3) (same-normal k j q) h.0) (λ x q. follows-normal facts j (next x) (h.1 x) q) e
follows-normal facts j (ruling.WithUniverse k next) h e =
    by-known (course.WantsUniverse k) (wants_normal j) (facts.universe k) (λ u. follow facts (next u)) (j < 3)
    (λ q. absurd cc) (λ x q. follows-normal facts j (next x) (h.1 x) q) e

follows-universe : (facts : Facts Core) (j : ℕ) (r : Ruling Core) → IsModest r → follow facts r ≡ wants_universe j → j < 2
follows-universe facts j (ruling.Takes t) h e = absurd cc
follows-universe facts j (ruling.Forms t) h e = absurd cc
follows-universe facts j (ruling.Refuses q) h e = absurd cc
follows-universe facts j (ruling.WithNormal k next) h e =
    by-known (course.WantsNormal k) (wants_universe j) (facts.normal k) (λ e. follow facts (next e)) (j < 2)
    (λ q. absurd cc) (λ x q. follows-universe facts j (next x) (h.1 x) q) e
follows-universe facts j (ruling.WithUniverse k next) h e =
    by-known (course.WantsUniverse k) (wants_universe j) (facts.universe k) (λ u. follow facts (next u)) (j < 2)
    (λ q. along (λ i. i < 2) (same-universe k j q) h.0) (λ x q. follows-universe facts j (next x) (h.1 x) q) e

once : {X : Type 0} (x y : X) → Some x ≡ Some y → x ≡ y
once x y h = cc

asked-normal : (facts : Facts Core) (j : ℕ) (o : Option (Ruling Core)) → IsModestIf o → Some (wants_normal j) ≡ option_map (follow facts) o → j < 3
asked-normal facts j (Some r) h e = let q : wants_normal j ≡ follow facts r = once _ _ e in follows-normal facts j r h cc
asked-normal facts j None h e = absurd cc

asked-universe : (facts : Facts Core) (j : ℕ) (o : Option (Ruling Core)) → IsModestIf o → Some (wants_universe j) ≡ option_map (follow facts) o → j < 2
asked-universe facts j (Some r) h e = let q : wants_universe j ≡ follow facts r = once _ _ e in follows-universe facts j r h cc
asked-universe facts j None h e = absurd cc

module _ (g : ℕ → Core) (k : ℕ) (us : List ℕ) (found : Found) (j : ℕ) where
  pub asks-low_normal : IsStepOf g k us found (Some (steps.WantsNormal j)) → j < 3
  asks-low_normal h = asked-normal (facts_of g found) j (rule_of (op_of (g k)) (map g us)) (modest-rule (op_of (g k)) (map g us)) h

  pub asks-low_universe : IsStepOf g k us found (Some (steps.WantsUniverse j)) → j < 2
  asks-low_universe h = asked-universe (facts_of g found) j (rule_of (op_of (g k)) (map g us)) (modest-rule (op_of (g k)) (map g us)) h
