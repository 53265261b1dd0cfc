-- What the machine that types keeps from step to step.
use Rattle.std.specs.Prelude.{◌≡◌, ◌<◌, ◌≤◌, ◌⊎◌, ℕ, suc, Bool, true, false, List, [], ◌∷◌, map, length, drop, reverse, Some, IfSome, IsSome, slice_get, slice_index_or}
use Rattle.dh_syntax.specs.declared.faults.NormFault.TheVariants as faults
use Rattle.dh_syntax.specs.Names.Nameless.{Ref, Core}
use Rattle.dh_syntax.specs.Normalising.NamelessRuns.{cores}
use Rattle.dh_syntax.specs.Normalising.Normal.{HasNormalForm}
use Rattle.dh_syntax.specs.declared.expressions.Op.{Op}
use Rattle.dh_syntax.specs.declared.expressions.Op.TheVariants as ops
use Rattle.dh_syntax.specs.Expressions.Tree.{Row, Node, Name}
use Rattle.dh_syntax.specs.Expressions.Views.{bodies}
use Rattle.dh_syntax.specs.Typing.Inference.{Gives, Has, Ill, IsWide, IsDeep, IsOver, IsOverAside}
use Rattle.dh_syntax.specs.Typing.TypeRules as rule
use Rattle.dh_syntax.specs.Typing.TypeRules.{Rule, rule_number}
use Rattle.dh_store.specs.Cells.{nothing, AreBelow, AreCoded}
use Rattle.dh_store.specs.Growth.{count}
use Rattle.dh_types.specs.declared.steps.Found.{Found}
use Rattle.dh_types.specs.Following.{facts_of, normal_found}
use Rattle.dh_typerows.specs.Groups.{IsLabelled}
use Rattle.dh_infer.specs.declared.frames.Entry.{Entry}
use Rattle.dh_infer.specs.declared.frames.Failure.{Failure}
use Rattle.dh_infer.specs.declared.frames.Frame.{Frame}
use Rattle.dh_infer.specs.declared.frames.Frame.TheVariants as frames
use Rattle.dh_infer.specs.declared.frames.State.{State}
use Rattle.dh_infer.specs.declared.frames.State.TheVariants as states
use Rattle.dh_infer.specs.declared.frames.Typer.{Typer}
use Rattle.dh_syntax.specs.declared.faults.NormFault.{NormFault}
use Rattle.dh_infer.specs.Inside.Debts.{whole, Meets, AreUniverses, Debt, Part, Beside, Replaced, Used, Root, Comes, Goes}
use Rattle.dh_types.specs.Binding.{bound_in}
use Rattle.dh_infer.specs.Inside.Levels.{IsOf, IsOfBelow}
use Rattle.dh_infer.specs.Inside.Rests as rests
use Rattle.dh_infer.specs.Inside.Rests.{op_of, bodies_of, universe_next}
use Rattle.dh_infer.specs.Inside.Scopes.{Models, env, in_scope, below_scope, IsScope, AreEntriesThere}

-- ---- what is owed

-- what a frame owes, where these binders stand above it and the variables that have numbers have these types
abbrev pub debt_of : (ℕ → Core) → List Entry → List ℕ → Frame → Debt
debt_of g es ls (frames.Function a) = Part 0 (rests.function_next (map g ls) (in_scope g es a))
debt_of g es ls (frames.Argument t a) = Part 1 (rests.argument_next (map g ls) (g t) (in_scope g es a))
debt_of g es ls (frames.LambdaDomain x a b) = Part 0 (rests.lambda_domain_next (map g ls) x (in_scope g es a) (below_scope g es b))
debt_of g es ls (frames.LambdaBody x a n) = Part 1 (λ t. rests.lambda_body_next (map g ls) x (g a) (bound_in (length (map g (drop 1 ls))) t))
debt_of g es ls (frames.ForallDomain x a b) = Part 0 (rests.forall_domain_next (map g ls) x (in_scope g es a) (below_scope g es b))
debt_of g es ls (frames.ForallRange u) = Part 1 (λ t. rests.range_next (map g ls) u (bound_in (length (map g (drop 1 ls))) t))
debt_of g es ls (frames.Value a b) = Part 0 (rests.value_next (map g ls) (in_scope g es a) (below_scope g es b))
debt_of g es ls (frames.LetAnnotation t a b) = Part 0 (rests.let_annotation_next (map g ls) (in_scope g es t) (in_scope g es a) (below_scope g es b))
debt_of g es ls (frames.LetValue t a b) = Part 1 (rests.let_value_next (map g ls) (in_scope g es t) (in_scope g es a) (below_scope g es b))
debt_of g es ls (frames.LetBody k) = Part k (λ t d. Gives t)
debt_of g es ls (frames.Part k at us) = Part at (rests.part_next (map g ls) (in_scope g es k) at (map g us.items))
debt_of g es ls (frames.Universe k at us found left) =
    Beside left (whole (map g ls) (slice_index_or (map g us.items) at nothing)) (map g ls) (map g us.items) found (universe_next g (map g ls) (in_scope g es k) at (map g us.items) found)
debt_of g es ls (frames.CompletedType t r) = Part 0 (rests.completion_next (map g ls) (in_scope g es t) (in_scope g es r))
debt_of g es ls (frames.CompletedRecord t r) = Part 1 (rests.completed (map g ls) (in_scope g es t) (in_scope g es r))
debt_of g es ls frames.Completion = Replaced rule.CompletionHasNoType
debt_of g es ls (frames.Used i) = Used (whole (map g ls) (env g es i))

-- the binders above what stands below a frame, and the variables that have numbers there
abbrev pub outer_scope : Frame → List Entry → List Entry
outer_scope (frames.LambdaBody x a n) es = drop 1 es
outer_scope (frames.ForallRange u) es = drop 1 es
outer_scope (frames.LetBody k) es = drop 1 es
outer_scope f es = es

-- the types of the numbered variables that are known below a frame
abbrev pub outer_levels : Frame → List ℕ → List ℕ
outer_levels (frames.LambdaBody x a n) ls = drop 1 ls
outer_levels (frames.ForallRange u) ls = drop 1 ls
outer_levels f ls = ls

-- what each frame on the stack owes, where these binders stand above and the numbered variables have these types
abbrev pub debts : (ℕ → Core) → List Entry → List ℕ → List Frame → List Debt
debts g es ls [] = []
debts g es ls (f ∷ fs) = debt_of g es ls f ∷ debts g (outer_scope f es) (outer_levels f ls) fs

-- ---- what is true of what was found

-- the normal forms that were found are those of these parts
abbrev pub AreNormals : (ℕ → Core) → List Core → List Core → Found → Type 0
AreNormals g ts es found = (k c : ℕ) → normal_found found k ≡ Some c → (e : Core) × (slice_get es k ≡ Some e) × HasNormalForm cores e (g c) × IsOf (length ts) (g c)

-- each expression has no variable of a binder that stands above it, and of the numbered ones those below n alone
abbrev pub AreAllOf : ℕ → List Core → Type 0
AreAllOf n [] = Unit {0}
AreAllOf n (e ∷ es) = IsOf n e × AreAllOf n es

-- the code is a node none of whose parts stands under a binder
abbrev pub IsPlainNode : (ℕ → Core) → ℕ → Type 0
IsPlainNode g k = (op : Op) × (r : Row Ref Name) × (g k ≡ Node op r) × IsSome (bodies r)

-- a record has a type for each part before this place, which has no more before it than there are labels
abbrev pub IsCounted : Op → ℕ → ℕ → Type 0
IsCounted (ops.Record xs) n at = (n ≡ at) × (at ≤ length xs)
IsCounted op n at = Unit {0}

-- the nearest binder has a variable with a number, or a value
abbrev pub IsNearest : Bool → List Entry → Type 0
IsNearest b [] = ⊥
IsNearest b (e ∷ es) = e.opened ≡ b

-- what a frame speaks of has variables of lower numbers alone
abbrev pub IsFrameSound : (ℕ → Core) → List Entry → List ℕ → Frame → Type 0
IsFrameSound g es ls (frames.Function a) = IsOf (length (map g ls)) (in_scope g es a)
IsFrameSound g es ls (frames.Argument t a) = IsOf (length (map g ls)) (g t) × IsOf (length (map g ls)) (in_scope g es a)
IsFrameSound g es ls (frames.LambdaDomain x a b) = IsOf (length (map g ls)) (in_scope g es a) × IsOfBelow (length (map g ls)) (below_scope g es b)
IsFrameSound g es ls (frames.LambdaBody x a n) = IsNearest true es × (n ≡ length (drop 1 ls)) × IsOf (length (map g (drop 1 ls))) (g a)
IsFrameSound g es ls (frames.ForallDomain x a b) = IsOf (length (map g ls)) (in_scope g es a) × IsOfBelow (length (map g ls)) (below_scope g es b)
IsFrameSound g es ls (frames.ForallRange u) = IsNearest true es
IsFrameSound g es ls (frames.Value a b) = IsOf (length (map g ls)) (in_scope g es a) × IsOfBelow (length (map g ls)) (below_scope g es b)
IsFrameSound g es ls (frames.LetAnnotation t a b) =
    IsOf (length (map g ls)) (in_scope g es t) × IsOf (length (map g ls)) (in_scope g es a) × IsOfBelow (length (map g ls)) (below_scope g es b)
IsFrameSound g es ls (frames.LetValue t a b) =
    IsOf (length (map g ls)) (in_scope g es t) × IsOf (length (map g ls)) (in_scope g es a) × IsOfBelow (length (map g ls)) (below_scope g es b)
IsFrameSound g es ls (frames.LetBody k) = IsNearest false es
IsFrameSound g es ls (frames.Part k at us) =
    IsPlainNode g k × IsOf (length (map g ls)) (in_scope g es k) × AreAllOf (length (map g ls)) (map g us.items) × IsCounted (op_of (g k)) (suc (length us.items)) (suc at)
IsFrameSound g es ls (frames.Universe k at us found left) =
    IsPlainNode g k × IsOf (length (map g ls)) (in_scope g es k) × AreAllOf (length (map g ls)) (map g us.items)
    × (at < length us.items) × AreNormals g (map g ls) (bodies_of (in_scope g es k)) found × IsLabelled (op_of (g k)) (length us.items)
IsFrameSound g es ls (frames.CompletedType t r) = IsOf (length (map g ls)) (in_scope g es t) × IsOf (length (map g ls)) (in_scope g es r)
IsFrameSound g es ls (frames.CompletedRecord t r) = IsOf (length (map g ls)) (in_scope g es t) × IsOf (length (map g ls)) (in_scope g es r)
IsFrameSound g es ls frames.Completion = Unit {0}
IsFrameSound g es ls (frames.Used i) = i < length es

-- what each frame on the stack speaks of has variables of lower numbers alone
abbrev pub AreFramesSound : (ℕ → Core) → List Entry → List ℕ → List Frame → Type 0
AreFramesSound g es ls [] = Unit {0}
AreFramesSound g es ls (f ∷ fs) = IsFrameSound g es ls f × AreFramesSound g (outer_scope f es) (outer_levels f ls) fs

-- ---- the codes are there

-- the normal forms that were found have codes below n
pub record AreFoundBelow (n : ℕ) (found : Found) : Type 0 where
  pub first : IfSome found.first (λ c. c < n)
  pub second : IfSome found.second (λ c. c < n)
  pub third : IfSome found.third (λ c. c < n)

-- each code of which a frame speaks is below n
abbrev pub IsFrameThere : ℕ → Frame → Type 0
IsFrameThere n (frames.Function a) = a < n
IsFrameThere n (frames.Argument t a) = (t < n) × (a < n)
IsFrameThere n (frames.LambdaDomain x a b) = (a < n) × (b < n)
IsFrameThere n (frames.LambdaBody x a k) = a < n
IsFrameThere n (frames.ForallDomain x a b) = (a < n) × (b < n)
IsFrameThere n (frames.ForallRange u) = Unit {0}
IsFrameThere n (frames.Value a b) = (a < n) × (b < n)
IsFrameThere n (frames.LetAnnotation t a b) = (t < n) × (a < n) × (b < n)
IsFrameThere n (frames.LetValue t a b) = (t < n) × (a < n) × (b < n)
IsFrameThere n (frames.LetBody k) = Unit {0}
IsFrameThere n (frames.Part k at us) = (k < n) × AreBelow n us.items
IsFrameThere n (frames.Universe k at us found left) = (k < n) × AreBelow n us.items × AreFoundBelow n found
IsFrameThere n (frames.CompletedType t r) = (t < n) × (r < n)
IsFrameThere n (frames.CompletedRecord t r) = (t < n) × (r < n)
IsFrameThere n frames.Completion = Unit {0}
IsFrameThere n (frames.Used i) = Unit {0}

-- each code of which the frames on the stack speak is below n
abbrev pub AreFramesThere : ℕ → List Frame → Type 0
AreFramesThere n [] = Unit {0}
AreFramesThere n (f ∷ fs) = IsFrameThere n f × AreFramesThere n fs

-- ---- the machine

-- what a state speaks of is there
abbrev pub IsStateThere : ℕ → State → Type 0
IsStateThere n (states.Type k) = k < n
IsStateThere n (states.Parts k at us) = (k < n) × AreBelow n us.items
IsStateThere n (states.Rule k us found) = (k < n) × AreBelow n us.items × AreFoundBelow n found
IsStateThere n (states.Bind a b k) = (a < n) × (b < n)
IsStateThere n (states.Typed t) = t < n
IsStateThere n (states.Failed f) = Unit {0}

-- it has variables of lower numbers alone
abbrev pub IsStateSound : (ℕ → Core) → List Entry → List ℕ → State → Type 0
IsStateSound g es ls (states.Type k) = IsOf (length (map g ls)) (in_scope g es k)
IsStateSound g es ls (states.Parts k at us) =
    IsPlainNode g k × IsOf (length (map g ls)) (in_scope g es k) × AreAllOf (length (map g ls)) (map g us.items) × IsCounted (op_of (g k)) (length us.items) at
IsStateSound g es ls (states.Rule k us found) =
    IsPlainNode g k × IsOf (length (map g ls)) (in_scope g es k) × AreAllOf (length (map g ls)) (map g us.items)
    × AreNormals g (map g ls) (bodies_of (in_scope g es k)) found × IsLabelled (op_of (g k)) (length us.items)
IsStateSound g es ls (states.Bind a b k) = IsOf (length (map g ls)) (in_scope g es a) × IsOfBelow (length (map g ls)) (below_scope g es b)
IsStateSound g es ls (states.Typed t) = IsOf (length (map g ls)) (g t)
IsStateSound g es ls (states.Failed f) = Unit {0}

-- what is owed in a state, above these debts and with so many units
abbrev pub IsOwed : Root → List Debt → (ℕ → Core) → List Entry → List ℕ → State → ℕ → Type 0
IsOwed root ds g es ls (states.Type k) units = Goes root ds (whole (map g ls) (in_scope g es k)) units
IsOwed root ds g es ls (states.Parts k at us) units = Goes root ds (rests.parts_next (map g ls) (in_scope g es k) at (map g us.items)) units
IsOwed root ds g es ls (states.Rule k us found) units = AreUniverses (map g ls) (map g us.items) found × Goes root ds (rests.rule_next (map g ls) (in_scope g es k) (map g us.items) (facts_of g found)) units
IsOwed root ds g es ls (states.Bind a b k) units = Goes root ds (rests.let_body (map g ls) k (in_scope g es a) (below_scope g es b)) units
IsOwed root ds g es ls (states.Typed t) units = Comes root ds (Has (g t) units)
IsOwed root ds g es ls (states.Failed f) units = (r : Rule) × (f.rule ≡ rule_number r) × Comes root ds (Ill (reverse f.path.items) r)

-- the machine is at work on an inference, in a state and with so many units
abbrev pub Works : (ℕ → Core) → Root → Typer → State → ℕ → Type 0
Works g root m s units = IsOwed root (debts g m.scope m.levels m.frames) g m.scope m.levels s units

-- all that it speaks of is right
pub record IsSound (g : ℕ → Core) (m : Typer) (s : State) : Type 0 where
  pub scope : IsScope g m.scope m.levels
  pub frames : AreFramesSound g m.scope m.levels m.frames
  pub state : IsStateSound g m.scope m.levels s

-- all that it speaks of is there, and right
pub record IsReady (m : Typer) (s : State) : Type 0 where
  pub coded : AreCoded m.codes
  pub entries : AreEntriesThere (count m.codes) m.scope
  pub levels : AreBelow (count m.codes) m.levels
  pub frames : AreFramesThere (count m.codes) m.frames
  pub state : IsStateThere (count m.codes) s
  pub sound : (g : ℕ → Core) → Models m.codes g → IsSound g m s

-- the machine was at work, and is so again
pub record Advances (old new : Typer) (s t : State) (units left : ℕ) : Type 0 where
  pub ready : (root : Root) → ((g : ℕ → Core) → Models new.codes g → Works g root old s units) → IsReady new t
  pub models : (g : ℕ → Core) → Models new.codes g → Models old.codes g
  pub works : (g : ℕ → Core) → Models new.codes g → (root : Root) → Works g root old s units → Works g root new t left

-- what a fault answers
abbrev pub IsHalted : Root → NormFault → Type 0
IsHalted root faults.Wide = Meets root.0 root.1 IsWide
IsHalted root faults.Deep = Meets root.0 root.1 IsDeep
IsHalted root faults.Spent = Meets root.0 root.1 IsOver ⊎ Meets root.0 root.1 IsOverAside
IsHalted root faults.Memory = Unit {0}

-- the machine was at work, and ends with a fault
abbrev pub Halts : Typer → State → ℕ → NormFault → Type 0
Halts old s units halt = (g : ℕ → Core) → Models old.codes g → (root : Root) → Works g root old s units → IsHalted root halt

-- the state says that the rule with this number fails at the expression itself
abbrev pub IsRefusal : ℕ → State → Type 0
IsRefusal rule s = (f : Failure) × (s ≡ states.Failed f) × (f.path.items ≡ []) × (f.rule ≡ rule)

-- the same machine with one more frame
abbrev pub with_frame : Frame → Typer → Typer
with_frame f m = record m { frames = f ∷ m.frames }
