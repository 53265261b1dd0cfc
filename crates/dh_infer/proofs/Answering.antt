-- Where the machine begins, and how its end is told.
use Rattle.std.specs.Prelude.{◌≡◌, ◌<◌, ◌⊎◌, ℕ, List, [], reverse, Result, Ok, Err, IfOk, IfErr}
use Rattle.std.proofs.Common.{ap, sym, ◌∙◌, inl, inr, subst as along}
use Rattle.dh_syntax.specs.declared.faults.NormFault.{NormFault}
use Rattle.dh_syntax.specs.declared.faults.NormFault.TheVariants as limits
use Rattle.dh_syntax.specs.declared.faults.TypeFault.TheVariants as faults
use Rattle.dh_syntax.specs.declared.faults.Ill.{Ill}
use Rattle.dh_syntax.specs.Expressions.Arity.{IsWellFormed}
use Rattle.dh_syntax.specs.Expressions.Nesting.{nesting}
use Rattle.dh_syntax.specs.Expressions.Tree.{Leaf}
use Rattle.dh_syntax.specs.Limits.{most_nesting}
use Rattle.dh_syntax.specs.Typing.Inference as of_judgments
use Rattle.dh_syntax.specs.Names.Nameless.{Bound, Core}
use Rattle.dh_store.specs.declared.codes.Codes.{Codes}
use Rattle.dh_store.specs.Cells.{code_core, AreCoded}
use Rattle.dh_norm.specs.Loaded.{IsLoaded}
use Rattle.dh_norm.specs.References.{renamer, opened, start}
use Rattle.dh_norm.proofs.FormedCodes.{form-formed}
use Rattle.dh_terms.proofs.Shapes.{well_formed-of_moved}
use Rattle.dh_infer.specs.declared.frames.Entry.{Entry}
use Rattle.dh_infer.specs.declared.frames.Frame.{Frame}
use Rattle.dh_infer.specs.declared.frames.State.TheVariants as states
use Rattle.dh_infer.specs.declared.frames.Failure.{Failure}
use Rattle.dh_infer.specs.declared.frames.Typer.{Typer}
use Rattle.dh_infer.specs.declared.steps.Ending.TheVariants as endings
use Rattle.dh_infer.specs.Inside.Debts.{whole, Meets}
use Rattle.dh_infer.specs.Inside.Lettered.{lettering, lettered}
use Rattle.dh_infer.specs.Inside.Levels.{IsOf}
use Rattle.dh_infer.specs.Inside.Machine.{IsReady, IsHalted}
use Rattle.dh_infer.specs.Inside.Scopes.{Models, in_scope}
use Rattle.dh_infer.specs.Inside.Steps.{IsAtWork, IsAnswer, Ends}
use Rattle.dh_infer.specs.Inside.TypeAnswers.{Answers, AnswersFault, limit_fault}
use Rattle.dh_infer.proofs.Emptiness.{met-ill, met-wide, met-deep, met-over, met-over_aside, typed-as, typed-deep}
use Rattle.dh_infer.proofs.LevelTypes.{of-sub}
use Rattle.dh_infer.proofs.Lettering.{lettered-start}

-- the machine over these codes, with nothing above
abbrev fresh : Codes → Typer
fresh cs = record { codes = cs; scope = []; levels = []; frames = [] }

module _ (cs : Codes) (k : ℕ) (e : Core) (loaded : IsLoaded cs k (lettered e)) (closed : IsOf 0 (lettered e)) where
  stands : (g : ℕ → Core) → Models cs g → g k ≡ lettered e
  stands g m = m k loaded.there ∙ loaded.core ∙ lettered-start e

  begins-as : (g : ℕ → Core) → Models cs g → in_scope g [] k ≡ lettered e
  begins-as g m = ap (λ d. in_scope (λ j. d) [] k) (stands g m) ∙ of-sub 0 (λ i. Leaf (Bound i)) (lettered e) closed

  fresh-ready : AreCoded cs → IsReady (fresh cs) (states.Type k)
  fresh-ready coded = record {
    coded = coded;
    entries = tt;
    levels = tt;
    frames = tt;
    state = loaded.there;
    sound = λ g m. record { scope = tt; frames = tt; state = along (IsOf 0) (sym (begins-as g m)) closed };
  }

  fresh-work : (units : ℕ) → IsAtWork (units, whole [] (lettered e)) (fresh cs) (states.Type k) units
  fresh-work units g m answer h = along (λ d. Meets units (whole [] d) answer) (begins-as g m) h

  module _ (es : List Entry) (ls : List ℕ) (fs : List Frame) (p : es ≡ []) (q : ls ≡ []) (r : fs ≡ []) where
    abbrev pub begun : Typer
    begun = record { codes = cs; scope = es; levels = ls; frames = fs }

    is-fresh : fresh cs ≡ begun
    is-fresh =
        ap (λ z. record { codes = cs; scope = z; levels = []; frames = [] }) (sym p) ∙ ap (λ z. record { codes = cs; scope = es; levels = z; frames = [] }) (sym q)
        ∙ ap (λ z. record { codes = cs; scope = es; levels = ls; frames = z }) (sym r)

    pub begins-ready : AreCoded cs → IsReady begun (states.Type k)
    begins-ready coded = along (λ m. IsReady m (states.Type k)) is-fresh (fresh-ready coded)

    pub begins-work : (units : ℕ) → IsAtWork (units, whole [] (lettered e)) begun (states.Type k) units
    begins-work units = along (λ m. IsAtWork (units, whole [] (lettered e)) m (states.Type k) units) is-fresh (fresh-work units)

-- ---- limits

module _ (units : ℕ) (e : Core) where
  pub halted-fault : (f : NormFault) → IsHalted (units, whole [] (lettered e)) f → AnswersFault units e (limit_fault f)
  halted-fault limits.Wide m = met-wide units e m
  halted-fault limits.Deep m = met-deep units e m
  halted-fault limits.Spent (inl m) = inl (met-over units e m)
  halted-fault limits.Spent (inr m) = inr (met-over_aside units e m)
  halted-fault limits.Memory m = tt

  -- ---- a place without a type

  pub refused : (g : ℕ → Core) (left : ℕ) (f : Failure) (ill : Ill) → ill.path ≡ reverse f.path.items → ill.rule ≡ f.rule
      → IsAnswer (units, whole [] (lettered e)) g left (endings.Failed f) → AnswersFault units e (faults.Ill ill)
  refused g left f ill p q (r, n, m) = (r, q ∙ n, along (λ path. Answers units e (of_judgments.Ill path r)) (sym p) (met-ill units e (reverse f.path.items) r m))

  -- ---- the type

  module _ (m : Typer) (left t : ℕ) (ends : Ends (units, whole [] (lettered e)) m left (endings.Typed t)) where
    pub written-type : (c : Core) → code_core m.codes t ≡ opened start (lettered c) → Answers units e (of_judgments.Has c left)
    written-type c p = typed-as units e (code_core m.codes t) c left (p ∙ lettered-start c) ends.answer

    pub written-formed : (c : Core) → code_core m.codes t ≡ opened start (lettered c) → IsWellFormed c
    written-formed c p = well_formed-of_moved renamer lettering c (form-formed m.codes ends.coded t (lettered c) ends.there p)

    pub written-fault : (f : NormFault) → (f ≡ limits.Memory) ⊎ ((f ≡ limits.Deep) × (most_nesting < nesting (code_core m.codes t))) → AnswersFault units e (limit_fault f)
    written-fault f (inl p) = along (λ z. AnswersFault units e (limit_fault z)) (sym p) tt
    written-fault f (inr (p, l)) = along (λ z. AnswersFault units e (limit_fault z)) (sym p) (typed-deep units e (code_core m.codes t) left l ends.answer)

-- ---- clauses of results

pub told-ok : {X E : Type 0} (r : Result X E) (P Q : X → Type 0) → ((x : X) → P x → Q x) → IfOk r P → IfOk r Q
told-ok (Ok x) P Q f h = f x h
told-ok (Err e) P Q f h = tt

pub told-err : {X E : Type 0} (r : Result X E) (P Q : E → Type 0) → ((e : E) → P e → Q e) → IfErr r P → IfErr r Q
told-err (Ok x) P Q f h = tt
told-err (Err e) P Q f h = f e h
