-- What the machine keeps beside its state, as it goes on.
use Rattle.std.specs.Prelude.{◌≡◌, ◌<◌, ℕ, map, length, Option, option_map, Some, None, IfSome, slice_get, Result, Ok, Err, IfOk, OnOk}
use Rattle.std.proofs.Common.{Global, Vec, ap, sym, ◌∙◌, arith, subst as along}
use Rattle.dh_syntax.specs.Names.Nameless.{Core, sub}
use Rattle.dh_syntax.specs.Typing.Inference.{Has}
use Rattle.dh_store.specs.declared.codes.Codes.{Codes}
use Rattle.dh_store.specs.Cells.{code_core}
use Rattle.dh_store.specs.Growth.{count}
use Rattle.dh_norm.specs.Answers.{IsNormal}
use Rattle.dh_types.specs.declared.steps.Found.{Found}
use Rattle.dh_types.specs.Growing.{Grows}
use Rattle.dh_infer.specs.declared.facts.Facts.{Facts}
use Rattle.dh_infer.specs.declared.frames.Entry.{Entry}
use Rattle.dh_infer.specs.declared.frames.Frame.{Frame}
use Rattle.dh_infer.specs.declared.frames.Frame.TheVariants as frames
use Rattle.dh_infer.specs.declared.frames.State.{State}
use Rattle.dh_infer.specs.declared.frames.State.TheVariants as states
use Rattle.dh_infer.specs.declared.frames.Typer.{Typer}
use Rattle.dh_syntax.specs.declared.faults.NormFault.{NormFault}
use Rattle.dh_infer.specs.declared.known.Known.{Known}
use Rattle.dh_infer.specs.declared.sharing.Sharing.{Sharing}
use Rattle.dh_infer.specs.Inside.Debts.{whole, HasFound, Root, Comes}
use Rattle.dh_infer.specs.Inside.Facts.{AreFacts, IsTyped, IsTypeOf}
use Rattle.dh_infer.specs.Inside.Known.{IsKnown}
use Rattle.dh_infer.specs.Inside.Levels.{IsOf}
use Rattle.dh_infer.specs.Inside.Machine.{debts, Advances, IsReady, IsSound, Works, with_frame}
use Rattle.dh_infer.specs.Inside.NormalCodes.{IsNormalCode}
use Rattle.dh_infer.specs.Inside.Scopes.{env, in_scope, Models}
use Rattle.dh_infer.specs.Inside.Sharing.{AreShared, IsShareOf}
use Rattle.dh_infer.specs.Inside.Steps.{IsAtWork}
use Rattle.dh_infer.proofs.Leading.{found-of, leads-found, meets-found}
use Rattle.dh_infer.proofs.LevelTypes.{of-sub}
use Rattle.dh_infer.proofs.Modelled.{models-before, models-itself}
use Rattle.dh_infer.proofs.Readiness.{stays}
use Rattle.dh_infer.proofs.RuleSteps.{all-get, get-map, index-map}
use Rattle.dh_infer.proofs.Scoping.{env-there, scope-knows, scope-of}

-- it is true of these codes
abbrev pub Keeps : Codes → Known → Type 0
Keeps cs k = (g : ℕ → Core) → Models cs g → IsKnown g k

-- what was true is so after a step
pub keeps-after : (a b : Typer) (s t : State) (u l : ℕ) (k : Known) → Advances a b s t u l → Keeps a.codes k → Keeps b.codes k
keeps-after a b s t u l k x h g m = h g (x.models g m)

-- ---- the type of a code is known

pub type-known : (m : Typer) (k c u : ℕ) → IsReady m (states.Type k) → ((g : ℕ → Core) → Models m.codes g → g c ≡ g k) → (t : ℕ) → t < count m.codes
    → ((g : ℕ → Core) → Models m.codes g → IsTyped g m.levels c t) → Advances m m (states.Type k) (states.Typed t) u u
type-known m k c u ready same t there h =
    stays m (states.Type k) ready (states.Typed t) u u there
    (λ g l s.
    let a = scope-of g m.scope m.levels s.scope in
    let (o, f) = h g l a in
    found-of (map g m.levels) a (g c) (g t) o f)
    (λ g l s root w.
    let (o, f) = h g l (scope-of g m.scope m.levels s.scope) in
    let alone : in_scope g m.scope k ≡ g c =
    ap (sub (env g m.scope)) (sym (same g l)) ∙ of-sub (length (map g m.levels)) (env g m.scope) (g c) o in
    leads-found (Comes root (debts g m.scope m.levels m.frames)) u (whole (map g m.levels) (in_scope g m.scope k)) w (g t)
    (along (λ z. HasFound (whole (map g m.levels) z) (g t)) (sym alone) f))

-- ---- a type comes to what waits for it

-- the frame waits for the type of this code by itself
abbrev pub WaitsFor : Typer → Frame → ℕ → Type 0
WaitsFor m f c = (g : ℕ → Core) (root : Root) (t u : ℕ) → IsSound g (with_frame f m) (states.Typed t) → Works g root (with_frame f m) (states.Typed t) u → IsTypeOf g m.levels c t

pub waits-universe : (m : Typer) (k at : ℕ) (us : Vec ℕ Global) (found : Found) (left c : ℕ) → slice_get us.items at ≡ Some c → WaitsFor m (frames.Universe k at us found left) c
waits-universe m k at us found left c is g root t u s w = (
  all-get (length (map g m.levels)) (map g us.items) s.frames.0.2 at (g c) (get-map g us.items at ∙ ap (option_map g) is),
  along (λ z. HasFound (whole (map g m.levels) z) (g t)) (index-map g us.items at c is) w.1,
)

pub waits-used : (m : Typer) (i : ℕ) (e : Entry) → slice_get m.scope i ≡ Some e → WaitsFor m (frames.Used i) e.value
waits-used m i e is g root t u s w = (
  (scope-knows g m.scope m.levels s.scope i e is).value,
  along (λ z. HasFound (whole (map g m.levels) z) (g t)) (env-there g m.scope i e is) (meets-found w.0.0 u (whole (map g m.levels) (env g m.scope i)) (g t) w.0.1),
)

pub waits-at : (m : Typer) (f : Frame) (k at : ℕ) (us : Vec ℕ Global) (found : Found) (left : ℕ) → f ≡ frames.Universe k at us found left → (o : Option ℕ) → o ≡ slice_get us.items at
    → IfSome o (λ c. WaitsFor m f c)
waits-at m f k at us found left e (Some c) p = along (λ z. WaitsFor m z c) (sym e) (waits-universe m k at us found left c (sym p))
waits-at m f k at us found left e None p = tt

pub waits-entry : (m : Typer) (f : Frame) (i : ℕ) (e : Entry) → f ≡ frames.Used i → slice_get m.scope i ≡ Some e → WaitsFor m f e.value
waits-entry m f i e p is = along (λ z. WaitsFor m z e.value) (sym p) (waits-used m i e is)

pub waited : (m : Typer) (f : Frame) (c t u : ℕ) → IsReady (with_frame f m) (states.Typed t) → (root : Root) × IsAtWork root (with_frame f m) (states.Typed t) u → WaitsFor m f c
    → (g : ℕ → Core) → Models m.codes g → IsTypeOf g m.levels c t
waited m f c t u ready (root, work) h g k = h g root t u (ready.sound g k) (work g k)

-- ---- the first code like a code

pub settles : (m : Typer) (c t u : ℕ) → IsReady m (states.Typed c) → ((g : ℕ → Core) → Models m.codes g → IsShareOf g c t) → Advances m m (states.Typed c) (states.Typed t) u u
settles m c t u ready h =
    stays m (states.Typed c) ready (states.Typed t) u u (let o = (h (code_core m.codes) (models-itself m.codes)).older in let l = ready.state in omega (arith, o, l))
    (λ g k s. along (IsOf (length (map g m.levels))) (sym (h g k).core) s.state)
    (λ g k s root w. along (λ z. Comes root (debts g m.scope m.levels m.frames) (Has z u)) (sym (h g k).core) w)

pub first-normal : (cs : Codes) (u l : ℕ) (e : (ℕ → Core) → Core) (k j : ℕ) → IsNormalCode cs u l e k → ((g : ℕ → Core) → Models cs g → IsShareOf g k j) → IsNormalCode cs u l e j
first-normal cs u l e k j n h = record {
  there = (let o = (h (code_core cs) (models-itself cs)).older in let l = n.there in omega (arith, o, l));
  normal = λ g m. along (IsNormal u l (e g)) (sym (h g m).core) (n.normal g m);
}

-- ---- steps

pub keeps_ok : (a b : Typer) (s : State) (u l : ℕ) (k : Known) (r : Result State NormFault) → IfOk r (λ t. Advances a b s t u l) → Keeps a.codes k → OnOk r (Keeps b.codes k)
keeps_ok a b s u l k (Ok t) x h = keeps-after a b s t u l k x h
keeps_ok a b s u l k (Err e) x h = tt

pub keeps-joined : (a b : Typer) (k j : Known) → a ≡ b → k ≡ j → Keeps b.codes j → Keeps a.codes k
keeps-joined a b k j p q h = along (λ z. Keeps z.codes k) (sym p) (along (Keeps b.codes) (sym q) h)

pub work-after : (a b : Typer) (s t : State) (u v : ℕ) → (root : Root) × IsAtWork root a s u → Advances a b s t u v → (root : Root) × IsAtWork root b t v
work-after a b s t u v (root, work) x = (root, λ g k. x.works g k root (work g (x.models g k)))

pub keeps-grown : (old new : Codes) (k : Known) → Grows old new → Keeps old k → Keeps new k
keeps-grown old new k grows h g m = h g (models-before old new g grows m)

pub grown_ok : {T : Type 0} (old new : Codes) (k : Known) → Grows old new → Keeps old k → (r : Result T NormFault) → OnOk r (Keeps new k)
grown_ok old new k grows h (Ok t) = keeps-grown old new k grows h
grown_ok old new k grows h (Err e) = tt

pub facts-kept : (g : ℕ → Core) (k : Known) (fs : Facts) → IsKnown g k → AreFacts g fs.found.items → IsKnown g (record k { facts = fs })
facts-kept g k fs h f = record { facts = f; shared = h.shared; forms = h.forms }

pub sharing-kept : (g : ℕ → Core) (k : Known) (s : Sharing) → IsKnown g k → AreShared g s.firsts.items → IsKnown g (record k { sharing = s })
sharing-kept g k s h f = record { facts = h.facts; shared = f; forms = h.forms }
