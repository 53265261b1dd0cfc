-- What stays ready as codes are added, and how a step that changes the state or adds a frame keeps the machine ready.
use Rattle.std.specs.Prelude.{◌≡◌, ◌<◌, ◌≤◌, ℕ, List, [], ◌∷◌, map, length, Option, Some, None, IfSome}
use Rattle.std.proofs.Common.{sym, arith, subst as along}
use Rattle.dh_syntax.specs.Names.Nameless.{Core}
use Rattle.dh_store.specs.declared.codes.Codes.{Codes}
use Rattle.dh_store.specs.Cells.{AreBelow}
use Rattle.dh_store.specs.Growth.{count}
use Rattle.dh_types.specs.declared.steps.Found.{Found}
use Rattle.dh_types.specs.Growing.{Grows}
use Rattle.dh_infer.specs.declared.frames.Entry.{Entry}
use Rattle.dh_infer.specs.declared.frames.Frame.{Frame}
use Rattle.dh_infer.specs.declared.frames.Frame.TheVariants as frames
use Rattle.dh_infer.specs.declared.frames.State.{State}
use Rattle.dh_infer.specs.declared.frames.State.TheVariants as states
use Rattle.dh_infer.specs.declared.frames.Typer.{Typer}
use Rattle.dh_syntax.specs.declared.faults.NormFault.{NormFault}
use Rattle.dh_syntax.specs.declared.faults.NormFault.TheVariants as faults
use Rattle.dh_infer.specs.Inside.Debts.{whole, Root, Goes}
use Rattle.dh_infer.specs.Inside.Machine.{debt_of, debts, outer_scope, outer_levels, IsFrameSound, AreFramesSound, AreFoundBelow, IsFrameThere, AreFramesThere, IsStateThere, IsStateSound, Works, IsSound, IsReady, Advances, Halts, IsHalted, with_frame}
use Rattle.dh_infer.specs.Inside.Levels.{IsOf}
use Rattle.dh_infer.specs.Inside.Scopes.{Models, in_scope, AreEntriesThere}
use Rattle.dh_infer.proofs.Modelled.{models-before}

-- ---- with more codes

some-more : (m n : ℕ) → m ≤ n → (o : Option ℕ) → IfSome o (λ c. c < m) → IfSome o (λ c. c < n)
some-more m n l (Some c) h = omega arith
some-more m n l None h = h

entries-more : (m n : ℕ) → m ≤ n → (es : List Entry) → AreEntriesThere m es → AreEntriesThere n es
entries-more m n l [] h = tt
entries-more m n l (e ∷ es) h = ((omega (arith, h.0.0), some-more m n l e.typed h.0.1), entries-more m n l es h.1)

pub below-more : (m n : ℕ) → m ≤ n → (cs : List ℕ) → AreBelow m cs → AreBelow n cs
below-more m n l [] h = tt
below-more m n l (c ∷ cs) h = (omega (arith, h.0), below-more m n l cs h.1)

found-more : (m n : ℕ) → m ≤ n → (found : Found) → AreFoundBelow m found → AreFoundBelow n found
found-more m n l found h = record { first = some-more m n l found.first h.first; second = some-more m n l found.second h.second; third = some-more m n l found.third h.third }

one-more : (m n c : ℕ) → m ≤ n → c < m → c < n
one-more m n c l h = omega arith

frame-more : (m n : ℕ) → m ≤ n → (f : Frame) → IsFrameThere m f → IsFrameThere n f
frame-more m n l (frames.Function a) h = one-more m n a l h
frame-more m n l (frames.Argument t a) h = (one-more m n t l h.0, one-more m n a l h.1)
frame-more m n l (frames.LambdaDomain x a b) h = (one-more m n a l h.0, one-more m n b l h.1)
frame-more m n l (frames.LambdaBody x a k) h = one-more m n a l h
frame-more m n l (frames.ForallDomain x a b) h = (one-more m n a l h.0, one-more m n b l h.1)
frame-more m n l (frames.ForallRange u) h = tt
frame-more m n l (frames.Value a b) h = (one-more m n a l h.0, one-more m n b l h.1)
frame-more m n l (frames.LetAnnotation t a b) h = (one-more m n t l h.0, one-more m n a l h.1, one-more m n b l h.2)
frame-more m n l (frames.LetValue t a b) h = (one-more m n t l h.0, one-more m n a l h.1, one-more m n b l h.2)
frame-more m n l (frames.LetBody k) h = tt
frame-more m n l (frames.Part k at us) h = (one-more m n k l h.0, below-more m n l us.items h.1)
frame-more m n l (frames.Universe k at us found left) h = (one-more m n k l h.0, below-more m n l us.items h.1, found-more m n l found h.2)
frame-more m n l (frames.CompletedType t r) h = (one-more m n t l h.0, one-more m n r l h.1)
frame-more m n l (frames.CompletedRecord t r) h = (one-more m n t l h.0, one-more m n r l h.1)
frame-more m n l frames.Completion h = tt
frame-more m n l (frames.Used i) h = tt

frames-more : (m n : ℕ) → m ≤ n → (fs : List Frame) → AreFramesThere m fs → AreFramesThere n fs
frames-more m n l [] h = tt
frames-more m n l (f ∷ fs) h = (frame-more m n l f h.0, frames-more m n l fs h.1)

state-more : (m n : ℕ) → m ≤ n → (s : State) → IsStateThere m s → IsStateThere n s
state-more m n l (states.Type k) h = one-more m n k l h
state-more m n l (states.Parts k at us) h = (one-more m n k l h.0, below-more m n l us.items h.1)
state-more m n l (states.Rule k us found) h = (one-more m n k l h.0, below-more m n l us.items h.1, found-more m n l found h.2)
state-more m n l (states.Bind a b k) h = (one-more m n a l h.0, one-more m n b l h.1)
state-more m n l (states.Typed t) h = one-more m n t l h
state-more m n l (states.Failed f) h = tt

-- the same machine over these codes
abbrev pub with_codes : Codes → Typer → Typer
with_codes cs m = record m { codes = cs }

pub ready-grown : (m : Typer) (s : State) (cs : Codes) → Grows m.codes cs → IsReady m s → IsReady (with_codes cs m) s
ready-grown m s cs g r = record {
  coded = g.coded;
  entries = entries-more _ _ g.more m.scope r.entries;
  levels = below-more _ _ g.more m.levels r.levels;
  frames = frames-more _ _ g.more m.frames r.frames;
  state = state-more _ _ g.more s r.state;
  sound = λ f k. (let q = r.sound f (models-before m.codes cs f g k) in record { scope = q.scope; frames = q.frames; state = q.state });
}

pub advances-grown : (m new : Typer) (cs : Codes) (s t : State) (u l : ℕ) → Grows m.codes cs → Advances (with_codes cs m) new s t u l → Advances m new s t u l
advances-grown m new cs s t u l g a = record {
  ready = a.ready;
  models = λ f k. models-before m.codes cs f g (a.models f k);
  works = a.works;
}

pub advances-as : (m new other : Typer) (s t v : State) (u l : ℕ) → new ≡ other → t ≡ v → Advances m other s v u l → Advances m new s t u l
advances-as m new other s t v u l p q a = along (λ z. Advances m z s t u l) (sym p) (along (λ z. Advances m other s z u l) (sym q) a)

-- the machine with such frames
abbrev pub with_frames : List Frame → Typer → Typer
with_frames fs m = record m { frames = fs }

pub advances-pushed : (m : Typer) (fs : List Frame) (f : Frame) (s t : State) (u l : ℕ) → fs ≡ f ∷ m.frames → Advances m (with_frame f m) s t u l → Advances m (with_frames fs m) s t u l
advances-pushed m fs f s t u l p a = along (λ z. Advances m (with_frames z m) s t u l) (sym p) a

-- the same, from another machine
pub advances-to : (old m : Typer) (fs : List Frame) (f : Frame) (s t : State) (u l : ℕ) → fs ≡ f ∷ m.frames → Advances old (with_frame f m) s t u l → Advances old (with_frames fs m) s t u l
advances-to old m fs f s t u l p a = along (λ z. Advances old (with_frames z m) s t u l) (sym p) a

pub memory-halts : (m : Typer) (s : State) (u : ℕ) (h : NormFault) → h ≡ faults.Memory → Halts m s u h
memory-halts m s u h e g k root w = along (IsHalted root) (sym e) tt

-- ---- steps

module _ (m : Typer) (s : State) (ready : IsReady m s) where
  -- another state
  pub stays : (t : State) (u l : ℕ) → IsStateThere (count m.codes) t
      → ((g : ℕ → Core) → Models m.codes g → IsSound g m s → IsStateSound g m.scope m.levels t)
      → ((g : ℕ → Core) → Models m.codes g → IsSound g m s → (root : Root) → Works g root m s u → Works g root m t l)
      → Advances m m s t u l
  stays t u l there sound works = record {
    ready = λ root w. record {
      coded = ready.coded;
      entries = ready.entries;
      levels = ready.levels;
      frames = ready.frames;
      state = there;
      sound = λ g k. (let q = ready.sound g k in record { scope = q.scope; frames = q.frames; state = sound g k q });
    };
    models = λ g k. k;
    works = λ g k. works g k (ready.sound g k);
  }

  -- one more frame, which stands below no further binder, and a code to be typed
  pub pushes : (f : Frame) (c u l : ℕ) → outer_scope f m.scope ≡ m.scope → outer_levels f m.levels ≡ m.levels
      → IsFrameThere (count m.codes) f → c < count m.codes
      → ((g : ℕ → Core) → Models m.codes g → IsSound g m s → IsFrameSound g m.scope m.levels f × IsOf (length (map g m.levels)) (in_scope g m.scope c))
      → ((g : ℕ → Core) → Models m.codes g → IsSound g m s → (root : Root) → Works g root m s u
      → Goes root (debt_of g m.scope m.levels f ∷ debts g m.scope m.levels m.frames) (whole (map g m.levels) (in_scope g m.scope c)) l)
      → Advances m (record m { frames = f ∷ m.frames }) s (states.Type c) u l
  pushes f c u l es ls there below sound works = record {
    ready = λ root w. record {
      coded = ready.coded;
      entries = ready.entries;
      levels = ready.levels;
      frames = (there, ready.frames);
      state = below;
      sound = λ g k. (let q = ready.sound g k in record {
        scope = q.scope;
        frames = (
          (sound g k q).0,
          along (λ z. AreFramesSound g z (outer_levels f m.levels) m.frames) (sym es)
              (along (λ z. AreFramesSound g m.scope z m.frames) (sym ls) q.frames),
        );
        state = (sound g k q).1;
      });
    };
    models = λ g k. k;
    works = λ g k root w.
        along (λ z. Goes root (debt_of g m.scope m.levels f ∷ debts g z (outer_levels f m.levels) m.frames) (whole (map g m.levels) (in_scope g m.scope c)) l) (sym es)
        (along (λ z. Goes root (debt_of g m.scope m.levels f ∷ debts g m.scope z m.frames) (whole (map g m.levels) (in_scope g m.scope c)) l) (sym ls)
        (works g k (ready.sound g k) root w));
  }
