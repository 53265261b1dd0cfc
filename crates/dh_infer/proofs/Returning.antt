-- How a type comes back to a frame, and how the machine ends with a limit.
use Rattle.std.specs.Prelude.{◌≡◌, ◌<◌, ℕ, suc, Bool, true, false, List, [], ◌∷◌, map, length, drop, refl}
use Rattle.std.proofs.Common.{sym, subst as along}
use Rattle.dh_syntax.specs.declared.faults.NormFault.TheVariants as faults
use Rattle.dh_syntax.specs.Names.Nameless.{Core}
use Rattle.dh_syntax.specs.Typing.Inference.{FromNormal}
use Rattle.dh_store.specs.Cells.{AreBelow}
use Rattle.dh_store.specs.Growth.{count}
use Rattle.dh_norm.specs.Answers.{IsNormal}
use Rattle.dh_infer.specs.declared.frames.Entry.{Entry}
use Rattle.dh_infer.specs.declared.frames.Frame.{Frame}
use Rattle.dh_infer.specs.declared.frames.State.{State}
use Rattle.dh_infer.specs.declared.frames.State.TheVariants as states
use Rattle.dh_infer.specs.declared.frames.Typer.{Typer}
use Rattle.dh_syntax.specs.declared.faults.NormFault.{NormFault}
use Rattle.dh_infer.specs.Inside.Debts.{Family, whole, Debt, Root, Comes, Goes}
use Rattle.dh_infer.specs.Inside.Levels.{IsOf}
use Rattle.dh_infer.specs.Inside.Machine.{debt_of, debts, outer_scope, outer_levels, IsFrameSound, AreFramesSound, IsFrameThere, IsStateThere, IsStateSound, IsOwed, IsSound, IsReady, Advances, IsHalted, IsNearest, with_frame}
use Rattle.dh_infer.specs.Inside.Normals.{IsLicensedHalt}
use Rattle.dh_infer.specs.Inside.Scopes.{Models, in_scope, behind, IsScope, AreEntriesThere}
use Rattle.dh_infer.proofs.Leading.{leads-normal, leads-wide, leads-deep, leads-over, ends-wide, ends-deep, ends-over}

-- a type or a fault that comes to a frame: the state before
module _ (m : Typer) (f : Frame) (s : State) (same-scope : outer_scope f m.scope ≡ m.scope) (same-levels : outer_levels f m.levels ≡ m.levels)
    (ready : IsReady (with_frame f m) s) where
  frames-below : (g : ℕ → Core) → IsSound g (with_frame f m) s → AreFramesSound g m.scope m.levels m.frames
  frames-below g q =
      along (λ z. AreFramesSound g z m.levels m.frames) same-scope (along (λ z. AreFramesSound g (outer_scope f m.scope) z m.frames) same-levels q.frames.1)

  debts-below : (g : ℕ → Core) (root : Root) (P : List Debt → Type 0) → P (debts g (outer_scope f m.scope) (outer_levels f m.levels) m.frames) → P (debts g m.scope m.levels m.frames)
  debts-below g root P p = along (λ z. P (debts g z m.levels m.frames)) same-scope (along (λ z. P (debts g (outer_scope f m.scope) z m.frames)) same-levels p)

  -- another state
  pub returns : (t : State) (u l : ℕ) → IsStateThere (count m.codes) t
      → ((g : ℕ → Core) → Models m.codes g → IsSound g (with_frame f m) s → IsStateSound g m.scope m.levels t)
      → ((g : ℕ → Core) → Models m.codes g → IsSound g (with_frame f m) s → (root : Root) → IsOwed root (debt_of g m.scope m.levels f ∷ debts g m.scope m.levels m.frames) g m.scope m.levels s u
      → IsOwed root (debts g m.scope m.levels m.frames) g m.scope m.levels t l)
      → Advances (with_frame f m) m s t u l
  returns t u l there sound works = record {
    ready = λ root w. record {
      coded = ready.coded;
      entries = ready.entries;
      levels = ready.levels;
      frames = ready.frames.1;
      state = there;
      sound = λ g k. (let q = ready.sound g k in record { scope = q.scope; frames = frames-below g q; state = sound g k q });
    };
    models = λ g k. k;
    works = λ g k root w. works g k (ready.sound g k) root (debts-below g root (λ ds. IsOwed root (debt_of g m.scope m.levels f ∷ ds) g m.scope m.levels s u) w);
  }

  -- another frame, which stands below no further binder, and a code to be typed
  pub returns-pushing : (e : Frame) (c u l : ℕ) → outer_scope e m.scope ≡ m.scope → outer_levels e m.levels ≡ m.levels
      → IsFrameThere (count m.codes) e → c < count m.codes
      → ((g : ℕ → Core) → Models m.codes g → IsSound g (with_frame f m) s → IsFrameSound g m.scope m.levels e × IsOf (length (map g m.levels)) (in_scope g m.scope c))
      → ((g : ℕ → Core) → Models m.codes g → IsSound g (with_frame f m) s → (root : Root) → IsOwed root (debt_of g m.scope m.levels f ∷ debts g m.scope m.levels m.frames) g m.scope m.levels s u
      → Goes root (debt_of g m.scope m.levels e ∷ debts g m.scope m.levels m.frames) (whole (map g m.levels) (in_scope g m.scope c)) l)
      → Advances (with_frame f m) (record m { frames = e ∷ m.frames }) s (states.Type c) u l
  returns-pushing e c u l es ls there below sound works = record {
    ready = λ root w. record {
      coded = ready.coded;
      entries = ready.entries;
      levels = ready.levels;
      frames = (there, ready.frames.1);
      state = below;
      sound = λ g k. (let q = ready.sound g k in record {
        scope = q.scope;
        frames = (
          (sound g k q).0,
          along (λ z. AreFramesSound g z (outer_levels e m.levels) m.frames) (sym es) (along (λ z. AreFramesSound g m.scope z m.frames) (sym ls) (frames-below g q)),
        );
        state = (sound g k q).1;
      });
    };
    models = λ g k. k;
    works = λ g k root w.
        along (λ z. Goes root (debt_of g m.scope m.levels e ∷ debts g z (outer_levels e m.levels) m.frames) (whole (map g m.levels) (in_scope g m.scope c)) l) (sym es)
        (along (λ z. Goes root (debt_of g m.scope m.levels e ∷ debts g m.scope z m.frames) (whole (map g m.levels) (in_scope g m.scope c)) l) (sym ls)
        (works g k (ready.sound g k) root (debts-below g root (λ ds. IsOwed root (debt_of g m.scope m.levels f ∷ ds) g m.scope m.levels s u) w)));
  }

-- ---- limits

pub halts-normal : (root : Root) (ds : List Debt) (family : Family) (units : ℕ) (e : Core) (next : Core → Family) → ((d : ℕ) → family d ≡ FromNormal e (λ f. next f d))
    → Goes root ds family units → (halt : NormFault) → IsLicensedHalt units e halt → IsHalted root halt
halts-normal root ds family units e next h goes faults.Wide k = ends-wide root ds (leads-wide (Comes root ds) units family goes e next h k)
halts-normal root ds family units e next h goes faults.Deep k = ends-deep root ds (leads-deep (Comes root ds) units family goes e next h k)
halts-normal root ds family units e next h goes faults.Spent k = ends-over root ds (leads-over (Comes root ds) units family goes e next h k)
halts-normal root ds family units e next h goes faults.Memory k = tt

pub goes-normal : (root : Root) (ds : List Debt) (family : Family) (units left : ℕ) (e f : Core) (next : Core → Family) → ((d : ℕ) → family d ≡ FromNormal e (λ f. next f d))
    → Goes root ds family units → IsNormal units left e f → Goes root ds (next f) left
goes-normal root ds family units left e f next h goes n = leads-normal (Comes root ds) units family goes e next h n.extra left f n.cost

-- ---- a frame below a binder

-- the machine out of a binder whose variable has a number
abbrev pub closed : Typer → Typer
closed m = record m { scope = drop 1 m.scope; levels = drop 1 m.levels }

pub entries-drop : (n : ℕ) (es : List Entry) → AreEntriesThere n es → AreEntriesThere n (drop 1 es)
entries-drop n [] h = h
entries-drop n (e ∷ es) h = h.1

pub below-drop : (n : ℕ) (ls : List ℕ) → AreBelow n ls → AreBelow n (drop 1 ls)
below-drop n [] h = h
below-drop n (l ∷ ls) h = h.1

behind-closed : (g : ℕ → Core) (b : Bool) (es : List Entry) (ls : List ℕ) → b ≡ true → behind b g (IsScope g es) ls → IsScope g es (drop 1 ls)
behind-closed g true es [] p h = absurd h
behind-closed g true es (l ∷ ls) p h = h.1
behind-closed g false es ls p h = absurd cc

pub scope-closed : (g : ℕ → Core) (es : List Entry) (ls : List ℕ) → IsNearest true es → IsScope g es ls → IsScope g (drop 1 es) (drop 1 ls)
scope-closed g [] ls p h = absurd p
scope-closed g (e ∷ es) ls p h = behind-closed g e.opened es ls p h.1

behind-more : (g : ℕ → Core) (b : Bool) (es : List Entry) (ls : List ℕ) → b ≡ true → behind b g (IsScope g es) ls → length (map g ls) ≡ suc (length (map g (drop 1 ls)))
behind-more g true es [] p h = absurd h
behind-more g true es (l ∷ ls) p h = refl
behind-more g false es ls p h = absurd cc

-- one more variable has a number there
pub one-number_more : (g : ℕ → Core) (es : List Entry) (ls : List ℕ) → IsNearest true es → IsScope g es ls → length (map g ls) ≡ suc (length (map g (drop 1 ls)))
one-number_more g [] ls p h = absurd p
one-number_more g (e ∷ es) ls p h = behind-more g e.opened es ls p h.1

module _ (m : Typer) (f : Frame) (s : State) (closes-scope : outer_scope f m.scope ≡ drop 1 m.scope) (closes-levels : outer_levels f m.levels ≡ drop 1 m.levels)
    (ready : IsReady (with_frame f m) s) where
  pub returns-closed : (t : State) (u l : ℕ) → IsStateThere (count m.codes) t
      → ((g : ℕ → Core) → Models m.codes g → IsSound g (with_frame f m) s → IsNearest true m.scope)
      → ((g : ℕ → Core) → Models m.codes g → IsSound g (with_frame f m) s → IsStateSound g (drop 1 m.scope) (drop 1 m.levels) t)
      → ((g : ℕ → Core) → Models m.codes g → IsSound g (with_frame f m) s → (root : Root)
      → IsOwed root (debt_of g m.scope m.levels f ∷ debts g (drop 1 m.scope) (drop 1 m.levels) m.frames) g m.scope m.levels s u
      → IsOwed root (debts g (drop 1 m.scope) (drop 1 m.levels) m.frames) g (drop 1 m.scope) (drop 1 m.levels) t l)
      → Advances (with_frame f m) (closed m) s t u l
  returns-closed t u l there nearest sound works = record {
    ready = λ root w. record {
      coded = ready.coded;
      entries = entries-drop (count m.codes) m.scope ready.entries;
      levels = below-drop (count m.codes) m.levels ready.levels;
      frames = ready.frames.1;
      state = there;
      sound = λ g k. (let q = ready.sound g k in record {
        scope = scope-closed g m.scope m.levels (nearest g k q) q.scope;
        frames = along (λ z. AreFramesSound g z (drop 1 m.levels) m.frames) closes-scope (along (λ z. AreFramesSound g (outer_scope f m.scope) z m.frames) closes-levels q.frames.1);
        state = sound g k q;
      });
    };
    models = λ g k. k;
    works = λ g k root w.
        works g k (ready.sound g k) root
        (along (λ z. IsOwed root (debt_of g m.scope m.levels f ∷ debts g z (drop 1 m.levels) m.frames) g m.scope m.levels s u) closes-scope
        (along (λ z. IsOwed root (debt_of g m.scope m.levels f ∷ debts g (outer_scope f m.scope) z m.frames) g m.scope m.levels s u) closes-levels w));
  }
