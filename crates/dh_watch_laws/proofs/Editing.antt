-- What is left after an edit agrees with the contents as they then are.
use Rattle.std.specs.Prelude.{◌≡◌, ◌⊎◌, true, false, if◌then◌else◌, List, [], ◌∷◌, Some, None, refl}
use Rattle.std.proofs.Common.{ap, sym, ◌∙◌, subst, inl, inr}
use Rattle.dh_syntax.specs.declared.locations.Loc.{Loc}
use Rattle.dh_syntax.specs.Expressions.SameTree.{loc_eq}
use Rattle.dh_syntax.proofs.SameTree.{locs_tell}
use Rattle.dh_imports.specs.Machine.{IsAmong}
use Rattle.dh_imports.specs.Records.{lookup, Noted, text_at}
use Rattle.dh_laws.proofs.KeyOrder.{bool-case, true_false, none-some}
use Rattle.dh_watch_laws.specs.Kept.{Kept}
use Rattle.dh_watch_laws.specs.Sweeping.{AreOf}
use Rattle.dh_watch_laws.specs.Contents.{Now, IsTold, dropped, set}
use Rattle.dh_watch_laws.specs.Editing.{edited, Agrees, texts_without, after_edit, EditsAgree, EditsAgreeLater, AgreesLaterThenSwept, RefusedAgree}
use Rattle.dh_watch_laws.proofs.Running.{runs_add}
use Rattle.dh_watch_laws.proofs.Sweeping.{swept_holds}

-- ---- pairs without this location

module _ {B : Type 0} (l : Loc) where
  -- the same function at both types of pairs
  abbrev off : List (Loc × B) → List (Loc × B)
  off [] = []
  off (p ∷ ps) = if loc_eq p.0 l then off ps else p ∷ off ps

  look-here : (ps : List (Loc × B)) (p : Loc × B) (x : Loc) → loc_eq p.0 x ≡ true → lookup loc_eq (p ∷ ps) x ≡ Some p.1
  look-here ps p x e = ap (λ b. if b then Some p.1 else lookup loc_eq ps x) e

  look-on : (ps : List (Loc × B)) (p : Loc × B) (x : Loc) → loc_eq p.0 x ≡ false → lookup loc_eq (p ∷ ps) x ≡ lookup loc_eq ps x
  look-on ps p x e = ap (λ b. if b then Some p.1 else lookup loc_eq ps x) e

  taken : (p : Loc × B) (ps : List (Loc × B)) → loc_eq p.0 l ≡ true → off (p ∷ ps) ≡ off ps
  taken p ps e = ap (λ b. if b then off ps else p ∷ off ps) e

  kept : (p : Loc × B) (ps : List (Loc × B)) → loc_eq p.0 l ≡ false → off (p ∷ ps) ≡ p ∷ off ps
  kept p ps e = ap (λ b. if b then off ps else p ∷ off ps) e

  pub off-here : (ps : List (Loc × B)) → lookup loc_eq (off ps) l ≡ None
  off-here [] = refl
  off-here (p ∷ ps) = go (bool-case (loc_eq p.0 l)) (off-here ps)
    where
      go : (loc_eq p.0 l ≡ true) ⊎ (loc_eq p.0 l ≡ false) → lookup loc_eq (off ps) l ≡ None → lookup loc_eq (off (p ∷ ps)) l ≡ None
      go (inl t) i = ap (λ z. lookup loc_eq z l) (taken p ps t) ∙ i
      go (inr f) i = ap (λ z. lookup loc_eq z l) (kept p ps f) ∙ look-on (off ps) p l f ∙ i

  pub off-there : (ps : List (Loc × B)) (x : Loc) → loc_eq l x ≡ false → lookup loc_eq (off ps) x ≡ lookup loc_eq ps x
  off-there [] x n = refl
  off-there (p ∷ ps) x n = go (bool-case (loc_eq p.0 l)) (bool-case (loc_eq p.0 x)) (off-there ps x n)
    where
      go : (loc_eq p.0 l ≡ true) ⊎ (loc_eq p.0 l ≡ false) → (loc_eq p.0 x ≡ true) ⊎ (loc_eq p.0 x ≡ false) → lookup loc_eq (off ps) x ≡ lookup loc_eq ps x
          → lookup loc_eq (off (p ∷ ps)) x ≡ lookup loc_eq (p ∷ ps) x
      go (inl t) (inl y) i = true_false (subst (λ z. loc_eq z x ≡ true) (locs_tell.equal p.0 l t) y) n
      go (inl t) (inr y) i = ap (λ z. lookup loc_eq z x) (taken p ps t) ∙ i ∙ sym (look-on ps p x y)
      go (inr f) (inl y) i = ap (λ z. lookup loc_eq z x) (kept p ps f) ∙ look-here (off ps) p x y ∙ sym (look-here ps p x y)
      go (inr f) (inr y) i = ap (λ z. lookup loc_eq z x) (kept p ps f) ∙ look-on (off ps) p x y ∙ i ∙ sym (look-on ps p x y)

dropped-off : (l : Loc) (now : Now) → dropped l now ≡ off l now
dropped-off l [] = refl
dropped-off l (p ∷ ps) = ap (λ z. if loc_eq p.0 l then z else p ∷ z) (dropped-off l ps)

texts-off : (l : Loc) (ts : List (Loc × Noted)) → texts_without l ts ≡ off l ts
texts-off l [] = refl
texts-off l (p ∷ ps) = ap (λ z. if loc_eq p.0 l then z else p ∷ z) (texts-off l ps)

-- ---- locations without this one

edited-in : (l x : Loc) (ls : List Loc) → IsAmong x (edited l ls) → IsAmong x ls × (loc_eq l x ≡ false)
edited-in l x [] m = absurd m
edited-in l x (y ∷ ys) m = go (bool-case (loc_eq y l)) (λ q. edited-in l x ys q)
  where
    go : (loc_eq y l ≡ true) ⊎ (loc_eq y l ≡ false) → (IsAmong x (edited l ys) → IsAmong x ys × (loc_eq l x ≡ false)) → IsAmong x (y ∷ ys) × (loc_eq l x ≡ false)
    go (inl t) i = let w = i (subst (λ b. IsAmong x (if b then edited l ys else y ∷ edited l ys)) t m) in (inr w.0, w.1)
    go (inr f) i = by (subst (λ b. IsAmong x (if b then edited l ys else y ∷ edited l ys)) f m)
      where
        other : (z : Loc) → loc_eq z l ≡ false → loc_eq l z ≡ false
        other z h = turn (bool-case (loc_eq l z))
          where
            turn : (loc_eq l z ≡ true) ⊎ (loc_eq l z ≡ false) → loc_eq l z ≡ false
            turn (inr g) = g
            turn (inl g) = true_false (subst (λ v. loc_eq z v ≡ true) (sym (locs_tell.equal l z g)) (locs_tell.itself z)) h

        by : IsAmong x (y ∷ edited l ys) → IsAmong x (y ∷ ys) × (loc_eq l x ≡ false)
        by (inl p) = (inl p, subst (λ z. loc_eq l z ≡ false) p (other y f))
        by (inr q) = let w = i q in (inr w.0, w.1)

in-edited : (l x : Loc) (ls : List Loc) → IsAmong x ls → loc_eq l x ≡ false → IsAmong x (edited l ls)
in-edited l x [] m n = m
in-edited l x (y ∷ ys) m n = go (bool-case (loc_eq y l)) m (λ q. in-edited l x ys q n)
  where
    go : (loc_eq y l ≡ true) ⊎ (loc_eq y l ≡ false) → IsAmong x (y ∷ ys) → (IsAmong x ys → IsAmong x (edited l ys)) → IsAmong x (if loc_eq y l then edited l ys else y ∷ edited l ys)
    go (inl t) (inl p) i = true_false (subst (λ z. loc_eq l z ≡ true) (sym (locs_tell.equal y l t) ∙ p) (locs_tell.itself l)) n
    go (inl t) (inr q) i = subst (λ b. IsAmong x (if b then edited l ys else y ∷ edited l ys)) (sym t) (i q)
    go (inr f) (inl p) i = subst (λ b. IsAmong x (if b then edited l ys else y ∷ edited l ys)) (sym f) (inl p)
    go (inr f) (inr q) i = subst (λ b. IsAmong x (if b then edited l ys else y ∷ edited l ys)) (sym f) (inr (i q))

-- ---- the law

module _ (now : Now) (asked : List Loc) (s : Kept) (l : Loc) (a : Agrees now asked s) where
  here : text_at (after_edit l s).recorded l ≡ None
  here = ap (λ z. lookup loc_eq z l) (texts-off l s.recorded.texts) ∙ off-here l s.recorded.texts

  there : (x : Loc) → loc_eq l x ≡ false → text_at (after_edit l s).recorded x ≡ text_at s.recorded x
  there x n = ap (λ z. lookup loc_eq z x) (texts-off l s.recorded.texts) ∙ off-there l s.recorded.texts x n

  -- a text that is left is at another location
  elsewhere : (x : Loc) (t : Noted) → text_at (after_edit l s).recorded x ≡ Some t → loc_eq l x ≡ false
  elsewhere x t e = go (bool-case (loc_eq l x))
    where
      go : (loc_eq l x ≡ true) ⊎ (loc_eq l x ≡ false) → loc_eq l x ≡ false
      go (inr f) = f
      go (inl y) = none-some here (subst (λ z. text_at (after_edit l s).recorded z ≡ Some t) (sym (locs_tell.equal l x y)) e)

  of : AreOf (texts_without l s.recorded.texts) s.recorded.texts
  of x t e = sym (there x (elsewhere x t e)) ∙ e

  agrees : (now' : Now) → ((x : Loc) → loc_eq l x ≡ false → lookup loc_eq now' x ≡ lookup loc_eq now x) → Agrees now' (edited l asked) (after_edit l s)
  agrees now' same = record {
    sound = (swept_holds s (texts_without l s.recorded.texts) a.sound of).0;
    over = record {
      texts = λ x t e. let n = elsewhere x t e in subst (λ z. IsTold z t) (sym (same x n)) (a.over.texts x t (sym (there x n) ∙ e));
      looks = a.over.looks;
    };
    asked_are_kept = λ x. (to x, from x);
  }
    where
      to : (x : Loc) → IsAmong x (edited l asked) → (t : Noted) × (text_at (after_edit l s).recorded x ≡ Some t)
      to x m = let w = edited-in l x asked m in let t = (a.asked_are_kept x).0 w.0 in (t.0, there x w.1 ∙ t.1)

      from : (x : Loc) → (t : Noted) × (text_at (after_edit l s).recorded x ≡ Some t) → IsAmong x (edited l asked)
      from x (t, e) = let n = elsewhere x t e in in-edited l x asked ((a.asked_are_kept x).1 (t, sym (there x n) ∙ e)) n

pub edits_agree : EditsAgree
edits_agree now asked s l bytes a = (agrees now asked s l a (set l bytes now) set-there, agrees now asked s l a (dropped l now) drop-there)
  where
    drop-there : (x : Loc) → loc_eq l x ≡ false → lookup loc_eq (dropped l now) x ≡ lookup loc_eq now x
    drop-there x n = ap (λ z. lookup loc_eq z x) (dropped-off l now) ∙ off-there l now x n

    set-there : (x : Loc) → loc_eq l x ≡ false → lookup loc_eq (set l bytes now) x ≡ lookup loc_eq now x
    set-there x n = look-on l (dropped l now) (l, bytes) x n ∙ drop-there x n

-- ---- one sweep for many edits

pub edits_agree_later : EditsAgreeLater
edits_agree_later now now' asked texts texts' s l a none other same = record {
  sound = a.sound;
  left = λ x t e. a.left x t (sym (other x (elsewhere_later x t e)) ∙ e);
  told = λ x t e. let n = elsewhere_later x t e in subst (λ z. IsTold z t) (sym (same x n)) (a.told x t (sym (other x n) ∙ e));
  misses = a.misses;
  asked_are_left = λ x. (to x, from x);
}
  where
    elsewhere_later : (x : Loc) (t : Noted) → lookup loc_eq texts' x ≡ Some t → loc_eq l x ≡ false
    elsewhere_later x t e = go (bool-case (loc_eq l x))
      where
        go : (loc_eq l x ≡ true) ⊎ (loc_eq l x ≡ false) → loc_eq l x ≡ false
        go (inr f) = f
        go (inl y) = none-some none (subst (λ z. lookup loc_eq texts' z ≡ Some t) (sym (locs_tell.equal l x y)) e)

    to : (x : Loc) → IsAmong x (edited l asked) → (t : Noted) × (lookup loc_eq texts' x ≡ Some t)
    to x m = let w = edited-in l x asked m in let t = (a.asked_are_left x).0 w.0 in (t.0, other x w.1 ∙ t.1)

    from : (x : Loc) → (t : Noted) × (lookup loc_eq texts' x ≡ Some t) → IsAmong x (edited l asked)
    from x (t, e) = let n = elsewhere_later x t e in in-edited l x asked ((a.asked_are_left x).1 (t, sym (other x n) ∙ e)) n

pub agrees_later_then_swept : AgreesLaterThenSwept
agrees_later_then_swept now asked texts s = (
  λ a. record { sound = a.sound; left = λ l t e. e; told = a.over.texts; misses = a.over.looks; asked_are_left = a.asked_are_kept },
  λ a. record { sound = (swept_holds s texts a.sound a.left).0; over = record { texts = a.told; looks = a.misses }; asked_are_kept = a.asked_are_left },
)

-- ---- refused asks

pub refused_agree : RefusedAgree
refused_agree now asked old s root trail a run over =
    let w = runs_add old s root trail a.sound run in
    record { sound = w.sound; over = over; asked_are_kept = λ l m. let t = a.asked_are_kept l m in (t.0, w.texts l t.0 t.1) }
