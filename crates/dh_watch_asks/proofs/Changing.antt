-- Changes of what is watched.
use Rattle.std.specs.Prelude.{◌≡◌, ◌⊎◌, ℕ, true, false, if◌then◌else◌, List, [], ◌∷◌, Option, Some, None, Result, Ok, Err, OnErr, OnOk, refl}
use Rattle.std.proofs.Common.{ap, sym, ◌∙◌, subst, inl, inr}
use Rattle.dh_syntax.specs.declared.locations.Loc.{Loc}
use Rattle.dh_syntax.specs.Expressions.SameTree.{loc_eq}
use Rattle.dh_syntax.proofs.SameTree.{locs_tell}
use Rattle.dh_imports.specs.Machine.{IsAmong}
use Rattle.dh_imports.specs.Records.{Noted, text_at}
use Rattle.dh_laws.proofs.KeyOrder.{bool-case, none-some, some-equal, true_false}
use Rattle.dh_script_laws.specs.Answering.{AreAmong}
use Rattle.dh_watch_files.specs.Contents.{IsPut}
use Rattle.dh_watch_laws.specs.Contents.{IsEdited, Now}
use Rattle.dh_watch_laws.specs.Editing.{edited, locs_of}
use Rattle.dh_watch_laws.specs.Kept.{Kept}
use Rattle.dh_watch_laws.proofs.Counting.{found-in, in-found}
use Rattle.dh_watch_rows.specs.Removing.{Forgets}
use Rattle.dh_watching.specs.Steps.{IsChange}

-- ---- locations without this one

edited-in : (l x : Loc) (ls : List Loc) → IsAmong x (edited l ls) → IsAmong x ls × (loc_eq l x ≡ false)
edited-in l x [] m = absurd m
edited-in l x (y ∷ ys) m = go (bool-case (loc_eq y l)) (λ q. edited-in l x ys q)
  where
    go : (loc_eq y l ≡ true) ⊎ (loc_eq y l ≡ false) → (IsAmong x (edited l ys) → IsAmong x ys × (loc_eq l x ≡ false)) → IsAmong x (y ∷ ys) × (loc_eq l x ≡ false)
    go (inl t) i = let w = i (subst (λ b. IsAmong x (if b then edited l ys else y ∷ edited l ys)) t m) in (inr w.0, w.1)
    go (inr f) i = by (subst (λ b. IsAmong x (if b then edited l ys else y ∷ edited l ys)) f m)
      where
        other : (z : Loc) → loc_eq z l ≡ false → loc_eq l z ≡ false
        other z h = turn (bool-case (loc_eq l z))
          where
            turn : (loc_eq l z ≡ true) ⊎ (loc_eq l z ≡ false) → loc_eq l z ≡ false
            turn (inr g) = g
            turn (inl g) = true_false (subst (λ v. loc_eq z v ≡ true) (sym (locs_tell.equal l z g)) (locs_tell.itself z)) h

        by : IsAmong x (y ∷ edited l ys) → IsAmong x (y ∷ ys) × (loc_eq l x ≡ false)
        by (inl p) = (inl p, subst (λ z. loc_eq l z ≡ false) p (other y f))
        by (inr q) = let w = i q in (inr w.0, w.1)

in-edited : (l x : Loc) (ls : List Loc) → IsAmong x ls → loc_eq l x ≡ false → IsAmong x (edited l ls)
in-edited l x [] m n = m
in-edited l x (y ∷ ys) m n = go (bool-case (loc_eq y l)) m (λ q. in-edited l x ys q n)
  where
    go : (loc_eq y l ≡ true) ⊎ (loc_eq y l ≡ false) → IsAmong x (y ∷ ys) → (IsAmong x ys → IsAmong x (edited l ys)) → IsAmong x (if loc_eq y l then edited l ys else y ∷ edited l ys)
    go (inl t) (inl p) i = true_false (subst (λ z. loc_eq l z ≡ true) (sym (locs_tell.equal y l t) ∙ p) (locs_tell.itself l)) n
    go (inl t) (inr q) i = subst (λ b. IsAmong x (if b then edited l ys else y ∷ edited l ys)) (sym t) (i q)
    go (inr f) (inl p) i = subst (λ b. IsAmong x (if b then edited l ys else y ∷ edited l ys)) (sym f) (inl p)
    go (inr f) (inr q) i = subst (λ b. IsAmong x (if b then edited l ys else y ∷ edited l ys)) (sym f) (inr (i q))

-- ---- a change

keeps : (s s' : Kept) (l : Loc) → Forgets s l s' → AreAmong (edited l (locs_of s.recorded.texts)) (locs_of s'.recorded.texts)
keeps s s' l f x m =
    let w = edited-in l x (locs_of s.recorded.texts) m in
    let t = found-in s.recorded.texts x w.0 in
    in-found s'.recorded.texts x t.0 (f.others x w.1 ∙ t.1)

forgets : (s s' : Kept) (l : Loc) → Forgets s l s' → AreAmong (locs_of s'.recorded.texts) (edited l (locs_of s.recorded.texts))
forgets s s' l f x m = by (found-in s'.recorded.texts x m) (bool-case (loc_eq l x))
  where
    by : (t : Noted) × (text_at s'.recorded x ≡ Some t) → (loc_eq l x ≡ true) ⊎ (loc_eq l x ≡ false) → IsAmong x (edited l (locs_of s.recorded.texts))
    by (t, e) (inl y) = none-some f.gone (subst (λ z. text_at s'.recorded z ≡ Some t) (sym (locs_tell.equal l x y)) e)
    by (t, e) (inr n) = in-edited l x (locs_of s.recorded.texts) (in-found s.recorded.texts x t (sym (f.others x n) ∙ e)) n

puts : (told : Option Now) (l : Loc) (bytes : Option (List ℕ)) (told' : Option Now) → IsPut told l bytes told' → (now : Now) → told ≡ Some now
    → (now' : Now) × (told' ≡ Some now') × IsEdited now l bytes now'
puts None l bytes told' p now e = none-some refl e
puts (Some was) l bytes None p now e = absurd p
puts (Some was) l bytes (Some now') p now e = (now', refl, subst (λ z. IsEdited z l bytes now') (some-equal e) p)

-- what a change that is not refused does
pub is-change : {E : Type 0} (r : Result (Unit {0}) E) (told : Option Now) (s : Kept) (l : Loc) (bytes : Option (List ℕ)) (told' : Option Now) (s' : Kept) → OnOk r (IsPut told l bytes told')
    → OnOk r (Forgets s l s') → OnOk r (IsChange told (locs_of s.recorded.texts) l bytes told' (locs_of s'.recorded.texts))
is-change (Ok x) told s l bytes told' s' p f = record { put = puts told l bytes told' p; keeps = keeps s s' l f; forgets = forgets s s' l f }
is-change (Err e) told s l bytes told' s' p f = tt

-- one that is refused leaves what is kept
pub still-kept : {A E X Y : Type 0} (r : Result A E) (part : X → Y) (x x' : X) → OnErr r (x' ≡ x) → OnErr r (part x' ≡ part x)
still-kept (Ok v) part x x' h = tt
still-kept (Err e) part x x' h = ap part h
