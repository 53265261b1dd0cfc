-- What is found in files that are edited.
use Rattle.std.specs.Prelude.{◌≡◌, ℕ, cond, List, [], ◌∷◌, Option, Some, refl}
use Rattle.std.specs.BTreeMap.{BTreeMap, Updates, get, is_at}
use Rattle.std.specs.Map.{lookup as look_up}
use Rattle.std.proofs.Common.{ap, sym, ◌∙◌}
use Rattle.dh_syntax.specs.declared.locations.Loc.{Loc}
use Rattle.dh_syntax.specs.Expressions.SameTree.{loc_eq}
use Rattle.dh_imports.specs.Records.{lookup}
use Rattle.dh_watch_laws.specs.Contents.{IsEdited}
use Rattle.dh_watch_files.specs.declared.ordered_locs.OrderedLoc.{OrderedLoc}
use Rattle.dh_watch_files.specs.MemContents.{pairs_of}
use Rattle.dh_watch_files.specs.OrderedLocs.{ordered_cmp}
use Rattle.dh_watch_files.proofs.LocOrder.{tied_is, tied_back_is}

-- what a map has under a key is what is found at its location
pub found-under : (k : OrderedLoc) (fs : List (OrderedLoc × List ℕ)) → look_up (is_at (ordered_cmp k)) fs ≡ lookup loc_eq (pairs_of fs) k.loc
found-under k [] = refl
found-under k (f ∷ fs) =
    ap (λ b. cond b (Some f.1) (look_up (is_at (ordered_cmp k)) fs)) (tied_back_is k.loc f.0.loc)
    ∙ ap (λ x. cond (loc_eq f.0.loc k.loc) (Some f.1) x) (found-under k fs)

-- a map whose value under a key is another has other contents at its location alone
pub updated : (m n : BTreeMap OrderedLoc (List ℕ)) (k : OrderedLoc) (w : Option (List ℕ)) → Updates ordered_cmp m n k w → IsEdited (pairs_of m.entries) k.loc w (pairs_of n.entries)
updated m n k w h x =
    let q : OrderedLoc = record { loc = x } in
    sym (found-under q n.entries) ∙ h.0 q
    ∙ ap (λ b. cond b w (get ordered_cmp m q)) (tied_is k.loc x)
    ∙ ap (λ y. cond (loc_eq k.loc x) w y) (found-under q m.entries)

-- what is found at a location is what a map has under its key
pub told_at : (k : OrderedLoc) (m : BTreeMap OrderedLoc (List ℕ)) (l : Loc) (r : Option (List ℕ)) → k.loc ≡ l → r ≡ get ordered_cmp m k → lookup loc_eq (pairs_of m.entries) l ≡ r
told_at k m l r e h = ap (lookup loc_eq (pairs_of m.entries)) (sym e) ∙ sym (found-under k m.entries) ∙ sym h
