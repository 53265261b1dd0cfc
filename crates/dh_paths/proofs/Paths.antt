-- A component before a canonical path.
use Rattle.std.proofs.Common.{◌≡◌, ℕ, ◌+◌, ◌-◌, ◌<◌, ◌≤◌, Bool, true, false, not, ◌&&◌, List, [], ◌∷◌, ◌++◌, length, get_or, set, take, drop, refl, sym, ◌∙◌, ap, subst, arith}
use Rattle.std.proofs.lemmas.Bool.{false≢true}
use Rattle.std.proofs.lemmas.List.{drop_all, drop_more, drop-set, drop-set-lt, get_or-take, get_or_default, length-drop, length-set, take-take, take_rest}
use Rattle.dh_syntax.specs.Imports.Locations.{Comps, folder, file, is_dot, is_up, before_folder, canon_folder, canon_path}
use Rattle.dh_paths.specs.Inside.Paths.{goes_up}
use Rattle.dh_syntax.proofs.LocationLaws.{folder-last, file-last, has_file, canon_folder-canonical}

abbrev pub IsCanonical : Comps → Type 0
IsCanonical p = canon_path p ≡ p

folder-file : (cs : Comps) → folder cs ++ file cs ≡ cs
folder-file [] = refl
folder-file (c ∷ []) = refl
folder-file (c ∷ d ∷ cs) = ap (λ p. c ∷ p) (folder-file (d ∷ cs))

-- the folder of a canonical path is canonical
folder-canonical : (d : List ℕ) (ds : Comps) → IsCanonical (d ∷ ds) → canon_folder (folder (d ∷ ds)) ≡ folder (d ∷ ds)
folder-canonical d ds h =
    let (x, e) = has_file d ds in
    let f : Comps = canon_folder (folder (d ∷ ds)) in
    sym (folder-last f x) ∙ ap (λ l. folder (f ++ l)) (sym e) ∙ ap folder h

canon_path-before : (c d : List ℕ) (ds : Comps) → IsCanonical (d ∷ ds) → canon_path (c ∷ d ∷ ds) ≡ before_folder c (folder (d ∷ ds)) ++ file (d ∷ ds)
canon_path-before c d ds h = ap (λ f. before_folder c f ++ file (d ∷ ds)) (folder-canonical d ds h)

-- `.` is dropped
dot-before : (c d : List ℕ) (ds : Comps) → IsCanonical (d ∷ ds) → is_dot c ≡ true → canon_path (c ∷ d ∷ ds) ≡ d ∷ ds
dot-before c d [] h dot = rw dot refl
dot-before c d (e ∷ es) h dot = canon_path-before c d (e ∷ es) h ∙ rw dot (folder-file (d ∷ e ∷ es))

-- a name is dropped with the `..` after it
name-before : (c d e : List ℕ) (es : Comps) → IsCanonical (d ∷ e ∷ es) → is_dot c ≡ false → (is_up d && not (is_up c)) ≡ true → canon_path (c ∷ d ∷ e ∷ es) ≡ e ∷ es
name-before c d e es h dot up = canon_path-before c d (e ∷ es) h ∙ rw (dot, up) (folder-file (e ∷ es))

-- any other component stays
other-before : (c d : List ℕ) (ds : Comps) → IsCanonical (d ∷ ds) → is_dot c ≡ false → (is_up d && not (is_up c)) ≡ false → canon_path (c ∷ d ∷ ds) ≡ c ∷ d ∷ ds
other-before c d [] h dot up = rw dot refl
other-before c d (e ∷ es) h dot up = canon_path-before c d (e ∷ es) h ∙ rw (dot, up) (ap (λ p. c ∷ p) (folder-file (d ∷ e ∷ es)))

-- any component but `.` stays before the file
file-before : (c d : List ℕ) → is_dot c ≡ false → canon_path (c ∷ d ∷ []) ≡ c ∷ d ∷ []
file-before c d dot = rw dot refl

-- A component at a place before a canonical path, by what the tests on the components tell.
abbrev pub Placed : Comps → ℕ → ℕ → List ℕ → Type 0
Placed xs at top c = (at < top) × (top < length xs) × (c ≡ get_or xs at c)

placed : (xs : Comps) (at top : ℕ) (c : List ℕ) → Placed xs at top c → get_or xs at [] ≡ c
placed xs at top c (h, k, e) = get_or_default xs at [] c (omega arith) ∙ sym e

pub dot_put : (xs : Comps) (at top : ℕ) (c : List ℕ) → Placed xs at top c → IsCanonical (drop top xs) → is_dot c ≡ true → drop top xs ≡ canon_path (get_or xs at [] ∷ drop top xs)
dot_put xs at top c p h dot =
    rw (placed xs at top c p, drop_more xs top [] p.1) (sym (dot-before c _ _ (subst IsCanonical (drop_more xs top [] p.1) h) dot))

name_before : (c : List ℕ) (p : Comps) → IsCanonical p → is_dot c ≡ false → goes_up p ≡ true → is_up c ≡ false → drop 1 p ≡ canon_path (c ∷ p)
name_before c [] h dot g up = absurd (false≢true g)
name_before c (d ∷ []) h dot g up = absurd (false≢true g)
name_before c (d ∷ e ∷ es) h dot g up = sym (name-before c d e es h dot (rw (g, up) refl))

pub name_put : (xs : Comps) (at top : ℕ) (c : List ℕ) → Placed xs at top c → IsCanonical (drop top xs) → is_dot c ≡ false → goes_up (drop top xs) ≡ true → is_up c ≡ false → drop (top + 1) xs ≡ canon_path (get_or xs at [] ∷ drop top xs)
name_put xs at top c p h dot g up =
    let first : drop 1 (drop top xs) ≡ drop (top + 1) xs = ap (drop 1) (drop_more xs top [] p.1) in
    rw (placed xs at top c p) (sym first ∙ name_before c (drop top xs) h dot g up)

other_before : (c : List ℕ) (p : Comps) → IsCanonical p → 0 < length p → is_dot c ≡ false → (goes_up p && not (is_up c)) ≡ false → c ∷ p ≡ canon_path (c ∷ p)
other_before c [] h long dot g = absurd (omega arith)
other_before c (d ∷ []) h long dot g = sym (file-before c d dot)
other_before c (d ∷ e ∷ es) h long dot g = sym (other-before c d (e ∷ es) h dot g)

-- the list with the component moved to the place before the path
pub other_put : (xs ys : Comps) (at top : ℕ) (c w : List ℕ) → Placed xs at top c → ys ≡ set (set xs at w) (top - 1) (get_or xs at []) → IsCanonical (drop top xs) → is_dot c ≡ false → (goes_up (drop top xs) && not (is_up c)) ≡ false → drop (top - 1) ys ≡ canon_path (get_or xs at [] ∷ drop top xs)
other_put xs ys at top c w p e h dot g =
    let long : 0 < length (drop top xs) = simp length-drop (omega (arith, p.1)) in
    let small : top - 1 < length (set xs at w) = simp length-set (omega (arith, p.0, p.1)) in
    let back : (top - 1) + 1 ≡ top = omega (arith, p.0) in
    let moved : drop (top - 1) ys ≡ get_or xs at [] ∷ drop top xs =
    ap (drop (top - 1)) e ∙ drop-set (set xs at w) (top - 1) (get_or xs at []) small
    ∙ ap (λ n. get_or xs at [] ∷ drop n (set xs at w)) back ∙ ap (λ l. get_or xs at [] ∷ l) (drop-set-lt top xs at w p.0)
    in moved ∙ rw (placed xs at top c p) (other_before c (drop top xs) h long dot g)

-- What stands behind a component may be made canonical first.
canon_path-after : (c d : List ℕ) (ds : Comps) → canon_path (c ∷ canon_path (d ∷ ds)) ≡ canon_path (c ∷ d ∷ ds)
canon_path-after c d ds =
    let (x, e) = has_file d ds in
    let f : Comps = canon_folder (folder (d ∷ ds)) in
    let whole : canon_path (d ∷ ds) ≡ f ++ x ∷ [] = ap (λ l. f ++ l) e in
    let same : canon_folder f ≡ f = canon_folder-canonical (folder (d ∷ ds)) in
    ap (λ p. canon_path (c ∷ p)) whole
    ∙ ap (λ p. canon_folder p ++ file (c ∷ f ++ x ∷ [])) (folder-last (c ∷ f) x)
    ∙ ap (λ l. before_folder c (canon_folder f) ++ l) (file-last (c ∷ f) x ∙ sym e)
    ∙ ap (λ g. before_folder c g ++ file (d ∷ ds)) same

-- what a test on the end of a slice tells of the list
pub tail_goes_up : (xs ys : Comps) (top : ℕ) (b : Bool) → ys ≡ xs → b ≡ goes_up (take (length ys - top) (drop top ys)) → goes_up (drop top xs) ≡ b
tail_goes_up xs ys top b e h = sym (h ∙ ap goes_up (take_rest ys top) ∙ ap (λ l. goes_up (drop top l)) e)

-- One step towards the front of a path.
pub canon_path_step : (xs ys : Comps) (at top : ℕ) → at < length xs → 0 < at → take at ys ≡ take at xs → drop top ys ≡ canon_path (drop at xs) → canon_path (get_or ys (at - 1) [] ∷ drop top ys) ≡ canon_path (drop (at - 1) xs)
canon_path_step xs ys at top short long rest path =
    let back : (at - 1) + 1 ≡ at = omega arith in
    let same : get_or ys (at - 1) [] ≡ get_or xs (at - 1) [] = sym (get_or-take at ys (at - 1) [] (omega arith)) ∙ ap (λ l. get_or l (at - 1) []) rest ∙ get_or-take at xs (at - 1) [] (omega arith) in
    let here : drop (at - 1) xs ≡ get_or xs (at - 1) [] ∷ drop at xs = drop_more xs (at - 1) [] (omega arith) ∙ ap (λ n. get_or xs (at - 1) [] ∷ drop n xs) back in
    let next = drop_more xs at [] short in
    rw (same, path, here, next) (canon_path-after (get_or xs (at - 1) []) (get_or xs at []) (drop (at + 1) xs))

-- The file alone is canonical.
pub canon_path_start : (xs : Comps) → drop (length xs - 1) xs ≡ canon_path (drop (length xs - 1) xs)
canon_path_start [] = refl
canon_path_start (c ∷ cs) =
    let one : drop (length (c ∷ cs) - 1) (c ∷ cs) ≡ get_or (c ∷ cs) (length (c ∷ cs) - 1) [] ∷ [] =
    drop_more (c ∷ cs) (length (c ∷ cs) - 1) [] (omega arith) ∙ ap (λ l. get_or (c ∷ cs) (length (c ∷ cs) - 1) [] ∷ l) (drop_all (length (c ∷ cs) - 1 + 1) (c ∷ cs) (omega arith))
    in rw one refl

pub take_less : (xs ys : Comps) (n m : ℕ) → n ≤ m → take m xs ≡ take m ys → take n xs ≡ take n ys
take_less xs ys n m h e = sym (take-take n m xs h) ∙ ap (take n) e ∙ take-take n m ys h
