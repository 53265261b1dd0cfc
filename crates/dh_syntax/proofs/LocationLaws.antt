-- Laws of locations: to make one canonical a second time changes nothing, and a chained location is canonical.
use Rattle.std.specs.Prelude.{◌≡◌, ℕ, zero, suc, Bool, true, false, not, ◌&&◌, if◌then◌else◌, List, [], ◌∷◌, ◌++◌, Option, Some, None, map, codes, refl}
use Rattle.std.proofs.Common.{sym, ◌∙◌, ap, subst}
use Rattle.dh_syntax.specs.declared.locations.Loc.{Loc}
use Rattle.dh_syntax.specs.declared.locations.Loc.TheVariants as locs
use Rattle.dh_syntax.specs.Imports.Locations.{Comps, folder, file, is_dot, is_up, before_folder, canon_folder, canon_path, relative, canon, joined, url_component, from_parent, chain}
use Rattle.dh_syntax.specs.Expressions.Numbers.{eq, bytes_eq}

eq_true : (m n : ℕ) → eq m n ≡ true → m ≡ n
eq_true zero zero h = refl
eq_true zero (suc n) h = cc
eq_true (suc m) zero h = cc
eq_true (suc m) (suc n) h = ap suc (eq_true m n h)

both : (a b : Bool) → (a && b) ≡ true → (a ≡ true) × (b ≡ true)
both true b h = (refl, h)
both false b h = cc

bytes_eq_true : (xs ys : List ℕ) → bytes_eq xs ys ≡ true → xs ≡ ys
bytes_eq_true [] [] h = refl
bytes_eq_true [] (y ∷ ys) h = cc
bytes_eq_true (x ∷ xs) [] h = cc
bytes_eq_true (x ∷ xs) (y ∷ ys) h =
    let (p, q) = both (eq x y) (bytes_eq xs ys) h in
    let e = eq_true x y p in let f = bytes_eq_true xs ys q in cc

-- ---- canonical folders

abbrev IsCanonical : Comps → Type 0
IsCanonical f = canon_folder f ≡ f

-- `..` before a canonical folder stays
up_stays : (f : Comps) → before_folder (codes "..") f ≡ codes ".." ∷ f
up_stays [] = refl
up_stays (d ∷ ds) = elim (is_up d) as (λ b. (if b && false then ds else codes ".." ∷ d ∷ ds) ≡ codes ".." ∷ d ∷ ds) [ true ↦ refl | false ↦ refl ]

-- what stands behind a leading `..` of a canonical folder is canonical
after_up : (d : List ℕ) (ds : Comps) → is_up d ≡ true → IsCanonical (d ∷ ds) → IsCanonical ds
after_up d ds u h =
    let e = bytes_eq_true d (codes "..") u in
    let k : codes ".." ∷ canon_folder ds ≡ codes ".." ∷ ds = sym (up_stays (canon_folder ds)) ∙ subst (λ c. before_folder c (canon_folder ds) ≡ c ∷ ds) e h in
    cc

-- a component that is not dropped
kept_before : (c d : List ℕ) (ds : Comps) (up_d up_c : Bool) → is_up d ≡ up_d → is_up c ≡ up_c → IsCanonical (d ∷ ds) → is_dot c ≡ false → IsCanonical (if up_d && not up_c then ds else c ∷ d ∷ ds)
kept_before c d ds true false u m h n = after_up d ds u h
kept_before c d ds true true u m h n = rw (h, n, u, m)
kept_before c d ds false true u m h n = rw (h, n, u)
kept_before c d ds false false u m h n = rw (h, n, u)

put_before : (c : List ℕ) (f : Comps) (dot : Bool) → is_dot c ≡ dot → IsCanonical f → IsCanonical (before_folder c f)
put_before c [] true n h = rw n
put_before c [] false n h = rw n (rw n)
put_before c (d ∷ ds) true n h = rw n h
put_before c (d ∷ ds) false n h = rw n (kept_before c d ds (is_up d) (is_up c) refl refl h n)

pub canon_folder-canonical : (f : Comps) → IsCanonical (canon_folder f)
canon_folder-canonical [] = refl
canon_folder-canonical (c ∷ cs) = put_before c (canon_folder cs) (is_dot c) refl (canon_folder-canonical cs)

-- ---- canonical paths

pub folder-last : (f : Comps) (x : List ℕ) → folder (f ++ x ∷ []) ≡ f
folder-last [] x = refl
folder-last (a ∷ []) x = refl
folder-last (a ∷ b ∷ f) x = ap (λ g. a ∷ g) (folder-last (b ∷ f) x)

pub file-last : (f : Comps) (x : List ℕ) → file (f ++ x ∷ []) ≡ x ∷ []
file-last [] x = refl
file-last (a ∷ []) x = refl
file-last (a ∷ b ∷ f) x = file-last (b ∷ f) x

-- the file of a path that has a component
pub has_file : (c : List ℕ) (cs : Comps) → (x : List ℕ) × (file (c ∷ cs) ≡ x ∷ [])
has_file c [] = (c, refl)
has_file c (d ∷ ds) = has_file d ds

pub canon_path-twice : (cs : Comps) → canon_path (canon_path cs) ≡ canon_path cs
canon_path-twice [] = refl
canon_path-twice (c ∷ cs) =
    let (x, e) = has_file c cs in
    let f : Comps = canon_folder (folder (c ∷ cs)) in
    rw (e, folder-last f x, file-last f x, canon_folder-canonical (folder (c ∷ cs)))

behind_up : (d : List ℕ) (cs : Comps) → canon_path (codes ".." ∷ d ∷ cs) ≡ codes ".." ∷ canon_path (d ∷ cs)
behind_up d cs = ap (λ f. f ++ file (d ∷ cs)) (up_stays (canon_folder (folder (d ∷ cs))))

-- ---- canonical locations

relative_by : (c d : List ℕ) (cs : Comps) (up_c : Bool) → is_up c ≡ up_c → canon_path (c ∷ d ∷ cs) ≡ c ∷ d ∷ cs → canon (relative (c ∷ d ∷ cs)) ≡ relative (c ∷ d ∷ cs)
relative_by c d cs true u h =
    let e = bytes_eq_true c (codes "..") u in
    let k : codes ".." ∷ canon_path (d ∷ cs) ≡ codes ".." ∷ d ∷ cs = sym (behind_up d cs) ∙ subst (λ b. canon_path (b ∷ d ∷ cs) ≡ b ∷ d ∷ cs) e h in
    let l : canon_path (d ∷ cs) ≡ d ∷ cs = cc in
    rw u (ap locs.Parent l)
relative_by c d cs false u h = rw u (ap relative h ∙ rw u)

relative-canonical : (cs : Comps) → canon_path cs ≡ cs → canon (relative cs) ≡ relative cs
relative-canonical [] h = refl
relative-canonical (c ∷ []) h = refl
relative-canonical (c ∷ d ∷ cs) h = relative_by c d cs (is_up c) refl h

-- To make a location canonical a second time changes nothing.
pub canon-twice : (l : Loc) → canon (canon l) ≡ canon l
canon-twice (locs.Abs cs) = ap locs.Abs (canon_path-twice cs)
canon-twice (locs.Here cs) = relative-canonical (canon_path cs) (canon_path-twice cs)
canon-twice (locs.Parent cs) = ap locs.Parent (canon_path-twice cs)
canon-twice (locs.Home cs) = ap locs.Home (canon_path-twice cs)
canon-twice (locs.Http u) = ap (λ cs. locs.Http (record { host = u.host; comps = cs; query = u.query })) (canon_path-twice u.comps)
canon-twice (locs.Https u) = ap (λ cs. locs.Https (record { host = u.host; comps = cs; query = u.query })) (canon_path-twice u.comps)
canon-twice (locs.Env x) = refl
canon-twice locs.Missing = refl

from_parent-canonical : (p child : Loc) (cs : Comps) → canon (from_parent p child cs) ≡ from_parent p child cs
from_parent-canonical (locs.Abs ps) child cs = canon-twice (locs.Abs (folder ps ++ cs))
from_parent-canonical (locs.Here ps) child cs = relative-canonical (joined ps cs) (canon_path-twice (folder ps ++ cs))
from_parent-canonical (locs.Parent ps) child cs = relative-canonical (joined (codes ".." ∷ ps) cs) (canon_path-twice (folder (codes ".." ∷ ps) ++ cs))
from_parent-canonical (locs.Home ps) child cs = canon-twice (locs.Home (folder ps ++ cs))
from_parent-canonical (locs.Http u) child cs = canon-twice (locs.Http (record { host = u.host; comps = folder u.comps ++ map url_component cs; query = None }))
from_parent-canonical (locs.Https u) child cs = canon-twice (locs.Https (record { host = u.host; comps = folder u.comps ++ map url_component cs; query = None }))
from_parent-canonical (locs.Env x) child cs = canon-twice child
from_parent-canonical locs.Missing child cs = canon-twice child

-- A chained location is canonical.
pub chain-canonical : (p : Option Loc) (child : Loc) → canon (chain p child) ≡ chain p child
chain-canonical None child = canon-twice child
chain-canonical (Some p) (locs.Here cs) = from_parent-canonical p (locs.Here cs) cs
chain-canonical (Some p) (locs.Parent cs) = from_parent-canonical p (locs.Parent cs) (codes ".." ∷ cs)
chain-canonical (Some p) (locs.Abs cs) = canon-twice (locs.Abs cs)
chain-canonical (Some p) (locs.Home cs) = canon-twice (locs.Home cs)
chain-canonical (Some p) (locs.Http u) = canon-twice (locs.Http u)
chain-canonical (Some p) (locs.Https u) = canon-twice (locs.Https u)
chain-canonical (Some p) (locs.Env x) = refl
chain-canonical (Some p) locs.Missing = refl
