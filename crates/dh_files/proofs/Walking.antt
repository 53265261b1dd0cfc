-- Components with a slash between any two, walked one after another; and the paths that they make.
use Rattle.std.proofs.Common.{◌≡◌, ℕ, zero, suc, ◌+◌, ◌<◌, ◌≤◌, Bool, true, false, ◌||◌, ◌==◌, if◌then◌else◌, nat_lt, List, [], ◌∷◌, ◌++◌, length, drop, get_or, Option, Some, None, codes, refl, sym, ap, ◌∙◌, length-drop, arith}
use Rattle.std.proofs.lemmas.Bool.Decides.{Decides-eqb, nat_tests}
use Rattle.std.proofs.lemmas.List.{drop_more, drop_all, drop-drop}
use Rattle.std.proofs.lemmas.Slice.Eq.{starts_is}
use Rattle.dh_syntax.specs.declared.locations.Loc.{Loc}
use Rattle.dh_syntax.specs.declared.locations.Loc.TheVariants as locs
use Rattle.dh_syntax.specs.declared.tokens.TokenKind.TheVariants as kinds
use Rattle.dh_syntax.specs.Text.Characters.{begins}
use Rattle.dh_syntax.specs.Text.LexForms.{Found, Form, Is, form, longer, longest}
use Rattle.dh_syntax.specs.Text.LexLocations.{Component, Components, by_component, components, path, path_component, path_form}
use Rattle.dh_syntax.proofs.LexingLaws.{components-skip}
use Rattle.dh_files.specs.FileWords.{has_len, is_file, is_path}
use Rattle.dh_files.specs.Inside.Walked.{are_components, behind_slash, len_of}

-- ---- one component and what follows it

-- bytes that begin with a slash and are components, or no bytes
abbrev are_slashed : List ℕ → Bool
are_slashed bs = (components path_component 0 bs).total == length bs

none_equal : (n : ℕ) → (0 == suc n) ≡ false
none_equal n = grind (arith, nat_tests)

none_by : (o : Option Component) (rest : ℕ → Components) (n : ℕ) → None ≡ len_of o → (by_component o rest).total == suc n ≡ false
none_by None rest n e = grind (arith, nat_tests)
none_by (Some c) rest n e = absurd cc

-- where no component stands
pub no_component : (bs : List ℕ) → None ≡ len_of (path_component bs) → are_components bs ≡ false
no_component bs e = none_by (path_component bs) (λ n. components path_component n bs) (length bs) e

same_test : (n t l k : ℕ) → l + n ≡ k → (suc (n + t) == suc k) ≡ (t == l)
same_test n t l k e = grind (arith, nat_tests)

some_by : (o : Option Component) (bs : List ℕ) (n : ℕ) → Some n ≡ len_of o → n ≤ length bs → ((by_component o (λ n. components path_component n bs)).total == suc (length bs)) ≡ are_slashed (drop n bs)
some_by None bs n e within = absurd cc
some_by (Some c) bs n e within =
    let k : c.len ≡ n = cc in
    ap (λ m. suc (components path_component m bs).total == suc (length bs)) k
    ∙ ap (λ (cs : Components). suc cs.total == suc (length bs)) (components-skip path_component n bs within)
    ∙ same_test n (components path_component 0 (drop n bs)).total (length (drop n bs)) (length bs) (omega (arith, length-drop n bs, within))

-- a component, and what follows it
pub after_component : (bs here : List ℕ) (at n : ℕ) → here ≡ drop at bs → Some n ≡ len_of (path_component here) → n ≤ length here → are_components bs ≡ are_components (drop at bs)
    → are_components bs ≡ are_slashed (drop (at + n) bs)
after_component bs here at n here_is e within so_far =
    so_far ∙ ap are_components (sym here_is) ∙ some_by (path_component here) here n e within ∙ ap (λ xs. are_slashed (drop n xs)) here_is ∙ ap are_slashed (drop-drop n at bs)

-- before the end
pub within_more : (bs here : List ℕ) (at n : ℕ) → here ≡ drop at bs → n ≤ length here → at ≤ length bs → ¬ (at + n ≡ length bs) → at + n < length bs
within_more bs here at n here_is within short other =
    let long : length here ≡ length (drop at bs) = ap length here_is in
    less (at + n) (length bs) (omega (arith, length-drop at bs, long, within, short)) other
  where
    less : (m k : ℕ) → m ≤ k → ¬ (m ≡ k) → m < k
    less m k h n = grind (arith, nat_tests)

-- at the end
pub ended : (bs : List ℕ) (at : ℕ) (r : Bool) → at ≡ length bs → r ≡ are_slashed (drop at bs) → r ≡ true
ended bs at r e h = h ∙ ap are_slashed (drop_all at bs (omega (arith, e)))

-- at a slash
pub at_slash : (bs : List ℕ) (at : ℕ) (r : Bool) → at < length bs → get_or bs at 0 ≡ 47 → r ≡ are_slashed (drop at bs) → r ≡ are_components (drop (at + 1) bs)
at_slash bs at r within is h = h ∙ ap are_slashed (drop_more bs at 0 within ∙ ap (λ c. c ∷ drop (at + 1) bs) is)

other_byte : (b : ℕ) (bs : List ℕ) → ¬ (b ≡ 47) → are_slashed (b ∷ bs) ≡ false
other_byte b bs n =
    ap (λ (t : Bool). (by_component (if t then path_component bs else None) (λ n. components path_component n bs)).total == suc (length bs)) (differs b n) ∙ none_equal (length bs)
  where
    differs : (b : ℕ) → ¬ (b ≡ 47) → (b == 47) ≡ false
    differs b n = grind (arith, nat_tests)

-- at another byte
pub at_other : (bs : List ℕ) (at : ℕ) (r : Bool) → at < length bs → ¬ (get_or bs at 0 ≡ 47) → r ≡ are_slashed (drop at bs) → r ≡ false
at_other bs at r within n h = h ∙ ap are_slashed (drop_more bs at 0 within) ∙ other_byte (get_or bs at 0) (drop (at + 1) bs) n

-- ---- paths by what stands behind their first slash

form_len : (found : Found) (n k : ℕ) (fs : List (Option Form)) → longest fs ≡ None → 0 < n → has_len (longest (form found n ∷ fs)) k ≡ (n == k)
form_len found zero k fs e some = absurd (omega (arith, some))
form_len found (suc n) k fs e some =
    let f : Form = record { found = found; len = suc n } in
    ap (λ g. (longer f g).len == k) e

path_len : (kind : List (List ℕ) → Loc) (before : ℕ) (cs : Components) (n k : ℕ) (fs : List (Option Form)) → longest fs ≡ None → k ≡ before + suc n
    → has_len (longest (path_form kind before cs ∷ fs)) k ≡ (cs.total == suc n)
path_len kind before cs n k fs e is = by cs.total refl
  where
    test : (t : ℕ) → 0 < t → nat_lt 0 t ≡ true
    test t h = grind (arith, nat_tests)

    same : (before t n k : ℕ) → k ≡ before + suc n → (before + t == k) ≡ (t == suc n)
    same before t n k h = grind (arith, nat_tests)

    of_len : Bool → ℕ → Bool
    of_len b t = has_len (longest ((if b then form (Is (kinds.Path (kind cs.texts))) (before + t) else None) ∷ fs)) k

    by : (t : ℕ) → cs.total ≡ t → has_len (longest (path_form kind before cs ∷ fs)) k ≡ (cs.total == suc n)
    by zero h = ap (λ t. of_len (nat_lt 0 t) t) h ∙ ap (λ f. has_len f k) e ∙ sym (none_equal n) ∙ ap (λ t. t == suc n) (sym h)
    by (suc t) h =
        ap (λ t. of_len (nat_lt 0 t) t) h ∙ ap (λ b. of_len b (suc t)) (test (suc t) (omega arith))
        ∙ form_len (Is (kinds.Path (kind cs.texts))) (before + suc t) k fs e (omega arith)
        ∙ same before (suc t) n k is ∙ ap (λ t. t == suc n) (sym h)

here_path : (rest : List ℕ) → is_path (46 ∷ 47 ∷ rest) ≡ are_components rest
here_path rest = path_len locs.Here 1 (components path_component 0 (47 ∷ rest)) (length rest) (suc (suc (length rest))) (None ∷ None ∷ None ∷ []) refl (omega arith)

parent_path : (rest : List ℕ) → is_path (46 ∷ 46 ∷ 47 ∷ rest) ≡ are_components rest
parent_path rest = path_len locs.Parent 2 (components path_component 0 (47 ∷ rest)) (length rest) (suc (suc (suc (length rest)))) (None ∷ None ∷ []) refl (omega arith)

home_path : (rest : List ℕ) → is_path (126 ∷ 47 ∷ rest) ≡ are_components rest
home_path rest = path_len locs.Home 1 (components path_component 0 (47 ∷ rest)) (length rest) (suc (suc (length rest))) (None ∷ []) refl (omega arith)

whole_path : (rest : List ℕ) → is_path (47 ∷ rest) ≡ are_components rest
whole_path rest = path_len locs.Abs 0 (components path_component 0 (47 ∷ rest)) (length rest) (suc (length rest)) [] refl (omega arith)

-- ---- the location that a word stands for

by_front : (w : List ℕ) (slash here parent home : Bool)
    → (slash ≡ true → w ≡ 47 ∷ drop 1 w) → (here ≡ true → w ≡ 46 ∷ 47 ∷ drop 2 w) → (parent ≡ true → w ≡ 46 ∷ 46 ∷ 47 ∷ drop 3 w) → (home ≡ true → w ≡ 126 ∷ 47 ∷ drop 2 w)
    → is_path (if slash || here || parent || home then w else codes "./" ++ w) ≡ are_components (if parent then drop 3 w else if here || home then drop 2 w else if slash then drop 1 w else w)
by_front w false false false false s h p o = here_path w
by_front w false false false true s h p o = ap is_path (o refl) ∙ home_path (drop 2 w)
by_front w false true false home s h p o = ap is_path (h refl) ∙ here_path (drop 2 w)
by_front w true false false false s h p o = ap is_path (s refl) ∙ whole_path (drop 1 w)
by_front w true false false true s h p o = ap is_path (o refl) ∙ home_path (drop 2 w)
by_front w true true false home s h p o = ap is_path (h refl) ∙ here_path (drop 2 w)
by_front w false false true home s h p o = ap is_path (p refl) ∙ parent_path (drop 3 w)
by_front w false true true home s h p o = ap is_path (p refl) ∙ parent_path (drop 3 w)
by_front w true here true home s h p o = ap is_path (p refl) ∙ parent_path (drop 3 w)

-- a word names a file where what stands behind the slash is components
pub file_walked : (w : List ℕ) → is_file w ≡ are_components (behind_slash w)
file_walked w =
    by_front w (begins "/" w) (begins "./" w) (begins "../" w) (begins "~/" w)
    (λ e. (starts_is Decides-eqb w (codes "/") true (sym e)).0 refl) (λ e. (starts_is Decides-eqb w (codes "./") true (sym e)).0 refl)
    (λ e. (starts_is Decides-eqb w (codes "../") true (sym e)).0 refl) (λ e. (starts_is Decides-eqb w (codes "~/") true (sym e)).0 refl)
