-- The α-normal form and the nameless form without names.
use Rattle.std.specs.Prelude.{◌≡◌, ◌≤◌, ℕ, zero, suc, Bool, true, false, cond, List, [], ◌∷◌, Some, None, refl}
use Rattle.std.proofs.Common.{ap, sym, ◌∙◌, arith, subst as along}
use Rattle.std.proofs.Math.Path.{fun_ext}
use Rattle.dh_syntax.specs.Names.Alpha.{blank, renamed, alpha_row, alpha_to, alpha, IsSame}
use Rattle.dh_syntax.specs.Names.Moves.{moved_row}
use Rattle.dh_syntax.specs.Names.Nameless.{Ref, Bound, going_nameless, core_below, reading_back, term_below, from_core, forgetting, forget, blanking, with_blanks, bare, lifted, renamed_ref, sub, Core, Bare}
use Rattle.dh_syntax.specs.Expressions.Nesting.{nesting, parts_nesting}
use Rattle.dh_syntax.specs.Expressions.Numbers.{bytes_eq}
use Rattle.dh_syntax.specs.Names.Subst.{shift_up, shift_down, subst, is_free}
use Rattle.dh_syntax.specs.Expressions.Tree.{Row, Leaf, Node, end, kid, Name, Var, Term}
use Rattle.dh_syntax.proofs.AlphaEquations.{nesting-renamed}
use Rattle.dh_syntax.proofs.Numbers.{bytes_eq-true, bytes_eq-comm}
use Rattle.dh_laws.proofs.Names.Cores.{IsShiftedTo, shifted-below, shifted-by_one, lifted-past, core-shift_up, core-shift_down, core-subst, putting, putting-nearest, ren-suc-one_to_one, var_of-ref_of}
use Rattle.dh_laws.proofs.Names.Renamings.{sub-ren, ren-is_sub}
use Rattle.dh_laws.proofs.Names.Shifts.{is_free-subst}

-- Renaming a binder to `_`.

-- the variable `_`
abbrev blank_var : Term
blank_var = Leaf (record { name = blank; index = 0 })

-- a part below a binder whose name is not `_`, with that binder renamed to `_`
abbrev with_blank : Name → Term → Term
with_blank x e = shift_down x 0 (subst x 0 blank_var (shift_up blank 0 e))

shifted-below_other : (x : Name) (ys : List Name) → bytes_eq x blank ≡ false → IsShiftedTo blank 0 (x ∷ ys) (x ∷ blank ∷ ys) (renamed_ref (lifted (λ k. suc k)))
shifted-below_other x ys h =
    along (λ (b : Bool). IsShiftedTo blank (cond b 1 0) (x ∷ ys) (x ∷ blank ∷ ys) (renamed_ref (lifted (λ k. suc k)))) h
    (shifted-below blank 0 ys (blank ∷ ys) (renamed_ref (λ k. suc k)) (renamed_ref (lifted (λ k. suc k))) refl (lifted-past (λ k. suc k)) x (shifted-by_one blank ys))

core-blank_var : (x : Name) (ys : List Name) → bytes_eq x blank ≡ false → core_below (x ∷ blank ∷ ys) blank_var ≡ Leaf (Bound 1)
core-blank_var x ys h = rw h refl

putting-lifted : (i : ℕ) → putting (Leaf (Bound 1)) (lifted (λ k. suc k) i) ≡ Leaf (Bound (suc i))
putting-lifted zero = refl
putting-lifted (suc i) = refl

not_free-blank : (x : Name) → bytes_eq x blank ≡ false → is_free x 0 blank_var ≡ false
not_free-blank x h = let p = bytes_eq-comm blank x ∙ h in rw p refl

core-with_blank : (x : Name) (ys : List Name) (e : Term) → bytes_eq x blank ≡ false → core_below (blank ∷ ys) (with_blank x e) ≡ core_below (x ∷ ys) e
core-with_blank x ys e h =
    let up = shift_up blank 0 e in
    let c = core_below (x ∷ ys) e in
    ren-suc-one_to_one _ _
    (core-shift_down x (blank ∷ ys) (subst x 0 blank_var up) (is_free-subst x 0 blank_var up (not_free-blank x h))
    ∙ core-subst (x ∷ blank ∷ ys) x 0 blank_var (putting (core_below (x ∷ blank ∷ ys) blank_var)) (putting-nearest x (blank ∷ ys) _) up
    ∙ ap (λ (d : Core). sub (putting d) (core_below (x ∷ blank ∷ ys) up)) (core-blank_var x ys h)
    ∙ ap (sub (putting (Leaf (Bound 1)))) (core-shift_up blank 0 (x ∷ ys) (x ∷ blank ∷ ys) (lifted (λ k. suc k)) (shifted-below_other x ys h) e)
    ∙ sub-ren (putting (Leaf (Bound 1))) (lifted (λ k. suc k)) c
    ∙ ap (λ s. sub s c) (fun_ext putting-lifted)
    ∙ sym (ren-is_sub (λ k. suc k) c))

-- Renaming a binder to `_` changes nothing of the nameless form below it.
pub core-renamed : (x : Name) (ys : List Name) (e : Term) → core_below (blank ∷ ys) (renamed (Some x) e) ≡ core_below (x ∷ ys) e
core-renamed x ys e = at (bytes_eq x blank) refl
  where
    at : (b : Bool) → bytes_eq x blank ≡ b → core_below (blank ∷ ys) (cond b e (with_blank x e)) ≡ core_below (x ∷ ys) e
    at true h = ap (λ (y : Name). core_below (y ∷ ys) e) (sym (bytes_eq-true x blank h))
    at false h = core-with_blank x ys e h

-- The α-normal form has the same nameless form without names.

abbrev pub bare_below : List Name → Term → Bare
bare_below ys e = forget (core_below ys e)

abbrev bare_row_below : List Name → Row Var Name → Row Ref (Unit {0})
bare_row_below ys r = moved_row forgetting tt (moved_row going_nameless ys r)

bare-alpha_row : (f : Term → Term) → ((ys : List Name) (e : Term) → bare_below ys (f e) ≡ bare_below ys e)
    → (ys : List Name) (r : Row Var Name) → bare_row_below ys (alpha_row f r) ≡ bare_row_below ys r
bare-alpha_row f h ys end = refl
bare-alpha_row f h ys (kid None e r) =
    let p = h ys e in
    let q = bare-alpha_row f h ys r in
    cc
bare-alpha_row f h ys (kid (Some x) e r) =
    let p = h (blank ∷ ys) (renamed (Some x) e) ∙ ap forget (core-renamed x ys e) in
    let q = bare-alpha_row f h ys r in
    cc

pub bare-alpha_to : (n : ℕ) (ys : List Name) (e : Term) → bare_below ys (alpha_to n e) ≡ bare_below ys e
bare-alpha_to zero ys e = refl
bare-alpha_to (suc n) ys (Leaf v) = refl
bare-alpha_to (suc n) ys (Node op r) = ap (Node op) (bare-alpha_row (alpha_to n) (bare-alpha_to n) ys r)

pub bare-alpha : (e : Term) → bare (alpha e) ≡ bare e
unfolding alpha
bare-alpha e = bare-alpha_to (nesting e) [] e

-- The α-normal form is that nameless form, read back with the name `_` for each binder.

abbrev read : List Name → Term → Term
read ys e = term_below ys (with_blanks (bare_below ys e))

abbrev read_row : List Name → Row Var Name → Row Var Name
read_row ys r = moved_row reading_back ys (moved_row blanking tt (bare_row_below ys r))

alpha_row-read : (f : Term → Term) (n : ℕ) → ((ys : List Name) (e : Term) → nesting e ≤ n → f e ≡ read ys e)
    → (ys : List Name) (r : Row Var Name) → parts_nesting r ≤ suc n → alpha_row f r ≡ read_row ys r
alpha_row-read f n h ys end k = refl
alpha_row-read f n h ys (kid None e r) k =
    let p = h ys e (omega arith) in
    let q = alpha_row-read f n h ys r (omega arith) in
    cc
alpha_row-read f n h ys (kid (Some x) e r) k =
    let d = nesting-renamed (Some x) e in
    let p = h (blank ∷ ys) (renamed (Some x) e) (omega arith) ∙ ap (λ (c : Core). term_below (blank ∷ ys) (with_blanks (forget c))) (core-renamed x ys e) in
    let q = alpha_row-read f n h ys r (omega arith) in
    cc

alpha_to-read : (n : ℕ) (ys : List Name) (e : Term) → nesting e ≤ n → alpha_to n e ≡ read ys e
alpha_to-read zero ys (Leaf v) k = ap Leaf (sym (var_of-ref_of ys v.name v.index))
alpha_to-read zero ys (Node op end) k = refl
alpha_to-read zero ys (Node op (kid b e r)) k = absurd (omega arith)
alpha_to-read (suc n) ys (Leaf v) k = ap Leaf (sym (var_of-ref_of ys v.name v.index))
alpha_to-read (suc n) ys (Node op r) k = ap (Node op) (alpha_row-read (alpha_to n) n (alpha_to-read n) ys r k)

pub alpha-read : (e : Term) → alpha e ≡ from_core (with_blanks (bare e))
unfolding alpha
alpha-read e = alpha_to-read (nesting e) [] e (omega arith)

-- So expressions have one α-normal form exactly where they have one nameless form without names.

pub same-bare : (e f : Term) → IsSame e f → bare e ≡ bare f
same-bare e f h = sym (bare-alpha e) ∙ ap bare h ∙ bare-alpha f

pub bare-same : (e f : Term) → bare e ≡ bare f → IsSame e f
bare-same e f h = alpha-read e ∙ ap (λ c. from_core (with_blanks c)) h ∙ sym (alpha-read f)

pub alpha-alpha : (e : Term) → alpha (alpha e) ≡ alpha e
alpha-alpha e = bare-same (alpha e) e (bare-alpha e)
