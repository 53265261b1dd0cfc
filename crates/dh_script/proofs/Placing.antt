-- The location of a text that spells an import as code, without a digest, that is not `missing`.
use Rattle.std.proofs.Common.{◌≡◌, ◌≢◌, ◌∙◌, ℕ, Bool, true, false, if◌then◌else◌, List, [], ◌∷◌, Option, Some, None, Result, Ok, Err, refl, sym, ap, subst, IfOk, IfSome}
use Rattle.dh_grammar.proofs.Results.Parsing.{parses_once}
use Rattle.dh_paths.proofs.Components.{chain-has_components}
use Rattle.dh_paths.proofs.Spellings.{chain-spellable}
use Rattle.dh_syntax.proofs.Bridge.{at_term-Node, at_term-Var, row_of-cons, row_of-nil}
use Rattle.dh_syntax.proofs.LocationLaws.{chain-canonical}
use Rattle.dh_syntax.proofs.Numbers.{and-true_left}
use Rattle.dh_syntax.specs.declared.expressions.Expr.{Expr}
use Rattle.dh_syntax.specs.declared.expressions.Expr.TheVariants as expr
use Rattle.dh_syntax.specs.declared.expressions.Kid.{Kid}
use Rattle.dh_syntax.specs.declared.expressions.Op.{Op}
use Rattle.dh_syntax.specs.declared.expressions.Op.TheVariants as ops
use Rattle.dh_syntax.specs.declared.faults.ParseFault.{ParseFault}
use Rattle.dh_syntax.specs.declared.faults.ParseFault.TheVariants.{Memory}
use Rattle.dh_syntax.specs.declared.locations.Digest.{Digest}
use Rattle.dh_syntax.specs.declared.locations.Import.{Import}
use Rattle.dh_syntax.specs.declared.locations.Loc.{Loc}
use Rattle.dh_syntax.specs.declared.locations.Loc.TheVariants as locs
use Rattle.dh_syntax.specs.declared.locations.Mode.{Mode}
use Rattle.dh_syntax.specs.declared.locations.Mode.TheVariants as modes
use Rattle.dh_syntax.specs.Expressions.Arity.{loc_fits}
use Rattle.dh_syntax.specs.Expressions.Bridge.{row_of, term}
use Rattle.dh_syntax.specs.Expressions.Spellable.{IsSpellable, location_spellable}
use Rattle.dh_syntax.specs.Expressions.Tree.{Leaf, Node, Name, Term, end, kid}
use Rattle.dh_syntax.specs.Imports.Locations.{Comps, canon, canon_path, relative, is_up}
use Rattle.dh_syntax.specs.Text.Spelling.{ParsesTo}
use Rattle.dh_script.specs.Inside.Imports.{chained, imported, plain, plain_if, plain_import, plain_node, plain_of, somewhere}
use Rattle.dh_script.specs.Reads.{IsLocated}
use Rattle.dh_script.specs.Locations.{IsPlace}

-- such an import of a location
abbrev plain_at : Loc → Import
plain_at l = record { loc = l; mode = modes.Code; digest = None }

abbrev root_at : Loc → Term
root_at l = Node (ops.Import (plain_at l)) end

-- ---- what the location of an expression tells of it

somewhere-inverts : (k l : Loc) → somewhere k ≡ Some l → (k ≡ l) × ¬ (l ≡ locs.Missing)
somewhere-inverts locs.Missing l e = let no : ⊥ = cc in absurd no
somewhere-inverts k l e = let same : k ≡ l = cc in (same, λ q. cc)

of-parts : (m : Mode) (d : Option Digest) (k l : Loc) → plain_of m d k ≡ Some l → (record { loc = k; mode = m; digest = d } ≡ plain_at l) × ¬ (l ≡ locs.Missing)
of-parts modes.Code None k l e = let (same, some) = somewhere-inverts k l e in (ap plain_at same, some)
of-parts modes.Code (Some d) k l e = let no : ⊥ = cc in absurd no
of-parts modes.Text d k l e = let no : ⊥ = cc in absurd no
of-parts modes.Location d k l e = let no : ⊥ = cc in absurd no

of-import : (i : Import) (l : Loc) → plain_import i ≡ Some l → (i ≡ plain_at l) × ¬ (l ≡ locs.Missing)
of-import i l e = of-parts i.mode i.digest i.loc l e

imported-inverts : (op : Op) (i : Import) → imported op ≡ Some i → op ≡ ops.Import i
imported-inverts (ops.Import j) i e = let same : j ≡ i = cc in ap ops.Import same
imported-inverts op i e = let no : ⊥ = cc in absurd no

of-imported : (op : Op) (o : Option Import) (l : Loc) → imported op ≡ o → plain_if o ≡ Some l → (◌≡◌ {A = Term} (Node op end) (root_at l)) × ¬ (l ≡ locs.Missing)
of-imported op None l is e = let no : ⊥ = cc in absurd no
of-imported op (Some i) l is e =
    let (same, some) = of-import i l e in (ap (λ (o : Op). Node o end) (imported-inverts op i is ∙ ap ops.Import same), some)

plain-inverts : (t : Term) (l : Loc) → plain t ≡ Some l → (t ≡ root_at l) × ¬ (l ≡ locs.Missing)
plain-inverts (Leaf x) l e = let no : ⊥ = cc in absurd no
plain-inverts (Node op end) l e = of-imported op (imported op) l refl e
plain-inverts (Node op (kid b t r)) l e = let no : ⊥ = cc in absurd no

plain-finds : (l : Loc) → ¬ (l ≡ locs.Missing) → plain (root_at l) ≡ Some l
plain-finds locs.Missing h = absurd (h refl)
plain-finds l h = refl

-- ---- expressions of the program

pub plain_var : (e : Expr) (x : Name) (n : ℕ) → e ≡ expr.Var x n → None ≡ plain (term e)
plain_var e x n h = sym (at_term-Var plain e x n h)

pub some_node : (e : Expr) (op : Op) (ks : List Kid) (o : Option Loc) → e ≡ expr.Node op ks → ks ≡ [] → o ≡ plain_if (imported op) → o ≡ plain (term e)
some_node e op ks o h empty is = is ∙ ap (plain_node op) (sym (ap row_of empty ∙ row_of-nil)) ∙ sym (at_term-Node plain e op ks h)

pub other_node : (e : Expr) (op : Op) (ks : List Kid) → e ≡ expr.Node op ks → ¬ (ks ≡ []) → None ≡ plain (term e)
other_node e op [] h some = absurd (some refl)
other_node e op (k ∷ ks) h some = ap (plain_node op) (sym (row_of-cons k ks)) ∙ sym (at_term-Node plain e op (k ∷ ks) h)

-- ---- what a text spells

ok-same : (t u : Term) → ◌≡◌ {A = Result Term ParseFault} (Ok t) (Ok u) → t ≡ u
ok-same t u e = cc

module _ (text : List ℕ) (t : Term) (p : ParsesTo text (Ok t)) where
  one-text : (u : Term) → ParsesTo text (Ok u) → t ≡ u
  one-text u q = ok-same t u (parses_once text (Ok t) (Ok u) p q)

  located-at : (o : Option Loc) → plain t ≡ o → IsLocated text (chained o)
  located-at (Some l) e =
      let (same, some) = plain-inverts t l e in
      record { spelled = l; spells = subst (λ u. ParsesTo text (Ok u)) same p; somewhere = some; canonical = refl }
  located-at None e = λ l s.
      let same : t ≡ root_at s.spelled = one-text (root_at s.spelled) s.spells in
      let found : plain t ≡ Some s.spelled = ap plain same ∙ plain-finds s.spelled s.somewhere in
      cc

pub located : (text : List ℕ) (t : Term) → ParsesTo text (Ok t) → IsLocated text (chained (plain t))
located text t p = located-at text t p (plain t) refl

pub located-none : (text : List ℕ) (f : ParseFault) → ParsesTo text (Err f) → IsLocated text None
located-none text f p l s =
    let same : ◌≡◌ {A = Result Term ParseFault} (Err f) (Ok (root_at s.spelled)) = parses_once text (Err f) (Ok (root_at s.spelled)) p s.spells in cc

-- ---- its place

relative-somewhere : (cs : Comps) → ¬ (relative cs ≡ locs.Missing)
relative-somewhere [] e = cc
relative-somewhere (c ∷ []) e = cc
relative-somewhere (c ∷ d ∷ cs) e = either (is_up c) e
  where
    either : (b : Bool) → (if b then locs.Parent (d ∷ cs) else locs.Here (c ∷ d ∷ cs)) ≡ locs.Missing → ⊥
    either true q = cc
    either false q = cc

canon-somewhere : (l : Loc) → ¬ (l ≡ locs.Missing) → ¬ (canon l ≡ locs.Missing)
canon-somewhere (locs.Here cs) h e = relative-somewhere (canon_path cs) e
canon-somewhere locs.Missing h e = h refl
canon-somewhere l h e = cc

placed-at : (t : Term) (o : Option Loc) → IsSpellable t → plain t ≡ o → IfSome (chained o) IsPlace
placed-at t None s e = tt
placed-at t (Some l) s e =
    let (same, some) = plain-inverts t l e in
    let root : IsSpellable (root_at l) = subst IsSpellable same s in
    record {
      canonical = chain-canonical None l;
      fits = chain-has_components None l (and-true_left (loc_fits l) true root.0.0);
      spellable = chain-spellable None l refl (and-true_left (location_spellable l) true root.2);
      somewhere = canon-somewhere l some;
    }

pub placed : (t : Term) → IsSpellable t → IfSome (chained (plain t)) IsPlace
placed t s = placed-at t (plain t) s refl

-- ---- what a reader answers

pub located_ok : {E : Type 0} (text : List ℕ) (t : Term) (r : Result (Option Loc) E) → ParsesTo text (Ok t) → IfOk r (λ l. l ≡ chained (plain t)) → IfOk r (IsLocated text)
located_ok text t (Ok l) p e = subst (IsLocated text) (sym e) (located text t p)
located_ok text t (Err f) p e = tt

pub placed_ok : {E : Type 0} (t : Term) (r : Result (Option Loc) E) → IsSpellable t → IfOk r (λ l. l ≡ chained (plain t)) → IfOk r (λ l. IfSome l IsPlace)
placed_ok t (Ok l) s e = subst (λ o. IfSome o IsPlace) (sym e) (placed t s)
placed_ok t (Err f) s e = tt

pub located_err : {E : Type 0} (text : List ℕ) (f : ParseFault) (r : Result (Option Loc) E) → (f ≢ Memory → ParsesTo text (Err f)) → IfOk r (λ l. (l ≡ None) × (f ≢ Memory))
    → IfOk r (IsLocated text)
located_err text f (Ok l) p e = subst (IsLocated text) (sym e.0) (located-none text f (p e.1))
located_err text f (Err x) p e = tt

pub placed_err : {E : Type 0} (f : ParseFault) (r : Result (Option Loc) E) → IfOk r (λ l. (l ≡ None) × (f ≢ Memory)) → IfOk r (λ l. IfSome l IsPlace)
placed_err f (Ok l) e = subst (λ o. IfSome o IsPlace) (sym e.0) tt
placed_err f (Err x) e = tt
