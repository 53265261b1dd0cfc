-- The fault at which a walk ends, by the import at which it ends.
use Rattle.std.specs.Prelude.{◌≡◌, ℕ, Bool, true, false, if◌then◌else◌, List, Option, Some, None, refl}
use Rattle.std.proofs.Common.{ap, sym, ◌∙◌, subst}
use Rattle.dh_syntax.specs.declared.expressions.Expr.{Expr}
use Rattle.dh_syntax.specs.declared.locations.Key.{Key}
use Rattle.dh_syntax.specs.declared.locations.Loc.{Loc}
use Rattle.dh_imports.specs.declared.outcomes.Blame.{Blame}
use Rattle.dh_imports.specs.declared.outcomes.Origin.{Origin}
use Rattle.dh_imports.specs.declared.outcomes.Outcome.TheVariants as variants
use Rattle.dh_imports.specs.declared.outcomes.Why.{Why}
use Rattle.dh_imports.specs.declared.outcomes.Why.TheVariants as whys
use Rattle.dh_syntax.specs.Expressions.Bridge.{term}
use Rattle.dh_syntax.specs.Expressions.Tree.{Term}
use Rattle.dh_imports.specs.Outcomes.{of_blame}
use Rattle.dh_imports.specs.Resolver.{of_bare, of_walk}
use Rattle.dh_imports.specs.Walk.{Walked, Ready, Fails, Turns, Needs, allowed, by_outcome, walk_key}
use Rattle.dh_laws.proofs.KeyOrder.{some-equal}
use Rattle.dh_demand.specs.declared.ends.Next.TheVariants as next
use Rattle.dh_demand.specs.declared.scans.Edge.{Edge}
use Rattle.dh_demand.specs.Nexts.{IsNext}
use Rattle.dh_demand.specs.Results.{key_at, outcome_at, ask_of}
use Rattle.dh_demand.specs.Scans.{IsEdge, text_key}
use Rattle.dh_demand.proofs.Numbers.{stands}
use Rattle.dh_demand.proofs.Visiting.{sane_is, sane_comes}
use Rattle.dh_record.specs.declared.rows.recorded.Entrant.{Entrant}
use Rattle.dh_record.specs.Due.{IsBlame, IsNoLoop}
use Rattle.dh_record.specs.Items.{by_fault}
use Rattle.dh_record.specs.Rows.{rows_of}

-- the walk is decided, but not by a value
abbrev pub Stops : Walked Term → Type 0
Stops (Fails b) = Unit {0}
Stops (Turns j) = Unit {0}
Stops (Ready e) = ⊥
Stops (Needs k) = ⊥

-- ---- faults and loops

pub blamed_import : (parent : Option Key) (k : Key) (at : Option Key) (w : Why) → IsBlame (by_outcome parent k (Some (of_blame at w))) (record { at = at; why = w })
blamed_import parent k None w = (refl, refl)
blamed_import parent k (Some j) (whys.Parse f) = (refl, refl)
blamed_import parent k (Some j) (whys.Typing f) = (refl, refl)
blamed_import parent k (Some j) (whys.Norm f) = (refl, refl)
blamed_import parent k (Some j) whys.Absent = (refl, refl)
blamed_import parent k (Some j) whys.Missing = (refl, refl)
blamed_import parent k (Some j) (whys.Broken n) = (refl, refl)
blamed_import parent k (Some j) whys.Https = (refl, refl)
blamed_import parent k (Some j) whys.Failed = (refl, refl)
blamed_import parent k (Some j) (whys.Differs d e) = (refl, refl)
blamed_import parent k (Some j) (whys.Insane l) = (refl, refl)
blamed_import parent k (Some j) (whys.Cors l) = (refl, refl)
blamed_import parent k (Some j) whys.Cycle = refl
blamed_import parent k (Some j) whys.TooMany = (refl, refl)

-- the stage of a frozen key whose bare key came to this fault
pub blamed_bare : (j : Key) (at : Option Key) (w : Why) → of_bare j (Some (of_blame at w)) ≡ by_fault at w
blamed_bare j None w = refl
blamed_bare j (Some i) (whys.Parse f) = refl
blamed_bare j (Some i) (whys.Typing f) = refl
blamed_bare j (Some i) (whys.Norm f) = refl
blamed_bare j (Some i) whys.Absent = refl
blamed_bare j (Some i) whys.Missing = refl
blamed_bare j (Some i) (whys.Broken n) = refl
blamed_bare j (Some i) whys.Https = refl
blamed_bare j (Some i) whys.Failed = refl
blamed_bare j (Some i) (whys.Differs d e) = refl
blamed_bare j (Some i) (whys.Insane l) = refl
blamed_bare j (Some i) (whys.Cors l) = refl
blamed_bare j (Some i) whys.Cycle = refl
blamed_bare j (Some i) whys.TooMany = refl

insane_no_loop : (parent : Option Loc) (l : Loc) → IsNoLoop (record { at = text_key parent; why = whys.Insane l })
insane_no_loop None l = refl
insane_no_loop (Some p) l = refl

cors_no_loop : (parent : Option Loc) (l : Loc) → IsNoLoop (record { at = text_key parent; why = whys.Cors l })
cors_no_loop None l = refl
cors_no_loop (Some p) l = refl

-- the stage of a key whose walk ends so
pub walk_blamed : (allow : Option (List ℕ)) (w : Walked Term) (b : Blame) → IsBlame w b → of_walk allow w ≡ by_fault b.at b.why
walk_blamed allow (Fails c) b (p, q) = sym (ap (λ (x : Blame). by_fault x.at x.why) p ∙ q)
walk_blamed allow (Turns j) b p = sym (ap (λ (x : Blame). by_fault x.at x.why) p)
walk_blamed allow (Ready x) b p = absurd p
walk_blamed allow (Needs k) b p = absurd p

-- ---- the import at which a walk ends

module _ (parent : Option Loc) (es : List Entrant) (e : Edge) where
  abbrev pub Comes : Key → Walked Term → Type 0
  Comes k v = walk_key (text_key parent) (ask_of (rows_of es)) k ≡ v

  pub stop_blame : {X : Type 0} (w : Walked X) (b : Blame) → IsNext parent (rows_of es) w (next.Fault e)
      → ((k : Key) (v : Walked Term) → IsEdge parent (rows_of es) k e → Comes k v → Stops v → IsBlame v b) → IsBlame w b
  stop_blame (Fails c) b h f = f h.key (Fails c) h.edge h.comes tt
  stop_blame (Turns j) b h f = f h.key (Turns j) h.edge h.comes tt
  stop_blame (Ready x) b h f = absurd h
  stop_blame (Needs k) b h f = absurd h

  pub no_stop : {X : Type 0} (w : Walked X) → IsNext parent (rows_of es) w (next.Fault e)
      → ((k : Key) (v : Walked Term) → IsEdge parent (rows_of es) k e → Comes k v → Stops v → ⊥) → ⊥
  no_stop (Fails c) h f = f h.key (Fails c) h.edge h.comes tt
  no_stop (Turns j) h f = f h.key (Turns j) h.edge h.comes tt
  no_stop (Ready x) h f = h
  no_stop (Needs k) h f = h

  module _ (j : Key) (at : key_at (rows_of es) e.key ≡ Some j) (k : Key) (v : Walked Term) (is : IsEdge parent (rows_of es) k e) (c : Comes k v) where
    named : j ≡ k
    named = let s = stands (rows_of es) k e.key is.numbered in some-equal (sym at ∙ s.key_is)

    pub insane_blame : e.sane ≡ false → IsBlame v (record { at = text_key parent; why = whys.Insane j.loc })
    insane_blame h =
        let P : Walked Term → Type 0 = λ w. IsBlame w (record { at = text_key parent; why = whys.Insane j.loc }) in
        subst P
        (sym (ap (λ b. if b then by_outcome (text_key parent) k (ask_of (rows_of es) k) else Fails (record { at = text_key parent; why = whys.Insane k.loc })) (sane_is parent (rows_of es) k e false is h)) ∙ c)
        (ap (λ (i : Key). record { at = text_key parent; why = whys.Insane i.loc }) named, insane_no_loop parent k.loc)

    pub bad_blame : (b : Blame) → e.sane ≡ true → outcome_at (rows_of es) e.key ≡ Some (Some (variants.Bad b)) → IsBlame v b
    bad_blame b h known =
        let P : Walked Term → Type 0 = λ w. IsBlame w b in
        subst P (sym (sane_comes parent (rows_of es) k e (Some (variants.Bad b)) is h known) ∙ c) (blamed_import (text_key parent) k b.at b.why)

    pub barred_blame : (x : Expr) (o : Origin) → e.sane ≡ true → outcome_at (rows_of es) e.key ≡ Some (Some (variants.Good x o)) → Stops v → IsBlame v (record { at = text_key parent; why = whys.Cors j.loc })
    barred_blame x o h known s = go (allowed (text_key parent) k o) (sym (sane_comes parent (rows_of es) k e (Some (variants.Good x o)) is h known) ∙ c)
      where
        go : (b : Bool) → (if b then Ready (term x) else Fails (record { at = text_key parent; why = whys.Cors k.loc })) ≡ v → IsBlame v (record { at = text_key parent; why = whys.Cors j.loc })
        go true p = absurd (subst Stops (sym p) s)
        go false p =
            let P : Walked Term → Type 0 = λ w. IsBlame w (record { at = text_key parent; why = whys.Cors j.loc }) in
            subst P p (ap (λ (i : Key). record { at = text_key parent; why = whys.Cors i.loc }) named, cors_no_loop parent k.loc)

    pub undecided_goes_on : e.sane ≡ true → outcome_at (rows_of es) e.key ≡ Some None → ¬ Stops v
    undecided_goes_on h known s = subst Stops (sym (sym (sane_comes parent (rows_of es) k e None is h known) ∙ c)) s
