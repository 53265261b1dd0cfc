-- What a walk makes of one import.
use Rattle.std.specs.Prelude.{◌≡◌, ℕ, Bool, true, false, not, if◌then◌else◌, List, Option, Some, None, refl}
use Rattle.std.specs.Option.{option_map}
use Rattle.std.proofs.Common.{ap, sym, ◌∙◌, subst}
use Rattle.dh_syntax.specs.declared.expressions.Expr.{Expr}
use Rattle.dh_syntax.specs.declared.locations.Key.{Key}
use Rattle.dh_syntax.specs.declared.locations.Loc.{Loc}
use Rattle.dh_imports.specs.declared.outcomes.Blame.{Blame}
use Rattle.dh_imports.specs.declared.outcomes.Origin.{Origin}
use Rattle.dh_imports.specs.declared.outcomes.Outcome as program
use Rattle.dh_imports.specs.declared.outcomes.Outcome.TheVariants as variants
use Rattle.dh_imports.specs.declared.outcomes.Why.{Why}
use Rattle.dh_imports.specs.declared.outcomes.Why.TheVariants as whys
use Rattle.dh_syntax.specs.Expressions.Bridge.{term}
use Rattle.dh_syntax.specs.Expressions.Tree.{Term}
use Rattle.dh_syntax.specs.Imports.Locations.{sane}
use Rattle.dh_imports.specs.Outcomes.{Outcome, Bad, Loop, plain, of_blame, may_go_on}
use Rattle.dh_imports.specs.Walk.{Walked, Ready, Fails, Turns, Needs, place, allowed, by_outcome, is_sane, walk_key}
use Rattle.dh_laws.proofs.KeyOrder.{some-equal}
use Rattle.dh_demand.specs.declared.scans.Edge.{Edge}
use Rattle.dh_demand.specs.declared.ends.Next.TheVariants as next
use Rattle.dh_demand.specs.Results.{Row, key_at, outcome_at, ask_of}
use Rattle.dh_demand.specs.Scans.{text_key, IsEdge}
use Rattle.dh_demand.specs.Nexts.{ComesTo, IsNext}
use Rattle.dh_demand.specs.Inside.Going.{goes_on, has_passing_fault}
use Rattle.dh_demand.proofs.Numbers.{stands}

pub not-false : (b : Bool) → not b ≡ false → b ≡ true
not-false true h = refl
not-false false h = let e : ⊥ = cc in absurd e

pub place_of_text : (parent : Option Loc) → place (text_key parent) ≡ parent
place_of_text None = refl
place_of_text (Some l) = refl

-- an import of a text at this location, by its key
abbrev pub comes : Option Loc → List Row → Key → Walked Term
comes parent rows k = walk_key (text_key parent) (ask_of rows) k

pub sane_is : (parent : Option Loc) (rows : List Row) (k : Key) (e : Edge) (b : Bool) → IsEdge parent rows k e → e.sane ≡ b → is_sane (text_key parent) k ≡ b
sane_is parent rows k e b h is = ap (λ p. sane p k.loc k.mode) (place_of_text parent) ∙ h.sane_is ∙ is

insane_comes : (parent : Option Loc) (rows : List Row) (k : Key) (e : Edge) → IsEdge parent rows k e → e.sane ≡ false
    → comes parent rows k ≡ Fails (record { at = text_key parent; why = whys.Insane k.loc })
insane_comes parent rows k e h is =
    ap (λ c. if c then by_outcome (text_key parent) k (ask_of rows k) else Fails (record { at = text_key parent; why = whys.Insane k.loc })) (sane_is parent rows k e false h is)

-- a sane import by the outcome of its number
pub sane_comes : (parent : Option Loc) (rows : List Row) (k : Key) (e : Edge) (o : Option program.Outcome) → IsEdge parent rows k e → e.sane ≡ true
    → outcome_at rows e.key ≡ Some o → comes parent rows k ≡ by_outcome (text_key parent) k (option_map plain o)
sane_comes parent rows k e o h is known =
    let s = stands rows k e.key h.numbered in
    ap (λ c. if c then by_outcome (text_key parent) k (ask_of rows k) else Fails (record { at = text_key parent; why = whys.Insane k.loc })) (sane_is parent rows k e true h is)
    ∙ ap (by_outcome (text_key parent) k) (s.asked ∙ ap (option_map plain) (some-equal (sym s.outcome_is ∙ known)))

-- ---- what comes next

ends_at : (parent : Option Loc) (rows : List Row) (k : Key) (e : Edge) (w : Walked Term) → IsEdge parent rows k e → comes parent rows k ≡ w
    → (ComesTo parent rows e w → IsNext parent rows w (next.Fault e)) → IsNext parent rows (comes parent rows k) (next.Fault e)
ends_at parent rows k e w h is make =
    let P : Walked Term → Type 0 = λ v. IsNext parent rows v (next.Fault e) in
    subst P (sym is) (make (record { key = k; edge = h; comes = is }))

pub visit_insane : (parent : Option Loc) (rows : List Row) (k : Key) (e : Edge) → IsEdge parent rows k e → e.sane ≡ false → IsNext parent rows (comes parent rows k) (next.Fault e)
visit_insane parent rows k e h is = ends_at parent rows k e _ h (insane_comes parent rows k e h is) (λ x. x)

pub visit_undecided : (parent : Option Loc) (rows : List Row) (k : Key) (e : Edge) → IsEdge parent rows k e → e.sane ≡ true → outcome_at rows e.key ≡ Some None
    → IsNext parent rows (comes parent rows k) (next.Need e.key)
visit_undecided parent rows k e h is known =
    let P : Walked Term → Type 0 = λ v. IsNext parent rows v (next.Need e.key) in
    subst P (sym (sane_comes parent rows k e None h is known)) h.numbered

-- what a fault of the program is to a walk: that fault, or a loop
pub data Blamed (b : Blame) : Outcome → Type 0 where
  fault : Blamed b (Bad b)
  looped : {j : Key} → b.why ≡ whys.Cycle → Blamed b (Loop j)

pub blamed : (at : Option Key) (w : Why) → Blamed (record { at = at; why = w }) (of_blame at w)
blamed None w = fault
blamed (Some j) (whys.Parse f) = fault
blamed (Some j) (whys.Typing f) = fault
blamed (Some j) (whys.Norm f) = fault
blamed (Some j) whys.Absent = fault
blamed (Some j) whys.Missing = fault
blamed (Some j) (whys.Broken n) = fault
blamed (Some j) whys.Https = fault
blamed (Some j) whys.Failed = fault
blamed (Some j) (whys.Differs a b) = fault
blamed (Some j) (whys.Insane l) = fault
blamed (Some j) (whys.Cors l) = fault
blamed (Some j) whys.Cycle = looped refl
blamed (Some j) whys.TooMany = fault

pub visit_bad : (parent : Option Loc) (rows : List Row) (k : Key) (e : Edge) (b : Blame) → IsEdge parent rows k e → e.sane ≡ true → outcome_at rows e.key ≡ Some (Some (variants.Bad b))
    → IsNext parent rows (comes parent rows k) (next.Fault e)
visit_bad parent rows k e b h is known = go (of_blame b.at b.why) (sane_comes parent rows k e (Some (variants.Bad b)) h is known) (blamed b.at b.why)
  where
    go : (o : Outcome) → comes parent rows k ≡ by_outcome (text_key parent) k (Some o) → Blamed b o → IsNext parent rows (comes parent rows k) (next.Fault e)
    go _ p fault = ends_at parent rows k e _ h p (λ x. x)
    go _ p (looped q) = ends_at parent rows k e _ h p (λ x. x)

pub visit_good : (parent : Option Loc) (rows : List Row) (k j : Key) (e : Edge) (v : Expr) (o : Origin) → IsEdge parent rows k e → e.sane ≡ true
    → outcome_at rows e.key ≡ Some (Some (variants.Good v o)) → key_at rows e.key ≡ Some j → allowed (text_key parent) j o ≡ true
    → IsNext parent rows (comes parent rows k) next.Ready
visit_good parent rows k j e v o h is known at free =
    let s = stands rows k e.key h.numbered in
    let same : j ≡ k = some-equal (sym at ∙ s.key_is) in
    let P : Walked Term → Type 0 = λ w. IsNext parent rows w next.Ready in
    subst P (sym (sane_comes parent rows k e (Some (variants.Good v o)) h is known ∙ ap (λ c. if c then Ready (term v) else Fails (record { at = text_key parent; why = whys.Cors k.loc })) (ap (λ x. allowed (text_key parent) x o) (sym same) ∙ free))) tt

pub visit_barred : (parent : Option Loc) (rows : List Row) (k j : Key) (e : Edge) (v : Expr) (o : Origin) → IsEdge parent rows k e → e.sane ≡ true
    → outcome_at rows e.key ≡ Some (Some (variants.Good v o)) → key_at rows e.key ≡ Some j → allowed (text_key parent) j o ≡ false
    → IsNext parent rows (comes parent rows k) (next.Fault e)
visit_barred parent rows k j e v o h is known at free =
    let s = stands rows k e.key h.numbered in
    let same : j ≡ k = some-equal (sym at ∙ s.key_is) in
    ends_at parent rows k e _ h
    (sane_comes parent rows k e (Some (variants.Good v o)) h is known ∙ ap (λ c. if c then Ready (term v) else Fails (record { at = text_key parent; why = whys.Cors k.loc })) (ap (λ x. allowed (text_key parent) x o) (sym same) ∙ free))
    (λ x. x)

-- ---- whether a choice goes on

goes_on-of : (parent : Option Loc) (rows : List Row) (k : Key) (e : Edge) (o : Option program.Outcome) → IsEdge parent rows k e → e.sane ≡ true
    → outcome_at rows e.key ≡ Some o → has_passing_fault o ≡ goes_on (comes parent rows k)
goes_on-of parent rows k e None h is known = ap goes_on (sym (sane_comes parent rows k e None h is known))
goes_on-of parent rows k e (Some (variants.Good v o)) h is known =
    go (allowed (text_key parent) k o) refl
  where
    go : (b : Bool) → allowed (text_key parent) k o ≡ b → false ≡ goes_on (comes parent rows k)
    go true p = ap goes_on (sym (sane_comes parent rows k e (Some (variants.Good v o)) h is known ∙ ap (λ c. if c then Ready (term v) else Fails (record { at = text_key parent; why = whys.Cors k.loc })) p))
    go false p = ap goes_on (sym (sane_comes parent rows k e (Some (variants.Good v o)) h is known ∙ ap (λ c. if c then Ready (term v) else Fails (record { at = text_key parent; why = whys.Cors k.loc })) p))
goes_on-of parent rows k e (Some (variants.Bad b)) h is known = go (of_blame b.at b.why) (sane_comes parent rows k e (Some (variants.Bad b)) h is known) (blamed b.at b.why)
  where
    go : (o : Outcome) → comes parent rows k ≡ by_outcome (text_key parent) k (Some o) → Blamed b o → may_go_on b.why ≡ goes_on (comes parent rows k)
    go _ p fault = ap goes_on (sym p)
    go _ p (looped q) = ap may_go_on q ∙ ap goes_on (sym p)

insane_stays : (parent : Option Loc) (rows : List Row) (k : Key) (e : Edge) → IsEdge parent rows k e → e.sane ≡ false → false ≡ goes_on (comes parent rows k)
insane_stays parent rows k e h is = ap goes_on (sym (insane_comes parent rows k e h is))

-- a fault, by the test of its import
pub fault_goes_on : (parent : Option Loc) (rows : List Row) (e : Edge) (w : Walked Term) (o : Option program.Outcome) (answer : Bool) → IsNext parent rows w (next.Fault e)
    → outcome_at rows e.key ≡ Some o → e.sane ≡ true → answer ≡ has_passing_fault o → answer ≡ goes_on w
fault_goes_on parent rows e (Fails b) o answer h known is p = p ∙ goes_on-of parent rows h.key e o h.edge is known ∙ ap goes_on h.comes
fault_goes_on parent rows e (Turns j) o answer h known is p = p ∙ goes_on-of parent rows h.key e o h.edge is known ∙ ap goes_on h.comes
fault_goes_on parent rows e (Ready x) o answer h known is p = absurd h
fault_goes_on parent rows e (Needs k) o answer h known is p = absurd h

pub insane_fault_stays : (parent : Option Loc) (rows : List Row) (e : Edge) (w : Walked Term) → IsNext parent rows w (next.Fault e) → e.sane ≡ false → false ≡ goes_on w
insane_fault_stays parent rows e (Fails b) h is = insane_stays parent rows h.key e h.edge is ∙ ap goes_on h.comes
insane_fault_stays parent rows e (Turns j) h is = insane_stays parent rows h.key e h.edge is ∙ ap goes_on h.comes
insane_fault_stays parent rows e (Ready x) h is = absurd h
insane_fault_stays parent rows e (Needs k) h is = absurd h

pub ready_stays : (parent : Option Loc) (rows : List Row) (w : Walked Term) → IsNext parent rows w next.Ready → false ≡ goes_on w
ready_stays parent rows (Ready x) h = refl
ready_stays parent rows (Fails b) h = absurd h
ready_stays parent rows (Turns j) h = absurd h
ready_stays parent rows (Needs k) h = absurd h

pub need_stays : (parent : Option Loc) (rows : List Row) (w : Walked Term) (n : ℕ) → IsNext parent rows w (next.Need n) → false ≡ goes_on w
need_stays parent rows (Needs k) n h = refl
need_stays parent rows (Fails b) n h = absurd h
need_stays parent rows (Turns j) n h = absurd h
need_stays parent rows (Ready x) n h = absurd h
