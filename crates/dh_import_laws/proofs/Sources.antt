-- Where the fault that decides a key or the root comes from.
use Rattle.std.specs.Prelude.{◌≡◌, ◌⊎◌, ℕ, Bool, true, false, nat_lt, if◌then◌else◌, List, [], ◌∷◌, length, Option, Some, None, Result, Ok, Err, refl}
use Rattle.std.specs.Str.{is_utf8}
use Rattle.std.proofs.Common.{ap, sym, ◌∙◌, subst, inl, inr}
use Rattle.dh_syntax.specs.declared.expressions.Op.{Op}
use Rattle.dh_syntax.specs.declared.faults.Ill.{Ill}
use Rattle.dh_syntax.specs.declared.faults.ParseFault.{ParseFault}
use Rattle.dh_syntax.specs.declared.faults.TypeFault.TheVariants as type
use Rattle.dh_syntax.specs.declared.locations.Digest.{Digest}
use Rattle.dh_syntax.specs.declared.locations.Key.{Key}
use Rattle.dh_syntax.specs.declared.locations.Loc.{Loc}
use Rattle.dh_syntax.specs.declared.locations.Loc.TheVariants as locs
use Rattle.dh_syntax.specs.declared.locations.Mode.{Mode}
use Rattle.dh_syntax.specs.declared.locations.Mode.TheVariants as modes
use Rattle.dh_imports.specs.declared.outcomes.Blame.{Blame}
use Rattle.dh_imports.specs.declared.outcomes.Origin.{Origin}
use Rattle.dh_imports.specs.declared.outcomes.Why.{Why}
use Rattle.dh_imports.specs.declared.outcomes.Why.TheVariants.{Parse, Typing, Absent, Missing, Broken, Https, Failed, Differs, Insane, Cors}
use Rattle.dh_syntax.specs.Expressions.SameTree.{digest_eq}
use Rattle.dh_syntax.specs.Expressions.Tree.{Row, Leaf, Node, end, kid, Name, Var, Term}
use Rattle.dh_syntax.specs.Imports.Keys.{chained, key_eq}
use Rattle.dh_imports.specs.LastStep.{Code, Text, Location, Compare, Entry, Fault, text_outcome, compared, last_step}
use Rattle.dh_syntax.specs.Bytes.Digests.{digest_of}
use Rattle.dh_imports.specs.Outcomes.{Outcome, Good, Bad, Loop, may_go_on}
use Rattle.dh_imports.specs.Records as found
use Rattle.dh_imports.specs.Records.{Record, Noted, Seen, Found, text_at, look_at, limit_at}
use Rattle.dh_imports.specs.Resolver.{Plan, Unknown, Now, Walks, Asks, plan_parsed, plan_found, plan_text, unfetched, plan_fetch, plan_mode, plan_look, plan_digest, plan, Stage, Lacks, Has, Meets, Waits, of_walk, of_bare, of_plan, stage, unless_limit, ended}
use Rattle.dh_imports.specs.Walk.{Ask, place, Form, importing, choosing, other, form_of, Walked, Ready, Fails, Turns, Needs, and_then, or_else, in_order, allowed, by_outcome, is_sane, walk_node, walk, walks}
use Rattle.dh_syntax.specs.Limits.{most_bytes}
use Rattle.dh_syntax.specs.Typing.NamedTyping.{IsIll}
use Rattle.dh_laws.proofs.KeyOrder.{bool-case, none-some, some-equal}
use Rattle.dh_import_laws.specs.ImportLaws.{ComesOf, normal, ill}
use Rattle.dh_import_laws.proofs.Calm.{Outcomes, at, at-same, at-other, at-grown}
use Rattle.dh_import_laws.proofs.CodeSteps.{code_comes_of}
use Rattle.dh_import_laws.proofs.Sound.{Log, start, fin, cyc}
use Rattle.dh_import_laws.proofs.Walks.{Knows, Grown, walk-grown}

-- a fault that a walk finds itself
abbrev pub IsOfWalks : Why → Type 0
IsOfWalks (Insane l) = Unit {0}
IsOfWalks (Cors l) = Unit {0}
IsOfWalks _ = ⊥

-- a fault of the key itself, neither of typing nor a limit; a device that failed is recorded
abbrev pub IsOfKey : Record → Key → Why → Type 0
IsOfKey r k Failed = text_at r k.loc ≡ Some found.Failed
IsOfKey r k (Parse f) = Unit {0}
IsOfKey r k Absent = Unit {0}
IsOfKey r k Missing = Unit {0}
IsOfKey r k (Broken n) = Unit {0}
IsOfKey r k Https = Unit {0}
IsOfKey r k (Differs wanted got) = Unit {0}
IsOfKey r k _ = ⊥

abbrev pub ill_blame : Key → Ill → Blame
ill_blame k f = record { at = Some k; why = Typing (type.Ill f) }

-- where a fault comes from
pub data Source (r : Record) (ask : Ask) (b : Blame) : Type 0 where
  walked : IsOfWalks b.why → Source r ask b
  keyed : (k : Key) → IsOfKey r k b.why → Source r ask b
  limited : (k : Key) → limit_at r k ≡ Some b.why → Source r ask b
  -- the code of a key, with a value for each import, is refused
  typed : (k : Key) (e x : Term) (allow : Option (List ℕ)) (f : Ill) → plan r k ≡ Walks e allow → walk (Some k) ask e ≡ Ready x
      → IsIll [] x f.path f.rule → ill_blame k f ≡ b → Source r ask b

-- ---- walks

-- a fault of a walk is one that it finds itself, or that of an outcome that is known
abbrev pub Came : Ask → Blame → Type 0
Came ask b = IsOfWalks b.why ⊎ ((y : Key) × (ask y ≡ Some (Bad b)))

abbrev pub Blames : {X : Type 0} → Ask → Walked X → Type 0
Blames ask (Fails b) = Came ask b
Blames ask _ = Unit {0}

and_then-blames : {X Y : Type 0} (ask : Ask) (a : Walked X) (f : X → Walked Y) → Blames ask a → ((x : X) → Blames ask (f x)) → Blames ask (and_then a f)
and_then-blames ask (Ready x) f h k = k x
and_then-blames ask (Fails b) f h k = h
and_then-blames ask (Turns j) f h k = tt
and_then-blames ask (Needs y) f h k = tt

either-blames : (ask : Ask) (t : Bool) (c : Blame) (a : Walked Term) → Blames ask a → Came ask c → Blames ask (if t then a else Fails c)
either-blames ask true c a h k = h
either-blames ask false c a h k = k

or_else-blames : (ask : Ask) (a c : Walked Term) → Blames ask a → Blames ask c → Blames ask (or_else a c)
or_else-blames ask (Ready x) c h k = tt
or_else-blames ask (Fails e) c h k = either-blames ask (may_go_on e.why) e c k h
or_else-blames ask (Turns j) c h k = tt
or_else-blames ask (Needs y) c h k = tt

abbrev AllBlame : Ask → List (Walked Term) → Type 0
AllBlame ask [] = Unit {0}
AllBlame ask (w ∷ ws) = Blames ask w × AllBlame ask ws

in_order-blames : (ask : Ask) (ws : List (Walked Term)) → AllBlame ask ws → Blames ask (in_order ws)
in_order-blames ask [] h = tt
in_order-blames ask (w ∷ ws) h = and_then-blames ask w _ h.0 (λ e. and_then-blames ask (in_order ws) _ (in_order-blames ask ws h.1) (λ es. tt))

by_outcome-blames : (parent : Option Key) (k : Key) (ask : Ask) (o : Option Outcome) → ask k ≡ o → Blames ask (by_outcome parent k o)
by_outcome-blames parent k ask None e = tt
by_outcome-blames parent k ask (Some (Good v o)) e = either-blames ask (allowed parent k o) _ (Ready v) tt (inl tt)
by_outcome-blames parent k ask (Some (Bad b)) e = inr (k, e)
by_outcome-blames parent k ask (Some (Loop j)) e = tt

walk_node-blames : (parent : Option Key) (ask : Ask) (op : Op) (r : Row Var Name) (f : Form) (ws : List (Walked Term)) → AllBlame ask ws → Blames ask (walk_node parent ask op r f ws)
walk_node-blames parent ask op r (importing i) ws h =
    let k = chained (place parent) i in either-blames ask (is_sane parent k) _ _ (by_outcome-blames parent k ask (ask k) refl) (inl tt)
walk_node-blames parent ask op r other ws h = and_then-blames ask (in_order ws) _ (in_order-blames ask ws h) (λ es. tt)
walk_node-blames parent ask op r choosing [] h = tt
walk_node-blames parent ask op r choosing (w ∷ []) h = and_then-blames ask (in_order (w ∷ [])) _ (in_order-blames ask (w ∷ []) h) (λ es. tt)
walk_node-blames parent ask op r choosing (w ∷ x ∷ []) h = or_else-blames ask w x h.0 h.1.0
walk_node-blames parent ask op r choosing (w ∷ x ∷ y ∷ ws) h = and_then-blames ask (in_order (w ∷ x ∷ y ∷ ws)) _ (in_order-blames ask (w ∷ x ∷ y ∷ ws) h) (λ es. tt)

mutual
  pub walk-blames : (parent : Option Key) (ask : Ask) (e : Term) → Blames ask (walk parent ask e)
  walk-blames parent ask (Leaf v) = tt
  walk-blames parent ask (Node op r) = walk_node-blames parent ask op r (form_of op) _ (walks-blames parent ask r)

  walks-blames : (parent : Option Key) (ask : Ask) (r : Row Var Name) → AllBlame ask (walks parent ask r)
  walks-blames parent ask end = tt
  walks-blames parent ask (kid b e r) = (walk-blames parent ask e, walks-blames parent ask r)

-- ---- plans and stages

-- a fault of a plan is one of the key itself, and code is still to be walked
abbrev PlanSays : Record → Key → Plan → Type 0
PlanSays r k (Now (Fault b)) = IsOfKey r k b.why
PlanSays r k (Now (Code e allow)) = ⊥
PlanSays r k _ = Unit {0}

parsed-says : (r : Record) (k : Key) (allow : Option (List ℕ)) (x : Result Term ParseFault) → PlanSays r k (plan_parsed k allow x)
parsed-says r k allow (Ok e) = tt
parsed-says r k allow (Err f) = tt

found-says : (r : Record) (k : Key) (as_text : Bool) (bytes : List ℕ) (allow : Option (List ℕ)) (x : Result Term ParseFault) → PlanSays r k (plan_found k as_text bytes allow x)
found-says r k true bytes allow x = tt
found-says r k false bytes allow x = parsed-says r k allow x

text-says : (r : Record) (k : Key) (as_text : Bool) (x : Option Noted) → text_at r k.loc ≡ x → PlanSays r k (plan_text k as_text x)
text-says r k as_text None e = tt
text-says r k as_text (Some (Found bytes allow x)) e = found-says r k as_text bytes allow x
text-says r k as_text (Some found.Absent) e = tt
text-says r k as_text (Some (found.Broken n)) e = tt
text-says r k as_text (Some found.Failed) e = e

unfetched-says : (r : Record) (k : Key) (l : Loc) (w : Why) → unfetched l ≡ Some w → IsOfKey r k w
unfetched-says r k locs.Missing w e = subst (IsOfKey r k) (some-equal e) tt
unfetched-says r k (locs.Https u) w e = subst (IsOfKey r k) (some-equal e) tt
unfetched-says r k (locs.Http u) w e = none-some refl e
unfetched-says r k (locs.Env x) w e = none-some refl e
unfetched-says r k (locs.Abs cs) w e = none-some refl e
unfetched-says r k (locs.Here cs) w e = none-some refl e
unfetched-says r k (locs.Parent cs) w e = none-some refl e
unfetched-says r k (locs.Home cs) w e = none-some refl e

fetch-says : (r : Record) (k : Key) (as_text : Bool) (o : Option Why) → unfetched k.loc ≡ o → PlanSays r k (plan_fetch r k as_text o)
fetch-says r k as_text (Some w) e = unfetched-says r k k.loc w e
fetch-says r k as_text None e = text-says r k as_text (text_at r k.loc) refl

mode-says : (r : Record) (k : Key) (m : Mode) → PlanSays r k (plan_mode r k m)
mode-says r k modes.Location = tt
mode-says r k modes.Text = fetch-says r k true (unfetched k.loc) refl
mode-says r k modes.Code = fetch-says r k false (unfetched k.loc) refl

look-says : (r : Record) (k : Key) (d : Digest) (x : Option Seen) → PlanSays r k (plan_look k d x)
look-says r k d None = tt
look-says r k d (Some (found.Good bytes e)) = tt
look-says r k d (Some found.Miss) = tt
look-says r k d (Some found.Failed) = tt

digest-says : (r : Record) (k : Key) (x : Option Digest) → PlanSays r k (plan_digest r k x)
digest-says r k None = mode-says r k k.mode
digest-says r k (Some d) = look-says r k d (look_at r d)

-- what a stage says of the plan, and of the outcomes that are known
abbrev pub StageSays : Record → Ask → Key → Plan → Stage → Type 0
StageSays r ask k p (Has (Fault b)) = IsOfKey r k b.why ⊎ Came ask b
StageSays r ask k p (Has (Code x allow)) = (e : Term) × (p ≡ Walks e allow) × (walk (Some k) ask e ≡ Ready x)
StageSays r ask k p _ = Unit {0}

walk-says : (r : Record) (ask : Ask) (k : Key) (e : Term) (allow : Option (List ℕ)) (w : Walked Term) → walk (Some k) ask e ≡ w → Blames ask w → StageSays r ask k (Walks e allow) (of_walk allow w)
walk-says r ask k e allow (Ready x) h b = (e, refl, h)
walk-says r ask k e allow (Fails c) h b = inr b
walk-says r ask k e allow (Turns j) h b = tt
walk-says r ask k e allow (Needs y) h b = tt

bare-says : (r : Record) (ask : Ask) (k j : Key) (o : Option Outcome) → ask j ≡ o → StageSays r ask k (Asks j) (of_bare j o)
bare-says r ask k j None h = tt
bare-says r ask k j (Some (Good v o)) h = tt
bare-says r ask k j (Some (Bad b)) h = inr (inr (j, h))
bare-says r ask k j (Some (Loop i)) h = tt

plan-says : (r : Record) (ask : Ask) (k : Key) (p : Plan) → PlanSays r k p → StageSays r ask k p (of_plan ask k p)
plan-says r ask k (Unknown part) h = tt
plan-says r ask k (Now (Code e allow)) h = absurd h
plan-says r ask k (Now (Text bytes allow)) h = tt
plan-says r ask k (Now (Location l)) h = tt
plan-says r ask k (Now (Compare v o)) h = tt
plan-says r ask k (Now (Entry e)) h = tt
plan-says r ask k (Now (Fault b)) h = inl h
plan-says r ask k (Walks e allow) h = walk-says r ask k e allow (walk (Some k) ask e) refl (walk-blames (Some k) ask e)
plan-says r ask k (Asks j) h = bare-says r ask k j (ask j) refl

pub stage-says : (r : Record) (ask : Ask) (k : Key) → StageSays r ask k (plan r k) (stage r ask k)
stage-says r ask k = plan-says r ask k (plan r k) (digest-says r k k.digest)

-- ---- outcomes

abbrev pub blame_in : Blame → Outcome → Blame
blame_in b (Good v o) = b
blame_in b (Bad c) = c
blame_in b (Loop j) = b

abbrev pub IsBad : Outcome → Type 0
IsBad (Good v o) = ⊥
IsBad (Bad c) = Unit {0}
IsBad (Loop j) = ⊥

-- code that comes to a fault is refused
pub code_ill : (k : Key) (x : Term) (allow : Option (List ℕ)) (b : Blame) → ComesOf k x allow (Bad b) → (f : Ill) × IsIll [] x f.path f.rule × (ill_blame k f ≡ b)
code_ill k x allow b c = by_case (Bad b) c refl
  where
    by_case : (o : Outcome) → ComesOf k x allow o → o ≡ Bad b → (f : Ill) × IsIll [] x f.path f.rule × (ill_blame k f ≡ b)
    by_case o (normal units t left i g) q = absurd (subst IsBad (sym q) tt)
    by_case o (ill {path = path} {number = number} i) q = (record { path = path; rule = number }, i, ap (blame_in b) q)

-- a fault of this outcome is one of the key itself
abbrev pub OutcomeSays : Record → Key → Outcome → Type 0
OutcomeSays r k (Good v o) = Unit {0}
OutcomeSays r k (Bad b) = IsOfKey r k b.why
OutcomeSays r k (Loop j) = Unit {0}

either-says : (r : Record) (k : Key) (t : Bool) (o p : Outcome) → OutcomeSays r k o → OutcomeSays r k p → OutcomeSays r k (if t then o else p)
either-says r k true o p h g = h
either-says r k false o p h g = g

pub text_outcome-says : (r : Record) (k : Key) (bytes : List ℕ) (allow : Option (List ℕ)) → OutcomeSays r k (text_outcome k bytes allow)
text_outcome-says r k bytes allow = either-says r k (nat_lt most_bytes (length bytes)) _ _ tt (either-says r k (is_utf8 bytes) _ _ tt tt)

pub compared-says : (r : Record) (k : Key) (d : Option Digest) (v : Term) (o : Origin) → OutcomeSays r k (compared k d v o)
compared-says r k None v o = tt
compared-says r k (Some d) v o = either-says r k (digest_eq d (digest_of v)) _ _ tt tt

module _ (r : Record) (l : Outcomes) (k : Key) (n : ℕ) (b : Blame) (earlier : (y : Key) → at l y ≡ Some (Bad b) → Source r (at l) b) where
  outcome-source : (o : Outcome) → OutcomeSays r k o → Some o ≡ Some (Bad b) → Source r (at l) b
  outcome-source o h e = keyed k (subst (OutcomeSays r k) (some-equal e) h)

  fault-source : (c : Blame) → IsOfKey r k c.why ⊎ Came (at l) c → Some (Bad c) ≡ Some (Bad b) → Source r (at l) b
  fault-source c (inl h) e = outcome-source (Bad c) h e
  fault-source c (inr (inl h)) e = walked (subst (λ (d : Blame). IsOfWalks d.why) (ap (blame_in b) (some-equal e)) h)
  fault-source c (inr (inr (y, h))) e = earlier y (h ∙ e)

  code-source : (x : Term) (allow : Option (List ℕ)) (w : Option Why) → limit_at r k ≡ w → StageSays r (at l) k (plan r k) (Has (Code x allow))
      → unless_limit k w (last_step n k (Code x allow)) ≡ Some (Bad b) → Source r (at l) b
  code-source x allow (Some w) h s e = limited k (h ∙ ap (λ (d : Blame). Some d.why) (ap (blame_in b) (some-equal e)))
  code-source x allow None h s e = let c = code_ill k x allow b (code_comes_of n k x allow (Bad b) e) in typed k s.0 x allow c.0 s.1 s.2 c.1 c.2

  stage-source : (s : Stage) → StageSays r (at l) k (plan r k) s → ended r n k s ≡ Some (Bad b) → Source r (at l) b
  unfolding last_step
  stage-source (Has (Code x allow)) s e = code-source x allow (limit_at r k) refl s e
  stage-source (Has (Text bytes allow)) s e = outcome-source (text_outcome k bytes allow) (text_outcome-says r k bytes allow) e
  stage-source (Has (Location i)) s e = outcome-source _ tt e
  stage-source (Has (Compare v o)) s e = outcome-source (compared k k.digest v o) (compared-says r k k.digest v o) e
  stage-source (Has (Entry v)) s e = outcome-source _ tt e
  stage-source (Has (Fault c)) s e = fault-source c s e
  stage-source (Meets j) s e = outcome-source (Loop j) tt e
  stage-source (Lacks p) s e = none-some refl e
  stage-source (Waits y) s e = none-some refl e

-- more outcomes that are known change nothing
source-grown : (r : Record) (less more : Ask) (b : Blame) → Knows less more → Source r less b → Source r more b
source-grown r less more b knows (walked h) = walked h
source-grown r less more b knows (keyed k h) = keyed k h
source-grown r less more b knows (limited k h) = limited k h
source-grown r less more b knows (typed k e x allow f p h i q) =
    typed k e x allow f p (subst (λ w. Grown more w (walk (Some k) more e)) h (walk-grown (Some k) less more knows e)) i q

fin-source : (r : Record) (l : Outcomes) (k : Key) (o : Outcome) (n : ℕ) → ended r n k (stage r (at l) k) ≡ Some o → (j : Key) (b : Blame) → at ((k, o) ∷ l) j ≡ Some (Bad b)
    → ((y : Key) → at l y ≡ Some (Bad b) → Source r (at l) b) → (key_eq k j ≡ true) ⊎ (key_eq k j ≡ false) → Source r (at l) b
fin-source r l k o n e j b h earlier (inl same) = stage-source r l k n b earlier (stage r (at l) k) (stage-says r (at l) k) (e ∙ sym (at-same l k j o same) ∙ h)
fin-source r l k o n e j b h earlier (inr apart) = earlier j (sym (at-other l k j o apart) ∙ h)

cyc-source : (r : Record) (l : Outcomes) (k j : Key) (b : Blame) → at ((k, Loop k) ∷ l) j ≡ Some (Bad b)
    → ((y : Key) → at l y ≡ Some (Bad b) → Source r (at l) b) → (key_eq k j ≡ true) ⊎ (key_eq k j ≡ false) → Source r (at l) b
cyc-source r l k j b h earlier (inl same) = absurd (subst IsBad (sym (some-equal (sym (at-same l k j (Loop k) same) ∙ h))) tt)
cyc-source r l k j b h earlier (inr apart) = earlier j (sym (at-other l k j (Loop k) apart) ∙ h)

pub source : (r : Record) {l : Outcomes} → Log r l → (j : Key) (b : Blame) → at l j ≡ Some (Bad b) → Source r (at l) b
source r start j b h = none-some refl h
source r (fin {l = l} {k = k} {o = o} log free n e) j b h =
    source-grown r (at l) (at ((k, o) ∷ l)) b (at-grown l k o free) (fin-source r l k o n e j b h (λ y g. source r log y b g) (bool-case (key_eq k j)))
source r (cyc {l = l} {k = k} log loop) j b h =
    source-grown r (at l) (at ((k, Loop k) ∷ l)) b (at-grown l k (Loop k) loop.1.0) (cyc-source r l k j b h (λ y g. source r log y b g) (bool-case (key_eq k j)))

pub root_source : (r : Record) {l : Outcomes} → Log r l → (root : Term) (b : Blame) → walk None (at l) root ≡ Fails b → Source r (at l) b
root_source r {l = l} log root b h = go (subst (Blames (at l)) h (walk-blames None (at l) root))
  where
    go : Came (at l) b → Source r (at l) b
    go (inl w) = walked w
    go (inr (y, g)) = source r log y b g
