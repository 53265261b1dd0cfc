-- A place without a type that decides a key stands in the text of a key, by the outcomes that are kept.
use Rattle.std.specs.Prelude.{◌≡◌, [], Some, None, refl}
use Rattle.std.proofs.Common.{ap, sym, ◌∙◌, subst}
use Rattle.dh_syntax.specs.declared.faults.Ill.{Ill}
use Rattle.dh_syntax.specs.declared.faults.TypeFault.TheVariants as type
use Rattle.dh_syntax.specs.declared.locations.Key.{Key}
use Rattle.dh_imports.specs.declared.outcomes.Blame.{Blame}
use Rattle.dh_imports.specs.declared.outcomes.Why.{Why}
use Rattle.dh_imports.specs.declared.outcomes.Why.TheVariants.{Parse, Typing, Norm, Absent, Missing, Broken, Https, Failed, Differs, Insane, Cors, Cycle, TooMany}
use Rattle.dh_imports.specs.ImportFaults.{ill_of}
use Rattle.dh_syntax.specs.Expressions.Tree.{Term}
use Rattle.dh_imports.specs.Records.{Record, limit_at, IsLimitOf}
use Rattle.dh_imports.specs.Resolver.{Walks}
use Rattle.dh_imports.specs.Walk.{Ready, walk}
use Rattle.dh_syntax.specs.Typing.NamedTyping.{IsIll}
use Rattle.dh_laws.proofs.KeyOrder.{none-some, some-equal}
use Rattle.dh_import_laws.specs.Blames.{StandsIn}
use Rattle.dh_import_laws.proofs.Calm.{Outcomes, at}
use Rattle.dh_import_laws.proofs.Plans.{PlanTold, plan-told}
use Rattle.dh_import_laws.proofs.Sound.{Log, decided}
use Rattle.dh_import_laws.proofs.Sources.{IsOfWalks, IsOfKey, Source, walked, keyed, limited, typed, source}
use Rattle.dh_watch_laws.specs.Kept.{FaultsOfKeptStand}
use Rattle.dh_watch_laws.proofs.Holding.{log-of}

of_walks-untold : (w : Why) → IsOfWalks w → ill_of w ≡ None
of_walks-untold (Insane l) h = refl
of_walks-untold (Cors l) h = refl
of_walks-untold (Typing f) h = absurd h
of_walks-untold (Norm f) h = refl
of_walks-untold (Parse f) h = refl
of_walks-untold Absent h = refl
of_walks-untold Missing h = refl
of_walks-untold (Broken n) h = refl
of_walks-untold Https h = refl
of_walks-untold Failed h = refl
of_walks-untold (Differs wanted got) h = refl
of_walks-untold Cycle h = refl
of_walks-untold TooMany h = refl

of_key-untold : (r : Record) (k : Key) (w : Why) → IsOfKey r k w → ill_of w ≡ None
of_key-untold r k (Typing f) h = absurd h
of_key-untold r k (Norm f) h = refl
of_key-untold r k (Parse f) h = refl
of_key-untold r k Absent h = refl
of_key-untold r k Missing h = refl
of_key-untold r k (Broken n) h = refl
of_key-untold r k Https h = refl
of_key-untold r k Failed h = refl
of_key-untold r k (Differs wanted got) h = refl
of_key-untold r k (Insane l) h = refl
of_key-untold r k (Cors l) h = refl
of_key-untold r k Cycle h = refl
of_key-untold r k TooMany h = refl

limit-untold : (x : Term) (w : Why) → IsLimitOf x w → ill_of w ≡ None
limit-untold x (Typing (type.Ill f)) h = absurd h
limit-untold x (Typing type.Wide) h = refl
limit-untold x (Typing type.Spent) h = refl
limit-untold x (Typing type.Deep) h = refl
limit-untold x (Typing type.Memory) h = refl
limit-untold x (Norm f) h = refl
limit-untold x (Parse f) h = refl
limit-untold x Absent h = refl
limit-untold x Missing h = refl
limit-untold x (Broken n) h = refl
limit-untold x Https h = refl
limit-untold x Failed h = refl
limit-untold x (Differs wanted got) h = refl
limit-untold x (Insane l) h = refl
limit-untold x (Cors l) h = refl
limit-untold x Cycle h = refl
limit-untold x TooMany h = refl

-- no limit tells a place without a type
abbrev NoIllLimit : Record → Type 0
NoIllLimit r = (k : Key) (w : Why) → limit_at r k ≡ Some w → ill_of w ≡ None

stands : (r : Record) {l : Outcomes} → Log r l → NoIllLimit r → (b : Blame) (f : Ill) → ill_of b.why ≡ Some f → Source r (at l) b → StandsIn r (at l) b f
stands r log limits b f told (walked h) = none-some (of_walks-untold b.why h) told
stands r log limits b f told (keyed k h) = none-some (of_key-untold r k b.why h) told
stands r log limits b f told (limited k h) = none-some (limits k b.why h) told
stands r {l = l} log limits b f told (typed k e x allow g p h i q) =
    let here : PlanTold r k (Walks e allow) = subst (PlanTold r k) p (plan-told r k) in
    let is_at : b.at ≡ Some k = ap (λ (c : Blame). c.at) (sym q) in
    let fault : g ≡ f = some-equal (ap (λ (c : Blame). ill_of c.why) q ∙ told) in
    record {
      text = here.1.0;
      spelled = e;
      value = x;
      reading = record {
        key = k;
        is_at = is_at;
        allow = allow;
        found = here.1.1;
        valued = record { asks = decided r l log; ready = subst (λ parent. walk parent (at l) e ≡ Ready x) (sym is_at) h };
      };
      refused = subst (λ (c : Ill). IsIll [] x c.path c.rule) fault i;
    }

pub faults_of_kept_stand : FaultsOfKeptStand
faults_of_kept_stand s k b f h e told =
    let log = log-of s.recorded h.found in
    stands s.recorded log (λ j w q. let l = h.limited j w q in limit-untold l.code w l.licensed) b f told (source s.recorded log k b e)
