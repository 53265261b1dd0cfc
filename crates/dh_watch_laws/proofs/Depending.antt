-- What an outcome depends on.
use Rattle.std.specs.Prelude.{◌≡◌, ℕ, zero, suc, Bool, true, false, if◌then◌else◌, List, ◌∷◌, Option, Some, None, refl}
use Rattle.std.proofs.Common.{ap, ◌∙◌, subst, inl}
use Rattle.dh_syntax.specs.declared.locations.Digest.{Digest}
use Rattle.dh_syntax.specs.declared.locations.Key.{Key}
use Rattle.dh_syntax.specs.declared.locations.Mode.{Mode}
use Rattle.dh_syntax.specs.declared.locations.Mode.TheVariants as modes
use Rattle.dh_imports.specs.declared.outcomes.Why.{Why}
use Rattle.dh_imports.specs.Keeps.{asked_by}
use Rattle.dh_imports.specs.Machine.{IsAmong}
use Rattle.dh_imports.specs.Outcomes.{Outcome, Loop}
use Rattle.dh_imports.specs.Records.{Record}
use Rattle.dh_imports.specs.Resolver.{Part, TextOf, LookOf, Plan, Unknown, Now, Walks, Asks, plan_text, plan_fetch, plan_mode, plan_look, plan_digest, plan, of_walk, of_bare, of_plan, stage, ended, is_in, least_back_to, resolve, unfetched}
use Rattle.dh_imports.specs.Walk.{Ask}
use Rattle.dh_import_laws.proofs.Grow.{ended-limit}
use Rattle.dh_watch_laws.specs.Depending as deps
use Rattle.dh_watch_laws.specs.Depending.{part_fetched, part_of_mode, part_of_digest, part_of, HaveSame, AgreeOn, itself, below, DependsOnAsked}
use Rattle.dh_watch_laws.proofs.Alike.{walk-alike}

-- ---- plans

fetch-alike : (r r' : Record) (k : Key) (as_text : Bool) (w : Option Why) → ((p : Part) → part_fetched k.loc w ≡ Some p → HaveSame r r' p) → plan_fetch r k as_text w ≡ plan_fetch r' k as_text w
fetch-alike r r' k as_text (Some w) h = refl
fetch-alike r r' k as_text None h = ap (plan_text k as_text) (h (TextOf k.loc) refl)

mode-alike : (r r' : Record) (k : Key) (m : Mode) → ((p : Part) → part_of_mode k.loc m ≡ Some p → HaveSame r r' p) → plan_mode r k m ≡ plan_mode r' k m
mode-alike r r' k modes.Location h = refl
mode-alike r r' k modes.Text h = fetch-alike r r' k true (unfetched k.loc) h
mode-alike r r' k modes.Code h = fetch-alike r r' k false (unfetched k.loc) h

digest-alike : (r r' : Record) (k : Key) (d : Option Digest) → ((p : Part) → part_of_digest k d ≡ Some p → HaveSame r r' p) → plan_digest r k d ≡ plan_digest r' k d
digest-alike r r' k None h = mode-alike r r' k k.mode h
digest-alike r r' k (Some d) h = ap (plan_look k d) (h (LookOf d) refl)

-- what a record says of a key is what stands in the part that is read of it
pub plan-alike : (r r' : Record) (k : Key) → ((p : Part) → part_of k ≡ Some p → HaveSame r r' p) → plan r k ≡ plan r' k
plan-alike r r' k h = digest-alike r r' k k.digest h

-- ---- stages

-- the stage that a plan has reached goes by the outcomes of the keys that it asks
pub planned-alike : (ask more : Ask) (k : Key) (p : Plan) → ((y : Key) → IsAmong y (asked_by ask k p) → ask y ≡ more y) → of_plan ask k p ≡ of_plan more k p
planned-alike ask more k (Unknown p) h = refl
planned-alike ask more k (Now i) h = refl
planned-alike ask more k (Walks e allow) h = ap (of_walk allow) (walk-alike (Some k) ask more e h).0
planned-alike ask more k (Asks j) h = ap (of_bare j) (h j (inl refl))

pub asked-alike : (ask more : Ask) (k : Key) (p : Plan) → ((y : Key) → IsAmong y (asked_by ask k p) → ask y ≡ more y) → asked_by ask k p ≡ asked_by more k p
asked-alike ask more k (Unknown p) h = refl
asked-alike ask more k (Now i) h = refl
asked-alike ask more k (Walks e allow) h = ap (λ c. c.asked) (walk-alike (Some k) ask more e h).1
asked-alike ask more k (Asks j) h = refl

-- ---- the resolver

either-alike : (b : Bool) (a c d : Option Outcome) → (b ≡ false → c ≡ d) → (if b then a else c) ≡ (if b then a else d)
either-alike true a c d f = refl
either-alike false a c d f = f refl

module _ (r r' : Record) (n : ℕ) (chain : List Key) (k : Key) (here : AgreeOn r r' k)
    (under : is_in k chain ≡ false → (y : Key) → IsAmong y (asked_by (resolve r n (k ∷ chain)) k (plan r k))
    → (resolve r n (k ∷ chain) y ≡ resolve r' n (k ∷ chain) y) × ((j : Key) → deps.Asks r n (k ∷ chain) y j → deps.Asks r' n (k ∷ chain) y j)) where
  ask : Ask
  ask = resolve r n (k ∷ chain)

  more : Ask
  more = resolve r' n (k ∷ chain)

  plans : plan r k ≡ plan r' k
  plans = plan-alike r r' k here.part

  stages : is_in k chain ≡ false → stage r (resolve r n (k ∷ chain)) k ≡ stage r' (resolve r' n (k ∷ chain)) k
  stages f =
      planned-alike (resolve r n (k ∷ chain)) (resolve r' n (k ∷ chain)) k (plan r k) (λ y m. (under f y m).0) ∙ ap (of_plan (resolve r' n (k ∷ chain)) k) plans

  same : resolve r (suc n) chain k ≡ resolve r' (suc n) chain k
  same =
      either-alike (is_in k chain) (Some (Loop (least_back_to k chain)))
      (ended r n k (stage r (resolve r n (k ∷ chain)) k)) (ended r' n k (stage r' (resolve r' n (k ∷ chain)) k))
      (λ f. ended-limit r r' n k (stage r (resolve r n (k ∷ chain)) k) here.limit ∙ ap (ended r' n k) (stages f))

  still : (j : Key) → deps.Asks r (suc n) chain k j → deps.Asks r' (suc n) chain k j
  still j itself = itself
  still j (below {y = y} f m a) =
      below f
      (subst (λ ks. IsAmong y ks)
      (asked-alike (resolve r n (k ∷ chain)) (resolve r' n (k ∷ chain)) k (plan r k) (λ z q. (under f z q).0) ∙ ap (asked_by (resolve r' n (k ∷ chain)) k) plans) m)
      ((under f y m).1 j a)

none-asked : (r r' : Record) (chain : List Key) (k j : Key) → deps.Asks r zero chain k j → deps.Asks r' zero chain k j
none-asked r r' chain k j a = elim a [ ]

pub depends_on_asked : DependsOnAsked
depends_on_asked r r' zero chain k h = (refl, none-asked r r' chain k)
depends_on_asked r r' (suc n) chain k h =
    let under : is_in k chain ≡ false → (y : Key) → IsAmong y (asked_by (resolve r n (k ∷ chain)) k (plan r k))
    → (resolve r n (k ∷ chain) y ≡ resolve r' n (k ∷ chain) y) × ((j : Key) → deps.Asks r n (k ∷ chain) y j → deps.Asks r' n (k ∷ chain) y j)
    = λ f y m. depends_on_asked r r' n (k ∷ chain) y (λ j a. h j (below f m a)) in
    (same r r' n chain k (h k itself) under, still r r' n chain k (h k itself) under)
