-- Which tasks are the same, and which are in flight.
use Rattle.std.specs.Prelude.{◌≡◌, ◌⊎◌, ◌<◌, ◌≤◌, ◌+◌, ℕ, zero, suc, Bool, true, false, if◌then◌else◌, List, length, map, reverse, take, Some, refl, None}
use Rattle.std.specs.Bool.{Decides}
use Rattle.std.specs.Option.{option_map}
use Rattle.std.proofs.Common.{ap, sym, ◌∙◌, subst, arith, get_or, inl, inr}
use Rattle.std.proofs.lemmas.Bool.{false≢true}
use Rattle.std.proofs.lemmas.List.{get_or_default, take_all}
use Rattle.dh_syntax.specs.declared.locations.Digest.{Digest}
use Rattle.dh_syntax.specs.declared.locations.Key.{Key}
use Rattle.dh_syntax.specs.declared.locations.Loc.{Loc}
use Rattle.dh_syntax.specs.Expressions.Numbers.{eq}
use Rattle.dh_syntax.specs.Expressions.SameTree.{loc_eq, digest_eq}
use Rattle.dh_syntax.specs.Imports.Keys.{key_eq}
use Rattle.dh_imports.specs.Machine as machine
use Rattle.dh_imports.specs.Machine.{Task}
use Rattle.dh_imports.specs.Records.{lookup}
use Rattle.dh_syntax.proofs.Numbers.{eq-true}
use Rattle.dh_syntax.proofs.SameTree.{locs_tell, digests_tell}
use Rattle.dh_laws.proofs.KeyOrder.{bool-case, none-some, some-equal, key_eq-true, key_eq-itself}
use Rattle.dh_table.specs.declared.steps.flights.Name.{Name}
use Rattle.dh_table.specs.declared.steps.Flight.{Flight}
use Rattle.dh_table.specs.declared.steps.Job.{Job}
use Rattle.dh_record.specs.declared.rows.recorded.Entrant.{Entrant}
use Rattle.dh_table.specs.Inside.Recording.{task_named, IsFlightOf}
use Rattle.dh_table.specs.Inside.Searching.{Flies, IsLastOf}
use Rattle.dh_record.specs.declared.kinds.Kind.{Kind}
use Rattle.dh_record.specs.Rows.{key_named, task_by}
use Rattle.dh_table.specs.States.{task_of, flight_of}
use Rattle.dh_record.proofs.Reading.{later}

-- ---- the same task

loc_in : Task → Loc → Loc
loc_in (machine.Fetch l) d = l
loc_in (machine.Look x) d = d
loc_in (machine.Finish k) d = d

digest_in : Task → Digest → Digest
digest_in (machine.Fetch l) d = d
digest_in (machine.Look x) d = x
digest_in (machine.Finish k) d = d

key_in : Task → Key → Key
key_in (machine.Fetch l) d = d
key_in (machine.Look x) d = d
key_in (machine.Finish k) d = k

pub same_fetch : (a b : Loc) → Decides (loc_eq a b) (machine.Fetch a ≡ machine.Fetch b)
unfolding loc_in
same_fetch a b = (λ e. ap (λ x. machine.Fetch x) (locs_tell.equal a b e), λ p. subst (λ x. loc_eq a x ≡ true) (ap (λ t. loc_in t a) p) (locs_tell.itself a))

pub same_look : (a b : Digest) → Decides (digest_eq a b) (machine.Look a ≡ machine.Look b)
unfolding digest_in
same_look a b = (λ e. ap (λ x. machine.Look x) (digests_tell.equal a b e), λ p. subst (λ x. digest_eq a x ≡ true) (ap (λ t. digest_in t a) p) (digests_tell.itself a))

pub same_finish : (a b : Key) → Decides (key_eq a b) (machine.Finish a ≡ machine.Finish b)
unfolding key_in
same_finish a b = (λ e. ap (λ x. machine.Finish x) (key_eq-true a b e), λ p. subst (λ x. key_eq a x ≡ true) (ap (λ t. key_in t a) p) (key_eq-itself a))

-- ---- what is in flight

abbrev Stood : List Entrant → List Flight → Flight → ℕ → ℕ → Task → Type 0
Stood keys fs d i n t = (j : ℕ) × (j < i) × ((get_or fs j d).serial ≡ n) × (task_of keys (get_or fs j d).job ≡ t)

stood_later : (keys : List Entrant) (fs : List Flight) (d : Flight) (i n : ℕ) (t : Task) → Stood keys fs d i n t → Stood keys fs d (suc i) n t
stood_later keys fs d i n t (j, l, p, q) = (j, omega arith, p, q)

stood : (keys : List Entrant) (fs : List Flight) (d : Flight) (i n : ℕ) (t : Task) → i ≤ length fs → lookup eq (reverse (map (flight_of keys) (take i fs))) n ≡ Some t → Stood keys fs d i n t
stood keys fs d zero n t l h = none-some refl h
stood keys fs d (suc i) n t l h =
    go (bool-case (eq (get_or fs i d).serial n)) (λ q. stood_later keys fs d i n t (stood keys fs d i n t (omega arith) q))
  where
    next : suc i ≡ i + 1
    next = omega arith

    step : (if eq (get_or fs i d).serial n then Some (task_of keys (get_or fs i d).job) else lookup eq (reverse (map (flight_of keys) (take i fs))) n) ≡ Some t
    step = sym (later eq (flight_of keys) fs i d n (omega arith)) ∙ sym (ap (λ m. lookup eq (reverse (map (flight_of keys) (take m fs))) n) next) ∙ h

    go : (eq (get_or fs i d).serial n ≡ true) ⊎ (eq (get_or fs i d).serial n ≡ false) → (lookup eq (reverse (map (flight_of keys) (take i fs))) n ≡ Some t → Stood keys fs d (suc i) n t) → Stood keys fs d (suc i) n t
    go (inl e) f =
        (i, omega arith, eq-true (get_or fs i d).serial n e, some-equal (subst (λ b. (if b then Some (task_of keys (get_or fs i d).job) else lookup eq (reverse (map (flight_of keys) (take i fs))) n) ≡ Some t) e step))
    go (inr e) f = f (subst (λ b. (if b then Some (task_of keys (get_or fs i d).job) else lookup eq (reverse (map (flight_of keys) (take i fs))) n) ≡ Some t) e step)

-- no flight is the last one of its serial and of this task: the task is not in flight
pub flies_nowhere : (keys : List Entrant) (fs : List Flight) (job : Job) (m : ℕ) (d : Flight) → length fs ≤ m → ((i : ℕ) → i < m → (x : Flight) → ¬ IsLastOf keys fs job (get_or fs i x)) → ¬ Flies keys fs (task_of keys job)
flies_nowhere keys fs job m d l h (n, f) =
    let s = stood keys fs d (length fs) n (task_of keys job) (omega arith) (subst (λ ys. lookup eq (reverse (map (flight_of keys) ys)) n ≡ Some (task_of keys job)) (sym (take_all (length fs) fs (omega arith))) f) in
    h s.0 (let a : s.0 < length fs = s.1 in omega arith) d (record { own = s.3; last = subst (λ k. lookup eq (reverse (map (flight_of keys) fs)) k ≡ Some (task_of keys job)) (sym s.2) f })

pub flies_here : (keys : List Entrant) (fs : List Flight) (job own : Job) (n : ℕ) → option_map (task_of keys) (Some own) ≡ lookup eq (reverse (map (flight_of keys) fs)) n → task_of keys own ≡ task_of keys job → Flies keys fs (task_of keys job)
flies_here keys fs job own n p q = (n, sym p ∙ ap Some q)

-- the jobs of two keys, both of this kind
pub same_by : (keys : List Entrant) (a b : Job) (kind : Kind) (j k : Key) (r : Bool) → key_named keys a.key ≡ j → key_named keys b.key ≡ k → a.kind ≡ kind → b.kind ≡ kind
    → Decides r (task_by kind j ≡ task_by kind k) → Decides r (task_of keys a ≡ task_of keys b)
same_by keys a b kind j k r p q m n d =
    subst (λ t. Decides r (t ≡ task_of keys b)) (sym (ap (λ x. task_by x (key_named keys a.key)) m ∙ ap (task_by kind) p))
    (subst (λ t. Decides r (task_by kind j ≡ t)) (sym (ap (λ x. task_by x (key_named keys b.key)) n ∙ ap (task_by kind) q)) d)

-- the same of a task by what it is of
pub flight_nowhere : (keys : List Entrant) (fs : List Flight) (t : Task) (m : ℕ) (d : Flight) → length fs ≤ m → ((i : ℕ) → i < m → (x : Flight) → ¬ IsFlightOf keys fs t (get_or fs i x))
    → (n : ℕ) → ¬ (lookup eq (reverse (map (flight_of keys) fs)) n ≡ Some t)
flight_nowhere keys fs t m d l h n f =
    let s = stood keys fs d (length fs) n t (omega arith) (subst (λ ys. lookup eq (reverse (map (flight_of keys) ys)) n ≡ Some t) (sym (take_all (length fs) fs (omega arith))) f) in
    h s.0 (let a : s.0 < length fs = s.1 in omega arith) d (record { own = s.3; last = subst (λ k. lookup eq (reverse (map (flight_of keys) fs)) k ≡ Some t) (sym s.2) f })

pub same_named : (keys : List Entrant) (job : Job) (kind : Kind) (j : Key) (name other : Name) (r : Bool) → key_named keys job.key ≡ j → job.kind ≡ kind → name ≡ other
    → Decides r (task_by kind j ≡ task_named other) → Decides r (task_of keys job ≡ task_named name)
same_named keys job kind j name other r p m q d =
    subst (λ t. Decides r (t ≡ task_named name)) (sym (ap (λ x. task_by x (key_named keys job.key)) m ∙ ap (task_by kind) p))
    (subst (λ x. Decides r (task_by kind j ≡ task_named x)) (sym q) d)

-- a flight is not the last one of its serial and of this task
module _ (keys : List Entrant) (fs : List Flight) (t : Task) (i : ℕ) (d e : Flight) (l : i < length fs) where
  pub not_own : (r : Bool) → Decides r (task_of keys (get_or fs i e).job ≡ t) → r ≡ false → ¬ IsFlightOf keys fs t (get_or fs i d)
  not_own r h p f = false≢true (sym p ∙ h.1 (ap (λ (x : Flight). task_of keys x.job) (sym (get_or_default fs i d e l)) ∙ f.own))

  last_here : IsFlightOf keys fs t (get_or fs i d) → lookup eq (reverse (map (flight_of keys) fs)) (get_or fs i e).serial ≡ Some t
  last_here f = ap (λ (x : Flight). lookup eq (reverse (map (flight_of keys) fs)) x.serial) (sym (get_or_default fs i d e l)) ∙ f.last

  pub not_last : (job : Job) (r : Bool) → Decides r (task_of keys job ≡ t) → r ≡ false → option_map (task_of keys) (Some job) ≡ lookup eq (reverse (map (flight_of keys) fs)) (get_or fs i e).serial → ¬ IsFlightOf keys fs t (get_or fs i d)
  not_last job r h p q f = false≢true (sym p ∙ h.1 (some-equal (q ∙ last_here f)))

  pub not_there : option_map (task_of keys) None ≡ lookup eq (reverse (map (flight_of keys) fs)) (get_or fs i e).serial → ¬ IsFlightOf keys fs t (get_or fs i d)
  not_there q f = none-some (sym q) (last_here f)
