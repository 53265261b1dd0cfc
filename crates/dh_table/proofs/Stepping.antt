-- The steps of a table, by its parts.
use Rattle.std.specs.Prelude.{◌≡◌, ℕ, suc, Bool, true, false, if◌then◌else◌, List, [], ◌∷◌, ◌++◌, All, length, map, reverse, filter, refl}
use Rattle.std.proofs.Common.{ap, sym, ◌∙◌, subst}
use Rattle.std.proofs.lemmas.List.Elements.{All-push, All-nil, All-cons, All-head, All-tail}
use Rattle.dh_imports.specs.Machine as machine
use Rattle.dh_imports.specs.Machine.{Task, State, effect}
use Rattle.dh_imports.specs.Replay as replay
use Rattle.dh_imports.specs.Replay.{kind_of}
use Rattle.dh_syntax.specs.declared.locations.Key.{Key}
use Rattle.dh_table.specs.declared.steps.Flight.{Flight}
use Rattle.dh_table.specs.declared.steps.Job.{Job}
use Rattle.dh_record.specs.declared.kinds.Kind.{Kind}
use Rattle.dh_record.specs.declared.kinds.Kind.TheVariants as kinds
use Rattle.dh_table.specs.declared.steps.Step.{Step}
use Rattle.dh_table.specs.declared.steps.Step.TheVariants as steps
use Rattle.dh_record.specs.declared.rows.recorded.Entrant.{Entrant}
use Rattle.dh_record.specs.Rows.{task_by}
use Rattle.dh_table.specs.States.{task_of, flight_of, kind_by, step_by}
use Rattle.dh_record.proofs.Latest.{latest, length-reverse-map, mapped}
use Rattle.dh_table.proofs.Logs.{without-filter, others}

-- ---- states that differ in what is in flight and what was drawn

pub state-with : (s : State) (fs : List (ℕ × Task)) (ds : List Task) → s.flights ≡ fs → s.drawn ≡ ds → s ≡ record s { flights = fs; drawn = ds }
state-with s fs ds p q = λ i. record s { flights = p i; drawn = q i }

pub flights-with : (s : State) (fs : List (ℕ × Task)) → s.flights ≡ fs → s ≡ record s { flights = fs }
flights-with s fs p = λ i. record s { flights = p i }

pub kind-task : (kind : Kind) (k : Key) → kind_by kind ≡ kind_of (task_by kind k)
kind-task kinds.Fetch k = refl
kind-task kinds.Look k = refl
kind-task kinds.Finish k = refl

-- ---- a claim

pub drawn-flights : (keys : List Entrant) (fs fs' : List Flight) (js : List Job) (f : Flight) → fs' ≡ fs ++ f ∷ [] → f.serial ≡ suc (length js)
    → reverse (map (flight_of keys) fs') ≡ (suc (length (reverse (map (task_of keys) js))), task_of keys f.job) ∷ reverse (map (flight_of keys) fs)
drawn-flights keys fs fs' js f p q =
    ap (λ xs. reverse (map (flight_of keys) xs)) p ∙ latest (flight_of keys) fs f
    ∙ ap (λ (n : ℕ). (n, task_of keys f.job) ∷ reverse (map (flight_of keys) fs)) (q ∙ ap suc (sym (length-reverse-map (task_of keys) js)))

pub drawn-jobs : (keys : List Entrant) (js js' : List Job) (j : Job) → js' ≡ js ++ j ∷ [] → reverse (map (task_of keys) js') ≡ task_of keys j ∷ reverse (map (task_of keys) js)
drawn-jobs keys js js' j p = ap (λ xs. reverse (map (task_of keys) xs)) p ∙ latest (task_of keys) js j

pub drawn-history : (keys : List Entrant) (hs hs' : List Step) (js : List Job) (w n : ℕ) (j : Job) → hs' ≡ hs ++ steps.Claim w j.kind n ∷ [] → n ≡ suc (length js)
    → map (step_by keys) hs' ≡ map (step_by keys) hs ++ replay.step_of (reverse (map (task_of keys) js)) (machine.Claim w (task_of keys j)) ∷ []
drawn-history keys hs hs' js w n j p q =
    mapped (step_by keys) hs hs' (steps.Claim w j.kind n) p
    ∙ ap (λ (k : replay.Kind). map (step_by keys) hs ++ replay.Claim w k n ∷ []) (kind-task j.kind _)
    ∙ ap (λ (m : ℕ). map (step_by keys) hs ++ replay.Claim w (kind_of (task_of keys j)) m ∷ []) (q ∙ ap suc (sym (length-reverse-map (task_of keys) js)))

-- ---- lists with one more element

pub all-push : {A : Type 0} (P : A → Type 0) (xs ys : List A) (x : A) → ys ≡ xs ++ x ∷ [] → All P xs → P x → All P ys
all-push P xs ys x p h k = subst (All P) (sym p) (All-push P xs x h k)

pub all-filter : {A : Type 0} (P : A → Type 0) (test : A → Bool) (xs : List A) → All P xs → All P (filter test xs)
all-filter P test [] h = All-nil P
all-filter P test (x ∷ xs) h = go (test x) (all-filter P test xs (All-tail P x xs h))
  where
    go : (b : Bool) → All P (filter test xs) → All P (if b then x ∷ filter test xs else filter test xs)
    go true r = All-cons P x (filter test xs) (All-head P x xs h) r
    go false r = r

pub filtered-flights : (keys : List Entrant) (n : ℕ) (fs fs' : List Flight) → fs' ≡ filter (others n) fs → reverse (map (flight_of keys) fs') ≡ machine.without n (reverse (map (flight_of keys) fs))
filtered-flights keys n fs fs' p = ap (λ xs. reverse (map (flight_of keys) xs)) p ∙ sym (without-filter keys n fs)
