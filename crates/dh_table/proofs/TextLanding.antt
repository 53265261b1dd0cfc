-- A recorded text: its keys stand behind those of before, and what names keys by their numbers stays.
use Rattle.std.specs.Prelude.{◌≡◌, ◌<◌, ◌≤◌, ◌^◌, ◌++◌, ℕ, Bool, true, false, ◌||◌, if◌then◌else◌, List, [], ◌∷◌, length, map, reverse, All, Option, Some, None, Result, Ok, Err, slice_index_or, refl}
use Rattle.std.specs.Option.{option_map}
use Rattle.std.proofs.Common.{ap, sym, ◌∙◌, subst, arith}
use Rattle.std.proofs.lemmas.List.{get_or_append_left, length-append, length-map}
use Rattle.std.proofs.lemmas.List.Elements.{All-head, All-tail, All-weaker, All-append}
use Rattle.dh_syntax.specs.declared.faults.ParseFault.{ParseFault}
use Rattle.dh_syntax.specs.declared.expressions.Expr.{Expr}
use Rattle.dh_syntax.specs.declared.locations.Key.{Key}
use Rattle.dh_syntax.specs.declared.locations.Loc.{Loc}
use Rattle.dh_syntax.specs.Expressions.Bridge.{term}
use Rattle.dh_syntax.specs.Expressions.Tree.{Term}
use Rattle.dh_syntax.specs.Imports.Keys.{key_eq}
use Rattle.dh_imports.specs.Machine as machine
use Rattle.dh_imports.specs.Machine.{State, effect, without}
use Rattle.dh_imports.specs.Outcomes.{plain}
use Rattle.dh_imports.specs.Records.{IsParsed}
use Rattle.dh_imports.specs.Replay as replay
use Rattle.dh_imports.specs.Replay.{keys_noted, keys_found, with_bare}
use Rattle.dh_imports.specs.Resolver.{is_in}
use Rattle.dh_imports.specs.Walk.{keys_of}
use Rattle.dh_laws.proofs.KeyOrder.{none-some}
use Rattle.dh_ports.specs.declared.worlds.Got.TheVariants as gots
use Rattle.dh_demand.specs.declared.scans.Edge.{Edge}
use Rattle.dh_demand.specs.declared.scans.Scan.{Scan}
use Rattle.dh_demand.specs.Results.{Row, ask_of}
use Rattle.dh_demand.specs.Scans.{Begins, Fits}
use Rattle.dh_record.specs.declared.news.Noted.{Noted}
use Rattle.dh_record.specs.declared.news.Noted.TheVariants as noteds
use Rattle.dh_record.specs.declared.news.Parsed.{Parsed}
use Rattle.dh_record.specs.declared.news.Parsed.TheVariants as parseds
use Rattle.dh_table.specs.declared.steps.Flight.{Flight}
use Rattle.dh_table.specs.declared.steps.Job.{Job}
use Rattle.dh_table.specs.declared.steps.Step.{Step}
use Rattle.dh_table.specs.declared.steps.Step.TheVariants as steps
use Rattle.dh_record.specs.declared.rows.recorded.Entrant.{Entrant}
use Rattle.dh_record.specs.declared.rows.recorded.Text.{Text}
use Rattle.dh_record.specs.Brought.{IsScanned, imports_of, read_of}
use Rattle.dh_record.specs.Entering.{AreDistinct, AreMore, AreEdges, IsListed, IsNew, keys_in, entered_all}
use Rattle.dh_record.specs.Reading.{IsRead, IsScan}
use Rattle.dh_table.specs.Shown.{Shown}
use Rattle.dh_record.specs.Rows.{nobody, rows_of, row_of_entrant, key_named, known, outcome_of_number, limit_of, why_of, text_of, look_of, task_by, noted_by, parsed_by, scanned}
use Rattle.dh_table.specs.States.{flight_of, task_of, step_by, state_of}
use Rattle.dh_table.specs.Tables.{IsKnown, IsOwned, IsStepNamed, keys_named}
use Rattle.dh_table.proofs.Beginnings.{edges_fit, new_asks}
use Rattle.dh_record.proofs.Distinct.{distinct_entered, in_entered_all, in_with_bare}
use Rattle.dh_record.proofs.Latest.{latest, mapped}
use Rattle.dh_record.proofs.NewKeys.{edge_grown, all_listed_grown}
use Rattle.dh_table.proofs.Stepping.{all-push}

-- ---- what a text is

parsed_same : (scan : Option Parsed) (edges : List Edge) → scanned (read_of scan edges) ≡ parsed_by scan
parsed_same None edges = refl
parsed_same (Some (parseds.Good e ks)) edges = refl
parsed_same (Some (parseds.Bad f)) edges = refl

pub noted_same : (got : Noted) (scan : Option Parsed) (edges : List Edge) → noted_by got (scanned (read_of scan edges)) ≡ noted_by got (parsed_by scan)
noted_same got scan edges = ap (noted_by got) (parsed_same scan edges)

pub is_parsed : (l : Loc) (got : Noted) (scan : Option Parsed) → IsScanned l got scan → IsParsed (noted_by got (parsed_by scan))
is_parsed l (noteds.Got (gots.Found f)) (Some (parseds.Good e ks)) h = h.0
is_parsed l (noteds.Got (gots.Found f)) (Some (parseds.Bad x)) h = h
is_parsed l (noteds.Got (gots.Found f)) None h = absurd h
is_parsed l (noteds.Got gots.Absent) scan h = tt
is_parsed l (noteds.Got (gots.Broken n)) scan h = tt
is_parsed l noteds.Failed scan h = tt

good_keys : (l : Loc) (got : Noted) (e : Expr) (ks : List Key) → IsScanned l got (Some (parseds.Good e ks)) → ks ≡ keys_of (Some l) (term e)
good_keys l (noteds.Got (gots.Found f)) e ks h = h.1
good_keys l (noteds.Got gots.Absent) e ks h = none-some refl (sym h)
good_keys l (noteds.Got (gots.Broken n)) e ks h = none-some refl (sym h)
good_keys l noteds.Failed e ks h = none-some refl (sym h)

pub is_read : (rows : List Row) (l : Loc) (got : Noted) (scan : Option Parsed) (edges : List Edge) → IsScanned l got scan → AreEdges (Some l) rows (imports_of scan) edges → IsScan rows l (read_of scan edges)
is_read rows l got None edges h d = tt
is_read rows l got (Some (parseds.Bad f)) edges h d = tt
is_read rows l got (Some (parseds.Good e ks)) edges h d = edges_fit (Some l) rows (term e) edges (subst (λ js. AreEdges (Some l) rows js edges) (good_keys l got e ks h) d)

none_noted : (scan : Option Parsed) → scan ≡ None → [] ≡ imports_of scan
none_noted scan h = ap imports_of (sym h)

pub keys_are_noted : (l : Loc) (got : Noted) (scan : Option Parsed) (edges : List Edge) → IsScanned l got scan → keys_noted l (noted_by got (scanned (read_of scan edges))) ≡ imports_of scan
keys_are_noted l (noteds.Got (gots.Found f)) (Some (parseds.Good e ks)) edges h = sym h.1
keys_are_noted l (noteds.Got (gots.Found f)) (Some (parseds.Bad x)) edges h = refl
keys_are_noted l (noteds.Got (gots.Found f)) None edges h = absurd h
keys_are_noted l (noteds.Got gots.Absent) scan edges h = none_noted scan h
keys_are_noted l (noteds.Got (gots.Broken n)) scan edges h = none_noted scan h
keys_are_noted l noteds.Failed scan edges h = none_noted scan h

-- ---- more keys

map_same : {A B : Type 0} (P : A → Type 0) (f g : A → B) (xs : List A) → ((x : A) → P x → f x ≡ g x) → All P xs → map f xs ≡ map g xs
map_same P f g [] same h = refl
map_same P f g (x ∷ xs) same h = λ i. same x (All-head P x xs h) i ∷ map_same P f g xs same (All-tail P x xs h) i

pub asks_grown : (es more : List Entrant) (k : Key) → All IsNew more → ask_of (rows_of (es ++ more)) k ≡ ask_of (rows_of es) k
asks_grown [] more k h = new_asks more k h
asks_grown (e ∷ es) more k h = ap (λ a. if key_eq e.key k then option_map plain e.outcome else a) (asks_grown es more k h)

module _ (es more : List Entrant) where
  pub name_grown : (n : ℕ) → n < length es → key_named (es ++ more) n ≡ key_named es n
  name_grown n l = ap (λ (e : Entrant). e.key) (get_or_append_left es more nobody n l)

  outcome_grown : (n : ℕ) → n < length es → (slice_index_or (es ++ more) n nobody).outcome ≡ (slice_index_or es n nobody).outcome
  outcome_grown n l = ap (λ (e : Entrant). e.outcome) (get_or_append_left es more nobody n l)

  pub flights_grown : (fs : List Flight) → All (λ (f : Flight). f.job.key < length es) fs → map (flight_of (es ++ more)) fs ≡ map (flight_of es) fs
  flights_grown fs = map_same (λ (f : Flight). f.job.key < length es) (flight_of (es ++ more)) (flight_of es) fs (λ f l. λ i. (f.serial, task_by f.job.kind (name_grown f.job.key l i)))

  jobs_grown : (js : List Job) → All (λ (j : Job). j.key < length es) js → map (task_of (es ++ more)) js ≡ map (task_of es) js
  jobs_grown js = map_same (λ (j : Job). j.key < length es) (task_of (es ++ more)) (task_of es) js (λ j l. ap (task_by j.kind) (name_grown j.key l))

  outcomes_grown : (ns : List ℕ) → All (λ (n : ℕ). n < length es) ns → map (outcome_of_number (es ++ more)) ns ≡ map (outcome_of_number es) ns
  outcomes_grown ns = map_same (λ (n : ℕ). n < length es) (outcome_of_number (es ++ more)) (outcome_of_number es) ns (λ n l. λ i. (name_grown n l i, known (outcome_grown n l i)))

  limits_grown : (ns : List ℕ) → All (λ (n : ℕ). n < length es) ns → map (limit_of (es ++ more)) ns ≡ map (limit_of es) ns
  limits_grown ns = map_same (λ (n : ℕ). n < length es) (limit_of (es ++ more)) (limit_of es) ns (λ n l. λ i. (name_grown n l i, why_of (outcome_grown n l i)))

  step_grown : (s : Step) → IsStepNamed (length es) s → step_by (es ++ more) s ≡ step_by es s
  step_grown (steps.Claim w k m) h = refl
  step_grown (steps.Release m) h = refl
  step_grown (steps.Fetched m) h = refl
  step_grown (steps.Looked m) h = refl
  step_grown (steps.Finished m) h = refl
  step_grown (steps.Late m) h = refl
  step_grown (steps.Cycled k) h = ap (λ j. replay.Cycled j) (name_grown k h)

  pub steps_grown : (hs : List Step) → All (IsStepNamed (length es)) hs → map (step_by (es ++ more)) hs ≡ map (step_by es) hs
  steps_grown hs = map_same (IsStepNamed (length es)) (step_by (es ++ more)) (step_by es) hs step_grown

  longer : length (rows_of es) ≤ length (rows_of (es ++ more))
  longer = let p = length-map es row_of_entrant in let q = length-map (es ++ more) row_of_entrant in let r = length-append es more in omega arith

  begins_grown : (parent : Option Loc) (ks : List Key) (ds : List Edge) → Begins parent (rows_of es) ks ds → Begins parent (rows_of (es ++ more)) ks ds
  begins_grown parent [] ds b = tt
  begins_grown parent (k ∷ ks) [] b = absurd b
  begins_grown parent (k ∷ ks) (d ∷ ds) b = (edge_grown parent es more k d b.0, begins_grown parent ks ds b.1)

  pub fits_grown : (parent : Option Loc) (e : Term) (ds : List Edge) → Fits parent (rows_of es) e ds → Fits parent (rows_of (es ++ more)) e ds
  fits_grown parent e ds f = record {
    inside = All-weaker (λ (d : Edge). d.key < length (rows_of es)) (λ (d : Edge). d.key < length (rows_of (es ++ more))) (λ d l. let m = longer in omega arith) ds f.inside;
    begins = begins_grown parent (keys_of parent e) ds f.begins;
  }

  read_grown : (t : Text) → IsRead (rows_of es) t → IsRead (rows_of (es ++ more)) t
  read_grown t r = go t.read r
    where
      go : (x : Option (Result Scan ParseFault)) → IsScan (rows_of es) t.loc x → IsScan (rows_of (es ++ more)) t.loc x
      go None h = tt
      go (Some (Ok s)) h = fits_grown (Some t.loc) (term s.expr) s.edges h
      go (Some (Err f)) h = tt

  pub reads_grown : (ts : List Text) → All (IsRead (rows_of es)) ts → All (IsRead (rows_of (es ++ more))) ts
  reads_grown ts h = All-weaker (IsRead (rows_of es)) (IsRead (rows_of (es ++ more))) read_grown ts h

-- ---- all that names keys by their numbers

step_named_more : (m n : ℕ) (s : Step) → m ≤ n → IsStepNamed m s → IsStepNamed n s
step_named_more m n (steps.Claim w k x) l h = tt
step_named_more m n (steps.Release x) l h = tt
step_named_more m n (steps.Fetched x) l h = tt
step_named_more m n (steps.Looked x) l h = tt
step_named_more m n (steps.Finished x) l h = tt
step_named_more m n (steps.Late x) l h = tt
step_named_more m n (steps.Cycled k) l h = omega (arith, h)

module _ (es es' : List Entrant) (ks : List Key) (m : AreMore es ks es') where
  pub as_many_more : length es ≤ length es'
  as_many_more = let p = ap length m.new_is in let q = length-append es m.more in omega arith

  pub steps_named : (hs : List Step) → All (IsStepNamed (length es)) hs → All (IsStepNamed (length es')) hs
  steps_named hs h = All-weaker (IsStepNamed (length es)) (IsStepNamed (length es')) (λ s k. step_named_more (length es) (length es') s as_many_more k) hs h

  pub flights_named : (fs : List Flight) → All (λ (f : Flight). f.job.key < length es) fs → All (λ (f : Flight). f.job.key < length es') fs
  flights_named fs h = All-weaker (λ (f : Flight). f.job.key < length es) (λ (f : Flight). f.job.key < length es') (λ f l. let n = as_many_more in omega arith) fs h

  pub jobs_named : (js : List Job) → All (λ (j : Job). j.key < length es) js → All (λ (j : Job). j.key < length es') js
  jobs_named js h = All-weaker (λ (j : Job). j.key < length es) (λ (j : Job). j.key < length es') (λ j l. let n = as_many_more in omega arith) js h

  pub numbers_named : (ns : List ℕ) → All (λ (n : ℕ). n < length es) ns → All (λ (n : ℕ). n < length es') ns
  numbers_named ns h = All-weaker (λ (n : ℕ). n < length es) (λ (n : ℕ). n < length es') (λ x l. let n = as_many_more in omega arith) ns h

  pub owned_more : All IsOwned es → All IsOwned es'
  owned_more h = subst (λ xs. All IsOwned xs) (sym m.new_is) (All-append IsOwned es m.more h (All-weaker IsNew IsOwned (λ e n u. n.own_is) m.more m.are_new))

  pub asks_more : (s : State) → machine.outcome_of s ≡ ask_of (rows_of es) → machine.outcome_of s ≡ ask_of (rows_of es')
  asks_more s p = p ∙ (λ i k. sym (asks_grown es m.more k m.are_new) i) ∙ ap (λ xs. ask_of (rows_of xs)) (sym m.new_is)

or_mixed : (a b c : Bool) → ((a || c) || b) ≡ (a || (b || c))
or_mixed true b c = refl
or_mixed false true true = refl
or_mixed false true false = refl
or_mixed false false true = refl
or_mixed false false false = refl

-- ---- what is known of the keys

module _ (root : Scan) (es es' : List Entrant) (texts : List Text) (t : Text) (ks : List Key) (m : AreMore es (entered_all (keys_in es) ks) es') (k : IsKnown root es texts)
    (noted : keys_noted t.loc (noted_by t.got (scanned t.read)) ≡ ks) (read : IsRead (rows_of es') t) (few : length es' ≤ 2 ^ 32) where
  by_rows : (P : List Entrant → Type 0) → P (es ++ m.more) → P es'
  by_rows P h = subst P (sym m.new_is) h

  named_more : (j : Key) → is_in j (keys_in es') ≡ is_in j (keys_named root (texts ++ t ∷ []))
  named_more j =
      let r = keys_of None (term root.expr) in
      let found = keys_found (reverse (map text_of texts)) in
      ap (is_in j) m.keys_are ∙ in_entered_all j (keys_in es) ks
      ∙ ap (λ b. b || is_in j (with_bare ks)) (k.members j ∙ in_with_bare j r found)
      ∙ or_mixed (is_in j (with_bare r)) (is_in j (with_bare ks)) (is_in j (with_bare found))
      ∙ ap (λ b. is_in j (with_bare r) || b) (sym (in_with_bare j ks found))
      ∙ sym (in_with_bare j r (ks ++ found))
      ∙ ap (λ xs. is_in j (with_bare (r ++ (xs ++ found)))) (sym noted)
      ∙ ap (λ xs. is_in j (with_bare (r ++ keys_found xs))) (sym (latest text_of texts t))

  pub known_more : (texts' : List Text) → texts' ≡ texts ++ t ∷ [] → IsKnown root es' texts'
  known_more texts' p =
      subst (λ ts. IsKnown root es' ts) (sym p)
      (record {
        few = few;
        distinct = subst AreDistinct (sym m.keys_are) (distinct_entered (keys_in es) ks k.distinct);
        members = named_more;
        listed =
            by_rows (λ xs. All (IsListed (rows_of xs)) xs)
            (All-append (IsListed (rows_of (es ++ m.more))) es m.more (all_listed_grown es m.more es k.listed) (subst (λ xs. All (IsListed (rows_of xs)) m.more) m.new_is m.listed));
        root_fits = by_rows (λ xs. Fits None (rows_of xs) (term root.expr) root.edges) (fits_grown es m.more None (term root.expr) root.edges k.root_fits);
        read = all-push (IsRead (rows_of es')) texts (texts ++ t ∷ []) t refl (by_rows (λ xs. All (IsRead (rows_of xs)) texts) (reads_grown es m.more texts k.read)) read;
      })

-- ---- the state

module _ (v : Shown) (es' : List Entrant) (ks : List Key) (m : AreMore v.keys ks es') (serial : ℕ) (t : Text)
    (flights : All (λ (f : Flight). f.job.key < length v.keys) v.flights) (drawn : All (λ (j : Job). j.key < length v.keys) v.drawn)
    (decided : All (λ (n : ℕ). n < length v.keys) v.decided) (limited : All (λ (n : ℕ). n < length v.keys) v.limited) where
  all : List Entrant
  all = v.keys ++ m.more

  pub fetched_state : (v' : Shown) → v'.root ≡ v.root → v'.keys ≡ es' → v'.texts ≡ v.texts ++ t ∷ [] → v'.looks ≡ v.looks → v'.decided ≡ v.decided → v'.limited ≡ v.limited
      → reverse (map (flight_of v.keys) v'.flights) ≡ without serial (state_of v).flights → All (λ (f : Flight). f.job.key < length v.keys) v'.flights → v'.drawn ≡ v.drawn
      → state_of v' ≡ effect (machine.Fetched serial t.loc (noted_by t.got (scanned t.read))) (state_of v)
  fetched_state v' root_is keys_is texts_are looks_are decided_is limited_is left left_named drawn_is =
      let keys : v'.keys ≡ v.keys ++ m.more = keys_is ∙ m.new_is in
      let texts = ap (λ ts. reverse (map text_of ts)) texts_are ∙ latest text_of v.texts t in
      let limits : reverse (map (limit_of v'.keys) v'.limited) ≡ reverse (map (limit_of v.keys) v.limited) =
      (λ i. reverse (map (limit_of (keys i)) (limited_is i))) ∙ ap reverse (limits_grown v.keys m.more v.limited limited) in
      let outcomes : reverse (map (outcome_of_number v'.keys) v'.decided) ≡ reverse (map (outcome_of_number v.keys) v.decided) =
      (λ i. reverse (map (outcome_of_number (keys i)) (decided_is i))) ∙ ap reverse (outcomes_grown v.keys m.more v.decided decided) in
      let flying : reverse (map (flight_of v'.keys) v'.flights) ≡ without serial (state_of v).flights =
      (λ i. reverse (map (flight_of (keys i)) v'.flights)) ∙ ap reverse (flights_grown v.keys m.more v'.flights left_named) ∙ left in
      let tasks : reverse (map (task_of v'.keys) v'.drawn) ≡ reverse (map (task_of v.keys) v.drawn) =
      (λ i. reverse (map (task_of (keys i)) (drawn_is i))) ∙ ap reverse (jobs_grown v.keys m.more v.drawn drawn) in
      λ i. record {
        root = term (root_is i).expr;
        recorded = record { texts = texts i; looks = reverse (map look_of (looks_are i)); limits = limits i };
        outcomes = outcomes i;
        flights = flying i;
        drawn = tasks i;
      }

  pub fetched_history : (hs hs' : List Step) → All (IsStepNamed (length v.keys)) hs → hs' ≡ hs ++ steps.Fetched serial ∷ [] → map (step_by es') hs' ≡ map (step_by v.keys) hs ++ replay.Fetched serial ∷ []
  fetched_history hs hs' named p =
      ap (λ xs. map (step_by xs) hs') m.new_is ∙ mapped (step_by (v.keys ++ m.more)) hs hs' (steps.Fetched serial) p
      ∙ ap (λ xs. xs ++ replay.Fetched serial ∷ []) (steps_grown v.keys m.more hs named)
