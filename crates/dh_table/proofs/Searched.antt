-- A search: what is known serves it, and grows as keys are taken from the pile of those to look at.
use Rattle.std.specs.Prelude.{◌≡◌, ◌⊎◌, ◌<◌, ◌≤◌, ◌+◌, ℕ, zero, suc, Bool, true, false, List, [], ◌∷◌, length, replicate, slice_index_or, slice_set, Option, Some, None, is_none, refl}
use Rattle.std.specs.Option.{option_map}
use Rattle.std.proofs.Common.{ap, sym, ◌∙◌, subst, arith, inl, inr}
use Rattle.std.proofs.lemmas.Bool.{cases_lt, false≢true}
use Rattle.std.proofs.lemmas.Bool.Decides.{eqb_tells}
use Rattle.std.proofs.lemmas.List.{get_or_default, get_or-set_same, get_or-set_other}
use Rattle.std.proofs.lemmas.List.Sums.{sum_by-cons, sum_by-set}
use Rattle.std.proofs.Math.ListN.{get_or-eq_default}
use Rattle.dh_syntax.specs.declared.locations.Key.{Key}
use Rattle.dh_syntax.specs.declared.locations.Loc.{Loc}
use Rattle.dh_imports.specs.declared.outcomes.Outcome as program
use Rattle.dh_syntax.specs.Expressions.Tree.{Term}
use Rattle.dh_imports.specs.Machine.{IsAmong, Task, State, IsOpen, Wanted, by_root, by_key, leads_by, leads_to, outcome_of}
use Rattle.dh_imports.specs.Outcomes.{plain}
use Rattle.dh_imports.specs.Resolver.{Plan, Stage, plan, stage}
use Rattle.dh_imports.specs.Walk.{Ask, course, keys_of, place, wants}
use Rattle.dh_laws.proofs.KeyOrder.{none-some, some-equal}
use Rattle.dh_import_laws.proofs.Plans.{wanted-undecided}
use Rattle.dh_import_laws.proofs.Wants.{asked-keys}
use Rattle.dh_demand.specs.declared.scans.Edge.{Edge}
use Rattle.dh_demand.specs.Results.{Row, ask_of, number_of, outcome_at}
use Rattle.dh_demand.specs.Scans.{Begins, Fits, text_key}
use Rattle.dh_demand.specs.Wants.{AreMarked, HasNumber}
use Rattle.dh_demand.proofs.Numbers.{stands, within}
use Rattle.dh_table.specs.declared.steps.Flight.{Flight}
use Rattle.dh_record.specs.declared.kinds.Kind.{Kind}
use Rattle.dh_record.specs.declared.rows.recorded.Entrant.{Entrant}
use Rattle.dh_record.specs.declared.rows.recorded.Look.{Look}
use Rattle.dh_record.specs.declared.rows.recorded.Text.{Text}
use Rattle.dh_record.specs.declared.stage.reaches.Reach.TheVariants as reaches
use Rattle.dh_record.specs.Entering.{AreDistinct, keys_in}
use Rattle.dh_table.specs.Inside.Piling.{IsBare, IsPoured, number_at}
use Rattle.dh_record.specs.Reading.{IsNumbered, IsReach, record_by}
use Rattle.dh_table.specs.Inside.Searching.{AreEdgesPut, AreKnown, ArePut, HasEdge, IsDecided, IsJob, IsPlaced, IsSearched, IsSeen, IsWaiting, Flies, Stands, left_to_see, no_hole, turns_left}
use Rattle.dh_record.specs.Marks.{is_set}
use Rattle.dh_record.specs.Rows.{rows_of, key_named, task_by}
use Rattle.dh_record.proofs.Decided.{number_itself}
use Rattle.dh_table.proofs.Known.{leading_task, reach_leads}
use Rattle.dh_table.proofs.Piled.{placed_inside, zeros}
use Rattle.dh_record.proofs.Reading.{among-filter, number_names, wants_numbered}
use Rattle.dh_table.proofs.Seeing.{flies_stands, flying_tasks, leads_stand, open_job, root_wants, task_at}

-- ---- the wants of a text are keys of its edges

edge_of : (parent : Option Loc) (rows : List Row) (ks : List Key) (es : List Edge) (k : Key) (n : ℕ) → Begins parent rows ks es → IsAmong k ks → number_of rows k ≡ Some n → HasEdge (length es) es n
edge_of parent rows [] es k n b m e = absurd m
edge_of parent rows (j ∷ js) [] k n b m e = absurd b
edge_of parent rows (j ∷ js) (x ∷ xs) k n b (inl p) e = (0, omega arith, λ d. some-equal (sym b.0.numbered ∙ ap (number_of rows) p ∙ e))
edge_of parent rows (j ∷ js) (x ∷ xs) k n b (inr m) e = let r = edge_of parent rows js xs k n b.1 m e in (suc r.0, let l = r.1 in omega arith, λ d. r.2 d)

wants_edge : (parent : Option Key) (rows : List Row) (ask : Ask) (e : Term) (es : List Edge) (k : Key) (n : ℕ) → Fits (place parent) rows e es → IsAmong k (wants parent ask e) → number_of rows k ≡ Some n → HasEdge (length es) es n
wants_edge parent rows ask e es k n f m q =
    edge_of (place parent) rows (keys_of (place parent) e) es k n f.begins (asked-keys parent ask k e (among-filter (λ j. is_none (ask j)) k (course parent ask e).asked m)) q

-- ---- edges, one after the other

pub no_edges : (es : List Edge) (marks : List Bool) (places : List ℕ) → AreEdgesPut 0 es marks places places
no_edges es marks places = record {
  each = λ n h set z. let l = h.1 in omega arith;
  only = λ n. inl refl;
}

module _ (i : ℕ) (es : List Edge) (past : Edge) (l : i < length es) where
  abbrev e : Edge
  e = slice_index_or es i past

  at_edge : (d : Edge) → (slice_index_or es i d).key ≡ e.key
  at_edge d = ap (λ (x : Edge). x.key) (get_or_default es i d past l)

  -- the edge at this place has this number, or one before it has
  last_edge : (n : ℕ) → HasEdge (i + 1) es n → (n ≡ e.key) ⊎ HasEdge i es n
  last_edge n h =
      elim (cases_lt h.0 i) [
        | inl less ↦ inr (h.0, less, h.2)
        | inr more ↦ (let same : h.0 ≡ i = let a = h.1 in omega arith in inl (sym (h.2 e) ∙ ap (λ j. (slice_index_or es j e).key) same ∙ at_edge e))
      ]

  new_edge : (n : ℕ) → n ≡ e.key → HasEdge (i + 1) es n
  new_edge n p = (i, omega arith, λ d. at_edge d ∙ sym p)

  old_edge : (n : ℕ) → HasEdge i es n → HasEdge (i + 1) es n
  old_edge n h = (h.0, let a = h.1 in omega arith, h.2)

  module _ (marks : List Bool) (old mid new : List ℕ)
      (put : (x : ℕ) → (number_at new x ≡ number_at mid x) ⊎ ((number_at mid x ≡ 0) × (number_at new x ≡ 2) × (is_set marks x ≡ true) × (x ≡ e.key)))
      (on : is_set marks e.key ≡ true → ¬ (number_at new e.key ≡ 0)) (a : AreEdgesPut i es marks old mid) where
    stays_on : (x : ℕ) → ¬ (number_at mid x ≡ 0) → ¬ (number_at new x ≡ 0)
    stays_on x f z =
        elim (put x) [
          | inl same ↦ f (sym same ∙ z)
          | inr (was, two, set, own) ↦ f was
        ]

    pub edge_put : AreEdgesPut (i + 1) es marks old new
    edge_put = record {
      each =
          λ x h set.
          elim (last_edge x h) [
            | inl own ↦ subst (λ y. ¬ (number_at new y ≡ 0)) (sym own) (on (subst (λ y. is_set marks y ≡ true) own set))
            | inr before ↦ stays_on x (a.each x before set)
          ];
      only =
          λ x.
          elim (put x) [
            | inl same ↦
                elim (a.only x) [
                  | inl kept ↦ inl (same ∙ kept)
                  | inr (was, two, set, edge) ↦ inr (was, same ∙ two, set, old_edge x edge)
                ]
            | inr (was, two, set, own) ↦
                elim (a.only x) [
                  | inl kept ↦ inr (sym kept ∙ was, two, set, new_edge x own)
                  | inr (zero_was, put_before, set_before, edge) ↦ (let b : ⊥ = omega arith in absurd b)
                ]
          ];
    }

-- ---- the wants of a text are put on the pile of those to look at

place_text : (parent : Option Loc) → parent ≡ place (text_key parent)
place_text None = refl
place_text (Some l) = refl

module _ (parent : Option Loc) (rows : List Row) (ask : Ask) (e : Term) (es : List Edge) (fits : Fits parent rows e es) (start marks : List Bool) (fit : length rows ≤ length start)
    (off : (n : ℕ) → HasEdge (length es) es n → is_set start n ≡ false) (marked : AreMarked rows (wants (text_key parent) ask e) start marks) where
  edge_wanted : (n : ℕ) → HasEdge (length es) es n → is_set marks n ≡ true → HasNumber rows (wants (text_key parent) ask e) n
  edge_wanted n h set =
      elim (marked.only n set) [
        | inl before ↦ absurd (false≢true (sym (off n h) ∙ before))
        | inr w ↦ w
      ]

  pub wants_put : (old new : List ℕ) → AreEdgesPut (length es) es marks old new → ArePut rows (wants (text_key parent) ask e) old new
  wants_put old new a = record {
    each =
        λ n h.
        a.each n (wants_edge (text_key parent) rows ask e es h.0 n (subst (λ (l : Option Loc). Fits l rows e es) (place_text parent) fits) h.1 h.2)
        (marked.set n (let l = within rows h.0 n h.2 in omega arith) h);
    only =
        λ n.
        elim (a.only n) [
          | inl same ↦ inl same
          | inr (was, two, set, edge) ↦ inr (was, two, edge_wanted n edge set)
        ];
  }

-- ---- the beginning

module _ (keys : List Entrant) (texts : List Text) (looks : List Look) (flights : List Flight) (s : State) (p : Stands keys texts looks flights s) (root : Term) (edges : List Edge) (root_is : s.root ≡ root) (fits : Fits None (rows_of keys) root edges)
    (others : ℕ) (before places : List ℕ) (before_is : before ≡ replicate others 0) (put : ArePut (rows_of keys) (wants None (ask_of (rows_of keys)) root) before places) where
  was_off : (n : ℕ) → number_at before n ≡ 0
  was_off n = subst (λ ns. number_at ns n ≡ 0) (sym before_is) (zeros others n)

  on_or_off : (n : ℕ) → (number_at places n ≡ 0) ⊎ ((number_at places n ≡ 2) × HasNumber (rows_of keys) (wants None (ask_of (rows_of keys)) root) n)
  on_or_off n =
      elim (put.only n) [
        | inl same ↦ inl (same ∙ was_off n)
        | inr (was, two, w) ↦ inr (two, w)
      ]

  its_wants : wants None (outcome_of s) s.root ≡ wants None (ask_of (rows_of keys)) root
  its_wants = root_wants keys texts looks flights s p root root_is

  pub begun_known : AreKnown s keys no_hole places
  begun_known = record {
    by_root =
        λ k q.
        let w = subst (IsAmong k) its_wants q in
        let x = wants_numbered None (rows_of keys) (ask_of (rows_of keys)) root edges k fits w in
        record { number = x.0; number_is = x.1; on = put.each x.0 (k, w, x.1) };
    sound =
        λ n z.
        elim (on_or_off n) [
          | inl e ↦ absurd (z e)
          | inr (two, (j, w, q)) ↦ (let inside = number_names keys j n q in (inside.0, inl (subst (Wanted s) (sym inside.1) (by_root (subst (IsAmong j) (sym its_wants) w)))))
        ];
    taken =
        λ n z.
        elim (on_or_off n) [
          | inl e ↦ (let x : ⊥ = omega arith in absurd x)
          | inr e ↦ (let y = e.0 in let x : ⊥ = omega arith in absurd x)
        ];
    waits =
        λ n m z.
        elim (on_or_off n) [
          | inl e ↦ (let x : ⊥ = omega arith in absurd x)
          | inr e ↦ (let y = e.0 in let x : ⊥ = omega arith in absurd x)
        ];
  }

-- ---- the keys in flight are looked at again

pub place_poured : (from to : ℕ) (old new : List ℕ) → IsPoured from to old new → (n : ℕ) → (number_at new n ≡ number_at old n × ¬ (number_at old n ≡ from)) ⊎ ((number_at old n ≡ from) × (number_at new n ≡ to))
place_poured from to old new p n =
    elim (eqb_tells (number_at old n) from) [
      | inl e ↦ inr (e.1, (p n).0 e.1)
      | inr e ↦ inl ((p n).1 e.1, e.1)
    ]

module _ (s : State) (keys : List Entrant) (flights : List Flight) (places places' : List ℕ) (p : IsPoured 3 2 places places') (e : AreKnown s keys no_hole places) where
  still_placed : (k : Key) → IsPlaced keys places k → IsPlaced keys places' k
  still_placed k h = record {
    number = h.number;
    number_is = h.number_is;
    on =
        λ z.
        elim (place_poured 3 2 places places' p h.number) [
          | inl q ↦ h.on (sym q.0 ∙ z)
          | inr q ↦ (let a = q.1 in omega arith)
        ];
  }

  pub held_again : IsSearched s keys flights no_hole places'
  held_again = record {
    known = record {
      by_root = λ k m. still_placed k (e.by_root k m);
      sound =
          λ n z.
          e.sound n
          (λ y.
          elim (place_poured 3 2 places places' p n) [
            | inl q ↦ z (q.0 ∙ y)
            | inr q ↦ (let a = q.0 in omega arith)
          ]);
      taken =
          λ n z.
          elim (place_poured 3 2 places places' p n) [
            | inl q ↦ e.taken n (sym q.0 ∙ z)
            | inr q ↦ (let a = q.1 in let x : ⊥ = omega arith in absurd x)
          ];
      waits =
          λ n m z.
          elim (place_poured 3 2 places places' p n) [
            | inl q ↦ (let w = e.waits n m (sym q.0 ∙ z) in record { inside = w.inside; blocker = w.blocker; waits_for = w.waits_for; leads = λ j a. still_placed j (w.leads j a) })
            | inr q ↦ (let a = q.1 in let x : ⊥ = omega arith in absurd x)
          ];
    };
    held =
        λ n z.
        elim (place_poured 3 2 places places' p n) [
          | inl q ↦ absurd (q.1 (sym q.0 ∙ z))
          | inr q ↦ (let a = q.1 in let x : ⊥ = omega arith in absurd x)
        ];
  }

-- ---- a key is taken from the pile of those to look at, and put on another

-- a key that has a place gets another
module _ (s : State) (keys : List Entrant) (flights : List Flight) (n p : ℕ) (places : List ℕ) (there : ¬ (number_at places n ≡ 0)) (some_place : ¬ (p ≡ 0)) where
  moved_inside : n < length places
  moved_inside =
      elim (cases_lt n (length places)) [
        | inl l ↦ l
        | inr g ↦ absurd (there (get_or-eq_default places 0 g))
      ]

  pub moved_to : (m : ℕ) → m ≡ n → number_at (slice_set places n p) m ≡ p
  moved_to m y = ap (number_at (slice_set places n p)) y ∙ get_or-set_same places n p 0 moved_inside

  -- no other key has another place
  pub unmoved : (m : ℕ) → (m ≡ n → ⊥) → number_at (slice_set places n p) m ≡ number_at places m
  unmoved m y = get_or-set_other places n m p 0 y

  pub moved_placed : (k : Key) → IsPlaced keys places k → IsPlaced keys (slice_set places n p) k
  moved_placed k h = record {
    number = h.number;
    number_is = h.number_is;
    on =
        λ z.
        elim (eqb_tells h.number n) [
          | inl y ↦ some_place (sym (moved_to h.number y.1) ∙ z)
          | inr y ↦ h.on (sym (unmoved h.number y.1) ∙ z)
        ];
  }

  pub moved_sound : ((m : ℕ) → ¬ (number_at places m ≡ 0) → (m < length keys) × (Wanted s (key_named keys m) ⊎ IsDecided s (key_named keys m)))
      → (m : ℕ) → ¬ (number_at (slice_set places n p) m ≡ 0) → (m < length keys) × (Wanted s (key_named keys m) ⊎ IsDecided s (key_named keys m))
  moved_sound f m z =
      elim (eqb_tells m n) [
        | inl y ↦ f m (λ a. there (ap (number_at places) (sym y.1) ∙ a))
        | inr y ↦ f m (λ a. z (unmoved m y.1 ∙ a))
      ]

  pub moved_waiting : (m i : ℕ) → IsWaiting s keys places m i → IsWaiting s keys (slice_set places n p) m i
  moved_waiting m i w = record { inside = w.inside; blocker = w.blocker; waits_for = w.waits_for; leads = λ j a. moved_placed j (w.leads j a) }

  pub moved_seen : (k : Key) → IsSeen s keys flights places k → IsSeen s keys flights (slice_set places n p) k
  moved_seen k h = record { leads = λ j a. moved_placed j (h.leads j a); tasks = h.tasks }

module _ (s : State) (keys : List Entrant) (flights : List Flight) (n : ℕ) (places : List ℕ) where
  pub popped_searched : number_at places n ≡ 2 → IsSearched s keys flights no_hole places → IsSearched s keys flights (λ m. m ≡ n) (slice_set places n 1)
  popped_searched two x = record {
    known = record {
      by_root = λ k m. moved_placed s keys flights n 1 places there some_place k (e.by_root k m);
      sound = moved_sound s keys flights n 1 places there some_place e.sound;
      taken =
          λ m z.
          elim (eqb_tells m n) [
            | inl y ↦ inl y.1
            | inr y ↦ decided m (e.taken m (sym (still m y.1) ∙ z))
          ];
      waits =
          λ m i z.
          elim (eqb_tells m n) [
            | inl y ↦ (let a = here m y.1 in let b : ⊥ = omega arith in absurd b)
            | inr y ↦ moved_waiting s keys flights n 1 places there some_place m i (e.waits m i (sym (still m y.1) ∙ z))
          ];
    };
    held =
        λ m z.
        elim (eqb_tells m n) [
          | inl y ↦ (let a = here m y.1 in let b : ⊥ = omega arith in absurd b)
          | inr y ↦ moved_seen s keys flights n 1 places there some_place (key_named keys m) (x.held m (sym (still m y.1) ∙ z))
        ];
  }
    where
      e : AreKnown s keys no_hole places
      e = x.known

      there : ¬ (number_at places n ≡ 0)
      there a = omega arith

      some_place : ¬ (◌≡◌ {A = ℕ} 1 0)
      some_place a = omega arith

      here : (m : ℕ) → m ≡ n → number_at (slice_set places n 1) m ≡ 1
      here m y = moved_to s keys flights n 1 places there some_place m y

      still : (m : ℕ) → (m ≡ n → ⊥) → number_at (slice_set places n 1) m ≡ number_at places m
      still m y = unmoved s keys flights n 1 places there some_place m y

      decided : (m : ℕ) → ⊥ ⊎ IsDecided s (key_named keys m) → (m ≡ n) ⊎ IsDecided s (key_named keys m)
      decided m (inl a) = absurd a
      decided m (inr d) = inr d

  -- a taken key that is decided
  pub decided_searched : IsDecided s (key_named keys n) → IsSearched s keys flights (λ m. m ≡ n) places → IsSearched s keys flights no_hole places
  decided_searched d x = record {
    known = record {
      by_root = x.known.by_root;
      sound = x.known.sound;
      taken =
          λ m z.
          elim (x.known.taken m z) [
            | inl y ↦ inr (subst (λ i. IsDecided s (key_named keys i)) (sym y) d)
            | inr y ↦ inr y
          ];
      waits = x.known.waits;
    };
    held = x.held;
  }

  module _ (p : ℕ) (one : number_at places n ≡ 1) (two : 2 ≤ p) (x : IsSearched s keys flights (λ m. m ≡ n) places) (waits' : (m : ℕ) → p ≡ m + 4 → IsWaiting s keys places n m) where
    there_n : ¬ (number_at places n ≡ 0)
    there_n a = omega arith

    some_n : ¬ (p ≡ 0)
    some_n a = omega arith

    now : (m : ℕ) → m ≡ n → number_at (slice_set places n p) m ≡ p
    now m y = moved_to s keys flights n p places there_n some_n m y

    as_was : (m : ℕ) → (m ≡ n → ⊥) → number_at (slice_set places n p) m ≡ number_at places m
    as_was m y = unmoved s keys flights n p places there_n some_n m y

    pub placed_known : AreKnown s keys no_hole (slice_set places n p)
    placed_known = record {
      by_root = λ k m. moved_placed s keys flights n p places there_n some_n k (x.known.by_root k m);
      sound = moved_sound s keys flights n p places there_n some_n x.known.sound;
      taken =
          λ m z.
          elim (eqb_tells m n) [
            | inl y ↦ (let a = now m y.1 in let b : ⊥ = omega arith in absurd b)
            | inr y ↦ apart m y.1 (x.known.taken m (sym (as_was m y.1) ∙ z))
          ];
      waits =
          λ m i z.
          moved_waiting s keys flights n p places there_n some_n m i
          (elim (eqb_tells m n) [
            | inl y ↦ subst (λ j. IsWaiting s keys places j i) (sym y.1) (waits' i (sym (now m y.1) ∙ z))
            | inr y ↦ x.known.waits m i (sym (as_was m y.1) ∙ z)
          ]);
    }
      where
        apart : (m : ℕ) → (m ≡ n → ⊥) → (m ≡ n) ⊎ IsDecided s (key_named keys m) → ⊥ ⊎ IsDecided s (key_named keys m)
        apart m f (inl y) = absurd (f y)
        apart m f (inr d) = inr d

    pub placed_searched : (p ≡ 3 → IsSeen s keys flights places (key_named keys n)) → IsSearched s keys flights no_hole (slice_set places n p)
    placed_searched f = record {
      known = placed_known;
      held =
          λ m z.
          moved_seen s keys flights n p places there_n some_n (key_named keys m)
          (elim (eqb_tells m n) [
            | inl y ↦ subst (λ i. IsSeen s keys flights places (key_named keys i)) (sym y.1) (f (sym (now m y.1) ∙ z))
            | inr y ↦ x.held m (sym (as_was m y.1) ∙ z)
          ]);
    }

-- ---- the keys to which a wanted key leads are put on that pile

module _ (s : State) (keys : List Entrant) (flights : List Flight) (hole : ℕ → Type 0) (n : ℕ) (places places' : List ℕ) (wanted : Wanted s (key_named keys n))
    (numbered : (j : Key) → IsAmong j (leads_to s (key_named keys n)) → IsNumbered (rows_of keys) j) (put : ArePut (rows_of keys) (leads_to s (key_named keys n)) places places') (x : IsSearched s keys flights hole places) where
  kept : (j : Key) → IsPlaced keys places j → IsPlaced keys places' j
  kept j h = record {
    number = h.number;
    number_is = h.number_is;
    on =
        λ z.
        elim (put.only h.number) [
          | inl same ↦ h.on (sym same ∙ z)
          | inr (was, two, w) ↦ h.on was
        ];
  }

  pub lead_placed : (j : Key) → IsAmong j (leads_to s (key_named keys n)) → IsPlaced keys places' j
  lead_placed j m = let y = numbered j m in record { number = y.0; number_is = y.1; on = put.each y.0 (j, m, y.1) }

  pub put_searched : IsSearched s keys flights hole places'
  put_searched = record {
    known = record {
      by_root = λ k m. kept k (x.known.by_root k m);
      sound =
          λ m z.
          elim (put.only m) [
            | inl same ↦ x.known.sound m (λ a. z (same ∙ a))
            | inr (was, two, (j, a, q)) ↦ (let inside = number_names keys j m q in (inside.0, inl (subst (Wanted s) (sym inside.1) (by_key wanted a))))
          ];
      taken =
          λ m z.
          elim (put.only m) [
            | inl same ↦ x.known.taken m (sym same ∙ z)
            | inr (was, two, w) ↦ (let b : ⊥ = omega arith in absurd b)
          ];
      waits =
          λ m i z.
          elim (put.only m) [
            | inl same ↦ (let w = x.known.waits m i (sym same ∙ z) in record { inside = w.inside; blocker = w.blocker; waits_for = w.waits_for; leads = λ j a. kept j (w.leads j a) })
            | inr (was, two, w) ↦ (let b : ⊥ = omega arith in absurd b)
          ];
    };
    held =
        λ m z.
        elim (put.only m) [
          | inl same ↦ (let w = x.held m (sym same ∙ z) in record { leads = λ j a. kept j (w.leads j a); tasks = w.tasks })
          | inr (was, two, w) ↦ (let b : ⊥ = omega arith in absurd b)
        ];
  }

-- ---- a key of a table that was taken

module _ (keys : List Entrant) (texts : List Text) (looks : List Look) (flights : List Flight) (s : State) (p : Stands keys texts looks flights s) (n : ℕ) (inside : n < length keys) (undecided : outcome_of s (key_named keys n) ≡ None)
    (places : List ℕ) (one : number_at places n ≡ 1) (x : IsSearched s keys flights (λ m. m ≡ n) places) where
  abbrev its-plan : Plan
  its-plan = plan (record_by texts looks) (key_named keys n)

  abbrev its-stage : Stage
  its-stage = stage (record_by texts looks) (ask_of (rows_of keys)) (key_named keys n)

  its-leads : leads_to s (key_named keys n) ≡ leads_by (ask_of (rows_of keys)) (key_named keys n) its-plan
  its-leads = leads_stand keys texts looks flights s p (key_named keys n)

  its_wanted : Wanted s (key_named keys n)
  its_wanted =
      elim ((x.known.sound n (λ z. omega arith)).1) [
        | inl w ↦ w
        | inr d ↦ absurd (d undecided)
      ]

  module _ (by : ℕ) (places' : List ℕ) (led : HasNumber (rows_of keys) (leads_by (ask_of (rows_of keys)) (key_named keys n) its-plan) by)
      (numbered : (j : Key) → IsAmong j (leads_by (ask_of (rows_of keys)) (key_named keys n) its-plan) → IsNumbered (rows_of keys) j)
      (put : ArePut (rows_of keys) (leads_by (ask_of (rows_of keys)) (key_named keys n) its-plan) places places') where
    put_so : ArePut (rows_of keys) (leads_to s (key_named keys n)) places places'
    put_so = subst (λ ks. ArePut (rows_of keys) ks places places') (sym its-leads) put

    numbered_so : (j : Key) → IsAmong j (leads_to s (key_named keys n)) → IsNumbered (rows_of keys) j
    numbered_so j m = numbered j (subst (IsAmong j) its-leads m)

    its_wait : IsWaiting s keys places' n by
    its_wait =
        let r = number_names keys led.0 by led.2 in
        record {
          inside = inside;
          blocker = r.0;
          waits_for = subst (λ y. IsAmong y (leads_to s (key_named keys n))) (sym r.1) (subst (IsAmong led.0) (sym its-leads) led.1);
          leads = lead_placed s keys flights (λ m. m ≡ n) n places places' its_wanted numbered_so put_so x;
        }

    still_one : number_at places' n ≡ 1
    still_one =
        elim (put.only n) [
          | inl same ↦ same ∙ one
          | inr (was, two, w) ↦ (let b : ⊥ = omega arith in absurd b)
        ]

    pub wait_searched : IsSearched s keys flights no_hole (slice_set places' n (by + 4))
    wait_searched =
        placed_searched s keys flights n places' (by + 4) still_one (omega arith) (put_searched s keys flights (λ m. m ≡ n) n places places' its_wanted numbered_so put_so x)
        (λ m e. subst (IsWaiting s keys places' n) (let a : by ≡ m = omega arith in a) its_wait)
        (λ e. let a : ⊥ = omega arith in absurd a)

  module _ (kind : Kind) (reach : IsReach (rows_of keys) (key_named keys n) its-stage (reaches.Due kind)) where
    no_leads : (j : Key) → IsAmong j (leads_to s (key_named keys n)) → ⊥
    no_leads j m = reach_leads (ask_of (rows_of keys)) (rows_of keys) (key_named keys n) j its-plan kind reach (subst (IsAmong j) its-leads m)

    pub held_searched : Flies keys flights (task_by kind (key_named keys n)) → IsSearched s keys flights no_hole (slice_set places n 3)
    held_searched f =
        placed_searched s keys flights n places 3 one (omega arith) x (λ m e. let a : ⊥ = omega arith in absurd a)
        (λ e. record { leads = λ j m. absurd (no_leads j m); tasks = flying_tasks keys texts looks flights s p n inside kind reach f })

    pub open_tried : ¬ Flies keys flights (task_by kind (key_named keys n)) → IsJob s keys (record { kind = kind; key = n }) × AreKnown s keys no_hole (slice_set places n 2)
    open_tried f = (
      open_job keys texts looks flights s p n inside kind its_wanted reach f,
      placed_known s keys flights n places 2 one (omega arith) x (λ m e. let a : ⊥ = omega arith in absurd a),
    )

-- ---- the outcome of the key of a number

module _ (keys : List Entrant) (distinct : AreDistinct (keys_in keys)) (n : ℕ) (inside : n < length keys) where
  its_outcome : (o : Option program.Outcome) → outcome_at (rows_of keys) n ≡ Some o → ask_of (rows_of keys) (key_named keys n) ≡ option_map plain o
  its_outcome o h =
      let s = stands (rows_of keys) (key_named keys n) n (number_itself keys n distinct inside) in
      s.asked ∙ ap (option_map plain) (some-equal (sym s.outcome_is ∙ h))

  pub is_decided : (s : State) (o : program.Outcome) → outcome_of s ≡ ask_of (rows_of keys) → outcome_at (rows_of keys) n ≡ Some (Some o) → IsDecided s (key_named keys n)
  is_decided s o p h u = none-some (sym (λ i. p i (key_named keys n)) ∙ u) (its_outcome (Some o) h)

  pub is_undecided : (s : State) → outcome_of s ≡ ask_of (rows_of keys) → outcome_at (rows_of keys) n ≡ Some None → outcome_of s (key_named keys n) ≡ None
  is_undecided s p h = (λ i. p i (key_named keys n)) ∙ its_outcome None h

-- ---- a search ends where there are no keys to look at

module _ (keys : List Entrant) (texts : List Text) (looks : List Look) (flights : List Flight) (s : State) (p : Stands keys texts looks flights s) (places : List ℕ) (x : IsSearched s keys flights no_hole places) (bare : IsBare 2 places) where
  seen_at : (n : ℕ) → ¬ (number_at places n ≡ 0) → Wanted s (key_named keys n) → IsSeen s keys flights places (key_named keys n)
  seen_at n h w = go (number_at places n) refl
    where
      go : (m : ℕ) → number_at places n ≡ m → IsSeen s keys flights places (key_named keys n)
      go zero e = absurd (h e)
      go (suc zero) e =
          elim (x.known.taken n e) [
            | inl b ↦ absurd b
            | inr d ↦ absurd (d (wanted-undecided w))
          ]
      go (suc (suc zero)) e = absurd (bare n e)
      go (suc (suc (suc zero))) e = x.held n e
      go (suc (suc (suc (suc m)))) e =
          let four : number_at places n ≡ m + 4 = omega arith in
          let y = x.known.waits n m four in
          record { leads = y.leads; tasks = λ t d. absurd (leading_task s (key_named keys n) (key_named keys m) t y.waits_for d) }

  seen_key : (k : Key) → Wanted s k → IsPlaced keys places k → IsSeen s keys flights places k
  seen_key k w h =
      let e = (number_names keys k h.number h.number_is).1 in
      subst (IsSeen s keys flights places) e (seen_at h.number h.on (subst (Wanted s) (sym e) w))

  wanted_placed : {k : Key} → Wanted s k → IsPlaced keys places k
  wanted_placed {k} (by_root m) = x.known.by_root k m
  wanted_placed {k} (by_key {j = j} w m) = (seen_key j w (wanted_placed w)).leads k m

  pub none_open : (t : Task) → ¬ IsOpen s t
  none_open t o =
      let a = task_at s t o.due in
      let f = flies_stands keys texts looks flights s p t ((seen_key a.key a.wanted (wanted_placed a.wanted)).tasks t a.due) in
      o.free f.0 f.1

-- ---- a search ends

sum_below : (xs ys : List ℕ) → length xs ≡ length ys → ((n : ℕ) → turns_left (number_at xs n) ≤ turns_left (number_at ys n)) → left_to_see xs ≤ left_to_see ys
sum_below [] [] l f = omega arith
sum_below [] (y ∷ ys) l f = let b : ⊥ = omega arith in absurd b
sum_below (x ∷ xs) [] l f = let b : ⊥ = omega arith in absurd b
sum_below (x ∷ xs) (y ∷ ys) l f =
    let a = sum_below xs ys (omega arith) (λ n. f (suc n)) in
    let b : turns_left x ≤ turns_left y = f 0 in
    let left = sum_by-cons turns_left x xs in
    let right = sum_by-cons turns_left y ys in
    omega arith

pub put_falls : (rows : List Row) (ks : List Key) (old new : List ℕ) → length new ≡ length old → ArePut rows ks old new → left_to_see new ≤ left_to_see old
put_falls rows ks old new l put =
    sum_below new old l
    (λ n.
    elim (put.only n) [
      | inl same ↦ (let a = ap turns_left same in omega arith)
      | inr (was, two, w) ↦ (let a = ap turns_left was in let b = ap turns_left two in omega arith)
    ])

pub pop_falls : (places : List ℕ) (n : ℕ) → number_at places n ≡ 2 → left_to_see (slice_set places n 1) < left_to_see places
pop_falls places n two =
    let l = placed_inside places n 2 (omega arith) two in
    let a = sum_by-set turns_left places n 1 0 l in
    let b = ap turns_left two in
    omega arith

pub push_falls : (places : List ℕ) (n p : ℕ) → n < length places → 3 ≤ p → left_to_see (slice_set places n p) ≤ left_to_see places
push_falls places n p l three =
    let a = sum_by-set turns_left places n p 0 l in
    let b = none_left p three in
    omega arith
  where
    none_left : (m : ℕ) → 3 ≤ m → turns_left m ≡ 0
    none_left zero h = let b : ⊥ = omega arith in absurd b
    none_left (suc zero) h = let b : ⊥ = omega arith in absurd b
    none_left (suc (suc zero)) h = let b : ⊥ = omega arith in absurd b
    none_left (suc (suc (suc m))) h = refl
