-- A pass over what is kept marks what the visited keys ask, and counts the marked ones.
use Rattle.std.specs.Prelude.{◌≡◌, ◌⊎◌, ◌<◌, ◌≤◌, ◌+◌, ◌++◌, ℕ, Bool, true, false, if◌then◌else◌, List, [], ◌∷◌, length, map, replicate, reverse, take, All, Option, Some, None, slice_set, refl}
use Rattle.std.proofs.Common.{ap, sym, ◌∙◌, subst, inl, inr, arith, Bor, get_or}
use Rattle.std.proofs.lemmas.List.{length-map, length-replicate, take_more, take_all}
use Rattle.std.proofs.lemmas.List.Elements.{All-weaker}
use Rattle.dh_syntax.specs.declared.locations.Key.{Key}
use Rattle.dh_syntax.specs.declared.locations.Loc.{Loc}
use Rattle.dh_syntax.specs.Expressions.Bridge.{term}
use Rattle.dh_syntax.specs.Expressions.Tree.{Term}
use Rattle.dh_imports.specs.declared.outcomes.Outcome as program
use Rattle.dh_imports.specs.Keeps.{asked_by}
use Rattle.dh_imports.specs.Machine.{IsAmong}
use Rattle.dh_imports.specs.Outcomes.{Outcome, Loop, plain}
use Rattle.dh_imports.specs.Records.{Record}
use Rattle.dh_imports.specs.Resolver.{Plan, TextOf, LookOf, Unknown, Now, Walks, Asks, is_in, plan}
use Rattle.dh_imports.specs.Walk.{Ask, course, keys_of}
use Rattle.dh_laws.proofs.KeyOrder.{bool-case, true_false, none-some, some-equal}
use Rattle.dh_demand.specs.declared.scans.Edge.{Edge}
use Rattle.dh_demand.specs.declared.scans.Scan.{Scan}
use Rattle.dh_demand.specs.Results.{Row, ask_of, number_of}
use Rattle.dh_demand.specs.Scans.{Fits, text_key}
use Rattle.dh_demand.specs.Wants.{AreMarked, HaveMarks}
use Rattle.dh_demand.specs.Inside.Marking.{mark}
use Rattle.dh_demand.proofs.Wanting.{are_marked}
use Rattle.dh_record.specs.declared.rows.recorded.Entrant.{Entrant}
use Rattle.dh_record.specs.declared.stage.plans.Plan as program_plan
use Rattle.dh_record.specs.declared.stage.plans.Plan.TheVariants as plans
use Rattle.dh_record.specs.Entering.{AreDistinct, keys_in}
use Rattle.dh_record.specs.Marks.{is_set}
use Rattle.dh_record.specs.Reading.{IsNumbered, IsPlan}
use Rattle.dh_record.specs.Rows.{key_named, outcome_of_number, row_of_entrant, rows_of}
use Rattle.dh_record.proofs.Decided.{number_itself}
use Rattle.dh_record.proofs.Latest.{latest, length-reverse-map}
use Rattle.dh_record.proofs.Marking.{nothing_set}
use Rattle.dh_record.proofs.Reading.{asked_none}
use Rattle.dh_record.proofs.Reaching.{plan_walks}
use Rattle.dh_record.proofs.Visiting.{IsQuiet, asks_numbered, bare_asks, walk_asks}
use Rattle.dh_watch_laws.specs.Kept.{IsSound, Outcomes, known}
use Rattle.dh_watch_laws.specs.Visiting.{looped}
use Rattle.dh_watch_laws.specs.VisitCounts.{ClosesLoop, Counts, asked_by_all, count_from}
use Rattle.dh_watch_laws.proofs.Needing.{in-of, of-in}
use Rattle.dh_watch_laws.proofs.VisitPasses.{passes_count}
use Rattle.dh_watch_rows.specs.declared.rows.Rows.{Rows}
use Rattle.dh_watch_rows.specs.Inside.LoopedRows.{HaveSameKeys, Mark, looped_rows}
use Rattle.dh_watch_rows.specs.KeptRows.{IsGood, kept_of}
use Rattle.dh_watch_rows.proofs.LoopedRows.{begins-same, looped-ask, looped-numbers, mark-more}

-- ---- what a key asks

-- what fits rows fits others with the same keys
pub fits-same : (rows rows' : List Row) → HaveSameKeys rows rows' → (parent : Option Loc) (e : Term) (es : List Edge) → Fits parent rows e es → Fits parent rows' e es
fits-same rows rows' h parent e es f = record {
  inside = subst (λ (n : ℕ). All (λ (x : Edge). x.key < n) es) (sym h.many) f.inside;
  begins = begins-same rows rows' h parent (keys_of parent e) es f.begins;
}

module _ (rows rows' : List Row) (same : HaveSameKeys rows rows') (k : Key) where
  pub walk-same : (p : Plan) (s : Bor Scan) (a : Bor (Option (List ℕ))) → IsPlan rows k p (plans.Walk s a) → IsPlan rows' k p (plans.Walk s a)
  walk-same (Unknown (TextOf l)) s a h = absurd h
  walk-same (Unknown (LookOf d)) s a h = absurd h
  walk-same (Now i) s a h = absurd h
  walk-same (Walks e allow) s a h = record { expr_is = h.expr_is; allow_is = h.allow_is; fits = fits-same rows rows' same (Some k.loc) e (s.now.edges) h.fits; text_is = h.text_is }
  walk-same (Asks j) s a h = absurd h

  pub bare-same : (p : Plan) (n : ℕ) → IsPlan rows k p (plans.Ask n) → IsPlan rows' k p (plans.Ask n)
  bare-same (Unknown (TextOf l)) n h = absurd h
  bare-same (Unknown (LookOf d)) n h = absurd h
  bare-same (Now i) n h = absurd h
  bare-same (Walks e allow) n h = absurd h
  bare-same (Asks j) n h = same.numbers j ∙ h

-- the edges of a text to walk fit, and have marks
pub walk-fits : (keys : List Entrant) (rows : List Row) → HaveSameKeys (rows_of keys) rows → (k j : Key) (p : Plan) (s : Bor Scan) (a : Bor (Option (List ℕ))) → k ≡ j
    → IsPlan (rows_of keys) k p (plans.Walk s a) → Fits (Some j.loc) rows (term s.now.expr) s.now.edges
walk-fits keys rows same k j p s a q h =
    let w = plan_walks (rows_of keys) k p s a h in
    subst (λ (i : Key). Fits (Some i.loc) rows (term s.now.expr) s.now.edges) q
    (fits-same (rows_of keys) rows same (Some k.loc) (term s.now.expr) (s.now.edges) (subst (λ (e : Term). Fits (Some k.loc) (rows_of keys) e s.now.edges) w.3.expr_is w.3.fits))

pub walk-room : (keys : List Entrant) (k : Key) (p : Plan) (s : Bor Scan) (a : Bor (Option (List ℕ))) (marks : List Bool) → length keys ≤ length marks → IsPlan (rows_of keys) k p (plans.Walk s a)
    → HaveMarks marks s.now.edges
walk-room keys k p s a marks l h =
    let many = length-map keys row_of_entrant in
    let w = plan_walks (rows_of keys) k p s a h in
    All-weaker (λ (e : Edge). e.key < length (rows_of keys)) (λ (e : Edge). e.key < length marks) (λ e m. omega arith) (s.now.edges) w.3.fits.inside

-- a key whose task is due asks nothing
quiet-none : (rows : List Row) (k : Key) (ask : Ask) (p : Plan) (r : program_plan.Plan) → IsQuiet rows k r → IsPlan rows k p r → asked_by ask k p ≡ []
quiet-none rows k ask (Unknown q) r i h = refl
quiet-none rows k ask (Now j) r i h = refl
quiet-none rows k ask (Walks e allow) plans.Fetch i h = absurd h
quiet-none rows k ask (Walks e allow) plans.Look i h = absurd h
quiet-none rows k ask (Walks e allow) (plans.Now d) i h = absurd h
quiet-none rows k ask (Walks e allow) (plans.Walk s a) i h = absurd i
quiet-none rows k ask (Walks e allow) (plans.Ask n) i h = absurd i
quiet-none rows k ask (Asks j) plans.Fetch i h = absurd h
quiet-none rows k ask (Asks j) plans.Look i h = absurd h
quiet-none rows k ask (Asks j) (plans.Now d) i h = absurd h
quiet-none rows k ask (Asks j) (plans.Walk s a) i h = absurd i
quiet-none rows k ask (Asks j) (plans.Ask n) i h = absurd i

module _ (keys : List Entrant) (rows : List Row) (same : HaveSameKeys (rows_of keys) rows) (k : Key) (p p' : Plan) (p_is : p' ≡ p) (marks : List Bool) where
  more : (marks' : List Bool) → AreMarked rows (asked_by (ask_of rows) k p) marks marks' → ((j : Key) → IsAmong j (asked_by (ask_of rows) k p) → IsNumbered rows j)
      → (ks : List Key) → Mark keys marks ks → Mark keys marks' (asked_by (ask_of rows) k p' ++ ks)
  more marks' m n ks h =
      subst (λ (q : Plan). Mark keys marks' (asked_by (ask_of rows) k q ++ ks)) (sym p_is)
      (mark-more keys rows marks marks' ks (asked_by (ask_of rows) k p) same (λ j i. let x = n j i in (x.0, sym (same.numbers j) ∙ x.1)) m h)

  pub walk-marks : (marks' : List Bool) (s : Bor Scan) (a : Bor (Option (List ℕ))) → IsPlan (rows_of keys) k p (plans.Walk s a)
      → AreMarked rows (course (text_key (Some k.loc)) (ask_of rows) (term s.now.expr)).asked marks marks'
      → (ks : List Key) → Mark keys marks ks → Mark keys marks' (asked_by (ask_of rows) k p' ++ ks)
  walk-marks marks' s a h m =
      let w = walk-same (rows_of keys) rows same k p s a h in
      more marks' (walk_asks rows k p s a marks marks' m w) (λ j i. asks_numbered rows k p (plans.Walk s a) j w i)

  pub bare-marks : (n : ℕ) → IsPlan (rows_of keys) k p (plans.Ask n) → (ks : List Key) → Mark keys marks ks → Mark keys (slice_set marks n true) (asked_by (ask_of rows) k p' ++ ks)
  bare-marks n h =
      let w = bare-same (rows_of keys) rows same k p n h in
      more (slice_set marks n true) (bare_asks rows k p n marks w) (λ j i. asks_numbered rows k p (plans.Ask n) j w i)

  pub quiet-marks : (r : program_plan.Plan) → IsQuiet (rows_of keys) k r → IsPlan (rows_of keys) k p r → (ks : List Key) → Mark keys marks ks → Mark keys marks (asked_by (ask_of rows) k p' ++ ks)
  quiet-marks r i h ks m = subst (λ (js : List Key). Mark keys marks (js ++ ks)) (sym (ap (asked_by (ask_of rows) k) p_is ∙ quiet-none (rows_of keys) k (ask_of rows) p r i h)) m

-- ---- marks of keys

same-self : (rows : List Row) → HaveSameKeys rows rows
same-self rows = record { many = refl; numbers = λ k. refl }

-- one more key is marked
pub mark-one : (keys : List Entrant) → AreDistinct (keys_in keys) → (marks : List Bool) (ks : List Key) (n : ℕ) → n < length keys → Mark keys marks ks → Mark keys (slice_set marks n true) (key_named keys n ∷ ks)
mark-one keys d marks ks n l h =
    let e = number_itself keys n d l in
    mark-more keys (rows_of keys) marks (slice_set marks n true) ks (key_named keys n ∷ []) (same-self (rows_of keys)) only
    (are_marked (rows_of keys) (key_named keys n ∷ []) marks (slice_set marks n true) (ap (λ o. mark o marks) (sym e))) h
  where
    only : (k : Key) → IsAmong k (key_named keys n ∷ []) → IsNumbered (rows_of keys) k
    only k (inl q) = (n, subst (λ (j : Key). number_of (rows_of keys) j ≡ Some n) q (number_itself keys n d l))
    only k (inr m) = absurd m

-- none is
pub mark-none : (keys : List Entrant) (size : ℕ) → length keys ≤ size → Mark keys (replicate size false) []
mark-none keys size l = record {
  fit = omega (arith, length-replicate size false);
  marked = λ k. (λ m. absurd (nothing_set size m.number m.set), λ i. absurd i);
  inside = λ n s. absurd (nothing_set size n s);
}

-- whether a key is among the marked ones
pub mark-is : (keys : List Entrant) (marks : List Bool) (ks : List Key) (k : Key) (n : ℕ) → Mark keys marks ks → number_of (rows_of keys) k ≡ Some n → is_set marks n ≡ is_in k ks
mark-is keys marks ks k n h e = go (bool-case (is_set marks n)) (bool-case (is_in k ks))
  where
    go : (is_set marks n ≡ true) ⊎ (is_set marks n ≡ false) → (is_in k ks ≡ true) ⊎ (is_in k ks ≡ false) → is_set marks n ≡ is_in k ks
    go (inl s) q = s ∙ sym (in-of k ks ((h.marked k).0 (record { number = n; number_is = e; set = s })))
    go (inr s) (inr q) = s ∙ sym q
    go (inr s) (inl q) =
        let m = (h.marked k).1 (of-in k ks q) in
        let same : m.number ≡ n = some-equal (sym m.number_is ∙ e) in
        true_false (subst (λ (x : ℕ). is_set marks x ≡ true) same m.set) s

-- ---- the pass

-- what is left to pass, the latest first
abbrev pub passing : List Entrant → List ℕ → ℕ → Outcomes
passing keys found left = reverse (map (outcome_of_number keys) (take left found))

latest-found : (keys : List Entrant) (found : List ℕ) (left n d : ℕ) → left < length found → n ≡ get_or found left d → passing keys found (left + 1) ≡ outcome_of_number keys n ∷ passing keys found left
latest-found keys found left n d l e =
    ap (λ ns. reverse (map (outcome_of_number keys) ns)) (take_more found left d l) ∙ latest (outcome_of_number keys) (take left found) (get_or found left d)
    ∙ ap (λ x. outcome_of_number keys x ∷ passing keys found left) (sym e)

-- the count so far, with what is left to count, is the whole
pub record Passes (keys : List Entrant) (found : List ℕ) (r : Record) (ask : Ask) (marks : List Bool) (count left whole : ℕ) : Type 0 where
  pub marked : List Key
  pub mark : Mark keys marks marked
  pub whole_is : count + count_from r ask (passing keys found left) marked ≡ whole

pub passes-first : (keys : List Entrant) (found : List ℕ) (r : Record) (ask : Ask) (marks : List Bool) (left : ℕ) (ks : List Key) → left ≡ length found → Mark keys marks ks
    → Passes keys found r ask marks 0 left (count_from r ask (reverse (map (outcome_of_number keys) found)) ks)
passes-first keys found r ask marks left ks e m =
    let all = ap (λ ns. count_from r ask (reverse (map (outcome_of_number keys) ns)) ks) (take_all left found (omega arith)) in
    record { marked = ks; mark = m; whole_is = omega arith }

pub passes-end : (keys : List Entrant) (found : List ℕ) (r : Record) (ask : Ask) (marks : List Bool) (count left whole : ℕ) → left ≡ 0 → Passes keys found r ask marks count left whole → count ≡ whole
passes-end keys found r ask marks count left whole z p =
    let last = ap (λ n. count_from r ask (passing keys found n) p.marked) z in
    let done : count_from r ask (passing keys found 0) p.marked ≡ 0 = refl in
    let w = p.whole_is in
    omega arith

module _ (keys : List Entrant) (found : List ℕ) (r : Record) (ask : Ask) (distinct : AreDistinct (keys_in keys)) (marks : List Bool) (count whole left left' n d : ℕ) (left_is : left ≡ left' + 1)
    (l : left' < length found) (n_is : n ≡ get_or found left' d) (inside : n < length keys) (p : Passes keys found r ask marks count left whole) where
  unfolded : count_from r ask (passing keys found left) p.marked
      ≡ (if is_in (key_named keys n) p.marked then count_from r ask (passing keys found left') (asked_by ask (key_named keys n) (plan r (key_named keys n)) ++ p.marked) + 1
      else count_from r ask (passing keys found left') p.marked)
  unfolded = ap (λ x. count_from r ask (passing keys found x) p.marked) left_is ∙ ap (λ os. count_from r ask os p.marked) (latest-found keys found left' n d l n_is)

  pub passes-marked : (marks' : List Bool) → is_set marks n ≡ true
      → ((ks : List Key) → Mark keys marks ks → Mark keys marks' (asked_by ask (key_named keys n) (plan r (key_named keys n)) ++ ks))
      → Passes keys found r ask marks' (count + 1) left' whole
  passes-marked marks' s m =
      let t = sym (mark-is keys marks p.marked (key_named keys n) n p.mark (number_itself keys n distinct inside)) ∙ s in
      let u = unfolded
      ∙ ap (λ b. if b then count_from r ask (passing keys found left') (asked_by ask (key_named keys n) (plan r (key_named keys n)) ++ p.marked) + 1 else count_from r ask (passing keys found left') p.marked) t in
      let w = p.whole_is in
      record { marked = asked_by ask (key_named keys n) (plan r (key_named keys n)) ++ p.marked; mark = m p.marked p.mark; whole_is = omega arith }

  pub passes-past : is_set marks n ≡ false → Passes keys found r ask marks count left' whole
  passes-past s =
      let t = sym (mark-is keys marks p.marked (key_named keys n) n p.mark (number_itself keys n distinct inside)) ∙ s in
      let u = unfolded
      ∙ ap (λ b. if b then count_from r ask (passing keys found left') (asked_by ask (key_named keys n) (plan r (key_named keys n)) ++ p.marked) + 1 else count_from r ask (passing keys found left') p.marked) t in
      let w = p.whole_is in
      record { marked = p.marked; mark = p.mark; whole_is = omega arith }

-- ---- a root that has an outcome

pub visited-counts : (t : Rows) → IsGood t → IsSound (kept_of t) → (root n : ℕ) → (o : Outcome) × (known (kept_of t).outcomes (key_named t.keys root) ≡ Some o)
    → n ≡ count_from (kept_of t).recorded (ask_of (rows_of t.keys)) (kept_of t).outcomes (key_named t.keys root ∷ []) → Counts (kept_of t) (key_named t.keys root) n
visited-counts t g h root n (o, e) q =
    subst (Counts (kept_of t) (key_named t.keys root)) (ap (λ (ask : Ask). count_from (kept_of t).recorded ask (kept_of t).outcomes (key_named t.keys root ∷ [])) g.asks ∙ sym q)
    ((passes_count (kept_of t) (key_named t.keys root) h).0 o e)

-- ---- a root whose chain closes a loop

-- the keys of these numbers, the latest first
abbrev pub chained : List Entrant → List ℕ → List Key
chained keys ns = reverse (map (key_named keys) ns)

pub chained-more : (keys : List Entrant) (ns : List ℕ) (i n d : ℕ) → i < length ns → n ≡ get_or ns i d → chained keys (take (i + 1) ns) ≡ key_named keys n ∷ chained keys (take i ns)
chained-more keys ns i n d l e =
    ap (λ xs. chained keys xs) (take_more ns i d l) ∙ latest (key_named keys) (take i ns) (get_or ns i d) ∙ ap (λ x. key_named keys x ∷ chained keys (take i ns)) (sym e)

pub asked-more : (keys : List Entrant) (r : Record) (ask : Ask) (ns : List ℕ) (i n d : ℕ) → i < length ns → n ≡ get_or ns i d
    → asked_by ask (key_named keys n) (plan r (key_named keys n)) ++ asked_by_all r ask (chained keys (take i ns)) ≡ asked_by_all r ask (chained keys (take (i + 1) ns))
asked-more keys r ask ns i n d l e = ap (asked_by_all r ask) (sym (chained-more keys ns i n d l e))

-- a key of the chain has a number
chained-numbered : (keys : List Entrant) (marks : List Bool) (ks : List Key) (k : Key) → Mark keys marks ks → number_of (rows_of keys) k ≡ None → is_in k ks ≡ false
chained-numbered keys marks ks k h e = go (bool-case (is_in k ks))
  where
    go : (is_in k ks ≡ true) ⊎ (is_in k ks ≡ false) → is_in k ks ≡ false
    go (inr f) = f
    go (inl t) = let m = (h.marked k).1 (of-in k ks t) in none-some e m.number_is

-- the rows with the loop are asked as the definitions have it
looped-asks : (keys : List Entrant) (on : List Bool) (end : program.Outcome) (xs : List Key) (least : Key) (ask : Ask) → Mark keys on xs → plain end ≡ Loop least → ask ≡ ask_of (rows_of keys)
    → (k : Key) → ask_of (looped_rows (rows_of keys) on end) k ≡ looped xs least ask k
looped-asks keys on end xs least ask h e same k = go (number_of (rows_of keys) k) refl
  where
    go : (o : Option ℕ) → number_of (rows_of keys) k ≡ o → ask_of (looped_rows (rows_of keys) on end) k ≡ looped xs least ask k
    go (Some n) q =
        looped-ask (rows_of keys) on end k n q
        ∙ ap (λ b. if b then Some (plain end) else ask_of (rows_of keys) k) (mark-is keys on xs k n h q)
        ∙ ap (λ o. if is_in k xs then Some o else ask_of (rows_of keys) k) e
        ∙ ap (λ (a : Ask). if is_in k xs then Some (Loop least) else a k) (sym same)
    go None q =
        sym (asked_none (looped_rows (rows_of keys) on end) k (looped-numbers (rows_of keys) on end k ∙ q))
        ∙ asked_none (rows_of keys) k q
        ∙ ap (λ (a : Ask). a k) (sym same)
        ∙ sym (ap (λ b. if b then Some (Loop least) else ask k) (chained-numbered keys on xs k h q))

pub loop-counts : (t : Rows) → IsGood t → IsSound (kept_of t) → (chain : List ℕ) (least n : ℕ) (on : List Bool) (end : program.Outcome) → plain end ≡ Loop (key_named t.keys least)
    → Mark t.keys on (chained t.keys chain)
    → n ≡ count_from (kept_of t).recorded (ask_of (looped_rows (rows_of t.keys) on end)) (kept_of t).outcomes (asked_by_all (kept_of t).recorded (ask_of (looped_rows (rows_of t.keys) on end)) (chained t.keys chain))
    → (root : Key) → ClosesLoop (kept_of t) root (chained t.keys chain) (key_named t.keys least) → Counts (kept_of t) root (length chain + n)
loop-counts t g h chain least n on end e m q root c =
    let ask : ask_of (looped_rows (rows_of t.keys) on end) ≡ looped (chained t.keys chain) (key_named t.keys least) (known (kept_of t).outcomes)
    = λ i k. looped-asks t.keys on end (chained t.keys chain) (key_named t.keys least) (known (kept_of t).outcomes) m e g.asks k i in
    let same : n ≡ count_from (kept_of t).recorded (looped (chained t.keys chain) (key_named t.keys least) (known (kept_of t).outcomes)) (kept_of t).outcomes
    (asked_by_all (kept_of t).recorded (looped (chained t.keys chain) (key_named t.keys least) (known (kept_of t).outcomes)) (chained t.keys chain))
    = q ∙ ap (λ (a : Ask). count_from (kept_of t).recorded a (kept_of t).outcomes (asked_by_all (kept_of t).recorded a (chained t.keys chain))) ask in
    let p = (passes_count (kept_of t) root h).1 (chained t.keys chain) (key_named t.keys least) c in
    subst (Counts (kept_of t) root) (λ i. length-reverse-map (key_named t.keys) chain i + sym same i) p
