-- What is kept stays what it is to be, by edits, sweeps and asks.
use Rattle.std.specs.Prelude.{◌≡◌, ◌<◌, ◌≤◌, ◌⊎◌, ◌+◌, ℕ, Bool, true, false, if◌then◌else◌, List, length, map, reverse, All, Option, Some, None, Result, Ok, Err, IfErr, IsErrAnd, refl}
use Rattle.std.proofs.Common.{ap, sym, ◌∙◌, subst, inl, inr, arith}
use Rattle.std.proofs.lemmas.List.{length-append, length-map}
use Rattle.dh_syntax.specs.declared.locations.Key.{Key}
use Rattle.dh_syntax.specs.declared.locations.Loc.{Loc}
use Rattle.dh_syntax.specs.Expressions.SameTree.{digest_eq, loc_eq}
use Rattle.dh_syntax.specs.Limits.{most_keys}
use Rattle.dh_imports.specs.Outcomes.{Outcome}
use Rattle.dh_syntax.proofs.SameTree.{locs_tell}
use Rattle.dh_imports.specs.Records.{Noted, lookup, text_at}
use Rattle.dh_laws.proofs.KeyOrder.{bool-case, none-some, some-equal}
use Rattle.dh_demand.specs.Results.{number_of}
use Rattle.dh_record.specs.declared.rows.recorded.Entrant.{Entrant}
use Rattle.dh_record.specs.Entering.{keys_in}
use Rattle.dh_record.specs.Rows.{key_named, rows_of}
use Rattle.dh_record.proofs.Reading.{number_names}
use Rattle.dh_watch_files.specs.Contents.{IsPut}
use Rattle.dh_watch_laws.specs.Contents.{IsEdited, IsOver, IsTold, Now}
use Rattle.dh_watch_laws.specs.Kept.{IsSound, Kept, known, nothing, nothing_kept}
use Rattle.dh_watch_laws.specs.Asking.{Asked}
use Rattle.dh_watch_laws.specs.VisitCounts.{ClosesLoop, Counts}
use Rattle.dh_watch_laws.proofs.Asking.{asks_decide}
use Rattle.dh_watch_laws.proofs.Running.{runs_add}
use Rattle.dh_watch_laws.proofs.VisitCounts.{counts_are_kept, one_counts}
use Rattle.dh_watch_rows.specs.declared.rows.Rows.{Rows}
use Rattle.dh_watch_rows.specs.KeptRows.{AreNamed, IsGood, kept_of}
use Rattle.dh_watch_rows.specs.Leaving.{IsLeft, swept_now}
use Rattle.dh_watch_rows.specs.Removing.{Forgets}
use Rattle.dh_watch_rows.proofs.Sifted.{left-forgets, left-sound}
use Rattle.dh_watch_runs.specs.declared.deciding.Stop.{Stop}
use Rattle.dh_watch_runs.specs.declared.deciding.Stop.TheVariants as stops
use Rattle.dh_watch_runs.specs.Asks.{IsRefused}
use Rattle.dh_watch_runs.specs.Resolving.{AreMore, StaysOver, named, trail_of}
use Rattle.dh_watch_runs.proofs.Reversing.{named-more, numbers-inside, trail-numbers}
use Rattle.dh_watch.specs.Watchers.{IsNumber, IsStopped, IsWatched, MeetsFew, counted, in_run}
use Rattle.dh_watch.proofs.Growing.{grown-asked, grown-none, grown-run}
use Rattle.dh_watch.proofs.SourceSteps.{key-count, named-key}

-- ---- nothing

sound-nothing : IsSound nothing_kept
sound-nothing = record { found = nothing; limited = λ k w e. none-some refl e }

over-nothing : (now : Now) → IsOver now nothing_kept.recorded
over-nothing now = record { texts = λ l t e. none-some refl e; looks = λ d s e. none-some refl e }

pub watched-nothing : (told : Option Now) (rows : Rows) → IsGood rows → kept_of rows ≡ nothing_kept → IsWatched told rows false
watched-nothing told rows g e = record {
  good = g;
  left = left-sound (kept_of rows) (subst IsSound (sym e) sound-nothing);
  swept = λ _. subst IsSound (sym e) sound-nothing;
  over = λ now t. subst (λ s. IsOver now s.recorded) (sym e) (over-nothing now);
}

-- ---- asks

pub watched-asked : (told told' : Option Now) (rows rows' : Rows) (stale stale' : Bool) → IsWatched told rows stale → told' ≡ told → IsGood rows' → IsSound (kept_of rows') → StaysOver told (kept_of rows) (kept_of rows')
    → IsWatched told' rows' stale'
watched-asked told told' rows rows' stale stale' w same g h stays = record {
  good = g;
  left = left-sound (kept_of rows') h;
  swept = λ _. h;
  over = λ now e. stays now (sym same ∙ e) (w.over now (sym same ∙ e));
}

pub watched-same : (told told' : Option Now) (rows rows' : Rows) (stale : Bool) → IsWatched told rows stale → told' ≡ told → IsGood rows' → kept_of rows' ≡ kept_of rows → IsWatched told' rows' stale
watched-same told told' rows rows' stale w same g e = record {
  good = g;
  left = subst IsLeft (sym e) w.left;
  swept = λ f. subst IsSound (sym e) (w.swept f);
  over = λ now t. subst (λ s. IsOver now s.recorded) (sym e) (w.over now (sym same ∙ t));
}

-- ---- sweeps

pub watched-swept : (told told' : Option Now) (rows rows' : Rows) (stale stale' : Bool) → IsWatched told rows stale → told' ≡ told → IsGood rows' → kept_of rows' ≡ swept_now (kept_of rows) → IsSound (kept_of rows')
    → IsWatched told' rows' stale'
watched-swept told told' rows rows' stale stale' w same g e h = record {
  good = g;
  left = left-sound (kept_of rows') h;
  swept = λ _. h;
  over = λ now t.
      let o = w.over now (sym same ∙ t) in
      subst (λ s. IsOver now s.recorded) (sym e) (record { texts = o.texts; looks = o.looks });
}

-- ---- edits

put-edited : (told told' : Option Now) (l : Loc) (bytes : Option (List ℕ)) (now' : Now) → IsPut told l bytes told' → told' ≡ Some now' → (now : Now) × (told ≡ Some now) × IsEdited now l bytes now'
put-edited None told' l bytes now' p e = none-some p e
put-edited (Some now) None l bytes now' p e = absurd p
put-edited (Some now) (Some now'') l bytes now' p e = (now, refl, subst (IsEdited now l bytes) (some-equal e) p)

pub watched-changed : (told told' : Option Now) (rows rows' : Rows) (stale stale' : Bool) (l : Loc) (bytes : Option (List ℕ)) → IsWatched told rows stale → IsPut told l bytes told' → IsGood rows'
    → Forgets (kept_of rows) l (kept_of rows') → (stale' ≡ false → IsSound (kept_of rows')) → IsWatched told' rows' stale'
watched-changed told told' rows rows' stale stale' l bytes w put g f clean = record {
  good = g;
  left = left-forgets (kept_of rows) (kept_of rows') l f w.left;
  swept = clean;
  over = over;
}
  where
    over : (now' : Now) → told' ≡ Some now' → IsOver now' (kept_of rows').recorded
    over now' e = record { texts = λ x t q. each x t q (bool-case (loc_eq l x)); looks = λ d look q. o.looks d look (ap (λ z. lookup digest_eq z d) (sym f.looks) ∙ q) }
      where
        old : (now : Now) × (told ≡ Some now) × IsEdited now l bytes now'
        old = put-edited told told' l bytes now' put e

        o : IsOver old.0 (kept_of rows).recorded
        o = w.over old.0 old.1

        each : (x : Loc) (t : Noted) → text_at (kept_of rows').recorded x ≡ Some t → (loc_eq l x ≡ true) ⊎ (loc_eq l x ≡ false) → IsTold (lookup loc_eq now' x) t
        each x t q (inl y) = none-some f.gone (subst (λ z. text_at (kept_of rows').recorded z ≡ Some t) (sym (locs_tell.equal l x y)) q)
        each x t q (inr n) =
            subst (λ z. IsTold z t) (sym (old.2 x ∙ ap (λ b. if b then bytes else lookup loc_eq old.0 x) n)) (o.texts x t (sym (f.others x n) ∙ q))

-- ---- what an ask leaves

pub stopped-run : (old : Kept) (root : Key) (s : Kept) (stop : Stop) → IsSound old → IsRefused old root s stop → IsStopped old root s stop
stopped-run old root s stop h r = record { texts = (runs_add old s root r.0.trail h r.0.run).texts; grown = grown-run old root h r.0.run; many = λ e. in_run (r.1 e) }

pub stopped-none : (old : Kept) (root : Key) (s : Kept) (stop : Stop) → s ≡ old → stop ≡ stops.Memory → IsStopped old root s stop
stopped-none old root s stop e m = record { texts = λ l t q. ap (λ z. text_at z.recorded l) e ∙ q; grown = grown-none old s e; many = λ x. let f : stops.Memory ≡ stops.TooMany = sym m ∙ x in cc }

-- it came to an end, but visits more keys than are allowed
pub stopped-counted : (old : Kept) (root : Key) (s : Kept) (stop : Stop) (m : ℕ) → IsSound old → Asked old root s m → (stop ≡ stops.TooMany → (n : ℕ) × Counts s root n × most_keys < n)
    → IsStopped old root s stop
stopped-counted old root s stop m h a f = record { texts = (asks_decide old s root m h a).kept; grown = grown-asked old root s m h a; many = λ e. let c = f e in counted c.0 c.1 c.2 }

-- no more are visited than have outcomes, or stand on the trail besides
pub few-known : (s : Kept) (root : Key) (o : Outcome) → IsSound s → known s.outcomes root ≡ Some o → length s.outcomes ≤ most_keys → MeetsFew s root
few-known s root o h e l n c = let k = (counts_are_kept s root n h c).0 o e in omega (arith, k, l)

pub few-on-loop : (keys : List Key) (s : Kept) (root : Key) (trail : List ℕ) (least : ℕ) → IsSound s → ClosesLoop s root (trail_of keys trail) (named keys least)
    → length trail + length s.outcomes ≤ most_keys → MeetsFew s root
few-on-loop keys s root trail least h c l n d =
    let k = (counts_are_kept s root n h d).1 (trail_of keys trail) (named keys least) c in omega (arith, k, l, length-map trail (named keys))

-- the chain that a run leaves, by the numbers of its trail
pub chain-named : (keys : List Entrant) (s : Kept) (root : Key) (ns trail : List ℕ) (least : ℕ) → reverse ns ≡ trail → ClosesLoop s root (trail_of (keys_in keys) trail) (named (keys_in keys) least)
    → ClosesLoop s root (reverse (map (key_named keys) ns)) (key_named keys least)
chain-named keys s root ns trail least e c =
    subst (ClosesLoop s root (reverse (map (key_named keys) ns))) (named-key keys least)
    (subst (λ (xs : List Key). ClosesLoop s root xs (named (keys_in keys) least)) (sym (trail-numbers (keys_in keys) ns trail e) ∙ (λ i. reverse (map (λ n. named-key keys n i) ns))) c)

pub numbers-named : (keys : List Entrant) (ns trail : List ℕ) → reverse ns ≡ trail → All (λ (m : ℕ). m < length (keys_in keys)) trail → AreNamed keys ns
numbers-named keys ns trail e h = subst (λ (n : ℕ). All (λ (m : ℕ). m < n) ns) (key-count keys) (numbers-inside (λ (m : ℕ). m < length (keys_in keys)) ns trail e h)

-- so many are counted
pub few-counted : (s : Kept) (root : Key) (v : ℕ) → IsSound s → Counts s root v → v ≤ most_keys → MeetsFew s root
few-counted s root v h c l n d = let e = one_counts s root n v h d c in omega (arith, e, l)

-- a refusal that is handed on
pub handed-on : {X E : Type 0} (r : Result X E) (e : E) (P : E → Type 0) → IsErrAnd r (λ y. y ≡ e) → P e → IfErr r P
handed-on (Ok x) e P h p = tt
handed-on (Err y) e P h p = subst P (sym h) p

-- the key of a number stays
pub number-is : (keys keys' : List Entrant) (k : Key) (n : ℕ) → number_of (rows_of keys) k ≡ Some n → AreMore (keys_in keys) (keys_in keys') → IsNumber keys' k n
number-is keys keys' k n e more =
    let w = number_names keys k n e in
    let low : n < length (keys_in keys) = omega (arith, w.0, key-count keys) in
    record {
      inside = omega (arith, low, key-count keys', ap (λ z. length z) more.1, length-append (keys_in keys) more.0);
      key_is = sym (named-key keys' n) ∙ named-more (keys_in keys) (keys_in keys') more n low ∙ named-key keys n ∙ w.1;
    }

-- the root by its number
pub root-named : (keys : List Entrant) (k : Key) (n : ℕ) → number_of (rows_of keys) k ≡ Some n → (n < length (keys_in keys)) × (named (keys_in keys) n ≡ k)
root-named keys k n e = let w = number_names keys k n e in (omega (arith, w.0, key-count keys), named-key keys n ∙ w.1)
