-- The steps of a run over rows and files.
use Rattle.std.specs.Prelude.{◌≡◌, ◌<◌, ◌+◌, ◌⊎◌, ℕ, zero, suc, true, false, if◌then◌else◌, List, [], ◌∷◌, length, Option, Some, None, Ok, Err, refl}
use Rattle.std.proofs.Common.{ap, sym, ◌∙◌, subst, inl, inr, arith}
use Rattle.std.proofs.lemmas.List.{get_or_append_left, length-map, map-append}
use Rattle.dh_syntax.specs.declared.locations.Digest.{Digest}
use Rattle.dh_syntax.specs.declared.locations.Key.{Key}
use Rattle.dh_syntax.specs.declared.locations.Loc.{Loc}
use Rattle.dh_syntax.specs.Expressions.Bridge.{term}
use Rattle.dh_syntax.specs.Expressions.SameTree.{digest_eq, loc_eq}
use Rattle.dh_syntax.proofs.SameTree.{locs_tell, digests_tell}
use Rattle.dh_imports.specs.declared.outcomes.Why.{Why}
use Rattle.dh_imports.specs.Machine.{IsDue, with_limit}
use Rattle.dh_imports.specs.Records as found
use Rattle.dh_imports.specs.Records.{Noted, Record, Seen, look_at, lookup, text_at}
use Rattle.dh_imports.specs.Resolver.{Part, TextOf, LookOf, Unknown, Stage, Lacks, Has, Meets, Waits, plan}
use Rattle.dh_import_laws.proofs.Grow.{StageTold, stage-told}
use Rattle.dh_laws.proofs.KeyOrder.{bool-case, none-some, some-equal, true_false}
use Rattle.dh_ports.specs.declared.worlds.Got.{Got}
use Rattle.dh_demand.specs.Results.{Row}
use Rattle.dh_record.specs.declared.kinds.Kind.TheVariants as kinds
use Rattle.dh_record.specs.declared.news.Noted.TheVariants as noteds
use Rattle.dh_record.specs.declared.news.Parsed.{Parsed}
use Rattle.dh_record.specs.declared.news.Parsed.TheVariants as parseds
use Rattle.dh_record.specs.declared.rows.recorded.Entrant.{Entrant}
use Rattle.dh_record.specs.declared.stage.reaches.Reach.TheVariants as reaches
use Rattle.dh_record.specs.Brought.{IsScanned}
use Rattle.dh_record.specs.Entering.{key_of_entrant, keys_in}
use Rattle.dh_record.specs.Reading.{IsReach}
use Rattle.dh_record.specs.Rows.{key_named, nobody, noted_by, parsed_by, rows_of}
use Rattle.dh_record.proofs.Reading.{number_names}
use Rattle.dh_watch_files.specs.Contents.{Tells, got_of}
use Rattle.dh_watch_laws.specs.Contents.{IsTold, Now}
use Rattle.dh_watch_laws.specs.Depending.{part_of}
use Rattle.dh_watch_laws.specs.Kept.{IsSound, Kept, keep_look, keep_text, known}
use Rattle.dh_watch_laws.specs.Running.{Runs, fetches, finishes, looks, stage_at}
use Rattle.dh_watch_laws.specs.Sweeping.{is_due}
use Rattle.dh_watch_laws.proofs.Forgetting.{plan-unknown}
use Rattle.dh_watch_laws.proofs.Holding.{look_kept, outcome_kept, text_kept}
use Rattle.dh_watch_rows.specs.KeptRows.{AreBehind, Decides}
use Rattle.dh_watch_runs.specs.Resolving.{AreMore, Finishes, GoesOn, IsWait, StaysOver, named}
use Rattle.dh_watch.specs.Sources.{HasFetched, HasMissed, IsSettled, LacksLook}

-- ---- what is left to do for a key

module _ (rows : List Row) (k : Key) where
  pub reach-due : (s : Stage) → IsReach rows k s (reaches.Due kinds.Finish) → is_due s ≡ true
  reach-due (Lacks (TextOf l)) h = absurd h
  reach-due (Lacks (LookOf d)) h = absurd h
  reach-due (Has i) h = refl
  reach-due (Meets j) h = refl
  reach-due (Waits y) h = absurd h

  pub reach-fetch : (s : Stage) → IsReach rows k s (reaches.Due kinds.Fetch) → s ≡ Lacks (TextOf k.loc)
  reach-fetch (Lacks (TextOf l)) h = ap (λ z. Lacks (TextOf z)) h
  reach-fetch (Lacks (LookOf d)) h = absurd h
  reach-fetch (Has i) h = absurd h
  reach-fetch (Meets j) h = absurd h
  reach-fetch (Waits y) h = absurd h

  pub reach-look : (s : Stage) → IsReach rows k s (reaches.Due kinds.Look) → (d : Digest) × (k.digest ≡ Some d) × (s ≡ Lacks (LookOf d))
  reach-look (Lacks (TextOf l)) h = absurd h
  reach-look (Lacks (LookOf d)) h = (d, h, refl)
  reach-look (Has i) h = absurd h
  reach-look (Meets j) h = absurd h
  reach-look (Waits y) h = absurd h

pub named-key : (es : List Entrant) (n : ℕ) → named (keys_in es) n ≡ key_named es n
named-key [] n = refl
named-key (e ∷ es) zero = refl
named-key (e ∷ es) (suc n) = named-key es n

pub key-count : (es : List Entrant) → length (keys_in es) ≡ length es
key-count es = length-map es key_of_entrant

pub reach-wait : (es : List Entrant) (k : Key) (s : Stage) (n : ℕ) → IsReach (rows_of es) k s (reaches.Wait n) → IsWait (keys_in es) s n
reach-wait es k (Lacks (TextOf l)) n h = absurd h
reach-wait es k (Lacks (LookOf d)) n h = absurd h
reach-wait es k (Has i) n h = absurd h
reach-wait es k (Meets j) n h = absurd h
reach-wait es k (Waits y) n h =
    let w = number_names es y n h in
    (omega (arith, w.0, key-count es), ap (λ z. Waits z) (sym (named-key es n ∙ w.1)))

pub behind-more : (old new : List Entrant) → AreBehind old new → AreMore (keys_in old) (keys_in new)
behind-more old new (more, e) = (keys_in more, ap keys_in e ∙ map-append key_of_entrant old more)

pub behind-name : (old new : List Entrant) (n : ℕ) → AreBehind old new → n < length old → key_named new n ≡ key_named old n
behind-name old new n (more, e) l = ap (λ z. key_named z n) e ∙ ap (λ (e : Entrant). e.key) (get_or_append_left old more nobody n l)

pub lacks-settled : (s : Stage) (p : Part) → s ≡ Lacks p → IsSettled s → ⊥
lacks-settled s p e h = subst IsSettled e h

-- ---- a part that was recorded is not lacking

lacks-plan : (s : Kept) (k : Key) (p : Part) → stage_at s k ≡ Lacks p → plan s.recorded k ≡ Unknown p
lacks-plan s k p e = subst (StageTold s.recorded (known s.outcomes) k) e (stage-told s.recorded (known s.outcomes) k)

pub lacks-text : (s : Kept) (k : Key) (l : Loc) → stage_at s k ≡ Lacks (TextOf l) → text_at s.recorded l ≡ None
lacks-text s k l e = (plan-unknown s.recorded k (TextOf l) (lacks-plan s k (TextOf l) e)).1

pub lacks-look : (s : Kept) (k : Key) (d : Digest) → stage_at s k ≡ Lacks (LookOf d) → look_at s.recorded d ≡ None
lacks-look s k d e = (plan-unknown s.recorded k (LookOf d) (lacks-plan s k (LookOf d) e)).1

abbrev loc_or : Loc → Option Part → Loc
loc_or a (Some (TextOf b)) = b
loc_or a _ = a

abbrev digest_or : Digest → Option Part → Digest
digest_or a (Some (LookOf b)) = b
digest_or a _ = a

text-look : {P : Type 0} {l : Loc} {d : Digest} → Some (TextOf l) ≡ Some (LookOf d) → P
text-look p = cc

pub settled-text : (s : Kept) (k : Key) (l : Loc) (t : Noted) → stage_at s k ≡ Lacks (TextOf l) → IsSettled (stage_at (keep_text s l t) k)
settled-text s k l t e = go (stage_at (keep_text s l t) k) refl
  where
    part : part_of k ≡ Some (TextOf l)
    part = (plan-unknown s.recorded k (TextOf l) (lacks-plan s k (TextOf l) e)).0

    there : text_at (keep_text s l t).recorded l ≡ Some t
    there = ap (λ b. if b then Some t else text_at s.recorded l) (locs_tell.itself l)

    go : (x : Stage) → stage_at (keep_text s l t) k ≡ x → IsSettled x
    go (Has i) q = tt
    go (Meets j) q = tt
    go (Waits y) q = tt
    go (Lacks (TextOf m)) q =
        let w = plan-unknown (keep_text s l t).recorded k (TextOf m) (lacks-plan (keep_text s l t) k (TextOf m) q) in
        let same : l ≡ m = ap (loc_or l) (sym part ∙ w.0) in
        none-some w.1 (subst (λ z. text_at (keep_text s l t).recorded z ≡ Some t) same there)
    go (Lacks (LookOf d)) q =
        let w = plan-unknown (keep_text s l t).recorded k (LookOf d) (lacks-plan (keep_text s l t) k (LookOf d) q) in
        text-look (sym part ∙ w.0)

pub settled-look : (s : Kept) (k : Key) (d : Digest) (x : Seen) → stage_at s k ≡ Lacks (LookOf d) → IsSettled (stage_at (keep_look s d x) k)
settled-look s k d x e = go (stage_at (keep_look s d x) k) refl
  where
    part : part_of k ≡ Some (LookOf d)
    part = (plan-unknown s.recorded k (LookOf d) (lacks-plan s k (LookOf d) e)).0

    there : look_at (keep_look s d x).recorded d ≡ Some x
    there = ap (λ b. if b then Some x else look_at s.recorded d) (digests_tell.itself d)

    go : (y : Stage) → stage_at (keep_look s d x) k ≡ y → IsSettled y
    go (Has i) q = tt
    go (Meets j) q = tt
    go (Waits y) q = tt
    go (Lacks (TextOf m)) q =
        let w = plan-unknown (keep_look s d x).recorded k (TextOf m) (lacks-plan (keep_look s d x) k (TextOf m) q) in
        text-look (sym w.0 ∙ part)
    go (Lacks (LookOf c)) q =
        let w = plan-unknown (keep_look s d x).recorded k (LookOf c) (lacks-plan (keep_look s d x) k (LookOf c) q) in
        let same : d ≡ c = ap (digest_or d) (sym part ∙ w.0) in
        none-some w.1 (subst (λ z. look_at (keep_look s d x).recorded z ≡ Some x) same there)

-- ---- what is recorded is told

told-of : (l : Loc) (b : Option (List ℕ)) (scan : Option Parsed) → IsScanned l (noteds.Got (got_of b)) scan → IsTold b (noted_by (noteds.Got (got_of b)) (parsed_by scan))
told-of l None scan h = refl
told-of l (Some bytes) (Some (parseds.Good e ks)) h = (Ok (term e), h.0, refl)
told-of l (Some bytes) (Some (parseds.Bad f)) h = (Err f, h, refl)
told-of l (Some bytes) None h = absurd h

pub over-text : (told : Option Now) (s : Kept) (l : Loc) (got : Got) (scan : Option Parsed) → Tells told l got → IsScanned l (noteds.Got got) scan
    → StaysOver told s (keep_text s l (noted_by (noteds.Got got) (parsed_by scan)))
over-text told s l got scan tells h now e o = record { texts = λ x t q. go x t (bool-case (loc_eq l x)) q; looks = o.looks }
  where
    got-is : got ≡ got_of (lookup loc_eq now l)
    got-is = subst (λ z. Tells z l got) e tells

    here : IsTold (lookup loc_eq now l) (noted_by (noteds.Got got) (parsed_by scan))
    here =
        subst (λ g. IsTold (lookup loc_eq now l) (noted_by (noteds.Got g) (parsed_by scan))) (sym got-is)
        (told-of l (lookup loc_eq now l) scan (subst (λ g. IsScanned l (noteds.Got g) scan) got-is h))

    go : (x : Loc) (t : Noted) → (loc_eq l x ≡ true) ⊎ (loc_eq l x ≡ false)
        → (if loc_eq l x then Some (noted_by (noteds.Got got) (parsed_by scan)) else text_at s.recorded x) ≡ Some t → IsTold (lookup loc_eq now x) t
    go x t (inl y) q =
        subst (IsTold (lookup loc_eq now x)) (some-equal (sym (ap (λ b. if b then Some (noted_by (noteds.Got got) (parsed_by scan)) else text_at s.recorded x) y) ∙ q))
        (subst (λ z. IsTold (lookup loc_eq now z) (noted_by (noteds.Got got) (parsed_by scan))) (locs_tell.equal l x y) here)
    go x t (inr f) q = o.texts x t (sym (ap (λ b. if b then Some (noted_by (noteds.Got got) (parsed_by scan)) else text_at s.recorded x) f) ∙ q)

pub over-look : (told : Option Now) (s : Kept) (d : Digest) → StaysOver told s (keep_look s d found.Miss)
over-look told s d now e o = record { texts = o.texts; looks = λ x t q. go x t (bool-case (digest_eq d x)) q }
  where
    go : (x : Digest) (t : Seen) → (digest_eq d x ≡ true) ⊎ (digest_eq d x ≡ false) → (if digest_eq d x then Some found.Miss else look_at s.recorded x) ≡ Some t → t ≡ found.Miss
    go x t (inl y) q = some-equal (sym q ∙ ap (λ b. if b then Some found.Miss else look_at s.recorded x) y)
    go x t (inr f) q = o.looks x t (sym (ap (λ b. if b then Some found.Miss else look_at s.recorded x) f) ∙ q)

-- ---- the steps

module _ (s s' : Kept) (k : Key) where
  pub fetched-on : (l : Loc) → stage_at s k ≡ Lacks (TextOf l) → HasFetched s l s' → GoesOn s s' k
  fetched-on l e (t, q) old root xs run = subst (λ z. Runs old root z (k ∷ xs)) (sym q) (fetches run e t)

  pub fetched-sound : (l : Loc) → stage_at s k ≡ Lacks (TextOf l) → HasFetched s l s' → IsSound s → IsSound s'
  fetched-sound l e (t, q) h = subst IsSound (sym q) (text_kept s l t h (lacks-text s k l e))

  pub fetched-settled : (l : Loc) → stage_at s k ≡ Lacks (TextOf l) → HasFetched s l s' → IsSettled (stage_at s' k)
  fetched-settled l e (t, q) = subst (λ z. IsSettled (stage_at z k)) (sym q) (settled-text s k l t e)

  pub missed-on : LacksLook s k → HasMissed s k s' → GoesOn s s' k
  missed-on (d, p, e) (c, r, q) old root xs run =
      let same : d ≡ c = some-equal (sym p ∙ r) in
      subst (λ z. Runs old root z (k ∷ xs)) (sym q) (looks run (subst (λ z. look_at s.recorded z ≡ None) same (lacks-look s k d e)) found.Miss)

  pub missed-sound : LacksLook s k → HasMissed s k s' → IsSound s → IsSound s'
  missed-sound (d, p, e) (c, r, q) h =
      let same : d ≡ c = some-equal (sym p ∙ r) in
      subst IsSound (sym q) (look_kept s c found.Miss h (subst (λ z. look_at s.recorded z ≡ None) same (lacks-look s k d e)))

  pub missed-settled : LacksLook s k → HasMissed s k s' → IsSettled (stage_at s' k)
  missed-settled (d, p, e) (c, r, q) =
      let same : d ≡ c = some-equal (sym p ∙ r) in
      subst (λ z. IsSettled (stage_at z k)) (sym q) (settled-look s k c found.Miss (subst (λ z. stage_at s k ≡ Lacks (LookOf z)) same e))

  pub missed-over : (told : Option Now) → HasMissed s k s' → StaysOver told s s'
  missed-over told (c, r, q) = subst (StaysOver told s) (sym q) (over-look told s c)

  pub same-on : s' ≡ s → GoesOn s s' k
  same-on e old root xs run = subst (λ z. Runs old root z (k ∷ xs)) (sym e) run

  pub same-sound : s' ≡ s → IsSound s → IsSound s'
  same-sound e h = subst IsSound (sym e) h

  pub same-over : (told : Option Now) → s' ≡ s → StaysOver told s s'
  same-over told e = subst (StaysOver told s) (sym e) (λ now t o. o)

  -- ---- an outcome

  pub decided-finishes : Decides s k s' → Finishes s s' k
  decided-finishes d old root xs run = subst (λ z. Runs old root z xs) (sym d.kept) (finishes run d.limit d.outcome d.is_last)

  pub decided-sound : Decides s k s' → IsSound s → known s.outcomes k ≡ None → IsSound s'
  decided-sound d h e = subst IsSound (sym d.kept) (outcome_kept s k d.limit d.outcome h e d.is_last)

  pub decided-one : Decides s k s' → length s'.outcomes ≡ length s.outcomes + 1
  decided-one d = omega (arith, ap (λ z. length z.outcomes) d.kept)

  limit-texts : (r : Record) (w : Option Why) → (with_limit r k w).texts ≡ r.texts
  limit-texts r None = refl
  limit-texts r (Some w) = refl

  limit-looks : (r : Record) (w : Option Why) → (with_limit r k w).looks ≡ r.looks
  limit-looks r None = refl
  limit-looks r (Some w) = refl

  pub decided-texts : Decides s k s' → s'.recorded.texts ≡ s.recorded.texts
  decided-texts d = ap (λ z. z.recorded.texts) d.kept ∙ limit-texts s.recorded d.limit

  decided-looks : Decides s k s' → s'.recorded.looks ≡ s.recorded.looks
  decided-looks d = ap (λ z. z.recorded.looks) d.kept ∙ limit-looks s.recorded d.limit

  pub decided-over : (told : Option Now) → Decides s k s' → StaysOver told s s'
  decided-over told d now e o = record {
    texts = λ l t q. o.texts l t (ap (λ z. lookup loc_eq z l) (sym (decided-texts d)) ∙ q);
    looks = λ x t q. o.looks x t (ap (λ z. lookup digest_eq z x) (sym (decided-looks d)) ∙ q);
  }

pub due-is : (s : Stage) → is_due s ≡ true → IsDue s
due-is (Lacks p) h = true_false h refl
due-is (Has i) h = tt
due-is (Meets j) h = tt
due-is (Waits y) h = true_false h refl
