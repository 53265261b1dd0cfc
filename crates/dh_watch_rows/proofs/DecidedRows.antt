-- A key gets its outcome.
use Rattle.std.specs.Prelude.{◌≡◌, ◌<◌, ◌≤◌, ◌^◌, ◌++◌, ℕ, Bool, true, false, if◌then◌else◌, List, [], ◌∷◌, length, map, reverse, All, Some, None, slice_index_or, refl}
use Rattle.std.proofs.Common.{ap, sym, ◌∙◌, subst}
use Rattle.std.proofs.lemmas.List.{length-set}
use Rattle.std.proofs.lemmas.List.Elements.{All-weaker, All-set, All-get_or, All-push}
use Rattle.dh_syntax.specs.declared.locations.Key.{Key}
use Rattle.dh_syntax.specs.Imports.Keys.{key_eq}
use Rattle.dh_imports.specs.declared.outcomes.Outcome as program
use Rattle.dh_imports.specs.declared.outcomes.Outcome.TheVariants as variants
use Rattle.dh_imports.specs.declared.outcomes.Why.{Why}
use Rattle.dh_imports.specs.LastStep as last
use Rattle.dh_imports.specs.LastStep.{own, last_step}
use Rattle.dh_imports.specs.Outcomes.{Outcome, Good, Bad, Loop, plain, of_blame}
use Rattle.dh_imports.specs.Records.{Record, limit_at, IsLimitOf}
use Rattle.dh_imports.specs.Resolver.{Stage, Lacks, Has, Meets, Waits, ended, unless_limit}
use Rattle.dh_demand.proofs.Visiting.{Blamed, fault, looped, blamed}
use Rattle.dh_demand.specs.Results.{ask_of}
use Rattle.dh_record.specs.declared.items.Item.{Item}
use Rattle.dh_record.specs.declared.rows.recorded.Entrant.{Entrant}
use Rattle.dh_record.specs.declared.rows.recorded.Look.{Look}
use Rattle.dh_record.specs.declared.rows.recorded.Text.{Text}
use Rattle.dh_record.specs.Brought.{limit_by}
use Rattle.dh_record.specs.Due.{IsItem, IsValued}
use Rattle.dh_record.specs.Entering.{AreDistinct, IsListed, decided_at}
use Rattle.dh_record.specs.Items as items
use Rattle.dh_record.specs.Items.{comes, stage_of_item}
use Rattle.dh_record.specs.Reading.{IsRead}
use Rattle.dh_record.specs.Rows.{nobody, rows_of, key_named, known as known_by, outcome_of_number, limit_of, why_of, text_of, look_of}
use Rattle.dh_record.specs.Values.{HasValue}
use Rattle.dh_record.proofs.Decided.{decided_asks, keys_same, listed_same, named_same, names, outcome_here, outcome_same, read_same}
use Rattle.dh_record.proofs.Latest.{latest}
use Rattle.dh_watch_laws.specs.Kept.{IsLast, IsSound, Kept, keep_outcome, known}
use Rattle.dh_watch_laws.specs.Running.{stage_at}
use Rattle.dh_watch_laws.proofs.Holding.{no-loop, unlimited}
use Rattle.dh_watch_rows.specs.KeptRows.{AreGood, AreNamed, kept_by}

module _ (keys : List Entrant) (texts : List Text) (looks' : List Look) (to lo decided limited : List ℕ) (g : AreGood keys texts looks' to lo decided limited)
    (n : ℕ) (o : program.Outcome) (l : n < length keys) (open_key : known (kept_by keys texts looks' decided limited).outcomes (key_named keys n) ≡ None) where
  abbrev after : List Entrant
  after = decided_at keys n o

  abbrev row : Entrant
  row = record (slice_index_or keys n nobody) { outcome = Some o; own = None }

  as_many : length (decided_at keys n o) ≡ length keys
  as_many = length-set keys n (record (slice_index_or keys n nobody) { outcome = Some o; own = None })

  outcomes_same : map (outcome_of_number (decided_at keys n o)) decided ≡ map (outcome_of_number keys) decided
  outcomes_same =
      named_same keys n o l g.distinct (outcome_of_number keys) (outcome_of_number (decided_at keys n o)) decided (λ m. refl)
      (λ m p. λ i. (names keys n o l g.distinct i m, known_by (outcome_same keys n o l g.distinct m p i)))
      open_key

  outcome_first : outcome_of_number (decided_at keys n o) n ≡ (key_named keys n, plain o)
  outcome_first = λ i. (names keys n o l g.distinct i n, known_by (outcome_here keys n o l g.distinct i))

  pub outcomes_after : reverse (map (outcome_of_number (decided_at keys n o)) (decided ++ n ∷ [])) ≡ (key_named keys n, plain o) ∷ reverse (map (outcome_of_number keys) decided)
  outcomes_after = latest (outcome_of_number (decided_at keys n o)) decided n ∙ λ i. outcome_first i ∷ reverse (outcomes_same i)

  asks_after : known (reverse (map (outcome_of_number (decided_at keys n o)) (decided ++ n ∷ []))) ≡ ask_of (rows_of (decided_at keys n o))
  asks_after =
      ap known outcomes_after ∙ λ i k.
      (ap (λ a. if key_eq (key_named keys n) k then Some (plain o) else a) (λ j. g.asks j k) ∙ sym (decided_asks keys n o l g.distinct k)) i

  named_after : (ns : List ℕ) → AreNamed keys ns → AreNamed (decided_at keys n o) ns
  named_after ns h = subst (λ m. All (λ (x : ℕ). x < m) ns) (sym as_many) h

  pub decided-good : (limits : List ℕ) → AreNamed keys limits → HasValue o → AreGood (decided_at keys n o) texts looks' to lo (decided ++ n ∷ []) limits
  decided-good limits h v = record {
    few = subst (λ m. m ≤ 2 ^ 32) (sym as_many) g.few;
    distinct = subst AreDistinct (sym (keys_same keys n o l g.distinct)) g.distinct;
    listed =
        All-set (IsListed (rows_of (decided_at keys n o))) keys n (record (slice_index_or keys n nobody) { outcome = Some o; own = None })
        (let i = listed_same keys n o l g.distinct (slice_index_or keys n nobody) (All-get_or (IsListed (rows_of keys)) keys n nobody l g.listed) in record { text_is = i.text_is; bare_is = i.bare_is })
        (All-weaker (IsListed (rows_of keys)) (IsListed (rows_of (decided_at keys n o))) (listed_same keys n o l g.distinct) keys g.listed);
    read = All-weaker (IsRead (rows_of keys)) (IsRead (rows_of (decided_at keys n o))) (read_same keys n o l g.distinct) texts g.read;
    valued = All-set IsValued keys n (record (slice_index_or keys n nobody) { outcome = Some o; own = None }) v g.valued;
    parsed = g.parsed;
    misses = g.misses;
    decided_named = named_after (decided ++ n ∷ []) (All-push (λ (x : ℕ). x < length keys) decided n g.decided_named l);
    limited_named = named_after limits h;
    asks = asks_after;
    texts_in_order = g.texts_in_order;
    looks_in_order = g.looks_in_order;
  }

  -- ---- what is then kept

  module _ (sound : IsSound (kept_by keys texts looks' decided limited)) where
    abbrev s : Kept
    s = kept_by keys texts looks' decided limited

    no_limit : limit_at (kept_by keys texts looks' decided limited).recorded (key_named keys n) ≡ None
    no_limit = unlimited (kept_by keys texts looks' decided limited) sound (key_named keys n) open_key

    limits_same : map (limit_of (decided_at keys n o)) limited ≡ map (limit_of keys) limited
    limits_same =
        named_same keys n o l g.distinct (limit_of keys) (limit_of (decided_at keys n o)) limited (λ m. refl)
        (λ m p. λ i. (names keys n o l g.distinct i m, why_of (outcome_same keys n o l g.distinct m p i)))
        no_limit

    pub decided-kept : (b : Bool) (limits : List ℕ) → limits ≡ (if b then limited ++ n ∷ [] else limited)
        → kept_by (decided_at keys n o) texts looks' (decided ++ n ∷ []) limits ≡ keep_outcome (kept_by keys texts looks' decided limited) (key_named keys n) (limit_by b o) (plain o)
    decided-kept true limits e =
        let all : reverse (map (limit_of (decided_at keys n o)) limits) ≡ (key_named keys n, why_of (Some o)) ∷ reverse (map (limit_of keys) limited) =
        ap (λ z. reverse (map (limit_of (decided_at keys n o)) z)) e ∙ latest (limit_of (decided_at keys n o)) limited n
        ∙ λ i. (names keys n o l g.distinct i n, why_of (outcome_here keys n o l g.distinct i)) ∷ reverse (limits_same i) in
        λ i. record { recorded = record { texts = reverse (map text_of texts); looks = reverse (map look_of looks'); limits = all i }; outcomes = outcomes_after i }
    decided-kept false limits e =
        let all : reverse (map (limit_of (decided_at keys n o)) limits) ≡ reverse (map (limit_of keys) limited) =
        ap (λ z. reverse (map (limit_of (decided_at keys n o)) z)) e ∙ ap reverse limits_same in
        λ i. record { recorded = record { texts = reverse (map text_of texts); looks = reverse (map look_of looks'); limits = all i }; outcomes = outcomes_after i }

-- ---- what came of a key

-- where no limit is recorded, the end of a key is what its last step gives
ended_comes : (r : Record) (n : ℕ) (k : Key) (x : Stage) → limit_at r k ≡ None → ended r n k x ≡ comes n k x
ended_comes r n k (Has (last.Code e allow)) h = ap (λ w. unless_limit k w (last_step n k (last.Code e allow))) h
ended_comes r n k (Has (last.Text bytes allow)) h = refl
ended_comes r n k (Has (last.Location l)) h = refl
ended_comes r n k (Has (last.Compare v o)) h = refl
ended_comes r n k (Has (last.Entry e)) h = refl
ended_comes r n k (Has (last.Fault b)) h = refl
ended_comes r n k (Meets j) h = refl
ended_comes r n k (Lacks p) h = refl
ended_comes r n k (Waits y) h = refl

-- why an outcome is a fault of its own key
abbrev own_why : Outcome → Why → Why
own_why (Bad b) d = b.why
own_why (Good v o) d = d
own_why (Loop j) d = d

abbrev is_bad : Outcome → Bool
is_bad (Bad b) = true
is_bad (Good v o) = false
is_bad (Loop j) = false

limit_why : (o : program.Outcome) (k : Key) (w : Why) → plain o ≡ own k w → why_of (Some o) ≡ w
limit_why (variants.Good v x) k w h = let q : false ≡ true = ap is_bad h in cc
limit_why (variants.Bad b) k w h = go (of_blame b.at b.why) (blamed b.at b.why) h
  where
    go : (o : Outcome) → Blamed (record { at = b.at; why = b.why }) o → o ≡ own k w → b.why ≡ w
    go _ fault p = ap (λ o. own_why o w) p
    go _ (looped q) p = let r : false ≡ true = ap is_bad p in cc

pub is_last : (s : Kept) (k : Key) (i : Item) (o : program.Outcome) (limited : Bool) → IsSound s → known s.outcomes k ≡ None → IsItem k (stage_at s k) i
    → items.IsLast i o limited → IsLast s k (limit_by limited o) (plain o)
is_last s k i o false h e item (n, p) =
    let came : ended s.recorded n k (stage_at s k) ≡ Some (plain o)
    = ap (ended s.recorded n k) item.stage_is ∙ ended_comes s.recorded n k (stage_of_item i) (unlimited s h k e) ∙ ap (λ x. comes n x (stage_of_item i)) (sym item.key_is) ∙ p in
    (no-loop s h n k (plain o) came, (n, came))
is_last s k i o true h e item (code, allow, w, is, licensed, p) =
    let q = limit_why o i.key w p in
    (code, allow, item.stage_is ∙ is, subst (λ x. IsLimitOf code x) (sym q) licensed, p ∙ ap (λ x. own x w) item.key_is ∙ ap (own k) (sym q))

-- the limited keys with one more, or not
pub limits-named : (keys : List Entrant) (limited : List ℕ) (n : ℕ) (b : Bool) → AreNamed keys limited → n < length keys → AreNamed keys (if b then limited ++ n ∷ [] else limited)
limits-named keys limited n true h l = All-push (λ (x : ℕ). x < length keys) limited n h l
limits-named keys limited n false h l = h
