-- What rows keep, and what is always true of them.
use Rattle.std.specs.Prelude.{◌≡◌, ◌<◌, ◌≤◌, ◌^◌, ◌++◌, ℕ, List, length, map, reverse, All, Option, Some}
use Rattle.dh_syntax.specs.declared.locations.Digest.{Digest}
use Rattle.dh_syntax.specs.declared.locations.Key.{Key}
use Rattle.dh_syntax.specs.declared.locations.Loc.{Loc}
use Rattle.dh_syntax.specs.Expressions.SameTree.{digest_eq, loc_eq}
use Rattle.dh_imports.specs.declared.outcomes.Why.{Why}
use Rattle.dh_imports.specs.Outcomes.{Outcome}
use Rattle.dh_imports.specs.Records as found
use Rattle.dh_imports.specs.Records.{IsParsed, Noted, Seen, lookup}
use Rattle.dh_demand.specs.Results.{ask_of}
use Rattle.dh_record.specs.declared.rows.recorded.Entrant.{Entrant}
use Rattle.dh_record.specs.declared.rows.recorded.Look.{Look}
use Rattle.dh_record.specs.declared.rows.recorded.Text.{Text}
use Rattle.dh_record.specs.Due.{IsValued}
use Rattle.dh_record.specs.Entering.{AreDistinct, IsListed, keys_in}
use Rattle.dh_record.specs.Reading.{IsRead}
use Rattle.dh_record.specs.Rows.{rows_of, text_of, look_of, limit_of, outcome_of_number}
use Rattle.dh_record.specs.Sorting.{IsOrder, rank_of_look, rank_of_text}
use Rattle.dh_watch_laws.specs.Kept.{Kept, IsLast, keep_outcome, known}
use Rattle.dh_watch_rows.specs.declared.rows.Rows.{Rows}

-- the texts, the looks and the outcomes, the latest first
abbrev pub kept_by : List Entrant → List Text → List Look → List ℕ → List ℕ → Kept
kept_by keys texts looks decided limited = record {
  recorded = record {
    texts = reverse (map text_of texts);
    looks = reverse (map look_of looks);
    limits = reverse (map (limit_of keys) limited);
  };
  outcomes = reverse (map (outcome_of_number keys) decided);
}

-- the numbers are of keys
abbrev pub AreNamed : List Entrant → List ℕ → Type 0
AreNamed keys ns = All (λ (n : ℕ). n < length keys) ns

-- The keys are numbered, each once, and the edges of the texts have their numbers; what is known of the keys is what was found; each text
-- is recorded with what it parses to, and each look is a miss.
pub record AreGood (keys : List Entrant) (texts : List Text) (looks : List Look) (text_order look_order decided limited : List ℕ) : Type 0 where
  pub few : length keys ≤ 2 ^ 32
  pub distinct : AreDistinct (keys_in keys)
  pub listed : All (IsListed (rows_of keys)) keys
  pub read : All (IsRead (rows_of keys)) texts
  pub valued : All IsValued keys
  pub parsed : (l : Loc) (x : Noted) → lookup loc_eq (reverse (map text_of texts)) l ≡ Some x → IsParsed x
  pub misses : (d : Digest) (s : Seen) → lookup digest_eq (reverse (map look_of looks)) d ≡ Some s → s ≡ found.Miss
  pub decided_named : AreNamed keys decided
  pub limited_named : AreNamed keys limited
  pub asks : known (reverse (map (outcome_of_number keys) decided)) ≡ ask_of (rows_of keys)
  pub texts_in_order : IsOrder (map rank_of_text texts) text_order
  pub looks_in_order : IsOrder (map rank_of_look looks) look_order

-- what these rows keep
abbrev pub kept_of : Rows → Kept
kept_of t = kept_by t.keys t.texts.items t.looks.items t.found.items t.limited.items

-- what is always true of rows: keys are numbered once, and texts, looks and outcomes stand in order
abbrev pub IsGood : Rows → Type 0
IsGood t = AreGood t.keys t.texts.items t.looks.items t.text_order.numbers.items t.look_order.numbers.items t.found.items t.limited.items

-- keys have more behind them
abbrev pub AreBehind : List Entrant → List Entrant → Type 0
AreBehind old new = (more : List Entrant) × (new ≡ old ++ more)

-- the key has come to its outcome
pub record Decides (s : Kept) (k : Key) (s' : Kept) : Type 0 where
  pub limit : Option Why
  pub outcome : Outcome
  pub is_last : IsLast s k limit outcome
  pub kept : s' ≡ keep_outcome s k limit outcome
