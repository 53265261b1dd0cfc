-- What rows say of a key, against the stage that it has reached.
use Rattle.std.specs.Prelude.{◌≡◌, ◌<◌, ◌⊎◌, ℕ, true, false, nat_eq, List, length, Option, Some, None, is_some, Result, Ok, Err, IfOk, refl}
use Rattle.std.specs.Option.{option_map}
use Rattle.std.proofs.Common.{ap, sym, ◌∙◌, subst, inl, inr, arith}
use Rattle.dh_syntax.specs.declared.faults.ParseFault.{ParseFault}
use Rattle.dh_syntax.specs.declared.locations.Key.{Key}
use Rattle.dh_syntax.specs.Expressions.Spellable.{IsSpellable}
use Rattle.dh_syntax.specs.Expressions.Tree.{Term}
use Rattle.dh_syntax.specs.Imports.Keys.{key_eq}
use Rattle.dh_syntax.specs.Text.Spelling.{ParsesTo}
use Rattle.dh_imports.specs.declared.outcomes.Outcome as program
use Rattle.dh_imports.specs.Outcomes.{plain}
use Rattle.dh_imports.specs.Records as found
use Rattle.dh_imports.specs.Records.{IsParsed}
use Rattle.dh_imports.specs.Resolver.{of_plan, stage}
use Rattle.dh_laws.proofs.KeyOrder.{bool-case, some-equal, true_false, key_eq-true, key_eq-itself}
use Rattle.dh_demand.specs.declared.headways.Headway.{Headway}
use Rattle.dh_demand.specs.Results.{ask_of, number_of, outcome_at}
use Rattle.dh_record.specs.declared.rows.recorded.Entrant.{Entrant}
use Rattle.dh_record.specs.Due.{AreSpelled, IsSpelled}
use Rattle.dh_record.specs.Entering.{AreDistinct, keys_in}
use Rattle.dh_record.specs.Reading.{record_by}
use Rattle.dh_record.specs.Rows.{key_named, rows_of}
use Rattle.dh_record.specs.Ways.{IsWay}
use Rattle.dh_record.proofs.Decided.{number_itself}
use Rattle.dh_record.proofs.Reading.{asked_number, plan_limits}
use Rattle.dh_record.proofs.Ways.{way-same}
use Rattle.dh_watch_laws.specs.Kept.{known}
use Rattle.dh_watch_laws.specs.Running.{stage_at}
use Rattle.dh_watch_rows.specs.declared.rows.Rows.{Rows}
use Rattle.dh_watch_rows.specs.KeptRows.{IsGood, kept_of}

-- the stage of a key needs no limits
pub stage_rows : (t : Rows) → IsGood t → (k : Key) → stage_at (kept_of t) k ≡ stage (record_by t.texts.items t.looks.items) (ask_of (rows_of t.keys)) k
stage_rows t g k = λ i. of_plan (g.asks i) k (plan_limits (kept_of t).recorded k i)

-- how far a walk comes needs none either
pub way_rows : (t : Rows) → IsGood t → (k : Key) (w : Headway) → IsWay (kept_of t).recorded (known (kept_of t).outcomes) k w → IsWay (record_by t.texts.items t.looks.items) (ask_of (rows_of t.keys)) k w
way_rows t g k w h =
    subst (λ a. IsWay (record_by t.texts.items t.looks.items) a k w) g.asks
    (way-same (kept_of t).recorded (record_by t.texts.items t.looks.items) (known (kept_of t).outcomes) k (sym (plan_limits (kept_of t).recorded k)) w h)

pub rows_way : (t : Rows) → IsGood t → (k : Key) (w : Headway) → IsWay (record_by t.texts.items t.looks.items) (ask_of (rows_of t.keys)) k w → IsWay (kept_of t).recorded (known (kept_of t).outcomes) k w
rows_way t g k w h =
    way-same (record_by t.texts.items t.looks.items) (kept_of t).recorded (known (kept_of t).outcomes) k (plan_limits (kept_of t).recorded k) w
    (subst (λ a. IsWay (record_by t.texts.items t.looks.items) a k w) (sym g.asks) h)

-- ---- what was recorded can be spelled

parsed_spelled : (bytes : List ℕ) (x : Result Term ParseFault) → ParsesTo bytes x → IfOk x IsSpellable
parsed_spelled bytes (Ok e) h = h.spellable
parsed_spelled bytes (Err f) h = tt

noted_spelled : (x : found.Noted) → IsParsed x → IsSpelled x
noted_spelled (found.Found bytes allow parsed) h = parsed_spelled bytes parsed h
noted_spelled found.Absent h = tt
noted_spelled (found.Broken n) h = tt
noted_spelled found.Failed h = tt

pub texts_spelled : (t : Rows) → IsGood t → AreSpelled t.texts.items
texts_spelled t g l x h = noted_spelled x (g.parsed l x h)

-- ---- keys by their numbers

pub some_mapped : (o : Option program.Outcome) → is_some (option_map plain o) ≡ is_some o
some_mapped None = refl
some_mapped (Some o) = refl

-- a key is known where its row has an outcome
pub known_row : (t : Rows) → IsGood t → (n : ℕ) (o : Option program.Outcome) → n < length t.keys → outcome_at (rows_of t.keys) n ≡ Some o
    → is_some (known (kept_of t).outcomes (key_named t.keys n)) ≡ is_some o
known_row t g n o l e =
    ap is_some (λ i. g.asks i (key_named t.keys n))
    ∙ ap is_some (sym (asked_number (rows_of t.keys) (key_named t.keys n) n o (number_itself t.keys n g.distinct l) e)) ∙ some_mapped o

-- two numbers are of one key only where they are one
same_number : (es : List Entrant) → AreDistinct (keys_in es) → (j k : ℕ) → j < length es → k < length es → key_eq (key_named es j) (key_named es k) ≡ true → j ≡ k
same_number es d j k l m h =
    some-equal (sym (number_itself es j d l) ∙ ap (λ z. number_of (rows_of es) z) (key_eq-true (key_named es j) (key_named es k) h) ∙ number_itself es k d m)

same_key : (es : List Entrant) (j k : ℕ) → j ≡ k → key_eq (key_named es j) (key_named es k) ≡ true
same_key es j k e = subst (λ z. key_eq (key_named es j) (key_named es z) ≡ true) e (key_eq-itself (key_named es j))

eq-true : (j k : ℕ) → j ≡ k → nat_eq j k ≡ true
eq-true j k e = grind arith

eq-false : (j k : ℕ) → ¬ (j ≡ k) → nat_eq j k ≡ false
eq-false j k n = grind arith

pub same_numbers : (es : List Entrant) → AreDistinct (keys_in es) → (j k : ℕ) → j < length es → k < length es → nat_eq j k ≡ key_eq (key_named es j) (key_named es k)
same_numbers es d j k l m = go (bool-case (key_eq (key_named es j) (key_named es k)))
  where
    go : (key_eq (key_named es j) (key_named es k) ≡ true) ⊎ (key_eq (key_named es j) (key_named es k) ≡ false) → nat_eq j k ≡ key_eq (key_named es j) (key_named es k)
    go (inl t) = eq-true j k (same_number es d j k l m t) ∙ sym t
    go (inr f) = eq-false j k (λ e. true_false (same_key es j k e) f) ∙ sym f
