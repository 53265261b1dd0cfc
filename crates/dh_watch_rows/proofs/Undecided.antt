-- A key loses its outcome: what stays of the other keys.
use Rattle.std.specs.Prelude.{◌≡◌, ◌≢◌, ◌⊎◌, ◌<◌, ℕ, zero, suc, true, false, if◌then◌else◌, List, [], ◌∷◌, length, All, Option, Some, None, Result, Ok, Err, slice_index_or, slice_set, refl}
use Rattle.std.proofs.Common.{ap, sym, ◌∙◌, subst, inl, inr}
use Rattle.std.proofs.lemmas.List.{get_or-set_same, get_or-set_other, length-set, length-map, set-set}
use Rattle.std.proofs.lemmas.List.Elements.{All-weaker, All-set, All-get_or}
use Rattle.std.proofs.Math.Seq.{map-set_same}
use Rattle.dh_syntax.specs.declared.faults.ParseFault.{ParseFault}
use Rattle.dh_syntax.specs.declared.locations.Key.{Key}
use Rattle.dh_syntax.specs.declared.locations.Loc.{Loc}
use Rattle.dh_syntax.specs.Expressions.Bridge.{term}
use Rattle.dh_syntax.specs.Expressions.Tree.{Term}
use Rattle.dh_syntax.specs.Imports.Keys.{bare, key_eq}
use Rattle.dh_imports.specs.declared.outcomes.Outcome as program
use Rattle.dh_imports.specs.declared.outcomes.Outcome.TheVariants as variants
use Rattle.dh_imports.specs.declared.outcomes.Why.TheVariants as whys
use Rattle.dh_imports.specs.Outcomes.{plain}
use Rattle.dh_imports.specs.Walk.{keys_of}
use Rattle.dh_laws.proofs.KeyOrder.{bool-case, key_eq-true}
use Rattle.dh_demand.specs.declared.scans.Edge.{Edge}
use Rattle.dh_demand.specs.declared.scans.Scan.{Scan}
use Rattle.dh_demand.specs.Results.{ask_of, number_of}
use Rattle.dh_demand.specs.Scans.{Begins, Fits}
use Rattle.dh_record.specs.declared.rows.recorded.Entrant.{Entrant}
use Rattle.dh_record.specs.declared.rows.recorded.Text.{Text}
use Rattle.dh_record.specs.Due.{IsValued}
use Rattle.dh_record.specs.Entering.{AreDistinct, IsListed, decided_at, key_of_entrant, keys_in, undecided_at}
use Rattle.dh_record.specs.Reading.{IsRead, IsScan}
use Rattle.dh_record.specs.Rows.{key_named, nobody, no_key, row_of_entrant, rows_of}
use Rattle.dh_record.proofs.Decided.{decided_asks, number_itself, numbers, outcome_stands}
use Rattle.dh_record.proofs.Reading.{asked_number}

-- ---- the same keys

-- the key of a number, by the keys alone
named-in : (es : List Entrant) (n : ℕ) → key_named es n ≡ slice_index_or (keys_in es) n no_key
named-in [] n = refl
named-in (e ∷ es) zero = refl
named-in (e ∷ es) (suc n) = named-in es n

pub same-names : (xs ys : List Entrant) → keys_in xs ≡ keys_in ys → (n : ℕ) → key_named xs n ≡ key_named ys n
same-names xs ys e n = named-in xs n ∙ ap (λ ks. slice_index_or ks n no_key) e ∙ sym (named-in ys n)

pub same-count : (xs ys : List Entrant) → keys_in xs ≡ keys_in ys → length xs ≡ length ys
same-count xs ys e = sym (length-map xs key_of_entrant) ∙ ap length e ∙ length-map ys key_of_entrant

-- what names keys by their numbers stays where each key has its number
module _ (xs ys : List Entrant) (same : (k : Key) → number_of (rows_of ys) k ≡ number_of (rows_of xs) k) (many : length ys ≡ length xs) where
  count : length (rows_of ys) ≡ length (rows_of xs)
  count = length-map ys row_of_entrant ∙ many ∙ sym (length-map xs row_of_entrant)

  begins-kept : (parent : Option Loc) (ks : List Key) (ds : List Edge) → Begins parent (rows_of xs) ks ds → Begins parent (rows_of ys) ks ds
  begins-kept parent [] ds b = tt
  begins-kept parent (k ∷ ks) [] b = absurd b
  begins-kept parent (k ∷ ks) (d ∷ ds) b = (record { numbered = same k ∙ (b.0).numbered; sane_is = (b.0).sane_is }, begins-kept parent ks ds b.1)

  fits-kept : (parent : Option Loc) (e : Term) (ds : List Edge) → Fits parent (rows_of xs) e ds → Fits parent (rows_of ys) e ds
  fits-kept parent e ds f = record {
    inside = subst (λ m. All (λ (d : Edge). d.key < m) ds) (sym count) f.inside;
    begins = begins-kept parent (keys_of parent e) ds f.begins;
  }

  pub read-kept : (t : Text) → IsRead (rows_of xs) t → IsRead (rows_of ys) t
  read-kept t r = go t.read r
    where
      go : (x : Option (Result Scan ParseFault)) → IsScan (rows_of xs) t.loc x → IsScan (rows_of ys) t.loc x
      go None h = tt
      go (Some (Ok s)) h = fits-kept (Some t.loc) (term s.expr) s.edges h
      go (Some (Err f)) h = tt

  pub listed-kept : (e : Entrant) → IsListed (rows_of xs) e → IsListed (rows_of ys) e
  listed-kept e i = record { text_is = i.text_is; bare_is = same (bare e.key) ∙ i.bare_is }

-- ---- a key without its outcome

-- what is known of a key with any outcome at all is known without it
abbrev pub any : program.Outcome
any = variants.Bad (record { at = None; why = whys.TooMany })

module _ (es : List Entrant) (n : ℕ) (l : n < length es) (d : AreDistinct (keys_in es)) where
  pub undecided-keys : keys_in (undecided_at es n) ≡ keys_in es
  undecided-keys = map-set_same key_of_entrant es n (record (slice_index_or es n nobody) { outcome = None }) nobody refl

  pub undecided-many : length (undecided_at es n) ≡ length es
  undecided-many = length-set es n (record (slice_index_or es n nobody) { outcome = None })

  inside : n < length (undecided_at es n)
  inside = subst (λ m. n < m) (sym undecided-many) l

  apart : AreDistinct (keys_in (undecided_at es n))
  apart = subst AreDistinct (sym undecided-keys) d

  twice : decided_at (undecided_at es n) n any ≡ decided_at es n any
  twice =
      ap (λ (e : Entrant). slice_set (undecided_at es n) n (record e { outcome = Some any; own = None })) (get_or-set_same es n (record (slice_index_or es n nobody) { outcome = None }) nobody l)
      ∙ set-set es n (record (slice_index_or es n nobody) { outcome = None }) (record (slice_index_or es n nobody) { outcome = Some any; own = None })

  pub undecided-numbers : (k : Key) → number_of (rows_of (undecided_at es n)) k ≡ number_of (rows_of es) k
  undecided-numbers k = sym (numbers (undecided_at es n) n any inside apart k) ∙ ap (λ xs. number_of (rows_of xs) k) twice ∙ numbers es n any l d k

  pub undecided-same : (m : ℕ) → m ≢ n → (slice_index_or (undecided_at es n) m nobody).outcome ≡ (slice_index_or es m nobody).outcome
  undecided-same m p = ap (λ (e : Entrant). e.outcome) (get_or-set_other es n m (record (slice_index_or es n nobody) { outcome = None }) nobody p)

  pub undecided-here : (slice_index_or (undecided_at es n) n nobody).outcome ≡ None
  undecided-here = ap (λ (e : Entrant). e.outcome) (get_or-set_same es n (record (slice_index_or es n nobody) { outcome = None }) nobody l)

  pub undecided-asks : (k : Key) → ask_of (rows_of (undecided_at es n)) k ≡ (if key_eq (key_named es n) k then None else ask_of (rows_of es) k)
  undecided-asks k = go (bool-case (key_eq (key_named es n) k))
    where
      go : (key_eq (key_named es n) k ≡ true) ⊎ (key_eq (key_named es n) k ≡ false) → ask_of (rows_of (undecided_at es n)) k ≡ (if key_eq (key_named es n) k then None else ask_of (rows_of es) k)
      go (inl t) =
          let number : number_of (rows_of (undecided_at es n)) k ≡ Some n
          = undecided-numbers k ∙ ap (number_of (rows_of es)) (sym (key_eq-true (key_named es n) k t)) ∙ number_itself es n d l in
          sym (asked_number (rows_of (undecided_at es n)) k n None number (outcome_stands (undecided_at es n) n inside ∙ ap (λ o. Some o) undecided-here))
          ∙ sym (ap (λ b. if b then None else ask_of (rows_of es) k) t)
      go (inr f) =
          sym
          (decided_asks (undecided_at es n) n any inside apart k
          ∙ ap (λ b. if b then Some (plain any) else ask_of (rows_of (undecided_at es n)) k) (ap (λ z. key_eq z k) (same-names (undecided_at es n) es undecided-keys n) ∙ f))
          ∙ ap (λ xs. ask_of (rows_of xs) k) twice ∙ decided_asks es n any l d k ∙ ap (λ b. if b then Some (plain any) else ask_of (rows_of es) k) f
          ∙ sym (ap (λ b. if b then None else ask_of (rows_of es) k) f)

  pub undecided-read : (ts : List Text) → All (IsRead (rows_of es)) ts → All (IsRead (rows_of (undecided_at es n))) ts
  undecided-read ts h = All-weaker (IsRead (rows_of es)) (IsRead (rows_of (undecided_at es n))) (read-kept es (undecided_at es n) undecided-numbers undecided-many) ts h

  pub undecided-listed : All (IsListed (rows_of es)) es → All (IsListed (rows_of (undecided_at es n))) (undecided_at es n)
  undecided-listed h =
      All-set (IsListed (rows_of (undecided_at es n))) es n (record (slice_index_or es n nobody) { outcome = None })
      (let i = listed-kept es (undecided_at es n) undecided-numbers undecided-many (slice_index_or es n nobody) (All-get_or (IsListed (rows_of es)) es n nobody l h) in
      record { text_is = i.text_is; bare_is = i.bare_is })
      (All-weaker (IsListed (rows_of es)) (IsListed (rows_of (undecided_at es n))) (listed-kept es (undecided_at es n) undecided-numbers undecided-many) es h)

  pub undecided-valued : All IsValued es → All IsValued (undecided_at es n)
  undecided-valued h = All-set IsValued es n (record (slice_index_or es n nobody) { outcome = None }) tt h
