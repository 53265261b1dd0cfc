-- A key gets its outcome: what stays of the other keys.
use Rattle.std.specs.Prelude.{◌≡◌, ◌≢◌, ◌<◌, ℕ, zero, suc, Bool, true, false, ◌||◌, if◌then◌else◌, List, ◌∷◌, ◌++◌, length, map, reverse, All, Option, Some, None, Result, Ok, Err, slice_index_or, slice_set, refl, []}
use Rattle.std.specs.Option.{option_map}
use Rattle.std.proofs.Common.{ap, sym, ◌∙◌, subst, arith, inl, inr}
use Rattle.std.proofs.lemmas.Bool.Decides.{eqb_tells}
use Rattle.std.proofs.lemmas.List.{get_or-set_same, get_or-set_other, length-set, length-map}
use Rattle.std.proofs.Math.Seq.{map-set_same}
use Rattle.dh_syntax.specs.declared.faults.ParseFault.{ParseFault}
use Rattle.dh_syntax.specs.declared.locations.Key.{Key}
use Rattle.dh_syntax.specs.declared.locations.Loc.{Loc}
use Rattle.dh_imports.specs.declared.outcomes.Outcome as program
use Rattle.dh_syntax.specs.Expressions.Bridge.{term}
use Rattle.dh_syntax.specs.Expressions.Tree.{Term}
use Rattle.dh_syntax.specs.Imports.Keys.{bare, key_eq}
use Rattle.dh_imports.specs.Outcomes.{Outcome, plain}
use Rattle.dh_imports.specs.Records.{lookup}
use Rattle.dh_imports.specs.Resolver.{is_in}
use Rattle.dh_imports.specs.Walk.{keys_of}
use Rattle.dh_laws.proofs.KeyOrder.{true_false, none-some, some-equal, key_eq-true, key_eq-itself}
use Rattle.dh_demand.specs.declared.scans.Edge.{Edge}
use Rattle.dh_demand.specs.declared.scans.Scan.{Scan}
use Rattle.dh_demand.specs.Results.{number_of, outcome_at, ask_of}
use Rattle.dh_demand.specs.Scans.{Begins, Fits}
use Rattle.dh_demand.proofs.Numbers.{stands}
use Rattle.dh_record.specs.declared.rows.recorded.Entrant.{Entrant}
use Rattle.dh_record.specs.declared.rows.recorded.Text.{Text}
use Rattle.dh_record.specs.Entering.{AreDistinct, key_of_entrant, keys_in, IsListed, decided_at}
use Rattle.dh_record.specs.Reading.{IsScan, IsRead}
use Rattle.dh_record.specs.Rows.{nobody, rows_of, row_of_entrant, key_named, known}
use Rattle.dh_record.proofs.Latest.{reverse-cons}

-- ---- the number of a key in a list without repetition

named_in : (es : List Entrant) (n : ℕ) → n < length es → is_in (key_named es n) (keys_in es) ≡ true
named_in [] n l = absurd (omega arith)
named_in (e ∷ es) zero l = ap (λ b. b || is_in e.key (keys_in es)) (key_eq-itself e.key)
named_in (e ∷ es) (suc n) l = or_true (key_eq e.key (key_named es n)) (is_in (key_named es n) (keys_in es)) (named_in es n (omega arith))
  where
    or_true : (a b : Bool) → b ≡ true → (a || b) ≡ true
    or_true true b h = refl
    or_true false b h = h

pub number_itself : (es : List Entrant) (n : ℕ) → AreDistinct (keys_in es) → n < length es → number_of (rows_of es) (key_named es n) ≡ Some n
number_itself [] n d l = absurd (omega arith)
number_itself (e ∷ es) zero d l = ap (λ b. if b then Some 0 else option_map suc (number_of (rows_of es) e.key)) (key_eq-itself e.key)
number_itself (e ∷ es) (suc n) d l = go (key_eq e.key (key_named es n)) refl (number_itself es n d.1 (omega arith)) (named_in es n (omega arith))
  where
    go : (b : Bool) → key_eq e.key (key_named es n) ≡ b → number_of (rows_of es) (key_named es n) ≡ Some n → is_in (key_named es n) (keys_in es) ≡ true → (if b then Some 0 else option_map suc (number_of (rows_of es) (key_named es n))) ≡ Some (suc n)
    go true p q m = true_false (subst (λ k. is_in k (keys_in es) ≡ true) (sym (key_eq-true e.key (key_named es n) p)) m) d.0
    go false p q m = ap (option_map suc) q

-- the place of a key in a list
place : List Key → Key → Option ℕ
place [] k = None
place (j ∷ js) k = if key_eq j k then Some 0 else option_map suc (place js k)

placed : (es : List Entrant) (k : Key) → place (keys_in es) k ≡ number_of (rows_of es) k
unfolding place
placed [] k = refl
placed (e ∷ es) k = ap (λ o. if key_eq e.key k then Some 0 else option_map suc o) (placed es k)

-- ---- what is asked of the keys

ask_set : (es : List Entrant) (n : ℕ) (e : Entrant) (k : Key) → n < length es → number_of (rows_of es) (key_named es n) ≡ Some n → e.key ≡ key_named es n
    → ask_of (rows_of (slice_set es n e)) k ≡ (if key_eq (key_named es n) k then option_map plain e.outcome else ask_of (rows_of es) k)
ask_set [] n e k l h p = absurd (omega arith)
ask_set (x ∷ xs) zero e k l h p =
    ap (λ j. if key_eq j k then option_map plain e.outcome else ask_of (rows_of xs) k) p ∙ twice (key_eq x.key k) (option_map plain e.outcome) (option_map plain x.outcome) (ask_of (rows_of xs) k)
  where
    twice : (b : Bool) (u v w : Option Outcome) → (if b then u else w) ≡ (if b then u else (if b then v else w))
    twice true u v w = refl
    twice false u v w = refl
ask_set (x ∷ xs) (suc n) e k l h p =
    go (key_eq x.key (key_named xs n)) refl (number_of (rows_of xs) (key_named xs n)) refl h (λ q. ask_set xs n e k (omega arith) q p)
  where
    swapped : (a b : Bool) → key_eq x.key k ≡ a → key_eq (key_named xs n) k ≡ b → key_eq x.key (key_named xs n) ≡ false → (u v w : Option Outcome)
        → (if a then u else (if b then v else w)) ≡ (if b then v else (if a then u else w))
    swapped true true q r f u v w = true_false (subst (λ j. key_eq x.key j ≡ true) (key_eq-true x.key k q ∙ sym (key_eq-true (key_named xs n) k r)) (key_eq-itself x.key)) f
    swapped true false q r f u v w = refl
    swapped false true q r f u v w = refl
    swapped false false q r f u v w = refl

    go : (b : Bool) → key_eq x.key (key_named xs n) ≡ b → (o : Option ℕ) → number_of (rows_of xs) (key_named xs n) ≡ o → (if b then Some 0 else option_map suc o) ≡ Some (suc n)
        → (number_of (rows_of xs) (key_named xs n) ≡ Some n → ask_of (rows_of (slice_set xs n e)) k ≡ (if key_eq (key_named xs n) k then option_map plain e.outcome else ask_of (rows_of xs) k))
        → (if key_eq x.key k then option_map plain x.outcome else ask_of (rows_of (slice_set xs n e)) k) ≡ (if key_eq (key_named xs n) k then option_map plain e.outcome else (if key_eq x.key k then option_map plain x.outcome else ask_of (rows_of xs) k))
    go true f o q r i = (let z : 0 ≡ suc n = some-equal r in absurd (omega arith))
    go false f None q r i = none-some refl r
    go false f (Some m) q r i =
        let same : suc m ≡ suc n = some-equal r in
        let m_is : m ≡ n = omega arith in
        ap (λ a. if key_eq x.key k then option_map plain x.outcome else a) (i (q ∙ ap Some m_is))
        ∙ swapped (key_eq x.key k) (key_eq (key_named xs n) k) refl refl f (option_map plain x.outcome) (option_map plain e.outcome) (ask_of (rows_of xs) k)

-- ---- names that are not in a list

first_none : {B : Type 0} (b : Bool) (v : B) → (if b then Some v else None) ≡ None → b ≡ false
first_none true v q = none-some q refl
first_none false v q = refl

pub not_named : {B : Type 0} (xs : List (Key × B)) (x : Key × B) (k : Key) → lookup key_eq (xs ++ x ∷ []) k ≡ None → (lookup key_eq xs k ≡ None) × (key_eq x.0 k ≡ false)
not_named [] x k h = (refl, first_none (key_eq x.0 k) x.1 h)
not_named (y ∷ ys) x k h = go (key_eq y.0 k) h (λ q. not_named ys x k q)
  where
    go : (b : Bool) → (if b then Some y.1 else lookup key_eq (ys ++ x ∷ []) k) ≡ None → (lookup key_eq (ys ++ x ∷ []) k ≡ None → (lookup key_eq ys k ≡ None) × (key_eq x.0 k ≡ false)) → ((if b then Some y.1 else lookup key_eq ys k) ≡ None) × (key_eq x.0 k ≡ false)
    go true q f = none-some q refl
    go false q f = f q

-- ---- a key that is decided

module _ (es : List Entrant) (n : ℕ) (o : program.Outcome) (l : n < length es) (d : AreDistinct (keys_in es)) where
  abbrev new : List Entrant
  new = decided_at es n o

  pub decided_asks : (k : Key) → ask_of (rows_of (decided_at es n o)) k ≡ (if key_eq (key_named es n) k then Some (plain o) else ask_of (rows_of es) k)
  decided_asks k = ask_set es n (record (slice_index_or es n nobody) { outcome = Some o; own = None }) k l (number_itself es n d l) refl

  name_same : (m : ℕ) → key_named (decided_at es n o) m ≡ key_named es m
  name_same m =
      elim (eqb_tells m n) [
        | inl p ↦ subst (λ x. key_named (decided_at es n o) x ≡ key_named es x) (sym p.1) (ap (λ (e : Entrant). e.key) (get_or-set_same es n (record (slice_index_or es n nobody) { outcome = Some o; own = None }) nobody l))
        | inr p ↦ ap (λ (e : Entrant). e.key) (get_or-set_other es n m (record (slice_index_or es n nobody) { outcome = Some o; own = None }) nobody p.1)
      ]

  -- all that names keys by their numbers names the same keys
  pub names : key_named (decided_at es n o) ≡ key_named es
  names = λ i m. name_same m i

  pub outcome_same : (m : ℕ) → m ≢ n → (slice_index_or (decided_at es n o) m nobody).outcome ≡ (slice_index_or es m nobody).outcome
  outcome_same m p = ap (λ (e : Entrant). e.outcome) (get_or-set_other es n m (record (slice_index_or es n nobody) { outcome = Some o; own = None }) nobody p)

  pub outcome_here : (slice_index_or (decided_at es n o) n nobody).outcome ≡ Some o
  outcome_here = ap (λ (e : Entrant). e.outcome) (get_or-set_same es n (record (slice_index_or es n nobody) { outcome = Some o; own = None }) nobody l)

  pub keys_same : keys_in (decided_at es n o) ≡ keys_in es
  keys_same = map-set_same key_of_entrant es n (record (slice_index_or es n nobody) { outcome = Some o; own = None }) nobody refl

  -- what the numbers that have no such key say of their keys
  pub named_same : {B : Type 0} (f g : ℕ → Key × B) (ms : List ℕ) → ((m : ℕ) → (f m).0 ≡ key_named es m) → ((m : ℕ) → m ≢ n → g m ≡ f m) → lookup key_eq (reverse (map f ms)) (key_named es n) ≡ None → map g ms ≡ map f ms
  named_same f g [] p q h = refl
  named_same f g (m ∷ ms) p q h =
      let r : lookup key_eq (reverse (map f ms) ++ f m ∷ []) (key_named es n) ≡ None = ap (λ xs. lookup key_eq xs (key_named es n)) (sym (reverse-cons f m ms)) ∙ h in
      let parts = not_named (reverse (map f ms)) (f m) (key_named es n) r in
      ap (λ x. x ∷ map g ms) (q m (λ e. true_false (subst (λ k. key_eq k (key_named es n) ≡ true) (sym (p m ∙ ap (key_named es) e)) (key_eq-itself (key_named es n))) parts.1))
      ∙ ap (λ xs. f m ∷ xs) (named_same f g ms p q parts.0)

  -- ---- what is known of the keys

  numbers_by : (xs ys : List Entrant) → keys_in xs ≡ keys_in ys → (k : Key) → number_of (rows_of xs) k ≡ number_of (rows_of ys) k
  numbers_by xs ys p k = sym (placed xs k) ∙ ap (λ ks. place ks k) p ∙ placed ys k

  pub numbers : (k : Key) → number_of (rows_of (decided_at es n o)) k ≡ number_of (rows_of es) k
  numbers k = numbers_by (decided_at es n o) es keys_same k

  count : length (rows_of (decided_at es n o)) ≡ length (rows_of es)
  count = length-map (decided_at es n o) row_of_entrant ∙ length-set es n (record (slice_index_or es n nobody) { outcome = Some o; own = None }) ∙ sym (length-map es row_of_entrant)

  begins_same : (parent : Option Loc) (ks : List Key) (ds : List Edge) → Begins parent (rows_of es) ks ds → Begins parent (rows_of (decided_at es n o)) ks ds
  begins_same parent [] ds b = tt
  begins_same parent (k ∷ ks) [] b = absurd b
  begins_same parent (k ∷ ks) (e ∷ ds) b = (record { numbered = numbers k ∙ (b.0).numbered; sane_is = (b.0).sane_is }, begins_same parent ks ds b.1)

  pub fits_same : (parent : Option Loc) (e : Term) (ds : List Edge) → Fits parent (rows_of es) e ds → Fits parent (rows_of (decided_at es n o)) e ds
  fits_same parent e ds f = record {
    inside = subst (λ m. All (λ (d : Edge). d.key < m) ds) (sym count) f.inside;
    begins = begins_same parent (keys_of parent e) ds f.begins;
  }

  pub read_same : (t : Text) → IsRead (rows_of es) t → IsRead (rows_of (decided_at es n o)) t
  read_same t r = go t.read r
    where
      go : (x : Option (Result Scan ParseFault)) → IsScan (rows_of es) t.loc x → IsScan (rows_of (decided_at es n o)) t.loc x
      go None h = tt
      go (Some (Ok s)) h = fits_same (Some t.loc) (term s.expr) s.edges h
      go (Some (Err f)) h = tt

  pub listed_same : (e : Entrant) → IsListed (rows_of es) e → IsListed (rows_of (decided_at es n o)) e
  listed_same e i = record { text_is = i.text_is; bare_is = numbers (bare e.key) ∙ i.bare_is }

-- ---- a key without an outcome

pub outcome_stands : (es : List Entrant) (n : ℕ) → n < length es → outcome_at (rows_of es) n ≡ Some (slice_index_or es n nobody).outcome
outcome_stands [] n l = absurd (omega arith)
outcome_stands (e ∷ es) zero l = refl
outcome_stands (e ∷ es) (suc n) l = outcome_stands es n (omega arith)

none_plain : (o : Option program.Outcome) → option_map plain o ≡ None → o ≡ None
none_plain None h = refl
none_plain (Some o) h = none-some h refl

pub undecided_at : (es : List Entrant) (n : ℕ) → n < length es → AreDistinct (keys_in es) → ask_of (rows_of es) (key_named es n) ≡ None → (slice_index_or es n nobody).outcome ≡ None
undecided_at es n l d h =
    let s = stands (rows_of es) (key_named es n) n (number_itself es n d l) in
    some-equal (sym (outcome_stands es n l) ∙ s.outcome_is) ∙ none_plain s.outcome (sym s.asked ∙ h)

-- as many keys as before
pub decided_length : (es : List Entrant) (n : ℕ) (o : program.Outcome) (es' : List Entrant) → es' ≡ decided_at es n o → length es' ≡ length es
decided_length es n o es' p = ap length p ∙ length-set es n (record (slice_index_or es n nobody) { outcome = Some o; own = None })
