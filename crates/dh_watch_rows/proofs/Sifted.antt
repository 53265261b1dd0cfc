-- What is kept before and after the pass over outcomes.
use Rattle.std.specs.Prelude.{◌≡◌, ◌⊎◌, ◌<◌, ◌≤◌, ◌^◌, ℕ, true, false, is_some, List, [], length, map, reverse, filter, All, Some, slice_index_or, refl}
use Rattle.std.proofs.Common.{ap, sym, ◌∙◌, subst, inl, inr}
use Rattle.std.proofs.lemmas.List.Elements.{All-nil, All-filter, All-weaker}
use Rattle.dh_syntax.specs.declared.locations.Loc.{Loc}
use Rattle.dh_syntax.specs.Expressions.SameTree.{loc_eq}
use Rattle.dh_syntax.proofs.SameTree.{locs_tell}
use Rattle.dh_imports.specs.Records.{Noted, text_at}
use Rattle.dh_laws.proofs.KeyOrder.{bool-case, none-some}
use Rattle.dh_demand.specs.Results.{ask_of}
use Rattle.dh_record.specs.declared.rows.recorded.Entrant.{Entrant}
use Rattle.dh_record.specs.declared.rows.recorded.Look.{Look}
use Rattle.dh_record.specs.declared.rows.recorded.Text.{Text}
use Rattle.dh_record.specs.Entering.{AreDistinct, keys_in}
use Rattle.dh_record.specs.Reading.{record_by}
use Rattle.dh_record.specs.Rows.{key_named, look_of, nobody, outcome_of_number, rows_of, text_of}
use Rattle.dh_record.proofs.Decided.{number_itself, outcome_stands}
use Rattle.dh_record.proofs.Reading.{asked_number, plan_limits}
use Rattle.dh_watch_laws.specs.Kept.{Found, IsSound, Kept, known}
use Rattle.dh_watch_laws.specs.Sweeping.{left, left_in_place, swept, with_texts}
use Rattle.dh_watch_laws.proofs.InPlace.{swept_in_place}
use Rattle.dh_watch_laws.proofs.Sweeping.{swept_holds}
use Rattle.dh_watch_rows.specs.Inside.Sifting.{Sifting, has_outcome}
use Rattle.dh_watch_rows.specs.KeptRows.{AreGood, AreNamed, kept_by}
use Rattle.dh_watch_rows.specs.Leaving.{IsLeft, swept_now}
use Rattle.dh_watch_rows.specs.Removing.{Forgets}
use Rattle.dh_watch_rows.proofs.Sifting.{before-nothing, limits-sifted, same-pass}
use Rattle.dh_watch_rows.proofs.Standing.{some_mapped}
use Rattle.dh_watch_rows.proofs.Undecided.{same-count, same-names}

-- ---- texts that are gone

pub left-sound : (s : Kept) → IsSound s → IsLeft s
left-sound s h = record { whole = s; sound = h; texts = λ l t e. e; looks = refl; limits = refl; outcomes = refl }

pub left-forgets : (s s' : Kept) (l : Loc) → Forgets s l s' → IsLeft s → IsLeft s'
left-forgets s s' l f h = record {
  whole = h.whole;
  sound = h.sound;
  texts = λ x t e. each x t e (bool-case (loc_eq l x));
  looks = f.looks ∙ h.looks;
  limits = f.limits ∙ h.limits;
  outcomes = f.outcomes ∙ h.outcomes;
}
  where
    each : (x : Loc) (t : Noted) → text_at s'.recorded x ≡ Some t → (loc_eq l x ≡ true) ⊎ (loc_eq l x ≡ false) → text_at h.whole.recorded x ≡ Some t
    each x t e (inl y) = none-some f.gone (subst (λ z. text_at s'.recorded z ≡ Some t) (sym (locs_tell.equal l x y)) e)
    each x t e (inr n) = h.texts x t (sym (f.others x n) ∙ e)

-- with the texts that are left, what was whole is what is kept
whole-record : (s : Kept) (h : IsLeft s) → with_texts h.whole.recorded s.recorded.texts ≡ s.recorded
whole-record s h = λ i. record { texts = s.recorded.texts; looks = sym h.looks i; limits = sym h.limits i }

whole-kept : (s : Kept) (h : IsLeft s) → swept s.recorded.texts h.whole ≡ swept_now s
whole-kept s h = λ i. swept s.recorded.texts (record { recorded = record { texts = h.whole.recorded.texts; looks = sym h.looks i; limits = sym h.limits i }; outcomes = sym h.outcomes i })

pub swept-sound : (s : Kept) → IsLeft s → IsSound (swept_now s)
swept-sound s h = subst IsSound (whole-kept s h) (swept_holds h.whole s.recorded.texts h.sound h.texts).0

-- ---- the pass

module _ (keys : List Entrant) (texts : List Text) (looks' : List Look) (to lo found limited : List ℕ) (g : AreGood keys texts looks' to lo found limited)
    (h : IsLeft (kept_by keys texts looks' found limited)) where
  pub sifting-begins : Sifting (record_by texts looks') texts keys found keys [] found
  sifting-begins = record {
    same_keys = refl;
    listed = g.listed;
    read = g.read;
    valued = g.valued;
    outcomes = λ n. inr refl;
    kept_named = All-nil (λ (n : ℕ). n < length keys);
    rest_named = g.decided_named;
    kept_same = refl;
    by = h.whole.recorded;
    older = [];
    found = subst (Found h.whole.recorded) (sym h.outcomes ∙ sym (before-nothing (map (outcome_of_number keys) found))) h.sound.found;
    knows = λ k o e. e;
    asks = ap known (before-nothing (map (outcome_of_number keys) found)) ∙ g.asks;
    goes = refl;
  }

  left-whole : left_in_place (kept_by keys texts looks' found limited).recorded [] (map (outcome_of_number keys) found)
      ≡ left (kept_by keys texts looks' found limited).recorded (reverse (map (outcome_of_number keys) found))
  left-whole =
      (λ i. left_in_place (sym (whole-record (kept_by keys texts looks' found limited) h) i) [] (map (outcome_of_number keys) found))
      ∙ swept_in_place h.whole (reverse (map text_of texts)) (map (outcome_of_number keys) found) h.sound h.texts
      (sym h.outcomes ∙ sym (before-nothing (map (outcome_of_number keys) found)))
      ∙ (λ i. left (whole-record (kept_by keys texts looks' found limited) h i) (sym h.outcomes i))

  module _ (keys' : List Entrant) (kept : List ℕ) (s : Sifting (record_by texts looks') texts keys found keys' kept []) where
    as_many : length keys' ≡ length keys
    as_many = same-count keys' keys s.same_keys

    named : (ns : List ℕ) → AreNamed keys ns → AreNamed keys' ns
    named ns a = subst (λ m. All (λ (n : ℕ). n < m) ns) (sym as_many) a

    apart : AreDistinct (keys_in keys')
    apart = subst AreDistinct (sym s.same_keys) g.distinct

    asks-sifted : known (reverse (map (outcome_of_number keys') kept)) ≡ ask_of (rows_of keys')
    asks-sifted = ap (λ z. known (reverse z)) s.kept_same ∙ s.asks

    pub sifted-good : AreGood keys' texts looks' to lo kept (filter (has_outcome keys') limited)
    sifted-good = record {
      few = subst (λ m. m ≤ 2 ^ 32) (sym as_many) g.few;
      distinct = apart;
      listed = s.listed;
      read = s.read;
      valued = s.valued;
      parsed = g.parsed;
      misses = g.misses;
      decided_named = named kept s.kept_named;
      limited_named = named (filter (has_outcome keys') limited) (All-filter (has_outcome keys') (λ (n : ℕ). n < length keys) limited g.limited_named);
      asks = asks-sifted;
      texts_in_order = g.texts_in_order;
      looks_in_order = g.looks_in_order;
    }

    outcomes-sifted : reverse (map (outcome_of_number keys') kept) ≡ left (kept_by keys texts looks' found limited).recorded (reverse (map (outcome_of_number keys) found))
    outcomes-sifted =
        ap reverse s.kept_same ∙ s.goes
        ∙ same-pass (record_by texts looks') (kept_by keys texts looks' found limited).recorded (λ k. sym (plan_limits (kept_by keys texts looks' found limited).recorded k)) []
        (map (outcome_of_number keys) found)
        ∙ left-whole

    -- a key that is decided is one of those that are left
    known-sifted : (n : ℕ) → n < length keys
        → has_outcome keys' n ≡ is_some (known (left (kept_by keys texts looks' found limited).recorded (reverse (map (outcome_of_number keys) found))) (key_named keys n))
    known-sifted n l =
        let inside : n < length keys' = subst (λ m. n < m) (sym as_many) l in
        sym (some_mapped (slice_index_or keys' n nobody).outcome)
        ∙ ap is_some (asked_number (rows_of keys') (key_named keys' n) n (slice_index_or keys' n nobody).outcome (number_itself keys' n apart inside) (outcome_stands keys' n inside))
        ∙ (λ i. is_some (sym asks-sifted i (same-names keys' keys s.same_keys n i))) ∙ (λ i. is_some (known (outcomes-sifted i) (key_named keys n)))

    pub sifted-kept : kept_by keys' texts looks' kept (filter (has_outcome keys') limited) ≡ swept_now (kept_by keys texts looks' found limited)
    sifted-kept =
        let limits =
        limits-sifted (known (left (kept_by keys texts looks' found limited).recorded (reverse (map (outcome_of_number keys) found)))) keys keys' (same-names keys' keys s.same_keys) s.outcomes limited
        (All-weaker (λ (n : ℕ). n < length keys)
        (λ (n : ℕ). has_outcome keys' n ≡ is_some (known (left (kept_by keys texts looks' found limited).recorded (reverse (map (outcome_of_number keys) found))) (key_named keys n)))
        known-sifted limited g.limited_named) in
        λ i. record { recorded = record { texts = reverse (map text_of texts); looks = reverse (map look_of looks'); limits = limits i }; outcomes = outcomes-sifted i }
