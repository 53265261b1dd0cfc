-- Values of outcomes and looks of frozen keys, as a table goes on.
use Rattle.std.specs.Prelude.{◌≡◌, ◌<◌, ◌++◌, ◌∷◌, [], ℕ, List, Bool, length, filter, All, Some, None, IfSome, IsSome, slice_index_or}
use Rattle.std.proofs.Common.{sym, subst}
use Rattle.std.proofs.lemmas.List.{get_or_append_left}
use Rattle.std.proofs.lemmas.List.Elements.{All-nil, All-append, All-filter, All-set, All-weaker}
use Rattle.dh_syntax.specs.declared.locations.Key.{Key}
use Rattle.dh_imports.specs.declared.outcomes.Outcome as program
use Rattle.dh_table.specs.declared.steps.Flight.{Flight}
use Rattle.dh_record.specs.declared.rows.recorded.Entrant.{Entrant}
use Rattle.dh_record.specs.Due.{IsValued}
use Rattle.dh_record.specs.Entering.{AreDistinct, AreMore, IsNew, decided_at, keys_in}
use Rattle.dh_table.specs.States.{IsFrozenLook}
use Rattle.dh_record.specs.Rows.{nobody}
use Rattle.dh_table.specs.Tables.{AreFit}
use Rattle.dh_record.specs.Values.{HasValue}
use Rattle.dh_record.proofs.Decided.{names}
use Rattle.dh_table.proofs.Stepping.{all-push}

pub fit_drawn : (es : List Entrant) (fs fs' : List Flight) (f : Flight) → fs' ≡ fs ++ f ∷ [] → IsFrozenLook es f.job → AreFit es fs → AreFit es fs'
fit_drawn es fs fs' f p h a = record { values = a.values; looks = all-push (λ (x : Flight). IsFrozenLook es x.job) fs fs' f p a.looks h }

pub fit_filtered : (es : List Entrant) (test : Flight → Bool) (fs fs' : List Flight) → fs' ≡ filter test fs → AreFit es fs → AreFit es fs'
fit_filtered es test fs fs' p a = subst (AreFit es) (sym p) (record { values = a.values; looks = All-filter test (λ (x : Flight). IsFrozenLook es x.job) fs a.looks })

pub new_values : (es : List Entrant) → All IsNew es → All IsValued es
new_values es h = All-weaker IsNew IsValued (λ e n. subst (λ o. IfSome o HasValue) (sym n.undecided) tt) es h

pub fit_opened : (es : List Entrant) → All IsNew es → AreFit es []
fit_opened es h = record { values = new_values es h; looks = All-nil (λ (x : Flight). IsFrozenLook es x.job) }

frozen_more : (es more : List Entrant) (f : Flight) → f.job.key < length es → IsFrozenLook es f.job → IsFrozenLook (es ++ more) f.job
frozen_more es more f l h p = subst (λ (e : Entrant). IsSome e.key.digest) (sym (get_or_append_left es more nobody f.job.key l)) (h p)

both : (P Q : Flight → Type 0) (fs : List Flight) → All P fs → All Q fs → All (λ (f : Flight). P f × Q f) fs
both P Q fs p q k d l = (p k d l, q k d l)

-- keys that are added have no outcomes yet
pub fit_more : (es : List Entrant) (ks : List Key) (es' : List Entrant) → AreMore es ks es' → (fs : List Flight) → All (λ (f : Flight). f.job.key < length es) fs → AreFit es fs → AreFit es' fs
fit_more es ks es' m fs named a =
    subst (λ xs. AreFit xs fs) (sym m.new_is)
    (record {
      values = All-append IsValued es m.more a.values (new_values m.more m.are_new);
      looks =
          All-weaker (λ (f : Flight). (f.job.key < length es) × IsFrozenLook es f.job) (λ (f : Flight). IsFrozenLook (es ++ m.more) f.job) (λ f h. frozen_more es m.more f h.0 h.1) fs
          (both (λ (f : Flight). f.job.key < length es) (λ (f : Flight). IsFrozenLook es f.job) fs named a.looks);
    })

-- a key gets an outcome that has a value
pub fit_decided : (es : List Entrant) (n : ℕ) (o : program.Outcome) (fs : List Flight) → n < length es → AreDistinct (keys_in es) → HasValue o → AreFit es fs → AreFit (decided_at es n o) fs
fit_decided es n o fs l d h a = record {
  values = All-set IsValued es n (record (slice_index_or es n nobody) { outcome = Some o; own = None }) h a.values;
  looks =
      All-weaker (λ (f : Flight). IsFrozenLook es f.job) (λ (f : Flight). IsFrozenLook (decided_at es n o) f.job)
      (λ f k p. subst (λ (j : Key). IsSome j.digest) (λ i. sym (names es n o l d) i f.job.key) (k p)) fs a.looks;
}
