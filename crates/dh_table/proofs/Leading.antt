-- A key that asks another puts it on a pile.
use Rattle.std.specs.Prelude.{◌≡◌, ◌⊎◌, ℕ, if◌then◌else◌, List, ◌∷◌, Some, None, is_none, refl, []}
use Rattle.std.proofs.Common.{ap, sym, ◌∙◌, subst, inl, inr}
use Rattle.dh_syntax.specs.declared.locations.Key.{Key}
use Rattle.dh_imports.specs.declared.outcomes.Outcome as program
use Rattle.dh_imports.specs.Machine.{IsAmong, leads_by}
use Rattle.dh_imports.specs.Outcomes.{Outcome}
use Rattle.dh_imports.specs.Resolver.{Plan, TextOf, LookOf, Unknown, Now, Walks, Asks}
use Rattle.dh_laws.proofs.KeyOrder.{some-equal}
use Rattle.dh_demand.specs.Results.{Row, number_of, outcome_at, ask_of}
use Rattle.dh_record.specs.declared.stage.plans.Plan.TheVariants as plans
use Rattle.dh_table.specs.Inside.Piling.{number_at}
use Rattle.dh_record.specs.Reading.{IsPlan}
use Rattle.dh_table.specs.Inside.Searching.{ArePut}
use Rattle.dh_record.proofs.Reaching.{asked-outcome}

module _ (rows : List Row) (k : Key) where
  -- the keys to which it leads are put on a pile
  pub ask_put : (p : Plan) (n : ℕ) (old new : List ℕ) → outcome_at rows n ≡ Some None → IsPlan rows k p (plans.Ask n)
      → ((x : ℕ) → (number_at new x ≡ number_at old x) ⊎ ((number_at old x ≡ 0) × (number_at new x ≡ 2) × (x ≡ n))) → ¬ (number_at new n ≡ 0) → ArePut rows (leads_by (ask_of rows) k p) old new
  ask_put (Unknown (TextOf l)) n old new q h put on = absurd h
  ask_put (Unknown (LookOf d)) n old new q h put on = absurd h
  ask_put (Now i) n old new q h put on = absurd h
  ask_put (Walks e allow) n old new q h put on = absurd h
  ask_put (Asks j) n old new q h put on =
      subst (λ o. ArePut rows (if is_none o then j ∷ [] else []) old new) (sym (asked-outcome rows k j n None h q))
      (record {
        each = λ x w. subst (λ y. ¬ (number_at new y ≡ 0)) (some-equal (sym h ∙ ap (number_of rows) (only_one w.1) ∙ w.2)) on;
        only =
            λ x.
            elim (put x) [
              | inl same ↦ inl same
              | inr (was, two, own) ↦ inr (was, two, (j, inl refl, h ∙ ap (λ y. Some y) (sym own)))
            ];
      })
    where
      only_one : {y : Key} → IsAmong y (j ∷ []) → j ≡ y
      only_one (inl e) = e
      only_one (inr b) = absurd b

  no_put : (old : List ℕ) → ArePut rows [] old old
  no_put old = record { each = λ x w z. w.1; only = λ x. inl refl }

  pub ask_put_none : (p : Plan) (n : ℕ) (old : List ℕ) (o : program.Outcome) → outcome_at rows n ≡ Some (Some o) → IsPlan rows k p (plans.Ask n) → ArePut rows (leads_by (ask_of rows) k p) old old
  ask_put_none (Unknown (TextOf l)) n old o q h = absurd h
  ask_put_none (Unknown (LookOf d)) n old o q h = absurd h
  ask_put_none (Now i) n old o q h = absurd h
  ask_put_none (Walks e allow) n old o q h = absurd h
  ask_put_none (Asks j) n old o q h = subst (λ x. ArePut rows (if is_none x then j ∷ [] else []) old old) (sym (asked-outcome rows k j n (Some o) h q)) (no_put old)
