-- What is kept grows by a look, by a text, and by keys.
use Rattle.std.specs.Prelude.{◌≡◌, ◌≤◌, ◌^◌, ◌++◌, ◌⊎◌, ℕ, true, false, if◌then◌else◌, List, [], ◌∷◌, length, map, reverse, All, Some, refl}
use Rattle.std.proofs.Common.{ap, sym, ◌∙◌, subst, inl, inr}
use Rattle.std.proofs.lemmas.List.Elements.{All-append}
use Rattle.dh_syntax.specs.declared.locations.Digest.{Digest}
use Rattle.dh_syntax.specs.declared.locations.Key.{Key}
use Rattle.dh_syntax.specs.declared.locations.Loc.{Loc}
use Rattle.dh_syntax.specs.Expressions.SameTree.{digest_eq, loc_eq}
use Rattle.dh_imports.specs.Records as found
use Rattle.dh_imports.specs.Records.{IsParsed, Noted, Seen, lookup}
use Rattle.dh_laws.proofs.KeyOrder.{bool-case, some-equal}
use Rattle.dh_record.specs.declared.rows.recorded.Entrant.{Entrant}
use Rattle.dh_record.specs.declared.rows.recorded.Look.{Look}
use Rattle.dh_record.specs.declared.rows.recorded.Text.{Text}
use Rattle.dh_record.specs.Entering.{AreDistinct, AreMore, IsListed, keys_in, entered_all}
use Rattle.dh_record.specs.Reading.{IsRead, noted_of}
use Rattle.dh_record.specs.Rows.{rows_of, text_of, look_of, limit_of, seen_by}
use Rattle.dh_record.specs.Sorting.{IsOrder, rank_of_look, rank_of_text}
use Rattle.dh_record.proofs.Distinct.{distinct_entered}
use Rattle.dh_record.proofs.Latest.{latest}
use Rattle.dh_record.proofs.NewKeys.{all_listed_grown}
use Rattle.dh_watch_laws.specs.Kept.{keep_look, keep_text, known}
use Rattle.dh_watch_rows.specs.KeptRows.{AreGood, kept_by}
use Rattle.dh_watch_rows.proofs.Growing.{numbers_more, outcomes_more, limits_more, asks_more, reads_more, valued_more, all-push}

module _ (keys : List Entrant) (texts : List Text) (looks' : List Look) (to lo decided limited : List ℕ) (g : AreGood keys texts looks' to lo decided limited) where
  -- ---- a look

  module _ (l : Look) (lo' : List ℕ) (order : IsOrder (map rank_of_look (looks' ++ l ∷ [])) lo') (miss : seen_by l.look ≡ found.Miss) where
    pub look-good : AreGood keys texts (looks' ++ l ∷ []) to lo' decided limited
    look-good = record {
      few = g.few;
      distinct = g.distinct;
      listed = g.listed;
      read = g.read;
      valued = g.valued;
      parsed = g.parsed;
      misses = λ d s e. go d s (bool-case (digest_eq l.digest d)) (ap (λ ls. lookup digest_eq ls d) (sym (latest look_of looks' l)) ∙ e);
      decided_named = g.decided_named;
      limited_named = g.limited_named;
      asks = g.asks;
      texts_in_order = g.texts_in_order;
      looks_in_order = order;
    }
      where
        go : (d : Digest) (s : Seen) → (digest_eq l.digest d ≡ true) ⊎ (digest_eq l.digest d ≡ false)
            → (if digest_eq l.digest d then Some (seen_by l.look) else lookup digest_eq (reverse (map look_of looks')) d) ≡ Some s → s ≡ found.Miss
        go d s (inl t) e = some-equal (sym e ∙ ap (λ b. if b then Some (seen_by l.look) else lookup digest_eq (reverse (map look_of looks')) d) t) ∙ miss
        go d s (inr f) e = g.misses d s (sym (ap (λ b. if b then Some (seen_by l.look) else lookup digest_eq (reverse (map look_of looks')) d) f) ∙ e)

    pub look-kept : kept_by keys texts (looks' ++ l ∷ []) decided limited ≡ keep_look (kept_by keys texts looks' decided limited) l.digest found.Miss
    look-kept = λ i. record (kept_by keys texts looks' decided limited) {
      recorded = record { texts = reverse (map text_of texts); looks = (latest look_of looks' l ∙ ap (λ s. (l.digest, s) ∷ reverse (map look_of looks')) miss) i; limits = reverse (map (limit_of keys) limited) };
    }

  -- ---- keys

  module _ (keys' : List Entrant) (ks : List Key) (m : AreMore keys (entered_all (keys_in keys) ks) keys') (few : length keys' ≤ 2 ^ 32) where
    listed-more : All (IsListed (rows_of keys')) keys'
    listed-more =
        subst (λ xs. All (IsListed (rows_of xs)) xs) (sym m.new_is)
        (All-append (IsListed (rows_of (keys ++ m.more))) keys m.more (all_listed_grown keys m.more keys g.listed) (subst (λ xs. All (IsListed (rows_of xs)) m.more) m.new_is m.listed))

    pub keys-good : AreGood keys' texts looks' to lo decided limited
    keys-good = record {
      few = few;
      distinct = subst AreDistinct (sym m.keys_are) (distinct_entered (keys_in keys) ks g.distinct);
      listed = listed-more;
      read = reads_more keys keys' (entered_all (keys_in keys) ks) m texts g.read;
      valued = valued_more keys keys' (entered_all (keys_in keys) ks) m g.valued;
      parsed = g.parsed;
      misses = g.misses;
      decided_named = numbers_more keys keys' (entered_all (keys_in keys) ks) m decided g.decided_named;
      limited_named = numbers_more keys keys' (entered_all (keys_in keys) ks) m limited g.limited_named;
      asks =
          ap (λ ps. known (reverse ps)) (outcomes_more keys keys' (entered_all (keys_in keys) ks) m decided g.decided_named)
          ∙ g.asks ∙ sym (asks_more keys keys' (entered_all (keys_in keys) ks) m);
      texts_in_order = g.texts_in_order;
      looks_in_order = g.looks_in_order;
    }

    pub keys-kept : kept_by keys' texts looks' decided limited ≡ kept_by keys texts looks' decided limited
    keys-kept = λ i. record {
      recorded = record {
        texts = reverse (map text_of texts);
        looks = reverse (map look_of looks');
        limits = reverse (limits_more keys keys' (entered_all (keys_in keys) ks) m limited g.limited_named i);
      };
      outcomes = reverse (outcomes_more keys keys' (entered_all (keys_in keys) ks) m decided g.decided_named i);
    }

  -- ---- a text

  module _ (t : Text) (to' : List ℕ) (order : IsOrder (map rank_of_text (texts ++ t ∷ [])) to') (read : IsRead (rows_of keys) t) (parsed : IsParsed (noted_of t)) where
    pub text-good : AreGood keys (texts ++ t ∷ []) looks' to' lo decided limited
    text-good = record {
      few = g.few;
      distinct = g.distinct;
      listed = g.listed;
      read = all-push (IsRead (rows_of keys)) texts (texts ++ t ∷ []) t refl g.read read;
      valued = g.valued;
      parsed = λ l x e. go l x (bool-case (loc_eq t.loc l)) (ap (λ ts. lookup loc_eq ts l) (sym (latest text_of texts t)) ∙ e);
      misses = g.misses;
      decided_named = g.decided_named;
      limited_named = g.limited_named;
      asks = g.asks;
      texts_in_order = order;
      looks_in_order = g.looks_in_order;
    }
      where
        go : (l : Loc) (x : Noted) → (loc_eq t.loc l ≡ true) ⊎ (loc_eq t.loc l ≡ false)
            → (if loc_eq t.loc l then Some (noted_of t) else lookup loc_eq (reverse (map text_of texts)) l) ≡ Some x → IsParsed x
        go l x (inl y) e = subst IsParsed (some-equal (sym (ap (λ b. if b then Some (noted_of t) else lookup loc_eq (reverse (map text_of texts)) l) y) ∙ e)) parsed
        go l x (inr f) e = g.parsed l x (sym (ap (λ b. if b then Some (noted_of t) else lookup loc_eq (reverse (map text_of texts)) l) f) ∙ e)

    pub text-kept : kept_by keys (texts ++ t ∷ []) looks' decided limited ≡ keep_text (kept_by keys texts looks' decided limited) t.loc (noted_of t)
    text-kept = λ i. record (kept_by keys texts looks' decided limited) {
      recorded = record { texts = latest text_of texts t i; looks = reverse (map look_of looks'); limits = reverse (map (limit_of keys) limited) };
    }
